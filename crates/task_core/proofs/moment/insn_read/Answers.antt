use Rattle.std.proofs.Common.{sym, ◌∙◌}
use Rattle.word_map.specs.Instructions.{insn_numbered}
use Rattle.task_core.proofs.Fetched.{fetched-bytes, numbered-insn}
use Rattle.task_core.proofs.moment.insn_read.Goals as goal

-- the instruction of the two loads has the bytes that were decoded
pub unreachable-requires : goal.unreachable-requires
unreachable-requires c =
    let f = c.requires.fetched in
    c.in-None.ensures.none (insn_numbered f.0) (numbered-insn f.0 f.1)
    (fetched-bytes c.args.func.0 f.0 c.args.head c.args.tail f.2 f.3 ∙ sym c.join.ensures)
