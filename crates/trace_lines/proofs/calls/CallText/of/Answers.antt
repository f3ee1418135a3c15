use Rattle.std.proofs.Common.{ℕ, ◌≤◌, ◌-◌, ◌++◌, ◌∷◌, length, take, append-nil, ap, ap₂, ◌∙◌, arith, length-set}
use Rattle.std.specs.Fmt.{decimal}
use Rattle.trace_lines.proofs.CallBytes.{digits-few, call-copied}
use Rattle.trace_lines.proofs.calls.CallText.of.Goals as goal

pub write_digits-dot-requires : goal.write_digits-dot-requires
write_digits-dot-requires c =
    let few : length (decimal c.from.result) ≤ 8 = digits-few 8 c.args.n c.from.result c.from.ensures (omega arith) c.requires.1 (omega (arith, c.requires.1)) in
    (omega (arith, few), omega arith)

pub overflow_sub-dot : goal.overflow_sub-dot
overflow_sub-dot c =
    let few : length (decimal c.from.result) ≤ 8 = digits-few 8 c.args.n c.from.result c.from.ensures (omega arith) c.requires.1 (omega (arith, c.requires.1)) in
    omega (arith, few, c.write_digits-dot.ensures.start)

pub write_digits-start-requires : goal.write_digits-start-requires
write_digits-start-requires c =
    let few : length (decimal c.from.result) ≤ 8 = digits-few 8 c.args.n c.from.result c.from.ensures (omega arith) c.requires.1 (omega (arith, c.requires.1)) in
    let fewer : length (decimal c.from-2.result) ≤ 7 = digits-few 7 c.args.pid c.from-2.result c.from-2.ensures (omega arith) c.requires.0 (omega (arith, c.requires.0)) in
    (omega (arith, few, fewer, c.write_digits-dot.ensures.start), omega (arith, c.write_digits-dot.ensures.start, length-set c.write_digits-dot.new.buf (c.write_digits-dot.result - 1) 46, c.write_digits-dot.auto.buf))

pub returns-clause-text : goal.returns-clause-text
returns-clause-text c =
    let few : length (decimal c.from.result) ≤ 8 = digits-few 8 c.args.n c.from.result c.from.ensures (omega arith) c.requires.1 (omega (arith, c.requires.1)) in (
      omega arith,
      ap (take (16 - c.write_digits-start.result)) c.copy_within.ensures.after
          ∙ call-copied c.from-2.result c.from.result c.write_digits-dot.result c.write_digits-start.result c.write_digits-dot.new.buf c.write_digits-start.new.buf c.write_digits-dot.auto.buf
          (omega (arith, few, c.write_digits-dot.ensures.start)) c.write_digits-dot.ensures.start (c.write_digits-dot.ensures.written ∙ append-nil (decimal c.from.result)) c.write_digits-start.ensures.start c.write_digits-start.ensures.written
          ∙ ap₂ (λ (pid n : ℕ). decimal pid ++ 46 ∷ decimal n) c.from-2.ensures c.from.ensures,
    )
