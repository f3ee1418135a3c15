use Rattle.std.proofs.Common.{◌≡◌, ◌++◌, List, [], map, sym, ap, ◌∙◌, append-nil, arith}
use Rattle.std.proofs.lemmas.Grind.{common_steps}
use Rattle.std.specs.Vec.Iter.{into_iter_items}
use Rattle.ft_desk.specs.declared.command.Command.{Command}
use Rattle.ft_desk.specs.declared.command.Ctl.TheVariants.{Run}
use Rattle.ft_desk.specs.Lines.{lines_of}
use Rattle.ft_script.proofs.Added.{lines-runs}
use Rattle.ft_script.proofs.expansion.push_runs.Goals as goal

pub returns : goal.returns
returns c tasks =
    let none : into_iter_items c.loop-command.command-iterator ≡ [] = grind (arith, common_steps) in
    let all : c.loop-command.yielded ≡ c.args.commands.items =
    sym (append-nil c.loop-command.yielded) ∙ ap (λ (cs : List Command). c.loop-command.yielded ++ cs) (sym none) ∙ c.loop-command.invariant.rest in
    ap (lines_of tasks) (c.loop-command.invariant.have ∙ ap (λ (cs : List Command). c.args.ctls.now.items ++ map Run cs) all)
    ∙ lines-runs tasks c.args.ctls.now.items c.args.commands.items
