use Rattle.std.proofs.Common.{◌≡◌, length, subst, sym, rules, arith}
use Rattle.ft_base.specs.Marks.{empty}
use Rattle.module_table.specs.Lines.{hidden}
use Rattle.module_table.proofs.HiddenLaws.{IsUpTo, up_to-empty, up_to-end, length-hidden}
use Rattle.module_table.proofs.hidden.hidden_functions.Goals as goal

pub loop-f-init : goal.loop-f-init
loop-f-init c =
    let marks = hidden c.args.owners.now c.args.loaded.now in
    let none : c.in_ok-set.set ≡ empty (length c.args.owners.now) = search rules in
    subst (λ set. IsUpTo marks set 0) (sym none) (up_to-empty marks (length c.args.owners.now) (sym (length-hidden c.args.owners.now c.args.loaded.now)))

pub returns : goal.returns
returns c =
    let marks = hidden c.args.owners.now c.args.loaded.now in
    let size = length-hidden c.args.owners.now c.args.loaded.now in
    up_to-end marks c.loop-f.set c.loop-f.f (omega arith) c.loop-f.invariant
