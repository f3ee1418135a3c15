use Rattle.std.proofs.Common.{◌≡◌, map, length, subst, sym, ◌∙◌, rules, arith}
use Rattle.std.proofs.lemmas.List.{length-map}
use Rattle.ft_base.specs.Marks.{empty}
use Rattle.filter_commands.specs.Meanings.{takes}
use Rattle.filter_commands.proofs.SetLemmas.{IsUpTo, IsUpTo-empty, IsUpTo-end}
use Rattle.filter_commands.proofs.selector.Selector.select.Goals as goal

pub loop-f-init : goal.loop-f-init
loop-f-init c =
    let marks = map (takes c.args.self.now) c.args.table.now.functions in
    let empty : c.in_ok-set.set ≡ empty c.len-size.result = search rules in
    let size : c.len-size.result ≡ length marks = c.len-size.ensures.value ∙ sym (length-map c.args.table.now.functions (takes c.args.self.now)) in
    subst (λ set. IsUpTo marks set 0) (sym empty) (IsUpTo-empty marks c.len-size.result size)

pub returns-clause-set : goal.returns-clause-set
returns-clause-set c =
    let marks = map (takes c.args.self.now) c.args.table.now.functions in
    let size : c.len-size.result ≡ length marks = c.len-size.ensures.value ∙ sym (length-map c.args.table.now.functions (takes c.args.self.now)) in
    IsUpTo-end marks c.loop-f.set c.loop-f.f (omega arith) c.loop-f.invariant
