use Rattle.std.proofs.Common.{◌≡◌, length, get_or, ap, sym, subst, ◌∙◌, arith}
use Rattle.std.specs.Prelude.{IfSome}
use Rattle.std.proofs.lemmas.List.{length-replicate, get_or-replicate}
use Rattle.ft_base.specs.Marks.{Marks, empty}
use Rattle.site_set.proofs.MarksLemmas.{length-empty}
use Rattle.module_table.proofs.masks.opening.Goals as goal

pub masks-requires-clause-sizes : goal.masks-requires-clause-sizes
masks-requires-clause-sizes c = λ k d l.
    let own = c.as_slice.ensures.value ∙ c.in_ok-own-in-Some.ensures in
    let count = ap length own ∙ length-replicate {A = Marks} c.args.users (empty c.args.funcs) in
    let size : length c.in-Some.hidden ≡ c.args.funcs = subst (λ o. IfSome o (λ (h : Marks). length h ≡ c.args.funcs)) c.in-Some.is c.requires in
    ap (λ xs. length (get_or xs k d)) own ∙ ap length (get_or-replicate c.args.users k (empty c.args.funcs) d (omega (arith, l, count))) ∙ length-empty c.args.funcs ∙ sym size
