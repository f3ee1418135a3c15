-- In a legal history each item goes with the calls that are open.
use Rattle.std.proofs.Common.{◌≡◌, ℕ, ◌<◌, List, [], ◌∷◌, ◌++◌, length, reverse, refl, sym, ap, ◌∙◌, subst, arith}
use Rattle.std.proofs.lemmas.List.{reverse-append, reverse-reverse, length-append, length-reverse}
use Rattle.ft_base.specs.declared.number.CallNo.{CallNo}
use Rattle.ft_base.specs.declared.number.UserNo.{UserNo}
use Rattle.ft_base.specs.declared.item.Item.{Item}
use Rattle.ft_base.specs.declared.item.Item.TheVariants.{Enter, Back, Exit, Ret}
use Rattle.ft_base.specs.Job.{Job}
use Rattle.ft_base.proofs.Small.{==-refl}
use Rattle.ft_hist.specs.Rules.{IsLegal, IsLegalPast}
use Rattle.ft_hist.specs.Telling.{open_calls}
use Rattle.ft_hist.proofs.ExitItems.{exit-of}
use Rattle.trace_views.specs.GraphWalks.{Goes}
use Rattle.trace_views.proofs.TopCalls.{named, fresh, taken, top-back, top-exit}

module _ (job : Job) where
  -- an exit comes after its entry callback
  pub exit-later : (call : CallNo) (v : UserNo) (entry : ℕ) (past : List Item) → IsLegalPast job (Exit call v entry ∷ past) → entry < length past
  unfolding IsLegal
  exit-later call v entry past l =
      let items : List Item = reverse past ++ Exit call v entry ∷ [] in
      let turned : reverse items ≡ Exit call v entry ∷ past = reverse-append (reverse past) (Exit call v entry ∷ []) ∙ ap (λ (xs : List Item). Exit call v entry ∷ xs) (reverse-reverse past) in
      let legal : IsLegal job items = subst (λ xs. IsLegalPast job xs) (sym turned) l in
      let of = exit-of job items (reverse past) [] call v entry legal refl in
      let a = ap length {y = of.0 ++ Back call v ∷ of.1} of.2 in
      let b = length-append of.0 (Back call v ∷ of.1) in
      let d = length-reverse past in
      let e = of.3 in
      omega (arith, a, b, d, e)

  pub goes : (item : Item) (past : List Item) → IsLegalPast job (item ∷ past) → Goes (length job.tasks) past item
  goes (Enter call ctx f caller) past l = (named job call.task.0 (Enter call ctx f caller) past (==-refl call.task.0) l, fresh job call ctx f caller past l)
  goes (Back call v) past l = let top = top-back job call v past l in (named job call.task.0 (Back call v) past (==-refl call.task.0) l, top.below, top.before)
  goes (Exit call v entry) past l =
      let top = top-exit job call v entry past l in
      ((named job call.task.0 (Exit call v entry) past (==-refl call.task.0) l, top.below, top.before), exit-later call v entry past l)
  goes (Ret call to) past l = (named job call.task.0 (Ret call to) past (==-refl call.task.0) l, open_calls call.task.0 (Ret call to ∷ past), taken job call to past l)
  goes _ past l = tt
