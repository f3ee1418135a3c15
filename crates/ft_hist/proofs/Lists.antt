-- Facts on lists of users and visits.
use Rattle.std.proofs.Common.{cond, ◌≡◌, ℕ, ◌<◌, Bool, true, false, ◌==◌, List, [], ◌∷◌, refl, sym, ap, ◌∙◌, arith, inl, inr, eqb-true}
use Rattle.std.proofs.lemmas.Bool.Decides.{eqb_tells}
use Rattle.std.specs.List.{filter, AllByRecursion as Each}
use Rattle.ft_base.specs.declared.number.CallNo.{CallNo}
use Rattle.ft_base.specs.Same.{same_call}
use Rattle.ft_base.specs.Order.{has}
use Rattle.ft_base.proofs.Small.{and-false, or-true, false_true, or-true_either}
use Rattle.ft_hist.specs.Past.{Visit}

pub Each-passes : (p : ℕ → Bool) (us : List ℕ) → Each (λ u. p u ≡ true) (filter p us)
Each-passes p [] = tt
Each-passes p (u ∷ us) =
    elim (p u) as (λ b. p u ≡ b → Each (λ v. p v ≡ true) (cond b (u ∷ filter p us) (filter p us))) [ true ↦ λ e. (e, Each-passes p us) | false ↦ λ e. Each-passes p us ] refl

pub has-passes : (p : ℕ → Bool) (u : ℕ) (us : List ℕ) → has u us ≡ true → p u ≡ true → has u (filter p us) ≡ true
has-passes p u [] h pass = h
has-passes p u (v ∷ us) h pass =
    elim (p v) as (λ b. p v ≡ b → has u (cond b (v ∷ filter p us) (filter p us)) ≡ true) [
      | true ↦ λ e. elim (or-true_either (v == u) (has u us) h) [ inl x ↦ rw x refl | inr x ↦ rw (has-passes p u us x pass, or-true (v == u)) refl ]
      | false ↦ λ e. elim (or-true_either (v == u) (has u us) h) [
        | inl x ↦ false_true (sym e ∙ ap p (eqb-true v u x) ∙ pass)
        | inr x ↦ has-passes p u us x pass
      ]
    ] refl

-- a call whose number is still to come has visited nobody
pub none_visited : (call : CallNo) (ms : List Visit) → Each (λ m. m.call.task.0 ≡ call.task.0 → m.call.n < call.n) ms → filter (λ m. same_call m.call call) ms ≡ []
none_visited call [] h = refl
none_visited call (m ∷ ms) h =
    let apart : same_call m.call call ≡ false = elim (eqb_tells m.call.task.0 call.task.0) [
      | inl t ↦ (let lt = h.0 t.1 in let ne : (m.call.n == call.n) ≡ false = elim (eqb_tells m.call.n call.n) [ inl x ↦ (let y = x.1 in absurd (omega arith)) | inr x ↦ x.0 ] in rw (ne, and-false (m.call.task.0 == call.task.0)) refl)
      | inr f ↦ rw f.0 refl
    ] in
    rw apart (none_visited call ms h.1)
