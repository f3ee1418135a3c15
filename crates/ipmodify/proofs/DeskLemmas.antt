-- The first conflict is the one that a desk's definition of a claim finds.
use Rattle.std.proofs.Common.{◌≡◌, ℕ, ◌<◌, Bool, true, false, ◌&&◌, ◌==◌, not, List, length, Option, Some, None, is_some, refl, ap, ap₂, ◌∙◌, inl, inr, arith}
use Rattle.std.specs.Prelude.{slice_get, option_map}
use Rattle.std.specs.Option.{option_and_then}
use Rattle.std.proofs.lemmas.Option.{slice_get_cases}
use Rattle.ft_base.specs.declared.item.Answer.TheVariants.{Accepted, Busy}
use Rattle.ft_base.specs.Marks.{Marks}
use Rattle.ft_base.specs.Job.{Job, funcs}
use Rattle.ft_base.specs.Desk.{Desk, user_at, spec_at, is_matching, lowest, other_modifier, busy_or, claim}
use Rattle.ft_base.proofs.Modifiers.{holder_at, conflicts}
use Rattle.ipmodify.specs.declared.conflicts.Holder.{Holder}
use Rattle.ipmodify.specs.Conflicts.{is_in_way, first_in_way, is_contested, conflict_at, conflict_of}
use Rattle.ipmodify.specs.OnDesk.{answer_of, IsMatched, AreHolders}
use Rattle.ipmodify.proofs.LowestLemmas.{lowest-same, lowest-below}

apart_first : (a b c d : Bool) → (a && (b && c && d)) ≡ (a && b && c && d)
apart_first true b c d = refl
apart_first false b c d = refl

module _ (job : Job) (d : Desk) (u : ℕ) (filter notrace on : Marks) (hs : List Holder) (m : IsMatched job filter notrace on) (a : AreHolders job d hs) where
  in_way-is : (f v : ℕ) → f < funcs job → v < length job.users → is_in_way u f (slice_get hs v) ≡ other_modifier job d u f v
  in_way-is f v small within = elim (slice_get_cases hs v).1 [
    | inl x ↦ (let holder = a.each v x.0 x.2 in
        ap (is_in_way u f) x.2 ∙ ap₂ (λ w b. not (w == u) && b) holder.user (holder.members f small)
        ∙ apart_first (not (v == u)) (user_at d v).registered (is_some (spec_at job v).ipmodify) (is_matching (user_at d v) f))
    | inr x ↦ (let past = x.0 in absurd (omega (arith, a.count)))
  ]

  first_in_way-is : (f : ℕ) → f < funcs job → first_in_way hs u f ≡ holder_at job d u (Some f)
  first_in_way-is f small = ap (lowest (λ i. is_in_way u f (slice_get hs i)) 0) a.count
      ∙ lowest-same _ (other_modifier job d u f) 0 (length job.users) (λ v h. in_way-is f v small (omega arith))

  contested-is : lowest (is_contested on hs u) 0 (length on) ≡ lowest (conflicts job d u filter notrace) 0 (funcs job)
  contested-is = ap (lowest (is_contested on hs u) 0) m.size
      ∙ lowest-same _ (conflicts job d u filter notrace) 0 (funcs job) (λ f h. let small : f < funcs job = omega arith in
      ap₂ (λ x y. x && is_some y) (m.members f small) (first_in_way-is f small))

  answer-at : (o : Option ℕ) → lowest (conflicts job d u filter notrace) 0 (funcs job) ≡ o
      → answer_of (conflict_at hs u o) ≡ busy_or o (holder_at job d u o) Accepted
  answer-at None e = refl
  answer-at (Some f) e =
      ap (λ (p : Option ℕ). answer_of (option_map (λ h. record { func = record { 0 = f }; holder = h.user }) (option_and_then (slice_get hs) p)))
      (first_in_way-is f (omega (arith, lowest-below (conflicts job d u filter notrace) 0 (funcs job) f e)))
      ∙ by (holder_at job d u (Some f)) refl
    where
      by : (p : Option ℕ) → holder_at job d u (Some f) ≡ p
          → answer_of (option_map (λ h. record { func = record { 0 = f }; holder = h.user }) (option_and_then (slice_get hs) p)) ≡ busy_or (Some f) p Accepted
      by None q = refl
      by (Some v) q = elim (slice_get_cases hs v).1 [
        | inl x ↦ (let holder = a.each v x.0 x.2 in
            ap (λ (y : Option Holder). answer_of (option_map (λ h. record { func = record { 0 = f }; holder = h.user }) y)) x.2
            ∙ ap (λ w. Busy (record { 0 = f }) (record { 0 = w })) holder.user)
        | inr x ↦ (let past = x.0 in absurd (omega (arith, a.count, lowest-below (other_modifier job d u f) 0 (length job.users) v q)))
      ]

  pub claim-is : answer_of (conflict_of on hs u) ≡ claim job d u filter notrace
  claim-is = ap (λ o. answer_of (conflict_at hs u o)) contested-is ∙ answer-at _ refl
