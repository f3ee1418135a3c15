-- What a roster holds tells the answer to a claim.
use Rattle.std.proofs.Common.{◌≡◌, ℕ, zero, suc, ◌<◌, Bool, true, false, ◌&&◌, List, [], ◌∷◌, length, map, get_or, Some, None, is_some, refl, sym, ap, ap₂, ◌∙◌, subst, arith, inl, inr}
use Rattle.std.specs.Prelude.{slice_get, All, replicate}
use Rattle.std.proofs.lemmas.Bool.{lt-ltb}
use Rattle.std.proofs.lemmas.List.{length-map, length-replicate, get_or_default}
use Rattle.std.proofs.lemmas.Option.{slice_get_cases, get_or_from_slice_get}
use Rattle.ft_base.specs.Marks.{Marks, holds}
use Rattle.ft_base.specs.Job.{Spec, Func, no_func}
use Rattle.ft_base.specs.Desk.{plain_spec, matches_by, is_matching, claim}
use Rattle.filter_hash.specs.Pair.{Pair, size_of}
use Rattle.ipmodify.specs.declared.conflicts.Holder.{Holder}
use Rattle.ipmodify.specs.Conflicts.{conflict_of}
use Rattle.ipmodify.specs.OnDesk.{answer_of, AreHolders}
use Rattle.ipmodify.proofs.DeskLemmas.{claim-is}
use Rattle.ft_desk.specs.declared.user.User.{User}
use Rattle.ft_desk.specs.declared.roster.Roster.TheInside.{Inside}
use Rattle.ft_desk.specs.Users.{desk_by, is_at, spec_by, state_of, user_of}
use Rattle.ft_desk.specs.Rosters.{job_by}
use Rattle.ft_desk.specs.RosterInvariant.{RosterInvariant, no_holder, users_of}
use Rattle.ft_desk.proofs.SumLaws.{user_at-is}

pub spec_at-is : (users : List User) (u : ℕ) → get_or (map spec_by users) u plain_spec ≡ spec_by (user_of users u)
spec_at-is [] u = refl
spec_at-is (x ∷ users) zero = refl
spec_at-is (x ∷ users) (suc u) = spec_at-is users u

held-order : (i g m : Bool) → (i && (true && (g && m))) ≡ (g && i && m)
held-order true true m = refl
held-order true false m = refl
held-order false true m = refl
held-order false false m = refl

pub funcs-is : (n : ℕ) → length (replicate n no_func) ≡ n
funcs-is n = length-replicate {A = Func} n no_func

module _ (r : Inside) (k : RosterInvariant r) where
  holder-at : (v : ℕ) (h : Holder) → slice_get r.holders.items v ≡ Some h → (v < length r.users.items) × (h ≡ get_or r.holders.items v no_holder)
  holder-at v h e = elim (slice_get_cases r.holders.items v).1 [
    | inl x ↦ ((let n = k.holders in let s = x.1 in omega (arith, n, s)), sym (get_or_from_slice_get r.holders.items v h no_holder e))
    | inr x ↦ (let no : Some h ≡ None = sym e ∙ x.1 in absurd cc)
  ]

  holders-are : AreHolders (job_by (users_of r)) (desk_by r.users.items) r.holders.items
  holders-are = record {
    count = k.holders ∙ sym (length-map r.users.items spec_by);
    each = λ v h e. (let at = holder-at v h e in let held = k.held v at.0 in record {
      user = ap (λ (g : Holder). g.user.0) at.1 ∙ held.user;
      members = λ f small. ap (λ (g : Holder). holds g.on f) at.1 ∙ held.on f
          ∙ ap (λ b. is_some (user_of r.users.items v).ipmodify && (b && is_at f (user_of r.users.items v))) (lt-ltb f (length r.counts) (let n = funcs-is (length r.counts) in omega (arith, n, small)))
          ∙ held-order (is_some (user_of r.users.items v).ipmodify) (user_of r.users.items v).registered (is_matching (state_of (user_of r.users.items v)) f)
          ∙ sym (ap₂ (λ s (p : Spec). s.registered && is_some p.ipmodify && is_matching s f) (user_at-is r.users.items v) (spec_at-is r.users.items v));
    });
  }

  -- the sets of all holders have one size
  pub sizes-are : (on : Marks) (holders : List Holder) → length on ≡ length r.counts → holders ≡ r.holders.items → All (λ h. length on ≡ length h.on) holders
  sizes-are on holders size e i d small =
      let inside : i < length r.holders.items = subst (λ (hs : List Holder). i < length hs) e small in
      size ∙ sym (ap (λ (hs : List Holder). length (get_or hs i d).on) e ∙ ap (λ (h : Holder). length h.on) (get_or_default r.holders.items i d no_holder inside)
      ∙ (k.held i (let n = k.holders in omega (arith, n, inside))).size)

  -- the answer to a claim of what a pair matches
  pub claim-here : (u : ℕ) (p : Pair) (on : Marks) (holders : List Holder) → length on ≡ length r.counts → size_of p ≡ length r.counts
      → ((f : ℕ) → f < size_of p → holds on f ≡ matches_by p.filter p.notrace f) → holders ≡ r.holders.items
      → answer_of (conflict_of on holders u) ≡ claim (job_by (users_of r)) (desk_by r.users.items) u p.filter p.notrace
  claim-here u p on holders size sized members e =
      let n = funcs-is (length r.counts) in
      ap (λ (hs : List Holder). answer_of (conflict_of on hs u)) e
      ∙ claim-is (job_by (users_of r)) (desk_by r.users.items) u p.filter p.notrace on r.holders.items
      (record { size = size ∙ sym n; members = λ f small. members f (omega (arith, n, sized, small)) }) holders-are
