-- The first conflict with the holders so far, one holder after another, and with all of them.
use Rattle.std.proofs.Common.{cond, ◌≡◌, ◌⊎◌, ℕ, ◌+◌, ◌<◌, ◌≤◌, ◌↔◌, Bool, true, false, ◌&&◌, List, length, Option, Some, None, is_some, IsNone, IfNone, IfSome, nat_lt, ltb-true, ltb-false, refl, sym, ap, ap₂, ◌∙◌, inl, inr, arith}
use Rattle.std.specs.Prelude.{slice_get, option_map}
use Rattle.std.specs.Option.{option_and_then}
use Rattle.std.proofs.lemmas.Bool.{cases_eq, cases_lt}
use Rattle.std.proofs.lemmas.List.{get_or_past}
use Rattle.std.proofs.lemmas.Option.{slice_get_past}
use Rattle.ft_base.specs.Marks.{Marks, holds}
use Rattle.ft_base.specs.Desk.{lowest}
use Rattle.ft_base.proofs.Small.{and_both, and-false, false_true}
use Rattle.ipmodify.specs.declared.conflicts.Holder.{Holder}
use Rattle.ipmodify.specs.declared.conflicts.Conflict.{Conflict}
use Rattle.ipmodify.specs.Conflicts.{is_in_way, first_in_way, is_contested, conflict_at, conflict_of, clashes, IsFree, IsFirstConflict}
use Rattle.ipmodify.specs.Pairs.{lower_of, IsApart, IsMeeting}
use Rattle.ipmodify.proofs.LowestLemmas.{lowest-is, lowest-none}

-- ## the definition of the first conflict

right_false : (a b : Bool) → (a && b) ≡ false → a ≡ true → b ≡ false
right_false true b e h = e
right_false false b e h = false_true h

module _ (on : Marks) (hs : List Holder) (me : ℕ) where
  -- no holder is past the last
  clash_past : (f i : ℕ) → length hs ≤ i → clashes on hs me f i ≡ false
  clash_past f i h = ap (λ (o : Option Holder). holds on f && is_in_way me f o) (slice_get_past hs i h) ∙ and-false (holds on f)

  -- a function without a clash is not contested
  uncontested : (f : ℕ) → ((i : ℕ) → clashes on hs me f i ≡ false) → is_contested on hs me f ≡ false
  uncontested f none = by (holds on f) refl
    where
      by : (b : Bool) → holds on f ≡ b → (b && is_some (first_in_way hs me f)) ≡ false
      by false e = refl
      by true e = ap is_some (lowest-none (λ i. is_in_way me f (slice_get hs i)) 0 (length hs) (λ i. right_false (holds on f) _ (none i) e))

  conflict_of-none : IsFree on hs me → conflict_of on hs me ≡ None
  conflict_of-none free = ap (conflict_at hs me) (lowest-none (is_contested on hs me) 0 (length on) (λ f. uncontested f (free f)))

  named : (c : Conflict) (o : Option Holder) → option_map (λ h. h.user) o ≡ Some c.holder
      → option_map (λ h. record { func = record { 0 = c.func.0 }; holder = h.user }) o ≡ Some c
  named c None e = absurd cc
  named c (Some h) e = let same : h.user ≡ c.holder = cc in ap (λ u. Some (record { func = c.func; holder = u })) same

  -- the first conflict is the one that the lowest numbers give
  module _ (c : Conflict) (r : IsFirstConflict on hs me c) where
    member : holds on c.func.0 ≡ true
    member = (and_both (holds on c.func.0) (is_in_way me c.func.0 (slice_get hs r.place)) r.clash).0

    in_way : is_in_way me c.func.0 (slice_get hs r.place) ≡ true
    in_way = (and_both (holds on c.func.0) (is_in_way me c.func.0 (slice_get hs r.place)) r.clash).1

    within : r.place < length hs
    within = elim (cases_lt r.place (length hs)) [
      | inl h ↦ h
      | inr h ↦ false_true (sym (clash_past c.func.0 r.place h) ∙ r.clash)
    ]

    small : c.func.0 < length on
    small = elim (cases_lt c.func.0 (length on)) [
      | inl h ↦ h
      | inr h ↦ false_true (sym (get_or_past on c.func.0 false h) ∙ member)
    ]

    place_is : first_in_way hs me c.func.0 ≡ Some r.place
    place_is = lowest-is (λ i. is_in_way me c.func.0 (slice_get hs i)) 0 (length hs) r.place (omega arith) (omega (arith, within)) in_way
        (λ i h. right_false (holds on c.func.0) _ (r.first i h) member)

    func_is : lowest (is_contested on hs me) 0 (length on) ≡ Some c.func.0
    func_is = lowest-is (is_contested on hs me) 0 (length on) c.func.0 (omega arith) (omega (arith, small))
        (ap₂ (λ a b. a && b) member (ap is_some place_is)) (λ g h. uncontested g (λ i. r.least g i h))

    conflict_of-first : conflict_of on hs me ≡ Some c
    conflict_of-first = ap (conflict_at hs me) func_is
        ∙ ap (λ (o : Option ℕ). option_map (λ h. record { func = record { 0 = c.func.0 }; holder = h.user }) (option_and_then (slice_get hs) o)) place_is
        ∙ named c (slice_get hs r.place) r.holder

  -- ## the holders so far

  -- the first conflict with the first k holders
  pub record FirstUpTo (k : ℕ) (c : Conflict) : Type 0 where
    pub place : ℕ
    pub holder : option_map (λ h. h.user) (slice_get hs place) ≡ Some c.holder
    pub within : place < k
    pub clash : clashes on hs me c.func.0 place ≡ true
    pub least : (f i : ℕ) → i < k → f < c.func.0 → clashes on hs me f i ≡ false
    pub first : (i : ℕ) → i < place → clashes on hs me c.func.0 i ≡ false

  abbrev pub IsSoFar : ℕ → Option Conflict → Type 0
  IsSoFar k None = (f i : ℕ) → i < k → clashes on hs me f i ≡ false
  IsSoFar k (Some c) = FirstUpTo k c

  -- one more holder
  module _ (k : ℕ) (h : Holder) (got : slice_get hs k ≡ Some h) where
    clash_here : (f : ℕ) (b : Bool) → (holds on f && is_in_way me f (Some h)) ≡ b → clashes on hs me f k ≡ b
    clash_here f b e = ap (λ (o : Option Holder). holds on f && is_in_way me f o) got ∙ e

    clash_next : (f : ℕ) → ((i : ℕ) → i < k → clashes on hs me f i ≡ false) → (holds on f && is_in_way me f (Some h)) ≡ false
        → (i : ℕ) → i < k + 1 → clashes on hs me f i ≡ false
    clash_next f below e i lt = elim (cases_eq i k) [
      | inl same ↦ ap (clashes on hs me f) same ∙ clash_here f false e
      | inr apart ↦ below i (omega arith)
    ]

    -- the new one is the first
    taken : (d : Conflict) → ((f i : ℕ) → i < k → (f < d.func.0) ⊎ (f ≡ d.func.0) → clashes on hs me f i ≡ false) → IsMeeting on h me d → FirstUpTo (k + 1) d
    taken d below m = record {
      place = k;
      holder = ap (option_map (λ (x : Holder). x.user)) got ∙ ap Some m.holder;
      within = omega arith;
      clash = clash_here d.func.0 true m.clash;
      least = λ f i lt lower. clash_next f (λ j l. below f j l (inl lower)) (m.least f lower) i lt;
      first = λ i lt. below d.func.0 i lt (inr refl);
    }

    -- it isn't
    kept : (c : Conflict) → FirstUpTo k c → ((f : ℕ) → f < c.func.0 → (holds on f && is_in_way me f (Some h)) ≡ false) → FirstUpTo (k + 1) c
    kept c r apart = record {
      place = r.place;
      holder = r.holder;
      within = omega (arith, r.within);
      clash = r.clash;
      least = λ f i lt lower. clash_next f (λ j l. r.least f j l lower) (apart f lower) i lt;
      first = r.first;
    }

    pub so_far-next : (first other : Option Conflict) → IsSoFar k first → IfNone other (IsApart on h me) → IfSome other (IsMeeting on h me)
        → IsSoFar (k + 1) (lower_of first other)
    so_far-next None None s apart meets = λ f i lt. clash_next f (s f) (apart f) i lt
    so_far-next None (Some d) s apart meets = taken d (λ f i lt lower. s f i lt) meets
    so_far-next (Some c) None s apart meets = kept c s (λ f lower. apart f)
    so_far-next (Some c) (Some d) s apart meets = by (nat_lt d.func.0 c.func.0) refl
      where
        by : (b : Bool) → nat_lt d.func.0 c.func.0 ≡ b → IsSoFar (k + 1) (cond b (Some d) (Some c))
        by true e =
            let lt = ltb-true d.func.0 c.func.0 e in
            taken d (λ f i l lower. s.least f i l (elim lower [ inl x ↦ omega arith | inr x ↦ omega arith ])) meets
        by false e =
            let le = ltb-false d.func.0 c.func.0 e in
            kept c s (λ f lower. meets.least f (omega arith))

  -- ## all holders

  module _ (k : ℕ) (all : length hs ≤ k) where
    free-all : IsSoFar k None → IsFree on hs me
    free-all s f i = elim (cases_lt i k) [ inl h ↦ s f i h | inr h ↦ clash_past f i (omega arith) ]

    first-all : (c : Conflict) → FirstUpTo k c → IsFirstConflict on hs me c
    first-all c r = record {
      place = r.place;
      holder = r.holder;
      clash = r.clash;
      least = λ f i lower. elim (cases_lt i k) [ inl h ↦ r.least f i h lower | inr h ↦ clash_past f i (omega arith) ];
      first = r.first;
    }

    pub value_is : (o : Option Conflict) → IsSoFar k o → o ≡ conflict_of on hs me
    value_is None s = sym (conflict_of-none (free-all s))
    value_is (Some c) s = sym (conflict_of-first c (first-all c s))

    pub none_is : (o : Option Conflict) → IsSoFar k o → IsNone o ↔ IsFree on hs me
    none_is None s = (λ e. free-all s, λ free. refl)
    none_is (Some c) s = (λ e. absurd cc, λ free. false_true (sym (free c.func.0 s.place) ∙ s.clash))

    pub first_is : (o : Option Conflict) → IsSoFar k o → IfSome o (IsFirstConflict on hs me)
    first_is None s = tt
    first_is (Some c) s = first-all c s
