-- What the view profile makes of one more item: of its own user, and of each other.
use Rattle.std.proofs.Common.{cond, ◌≡◌, ◌≢◌, ℕ, zero, suc, ◌+◌, ◌-◌, ◌≤◌, Bool, true, false, ◌==◌, List, [], ◌∷◌, ◌++◌, length, set, filter, Some, None, refl, sym, ap, ◌∙◌, subst, arith, inl, inr}
use Rattle.std.specs.Prelude.{slice_get}
use Rattle.std.proofs.lemmas.Bool.Decides.{eqb_tells}
use Rattle.std.proofs.lemmas.List.{length-set}
use Rattle.ft_base.specs.declared.number.CallNo.{CallNo}
use Rattle.ft_base.specs.declared.number.UserNo.{UserNo}
use Rattle.ft_base.specs.declared.item.Item.{Item}
use Rattle.ft_base.specs.declared.item.Item.TheVariants.{Back, Exit, Refuse, Miss}
use Rattle.ft_base.specs.declared.item.Reason.TheVariants.{Recursion}
use Rattle.ft_base.specs.Desk.{spec_at}
use Rattle.ft_base.specs.Job.{Job}
use Rattle.ft_base.proofs.Small.{==-refl}
use Rattle.ft_hist.specs.Counts.{is_back_of, is_missed_by}
use Rattle.ft_hist.specs.Past.{entry_of}
use Rattle.ft_hist.proofs.RunLaws.{some_inj}
use Rattle.func_profile.specs.Tallies.{row_at, with_hit, with_time}
use Rattle.func_profile.proofs.TallyLemmas.{table-back, table-exit, table-back-other, table-exit-other}
use Rattle.trace_views.specs.declared.profile.UserTally.{UserTally}
use Rattle.trace_views.specs.ProfileViews.{AreUserTallies, IsMissOf, IsUserTally, rows_for}

-- ## counts

pub counts-bound : (p : Item → Bool) (items : List Item) → length (filter p items) ≤ length items
counts-bound p [] = omega arith
counts-bound p (item ∷ items) = by (p item) (counts-bound p items)
  where
    by : (b : Bool) → length (filter p items) ≤ length items → length (cond b (item ∷ filter p items) (filter p items)) ≤ suc (length items)
    by true le = omega (arith, le)
    by false le = omega (arith, le)

one-more : (p : Item → Bool) (item : Item) (items : List Item) → p item ≡ true → length (filter p (item ∷ items)) ≡ length (filter p items) + 1
one-more p item items e = rw e (omega arith)

none-more : (p : Item → Bool) (item : Item) (items : List Item) → p item ≡ false → length (filter p (item ∷ items)) ≡ length (filter p items)
none-more p item items e = rw e refl

apart : (a b : ℕ) → a ≢ b → (a == b) ≡ false
apart a b ne = elim (eqb_tells a b) [ inl x ↦ absurd (ne x.1) | inr x ↦ x.0 ]

module _ (job : Job) (past : List Item) (u : ℕ) (t : UserTally) (is : IsUserTally job past u t) where
  -- ## an item of the user

  pub own-back : (t' : UserTally) (call : CallNo) (v : UserNo) (f : ℕ) → v.0 ≡ u → (entry_of call past).func ≡ f → t'.table.rows.items ≡ set t.table.rows.items f (with_hit (row_at t.table.rows.items f))
      → t'.hits ≡ t.hits + 1 → t'.missed ≡ t.missed → IsUserTally job (Back call v ∷ past) u t'
  own-back t' call v f own func rows hits missed =
      let eq : (v.0 == u) ≡ true = subst (λ n. (v.0 == n) ≡ true) own (==-refl v.0) in
      record {
        table = table-back u (rows_for job (spec_at job u)) past t.table t'.table is.table call v f eq func rows;
        hits = hits ∙ ap (λ n. n + 1) is.hits ∙ sym (one-more (λ item. is_back_of u item) (Back call v) past eq);
        missed = missed ∙ is.missed;
      }

  pub own-exit : (t' : UserTally) (call : CallNo) (v : UserNo) (entry place f : ℕ) → length past ≡ place → v.0 ≡ u → (entry_of call past).func ≡ f
      → t'.table.rows.items ≡ set t.table.rows.items f (with_time (place - entry) (row_at t.table.rows.items f)) → t'.hits ≡ t.hits → t'.missed ≡ t.missed → IsUserTally job (Exit call v entry ∷ past) u t'
  own-exit t' call v entry place f long own func rows hits missed = record {
    table = table-exit u (rows_for job (spec_at job u)) past t.table t'.table is.table call v entry place f long (subst (λ n. (v.0 == n) ≡ true) own (==-refl v.0)) func rows;
    hits = hits ∙ is.hits;
    missed = missed ∙ is.missed;
  }

  pub own-miss : (t' : UserTally) (item : Item) → IsMissOf u item → t'.table ≡ t.table → t'.hits ≡ t.hits → t'.missed ≡ t.missed + 1 → IsUserTally job (item ∷ past) u t'
  own-miss t' (Refuse call v Recursion) own table hits missed = record {
    table = ap (λ x. x.rows.items) table ∙ is.table;
    hits = hits ∙ is.hits;
    missed = missed ∙ ap (λ n. n + 1) is.missed ∙ sym (one-more (λ item. is_missed_by u item) (Refuse call v Recursion) past (subst (λ n. (v.0 == n) ≡ true) (sym own) (==-refl v.0)));
  }
  own-miss t' (Miss call v) own table hits missed = record {
    table = ap (λ x. x.rows.items) table ∙ is.table;
    hits = hits ∙ is.hits;
    missed = missed ∙ ap (λ n. n + 1) is.missed ∙ sym (one-more (λ item. is_missed_by u item) (Miss call v) past (subst (λ n. (v.0 == n) ≡ true) (sym own) (==-refl v.0)));
  }
  own-miss t' (Refuse call v _) own table hits missed = absurd own
  own-miss t' _ own table hits missed = absurd own

  -- ## an item of another user, or of none

  pub other-back : (call : CallNo) (v : UserNo) → v.0 ≢ u → IsUserTally job (Back call v ∷ past) u t
  other-back call v ne = record {
    table = table-back-other u (rows_for job (spec_at job u)) past t.table is.table call v (apart v.0 u ne);
    hits = is.hits ∙ sym (none-more (λ item. is_back_of u item) (Back call v) past (apart v.0 u ne));
    missed = is.missed;
  }

  pub other-exit : (call : CallNo) (v : UserNo) (entry : ℕ) → v.0 ≢ u → IsUserTally job (Exit call v entry ∷ past) u t
  other-exit call v entry ne = record {
    table = table-exit-other u (rows_for job (spec_at job u)) past t.table is.table call v entry (apart v.0 u ne);
    hits = is.hits;
    missed = is.missed;
  }

  pub other-miss : (v : ℕ) (item : Item) → v ≢ u → IsMissOf v item → IsUserTally job (item ∷ past) u t
  other-miss v (Refuse call w Recursion) ne of = record {
    table = is.table;
    hits = is.hits;
    missed = is.missed ∙ sym (none-more (λ item. is_missed_by u item) (Refuse call w Recursion) past (apart w.0 u (λ e. ne (of ∙ e))));
  }
  other-miss v (Miss call w) ne of = record {
    table = is.table;
    hits = is.hits;
    missed = is.missed ∙ sym (none-more (λ item. is_missed_by u item) (Miss call w) past (apart w.0 u (λ e. ne (of ∙ e))));
  }
  other-miss v (Refuse call w _) ne of = absurd of
  other-miss v _ ne of = absurd of

-- ## all users

get-set-same : {A : Type 0} (xs : List A) (i : ℕ) (x y : A) → slice_get xs i ≡ Some y → slice_get (set xs i x) i ≡ Some x
get-set-same [] i x y e = absurd cc
get-set-same (z ∷ xs) zero x y e = refl
get-set-same (z ∷ xs) (suc i) x y e = get-set-same xs i x y e

get-set-other : {A : Type 0} (xs : List A) (i j : ℕ) (x : A) → j ≢ i → slice_get (set xs i x) j ≡ slice_get xs j
get-set-other [] i j x ne = refl
get-set-other (z ∷ xs) zero zero x ne = absurd (ne refl)
get-set-other (z ∷ xs) zero (suc j) x ne = refl
get-set-other (z ∷ xs) (suc i) zero x ne = refl
get-set-other (z ∷ xs) (suc i) (suc j) x ne = get-set-other xs i j x (λ e. ne (ap suc e))

-- what holds of each at its place, with one more
pub last-each : {A : Type 0} (P : ℕ → A → Type 0) (xs : List A) (x : A) → ((v : ℕ) (s : A) → slice_get xs v ≡ Some s → P v s) → P (length xs) x
    → (v : ℕ) (s : A) → slice_get (xs ++ x ∷ []) v ≡ Some s → P v s
last-each P [] x h last zero s e = subst (λ y. P 0 y) (some_inj x s e) last
last-each P [] x h last (suc v) s e = absurd cc
last-each P (y ∷ ys) x h last zero s e = h zero s e
last-each P (y ∷ ys) x h last (suc v) s e = last-each (λ n. P (suc n)) ys x (λ w t f. h (suc w) t f) last v s e

module _ (job : Job) (past past' : List Item) (tallies : List UserTally) (are : AreUserTallies job past tallies) where
  -- the item is of a user that is kept
  pub one-changed : (u : ℕ) (t t' : UserTally) → slice_get tallies u ≡ Some t → IsUserTally job past' u t' → ((v : ℕ) (s : UserTally) → u ≢ v → IsUserTally job past v s → IsUserTally job past' v s)
      → AreUserTallies job past' (set tallies u t')
  one-changed u t t' here own others = record {
    count = length-set tallies u t' ∙ are.count;
    each = λ v s at. elim (eqb_tells u v) [
      | inl e ↦ (
          let same : u ≡ v = e.1 in
          let there : slice_get (set tallies u t') u ≡ Some s = subst (λ n. slice_get (set tallies u t') n ≡ Some s) (sym same) at in
          let is : t' ≡ s = some_inj t' s (sym (get-set-same tallies u t' t here) ∙ there) in
          subst (λ n. IsUserTally job past' n s) same (subst (λ (x : UserTally). IsUserTally job past' u x) is own))
      | inr e ↦ (
          let ne : u ≢ v = e.1 in
          others v s ne (are.each v s (sym (get-set-other tallies u v t' (λ x. ne (sym x))) ∙ at)))
    ];
  }

  -- it is of none of them
  pub none-changed : (u : ℕ) → slice_get tallies u ≡ None → ((v : ℕ) (s : UserTally) → u ≢ v → IsUserTally job past v s → IsUserTally job past' v s) → AreUserTallies job past' tallies
  none-changed u none others = record {
    count = are.count;
    each = λ v s at. others v s (λ same. (let clash : None ≡ Some s = sym none ∙ ap (slice_get tallies) same ∙ at in absurd cc)) (are.each v s at);
  }
