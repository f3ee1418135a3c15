-- A task never has more frames than there are.
use Rattle.std.proofs.Common.{cond, ◌≡◌, ℕ, ◌<◌, ◌≤◌, Bool, true, false, not, ◌||◌, ◌&&◌, List, [], ◌∷◌, length, reverse, refl, subst, arith, nat_lt, ltb-true, eqb-true}
use Rattle.std.specs.List.{filter}
use Rattle.ft_base.specs.declared.number.CallNo.{CallNo}
use Rattle.ft_base.specs.declared.item.Item.{Item}
use Rattle.ft_base.specs.declared.item.Item.TheVariants.{Begin, Return, Enter, Back, BackEnd, Refuse, Miss, Body, Leave, Exit, ExitEnd, Ret}
use Rattle.ft_base.specs.Job.{Job}
use Rattle.ft_base.specs.Desk.{spec_at}
use Rattle.ft_base.specs.Kinds.{has_depth, has_exit, cancels}
use Rattle.ft_base.specs.Same.{same_call}
use Rattle.ft_hist.specs.Past.{is_of, held}
use Rattle.ft_hist.specs.Rules.{IsLegal, IsLegalPast, MayFollow}
use Rattle.ft_hist.specs.ShadowStack.{Framed, without, is_kept, with_user, after, shadow_stack}
use Rattle.ft_hist.proofs.Shadow.{held-past}

filter-short : {A : Type 0} (p : A → Bool) (xs : List A) → length (filter p xs) ≤ length xs
filter-short p [] = omega arith
filter-short p (x ∷ xs) = by (p x) (filter-short p xs)
  where
    by : (b : Bool) → length (filter p xs) ≤ length xs → length (cond b (x ∷ filter p xs) (filter p xs)) ≤ length (x ∷ xs)
    by true le = omega (arith, le)
    by false le = omega (arith, le)

module _ (job : Job) where
  without-short : (call : CallNo) (fs : List Framed) → length fs ≤ job.frames → length (without call fs) ≤ job.frames
  without-short call fs le = let short = filter-short (λ f. not (same_call f.call call)) fs in omega (arith, short, le)

  -- a callback takes a frame only where one is left
  with-within : (call : CallNo) (u : ℕ) (fs : List Framed) → length fs ≤ job.frames → (has_depth (spec_at job u).kind ≡ true → length (without call fs) < job.frames)
      → length (with_user job call u fs) ≤ job.frames
  with-within call u fs le room =
      by (record { call = call; kept = is_kept call fs || not (cancels (spec_at job u).kind) }) (has_depth (spec_at job u).kind) room (has_exit (spec_at job u).kind) (nat_lt (length (without call fs)) job.frames) refl
    where
      by : (f : Framed) (d : Bool) → (d ≡ true → length (without call fs) < job.frames) → (x l : Bool) → nat_lt (length (without call fs)) job.frames ≡ l
          → length (cond (d || (x && l)) (f ∷ without call fs) fs) ≤ job.frames
      by f true less x l q = let lt = less refl in omega (arith, lt)
      by f false less true true q = let lt = ltb-true (length (without call fs)) job.frames q in omega (arith, lt)
      by f false less true false q = le
      by f false less false l q = le

  body-within : (call : CallNo) (fs : List Framed) (b : Bool) → length fs ≤ job.frames → length (cond b fs (without call fs)) ≤ job.frames
  body-within call fs true le = le
  body-within call fs false le = without-short call fs le

  module _ (t : ℕ) where
    item-within : (past : List Item) (item : Item) → MayFollow job past item → IsLegalPast job past → is_of t item ≡ true → length (shadow_stack job t past) ≤ job.frames
        → length (after job item (shadow_stack job t past)) ≤ job.frames
    item-within past (Back call u) may l own le =
        with-within call u.0 (shadow_stack job t past) le (λ kind. (let lt = may.refusals.room kind in
        let held_is = subst (λ (n : ℕ). held job call past ≡ length (without call (shadow_stack job n past))) (eqb-true call.task.0 t own) (held-past job past call l) in omega (arith, lt, held_is)))
    item-within past (Body call g ran) may l own le = body-within call (shadow_stack job t past) (is_kept call (shadow_stack job t past)) le
    item-within past (Ret call to) may l own le = without-short call (shadow_stack job t past) le
    item-within past (Begin k) may l own le = le
    item-within past (Return k a) may l own le = le
    item-within past (Enter call x f caller) may l own le = le
    item-within past (BackEnd call u) may l own le = le
    item-within past (Refuse call u reason) may l own le = le
    item-within past (Miss call u) may l own le = le
    item-within past (Leave call) may l own le = le
    item-within past (Exit call u entry) may l own le = le
    item-within past (ExitEnd call u) may l own le = le

    stack-within : (past : List Item) → IsLegalPast job past → length (shadow_stack job t past) ≤ job.frames
    unfolding shadow_stack IsLegalPast
    stack-within [] l = omega arith
    stack-within (item ∷ past) l = by (is_of t item) refl (stack-within past l.1)
      where
        by : (b : Bool) → is_of t item ≡ b → length (shadow_stack job t past) ≤ job.frames → length (cond b (after job item (shadow_stack job t past)) (shadow_stack job t past)) ≤ job.frames
        by true own le = item-within past item l.0 l.1 own le
        by false other le = le

  -- so the other calls of a task never hold more
  pub frames-within : (call : CallNo) (past : List Item) → IsLegalPast job past → held job call past ≤ job.frames
  frames-within call past l =
      let held_is = held-past job past call l in
      let le = without-short call (shadow_stack job call.task.0 past) (stack-within call.task.0 past l) in
      omega (arith, held_is, le)

pub never-exceeded : (job : Job) (items : List Item) (call : CallNo) → IsLegal job items → held job call (reverse items) ≤ job.frames
unfolding IsLegal
never-exceeded job items call legal = frames-within job call (reverse items) legal
