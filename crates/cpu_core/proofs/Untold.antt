-- The first task of a CPU whose word is to change, and which have told.
use Rattle.std.proofs.Common.{cond, ◌≡◌, ℕ, zero, suc, ◌+◌, ◌<◌, ◌≤◌, Bool, true, false, not, List, [], ◌∷◌, drop, length, position, set, slice_get, Option, Some, None, option_map, eq-eqb, refl, sym, ap, ◌∙◌, subst, arith}
use Rattle.std.proofs.lemmas.List.{drop-set-lt, drop_all}
use Rattle.std.proofs.lemmas.Option.{none-some, same_Some}
use Rattle.grace_core.specs.declared.view.TaskView.{TaskView}
use Rattle.grace_core.specs.Views.{has_told, told_low, told_word}
use Rattle.word_map.specs.Contents.{greatest_half, halves, low}
use Rattle.task_core.specs.declared.task.Task.{Task}
use Rattle.task_core.specs.Starts.{view_of}
use Rattle.cpu_core.specs.Turns.{HaveTold, RestTold, first_untold, is_untold, told_task, untold_from}
use Rattle.cpu_core.proofs.Places.{first-case, place-more}

-- ## a task that has told

low-halves : (h w : ℕ) → low (halves h (low w)) ≡ low w
low-halves h w = omega arith

-- it has nothing more to tell
pub low-told : (r : ℕ) (v : TaskView) → told_low r (record v { word = told_word r v }) ≡ told_low r v
low-told r v = by v.left v.quiet
  where
    by : (left quiet : Bool)
        → cond left (cond quiet r (low (halves v.acts (cond left (cond quiet r (low v.word)) greatest_half)))) greatest_half
        ≡ cond left (cond quiet r (low v.word)) greatest_half
    by false quiet = refl
    by true true = refl
    by true false = low-halves v.acts v.word

pub has-told : (r : ℕ) (t : Task) → has_told r (view_of (told_task r t)) ≡ true
has-told r t =
    eq-eqb (told_word r (view_of t)) (told_word r (view_of (told_task r t))) (ap (λ l. halves t.acts.gone l) (sym (low-told r (view_of t))))

-- ## from an index on

from-zero : (o : Option ℕ) → option_map (λ k. 0 + k) o ≡ o
from-zero None = refl
from-zero (Some k) = let e : 0 + k ≡ k = omega arith in ap (λ m. Some m) e

from-more : (n : ℕ) (o : Option ℕ) → option_map (λ k. suc k) (option_map (λ k. n + k) o) ≡ option_map (λ k. suc n + k) o
from-more n None = refl
from-more n (Some k) = let e : suc (n + k) ≡ suc n + k = omega arith in ap (λ m. Some m) e

-- a place after the first
later : (o : Option ℕ) (i : ℕ) → option_map (λ k. suc k) o ≡ Some (suc i) → o ≡ Some i
later None i e = absurd (none-some (suc i) e)
later (Some k) i e = let s : suc k ≡ suc i = same_Some (suc k) (suc i) e in let same : k ≡ i = omega arith in ap (λ m. Some m) same

-- the first of all, if this is the first of the rest
abbrev first-by : Bool → Option ℕ → Option ℕ
first-by told o = cond (not told) (Some 0) (option_map (λ k. suc k) o)

module _ (r : ℕ) where
  -- one task stands before the rest
  more : (t : Task) (ts : List Task) → first_untold r (t ∷ ts) ≡ first-by (has_told r (view_of t)) (first_untold r ts)
  more t ts = place-more (is_untold r) t ts

  -- if those before an index have told, the first from there on is the first of all
  pub from_told : (ts : List Task) (n : ℕ) → HaveTold r n ts → untold_from r ts n ≡ first_untold r ts
  from_told ts zero told = from-zero (first_untold r ts)
  from_told [] (suc n) told = refl
  from_told (t ∷ ts) (suc n) told =
      sym (from-more n (position (is_untold r) (drop n ts)))
      ∙ ap (λ o. first-by true o) (from_told ts n told.1)
      ∙ ap (λ b. first-by b (first_untold r ts)) (sym told.0)
      ∙ sym (more t ts)

  -- and it is none of those
  pub told-before : (ts : List Task) (n j : ℕ) → HaveTold r n ts → first_untold r ts ≡ Some j → n ≤ j
  told-before ts n j told first = by (position (is_untold r) (drop n ts)) (from_told ts n told ∙ first)
    where
      by : (o : Option ℕ) → option_map (λ k. n + k) o ≡ Some j → n ≤ j
      by None e = absurd (none-some j e)
      by (Some k) e = let s : n + k ≡ j = same_Some (n + k) j e in omega arith

  -- those before the first have told
  first-told : (ts : List Task) (i : ℕ) → first_untold r ts ≡ Some i → HaveTold r i ts
  first-told ts zero first = tt
  first-told [] (suc i) first = tt
  first-told (t ∷ ts) (suc i) first = by (has_told r (view_of t)) refl (sym (more t ts) ∙ first) (first-told ts i)
    where
      by : (b : Bool) → has_told r (view_of t) ≡ b → first-by b (first_untold r ts) ≡ Some (suc i) → (first_untold r ts ≡ Some i → HaveTold r i ts)
          → HaveTold r (suc i) (t ∷ ts)
      by false told e rest = (let s : ◌≡◌ {A = ℕ} 0 (suc i) = same_Some 0 (suc i) e in absurd (omega arith))
      by true told e rest = (told, rest (later (first_untold r ts) i e))

  -- once the first tells, one more has told
  told-more : (ts : List Task) (i : ℕ) (u : Task) → HaveTold r i ts → has_told r (view_of u) ≡ true → HaveTold r (suc i) (set ts i u)
  told-more [] i u told now = tt
  told-more (t ∷ ts) zero u told now = (now, tt)
  told-more (t ∷ ts) (suc i) u told now = (told.0, told-more ts i u told.1 now)

  pub told-next : (ts : List Task) (i : ℕ) (t : Task) → first_untold r ts ≡ Some i → HaveTold r (suc i) (set ts i (told_task r t))
  told-next ts i t first = told-more ts i (told_task r t) (first-told ts i first) (has-told r t)

  -- the first is there
  pub untold-there : (ts : List Task) (i : ℕ) → first_untold r ts ≡ Some i → (t : Task) × (slice_get ts i ≡ Some t)
  untold-there ts i first =
      let there : first_untold r ts ≡ Some i → ((t : Task) × (slice_get ts i ≡ Some t)) =
      first-case (is_untold r) ts (λ o f. o ≡ Some i → ((t : Task) × (slice_get ts i ≡ Some t))) (λ none e. absurd (none-some i e))
      (λ k t at is e. (t, subst (λ n. slice_get ts n ≡ Some t) (same_Some k i e) at)) in
      there first

  -- ## the tasks before an index have told, and those from one on

  first-none : (b : Bool) (o : Option ℕ) → first-by b o ≡ None → (b ≡ true) × (o ≡ None)
  first-none true None e = (refl, refl)
  first-none true (Some k) e = absurd (none-some (suc k) (sym e))
  first-none false o e = absurd (none-some 0 (sym e))

  none-parts : (t : Task) (ts : List Task) → first_untold r (t ∷ ts) ≡ None → (has_told r (view_of t) ≡ true) × (first_untold r ts ≡ None)
  none-parts t ts e = first-none (has_told r (view_of t)) (first_untold r ts) (sym (more t ts) ∙ e)

  none-cons : (t : Task) (ts : List Task) → has_told r (view_of t) ≡ true → first_untold r ts ≡ None → first_untold r (t ∷ ts) ≡ None
  none-cons t ts now e = more t ts ∙ ap (λ b. first-by b (first_untold r ts)) now ∙ ap (λ o. first-by true o) e

  -- where all have told
  pub have-all : (ts : List Task) (n : ℕ) → first_untold r ts ≡ None → HaveTold r n ts
  have-all ts zero e = tt
  have-all [] (suc n) e = tt
  have-all (t ∷ ts) (suc n) e = let parts = none-parts t ts e in (parts.0, have-all ts n parts.1)

  rest-all : (ts : List Task) (n : ℕ) → first_untold r ts ≡ None → RestTold r n ts
  rest-all ts zero e = e
  rest-all [] (suc n) e = refl
  rest-all (t ∷ ts) (suc n) e = rest-all ts n (none-parts t ts e).1

  -- fewer of them
  pub have-fewer : (ts : List Task) (m n : ℕ) → m ≤ n → HaveTold r n ts → HaveTold r m ts
  have-fewer ts zero n le h = tt
  have-fewer [] (suc m) n le h = tt
  have-fewer (t ∷ ts) (suc m) zero le h = absurd (omega arith)
  have-fewer (t ∷ ts) (suc m) (suc n) le h = (h.0, have-fewer ts m n (omega arith) h.1)

  pub rest-fewer : (ts : List Task) (m n : ℕ) → m ≤ n → RestTold r m ts → RestTold r n ts
  rest-fewer ts zero n le h = rest-all ts n h
  rest-fewer [] (suc m) zero le h = absurd (omega arith)
  rest-fewer [] (suc m) (suc n) le h = refl
  rest-fewer (t ∷ ts) (suc m) zero le h = absurd (omega arith)
  rest-fewer (t ∷ ts) (suc m) (suc n) le h = rest-fewer ts m n (omega arith) h

  -- none is after the last
  pub rest-none : (ts : List Task) → RestTold r (length ts) ts
  rest-none ts = let past : length ts ≤ length ts = omega arith in ap (λ us. first_untold r us) (drop_all (length ts) ts past)

  -- another task in the place of one that isn't among them
  pub have-set : (ts : List Task) (n i : ℕ) (u : Task) → n ≤ i → HaveTold r n ts → HaveTold r n (set ts i u)
  have-set ts zero i u le h = tt
  have-set [] (suc n) i u le h = tt
  have-set (t ∷ ts) (suc n) zero u le h = absurd (omega arith)
  have-set (t ∷ ts) (suc n) (suc i) u le h = (h.0, have-set ts n i u (omega arith) h.1)

  pub rest-set : (ts : List Task) (n i : ℕ) (u : Task) → i < n → RestTold r n ts → RestTold r n (set ts i u)
  rest-set ts n i u lt h = ap (λ us. first_untold r us) (drop-set-lt n ts i u lt) ∙ h

  -- a task that has told, in any place
  pub have-told : (ts : List Task) (n i : ℕ) (u : Task) → has_told r (view_of u) ≡ true → HaveTold r n ts → HaveTold r n (set ts i u)
  have-told ts zero i u now h = tt
  have-told [] (suc n) i u now h = tt
  have-told (t ∷ ts) (suc n) zero u now h = (now, h.1)
  have-told (t ∷ ts) (suc n) (suc i) u now h = (h.0, have-told ts n i u now h.1)

  none-told : (ts : List Task) (i : ℕ) (u : Task) → has_told r (view_of u) ≡ true → first_untold r ts ≡ None → first_untold r (set ts i u) ≡ None
  none-told [] i u now e = refl
  none-told (t ∷ ts) zero u now e = none-cons u ts now (none-parts t ts e).1
  none-told (t ∷ ts) (suc i) u now e = let parts = none-parts t ts e in none-cons t (set ts i u) parts.0 (none-told ts i u now parts.1)

  pub rest-told : (ts : List Task) (n i : ℕ) (u : Task) → has_told r (view_of u) ≡ true → RestTold r n ts → RestTold r n (set ts i u)
  rest-told ts zero i u now h = none-told ts i u now h
  rest-told [] (suc n) i u now h = refl
  rest-told (t ∷ ts) (suc n) zero u now h = h
  rest-told (t ∷ ts) (suc n) (suc i) u now h = rest-told ts n i u now h
