-- Runs of a task and of control reach what they come to.
use Rattle.std.proofs.Common.{◌≡◌, ℕ, zero, suc, ◌+◌, ◌<◌, ◌≤◌, arith, true, false, List, [], ◌∷◌, length, set, get_or, slice_get, refl, ap, ◌∙◌, sym, subst, add-zero, add-suc, ◌-◌, ◌≢◌, replicate, map, inl, inr}
use Rattle.std.proofs.lemmas.Bool.{cases_eq}
use Rattle.std.proofs.lemmas.List.{get_or-set_same, get_or-set_other, set-get_or, set-set}
use Rattle.script_waits.specs.declared.script.LinedAct.{LinedAct}
use Rattle.script_waits.specs.declared.script.ControlLine.{ControlLine}
use Rattle.script_waits.specs.declared.script.LinedTask.{LinedTask as KeptTask}
use Rattle.script_waits.specs.Tasks.{lined_task, tracks_of}
use Rattle.script_waits.specs.Greedy.{commands_in, passes_act, passes_line, Reaches, task, control}

module _ (tracks : List (List LinedAct)) (lines : List ControlLine) where
  pub control-run : (acts : List ℕ) (from d : ℕ) → ((k : ℕ) → from ≤ k → k < from + d → passes_line acts (slice_get lines k) ≡ true)
      → Reaches tracks lines (record { acts = acts; lines = from }) → Reaches tracks lines (record { acts = acts; lines = from + d })
  control-run acts from zero passed h = subst (λ n. Reaches tracks lines (record { acts = acts; lines = n })) (sym (add-zero from)) h
  control-run acts from (suc d) passed h =
      let before = control-run acts from d (λ k a b. passed k a (omega (arith, add-suc from d))) h in
      subst (λ n. Reaches tracks lines (record { acts = acts; lines = n })) (sym (add-suc from d))
      (control _ before (passed (from + d) (omega arith) (omega (arith, add-suc from d))))

  pub task-run : (acts : List ℕ) (n t d : ℕ) → t < length acts
      → ((k : ℕ) → get_or acts t 0 ≤ k → k < get_or acts t 0 + d → passes_act (commands_in lines n) (slice_get (get_or tracks t []) k) ≡ true)
      → Reaches tracks lines (record { acts = acts; lines = n }) → Reaches tracks lines (record { acts = set acts t (get_or acts t 0 + d); lines = n })
  task-run acts n t zero within passed h = subst (λ xs. Reaches tracks lines (record { acts = xs; lines = n })) (sym (ap (set acts t) (add-zero (get_or acts t 0)) ∙ set-get_or acts t 0)) h
  task-run acts n t (suc d) within passed h =
      let from : ℕ = get_or acts t 0 in
      let before = task-run acts n t d within (λ k a b. passed k a (omega (arith, add-suc from d))) h in
      let here : get_or (set acts t (from + d)) t 0 ≡ from + d = get_or-set_same acts t (from + d) 0 within in
      let goes = subst (λ k. passes_act (commands_in lines n) (slice_get (get_or tracks t []) k) ≡ true) (sym here) (passed (from + d) (omega arith) (omega (arith, add-suc from d))) in
      subst (λ xs. Reaches tracks lines (record { acts = xs; lines = n }))
      (ap (λ k. set (set acts t (from + d)) t (suc k)) here ∙ set-set acts t (from + d) (suc (from + d)) ∙ ap (set acts t) (sym (add-suc from d)))
      (task _ t before goes)

-- the acts of one task
pub track-at : (tasks : List KeptTask) (t : ℕ) (x : KeptTask) → t < length tasks → x ≡ get_or tasks t x → get_or (tracks_of (map lined_task tasks)) t [] ≡ x.acts.items
track-at [] t x h e = absurd (omega (arith, h))
track-at (y ∷ ys) zero x h e = ap (λ (z : KeptTask). z.acts.items) (sym e)
track-at (y ∷ ys) (suc t) x h e = track-at ys t x (omega arith) e

pub length-tracks : (tasks : List KeptTask) → length (tracks_of (map lined_task tasks)) ≡ length tasks
length-tracks [] = refl
length-tracks (y ∷ ys) = ap suc (length-tracks ys)

-- one task has gone as far as it goes
module _ (tracks : List (List LinedAct)) (at : List ℕ) (t r commands : ℕ) (inside : t < length at) (up : get_or at t 0 ≤ r) (bound : r ≤ length (get_or tracks t []))
    (passed : (k : ℕ) → get_or at t 0 ≤ k → k < r → passes_act commands (slice_get (get_or tracks t []) k) ≡ true)
    (stops : passes_act commands (slice_get (get_or tracks t []) r) ≡ false) where
  same : get_or (set at t r) t 0 ≡ r
  same = get_or-set_same at t r 0 inside

  other : (k : ℕ) → k ≢ t → get_or (set at t r) k 0 ≡ get_or at k 0
  other k ne = get_or-set_other at t k r 0 ne

  pub within-more : ((k : ℕ) → get_or at k 0 ≤ length (get_or tracks k [])) → (k : ℕ) → get_or (set at t r) k 0 ≤ length (get_or tracks k [])
  within-more h k = elim (cases_eq k t) [
    | inl e ↦ subst (λ i. get_or (set at t r) i 0 ≤ length (get_or tracks i [])) (sym e) (rw same bound)
    | inr ne ↦ rw (other k ne) (h k)
  ]

  pub stops-more : ((k : ℕ) → k < t → passes_act commands (slice_get (get_or tracks k []) (get_or at k 0)) ≡ false)
      → (k : ℕ) → k < t + 1 → passes_act commands (slice_get (get_or tracks k []) (get_or (set at t r) k 0)) ≡ false
  stops-more h k below = elim (cases_eq k t) [
    | inl e ↦ subst (λ i. passes_act commands (slice_get (get_or tracks i []) (get_or (set at t r) i 0)) ≡ false) (sym e) (rw same stops)
    | inr ne ↦ rw (other k ne) (h k (omega arith))
  ]

  pub reached-more : (lines : List ControlLine) (n : ℕ) → commands ≡ commands_in lines n → Reaches tracks lines (record { acts = at; lines = n }) → Reaches tracks lines (record { acts = set at t r; lines = n })
  reached-more lines n e h =
      let d : ℕ = r - get_or at t 0 in
      let sum : get_or at t 0 + d ≡ r = omega arith in
      subst (λ x. Reaches tracks lines (record { acts = set at t x; lines = n })) sum
      (task-run tracks lines at n t d inside (λ k a b. subst (λ x. passes_act x (slice_get (get_or tracks t []) k) ≡ true) e (passed k a (omega arith))) h)

pub past-stops : (tracks : List (List LinedAct)) (k i commands : ℕ) → length tracks ≤ k → passes_act commands (slice_get (get_or tracks k []) i) ≡ false
past-stops [] k i commands h = refl
past-stops (x ∷ xs) zero i commands h = absurd (omega (arith, h))
past-stops (x ∷ xs) (suc k) i commands h = past-stops xs k i commands (omega arith)

pub zeros-at : (n k : ℕ) → get_or {A = ℕ} (replicate n 0) k 0 ≡ 0
zeros-at zero k = refl
zeros-at (suc n) zero = refl
zeros-at (suc n) (suc k) = zeros-at n k

-- control goes on to a later line
pub control-to : (tracks : List (List LinedAct)) (lines : List ControlLine) (acts : List ℕ) (from to : ℕ) → from ≤ to → ((k : ℕ) → from ≤ k → k < to → passes_line acts (slice_get lines k) ≡ true)
    → Reaches tracks lines (record { acts = acts; lines = from }) → Reaches tracks lines (record { acts = acts; lines = to })
control-to tracks lines acts from to up passed h =
    let sum : from + (to - from) ≡ to = omega arith in
    subst (λ n. Reaches tracks lines (record { acts = acts; lines = n })) sum (control-run tracks lines acts from (to - from) (λ k a b. passed k a (omega arith)) h)
