-- A store of control is the first move that is left, and the others are left after it; a wait leaves the moves behind its own.
use Rattle.std.proofs.Common.{◌≡◌, Bool, true, false, ℕ, zero, suc, ◌+◌, ◌-◌, ◌<◌, ◌≤◌, List, [], ◌∷◌, ◌++◌, map, cond, refl, sym, ap, ◌∙◌, arith}
use Rattle.std.specs.Prelude.{nat_lt}
use Rattle.std.specs.List.{range_with_len}
use Rattle.std.proofs.lemmas.Bool.Decides.{nat_tests}
use Rattle.ft_base.specs.Job.{Job}
use Rattle.word_map.specs.Words.{Word}
use Rattle.word_map.specs.Ops.{Store}
use Rattle.patch_core.specs.Moves.{Move as BatchMove, Put as BatchPut, Sync as BatchSync, Done}
use Rattle.word_machine.specs.Commands.{Effect, Adds, Removes, Edits, Enables, Disables, Lists, Levels, Nothing, effect, subject, set_words, has_slot_at, moves}
use Rattle.word_machine.specs.Control.{Control, Position, Take, Copy, Select, Awaited, Cpus, Tasks, Release, Close, copy_from, begin_in, before_moves, after_batch_in, selected_in, released_in, after_wait, relink_op, got_in}
use Rattle.word_machine.proofs.Small.{if_case}
use Rattle.command_moves.specs.Program.{Move, Put, Quiet, set_store, sets_then, state_store, link_store, first_store, pids_store, depth_store, take_store, given, move_if, patch_then, program_of}
use Rattle.command_moves.specs.Left.{left_in, idle, behind, patch_left, after_left, released_left, relink_store, relink_left, copy_left, half_left, select_left, selected_left}

module _ (job : Job) (s : Control) where
  abbrev d : ℕ
  d = s.commands_done

  -- control stands before these moves
  abbrev pub Leads : Control → Position → List Move → Type 0
  Leads t p rest = (left_in job t p ≡ rest) × (idle p ≡ true)

  module _ (t : Control) (same : t.commands_done ≡ s.commands_done) where
    released : (z : Effect) → Leads t (released_in job d z) (released_left job d z)
    released Removes = if_case (λ p. Leads t p (given job d))
        (has_slot_at job d (subject job d)) Release Close (λ e. (rw (e, same) refl, refl)) (λ e. (rw e refl, refl))
    released _ = (refl, refl)

    after : (z : Effect) → effect job d ≡ z → Leads t (after_batch_in z) (after_left job d z)
    after Removes e = (rw (same, e) refl, refl)
    after Edits e = (rw (same, e) refl, refl)
    after _ e = (refl, refl)

    pub before : (rest : List BatchMove) → Leads t (before_moves job d rest) (patch_left job d rest)
    before [] = after (effect job d) refl
    before (Done ∷ rest) = after (effect job d) refl
    before (BatchPut w x ∷ rest) = (rw same refl, refl)
    before (BatchSync ∷ rest) = (rw same refl, refl)

    pub waited-on : (whom : Awaited) → Leads t (after_wait job d whom) (behind job d whom)
    waited-on (Cpus rest) = before rest
    waited-on Tasks = released (effect job d)

  none-left : (half w : ℕ) (l : List Move) → set_words job ≤ w → half_left job s half w l ≡ l
  none-left half w l le = ap (λ n. map (set_store job s half) (range_with_len w n) ++ l) (let e : set_words job - w ≡ 0 = omega (arith, le) in e)

  -- what follows a word of the copy
  pub copies : (h w : ℕ) → h < 2 → Leads s (copy_from job h w) (copy_left job s h w)
  copies zero w lt = if_case (λ p. Leads s p (copy_left job s 0 w)) (nat_lt w (set_words job)) (Copy 0 w) (cond (nat_lt 0 (set_words job)) (Copy 1 0) Select) (λ e. (refl, refl))
      (λ e. let le : set_words job ≤ w = grind (arith, nat_tests) in
      if_case (λ p. Leads s p (copy_left job s 0 w)) (nat_lt 0 (set_words job)) (Copy 1 0) Select
      (λ f. (sym (none-left 0 w (half_left job s 1 0 (select_left job s)) le), refl))
      (λ f. let no-words : set_words job ≤ 0 = grind (arith, nat_tests) in
      (sym (none-left 0 w (half_left job s 1 0 (select_left job s)) le ∙ none-left 1 0 (select_left job s) no-words), refl)))
  copies (suc h) w lt = if_case (λ p. Leads s p (copy_left job s (suc h) w)) (nat_lt w (set_words job)) (Copy 1 w) Select (λ e. (refl, refl))
      (λ e. let le : set_words job ≤ w = grind (arith, nat_tests) in (sym (none-left 1 w (select_left job s) le), refl))

  first-left : (half w : ℕ) (l : List Move) → w < set_words job → half_left job s half w l ≡ set_store job s half w ∷ half_left job s half (suc w) l
  first-left half w l lt =
      ap (λ n. map (set_store job s half) (range_with_len w n) ++ l) (let e : set_words job - w ≡ suc (set_words job - suc w) = omega (arith, lt) in e)
      ∙ ap (λ n. set_store job s half w ∷ (map (set_store job s half) (range_with_len n (set_words job - suc w)) ++ l)) (let e : w + 1 ≡ suc w = omega arith in e)

  pub one-copy : (h w : ℕ) → h < 2 → w < set_words job → copy_left job s h w ≡ set_store job s h w ∷ copy_left job s h (suc w)
  one-copy zero w lt lw = first-left 0 w _ lw
  one-copy (suc zero) w lt lw = first-left 1 w _ lw
  one-copy (suc (suc h)) w lt lw = absurd (omega (arith, lt))

  pub select-goes : (v : ℕ) → Leads (got_in job s Select v) (selected_in job d (effect job d)) (selected_left job s (effect job d))
  select-goes v = by (effect job d) refl
    where
      by : (z : Effect) → effect job d ≡ z → Leads (got_in job s Select v) (selected_in job d z) (selected_left job s z)
      by Edits e = before (got_in job s Select v) refl (moves job d)
      by _ e = (refl, refl)

  pub relinks : (z : Effect) → (w : Word) × (x : ℕ) × (relink_store job s z ≡ Put w x) × (relink_op z (subject job d) s.order ≡ Store w x)
  relinks Removes = (_, _, refl, refl)
  relinks _ = (_, _, refl, refl)

  -- ## a command begins with all its moves left

  all-sets : (l : List Move) → half_left job s 0 0 (half_left job s 1 0 l) ≡ sets_then job s l
  all-sets l = ap (λ n. map (set_store job s 0) (range_with_len 0 n) ++ (map (set_store job s 1) (range_with_len 0 n) ++ l)) (let e : set_words job - 0 ≡ set_words job = omega arith in e)

  begin-copies : left_in job s (copy_from job 0 0) ≡ sets_then job s (select_left job s)
  begin-copies = (copies 0 0 (omega arith)).0 ∙ all-sets (select_left job s)

  select-is : (z : Effect) → effect job d ≡ z → select_left job s ≡ state_store job s ∷ selected_left job s z
  select-is z e = ap (λ (z : Effect). state_store job s ∷ selected_left job s z) e

  relink-is : (z : Effect) → effect job d ≡ z → relink_left job s ≡ relink_store job s z ∷ patch_then job s (after_left job d z)
  relink-is z e = ap (λ (z : Effect). relink_store job s z ∷ patch_then job s (after_left job d z)) e

  pub begins : (z : Effect) → effect job d ≡ z → left_in job s (begin_in job d z) ≡ program_of job s z
  begins Adds e = if_case (λ p. left_in job s p ≡ program_of job s Adds) (has_slot_at job (suc d) (subject job d)) Take (copy_from job 0 0)
      (λ f. ap (λ (l : List Move). take_store job s ∷ l) (all-sets (select_left job s) ∙ onward) ∙ sym (with-slot true f))
      (λ f. begin-copies ∙ onward ∙ sym (with-slot false f))
    where
      rest : List Move
      rest = sets_then job s (state_store job s ∷ link_store job s ∷ first_store job s ∷ patch_then job s [])

      with-slot : (b : Bool) → has_slot_at job (suc d) (subject job d) ≡ b → program_of job s Adds ≡ move_if b (take_store job s) ++ rest
      with-slot b f = ap (λ (b : Bool). move_if b (take_store job s) ++ rest) f

      onward : sets_then job s (select_left job s) ≡ rest
      onward = ap (λ (l : List Move). sets_then job s l)
          (select-is Adds e ∙ ap (λ (l : List Move). state_store job s ∷ link_store job s ∷ l) (relink-is Adds e))
  begins Removes e = select-is Removes e ∙ ap (λ (l : List Move). state_store job s ∷ l) (relink-is Removes e)
  begins Edits e = begin-copies ∙ ap (λ (l : List Move). sets_then job s l)
      (select-is Edits e ∙ ap (λ (z : Effect). state_store job s ∷ patch_then job s (after_left job d z)) e)
  begins Disables e = select-is Disables e ∙ ap (λ (z : Effect). state_store job s ∷ Quiet ∷ released_left job d z) e
  begins Lists e = ap (λ (z : Effect). pids_store job s ∷ Quiet ∷ released_left job d z) e
  begins Levels e = ap (λ (z : Effect). depth_store job s ∷ Quiet ∷ released_left job d z) e
  begins Enables e = select-is Enables e
  begins Nothing e = refl
