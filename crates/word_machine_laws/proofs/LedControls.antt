-- Control that isn't at its end makes the same operation, and the same of its value, whatever lines come after those that were led.
use Rattle.std.proofs.Common.{◌≡◌, ◌⊎◌, inl, inr, ℕ, suc, ◌+◌, ◌<◌, Bool, true, false, nat_le, List, [], ◌∷◌, ◌++◌, length, Some, None, Option, refl, sym, ap, ◌∙◌, subst, arith, if◌then◌else◌}
use Rattle.ft_base.specs.declared.item.Item.TheVariants.{Begin, Return}
use Rattle.ft_base.specs.Job.{Job, Command, Ctl, LinePlan, Run, Until, commands}
use Rattle.ft_base.specs.Desk.{desk, answer_on}
use Rattle.word_map.specs.Contents.{high}
use Rattle.word_map.specs.Words.{at_put}
use Rattle.word_map.specs.Ops.{WordOp, Mark}
use Rattle.grace_core.specs.declared.waiter.WaitPhase.{WaitPhase}
use Rattle.grace_core.specs.declared.waiter.WaitPhase.TheVariants.{Asking, Waiting, Ended}
use Rattle.grace_core.specs.Waits.{wait_got}
use Rattle.patch_core.specs.Moves.{Move, Done}
use Rattle.word_machine.specs.Commands.{Effect, Adds, Removes, Edits, command, effect, moves, subject}
use Rattle.word_machine.specs.Control.{Control, Position, Line, Take, Copy, Select, Push, Relink, StorePids, StoreDepth, Patch, Awaited, Ask, Await, Cpus, Tasks, Release, Close, next_in, got_in, control_next, control_got, answer_in, line_op, line_got, rest_lines, begin_in, before_moves, batch_first, selected_in, released_in, wait_for, in_wait, at_position, asked, copy_after, relinked}
use Rattle.word_machine.specs.Rule.{ControlLines, UnderAt}
use Rattle.word_machine_laws.specs.Led.{later, more_to_come}
use Rattle.word_machine_laws.proofs.LedDesks.{same_command, same_desk, same_effect, same_moves}
use Rattle.word_machine_laws.proofs.LedLists.{get_within}

-- ## where control stands

-- the present line is a command
abbrev pub IsAtCommand : List Ctl → Type 0
IsAtCommand remaining = (c : Command) × (rest : List Ctl) × (remaining ≡ Run c ∷ rest)

-- the present line is a wait
abbrev pub IsAtWait : List Ctl → Type 0
IsAtWait remaining = (t : ℕ) × (n : ℕ) × (rest : List Ctl) × (remaining ≡ Until t n ∷ rest)

at_line : (d : ℕ) (remaining : List Ctl) (op : WordOp) → line_op d remaining ≡ Some op → IsAtCommand remaining ⊎ IsAtWait remaining
at_line d [] op e = absurd (cc)
at_line d (Run c ∷ rest) op e = inl (c, rest, refl)
at_line d (Until t n ∷ rest) op e = inr (t, n, rest, refl)

-- control is in a command or before one, or before a wait
stands_in : (job : Job) (s : Control) (p : Position) (op : WordOp) → UnderAt p s.remaining → next_in job s p ≡ Some op → IsAtCommand s.remaining ⊎ ((p ≡ Line) × IsAtWait s.remaining)
stands_in job s Line op under e = elim (at_line s.commands_done s.remaining op e) [ inl c ↦ inl c | inr w ↦ inr (refl, w) ]
stands_in job s _ op under e = inl under

-- the command of the present line was led
led_in : (job : Job) (d : ℕ) (p : Position) (gone : ℕ → ℕ) (c : Command) (rest : List Ctl) → ControlLines job d p (Run c ∷ rest) gone → d < length (commands job)
led_in job d p gone c rest lines = let i = get_within (commands job) (d + 0) c (lines.commands 0) in omega (arith, i)

-- ## a command

module _ (job : Job) (more : List Ctl) (plan : LinePlan) (s : Control) (under : s.commands_done < length (commands job)) (c : Command) (rest : List Ctl) (present : s.remaining ≡ Run c ∷ rest) where
  abbrev longer : Job
  longer = later job more plan

  abbrev d : ℕ
  d = s.commands_done

  before : desk longer d ≡ desk job d
  before = same_desk job more plan d (omega (arith, under))

  after : desk longer (suc d) ≡ desk job (suc d)
  after = same_desk job more plan (suc d) (omega (arith, under))

  now : command longer d ≡ command job d
  now = same_command job more plan d under

  does : effect longer d ≡ effect job d
  does = same_effect job more plan d under

  answer_same : (x : Option Command) → answer_in longer d x ≡ answer_in job d x
  answer_same None = refl
  answer_same (Some x) = ap (λ k. answer_on job k x) before

  next_same : (p : Position) → next_in longer (more_to_come more s) p ≡ next_in job s p
  next_same Line = ap (λ l. line_op d (l ++ more)) present ∙ sym (ap (line_op d) present)
  next_same Take = let e = after in let f = now in cc
  next_same (Copy half w) = let e = after in let f = now in cc
  next_same Select = let e = after in let f = now in let g = does in cc
  next_same Push = let f = now in cc
  next_same Relink = let f = now in let g = does in cc
  next_same StorePids = let e = after in cc
  next_same StoreDepth = let e = after in cc
  next_same Release = let e = before in let f = now in cc
  next_same Close = ap (λ x. Some (Mark (Return (suc d) x))) (answer_same (command longer d) ∙ ap (λ x. answer_in job d x) now)
  next_same _ = refl

  pub same_next : control_next longer (more_to_come more s) ≡ control_next job s
  unfolding control_next
  same_next = next_same s.position

  -- ## what a value makes of it

  begin_same : (e : Effect) → begin_in longer d e ≡ begin_in job d e
  begin_same Adds = let e = after in let f = now in cc
  begin_same _ = refl

  before_same : (rest : List Move) → before_moves longer d rest ≡ before_moves job d rest
  before_same [] = let e = does in cc
  before_same (Done ∷ rest) = let e = does in cc
  before_same _ = refl

  first_same : batch_first longer d ≡ batch_first job d
  first_same = ap (before_moves longer d) (same_moves job more plan d under) ∙ before_same (moves job d)

  selected_same : (e : Effect) → selected_in longer d e ≡ selected_in job d e
  selected_same Edits = first_same
  selected_same _ = refl

  released_same : (e : Effect) → released_in longer d e ≡ released_in job d e
  released_same Removes = let e = before in let f = now in cc
  released_same _ = refl

  -- where control stands in a wait, and after it
  wait_same : (whom : Awaited) (phase : WaitPhase) → in_wait longer d whom phase ≡ in_wait job d whom phase
  wait_same whom Asking = refl
  wait_same whom (Waiting n) = refl
  wait_same (Cpus rest) Ended = before_same rest
  wait_same Tasks Ended = released_same (effect longer d) ∙ ap (released_in job d) does

  abbrev at : Position → Control
  at p = more_to_come more (at_position s p)

  subject_same : subject longer d ≡ subject job d
  subject_same = let f = now in cc

  abbrev selected_at : ℕ → Effect → Position → Control
  selected_at u e p = record {
    commands_done = d;
    remaining = s.remaining ++ more;
    request = s.request;
    copies = at_put s.copies u (copy_after e (s.copies u));
    order = s.order;
    position = p;
  }

  abbrev relinked_at : ℕ → Effect → Position → Control
  relinked_at u e p = record { commands_done = d; remaining = s.remaining ++ more; request = s.request; copies = s.copies; order = relinked e u s.order; position = p }

  abbrev closed_at : List Ctl → Control
  closed_at l = record { commands_done = suc d; remaining = l; request = s.request; copies = s.copies; order = s.order; position = Line }

  got_same : (p : Position) (v : ℕ) → got_in longer (more_to_come more s) p v ≡ more_to_come more (got_in job s p v)
  got_same Line v =
      ap (λ l. line_got longer (more_to_come more s) (l ++ more) v) present
      ∙ ap at (begin_same (effect longer d) ∙ ap (begin_in job d) does)
      ∙ sym (ap (λ l. more_to_come more (line_got job s l v)) present)
  got_same Select v =
      ap (λ u. selected_at u (effect longer d) (selected_in longer d (effect longer d))) subject_same
      ∙ ap (λ e. selected_at (subject job d) e (selected_in longer d (effect longer d))) does
      ∙ ap (selected_at (subject job d) (effect job d)) (selected_same (effect longer d) ∙ ap (selected_in job d) does)
  got_same Relink v =
      ap (λ u. relinked_at u (effect longer d) (batch_first longer d)) subject_same
      ∙ ap (λ e. relinked_at (subject job d) e (batch_first longer d)) does
      ∙ ap (relinked_at (subject job d) (effect job d)) first_same
  got_same (Patch w x rest) v = ap at (before_same rest)
  got_same (Ask whom) v =
      ap (λ p. more_to_come more (asked s p)) (wait_same whom (wait_got (wait_for job whom (suc s.request) Asking) v).phase)
  got_same (Await whom n) v = ap at (wait_same whom (wait_got (wait_for job whom s.request (Waiting n)) v).phase)
  got_same Close v = ap (λ l. closed_at (rest_lines (l ++ more))) present ∙ sym (ap (λ l. closed_at (rest_lines l ++ more)) present)
  got_same _ v = refl

  pub same_got : (v : ℕ) → control_got longer (more_to_come more s) v ≡ more_to_come more (control_got job s v)
  unfolding control_got
  same_got v = got_same s.position v

-- ## a wait

module _ (job : Job) (more : List Ctl) (plan : LinePlan) (s : Control) (t n : ℕ) (rest : List Ctl) (present : s.remaining ≡ Until t n ∷ rest) where
  abbrev left_at : List Ctl → Control
  left_at l = record s { remaining = l }

  until_next : (p : Position) → p ≡ Line → next_in (later job more plan) (more_to_come more s) p ≡ next_in job s p
  until_next p at =
      ap (next_in (later job more plan) (more_to_come more s)) at
      ∙ ap (λ l. line_op s.commands_done (l ++ more)) present
      ∙ sym (ap (line_op s.commands_done) present)
      ∙ sym (ap (next_in job s) at)

  one_or_other : (b : Bool) → left_at (if b then rest ++ more else Until t n ∷ rest ++ more) ≡ more_to_come more (left_at (if b then rest else Until t n ∷ rest))
  one_or_other true = refl
  one_or_other false = refl

  until_got : (p : Position) → p ≡ Line → (v : ℕ) → got_in (later job more plan) (more_to_come more s) p v ≡ more_to_come more (got_in job s p v)
  until_got p at v =
      ap (λ q. got_in (later job more plan) (more_to_come more s) q v) at
      ∙ ap (λ l. line_got (later job more plan) (more_to_come more s) (l ++ more) v) present
      ∙ one_or_other (nat_le n (high v))
      ∙ sym (ap (λ l. more_to_come more (line_got job s l v)) present)
      ∙ sym (ap (λ q. more_to_come more (got_in job s q v)) at)

  pub same_wait_next : s.position ≡ Line → control_next (later job more plan) (more_to_come more s) ≡ control_next job s
  unfolding control_next
  same_wait_next at = until_next s.position at

  pub same_wait_got : s.position ≡ Line → (v : ℕ) → control_got (later job more plan) (more_to_come more s) v ≡ more_to_come more (control_got job s v)
  unfolding control_got
  same_wait_got at v = until_got s.position at v

-- ## either

module _ (job : Job) (more : List Ctl) (plan : LinePlan) (s : Control) (gone : ℕ → ℕ) (op : WordOp) (lines : ControlLines job s.commands_done s.position s.remaining gone) (now : control_next job s ≡ Some op) where
  stands : IsAtCommand s.remaining ⊎ ((s.position ≡ Line) × IsAtWait s.remaining)
  unfolding control_next
  stands = stands_in job s s.position op lines.under now

  was_led : (c : Command) (rest : List Ctl) → s.remaining ≡ Run c ∷ rest → s.commands_done < length (commands job)
  was_led c rest present = led_in job s.commands_done s.position gone c rest (subst (λ l. ControlLines job s.commands_done s.position l gone) present lines)

  pub next_kept : control_next (later job more plan) (more_to_come more s) ≡ Some op
  next_kept = let same = elim stands as (λ _. control_next (later job more plan) (more_to_come more s) ≡ control_next job s) [
    | inl c ↦ same_next job more plan s (was_led c.0 c.1 c.2) c.0 c.1 c.2
    | inr w ↦ same_wait_next job more plan s w.1.0 w.1.1 w.1.2 w.1.3 w.0
  ] in same ∙ now

  pub got_kept : (v : ℕ) → control_got (later job more plan) (more_to_come more s) v ≡ more_to_come more (control_got job s v)
  got_kept v = elim stands [
    | inl c ↦ same_got job more plan s (was_led c.0 c.1 c.2) c.0 c.1 c.2 v
    | inr w ↦ same_wait_got job more plan s w.1.0 w.1.1 w.1.2 w.1.3 w.0 v
  ]

-- ## the end of the lines so far

no_line : (d : ℕ) (remaining : List Ctl) → line_op d remaining ≡ None → remaining ≡ []
no_line d [] e = refl
no_line d (Run c ∷ rest) e = absurd (cc)
no_line d (Until t n ∷ rest) e = absurd (cc)

no_op : (op : WordOp) → Some op ≡ None → ⊥
no_op op e = cc

-- control without an operation is at a line, and none is left
ended_in : (job : Job) (s : Control) (p : Position) → next_in job s p ≡ None → (p ≡ Line) × (s.remaining ≡ [])
ended_in job s Line e = (refl, no_line s.commands_done s.remaining e)
ended_in job s _ e = absurd (no_op _ e)

pub ended : (job : Job) (s : Control) → control_next job s ≡ None → (s.position ≡ Line) × (s.remaining ≡ [])
unfolding control_next
ended job s e = ended_in job s s.position e

-- so with a command to come its next operation is the mark of that command's Begin
begins_in : (job : Job) (s : Control) (c : Command) (rest : List Ctl) → s.position ≡ Line → s.remaining ≡ Run c ∷ rest → control_next job s ≡ Some (Mark (Begin (suc s.commands_done)))
unfolding control_next
begins_in job s c rest at present = ap (next_in job s) at ∙ ap (line_op s.commands_done) present

pub begins : (job : Job) (more : List Ctl) (plan : LinePlan) (c : Command) (s : Control) → control_next job s ≡ None
    → control_next (later job (Run c ∷ more) plan) (more_to_come (Run c ∷ more) s) ≡ Some (Mark (Begin (suc s.commands_done)))
begins job more plan c s over =
    let e = ended job s over in
    begins_in (later job (Run c ∷ more) plan) (more_to_come (Run c ∷ more) s) c more e.0 (ap (λ (l : List Ctl). l ++ Run c ∷ more) e.1)
