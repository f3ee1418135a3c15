-- Legal and whole histories, of any list of actors and of a replay.
use Rattle.std.proofs.Common.{◌≡◌, ℕ, zero, suc, ◌+◌, ◌<◌, ◌≤◌, Bool, true, false, List, [], ◌∷◌, length, reverse, get_or, None, cond, refl, sym, ap, ◌∙◌, subst, arith}
use Rattle.std.specs.Prelude.{Option, slice_get, IfSome}
use Rattle.std.proofs.lemmas.List.{reverse-reverse}
use Rattle.ft_base.specs.declared.item.Item.{Item}
use Rattle.ft_base.specs.declared.context.Ctx.{Ctx}
use Rattle.ft_base.specs.declared.task.TaskAct.{TaskAct}
use Rattle.ft_base.specs.declared.turn.Actor.{Actor}
use Rattle.ft_base.specs.Job.{Job, Command, Ctl, no_task, commands, commands_in}
use Rattle.ft_base.specs.Tasks.{has_acts}
use Rattle.ft_base.proofs.Small.{false_true, and_both}
use Rattle.ft_hist.specs.Past.{done}
use Rattle.ft_hist.specs.Plain.{plain, PlainTask, Ahead}
use Rattle.ft_hist.specs.Rules.{IsLegal, IsLegalPast, IsWhole, HasEnded}
use Rattle.ft_hist.specs.Frames.{is_nil}
use Rattle.word_machine.specs.Control.{Control, Position, Line, Take}
use Rattle.word_machine.specs.Task.{OpenCall, TaskState, Moment, Polling, First}
use Rattle.word_machine.specs.Cpu.{Cpu, Phase, Over, any_has_more, has_more}
use Rattle.word_machine.specs.Machine.{World, run, all_end, is_end, control_is_done, cpus_end, play, start}
use Rattle.word_machine.specs.Verdicts.{Here}
use Rattle.word_machine.specs.Tasks.{TaskRule, scripted_of}
use Rattle.word_machine.specs.Rule.{MachineRule, here, IsOn, IsWordJob, PollAt}
use Rattle.word_machine_laws.proofs.Steps.{run_kept, play_kept}
use Rattle.word_machine_laws.proofs.Room.{legal-turned}
use Rattle.word_machine_laws.proofs.TasksOf.{task_goes_on}
use Rattle.ft_hist.proofs.Laws.{ahead-nothing}

none-past : (xs : List Command) (i : ℕ) → slice_get xs i ≡ None → length xs ≤ i
none-past [] i e = omega arith
none-past (x ∷ xs) zero e = absurd (cc)
none-past (x ∷ xs) (suc i) e = (let h = none-past xs i e in omega (arith, h))

all-of : (cpus : ℕ → Cpu) (c n i : ℕ) → i < n → cpus_end cpus c n ≡ true → is_end (cpus (c + i)).phase ≡ true
all-of cpus c zero i lt e = absurd (omega (arith, lt))
all-of cpus c (suc n) zero lt e = (let z : c ≡ c + 0 = omega arith in
    subst (λ j. is_end (cpus j).phase ≡ true) z (and_both (is_end (cpus c).phase) (cpus_end cpus (suc c) n) e).0)
all-of cpus c (suc n) (suc i) lt e =
    let z : suc c + i ≡ c + suc i = omega arith in
    subst (λ j. is_end (cpus j).phase ≡ true) z (all-of cpus (suc c) n i (omega (arith, lt)) (and_both (is_end (cpus c).phase) (cpus_end cpus (suc c) n) e).1)

over-is : (ph : Phase) → is_end ph ≡ true → ph ≡ Over
over-is Over e = refl
over-is _ e = false_true e

nil-is : (l : List Ctl) → is_nil l ≡ true → l ≡ []
nil-is [] e = refl
nil-is (x ∷ xs) e = false_true e

at-line : (c : Control) (p : Position) → control_is_done c p ≡ true → (p ≡ Line) × (c.remaining ≡ [])
at-line c Line e = (refl, nil-is c.remaining e)
at-line c Take e = false_true e
at-line c _ e = false_true e

module _ (job : Job) (h : Here) (past : List Item) (ack word t : ℕ) where
  ended : (next : ℕ) (acts : List TaskAct) (gone : ℕ) (contexts : List Ctx) (stack : List OpenCall) (own : ℕ) (m : Moment)
      → (k : TaskRule job h past ack word t (record { next = next; acts = acts; gone = gone; contexts = contexts; stack = stack; word = own; moment = m }))
      → has_acts acts ≡ false → HasEnded (done past) k.run.at
  ended next (a ∷ rest) gone contexts stack own m k none = false_true (sym none)
  ended next [] gone contexts [] own Polling k none = (ahead-nothing (done past) k.run.at.acts k.run.at.contexts k.run.at.gone (ap (λ (a : Ahead). a.acts) k.run.ahead), k.run.stack)
  ended next [] gone contexts [] own First k none = (ahead-nothing (done past) k.run.at.acts k.run.at.contexts k.run.at.gone (ap (λ (a : Ahead). a.acts) k.run.ahead), k.run.stack)
  ended next [] gone contexts (c ∷ below) own Polling k none =
      absurd (let s : cond c.scripted (suc (scripted_of below)) (scripted_of below) ≡ 0 = k.script in
      let z : suc (scripted_of below) ≡ 0 = subst (λ b. cond b (suc (scripted_of below)) (scripted_of below) ≡ 0) k.calls.1.1 s in omega (arith, z))
  ended next [] gone contexts (c ∷ below) own First k none =
      absurd (let s : cond c.scripted (suc (scripted_of below)) (scripted_of below) ≡ 0 = k.script in
      let z : suc (scripted_of below) ≡ 0 = subst (λ b. cond b (suc (scripted_of below)) (scripted_of below) ≡ 0) k.calls.1.1 s in omega (arith, z))
  ended next [] gone contexts stack own m k none = false_true k.stands.0

module _ (job : Job) (ok : IsWordJob job) (s : World) (kept : MachineRule job s) (over : all_end job s ≡ true) where
  parts : (control_is_done s.control s.control.position ≡ true) × (cpus_end s.cpus 0 (length job.quanta) ≡ true)
  unfolding all_end
  parts = and_both (control_is_done s.control s.control.position) (cpus_end s.cpus 0 (length job.quanta)) over

  returned : done s.past ≡ length (commands job)
  returned =
      let l = at-line s.control s.control.position parts.0 in
      let c = kept.lines.commands 0 ∙ ap (λ x. slice_get (commands_in x) 0) l.1 in
      let a = none-past (commands job) (s.control.commands_done + 0) c in
      let b = kept.lines.within in let e = kept.counts.returned in omega (arith, a, b, e)

  task-ended : (t : ℕ) → t < length job.tasks → IfSome (plain job t s.past) (HasEnded (done s.past))
  task-ended t there =
      let c : ℕ = (get_or job.tasks t no_task).cpu in let within = ok.placed t there in
      let k = kept.cpus c within in let on : IsOn job c t = (there, refl) in
      let z : 0 + c ≡ c = omega arith in
      let at-end : (s.cpus c).phase ≡ Over =
      over-is (s.cpus c).phase (subst (λ j. is_end (s.cpus j).phase ≡ true) z (all-of s.cpus 0 (length job.quanta) c within parts.1)) in
      let still : any_has_more job (s.cpus c) ≡ false = (subst (λ ph. PollAt job s.control.request c (s.cpus c) ph) at-end k.polls).0 in
      let kt : TaskRule job (here s kept.base) s.past (s.words.ack c) (s.words.quiet t) t ((s.cpus c).tasks t) = k.tasks t on in
      let x : TaskState = (s.cpus c).tasks t in
      subst (λ (o : Option PlainTask). IfSome o (HasEnded (done s.past))) (sym kt.run.is)
      (ended job (here s kept.base) s.past (s.words.ack c) (s.words.quiet t) t x.next x.acts x.gone x.contexts x.stack x.word x.moment kt
      (none (has_more (s.cpus c).tasks t) (λ e. sym still ∙ task_goes_on job c t (s.cpus c) k.number on e)))
    where
      none : (b : Bool) → (b ≡ true → false ≡ true) → b ≡ false
      none true f = false_true (f refl)
      none false f = refl

  pub whole : IsWhole job (reverse s.past)
  unfolding IsLegal
  whole = record {
    legal = subst (λ p. IsLegalPast job p) (sym (reverse-reverse s.past)) kept.legal;
    returned = ap done (reverse-reverse s.past) ∙ returned;
    tasks = λ t there. subst (λ p. IfSome (plain job t p) (HasEnded (done p))) (sym (reverse-reverse s.past)) (task-ended t there);
  }

-- ## runs and replays

module _ (job : Job) (ok : IsWordJob job) where
  pub every_run_is_legal : (as' : List Actor) → IsLegal job (reverse (run job as' (start job)).past)
  every_run_is_legal as' = legal-turned job (run job as' (start job)).past (run_kept job ok as').legal

  pub every_ended_run_is_whole : (as' : List Actor) → all_end job (run job as' (start job)) ≡ true → IsWhole job (reverse (run job as' (start job)).past)
  every_ended_run_is_whole as' over = whole job ok (run job as' (start job)) (run_kept job ok as') over

  pub every_play_is_legal : IsLegal job (reverse (play job).past)
  every_play_is_legal = legal-turned job (play job).past (play_kept job ok).legal

  pub every_ended_play_is_whole : all_end job (play job) ≡ true → IsWhole job (reverse (play job).past)
  every_ended_play_is_whole over = whole job ok (play job) (play_kept job ok) over
