-- The desk after the first commands of a job.
use Rattle.std.proofs.Common.{◌≡◌, ℕ, zero, suc, ◌+◌, ◌-◌, ◌≤◌, List, length, take, get_or, Some, is_some, refl, sym, ap, ap₂, ◌∙◌, subst, arith, add-one}
use Rattle.std.specs.Prelude.{filter, option_map, slice_get}
use Rattle.std.proofs.lemmas.Option.{slice_get-map, slice_get_past}
use Rattle.std.proofs.lemmas.List.{length-map, length-take, take_all}
use Rattle.ft_base.specs.declared.number.TaskNo.{TaskNo}
use Rattle.ft_base.specs.Job.{Job, Spec, Ctl as PlainCtl, Run as PlainRun, commands, commands_in}
use Rattle.ft_base.specs.Desk.{Desk, after, desk, opening, plain_spec, sited, spec_at}
use Rattle.ft_base.proofs.DeskLaws.{desk-suc}
use Rattle.ft_desk.specs.declared.command.Command.{Command}
use Rattle.ft_desk.specs.declared.command.Ctl.{Ctl}
use Rattle.ft_desk.specs.declared.command.Ctl.TheVariants.{Run, Until}
use Rattle.ft_desk.specs.Commands.{command_of, ctl_of}
use Rattle.ft_desk.specs.Declarations.{Declared, IsOf, bare, job_of}
use Rattle.ft_desk.specs.DeskView.{DeskView, after_command, opened}
use Rattle.ft_desk.specs.Sites.{row_at}
use Rattle.ft_desk.proofs.JobLaws.{opening-is, bare-at}
use Rattle.word_machine_laws.proofs.Limited.{few-commands}
use Rattle.ft_desk.specs.Lines.{lines_of}
use Rattle.ft_desk.proofs.LineLaws.{commands-after, declared-after}
use Rattle.ft_desk.proofs.NextDesk.{state-same}
use Rattle.ft_desk.proofs.LineLaws.{command-at, count-run, count-until}

-- ## rows

module _ (job : Job) (d : Declared) (is : IsOf job d) where
  spec-is : (u : ℕ) → spec_at (job_of d) u ≡ bare (spec_at job u)
  spec-is u = ap (λ (ss : List Spec). get_or ss u plain_spec) is.specs ∙ bare-at job.users u

  -- the row of a function is that of the job
  pub row-is : (t : Desk) (f : ℕ) → row_at (job_of d) t f ≡ row_at job t f
  unfolding row_at
  row-is t f = λ i. record {
    count = length (sited t f);
    regs = length (filter (λ u. (spec-is u i).regs) (sited t f));
    ipmodify = length (filter (λ u. is_some (spec-is u i).ipmodify) (sited t f));
  }

-- ## no more commands

desk-zero : (job : Job) → desk job 0 ≡ opening job
unfolding desk
desk-zero job = refl

-- after the last command the desk stays
pub desk-past : (job : Job) (n m : ℕ) → length (commands job) ≤ n → desk job (n + m) ≡ desk job n
desk-past job n zero past = let e : n + 0 ≡ n = omega arith in ap (desk job) e
desk-past job n (suc m) past =
    let e : n + suc m ≡ suc (n + m) = omega arith in
    ap (desk job) e ∙ desk-suc job (n + m)
    ∙ ap (after job (desk job (n + m)) (suc (n + m))) (slice_get_past (commands job) (n + m) (omega (arith, past)))
    ∙ desk-past job n m past

-- ## a desk that was just made

module _ (s : DeskView) (new : s ≡ opened s.declared) where
  pub new-commands : s.commands ≡ 0
  new-commands = ap (λ (t : DeskView). t.commands) new

  pub new-state : (job : Job) → IsOf job s.declared → s.state ≡ desk job s.commands
  new-state job is =
      ap (λ (t : DeskView). t.state) new ∙ opening-is job s.declared is ∙ sym (desk-zero job) ∙ ap (desk job) (sym new-commands)

-- ## one line more

module _ (old : Declared) (xs : List Ctl) (i : ℕ) (s : DeskView) (kept : s.declared ≡ old)
    (counted : s.commands ≡ length (commands_in (take i (lines_of old.tasks xs)))) where
  seen-line : (y : Ctl) → slice_get xs i ≡ Some y → slice_get (lines_of old.tasks xs) i ≡ Some (ctl_of old.tasks y)
  seen-line y at = slice_get-map (ctl_of old.tasks) xs i ∙ ap (option_map (ctl_of old.tasks)) at

  -- no more commands than lines were planned
  pub few-planned : s.commands ≤ i
  few-planned =
      let a = few-commands (take i (lines_of old.tasks xs)) in let b = length-take i (lines_of old.tasks xs) in omega (arith, counted, a, b)

  next-count : length (commands_in (take (suc i) (lines_of old.tasks xs))) ≡ length (commands_in (take (i + 1) (lines_of old.tasks xs)))
  next-count = ap (λ n. length (commands_in (take n (lines_of old.tasks xs)))) (sym (add-one i))

  -- a wait
  pub counted-wait : (t : TaskNo) (n : ℕ) → slice_get xs i ≡ Some (Until t n) → s.commands ≡ length (commands_in (take (i + 1) (lines_of old.tasks xs)))
  counted-wait t n at = counted ∙ sym (count-until (lines_of old.tasks xs) i t.0 n (seen-line (Until t n) at)) ∙ next-count

  -- a command, which is planned
  module _ (x : Command) (at : slice_get xs i ≡ Some (Run x)) (next : DeskView) (then : next ≡ after_command s (command_of s.declared.tasks x)) where
    command-is : slice_get (lines_of old.tasks xs) i ≡ Some (PlainRun (command_of s.declared.tasks x))
    command-is = seen-line (Run x) at ∙ ap (λ (d : Declared). Some (PlainRun (command_of d.tasks x))) (sym kept)

    pub declared-next : next.declared ≡ old
    declared-next = ap (λ (t : DeskView). t.declared) then ∙ declared-after s (command_of s.declared.tasks x) ∙ kept

    pub commands-next : next.commands ≡ suc s.commands
    commands-next = ap (λ (t : DeskView). t.commands) then ∙ commands-after s (command_of s.declared.tasks x)

    pub counted-next : next.commands ≡ length (commands_in (take (i + 1) (lines_of old.tasks xs)))
    counted-next =
        commands-next ∙ ap suc counted ∙ sym (count-run (lines_of old.tasks xs) i (command_of s.declared.tasks x) command-is) ∙ next-count

    -- it is the job's next command
    pub command-next : (job : Job) → lines_of old.tasks xs ≡ job.ctls → slice_get (commands job) s.commands ≡ Some (command_of s.declared.tasks x)
    command-next job lines =
        ap₂ (λ (ls : List PlainCtl) n. slice_get (commands_in ls) n) (sym lines) counted
        ∙ command-at (lines_of old.tasks xs) i (command_of s.declared.tasks x) command-is

    pub state-next : (job : Job) → IsOf job old → lines_of old.tasks xs ≡ job.ctls → s.state ≡ desk job s.commands → next.state ≡ desk job next.commands
    state-next job is lines same =
        ap (λ (t : DeskView). t.state) then
        ∙ state-same job s s.commands (command_of s.declared.tasks x) (subst (IsOf job) (sym kept) is) same (command-next job lines) refl
        ∙ ap (desk job) (sym commands-next)

  -- the lines are over
  pub counted-over : (job : Job) → lines_of old.tasks xs ≡ job.ctls → length xs ≤ i → s.commands ≡ length (commands job)
  counted-over job lines past =
      counted ∙ ap (λ (ls : List PlainCtl). length (commands_in ls)) (take_all i (lines_of old.tasks xs) (let n = length-map xs (ctl_of old.tasks) in omega (arith, n, past)) ∙ lines)

  pub state-over : (job : Job) (k : ℕ) → lines_of old.tasks xs ≡ job.ctls → length xs ≤ i → s.commands ≤ k → s.state ≡ desk job s.commands → s.state ≡ desk job k
  state-over job k lines past few same =
      let all = counted-over job lines past in
      let e : s.commands + (k - s.commands) ≡ k = omega (arith, few) in
      same ∙ sym (desk-past job s.commands (k - s.commands) (omega (arith, all))) ∙ ap (desk job) e
