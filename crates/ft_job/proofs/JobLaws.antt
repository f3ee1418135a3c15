-- A job and its parts.
use Rattle.std.proofs.Common.{◌≡◌, ℕ, ◌≤◌, List, length, map, Option, Some, None, refl, sym, ap, ◌∙◌, subst, arith}
use Rattle.std.specs.Prelude.{slice_get, option_map}
use Rattle.std.proofs.lemmas.List.{length-map}
use Rattle.ft_base.specs.declared.limits.TheConstants.{TASKS, USERS}
use Rattle.ft_base.specs.declared.task.TaskAct.{TaskAct}
use Rattle.ft_base.specs.Job.{Job, Task}
use Rattle.ft_base.proofs.Versions.{few-largest}
use Rattle.user_specs.specs.Plain.{DeclaredCpu, spec_of, cpu_of}
use Rattle.user_specs.specs.declared.plan.CpuPlan.{CpuPlan}
use Rattle.ft_desk.specs.Lines.{lines_of}
use Rattle.word_machine.specs.Limits.{IsLimited}
use Rattle.ft_job.specs.declared.parts.JobParts.{JobParts}
use Rattle.ft_job.specs.Parts.{parts_of, quanta_of, cpus_from, found_in, said_of, task_count, tasks_of, IsWithin, job_of}
use Rattle.ft_job.specs.Plans.{AreLinesPlanned, AreRingsPlanned}
use Rattle.ft_job.proofs.Numbered.{length-tasks, found-number}

module _ (p : JobParts) (j : Job) (e : job_of (parts_of p) ≡ j) where
  -- ## what contracts see

  pub seen-functions : p.table.functions ≡ j.functions
  unfolding job_of
  seen-functions = ap (λ (i : Job). i.functions) e

  pub seen-users : map spec_of p.specs.items ≡ j.users
  unfolding job_of
  seen-users = ap (λ (i : Job). i.users) e

  pub seen-version : p.version ≡ j.version
  unfolding job_of
  seen-version = ap (λ (i : Job). i.version) e

  pub seen-frames : p.frames ≡ j.frames
  unfolding job_of
  seen-frames = ap (λ (i : Job). i.frames) e

  pub seen-tramps : p.tramps ≡ j.tramps
  unfolding job_of
  seen-tramps = ap (λ (i : Job). i.tramps) e

  pub seen-quanta : quanta_of (map cpu_of p.cpus.items) ≡ j.quanta
  unfolding job_of
  seen-quanta = ap (λ (i : Job). i.quanta) e

  pub seen-tasks : tasks_of (map cpu_of p.cpus.items) ≡ j.tasks
  unfolding job_of
  seen-tasks = ap (λ (i : Job). i.tasks) e

  -- how many tasks there are
  pub seen-count : task_count (map cpu_of p.cpus.items) ≡ length j.tasks
  seen-count = sym (length-tasks (map cpu_of p.cpus.items)) ∙ ap (λ (ts : List Task). length ts) seen-tasks

  pub seen-lines : lines_of (length j.tasks) p.ctls.items ≡ j.ctls
  unfolding job_of
  seen-lines = ap (λ (n : ℕ). lines_of n p.ctls.items) (sym seen-count) ∙ ap (λ (i : Job). i.ctls) e

  -- how many users and CPUs there are
  pub users-count : length p.specs.items ≡ length j.users
  users-count = sym (length-map p.specs.items spec_of) ∙ ap length seen-users

  pub cpus-count : length p.cpus.items ≡ length j.quanta
  cpus-count = sym (length-map p.cpus.items cpu_of) ∙ sym (length-map (map cpu_of p.cpus.items) (λ (c : DeclaredCpu). c.quantum)) ∙ ap length seen-quanta

  module _ (w : IsWithin (parts_of p)) where
    pub seen-limited : IsLimited j
    seen-limited = subst (λ (i : Job). IsLimited i) e w.limited

    pub seen-lines-plan : AreLinesPlanned j
    seen-lines-plan = subst (λ (i : Job). AreLinesPlanned i) e w.planned

    pub seen-rings-plan : AreRingsPlanned j
    seen-rings-plan = subst (λ (i : Job). AreRingsPlanned i) e w.rings

    pub few-users : length j.users ≤ USERS
    few-users = (few-largest j.version seen-limited.counts).few_users

    pub few-tasks : task_count (map cpu_of p.cpus.items) ≤ TASKS
    few-tasks = let few = seen-limited.counts.few_tasks in let same = seen-count in omega (arith, few, same)

    -- the CPUs with their tasks
    pub seen-cpus : map cpu_of p.cpus.items ≡ cpus_from 0 j.quanta j.tasks
    seen-cpus = rw (← seen-quanta, ← seen-tasks) (sym w.numbered)

    -- a task by its number
    seen-found : (n : ℕ) → found_in n 0 (map cpu_of p.cpus.items) ≡ slice_get j.tasks n
    seen-found n = found-number (map cpu_of p.cpus.items) w.numbered n ∙ ap (λ (ts : List Task). slice_get ts n) seen-tasks

    -- what is told of it
    pub seen-as : {A : Type 0} (f : Task → A) (cpus : List CpuPlan) → cpus ≡ p.cpus.items → (n : ℕ) (o : Option A) → o ≡ option_map f (found_in n 0 (map cpu_of cpus))
        → o ≡ option_map f (slice_get j.tasks n)
    seen-as f cpus is n o h = (rw is at h) ∙ ap (λ (t : Option Task). option_map f t) (seen-found n)

    -- what a script says of it beside its CPU, or a part of that
    pub seen-said : {A : Type 0} (g : ℕ × List TaskAct → A) (cpus : List CpuPlan) → cpus ≡ p.cpus.items → (n : ℕ) (o : Option (ℕ × List TaskAct))
        → o ≡ option_map said_of (found_in n 0 (map cpu_of cpus)) → option_map g o ≡ option_map (λ t. g (said_of t)) (slice_get j.tasks n)
    seen-said g cpus is n o h = ap (option_map g) (seen-as said_of cpus is n o h) ∙ twice (slice_get j.tasks n)
      where
        twice : (t : Option Task) → option_map g (option_map said_of t) ≡ option_map (λ t. g (said_of t)) t
        twice None = refl
        twice (Some t) = refl
