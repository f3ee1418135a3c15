-- The rule holds at the start.
use Rattle.std.proofs.Common.{◌≡◌, ℕ, suc, ◌+◌, Bool, true, false, List, [], ◌∷◌, length, get_or, cond, refl, sym, ap, ◌∙◌, subst, arith, eqb-true, inl}
use Rattle.std.specs.Prelude.{slice_get, ◌==◌}
use Rattle.std.specs.List.{AllByRecursion as Each}
use Rattle.ft_base.specs.Job.{Job, Task, no_task, commands, waits_before}
use Rattle.ft_base.specs.Desk.{desk}
use Rattle.ft_base.specs.WellFormed.{IsScript}
use Rattle.ft_base.specs.Tasks.{tasks_of, tasks_from}
use Rattle.ft_base.proofs.Small.{false_true, each-get}
use Rattle.ft_hist.specs.Plain.{plain, at_start}
use Rattle.ft_hist.specs.Rules.{IsLegalPast}
use Rattle.word_machine.specs.Commands.{insn, changes}
use Rattle.word_machine.specs.Control.{Line}
use Rattle.word_machine.specs.Task.{task_start}
use Rattle.word_machine.specs.Cpu.{cpu_start, has_more}
use Rattle.word_machine.specs.Machine.{start}
use Rattle.word_machine.specs.Sites.{SiteAt, stage, stage_by}
use Rattle.word_machine.specs.Tasks.{TaskRule}
use Rattle.word_machine.specs.Rule.{MachineRule, here, CpuRule, IsOn, IsWordJob}
use Rattle.word_machine.proofs.Small.{zero-plus}
use Rattle.word_machine_laws.proofs.TasksOf.{first-there}
use Rattle.word_machine_laws.proofs.DeskStart.{none_at_start, reg_at_start, since_at_start, nop_at_start, nobody_is}

module _ (job : Job) (ok : IsWordJob job) where
  site_at_start : (f : ℕ) → SiteAt (stage job 0 Line f) f (insn job 0 f) (insn job 1 f) 15 17439 0
  site_at_start f =
      subst (λ n. SiteAt n f (insn job 0 f) (insn job 1 f) 15 17439 0) (none (changes job 0 f))
      (subst (λ i. SiteAt 0 f i (insn job 1 f) 15 17439 0) (sym (nop_at_start job f))
      (record {
        before = λ h. refl;
        broken = λ h k. absurd (omega (arith, h));
        after = λ h. absurd (omega (arith, h));
        tail_old = λ h. refl;
        tail_new = λ h. absurd (omega (arith, h));
        next_new = λ h. absurd (omega (arith, h));
      }))
    where
      none : (b : Bool) → 0 ≡ stage_by b 0
      none true = refl
      none false = refl

  task_kept : (t : ℕ) → TaskRule job (here (start job) 0) [] 0 0 t (task_start job t)
  unfolding plain start
  task_kept t = record {
    word' = refl;
    gone = omega arith;
    total = omega arith;
    quiet = inl (omega arith);
    first = tt;
    reached = omega arith;
    stands = tt;
    grounded = tt;
    run = record { fresh = false; at = at_start job t; is = refl; next = refl; stack = refl; ahead = refl; counted = λ e. false_true (sym e) };
    opens = refl;
    miss = refl;
    few = omega arith;
    script = each-get (λ x. IsScript job 0 x.acts) job.tasks t no_task refl ok.job'.tasks;
    calls = tt;
  }

  -- the tasks of a CPU are on it
  on-from : (c n : ℕ) (ts : List Task) → ((i : ℕ) → get_or ts i no_task ≡ get_or job.tasks (n + i) no_task) → n + length ts ≡ length job.tasks
      → Each (IsOn job c) (tasks_from c n ts)
  on-from c n [] same len = tt
  on-from c n (t ∷ ts) same len =
      let more : Each (IsOn job c) (tasks_from c (suc n) ts) = on-from c (suc n) ts
      (λ i. let e : n + suc i ≡ suc n + i = omega arith in same (suc i) ∙ ap (λ m. get_or job.tasks m no_task) e) (omega (arith, len)) in
      elim (t.cpu == c) as (λ b. (t.cpu == c) ≡ b → Each (IsOn job c) (cond b (n ∷ tasks_from c (suc n) ts) (tasks_from c (suc n) ts))) [
        | true ↦ λ e. ((omega (arith, len), is_c e), more)
        | false ↦ λ e. more
      ] refl
    where
      is_c : (t.cpu == c) ≡ true → (get_or job.tasks n no_task).cpu ≡ c
      is_c e = let z : n + 0 ≡ n = omega arith in ap (λ (x : Task). x.cpu) (sym (same 0 ∙ ap (λ m. get_or job.tasks m no_task) z)) ∙ eqb-true t.cpu c e

  pub on-tasks : (c : ℕ) → Each (IsOn job c) (tasks_of job c)
  on-tasks c = on-from c 0 job.tasks (λ i. ap (λ m. get_or job.tasks m no_task) (sym (zero-plus i))) (omega arith)

  cpu_kept : (c : ℕ) → CpuRule job (here (start job) 0) [] 0 (λ t. 0) c (cpu_start job c)
  unfolding start
  cpu_kept c = record {
    number = refl;
    stored = refl;
    acked = inl (omega arith);
    reach = omega arith;
    polls = (omega arith, λ t on. inl (omega arith));
    present = λ e. first-there (λ t. has_more (task_start job) t) (IsOn job c) (length job.tasks) (tasks_of job c) (on-tasks c) e;
    alone = λ t on e. false_true e;
    tasks = λ t on. task_kept t;
  }

  pub opens : MachineRule job (start job)
  unfolding desk start IsLegalPast plain
  opens = record {
    base = 0;
    counts = record { returned = refl; started = refl; clock' = refl; room = omega arith };
    legal = tt;
    runs = λ t. refl;
    lines = record {
      waits = [];
      met = tt;
      before = λ n. ap (λ m. waits_before m job.ctls) (zero-plus n);
      within = omega arith;
      commands = λ n. ap (λ m. slice_get (commands job) m) (zero-plus n);
      under = tt;
    };
    sites = record { asked = refl; few = omega arith; want = refl; position = tt; fit = refl; sites = λ f inside. site_at_start f };
    list = record {
      order' = record { members = λ u. sym (none_at_start job u); falling = tt; recent = λ u. (let e = since_at_start job u in omega (arith, e)) };
      leads = refl;
      pushed = tt;
    };
    sets = record { small = λ u. omega arith; sels = λ u. ((λ r. nobody_is job u r), (λ r. (sym (reg_at_start job u), refl))); last = λ u. refl; written = tt; left = λ e out. false_true out };
    tramps = record { before = λ u t h free. nobody_is job u h.0; after = λ t. false_true t; free = λ t within old new. refl };
    limits = record { tasks = refl; level = refl };
    cpus = λ c within. cpu_kept c;
  }
