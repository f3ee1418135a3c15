-- The job of what is declared is within the limits of scripts, and the parts that a reader makes of it are within what the machine asks.
use Rattle.std.proofs.Common.{◌≡◌, ℕ, zero, suc, ◌*◌, ◌<◌, ◌≤◌, List, [], ◌∷◌, length, map, sum_by, Option, Some, None, ◌⊎◌, inl, inr, refl, sym, ap, ◌∙◌, subst, arith}
use Rattle.std.specs.Prelude.{unwrap_or}
use Rattle.std.specs.List.{AllByRecursion as Each}
use Rattle.std.proofs.lemmas.List.{length-map}
use Rattle.std.proofs.lemmas.List.Sums.{sum_by-cons}
use Rattle.ft_base.proofs.Small.{Each-weaker}
use Rattle.ft_base.specs.declared.limits.TheConstants.{FRAMES, USUAL_FRAMES, ITEMS}
use Rattle.ft_base.specs.Job.{Spec, Task, Ctl as PlainCtl, Run as PlainRun, Until as PlainUntil, Command, commands_in}
use Rattle.ft_base.specs.Versions.{limits_of}
use Rattle.ft_base.specs.Acts.{AreRaised, Leads}
use Rattle.ft_base.specs.WellFormed.{IsNamed, IsScript, IsWellFormed}
use Rattle.ft_desk.specs.declared.command.Ctl.{Ctl}
use Rattle.ft_desk.specs.declared.command.Ctl.TheVariants.{Run, Until}
use Rattle.ft_desk.specs.Commands.{ctl_of}
use Rattle.ft_desk.specs.Declarations.{Declared, bare}
use Rattle.ft_desk.specs.Lines.{IsLineIn, lines_of}
use Rattle.user_specs.specs.Plain.{DeclaredCpu}
use Rattle.user_specs.specs.Bound.{call_bound_of}
use Rattle.history_laws.specs.Bound.{calls_in, all_calls}
use Rattle.word_machine.specs.Limits.{WaitsFor, IsLevel, IsLimited}
use Rattle.ft_job.specs.Parts.{Parts, quanta_of, cpus_with, tasks_of, task_count, declared_of, job_of as parts_job, IsWithin}
use Rattle.ft_job.specs.Plans.{HasLanes, AreLinesPlanned, AreRingsPlanned}
use Rattle.ft_job.proofs.Numbered.{tasks_of-from, length-tasks}
use Rattle.ft_job.proofs.Ordered.{all-commands}
use Rattle.script_waits.specs.declared.script.LinedAct.{LinedAct}
use Rattle.script_waits.specs.Tasks.{LinedTask}
use Rattle.ft_script.specs.Above.{Above}
use Rattle.ft_script.specs.Expansion.{Expansion, expansion_of}
use Rattle.ft_script.specs.Script.{task_of, task_in_job, job_tasks_of, job_of}
use Rattle.ft_script.specs.Holds.{acts_of, LanesHold, IsAtMost, Holds, CanRun}
use Rattle.ft_script.specs.ReaderInvariant.{AreParts}
use Rattle.ft_script.proofs.ActsInJob.{leads-in_job, raises-in_job, each-in_job, placed-in_job, all_acts-in_job, all_calls-in_job}
use Rattle.ft_script.proofs.JobLines.{IsLineOfJob, lines-carried, waits-carried, rows-carried, lanes-carried}
use Rattle.ft_script.proofs.RingBounds.{entries-within}
use Rattle.ft_script.proofs.TaskConditions.{closed-tasks, raised-tasks}

-- ## tasks

-- what holds of each element once it is mapped
each-map : {X Y : Type 0} (f : X → Y) (P : Y → Type 0) (xs : List X) → Each (λ x. P (f x)) xs → Each P (map f xs)
each-map f P [] h = tt
each-map f P (x ∷ xs) h = (h.0, each-map f P xs h.1)

map-each : {X Y : Type 0} (f : X → Y) (P : Y → Type 0) (xs : List X) → Each P (map f xs) → Each (λ x. P (f x)) xs
map-each f P [] h = tt
map-each f P (x ∷ xs) h = (h.0, map-each f P xs h.1)

acts-all : (ps : List LinedTask) → sum_by (λ (t : Task). length t.acts) (map task_of ps) ≡ sum_by (λ (p : LinedTask). length p.acts) ps
acts-all [] = refl
acts-all (p ∷ ps) =
    let rest = acts-all ps in
    let one = sum_by-cons (λ (t : Task). length t.acts) (task_of p) (map task_of ps) in
    let all = sum_by-cons (λ (x : LinedTask). length x.acts) p ps in
    let n = length-map p.acts (λ (a : LinedAct). a.act) in
    omega (arith, rest, one, all, n)

calls-all : (ps : List LinedTask) → all_calls (map task_of ps) ≡ sum_by (λ (p : LinedTask). calls_in (acts_of p)) ps
calls-all [] = refl
calls-all (p ∷ ps) =
    let rest = calls-all ps in
    let all = sum_by-cons (λ (x : LinedTask). calls_in (acts_of x)) p ps in
    omega (arith, rest, all)

-- ## lines of control

module _ (users size tasks : ℕ) where
  -- what a line of control says of its command
  each-command : (P : Command → Type 0) → ((c : Command) → IsLineOfJob users size tasks (PlainRun c) → P c) → (ctls : List PlainCtl)
      → Each (IsLineOfJob users size tasks) ctls → Each P (commands_in ctls)
  each-command P f [] h = tt
  each-command P f (PlainRun c ∷ rest) h = (f c h.0, each-command P f rest h.1)
  each-command P f (PlainUntil t n ∷ rest) h = each-command P f rest h.1

  line-waits : (k : ℕ) → k ≡ tasks → (c : PlainCtl) → IsLineOfJob users size tasks c → WaitsFor k c
  line-waits k e (PlainRun c) h = tt
  line-waits k e (PlainUntil t n) h = omega (arith, e, h)

  -- a line of a desk that declares so many
  line-in : (d : Declared) → length d.specs ≡ users → d.funcs ≡ size → d.tasks ≡ tasks → (c : Ctl) → IsLineOfJob users size tasks (ctl_of tasks c) → IsLineIn d c
  line-in d u s t (Run command) h = rw (u, s, t) (h.0, h.1)
  line-in d u s t (Until v k) h = omega (arith, t, h)

-- ## numbers

-- a number that the script may say, or the usual one
at-most : (limit usual : ℕ) → usual ≤ limit → (o : Option ℕ) → IsAtMost limit o → unwrap_or o usual ≤ limit
at-most limit usual le None h = le
at-most limit usual le (Some n) h = h

quanta-from : (qs : List ℕ) (c n : ℕ) (ts : List Task) → quanta_of (cpus_with c qs n ts) ≡ qs
quanta-from [] c n ts = refl
quanta-from (q ∷ qs) c n ts = ap (λ (xs : List ℕ). q ∷ xs) (quanta-from qs (suc c) n ts)

-- ## the job

module _ (above : Above) (run : CanRun above) where
  h : Holds above
  h = run.holds

  -- how many users, functions and tasks there are
  abbrev users : ℕ
  users = length above.users

  abbrev size : ℕ
  size = length above.functions

  abbrev tasks : ℕ
  tasks = length above.tasks

  -- what the lines of control come to
  abbrev carried : Expansion
  carried = expansion_of above

  -- the tasks in the job, with their lines
  abbrev those : List LinedTask
  those = job_tasks_of above

  lines : Each (IsLineOfJob users size tasks) carried.ctls
  lines = lines-carried above h

  count-tasks : length (map task_of those) ≡ tasks
  count-tasks = length-map those task_of ∙ length-map above.tasks (task_in_job carried.ends)

  closed : Each (λ p. Leads size 0 (acts_of p) 0) those
  closed = each-in_job carried.ends (λ acts. Leads size 0 acts 0) (leads-in_job carried.ends size 0 0) above.tasks (closed-tasks above run)

  raised : Each (λ p. AreRaised [] (acts_of p)) those
  raised = each-in_job carried.ends (AreRaised []) (raises-in_job carried.ends (λ _. Unit {0}) []) above.tasks
      (map-each task_of (λ (t : Task). AreRaised [] t.acts) above.tasks (raised-tasks above h))

  placed : Each (λ (t : Task). t.cpu < length above.quanta) (map task_of those)
  placed = each-map task_of (λ (t : Task). t.cpu < length above.quanta) those (placed-in_job carried.ends (length above.quanta) above.tasks h.tasks.placed)

  is_job : IsWellFormed (job_of above)
  unfolding job_of
  is_job = record {
    commands = each-command users size tasks (IsNamed (job_of above)) (λ command h. h.0) _ lines;
    acts = h.users;
    tasks = each-map task_of (λ (t : Task). IsScript (job_of above) 0 t.acts) those closed;
  }

  pub limited : IsLimited (job_of above)
  unfolding job_of
  limited = record {
    version = h.version;
    job' = is_job;
    placed = placed;
    waits = Each-weaker _ _ _ (line-waits users size tasks (length (map task_of those)) count-tasks) lines;
    raised = each-map task_of (λ (t : Task). AreRaised [] t.acts) those raised;
    ctls = (let all = waits-carried above h in let few = h.within.few_commands in let fewer = h.within.few_waits in omega (arith, all, few, fewer));
    counts = record {
      few_functions = h.within.counts.few_functions;
      few_users = h.within.counts.few_users;
      few_tasks = (let n = count-tasks in let few = h.within.counts.few_tasks in omega (arith, n, few));
      few_tramps = at-most (limits_of above.version).tramps (limits_of above.version).tramps (omega arith) above.tramps h.within.counts.few_tramps;
    };
    frames = at-most FRAMES USUAL_FRAMES (omega arith) above.frames h.frames;
    levels = each-command users size tasks IsLevel (λ command h. h.2) _ lines;
    acts = (let n = acts-all those in let m = all_acts-in_job carried.ends above.tasks in let all = h.tasks.all_acts in let few = h.within.acts.few_acts in
        omega (arith, n, m, all, few));
    items = subst (λ n. call_bound_of above.users (limits_of above.version).levels * n ≤ ITEMS)
        (sym (calls-all those ∙ all_calls-in_job carried.ends above.tasks ∙ h.tasks.all_calls)) h.items;
  }

  -- it has no lanes, or each line of control is a command and has one
  pub lanes-planned : (count : ℕ) → above.lane_count ≡ count → LanesHold above count → (above.lanes ≡ []) ⊎ HasLanes (job_of above)
  unfolding job_of
  lanes-planned zero is none = inl none
  lanes-planned (suc last) is all =
      let c = lanes-carried above last is h in
      let m = all-commands carried.ctls c.1 in
      let n = c.2 in
      let each = all.each in
      inr (record { commands' = c.1; each = omega (arith, n, m, each); numbers = all.numbers })

  -- so has each command, and its modules are there
  lines-planned : AreLinesPlanned (job_of above)
  unfolding job_of
  lines-planned = record { lanes = lanes-planned above.lane_count refl h.lanes; absent = h.absent; modules = rows-carried above h }

  rings-planned : AreRingsPlanned (job_of above)
  unfolding job_of
  rings-planned = (let e = entries-within above.ring h.rings.entries in record { some = e.0; ring = e.1; few = h.rings.few; triggers = h.rings.each })

  module _ (p : Parts) (are : AreParts p above) where
    tasks-are : tasks_of p.cpus ≡ map task_of those
    tasks-are = ap tasks_of are.cpus ∙ tasks_of-from above.quanta (map task_of those) placed

    quanta-are : quanta_of p.cpus ≡ above.quanta
    quanta-are = ap quanta_of are.cpus ∙ quanta-from above.quanta 0 0 (map task_of those)

    count-is : task_count p.cpus ≡ tasks
    count-is = sym (length-tasks p.cpus) ∙ ap (λ (ts : List Task). length ts) tasks-are ∙ count-tasks

    lines-are : lines_of (task_count p.cpus) p.ctls ≡ carried.ctls
    lines-are = subst (λ n. lines_of n p.ctls ≡ carried.ctls) (sym count-is) are.ctls

    pub job-is : parts_job p ≡ job_of above
    unfolding parts_job job_of
    job-is = rw (are.version, are.functions, are.users, are.frames, are.tramps, quanta-are, tasks-are, lines-are, are.schedule, are.lines, are.rings) refl

    pub is_within : IsWithin p
    is_within = record {
      numbered = rw (quanta-are, tasks-are) (sym are.cpus);
      limited = subst IsLimited (sym job-is) limited;
      lines = Each-weaker _ _ p.ctls
          (line-in users size tasks (declared_of p) (length-map p.users bare ∙ ap (λ (us : List Spec). length us) are.users) (ap (λ fs. length fs) are.functions) count-is)
          (map-each (ctl_of tasks) _ p.ctls (subst (Each (IsLineOfJob users size tasks)) (sym are.ctls) lines));
      cpus = (let n = length-map p.cpus (λ (c : DeclaredCpu). c.quantum) in let q = ap (λ (qs : List ℕ). length qs) quanta-are in let few = h.within.few_cpus in omega (arith, n, q, few));
      quanta = rw quanta-are h.quanta;
      planned = rw job-is lines-planned;
      rings = rw job-is rings-planned;
    }
