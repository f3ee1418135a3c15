-- Control at a line: a wait for a task, and that the waits before a command are met in the history's words.
use Rattle.std.proofs.Common.{◌≡◌, ℕ, zero, suc, ◌+◌, ◌-◌, ◌<◌, ◌≤◌, Bool, true, false, List, [], ◌∷◌, ◌++◌, length, get_or, Some, None, refl, sym, ap, ◌∙◌, subst, arith}
use Rattle.std.specs.Prelude.{Option, nat_le, IfSome}
use Rattle.std.specs.List.{AllByRecursion as Each}
use Rattle.std.proofs.lemmas.Bool.Decides.{nat_tests}
use Rattle.ft_base.specs.declared.context.Ctx.{Ctx}
use Rattle.ft_base.specs.declared.item.Item.{Item}
use Rattle.ft_base.specs.declared.task.TaskAct.{TaskAct}
use Rattle.ft_base.specs.declared.task.TaskAct.TheVariants.{Call, Ret as RetAct, Raise, Lower, After}
use Rattle.ft_base.specs.Job.{Job, no_task, Ctl, Run, Until, Command, waits_before}
use Rattle.ft_base.proofs.Small.{false_true, Each-snoc}
use Rattle.ft_hist.specs.Past.{done, begun}
use Rattle.ft_hist.specs.Plain.{plain, ahead, Ahead, PlainTask, Frame, Running, below_top}
use Rattle.ft_hist.specs.Rules.{HasWaited, acts_passed}
use Rattle.word_map.specs.Words.{Words, Quiet}
use Rattle.word_map.specs.Contents.{high, low}
use Rattle.word_map.specs.Ops.{Load}
use Rattle.word_machine.specs.Control.{Line, control_got}
use Rattle.word_machine.specs.Task.{OpenCall, TaskState, Moment, Polling, First, Leaving, is_quiet}
use Rattle.word_machine.specs.Cpu.{Cpu}
use Rattle.word_machine.specs.Machine.{control_row}
use Rattle.word_machine.specs.Verdicts.{Here}
use Rattle.word_machine.specs.Calls.{Calls, under_call}
use Rattle.word_machine.specs.Tasks.{TaskRule, plain_stack, acts_by, gone_by, StandsIn}
use Rattle.word_machine.specs.Rule.{MachineRule, ControlLines, IsWordJob, task_in}
use Rattle.word_machine.proofs.Small.{if_case}
use Rattle.word_machine_laws.proofs.NoSwitch.{world}

-- ## the lines

append-one : (xs ys : List (ℕ × ℕ)) (y : ℕ × ℕ) → (xs ++ y ∷ []) ++ ys ≡ xs ++ y ∷ ys
append-one [] ys y = refl
append-one (x ∷ xs) ys y = ap (λ (l : List (ℕ × ℕ)). x ∷ l) (append-one xs ys y)

append-none : (xs : List (ℕ × ℕ)) → xs ++ [] ≡ xs
append-none [] = refl
append-none (x ∷ xs) = ap (λ (l : List (ℕ × ℕ)). x ∷ l) (append-none xs)

abbrev first_or : List (ℕ × ℕ) → ℕ × ℕ
first_or [] = (0, 0)
first_or (x ∷ xs) = x

abbrev later_or : List (ℕ × ℕ) → List (ℕ × ℕ)
later_or [] = []
later_or (x ∷ xs) = xs

abbrev some_there : List (ℕ × ℕ) → Bool
some_there [] = false
some_there (x ∷ xs) = true

there_some : (xs ys : List (ℕ × ℕ)) (y : ℕ × ℕ) → some_there (xs ++ y ∷ ys) ≡ true
there_some [] ys y = refl
there_some (x ∷ xs) ys y = refl

-- a wait is a line of the script
wait_there : (m : ℕ) (ctls : List Ctl) (xs ys : List (ℕ × ℕ)) (t n : ℕ) → waits_before m ctls ≡ xs ++ (t, n) ∷ ys
    → (before : List Ctl) × (rest : List Ctl) × (ctls ≡ before ++ Until t n ∷ rest)
wait_there m [] xs ys t n e = false_true (ap some_there e ∙ there_some xs ys (t, n))
wait_there m (Until s a ∷ ctls) [] ys t n e = ([], ctls, (let p : (ℕ × ℕ) = (s, a) in let z = ap first_or e in ap (λ (p : ℕ × ℕ). Until p.0 p.1 ∷ ctls) z))
wait_there m (Until s a ∷ ctls) (x ∷ xs) ys t n e =
    let r = wait_there m ctls xs ys t n (ap later_or e) in (Until s a ∷ r.0, r.1, ap (λ (l : List Ctl). Until s a ∷ l) r.2)
wait_there zero (Run c ∷ ctls) xs ys t n e = false_true (ap some_there e ∙ there_some xs ys (t, n))
wait_there (suc m) (Run c ∷ ctls) xs ys t n e =
    let r = wait_there m ctls xs ys t n e in (Run c ∷ r.0, r.1, ap (λ (l : List Ctl). Run c ∷ l) r.2)

pub wait_task : (job : Job) → IsWordJob job → (m : ℕ) (xs ys : List (ℕ × ℕ)) (t n : ℕ) → waits_before m job.ctls ≡ xs ++ (t, n) ∷ ys → t < length job.tasks
wait_task job ok m xs ys t n e = let r = wait_there m job.ctls xs ys t n e in ok.waits t n r.1 r.0 r.2

module _ (job : Job) (ok : IsWordJob job) (ws : Words) (d : ℕ) (request : ℕ) (copies : ℕ → ℕ) (order : List ℕ) (cpus : ℕ → Cpu) (past : List Item) where
  abbrev At : List Ctl → Type 0
  At remaining = MachineRule job (world ws d remaining request copies order cpus past Line)

  abbrev gone_of : ℕ → ℕ
  gone_of t = (task_in job cpus t).gone

  lines_until : (t n : ℕ) (rest : List Ctl) → n ≤ gone_of t → ControlLines job d Line (Until t n ∷ rest) gone_of → ControlLines job d Line rest gone_of
  lines_until t n rest le k = record {
    waits = k.waits ++ (t, n) ∷ [];
    met = Each-snoc (λ (w : ℕ × ℕ). w.1 ≤ gone_of w.0) k.waits (t, n) k.met le;
    before = λ m. k.before m ∙ sym (append-one k.waits (waits_before m rest) (t, n));
    within = k.within;
    commands = k.commands;
    under = tt;
  }

  -- control looks at the task that it waits for
  pub until_keeps : (t n : ℕ) (rest : List Ctl) → At (Until t n ∷ rest)
      → MachineRule job (control_row job (world ws d (Until t n ∷ rest) request copies order cpus past Line) (Load (Quiet t)))
  unfolding control_got
  until_keeps t n rest k = if_case At (nat_le n (high (ws.quiet t))) rest (Until t n ∷ rest)
      (λ e.
      let there : t < length job.tasks = wait_task job ok (d + 0) k.lines.waits (waits_before 0 rest) t n (k.lines.before 0) in
      let c = (get_or job.tasks t no_task).cpu in
      let far : high (ws.quiet t) ≤ gone_of t = ((k.cpus c (ok.placed t there)).tasks t (there, refl)).gone in
      let le : n ≤ high (ws.quiet t) = grind (arith, nat_tests) in
      record {
        base = k.base;
        counts = k.counts;
        legal = k.legal;
        runs = k.runs;
        lines = lines_until t n rest (omega (arith, far, le)) k.lines;
        sites = k.sites;
        list = k.list;
        sets = k.sets;
        tramps = k.tramps;
        limits = k.limits;
        cpus = k.cpus;
      })
      (λ e. k)

  -- ## what the tasks have passed, in the history's words

  abbrev Passes : Type 0
  Passes = (t : ℕ) → t < length job.tasks → IfSome (plain job t past) (λ s. gone_of t ≤ acts_passed s)

  each_wait : (m : ℕ) (xs ys : List (ℕ × ℕ)) → waits_before m job.ctls ≡ xs ++ ys → Passes → Each (λ w. w.1 ≤ gone_of w.0) ys
      → Each (λ w. IfSome (plain job w.0 past) (λ s. w.1 ≤ acts_passed s)) ys
  each_wait m xs [] e p met = tt
  each_wait m xs (y ∷ ys) e p met = (
    weaken (plain job y.0 past) (p y.0 (wait_task job ok m xs ys y.0 y.1 e)),
    each_wait m (xs ++ y ∷ []) ys (e ∙ sym (append-one xs ys y)) p met.1,
  )
    where
      weaken : (o : Option PlainTask) → IfSome o (λ s. gone_of y.0 ≤ acts_passed s) → IfSome o (λ s. y.1 ≤ acts_passed s)
      weaken None h = tt
      weaken (Some s) h = (let a = met.0 in omega (arith, a, h))

  pub has_waited : (c : Command) (rest : List Ctl) → Passes → At (Run c ∷ rest) → HasWaited job past
  has_waited c rest p k =
      let at' : waits_before (begun past) job.ctls ≡ k.lines.waits =
      (let z : d + 0 ≡ d = omega arith in ap (λ n. waits_before n job.ctls) (k.counts.started ∙ sym z)) ∙ k.lines.before 0 ∙ append-none k.lines.waits in
      subst (λ (l : List (ℕ × ℕ)). Each (λ w. IfSome (plain job w.0 past) (λ s. w.1 ≤ acts_passed s)) l) (sym at')
      (each_wait (begun past) [] k.lines.waits at' p k.lines.met)

-- ## the acts that a task has passed

abbrev without_stack : ℕ → List TaskAct → ℕ → List Ctx → PlainTask
without_stack next acts gone cs = record { next = next; acts = acts; gone = gone; contexts = cs; stack = [] }

gone_more : (next : ℕ) (acts : List TaskAct) (gone : ℕ) (cs : List Ctx) → gone ≤ acts_passed (without_stack next acts gone cs)
gone_more next [] gone cs = omega arith
gone_more next (Call f ∷ rest) gone cs = omega arith
gone_more next (RetAct ∷ rest) gone cs = omega arith
gone_more next (Raise c ∷ rest) gone cs = let r = gone_more next rest (suc gone) cs in omega (arith, r)
gone_more next (Lower ∷ rest) gone cs = let r = gone_more next rest (suc gone) cs in omega (arith, r)
gone_more next (After n ∷ rest) gone cs = let r = gone_more next rest (suc gone) cs in omega (arith, r)

-- acts without items count too, as far as their waits are met
ahead_passed : (next r : ℕ) (acts : List TaskAct) (cs es : List Ctx) (gone : ℕ) → (ahead r acts cs gone).gone ≤ acts_passed (without_stack next acts gone es)
ahead_passed next r [] cs es gone = omega arith
ahead_passed next r (Call f ∷ rest) cs es gone = omega arith
ahead_passed next r (RetAct ∷ rest) cs es gone = omega arith
ahead_passed next r (Raise c ∷ rest) cs es gone = ahead_passed next r rest (c ∷ cs) es (suc gone)
ahead_passed next r (Lower ∷ rest) cs es gone = ahead_passed next r rest (below_top cs) es (suc gone)
ahead_passed next r (After n ∷ rest) cs es gone =
    if_case (λ (a : Ahead). a.gone ≤ acts_passed (without_stack next rest (suc gone) es)) (nat_le n r) (ahead r rest cs (suc gone))
    (record { acts = After n ∷ rest; contexts = cs; gone = gone })
    (λ e. ahead_passed next r rest cs es (suc gone)) (λ e. let x = gone_more next rest (suc gone) es in omega (arith, x))

gone_ahead : (r : ℕ) (acts : List TaskAct) (cs : List Ctx) (gone : ℕ) → gone ≤ (ahead r acts cs gone).gone
gone_ahead r [] cs gone = omega arith
gone_ahead r (Call f ∷ rest) cs gone = omega arith
gone_ahead r (RetAct ∷ rest) cs gone = omega arith
gone_ahead r (Raise c ∷ rest) cs gone = let x = gone_ahead r rest (c ∷ cs) (suc gone) in omega (arith, x)
gone_ahead r (Lower ∷ rest) cs gone = let x = gone_ahead r rest (below_top cs) (suc gone) in omega (arith, x)
gone_ahead r (After n ∷ rest) cs gone =
    if_case (λ (a : Ahead). gone ≤ a.gone) (nat_le n r) (ahead r rest cs (suc gone)) (record { acts = After n ∷ rest; contexts = cs; gone = gone })
    (λ e. let x = gone_ahead r rest cs (suc gone) in omega (arith, x)) (λ e. omega arith)

-- a stack whose top is not a scripted call in its body
module _ (job : Job) (h : Here) (past : List Item) (ack word t : ℕ) where
  pub task_passed : (x : TaskState) → (k : TaskRule job h past ack word t x) → x.gone ≤ acts_passed k.run.at
  task_passed x k =
      subst (λ (s : List Frame). x.gone ≤ acts_passed (record k.run.at { stack = s })) (sym k.run.stack)
      (by_moment x.moment x.stack k.stands k.calls k.run.ahead k.run.counted)
    where
      at' : PlainTask
      at' = k.run.at

      quiet_passed : ahead (done past) k.run.at.acts k.run.at.contexts k.run.at.gone ≡ ahead (done past) x.acts x.contexts x.gone
          → x.gone ≤ acts_passed (record k.run.at { stack = [] })
      quiet_passed e =
          let a = gone_ahead (done past) x.acts x.contexts x.gone in
          let b = ahead_passed k.run.at.next (done past) k.run.at.acts k.run.at.contexts k.run.at.contexts k.run.at.gone in
          let c : (ahead (done past) k.run.at.acts k.run.at.contexts k.run.at.gone).gone ≡ (ahead (done past) x.acts x.contexts x.gone).gone =
          ap (λ (y : Ahead). y.gone) e in
          omega (arith, a, b, c)

      scripted_passed : (c : OpenCall) (below : List Frame) → c.scripted ≡ true → x.gone ≤ acts_passed (record k.run.at { stack = [] })
          → x.gone ≤ acts_passed (record k.run.at {
            stack = record {
              call = c.call;
              ctx = c.ctx;
              func = c.func;
              scripted = c.scripted;
              phase = Running;
            } ∷ below;
          })
      scripted_passed c below s le = rw s le

      one_less : at'.gone ≡ suc x.gone → x.gone ≤ k.run.at.gone - 1
      one_less e = let z : k.run.at.gone ≡ suc x.gone = e in omega (arith, z)

      by_moment : (m : Moment) (stack : List OpenCall) → StandsIn (is_quiet m) x.acts stack → Calls job h past ack (low word) t m stack
          → ahead (done past) k.run.at.acts k.run.at.contexts k.run.at.gone ≡ ahead (done past) (acts_by (is_quiet m) x.acts) x.contexts
          (gone_by (is_quiet m) x.gone)
          → (is_quiet m ≡ false → k.run.at.gone ≡ suc x.gone) → x.gone ≤ acts_passed (record k.run.at { stack = plain_stack job k.run.fresh m stack })
      by_moment Polling [] s calls e i = quiet_passed e
      by_moment Polling (c ∷ below) s calls e i = scripted_passed c (plain_stack job false (under_call c below) below) calls.1.1 (quiet_passed e)
      by_moment First [] s calls e i = quiet_passed e
      by_moment First (c ∷ below) s calls e i = scripted_passed c (plain_stack job false (under_call c below) below) calls.1.1 (quiet_passed e)
      by_moment Leaving (c ∷ below) s calls e i = let z = i refl in let f : c.scripted ≡ false = calls.1.1 in rw f (omega (arith, z))
      by_moment m [] s calls e i = false_true s.1
      by_moment m (c ∷ below) s calls e i = let z = i refl in omega (arith, z)
