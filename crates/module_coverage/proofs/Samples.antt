-- Samples: a module that is loaded before a call and unloaded after its return; and neighbours in which a call or a body doesn't
-- find its module. But for those in which a command is under way the histories are the word machine's, so they are legal.
use Rattle.std.proofs.Common.{◌≡◌, ℕ, zero, suc, ◌≤◌, Bool, true, false, List, [], ◌∷◌, ◌++◌, Some, None, codes, refl, ap, ◌∙◌, subst, arith, rules}
use Rattle.std.specs.Prelude.{slice_get}
use Rattle.ft_base.specs.declared.number.FuncNo.{FuncNo}
use Rattle.ft_base.specs.declared.number.UserNo.{UserNo}
use Rattle.ft_base.specs.declared.context.Ctx.TheVariants.{Normal}
use Rattle.ft_base.specs.declared.item.Ran.TheVariants.{Own}
use Rattle.ft_base.specs.declared.item.Answer.TheVariants.{Accepted}
use Rattle.ft_base.specs.declared.item.Reason.TheVariants.{Recursion}
use Rattle.ft_base.specs.declared.item.Item.{Item}
use Rattle.ft_base.specs.declared.item.Item.TheVariants.{Begin, Return, Enter, Back, BackEnd, Refuse, Body, Leave, Ret}
use Rattle.ft_base.specs.declared.task.TaskAct.{TaskAct}
use Rattle.ft_base.specs.declared.task.TaskAct.TheVariants.{Call, Ret as RetAct, After}
use Rattle.ft_base.specs.declared.turn.Who.TheVariants.{All}
use Rattle.ft_base.specs.declared.user.Act.TheVariants.{CallIn}
use Rattle.ft_base.specs.declared.user.Kind.TheVariants.{Function}
use Rattle.ft_base.specs.Desk.{desk}
use Rattle.ft_base.specs.Job.{Job, Func, Spec, Edit, Ctl, Register, Filter, Notrace, MaxDepth, Run, Until, usual_rings}
use Rattle.ft_base.specs.Schedule.{actors_of, repeated}
use Rattle.ft_base.proofs.Small.{false_true}
use Rattle.ft_hist.specs.Rules.{IsLegal}
use Rattle.ft_hist.proofs.RunLaws.{some_inj}
use Rattle.ft_hist.proofs.SmallJobs.{named, call_in}
use Rattle.word_machine.specs.Commands.{insn, moves}
use Rattle.word_machine.specs.Control.{control_next, control_got}
use Rattle.word_machine.specs.Cpu.{cpu_next, cpu_got}
use Rattle.word_machine.specs.Machine.{start, step, run, played, play, all_end}
use Rattle.word_machine.specs.Limits.{IsLimited}
use Rattle.word_machine.proofs.Plays.{Plays}
use Rattle.word_machine_laws.proofs.Limited.{limited}
use Rattle.word_machine_laws.proofs.Ends.{every_play_is_legal}
use Rattle.func_table.specs.Modules.{module_of}
use Rattle.module_coverage.specs.Covered.{AreCovered, acts_of, from_command, to_command}
use Rattle.module_coverage.specs.Loaded.{is_loaded}
use Rattle.module_coverage.specs.Apart.{AreActsApart, AreReplacementsApart}
use Rattle.module_coverage.specs.Found.{KeepsLoaded, RunsLoaded}
use Rattle.module_coverage.proofs.FoundCalls.{keeps, runs}

-- what the replay of a job gives is legal
legal-of : (job : Job) (items : List Item) (ended : Bool) → IsLimited job → Plays job items ended → IsLegal job items
legal-of job items ended ok plays = subst (λ (xs : List Item). IsLegal job xs) plays.0 (every_play_is_legal job (limited job ok))

-- a function outside of all modules, and one in a module
abbrev outside : FuncNo
outside = record { 0 = 0 }

abbrev in_module : FuncNo
in_module = record { 0 = 1 }

-- the only user
abbrev user : UserNo
user = record { 0 = 0 }

abbrev functions : List Func
functions = named (codes "a") None ∷ named (codes "e") (Some (codes "ext3")) ∷ []

-- ## a load before the call, and an unload that waits for acts of the task

-- the user's notrace set becomes the functions of the module, or is cleared
abbrev hides : Edit
hides = record { append = false; remove = false; clear = false; set = false ∷ true ∷ [] }

abbrev shows : Edit
shows = record { append = false; remove = false; clear = true; set = false ∷ false ∷ [] }

-- a task calls a function of a module that is absent at first, after the commands that load it, and then makes these acts; the unload
-- waits for so many acts
abbrev loading : List TaskAct → ℕ → Job
loading acts n = record {
  version = 1;
  functions = functions;
  users = record { name = codes "t"; kind = Function; regs = false; ipmodify = None; pid = false; act = None } ∷ [];
  frames = 50;
  tramps = 16;
  quanta = 100 ∷ [];
  tasks = record { pid = 10; cpu = 0; acts = After 4 ∷ Call in_module ∷ acts } ∷ [];
  ctls = Run (Notrace 0 hides) ∷ Run (Register 0) ∷ Run (Notrace 0 shows) ∷ Run (MaxDepth 0) ∷ Until 0 n ∷ Run (Notrace 0 hides) ∷ Run (MaxDepth 0) ∷ [];
  schedule = record { who = All; count = 400 } ∷ [];
  lines = record {
    lanes = [];
    absent = 0 ∷ [];
    modules = record { load = true; owner = 0; answer = Accepted; first = 3; last = 4 } ∷ record { load = false; owner = 0; answer = Accepted; first = 5; last = 6 } ∷ [];
  };
  rings = usual_rings;
}

abbrev before_the_call : List Item
before_the_call = Begin 1 ∷ Return 1 Accepted ∷ Begin 2 ∷ Return 2 Accepted ∷ Begin 3 ∷ Return 3 Accepted ∷ Begin 4 ∷ Return 4 Accepted ∷ []

abbrev to_the_body : List Item
to_the_body = Enter (call_in 0 1) Normal in_module None ∷ Back (call_in 0 1) user ∷ BackEnd (call_in 0 1) user ∷ Body (call_in 0 1) in_module (Own user) ∷ []

abbrev the_return : List Item
the_return = Leave (call_in 0 1) ∷ Ret (call_in 0 1) None ∷ []

abbrev the_unload : List Item
the_unload = Begin 5 ∷ Return 5 Accepted ∷ Begin 6 ∷ Return 6 Accepted ∷ []

-- ### it waits for the return

abbrev after_the_return : Job
after_the_return = loading (RetAct ∷ []) 3

abbrev after_the_return-items : List Item
after_the_return-items = before_the_call ++ (to_the_body ++ (the_return ++ the_unload))

after_the_return-plays : Plays after_the_return after_the_return-items true
unfolding actors_of repeated start step run played play all_end control_next control_got cpu_next cpu_got insn moves desk
after_the_return-plays = (refl, refl)

after_the_return-limited : IsLimited after_the_return
after_the_return-limited = record {
  version = (omega arith, omega arith);
  job' = record { commands = search (arith, rules); acts = search (arith, rules); tasks = search (arith, rules) };
  placed = (omega arith, tt);
  waits = search (arith, rules);
  raised = (tt, tt);
  ctls = omega arith;
  counts = record { few_functions = omega arith; few_users = omega arith; few_tasks = omega arith; few_tramps = omega arith };
  frames = omega arith;
  levels = search (arith, rules);
  acts = omega arith;
  items = omega arith;
}

after_the_return-legal : IsLegal after_the_return after_the_return-items
after_the_return-legal = legal-of after_the_return after_the_return-items true after_the_return-limited after_the_return-plays

-- the call is covered: it is under way after 4 commands alone, and the module is loaded then
after_the_return-covered : AreCovered after_the_return
after_the_return-covered = by
  where
    by : (t i m : ℕ) (f : FuncNo) → slice_get (acts_of after_the_return t) i ≡ Some (Call f) → module_of after_the_return.functions f.0 ≡ Some m
        → (k : ℕ) → from_command after_the_return t i ≤ k → k ≤ to_command after_the_return t i → is_loaded after_the_return.lines m k ≡ true
    by zero zero m f call is k from to = absurd cc
    by zero (suc zero) m f call is k from to =
        let called : in_module ≡ f = cc in
        let owner : 0 ≡ m = some_inj 0 m (ap (λ (g : FuncNo). module_of after_the_return.functions g.0) called ∙ is) in
        let four : 4 ≡ k = omega (arith, from, to) in
        subst (λ (n : ℕ). is_loaded after_the_return.lines m n ≡ true) four (subst (λ (n : ℕ). is_loaded after_the_return.lines n 4 ≡ true) owner refl)
    by zero (suc (suc zero)) m f call is k from to = absurd cc
    by zero (suc (suc (suc i))) m f call is k from to = absurd cc
    by (suc t) i m f call is k from to = absurd cc

after_the_return-keeps : KeepsLoaded after_the_return after_the_return-items
after_the_return-keeps = keeps after_the_return (tt, tt) after_the_return-covered after_the_return-items after_the_return-legal

-- ### it waits for the body, and the return for it

abbrev after_the_body : Job
after_the_body = loading (After 6 ∷ RetAct ∷ []) 2

abbrev after_the_body-items : List Item
after_the_body-items = before_the_call ++ (to_the_body ++ (the_unload ++ the_return))

after_the_body-plays : Plays after_the_body after_the_body-items true
unfolding actors_of repeated start step run played play all_end control_next control_got cpu_next cpu_got insn moves desk
after_the_body-plays = (refl, refl)

after_the_body-limited : IsLimited after_the_body
after_the_body-limited = record {
  version = (omega arith, omega arith);
  job' = record { commands = search (arith, rules); acts = search (arith, rules); tasks = search (arith, rules) };
  placed = (omega arith, tt);
  waits = search (arith, rules);
  raised = (tt, tt);
  ctls = omega arith;
  counts = record { few_functions = omega arith; few_users = omega arith; few_tasks = omega arith; few_tramps = omega arith };
  frames = omega arith;
  levels = search (arith, rules);
  acts = omega arith;
  items = omega arith;
}

after_the_body-legal : IsLegal after_the_body after_the_body-items
after_the_body-legal = legal-of after_the_body after_the_body-items true after_the_body-limited after_the_body-plays

-- the Leave doesn't find the module
after_the_body-refused : KeepsLoaded after_the_body after_the_body-items → ⊥
after_the_body-refused h = let w = h (before_the_call ++ (to_the_body ++ the_unload)) (Leave (call_in 0 1)) (Ret (call_in 0 1) None ∷ []) (call_in 0 1) refl refl in false_true w.0

-- so the call isn't covered
after_the_body-uncovered : AreCovered after_the_body → ⊥
after_the_body-uncovered covered = after_the_body-refused (keeps after_the_body (tt, tt) covered after_the_body-items after_the_body-legal)

-- ### a command is under way

-- the load has not returned at the Enter
load_under_way : KeepsLoaded after_the_return (Begin 1 ∷ Return 1 Accepted ∷ Begin 2 ∷ Return 2 Accepted ∷ Begin 3 ∷ Return 3 Accepted ∷ Begin 4 ∷ (to_the_body ++ the_return)) → ⊥
load_under_way h =
    let front : List Item = Begin 1 ∷ Return 1 Accepted ∷ Begin 2 ∷ Return 2 Accepted ∷ Begin 3 ∷ Return 3 Accepted ∷ Begin 4 ∷ [] in
    let w = h front (Enter (call_in 0 1) Normal in_module None) (Back (call_in 0 1) user ∷ BackEnd (call_in 0 1) user ∷ Body (call_in 0 1) in_module (Own user) ∷ the_return) (call_in 0 1) refl refl in
    false_true w.0

-- the unload has begun at the Leave
unload_under_way : KeepsLoaded after_the_return (before_the_call ++ (to_the_body ++ Begin 5 ∷ Return 5 Accepted ∷ Begin 6 ∷ the_return)) → ⊥
unload_under_way h =
    let w = h (before_the_call ++ (to_the_body ++ Begin 5 ∷ Return 5 Accepted ∷ Begin 6 ∷ [])) (Leave (call_in 0 1)) (Ret (call_in 0 1) None ∷ []) (call_in 0 1) refl refl in
    false_true w.1

-- ## what users call and run

-- a task calls the function outside of the modules, after the commands; the module is absent
abbrev of_user : Spec → TaskAct → List Ctl → Job
of_user spec first ctls = record {
  version = 1;
  functions = functions;
  users = spec ∷ [];
  frames = 50;
  tramps = 16;
  quanta = 100 ∷ [];
  tasks = record { pid = 10; cpu = 0; acts = first ∷ Call outside ∷ RetAct ∷ [] } ∷ [];
  ctls = ctls;
  schedule = record { who = All; count = 400 } ∷ [];
  lines = record { lanes = []; absent = 0 ∷ []; modules = [] };
  rings = usual_rings;
}

-- ### a user's act calls a function of the module

abbrev act_reaches_in : Job
act_reaches_in = of_user (record { name = codes "t"; kind = Function; regs = false; ipmodify = None; pid = false; act = Some (CallIn in_module) }) (After 1) (Run (Register 0) ∷ [])

abbrev act_reaches_in-items : List Item
act_reaches_in-items =
    Begin 1 ∷ Return 1 Accepted ∷ Enter (call_in 0 1) Normal outside None ∷ Back (call_in 0 1) user ∷ Enter (call_in 0 2) Normal in_module (Some (call_in 0 1)) ∷ Refuse (call_in 0 2) user Recursion
    ∷ Body (call_in 0 2) in_module (Own user) ∷ Leave (call_in 0 2) ∷ Ret (call_in 0 2) (Some (call_in 0 1)) ∷ BackEnd (call_in 0 1) user ∷ Body (call_in 0 1) outside (Own user) ∷ the_return

act_reaches_in-plays : Plays act_reaches_in act_reaches_in-items true
unfolding actors_of repeated start step run played play all_end control_next control_got cpu_next cpu_got insn moves desk
act_reaches_in-plays = (refl, refl)

act_reaches_in-limited : IsLimited act_reaches_in
act_reaches_in-limited = record {
  version = (omega arith, omega arith);
  job' = record { commands = search (arith, rules); acts = search (arith, rules); tasks = search (arith, rules) };
  placed = (omega arith, tt);
  waits = search (arith, rules);
  raised = (tt, tt);
  ctls = omega arith;
  counts = record { few_functions = omega arith; few_users = omega arith; few_tasks = omega arith; few_tramps = omega arith };
  frames = omega arith;
  levels = search (arith, rules);
  acts = omega arith;
  items = omega arith;
}

act_reaches_in-legal : IsLegal act_reaches_in act_reaches_in-items
act_reaches_in-legal = legal-of act_reaches_in act_reaches_in-items true act_reaches_in-limited act_reaches_in-plays

-- the calls of the script are covered
act_reaches_in-covered : AreCovered act_reaches_in
act_reaches_in-covered = by
  where
    by : (t i m : ℕ) (f : FuncNo) → slice_get (acts_of act_reaches_in t) i ≡ Some (Call f) → module_of functions f.0 ≡ Some m
        → (k : ℕ) → from_command act_reaches_in t i ≤ k → k ≤ to_command act_reaches_in t i → is_loaded act_reaches_in.lines m k ≡ true
    by zero zero m f call is k from to = absurd cc
    by zero (suc zero) m f call is k from to =
        let called : outside ≡ f = cc in
        let none : None ≡ Some m = ap (λ (g : FuncNo). module_of functions g.0) called ∙ is in
        absurd cc
    by zero (suc (suc zero)) m f call is k from to = absurd cc
    by zero (suc (suc (suc i))) m f call is k from to = absurd cc
    by (suc t) i m f call is k from to = absurd cc

-- but the call that the act makes is not
act_reaches_in-refused : KeepsLoaded act_reaches_in act_reaches_in-items → ⊥
act_reaches_in-refused h =
    let front : List Item = Begin 1 ∷ Return 1 Accepted ∷ Enter (call_in 0 1) Normal outside None ∷ Back (call_in 0 1) user ∷ [] in
    let rest : List Item = Refuse (call_in 0 2) user Recursion ∷ Body (call_in 0 2) in_module (Own user) ∷ Leave (call_in 0 2) ∷ Ret (call_in 0 2) (Some (call_in 0 1)) ∷ BackEnd (call_in 0 1) user ∷ Body (call_in 0 1) outside (Own user) ∷ the_return in
    let w = h front (Enter (call_in 0 2) Normal in_module (Some (call_in 0 1))) rest (call_in 0 2) refl refl in
    false_true w.0

act_reaches_in-not_apart : AreActsApart act_reaches_in → ⊥
act_reaches_in-not_apart apart = act_reaches_in-refused (keeps act_reaches_in apart act_reaches_in-covered act_reaches_in-items act_reaches_in-legal)

-- ### a user's replacement is in the module

abbrev filters : Edit
filters = record { append = false; remove = false; clear = false; set = true ∷ false ∷ [] }

abbrev replacement_is_in : Job
replacement_is_in = of_user (record { name = codes "p"; kind = Function; regs = true; ipmodify = Some in_module; pid = false; act = None }) (After 2) (Run (Filter 0 filters) ∷ Run (Register 0) ∷ [])

abbrev replacement_is_in-items : List Item
replacement_is_in-items = Begin 1 ∷ Return 1 Accepted ∷ Begin 2 ∷ Return 2 Accepted ∷ Enter (call_in 0 1) Normal outside None ∷ Back (call_in 0 1) user ∷ BackEnd (call_in 0 1) user ∷ Body (call_in 0 1) in_module (Own user) ∷ the_return

replacement_is_in-plays : Plays replacement_is_in replacement_is_in-items true
unfolding actors_of repeated start step run played play all_end control_next control_got cpu_next cpu_got insn moves desk
replacement_is_in-plays = (refl, refl)

replacement_is_in-limited : IsLimited replacement_is_in
replacement_is_in-limited = record {
  version = (omega arith, omega arith);
  job' = record { commands = search (arith, rules); acts = search (arith, rules); tasks = search (arith, rules) };
  placed = (omega arith, tt);
  waits = search (arith, rules);
  raised = (tt, tt);
  ctls = omega arith;
  counts = record { few_functions = omega arith; few_users = omega arith; few_tasks = omega arith; few_tramps = omega arith };
  frames = omega arith;
  levels = search (arith, rules);
  acts = omega arith;
  items = omega arith;
}

replacement_is_in-legal : IsLegal replacement_is_in replacement_is_in-items
replacement_is_in-legal = legal-of replacement_is_in replacement_is_in-items true replacement_is_in-limited replacement_is_in-plays

replacement_is_in-covered : AreCovered replacement_is_in
replacement_is_in-covered = by
  where
    by : (t i m : ℕ) (f : FuncNo) → slice_get (acts_of replacement_is_in t) i ≡ Some (Call f) → module_of functions f.0 ≡ Some m
        → (k : ℕ) → from_command replacement_is_in t i ≤ k → k ≤ to_command replacement_is_in t i → is_loaded replacement_is_in.lines m k ≡ true
    by zero zero m f call is k from to = absurd cc
    by zero (suc zero) m f call is k from to =
        let called : outside ≡ f = cc in
        let none : None ≡ Some m = ap (λ (g : FuncNo). module_of functions g.0) called ∙ is in
        absurd cc
    by zero (suc (suc zero)) m f call is k from to = absurd cc
    by zero (suc (suc (suc i))) m f call is k from to = absurd cc
    by (suc t) i m f call is k from to = absurd cc

-- the function that is called is there, and the one that runs is not
replacement_is_in-keeps : KeepsLoaded replacement_is_in replacement_is_in-items
replacement_is_in-keeps = keeps replacement_is_in (tt, tt) replacement_is_in-covered replacement_is_in-items replacement_is_in-legal

replacement_is_in-refused : RunsLoaded replacement_is_in replacement_is_in-items → ⊥
replacement_is_in-refused h =
    let front : List Item = Begin 1 ∷ Return 1 Accepted ∷ Begin 2 ∷ Return 2 Accepted ∷ Enter (call_in 0 1) Normal outside None ∷ Back (call_in 0 1) user ∷ BackEnd (call_in 0 1) user ∷ [] in
    let w = h front the_return (call_in 0 1) in_module (Own user) refl in
    false_true w.0

replacement_is_in-not_apart : AreReplacementsApart replacement_is_in → ⊥
replacement_is_in-not_apart others = replacement_is_in-refused (runs replacement_is_in (tt, tt) replacement_is_in-covered others replacement_is_in-items replacement_is_in-legal)
