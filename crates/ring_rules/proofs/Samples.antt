-- The rings of two histories under two plans each, by computation.
use Rattle.std.proofs.Common.{◌≡◌, ℕ, true, false, List, [], ◌∷◌, ◌++◌, Some, None, refl}
use Rattle.ft_base.specs.Job.{usual_lines, Job, RingPlan, Spec, Task, Trigger}
use Rattle.ft_base.specs.declared.context.Ctx.TheVariants.{Normal}
use Rattle.ft_base.specs.declared.item.Ran.TheVariants.{Own}
use Rattle.ft_base.specs.declared.item.Answer.TheVariants.{Accepted}
use Rattle.ft_base.specs.declared.item.Item.{Item}
use Rattle.ft_base.specs.declared.item.Item.TheVariants.{Begin, Return, Enter, Back, BackEnd, Body, Leave, Ret}
use Rattle.ft_base.specs.declared.number.CallNo.{CallNo}
use Rattle.ft_base.specs.declared.user.Kind.{Kind}
use Rattle.ft_base.specs.declared.user.Kind.TheVariants.{Function, Graph}
use Rattle.ring_rules.specs.Fold.{fold, no_ring}
use Rattle.ring_rules.specs.Plan.{plan_of}

user : Kind → Spec
user kind = record { name = []; kind = kind; regs = false; ipmodify = None; pid = false; act = None }

task : ℕ → Task
task cpu = record { pid = 1; cpu = cpu; acts = [] }

-- a job of the functions 0 and 1, of which rings and triggers read these alone
job_with : List Spec → List Task → List ℕ → RingPlan → Job
job_with users tasks quanta rings = record {
  version = 2;
  functions = record { name = 97 ∷ []; owner = None } ∷ record { name = 98 ∷ []; owner = None } ∷ [];
  users = users;
  frames = 50;
  tramps = 64;
  quanta = quanta;
  tasks = tasks;
  ctls = [];
  schedule = [];
  lines = usual_lines;
  rings = rings;
}

-- call n of a task
abbrev pub call : ℕ → ℕ → CallNo
call t n = record { task = record { 0 = t }; n = n }

-- its items, if it fetches the trampoline of user u, who is called back
abbrev one_call : ℕ → ℕ → ℕ → ℕ → List Item
one_call t n f u =
    Enter (call t n) Normal (record { 0 = f }) None
    ∷ Back (call t n) (record { 0 = u }) ∷ BackEnd (call t n) (record { 0 = u })
    ∷ Body (call t n) (record { 0 = f }) (Own (record { 0 = u })) ∷ Leave (call t n) ∷ Ret (call t n) None ∷ []

-- ## one CPU

-- three calls of function 0 and one of function 1, after the user was registered
history : List Item
history = Begin 1 ∷ Return 1 Accepted ∷ one_call 0 1 0 0 ++ one_call 0 2 0 0 ++ one_call 0 3 0 0 ++ one_call 0 4 1 0

-- rings of two entries, and a trigger
job_one : Trigger → Job
job_one t = job_with (user Function ∷ []) (task 0 ∷ []) (1 ∷ []) (record { ring = 2; tracing = true; triggers = t ∷ [] })

-- `ring 2` and `trigger b:traceoff:1`: three entries are written, of which the ring holds the last two; the call of b, which fires, has none
off-at-b : fold (plan_of (job_one (record { on = false; limit = Some 1; set = false ∷ true ∷ [] }))) history
    ≡ record { cpus = record { written = 3; held = 9 ∷ 15 ∷ [] } ∷ []; fired = (20 ∷ []) ∷ [] }
unfolding history job_one job_with user task
off-at-b = refl

-- `trigger a:traceoff:1` in its place: the first call of a fires, before its entry callback, and nothing is written
off-at-a : fold (plan_of (job_one (record { on = false; limit = Some 1; set = true ∷ false ∷ [] }))) history
    ≡ record { cpus = record { written = 0; held = [] } ∷ []; fired = (2 ∷ []) ∷ [] }
unfolding history job_one job_with user task
off-at-a = refl

-- ## two CPUs

-- the task of CPU 0 calls a, then that of CPU 1 calls b, where a graph user is called back, and a, and then that of CPU 0 calls a again
abbrev pub two : List Item
two = one_call 0 1 0 0 ++ one_call 1 1 1 1 ++ one_call 1 2 0 0 ++ one_call 0 2 0 0

-- rings of one entry, `tracing off`, and triggers
job_two : List Trigger → Job
job_two ts = job_with (user Function ∷ user Graph ∷ []) (task 0 ∷ task 1 ∷ []) (1 ∷ 1 ∷ []) (record { ring = 1; tracing = false; triggers = ts })

-- `trigger b:traceon`: the entry callbacks after the call of b are written, each on its CPU, but not that of the graph user
on-at-b : fold (plan_of (job_two (record { on = true; limit = None; set = false ∷ true ∷ [] } ∷ []))) two
    ≡ record { cpus = record { written = 1; held = 19 ∷ [] } ∷ record { written = 1; held = 13 ∷ [] } ∷ []; fired = (6 ∷ []) ∷ [] }
unfolding job_two job_with user task
on-at-b = refl

-- `trigger *:traceon` and `trigger a:traceoff:2`
both : List Trigger
both = record { on = true; limit = None; set = true ∷ true ∷ [] } ∷ record { on = false; limit = Some 2; set = true ∷ false ∷ [] } ∷ []

-- two calls of a fire both, and the later line tells; the third fires the first line alone
in-order : fold (plan_of (job_two both)) two
    ≡ record { cpus = record { written = 1; held = 19 ∷ [] } ∷ no_ring ∷ []; fired = (0 ∷ 6 ∷ 12 ∷ 18 ∷ []) ∷ (0 ∷ 12 ∷ []) ∷ [] }
unfolding both job_two job_with user task
in-order = refl
