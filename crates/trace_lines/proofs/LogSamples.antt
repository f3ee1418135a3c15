-- Worked lines of the log: the definition computes each of them.
use Rattle.std.proofs.Common.{◌≡◌, ℕ, true, false, List, [], ◌∷◌, map, codes, Some, None, refl}
use Rattle.std.specs.Fmt.{digits}
use Rattle.ft_base.specs.declared.number.CallNo.{CallNo}
use Rattle.ft_base.specs.declared.context.Ctx.TheVariants.{Normal, Softirq, Irq, Nmi}
use Rattle.ft_base.specs.declared.item.Item.{Item}
use Rattle.ft_base.specs.declared.item.Item.TheVariants.{Begin, Return, Enter, Back, BackEnd, Refuse, Miss, Body, Leave, Exit, ExitEnd, Ret}
use Rattle.ft_base.specs.declared.item.Ran.TheVariants.{Nop, List as ByList, Own}
use Rattle.ft_base.specs.declared.item.Reason.TheVariants.{Pid, Recursion, Depth}
use Rattle.ft_base.specs.declared.item.Answer.TheVariants.{Accepted, Already, NotThere, Invalid, NoMatch, Busy}
use Rattle.ft_base.specs.declared.number.FuncNo.{FuncNo}
use Rattle.ft_base.specs.declared.number.UserNo.{UserNo}
use Rattle.ft_base.specs.declared.user.Kind.TheVariants.{Function}
use Rattle.ft_base.specs.Job.{usual_lines, usual_rings, Job}
use Rattle.trace_views.specs.LogText.{joined, item_words, log_line, log_text}

-- one function, one user and one task
abbrev job : Job
job = record {
  version = 1;
  functions = record { name = codes "do_fork"; owner = None } ∷ [];
  users = record { name = codes "tr"; kind = Function; regs = false; ipmodify = None; pid = false; act = None } ∷ [];
  frames = 50;
  tramps = 16;
  quanta = 100 ∷ [];
  tasks = record { pid = 10; cpu = 0; acts = [] } ∷ [];
  ctls = [];
  schedule = [];
  lines = usual_lines;
  rings = usual_rings;
}

-- the calls of the only task, by number, and a call of a task that the job doesn't have
abbrev call : ℕ → CallNo
call n = record { task = record { 0 = 0 }; n = n }

abbrev stray : CallNo
stray = record { task = record { 0 = 1 }; n = 4 }

-- the only function and the only user, and a function and a user that the job doesn't have
abbrev func : FuncNo
func = record { 0 = 0 }

abbrev no_func : FuncNo
no_func = record { 0 = 1 }

abbrev user : UserNo
user = record { 0 = 0 }

abbrev no_user : UserNo
no_user = record { 0 = 1 }

-- what each item says after its place
abbrev texts : List Item → List (List ℕ)
texts = map (λ item. joined (item_words job item))

commands : texts (Begin 1 ∷ Return 1 Accepted ∷ Return 2 Already ∷ Return 3 NotThere ∷ Return 4 Invalid ∷ Return 5 NoMatch ∷ Return 6 (Busy func user) ∷ [])
    ≡ codes "begin 1" ∷ codes "return 1 ok" ∷ codes "return 2 already" ∷ codes "return 3 not-there" ∷ codes "return 4 invalid" ∷ codes "return 5 no-match"
    ∷ codes "return 6 busy do_fork tr" ∷ []
unfolding digits
commands = refl

-- the same job in lanes, and a command that it doesn't have
abbrev in_lanes : Job
in_lanes = record job { lines = record usual_lines { lanes = 1 ∷ 0 ∷ [] } }

lanes : map (λ item. joined (item_words in_lanes item)) (Begin 1 ∷ Begin 2 ∷ Return 2 Already ∷ Begin 3 ∷ [])
    ≡ codes "begin 1 lane 1" ∷ codes "begin 2 lane 0" ∷ codes "return 2 already" ∷ codes "begin 3" ∷ []
unfolding digits
lanes = refl

entries : texts (Enter (call 1) Normal func None ∷ Enter (call 2) Softirq func (Some (call 1)) ∷ Enter (call 3) Irq no_func None ∷ Enter stray Nmi func (Some stray) ∷ [])
    ≡ codes "enter 10.1 normal do_fork -" ∷ codes "enter 10.2 softirq do_fork 10.1" ∷ codes "enter 10.3 irq  -" ∷ codes "enter 0.4 nmi do_fork 0.4" ∷ []
unfolding digits
entries = refl

visits : texts (Back (call 1) user ∷ BackEnd (call 1) user ∷ Miss (call 1) no_user ∷ Refuse (call 1) user Pid ∷ Refuse (call 1) user Recursion ∷ Refuse (call 1) user Depth ∷ [])
    ≡ codes "back 10.1 tr" ∷ codes "back-end 10.1 tr" ∷ codes "miss 10.1 " ∷ codes "refuse 10.1 tr pid" ∷ codes "refuse 10.1 tr recursion" ∷ codes "refuse 10.1 tr depth" ∷ []
unfolding digits
visits = refl

bodies : texts (Body (call 1) func Nop ∷ Body (call 1) func ByList ∷ Body (call 1) func (Own user) ∷ Leave (call 12) ∷ [])
    ≡ codes "body 10.1 do_fork nop" ∷ codes "body 10.1 do_fork list" ∷ codes "body 10.1 do_fork own tr" ∷ codes "leave 10.12" ∷ []
unfolding digits
bodies = refl

exits : texts (Exit (call 1) user 11 ∷ ExitEnd (call 1) user ∷ Ret (call 1) None ∷ Ret (call 2) (Some (call 1)) ∷ [])
    ≡ codes "exit 10.1 tr 11" ∷ codes "exit-end 10.1 tr" ∷ codes "ret 10.1 -" ∷ codes "ret 10.2 10.1" ∷ []
unfolding digits
exits = refl

-- places and the last line
whole : log_text job (Begin 1 ∷ Return 1 Accepted ∷ []) true ≡ codes "0 begin 1\n1 return 1 ok\nend\n"
unfolding log_text log_line digits
whole = refl

unfinished : log_text job (Begin 1 ∷ []) false ≡ codes "0 begin 1\nstopped\n"
unfolding log_text log_line digits
unfinished = refl
