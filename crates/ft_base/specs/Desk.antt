-- The desk: the users' state after the first commands of a job, and the answer of each command.
use Rattle.std.specs.Prelude.{ℕ, zero, suc, Bool, true, false, not, ◌||◌, ◌&&◌, ◌==◌, List, [], ◌∷◌, get_or, set, length, map, Option, Some, None, is_some, if◌then◌else◌}
use Rattle.std.specs.List.{list_any}
use Rattle.std.specs.Option.{option_and_then}
use Rattle.ft_base.specs.declared.item.Ran.{Ran}
use Rattle.ft_base.specs.declared.item.Ran.TheVariants.{Nop, List as ByList, Own}
use Rattle.ft_base.specs.declared.item.Answer.{Answer}
use Rattle.ft_base.specs.declared.item.Answer.TheVariants.{Accepted, Already, NotThere, Invalid, NoMatch, Busy}
use Rattle.ft_base.specs.declared.user.Kind.TheVariants.{Function}
use Rattle.ft_base.specs.Marks.{Marks, holds, is_empty, union, difference, empty}
use Rattle.ft_base.specs.Job.{Spec, Edit, Command, Register, Unregister, Filter, Notrace, Pid, NoPid, Enable, Disable, MaxDepth, Job, command_at, funcs}
use Rattle.ft_base.specs.Kinds.{is_fprobe}

-- one user on a desk: whether it is registered, its registration number, the number of its last accepted register
-- command, whether it is enabled, its filter and notrace sets, and its trampoline slot
pub record UserState : Type 0 where
  pub registered : Bool
  pub reg : ℕ
  pub since : ℕ
  pub enabled : Bool
  pub filter : Marks
  pub notrace : Marks
  pub slot : Option ℕ

-- all users, the lists of pids that alone are traced and that are not, as sets of tasks, and the graph depth, 0 for no limit
-- (ftrace.rst, The File System: set_ftrace_pid, set_ftrace_notrace_pid, max_graph_depth)
pub record Desk : Type 0 where
  pub users : List UserState
  pub pids : Marks
  pub nopids : Marks
  pub depth : ℕ

-- a user that was never registered, with the empty sets of functions below a size
abbrev pub unseen : ℕ → UserState
unseen size = record { registered = false; reg = 0; since = 0; enabled = false; filter = empty size; notrace = empty size; slot = None }

-- the user of a number
abbrev pub user_at : Desk → ℕ → UserState
user_at desk u = get_or desk.users u (unseen 0)

-- a user of kind function without a name, a flag or an act, which stands for a number that the job does not have
abbrev pub plain_spec : Spec
plain_spec = record { name = []; kind = Function; regs = false; ipmodify = None; pid = false; act = None }

-- what the job declares of a user
abbrev pub spec_at : Job → ℕ → Spec
spec_at job u = get_or job.users u plain_spec

-- a user matches a function if its filter is empty or holds it, and its notrace set does not hold it
-- (ftrace.rst, The File System: set_ftrace_filter, set_ftrace_notrace; ftrace-uses.rst, Filtering which functions to trace)
abbrev pub matches_by : Marks → Marks → ℕ → Bool
matches_by filter notrace f = (is_empty filter || holds filter f) && not (holds notrace f)

-- the user in this state matches the function
abbrev pub is_matching : UserState → ℕ → Bool
is_matching s f = matches_by s.filter s.notrace f

-- the user is registered and matches the function, so the site of the function is patched for it
abbrev pub is_sited : Desk → ℕ → ℕ → Bool
is_sited desk u f = (user_at desk u).registered && is_matching (user_at desk u) f

-- it is enabled besides, so that a call of the function calls it back
abbrev pub is_on : Desk → ℕ → ℕ → Bool
is_on desk u f = is_sited desk u f && (user_at desk u).enabled

-- the user is registered and enabled, under this registration number
abbrev pub is_live : Desk → ℕ → ℕ → Bool
is_live desk u r = (user_at desk u).registered && (user_at desk u).enabled && ((user_at desk u).reg == r)

-- a task is traced for users with the pid flag: the pid list is empty or holds it, and the nopid list does not hold it
-- (ftrace.rst, The File System: set_ftrace_pid; set_ftrace_notrace_pid "takes precedence")
abbrev pub is_allowed : Desk → ℕ → Bool
is_allowed desk t = (is_empty desk.pids || holds desk.pids t) && not (holds desk.nopids t)

-- the lowest of the `n` numbers from a start on that passes
abbrev pub lowest : (ℕ → Bool) → ℕ → ℕ → Option ℕ
lowest p from zero = None
lowest p from (suc n) = if p from then Some from else lowest p (suc from) n

-- the lowest number below n that passes
abbrev pub lowest_below : (ℕ → Bool) → ℕ → Option ℕ
lowest_below p n = lowest p 0 n

-- the users sited at f, of the first n, the lowest first
abbrev pub sited_from : Desk → ℕ → ℕ → List UserState → List ℕ
sited_from desk f u [] = []
sited_from desk f u (s ∷ rest) = if s.registered && is_matching s f then u ∷ sited_from desk f (suc u) rest else sited_from desk f (suc u) rest

-- the users sited at a function, the lowest first
abbrev pub sited : Desk → ℕ → List ℕ
sited desk f = sited_from desk f 0 desk.users

-- what a call site should be, by those sited at its function: nothing, one user's own trampoline, or the list caller
-- (ftrace.rst, dynamic ftrace; The File System: enabled_functions)
abbrev pub target_by : Desk → List ℕ → Ran
target_by desk [] = Nop
target_by desk (u ∷ []) = if is_some (user_at desk u).slot then Own (record { 0 = u }) else ByList
target_by desk (u ∷ v ∷ rest) = ByList

-- what the call site of a function should be
abbrev pub target : Desk → ℕ → Ran
target desk f = target_by desk (sited desk f)

-- the set after an edit: `>` starts from the empty set and `>>` from the set as it is; the selected functions are added,
-- or with `!` taken away (ftrace.rst, dynamic ftrace; Filter commands)
abbrev pub edited : ℕ → Marks → Edit → Marks
edited size old e =
    if e.clear then empty size else
    (if e.remove then difference (if e.append then old else empty size) e.set else union (if e.append then old else empty size) e.set)

-- another registered user that replaces functions matches this one
abbrev pub other_modifier : Job → Desk → ℕ → ℕ → ℕ → Bool
other_modifier job desk u f v = not (v == u) && (user_at desk v).registered && is_some (spec_at job v).ipmodify && is_matching (user_at desk v) f

-- `Busy` for the function and its holder, if there are both
abbrev pub busy_or : Option ℕ → Option ℕ → Answer → Answer
busy_or (Some f) (Some v) otherwise = Busy (record { 0 = f }) (record { 0 = v })
busy_or _ _ otherwise = otherwise

-- who holds a function against a user: the first other registered user that replaces functions and matches it
abbrev pub holder : Job → Desk → ℕ → ℕ → Option ℕ
holder job desk u f = lowest_below (other_modifier job desk u f) (length job.users)

-- what stands in the way of a user that replaces functions and has these sets: the lowest function that they match and that has a
-- holder, with its holder (ftrace-uses.rst, The ftrace FLAGS: FTRACE_OPS_FL_IPMODIFY)
abbrev pub claim : Job → Desk → ℕ → Marks → Marks → Answer
claim job desk u filter notrace =
    let held = lowest_below (λ f. matches_by filter notrace f && is_some (holder job desk u f)) (funcs job) in
    busy_or held (option_and_then (holder job desk u) held) Accepted

-- the answer to register: a user that replaces functions needs the regs flag and a filter that is not empty
-- (ftrace-uses.rst, The ftrace FLAGS: IPMODIFY requires SAVE_REGS)
abbrev pub register_answer : Job → Desk → ℕ → Answer
register_answer job desk u =
    let s = user_at desk u in
    let modifies = is_some (spec_at job u).ipmodify in
    if s.registered then Already else
    (if modifies && (not (spec_at job u).regs || is_empty s.filter) then Invalid else
    (if modifies then claim job desk u s.filter s.notrace else Accepted))

-- the answer to an edit that would leave the user with these sets
abbrev pub edit_answer : Job → Desk → ℕ → Edit → Marks → Marks → Answer
edit_answer job desk u e filter notrace =
    let binds = (user_at desk u).registered && is_some (spec_at job u).ipmodify in
    let selects = e.clear || not (is_empty e.set) in
    if binds && selects && is_empty filter then Invalid else
    (if not selects then NoMatch else
    (if binds then claim job desk u filter notrace else Accepted))

-- the answer to enable and disable, which are for fprobes alone (fprobe.rst, The usage of fprobe)
abbrev pub switch_answer : Job → Desk → ℕ → Answer
switch_answer job desk u =
    if not (user_at desk u).registered then NotThere else
    (if not (is_fprobe (spec_at job u).kind) then Invalid else Accepted)

-- the answer of a command on a desk: the first that holds, from left to right. A refused command changes nothing
abbrev pub answer_on : Job → Desk → Command → Answer
answer_on job desk (Register u) = register_answer job desk u
answer_on job desk (Unregister u) = if (user_at desk u).registered then Accepted else NotThere
answer_on job desk (Filter u e) = edit_answer job desk u e (edited (funcs job) (user_at desk u).filter e) (user_at desk u).notrace
answer_on job desk (Notrace u e) = edit_answer job desk u e (user_at desk u).filter (edited (funcs job) (user_at desk u).notrace e)
answer_on job desk (Pid pids) = Accepted
answer_on job desk (NoPid nopids) = Accepted
answer_on job desk (Enable u) = switch_answer job desk u
answer_on job desk (Disable u) = switch_answer job desk u
answer_on job desk (MaxDepth depth) = Accepted

-- this is the slot
abbrev pub has_slot : ℕ → Option ℕ → Bool
has_slot s None = false
has_slot s (Some t) = s == t

-- nobody has this trampoline
abbrev pub is_free : Desk → ℕ → Bool
is_free desk s = not (list_any (λ v. v.registered && has_slot s v.slot) desk.users)

-- the desk with one user changed
abbrev pub with_user : Desk → ℕ → UserState → Desk
with_user desk u s = record desk { users = set desk.users u s }

-- a user that the k-th command registers: its registration number goes up by 1, it is enabled, and takes the lowest free
-- trampoline slot, or none if none is free
abbrev pub registered_as : Job → Desk → ℕ → UserState → UserState
registered_as job desk k s = record s { registered = true; reg = suc s.reg; since = k; enabled = true; slot = lowest_below (is_free desk) job.tramps }

-- a user that is unregistered: its slot is free again. Its registration number stays, and so do its sets
abbrev pub unregistered_as : UserState → UserState
unregistered_as s = record s { registered = false; slot = None }

-- the desk after the k-th command, which was accepted
abbrev pub changed : Job → Desk → ℕ → Command → Desk
changed job desk k (Register u) = with_user desk u (registered_as job desk k (user_at desk u))
changed job desk k (Unregister u) = with_user desk u (unregistered_as (user_at desk u))
changed job desk k (Filter u e) = let s = user_at desk u in with_user desk u (record s { filter = edited (funcs job) s.filter e })
changed job desk k (Notrace u e) = let s = user_at desk u in with_user desk u (record s { notrace = edited (funcs job) s.notrace e })
changed job desk k (Pid pids) = record desk { pids = pids }
changed job desk k (NoPid nopids) = record desk { nopids = nopids }
changed job desk k (Enable u) = with_user desk u (record (user_at desk u) { enabled = true })
changed job desk k (Disable u) = with_user desk u (record (user_at desk u) { enabled = false })
changed job desk k (MaxDepth depth) = record desk { depth = depth }

-- the command was accepted
abbrev pub is_accepted : Answer → Bool
is_accepted Accepted = true
is_accepted _ = false

-- the desk after the k-th command, if there is one
abbrev pub after : Job → Desk → ℕ → Option Command → Desk
after job desk k None = desk
after job desk k (Some c) = if is_accepted (answer_on job desk c) then changed job desk k c else desk

-- the desk after the job's command of this number, from the desk before it
abbrev pub after_command : Job → ℕ → Desk → Desk
after_command job k before = after job before k (command_at job k)

-- the desk before any command: nobody is registered, all lists and sets are empty, and there is no limit of depth
abbrev pub opening : Job → Desk
opening job = record {
  users = map (λ s. unseen (funcs job)) job.users;
  pids = empty (length job.tasks);
  nopids = empty (length job.tasks);
  depth = 0;
}

-- the desk after the first k commands of the job
unfoldable pub desk : Job → ℕ → Desk
desk job zero = opening job
desk job (suc k) = after_command job (suc k) (desk job k)

-- the answer of the command at this index, on the desk before it
abbrev pub answer_at : Job → ℕ → Command → Answer
answer_at job k c = answer_on job (desk job k) c
