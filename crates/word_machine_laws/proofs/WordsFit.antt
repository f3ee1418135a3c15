-- Each word has a content of 64 bits, in every state that a job within the limits comes to.
use Rattle.std.proofs.Common.{cond, ◌≡◌, ℕ, zero, suc, ◌+◌, ◌*◌, ◌<◌, ◌≤◌, Bool, true, false, ◌&&◌, ◌==◌, nat_lt, List, [], ◌∷◌, length, get_or, Option, Some, None, refl, sym, ap, ◌∙◌, subst, arith, inl, inr, map, take, drop}
use Rattle.std.specs.Prelude.{sum_by, slice_get, if◌then◌else◌}
use Rattle.std.specs.List.{range_with_len}
use Rattle.std.proofs.lemmas.Option.{same_Some}
use Rattle.std.proofs.lemmas.Bool.{cases_eq, lt-ltb}
use Rattle.std.proofs.lemmas.Bool.Decides.{nat_tests}
use Rattle.std.proofs.lemmas.List.{length-take, length-map}
use Rattle.std.proofs.lemmas.List.FromFn.{length-range_with_len}
use Rattle.std.proofs.lemmas.List.Sums.{sum_by-cons}
use Rattle.ft_base.specs.declared.limits.TheConstants.{TRAMPS, USERS}
use Rattle.ft_base.specs.declared.item.Item.{Item}
use Rattle.ft_base.specs.declared.item.Item.TheVariants.{Begin, Return}
use Rattle.ft_base.specs.declared.turn.Actor.{Actor}
use Rattle.ft_base.specs.declared.turn.Actor.TheVariants.{Control as ByControl, Cpu as ByCpu}
use Rattle.ft_base.specs.Job.{Job, Task, no_task, Command, Register, Unregister, Filter, Notrace, Enable, Disable, MaxDepth, Run, Until, Ctl, commands, funcs}
use Rattle.ft_base.specs.Desk.{UserState, Desk, desk, is_accepted, answer_on, changed, is_allowed}
use Rattle.ft_base.specs.Order.{has}
use Rattle.ft_base.specs.WellFormed.{IsNamed}
use Rattle.ft_base.proofs.Modifiers.{named-at}
use Rattle.ft_base.proofs.Versions.{few-largest}
use Rattle.ft_base.specs.Marks.{Marks}
use Rattle.site_set.specs.Marks.{number_with_bits, word_of}
use Rattle.word_map.specs.Words.{Word, Words, Clock, Want, First as ListHead, Pids, Depth, Head, Tail, Next, Ack, Quiet, Tramp, Link, Sel, Bits, put, bits_put}
use Rattle.word_map.specs.Contents.{low, halves, half_size, greatest_half, all_ones, sel_of, set_word, mask_of}
use Rattle.word_map.specs.Instructions.{head_of, tail_of}
use Rattle.word_machine.specs.Commands.{Effect, Removes, Edits, Lists, Levels, Nothing, effect, subject, subject_in, command, state_of, insn}
use Rattle.word_map.specs.Ops.{WordOp, Load, Store, Mark}
use Rattle.word_machine.specs.Control.{Position, Line, Take, Copy, Select, Push, Relink, StorePids, StoreDepth, Patch, Ask, Release, next_in, line_op, relink_op, control_next, copy_after, name_of, follower}
use Rattle.word_machine.specs.Task.{TaskState, is_quiet, quiet_word, OpenCall, Moment, Polling, First, call_op, first_op, stack_op}
use Rattle.word_machine.specs.Cpu.{Cpu, Phase, Going, Looked, Answering, StoringAck, StoringQuiet, Over, any_has_more, ack_value, looks, phase_op, going_op, present_op, cpu_next}
use Rattle.word_machine.specs.Machine.{World, words_after, weight, control_moved, cpu_moved, step, run, start, taken, control_row, cpu_row}
use Rattle.word_machine.specs.Sites.{PositionAt}
use Rattle.word_machine.specs.UserList.{list_desk}
use Rattle.word_machine.specs.Rule.{MachineRule, PollAt, task_in}
use Rattle.word_machine.specs.Limits.{IsLimited, IsLevel}
use Rattle.word_machine.specs.Laws.{Runs, AllFit, WaitsAt}
use Rattle.word_machine.proofs.Small.{if_case, put_case, has-more}
use Rattle.word_machine_laws.proofs.Batches.{Sweep, Nexts, Breaks, Tails, Heads, store_at, store_case}
use Rattle.word_machine_laws.proofs.Effects.{after_small}
use Rattle.word_machine_laws.proofs.DeskStart.{reg_at_start}
use Rattle.word_machine_laws.proofs.DeskChanges.{between, SubjectBy}
use Rattle.word_machine_laws.proofs.DeskNumbers.{registered-inside}
use Rattle.word_machine_laws.proofs.DeskSlots.{insn-small}
use Rattle.word_machine_laws.proofs.PollRows.{request-small}
use Rattle.word_machine_laws.proofs.Steps.{step_keeps}
use Rattle.word_machine_laws.proofs.Start.{opens}
use Rattle.word_machine.specs.Progress.{underway}
use Rattle.ft_base.specs.declared.task.TaskAct.{TaskAct}
use Rattle.ft_base.specs.declared.task.TaskAct.TheVariants.{Call, Ret as RetAct, Raise, Lower, After}
use Rattle.ft_base.specs.Tasks.{has_acts}
use Rattle.word_machine_laws.proofs.Limited.{limited, few-commands}
use Rattle.word_machine_laws.proofs.Waits.{waits-got}

-- ## a store

bits_fit : (g : ℕ → ℕ → ℕ → ℕ → ℕ) (u copy half w x v d h k : ℕ) → x < 18446744073709551616 → g v d h k < 18446744073709551616
    → bits_put g u copy half w x v d h k < 18446744073709551616
bits_fit g u copy half w x v d h k lt old = if_case (λ n. n < 18446744073709551616) ((v == u) && (d == copy) && (h == half) && (k == w)) x (g v d h k)
    (λ e. lt) (λ e. old)

put_fits : (w : Word) (x : ℕ) (ws : Words) → x < 18446744073709551616 → AllFit ws → AllFit (put w x ws)
put_fits Clock x ws lt f Clock = lt
put_fits Clock x ws lt f v = f v
put_fits Want x ws lt f Want = lt
put_fits Want x ws lt f v = f v
put_fits ListHead x ws lt f ListHead = lt
put_fits ListHead x ws lt f v = f v
put_fits Pids x ws lt f Pids = lt
put_fits Pids x ws lt f v = f v
put_fits Depth x ws lt f Depth = lt
put_fits Depth x ws lt f v = f v
put_fits (Head i) x ws lt f (Head j) = put_case ws.head i x (λ k y. y < 18446744073709551616) j (λ e. lt) (λ ne. f (Head j))
put_fits (Head i) x ws lt f v = f v
put_fits (Tail i) x ws lt f (Tail j) = put_case ws.tail i x (λ k y. y < 18446744073709551616) j (λ e. lt) (λ ne. f (Tail j))
put_fits (Tail i) x ws lt f v = f v
put_fits (Next i) x ws lt f (Next j) = put_case ws.next i x (λ k y. y < 18446744073709551616) j (λ e. lt) (λ ne. f (Next j))
put_fits (Next i) x ws lt f v = f v
put_fits (Ack i) x ws lt f (Ack j) = put_case ws.ack i x (λ k y. y < 18446744073709551616) j (λ e. lt) (λ ne. f (Ack j))
put_fits (Ack i) x ws lt f v = f v
put_fits (Quiet i) x ws lt f (Quiet j) = put_case ws.quiet i x (λ k y. y < 18446744073709551616) j (λ e. lt) (λ ne. f (Quiet j))
put_fits (Quiet i) x ws lt f v = f v
put_fits (Tramp i) x ws lt f (Tramp j) = put_case ws.tramp i x (λ k y. y < 18446744073709551616) j (λ e. lt) (λ ne. f (Tramp j))
put_fits (Tramp i) x ws lt f v = f v
put_fits (Link i) x ws lt f (Link j) = put_case ws.link i x (λ k y. y < 18446744073709551616) j (λ e. lt) (λ ne. f (Link j))
put_fits (Link i) x ws lt f v = f v
put_fits (Sel i) x ws lt f (Sel j) = put_case ws.sel i x (λ k y. y < 18446744073709551616) j (λ e. lt) (λ ne. f (Sel j))
put_fits (Sel i) x ws lt f v = f v
put_fits (Bits u copy half w) x ws lt f (Bits v d h k) = bits_fit ws.bits u copy half w x v d h k lt (f (Bits v d h k))
put_fits (Bits u copy half w) x ws lt f v = f v

-- ## contents

abbrev doubled : ℕ → ℕ
doubled zero = 1
doubled (suc n) = 2 * doubled n

number-small : (n : ℕ) (bs : Marks) → length bs ≤ n → number_with_bits bs < doubled n
number-small zero [] le = omega arith
number-small (suc n) [] le = (let h = number-small n [] (omega arith) in omega (arith, h))
number-small zero (b ∷ bs) le = absurd (omega (arith, le))
number-small (suc n) (b ∷ bs) le = (let h = number-small n bs (omega (arith, le)) in
    if_case (λ x. x + 2 * number_with_bits bs < 2 * doubled n) b 1 0 (λ e. omega (arith, h)) (λ e. omega (arith, h)))

sixty-four : doubled 64 ≡ 18446744073709551616
sixty-four = refl

marks-small : (bs : Marks) → length bs ≤ 64 → number_with_bits bs < 18446744073709551616
marks-small bs le = subst (λ n. number_with_bits bs < n) sixty-four (number-small 64 bs le)

word-small : (s : Marks) (w : ℕ) → word_of s w < 18446744073709551616
word-small s w = marks-small (take 64 (drop (64 * w) s)) (let e = length-take 64 (drop (64 * w) s) in omega (arith, e))

set-small : (s : UserState) (h w : ℕ) → set_word s h w < 18446744073709551616
set-small s zero w = word-small s.filter w
set-small s (suc h) w = word-small s.notrace w

mask-small : (d : Desk) (tasks : ℕ) → tasks ≤ 64 → mask_of d tasks < 18446744073709551616
mask-small d tasks le = marks-small (map (is_allowed d) (range_with_len 0 tasks))
    (let a = length-map (range_with_len 0 tasks) (is_allowed d) in let b = length-range_with_len 0 tasks in omega (arith, a, b, le))

sel-small : (s : UserState) (copy : ℕ) → s.reg ≤ 4000 → copy < 2 → sel_of s copy < 18446744073709551616
sel-small s copy reg lt = by s.registered s.enabled _
  where
    by : (r e b : Bool) → halves s.reg ((if r then 1 else 0) + 2 * (if e then 1 else 0) + 4 * copy + 8 * (if b then 1 else 0)) < 18446744073709551616
    by true true true = omega (arith, reg, lt)
    by true true false = omega (arith, reg, lt)
    by true false true = omega (arith, reg, lt)
    by true false false = omega (arith, reg, lt)
    by false true true = omega (arith, reg, lt)
    by false true false = omega (arith, reg, lt)
    by false false true = omega (arith, reg, lt)
    by false false false = omega (arith, reg, lt)

head-small : (i : ℕ) → head_of i < 18446744073709551616
head-small zero = omega arith
head-small (suc zero) = omega arith
head-small (suc (suc s)) = omega arith

tail-small : (f i : ℕ) → i < 2 + TRAMPS → tail_of f i < 18446744073709551616
tail-small f zero lt = omega arith
tail-small f (suc zero) lt = omega arith
tail-small f (suc (suc s)) lt = omega (arith, lt)

-- ## desks

module _ (job : Job) (l : IsLimited job) where
  few-users : length job.users ≤ USERS
  few-users = (few-largest job.version l.counts).few_users

  reg-small : (k u : ℕ) → (state_of job k u).reg ≤ k
  reg-small zero u = (let e = reg_at_start job u in omega (arith, e))
  reg-small (suc k) u = elim (cases_eq u (subject job k)) [
    | inr ne ↦ (let e = ap (λ (s : UserState). s.reg) ((between job l.job' k).others u ne) in let old = reg-small k u in omega (arith, e, old))
    | inl e ↦ subst (λ v. (state_of job (suc k) v).reg ≤ suc k) (sym e) (by_effect (effect job k) (between job l.job' k).subject (reg-small k (subject job k)))
  ]
    where
      by_effect : (z : Effect) → SubjectBy job (desk job k) (suc k) z (state_of job k (subject job k)) (state_of job (suc k) (subject job k))
          → (state_of job k (subject job k)).reg ≤ k → (state_of job (suc k) (subject job k)).reg ≤ suc k
      by_effect Edits s old = (let e = s.1.reg in omega (arith, e, old))
      by_effect Lists s old = (let e = ap (λ (x : UserState). x.reg) s in omega (arith, e, old))
      by_effect Levels s old = (let e = ap (λ (x : UserState). x.reg) s in omega (arith, e, old))
      by_effect Nothing s old = (let e = s.0.reg in omega (arith, e, old))
      by_effect _ s old = (let e = ap (λ (x : UserState). x.reg) s.1 in omega (arith, e, old))

  subject-small : (k : ℕ) → subject job k ≤ USERS
  subject-small k = by (command job k) refl
    where
      of : (c : Command) → IsNamed job c → subject_in (Some c) ≤ USERS
      of (Register u) n = (let a = few-users in omega (arith, n, a))
      of (Unregister u) n = (let a = few-users in omega (arith, n, a))
      of (Filter u e) n = (let a = few-users in omega (arith, n, a))
      of (Notrace u e) n = (let a = few-users in omega (arith, n, a))
      of (Enable u) n = (let a = few-users in omega (arith, n, a))
      of (Disable u) n = (let a = few-users in omega (arith, n, a))
      of _ n = omega arith

      by : (o : Option Command) → slice_get (commands job) k ≡ o → subject_in o ≤ USERS
      by None e = omega arith
      by (Some c) e = of c (named-at (IsNamed job) (commands job) k c e l.job'.commands)

  depth-small : (k : ℕ) → (desk job k).depth ≤ 512
  unfolding desk
  depth-small zero = omega arith
  depth-small (suc k) = by (command job k) refl (depth-small k)
    where
      of : (c : Command) → IsLevel c → (desk job k).depth ≤ 512 → (changed job (desk job k) (suc k) c).depth ≤ 512
      of (MaxDepth n) n' old = n'
      of _ n' old = old

      by : (o : Option Command) → slice_get (commands job) k ≡ o → (desk job k).depth ≤ 512 → (desk job (suc k)).depth ≤ 512
      by None e old = rw e old
      by (Some c) e old = rw e (if_case (λ (d : Desk). d.depth ≤ 512) (is_accepted (answer_on job (desk job k) c)) (changed job (desk job k) (suc k) c)
          (desk job k) (λ a. of c (named-at IsLevel (commands job) k c e l.levels) old) (λ a. old))

-- ## the list

name-small : (us : List ℕ) (users : ℕ) → users ≤ USERS → ((v : ℕ) → has v us ≡ true → v < users) → name_of us ≤ USERS
name-small [] users le in' = omega arith
name-small (v ∷ vs) users le in' = (let lt = in' v (let e : (v == v) ≡ true = grind (arith, nat_tests) in rw e refl) in omega (arith, lt, le))

follower-small : (u : ℕ) (us : List ℕ) (users : ℕ) → users ≤ USERS → ((v : ℕ) → has v us ≡ true → v < users) → follower u us ≤ USERS
follower-small u [] users le in' = omega arith
follower-small u (v ∷ vs) users le in' =
    if_case (λ n. n ≤ USERS) (v == u) (name_of vs) (follower u vs) (λ e. name-small vs users le (λ x h. in' x (has-more x v vs h)))
    (λ e. follower-small u vs users le (λ x h. in' x (has-more x v vs h)))

-- ## what is stored

abbrev FitsIn : WordOp → Type 0
FitsIn (Store w x) = x < 18446744073709551616
FitsIn _ = Unit {0}

acts-each : (ts : List Task) (t : ℕ) → t < length ts → length (get_or ts t no_task).acts ≤ sum_by (λ x. length x.acts) ts
acts-each [] t lt = absurd (omega (arith, lt))
acts-each (x ∷ xs) zero lt = (let e = sum_by-cons (λ (y : Task). length y.acts) x xs in omega (arith, e))
acts-each (x ∷ xs) (suc t) lt = (let e = sum_by-cons (λ (y : Task). length y.acts) x xs in let h = acts-each xs t (omega (arith, lt)) in omega (arith, e, h))

-- a task stores nothing
call-none : (x : TaskState) (c : OpenCall) (below : List OpenCall) (m : Moment) (op : WordOp) → call_op x c below m ≡ Some op → FitsIn op
call-none x c below Polling op is = absurd cc
call-none x c below First op is = absurd cc
call-none x c below _ op is = subst (λ o. FitsIn o) (same_Some _ op is) tt

first-none : (t : ℕ) (x : TaskState) (acts : List TaskAct) (stack : List OpenCall) (op : WordOp) → first_op t x acts stack ≡ Some op → FitsIn op
first-none t x [] stack op is = absurd cc
first-none t x (Call g ∷ rest) stack op is = subst (λ o. FitsIn o) (same_Some _ op is) tt
first-none t x (RetAct ∷ rest) [] op is = absurd cc
first-none t x (RetAct ∷ rest) (c ∷ below) op is = subst (λ o. FitsIn o) (same_Some _ op is) tt
first-none t x (Raise c ∷ rest) stack op is = absurd cc
first-none t x (Lower ∷ rest) stack op is = absurd cc
first-none t x (After n ∷ rest) stack op is = subst (λ o. FitsIn o) (same_Some _ op is) tt

stack-none : (x : TaskState) (stack : List OpenCall) (m : Moment) (op : WordOp) → stack_op x stack m ≡ Some op → FitsIn op
stack-none x [] m op is = absurd cc
stack-none x (c ∷ below) m op is = call-none x c below m op is

present-none : (me : Cpu) (m : Moment) (op : WordOp) → present_op me m ≡ Some op → FitsIn op
present-none me Polling op is = subst (λ o. FitsIn o) (same_Some _ op is) tt
present-none me First op is = first-none me.present (me.tasks me.present) (me.tasks me.present).acts (me.tasks me.present).stack op is
present-none me m op is = stack-none (me.tasks me.present) (me.tasks me.present).stack m op is

going-none : (job : Job) (me : Cpu) (op : WordOp) → going_op job me ≡ Some op → FitsIn op
going-none job me op is = by (any_has_more job me) is
  where
    by : (b : Bool) → cond b (present_op me (me.tasks me.present).moment) (Some (Load Want)) ≡ Some op → FitsIn op
    by true e = present-none me (me.tasks me.present).moment op e
    by false e = subst (λ o. FitsIn o) (same_Some _ op e) tt

module _ (job : Job) (l : IsLimited job) (s : World) (k : MachineRule job s) where
  few : suc s.control.commands_done ≤ 2049
  few = (let a = k.lines.within in let b = few-commands job.ctls in let c = l.ctls in omega (arith, a, b, c))

  in-order : (v : ℕ) → has v s.control.order ≡ true → v < length job.users
  in-order v h = registered-inside job (list_desk s.control.position s.control.commands_done) v (sym (k.list.order'.members v) ∙ h)

  relinks-fit : (z : Effect) → FitsIn (relink_op z (subject job s.control.commands_done) s.control.order)
  relinks-fit Removes = (let h = follower-small (subject job s.control.commands_done) s.control.order (length job.users) (few-users job l) in-order in omega (arith, h))
  relinks-fit _ = (let h = subject-small job l s.control.commands_done in omega (arith, h))

  lines-fit : (n : ℕ) (ls : List Ctl) (op : WordOp) → line_op n ls ≡ Some op → FitsIn op
  lines-fit n [] op is = absurd cc
  lines-fit n (Until t m ∷ rest) op is = subst (λ o. FitsIn o) (same_Some _ op is) tt
  lines-fit n (Run c ∷ rest) op is = subst (λ o. FitsIn o) (same_Some _ op is) tt

  asks-fit : suc s.control.request < 18446744073709551616
  asks-fit = (let r = request-small job (limited job l) s k in omega (arith, r))

  insn-few : (f : ℕ) → insn job (suc s.control.commands_done) f < 2 + TRAMPS
  insn-few f = (let i = insn-small job l.job' (suc s.control.commands_done) f in let t = (few-largest job.version l.counts).few_tramps in
      omega (arith, i, t))

  stores-fit : (z : Sweep) (i : ℕ) → i < funcs job → FitsIn (store_at job s.control.commands_done z i)
  stores-fit Nexts i lt = (let h = insn-few i in omega (arith, h))
  stores-fit Breaks i lt = omega arith
  stores-fit Tails i lt = tail-small i (insn job (suc s.control.commands_done) i) (insn-few i)
  stores-fit Heads i lt = head-small (insn job (suc s.control.commands_done) i)

  control-fit : (p : Position) (op : WordOp) → PositionAt job s.control.commands_done p → next_in job s.control p ≡ Some op → FitsIn op
  control-fit Line op a is = lines-fit s.control.commands_done s.control.remaining op is
  control-fit Take op a is = subst (λ o. FitsIn o) (same_Some _ op is)
      (let r = reg-small job l (suc s.control.commands_done) (subject job s.control.commands_done) in let u = subject-small job l s.control.commands_done in
      let n = few in omega (arith, r, u, n))
  control-fit (Copy h w) op a is = subst (λ o. FitsIn o) (same_Some _ op is)
      (set-small (state_of job (suc s.control.commands_done) (subject job s.control.commands_done)) h w)
  control-fit Select op a is = subst (λ o. FitsIn o) (same_Some _ op is)
      (sel-small (state_of job (suc s.control.commands_done) (subject job s.control.commands_done))
      (copy_after (effect job s.control.commands_done) (s.control.copies (subject job s.control.commands_done)))
      (let r = reg-small job l (suc s.control.commands_done) (subject job s.control.commands_done) in let n = few in omega (arith, r, n))
      (after_small (effect job s.control.commands_done) (s.control.copies (subject job s.control.commands_done))
      (k.sets.small (subject job s.control.commands_done))))
  control-fit Push op a is = subst (λ o. FitsIn o) (same_Some _ op is) (let h = name-small s.control.order (length job.users) (few-users job l) in-order in
      omega (arith, h))
  control-fit Relink op a is = subst (λ o. FitsIn o) (same_Some _ op is) (relinks-fit (effect job s.control.commands_done))
  control-fit StorePids op a is = subst (λ o. FitsIn o) (same_Some _ op is) (mask-small (desk job (suc s.control.commands_done)) (length job.tasks) l.counts.few_tasks)
  control-fit StoreDepth op a is = subst (λ o. FitsIn o) (same_Some _ op is) (let h = depth-small job l (suc s.control.commands_done) in omega (arith, h))
  control-fit (Patch w x rest) op a is = subst (λ o. FitsIn o) (same_Some (Store w x) op is) (store_case job s.control.commands_done FitsIn w x rest a stores-fit)
  control-fit (Ask whom) op a is = subst (λ o. FitsIn o) (same_Some _ op is) asks-fit
  control-fit Release op a is = subst (λ o. FitsIn o) (same_Some _ op is) (omega arith)
  control-fit _ op a is = subst (λ o. FitsIn o) (same_Some _ op is) tt

  -- ## the words of CPUs and tasks

  quiet-fits : (t r : ℕ) → t < length job.tasks → r ≤ s.control.request → quiet_word r (task_in job s.cpus t) < 18446744073709551616
  quiet-fits t r lt le =
      let x : TaskState = task_in job s.cpus t in
      let g = ((k.cpus (get_or job.tasks t no_task).cpu ((limited job l).placed t lt)).tasks t (lt, refl)).total in
      let a = acts-each job.tasks t lt in let m = l.acts in
      let q = low-fits (has_acts x.acts) (is_quiet x.moment) (low x.word) (omega arith) in
      omega (arith, g, a, m, q)
    where
      low-fits : (b e : Bool) (n : ℕ) → n < half_size → cond b (cond e r n) greatest_half < half_size
      low-fits true true n lt' = (let q = request-small job (limited job l) s k in omega (arith, le, q))
      low-fits true false n lt' = lt'
      low-fits false e n lt' = omega arith

  module _ (c : ℕ) (within : c < length job.quanta) where
    ack-fits : (r : ℕ) → r ≤ s.control.request → ack_value job (s.cpus c) r < 18446744073709551616
    ack-fits r le = if_case (λ n. n < 18446744073709551616) (any_has_more job (s.cpus c)) r all_ones (λ e. let q = request-small job (limited job l) s k in
        omega (arith, le, q)) (λ e. omega arith)

    cpu-fit : (ph : Phase) → (s.cpus c).phase ≡ ph → (op : WordOp) → phase_op job (s.cpus c) ph ≡ Some op → FitsIn op
    cpu-fit Going e op is = by (looks job (s.cpus c)) is
      where
        by : (b : Bool) → cond b (Some (Load Want)) (going_op job (s.cpus c)) ≡ Some op → FitsIn op
        by true is' = subst (λ o. FitsIn o) (same_Some _ op is') tt
        by false is' = going-none job (s.cpus c) op is'
    cpu-fit Looked e op is = going-none job (s.cpus c) op is
    cpu-fit (Answering r) e op is =
        let p : PollAt job s.control.request c (s.cpus c) (Answering r) = subst (λ p. PollAt job s.control.request c (s.cpus c) p) e (k.cpus c within).polls in
        let q = request-small job (limited job l) s k in let le = p.0 in
        subst (λ o. FitsIn o) (same_Some _ op is) (omega (arith, le, q))
    cpu-fit (StoringAck r) e op is =
        let p : PollAt job s.control.request c (s.cpus c) (StoringAck r) = subst (λ p. PollAt job s.control.request c (s.cpus c) p) e (k.cpus c within).polls in
        subst (λ o. FitsIn o) (same_Some _ op is) (ack-fits r p.0)
    cpu-fit (StoringQuiet r t) e op is =
        let p : PollAt job s.control.request c (s.cpus c) (StoringQuiet r t) =
        subst (λ p. PollAt job s.control.request c (s.cpus c) p) e (k.cpus c within).polls in
        subst (λ o. FitsIn o) (same_Some _ op is) (subst (λ j. quiet_word r ((s.cpus j).tasks t) < 18446744073709551616) p.4.1 (quiet-fits t r p.4.0 p.0))
    cpu-fit Over e op is = absurd cc

  -- the clock has room for one more item
  clock-fits : (item : Item) → weight item + s.words.clock < 18446744073709551616
  clock-fits item =
      let c = k.counts.clock' in let m = k.counts.room in let d' = k.counts.returned in let b = begun-most (underway s.control.position) in let e =
      k.counts.started in let n = few in let w = heavy item in
      omega (arith, c, m, d', b, e, n, w)
    where
      begun-most : (b : Bool) → cond b (suc s.control.commands_done) s.control.commands_done ≤ suc s.control.commands_done
      begun-most true = omega arith
      begun-most false = omega arith

      heavy : (item : Item) → weight item ≤ half_size + 1
      heavy (Begin n) = omega arith
      heavy (Return n a) = omega arith
      heavy _ = omega arith

  after-fits : (op : WordOp) → FitsIn op → AllFit s.words → AllFit (words_after op s.words)
  after-fits (Load w) is all = all
  after-fits (Store w x) is all = put_fits w x s.words is all
  after-fits (Mark item) is all = put_fits Clock (weight item + s.words.clock) s.words (clock-fits item) all

-- ## all states

step-fits : (job : Job) (l : IsLimited job) (a : Actor) (s : World) → MachineRule job s → AllFit s.words → AllFit (step job a s).words
unfolding step control_next cpu_next
step-fits job l ByControl s k all = by (control_next job s.control) refl
  where
    by : (o : Option WordOp) → control_next job s.control ≡ o → AllFit (control_moved job s o).words
    by None e = all
    by (Some op) e = after-fits job l s k op (control-fit job l s k s.control.position op k.sites.position e) all
step-fits job l (ByCpu c) s k all = by_there (nat_lt c.0 (length job.quanta)) refl (cpu_next job (s.cpus c.0)) refl
  where
    by_there : (b : Bool) → nat_lt c.0 (length job.quanta) ≡ b → (o : Option WordOp) → cpu_next job (s.cpus c.0) ≡ o
        → AllFit (cond b (cpu_moved job s c.0 o) s).words
    by_there false t o e = all
    by_there true t None e = all
    by_there true t (Some op) e = after-fits job l s k op (cpu-fit job l s k c.0 (grind (arith, nat_tests)) (s.cpus c.0).phase refl op e) all

start-fits : (job : Job) → IsLimited job → AllFit (start job).words
unfolding start
start-fits job l Pids = mask-small (desk job 0) (length job.tasks) l.counts.few_tasks
start-fits job l (Head i) = head-small 0
start-fits job l (Tail i) = tail-small i 0 (omega arith)
start-fits job l _ = omega arith

-- ## step by step

pub start-runs : (job : Job) → IsLimited job → Runs job (start job)
unfolding start
start-runs job l = record { kept = opens job (limited job l); waits = tt; fits = start-fits job l }

step-waits : (job : Job) (a : Actor) (s : World) → WaitsAt job s.control.position → WaitsAt job (step job a s).control.position
unfolding step
step-waits job ByControl s k = by (control_next job s.control)
  where
    by : (o : Option WordOp) → WaitsAt job (control_moved job s o).control.position
    by None = k
    by (Some op) = waits-got job s.control (taken op s.words) k
step-waits job (ByCpu c) s k = by_there (nat_lt c.0 (length job.quanta)) (cpu_next job (s.cpus c.0))
  where
    by_there : (b : Bool) (o : Option WordOp) → WaitsAt job (cond b (cpu_moved job s c.0 o) s).control.position
    by_there false o = k
    by_there true None = k
    by_there true (Some op) = k

pub step-runs : (job : Job) → IsLimited job → (a : Actor) (s : World) → Runs job s → Runs job (step job a s)
step-runs job l a s r = record {
  kept = step_keeps job (limited job l) a s r.kept;
  waits = step-waits job a s r.waits;
  fits = step-fits job l a s r.kept r.fits;
}

-- ## row by row

pub control-row-runs : (job : Job) → IsLimited job → (s : World) (op : WordOp) → Runs job s → control_next job s.control ≡ Some op → Runs job (control_row job s op)
unfolding step
control-row-runs job l s op r e = subst (λ o. Runs job (control_moved job s o)) e (step-runs job l ByControl s r)

pub cpu-row-runs : (job : Job) → IsLimited job → (s : World) (c : ℕ) (op : WordOp) → c < length job.quanta → Runs job s → cpu_next job (s.cpus c) ≡ Some op
    → Runs job (cpu_row job s c op)
unfolding step
cpu-row-runs job l s c op inside r e =
    subst (λ o. Runs job (cpu_moved job s c o)) e
    (subst (λ b. Runs job (cond b (cpu_moved job s c (cpu_next job (s.cpus c))) s)) (lt-ltb c (length job.quanta) inside)
    (step-runs job l (ByCpu (record { 0 = c })) s r))

-- ## all states

pub run-runs : (job : Job) → IsLimited job → (actors : List Actor) (s : World) → Runs job s → Runs job (run job actors s)
unfolding run
run-runs job l [] s r = r
run-runs job l (a ∷ rest) s r = run-runs job l rest (step job a s) (step-runs job l a s r)
