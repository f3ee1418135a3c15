-- A step of a task numbers one call more at most, where an item is marked, and a fetch has two loads.
use Rattle.std.proofs.Common.{◌≡◌, ℕ, zero, suc, ◌+◌, ◌≤◌, true, false, length, Some, None, refl, arith}
use Rattle.std.specs.Prelude.{Option}
use Rattle.ft_base.specs.declared.item.Ran.TheVariants.{Own}
use Rattle.ft_base.specs.declared.number.UserNo.{UserNo}
use Rattle.ft_base.specs.declared.task.TaskAct.{TaskAct}
use Rattle.ft_base.specs.declared.task.TaskAct.TheVariants.{Call, Ret as RetAct, After}
use Rattle.ft_base.specs.Job.{Spec}
use Rattle.ft_base.proofs.Small.{false_true}
use Rattle.hash_pages.specs.declared.reader.Verdict.{Verdict}
use Rattle.hash_pages.specs.declared.reader.Verdict.TheVariants.{Open, On}
use Rattle.hash_pages.specs.Reads.{Read}
use Rattle.word_map.specs.Contents.{high, low, tramp_user}
use Rattle.word_machine.proofs.Small.{if_case}
use Rattle.task_core.specs.declared.moment.Moment.{Moment}
use Rattle.task_core.specs.declared.moment.Moment.TheVariants.{Polling, First, Load, Mark}
use Rattle.task_core.specs.declared.moment.ToLoad.{ToLoad}
use Rattle.task_core.specs.declared.moment.ToLoad.TheVariants.{GotHead, GotBreak, InTramp, OwnSel, Reading, AtPids, AtDepth, AtExit}
use Rattle.task_core.specs.declared.moment.ToMark.{ToMark}
use Rattle.task_core.specs.declared.moment.ToMark.TheVariants.{Closing, Returning}
use Rattle.task_core.specs.declared.task.Task.{Task}
use Rattle.cpu_core.specs.CpuSteps.{marks_in}
use Rattle.task_core.specs.Leads.{fetched_to, is_fetching}
use Rattle.task_core.specs.Setups.{PlainSetup, asks, declared_in}
use Rattle.task_core.specs.TaskOps.{first_op, op_at, op_of, present, top}
use Rattle.task_core.specs.TaskSteps.{after_at, after_first, after_load, after_mark, at, guard_tested, judged, task_after, tested, with_latest}

-- ## the number of the next call

-- no call is numbered
abbrev Same : Task → Task → Type 0
Same t u = u.next ≡ t.next

guard-next : (t : Task) (spec : Spec) (u : UserNo) (reg : ℕ) → (guard_tested t spec u reg).next ≡ t.next
guard-next t spec u reg = if_case (Same t) _ _ _ (λ b. refl) (λ b. refl)

tested-next : (t : Task) (spec : Spec) (u : UserNo) (reg : ℕ) → (tested t spec u reg).next ≡ t.next
tested-next t spec u reg = if_case (Same t) _ _ _ (λ b. refl) (λ b. guard-next t spec u reg)

judged-next : (t : Task) (s : PlainSetup) (r : Read) (verdict : Verdict) (o : Option UserNo) → (judged t s r verdict o).next ≡ t.next
judged-next t s r Open o = refl
judged-next t s r (On reg) (Some u) = tested-next t (declared_in s u.0) u reg
judged-next t s r (On reg) None = refl
judged-next t s r _ o = refl

load-next : (t : Task) (s : PlainSetup) (load : ToLoad) (v : ℕ) → (after_load t s load v).next ≡ t.next
load-next t s (InTramp slot) v =
    let u : UserNo = record { 0 = tramp_user v } in
    let t' : Task = record t { opens = with_latest t.opens (record (top t) { ran = Own u }) } in
    if_case (Same t) (asks s u.0) (at t' (Load (OwnSel u (high v)))) (tested t' (declared_in s u.0) u (high v)) (λ b. refl)
    (λ b. tested-next t' (declared_in s u.0) u (high v))
load-next t s (OwnSel u reg) v = if_case (Same t) _ _ _ (λ b. tested-next t (declared_in s u.0) u reg) (λ b. refl)
load-next t s (Reading r) v = judged-next t s _ _ _
load-next t s (AtPids u reg) v = if_case (Same t) _ _ _ (λ b. guard-next t (declared_in s u.0) u reg) (λ b. refl)
load-next t s (AtDepth u reg) v = if_case (Same t) _ _ _ (λ b. refl) (λ b. refl)
load-next t s (AtExit i) v = if_case (Same t) _ _ _ (λ b. refl) (λ b. refl)
load-next t s _ v = refl

mark-next : (t : Task) (s : PlainSetup) (mark : ToMark) (place : ℕ) → (after_mark t s mark place).next ≤ suc t.next
mark-next t s Closing place = (let e : (after_mark t s Closing place).next ≡ t.next = if_case (Same t) _ _ _ (λ b. refl) (λ b. refl) in omega arith)
mark-next t s Returning place = (let e : (after_mark t s Returning place).next ≡ t.next = if_case (Same t) _ _ _ (λ b. refl) (λ b. refl) in omega arith)
mark-next t s _ place = omega arith

first-next : (t : Task) (s : PlainSetup) (act : Option TaskAct) (v : ℕ) → (after_first t s act v).next ≤ t.next + length (marks_in (first_op t act) v)
first-next t s None v = omega arith
first-next t s (Some (Call f)) v = omega arith
first-next t s (Some RetAct) v = omega arith
first-next t s (Some (After n)) v =
    (let e : (after_first t s (Some (After n)) v).next ≡ t.next = if_case (Same t) _ _ _ (λ b. refl) (λ b. refl) in omega arith)
first-next t s (Some _) v = omega arith

next-at : (t : Task) (s : PlainSetup) (m : Moment) (v : ℕ) → (after_at t s m v).next ≤ t.next + length (marks_in (op_at t m) v)
next-at t s Polling v = omega arith
next-at t s First v = first-next t s (present t) v
next-at t s (Load load) v = omega (arith, load-next t s load v)
next-at t s (Mark mark) v = (let le = mark-next t s mark (low v) in omega arith)

pub next-within : (t : Task) (s : PlainSetup) (v : ℕ) → (task_after t s v).next ≤ t.next + length (marks_in (op_of t) v)
next-within t s v = next-at t s t.moment v

-- ## fetches

fetched-on : {A : Type 0} (i : ℕ) → is_fetching (fetched_to i) ≡ true → A
fetched-on zero e = false_true e
fetched-on (suc zero) e = false_true e
fetched-on (suc (suc i)) e = false_true e

load-once : (t : Task) (s : PlainSetup) (load : ToLoad) (v : ℕ) → is_fetching (after_load t s load v).moment ≡ true → is_fetching (Load load) ≡ false
load-once t s (GotHead byte) v e = fetched-on _ e
load-once t s GotBreak v e = fetched-on v e
load-once t s _ v e = refl

once-at : (t : Task) (s : PlainSetup) (m : Moment) (v : ℕ) → is_fetching (after_at t s m v).moment ≡ true → is_fetching m ≡ false
once-at t s (Load load) v e = load-once t s load v e
once-at t s _ v e = refl

-- after its second load a fetch is over
pub fetches-once : (t : Task) (s : PlainSetup) (v : ℕ) → is_fetching (task_after t s v).moment ≡ true → is_fetching t.moment ≡ false
fetches-once t s v e = once-at t s t.moment v e
