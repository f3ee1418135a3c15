-- A task has no more open calls than its script makes, and one for each level of the guards of two contexts.
use Rattle.std.proofs.Common.{cond, ◌≡◌, ℕ, zero, suc, ◌+◌, ◌*◌, ◌≤◌, Bool, true, false, List, [], ◌∷◌, length, Some, refl, ap, ◌∙◌, arith}
use Rattle.ft_base.specs.declared.item.Item.{Item}
use Rattle.ft_base.specs.declared.task.TaskAct.TheVariants.{Call, Ret as RetAct}
use Rattle.ft_base.specs.declared.number.CallNo.{CallNo}
use Rattle.ft_base.specs.Versions.{levels}
use Rattle.ft_base.specs.Job.{Job}
use Rattle.ft_hist.specs.Past.{done}
use Rattle.ft_hist.specs.Plain.{plain, PlainTask, Frame}
use Rattle.ft_hist.specs.Rules.{IsLegalPast}
use Rattle.ft_hist.specs.Telling.{open_calls}
use Rattle.ft_hist.proofs.FrameCounts.{opens}
use Rattle.ft_hist.proofs.Numbers.{some-run}
use Rattle.ft_hist.proofs.RunLaws.{calls_on}
use Rattle.ft_hist.proofs.Steps.{Step, step_enter, step_act, step_leave, step_ret, IsQuiet, run-holds}
use Rattle.history_laws.specs.Bound.{calls_in, calls_of}
use Rattle.history_laws.proofs.Bounded.{paid-for}
use Rattle.history_laws.proofs.Credit.{level, pred}
use Rattle.history_laws.proofs.Guarded.{Guarded, has-level}
use Rattle.history_laws.proofs.Paid.{calls-left}

module _ (job : Job) (t : ℕ) where
  -- the open calls, those that the script still makes, and the levels of acts that the top call may have in it
  abbrev size : PlainTask → ℕ
  size s = length s.stack + (calls_in s.acts + level job s.stack)

  abbrev Small : PlainTask → Type 0
  Small s = size s ≤ calls_of job t + 2 * levels job

  level-most : (fs : List Frame) → level job fs ≤ 2 * levels job
  level-most [] = omega arith
  level-most (f ∷ below) = by f.scripted (level-most below)
    where
      less : (n : ℕ) → pred job n ≤ n
      less zero = omega arith
      less (suc n) = omega arith

      by : (b : Bool) → level job below ≤ 2 * levels job → cond b (2 * levels job) (pred job (level job below)) ≤ 2 * levels job
      by true h = omega arith
      by false h = let l = less (level job below) in omega (arith, l, h)

  -- ## an Enter

  -- over a quiet stack all levels are left
  quiet-level : (fs : List Frame) → IsQuiet fs → level job fs ≡ 2 * levels job
  quiet-level [] q = refl
  quiet-level (f ∷ below) q = rw q.0 refl

  one-less : (n m k a most : ℕ) → n ≡ suc m → suc k + (a + n) ≤ most → suc (suc k) + (a + pred job n) ≤ most
  one-less n m k a most e le = rw e (omega (arith, e, le))

  one-more : (b : Bool) (fs : List Frame) (a : ℕ) → level job fs ≤ 2 * levels job → suc (length fs) + (a + cond b (2 * levels job) (pred job (level job fs))) ≤ calls_of job t + 2 * levels job
      → length fs + (a + level job fs) ≤ calls_of job t + 2 * levels job
  one-more true fs a l was = omega (arith, l, was)
  one-more false fs a l was = let m = less (level job fs) in omega (arith, m, was)
    where
      less : (n : ℕ) → n ≤ suc (pred job n)
      less zero = omega arith
      less (suc n) = omega arith

  -- ## the items of the task, one after the other

  own-small : (past : List Item) (item : Item) (p s : PlainTask) → Step job (done past) p s item → Guarded job p.stack → Small p → Small s
  own-small past item p s (step_enter {f = f} {rest = rest} it quiet acts is) g h =
      let all = quiet-level p.stack quiet in
      let left = calls-left job t (done past) p (Call f ∷ rest) acts in
      omega (arith, h, all, left)
  own-small past item p s (step_act q f below it) g h =
      let lev = has-level job f below g.0.over g.1 g.0.phase.0 in
      one-less (level job (f ∷ below)) lev.0 (length below) (calls_in q.acts) (calls_of job t + 2 * levels job) lev.1 h
  own-small past item p s (step_leave q f below {rest = rest} acts) g h =
      let left = calls-left job t (done past) q (RetAct ∷ rest) acts in
      omega (arith, h, left)
  own-small past item p s (step_ret q f below) g h = one-more f.scripted below (calls_in q.acts) (level-most below) h
  own-small past item p s _ g h = h

  small : (past : List Item) (s : PlainTask) → plain job t past ≡ Some s → IsLegalPast job past → Small s
  unfolding IsLegalPast
  small = run-holds job t (λ past s. IsLegalPast job past → Small s) (λ l. omega arith)
      (λ item past p s own here k h l. own-small past item p s k (paid-for job t past p here l.1).guarded (h l.1))
      (λ item past s other here h l. h l.1)

  long : (fs : List Frame) → length (calls_on fs) ≡ length fs
  long [] = refl
  long (f ∷ fs) = let more = long fs in omega (arith, more)

pub stack-bounded : (job : Job) (past : List Item) (t : ℕ) → IsLegalPast job past → length (open_calls t past) ≤ calls_of job t + 2 * levels job
stack-bounded job past t l =
    let r = some-run job t past l in
    let h = small job t past r.0 r.1 l in
    let count = ap (λ (cs : List CallNo). length cs) (opens job t past r.0 r.1).open' ∙ long job t r.0.stack in
    omega (arith, h, count)
