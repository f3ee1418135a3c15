-- Line by line, if no line has a cause, what is asked of the tasks comes to hold.
use Rattle.std.proofs.Common.{◌≡◌, ℕ, zero, suc, ◌+◌, ◌-◌, ◌<◌, ◌==◌, true, false, List, [], ◌∷◌, length, map, sum_by, Option, Some, None, refl, sym, ap, ◌∙◌, subst, arith}
use Rattle.std.specs.List.{AllByRecursion as Each}
use Rattle.std.proofs.lemmas.Bool.{leb-false, eqb-true, not-false}
use Rattle.std.proofs.lemmas.List.{length_push}
use Rattle.ft_base.specs.declared.context.Ctx.{Ctx}
use Rattle.ft_base.specs.declared.task.TaskAct.{TaskAct}
use Rattle.ft_base.specs.declared.task.TaskAct.TheVariants.{Call, Ret, Raise, Lower, After}
use Rattle.ft_base.specs.Same.{rank}
use Rattle.ft_base.specs.Acts.{AreRaised, Leads}
use Rattle.ft_base.specs.Job.{Task}
use Rattle.ft_base.proofs.Small.{false_true, or-false_both, Each-snoc}
use Rattle.history_laws.specs.Bound.{calls_in}
use Rattle.script_text.specs.Lines.{Line}
use Rattle.script_waits.specs.Tasks.{LinedTask}
use Rattle.ft_script.specs.declared.levels.Levels.{Levels}
use Rattle.ft_script.specs.Levels.{levels_at, present, with_open, without, levels_after, open_here, open_calls, is_raised, is_unfinished}
use Rattle.ft_script.specs.Above.{Above, Declaration, a_function, a_cpu, a_task, an_act, calls_with, with_what}
use Rattle.ft_script.specs.Causes.{is_unmatched, is_unbalanced}
use Rattle.ft_script.specs.Script.{task_of}
use Rattle.ft_script.specs.Holds.{acts_of, Balanced, TasksHold, Holds, CanRun}
use Rattle.ft_script.specs.LineConditions.{IsNextCall, FitsAs}
use Rattle.ft_script.proofs.NoCause.{not-zero}
use Rattle.ft_script.proofs.TaskLaws.{balanced-more, balanced-task, balanced-act, balanced-each, placed-more, placed-act, sum-task, sum_acts-act, sum_calls-act}
use Rattle.ft_script.proofs.Contexts.{by-raised, each-raised, declared-raises}

-- ## how many calls are open

-- with k open calls in the present context
opened : (l : Levels) (k : ℕ) → open_calls (with_open l (present l) k) + open_here l ≡ open_calls l + k
opened l k = by l.softirq l.irq l.nmi
  where
    by : (s i n : Option ℕ) → open_calls (with_open (levels_at l.normal s i n) (present (levels_at l.normal s i n)) k) + open_here (levels_at l.normal s i n)
        ≡ open_calls (levels_at l.normal s i n) + k
    by s i (Some x) = omega arith
    by s (Some x) None = omega arith
    by (Some x) None None = omega arith
    by None None None = omega arith

-- in a context above the present one nothing was open
raised-calls : (l : Levels) (c : Ctx) → rank (present l) < rank c → open_calls l ≡ open_calls (with_open l c 0)
raised-calls l c lt =
    by-raised (λ s i n d. open_calls (levels_at l.normal s i n) ≡ open_calls (with_open (levels_at l.normal s i n) d 0))
    (λ s i. refl) (λ s. refl) refl l.softirq l.irq l.nmi c lt

-- once the present context isn't raised, its calls aren't open
lowered-calls : (l : Levels) → is_raised l ≡ true → open_calls l ≡ open_calls (without l (present l)) + open_here l
lowered-calls l e = by l.softirq l.irq l.nmi e
  where
    by : (s i n : Option ℕ) → is_raised (levels_at l.normal s i n) ≡ true
        → open_calls (levels_at l.normal s i n) ≡ open_calls (without (levels_at l.normal s i n) (present (levels_at l.normal s i n))) + open_here (levels_at l.normal s i n)
    by s i (Some x) e = omega arith
    by s (Some x) None e = omega arith
    by (Some x) None None e = omega arith
    by None None None e = false_true e

-- a task that can be over has no open call
closed-calls : (l : Levels) → is_unfinished l ≡ false → open_calls l ≡ 0
closed-calls l e =
    let b = or-false_both _ (is_raised l) e in
    let none = eqb-true l.normal 0 (not-false (l.normal == 0) b.0) in
    by l.softirq l.irq l.nmi none b.1
  where
    by : (s i n : Option ℕ) → l.normal ≡ 0 → is_raised (levels_at l.normal s i n) ≡ false → open_calls (levels_at l.normal s i n) ≡ 0
    by None None None none e = omega (arith, none)
    by (Some x) i n none e = false_true (sym e)
    by None (Some x) n none e = false_true (sym e)
    by None None (Some x) none e = false_true (sym e)

-- ## each act

-- a return takes one open call away
returns : (size n m : ℕ) → n ≡ suc m → Leads size n (Ret ∷ []) m
returns size zero m e = absurd (omega (arith, e))
returns size (suc n) m e = omega (arith, e)

-- each act leads on, if it has its match
act-leads : (above : Above) (act : TaskAct) → IsNextCall above act → is_unmatched above.levels act ≡ false
    → Leads (length above.functions) (open_calls above.levels) (act ∷ []) (open_calls (levels_after above.levels act))
act-leads above (Call f) next e = (next.0, let o = opened above.levels (suc (open_here above.levels)) in omega (arith, o))
act-leads above Ret next e =
    let l = above.levels in
    let one = not-zero (open_here l) e in
    let o = opened l (open_here l - 1) in
    returns (length above.functions) (open_calls l) _ (omega (arith, one, o))
act-leads above (Raise to) next e = raised-calls above.levels to (leb-false (rank to) (rank (present above.levels)) e)
act-leads above Lower next e =
    let l = above.levels in
    let b = or-false_both _ _ e in
    let none = eqb-true (open_here l) 0 (not-false (open_here l == 0) b.1) in
    let o = lowered-calls l (not-false (is_raised l) b.0) in
    omega (arith, none, o)
act-leads above (After k) next e = refl

calls-one : (act : TaskAct) (calls : ℕ) → calls + calls_in (act ∷ []) ≡ calls_with act calls
calls-one (Call f) calls = omega arith
calls-one Ret calls = omega arith
calls-one (Raise to) calls = omega arith
calls-one Lower calls = omega arith
calls-one (After n) calls = omega arith

-- ## one more line

-- a task begins if no act above is left open
abbrev pub Begins : Levels → Declaration → Type 0
Begins l (a_task pid cpu) = is_unfinished l ≡ false
Begins l _ = Unit {0}

module _ (above : Above) (h : Holds above) where
  abbrev l : Levels
  l = above.levels

  -- a task's CPU is declared above it
  declared-placed : (what : Declaration) → FitsAs above what → Each (λ p. p.cpu < length (with_what above what).quanta) (with_what above what).tasks
  declared-placed (a_cpu quantum) f = let n = length_push above.quanta quantum in placed-more (length above.quanta) _ above.tasks (omega (arith, n)) h.tasks.placed
  declared-placed (a_task pid cpu) f = Each-snoc (λ (p : LinedTask). p.cpu < length above.quanta) above.tasks _ h.tasks.placed f.placed
  declared-placed (an_act act) f = placed-act (length above.quanta) above.tasks _ h.tasks.placed
  declared-placed what f = h.tasks.placed

  -- a call's function is declared above it, a return has its call, and a task begins if none is open
  declared-balanced : (what : Declaration) (below : List Line) → FitsAs above what → is_unbalanced l what below ≡ false → Begins l what
      → Balanced (length (with_what above what).functions) (with_what above what).tasks (open_calls (with_what above what).levels)
  declared-balanced (a_function function) below f e begins =
      let k = length_push above.functions function in
      balanced-more (length above.functions) _ (open_calls l) above.tasks (omega (arith, k)) h.tasks.balanced
  declared-balanced (a_task pid cpu) below f e begins =
      balanced-task (length above.functions) pid cpu above.tasks (subst (λ k. Balanced (length above.functions) above.tasks k) (closed-calls l begins) h.tasks.balanced)
  declared-balanced (an_act act) below f e begins =
      balanced-act (length above.functions) (open_calls l) _ above.tasks _ f.some (act-leads above act f.call (or-false_both (is_unmatched l act) _ e).0) h.tasks.balanced
  declared-balanced what below f e begins = h.tasks.balanced

  -- the acts are counted
  declared-acts : (what : Declaration) → FitsAs above what → sum_by (λ (p : LinedTask). length p.acts) (with_what above what).tasks ≡ (with_what above what).acts
  declared-acts (a_task pid cpu) f = sum-task (λ (p : LinedTask). length p.acts) above.tasks _ refl ∙ h.tasks.all_acts
  declared-acts (an_act act) f =
      let more = sum_acts-act above.tasks (record { act = act; line = suc above.lines }) f.some in
      let all = h.tasks.all_acts in
      omega (arith, more, all)
  declared-acts what f = h.tasks.all_acts

  -- the calls are counted
  declared-calls : (what : Declaration) → FitsAs above what
      → sum_by (λ (p : LinedTask). calls_in (acts_of p)) (with_what above what).tasks ≡ (with_what above what).calls
  declared-calls (a_task pid cpu) f = sum-task (λ (p : LinedTask). calls_in (acts_of p)) above.tasks _ refl ∙ h.tasks.all_calls
  declared-calls (an_act act) f =
      sum_calls-act above.tasks (record { act = act; line = suc above.lines }) f.some ∙ ap (λ n. n + calls_in (act ∷ [])) h.tasks.all_calls ∙ calls-one act above.calls
  declared-calls what f = h.tasks.all_calls

  -- what holds of the tasks once a line that isn't refused has declared what it does
  pub tasks-declared : (what : Declaration) (below : List Line) → FitsAs above what → is_unbalanced l what below ≡ false → Begins l what
      → let d = with_what above what in TasksHold (length d.functions) (length d.quanta) d.tasks d.levels d.acts d.calls
  tasks-declared what below f e begins = record {
    placed = declared-placed what f;
    balanced = declared-balanced what below f e begins;
    raised = declared-raises above h.tasks.raised what below e;
    all_acts = declared-acts what f;
    all_calls = declared-calls what f;
  }

-- ## tasks that are declared

-- if nothing is left open, each task's calls have returned
pub closed-tasks : (above : Above) → CanRun above → Each (λ p. Leads (length above.functions) 0 (acts_of p) 0) above.tasks
closed-tasks above c =
    balanced-each (length above.functions) above.tasks (subst (λ k. Balanced (length above.functions) above.tasks k) (closed-calls above.levels c.closed) c.holds.tasks.balanced)

-- each task's interrupts come above its present context, and go after they came
pub raised-tasks : (above : Above) → Holds above → Each (λ (t : Task). AreRaised [] t.acts) (map task_of above.tasks)
raised-tasks above h = each-raised above.levels above.tasks h.tasks.raised
