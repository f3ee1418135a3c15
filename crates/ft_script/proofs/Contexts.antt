-- Each interrupt of a task that the lines of a script declare, if no line has a cause, comes above the task's present context and goes after
-- it came.
use Rattle.std.proofs.Common.{◌≡◌, ℕ, ◌<◌, ◌≤◌, true, false, List, [], ◌∷◌, ◌++◌, length, map, Option, Some, None, refl, sym, subst, arith}
use Rattle.std.specs.List.{AllByRecursion as Each}
use Rattle.std.proofs.lemmas.Bool.{leb-false, not-false}
use Rattle.std.proofs.lemmas.List.{map_push}
use Rattle.ft_base.specs.declared.context.Ctx.{Ctx}
use Rattle.ft_base.specs.declared.context.Ctx.TheVariants.{Normal, Softirq, Irq, Nmi}
use Rattle.ft_base.specs.declared.task.TaskAct.{TaskAct}
use Rattle.ft_base.specs.declared.task.TaskAct.TheVariants.{Call, Ret, Raise, Lower, After}
use Rattle.ft_base.specs.Same.{rank, context}
use Rattle.ft_base.specs.Job.{Task}
use Rattle.ft_base.specs.Acts.{AreRaised}
use Rattle.ft_base.proofs.Small.{false_true, or-false_both}
use Rattle.script_text.specs.Lines.{Line}
use Rattle.script_waits.specs.declared.script.LinedAct.{LinedAct}
use Rattle.script_waits.specs.Tasks.{LinedTask}
use Rattle.ft_script.specs.declared.levels.Levels.{Levels}
use Rattle.ft_script.specs.Levels.{levels_at, level_ground, present, present_by, with_open, without, levels_after, is_raised}
use Rattle.ft_script.specs.Above.{Above, Declaration, a_task, an_act, push_act, with_what}
use Rattle.ft_script.specs.Causes.{is_unmatched, is_unbalanced}
use Rattle.ft_script.specs.Script.{task_of}
use Rattle.ft_script.specs.Holds.{acts_of, contexts_in, RaisesTo, TasksRaise}
use Rattle.ft_script.proofs.TaskLaws.{length-push_act}

-- ## the contexts that levels tell

present-context : (l : Levels) → context (contexts_in l) ≡ present l
present-context l = by l.softirq l.irq l.nmi
  where
    by : (s i n : Option ℕ) → context (contexts_in (levels_at l.normal s i n)) ≡ present (levels_at l.normal s i n)
    by s i (Some x) = refl
    by s (Some x) None = refl
    by (Some x) None None = refl
    by None None None = refl

-- calls and returns raise nothing
opened-contexts : (l : Levels) (k : ℕ) → contexts_in l ≡ contexts_in (with_open l (present l) k)
opened-contexts l k = by l.softirq l.irq l.nmi
  where
    by : (s i n : Option ℕ) → contexts_in (levels_at l.normal s i n) ≡ contexts_in (with_open (levels_at l.normal s i n) (present (levels_at l.normal s i n)) k)
    by s i (Some x) = refl
    by s (Some x) None = refl
    by (Some x) None None = refl
    by None None None = refl

-- a context above the present one: neither it nor one above it is raised
pub by-raised : (P : Option ℕ → Option ℕ → Option ℕ → Ctx → Type 0) → ((s i : Option ℕ) → P s i None Nmi) → ((s : Option ℕ) → P s None None Irq) → P None None None Softirq
    → (s i n : Option ℕ) (c : Ctx) → rank (present_by s i n) < rank c → P s i n c
by-raised P nmi irq softirq s i n Normal lt = absurd (omega (arith, lt))
by-raised P nmi irq softirq s i (Some x) Softirq lt = absurd (omega (arith, lt))
by-raised P nmi irq softirq s (Some x) None Softirq lt = absurd (omega (arith, lt))
by-raised P nmi irq softirq (Some x) None None Softirq lt = absurd (omega (arith, lt))
by-raised P nmi irq softirq None None None Softirq lt = softirq
by-raised P nmi irq softirq s i (Some x) Irq lt = absurd (omega (arith, lt))
by-raised P nmi irq softirq s (Some x) None Irq lt = absurd (omega (arith, lt))
by-raised P nmi irq softirq s None None Irq lt = irq s
by-raised P nmi irq softirq s i (Some x) Nmi lt = absurd (omega (arith, lt))
by-raised P nmi irq softirq s i None Nmi lt = nmi s i

-- a raised context is the latest
raised-contexts : (l : Levels) (c : Ctx) → rank (present l) < rank c → c ∷ contexts_in l ≡ contexts_in (with_open l c 0)
raised-contexts l c lt =
    by-raised (λ s i n d. d ∷ contexts_in (levels_at l.normal s i n) ≡ contexts_in (with_open (levels_at l.normal s i n) d 0))
    (λ s i. refl) (λ s. refl) refl l.softirq l.irq l.nmi c lt

-- the present context is the latest raised one
lowered-contexts : (l : Levels) → is_raised l ≡ true → present l ∷ contexts_in (without l (present l)) ≡ contexts_in l
lowered-contexts l e = by l.softirq l.irq l.nmi e
  where
    by : (s i n : Option ℕ) → is_raised (levels_at l.normal s i n) ≡ true
        → present (levels_at l.normal s i n) ∷ contexts_in (without (levels_at l.normal s i n) (present (levels_at l.normal s i n)))
        ≡ contexts_in (levels_at l.normal s i n)
    by s i (Some x) e = refl
    by s (Some x) None e = refl
    by (Some x) None None e = refl
    by None None None e = false_true e

-- ## acts

raises-are : (cs cs' : List Ctx) (acts : List TaskAct) → RaisesTo cs acts cs' → AreRaised cs acts
raises-are cs cs' [] h = tt
raises-are cs cs' (Call f ∷ rest) h = raises-are cs cs' rest h
raises-are cs cs' (Ret ∷ rest) h = raises-are cs cs' rest h
raises-are cs cs' (Raise c ∷ rest) h = (h.0, raises-are (c ∷ cs) cs' rest h.1)
raises-are [] cs' (Lower ∷ rest) h = h
raises-are (c ∷ cs) cs' (Lower ∷ rest) h = raises-are cs cs' rest h
raises-are cs cs' (After n ∷ rest) h = raises-are cs cs' rest h

-- one act more
raises-snoc : (cs mid cs' : List Ctx) (acts : List TaskAct) (a : TaskAct) → RaisesTo cs acts mid → RaisesTo mid (a ∷ []) cs' → RaisesTo cs (acts ++ a ∷ []) cs'
raises-snoc cs mid cs' [] a h last = subst (λ x. RaisesTo x (a ∷ []) cs') (sym h) last
raises-snoc cs mid cs' (Call f ∷ rest) a h last = raises-snoc cs mid cs' rest a h last
raises-snoc cs mid cs' (Ret ∷ rest) a h last = raises-snoc cs mid cs' rest a h last
raises-snoc cs mid cs' (Raise c ∷ rest) a h last = (h.0, raises-snoc (c ∷ cs) mid cs' rest a h.1 last)
raises-snoc [] mid cs' (Lower ∷ rest) a h last = absurd h
raises-snoc (c ∷ cs) mid cs' (Lower ∷ rest) a h last = raises-snoc cs mid cs' rest a h last
raises-snoc cs mid cs' (After n ∷ rest) a h last = raises-snoc cs mid cs' rest a h last

-- ## tasks

raises-cons : (l : Levels) (p : LinedTask) (qs : List LinedTask) → 1 ≤ length qs → AreRaised [] (acts_of p) → TasksRaise qs l → TasksRaise (p ∷ qs) l
raises-cons l p [] some first h = absurd (omega arith)
raises-cons l p (q ∷ qs) some first h = (first, h)

act-raises : (l l' : Levels) (ps : List LinedTask) (a : LinedAct) → RaisesTo (contexts_in l) (a.act ∷ []) (contexts_in l') → TasksRaise ps l → TasksRaise (push_act ps a) l'
act-raises l l' [] a step h = tt
act-raises l l' (p ∷ []) a step h = rw (map_push (λ (x : LinedAct). x.act) p.acts a) (raises-snoc [] (contexts_in l) (contexts_in l') (acts_of p) a.act h step)
act-raises l l' (p ∷ q ∷ ps) a step h =
    let n = length-push_act (q ∷ ps) a in
    raises-cons l' p (push_act (q ∷ ps) a) (omega (arith, n)) h.0 (act-raises l l' (q ∷ ps) a step h.1)

task-raises : (l : Levels) (pid cpu : ℕ) (ps : List LinedTask) → TasksRaise ps l → TasksRaise (ps ++ record { pid = pid; cpu = cpu; acts = [] } ∷ []) level_ground
task-raises l pid cpu [] h = refl
task-raises l pid cpu (p ∷ []) h = (raises-are [] (contexts_in l) (acts_of p) h, refl)
task-raises l pid cpu (p ∷ q ∷ ps) h = (h.0, task-raises l pid cpu (q ∷ ps) h.1)

pub each-raised : (l : Levels) (ps : List LinedTask) → TasksRaise ps l → Each (λ (t : Task). AreRaised [] t.acts) (map task_of ps)
each-raised l [] h = tt
each-raised l (p ∷ []) h = (raises-are [] (contexts_in l) (acts_of p) h, tt)
each-raised l (p ∷ q ∷ ps) h = (h.0, each-raised l (q ∷ ps) h.1)

-- ## one more line

module _ (above : Above) (h : TasksRaise above.tasks above.levels) where
  abbrev l : Levels
  l = above.levels

  one-more : (act : LinedAct) → RaisesTo (contexts_in l) (act.act ∷ []) (contexts_in (levels_after l act.act)) → TasksRaise (push_act above.tasks act) (levels_after l act.act)
  one-more act step = act-raises l (levels_after l act.act) above.tasks act step h

  -- an act that ends nothing that hasn't begun
  act-raises-one : (act : TaskAct) → is_unmatched l act ≡ false → RaisesTo (contexts_in l) (act ∷ []) (contexts_in (levels_after l act))
  act-raises-one (Call f) e = opened-contexts l _
  act-raises-one Ret e = opened-contexts l _
  act-raises-one (Raise to) e =
      let lt = leb-false (rank to) (rank (present l)) e in
      (subst (λ c. rank c < rank to) (sym (present-context l)) lt, raised-contexts l to lt)
  act-raises-one Lower e =
      subst (λ cs. RaisesTo cs (Lower ∷ []) (contexts_in (without l (present l)))) (lowered-contexts l (not-false (is_raised l) (or-false_both _ _ e).0)) refl
  act-raises-one (After n) e = refl

  pub declared-raises : (what : Declaration) (below : List Line) → is_unbalanced l what below ≡ false → TasksRaise (with_what above what).tasks (with_what above what).levels
  declared-raises (a_task pid cpu) below e = task-raises l pid cpu above.tasks h
  declared-raises (an_act act) below e = one-more _ (act-raises-one act (or-false_both (is_unmatched l act) _ e).0)
  declared-raises what below e = h
