-- What a judge says of the plain run: whether an item may come next on it.
use Rattle.std.proofs.Common.{cond, ◌≡◌, ℕ, suc, ◌+◌, ◌<◌, ◌≤◌, Bool, true, false, List, ◌∷◌, length, get_or, set, Option, Some, None, refl, sym, ap, ◌∙◌, subst, arith, inl, inr}
use Rattle.std.specs.Prelude.{IfOk, IfSome, IsSome, IsTrue, ◌↔◌, Result, Ok, Err, slice_get}
use Rattle.std.specs.Global.{Vec}
use Rattle.std.proofs.lemmas.Bool.{cases_lt, ne_eqb}
use Rattle.std.proofs.lemmas.Bool.Decides.{eqb_tells}
use Rattle.std.proofs.lemmas.List.{length-set}
use Rattle.std.proofs.lemmas.Option.{slice_get_cases, slice_get_read, slice_get_within}
use Rattle.ft_base.specs.declared.number.CallNo.{CallNo}
use Rattle.ft_base.specs.declared.item.Item.{Item}
use Rattle.ft_base.specs.declared.item.Item.TheVariants.{Begin, Return, Enter}
use Rattle.ft_base.specs.declared.memory.NoMemory.{NoMemory}
use Rattle.ft_base.specs.Items.{call_of, is_task}
use Rattle.ft_base.specs.Job.{Job, commands}
use Rattle.ft_base.proofs.Small.{false_true}
use Rattle.ft_hist.specs.Past.{done, is_of}
use Rattle.ft_hist.specs.Rules.{HasEnded, KeepsPlainRun}
use Rattle.ft_hist.specs.Plain.{PlainTask, after_item, at_start, plain}
use Rattle.ft_hist.proofs.Laws.{plain-other, plain-own, own-item}
use Rattle.ft_hist.proofs.RunLaws.{Moves, step-moves, some_inj}
use Rattle.ft_hist.proofs.Steps.{run-holds}
use Rattle.history_check.specs.declared.past.Past.{Past}
use Rattle.history_check.specs.declared.task_past.TaskPast.{TaskPast}
use Rattle.history_check.specs.TaskCalls.{IsTaskPast}
use Rattle.history_check.specs.JudgePast.{IsAtEnd, IsPast, IsPastAt}
use Rattle.history_check.proofs.FollowPast.{set-each}
use Rattle.history_check.proofs.OpenStacks.{of-own}

-- ## items and runs

-- calls are numbered one by one
number-moves : (s s' : PlainTask) (item : Item) (t : ℕ) → is_of t item ≡ true → Moves s s' item → s'.next ≤ suc s.next
number-moves s s' (Begin k) t e m = false_true e
number-moves s s' (Return k a) t e m = false_true e
number-moves s s' (Enter call x f caller) t e m = let h = m.next in omega (arith, h)
number-moves s s' _ t e m = let h = m.next in omega (arith, h)

-- so there are no more than items
pub few-calls : (job : Job) (t : ℕ) (past : List Item) (s : PlainTask) → plain job t past ≡ Some s → s.next ≤ suc (length past)
few-calls job t = run-holds job t (λ past s. s.next ≤ suc (length past)) (omega arith)
    (λ item past p s own here k h. let more = number-moves p s item t own (step-moves job (done past) p s item k) in omega (arith, h, more))
    (λ item past s other here h. omega (arith, h))

-- ## results

-- what follows from what a call says of its value
pub ok-more : (P Q : Bool → Type 0) (r : Result Bool NoMemory) → IfOk r P → ((b : Bool) → P b → Q b) → IfOk r Q
ok-more P Q (Ok b) h f = f b h
ok-more P Q (Err e) h f = tt

-- ## ends

-- one task more has ended
pub ended-more : (d : ℕ) (xs : List TaskPast) (i : ℕ) (y : TaskPast) → i < length xs → y ≡ get_or xs i y → HasEnded d y.run
    → ((t : ℕ) (x : TaskPast) → t < i → slice_get xs t ≡ Some x → HasEnded d x.run) → (t : ℕ) (x : TaskPast) → t < i + 1 → slice_get xs t ≡ Some x → HasEnded d x.run
ended-more d xs i y lt is here all t x below at = elim (cases_lt t i) [
  | inl less ↦ all t x less at
  | inr more ↦ (let same : t ≡ i = omega (arith, below, more) in
      let one : y ≡ x = some_inj y x (sym (slice_get_read xs (length xs) i y refl lt is) ∙ ap (slice_get xs) (sym same) ∙ at) in
      subst (λ (z : TaskPast). HasEnded d z.run) one here)
]

-- ## what is kept

module _ (job : Job) (past : List Item) (p : Past) (is : IsPast job past p) where
  -- a task of the job, or another
  task-at : (t : ℕ) → t < length job.tasks → (x : TaskPast) × (slice_get p.tasks.items t ≡ Some x)
  task-at t lt = elim ((slice_get_cases p.tasks.items t).1) [
    | inl found ↦ (found.0, found.2)
    | inr gone ↦ absurd (let size = is.size in let past = gone.0 in omega (arith, lt, size, past))
  ]

  -- each task is on its plain run
  on-run : (t : ℕ) → (s : PlainTask) × (plain job t past ≡ Some s)
  on-run t = elim (cases_lt t (length job.tasks)) [
    | inl lt ↦ (let (x, at) = task-at t lt in (x.run, (is.each t x at).run))
    | inr out ↦ (at_start job t, is.others t out)
  ]

  some-run : (t : ℕ) → IsSome (plain job t past)
  some-run t = let (s, at) = on-run t in rw at refl

  -- the same with other tasks
  with-tasks : (now : List Item) (ts : Vec TaskPast) → length ts.items ≡ length job.tasks
      → ((t : ℕ) (x : TaskPast) → slice_get ts.items t ≡ Some x → IsTaskPast job past now t x) → IsPastAt job past now (record p { tasks = ts })
  with-tasks now ts size each = record {
    desks = is.desks;
    specs = is.specs;
    frames = is.frames;
    levels' = is.levels';
    lines = is.lines;
    waited = is.waited;
    size = size;
    each = each;
    others = is.others;
    callbacks' = is.callbacks';
    done' = is.done';
    begun' = is.begun';
    place = is.place;
  }

  module _ (item : Item) where
    -- a task goes on by another's item
    same-run : (t : ℕ) (x : TaskPast) → is_of t item ≡ false → IsTaskPast job past past t x → IsTaskPast job past (item ∷ past) t x
    same-run t x ne h = record { run = plain-other job past item t ne ∙ h.run; stack = h.stack; calls = h.calls; stacked = h.stacked; due = h.due }

    -- an item of control keeps it
    pub free-keeps : call_of item ≡ None → KeepsPlainRun job past item
    free-keeps e t = rw (plain-other job past item t (ap (is_task t) e)) (some-run t)

    pub free-kept : call_of item ≡ None → IsPastAt job past (item ∷ past) p
    free-kept e = with-tasks (item ∷ past) p.tasks is.size (λ t x at. same-run t x (ap (is_task t) e) (is.each t x at))

    module _ (call : CallNo) (of : call_of item ≡ Some call) where
      -- the run of its task tells whether it may come
      module _ (x : TaskPast) (at : slice_get p.tasks.items call.task.0 ≡ Some x) (b : Bool) (new : PlainTask)
          (so : after_item job p.done x.run item ≡ cond b (Some new) None) where
        after-is : plain job call.task.0 (item ∷ past) ≡ cond b (Some new) None
        after-is =
            plain-own job past item call.task.0 x.run (own-item item call of) (is.each call.task.0 x at).run
            ∙ ap (λ n. after_item job n x.run item) (sym is.done') ∙ so

        pub run-told : IsTrue b ↔ KeepsPlainRun job past item
        run-told = (λ passes t. keeps passes t, λ keeps. is-true b (subst (λ (o : Option PlainTask). IsSome o) after-is (keeps call.task.0)))
          where
            is-true : (b : Bool) → IsSome (cond b (Some new) None) → IsTrue b
            is-true true h = refl
            is-true false h = false_true h

            keeps : IsTrue b → (t : ℕ) → IsSome (plain job t (item ∷ past))
            keeps passes t = elim (eqb_tells call.task.0 t) [
              | inl e ↦ subst (λ n. IsSome (plain job n (item ∷ past))) e.1 (subst (λ (o : Option PlainTask). IsSome o) (sym (after-is ∙ ap (λ c. cond c (Some new) None) passes)) refl)
              | inr e ↦ subst (λ (o : Option PlainTask). IsSome o) (sym (plain-other job past item t (of-own t item call of ∙ e.0))) (some-run t)
            ]

        -- and goes on by it
        pub run-kept : (ts : Vec TaskPast) → ts.items ≡ set p.tasks.items call.task.0 (record x { run = new }) → b ≡ true → IsPastAt job past (item ∷ past) (record p { tasks = ts })
        run-kept ts e passes =
            let size = is.size in
            with-tasks (item ∷ past) ts (ap length e ∙ length-set p.tasks.items call.task.0 (record x { run = new }) ∙ size)
            (λ t z there. set-each (IsTaskPast job past (item ∷ past)) p.tasks.items call.task.0 (record x { run = new })
            (λ k y was ne. same-run k y (of-own k item call of ∙ ne_eqb call.task.0 k ne) (is.each k y was))
            (let h = is.each call.task.0 x at in record { run = after-is ∙ ap (λ c. cond c (Some new) None) passes; stack = h.stack; calls = h.calls; stacked = h.stacked; due = h.due })
            t z (sym (ap (λ xs. slice_get xs t) e) ∙ there))

  -- ## the end

  pub at-end-is : (n : ℕ) (r : Bool) → n ≡ length (commands job) → (r ≡ true → (p.done ≡ n) × ((t : ℕ) (x : TaskPast) → slice_get p.tasks.items t ≡ Some x → HasEnded p.done x.run))
      → ((p.done ≡ n) × ((t : ℕ) (x : TaskPast) → slice_get p.tasks.items t ≡ Some x → HasEnded p.done x.run) → r ≡ true) → IsTrue r ↔ IsAtEnd job past
  at-end-is n r all told tells = (
    λ passes. (let (returned, ended) = told passes in record {
      returned = sym is.done' ∙ returned ∙ all;
      tasks = λ t lt. (let (x, at) = task-at t lt in rw ((is.each t x at).run) (subst (λ m. HasEnded m x.run) is.done' (ended t x at)));
    }),
    λ e. tells (
      is.done' ∙ e.returned ∙ sym all,
      λ t x at. subst (λ m. HasEnded m x.run) (sym is.done')
          (let lt = slice_get_within p.tasks.items t x at in let size = is.size in
          ended-there t x ((is.each t x at).run) (e.tasks t (omega (arith, lt, size)))),
    ),
  )
    where
      ended-there : (t : ℕ) (x : TaskPast) → plain job t past ≡ Some x.run → IfSome (plain job t past) (HasEnded (done past)) → HasEnded (done past) x.run
      ended-there t x e h = rw e at h
