-- Whatever is reached stays below a tuple from which no entry goes up: so there is one greatest tuple.
use Rattle.std.proofs.Common.{◌≡◌, ℕ, zero, suc, ◌+◌, ◌<◌, ◌≤◌, arith, true, false, Bool, true≢false, inl, inr, List, [], length, set, get_or, slice_get, Option, Some, None, refl, ap, ◌∙◌, sym, subst, add-zero, ◌-◌}
use Rattle.std.proofs.lemmas.Bool.{cases_eq, cases_lt, leb-true, le-leb}
use Rattle.std.proofs.lemmas.List.{get_or-set_same, get_or-set_other, take_all, set_past}
use Rattle.std.proofs.lemmas.List.Sums.{count_by_more_yes, count_by_more_no}
use Rattle.script_waits.specs.declared.script.LinedAct.{LinedAct}
use Rattle.script_waits.specs.declared.script.ControlLine.{ControlLine}
use Rattle.ft_base.specs.declared.task.TaskAct.{TaskAct}
use Rattle.ft_base.specs.declared.task.TaskAct.TheVariants.{Call, Ret, Raise, Lower, After}
use Rattle.script_waits.specs.declared.script.Wait.{Wait}
use Rattle.script_waits.specs.declared.script.Wait.TheVariants.{Command, Until}
use Rattle.script_waits.specs.Greedy.{Passed, Reaches, start, task, control, IsGreatest, IsDeadlock, IsLeast, Waits, in_task, in_control, commands_in, is_command, may_pass_act, may_pass_wait, passes_act, passes_line, next_act, next_line, task_goes, control_goes}
use Rattle.script_waits.proofs.Runs.{zeros-at}

-- more commands pass no fewer acts, and more acts no fewer lines
later-act : (act : TaskAct) (m n : ℕ) → m ≤ n → may_pass_act m act ≡ true → may_pass_act n act ≡ true
later-act (After k) m n h e = let q = leb-true k m e in le-leb k n (omega (arith, h, q))
later-act (Call f) m n h e = refl
later-act Ret m n h e = refl
later-act (Raise c) m n h e = refl
later-act Lower m n h e = refl

pass-more : (act : Option LinedAct) (m n : ℕ) → m ≤ n → passes_act m act ≡ true → passes_act n act ≡ true
pass-more None m n h e = e
pass-more (Some act) m n h e = later-act act.act m n h e

later-line : (wait : Wait) (xs ys : List ℕ) → ((t : ℕ) → get_or xs t 0 ≤ get_or ys t 0) → may_pass_wait xs wait ≡ true → may_pass_wait ys wait ≡ true
later-line Command xs ys h e = refl
later-line (Until t n) xs ys h e = let q = leb-true n (get_or xs t.0 0) e in let r = h t.0 in le-leb n (get_or ys t.0 0) (omega (arith, q, r))

go-more : (next : Option ControlLine) (xs ys : List ℕ) → ((t : ℕ) → get_or xs t 0 ≤ get_or ys t 0) → passes_line xs next ≡ true → passes_line ys next ≡ true
go-more None xs ys h e = e
go-more (Some next) xs ys h e = later-line next.wait xs ys h e

-- more lines have no fewer commands
count-one : (lines : List ControlLine) (n : ℕ) → commands_in lines n ≤ commands_in lines (n + 1)
count-one lines n = elim (cases_lt n (length lines)) [
  | inl inside ↦ by_command (is_command (get_or lines n none).wait) refl inside
  | inr past ↦ rw (take_all n lines past, take_all (n + 1) lines (omega (arith, past))) (omega arith)
]
  where
    none : ControlLine
    none = record { wait = Command; line = 0 }

    by_command : (b : Bool) → is_command (get_or lines n none).wait ≡ b → n < length lines → commands_in lines n ≤ commands_in lines (n + 1)
    by_command true e inside = rw (count_by_more_yes (λ (o : ControlLine). is_command o.wait) lines n none inside e) (omega arith)
    by_command false e inside = rw (count_by_more_no (λ (o : ControlLine). is_command o.wait) lines n none inside e) (omega arith)

count-more : (lines : List ControlLine) (m d : ℕ) → commands_in lines m ≤ commands_in lines (m + d)
count-more lines m zero = rw (add-zero m) (omega arith)
count-more lines m (suc d) =
    let a : commands_in lines m ≤ commands_in lines (m + d) = count-more lines m d in
    let b : commands_in lines (m + d) ≤ commands_in lines (m + d + 1) = count-one lines (m + d) in
    let same : m + suc d ≡ m + d + 1 = omega arith in
    rw same (omega (arith, a, b))

counts : (lines : List ControlLine) (m n : ℕ) → m ≤ n → commands_in lines m ≤ commands_in lines n
counts lines m n h = let same : m + (n - m) ≡ n = omega arith in subst (λ k. commands_in lines m ≤ commands_in lines k) same (count-more lines m (n - m))

pub record Below (p q : Passed) : Type 0 where
  pub acts : (t : ℕ) → get_or p.acts t 0 ≤ get_or q.acts t 0
  pub lines : p.lines ≤ q.lines

module _ (tracks : List (List LinedAct)) (lines : List ControlLine) (q : Passed) (g : IsGreatest tracks lines q) where
  task-below : (p : Passed) (t : ℕ) → Below p q → task_goes tracks lines p t ≡ true → (k : ℕ) → get_or (set p.acts t (suc (get_or p.acts t 0))) k 0 ≤ get_or q.acts k 0
  task-below p t b goes k = elim (cases_eq k t) [
    | inr other ↦ rw (get_or-set_other p.acts t k (suc (get_or p.acts t 0)) 0 other) (b.acts k)
    | inl e ↦ subst (λ i. get_or (set p.acts t (suc (get_or p.acts t 0))) i 0 ≤ get_or q.acts i 0) (sym e) (elim (cases_lt t (length p.acts)) [
      | inr past ↦ rw (set_past p.acts t (suc (get_or p.acts t 0)) past) (b.acts t)
      | inl inside ↦ rw (get_or-set_same p.acts t (suc (get_or p.acts t 0)) 0 inside) (elim (cases_lt (get_or p.acts t 0) (get_or q.acts t 0)) [
        | inl less ↦ less
        | inr not_less ↦
            let r = b.acts t in
            let same : get_or p.acts t 0 ≡ get_or q.acts t 0 = omega (arith, r, not_less) in
            let here = subst (λ i. passes_act (commands_in lines p.lines) (slice_get (get_or tracks t []) i) ≡ true) same goes in
            absurd (true≢false (sym (pass-more (next_act tracks lines q t) _ _ (counts lines p.lines q.lines b.lines) here) ∙ g.tasks t))
      ])
    ])
  ]

  control-below : (p : Passed) → Below p q → control_goes tracks lines p ≡ true → suc p.lines ≤ q.lines
  control-below p b goes = elim (cases_lt p.lines q.lines) [
    | inl less ↦ less
    | inr not_less ↦
        let r = b.lines in
        let same : p.lines ≡ q.lines = omega (arith, r, not_less) in
        let here = subst (λ i. passes_line p.acts (slice_get lines i) ≡ true) same goes in
        absurd (true≢false (sym (go-more (next_line tracks lines q) p.acts q.acts b.acts here) ∙ g.control))
  ]

  -- the greatest of all tuples that are reached
  pub reached-below : (p : Passed) → Reaches tracks lines p → Below p q
  reached-below _ start = record { acts = λ t. rw (zeros-at (length tracks) t) (omega arith); lines = omega arith }
  reached-below _ (task p t r goes) = let b = reached-below p r in record { acts = task-below p t b goes; lines = b.lines }
  reached-below _ (control p r goes) = let b = reached-below p r in record { acts = b.acts; lines = control-below p b goes }

-- two greatest tuples have the same entries
same-acts : (tracks : List (List LinedAct)) (lines : List ControlLine) (p q : Passed) → IsGreatest tracks lines p → IsGreatest tracks lines q → (t : ℕ) → get_or p.acts t 0 ≡ get_or q.acts t 0
same-acts tracks lines p q g h t =
    let a = (reached-below tracks lines q h p g.reached).acts t in
    let b = (reached-below tracks lines p g q h.reached).acts t in
    omega (arith, a, b)

same-lines : (tracks : List (List LinedAct)) (lines : List ControlLine) (p q : Passed) → IsGreatest tracks lines p → IsGreatest tracks lines q → p.lines ≡ q.lines
same-lines tracks lines p q g h =
    let a = (reached-below tracks lines q h p g.reached).lines in
    let b = (reached-below tracks lines p g q h.reached).lines in
    omega (arith, a, b)

waits-same : (tracks : List (List LinedAct)) (lines : List ControlLine) (p q : Passed) → IsGreatest tracks lines p → IsGreatest tracks lines q → (n : ℕ) → Waits tracks lines p n → Waits tracks lines q n
waits-same tracks lines p q g h n (in_task t act at is) = in_task t act (ap (λ i. slice_get (get_or tracks t []) i) (sym (same-acts tracks lines p q g h t)) ∙ at) is
waits-same tracks lines p q g h n (in_control next at is) = in_control next (ap (slice_get lines) (sym (same-lines tracks lines p q g h)) ∙ at) is

least-one : (P Q : ℕ → Type 0) (a b : Option ℕ) → ((n : ℕ) → P n → Q n) → ((n : ℕ) → Q n → P n) → IsLeast P a → IsLeast Q b → a ≡ b
least-one P Q None None to from f g = refl
least-one P Q None (Some y) to from f g = absurd (f y (from y g.0))
least-one P Q (Some x) None to from f g = absurd (g x (to x f.0))
least-one P Q (Some x) (Some y) to from f g = let u = f.1 y (from y g.0) in let v = g.1 x (to x f.0) in let e : x ≡ y = omega (arith, u, v) in ap Some e

pub deadlock_one : (tracks : List (List LinedAct)) (lines : List ControlLine) (a b : Option ℕ) → IsDeadlock tracks lines a → IsDeadlock tracks lines b → a ≡ b
deadlock_one tracks lines a b f g =
    least-one (Waits tracks lines f.passed) (Waits tracks lines g.passed) a b (waits-same tracks lines f.passed g.passed f.greatest g.greatest) (waits-same tracks lines g.passed f.passed g.greatest f.greatest) f.least g.least
