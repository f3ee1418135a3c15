-- A text has one answer.
use Rattle.std.proofs.Common.{◌≡◌, ℕ, zero, suc, ◌-◌, ◌<◌, Bool, true, false, true≢false, not, List, [], ◌∷◌, length, get_or, slice_get, Option, Some, None, ◌⊎◌, inl, inr, refl, sym, ap, ◌∙◌, subst, arith}
use Rattle.std.proofs.lemmas.Bool.{cases_lt, not-false, not-true}
use Rattle.std.proofs.lemmas.List.{get_or_past}
use Rattle.std.proofs.lemmas.Option.{none-some, same_Some, slice_get_within}
use Rattle.ft_base.specs.declared.number.FuncNo.{FuncNo}
use Rattle.ft_base.specs.declared.task.TaskAct.{TaskAct}
use Rattle.ft_base.specs.declared.task.TaskAct.TheVariants.{Call, Ret, Raise, Lower, After}
use Rattle.ft_base.specs.Desk.{lowest}
use Rattle.ft_base.specs.Job.{Job, Spec}
use Rattle.script_text.specs.Lines.{lines_of}
use Rattle.script_waits.specs.declared.script.LinedAct.{LinedAct}
use Rattle.script_waits.specs.Tasks.{tracks_of}
use Rattle.script_waits.specs.Greedy.{IsLeast, lower_of}
use Rattle.script_waits.proofs.Least.{least-same}
use Rattle.script_waits.proofs.Unique.{deadlock_one}
use Rattle.script_waits.proofs.Found.{deadlock_found}
use Rattle.func_table.specs.Modules.{module_of}
use Rattle.module_table.proofs.LowestLaws.{lowest-some, lowest-none}
use Rattle.module_coverage.specs.Covered.{from_command, to_command, IsCovered}
use Rattle.module_coverage.specs.Loaded.{is_loaded}
use Rattle.module_coverage.specs.Reading.{IsUncoveredCall}
use Rattle.ft_script.specs.declared.faults.Cause.TheVariants.{Deadlock, Unloaded}
use Rattle.ft_script.specs.declared.faults.ScriptFault.{ScriptFault}
use Rattle.ft_script.specs.Above.{Above, none_above}
use Rattle.ft_script.specs.Script.{declared_in, control_of, refusal_of, job_of, needs_named, IsLineOfNeed, MayFindUnloaded, LeavesWaiting, LeavesUnloaded, IsClean, IsJobOf, IsRefusalOf}
use Rattle.ft_script.proofs.Coverage.{IsAmong, IsNeedOf, least-none, least-next, least-one, least-needed, least-unneeded, least-of_users, least-unloaded}
use Rattle.ft_script.proofs.Offence.{none_refused}

-- ## there is a lowest line that may find a module unloaded, or there is none

-- there is a least number, or there is none
abbrev Found : (ℕ → Type 0) → Type 0
Found P = (low : Option ℕ) × IsLeast P low

found-among : (Q : ℕ → ℕ → Type 0) → ((i : ℕ) → Found (Q i)) → (n : ℕ) → Found (IsAmong Q n)
found-among Q each zero = (None, least-none Q)
found-among Q each (suc n) =
    let before = found-among Q each n in
    let here = each n in
    (lower_of before.0 here.0, subst (λ k. IsLeast (IsAmong Q k) (lower_of before.0 here.0)) (omega arith) (least-next Q n before.0 here.0 before.1 here.1))

module _ (job : Job) (above : Above) where
  user-found : (i : ℕ) → Found (IsNeedOf job above i)
  user-found i = by (slice_get above.users i) refl (slice_get above.user_lines i) refl
    where
      needed : (s : Spec) (n : ℕ) → slice_get above.users i ≡ Some s → slice_get above.user_lines i ≡ Some n → (b : Bool) → needs_named job s ≡ b → Found (IsNeedOf job above i)
      needed s n user line true e = (Some n, least-needed job above i s n user line e)
      needed s n user line false e = (None, least-unneeded job above i s user e)

      by : (user : Option Spec) → slice_get above.users i ≡ user → (line : Option ℕ) → slice_get above.user_lines i ≡ line → Found (IsNeedOf job above i)
      by None e line f = (None, λ m w. none-some w.0 (sym e ∙ w.1))
      by (Some s) e None f = (None, λ m w. none-some m (sym f ∙ w.2))
      by (Some s) e (Some n) f = needed s n e f (needs_named job s) refl

  users-found : Found (IsLineOfNeed job above)
  users-found =
      let low = found-among (IsNeedOf job above) user-found (length above.users) in
      (low.0, least-of_users job above (length above.users) low.0 (omega arith) low.1)

module _ (job : Job) (tracks : List (List LinedAct)) where
  -- a call is covered, or it isn't
  covered : (t i m : ℕ) → IsCovered job t i m ⊎ ¬ IsCovered job t i m
  covered t i m = by (lowest away from (suc to - from)) refl
    where
      from : ℕ
      from = from_command job t i

      to : ℕ
      to = to_command job t i

      away : ℕ → Bool
      away k = not (is_loaded job.lines m k)

      by : (o : Option ℕ) → lowest away from (suc to - from) ≡ o → IsCovered job t i m ⊎ ¬ IsCovered job t i m
      by None e = inl (λ k low high. not-false (is_loaded job.lines m k) (lowest-none away from (suc to - from) e k low (omega (arith, low, high))))
      by (Some k) e =
          let is = lowest-some away from (suc to - from) k e in
          inr (λ all. true≢false (sym (all k is.low (omega (arith, is.low, is.high))) ∙ not-true (is_loaded job.lines m k) is.passes))

  -- line n is that of the call at this place, which isn't covered
  abbrev IsCallAt : ℕ → ℕ → ℕ → Type 0
  IsCallAt t i n = (f : FuncNo) × (m : ℕ) × (slice_get (get_or tracks t []) i ≡ Some (record { act = Call f; line = n })) × (module_of job.functions f.0 ≡ Some m) × (¬ IsCovered job t i m)

  module _ (t i : ℕ) (a : LinedAct) (here : slice_get (get_or tracks t []) i ≡ Some a) where
    same-act : (n : ℕ) (w : IsCallAt t i n) → a.act ≡ Call w.0
    same-act n w = ap (λ (x : LinedAct). x.act) (same_Some a _ (sym here ∙ w.2))

    -- a call of a function that lies in a module, or in none
    owner-found : (f : FuncNo) → a.act ≡ Call f → (o : Option ℕ) → module_of job.functions f.0 ≡ o → Found (IsCallAt t i)
    owner-found f is None e = (
      None,
      λ n w.
          let same : Call f ≡ Call w.0 = sym is ∙ same-act n w in
          let func : f ≡ w.0 = cc in
          none-some w.1 (sym e ∙ ap (λ (g : FuncNo). module_of job.functions g.0) func ∙ w.3),
    )
    owner-found f is (Some m) e = by (covered t i m)
      where
        by : IsCovered job t i m ⊎ ¬ IsCovered job t i m → Found (IsCallAt t i)
        by (inl all) = (
          None,
          λ n w.
              let same : Call f ≡ Call w.0 = sym is ∙ same-act n w in
              let func : f ≡ w.0 = cc in
              let owner : m ≡ w.1 = same_Some m w.1 (sym e ∙ ap (λ (g : FuncNo). module_of job.functions g.0) func ∙ w.3) in
              w.4 (subst (IsCovered job t i) owner all),
        )
        by (inr not-all) = (
          Some a.line,
          (
            (f, m, here ∙ ap (λ (act : TaskAct). Some (record { act = act; line = a.line })) is, e, not-all),
            λ n w. let line : a.line ≡ n = ap (λ (x : LinedAct). x.line) (same_Some a _ (sym here ∙ w.2)) in omega (arith, line),
          ),
        )

    act-found : (act : TaskAct) → a.act ≡ act → Found (IsCallAt t i)
    act-found (Call f) e = owner-found f e (module_of job.functions f.0) refl
    act-found Ret e = (None, λ n w. let none : Ret ≡ Call w.0 = sym e ∙ same-act n w in cc)
    act-found (Raise to) e = (None, λ n w. let none : Raise to ≡ Call w.0 = sym e ∙ same-act n w in cc)
    act-found Lower e = (None, λ n w. let none : Lower ≡ Call w.0 = sym e ∙ same-act n w in cc)
    act-found (After k) e = (None, λ n w. let none : After k ≡ Call w.0 = sym e ∙ same-act n w in cc)

  call-found : (t i : ℕ) → Found (IsCallAt t i)
  call-found t i = by (slice_get (get_or tracks t []) i) refl
    where
      by : (o : Option LinedAct) → slice_get (get_or tracks t []) i ≡ o → Found (IsCallAt t i)
      by None e = (None, λ n w. none-some _ (sym e ∙ w.2))
      by (Some a) e = act-found t i a e a.act refl

  -- line n is that of a call of the task that isn't covered
  abbrev IsCallOf : ℕ → ℕ → Type 0
  IsCallOf t n = IsAmong (IsCallAt t) (length (get_or tracks t [])) n

  -- a task that isn't there has no calls
  task-inside : (t i : ℕ) (a : LinedAct) → slice_get (get_or tracks t []) i ≡ Some a → t < length tracks
  task-inside t i a e = elim (cases_lt t (length tracks)) [
    | inl inside ↦ inside
    | inr past ↦
        let none : slice_get (get_or tracks t []) i ≡ None = ap (λ (acts : List LinedAct). slice_get acts i) (get_or_past tracks t [] past) in
        absurd (none-some a (sym none ∙ e))
  ]

  calls-found : Found (IsUncoveredCall job tracks)
  calls-found =
      let low = found-among IsCallOf (λ t. found-among (IsCallAt t) (call-found t) (length (get_or tracks t []))) (length tracks) in (
        low.0,
        least-same (IsAmong IsCallOf (length tracks)) (IsUncoveredCall job tracks) low.0
            (λ n w. record { task = w.0; place = w.2.0; func = w.2.2.0; owner = w.2.2.1; line = w.2.2.2; lies = w.2.2.3; uncovered = w.2.2.4 })
            (λ n w. (
              w.task,
              task-inside w.task w.place _ w.line,
              (w.place, slice_get_within (get_or tracks w.task []) w.place _ w.line, (w.func, w.owner, w.line, w.lies, w.uncovered)),
            ))
            low.1,
      )

unloaded-found : (text : List ℕ) → Found (MayFindUnloaded (declared_in text))
unloaded-found text =
    let above : Above = declared_in text in
    let user = users-found (job_of above) above in
    let call = calls-found (job_of above) (tracks_of above.tasks) in
    (lower_of user.0 call.0, least-unloaded above user.0 call.0 user.1 call.1)

-- ## the answer

-- one line is left waiting, or none
waits-one : (text : List ℕ) (a b : Option ℕ) → LeavesWaiting text a → LeavesWaiting text b → a ≡ b
waits-one text a b = deadlock_one (tracks_of (declared_in text).tasks) (control_of (declared_in text)) a b

-- the same for the lowest line that may find a module unloaded
unloaded-one : (text : List ℕ) (a b : Option ℕ) → LeavesUnloaded text a → LeavesUnloaded text b → a ≡ b
unloaded-one text a b = least-one (MayFindUnloaded (declared_in text)) a b

pub some_answer : (text : List ℕ) → ((job : Job) × IsJobOf text job) ⊎ ((fault : ScriptFault) × IsRefusalOf text fault)
some_answer text = by (refusal_of text) refl (deadlock_found (tracks_of (declared_in text).tasks) (control_of (declared_in text))) (unloaded-found text)
  where
    by : (o : Option ScriptFault) → refusal_of text ≡ o → ((lowest : Option ℕ) × LeavesWaiting text lowest) → ((lowest : Option ℕ) × LeavesUnloaded text lowest)
        → ((job : Job) × IsJobOf text job) ⊎ ((fault : ScriptFault) × IsRefusalOf text fault)
    by (Some fault) e waits finds = inr (fault, inl e)
    by None e (Some n, waits) finds = inr (record { line = n; cause = Deadlock }, inr (inl (record { accepted = e; cause = refl; line = waits })))
    by None e (None, ends) (Some n, finds) = inr (record { line = n; cause = Unloaded }, inr (inr (record { accepted = e; ends = ends; cause = refl; line = finds })))
    by None e (None, ends) (None, loaded) = inl (job_of (declared_in text), record { accepted = e; ends = ends; loaded = loaded; meaning = refl })

pub not_both : (text : List ℕ) (job : Job) (fault : ScriptFault) → IsJobOf text job → IsRefusalOf text fault → ⊥
not_both text job fault j (inl e) = none-some fault (sym j.accepted ∙ e)
not_both text job fault j (inr (inl d)) = none-some fault.line (waits-one text None (Some fault.line) j.ends d.line)
not_both text job fault j (inr (inr u)) = none-some fault.line (unloaded-one text None (Some fault.line) j.loaded u.line)

pub one_job : (text : List ℕ) (a b : Job) → IsJobOf text a → IsJobOf text b → a ≡ b
one_job text a b f g = f.meaning ∙ sym g.meaning

-- two faults of one line and one cause
same-fault : (a b : ScriptFault) → Some a.line ≡ Some b.line → a.cause ≡ b.cause → a ≡ b
same-fault a b lines cause =
    let line : a.line ≡ b.line = cc in
    ap (λ n. record { line = n; cause = a.cause }) line ∙ ap (λ c. record { line = b.line; cause = c }) cause

pub one_fault : (text : List ℕ) (a b : ScriptFault) → IsRefusalOf text a → IsRefusalOf text b → a ≡ b
one_fault text a b (inl e) (inl f) = let same : Some a ≡ Some b = sym e ∙ f in cc
one_fault text a b (inl e) (inr (inl d)) = absurd (none-some a (sym d.accepted ∙ e))
one_fault text a b (inl e) (inr (inr u)) = absurd (none-some a (sym u.accepted ∙ e))
one_fault text a b (inr (inl d)) (inl e) = absurd (none-some b (sym d.accepted ∙ e))
one_fault text a b (inr (inr u)) (inl e) = absurd (none-some b (sym u.accepted ∙ e))
one_fault text a b (inr (inl d)) (inr (inl e)) = same-fault a b (waits-one text (Some a.line) (Some b.line) d.line e.line) (d.cause ∙ sym e.cause)
one_fault text a b (inr (inl d)) (inr (inr u)) = absurd (none-some a.line (waits-one text None (Some a.line) u.ends d.line))
one_fault text a b (inr (inr u)) (inr (inl d)) = absurd (none-some b.line (waits-one text None (Some b.line) u.ends d.line))
one_fault text a b (inr (inr u)) (inr (inr v)) = same-fault a b (unloaded-one text (Some a.line) (Some b.line) u.line v.line) (u.cause ∙ sym v.cause)

pub clean_script : (text : List ℕ) → IsClean text → LeavesWaiting text None → LeavesUnloaded text None → IsJobOf text (job_of (declared_in text))
clean_script text clean ends loaded = record { accepted = by text clean; ends = ends; loaded = loaded; meaning = refl }
  where
    by : (t : List ℕ) → IsClean t → refusal_of t ≡ None
    by [] c = absurd (c.some refl)
    by (b ∷ t) c = none_refused none_above (lines_of (b ∷ t)) c.clean
