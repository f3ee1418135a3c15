-- A task's open calls and its plain stack: numbers, frames and guards.
use Rattle.std.proofs.Common.{cond, ◌≡◌, ℕ, suc, ◌+◌, ◌<◌, Bool, true, false, ◌==◌, List, [], ◌∷◌, length, Some, refl, sym, ap, ◌∙◌, subst, arith, inl, inr}
use Rattle.std.specs.Prelude.{count_by}
use Rattle.std.proofs.lemmas.List.Sums.{sum_by-cons}
use Rattle.std.proofs.lemmas.Bool.Decides.{eqb_tells}
use Rattle.std.specs.List.{filter, AllByRecursion as Each}
use Rattle.ft_base.specs.declared.number.CallNo.{CallNo}
use Rattle.ft_base.specs.declared.context.Ctx.{Ctx}
use Rattle.ft_base.specs.declared.item.Item.{Item}
use Rattle.ft_base.specs.Same.{same_call, same_ctx}
use Rattle.ft_base.specs.Job.{Job}
use Rattle.ft_hist.specs.Past.{Callback, callbacks, is_ctx, open_callbacks, held}
use Rattle.ft_hist.proofs.RunLaws.{calls_on}
use Rattle.ft_hist.specs.Known.{holds}
use Rattle.ft_hist.proofs.Since.{Untouched, untouched-item, touches, holding}
use Rattle.ft_hist.proofs.FrameCounts.{opens as opens-law, Opens, held-is, not_same}
use Rattle.ft_hist.specs.Dispatch.{held_levels}
use Rattle.word_machine.specs.Task.{OpenCall, TaskState, Moment, guards_under, level_of, around, user_of}
use Rattle.word_machine.specs.Verdicts.{Here}
use Rattle.word_machine.specs.Calls.{Calls, under_by, under_call}
use Rattle.word_machine.specs.Tasks.{RunsAt, plain_stack, callbacks_at}
use Rattle.ft_hist.proofs.Carries.{of_task}
use Rattle.ft_hist.proofs.OpenBacks.{count-of_task}

abbrev pub calls_of : List OpenCall → List CallNo
calls_of [] = []
calls_of (c ∷ below) = c.call ∷ calls_of below

pub calls_on-plain : (job : Job) (fresh : Bool) (m : Moment) (stack : List OpenCall) → calls_on (plain_stack job fresh m stack) ≡ calls_of stack
calls_on-plain job fresh m [] = refl
calls_on-plain job fresh m (c ∷ below) = ap (λ (cs : List CallNo). c.call ∷ cs) (calls_on-plain job false (under_call c below) below)

-- the calls of a task that is kept are its open ones, each numbered above those below it
pub opens-of : (job : Job) (past : List Item) (t : ℕ) (x : TaskState) → RunsAt job past t x → Opens t past x.next (calls_of x.stack)
opens-of job past t x r =
    let o = opens-law job t past r.at r.is in
    subst (λ (n : ℕ). Opens t past n (calls_of x.stack)) r.next
    (subst (λ (cs : List CallNo). Opens t past r.at.next cs) (ap calls_on r.stack ∙ calls_on-plain job r.fresh x.moment x.stack) o)

ne_n : (a b : ℕ) → a < b → (b == a) ≡ false
ne_n a b lt = elim (eqb_tells b a) [ inl x ↦ (let y : b ≡ a = x.1 in absurd (omega arith)) | inr x ↦ x.0 ]

-- an item of a call with a greater number leaves these calls alone
pub older_untouched : (job : Job) (past : List Item) (call : CallNo) (item : Item) (stack : List OpenCall)
    → ((c : CallNo) → same_call call c ≡ false → touches c item ≡ false)
    → Each (λ d. d.n < call.n) (calls_of stack) → Each (λ c. Untouched job c.call past (item ∷ past)) stack
older_untouched job past call item [] touch h = tt
older_untouched job past call item (c ∷ below) touch h =
    (untouched-item job c.call past item (touch c.call (not_same call c.call h.0)), older_untouched job past call item below touch h.1)

-- ## frames

pub holding-level : (job : Job) (h : Here) (past : List Item) (ack q t : ℕ) (m : Moment) (stack : List OpenCall) → Calls job h past ack q t m stack
    → holding job past (calls_of stack) ≡ level_of stack
holding-level job h past ack q t m [] k = refl
holding-level job h past ack q t m (c ∷ below) k =
    let more = holding-level job h past ack q t (under_call c below) below k.2 in
    rw k.0.holds (elim c.framed as
    (λ b. length (cond b (c.call ∷ filter (λ d. holds job past d) (calls_of below)) (filter (λ d. holds job past d) (calls_of below)))
    ≡ cond b (suc (level_of below)) (level_of below)) [
      | true ↦ ap suc more
      | false ↦ more
    ])

-- the frames that the top call finds
pub held-level : (job : Job) (h : Here) (past : List Item) (ack q : ℕ) (x : TaskState) (c : OpenCall) (below : List OpenCall) (m : Moment)
    → RunsAt job past c.call.task.0 x → x.stack ≡ c ∷ below → Calls job h past ack q c.call.task.0 m below → held job c.call past ≡ level_of below
held-level job h past ack q x c below m r st k =
    held-is job past r.at c.call (calls_of below) r.is (ap calls_on r.stack ∙ calls_on-plain job r.fresh x.moment x.stack ∙ ap calls_of st)
    ∙ holding-level job h past ack q c.call.task.0 m below k

-- ## guards

-- one more in a list that is counted
count-cons : {A : Type 0} (p : A → Bool) (x : A) (xs : List A) → count_by p (x ∷ xs) ≡ cond (p x) 1 0 + count_by p xs
count-cons p x xs = sum_by-cons (λ y. cond (p y) 1 0) x xs

levels-below : (scripted : Bool) (u : ℕ) (y : Ctx) (stack : List OpenCall) → count_by (λ b. is_ctx b.ctx y) (callbacks_at (under_by scripted u) stack)
    ≡ held_levels (guards_under scripted stack) y
levels-below true u y [] = refl
levels-below true u y (c ∷ below) = levels-below c.scripted (user_of below) y below
levels-below false u y [] = refl
levels-below false u y (c ∷ below) =
    count-cons (λ (b : Callback). is_ctx b.ctx y) (record { call = c.call; user = u; ctx = Some c.ctx }) (callbacks_at (under_call c below) below)
    ∙ ap (λ n. cond (same_ctx c.ctx y) 1 0 + n) (levels-below c.scripted (user_of below) y below)
    ∙ sym (count-cons (λ x. same_ctx x y) c.ctx (guards_under c.scripted below))

-- as many levels of a guard are held as callbacks of the task and context are open
pub levels-are : (past : List Item) (t : ℕ) (c : OpenCall) (below : List OpenCall) (y : Ctx)
    → of_task t (callbacks past) ≡ callbacks_at (under_call c below) below → open_callbacks t y past ≡ held_levels (around c below).guards y
levels-are past t c below y e = count-of_task t y (callbacks past) ∙ rw e (levels-below c.scripted (user_of below) y below)
