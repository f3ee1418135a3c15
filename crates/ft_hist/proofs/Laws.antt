-- Laws of the words on a past.
use Rattle.std.proofs.Common.{◌≡◌, ℕ, suc, ◌≤◌, Bool, true, false, ◌==◌, List, [], ◌∷◌, ◌++◌, reverse, Option, Some, None, rules, cond, nat_le, leb-true, le-leb, IsSome, eqb-true, refl, sym, ap, ◌∙◌, subst, arith}
use Rattle.std.proofs.lemmas.List.{reverse-append}
use Rattle.ft_base.specs.declared.number.CallNo.{CallNo}
use Rattle.ft_base.specs.declared.context.Ctx.{Ctx}
use Rattle.ft_base.specs.declared.number.FuncNo.{FuncNo}
use Rattle.ft_base.specs.declared.item.Item.{Item}
use Rattle.ft_base.specs.declared.item.Item.TheVariants.{Enter}
use Rattle.ft_base.specs.Same.{same_call}
use Rattle.ft_base.specs.Job.{Job}
use Rattle.ft_base.specs.declared.task.TaskAct.{TaskAct}
use Rattle.ft_base.specs.declared.task.TaskAct.TheVariants.{Call, Ret as RetAct, Raise, Lower, After}
use Rattle.ft_base.proofs.Small.{==-refl}
use Rattle.ft_base.specs.Items.{call_of}
use Rattle.ft_hist.specs.Plain.{plain, after_item, PlainTask, same_top, ahead, Ahead, below_top}
use Rattle.ft_hist.specs.Past.{is_of, done, entry_of}
use Rattle.ft_hist.specs.Rules.{IsLegal, IsLegalPast, MayFollow, GiveNoItems}

-- a call is the same as itself
pub same_call-refl : (c : CallNo) → same_call c c ≡ true
same_call-refl c = search rules

-- the calls of other tasks are other calls
pub other-task : (t : ℕ) (call c : CallNo) → (call.task.0 == t) ≡ false → c.task.0 ≡ t → same_call call c ≡ false
other-task t call c other own = let x : (call.task.0 == c.task.0) ≡ false = rw own other in rw x refl

-- an item is of the task of its call
pub own-item : (item : Item) (call : CallNo) → call_of item ≡ Some call → is_of call.task.0 item ≡ true
own-item item call is = rw is (==-refl call.task.0)

-- no items at all are legal
pub none-legal : (job : Job) → IsLegalPast job []
unfolding IsLegalPast
none-legal job = tt

-- a legal history stays legal with one more item that may stand there
pub IsLegal-push : (job : Job) (items : List Item) (item : Item) → IsLegal job items → MayFollow job (reverse items) item → IsLegal job (items ++ item ∷ [])
unfolding IsLegal IsLegalPast
IsLegal-push job items item legal may = rw (reverse-append items (item ∷ [])) (may, legal)

-- the entry of a call that has just been entered
pub entry_of-enter : (c : CallNo) (ctx : Ctx) (f : FuncNo) (caller : Option CallNo) (past : List Item)
    → entry_of c (Enter c ctx f caller ∷ past) ≡ record { ctx = ctx; func = f.0; caller = caller; from = done past }
entry_of-enter c ctx f caller past = rw (same_call-refl c) refl

-- the plain run after one more item of the task
pub plain-own : (job : Job) (past : List Item) (item : Item) (t : ℕ) (s : PlainTask)
    → is_of t item ≡ true → plain job t past ≡ Some s → plain job t (item ∷ past) ≡ after_item job (done past) s item
unfolding plain
plain-own job past item t s own here = rw (own, here) refl

-- and after an item of another
pub plain-other : (job : Job) (past : List Item) (item : Item) (t : ℕ)
    → is_of t item ≡ false → plain job t (item ∷ past) ≡ plain job t past
unfolding plain
plain-other job past item t other = rw other refl

-- a task goes on by an item of its own, and the other tasks stay
pub run_more : (job : Job) (past : List Item) (item : Item) (t : ℕ) (s s' : PlainTask)
    → ((v : ℕ) → is_of v item ≡ (t == v)) → ((v : ℕ) → IsSome (plain job v past))
    → plain job t past ≡ Some s → after_item job (done past) s item ≡ Some s'
    → ((v : ℕ) → IsSome (plain job v (item ∷ past))) × (plain job t (item ∷ past) ≡ Some s')
run_more job past item t s s' own all here next =
    let same : plain job t (item ∷ past) ≡ Some s' = plain-own job past item t s (own t ∙ ==-refl t) here ∙ next in (
      λ v. elim (t == v) as (λ b. (t == v) ≡ b → IsSome (plain job v (item ∷ past))) [
        | true ↦ λ e. subst (λ x. IsSome (plain job x (item ∷ past))) (eqb-true t v e) (rw same refl)
        | false ↦ λ e. rw (plain-other job past item v (own v ∙ e)) (all v)
      ] refl,
      same,
    )

-- an item of no task
pub run_still : (job : Job) (past : List Item) (item : Item)
    → ((v : ℕ) → is_of v item ≡ false) → (v : ℕ) → plain job v (item ∷ past) ≡ plain job v past
unfolding plain
run_still job past item none v = rw (none v) refl

-- two calls from the top of equal stacks are the same
pub same_top-refl : (c : Option CallNo) → same_top c c ≡ true
same_top-refl None = refl
same_top-refl (Some c) = same_call-refl c

-- what is ahead, from where it stops
abbrev on_from : ℕ → Ahead → Ahead
on_from d a = ahead d a.acts a.contexts a.gone

ahead-again : (d : ℕ) (acts : List TaskAct) (cs : List Ctx) (gone : ℕ) → on_from (suc d) (ahead d acts cs gone) ≡ ahead (suc d) acts cs gone
ahead-again d [] cs gone = refl
ahead-again d (Call f ∷ rest) cs gone = refl
ahead-again d (RetAct ∷ rest) cs gone = refl
ahead-again d (Raise c ∷ rest) cs gone = ahead-again d rest (c ∷ cs) (suc gone)
ahead-again d (Lower ∷ rest) cs gone = ahead-again d rest (below_top cs) (suc gone)
ahead-again d (After n ∷ rest) cs gone =
    elim (nat_le n d) as (λ b. nat_le n d ≡ b → on_from (suc d) (cond b (ahead d rest cs (suc gone)) (record { acts = After n ∷ rest; contexts = cs; gone = gone }))
    ≡ cond (nat_le n (suc d)) (ahead (suc d) rest cs (suc gone)) (record { acts = After n ∷ rest; contexts = cs; gone = gone })) [
      | true ↦ λ e.
          let le : n ≤ d = leb-true n d e in
          let more : nat_le n (suc d) ≡ true = le-leb n (suc d) (omega arith) in
          rw more (ahead-again d rest cs (suc gone))
      | false ↦ λ e. refl
    ] refl

-- what is the same ahead stays so when one more command has returned
pub ahead-more : (d : ℕ) (xs ys : List TaskAct) (cs es : List Ctx) (m n : ℕ) → ahead d xs cs m ≡ ahead d ys es n → ahead (suc d) xs cs m ≡ ahead (suc d) ys es n
ahead-more d xs ys cs es m n e = sym (ahead-again d xs cs m) ∙ ap (λ (a : Ahead). on_from (suc d) a) e ∙ ahead-again d ys es n

-- of acts that give no items, and whose waits are met, nothing is left ahead
pub nothing-ahead : (returned : ℕ) (acts : List TaskAct) (cs : List Ctx) (gone : ℕ) → GiveNoItems returned acts → (ahead returned acts cs gone).acts ≡ []
nothing-ahead returned [] cs gone h = refl
nothing-ahead returned (Call f ∷ rest) cs gone h = absurd h
nothing-ahead returned (RetAct ∷ rest) cs gone h = absurd h
nothing-ahead returned (Raise c ∷ rest) cs gone h = nothing-ahead returned rest (c ∷ cs) (suc gone) h
nothing-ahead returned (Lower ∷ rest) cs gone h = nothing-ahead returned rest (below_top cs) (suc gone) h
nothing-ahead returned (After n ∷ rest) cs gone h = rw (le-leb n returned h.0) (nothing-ahead returned rest cs (suc gone) h.1)

-- and of no others
pub ahead-nothing : (returned : ℕ) (acts : List TaskAct) (cs : List Ctx) (gone : ℕ) → (ahead returned acts cs gone).acts ≡ [] → GiveNoItems returned acts
ahead-nothing returned [] cs gone e = tt
ahead-nothing returned (Call f ∷ rest) cs gone e = absurd cc
ahead-nothing returned (RetAct ∷ rest) cs gone e = absurd cc
ahead-nothing returned (Raise c ∷ rest) cs gone e = ahead-nothing returned rest (c ∷ cs) (suc gone) e
ahead-nothing returned (Lower ∷ rest) cs gone e = ahead-nothing returned rest (below_top cs) (suc gone) e
ahead-nothing returned (After n ∷ rest) cs gone e = by (nat_le n returned) refl e (λ x. ahead-nothing returned rest cs (suc gone) x)
  where
    by : (b : Bool) → nat_le n returned ≡ b → (cond b (ahead returned rest cs (suc gone)) (record { acts = After n ∷ rest; contexts = cs; gone = gone })).acts ≡ []
        → ((ahead returned rest cs (suc gone)).acts ≡ [] → GiveNoItems returned rest) → (n ≤ returned) × GiveNoItems returned rest
    by true q x more = (leb-true n returned q, more x)
    by false q x more = absurd cc
