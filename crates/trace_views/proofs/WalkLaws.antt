-- What is known at a place of a user's walk, and what is owed to the next place.
use Rattle.std.proofs.Common.{cond, ◌≡◌, ℕ, suc, ◌+◌, ◌-◌, ◌<◌, ◌≤◌, Bool, true, false, ◌==◌, List, [], ◌∷◌, map, drop, length, reverse, set, get_or, Option, Some, None, refl, sym, ap, ◌∙◌, subst, add-one, arith, inl, inr}
use Rattle.std.specs.Prelude.{slice_get}
use Rattle.std.proofs.lemmas.Bool.Decides.{eqb_tells}
use Rattle.std.proofs.lemmas.List.{reverse-reverse}
use Rattle.ft_base.specs.declared.number.CallNo.{CallNo}
use Rattle.ft_base.specs.declared.number.FuncNo.{FuncNo}
use Rattle.ft_base.specs.declared.number.UserNo.{UserNo}
use Rattle.ft_base.specs.declared.context.Ctx.{Ctx}
use Rattle.ft_base.specs.declared.item.Item.{Item}
use Rattle.ft_base.specs.declared.item.Item.TheVariants.{Enter, Back, Exit, Ret}
use Rattle.ft_base.specs.Job.{Job}
use Rattle.ft_hist.specs.Rules.{IsLegalPast}
use Rattle.trace_views.specs.declared.graph.GraphCall.{GraphCall}
use Rattle.trace_views.specs.declared.graph.Walk.{Walk}
use Rattle.ft_hist.specs.Telling.{past_at}
use Rattle.trace_views.specs.TaskStacks.{stack_at, with_top}
use Rattle.trace_views.specs.Leaves.{leaf_exits}
use Rattle.trace_views.specs.GraphText.{latest, leaf_exit, level}
use Rattle.trace_views.specs.GraphWalks.{backs_in, backs_open, Goes, IsTop}
use Rattle.trace_views.specs.GraphLines.{IsWalk, IsWalkAt, graph_call, graph_calls, no_call, top_at, with_back}
use Rattle.ft_hist.proofs.Splitting.{length-past}
use Rattle.trace_views.proofs.ItemTexts.{drop_at_get, legal-at, past-next}
use Rattle.trace_views.proofs.GraphLegal.{goes}
use Rattle.trace_views.proofs.GraphLevels.{backs_open-short}
use Rattle.trace_views.proofs.GraphItems.{top-level, backs-enter, backs-ret, backs-back}
use Rattle.trace_views.proofs.TaskLists.{by_task-set, by_task-same}
use Rattle.trace_views.proofs.WalkTables.{calls-enter, calls-ret, calls-back, calls-back-other}

-- a branch that is taken for one task alone
own-branch : {A B : Type 0} (i t : ℕ) (g : ℕ → A) (f : A → B) (z : B) → cond (i == t) (f (g t)) z ≡ cond (i == t) (f (g i)) z
own-branch i t g f z = elim (eqb_tells i t) [ inl e ↦ (let at : i ≡ t = e.1 in rw at refl) | inr e ↦ rw e.0 refl ]

-- the last of a list, taken away
popped : {A : Type 0} (x : A) (xs ys zs : List A) → ys ≡ reverse (x ∷ xs) → reverse zs ≡ drop 1 (reverse ys) → zs ≡ reverse xs
popped x xs ys zs e f = sym (reverse-reverse zs) ∙ ap reverse (f ∙ ap (λ l. drop 1 (reverse l)) e ∙ ap (λ l. drop 1 l) (reverse-reverse (x ∷ xs)))

-- the item at a place, and what is kept of those before it
pub record Walking (job : Job) (u place : ℕ) (items : List Item) (w : Walk) (item : Item) : Type 0 where
  pub at : IsWalkAt job u place items w
  pub here : slice_get items place ≡ Some item

-- with the item's own words
pub walking : {job : Job} {u place : ℕ} {items : List Item} {w : Walk} {item : Item} (x : Item) → IsWalkAt job u place items w → slice_get items place ≡ Some item → item ≡ x
    → Walking job u place items w x
walking x at here e = record { at = at; here = here ∙ ap (λ (y : Item). Some y) e }

module _ {job : Job} {u place : ℕ} {items : List Item} {w : Walk} {item : Item} (k : Walking job u place items w item) where
  pub legal-here : IsLegalPast job (item ∷ past_at place items)
  legal-here = legal-at items place item k.here job k.at.legal

  pub goes-here : Goes (length job.tasks) (past_at place items) item
  goes-here = goes job item (past_at place items) legal-here

  pub place-is : length (past_at place items) ≡ place
  place-is = length-past items place item k.here

  pub walk-here : IsWalk u (length job.tasks) (past_at place items) (item ∷ drop (suc place) items) w
  walk-here = subst (λ rest. IsWalk u (length job.tasks) (past_at place items) rest w) (drop_at_get items place item k.here) k.at.kept

  to-next : (w' : Walk) → IsWalk u (length job.tasks) (item ∷ past_at place items) (drop (suc place) items) w' → IsWalkAt job u (place + 1) items w'
  to-next w' h = record {
    legal = k.at.legal;
    kept = rw (add-one place) (subst (λ past. IsWalk u (length job.tasks) past (drop (suc place) items) w') (sym (past-next items place item k.here)) h);
  }

  -- ## the latest open call

  module _ (call : CallNo) (top : IsTop (length job.tasks) call (past_at place items)) where
    pub in-open : call.task.0 < length w.open
    in-open = rw k.at.kept.open'.tasks' top.0

    pub in-levels : call.task.0 < length w.levels.items
    in-levels = rw k.at.kept.levels.tasks' top.0

    pub in-latest : call.task.0 < length w.latest.items
    in-latest = rw k.at.kept.latest'.tasks' top.0

    stack-is : stack_at w.open call.task.0 ≡ graph_call u (past_at place items) call ∷ map (graph_call u (past_at place items)) top.1
    stack-is = k.at.kept.open'.each call.task.0 top.0 ∙ ap (λ cs. map (graph_call u (past_at place items)) cs) top.2

    pub is-open : 0 < length (stack_at w.open call.task.0)
    is-open = rw stack-is (omega arith)

    pub top-is : top_at w.open call.task.0 ≡ graph_call u (past_at place items) call
    top-is = ap (λ s. get_or s 0 no_call) stack-is

    level-at : get_or w.levels.items call.task.0 0 ≡ backs_open u call.task.0 (past_at place items)
    level-at = k.at.kept.levels.each call.task.0 top.0

    backs-is : (top_at w.open call.task.0).backs ≡ backs_in u call (past_at place items)
    backs-is = ap (λ (g : GraphCall). g.backs) top-is

    pub backs-within : (top_at w.open call.task.0).backs ≤ get_or w.levels.items call.task.0 0
    backs-within =
        let a = level-at in let b = backs-is in let d = top-level job call (past_at place items) top u in
        omega (arith, a, b, d)

    pub level-room : place + 1 < 4294967296 → get_or w.levels.items call.task.0 0 + 1 < 4294967296
    level-room small =
        let a = level-at in let b = backs_open-short u call.task.0 (past_at place items) in let d = place-is in
        omega (arith, a, b, d, small)

    pub backs-room : place + 1 < 4294967296 → (top_at w.open call.task.0).backs + 1 < 4294967296
    backs-room small = let a = level-room small in let b = backs-within in omega (arith, a, b)

    pub level-shown : get_or w.levels.items call.task.0 0 - (top_at w.open call.task.0).backs ≡ level u call (past_at place items)
    level-shown =
        let a = level-at in let b = backs-is in let d = top-level job call (past_at place items) top u in
        omega (arith, a, b, d)

-- ## the next place

module _ {job : Job} {u place : ℕ} {items : List Item} {w : Walk} (w' : Walk) where
  pub after-enter : (call : CallNo) (ctx : Ctx) (f : FuncNo) (caller : Option CallNo) → Walking job u place items w (Enter call ctx f caller)
      → w'.open ≡ set w.open call.task.0 (record { func = f; backs = 0 } ∷ stack_at w.open call.task.0) → w'.levels ≡ w.levels → w'.latest ≡ w.latest → w'.leaves ≡ w.leaves
      → IsWalkAt job u (place + 1) items w'
  after-enter call ctx f caller k opened levels latest' leaves =
      let past : List Item = past_at place items in
      let n = goes-here k in
      let h = walk-here k in
      let new : GraphCall = record { func = f; backs = 0 } in
      to-next k w' (record {
        open' = by_task-set (length job.tasks) [] (λ t. graph_calls u t past) (λ t. graph_calls u t (Enter call ctx f caller ∷ past)) w.open w'.open h.open' call.task.0 (new ∷ stack_at w.open call.task.0) n.0 opened
            (λ t. calls-enter job u t call ctx f caller past (legal-here k) ∙ own-branch call.task.0 t (λ v. graph_calls u v past) (λ cs. new ∷ cs) (graph_calls u t past)
            ∙ ap (λ cs. cond (call.task.0 == t) (new ∷ cs) (graph_calls u t past)) (sym (h.open'.each call.task.0 n.0)));
        levels = by_task-same (length job.tasks) 0 (λ t. backs_open u t past) (λ t. backs_open u t (Enter call ctx f caller ∷ past)) w.levels.items w'.levels.items h.levels (ap (λ v. v.items) levels) (λ t. backs-enter job u t call ctx f caller past (legal-here k));
        latest' = by_task-same (length job.tasks) None (λ t. latest u t past) (λ t. latest u t (Enter call ctx f caller ∷ past)) w.latest.items w'.latest.items h.latest' (ap (λ v. v.items) latest') (λ t. refl);
        leaves = ap (λ v. v.items) leaves ∙ h.leaves;
      })

  pub after-ret : (call : CallNo) (to : Option CallNo) → Walking job u place items w (Ret call to)
      → w'.open ≡ set w.open call.task.0 (drop 1 (stack_at w.open call.task.0)) → w'.levels.items ≡ set w.levels.items call.task.0 (get_or w.levels.items call.task.0 0 - (top_at w.open call.task.0).backs)
      → w'.latest ≡ w.latest → w'.leaves ≡ w.leaves → IsWalkAt job u (place + 1) items w'
  after-ret call to k opened levels latest' leaves =
      let past : List Item = past_at place items in
      let top = goes-here k in
      let h = walk-here k in
      to-next k w' (record {
        open' = by_task-set (length job.tasks) [] (λ t. graph_calls u t past) (λ t. graph_calls u t (Ret call to ∷ past)) w.open w'.open h.open' call.task.0 (drop 1 (stack_at w.open call.task.0)) top.0 opened
            (λ t. calls-ret job u t call to past (legal-here k) ∙ own-branch call.task.0 t (λ v. graph_calls u v past) (λ cs. drop 1 cs) (graph_calls u t past)
            ∙ ap (λ cs. cond (call.task.0 == t) (drop 1 cs) (graph_calls u t past)) (sym (h.open'.each call.task.0 top.0)));
        levels = by_task-set (length job.tasks) 0 (λ t. backs_open u t past) (λ t. backs_open u t (Ret call to ∷ past)) w.levels.items w'.levels.items h.levels call.task.0 _ top.0 levels
            (λ t. backs-ret job u t call to past top ∙ own-branch call.task.0 t (λ v. backs_open u v past) (λ m. m - backs_in u call past) (backs_open u t past)
            ∙ ap (λ m. cond (call.task.0 == t) m (backs_open u t past)) (rw (h.levels.each call.task.0 top.0, top-is k call top) refl));
        latest' = by_task-same (length job.tasks) None (λ t. latest u t past) (λ t. latest u t (Ret call to ∷ past)) w.latest.items w'.latest.items h.latest' (ap (λ v. v.items) latest') (λ t. refl);
        leaves = ap (λ v. v.items) leaves ∙ h.leaves;
      })

  pub after-back : (call : CallNo) (v : UserNo) → Walking job u place items w (Back call v) → (v.0 == u) ≡ true
      → w'.open ≡ set w.open call.task.0 (with_top (with_back (top_at w.open call.task.0)) (stack_at w.open call.task.0))
      → w'.levels.items ≡ set w.levels.items call.task.0 (get_or w.levels.items call.task.0 0 + 1) → w'.latest.items ≡ set w.latest.items call.task.0 (Some place)
      → reverse w'.leaves.items ≡ drop 1 (reverse w.leaves.items) → IsWalkAt job u (place + 1) items w'
  after-back call v k own opened levels latest' leaves =
      let past : List Item = past_at place items in
      let top = goes-here k in
      let h = walk-here k in
      to-next k w' (record {
        open' = by_task-set (length job.tasks) [] (λ t. graph_calls u t past) (λ t. graph_calls u t (Back call v ∷ past)) w.open w'.open h.open' call.task.0 _ top.0 opened
            (λ t. calls-back job u t call v past (legal-here k) own
            ∙ ap (λ cs. cond (call.task.0 == t) cs (graph_calls u t past))
            (ap (λ g. with_top (with_back g) (graph_calls u call.task.0 past)) (sym (top-is k call top)) ∙ ap (λ cs. with_top (with_back (top_at w.open call.task.0)) cs) (sym (h.open'.each call.task.0 top.0))));
        levels = by_task-set (length job.tasks) 0 (λ t. backs_open u t past) (λ t. backs_open u t (Back call v ∷ past)) w.levels.items w'.levels.items h.levels call.task.0 _ top.0 levels
            (λ t. backs-back u call v past own job t top ∙ own-branch call.task.0 t (λ x. backs_open u x past) (λ m. m + 1) (backs_open u t past)
            ∙ ap (λ m. cond (call.task.0 == t) (m + 1) (backs_open u t past)) (sym (h.levels.each call.task.0 top.0)));
        latest' = by_task-set (length job.tasks) None (λ t. latest u t past) (λ t. latest u t (Back call v ∷ past)) w.latest.items w'.latest.items h.latest' call.task.0 (Some place) top.0 latest' (λ t. rw (own, place-is k) refl);
        leaves = popped (leaf_exit u call.task.0 (length past) (suc (length past)) (drop (suc place) items)) (leaf_exits u (suc (length past)) (drop (suc place) items)) w.leaves.items w'.leaves.items (rw own at h.leaves) leaves;
      })

  pub after-exit : (call : CallNo) (v : UserNo) (entry : ℕ) → Walking job u place items w (Exit call v entry) → (v.0 == u) ≡ true
      → w'.open ≡ w.open → w'.levels ≡ w.levels → w'.latest.items ≡ set w.latest.items call.task.0 (Some place) → w'.leaves ≡ w.leaves → IsWalkAt job u (place + 1) items w'
  after-exit call v entry k own opened levels latest' leaves =
      let past : List Item = past_at place items in
      let top = (goes-here k).0 in
      let h = walk-here k in
      to-next k w' (record {
        open' = by_task-same (length job.tasks) [] (λ t. graph_calls u t past) (λ t. graph_calls u t (Exit call v entry ∷ past)) w.open w'.open h.open' opened (λ t. refl);
        levels = by_task-same (length job.tasks) 0 (λ t. backs_open u t past) (λ t. backs_open u t (Exit call v entry ∷ past)) w.levels.items w'.levels.items h.levels (ap (λ v. v.items) levels) (λ t. refl);
        latest' = by_task-set (length job.tasks) None (λ t. latest u t past) (λ t. latest u t (Exit call v entry ∷ past)) w.latest.items w'.latest.items h.latest' call.task.0 (Some place) top.0 latest' (λ t. rw (own, place-is k) refl);
        leaves = ap (λ v. v.items) leaves ∙ h.leaves;
      })

-- ## items that change nothing

module _ {job : Job} {u place : ℕ} {items : List Item} {w : Walk} where
  pub after-back-other : (call : CallNo) (v : UserNo) → Walking job u place items w (Back call v) → (v.0 == u) ≡ false → IsWalkAt job u (place + 1) items w
  after-back-other call v k other =
      let past : List Item = past_at place items in
      let h = walk-here k in
      to-next k w (record {
        open' = by_task-same (length job.tasks) [] (λ t. graph_calls u t past) (λ t. graph_calls u t (Back call v ∷ past)) w.open w.open h.open' refl (λ t. calls-back-other u t call v past other);
        levels = by_task-same (length job.tasks) 0 (λ t. backs_open u t past) (λ t. backs_open u t (Back call v ∷ past)) w.levels.items w.levels.items h.levels refl (λ t. rw other refl);
        latest' = by_task-same (length job.tasks) None (λ t. latest u t past) (λ t. latest u t (Back call v ∷ past)) w.latest.items w.latest.items h.latest' refl (λ t. rw other refl);
        leaves = rw other at h.leaves;
      })

  pub after-exit-other : (call : CallNo) (v : UserNo) (entry : ℕ) → Walking job u place items w (Exit call v entry) → (v.0 == u) ≡ false → IsWalkAt job u (place + 1) items w
  after-exit-other call v entry k other =
      let past : List Item = past_at place items in
      let h = walk-here k in
      to-next k w (record {
        open' = by_task-same (length job.tasks) [] (λ t. graph_calls u t past) (λ t. graph_calls u t (Exit call v entry ∷ past)) w.open w.open h.open' refl (λ t. refl);
        levels = by_task-same (length job.tasks) 0 (λ t. backs_open u t past) (λ t. backs_open u t (Exit call v entry ∷ past)) w.levels.items w.levels.items h.levels refl (λ t. refl);
        latest' = by_task-same (length job.tasks) None (λ t. latest u t past) (λ t. latest u t (Exit call v entry ∷ past)) w.latest.items w.latest.items h.latest' refl (λ t. rw other refl);
        leaves = h.leaves;
      })

-- an item that moves what is kept
abbrev pub is_moving : Item → Bool
is_moving (Enter call ctx f caller) = true
is_moving (Back call v) = true
is_moving (Exit call v entry) = true
is_moving (Ret call to) = true
is_moving _ = false

pub not-moving : (item : Item) → ((call : CallNo) (ctx : Ctx) (f : FuncNo) (caller : Option CallNo) → item ≡ Enter call ctx f caller → ⊥) → ((call : CallNo) (to : Option CallNo) → item ≡ Ret call to → ⊥)
    → ((call : CallNo) (v : UserNo) → item ≡ Back call v → ⊥) → ((call : CallNo) (v : UserNo) (entry : ℕ) → item ≡ Exit call v entry → ⊥) → is_moving item ≡ false
not-moving (Enter call ctx f caller) a b c d = absurd (a call ctx f caller refl)
not-moving (Ret call to) a b c d = absurd (b call to refl)
not-moving (Back call v) a b c d = absurd (c call v refl)
not-moving (Exit call v entry) a b c d = absurd (d call v entry refl)
not-moving _ a b c d = refl

walk-rest : (u tasks : ℕ) (past rest : List Item) (w : Walk) (item : Item) → is_moving item ≡ false → IsWalk u tasks past (item ∷ rest) w → IsWalk u tasks (item ∷ past) rest w
walk-rest u tasks past rest w (Enter call ctx f caller) e h = absurd (cc)
walk-rest u tasks past rest w (Ret call to) e h = absurd (cc)
walk-rest u tasks past rest w (Back call v) e h = absurd (cc)
walk-rest u tasks past rest w (Exit call v entry) e h = absurd (cc)
walk-rest u tasks past rest w _ e h = record { open' = h.open'; levels = h.levels; latest' = h.latest'; leaves = h.leaves }

pub after-rest : {job : Job} {u place : ℕ} {items : List Item} {w : Walk} (item : Item) → Walking job u place items w item → is_moving item ≡ false → IsWalkAt job u (place + 1) items w
after-rest {job = job} {u = u} {place = place} {items = items} {w = w} item k e = to-next k w (walk-rest u (length job.tasks) (past_at place items) (drop (suc place) items) w item e (walk-here k))
