-- What the item at a place prints for a user, by what is kept of the user's walk.
use Rattle.std.proofs.Common.{cond, ◌≡◌, ℕ, suc, ◌-◌, ◌≤◌, Bool, true, false, ◌==◌, List, [], ◌∷◌, drop, length, reverse, get_or, Option, Some, None, refl, sym, ap, ◌∙◌, subst, arith}
use Rattle.std.specs.Prelude.{IfSome}
use Rattle.std.proofs.lemmas.List.{reverse-reverse}
use Rattle.ft_base.specs.declared.number.CallNo.{CallNo}
use Rattle.ft_base.specs.declared.number.FuncNo.{FuncNo}
use Rattle.ft_base.specs.declared.number.TaskNo.{TaskNo}
use Rattle.ft_base.specs.declared.number.UserNo.{UserNo}
use Rattle.ft_base.specs.declared.item.Item.{Item}
use Rattle.ft_base.specs.declared.item.Item.TheVariants.{Back, Exit}
use Rattle.ft_base.specs.Job.{Job}
use Rattle.trace_views.specs.declared.graph.GraphCall.{GraphCall}
use Rattle.trace_views.specs.declared.graph_line.Shown.{Shown}
use Rattle.trace_views.specs.declared.graph.Walk.{Walk}
use Rattle.ft_hist.specs.Telling.{past_at}
use Rattle.trace_views.specs.Places.{part_at}
use Rattle.trace_views.specs.Words.{function_word}
use Rattle.trace_views.specs.Leaves.{leaf_exits}
use Rattle.trace_views.specs.GraphText.{latest, leaf_exit, is_here, level, called_word, ends_leaf, entry_line, exit_line, graph_part}
use Rattle.trace_views.specs.GraphWalks.{IsTop}
use Rattle.trace_views.specs.GraphLines.{entry_text, exit_text, first_leaf, is_at, time_to, top_at}
use Rattle.trace_views.proofs.ItemTexts.{part-is}
use Rattle.trace_views.proofs.WalkLaws.{Walking, goes-here, place-is, walk-here, top-is, level-shown}

-- an exit that makes a leaf isn't before the items among which it is
sooner : (o : Option ℕ) (p : ℕ) → IfSome o (λ exit. suc p ≤ exit) → IfSome o (λ exit. p ≤ exit)
sooner None p h = tt
sooner (Some exit) p h = omega (arith, h)

leaf-later : (u t entry p : ℕ) (items : List Item) → IfSome (leaf_exit u t entry p items) (λ exit. p ≤ exit)
leaf-later u t entry p [] = tt
leaf-later u t entry p (Back call v ∷ rest) =
    let more = sooner (leaf_exit u t entry (suc p) rest) p (leaf-later u t entry (suc p) rest) in
    elim (is_here u t v.0 call) as (λ b. IfSome (cond b None (leaf_exit u t entry (suc p) rest)) (λ exit. p ≤ exit)) [ true ↦ tt | false ↦ more ]
leaf-later u t entry p (Exit call v e ∷ rest) =
    let more = sooner (leaf_exit u t entry (suc p) rest) p (leaf-later u t entry (suc p) rest) in
    let own : IfSome (cond (e == entry) (Some p) None) (λ exit. p ≤ exit) = elim (e == entry) as (λ b. IfSome (cond b (Some p) None) (λ exit. p ≤ exit)) [ true ↦ omega arith | false ↦ tt ] in
    elim (is_here u t v.0 call) as (λ b. IfSome (cond b (cond (e == entry) (Some p) None) (leaf_exit u t entry (suc p) rest)) (λ exit. p ≤ exit)) [ true ↦ own | false ↦ more ]
leaf-later u t entry p (_ ∷ rest) = sooner (leaf_exit u t entry (suc p) rest) p (leaf-later u t entry (suc p) rest)

-- a line by the call that it is of
entry-is : (job : Job) (u : ℕ) (call : CallNo) (past : List Item) (exit : Option ℕ)
    → entry_text job call.task.0 (level u call past) (called_word job call past) (time_to (length past) exit) ≡ entry_line job u call past exit
entry-is job u call past None = refl
entry-is job u call past (Some exit) = refl

-- whether an exit is a leaf's
ends-is : (u : ℕ) (call : CallNo) (entry : ℕ) (past : List Item) → is_at entry (latest u call.task.0 past) ≡ ends_leaf u call entry past
ends-is u call entry past = by (latest u call.task.0 past) refl
  where
    by : (o : Option ℕ) → latest u call.task.0 past ≡ o → is_at entry o ≡ ends_leaf u call entry past
    by None e = rw e refl
    by (Some place) e = rw e refl

-- ## the next leaf is that of an entry callback

module _ {of : Job} {u place : ℕ} {items : List Item} {w : Walk} (call : CallNo) (v : UserNo) (k : Walking of u place items w (Back call v)) (own : (v.0 == u) ≡ true) where
  leaf-is : first_leaf w.leaves.items ≡ leaf_exit u call.task.0 (length (past_at place items)) (suc (length (past_at place items))) (drop (suc place) items)
  leaf-is =
      let x : Option ℕ = leaf_exit u call.task.0 (length (past_at place items)) (suc (length (past_at place items))) (drop (suc place) items) in
      let xs : List (Option ℕ) = leaf_exits u (suc (length (past_at place items))) (drop (suc place) items) in
      let h = walk-here k in
      let shape : w.leaves.items ≡ reverse (x ∷ xs) = rw own at h.leaves in
      ap first_leaf shape ∙ ap (λ ys. get_or ys 0 None) (reverse-reverse (x ∷ xs))

  pub leaf-after : IfSome (first_leaf w.leaves.items) (λ exit. place ≤ exit)
  leaf-after =
      let x : Option ℕ = leaf_exit u call.task.0 (length (past_at place items)) (suc (length (past_at place items))) (drop (suc place) items) in
      let later : IfSome x (λ exit. length (past_at place items) ≤ exit) = sooner x (length (past_at place items)) (leaf-later u call.task.0 (length (past_at place items)) (suc (length (past_at place items))) (drop (suc place) items)) in
      subst (λ o. IfSome o (λ exit. place ≤ exit)) (sym leaf-is) (subst (λ n. IfSome x (λ exit. n ≤ exit)) (place-is k) later)

-- ## lines

module _ {of : Job} {u place : ℕ} {items : List Item} {w : Walk} (job : Job) (call : CallNo) (shown : Shown) (task : shown.task ≡ call.task)
    (func : shown.func ≡ (top_at w.open call.task.0).func) (lvl : shown.level ≡ get_or w.levels.items call.task.0 0 - (top_at w.open call.task.0).backs) where
  module _ {item : Item} (k : Walking of u place items w item) (top : IsTop (length of.tasks) call (past_at place items)) where
    task-is : shown.task.0 ≡ call.task.0
    task-is = ap (λ (t : TaskNo). t.0) task

    func-is : function_word job shown.func.0 ≡ called_word job call (past_at place items)
    func-is = ap (λ (f : FuncNo). function_word job f.0) (func ∙ ap (λ (g : GraphCall). g.func) (top-is k call top))

    level-is : shown.level ≡ level u call (past_at place items)
    level-is = lvl ∙ level-shown k call top

  -- that of an entry callback
  pub back-line : (v : UserNo) (k : Walking of u place items w (Back call v)) → (v.0 == u) ≡ true → (time : Option ℕ) → time ≡ time_to place (first_leaf w.leaves.items)
      → entry_text job shown.task.0 shown.level (function_word job shown.func.0) time ≡ part_at (graph_part job u) place items
  back-line v k own time is =
      let past : List Item = past_at place items in
      let x : Option ℕ = leaf_exit u call.task.0 (length past) (suc (length past)) (drop (suc place) items) in
      let top = goes-here k in
      let timed : time ≡ time_to (length past) x = is ∙ ap (λ n. time_to n (first_leaf w.leaves.items)) (sym (place-is k)) ∙ ap (λ o. time_to (length past) o) (leaf-is call v k own) in
      let part : part_at (graph_part job u) place items ≡ entry_line job u call past x = part-is items place (Back call v) k.here (graph_part job u) ∙ rw own refl in
      ap (λ t. entry_text job t shown.level (function_word job shown.func.0) time) (task-is k top)
      ∙ ap (λ l. entry_text job call.task.0 l (function_word job shown.func.0) time) (level-is k top)
      ∙ ap (λ f. entry_text job call.task.0 (level u call past) f time) (func-is k top)
      ∙ ap (λ t. entry_text job call.task.0 (level u call past) (called_word job call past) t) timed
      ∙ entry-is job u call past x ∙ sym part

  -- that of an exit callback
  pub exit-line : (v : UserNo) (entry : ℕ) (k : Walking of u place items w (Exit call v entry)) → (v.0 == u) ≡ true → is_at entry (get_or w.latest.items call.task.0 None) ≡ false
      → exit_text job shown.task.0 shown.level (function_word job shown.func.0) (place - entry) ≡ part_at (graph_part job u) place items
  exit-line v entry k own other =
      let past : List Item = past_at place items in
      let top = (goes-here k).0 in
      let h = walk-here k in
      let ends : ends_leaf u call entry past ≡ false = sym (ends-is u call entry past) ∙ ap (λ o. is_at entry o) (sym (h.latest'.each call.task.0 top.0)) ∙ other in
      let part : part_at (graph_part job u) place items ≡ exit_line job u call entry past = part-is items place (Exit call v entry) k.here (graph_part job u) ∙ by (v.0 == u) (ends_leaf u call entry past) [] (exit_line job u call entry past) [] own ends in
      ap (λ t. exit_text job t shown.level (function_word job shown.func.0) (place - entry)) (task-is k top)
      ∙ ap (λ l. exit_text job call.task.0 l (function_word job shown.func.0) (place - entry)) (level-is k top)
      ∙ ap (λ f. exit_text job call.task.0 (level u call past) f (place - entry)) (func-is k top)
      ∙ ap (λ n. exit_text job call.task.0 (level u call past) (called_word job call past) (n - entry)) (sym (place-is k))
      ∙ sym part
    where
      by : (a b : Bool) (x y z : List ℕ) → a ≡ true → b ≡ false → cond a (cond b x y) z ≡ y
      by true false x y z e f = refl
      by true true x y z e f = absurd (cc)
      by false b x y z e f = absurd (cc)
