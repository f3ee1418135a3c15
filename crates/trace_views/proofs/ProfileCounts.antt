-- What the view profile keeps of all users, over one more item.
use Rattle.std.proofs.Common.{◌≡◌, ◌≢◌, ℕ, ◌+◌, ◌-◌, ◌<◌, List, ◌∷◌, length, set, Some, None, refl, sym, ap, ◌∙◌, subst, arith}
use Rattle.std.specs.Prelude.{slice_get}
use Rattle.ft_base.specs.declared.number.CallNo.{CallNo}
use Rattle.ft_base.specs.declared.number.UserNo.{UserNo}
use Rattle.ft_base.specs.declared.item.Item.{Item}
use Rattle.ft_base.specs.declared.item.Item.TheVariants.{Back, Exit}
use Rattle.ft_base.specs.Desk.{spec_at}
use Rattle.ft_base.specs.Job.{Job}
use Rattle.ft_hist.specs.Counts.{is_back_of, is_missed_by}
use Rattle.ft_hist.specs.Past.{entry_of}
use Rattle.ft_hist.specs.Rules.{IsLegalPast}
use Rattle.ft_hist.proofs.RunLaws.{some_inj}
use Rattle.func_profile.specs.Tallies.{row_at, with_hit, with_time}
use Rattle.func_profile.proofs.TallyLemmas.{hit-room, time-room}
use Rattle.trace_views.specs.declared.open_calls.OpenCall.{OpenCall}
use Rattle.trace_views.specs.declared.profile.ProfileView.{ProfileView}
use Rattle.trace_views.specs.declared.profile.UserTally.{UserTally}
use Rattle.trace_views.specs.OpenCalls.{open_call_of, stacks_in}
use Rattle.trace_views.specs.ProfileViews.{AreUserTallies, HasProfile, IsMissOf, IsUserTally, rows_for}
use Rattle.trace_views.specs.TaskStacks.{stack_at}
use Rattle.trace_views.proofs.FollowLaws.{back-open, exit-open}
use Rattle.trace_views.proofs.GraphLegal.{exit-later}
use Rattle.trace_views.proofs.ProfileTakes.{counts-bound, none-changed, one-changed, other-back, other-exit, other-miss, own-back, own-exit, own-miss}

module _ (job : Job) (past : List Item) (view : ProfileView) (told : HasProfile job past view) (item : Item) (legal : IsLegalPast job (item ∷ past)) where
  legal-as : (x : Item) → item ≡ x → IsLegalPast job (x ∷ past)
  legal-as x is = subst (λ (y : Item). IsLegalPast job (y ∷ past)) is legal

  -- ## an entry callback

  module _ (call : CallNo) (v : UserNo) (is : item ≡ Back call v) where
    pub back-top : slice_get (stack_at (stacks_in view.open) call.task.0) 0 ≡ Some (open_call_of past call)
    back-top = back-open job past view.open told.calls call v (legal-as (Back call v) is)

    func-is : (top : OpenCall) → slice_get (stack_at (stacks_in view.open) call.task.0) 0 ≡ Some top → (entry_of call past).func ≡ top.func.0
    func-is top e = ap (λ (o : OpenCall). o.func.0) (some_inj (open_call_of past call) top (sym back-top ∙ e))

    others : (u : ℕ) (s : UserTally) → v.0 ≢ u → IsUserTally job past u s → IsUserTally job (item ∷ past) u s
    others u s ne h = subst (λ (x : Item). IsUserTally job (x ∷ past) u s) (sym is) (other-back job past u s h call v ne)

    pub back-counted : (top : OpenCall) → slice_get (stack_at (stacks_in view.open) call.task.0) 0 ≡ Some top → (t t' : UserTally) → slice_get view.users.items v.0 ≡ Some t
        → t'.table.rows.items ≡ set t.table.rows.items top.func.0 (with_hit (row_at t.table.rows.items top.func.0)) → t'.hits ≡ t.hits + 1 → t'.missed ≡ t.missed
        → AreUserTallies job (item ∷ past) (set view.users.items v.0 t')
    back-counted top top_is t t' here rows hits missed =
        one-changed job past (item ∷ past) view.users.items told.users v.0 t t' here
        (subst (λ (x : Item). IsUserTally job (x ∷ past) v.0 t') (sym is) (own-back job past v.0 t (told.users.each v.0 t here) t' call v top.func.0 refl (func-is top top_is) rows hits missed)) others

    pub back-uncounted : slice_get view.users.items v.0 ≡ None → AreUserTallies job (item ∷ past) view.users.items
    back-uncounted none = none-changed job past (item ∷ past) view.users.items told.users v.0 none others

  -- ## an exit callback

  module _ (call : CallNo) (v : UserNo) (entry : ℕ) (is : item ≡ Exit call v entry) where
    pub exit-top : slice_get (stack_at (stacks_in view.open) call.task.0) 0 ≡ Some (open_call_of past call)
    exit-top = exit-open job past view.open told.calls call v entry (legal-as (Exit call v entry) is)

    pub exit-after : entry < view.place
    exit-after = let lt = exit-later job call v entry past (legal-as (Exit call v entry) is) in let p = told.place' in omega (arith, lt, p)

    exit-func : (top : OpenCall) → slice_get (stack_at (stacks_in view.open) call.task.0) 0 ≡ Some top → (entry_of call past).func ≡ top.func.0
    exit-func top e = ap (λ (o : OpenCall). o.func.0) (some_inj (open_call_of past call) top (sym exit-top ∙ e))

    exit-others : (u : ℕ) (s : UserTally) → v.0 ≢ u → IsUserTally job past u s → IsUserTally job (item ∷ past) u s
    exit-others u s ne h = subst (λ (x : Item). IsUserTally job (x ∷ past) u s) (sym is) (other-exit job past u s h call v entry ne)

    pub exit-counted : (top : OpenCall) → slice_get (stack_at (stacks_in view.open) call.task.0) 0 ≡ Some top → (t t' : UserTally) → slice_get view.users.items v.0 ≡ Some t
        → t'.table.rows.items ≡ set t.table.rows.items top.func.0 (with_time (view.place - entry) (row_at t.table.rows.items top.func.0)) → t'.hits ≡ t.hits → t'.missed ≡ t.missed
        → AreUserTallies job (item ∷ past) (set view.users.items v.0 t')
    exit-counted top top_is t t' here rows hits missed =
        one-changed job past (item ∷ past) view.users.items told.users v.0 t t' here
        (subst (λ (x : Item). IsUserTally job (x ∷ past) v.0 t') (sym is) (own-exit job past v.0 t (told.users.each v.0 t here) t' call v entry view.place top.func.0 (sym told.place') refl (exit-func top top_is) rows hits missed)) exit-others

    pub exit-uncounted : slice_get view.users.items v.0 ≡ None → AreUserTallies job (item ∷ past) view.users.items
    exit-uncounted none = none-changed job past (item ∷ past) view.users.items told.users v.0 none exit-others

-- a miss
module _ (job : Job) (item : Item) (past : List Item) (tallies : List UserTally) (are : AreUserTallies job past tallies) (u : ℕ) (of : IsMissOf u item) where
  pub miss-counted : (t t' : UserTally) → slice_get tallies u ≡ Some t → t'.table ≡ t.table → t'.hits ≡ t.hits → t'.missed ≡ t.missed + 1 → AreUserTallies job (item ∷ past) (set tallies u t')
  miss-counted t t' here table hits missed =
      one-changed job past (item ∷ past) tallies are u t t' here (own-miss job past u t (are.each u t here) t' item of table hits missed) (λ v s ne h. other-miss job past v s h u item ne of)

  pub miss-uncounted : slice_get tallies u ≡ None → AreUserTallies job (item ∷ past) tallies
  miss-uncounted none = none-changed job past (item ∷ past) tallies are u none (λ v s ne h. other-miss job past v s h u item ne of)

-- ## there is room

module _ (job : Job) (past : List Item) (u : ℕ) (t : UserTally) (is : IsUserTally job past u t) (small : length past + 1 < 4294967296) where
  pub row-room : (f : ℕ) → (row_at t.table.rows.items f).hits + 1 < 4294967296
  row-room f = hit-room u (rows_for job (spec_at job u)) past t.table is.table f small

  pub hits-room : t.hits + 1 < 4294967296
  hits-room = let le = counts-bound (λ item. is_back_of u item) past in let e = is.hits in omega (arith, le, e, small)

  pub missed-room : t.missed + 1 < 4294967296
  missed-room = let le = counts-bound (λ item. is_missed_by u item) past in let e = is.missed in omega (arith, le, e, small)

  pub time-has-room : (f x : ℕ) → x < 4294967296 → (row_at t.table.rows.items f).time + x < 18446744073709551616
  time-has-room f x lt = time-room u (rows_for job (spec_at job u)) past t.table is.table f x lt small
