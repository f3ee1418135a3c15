-- What the program knows at a place of a history, and what it owes to its next place.
use Rattle.std.proofs.Common.{◌≡◌, ℕ, ◌+◌, ◌-◌, ◌<◌, true, false, ◌==◌, List, ◌∷◌, length, set, slice_get, Some, IsSome, Option, cond, refl, sym, ap, ◌∙◌, subst, arith}
use Rattle.ft_base.specs.declared.number.CallNo.{CallNo}
use Rattle.ft_base.specs.declared.number.FuncNo.{FuncNo}
use Rattle.ft_base.specs.declared.number.UserNo.{UserNo}
use Rattle.ft_base.specs.declared.context.Ctx.{Ctx}
use Rattle.ft_base.specs.declared.item.Item.{Item}
use Rattle.ft_base.specs.declared.item.Item.TheVariants.{Enter, Back, Exit}
use Rattle.ft_base.specs.Same.{same_call}
use Rattle.ft_hist.specs.Past.{entry_of}
use Rattle.func_profile.specs.declared.tally.Tally.{Tally}
use Rattle.func_profile.specs.Rows.{IsEntered, HasRows}
use Rattle.ft_hist.specs.Telling.{past_at}
use Rattle.func_profile.specs.Tallies.{function_at, row_at, with_hit, with_time, IsTally}
use Rattle.ft_hist.proofs.Splitting.{past-more, length-past}
use Rattle.func_profile.proofs.Places.{back-at, exit-at}
use Rattle.func_profile.proofs.TallyLemmas.{function-some, function-is, hit-room, time-room, tally-enter, tally-back, tally-exit, tally-back-other, tally-exit-other, tally-rest, is_noted}

-- the item at a place, and what is kept of those before it
pub record Noting (u : ℕ) (items : List Item) (place : ℕ) (t : Tally) (item : Item) : Type 0 where
  pub rows : HasRows (length t.table.rows.items) items
  pub kept : IsTally u (length t.table.rows.items) (past_at place items) t
  pub here : slice_get items place ≡ Some item

-- what is kept at the next place
abbrev pub IsNext : ℕ → List Item → ℕ → Tally → Tally → Type 0
IsNext u items place t t' = IsTally u (length t.table.rows.items) (past_at (place + 1) items) t'

-- the function of a call has a row
abbrev pub HasRow : List Item → ℕ → Tally → CallNo → FuncNo → Type 0
HasRow items place t call f = (f.0 < length t.table.rows.items) × ((entry_of call (past_at place items)).func ≡ f.0)

module _ {u : ℕ} {items : List Item} {place : ℕ} {t : Tally} {item : Item} (at : Noting u items place t item) where
  here : (x : Item) → item ≡ x → slice_get items place ≡ Some x
  here x e = at.here ∙ ap (λ (y : Item). Some y) e

  was-back : (call : CallNo) (v : UserNo) → item ≡ Back call v → IsEntered (length t.table.rows.items) call (past_at place items)
  was-back call v e = back-at (length t.table.rows.items) items at.rows place call v (here (Back call v) e)

  was-exit : (call : CallNo) (v : UserNo) (entry : ℕ) → item ≡ Exit call v entry → IsEntered (length t.table.rows.items) call (past_at place items) × (entry < place)
  was-exit call v entry e = exit-at (length t.table.rows.items) items at.rows place call v entry (here (Exit call v entry) e)

  -- the function of a callback's call is kept, and has a row
  pub back-some : (call : CallNo) (v : UserNo) → item ≡ Back call v → IsSome (function_at t call)
  back-some call v e = function-some t call (past_at place items) (at.kept.functions call) (length t.table.rows.items) (was-back call v e)

  pub back-func : (call : CallNo) (v : UserNo) → item ≡ Back call v → (f : FuncNo) → function_at t call ≡ Some f → HasRow items place t call f
  back-func call v e f q = function-is t call (past_at place items) (at.kept.functions call) (length t.table.rows.items) (was-back call v e) f q

  pub exit-some : (call : CallNo) (v : UserNo) (entry : ℕ) → item ≡ Exit call v entry → IsSome (function_at t call)
  exit-some call v entry e = function-some t call (past_at place items) (at.kept.functions call) (length t.table.rows.items) (was-exit call v entry e).0

  pub exit-func : (call : CallNo) (v : UserNo) (entry : ℕ) → item ≡ Exit call v entry → (f : FuncNo) → function_at t call ≡ Some f → HasRow items place t call f
  exit-func call v entry e f q = function-is t call (past_at place items) (at.kept.functions call) (length t.table.rows.items) (was-exit call v entry e).0 f q

  -- an exit comes after its entry
  pub exit-after : (call : CallNo) (v : UserNo) (entry : ℕ) → item ≡ Exit call v entry → entry < place
  exit-after call v entry e = (was-exit call v entry e).1

  long : length (past_at place items) ≡ place
  long = length-past items place item at.here

  -- a row has room for one more hit, and for the time of one more exit
  pub hit-has-room : (f : ℕ) → place + 1 < 4294967296 → (row_at t.table.rows.items f).hits + 1 < 4294967296
  hit-has-room f small = hit-room u (length t.table.rows.items) (past_at place items) t.table at.kept.table f (omega (arith, long, small))

  pub time-has-room : (f x : ℕ) → place + 1 < 4294967296 → (row_at t.table.rows.items f).time + (place - x) < 18446744073709551616
  time-has-room f x small = time-room u (length t.table.rows.items) (past_at place items) t.table at.kept.table f (place - x) (omega (arith, small)) (omega (arith, long, small))

  -- what is kept over the item is what is kept at the next place
  next : (t' : Tally) (x : Item) → item ≡ x → IsTally u (length t.table.rows.items) (x ∷ past_at place items) t' → IsNext u items place t t'
  next t' x e h = subst (λ p. IsTally u (length t.table.rows.items) p t') (sym (past-more items place x (here x e))) h

  pub after-enter : (t' : Tally) (call : CallNo) (ctx : Ctx) (f : FuncNo) (caller : Option CallNo) → item ≡ Enter call ctx f caller
      → ((c : CallNo) → function_at t' c ≡ cond (same_call call c) (Some f) (function_at t c)) → t'.table ≡ t.table → IsNext u items place t t'
  after-enter t' call ctx f caller e functions same =
      next t' (Enter call ctx f caller) e (tally-enter u (length t.table.rows.items) (past_at place items) t t' at.kept call ctx f caller functions same)

  pub after-back : (t' : Tally) (call : CallNo) (v : UserNo) → item ≡ Back call v → (f : FuncNo) → function_at t call ≡ Some f → (v.0 == u) ≡ true
      → t'.functions ≡ t.functions → t'.table.rows.items ≡ set t.table.rows.items f.0 (with_hit (row_at t.table.rows.items f.0)) → IsNext u items place t t'
  after-back t' call v e f q own functions same =
      next t' (Back call v) e (tally-back u (length t.table.rows.items) (past_at place items) t t' at.kept call v f own (back-func call v e f q) functions same)

  pub after-exit : (t' : Tally) (call : CallNo) (v : UserNo) (entry : ℕ) → item ≡ Exit call v entry → (f : FuncNo) → function_at t call ≡ Some f → (v.0 == u) ≡ true
      → t'.functions ≡ t.functions → t'.table.rows.items ≡ set t.table.rows.items f.0 (with_time (place - entry) (row_at t.table.rows.items f.0)) → IsNext u items place t t'
  after-exit t' call v entry e f q own functions same =
      next t' (Exit call v entry) e (tally-exit u (length t.table.rows.items) (past_at place items) t t' at.kept call v entry place f long own (exit-func call v entry e f q) functions same)

  pub after-back-other : (call : CallNo) (v : UserNo) → item ≡ Back call v → (v.0 == u) ≡ false → IsNext u items place t t
  after-back-other call v e other = next t (Back call v) e (tally-back-other u (length t.table.rows.items) (past_at place items) t at.kept call v other)

  pub after-exit-other : (call : CallNo) (v : UserNo) (entry : ℕ) → item ≡ Exit call v entry → (v.0 == u) ≡ false → IsNext u items place t t
  after-exit-other call v entry e other = next t (Exit call v entry) e (tally-exit-other u (length t.table.rows.items) (past_at place items) t at.kept call v entry other)

  pub after-rest : is_noted item ≡ false → IsNext u items place t t
  after-rest e = next t item refl (tally-rest u (length t.table.rows.items) (past_at place items) t at.kept item e)
