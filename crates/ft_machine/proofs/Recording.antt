-- What an operation marks, and what is told of it: the world's items go on with that.
use Rattle.std.proofs.Common.{◌≡◌, ℕ, suc, ◌-◌, ◌<◌, List, [], option_map, slice_get, Option, Some, None, IsSome, refl, sym, ap, ◌∙◌, subst, arith}
use Rattle.ft_base.specs.declared.item.Item.{Item}
use Rattle.ft_base.specs.declared.item.Stamped.{Stamped}
use Rattle.word_map.specs.Ops.{WordOp, Load, Store, Mark}
use Rattle.word_machine.specs.Machine.{past_after}
use Rattle.control_core.specs.Steps.{marks_in}
use Rattle.cpu_core.specs.Marks.{Marks, handed_on}
use Rattle.task_core.specs.TaskOps.{item_in}
use Rattle.ft_machine.specs.Worlds.{marked_on}

-- ## what is marked

-- what is told of an operation: the item that it has marked
abbrev pub IsMarkOf : WordOp → Option Item → Type 0
IsMarkOf (Mark item) o = o ≡ Some item
IsMarkOf _ o = o ≡ None

-- how many items are left to mark after an operation
abbrev pub IsLeft : WordOp → ℕ → ℕ → Type 0
IsLeft (Mark item) left left' = suc left' ≡ left
IsLeft _ left left' = left' ≡ left

-- ## what control hands on

-- the first item of a list
abbrev pub first_in : List Stamped → Option Item
first_in items = option_map (λ (s : Stamped). s.item) (slice_get items 0)

-- what an operation marks is told
pub first-told : (op : WordOp) (v : ℕ) (o : Option Item) → o ≡ first_in (marks_in (Some op) v) → IsMarkOf op o
first-told (Load w) v o e = e
first-told (Store w x) v o e = e
first-told (Mark item) v o e = e

-- ## what a CPU hands on

-- what an operation marks is told
pub is-told : (op : WordOp) (o : Option Item) → o ≡ item_in (Some op) → IsMarkOf op o
is-told (Load w) o e = e
is-told (Store w x) o e = e
is-told (Mark item) o e = e

-- its list stays empty, and keeps its room
pub handed-none : (o : Option Item) (m n : Marks) → n ≡ handed_on o m → m.items ≡ [] → n.items ≡ []
handed-none None m n is none = ap (λ (k : Marks). k.items) is ∙ none
handed-none (Some item) m n is none = ap (λ (k : Marks). k.items) is ∙ none

pub handed-room : (o : Option Item) (m n : Marks) → n ≡ handed_on o m → n.room ≡ m.room
handed-room None m n is = ap (λ (k : Marks). k.room) is
handed-room (Some item) m n is = ap (λ (k : Marks). k.room) is

-- and a mark takes one of those that are left
pub handed-left : (op : WordOp) (o : Option Item) → o ≡ item_in (Some op) → (m n : Marks) → n ≡ handed_on o m → (IsSome o → 0 < m.left)
    → IsLeft op m.left n.left
handed-left (Load w) o e m n is some = ap (λ (k : Marks). k.left) (is ∙ ap (λ p. handed_on p m) e)
handed-left (Store w x) o e m n is some = ap (λ (k : Marks). k.left) (is ∙ ap (λ p. handed_on p m) e)
handed-left (Mark item) o e m n is some =
    let left : n.left ≡ m.left - 1 = ap (λ (k : Marks). k.left) (is ∙ ap (λ p. handed_on p m) e) in
    let had = some (subst (λ p. IsSome p) (sym e) refl) in
    omega (arith, left, had)

-- ## the items so far

-- they go on with the world's
pub told-past : (op : WordOp) (o : Option Item) → IsMarkOf op o → (past : List Item) → marked_on o past ≡ past_after op past
told-past (Load w) o same past = ap (λ (x : Option Item). marked_on x past) same
told-past (Store w x) o same past = ap (λ (x : Option Item). marked_on x past) same
told-past (Mark item) o same past = ap (λ (x : Option Item). marked_on x past) same
