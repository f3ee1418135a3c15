-- What the rule of the table says at any moment, of the job with the lines that are led so far.
use Rattle.std.specs.Prelude.{ℕ, ◌≡◌, ◌≤◌, [], reverse}
use mathlib.Core.Option.{some}
use lib.ListN.{get_elem?}
use Rattle.atomic_table.specs.Table.{State}
use Rattle.ft_base.specs.declared.turn.Actor.{Actor}
use Rattle.ft_base.specs.Job.{Job}
use Rattle.ft_hist.specs.Rules.{IsLegal}
use Rattle.word_machine.specs.Cpu.{cpu_start}
use Rattle.word_machine.specs.Machine.{start}
use Rattle.word_machine.specs.Rule.{MachineRule}
use Rattle.live_table.specs.Views.{Part, View}
use Rattle.live_table.specs.Rule.{IsReached, LiveRule, led_at, state_at}

-- no actor stands in two views
abbrev pub OneSeatEach : Type 0
OneSeatEach =
    (job : Job) (t : State (Unit {0}) View) (i j : ℕ) (v w : View) (k l : ℕ) (x y : Part)
    → LiveRule job t → get_elem? t.views i ≡ some v → get_elem? v.parts k ≡ some x → get_elem? t.views j ≡ some w → get_elem? w.parts l ≡ some y
    → x.actor ≡ y.actor → i ≡ j

-- the state keeps the word machine's rule, and its history is legal
abbrev pub IsAlwaysLegal : Type 0
IsAlwaysLegal =
    (job : Job) (t : State (Unit {0}) View) → (r : LiveRule job t)
    → MachineRule (led_at r) (state_at r) × IsLegal (led_at r) (reverse r.past)

-- a CPU that was not split off is as at the start
abbrev pub UnsplitHaveNotStepped : Type 0
UnsplitHaveNotStepped =
    (job : Job) (t : State (Unit {0}) View) → (r : LiveRule job t) → (c : ℕ) → r.split ≤ c
    → (state_at r).cpus c ≡ cpu_start job c

-- the state is one to which the word machine comes, and its start while no actor has taken a value
abbrev pub IsAlwaysReached : Type 0
IsAlwaysReached =
    (job : Job) (t : State (Unit {0}) View) → (r : LiveRule job t)
    → IsReached (led_at r) (state_at r) × (((a : Actor) → r.values a ≡ []) → state_at r ≡ start (led_at r))
