-- What the rule of a table says of its views.
use Rattle.std.specs.Prelude.{ℕ, ◌≡◌, ◌<◌, ◌≤◌, List}
use mathlib.Core.Option.{some}
use lib.ListN.{get_elem?}
use Rattle.ft_base.specs.declared.turn.Actor.{Actor}
use Rattle.ft_base.specs.declared.turn.Actor.TheVariants.{Control as ByFirst, Cpu as ByCpu}
use Rattle.dealt_seats.specs.declared.view.Part.{Part}
use Rattle.dealt_seats.specs.declared.view.View.{View}
use Rattle.dealt_seats.specs.Views.{cpu}

-- the first seat knows how far the job is led, and counts the CPUs that were split off; and no other CPU has a seat
abbrev pub StandsAt : {L : Type 0} → L → ℕ → L → ℕ → Actor → Type 0
StandsAt led split own here ByFirst = (own ≡ led) × (here ≡ split)
StandsAt led split own here (ByCpu c) = c.0 < split

-- the first actor has a seat, and so has each CPU that was split off
abbrev pub HasSeat : ℕ → Actor → Type 0
HasSeat split ByFirst = Unit {0}
HasSeat split (ByCpu c) = c.0 < split

-- a view has a part of this actor
abbrev pub HasPart : {J L K : Type 0} → View J L K → Actor → Type 0
HasPart {J} {L} {K} v a = (k : ℕ) × (x : Part K) × (get_elem? v.parts k ≡ some x) × (x.actor ≡ a)

-- the view of the seat of this id has one
abbrev pub StandsIn : {J L K : Type 0} → List (View J L K) → ℕ → Actor → Type 0
StandsIn {J} {L} {K} views id a = (v : View J L K) × (get_elem? views id ≡ some v) × HasPart v a

-- What holds of a part of the view of the seat of this id.
--   job'     it is of the job
--   seated   its actor stands in no other seat
--   has      it knows all that its actor has done
--   stands   its actor was split off, and the first seat knows how far the job is led
pub record Fits {J L K : Type 0} (job : J) (led : L) (knows : Actor → K) (seat : Actor → ℕ) (split id : ℕ) (v : View J L K) (x : Part K) : Type 0 where
  pub job' : v.job ≡ job
  pub seated : seat x.actor ≡ id
  pub has : x.known ≡ knows x.actor
  pub stands : StandsAt led split v.led v.split x.actor

-- What holds of all views, of a job with so many CPUs.
--   fits      each of their parts fits
--   stood     the first actor, and each CPU that was split off, has a part in the view of its seat. So the views tell what these have done
--   unsplit   a CPU that was not split off has done nothing
--   within    no more CPUs were split off than the job has
pub record Covers {J L K : Type 0} (job : J) (cpus : ℕ) (nothing : K) (led : L) (views : List (View J L K)) (knows : Actor → K) (seat : Actor → ℕ) (split : ℕ) : Type 0 where
  pub fits : (id : ℕ) (v : View J L K) → get_elem? views id ≡ some v → (k : ℕ) (x : Part K) → get_elem? v.parts k ≡ some x → Fits job led knows seat split id v x
  pub stood : (a : Actor) → HasSeat split a → StandsIn views (seat a) a
  pub unsplit : (c : ℕ) → split ≤ c → knows (cpu c) ≡ nothing
  pub within : split ≤ cpus
