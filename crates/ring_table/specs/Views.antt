-- What seats know: their views, and what a step makes of one.
use Rattle.std.specs.Prelude.{ℕ, ◌==◌, Bool, List, [], length, replicate, false}
use Rattle.ring_rules.specs.Plan.{TracePlan}
use Rattle.dealt_seats.specs.declared.view.Part.{Part as SeatPart}
use Rattle.dealt_seats.specs.declared.view.View.{View as SeatView}
use Rattle.dealt_seats.specs.Views.{change, known_in}
use Rattle.dealt_seats.specs.Views as seats
use Rattle.ring_table.specs.declared.view.Known.{Known}
use Rattle.ring_table.specs.Tally.{drawn, hits_of, looked, switched_to}

-- whether tracing is on, by its word
abbrev pub is_one : ℕ → Bool
is_one n = n == 1

-- it has done nothing
abbrev pub nothing : TracePlan → Known
nothing plan = record {
  own = plan.tracing;
  hits = replicate (length plan.triggers) 0;
  fired = replicate (length plan.triggers) 0;
  saw_off = false;
  saw_on = false;
}

-- ## views

-- an actor, with what it has done
abbrev pub Part : Type 0
Part = SeatPart Known

-- what a seat knows
abbrev pub View : Type 0
View = SeatView TracePlan (Unit {0}) Known

-- a seat's view, in which nothing is led
abbrev pub view : TracePlan → ℕ → List Part → View
view plan split parts = seats.view plan tt split parts

-- the first seat's, after so many CPUs were split off
abbrev pub first_view : TracePlan → ℕ → View
first_view plan split = seats.first_view plan tt split (nothing plan)

-- CPU c's
abbrev pub cpu_view : TracePlan → ℕ → Known → View
cpu_view plan c k = seats.cpu_view plan tt c k

-- a plan of no CPU
abbrev pub no_plan : TracePlan
no_plan = record { cpus = 0; tasks = []; users = []; ring = 0; tracing = false; triggers = [] }

-- the view of a seat that has joined another
abbrev pub spent : View
spent = seats.spent_view no_plan tt

-- what the seat's own part knows
abbrev pub known_of : View → Known
known_of v = known_in (nothing v.job) v.parts

-- how many tickets of trigger i it has drawn
abbrev pub hits_by : View → ℕ → ℕ
hits_by v i = hits_of (known_of v) i

-- ## steps

-- it draws ticket n of trigger i
abbrev pub draws : View → ℕ → ℕ → View
draws v i n = change (drawn v.job i n) v

-- it switches tracing
abbrev pub switches : View → Bool → View
switches v on = change (switched_to on) v

-- it looks whether tracing is on
abbrev pub looks : View → Bool → View
looks v on = change (looked on) v

-- the view of the CPU that is split off next
abbrev pub dealt : View → View
dealt v = cpu_view v.job v.split (nothing v.job)
