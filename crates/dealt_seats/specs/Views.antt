-- Views of seats, and what a step of the seat's own actor and the moves of seats make of them.
use Rattle.std.specs.Prelude.{ℕ, ◌+◌, List, [], ◌∷◌, ◌++◌}
use Rattle.ft_base.specs.declared.turn.Actor.{Actor}
use Rattle.ft_base.specs.declared.turn.Actor.TheVariants.{Control as ByFirst, Cpu as ByCpu}
use Rattle.dealt_seats.specs.declared.view.Part.{Part}
use Rattle.dealt_seats.specs.declared.view.View.{View}

-- the actor of a CPU's number
abbrev pub cpu : ℕ → Actor
cpu c = ByCpu (record { 0 = c })

-- an actor, with what it has done
abbrev pub part : {K : Type 0} → Actor → K → Part K
part a k = record { actor = a; known = k }

-- a seat's view: of which job, what was led, how many CPUs were split off, and its parts
abbrev pub view : {J L K : Type 0} → J → L → ℕ → List (Part K) → View J L K
view job led split parts = record { job = job; led = led; split = split; parts = parts }

-- the first seat's, after so many CPUs were split off
abbrev pub first_view : {J L K : Type 0} → J → L → ℕ → K → View J L K
first_view job led split k = view job led split (part ByFirst k ∷ [])

-- CPU c's
abbrev pub cpu_view : {J L K : Type 0} → J → L → ℕ → K → View J L K
cpu_view job led c k = view job led 0 (part (cpu c) k ∷ [])

-- the view of a seat that has joined another
abbrev pub spent_view : {J L K : Type 0} → J → L → View J L K
spent_view job led = view job led 0 []

-- what the first of these parts knows, or that if there is none
abbrev pub known_in : {K : Type 0} → K → List (Part K) → K
known_in d [] = d
known_in d (x ∷ xs) = x.known

-- what seats know of their own actors, if each has a CPU's number and knows this
abbrev pub parts_of : {A K : Type 0} → (A → ℕ) → (A → K) → List A → List (Part K)
parts_of number known [] = []
parts_of number known (s ∷ ss) = part (cpu (number s)) (known s) ∷ parts_of number known ss

-- the first of these changes
abbrev pub change_in : {K : Type 0} → (K → K) → List (Part K) → List (Part K)
change_in f [] = []
change_in f (x ∷ xs) = part x.actor (f x.known) ∷ xs

-- what the seat's own actor has done changes
abbrev pub change : {J L K : Type 0} → (K → K) → View J L K → View J L K
change f v = view v.job v.led v.split (change_in f v.parts)

-- the first seat's view after one more CPU was split off
abbrev pub dealer : {J L K : Type 0} → View J L K → View J L K
dealer v = view v.job v.led (v.split + 1) v.parts

-- the view of a seat that another joined
abbrev pub joined : {J L K : Type 0} → View J L K → View J L K → View J L K
joined v w = view v.job v.led v.split (v.parts ++ w.parts)
