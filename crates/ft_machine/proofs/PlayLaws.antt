-- A replay of a schedule, actor by actor.
use Rattle.std.proofs.Common.{cond, ◌≡◌, ℕ, Bool, true, false, List, [], ◌∷◌, ◌++◌, drop, length, Option, Some, None, refl, sym, ap, ◌∙◌, append_assoc}
use Rattle.std.specs.Prelude.{nat_lt, slice_get}
use Rattle.std.proofs.lemmas.Bool.{ltb-true}
use Rattle.ft_base.specs.declared.item.Item.{Item}
use Rattle.ft_base.specs.declared.turn.Actor.{Actor}
use Rattle.ft_base.specs.declared.turn.Actor.TheVariants.{Control, Cpu}
use Rattle.ft_base.specs.declared.turn.Turn.{Turn}
use Rattle.ft_base.specs.Job.{Job}
use Rattle.ft_base.specs.Schedule.{actors_in, actors_of}
use Rattle.ft_base.proofs.Small.{false_true}
use Rattle.word_map.specs.declared.shape.Shape.{Shape}
use Rattle.word_map.specs.Ops.{WordOp, Load, Store, Mark}
use Rattle.word_map.specs.Shapes.{shape_of}
use Rattle.word_machine.specs.Cpu.{Phase, Over, cpu_next, phase_op}
use Rattle.word_machine.specs.Control.{control_next}
use Rattle.word_machine.specs.Machine.{World, all_end, control_moved, cpu_moved, is_at_end, is_end, past_after, play, played, start, step}
use Rattle.word_machine_laws.proofs.Stops.{control-ends}
use Rattle.ft_machine.specs.Replays.{IsBeginning}
use Rattle.ft_machine.proofs.Replays.{ends-alike}

played-over : (j : Job) (actors : List Actor) (s : World) → all_end j s ≡ true → played j actors s ≡ s
unfolding played
played-over j [] s over = refl
played-over j (a ∷ rest) s over = rw over refl

-- once all are at their ends a step changes nothing
moves-none : (j : Job) (s : World) (c : ℕ) (p : Phase) → is_end p ≡ true → cpu_moved j s c (phase_op j (s.cpus c) p) ≡ s
moves-none j s c Over e = refl
moves-none j s c _ e = false_true e

rests : (j : Job) (a : Actor) (s : World) → all_end j s ≡ true → step j a s ≡ s
unfolding step cpu_next is_at_end
rests j Control s over =
    let done = (ends-alike j s).0 over Control tt in
    let none = (control-ends j s.control).0 done in rw none refl
rests j (Cpu c) s over = by (nat_lt c.0 (length j.quanta)) refl
  where
    by : (b : Bool) → nat_lt c.0 (length j.quanta) ≡ b → cond b (cpu_moved j s c.0 (phase_op j (s.cpus c.0) (s.cpus c.0).phase)) s ≡ s
    by true e = moves-none j s c.0 (s.cpus c.0).phase ((ends-alike j s).0 over (Cpu c) (ltb-true c.0 (length j.quanta) e))
    by false e = refl

played-step : (j : Job) (a : Actor) (rest : List Actor) (s : World) → played j (a ∷ rest) s ≡ played j rest (step j a s)
unfolding played
played-step j a rest s = by (all_end j s) refl
  where
    by : (b : Bool) → all_end j s ≡ b → cond b s (played j rest (step j a s)) ≡ played j rest (step j a s)
    by true over = sym (ap (played j rest) (rests j a s over) ∙ played-over j rest s over)
    by false more = refl

played-none : (j : Job) (s : World) → played j [] s ≡ s
unfolding played
played-none j s = refl

first-rest : (actors : List Actor) (a : Actor) → Some a ≡ slice_get actors 0 → actors ≡ a ∷ drop 1 actors
first-rest [] a e = absurd cc
first-rest (b ∷ rest) a e = let s : b ≡ a = cc in ap (λ (x : Actor). x ∷ rest) s

-- all actors are at their ends
pub stops_over : (j : Job) (actors : List Actor) (s t : World) → all_end j s ≡ true → played j actors s ≡ t → s ≡ t
stops_over j actors s t over e = sym (played-over j actors s over) ∙ e

-- no actor is left
pub stops_used_up : (j : Job) (actors : List Actor) (s t : World) → actors ≡ [] → played j actors s ≡ t → s ≡ t
stops_used_up j actors s t none e = sym (played-none j s) ∙ (let h : played j [] s ≡ t = rw none at e in h)

-- one actor steps
pub goes_on : (j : Job) (actors rest : List Actor) (a : Actor) (s s1 t : World) → Some a ≡ slice_get actors 0 → rest ≡ drop 1 actors → s1 ≡ step j a s
    → played j actors s ≡ t → played j rest s1 ≡ t
goes_on j actors rest a s s1 t first behind stepped e =
    let cut : actors ≡ a ∷ rest = first-rest actors a first ∙ ap (λ (l : List Actor). a ∷ l) (sym behind) in
    let h : played j (a ∷ rest) s ≡ t = rw cut at e in
    rw stepped (sym (played-step j a rest s) ∙ h)

-- the actors of a job's schedule, among its CPUs
pub all-actors : (j : Job) (turns : List Turn) (shape : Shape) → turns ≡ j.schedule → shape ≡ shape_of j → actors_in shape.cpus turns ≡ actors_of j
unfolding actors_of
all-actors j turns shape same is = rw (same, is) refl

-- from the start, all actors of the schedule play it
pub play-is : (j : Job) (actors : List Actor) (s t : World) → actors ≡ actors_of j → s ≡ start j → t ≡ played j actors s → t ≡ play j
unfolding play
play-is j actors s t all first e = rw (all, first) at e

-- ## the items that are marked stay

past-grows : (op : WordOp) (past : List Item) → IsBeginning past (past_after op past)
past-grows (Load w) past = ([], refl)
past-grows (Store w x) past = ([], refl)
past-grows (Mark item) past = (item ∷ [], refl)

step-grows : (j : Job) (a : Actor) (s : World) → IsBeginning s.past (step j a s).past
unfolding step
step-grows j Control s = by (control_next j s.control)
  where
    by : (o : Option WordOp) → IsBeginning s.past (control_moved j s o).past
    by None = ([], refl)
    by (Some op) = past-grows op s.past
step-grows j (Cpu c) s = by (nat_lt c.0 (length j.quanta)) (cpu_next j (s.cpus c.0))
  where
    by : (b : Bool) (o : Option WordOp) → IsBeginning s.past (cond b (cpu_moved j s c.0 o) s).past
    by true None = ([], refl)
    by true (Some op) = past-grows op s.past
    by false o = ([], refl)

-- what a replay has made so far is a beginning of what it makes
pub play-grows : (j : Job) (actors : List Actor) (s : World) → IsBeginning s.past (played j actors s).past
unfolding played
play-grows j [] s = ([], refl)
play-grows j (a ∷ rest) s = by (all_end j s) (play-grows j rest (step j a s)) (step-grows j a s)
  where
    by : (b : Bool) → IsBeginning (step j a s).past (played j rest (step j a s)).past → IsBeginning s.past (step j a s).past → IsBeginning s.past (cond b s (played j rest (step j a s))).past
    by true m n = ([], refl)
    by false m n = (m.0 ++ n.0, m.1 ∙ ap (λ (xs : List Item). m.0 ++ xs) n.1 ∙ sym (append_assoc m.0 n.0 s.past))
