-- The actors that are still to come.
use Rattle.std.proofs.Common.{◌≡◌, ℕ, zero, suc, ◌+◌, ◌-◌, ◌<◌, ◌≤◌, ◌↔◌, arith, List, [], ◌∷◌, ◌++◌, drop, slice_get, length, Some, IsNone, true≢false, refl, ap, ◌∙◌, sym, append_assoc}
use Rattle.ft_base.specs.declared.turn.Actor.{Actor}
use Rattle.ft_base.specs.declared.turn.Actor.TheVariants.{Cpu}
use Rattle.ft_base.specs.declared.turn.Who.{Who}
use Rattle.ft_base.specs.declared.turn.Who.TheVariants.{Control as OfControl, Cpu as OfCpu, All as OfAll}
use Rattle.ft_base.specs.declared.turn.Turn.{Turn}
use Rattle.ft_base.specs.Schedule.{every_cpu, turn_of, repeated, actors_in}
use Rattle.ft_schedule.specs.Counts.{first_actor, cpu_after}

-- what is still to come: CPUs of a count under way, counts of an entry, later entries
abbrev pub all_of : ℕ → ℕ → Who → ℕ → List Turn → List Actor
all_of cpus cpu who count later = every_cpu cpu (cpus - cpu) ++ (repeated count (turn_of cpus who) ++ actors_in cpus later)

-- no count is under way
pub all_of-over : (cpus cpu : ℕ) (who : Who) (count : ℕ) (later : List Turn) → cpus ≤ cpu → all_of cpus cpu who count later ≡ repeated count (turn_of cpus who) ++ actors_in cpus later
all_of-over cpus cpu who count later over = ap (λ n. every_cpu cpu n ++ (repeated count (turn_of cpus who) ++ actors_in cpus later)) (let e : cpus - cpu ≡ 0 = omega arith in e)

-- the next CPU of a count
pub all_of-cpu : (cpus cpu : ℕ) (who : Who) (count : ℕ) (later : List Turn) → cpu < cpus → all_of cpus cpu who count later ≡ Cpu (record { 0 = cpu }) ∷ all_of cpus (cpu + 1) who count later
all_of-cpu cpus cpu who count later within =
    let e : cpus - cpu ≡ suc (cpus - (cpu + 1)) = omega arith in
    let s : suc cpu ≡ cpu + 1 = omega arith in
    ap (λ n. every_cpu cpu n ++ (repeated count (turn_of cpus who) ++ actors_in cpus later)) e
    ∙ ap (λ c. Cpu (record { 0 = cpu }) ∷ (every_cpu c (cpus - (cpu + 1)) ++ (repeated count (turn_of cpus who) ++ actors_in cpus later))) s

-- no turns
pub repeated-zero : (turn : List Actor) → repeated 0 turn ≡ []
unfolding repeated
repeated-zero turn = refl

-- one turn and then the others
pub repeated-more : (n : ℕ) (turn : List Actor) → 0 < n → repeated n turn ≡ turn ++ repeated (n - 1) turn
unfolding repeated
repeated-more zero turn h = absurd (omega (arith, h))
repeated-more (suc n) turn h = ap (λ m. turn ++ repeated m turn) (let e : n ≡ suc n - 1 = omega arith in e)

-- no CPU from the number of CPUs on
no_cpu : (cpus : ℕ) → every_cpu cpus (cpus - cpus) ≡ []
no_cpu cpus = ap (every_cpu cpus) (let e : cpus - cpus ≡ 0 = omega arith in e)

-- a count is its first actor, and then CPUs
turn_of-first : (cpus : ℕ) (who : Who) → turn_of cpus who ≡ first_actor who ∷ every_cpu (cpu_after cpus who) (cpus - cpu_after cpus who)
turn_of-first cpus OfControl = ap (λ cs. first_actor OfControl ∷ cs) (sym (no_cpu cpus))
turn_of-first cpus (OfCpu c) = ap (λ cs. first_actor (OfCpu c) ∷ cs) (sym (no_cpu cpus))
turn_of-first cpus OfAll = ap (λ n. first_actor OfAll ∷ every_cpu 0 n) (let e : cpus ≡ cpus - 0 = omega arith in e)

-- the next count
pub all_of-count : (cpus cpu : ℕ) (who : Who) (count : ℕ) (later : List Turn) → cpus ≤ cpu → 0 < count → all_of cpus cpu who count later ≡ first_actor who ∷ all_of cpus (cpu_after cpus who) who (count - 1) later
all_of-count cpus cpu who count later over some =
    let cs = every_cpu (cpu_after cpus who) (cpus - cpu_after cpus who) in
    let others = repeated (count - 1) (turn_of cpus who) in
    all_of-over cpus cpu who count later over
    ∙ ap (λ front. front ++ actors_in cpus later) (repeated-more count (turn_of cpus who) some ∙ ap (λ turn. turn ++ others) (turn_of-first cpus who))
    ∙ ap (λ rest. first_actor who ∷ rest) (append_assoc cs others (actors_in cpus later))

-- the next entry
pub all_of-entry : (cpus cpu : ℕ) (who : Who) (count : ℕ) (turn : Turn) (later : List Turn) → cpus ≤ cpu → count ≡ 0 → all_of cpus cpu who count (turn ∷ later) ≡ all_of cpus cpu turn.who turn.count later
all_of-entry cpus cpu who count turn later over none =
    all_of-over cpus cpu who count (turn ∷ later) over
    ∙ ap (λ n. repeated n (turn_of cpus who) ++ actors_in cpus (turn ∷ later)) none
    ∙ ap (λ front. front ++ actors_in cpus (turn ∷ later)) (repeated-zero (turn_of cpus who))
    ∙ sym (all_of-over cpus cpu turn.who turn.count later over)

-- the end
pub all_of-end : (cpus cpu : ℕ) (who : Who) (count : ℕ) (later : List Turn) → cpus ≤ cpu → count ≡ 0 → later ≡ [] → all_of cpus cpu who count later ≡ []
all_of-end cpus cpu who count later over none end =
    all_of-over cpus cpu who count later over
    ∙ ap (λ n. repeated n (turn_of cpus who) ++ actors_in cpus later) none
    ∙ ap (λ front. front ++ actors_in cpus later) (repeated-zero (turn_of cpus who))
    ∙ ap (actors_in cpus) end

-- ---- a list that gives its first element

module _ {X : Type 0} (old : List X) (x : X) (new : List X) (e : old ≡ x ∷ new) where
  pub given-value : Some x ≡ slice_get old 0
  given-value = ap (λ xs. slice_get xs 0) (sym e)

  pub given-rest : new ≡ drop 1 old
  given-rest = ap (drop 1) (sym e)

  pub given-not_empty : IsNone (Some x) ↔ (old ≡ [])
  given-not_empty = (λ h. absurd (true≢false h), λ h. absurd (cc))

pub is_empty : {X : Type 0} (xs : List X) → length xs ≡ 0 → xs ≡ []
is_empty [] e = refl
is_empty (x ∷ xs) e = absurd (omega (arith, e))
