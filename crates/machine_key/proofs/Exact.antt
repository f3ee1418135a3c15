-- The race of a job is exact, and has the outcomes of the job.
use Rattle.std.proofs.Common.{◌≡◌, ◌<◌, ℕ, zero, suc, ◌&&◌, List, [], ◌∷◌, ◌++◌, All, length, map, refl, sym, ap, subst, ◌∙◌, arith}
use Rattle.std.proofs.lemmas.List.{map-append}
use Rattle.std.proofs.lemmas.List.Elements.{All-nil, All-cons, All-head, All-tail}
use Rattle.std.specs.List.{AllByRecursion as Each}
use Rattle.ft_base.specs.declared.turn.Actor.{Actor}
use Rattle.ft_base.specs.declared.turn.Actor.TheVariants.{Control as ByControl, Cpu as ByCpu}
use Rattle.ft_base.specs.Job.{Job}
use Rattle.word_machine.specs.Machine.{World, step, run, start, all_end, control_is_done, cpus_end}
use Rattle.job_outcomes.specs.Jobs.{IsActor, IsLike, IsOutcomeOf, outcome_at}
use Rattle.job_outcomes.proofs.Alike.{step-alike}
use Rattle.machine_key.specs.Race.{actor_at, after, meaning, HasOutcomesOf}
use Rattle.machine_key.specs.Codes.{outcome_code}
use Rattle.machine_key.proofs.States.{same, states-told}
use Rattle.state_search.specs.Races.{IsExact, IsOutcome}

run-snoc : (job : Job) (actors : List Actor) (a : Actor) (w : World) → run job (actors ++ a ∷ []) w ≡ step job a (run job actors w)
unfolding run
run-snoc job [] a w = refl
run-snoc job (b ∷ rest) a w = run-snoc job rest a (step job b w)

pub after-snoc : (job : Job) (s : List ℕ) (a : ℕ) → after job (s ++ a ∷ []) ≡ step job (actor_at a) (after job s)
after-snoc job s a = ap (λ (actors : List Actor). run job actors (start job)) (map-append actor_at s (a ∷ [])) ∙ run-snoc job (map actor_at s) (actor_at a) (start job)

-- before the first step
pub after-none : (job : Job) → start job ≡ after job []
unfolding run
after-none job = refl

ends-alike : (job : Job) (v w : World) → IsLike job v w → all_end job v ≡ all_end job w
unfolding all_end
ends-alike job v w h = λ i. control_is_done (h.control i) (h.control i).position && cpus_end (h.cpus i) 0 (length job.quanta)

pub exact : (job : Job) → IsExact (meaning job)
exact job = record {
  itself = λ s. record { words = refl; control = refl; cpus = refl; told = refl };
  chain = λ s t u a b. record { words = a.words ∙ b.words; control = a.control ∙ b.control; cpus = a.cpus ∙ b.cpus; told = a.told ∙ b.told };
  keys = λ k s t a b. states-told job k (after job s) (after job t) a b;
  steps = λ s t a h.
      subst (λ (v : World). IsLike job v (after job (t ++ a ∷ []))) (sym (after-snoc job s a))
      (subst (λ (w : World). IsLike job (step job (actor_at a) (after job s)) w) (sym (after-snoc job t a)) (step-alike job (actor_at a) (after job s) (after job t) h));
  ends = λ s t h. ends-alike job (after job s) (after job t) h;
  tells = λ s t h. ap outcome_code.numbers h.told;
}

-- ## schedules of numbers, and of actors

abbrev number_of : Actor → ℕ
number_of ByControl = 0
number_of (ByCpu c) = suc c.0

number-back : (a : Actor) → actor_at (number_of a) ≡ a
number-back ByControl = refl
number-back (ByCpu c) = refl

numbers-back : (actors : List Actor) → map actor_at (map number_of actors) ≡ actors
numbers-back [] = refl
numbers-back (a ∷ actors) = λ i. number-back a i ∷ numbers-back actors i

is-number : (job : Job) (a : Actor) → IsActor job a → number_of a < suc (length job.quanta)
is-number job ByControl h = omega arith
is-number job (ByCpu c) h = omega (arith, h)

are-numbers : (job : Job) (actors : List Actor) → Each (IsActor job) actors → All (λ n. n < suc (length job.quanta)) (map number_of actors)
are-numbers job [] h = All-nil (λ n. n < suc (length job.quanta))
are-numbers job (a ∷ actors) h = All-cons (λ n. n < suc (length job.quanta)) (number_of a) (map number_of actors) (is-number job a h.0) (are-numbers job actors h.1)

is-actor : (job : Job) (n : ℕ) → n < suc (length job.quanta) → IsActor job (actor_at n)
is-actor job zero lt = tt
is-actor job (suc c) lt = omega (arith, lt)

are-actors : (job : Job) (s : List ℕ) → All (λ n. n < suc (length job.quanta)) s → Each (IsActor job) (map actor_at s)
are-actors job [] h = tt
are-actors job (n ∷ s) h = (is-actor job n (All-head (λ m. m < suc (length job.quanta)) n s h), are-actors job s (All-tail (λ m. m < suc (length job.quanta)) n s h))

-- the race has the outcomes of the job
pub outcomes-of : (job : Job) → HasOutcomesOf job
outcomes-of job o = (there, λ p. (map actor_at p.0, are-actors job p.0 p.1.0, p.1.1, same outcome_code (outcome_at job (after job p.0)) o p.1.2))
  where
    there : IsOutcomeOf job o → IsOutcome (meaning job) (outcome_code.numbers o)
    there p =
        let back : run job p.0 (start job) ≡ after job (map number_of p.0) = ap (λ (actors : List Actor). run job actors (start job)) (sym (numbers-back p.0)) in
        (map number_of p.0, (are-numbers job p.0 p.1, ap (all_end job) (sym back) ∙ p.2, ap (λ (w : World). outcome_code.numbers (outcome_at job w)) (sym back) ∙ ap outcome_code.numbers p.3))
