-- What ties the words to what the CPUs have done.
use Rattle.std.specs.Prelude.{ℕ, suc, ◌≡◌, ◌≢◌, ◌⊎◌, ◌<◌, ◌≤◌, Bool, true, false, not, ◌||◌, ◌&&◌, List, length, set, get_or, if◌then◌else◌}
use Rattle.ft_base.specs.declared.limits.TheConstants.{ITEMS}
use Rattle.ring_rules.specs.Plan.{TracePlan}
use Rattle.ring_rules.specs.Hits.{fires, quota, trigger}
use Rattle.ring_rules.specs.RingInvariant.{total}
use Rattle.ring_table.specs.declared.view.Known.{Known}

-- a switch as the word of tracing has it
abbrev pub bit : Bool → ℕ
bit true = 1
bit false = 0

-- how many tickets of trigger i a CPU has drawn
abbrev pub hits_of : Known → ℕ → ℕ
hits_of k i = get_or k.hits i 0

-- how many of them fired
abbrev pub fired_of : Known → ℕ → ℕ
fired_of k i = get_or k.fired i 0

-- whether it has found tracing on, or off, against its own switch
abbrev pub saw : Known → Bool → Bool
saw k true = k.saw_on
saw k false = k.saw_off

-- another CPU than c has a fired hit of a trigger that switches tracing on, or off
pub record Others (plan : TracePlan) (knows : ℕ → Known) (c : ℕ) (on : Bool) : Type 0 where
  pub cpu : ℕ
  pub apart : cpu ≢ c
  pub inside : cpu < plan.cpus
  pub trigger' : ℕ
  pub within : trigger' < length plan.triggers
  pub switches : (trigger plan trigger').on ≡ on
  pub fired : 0 < fired_of (knows cpu) trigger'

-- The words are one for tracing, and one for each trigger.
--   on        whether tracing is on
--   switch    the first word says so
--   lengths   each CPU counts each trigger
--   few       no CPU has drawn more tickets than there can be items, so that no word wraps
--   tickets   the word of a trigger counts the tickets of all CPUs
--   fired     so many of them have fired as the limit lets fire of so many hits
--   agrees    tracing is as a CPU has switched it last, or another CPU has a fired hit that switches it so
--   saw'      a CPU has found tracing against its own switch only if another CPU has a fired hit that switches it so
pub record IsTally (plan : TracePlan) (words : List ℕ) (knows : ℕ → Known) : Type 0 where
  pub on : Bool
  pub switch : get_or words 0 0 ≡ bit on
  pub lengths : (c : ℕ) → (length (knows c).hits ≡ length plan.triggers) × (length (knows c).fired ≡ length plan.triggers)
  pub few : (c i : ℕ) → hits_of (knows c) i ≤ ITEMS
  pub tickets : (i : ℕ) → i < length plan.triggers → get_or words (suc i) 0 ≡ total plan.cpus (λ c. hits_of (knows c) i)
  pub fired : (i : ℕ) → i < length plan.triggers → total plan.cpus (λ c. fired_of (knows c) i) ≡ quota (trigger plan i).limit (get_or words (suc i) 0)
  pub agrees : (c : ℕ) → (on ≡ (knows c).own) ⊎ Others plan knows c on
  pub saw' : (c : ℕ) (b : Bool) → saw (knows c) b ≡ true → Others plan knows c b

-- ## what a CPU knows after a step of its own

-- it has drawn the ticket of number n of trigger i, the first of which is number 0
abbrev pub drawn : TracePlan → ℕ → ℕ → Known → Known
drawn plan i n k = record {
  own = k.own;
  hits = set k.hits i (suc (hits_of k i));
  fired = if fires (trigger plan i).limit n then set k.fired i (suc (fired_of k i)) else k.fired;
  saw_off = k.saw_off;
  saw_on = k.saw_on;
}

-- it has switched tracing
abbrev pub switched_to : Bool → Known → Known
switched_to on k = record { own = on; hits = k.hits; fired = k.fired; saw_off = k.saw_off; saw_on = k.saw_on }

-- it has found tracing on or off
abbrev pub looked : Bool → Known → Known
looked on k = record {
  own = k.own;
  hits = k.hits;
  fired = k.fired;
  saw_off = k.saw_off || (k.own && not on);
  saw_on = k.saw_on || (not k.own && on);
}
