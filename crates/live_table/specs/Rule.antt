-- The rule of the table: at any moment between two atomic steps, whoever makes them, the words and what the seats know make up a state of
-- the word machine that keeps that machine's rule. While control's lines are led one by one, that is said of each job that may still come of
-- those that were led so far; if all were led at the start, it is said of the job itself in the same words.
use Rattle.std.specs.Prelude.{ℕ, ◌≡◌, List, [], length}
use Rattle.atomic_table.specs.Table.{State}
use Rattle.ft_base.specs.declared.item.Item.{Item}
use Rattle.ft_base.specs.declared.turn.Actor.{Actor}
use Rattle.ft_base.specs.declared.turn.Actor.TheVariants.{Control as ByControl}
use Rattle.ft_base.specs.Job.{Job, Ctl, LinePlan}
use Rattle.word_machine_laws.specs.Led.{later, more_to_come, with_lines}
use Rattle.word_map.specs.Places.{len}
use Rattle.word_map.specs.Shapes.{shape_of}
use Rattle.word_machine.specs.Laws.{Runs}
use Rattle.word_machine.specs.Limits.{IsLimited}
use Rattle.word_machine.specs.Machine.{World, run, start}
use Rattle.ft_machine.specs.Worlds.{words_of}
use Rattle.ft_machine.specs.Fed.{control_fed, control_items, cpu_fed}
use Rattle.dealt_seats.specs.Covers.{Covers}
use Rattle.live_table.specs.Views.{View}
use Rattle.live_table.specs.Recorded.{IsRecorded}
use Rattle.dealt_seats.specs.Views.{cpu}

-- the state that the words, the values that each actor has taken, and the items so far make up
abbrev pub world_with : Job → List ℕ → (Actor → List ℕ) → List Item → World
world_with job words values past = record {
  words = words_of job words;
  control = control_fed job (values ByControl);
  cpus = λ c. cpu_fed job c (values (cpu c));
  past = past;
}

-- the word machine comes to this state from its start, by the steps of some actors one after the other
abbrev pub IsReached : Job → World → Type 0
IsReached job s = (actors : List Actor) × (s ≡ run job actors (start job))

-- What holds of a job and of the state that words, values and items make up.
--   runs       it keeps the word machine's rule
--   reached    the machine comes to it from its start
--   at_first   it is the start while no actor has taken a value
pub record StandsFor (job : Job) (words : List ℕ) (values : Actor → List ℕ) (past : List Item) : Type 0 where
  pub runs : Runs job (world_with job words values past)
  pub reached : IsReached job (world_with job words values past)
  pub at_first : ((a : Actor) → values a ≡ []) → world_with job words values past ≡ start job

-- What holds of the job so far, whatever lines are led after its own, wherever they come from.
--   stands     the same words, values and items make up a state of the job with those lines
--   control    the values make the same of control, with those lines to come
--   marked     and it has marked the same
--   recorded   the items are what the actors have marked
pub record RunsOn (led : Job) (words : List ℕ) (values : Actor → List ℕ) (past : List Item) : Type 0 where
  pub stands : (more : List Ctl) (plan : LinePlan) → IsLimited (later led more plan) → StandsFor (later led more plan) words values past
  pub control : (more : List Ctl) (plan : LinePlan) → control_fed (later led more plan) (values ByControl) ≡ more_to_come more (control_fed led (values ByControl))
  pub marked : (more : List Ctl) (plan : LinePlan) → control_items (later led more plan) (values ByControl) ≡ control_items led (values ByControl)
  pub recorded : IsRecorded led values past

-- The rule of the table.
--   limited       the job is within the limits of scripts
--   ctls, plan    the lines that are led so far, and where they come from
--   led           the job with these lines is within the limits, too
--   values        what each actor has taken
--   seat, split   the seat in which it stands; how many CPUs were split off
--   past          the items so far, the latest first
--   count         the words are the job's
--   runs          they make up a state of the word machine, whatever lines are led later
--   covers        the views know the lines that are led so far, and what the actors have taken
pub record LiveRule {S : Type 0} (job : Job) (t : State S View) : Type 0 where
  pub limited : IsLimited job
  pub ctls : List Ctl
  pub plan : LinePlan
  pub led : IsLimited (with_lines job ctls plan)
  pub values : Actor → List ℕ
  pub seat : Actor → ℕ
  pub split : ℕ
  pub past : List Item
  pub count : length t.words ≡ len (shape_of job)
  pub runs : RunsOn (with_lines job ctls plan) t.words values past
  pub covers : Covers job (length job.quanta) [] (with_lines job ctls plan) t.views values seat split

-- the job with the lines that are led so far, at a moment of which the rule holds
abbrev pub led_at : {S : Type 0} {job : Job} {t : State S View} → LiveRule job t → Job
led_at {S} {job} {t} r = with_lines job r.ctls r.plan

-- the state of the word machine then, for a job with these or other lines
abbrev pub state_for : {S : Type 0} {job : Job} {t : State S View} → Job → LiveRule job t → World
state_for {S} {job} {t} led r = world_with led t.words r.values r.past

-- the same for the lines that are led
abbrev pub state_at : {S : Type 0} {job : Job} {t : State S View} → LiveRule job t → World
state_at r = state_for (led_at r) r
