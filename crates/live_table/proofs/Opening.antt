-- The rule of the table holds of the words of a job before its first step, with control's seat.
use Rattle.std.proofs.Common.{◌≡◌, ℕ, zero, suc, Bool, true, false, List, [], ◌++◌, length, refl, sym, ap, ◌∙◌, subst, arith}
use Rattle.std.specs.List.{AllByRecursion as Each}
use Rattle.atomic_table.specs.Table as table
use Rattle.ft_base.specs.declared.turn.Actor.{Actor}
use Rattle.ft_base.specs.Desk.{desk}
use Rattle.ft_base.specs.Job.{Job, Ctl, LinePlan}
use Rattle.ft_hist.specs.Placing.{AreCounted, total}
use Rattle.word_machine_laws.specs.Led.{with_lines}
use Rattle.word_machine_laws.proofs.LedLimits.{limited_in_order}
use Rattle.word_map.specs.Contents.{mask_of}
use Rattle.word_map.specs.Places.{len, words_in}
use Rattle.word_map.specs.Shapes.{shape_of}
use Rattle.word_map.specs.Words.{opening}
use Rattle.word_machine.specs.Laws.{Runs}
use Rattle.word_machine.specs.Limits.{IsLimited}
use Rattle.word_machine.specs.Machine.{opening_words, run, start}
use Rattle.word_machine_laws.proofs.WordsFit.{start-runs}
use Rattle.control_core.proofs.Leading.{none-led}
use Rattle.ft_machine.specs.Worlds.{words_of}
use Rattle.ft_machine.proofs.Opening.{none-on}
use Rattle.live_table.specs.Views.{control_view, led_first}
use Rattle.live_table.specs.Recorded.{IsRecorded, cpu_lists}
use Rattle.live_table.specs.Rule.{LiveRule, RunsOn, StandsFor, world_with}
use Rattle.dealt_seats.proofs.Moves.{covers-first}

-- ## nothing is marked

-- nobody has taken a value
abbrev pub none : Actor → List ℕ
none a = []

total-none : (job : Job) (b n : ℕ) → total (cpu_lists job none b n) ≡ 0
total-none job b zero = refl
total-none job b (suc n) = total-none job (suc b) n

counted-none : (job : Job) (b n : ℕ) → Each (AreCounted 0) (cpu_lists job none b n)
counted-none job b zero = tt
counted-none job b (suc n) = (tt, counted-none job (suc b) n)

none-recorded : (job : Job) → IsRecorded job none []
none-recorded job = record {
  placed = record {
    count = total-none job 0 (length job.quanta);
    below = (tt, counted-none job 0 (length job.quanta));
    once = λ p lt. absurd (omega (arith, lt));
  };
  items = refl;
  own = λ c inside. sym (none-on job c);
}

-- ## the machine

-- it is the machine's start
at-start : (job : Job) (words : List ℕ) → words_of job words ≡ opening_words job → world_with job words none [] ≡ start job
unfolding start
at-start job words is = λ i. record { words = is i; control = (start job).control; cpus = (start job).cpus; past = [] }

at-run : (job : Job) (words : List ℕ) → words_of job words ≡ opening_words job → world_with job words none [] ≡ run job [] (start job)
unfolding run
at-run job words is = at-start job words is

stands-first : (job : Job) (words : List ℕ) → IsLimited job → words_of job words ≡ opening_words job → StandsFor job words none []
stands-first job words limited is = record {
  runs = subst (Runs job) (sym (at-start job words is)) (start-runs job limited);
  reached = ([], at-run job words is);
  at_first = λ unstepped. at-start job words is;
}

-- the words are the opening ones whatever the lines are
desk-first : (job : Job) (ctls : List Ctl) (plan : LinePlan) → desk (with_lines job ctls plan) 0 ≡ desk job 0
unfolding desk
desk-first job ctls plan = refl

words-first : (job : Job) (ctls : List Ctl) (plan : LinePlan) (words : List ℕ) → words_of job words ≡ opening_words job
    → words_of (with_lines job ctls plan) words ≡ opening_words (with_lines job ctls plan)
words-first job ctls plan words is =
    let same = desk-first job ctls plan in
    ap (λ d. words_in (shape_of job) (mask_of d (length job.tasks)) words) same
    ∙ is
    ∙ sym (ap (λ d. opening (mask_of d (length job.tasks))) same)

-- ## the table

runs-first : (job : Job) (ctls : List Ctl) (plan : LinePlan) (words : List ℕ) → words_of job words ≡ opening_words job
    → RunsOn (with_lines job ctls plan) words none []
runs-first job ctls plan words is = record {
  stands = λ more lines l. stands-first (with_lines job (ctls ++ more) lines) words l (words-first job (ctls ++ more) lines words is);
  control = λ more lines. refl;
  marked = λ more lines. refl;
  recorded = none-recorded (with_lines job ctls plan);
}

-- with these lines led
opens-with : {S : Type 0} (job : Job) (ctls : List Ctl) (plan : LinePlan) → IsLimited job → IsLimited (with_lines job ctls plan)
    → (words : List ℕ) → length words ≡ len (shape_of job) → words_of job words ≡ opening_words job
    → LiveRule {S = S} job (table.opening words [] (control_view job (with_lines job ctls plan) 0 []))
opens-with {S} job ctls plan limited led words count is = record {
  limited = limited;
  ctls = ctls;
  plan = plan;
  led = led;
  values = none;
  seat = λ a. 0;
  split = 0;
  past = [];
  count = count;
  runs = runs-first job ctls plan words is;
  covers = covers-first job (length job.quanta) [] (with_lines job ctls plan);
}

-- the lines that are led at first are within the limits
pub first-limited : (job : Job) (withheld : Bool) → IsLimited job → IsLimited (led_first job withheld)
first-limited job true limited = limited_in_order job [] limited (none-led (length job.ctls))
first-limited job false limited = limited

pub opens : {S : Type 0} (job : Job) (withheld : Bool) → IsLimited job → (words : List ℕ) → length words ≡ len (shape_of job)
    → words_of job words ≡ opening_words job → LiveRule {S = S} job (table.opening words [] (control_view job (led_first job withheld) 0 []))
opens {S} job true limited words count is =
    opens-with {S = S} job [] (record job.lines { lanes = [] }) limited (first-limited job true limited) words count is
opens {S} job false limited words count is = opens-with {S = S} job job.ctls job.lines limited limited words count is
