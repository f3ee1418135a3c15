-- The words, control and the CPUs are those of the job before its first step.
use Rattle.std.proofs.Common.{◌≡◌, ◌∙◌, ℕ, List, [], length, sym, ap, subst}
use Rattle.ft_base.specs.Job.{Job}
use Rattle.word_map.specs.Places.{len}
use Rattle.word_map.specs.Shapes.{shape_of}
use Rattle.word_machine.specs.Limits.{IsLimited}
use Rattle.word_machine.specs.Machine.{opening_words}
use Rattle.ft_machine.specs.declared.cpus.CpuRoom.TheVariants.{ForAll}
use Rattle.ft_machine.specs.Starts.{AreFirst}
use Rattle.ft_machine.specs.Worlds.{words_of}
use Rattle.live_table.specs.Seats.{withheld_if}
use Rattle.live_table.specs.Views.{control_view, led_first}
use Rattle.live_table.proofs.AtStart.{opens-control, opens-place, opens-table, opens-words}
use Rattle.live_table.proofs.live.Live.open.Goals as goal

pub open-requires-clause-limited : goal.open-requires-clause-limited
open-requires-clause-limited c = subst IsLimited (sym c.of.ensures) c.in_ok-world.ensures.limited

pub open-requires-clause-count : goal.open-requires-clause-count
open-requires-clause-count c =
    ap (λ (l : List ℕ). length l) (c.as_slice.ensures.value ∙ c.into_parts-words.ensures.words)
    ∙ c.in_ok-world.ensures.of.count
    ∙ ap (λ (job : Job). len (shape_of job)) (sym c.of.ensures)

pub open-requires-clause-opening : goal.open-requires-clause-opening
open-requires-clause-opening c =
    let m = c.in_ok-world.ensures in
    subst (λ (job : Job). words_of job c.as_slice.result.now ≡ opening_words job) (sym c.of.ensures)
    (opens-words c.args.job.now c.in_ok-world.world m.of m.opening _ (c.as_slice.ensures.value ∙ c.into_parts-words.ensures.words))

pub invariant_of-live : goal.invariant_of-live
invariant_of-live c =
    let t = c.in_ok-table.ensures.table in
    opens-table c.args.job.now c.in_ok-world.ensures.limited _ _ (ap (λ key. key.job.value) t.0 ∙ c.of.ensures)
    (t.1 ∙ ap (λ (job : Job). len (shape_of job)) c.of.ensures) t.2

pub invariant_of-result : goal.invariant_of-result
invariant_of-result c =
    let m = c.in_ok-world.ensures in
    opens-control c.args.job.now c.in_ok-world.world m.of m.opening _ c.args.withheld _ m.limited c.lanes-lanes.ensures.planned
    m.control.0 m.control.1 (c.in_ok-table.ensures.seat.1 ∙ ap (λ (job : Job). (control_view job (led_first job c.args.withheld) 0 [], [])) c.of.ensures)
    (c.withhold_if.ensures ∙ ap (withheld_if c.args.withheld) c.into_parts-words.ensures.control)

pub returns-clause-control : goal.returns-clause-control
returns-clause-control c =
    let m = c.in_ok-world.ensures in
    let t = c.in_ok-table.ensures in
    opens-place c.args.job.now c.in_ok-world.world m.of m.opening m.control.1 _ c.args.withheld _ _ _ _ _ (ap (λ key. key.job.value) t.table.0 ∙ c.of.ensures)
    t.seat.0 (t.seat.1 ∙ ap (λ (job : Job). (control_view job (led_first job c.args.withheld) 0 [], [])) c.of.ensures)
    (c.withhold_if.ensures ∙ ap (withheld_if c.args.withheld) c.into_parts-words.ensures.control)

pub returns-clause-cpus : goal.returns-clause-cpus
returns-clause-cpus c =
    subst (AreFirst ForAll c.args.job.now) (sym c.into_parts-words.ensures.cpus) c.in_ok-world.ensures.cpus
