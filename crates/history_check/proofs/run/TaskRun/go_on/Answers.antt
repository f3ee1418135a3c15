use Rattle.std.proofs.Common.{◌∙◌, ◌∷◌, sym, ap, drop, Some, option_map}
use Rattle.ft_hist.specs.Plain.{PlainTask, in_phase}
use Rattle.history_check.specs.PlainRuns.{frame_of, moved, phase_of}
use Rattle.history_check.specs.declared.frame.Frame.{Frame}
use Rattle.history_check.proofs.RunSteps.{is-top, of-none, step-is}
use Rattle.history_check.proofs.run.TaskRun.go_on.Goals as goal

pub returns-in_default : goal.returns-in_default
returns-in_default c = λ job returned is step.
    of-none job returned c.args.self.now c.args.call c.args.item.now (sym c.top.ensures ∙ ap (option_map frame_of) c.in_default.is) c.requires step

pub returns-in-Some-phase_after : goal.returns-in-Some-phase_after
returns-in-Some-phase_after c = λ job returned is step.
    let s : PlainTask = c.args.self.now in
    let t = frame_of c.in-Some.top in
    let top = is-top s c.args.call t (sym c.top.ensures ∙ ap (option_map frame_of) c.in-Some.is) in
    step-is job returned s c.args.call t top c.args.item.now c.requires step
    ∙ ap (moved s t top.below) (sym (c.phase_after.ensures job is) ∙ ap (option_map phase_of) c.in-Some-phase_after.is)
    ∙ ap Some (sym (c.set_top.ensures ∙ ap (λ (f : Frame). record s { stack = frame_of f ∷ drop 1 s.stack }) c.in_phase.ensures
    ∙ ap (λ ts. record s { stack = in_phase t (phase_of c.in-Some-phase_after.phase) ∷ drop 1 ts }) top.stack))

pub returns-in-None : goal.returns-in-None
returns-in-None c = λ job returned is step.
    let s : PlainTask = c.args.self.now in
    let t = frame_of c.in-Some.top in
    let top = is-top s c.args.call t (sym c.top.ensures ∙ ap (option_map frame_of) c.in-Some.is) in
    step-is job returned s c.args.call t top c.args.item.now c.requires step
    ∙ ap (moved s t top.below) (sym (c.phase_after.ensures job is) ∙ ap (option_map phase_of) c.in-None.is)
