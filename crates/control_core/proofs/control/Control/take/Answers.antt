use Rattle.std.proofs.Common.{List, ◌++◌, ap, ◌∙◌, option_map, slice_get}
use Rattle.ft_base.specs.declared.item.Stamped.{Stamped}
use Rattle.word_machine.specs.Control.{control_next}
use Rattle.control_core.specs.Seated.{Seated, control_of}
use Rattle.control_core.specs.Steps.{marks_in}
use Rattle.control_core.proofs.HandedOn.{control-forgot, control-same}
use Rattle.control_core.proofs.control.Control.take.Goals as goal

pub returns-clause-of : goal.returns-clause-of
returns-clause-of c = λ job is. control-forgot job c.got.new.self c.hand_on.new.self c.hand_on.ensures.emptied (c.got.ensures.of job is)

pub returns-clause-control : goal.returns-clause-control
returns-clause-control c = λ job is. control-same c.got.new.self c.hand_on.new.self c.hand_on.ensures.emptied ∙ c.got.ensures.control job is

pub returns-clause-item : goal.returns-clause-item
returns-clause-item c = λ job is.
    c.hand_on.ensures.item
    ∙ ap (λ (xs : List Stamped). option_map (λ (s : Stamped). s.item) (slice_get xs 0))
    (c.got.ensures.items job is ∙ ap (λ (had : List Stamped). had ++ marks_in (control_next job (control_of c.args.self.now)) c.args.value) c.requires)

pub returns-clause-none : goal.returns-clause-none
returns-clause-none c = ap (λ (s : Seated). s.items) c.hand_on.ensures.emptied
