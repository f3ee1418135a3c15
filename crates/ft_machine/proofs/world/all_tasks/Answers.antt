use Rattle.std.proofs.Common.{sym, ap, ◌∙◌}
use Rattle.word_map.specs.declared.shape.Shape.{Shape}
use Rattle.ft_machine.proofs.Masks.{all-mask}
use Rattle.ft_machine.proofs.world.all_tasks.Goals as goal

pub returns : goal.returns
returns c = λ job e.
    all-mask c.shape.result.tasks c.mask.result c.new.result c.new.ensures.lists c.new.ensures.size c.mask.ensures.tasks c.mask.ensures.others job
    (e ∙ ap (λ (s : Shape). s.tasks) (sym c.shape.ensures.shape))
