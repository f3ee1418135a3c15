use Rattle.std.proofs.Common.{List, ℕ, get_or, length, sym, ap, ◌∙◌}
use Rattle.ft_base.specs.Desk.{desk}
use Rattle.word_map.specs.Contents.{mask_of}
use Rattle.word_map.specs.Places.{place}
use Rattle.word_map.specs.Shapes.{shape_of}
use Rattle.word_map.proofs.PlaceLaws.{read_there}
use Rattle.ft_machine.proofs.machine.Machine.words.Goals as goal

pub returns-clause-count : goal.returns-clause-count
returns-clause-count c = λ job is. ap (λ (list : List ℕ). length list) c.words.ensures ∙ is.is_for.count

pub returns-clause-each : goal.returns-clause-each
returns-clause-each c = λ job is w there.
    ap (λ (list : List ℕ). get_or list (place (shape_of job) w) 0) c.words.ensures
    ∙ sym (read_there (shape_of job) (mask_of (desk job 0) (length job.tasks)) w c.args.self.now.world.words there)
