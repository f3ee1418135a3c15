use Rattle.std.proofs.Common.{map, sym, ◌∙◌}
use Rattle.std.specs.Str.{bytes_eq}
use Rattle.ft_base.specs.Job.{Spec}
use Rattle.user_specs.specs.Plain.{spec_of}
use Rattle.ft_script.proofs.LookUps.{position_map}
use Rattle.ft_script.proofs.reader.find.user_number.Goals as goal

pub returns-clause-place : goal.returns-clause-place
returns-clause-place c =
    c.user_place.ensures.place
    ∙ sym (position_map (λ (u : Spec). bytes_eq c.args.name.now u.name) spec_of c.args.users.now)
    ∙ sym (position_map (bytes_eq c.args.name.now) (λ (u : Spec). u.name) (map spec_of c.args.users.now))
