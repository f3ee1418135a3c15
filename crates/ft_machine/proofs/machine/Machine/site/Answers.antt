use Rattle.std.proofs.Common.{List, ℕ, ◌<◌, sym, subst}
use Rattle.word_map.specs.declared.shape.Shape.{Shape}
use Rattle.ft_machine.specs.Sites.{IsWhole}
use Rattle.ft_machine.proofs.SiteLaws.{whole-site}
use Rattle.ft_machine.specs.Machines.{state_of}
use Rattle.ft_machine.proofs.machine.Machine.site.Goals as goal

pub returns-clause-bytes : goal.returns-clause-bytes
returns-clause-bytes c = λ job is. c.site.ensures job _ is.is_for

pub returns-clause-whole : goal.returns-clause-whole
returns-clause-whole c = λ job is.
    subst (λ (bytes : List ℕ). IsWhole job (state_of job c.args.self.now).past c.args.f.0 bytes) (sym (c.site.ensures job _ is.is_for))
    (whole-site job (state_of job c.args.self.now) is.limited is.runs c.args.f.0 (subst (λ (s : Shape). c.args.f.0 < s.funcs) is.is_for.shape' c.requires))
