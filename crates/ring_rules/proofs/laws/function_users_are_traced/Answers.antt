use Rattle.std.proofs.Math.ListN.{get_or-map}
use Rattle.ft_base.specs.Desk.{plain_spec}
use Rattle.ft_base.specs.Job.{Spec}
use Rattle.ft_base.specs.Kinds.{is_function}
use Rattle.ring_rules.proofs.laws.function_users_are_traced.Goals as goal

pub returns : goal.returns
returns c = λ job call user. get_or-map (λ (s : Spec). is_function s.kind) job.users user.0 plain_spec
