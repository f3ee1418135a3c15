-- The limits of the job are those of its plan.
use Rattle.std.proofs.Common.{map, sym, ap, ◌∙◌, subst, arith}
use Rattle.ft_base.specs.Job.{Spec}
use Rattle.user_specs.specs.Plain.{cpu_of}
use Rattle.ring_rules.specs.Plan.{IsPlan}
use Rattle.ft_base.specs.Kinds.{is_function}
use Rattle.trace_rings.proofs.Plans.{cpu-count, is-plan, plan-as}
use Rattle.trace_rings.proofs.plan.trace_plan.Goals as goal

pub new-requires : goal.new-requires
new-requires c =
    let count = cpu-count cpu_of c.cpus.result.now c.args.job.now.quanta c.cpus.ensures.quanta in
    let few = c.cpus.ensures.few in
    subst IsPlan
    (sym (plan-as c.args.job.now _ _ _ _ _ _ count c.in_ok-tasks.ensures (c.in_ok-users.ensures
    ∙ ap (map (λ (s : Spec). is_function s.kind)) c.specs.ensures) c.ring.ensures.ring
    c.tracing.ensures (c.in_ok-triggers.ensures ∙ c.triggers.ensures)))
    (is-plan c.args.job.now c.users.ensures.limited c.ring.ensures.planned (omega (arith, count, few)))
