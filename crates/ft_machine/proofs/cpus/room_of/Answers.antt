use Rattle.std.proofs.Common.{◌≡◌, ◌*◌, map, ap, ap₂, ◌∙◌, arith}
use Rattle.ft_base.specs.declared.limits.Limits.{Limits}
use Rattle.ft_base.proofs.Versions.{levels-most}
use Rattle.user_specs.specs.Bound.{call_bound_of}
use Rattle.user_specs.specs.Plain.{spec_of}
use Rattle.word_machine.specs.Laws.{room_on}
use Rattle.ft_machine.proofs.Plans.{plan-all-acts, plan-items, plan-room, plan-tasks, plan-users}
use Rattle.ft_machine.proofs.cpus.room_of.Goals as goal

pub call_bound-requires : goal.call_bound-requires
call_bound-requires c = let r = c.requires in record {
  users = plan-users r.0 c.args.plan.now r.1 c.args.specs.now c.args.limits r.2 r.3;
  levels = (let most = levels-most c.args.limits.version in omega (arith, c.from.ensures, ap (λ (l : Limits). l.levels) c.of-levels.ensures, most));
}

pub calls_of-requires : goal.calls_of-requires
calls_of-requires c = let r = c.requires in record {
  tasks = plan-tasks r.0 c.args.plan.now r.1 c.args.specs.now c.args.limits r.2 r.3;
  acts = plan-all-acts r.0 c.args.plan.now r.1 c.args.specs.now c.args.limits r.2 r.3;
}

pub overflow_mul-result : goal.overflow_mul-result
overflow_mul-result c =
    let r = c.requires in
    let same : c.call_bound.result * c.calls_of.result ≡ room_on r.0 r.1 =
    ap₂ (λ a b. a * b) (c.call_bound.ensures ∙ ap (call_bound_of (map spec_of c.args.specs.now)) (c.from.ensures ∙ ap (λ (l : Limits). l.levels) c.of-levels.ensures)) c.calls_of.ensures ∙ plan-room r.0 c.args.plan.now r.1 c.args.specs.now c.args.limits r.2 r.3 in
    let few = plan-items r.0 c.args.plan.now r.1 c.args.specs.now c.args.limits r.2 r.3 in
    omega (arith, same, few)

pub returns : goal.returns
returns c = λ job n shape is.
    ap₂ (λ a b. a * b) (c.call_bound.ensures ∙ ap (call_bound_of (map spec_of c.args.specs.now)) (c.from.ensures ∙ ap (λ (l : Limits). l.levels) c.of-levels.ensures)) c.calls_of.ensures ∙ plan-room job c.args.plan.now n c.args.specs.now c.args.limits shape is
