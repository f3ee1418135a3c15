use Rattle.std.proofs.Common.{length, ap, ◌∙◌}
use Rattle.trace_rings.specs.Traced.{Traced}
use Rattle.ring_rules.proofs.FoldSteps.{all-cpus}
use Rattle.trace_rings.proofs.Folds.{few-as}
use Rattle.trace_rings.proofs.tracer.Tracer.take.Goals as goal

pub write-requires : goal.write-requires
write-requires c =
    few-as c.args.self.now.so_far.rings.cpus c.hit_all.new.self.so_far.rings.cpus c.cpu.result c.args.self.now.seen c.hit_all.new.self.seen
    (ap (λ (t : Traced). t.so_far.rings.cpus) c.in_ok-hit_all.ensures
    ∙ all-cpus c.args.plan.now c.self.inside.seen c.args.item.now (length c.args.plan.now.triggers) c.pass.new.self.so_far
    ∙ ap (λ (t : Traced). t.so_far.rings.cpus) c.pass.ensures)
    (ap (λ (t : Traced). t.seen) c.in_ok-hit_all.ensures ∙ ap (λ (t : Traced). t.seen) c.pass.ensures)
    (c.facts.ensures.written c.cpu.result)
