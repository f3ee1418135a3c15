-- One more CPU is made by its plan.
use Rattle.std.proofs.Common.{rules, ◌≡◌, ◌<◌, List, Some, length, slice_get, sym, ap, ◌∙◌, subst, arith}
use Rattle.std.proofs.lemmas.Option.{slice_get-get_or}
use Rattle.user_specs.specs.declared.plan.CpuPlan.{CpuPlan}
use Rattle.word_map.specs.declared.shape.Shape.{Shape}
use Rattle.cpu_core.specs.declared.parts.Parts.{Parts}
use Rattle.ft_machine.specs.Starts.{IsFirst}
use Rattle.ft_machine.proofs.cpus.new_cpus.Goals as goal
use Rattle.ft_base.proofs.Small.{each-pushed}

pub new_cpu-requires : goal.new_cpu-requires
new_cpu-requires c =
    let cpus : c.shape-c-end.result.cpus ≡ length c.requires.0.quanta = ap (λ (s : Shape). s.cpus) (c.shape-c-end.ensures.shape ∙ c.requires.1.shape') in
    let lt : c.loop-c.c < length c.args.plans.now = omega (arith, cpus, c.requires.1.count, c.loop-c-test.true) in
    let at : slice_get c.args.plans.now c.loop-c.c ≡ Some c.index-plans-c.result =
    slice_get-get_or c.args.plans.now c.loop-c.c c.index-plans-c.result lt ∙ ap (λ (p : CpuPlan). Some p) (sym c.index-plans-c.is) in
    (c.requires.0, c.requires.1.each c.loop-c.c c.index-plans-c.result at)

pub loop-c-preserved : goal.loop-c-preserved
loop-c-preserved c =
    let cpus : c.shape-c-end.result.cpus ≡ length c.requires.0.quanta = ap (λ (s : Shape). s.cpus) (c.shape-c-end.ensures.shape ∙ c.requires.1.shape') in
    let lt : c.loop-c.c < length c.args.plans.now = omega (arith, cpus, c.requires.1.count, c.loop-c-test.true) in
    let at : slice_get c.args.plans.now c.loop-c.c ≡ Some c.index-plans-c.result =
    slice_get-get_or c.args.plans.now c.loop-c.c c.index-plans-c.result lt ∙ ap (λ (p : CpuPlan). Some p) (sym c.index-plans-c.is) in
    record {
      first = λ job is k y e.
          let made : IsFirst c.args.rooms job c.loop-c.c c.in_ok-new_cpu.field-0 = c.in_ok-new_cpu.ensures {u = tt} job (is.each c.loop-c.c c.index-plans-c.result at) in
          each-pushed (λ n (x : Parts). IsFirst c.args.rooms job n x) c.loop-c.cpus.items c.in_ok-new_cpu.field-0 (c.loop-c.invariant.first job is)
          (subst (λ n. IsFirst c.args.rooms job n c.in_ok-new_cpu.field-0) (sym c.loop-c.invariant.count) made) k y
          (ap (λ (xs : List Parts). slice_get xs k) (sym c.push_reserved.ensures.items) ∙ e);
      count = search rules;
      room = search rules;
    }

pub returns : goal.returns
returns c = λ job is.
    let cpus : c.shape-c-end.result.cpus ≡ length job.quanta = ap (λ (s : Shape). s.cpus) (c.shape-c-end.ensures.shape ∙ is.shape') in
    record { count = omega (arith, cpus, c.loop-c.invariant.count, c.loop-c-test.false, c.loop-c.auto.c-end); each = c.loop-c.invariant.first job is }
