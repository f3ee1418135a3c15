use Rattle.std.proofs.Common.{◌≡◌, ◌<◌, ◌^◌, ◌∙◌, sym, ap, arith, inl, inr, length}
use Rattle.pid_filter.proofs.MaskLemmas.{length-tasks_in, IsListed, bit-allowed, bit-none}
use Rattle.pid_filter.specs.Lists.{PidLists, allows}
use Rattle.pid_filter.proofs.pids.Pids.mask.Goals.{then-only-eq0, else-only-eq0}
use Rattle.pid_filter.proofs.pids.Pids.mask.Goals as goal

pub returns : goal.returns
returns c =
    let p = c.self.inside in
    let size : length c.args.self.now.pids ≡ p.tasks = sym (ap (λ (lists : PidLists). length lists.pids) c.self.view_is) ∙ length-tasks_in p.tasks p.only in
    let fits : p.not < 2 ^ 64 = omega arith in
    let listed : IsListed p.only c.first_bits-all.result c.if-only-eq0.listed = elim c.if-only-eq0.branch [
      | then-only-eq0 w ↦ inl (w.if-only-eq0.true, w.listed-is)
      | else-only-eq0 w ↦ inr (w.if-only-eq0.false, w.listed-is)
    ] in
    record {
      tasks = λ t h. bit-allowed p.tasks p.only p.not _ _ fits c.self.invariant c.first_bits-all.ensures listed t (omega (arith, size))
          ∙ ap (λ (lists : PidLists). allows lists t) c.self.view_is;
      others = λ t h. bit-none p.tasks p.only p.not _ _ fits c.self.invariant c.first_bits-all.ensures listed t (omega (arith, size));
    }
