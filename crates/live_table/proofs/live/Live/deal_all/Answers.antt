-- One more CPU has its seat.
use Rattle.std.proofs.Common.{rules, ◌≡◌, ◌+◌, ◌++◌, ◌∷◌, [], List, length, slice_get, vec_len, sym, ap, ◌∙◌, arith, subst, append_assoc, length-append}
use Rattle.std.specs.Vec.Iter.{into_iter_items}
use Rattle.cpu_core.specs.declared.parts.Parts.{Parts as CpuParts}
use Rattle.live_table.specs.Seats.{ControlPlace, CpuPlace, IsNewCpu}
use Rattle.live_table.proofs.Dealt.{next-first}
use Rattle.live_table.proofs.live.Live.deal_all.Goals as goal
use Rattle.ft_base.proofs.Small.{each-pushed}

pub deal-requires-clause-first : goal.deal-requires-clause-first
deal-requires-clause-first c =
    let i = c.loop-cpu.invariant in
    let done = c.loop-cpu.yielded in
    let many : length c.loop-cpu.seats.items ≡ vec_len c.loop-cpu.seats = search rules in
    next-first c.args.job.now _ done (into_iter_items c.next.new.self) _ _ _ c.requires.cpus
    (ap (λ (l : List CpuParts). done ++ l) (sym c.in-Some.ensures.steps.0) ∙ i.rest) c.requires.job (c.len.ensures ∙ sym many ∙ i.count)

pub loop-cpu-preserved : goal.loop-cpu-preserved
loop-cpu-preserved c =
    let i = c.loop-cpu.invariant in
    let d = c.deal.ensures in
    let p = c.push_reserved.ensures in
    let done = c.loop-cpu.yielded in
    let left = into_iter_items c.next.new.self in
    let many : length c.loop-cpu.seats.items ≡ vec_len c.loop-cpu.seats = search rules in
    let one = length-append done (c.in-Some.cpu ∷ []) in
    let more : c.loop-cpu.control.split + 1 ≡ length (done ++ c.in-Some.cpu ∷ []) = (let n = i.split in omega (arith, n, one)) in
    record {
      sits = (ap (λ (s : ControlPlace). s.table_id) d.control ∙ i.sits.0, ap (λ (s : ControlPlace). s.job) d.control ∙ i.sits.1);
      split = ap (λ (s : ControlPlace). s.split) d.control ∙ more;
      control = d.control ∙ (λ k. record (i.control k) { split = more k });
      count = (let e = ap length p.items in let more = length-append c.loop-cpu.seats.items (c.deal.result ∷ []) in let n = i.count in omega (arith, e, more, n, one));
      room = p.capacity ∙ i.room;
      each = λ k s at.
          each-pushed (λ n (t : CpuPlace). IsNewCpu c.args.self.now t n) c.loop-cpu.seats.items c.deal.result i.each
          (subst (λ n. IsNewCpu c.args.self.now c.deal.result n) (c.len.ensures ∙ sym many) d.seat)
          k s (ap (λ (l : List CpuPlace). slice_get l k) (sym p.items) ∙ at);
      rest = append_assoc done (c.in-Some.cpu ∷ []) left ∙ ap (λ (l : List CpuParts). done ++ l) (sym c.in-Some.ensures.steps.0) ∙ i.rest;
    }
