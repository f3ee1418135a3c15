use Rattle.std.proofs.Common.{Some, ◌-◌, ◌∙◌, ap, sym, arith}
use Rattle.std.specs.Prelude.{reverse, option_map}
use Rattle.std.proofs.lemmas.List.{length-reverse}
use Rattle.std.proofs.lemmas.Option.{slice_get_past}
use Rattle.ft_base.specs.declared.number.FuncNo.{FuncNo}
use Rattle.trace_views.specs.OpenCalls.{runs, parent_of}
use Rattle.trace_views.proofs.FollowLaws.{list-of}
use Rattle.trace_views.proofs.StackSteps.{second-is}
use Rattle.trace_views.proofs.open_calls.OpenCalls.parent.Goals as goal

pub returns-then-len-lt2 : goal.returns-then-len-lt2
returns-then-len-lt2 c =
    let long = length-reverse c.index-calls.result.now.items in
    let is = list-of c.args.self.now c.args.task.0 c.index-calls.result.now c.requires c.index-calls.ensures in
    sym (ap parent_of is ∙ ap (option_map runs) (slice_get_past (reverse c.index-calls.result.now.items) 1 (omega (arith, long, c.index-calls.result.now.ok.0))))

pub returns : goal.returns
returns c =
    let is = list-of c.args.self.now c.args.task.0 c.index-calls.result.now c.requires c.index-calls.ensures in
    ap (λ (f : FuncNo). Some f) c.running.ensures
    ∙ sym (ap parent_of is ∙ ap (option_map runs) (second-is c.index-calls.result.now.items (c.len-2.result - 2) c.index.result.now (omega (arith, c.index-calls.result.now.ok.0)) (omega (arith, c.index-calls.result.now.ok.0)) c.index.ensures))
