use Rattle.std.proofs.Common.{◌++◌, ◌∷◌, [], map, ap, sym, ◌∙◌, arith}
use Rattle.std.specs.List.{range_with_len}
use Rattle.std.proofs.lemmas.List.FromFn.{map-range_with_len_more}
use Rattle.trace_views.specs.declared.named.TaskName.{TaskName}
use Rattle.trace_print.specs.TaskNames.{name_at}
use Rattle.trace_print.proofs.names.Names.new.Goals as goal

pub loop-t-preserved : goal.loop-t-preserved
loop-t-preserved c = record {
  tasks = c.push_reserved.ensures.items
      ∙ ap (λ xs. xs ++ c.task_name.result ∷ []) c.loop-t.invariant.tasks
      ∙ ap (λ (x : TaskName). map (name_at c.args.job.now) (range_with_len 0 c.loop-t.t) ++ x ∷ []) c.task_name.ensures
      ∙ sym (map-range_with_len_more (name_at c.args.job.now) 0 c.loop-t.t c.loop-t.t (omega arith));
  count = (let a = c.push_reserved.ensures.len in let b = c.loop-t.invariant.count in omega (arith, a, b));
  room = (let a = c.push_reserved.ensures.capacity in let b = c.loop-t.invariant.room in omega (arith, a, b));
}
