use Rattle.std.proofs.Common.{◌++◌, ◌∷◌, [], map, ap, sym, ◌∙◌, arith}
use Rattle.std.specs.List.{range_with_len}
use Rattle.std.proofs.lemmas.List.FromFn.{map-range_with_len_more}
use Rattle.ft_base.specs.declared.item.Ran.{Ran}
use Rattle.ft_base.specs.Desk.{target}
use Rattle.history_check.proofs.desks.runs_of.Goals as goal

pub loop-f-preserved : goal.loop-f-preserved
loop-f-preserved c = record {
  runs = c.push_reserved.ensures.items
      ∙ ap (λ xs. xs ++ c.ran.result ∷ []) c.loop-f.invariant.runs
      ∙ ap (λ (x : Ran). map (target c.args.desk.now.state) (range_with_len 0 c.loop-f.f) ++ x ∷ []) c.ran.ensures
      ∙ sym (map-range_with_len_more (target c.args.desk.now.state) 0 c.loop-f.f c.loop-f.f (omega arith));
  size = (let a = c.push_reserved.ensures.len in let b = c.loop-f.invariant.size in omega (arith, a, b));
  room = (let a = c.push_reserved.ensures.capacity in let b = c.loop-f.invariant.room in omega (arith, a, b));
}
