use Rattle.std.proofs.Common.{◌≡◌, ◌+◌, [], refl, arith, rules, ap, ◌∙◌}
use Rattle.word_map.specs.declared.shape.Shape.{Shape}
use Rattle.word_map.specs.Instructions.{head_of, tail_of}
use Rattle.word_map.specs.Places.{len}
use Rattle.word_map.proofs.OpeningLaws.{Fills, fills, built_is_opening}
use Rattle.word_map.proofs.map.WordMap.opening.Goals as goal

pub returns : goal.returns
returns c =
    let shape = c.args.self.now in
    let same = ap (λ (s : Shape). s.funcs) c.self.view_is in
    let none : c.in_ok-list.list.items ≡ [] = search rules in
    let to_tasks : Fills [] 3 0 c.fill_to.new.list.items =
    fills _ _ c.pids.result 3 0 0 c.pids.ensures refl (omega arith) (rw none at c.in_ok-fill_to.ensures) in
    let to_depth : Fills c.fill_to.new.list.items 4 c.args.pids c.fill_to-2.new.list.items =
    fills _ _ c.depth.result 4 c.args.pids c.args.pids c.depth.ensures refl (omega (arith, to_tasks.count)) c.in_ok-fill_to-2.ensures in
    let to_heads : Fills c.fill_to-2.new.list.items 5 0 c.fill_to-3.new.list.items =
    fills _ _ c.heads-2.result 5 0 0 c.heads-2.ensures.place refl (omega (arith, to_depth.count)) c.in_ok-fill_to-3.ensures in
    let to_tails : Fills c.fill_to-3.new.list.items (5 + shape.funcs) (head_of 0) c.fill_to-4.new.list.items =
    fills _ _ _ (5 + shape.funcs) c.from.result (head_of 0) (omega (arith, c.heads.ensures.place, same)) (c.from.ensures ∙ c.head_of.ensures)
    (omega (arith, to_heads.count)) c.in_ok-fill_to-4.ensures in
    let to_next : Fills c.fill_to-4.new.list.items (5 + shape.funcs + shape.funcs) (tail_of 0 0) c.fill_to-5.new.list.items =
    fills _ _ _ (5 + shape.funcs + shape.funcs) c.from-2.result (tail_of 0 0) (omega (arith, c.heads.ensures.place, same))
    (c.from-2.ensures ∙ c.tail_of-tail.ensures) (omega (arith, to_tails.count)) c.in_ok-fill_to-5.ensures in
    let to_end : Fills c.fill_to-5.new.list.items (len shape) 0 c.fill_to-6.new.list.items =
    fills _ _ c.len-2.result (len shape) 0 0 c.len-2.ensures refl (omega (arith, to_next.count)) c.in_ok-fill_to-6.ensures in
    built_is_opening shape c.args.pids _ _ _ _ _ _ (record {
      to_tasks = to_tasks;
      to_depth = to_depth;
      to_heads = to_heads;
      to_tails = to_tails;
      to_next = to_next;
      to_end = to_end;
    })
