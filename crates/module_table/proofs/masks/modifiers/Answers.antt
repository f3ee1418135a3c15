use Rattle.std.proofs.Common.{◌<◌, ◌∷◌, ◌++◌, [], length, map, true, is_some, ap, sym, ◌∙◌, arith}
use Rattle.std.proofs.lemmas.List.{length-map, get_or-map}
use Rattle.user_specs.specs.declared.spec.Spec.{Spec}
use Rattle.module_table.proofs.ListLaws.{take-left}
use Rattle.module_table.proofs.masks.modifiers.Goals as goal

pub loop-spec-preserved : goal.loop-spec-preserved
loop-spec-preserved c =
    let specs = c.args.specs.now in
    let i = c.loop-spec.spec-index in
    let lt = c.loop-spec-test.true in
    let same = length-map specs (λ (s : Spec). is_some s.ipmodify) in
    let within : i < length (map (λ (s : Spec). is_some s.ipmodify) specs) = omega (arith, lt, same) in
    let room = c.loop-spec.invariant.1 in
    let cap = c.push_reserved.ensures.capacity in (
      c.push_reserved.ensures.items ∙ ap (λ xs. xs ++ c.is_some.result ∷ []) c.loop-spec.invariant.0
          ∙ sym (take-left (map (λ (s : Spec). is_some s.ipmodify) specs) i c.is_some.result true within
          (c.is_some.ensures ∙ ap (λ (s : Spec). is_some s.ipmodify) c.spec-item.is ∙ sym (get_or-map (λ (s : Spec). is_some s.ipmodify) specs i c.spec-item.result true lt))),
      omega (arith, room, cap),
    )
