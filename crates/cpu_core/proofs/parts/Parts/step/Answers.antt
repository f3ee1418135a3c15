-- The item that was taken is marked.
use Rattle.std.proofs.Common.{◌≡◌, ◌++◌, [], ◌∷◌, Option, Some, None, IsSome, refl, sym, ap, ◌∙◌, subst}
use Rattle.std.proofs.lemmas.List.{append-nil}
use Rattle.ft_base.specs.declared.item.Item.{Item}
use Rattle.word_map.specs.Contents.{low}
use Rattle.cpu_core.specs.declared.parts.Parts.{Parts}
use Rattle.cpu_core.specs.CpuSteps.{stepped, unmarked}
use Rattle.cpu_core.specs.Marks.{HasRoom, Marks}
use Rattle.cpu_core.proofs.Handed.{has-room, stepped-from}
use Rattle.cpu_core.proofs.parts.Parts.step.Goals as goal

pub push-requires : goal.push-requires
push-requires c =
    subst HasRoom (sym (ap (λ (d : Parts). d.marked) c.take.ensures.parts))
    (has-room c.args.self.now c.args.value c.requires (subst (λ (o : Option Item). IsSome o) (sym c.in-Some.is ∙ c.take.ensures.item) refl))

pub returns-in-Some : goal.returns-in-Some
returns-in-Some c =
    let d = c.args.self.now in
    let same : c.push.new.self ≡ record d.marked { items = d.marked.items ++ record { place = low c.args.value; item = c.in-Some.item } ∷ [] } =
    c.push.ensures ∙ (λ i. let m : Marks = (c.take.ensures.parts i).marked in
    record m { items = m.items ++ record { place = c.items_at.ensures i; item = c.in-Some.item } ∷ [] }) in
    (λ i. record (c.take.ensures.parts i) { marked = same i })
    ∙ sym (stepped-from d c.args.value (Some c.in-Some.item) (sym c.in-Some.is ∙ c.take.ensures.item))

pub returns-in_default : goal.returns-in_default
returns-in_default c =
    let d = c.args.self.now in
    c.take.ensures.parts
    ∙ sym (stepped-from d c.args.value None (sym c.in_default.is ∙ c.take.ensures.item)
    ∙ λ i. record (unmarked d (stepped d c.args.value)) { marked = record d.marked { items = append-nil d.marked.items i } })
