use Rattle.std.proofs.Common.{◌≡◌, List, [], ◌∷◌, ◌++◌, length, sym, ap, ◌∙◌, subst, rules}
use Rattle.ft_base.specs.declared.item.Item.{Item}
use Rattle.trace_views.specs.LogText.{log_line}
use Rattle.log_reader.proofs.ReadLines.{IsReadTo, pushed, read-all, read-more, read-shorter}
use Rattle.log_reader.proofs.log.read_log.Goals as goal

pub returns-in-Some-clause-text : goal.returns-in-Some-clause-text
returns-in-Some-clause-text g c =
    read-all (g.N.Named.job c.args.names.now) c.args.text.now c.loop-ended.items.items c.loop-ended.rest.now c.in-Some.ended c.loop-ended.invariant.0 c.in-Some.ensures.some

-- the item that was taken makes the rest shorter
pub loop-ended-smaller : goal.loop-ended-smaller
loop-ended-smaller g c =
    let taken = rw c.in-Ok-Some.field-0-is at c.in-Ok-Some.ensures.taken in
    read-shorter (g.N.Named.job c.args.names.now) c.len-place.result c.in-Ok-Some.item c.loop-ended.rest.now c.in-Ok-Some.after.now taken.1

-- and is read of the text like those before it
pub loop-ended-preserved : goal.loop-ended-preserved
loop-ended-preserved g c =
    let job = g.N.Named.job c.args.names.now in
    let items = c.loop-ended.items.items in
    let rest = c.loop-ended.rest.now in
    let item = c.in-Ok-Some.item in
    let left = c.in-Ok-Some.after.now in
    let place : c.len-place.result ≡ length items = search rules in
    let taken = rw c.in-Ok-Some.field-0-is at c.in-Ok-Some.ensures.taken in
    let begins : rest ≡ log_line job (length items) item ++ left = taken.1 ∙ ap (λ n. log_line job n item ++ left) place in
    let now : c.push.new.self.items ≡ items ++ item ∷ [] =
    pushed c.push.result items (items ++ item ∷ []) c.push.new.self.items c.push.ensures.items (sym c.is_err.ensures.value ∙ c.if-is_err.false) in (
      subst (λ (xs : List Item). IsReadTo job c.args.text.now xs left) (sym now)
          (read-more job c.args.text.now items rest item left c.loop-ended.invariant.0 begins taken.0),
      c.in-Ok-Some.ensures.ready,
    )

pub first_item-requires-clause-ready : goal.first_item-requires-clause-ready
first_item-requires-clause-ready g c = c.loop-ended.invariant.1
