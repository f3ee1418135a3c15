use Rattle.std.proofs.Common.{◌≡◌, ◌∷◌, refl, sym, ap, subst, arith}
use Rattle.glob_filter.specs.Items.{star}
use Rattle.glob_filter.specs.Places.{IsFilled}
use Rattle.glob_filter.specs.TokenItems.{item_of}
use Rattle.glob_filter.proofs.PlaceLemmas.{not-star, IsFilled-star, IsFilled-one}
use Rattle.glob_filter.proofs.places.put_before.Goals as goal

pub returns-in-Star-clause-filled : goal.returns-in-Star-clause-filled
returns-in-Star-clause-filled c items filled =
    let is : item_of c.args.token.now ≡ star = ap item_of c.in-Star.is in
    subst (λ item. IsFilled c.args.takes.now c.set_place.new.words c.args.place (item ∷ items)) (sym is)
    (IsFilled-star c.args.takes.now c.args.stars.now c.set_place.new.words c.args.place items filled c.set_place.ensures.places)

pub returns : goal.returns
returns c = record {
  filled = λ items filled. IsFilled-one c.args.takes.now c.set_taken.new.table c.args.stars.now c.args.place (item_of c.args.token.now) items
      (not-star c.args.token.now c.in_default.not-Star) filled c.set_taken.ensures.bytes;
  most = omega arith;
  takes = c.set_taken.ensures.size;
  stars = refl;
}
