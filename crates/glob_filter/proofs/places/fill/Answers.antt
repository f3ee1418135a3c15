use Rattle.std.proofs.Common.{◌≡◌, ◌+◌, ◌-◌, ◌<◌, length, drop, sym, subst, arith}
use Rattle.std.proofs.lemmas.List.{drop_all}
use Rattle.glob_filter.specs.TokenItems.{token_items}
use Rattle.glob_filter.specs.Places.{IsFilled}
use Rattle.glob_filter.proofs.PlaceLemmas.{items_from, IsFilled-none}
use Rattle.glob_filter.proofs.places.fill.Goals as goal

pub loop-rest-init : goal.loop-rest-init
loop-rest-init c = record {
  filled = subst (λ tokens. IsFilled c.args.takes.now c.args.stars.now 0 (token_items tokens))
      (sym (drop_all (length c.args.tokens.now) c.args.tokens.now (omega arith)))
      (IsFilled-none c.args.takes.now c.args.stars.now c.requires.no_bytes c.requires.no_stars);
  most = omega arith;
}

pub loop-rest-preserved : goal.loop-rest-preserved
loop-rest-preserved c =
    let now = c.loop-rest in
    let after = c.put_before-place in
    let one : now.rest ≡ now.rest - 1 + 1 = omega arith in
    let within : now.rest - 1 < length c.args.tokens.now = omega (arith, now.invariant.most) in
    record {
      filled = subst (IsFilled after.new.takes after.new.stars after.result)
          (sym (items_from c.args.tokens.now now.rest (now.rest - 1) c.index-tokens-rest.result one within c.index-tokens-rest.is))
          (after.ensures.filled (token_items (drop now.rest c.args.tokens.now)) now.invariant.filled);
      most = omega (arith, now.invariant.most, after.ensures.most);
    }
