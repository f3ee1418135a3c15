use Rattle.std.proofs.Common.{◌≡◌, ◌≤◌, ◌+◌, ◌++◌, length, sym, subst}
use Rattle.glob_filter.specs.Items.{first_item, items_of}
use Rattle.glob_filter.specs.TokenItems.{token_items}
use Rattle.glob_filter.proofs.Texts.{one_more, length_after}
use Rattle.glob_filter.proofs.parse.read_tokens.Goals as goal

pub loop-first-preserved : goal.loop-first-preserved
loop-first-preserved c = record {
  same = subst (λ tokens. token_items tokens ++ items_of c.in_ok-token.after.now ≡ items_of c.args.text.now) (sym c.in_ok-push.ensures.items)
      (one_more c.args.text.now c.loop-first.tokens.items c.in_ok-token.token c.loop-first.rest.now c.in-Some.first.now c.in-Some.others.now c.in_ok-token.after.now
      c.in-Some.ensures.cases.0 c.in_ok-token.ensures.item c.in_ok-token.ensures.rest c.loop-first.invariant.same);
  most = subst (λ tokens. length tokens + length c.in_ok-token.after.now ≤ length c.args.text.now) (sym c.in_ok-push.ensures.items)
      (length_after c.loop-first.tokens.items c.in_ok-token.token (length c.args.text.now) c.loop-first.rest.now c.in-Some.first.now
      (first_item c.in-Some.first.now c.in-Some.others.now).1 c.in-Some.others.now c.in_ok-token.after.now
      c.in-Some.ensures.cases.0 c.in_ok-token.ensures.rest c.loop-first.invariant.most);
}
