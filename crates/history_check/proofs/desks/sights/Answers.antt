use Rattle.std.proofs.Common.{ℕ, ◌+◌, sym, subst, ◌∙◌, ap}
use Rattle.std.proofs.lemmas.List.{length_push}
use Rattle.ft_base.specs.Desk.{user_at}
use Rattle.ft_base.proofs.Small.{each-pushed}
use Rattle.history_check.specs.declared.desks.Sight.{Sight}
use Rattle.history_check.specs.DeskRows.{IsSightOf}
use Rattle.history_check.proofs.desks.sights.Goals as goal

pub loop-u-preserved : goal.loop-u-preserved
loop-u-preserved c =
    let users = c.loop-u.users.items in
    let sight = c.in_ok-sight.sight in
    let state = c.args.desk.now.state in
    let was = c.loop-u.invariant in
    let pushed = (rw (sym c.in_ok-map_err.ensures.variant) at c.push.ensures.items) in
    rw pushed (record {
      size = length_push users sight ∙ ap (λ n. n + 1) was.size;
      each = each-pushed (λ (u : ℕ) (s : Sight). IsSightOf (user_at state u) s) users sight was.each
          (subst (λ u. IsSightOf (user_at state u) sight) (sym was.size) c.in_ok-sight.ensures);
    })
