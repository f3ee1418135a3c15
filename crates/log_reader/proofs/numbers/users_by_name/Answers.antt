use Rattle.std.proofs.Common.{refl, sym, ◌∙◌, bytes_eq}
use Rattle.std.specs.HashMap.{get_by}
use Rattle.std.proofs.lemmas.Map.Text.{hash_map_updates_str}
use Rattle.std.proofs.lemmas.Slice.Eq.{bytes_eq-Decides}
use Rattle.ft_base.specs.declared.number.UserNo.{UserNo}
use Rattle.trace_views.specs.Words.{user_word}
use Rattle.log_reader.proofs.Maps.{found-more, on-ok}
use Rattle.log_reader.proofs.numbers.users_by_name.Goals as goal

pub loop-n-preserved : goal.loop-n-preserved
loop-n-preserved g c =
    let put = on-ok c.insert.result c.insert.ensures.updates (sym c.is_err.ensures.value ∙ c.if-is_err.false) in
    found-more bytes_eq bytes_eq-Decides (λ (x : UserNo). x.0) (user_word (g.N.Named.job c.args.names.now)) c.loop-n.n (record { 0 = c.loop-n.n }) c.user.result.now
    (λ w. get_by (λ k. bytes_eq w k.now) c.loop-n.found) (λ w. get_by (λ k. bytes_eq w k.now) c.insert.new.self) refl c.user.ensures
    (λ w. hash_map_updates_str c.user.result.now c.loop-n.found c.insert.new.self _ put w)
    c.loop-n.invariant
