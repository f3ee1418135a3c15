use Rattle.std.proofs.Common.{◌++◌, ◌∷◌, ◌∙◌, List, map, filter, ap, sym}
use Rattle.std.proofs.lemmas.Result.{on_ok_weaker}
use Rattle.func_profile.specs.Rows.{has_hit}
use Rattle.func_profile.specs.declared.profile.ProfileRow.{ProfileRow}
use Rattle.trace_views.specs.declared.profile.ProfileLine.TheVariants.{Row, User}
use Rattle.trace_views.specs.Words.{is_profile}
use Rattle.trace_views.proofs.ProfileLines.{profile-said}
use Rattle.trace_views.proofs.profile.push_profile.Goals as goal

pub returns-in-Profile : goal.returns-in-Profile
returns-in-Profile g c =
    on_ok_weaker c.push_user.result
    (λ grown past is. profile-said (g.N.Named.job c.args.names.now) past c.args.lines.now.items c.push_user.new.lines.items c.args.user c.args.tally.now is
    (ap is_profile (sym c.kind.ensures ∙ c.in-Profile.is))
    (grown ∙ ap (λ (rs : List ProfileRow). c.args.lines.now.items ++ User c.args.user ∷ map Row (filter has_hit rs)) c.rows.ensures))
    c.push_user.ensures
