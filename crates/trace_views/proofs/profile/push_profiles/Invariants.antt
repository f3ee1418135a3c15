use Rattle.std.proofs.Common.{◌≡◌, ◌++◌, List, drop}
use Rattle.std.specs.Prelude.{reverse}
use Rattle.ft_base.specs.declared.item.Item.{Item}
use Rattle.trace_views.specs.ProfileText.{user_profile, profile_line_text}
use Rattle.trace_views.specs.ProfileViews.{AreUserTallies}
use Rattle.trace_views.specs.Words.{lines_text, numbered_texts}
use Rattle.trace_views.proofs.profile.push_profiles.Given as goal

abbrev pub invariant-loop-u : goal.invariant-loop-u
invariant-loop-u g l = (past : List Item) → AreUserTallies (g.N.Named.job l.names) past l.users
    → lines_text (profile_line_text (g.N.Named.job l.names)) l.lines.items ++ numbered_texts (user_profile (g.N.Named.job l.names) (reverse past)) l.u (drop l.u (g.N.Named.job l.names).users)
    ≡ lines_text (profile_line_text (g.N.Named.job l.names)) l.initial.lines.items ++ numbered_texts (user_profile (g.N.Named.job l.names) (reverse past)) 0 (g.N.Named.job l.names).users
