-- A line of the view graph: what comes before its text, and the text.
use Rattle.std.proofs.Common.{◌≡◌, ℕ, List, ◌++◌, codes, Some, None, append_assoc}
use Rattle.ft_base.specs.Job.{Job}
use Rattle.trace_views.specs.GraphText.{graph_line}
use Rattle.trace_views.specs.GraphLines.{graph_front, entry_text, exit_text}

module _ (job : Job) (t lvl : ℕ) (function : List ℕ) where
  pub entry-none : graph_front job t None lvl ++ (function ++ codes "() {\n") ≡ entry_text job t lvl function None
  unfolding graph_line
  entry-none = simp append_assoc

  pub entry-some : (time : ℕ) → graph_front job t (Some time) lvl ++ (function ++ codes "();\n") ≡ entry_text job t lvl function (Some time)
  unfolding graph_line
  entry-some time = simp append_assoc

  pub exit-said : (time : ℕ) → graph_front job t (Some time) lvl ++ (codes "} /* " ++ (function ++ codes " */\n")) ≡ exit_text job t lvl function time
  unfolding graph_line
  exit-said time = simp append_assoc
