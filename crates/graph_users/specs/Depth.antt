-- The depth rule (ftrace.rst, max_graph_depth).
use Rattle.std.specs.Prelude.{ℕ, ◌≡◌, ◌<◌, ◌⊎◌}

-- the other calls hold fewer frames than there may be, and the graph depth is none or allows one more level
abbrev pub MayEnter : ℕ → ℕ → ℕ → Type 0
MayEnter held limit depth = (held < limit) × ((depth ≡ 0) ⊎ (held < depth))
