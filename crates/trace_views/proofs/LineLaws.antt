-- The lines of the view graph: one line more.
use Rattle.std.proofs.Common.{◌≡◌, ℕ, Bool, true, List, [], ◌∷◌, ◌++◌, append_assoc}
use Rattle.std.specs.Prelude.{if◌then◌else◌}
use Rattle.ft_base.specs.declared.item.Item.{Item}
use Rattle.ft_base.specs.Job.{Job}
use Rattle.ft_base.specs.Desk.{spec_at}
use Rattle.trace_views.specs.declared.graph_line.GraphLine.{GraphLine}
use Rattle.trace_views.specs.declared.graph_line.GraphLine.TheVariants.{User}
use Rattle.trace_views.specs.Words.{lines_text, item_texts, is_graph}
use Rattle.trace_views.specs.GraphText.{graph_part, user_graph}
use Rattle.trace_views.specs.GraphLines.{graph_line_text}
use Rattle.trace_views.proofs.LineTexts.{line-after}

-- a line was added, if there was memory
pub line-pushed : (job : Job) (lines new : List GraphLine) (line : GraphLine) (had : Bool) → had ≡ true → new ≡ (if had then lines ++ line ∷ [] else lines)
    → lines_text (graph_line_text job) new ≡ lines_text (graph_line_text job) lines ++ graph_line_text job line
line-pushed job lines new line had done grown =
    let more : new ≡ lines ++ line ∷ [] = rw done at grown in
    rw more (line-after (graph_line_text job) lines line)

-- a user's name, and its lines
pub user-said : (job : Job) (items : List Item) (u : ℕ) (old named all : List ℕ) → is_graph (spec_at job u).kind ≡ true → named ≡ old ++ graph_line_text job (User (record { 0 = u }))
    → all ≡ named ++ item_texts (graph_part job u) [] items → all ≡ old ++ user_graph job items u (spec_at job u)
user-said job items u old named all graph said more = rw (graph, more, said) (simp append_assoc)
