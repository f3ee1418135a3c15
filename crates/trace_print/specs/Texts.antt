-- The text of a history in each form, and of the lines that are worked out for it.
use Rattle.std.specs.Prelude.{ℕ, Bool, List}
use Rattle.ft_base.specs.declared.item.Item.{Item}
use Rattle.ft_base.specs.Job.{Job}
use Rattle.ft_words.specs.declared.order.Form.{Form}
use Rattle.ft_words.specs.declared.order.Form.TheVariants.{Log, Function, Graph, Profile, Enabled, Modules, Rings}
use Rattle.trace_print.specs.declared.forms.Lines.{Lines}
use Rattle.trace_print.specs.declared.forms.Lines.TheVariants as lines
use Rattle.trace_views.specs.Words.{lines_text}
use Rattle.trace_views.specs.LogText.{log_text, log_lines}
use Rattle.trace_views.specs.FunctionText.{function_text}
use Rattle.trace_views.specs.OpenCalls.{function_line_text}
use Rattle.trace_views.specs.GraphText.{graph_text}
use Rattle.trace_views.specs.GraphLines.{graph_line_text}
use Rattle.trace_views.specs.ProfileText.{profile_text, profile_line_text}
use Rattle.trace_views.specs.EnabledText.{enabled_text, enabled_line_text}
use Rattle.trace_views.specs.ModulesText.{modules_text, module_line_text}
use Rattle.trace_views.specs.RingsText.{rings_text}
use Rattle.trace_views.specs.RingLines.{rings_line_text}
use Rattle.ring_rules.specs.Fold.{fold}
use Rattle.ring_rules.specs.Plan.{plan_of}

-- the text of the rings of a history that is gone through by place
abbrev pub fold_text : Job → List Item → Bool → List ℕ
fold_text job items ended = rings_text job items (fold (plan_of job) items) ended

-- the text in a form
abbrev pub text_of : Form → Job → List Item → Bool → List ℕ
text_of Log = log_text
text_of Function = function_text
text_of Graph = graph_text
text_of Profile = profile_text
text_of Enabled = enabled_text
text_of Modules = modules_text
text_of Rings = fold_text

-- the text of lines that are worked out, which are all but the last
abbrev pub body_of : Job → List Item → Lines → List ℕ
body_of job items lines.Log = log_lines job 0 items
body_of job items (lines.Function ls) = lines_text (function_line_text job) ls.items
body_of job items (lines.Graph ls) = lines_text (graph_line_text job) ls.items
body_of job items (lines.Profile ls) = lines_text (profile_line_text job) ls.items
body_of job items (lines.Enabled ls) = lines_text (enabled_line_text job) ls.items
body_of job items (lines.Modules ls) = lines_text (module_line_text job) ls.items
body_of job items (lines.Rings ls) = lines_text (rings_line_text job) ls.items
