-- What the view function has made of the items of a job so far.
use Rattle.std.specs.Prelude.{ℕ, ◌≡◌, ◌<◌, true, List, [], length, reverse, get_or, vec_capacity}
use Rattle.ft_base.specs.declared.item.Item.{Item}
use Rattle.ft_base.specs.Desk.{spec_at}
use Rattle.ft_base.specs.Job.{Job}
use Rattle.ft_base.specs.Kinds.{is_function}
use Rattle.trace_views.specs.declared.function.FunctionView.{FunctionView}
use Rattle.trace_views.specs.FunctionText.{function_part}
use Rattle.trace_views.specs.OpenCalls.{IsFollowed, function_line_text}
use Rattle.trace_views.specs.Words.{item_texts, lines_text}

-- The view has taken these items of a job, the latest first.
--   tracers  which users are function tracers
--   calls    the open calls
--   place'   the place of the next item
--   texts    the lines have the texts of the items
pub record HasFunction (job : Job) (past : List Item) (view : FunctionView) : Type 0 where
  pub tracers : (u : ℕ) → get_or view.tracers.items u true ≡ is_function (spec_at job u).kind
  pub calls : IsFollowed job past view.open
  pub place' : view.place ≡ length past
  pub texts : lines_text (function_line_text job) view.lines.items ≡ item_texts (function_part job) [] (reverse past)

-- there is room for the line of one more item
abbrev pub HasRoom : FunctionView → Type 0
HasRoom view = length view.lines.items < vec_capacity view.lines
