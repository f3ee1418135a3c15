-- The lines of the form rings as the program holds them, and where the lines of a ring's entries are found.
use Rattle.std.specs.Prelude.{ℕ, ◌≡◌, ◌<◌, Bool, true, false, List, length, slice_get, slice_index_or, Option, Some, None}
use Rattle.std.specs.List.{AllByRecursion as Each}
use Rattle.std.specs.List.Sorted.{IsNonDecreasingBy}
use Rattle.ft_base.specs.declared.number.CallNo.{CallNo}
use Rattle.ft_base.specs.declared.item.Item.{Item}
use Rattle.ft_base.specs.declared.item.Item.TheVariants.{Back}
use Rattle.ft_base.specs.Items.{kind_of}
use Rattle.ft_base.specs.Job.{Job}
use Rattle.ft_hist.specs.Telling.{past_at}
use Rattle.ring_rules.specs.Fold.{Rings}
use Rattle.trace_views.specs.declared.function.FunctionLine.{FunctionLine}
use Rattle.trace_views.specs.declared.rings.RingsLine.{RingsLine}
use Rattle.trace_views.specs.declared.rings.RingsLine.TheVariants.{Cpu, Entry, Trigger}
use Rattle.trace_views.specs.FunctionText.{function_line}
use Rattle.trace_views.specs.ItemCounts.{is_back}
use Rattle.trace_views.specs.OpenCalls.{function_line_text}
use Rattle.trace_views.specs.RingsText.{cpu_line, trigger_line, entry_text}

-- whether an item, if there is one, is an entry callback
abbrev pub is_entry : Option Item → Bool
is_entry None = false
is_entry (Some item) = is_back (kind_of item)

-- whether an entry callback is at a place
abbrev pub is_back_at : List Item → ℕ → Bool
is_back_at items p = is_entry (slice_get items p)

-- each place that a ring holds is that of an entry callback of the history
abbrev pub HasEntries : List Item → Rings → Type 0
HasEntries items rings = Each (λ ring. Each (λ p. is_back_at items p ≡ true) ring.held) rings.cpus

-- the text of a line
abbrev pub rings_line_text : Job → RingsLine → List ℕ
rings_line_text job (Cpu cpu held written) = cpu_line cpu held written
rings_line_text job (Entry line) = function_line_text job line
rings_line_text job (Trigger trigger fired) = trigger_line trigger fired

-- ## the lines of entry callbacks, by place

-- the line is that of the entry callback at a place
pub record IsLineAt (job : Job) (items : List Item) (p : ℕ) (line : FunctionLine) : Type 0 where
  pub call : CallNo
  pub stands : slice_get items p ≡ Some (Back call line.user)
  pub place' : line.place ≡ p
  pub text : function_line_text job line ≡ function_line job (past_at p items) call line.user.0

-- a line has this place
abbrev pub HasLine : List FunctionLine → ℕ → Type 0
HasLine lines p = (i : ℕ) × (i < length lines) × ((line : FunctionLine) → (slice_index_or lines i line).place ≡ p)

-- each line has the text of the entry callback at its place
abbrev pub HaveTexts : Job → List Item → List FunctionLine → Type 0
HaveTexts job items lines = Each (λ line. function_line_text job line ≡ entry_text job items line.place) lines

-- The lines of the entry callbacks below a place.
--   rising, below   their places rise, and are below it
--   texts           they have the texts of the entry callbacks there
--   there           each entry callback has one
pub record AreBackLines (job : Job) (items : List Item) (place : ℕ) (lines : List FunctionLine) : Type 0 where
  pub rising : IsNonDecreasingBy (λ line. line.place) lines
  pub below : Each (λ line. line.place < place) lines
  pub texts : HaveTexts job items lines
  pub there : (p : ℕ) → p < place → is_back_at items p ≡ true → HasLine lines p
