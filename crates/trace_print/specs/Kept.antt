-- What is kept of a history for a text.
use Rattle.std.specs.Prelude.{◌≡◌, ◌<◌, false, List, reverse}
use Rattle.std.specs.List.{list_any}
use Rattle.ft_base.specs.declared.item.Item.{Item}
use Rattle.ft_base.specs.Job.{Job}
use Rattle.ft_hist.specs.Past.{done}
use Rattle.ft_machine.specs.MachineStates.{past_in}
use Rattle.ft_words.specs.declared.order.Form.{Form}
use Rattle.ft_words.specs.declared.order.Form.TheVariants as forms
use Rattle.trace_views.specs.Counted.{AreTotals}
use Rattle.trace_views.specs.FunctionViews.{HasFunction, HasRoom as HasRoomForLine}
use Rattle.trace_views.specs.ProfileViews.{HasProfile}
use Rattle.trace_views.specs.RingViews.{HasRings}
use Rattle.trace_views.specs.Words.{is_graph}
use Rattle.trace_print.specs.declared.kept.Kept.{Kept}
use Rattle.trace_print.specs.declared.kept.Kept.TheVariants.{History, Graph, NoGraph, Function, Profile, Returned, Nothing, Rings, Totals}

-- ## of which items

-- no user of the job is a graph user
abbrev pub HasNoGraph : Job → Type 0
HasNoGraph job = list_any (λ user. is_graph user.kind) job.users ≡ false

-- it is kept of these items of a job, the latest first
abbrev pub Has : Job → List Item → Kept → Type 0
Has job past (History h) = past_in h ≡ past
Has job past (Graph h) = past_in h ≡ past
Has job past NoGraph = HasNoGraph job
Has job past (Function v) = HasFunction job past v
Has job past (Profile v) = HasProfile job past v
Has job past (Returned n) = n ≡ done past
Has job past Nothing = Unit {0}
Has job past (Rings v) = HasRings job past v
Has job past (Totals t) = AreTotals (reverse past) t

-- it is kept of these items of a job, in order
abbrev pub IsKeptOf : Job → List Item → Kept → Type 0
IsKeptOf job items (History h) = h.items ≡ items
IsKeptOf job items (Graph h) = h.items ≡ items
IsKeptOf job items NoGraph = HasNoGraph job
IsKeptOf job items (Function v) = HasFunction job (reverse items) v
IsKeptOf job items (Profile v) = HasProfile job (reverse items) v
IsKeptOf job items (Returned n) = n ≡ done (reverse items)
IsKeptOf job items Nothing = Unit {0}
IsKeptOf job items (Rings v) = HasRings job (reverse items) v
IsKeptOf job items (Totals t) = AreTotals items t

-- all items are kept, and this holds of them
abbrev pub IsAllAnd : Kept → (List Item → Type 0) → Type 0
IsAllAnd (History h) P = P h.items
IsAllAnd (Graph h) P = ⊥
IsAllAnd NoGraph P = ⊥
IsAllAnd (Function v) P = ⊥
IsAllAnd (Profile v) P = ⊥
IsAllAnd (Returned n) P = ⊥
IsAllAnd Nothing P = ⊥
IsAllAnd (Rings v) P = ⊥
IsAllAnd (Totals t) P = ⊥

-- ## for what

-- what is kept: all items, what one form needs, or what the summary needs
pub data Content : Type 0 where
  AllItems : Content
  ForForm : (form : Form) → Content
  ForSummary : Content

-- for what this is kept
abbrev pub content_of : Kept → Content
content_of (History h) = AllItems
content_of (Graph h) = ForForm forms.Graph
content_of NoGraph = ForForm forms.Graph
content_of (Function v) = ForForm forms.Function
content_of (Profile v) = ForForm forms.Profile
content_of (Returned n) = ForForm forms.Enabled
content_of Nothing = ForForm forms.Modules
content_of (Rings v) = ForForm forms.Rings
content_of (Totals t) = ForSummary

-- what is kept for the text of a form: no more than it needs
abbrev pub content_for : Form → Content
content_for forms.Log = AllItems
content_for forms.Function = ForForm forms.Function
content_for forms.Graph = ForForm forms.Graph
content_for forms.Profile = ForForm forms.Profile
content_for forms.Enabled = ForForm forms.Enabled
content_for forms.Modules = ForForm forms.Modules
content_for forms.Rings = ForForm forms.Rings

-- the text of a form can be made of it
abbrev pub ServesForm : Form → Content → Type 0
ServesForm form AllItems = Unit {0}
ServesForm form (ForForm own) = form ≡ own
ServesForm form ForSummary = ⊥

-- the text of a form can be made of what is kept
abbrev pub IsEnoughFor : Form → Kept → Type 0
IsEnoughFor form kept = ServesForm form (content_of kept)

-- the summary can be made of it
abbrev pub ServesSummary : Content → Type 0
ServesSummary AllItems = Unit {0}
ServesSummary (ForForm own) = ⊥
ServesSummary ForSummary = Unit {0}

-- the summary can be made of what is kept
abbrev pub IsForSummary : Kept → Type 0
IsForSummary kept = ServesSummary (content_of kept)

-- ## while items come

-- there is room for what is kept of one more item
abbrev pub HasRoom : Kept → Type 0
HasRoom (History h) = 0 < h.spare
HasRoom (Graph h) = 0 < h.spare
HasRoom NoGraph = Unit {0}
HasRoom (Function v) = HasRoomForLine v
HasRoom (Profile v) = Unit {0}
HasRoom (Returned n) = Unit {0}
HasRoom Nothing = Unit {0}
HasRoom (Rings v) = Unit {0}
HasRoom (Totals t) = Unit {0}

-- it has taken these items of a job, the latest first, and is for what it was for when it had taken none
pub record HasTaken (job : Job) (past : List Item) (first kept : Kept) : Type 0 where
  pub content : content_of first ≡ content_of kept
  pub has : Has job past kept
