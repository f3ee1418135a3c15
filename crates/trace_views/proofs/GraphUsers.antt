-- A user's walk through a legal history.
use Rattle.std.proofs.Common.{◌≡◌, ℕ, ◌+◌, ◌<◌, List, [], ◌∷◌, ◌++◌, length, reverse, drop, sym, subst}
use Rattle.std.specs.List.{AllByRecursion as Each}
use Rattle.std.proofs.lemmas.List.{reverse-append, reverse-reverse}
use Rattle.std.proofs.lemmas.Option.{slice_get-get_or}
use Rattle.ft_base.specs.declared.item.Item.{Item}
use Rattle.ft_base.specs.declared.item.Item.TheVariants.{Begin, Back, Exit}
use Rattle.ft_base.specs.Job.{Job}
use Rattle.ft_base.proofs.Small.{Each-snoc}
use Rattle.ft_hist.specs.Rules.{IsLegal, IsLegalPast}
use Rattle.trace_views.specs.declared.graph.Walk.{Walk}
use Rattle.ft_hist.specs.Telling.{past_at}
use Rattle.trace_views.specs.Places.{part_at}
use Rattle.trace_views.specs.Words.{item_texts}
use Rattle.trace_views.specs.Leaves.{IsInTasks, AreInTasks}
use Rattle.trace_views.specs.GraphLines.{IsWalk, IsWalkAt}
use Rattle.trace_views.proofs.GraphLegal.{goes}
use Rattle.trace_views.proofs.TopCalls.{older}
use Rattle.trace_views.proofs.ItemTexts.{texts-more}

pub each-turned : {X : Type 0} (P : X → Type 0) (xs : List X) → Each P xs → Each P (reverse xs)
each-turned P [] h = tt
each-turned P (x ∷ xs) h = subst (λ ys. Each P ys) (sym (reverse-append (x ∷ []) xs)) (Each-snoc P (reverse xs) x (each-turned P xs h.1) h.0)

past-in : (job : Job) (past : List Item) → IsLegalPast job past → Each (IsInTasks (length job.tasks)) past
past-in job [] l = tt
past-in job (Back call v ∷ past) l = ((goes job (Back call v) past l).0, past-in job past (older job (Back call v) past l))
past-in job (Exit call v entry ∷ past) l = ((goes job (Exit call v entry) past l).0.0, past-in job past (older job (Exit call v entry) past l))
past-in job (item ∷ past) l = (tt, past-in job past (older job item past l))

-- the callbacks are of the job's tasks
pub tasks-in : (job : Job) (items : List Item) → IsLegal job items → AreInTasks (length job.tasks) items
unfolding IsLegal
tasks-in job items l = subst (λ xs. Each (IsInTasks (length job.tasks)) xs) (reverse-reverse items) (each-turned (IsInTasks (length job.tasks)) (reverse items) (past-in job (reverse items) l))

-- the walk begins
pub walk-start : (job : Job) (u tasks : ℕ) (items : List Item) (walk : Walk) → IsLegal job items → tasks ≡ length job.tasks → IsWalk u tasks [] items walk → IsWalkAt job u 0 items walk
walk-start job u tasks items walk l same h = record { legal = l; kept = subst (λ n. IsWalk u n [] items walk) same h }

-- one more text
pub texts-next : (part : List Item → Item → List Item → List ℕ) (items : List Item) (place : ℕ) (t t' all : List ℕ) → place < length items → t' ≡ t ++ part_at part place items
    → t ++ item_texts part (past_at place items) (drop place items) ≡ all → t' ++ item_texts part (past_at (place + 1) items) (drop (place + 1) items) ≡ all
texts-next part items place t t' all lt grown so_far = texts-more items place _ (slice_get-get_or items place (Begin 0) lt) part t t' all grown so_far
