-- What is kept of a history, and the rings that threads have kept, if they were told to.
use Rattle.std.proofs.Common.{◌≡◌, ◌≢◌, Bool, List, [], Option, Some, None, Result, Ok, Err, refl, sym, ap, subst}
use Rattle.ft_base.specs.declared.item.Item.{Item}
use Rattle.std.specs.Prelude.{IfOk, OnOk}
use Rattle.ft_base.specs.declared.memory.NoMemory.{NoMemory}
use Rattle.ft_base.specs.Job.{Job}
use Rattle.ft_hist.specs.Shown.{Shown}
use Rattle.ring_rules.specs.Fold.{Rings}
use Rattle.ring_rules.specs.Legal.{RingsLegal}
use Rattle.ring_rules.specs.Plan.{plan_of}
use Rattle.ft_words.specs.declared.order.Form.{Form}
use Rattle.ft_words.specs.declared.order.Form.TheVariants as forms
use Rattle.ft_words.specs.declared.order.Order.{Order}
use Rattle.ft_words.specs.declared.order.Order.TheVariants.{Replay, Run, Bulk}
use Rattle.trace_print.specs.declared.kept.Kept.{Kept}
use Rattle.trace_print.specs.declared.kept.Kept.TheVariants as keeps
use Rattle.trace_print.specs.declared.kept.Kept.TheVariants.{History, Graph, NoGraph, Function, Profile, Returned, Nothing, Totals}
use Rattle.trace_print.specs.Kept.{AllItems, IsAllAnd, IsEnoughFor, IsKeptOf, ServesForm, content_of}
use Rattle.trace_print.specs.Texts.{text_of}
use Rattle.ft_app.specs.declared.carried_out.CarriedOut.{CarriedOut}
use Rattle.ft_app.specs.Main.{IsPlain}
use Rattle.script_jobs.specs.Merges.{IsMergeOf}
use Rattle.ft_app.specs.Reply.{IsCarriedOut, IsKeptFor, IsMade, IsReplayOf, IsRunOf, content_to_keep, history_of, printed}

-- there are none
pub none-kept : (order : Order) (led : Job) (items : List Item) (kept : Option Rings) → kept ≡ None → IsKeptFor order led items kept
none-kept order led items kept none = rw none (record { legal = tt; only = tt })

-- there are some, of a job without lanes
pub some-kept : (form : Form) (job led : Job) (given items : List Item) (rings : Rings) (kept : Option Rings) → form ≡ forms.Rings → led ≡ job → items ≡ given
    → kept ≡ Some rings → job.lines.lanes ≡ [] → RingsLegal (plan_of job) given rings → IsKeptFor (Run form) led items kept
some-kept form job led given items rings kept is same same' some none legal =
    rw (same, same', some) (record { legal = legal; only = (ap (λ (f : Form). Run f) is, none) })

-- what threads print in another form is the text of that
pub printed-without : (form : Form) (led : Job) (items : List Item) (kept : Option Rings) (ended : Bool) → form ≢ forms.Rings → IsKeptFor (Run form) led items kept
    → printed (Run form) led items kept ended ≡ text_of form led items ended
printed-without form led items None ended other k = refl
printed-without form led items (Some rings) ended other k = absurd (other (form-of k.only.0))
  where
    form-of : Run form ≡ Run forms.Rings → form ≡ forms.Rings
    form-of e = cc

-- all items are kept
pub all-kept : (kept : Kept) (h : Shown) (P : List Item → Type 0) → kept ≡ History h → P h.items → IsAllAnd kept P
all-kept kept h P is has = subst (λ (k : Kept). IsAllAnd k P) (sym is) has

-- all items are enough for each form
pub all-enough : (kept : Kept) → content_of kept ≡ AllItems → (form : Form) → IsEnoughFor form kept
all-enough kept all form = subst (ServesForm form) (sym all) tt

-- a text that was written whole, as the reply says it
pub replied-all : {A E F : Type 0} (written : Result A E) (reply : Result A F) (x : A) (P : Type 0) → OnOk reply (written ≡ Ok x) → OnOk written P → OnOk reply P
replied-all written (Ok y) x P was given = subst (λ w. OnOk w P) was given
replied-all written (Err e) x P was given = tt

-- a replay is how an order is carried out without running threads
pub plain-made : (order : Order) → IsPlain order → (job : Job) (made : Result CarriedOut NoMemory) → IfOk made (λ c. c.job ≡ job)
    → IfOk made (λ c. IsKeptOf job (history_of job) c.kept) → IfOk made (λ c. content_of c.kept ≡ content_to_keep order) → IfOk made (λ c. IsReplayOf job (history_of job) c.ended)
    → IfOk made (λ c. c.rings ≡ None) → IfOk made (λ c. (items : List Item) × IsMade order job c items)
plain-made order plain job (Err fault) same kept content replay none = tt
plain-made (Replay form) plain job (Ok c) same kept content replay none = (
  history_of job,
  record {
    kept = subst (λ (j : Job). IsKeptOf j (history_of job) c.kept) (sym same) kept;
    content = content;
    carried_out = record {
      led' = same;
      history = subst (λ (j : Job). IsReplayOf j (history_of job) c.ended) (sym same) replay;
      kept' = none-kept (Replay form) c.job (history_of job) c.rings none;
    };
  },
)
plain-made (Run form) plain job (Ok c) same kept content replay none = absurd plain
plain-made (Bulk n) plain job (Ok c) same kept content replay none = (
  history_of job,
  record {
    kept = subst (λ (j : Job). IsKeptOf j (history_of job) c.kept) (sym same) kept;
    content = content;
    carried_out = record {
      led' = same;
      history = subst (λ (j : Job). IsReplayOf j (history_of job) c.ended) (sym same) replay;
      kept' = none-kept (Bulk n) c.job (history_of job) c.rings none;
    };
  },
)

-- threads have made all items
pub run-made : (form : Form) (job : Job) (made : Result CarriedOut NoMemory) → IfOk made (λ c. IsMergeOf job c.job)
    → IfOk made (λ c. IsAllAnd c.kept (λ items. IsRunOf c.job items c.ended)) → IfOk made (λ c. IsAllAnd c.kept (λ items. IsKeptFor (Run form) c.job items c.rings))
    → IfOk made (λ c. (items : List Item) × IsMade (Run form) job c items)
run-made form job (Err fault) led run kept = tt
run-made form job (Ok c) led run kept = all c.kept refl run kept
  where
    all : (k : Kept) → c.kept ≡ k → IsAllAnd k (λ items. IsRunOf c.job items c.ended) → IsAllAnd k (λ items. IsKeptFor (Run form) c.job items c.rings)
        → (items : List Item) × IsMade (Run form) job c items
    all (History h) e run kept = (
      h.items,
      record {
        kept = subst (IsKeptOf c.job h.items) (sym e) refl;
        content = ap content_of e;
        carried_out = record { led' = led; history = run; kept' = kept };
      },
    )
    all (Graph h) e run kept = absurd run
    all NoGraph e run kept = absurd run
    all (Function v) e run kept = absurd run
    all (Profile v) e run kept = absurd run
    all (Returned n) e run kept = absurd run
    all Nothing e run kept = absurd run
    all (keeps.Rings v) e run kept = absurd run
    all (Totals t) e run kept = absurd run
