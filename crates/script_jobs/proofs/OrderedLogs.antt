-- The log of a script in lanes tells its history, and the order of its commands: it has the lane of each command, and each lane's commands
-- have their own order.
use Rattle.std.proofs.Common.{◌≡◌, ℕ, suc, ◌<◌, ◌^◌, Bool, List, [], ◌∷◌, length, reverse, refl, sym, ◌∙◌, subst, arith, inl, inr}
use Rattle.std.specs.Prelude.{Contains}
use Rattle.std.specs.List.{AllByRecursion as Each}
use Rattle.std.proofs.lemmas.Bool.{cases_lt}
use Rattle.std.proofs.lemmas.List.Elements.{All-contains, All-contains_itself, All-from_recursion, recursion_from_All}
use Rattle.ft_base.specs.declared.item.Item.{Item}
use Rattle.ft_base.specs.declared.item.Item.TheVariants.{Begin}
use Rattle.ft_base.specs.Job.{Job, commands}
use Rattle.ft_base.proofs.Small.{Contains-head, Contains-more}
use Rattle.ft_hist.specs.Past.{begun}
use Rattle.ft_hist.specs.Rules.{IsLegal, IsLegalPast, IsWhole}
use Rattle.ft_hist.proofs.WindowLaws.{legal-counts}
use Rattle.word_machine_laws.specs.Led.{in_order}
use Rattle.word_machine_laws.specs.Orders.{picked, AreLed, IsLaneOrder}
use Rattle.word_machine_laws.proofs.LedLimits.{each_picked, limited_in_order}
use Rattle.ft_job.specs.Plans.{IsCommand, HasLanes}
use Rattle.ft_job.proofs.Ordered.{all-commands}
use Rattle.ft_script.specs.Script.{IsJobOf}
use Rattle.trace_views.specs.LogText.{log_text}
use Rattle.trace_views.proofs.GraphUsers.{each-turned}
use Rattle.trace_lines.specs.LogItems.{IsNamedApart, AreNamedAlike, AreInLanesAlike}
use Rattle.trace_lines.proofs.LogTells.{same-lanes}
use Rattle.log_reader.specs.Refused.{IsNumbered}
use Rattle.word_machine.specs.Limits.{IsLimited}
use Rattle.script_jobs.proofs.Texts.{accepted_limited}
use Rattle.script_jobs.proofs.Names.{accepted_named, accepted_replaced}
use Rattle.script_jobs.proofs.LegalItems.{legal-items}
use Rattle.script_jobs.proofs.Logs.{each-of, short}
use Rattle.script_jobs.proofs.LaneOrders.{each-led, lanes-tell, picked-all, same-list}

-- ## what has begun

-- each command up to those that have begun has its Begin
begins-in : (job : Job) (past : List Item) → IsLegalPast job past → (i : ℕ) → i < begun past → Contains past (Begin (suc i))
unfolding IsLegalPast
begins-in job [] l i lt = absurd (omega (arith, lt))
begins-in job (Begin k ∷ past) l i lt = elim (cases_lt i (begun past)) [
  | inl below ↦ Contains-more (Begin k) (Begin (suc i)) past (begins-in job past l.1 i below)
  | inr above ↦
      let number = l.0.commands.0.number in
      let is : k ≡ suc i = omega (arith, number, above, lt) in
      subst (λ (n : ℕ). Contains (Begin k ∷ past) (Begin n)) is (Contains-head (Begin k) past)
]
begins-in job (item ∷ past) l i lt = Contains-more item (Begin (suc i)) past (begins-in job past l.1 i lt)

-- an item of the past is one of the history
from-past : (items : List Item) (item : Item) → Contains (reverse items) item → Contains items item
from-past items item =
    All-contains (Contains items) (reverse items) item (All-from_recursion (Contains items) (reverse items)
    (each-turned (Contains items) items (recursion_from_All (Contains items) items (All-contains_itself items))))

-- in a whole history each command begins
begins-whole : (job : Job) (items : List Item) → IsWhole job items → (i : ℕ) → i < length (commands job) → Contains items (Begin (suc i))
unfolding IsLegal
begins-whole job items whole i lt =
    let counts = (legal-counts job (reverse items) whole.legal).0 in
    let all = whole.returned in
    from-past items (Begin (suc i)) (begins-in job (reverse items) whole.legal i (omega (arith, lt, counts, all)))

-- ## orders of a script's lanes

module _ (text : List ℕ) (job : Job) (is : IsJobOf text job) (has : HasLanes job) where
  abbrev Ordered : List ℕ → Type 0
  Ordered order = IsLaneOrder job.lines.lanes order

  each-line : length job.lines.lanes ≡ length job.ctls
  each-line = has.each ∙ all-commands job.ctls has.commands'

  led-lines : (order : List ℕ) → Ordered order → AreLed (length job.ctls) order
  led-lines order lanes = subst (λ (n : ℕ). AreLed n order) each-line lanes.each.led

  limited : (order : List ℕ) → Ordered order → IsLimited (in_order job order)
  limited order lanes = limited_in_order job order (accepted_limited text job is) (led-lines order lanes)

  pub named : (order : List ℕ) → IsNamedApart (in_order job order)
  named order =
      let n = accepted_named text job is in
      record {
        functions = n.functions;
        users = n.users;
        pids = n.pids;
        lanes = each_picked (λ lane. lane < 2 ^ 64) job.lines.lanes order n.lanes;
        apart_functions = n.apart_functions;
        apart_users = n.apart_users;
        apart_pids = n.apart_pids;
      }

  pub few : (order : List ℕ) (items : List Item) → Ordered order → IsLegal (in_order job order) items → length items < 2 ^ 32
  few order items lanes legal = short (in_order job order) items (limited order lanes) legal

  pub are-numbered : (order : List ℕ) (items : List Item) → Ordered order → IsLegal (in_order job order) items → Each (IsNumbered (in_order job order)) items
  are-numbered order items lanes legal =
      let l = limited order lanes in
      legal-items (in_order job order) l.job' (accepted_replaced text job is) items legal (few order items lanes legal)

  -- there are as many lanes as before, and as many commands
  pub count-lanes : (order : List ℕ) → Ordered order → length (picked job.lines.lanes order) ≡ length job.lines.lanes
  count-lanes order lanes = picked-all job.lines.lanes order (each-led (λ k. k < length job.lines.lanes) order lanes.each.led.within) ∙ lanes.each.all

  pub count-commands : (order : List ℕ) → Ordered order → length (commands (in_order job order)) ≡ length job.lines.lanes
  count-commands order lanes =
      all-commands (picked job.ctls order) (each_picked IsCommand job.ctls order has.commands')
      ∙ picked-all job.ctls order (each-led (λ k. k < length job.ctls) order (led-lines order lanes).within) ∙ lanes.each.all

  -- commands in the same lanes are in the same order
  one-order : (order other : List ℕ) (a : List Item) → Ordered order → Ordered other → IsWhole (in_order job order) a
      → AreInLanesAlike (in_order job order) (in_order job other) a → order ≡ other
  one-order order other a lanes lanes' whole alike =
      lanes-tell job.lines.lanes order other lanes lanes' (same-list (picked job.lines.lanes order) (picked job.lines.lanes other)
      (count-lanes order lanes ∙ sym (count-lanes other lanes'))
      (λ i lt. alike (suc i) (begins-whole (in_order job order) a whole i (let n = count-commands order lanes in let m = count-lanes order lanes in omega (arith, lt, n, m)))))

  pub log-tells-order : (order other : List ℕ) (a b : List Item) (x y : Bool) → Ordered order → Ordered other
      → IsWhole (in_order job order) a → IsWhole (in_order job other) b
      → log_text (in_order job order) a x ≡ log_text (in_order job other) b y → (order ≡ other) × (a ≡ b) × (x ≡ y)
  log-tells-order order other a b x y lanes lanes' whole whole' e =
      let alike : AreNamedAlike (in_order job order) (in_order job other) = record { functions = refl; users = refl; tasks = refl } in
      let items = each-of (in_order job order) a (are-numbered order a lanes whole.legal) in
      let items' = each-of (in_order job other) b (are-numbered other b lanes' whole'.legal) in
      let many = few order a lanes whole.legal in
      let many' = few other b lanes' whole'.legal in
      let told =
      same-lanes (in_order job order) (in_order job other) a b x y alike (named order) (named other) items items' (omega (arith, many)) (omega (arith, many')) e in
      (one-order order other a lanes lanes' whole told.2, told.0, told.1)
