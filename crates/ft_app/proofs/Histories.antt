-- The history that an order prints: it is legal, and no call of it reaches a function of a module that isn't loaded.
use Rattle.std.proofs.Common.{◌≡◌, ℕ, ◌||◌, ◌==◌, Bool, Option, List, [], ◌∷◌, reverse, refl, sym, ap, ap₂, ◌∙◌, subst}
use Rattle.std.specs.List.{list_any}
use Rattle.ft_base.specs.declared.item.Item.{Item}
use Rattle.ft_base.specs.Job.{Job, ModuleRow}
use Rattle.ft_base.proofs.Small.{false_true}
use Rattle.ft_hist.specs.Rules.{IsLegal}
use Rattle.module_coverage.specs.Apart.{IsApart}
use Rattle.module_coverage.proofs.Still.{there}
use Rattle.ft_words.specs.declared.order.Order.{Order}
use Rattle.ft_words.specs.declared.order.Order.TheVariants.{Replay, Run, Bulk}
use Rattle.ring_rules.specs.Fold.{Rings}
use Rattle.ft_script.specs.Script.{IsJobOf}
use Rattle.script_jobs.proofs.Modules.{calls-loaded, bodies-loaded, lanes-name-none}
use Rattle.script_jobs.specs.Merges.{IsMergeOf}
use Rattle.ft_app.specs.Reply.{IsLedFor, IsCarriedOut, IsHistoryFor, FindsModules}

pub history-legal : (order : Order) (job : Job) (items : List Item) (ended : Bool) → IsHistoryFor order job items ended → IsLegal job items
history-legal (Replay form) job items ended h = h.legal
history-legal (Run form) job items ended h = h.whole.legal
history-legal (Bulk n) job items ended h = h.legal

some-lane : (lane : ℕ) (lanes : List ℕ) → lane ∷ lanes ≡ [] → ⊥
some-lane lane lanes e = absurd cc

-- if no line names a module, all are loaded at each moment
all-loaded : (job : Job) (items : List Item) → job.lines.absent ≡ [] → job.lines.modules ≡ [] → FindsModules job items
all-loaded job items absent rows =
    (λ before item after call split of. there job _ (reverse before) (apart _), λ before after call g ran split. there job g.0 (reverse before) (apart g.0))
  where
    apart : (f : ℕ) → IsApart job f
    apart f in' =
        let m = in'.0 in
        let none = ap₂ (λ (a : List ℕ) (r : List ModuleRow). list_any (λ other. other == m) a || list_any (λ row. row.owner == m) r) absent rows in
        false_true (sym none ∙ in'.2)

module _ (script : List ℕ) (job : Job) (is : IsJobOf script job) (led : Job) (items : List Item) where
  -- it is the script's job
  same : led ≡ job → IsLegal led items → FindsModules led items
  same e legal =
      let legal' = subst (λ (j : Job). IsLegal j items) e legal in
      subst (λ (j : Job). FindsModules j items) (sym e) (calls-loaded script job items is legal', bodies-loaded script job items is legal')

  -- or one with its commands in another order, whose script has lanes
  merged : IsMergeOf job led → (lanes : List ℕ) → job.lines.lanes ≡ lanes → IsLegal led items → FindsModules led items
  merged m [] none legal = same (m.alone none) legal
  merged m (lane ∷ lanes) some legal =
      let are : job.lines.lanes ≡ [] → ⊥ = λ none. some-lane lane lanes (sym some ∙ none) in
      let order = m.merged are in
      let none = lanes-name-none script job is are in
      all-loaded led items (ap (λ (j : Job). j.lines.absent) order.2 ∙ none.0) (ap (λ (j : Job). j.lines.modules) order.2 ∙ none.1)

pub finds-modules : (order : Order) (script : List ℕ) (job led : Job) (items : List Item) (kept : Option Rings) (ended : Bool) → IsJobOf script job → IsCarriedOut order job led items kept ended
    → FindsModules led items
finds-modules order script job led items kept ended is out = by order out.led' (history-legal order led items ended out.history)
  where
    by : (o : Order) → IsLedFor o job led → IsLegal led items → FindsModules led items
    by (Replay form) e legal = same script job is led items e legal
    by (Run form) m legal = merged script job is led items m job.lines.lanes refl legal
    by (Bulk n) e legal = same script job is led items e legal
