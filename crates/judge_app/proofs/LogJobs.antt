-- The job of which a log is read.
use Rattle.std.proofs.Common.{cond, ◌≡◌, ◌≢◌, ◌<◌, ◌^◌, ◌==◌, ℕ, Bool, List, [], ◌∷◌, length, refl, sym, ap, ◌∙◌, subst, inl, inr, arith, ne_eqb}
use Rattle.ft_base.specs.Job.{Job}
use Rattle.ft_job.specs.Plans.{AreLinesPlanned}
use Rattle.ft_job.proofs.Ordered.{all-commands}
use Rattle.word_machine_laws.specs.Led.{in_order}
use Rattle.word_machine_laws.specs.Orders.{AreAllLed}
use Rattle.word_machine_laws.proofs.LedLimits.{each_picked}
use Rattle.trace_lines.specs.LogItems.{IsNamedApart}
use Rattle.word_machine.specs.Limits.{IsLimited}
use Rattle.log_reader.specs.Lanes.{lanes_named}
use Rattle.script_jobs.specs.Merges.{IsMergeOf}
use Rattle.judge_app.specs.Lanes.{led_by, told_order}
use Rattle.judge_app.proofs.LaneOrders.{told-order}

module _ (log : List ℕ) (job : Job) where
  abbrev order : List ℕ
  order = told_order job.lines.lanes (lanes_named log)

  pub led-alone : job.lines.lanes ≡ [] → led_by log job ≡ job
  led-alone none = ap (λ (lanes : List ℕ). cond (length lanes == 0) job (in_order job order)) none

  pub led-merged : job.lines.lanes ≢ [] → led_by log job ≡ in_order job order
  led-merged some = by job.lines.lanes refl
    where
      by : (lanes : List ℕ) → job.lines.lanes ≡ lanes → led_by log job ≡ in_order job order
      by [] e = absurd (some e)
      by (l ∷ ls) e =
          ap (λ (lanes : List ℕ). cond (length lanes == 0) job (in_order job order)) e
          ∙ ap (λ (b : Bool). cond b job (in_order job order)) (ne_eqb (length (l ∷ ls)) 0 (λ z. absurd (omega (arith, z))))

  -- it is the script's with its commands in an order of the lanes
  pub led-merge : IsMergeOf job (led_by log job)
  led-merge = record { alone = led-alone; merged = λ some. (order, told-order job.lines.lanes (lanes_named log), led-merged some) }

  -- it has the names of the script's own
  pub named-led : IsNamedApart job → IsNamedApart (led_by log job)
  named-led n = by job.lines.lanes refl
    where
      in-lanes : IsNamedApart (in_order job order)
      in-lanes = record {
        functions = n.functions;
        users = n.users;
        pids = n.pids;
        lanes = each_picked (λ lane. lane < 2 ^ 64) job.lines.lanes order n.lanes;
        apart_functions = n.apart_functions;
        apart_users = n.apart_users;
        apart_pids = n.apart_pids;
      }

      by : (lanes : List ℕ) → job.lines.lanes ≡ lanes → IsNamedApart (led_by log job)
      by [] e = subst IsNamedApart (sym (led-alone e)) n
      by (l ∷ ls) e = subst IsNamedApart (sym (led-merged (λ none. (let some : l ∷ ls ≡ [] = sym e ∙ none in absurd cc)))) in-lanes

-- the order that is told has all lines
pub all-told : (job : Job) (named : List ℕ) → AreLinesPlanned job → job.lines.lanes ≢ [] → AreAllLed (length job.ctls) (told_order job.lines.lanes named)
all-told job named planned some = elim planned.lanes [
  | inl none ↦ absurd (some none)
  | inr has ↦ subst (λ n. AreAllLed n (told_order job.lines.lanes named)) (has.each ∙ all-commands job.ctls has.commands') (told-order job.lines.lanes named).each
]

-- a job has few lanes
pub lanes-few : (job : Job) → AreLinesPlanned job → IsLimited job → length job.lines.lanes < 2 ^ 32
lanes-few job planned limited = elim planned.lanes [
  | inl none ↦ (let e = ap (λ (ls : List ℕ). length ls) none in omega (arith, e))
  | inr has ↦ (let e = has.each ∙ all-commands job.ctls has.commands' in let few = limited.ctls in omega (arith, e, few))
]
