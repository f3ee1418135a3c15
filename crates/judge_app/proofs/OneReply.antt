-- An input has one reply.
use Rattle.std.proofs.Common.{◌≡◌, ◌<◌, ◌^◌, ◌+◌, ℕ, Bool, List, length, refl, sym, ap, ◌∙◌, subst, arith}
use Rattle.std.specs.List.{AllByRecursion as Each}
use Rattle.ft_base.specs.declared.item.Item.{Item}
use Rattle.ft_base.specs.Job.{Job}
use Rattle.history_check.specs.declared.verdict.Verdict.{Verdict}
use Rattle.history_check.specs.Verdicts.{IsVerdict}
use Rattle.ft_script.specs.declared.faults.ScriptFault.{ScriptFault}
use Rattle.ft_script.specs.Script.{IsJobOf, IsRefusalOf}
use Rattle.ft_script.proofs.Answered.{not_both, one_fault, one_job}
use Rattle.log_reader.specs.Refused.{IsNumbered, IsRefusedAt}
use Rattle.log_reader.proofs.NeverRefused.{one-refused}
use Rattle.trace_views.specs.LogText.{log_text}
use Rattle.script_jobs.proofs.Names.{accepted_named}
use Rattle.ft_io.specs.declared.status.Status.{Status}
use Rattle.judge_app.specs.Cut.{IsCut}
use Rattle.judge_app.specs.Lanes.{led_by}
use Rattle.judge_app.specs.Reply.{IsReplyTo, of_log, of_missing, of_refusal, of_verdict, refusal_text, status_of, syntax_at, verdict_text}
use Rattle.judge_app.proofs.OneCut.{one-cut, one-first}
use Rattle.judge_app.proofs.Printed.{judged-so, log-short, same-verdict}
use Rattle.judge_app.proofs.LogJobs.{named-led}

module _ (input : List ℕ) (size : length input < 2 ^ 64) where
  abbrev AreSame : Status → List ℕ → Status → List ℕ → Type 0
  AreSame status text status' text' = (status ≡ status') × (text ≡ text')

  turned : (status status' : Status) (text text' : List ℕ) → AreSame status text status' text' → AreSame status' text' status text
  turned status status' text text' same = (sym same.0, sym same.1)

  module _ (script log : List ℕ) (first : ℕ) (cut : IsCut input script log first) where
    -- a verdict is the reply
    of-verdict : (job : Job) → IsJobOf script job → (items : List Item) (ended : Bool) → Each (IsNumbered (led_by log job)) items → log_text (led_by log job) items ended ≡ log
        → (v : Verdict) → IsVerdict (led_by log job) items v → (status : Status) (text : List ℕ) → IsReplyTo input status text
        → AreSame (status_of ended v) (verdict_text first (length items) ended v) status text
    of-verdict job is items ended numbered read v verdict status text reply =
        let led = led_by log job in
        let apart = named-led log job (accepted_named script job is) in
        let here = subst (λ (t : List ℕ). IsCut input script t first) (sym read) cut in
        let told : led_by (log_text led items ended) job ≡ led = ap (λ (t : List ℕ). led_by t job) read in
        same-verdict input script first job led items ended is apart numbered size here told v verdict status text
        (judged-so input script first job led items ended is apart numbered size here told status text reply)

    module _ (script' log' : List ℕ) (first' : ℕ) (cut' : IsCut input script' log' first') where
      one : (script' ≡ script) × (log' ≡ log)
      one = one-cut input script log script' log' first first' cut cut'

      -- a script has a job, or is refused
      clash : (job : Job) (fault : ScriptFault) → IsJobOf script job → IsRefusalOf script' fault → ⊥
      clash job fault is refused = not_both script job fault is (subst (λ t. IsRefusalOf t fault) one.0 refused)

      -- it is refused at one line
      one-fault : (fault fault' : ScriptFault) → IsRefusalOf script fault → IsRefusalOf script' fault' → fault ≡ fault'
      one-fault fault fault' refused refused' = one_fault script fault fault' refused (subst (λ t. IsRefusalOf t fault') one.0 refused')

      -- and so is its log
      one-line : (job job' : Job) (n m : ℕ) → IsJobOf script job → IsJobOf script' job' → IsRefusedAt (led_by log job) log (n + 1) → IsRefusedAt (led_by log' job') log' (m + 1)
          → first + n ≡ first' + m
      one-line job job' n m is is' refused refused' =
          let same : job' ≡ job = one_job script job' job (subst (λ t. IsJobOf t job') one.0 is') is in
          let there = subst (λ (j : Job). IsRefusedAt (led_by log j) log (m + 1)) same (subst (λ (l : List ℕ). IsRefusedAt (led_by l job') l (m + 1)) one.1 refused') in
          let line : n + 1 ≡ m + 1 =
          one-refused (led_by log job) (named-led log job (accepted_named script job is)) log (n + 1) (m + 1) (log-short input script log first cut size) refused there in
          let number = one-first input script log script' log' first first' cut cut' in
          omega (arith, line, number)

  pub one-reply : (status status' : Status) (text text' : List ℕ) → IsReplyTo input status text → IsReplyTo input status' text' → AreSame status text status' text'
  one-reply _ status' _ text' (of_verdict script log first cut job is items ended numbered read v verdict) reply =
      of-verdict script log first cut job is items ended numbered read v verdict status' text' reply
  one-reply status _ text _ reply (of_verdict script log first cut job is items ended numbered read v verdict) =
      turned _ status _ text (of-verdict script log first cut job is items ended numbered read v verdict status text reply)
  one-reply _ _ _ _ (of_refusal script log first cut fault refused) (of_refusal script' log' first' cut' fault' refused') =
      (refl, ap (λ f. refusal_text f) (one-fault script log first cut script' log' first' cut' fault fault' refused refused'))
  one-reply _ _ _ _ (of_refusal script log first cut fault refused) (of_log script' log' first' cut' job is n refused') =
      absurd (clash script' log' first' cut' script log first cut job fault is refused)
  one-reply _ _ _ _ (of_refusal script log first cut fault refused) (of_missing next uncut) = absurd (uncut.none script log cut.here)
  one-reply _ _ _ _ (of_log script log first cut job is n refused) (of_refusal script' log' first' cut' fault refused') =
      absurd (clash script log first cut script' log' first' cut' job fault is refused')
  one-reply _ _ _ _ (of_log script log first cut job is n refused) (of_log script' log' first' cut' job' is' m refused') =
      (refl, ap (λ (k : ℕ). refusal_text (syntax_at k)) (one-line script log first cut script' log' first' cut' job job' n m is is' refused refused'))
  one-reply _ _ _ _ (of_log script log first cut job is n refused) (of_missing next uncut) = absurd (uncut.none script log cut.here)
  one-reply _ _ _ _ (of_missing next uncut) (of_refusal script log first cut fault refused) = absurd (uncut.none script log cut.here)
  one-reply _ _ _ _ (of_missing next uncut) (of_log script log first cut job is n refused) = absurd (uncut.none script log cut.here)
  one-reply _ _ _ _ (of_missing next uncut) (of_missing next' uncut') = (refl, ap (λ (k : ℕ). refusal_text (syntax_at k)) (uncut.number ∙ sym uncut'.number))
