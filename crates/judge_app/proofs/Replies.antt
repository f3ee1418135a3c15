-- Replies, from what they are made of.
use Rattle.std.proofs.Common.{◌≡◌, ℕ, ◌+◌, ◌-◌, ◌^◌, ◌<◌, ◌≤◌, Bool, List, ◌++◌, Result, Ok, Err, length, length-append, refl, sym, ap, ◌∙◌, subst, arith, inl, inr}
use Rattle.std.specs.Prelude.{IfOk}
use Rattle.std.specs.List.{AllByRecursion as Each}
use Rattle.std.proofs.lemmas.Option.{slice_get_within}
use Rattle.std.proofs.lemmas.List.Sums.{count_by-le-length}
use Rattle.ft_base.specs.declared.item.Item.{Item}
use Rattle.ft_base.specs.Job.{Job}
use Rattle.ft_base.specs.declared.limits.TheConstants.{INPUT_BYTES}
use Rattle.history_check.specs.declared.verdict.Verdict.{Verdict}
use Rattle.history_check.specs.declared.verdict.Verdict.TheVariants.{Whole, Legal, Broken}
use Rattle.history_check.specs.Verdicts.{IsVerdict}
use Rattle.ft_script.specs.declared.faults.ScriptFault.{ScriptFault}
use Rattle.ft_script.specs.Script.{IsFaultOf, IsJobOf, no_memory}
use Rattle.log_reader.specs.Refused.{IsNumbered, IsRefusedAt}
use Rattle.log_reader.proofs.ReadLines.{lines-long}
use Rattle.trace_views.specs.LogText.{log_lines, log_text}
use Rattle.trace_views.specs.Words.{last_line}
use Rattle.ft_io.specs.declared.status.Status.{Status}
use Rattle.ft_io.specs.declared.status.Status.TheVariants as ends
use Rattle.judge_app.specs.Cut.{IsCut, IsUncut, is_feed}
use Rattle.judge_app.specs.Cut.{log_line as cut_line}
use Rattle.judge_app.specs.Lanes.{led_by}
use Rattle.judge_app.proofs.OneCut.{one-cut}
use Rattle.judge_app.specs.Reply.{IsLong, IsReplyTo, IsWithin, of_log, of_missing, of_refusal, of_verdict, refusal_text, status_of, syntax_at, verdict_text}

-- ## numbers

-- the log's lines have numbers of 32 bits
pub fits : (input script log : List ℕ) (first : ℕ) → IsCut input script log first → length input + 2 < 2 ^ 32 → first + length log + 2 < 2 ^ 32
fits input script log first cut few =
    let size = ap length cut.here.0 ∙ length-append script (cut_line ++ log) in
    let more = length-append cut_line log in
    let four : length cut_line ≡ 4 = refl in
    let small = count_by-le-length is_feed script in
    omega (arith, size, more, four, small, cut.number, few)

-- a log has no more items than bytes
pub few-items : (job : Job) (items : List Item) (ended : Bool) (log : List ℕ) → log_text job items ended ≡ log → length items ≤ length log
unfolding log_text
few-items job items ended log is =
    let all = sym (ap length is) ∙ length-append (log_lines job 0 items) (last_line ended) in
    omega (arith, all, lines-long job 0 items)

-- a line that is refused is one of the log, or the one after it
pub line-few : (job : Job) (log : List ℕ) (line : ℕ) → IsRefusedAt job log line → (1 ≤ line) × (line ≤ length log + 1)
line-few job log line r =
    let all = ap length r.begins ∙ length-append (log_lines job 0 r.items) r.rest in
    let few = lines-long job 0 r.items in
    let count = r.count in
    (omega (arith, count), omega (arith, all, few, count))

-- a verdict tells a place of the items
pub within : (job : Job) (items : List Item) (v : Verdict) → IsVerdict job items v → IsWithin (length items) v
within job items Whole is = tt
within job items Legal is = tt
within job items (Broken place rule) is = slice_get_within items place is.item is.here

-- ## replies

-- what follows from what holds of a value
pub ok-then : {A E : Type 0} {P Q : A → Type 0} → ((a : A) → P a → Q a) → (made : Result A E) → IfOk made P → IfOk made Q
ok-then f (Ok a) p = f a p
ok-then f (Err e) p = tt

module _ (input script log : List ℕ) (first : ℕ) (cut : IsCut input script log first) where
  -- the verdict on a log
  pub judged : (job led : Job) → IsJobOf script job → led ≡ led_by log job → (items : List Item) (ended : Bool) → Each (IsNumbered led) items → log_text led items ended ≡ log → (v : Verdict) → IsVerdict led items v
      → (status : Status) (text : List ℕ) → status ≡ status_of ended v → text ≡ verdict_text first (length items) ended v → IsReplyTo input status text
  judged job led accepted told items ended numbered read v is status text s t =
      rw (s, t) (of_verdict script log first cut job accepted items ended (subst (λ j. Each (IsNumbered j) items) told numbered)
      (ap (λ j. log_text j items ended) (sym told) ∙ read) v (subst (λ j. IsVerdict j items v) told is))

  -- the script is refused
  pub script-refused : (fault : ScriptFault) → IsFaultOf script fault → (fault ≡ no_memory → ⊥) → (status : Status) (text : List ℕ) → status ≡ ends.Refused
      → text ≡ refusal_text fault → IsReplyTo input status text
  script-refused fault (inl memory) other status text s t = absurd (other memory)
  script-refused fault (inr refused) other status text s t = rw (s, t) (of_refusal script log first cut fault refused)

  -- the log is refused
  pub log-refused : (job led : Job) → IsJobOf script job → led ≡ led_by log job → (line : ℕ) → IsRefusedAt led log line → (status : Status) (text : List ℕ) → status ≡ ends.Refused
      → text ≡ refusal_text (syntax_at (first + line - 1)) → IsReplyTo input status text
  log-refused job led accepted told line refused status text s t =
      let n = length refused.items in
      let is : n + 1 ≡ line = (let c = refused.count in omega (arith, c)) in
      let same : first + line - 1 ≡ first + n = (let c = refused.count in omega (arith, c)) in
      rw (s, t, same) (of_log script log first cut job accepted n (subst (λ j. IsRefusedAt j log (n + 1)) told (subst (IsRefusedAt led log) (sym is) refused)))

-- the line `log` is missing
pub missing : (input : List ℕ) (next : ℕ) → IsUncut input next → (status : Status) (text : List ℕ) → status ≡ ends.Refused → text ≡ refusal_text (syntax_at next)
    → IsReplyTo input status text
missing input next uncut status text s t = rw (s, t) (of_missing next uncut)

-- what holds anyway holds of a value
pub ok-anyway : {A E : Type 0} (Q : Type 0) → Q → (made : Result A E) → IfOk made (λ a. Q)
ok-anyway Q q (Ok a) = q
ok-anyway Q q (Err e) = tt

-- ## the script isn't too long

pub uncut-fits : (input : List ℕ) (next : ℕ) → IsUncut input next → IsLong input → ⊥
uncut-fits input next uncut long = uncut.none long.0 long.1 long.3.here

pub cut-fits : (input script log : List ℕ) (first : ℕ) → IsCut input script log first → length script ≤ INPUT_BYTES → IsLong input → ⊥
cut-fits input script log first cut fits long =
    let same = ap (λ (t : List ℕ). length t) (one-cut input script log long.0 long.1 first long.2 cut long.3).0 in
    let over = long.4 in
    absurd (omega (arith, same, fits, over))

-- what holds of a value holds of the same value
pub through : {A E F : Type 0} (P : A → Type 0) (made : Result A E) → IfOk made P → (out : Result A F) → IfOk out (λ a. made ≡ Ok a) → IfOk out P
through P made p (Ok a) e = subst (λ m. IfOk m P) e p
through P made p (Err f) e = tt
