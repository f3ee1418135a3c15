-- What is printed is judged legal, and what is judged legal is.
use Rattle.std.proofs.Common.{◌≡◌, ◌≢◌, ◌<◌, ◌≤◌, ◌^◌, ℕ, zero, suc, ◌+◌, Bool, true, false, List, [], ◌∷◌, ◌++◌, length, length-append, take, get_or, reverse, codes, Option, Some, None, append-nil, refl, sym, ap, ap₂, ◌∙◌, subst, arith, inl, inr}
use Rattle.std.specs.Prelude.{◌⊎◌, slice_get}
use Rattle.std.specs.List.{AllByRecursion as Each, range_with_len}
use Rattle.std.proofs.lemmas.Grind.{reverse_onto}
use Rattle.std.proofs.lemmas.List.{reverse-reverse, take_all, take_more}
use Rattle.ft_base.specs.declared.limits.TheConstants.{LANES}
use Rattle.ft_base.specs.declared.item.Item.{Item}
use Rattle.ft_base.specs.declared.item.Item.TheVariants.{Begin}
use Rattle.ft_base.specs.Job.{Job, commands}
use Rattle.ft_hist.specs.Past.{begun}
use Rattle.ft_hist.specs.Rules.{IsLegal, IsLegalPast, IsWhole}
use Rattle.ft_hist.proofs.WindowLaws.{legal-counts}
use Rattle.word_machine_laws.specs.Led.{in_order}
use Rattle.word_machine_laws.specs.Orders.{IsLaneOrder, picked}
use Rattle.word_machine_laws.proofs.LedLimits.{each_picked}
use Rattle.word_machine_laws.proofs.LedOrders.{whole as all-in-order}
use Rattle.ft_job.specs.Plans.{HasLanes}
use Rattle.ft_job.proofs.Ordered.{all-commands}
use Rattle.history_check.specs.declared.verdict.Rule.{Rule}
use Rattle.history_check.specs.declared.verdict.Verdict.{Verdict}
use Rattle.history_check.specs.declared.verdict.Verdict.TheVariants.{Whole, Legal, Broken}
use Rattle.history_check.specs.Verdicts.{IsVerdict}
use Rattle.history_check.proofs.VerdictLaws.{one-verdict}
use Rattle.ft_script.specs.Script.{IsJobOf, IsRefusalOf}
use Rattle.ft_script.proofs.Answered.{not_both, one_job}
use Rattle.trace_views.specs.Words.{lane_at}
use Rattle.trace_views.specs.LogText.{log_text}
use Rattle.trace_lines.specs.LogItems.{IsNamedApart}
use Rattle.trace_lines.proofs.LogTells.{same-text}
use Rattle.log_reader.specs.Lanes.{begun_lane, lanes_begun, lanes_named, with_lane}
use Rattle.log_reader.specs.Refused.{IsNumbered, IsRefusedAt}
use Rattle.log_reader.proofs.LanesNamed.{begun-snoc, log-names}
use Rattle.log_reader.proofs.NeverRefused.{never-refused}
use Rattle.script_jobs.specs.Merges.{IsMergeOf}
use Rattle.script_jobs.proofs.Logs.{each-of, few_items, items_are_numbered}
use Rattle.script_jobs.proofs.Names.{accepted_named}
use Rattle.script_jobs.proofs.OrderedLogs.{are-numbered, count-commands, count-lanes, few, named}
use Rattle.script_jobs.proofs.Texts.{accepted_in_lanes}
use Rattle.ft_io.specs.declared.status.Status.{Status}
use Rattle.ft_io.specs.declared.status.Status.TheVariants as ends
use Rattle.judge_app.specs.Cut.{IsCut, log_line}
use Rattle.judge_app.specs.Judged.{HasLog}
use Rattle.judge_app.specs.Lanes.{led_by, told_order}
use Rattle.judge_app.specs.Reply.{IsReplyTo, of_log, of_missing, of_refusal, of_verdict, status_of, verdict_text}
use Rattle.judge_app.proofs.LaneOrders.{order-stands, order-told}
use Rattle.judge_app.proofs.OneCut.{one-cut, one-first}
use Rattle.judge_app.proofs.Replies.{few-items}
use Rattle.judge_app.proofs.LogJobs.{led-alone, led-merge, led-merged}

-- no legal history is broken
never-broken : (job : Job) (items : List Item) → IsLegal job items → (p : ℕ) (r : Rule) → IsVerdict job items (Broken p r) → ⊥
never-broken job items legal p r broken =
    let no_whole : IsWhole job items → ⊥ = λ whole. (let same : Broken p r ≡ Whole = one-verdict job items (Broken p r) Whole broken whole in absurd cc) in
    let same : Broken p r ≡ Legal = one-verdict job items (Broken p r) Legal broken (legal, no_whole) in
    absurd cc

-- the part of an input below its line has fewer bytes
pub log-short : (input script log : List ℕ) (first : ℕ) → IsCut input script log first → length input < 2 ^ 64 → length log < 2 ^ 64
log-short input script log first cut size =
    let whole = ap length cut.here.0 ∙ length-append script (log_line ++ log) in
    omega (arith, whole, size, length-append log_line log)

-- The reply to a log of items of the job of which it is read: the verdict on these items
module _ (input script : List ℕ) (first : ℕ) (job led : Job) (items : List Item) (ended : Bool)
    (is : IsJobOf script job) (apart : IsNamedApart led) (numbered : Each (IsNumbered led) items) (size : length input < 2 ^ 64)
    (cut : IsCut input script (log_text led items ended) first)
    (told : led_by (log_text led items ended) job ≡ led) where
  abbrev own : List ℕ
  own = log_text led items ended

  short : length items < 2 ^ 64
  short = (let long = few-items led items ended own refl in let all = log-short input script own first cut size in omega (arith, long, all))

  pub data IsJudged : Status → List ℕ → Type 0 where
    judged : (v : Verdict) → IsVerdict led items v → IsJudged (status_of ended v) (verdict_text first (length items) ended v)

  -- another cut of the input, with its job
  module _ (script' log' : List ℕ) (first' : ℕ) (cut' : IsCut input script' log' first') (job' : Job) (accepted : IsJobOf script' job') where
    one-log : log' ≡ own
    one-log = (one-cut input script own script' log' first first' cut cut').1

    one-led : led_by log' job' ≡ led
    one-led =
        let c = one-cut input script own script' log' first first' cut cut' in
        let same : job' ≡ job = one_job script job' job (subst (λ t. IsJobOf t job') c.0 accepted) is in
        ap₂ (λ (l : List ℕ) (j : Job). led_by l j) c.1 same ∙ told

  pub judged-so : (status : Status) (text : List ℕ) → IsReplyTo input status text → IsJudged status text
  judged-so status text (of_verdict script' log' first' cut' job' accepted items' ended' numbered' is' v verdict) =
      let led-is = one-led script' log' first' cut' job' accepted in
      let long = few-items (led_by log' job') items' ended' log' is' in
      let few' = log-short input script' log' first' cut' size in
      let short' : length items' < 2 ^ 64 = omega (arith, long, few') in
      let text-is : log_text led items' ended' ≡ own =
      ap (λ j. log_text j items' ended') (sym led-is) ∙ is' ∙ one-log script' log' first' cut' job' accepted in
      let mine = subst (λ j. Each (IsNumbered j) items') led-is numbered' in
      let both = same-text led apart items' items ended' ended (each-of led items' mine) (each-of led items numbered) short' short text-is in
      let verdict' = subst (λ xs. IsVerdict led xs v) both.0 (subst (λ j. IsVerdict j items' v) led-is verdict) in
      subst (λ n. IsJudged (status_of ended' v) (verdict_text n (length items') ended' v)) (sym (one-first input script own script' log' first first' cut cut'))
      (subst (λ e. IsJudged (status_of e v) (verdict_text first (length items') e v)) (sym both.1)
      (subst (λ xs. IsJudged (status_of ended v) (verdict_text first (length xs) ended v)) (sym both.0) (judged v verdict')))
  judged-so status text (of_refusal script' log' first' cut' fault refused) =
      let c = one-cut input script own script' log' first first' cut cut' in
      absurd (not_both script job fault is (subst (λ t. IsRefusalOf t fault) c.0 refused))
  judged-so status text (of_log script' log' first' cut' job' accepted n refused) =
      let here = subst (λ j. IsRefusedAt j log' (n + 1)) (one-led script' log' first' cut' job' accepted) refused in
      absurd (never-refused led items ended (n + 1) apart numbered short (subst (λ t. IsRefusedAt led t (n + 1)) (one-log script' log' first' cut' job' accepted) here))
  judged-so status text (of_missing next uncut) = absurd (uncut.none script own cut.here)

  -- there is one verdict
  pub same-verdict : (v : Verdict) → IsVerdict led items v → (status : Status) (text : List ℕ) → IsJudged status text
      → (status_of ended v ≡ status) × (verdict_text first (length items) ended v ≡ text)
  same-verdict v is' _ _ (judged w is'') =
      let e = one-verdict led items v w is' is'' in
      (ap (λ u. status_of ended u) e, ap (λ u. verdict_text first (length items) ended u) e)

  -- the verdict on items that are legal
  pub legal-judged : IsLegal led items → (ended ≡ true → IsWhole led items) → (status : Status) (text : List ℕ) → IsJudged status text → status ≡ ends.Done
  legal-judged legal whole status text (judged Whole v) = refl
  legal-judged legal whole status text (judged Legal v) = by ended refl
    where
      by : (e : Bool) → ended ≡ e → status_of e Legal ≡ ends.Done
      by true over = absurd (v.1 (whole over))
      by false over = refl
  legal-judged legal whole status text (judged (Broken p r) v) = absurd (never-broken led items legal p r v)

  -- and on items that are whole
  pub whole-judged : IsWhole led items → (status : Status) (text : List ℕ) → IsJudged status text → (status ≡ ends.Done) × (text ≡ codes "whole\n")
  whole-judged whole status text (judged Whole v) = (refl, refl)
  whole-judged whole status text (judged Legal v) = absurd (v.1 whole)
  whole-judged whole status text (judged (Broken p r) v) = absurd (never-broken led items whole.legal p r v)

-- ## the lanes of what has begun

-- an item by which no command begins leaves the lanes as they are
unled : (job : Job) (past : List Item) (item : Item) → begun_lane job item ≡ None → lanes_begun job (reverse past) ≡ take (begun past) job.lines.lanes
    → lanes_begun job (reverse (item ∷ past)) ≡ take (begun past) job.lines.lanes
unled job past item none so_far =
    ap (λ (xs : List Item). lanes_begun job xs) (reverse_onto past item [])
    ∙ begun-snoc job (reverse past) item
    ∙ ap (λ (o : Option ℕ). lanes_begun job (reverse past) ++ with_lane o []) none
    ∙ append-nil (lanes_begun job (reverse past))
    ∙ so_far

there : (lanes : List ℕ) (n : ℕ) → n < length lanes → slice_get lanes n ≡ Some (get_or lanes n 0)
there [] n lt = absurd (omega (arith, lt))
there (lane ∷ rest) zero lt = refl
there (lane ∷ rest) (suc n) lt = there rest n (omega (arith, lt))

-- the lanes of the commands that have begun
lanes-so_far : (job : Job) (past : List Item) → IsLegalPast job past → length (commands job) ≡ length job.lines.lanes
    → (begun past ≤ length job.lines.lanes) × (lanes_begun job (reverse past) ≡ take (begun past) job.lines.lanes)
unfolding IsLegalPast
lanes-so_far job [] l each = (omega arith, refl)
lanes-so_far job (Begin k ∷ past) l each =
    let number = l.0.commands.0.number in
    let stands = l.0.commands.0.stands in
    let n = begun past in
    let is : k ≡ suc n = omega (arith, number) in
    let low : n < length job.lines.lanes = omega (arith, stands, each) in
    let lane : lane_at job k ≡ Some (get_or job.lines.lanes n 0) = ap (λ (m : ℕ). lane_at job m) is ∙ there job.lines.lanes n low in
    let more : n + 1 ≡ suc n = omega arith in (
      omega (arith, low),
      ap (λ (xs : List Item). lanes_begun job xs) (reverse_onto past (Begin k) [])
          ∙ begun-snoc job (reverse past) (Begin k)
          ∙ ap (λ (o : Option ℕ). lanes_begun job (reverse past) ++ with_lane o []) lane
          ∙ ap (λ (ls : List ℕ). ls ++ get_or job.lines.lanes n 0 ∷ []) (lanes-so_far job past l.1 each).1
          ∙ sym (take_more job.lines.lanes n 0 low)
          ∙ ap (λ (m : ℕ). take m job.lines.lanes) more,
    )
lanes-so_far job (item ∷ past) l each = let so_far = lanes-so_far job past l.1 each in (so_far.0, unled job past item refl so_far.1)

-- in a whole history all of them have
lanes-whole : (job : Job) (items : List Item) → IsWhole job items → length (commands job) ≡ length job.lines.lanes → lanes_begun job items ≡ job.lines.lanes
unfolding IsLegal
lanes-whole job items whole each =
    let past = reverse items in
    let counts = legal-counts job past whole.legal in
    let most = counts.0 in
    let all = whole.returned in
    let so_far = lanes-so_far job past whole.legal each in
    ap (λ (xs : List Item). lanes_begun job xs) (sym (reverse-reverse items))
    ∙ so_far.1
    ∙ take_all (begun past) job.lines.lanes (omega (arith, most, all, each))

each-picked_short : (lanes : List ℕ) → Each (λ lane. lane < LANES) lanes → Each (λ lane. lane < 2 ^ 32) lanes
each-picked_short [] h = tt
each-picked_short (lane ∷ rest) h = ((let lt = h.0 in omega (arith, lt)), each-picked_short rest h.1)

-- ## the job that a log tells is the one that it is of

module _ (script : List ℕ) (job : Job) (is : IsJobOf script job) (has : HasLanes job) (some : job.lines.lanes ≢ []) where
  lanes-short : Each (λ lane. lane < 2 ^ 32) job.lines.lanes
  lanes-short = each-picked_short job.lines.lanes has.numbers

  -- the commands went as they stand, and may have been stopped
  told-replay : (items : List Item) (ended : Bool) → IsLegal job items → led_by (log_text job items ended) job ≡ job
  unfolding IsLegal
  told-replay items ended legal =
      let past = reverse items in
      let few' = few_items script job items is legal in
      let so_far = lanes-so_far job past legal (sym has.each) in
      let each-line : length job.lines.lanes ≡ length job.ctls = has.each ∙ all-commands job.ctls has.commands' in
      let names : lanes_named (log_text job items ended) ≡ take (begun past) job.lines.lanes =
      log-names job items ended (accepted_named script job is) lanes-short (items_are_numbered script job items is legal) (omega (arith, few'))
      ∙ ap (λ (xs : List Item). lanes_begun job xs) (sym (reverse-reverse items)) ∙ so_far.1 in
      led-merged (log_text job items ended) job some
      ∙ ap (λ (ns : List ℕ). in_order job (told_order job.lines.lanes ns)) names
      ∙ ap (λ (o : List ℕ). in_order job o) (order-stands job.lines.lanes (begun past) so_far.0 ∙ ap (λ (n : ℕ). range_with_len 0 n) each-line)
      ∙ all-in-order job (omega (arith, each-line))

  -- all commands went, in an order of the lanes
  told-run : (order : List ℕ) (items : List Item) (ended : Bool) → IsLaneOrder job.lines.lanes order → IsWhole (in_order job order) items
      → led_by (log_text (in_order job order) items ended) job ≡ in_order job order
  told-run order items ended lanes whole =
      let led = in_order job order in
      let few' = few script job is has order items lanes whole.legal in
      let short' = each-picked_short (picked job.lines.lanes order) (each_picked (λ lane. lane < LANES) job.lines.lanes order has.numbers) in
      let each : length (commands led) ≡ length led.lines.lanes = count-commands script job is has order lanes ∙ sym (count-lanes script job is has order lanes) in
      let names : lanes_named (log_text led items ended) ≡ picked job.lines.lanes order =
      log-names led items ended (named script job is has order) short' (are-numbered script job is has order items lanes whole.legal) (omega (arith, few'))
      ∙ lanes-whole led items whole each in
      led-merged (log_text led items ended) job some
      ∙ ap (λ (ns : List ℕ). in_order job (told_order job.lines.lanes ns)) names
      ∙ ap (λ (o : List ℕ). in_order job o) (order-told job.lines.lanes order lanes)

-- with lanes, or without
in-lanes : (script : List ℕ) (job : Job) → IsJobOf script job → job.lines.lanes ≢ [] → HasLanes job
in-lanes script job is some = by (accepted_in_lanes script job is)
  where
    by : (job.lines.lanes ≡ []) ⊎ HasLanes job → HasLanes job
    by (inl none) = absurd (some none)
    by (inr has) = has

by-lanes : (job : Job) (A : Type 0) → (job.lines.lanes ≡ [] → A) → (job.lines.lanes ≢ [] → A) → A
by-lanes job A alone merged = by job.lines.lanes refl
  where
    by : (lanes : List ℕ) → job.lines.lanes ≡ lanes → A
    by [] e = alone e
    by (l ∷ ls) e = merged (λ none. let clash : l ∷ ls ≡ [] = sym e ∙ none in absurd cc)

-- ## logs of legal histories

module _ (input : List ℕ) (size : length input < 2 ^ 64) (status : Status) (text : List ℕ) (reply : IsReplyTo input status text) where
  -- the log of a job that is told by it
  module _ (led : Job) (items : List Item) (ended : Bool) (log : HasLog input led items ended) (told : led_by (log_text led items ended) log.job ≡ led)
      (apart : IsNamedApart led) (numbered : Each (IsNumbered led) items) where
    abbrev Verdict-is : Type 0
    Verdict-is = IsJudged input log.script log.first log.job led items ended log.accepted apart numbered size log.cut told status text

    verdict-is : Verdict-is
    verdict-is = judged-so input log.script log.first log.job led items ended log.accepted apart numbered size log.cut told status text reply

    called-legal : IsLegal led items → (ended ≡ true → IsWhole led items) → status ≡ ends.Done
    called-legal legal whole =
        legal-judged input log.script log.first log.job led items ended log.accepted apart numbered size log.cut told legal whole status text verdict-is

    called-whole : IsWhole led items → (status ≡ ends.Done) × (text ≡ codes "whole\n")
    called-whole whole = whole-judged input log.script log.first log.job led items ended log.accepted apart numbered size log.cut told whole status text verdict-is

  -- the commands went as they stand
  pub printed-legal : (job : Job) (items : List Item) (ended : Bool) (log : HasLog input job items ended) → job ≡ log.job → IsLegal job items
      → (ended ≡ true → IsWhole job items) → status ≡ ends.Done
  printed-legal job items ended log same legal whole =
      let is : IsJobOf log.script job = subst (λ (j : Job). IsJobOf log.script j) (sym same) log.accepted in
      let told : led_by (log_text job items ended) job ≡ job =
      by-lanes job (led_by (log_text job items ended) job ≡ job) (led-alone (log_text job items ended) job)
      (λ some. told-replay log.script job is (in-lanes log.script job is some) some items ended legal) in
      called-legal job items ended log (ap (λ (j : Job). led_by (log_text job items ended) j) (sym same) ∙ told) (accepted_named log.script job is)
      (items_are_numbered log.script job items is legal) legal whole

  -- a whole history, in whatever order of the lanes
  pub printed-whole : (led : Job) (items : List Item) (ended : Bool) (log : HasLog input led items ended) → IsMergeOf log.job led → IsWhole led items → (status ≡ ends.Done) × (text ≡ codes "whole\n")
  printed-whole led items ended log merge whole =
      by-lanes log.job ((status ≡ ends.Done) × (text ≡ codes "whole\n"))
      (λ none.
      let same = merge.alone none in
      let is : IsJobOf log.script led = subst (λ (j : Job). IsJobOf log.script j) (sym same) log.accepted in
      called-whole led items ended log (led-alone (log_text led items ended) log.job none ∙ sym same) (accepted_named log.script led is)
      (items_are_numbered log.script led items is whole.legal) whole)
      (λ some.
      let o = merge.merged some in
      let has = in-lanes log.script log.job log.accepted some in
      let run = subst (λ (j : Job). IsWhole j items) o.2 whole in
      let told = told-run log.script log.job log.accepted has some o.0 items ended o.1 run in
      called-whole led items ended log (subst (λ (j : Job). led_by (log_text j items ended) log.job ≡ j) (sym o.2) told)
      (subst IsNamedApart (sym o.2) (named log.script log.job log.accepted has o.0))
      (subst (λ (j : Job). Each (IsNumbered j) items) (sym o.2) (are-numbered log.script log.job log.accepted has o.0 items o.1 run.legal)) whole)

-- ## what is called legal

-- an input's log is that of such a history
abbrev pub Tells : List ℕ → (Job → List Item → Bool → Type 0) → Type 0
Tells input P = (led : Job) × (items : List Item) × (ended : Bool) × (log : HasLog input led items ended) × IsMergeOf log.job led × P led items ended

module _ (input script log : List ℕ) (first : ℕ) (cut : IsCut input script log first) (job : Job) (is : IsJobOf script job) (items : List Item) (ended : Bool)
    (read : log_text (led_by log job) items ended ≡ log) where
  has-log : HasLog input (led_by log job) items ended
  has-log = record {
    script = script;
    first = first;
    job = job;
    accepted = is;
    cut = subst (λ (t : List ℕ). IsCut input script t first) (sym read) cut;
  }

  tells-legal : (v : Verdict) → IsVerdict (led_by log job) items v → status_of ended v ≡ ends.Done → IsLegal (led_by log job) items × (ended ≡ true → IsWhole (led_by log job) items)
  tells-legal Whole v e = (v.legal, λ over. v)
  tells-legal Legal v e = by ended refl e
    where
      by : (b : Bool) → ended ≡ b → status_of b Legal ≡ ends.Done → IsLegal (led_by log job) items × (ended ≡ true → IsWhole (led_by log job) items)
      by true over done = absurd (cc)
      by false over done = (v.0, λ other. let clash : false ≡ true = sym over ∙ other in absurd cc)
  tells-legal (Broken p r) v e = absurd (cc)

  tells-whole : (v : Verdict) → IsVerdict (led_by log job) items v → status_of ended v ≡ ends.Done → verdict_text first (length items) ended v ≡ codes "whole\n"
      → IsWhole (led_by log job) items
  tells-whole Whole v e t = v
  tells-whole Legal v e t = by ended e t
    where
      by : (b : Bool) → status_of b Legal ≡ ends.Done → verdict_text first (length items) b Legal ≡ codes "whole\n" → IsWhole (led_by log job) items
      by true done same = absurd (cc)
      by false done same = (let other : ◌≡◌ {A = ℕ} 108 119 = ap (λ (xs : List ℕ). get_or xs 0 0) same in absurd (omega (arith, other)))
  tells-whole (Broken p r) v e t = absurd (cc)

module _ (input : List ℕ) where
  pub legal-told : (status : Status) (text : List ℕ) → IsReplyTo input status text → status ≡ ends.Done
      → Tells input (λ led items ended. IsLegal led items × (ended ≡ true → IsWhole led items))
  unfolding has-log
  legal-told _ _ (of_verdict script log first cut job is items ended numbered read v verdict) e =
      (led_by log job, items, ended, has-log input script log first cut job is items ended read, led-merge log job, tells-legal input script log first cut job is items ended read v verdict e)
  legal-told _ _ (of_refusal script log first cut fault refused) e = absurd (cc)
  legal-told _ _ (of_log script log first cut job is n refused) e = absurd (cc)
  legal-told _ _ (of_missing next uncut) e = absurd (cc)

  pub whole-told : (status : Status) (text : List ℕ) → IsReplyTo input status text → status ≡ ends.Done → text ≡ codes "whole\n"
      → Tells input (λ led items ended. IsWhole led items)
  unfolding has-log
  whole-told _ _ (of_verdict script log first cut job is items ended numbered read v verdict) e t =
      (led_by log job, items, ended, has-log input script log first cut job is items ended read, led-merge log job, tells-whole input script log first cut job is items ended read v verdict e t)
  whole-told _ _ (of_refusal script log first cut fault refused) e t = absurd (cc)
  whole-told _ _ (of_log script log first cut job is n refused) e t = absurd (cc)
  whole-told _ _ (of_missing next uncut) e t = absurd (cc)
