-- A written log tells its history: the bytes that were read tell the script and with it the job, and those that were written the log. That
-- tells the order in which the commands were led, too, since it has the lane of each.
use Rattle.std.proofs.Common.{◌≡◌, ◌≢◌, ℕ, Bool, List, [], ◌∷◌, Option, Some, refl, sym, ap, ◌∙◌, subst, inl, inr}
use Rattle.std.specs.Prelude.{◌⊎◌}
use Rattle.std.proofs.lemmas.List.{append_cancel_left, append_cancel_right}
use Rattle.ft_base.specs.declared.item.Item.{Item}
use Rattle.ft_base.specs.Job.{Job}
use Rattle.ft_hist.specs.Rules.{IsLegal, IsWhole}
use Rattle.word_machine_laws.specs.Led.{in_order}
use Rattle.ft_job.specs.Plans.{HasLanes}
use Rattle.ft_words.specs.declared.order.Form.TheVariants.{Log}
use Rattle.ft_words.specs.declared.order.Order.{Order}
use Rattle.ft_words.specs.declared.order.Order.TheVariants.{Replay, Run}
use Rattle.ft_script.specs.Script.{declared_in, job_of, IsJobOf}
use Rattle.script_jobs.proofs.Logs.{log_tells}
use Rattle.script_jobs.proofs.OrderedLogs.{log-tells-order}
use Rattle.script_jobs.proofs.Texts.{accepted_in_lanes}
use Rattle.trace_print.specs.Texts.{text_of}
use Rattle.ring_rules.specs.Fold.{Rings}
use Rattle.script_jobs.specs.Merges.{IsMergeOf}
use Rattle.ft_app.specs.Reply.{IsKeptFor, printed}
use Rattle.ft_app.specs.Main.{ReadWhole, IsLogged, HasRun}
use Rattle.ft_app.proofs.HistoryRings.{printed-without}

-- scripts that were read from the same bytes have the same job
same-job : (given left s s' : List ℕ) (j j' : Job) → ReadWhole (Some given) (Some left) s → ReadWhole (Some given) (Some left) s' → IsJobOf s j → IsJobOf s' j' → j ≡ j'
same-job given left s s' j j' r r' is is' =
    let script : s ≡ s' = append_cancel_right s s' left (sym r.all ∙ r'.all) in
    is.meaning ∙ ap (λ (t : List ℕ). job_of (declared_in t)) script ∙ sym is'.meaning

-- two histories of a script's job, as it was led, that have the same log
module _ (s : List ℕ) (job : Job) (is : IsJobOf s job) (led led' : Job) (a b : List Item) (x y : Bool) (text : text_of Log led a x ≡ text_of Log led' b y) where
  abbrev AreSame : Type 0
  AreSame = (led ≡ led') × (a ≡ b) × (x ≡ y)

  -- its commands were led in the order of their lines
  same-history_of : led ≡ job → led' ≡ job → IsLegal led a → IsLegal led' b → AreSame
  same-history_of e e' la lb =
      let log = ap (λ j. text_of Log j a x) (sym e) ∙ text ∙ ap (λ j. text_of Log j b y) e' in
      let both = log_tells s job a b x y is (subst (λ j. IsLegal j a) e la) (subst (λ j. IsLegal j b) e' lb) log in
      (e ∙ sym e', both.0, both.1)

  -- it has lanes, and they were led in orders of these
  same-order_of : HasLanes job → job.lines.lanes ≢ [] → IsMergeOf job led → IsMergeOf job led' → IsWhole led a → IsWhole led' b → AreSame
  same-order_of has some m m' wa wb =
      let o = m.merged some in
      let o' = m'.merged some in
      let log = ap (λ j. text_of Log j a x) (sym o.2) ∙ text ∙ ap (λ j. text_of Log j b y) o'.2 in
      let told = log-tells-order s job is has o.0 o'.0 a b x y o.1 o'.1 (subst (λ j. IsWhole j a) o.2 wa) (subst (λ j. IsWhole j b) o'.2 wb) log in
      (o.2 ∙ ap (in_order job) told.0 ∙ sym o'.2, told.1, told.2)

  -- by threads, with lanes or without
  same-run_of : (lanes : List ℕ) → job.lines.lanes ≡ lanes → IsMergeOf job led → IsMergeOf job led' → IsWhole led a → IsWhole led' b → AreSame
  same-run_of [] none m m' wa wb = same-history_of (m.alone none) (m'.alone none) wa.legal wb.legal
  same-run_of (lane ∷ lanes) is' m m' wa wb = by (accepted_in_lanes s job is)
    where
      by : (job.lines.lanes ≡ []) ⊎ HasLanes job → AreSame
      by (inl none) = absurd (let clash : [] ≡ lane ∷ lanes = sym none ∙ is' in cc)
      by (inr has) = same-order_of has (λ none. let clash : [] ≡ lane ∷ lanes = sym none ∙ is' in cc) m m' wa wb

-- of the form log no rings are printed
log-of : (led : Job) (items : List Item) (kept : Option Rings) (ended : Bool) → IsKeptFor (Run Log) led items kept
    → printed (Run Log) led items kept ended ≡ text_of Log led items ended
log-of led items kept ended k = printed-without Log led items kept ended (λ e. absurd cc) k

module _ (given left before after : List ℕ) where
  abbrev Ran : Order → Type 0
  Ran order = HasRun order (Some given) (Some left) (Some before) (Some after)

  abbrev AreSameRuns : (order : Order) → Ran order → Ran order → Type 0
  AreSameRuns order a b =
      (a.played.job ≡ b.played.job) × (a.played.written.led ≡ b.played.written.led) × (a.played.written.items ≡ b.played.written.items)
      × (a.played.written.ended ≡ b.played.written.ended)

  pub same-history : (order : Order) (a b : Ran order) → IsLogged order → AreSameRuns order a b
  same-history (Replay Log) a b logged =
      let p = a.played in
      let q = b.played in
      let v = p.written in
      let w = q.written in
      let job = same-job given left a.script b.script p.job q.job a.read b.read p.accepted q.accepted in
      let text = append_cancel_left before (text_of Log v.led v.items v.ended) (text_of Log w.led w.items w.ended) (sym v.written ∙ w.written) in
      let same =
      same-history_of a.script p.job p.accepted v.led w.led v.items w.items v.ended w.ended text v.carried_out.led' (w.carried_out.led' ∙ sym job)
      v.carried_out.history.legal w.carried_out.history.legal in
      (job, same.0, same.1, same.2)
  same-history (Run Log) a b logged =
      let p = a.played in
      let q = b.played in
      let v = p.written in
      let w = q.written in
      let job = same-job given left a.script b.script p.job q.job a.read b.read p.accepted q.accepted in
      let text = sym (log-of v.led v.items v.kept v.ended v.carried_out.kept')
      ∙ append_cancel_left before (printed (Run Log) v.led v.items v.kept v.ended) (printed (Run Log) w.led w.items w.kept w.ended) (sym v.written ∙ w.written)
      ∙ log-of w.led w.items w.kept w.ended w.carried_out.kept' in
      let same =
      same-run_of a.script p.job p.accepted v.led w.led v.items w.items v.ended w.ended text p.job.lines.lanes refl v.carried_out.led'
      (subst (λ j. IsMergeOf j w.led) (sym job) w.carried_out.led') v.carried_out.history.whole w.carried_out.history.whole in
      (job, same.0, same.1, same.2)
  same-history _ a b logged = absurd logged
