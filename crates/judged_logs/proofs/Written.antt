-- What a call of ftcore has written is a log of its script, as ftjudge reads it.
use Rattle.std.proofs.Common.{◌≡◌, ◌<◌, ◌+◌, ◌^◌, ◌++◌, ℕ, List, [], Option, Some, length, codes, ◌∙◌, subst}
use Rattle.std.specs.Prelude.{count_by}
use Rattle.ft_words.specs.declared.order.Form.TheVariants.{Log}
use Rattle.ft_words.specs.declared.order.Order.{Order}
use Rattle.ft_words.specs.declared.order.Order.TheVariants.{Replay, Run}
use Rattle.ft_io.specs.declared.status.Status.{Status}
use Rattle.ft_io.specs.declared.status.Status.TheVariants.{Done}
use Rattle.script_jobs.specs.Merges.{IsMergeOf}
use Rattle.trace_print.specs.Texts.{text_of}
use Rattle.ft_app.specs.Main.{HasRun, IsLogged}
use Rattle.ft_app.proofs.HistoryRings.{printed-without}
use Rattle.judge_app.specs.Cut.{IsCut, is_feed, log_line}
use Rattle.judge_app.specs.Judged.{HasLog}
use Rattle.judge_app.specs.Reply.{IsReplyTo}
use Rattle.judge_app.proofs.Printed.{printed-legal, printed-whole}
use Rattle.judge_app.proofs.ScriptCuts.{cut-off}

module _ (order : Order) (remaining remaining' : Option (List ℕ)) (written : List ℕ) (run : HasRun order remaining remaining' (Some []) (Some written)) where
  abbrev input : List ℕ
  input = run.script ++ (log_line ++ written)

  -- the input has the log of the history
  has-log : written ≡ text_of Log run.played.written.led run.played.written.items run.played.written.ended
      → HasLog input run.played.written.led run.played.written.items run.played.written.ended
  has-log is = record {
    script = run.script;
    first = count_by is_feed run.script + 2;
    job = run.played.job;
    accepted = run.played.accepted;
    cut = subst (λ (t : List ℕ). IsCut input run.script t (count_by is_feed run.script + 2)) is (cut-off run.script written run.played.job run.played.accepted);
  }

module _ (remaining remaining' : Option (List ℕ)) (written : List ℕ) where
  pub whole : (run : HasRun (Run Log) remaining remaining' (Some []) (Some written)) (status : Status) (text : List ℕ)
      → length (run.script ++ (log_line ++ written)) < 2 ^ 64 → IsReplyTo (run.script ++ (log_line ++ written)) status text
      → (status ≡ Done) × (text ≡ codes "whole\n")
  unfolding has-log
  whole run status text size reply =
      let w = run.played.written in
      let is : written ≡ text_of Log w.led w.items w.ended = w.written ∙ printed-without Log w.led w.items w.kept w.ended (λ e. absurd cc) w.carried_out.kept' in
      let merge : IsMergeOf run.played.job w.led = w.carried_out.led' in
      printed-whole (run.script ++ (log_line ++ written)) size status text reply w.led w.items w.ended
      (has-log (Run Log) remaining remaining' written run is) merge w.carried_out.history.whole

  pub legal : (order : Order) (run : HasRun order remaining remaining' (Some []) (Some written)) (status : Status) (text : List ℕ) → IsLogged order
      → length (run.script ++ (log_line ++ written)) < 2 ^ 64 → IsReplyTo (run.script ++ (log_line ++ written)) status text → status ≡ Done
  unfolding has-log
  legal (Replay Log) run status text logged size reply =
      let w = run.played.written in
      printed-legal (run.script ++ (log_line ++ written)) size status text reply w.led w.items w.ended
      (has-log (Replay Log) remaining remaining' written run w.written) w.carried_out.led' w.carried_out.history.legal w.carried_out.history.whole
  legal (Run Log) run status text logged size reply = (whole run status text size reply).0
  legal _ run status text logged size reply = absurd logged
