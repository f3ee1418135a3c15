-- What is written without running threads is told by the script alone.
use Rattle.std.proofs.Common.{◌≡◌, ℕ, Bool, List, ◌++◌, Some, sym, ap, ◌∙◌, subst}
use Rattle.std.proofs.lemmas.List.{append_cancel_right}
use Rattle.ft_base.specs.declared.item.Item.{Item}
use Rattle.ft_base.specs.Job.{Job}
use Rattle.word_machine.specs.Machine.{play, all_end}
use Rattle.ft_words.specs.declared.order.Order.{Order}
use Rattle.ft_words.specs.declared.order.Order.TheVariants.{Replay, Run, Bulk}
use Rattle.ft_script.specs.Script.{IsJobOf}
use Rattle.ft_script.proofs.Answered.{one_job}
use Rattle.trace_print.specs.Texts.{text_of}
use Rattle.trace_print.specs.SummaryText.{summary_text}
use Rattle.ft_app.specs.Reply.{history_of}
use Rattle.ft_app.specs.Main.{IsPlain, HasRun}

module _ (given left before after after' : List ℕ) where
  abbrev Ran : Order → List ℕ → Type 0
  Ran order written = HasRun order (Some given) (Some left) (Some before) (Some written)

  -- one script was got
  one-script : (order : Order) (a : Ran order after) (b : Ran order after') → a.script ≡ b.script
  one-script (Replay form) a b = append_cancel_right a.script b.script left (sym a.read.all ∙ b.read.all)
  one-script (Run form) a b = append_cancel_right a.script b.script left (sym a.read.all ∙ b.read.all)
  one-script (Bulk n) a b = a.read.0 ∙ sym b.read.0

  -- which has one job
  same-job : (order : Order) (a : Ran order after) (b : Ran order after') → a.played.job ≡ b.played.job
  same-job order a b =
      one_job a.script a.played.job b.played.job a.played.accepted (subst (λ (t : List ℕ). IsJobOf t b.played.job) (sym (one-script order a b)) b.played.accepted)

  -- and that one replay
  pub one-text : (order : Order) → IsPlain order → Ran order after → Ran order after' → after ≡ after'
  one-text (Replay form) plain a b =
      let v = a.played.written in
      let w = b.played.written in
      let led : v.led ≡ w.led = v.carried_out.led' ∙ same-job (Replay form) a b ∙ sym w.carried_out.led' in
      let items : v.items ≡ w.items = v.carried_out.history.items' ∙ ap history_of led ∙ sym w.carried_out.history.items' in
      let ended : v.ended ≡ w.ended = v.carried_out.history.ended' ∙ ap (λ (j : Job). all_end j (play j)) led ∙ sym w.carried_out.history.ended' in
      v.written
      ∙ ap (λ (j : Job). before ++ text_of form j v.items v.ended) led
      ∙ ap (λ (xs : List Item). before ++ text_of form w.led xs v.ended) items
      ∙ ap (λ (e : Bool). before ++ text_of form w.led w.items e) ended
      ∙ sym w.written
  one-text (Run form) plain a b = absurd plain
  one-text (Bulk n) plain a b =
      let v = a.played.written in
      let w = b.played.written in
      let led : v.led ≡ w.led = v.carried_out.led' ∙ same-job (Bulk n) a b ∙ sym w.carried_out.led' in
      let items : v.items ≡ w.items = v.carried_out.history.items' ∙ ap history_of led ∙ sym w.carried_out.history.items' in
      let ended : v.ended ≡ w.ended = v.carried_out.history.ended' ∙ ap (λ (j : Job). all_end j (play j)) led ∙ sym w.carried_out.history.ended' in
      v.written
      ∙ ap (λ (xs : List Item). before ++ summary_text n xs v.ended) items
      ∙ ap (λ (e : Bool). before ++ summary_text n w.items e) ended
      ∙ sym w.written
