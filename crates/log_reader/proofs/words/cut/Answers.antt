use Rattle.std.proofs.Common.{◌≡◌, ◌==◌, ℕ, ◌+◌, length, take, None, Some, sym, ap, ◌∙◌, arith}
use Rattle.std.specs.List.{position_or_len}
use Rattle.std.proofs.Math.Seq.{take-length}
use Rattle.std.proofs.lemmas.List.{drop_all}
use Rattle.std.proofs.lemmas.Str.Pattern.{split_once_first}
use Rattle.log_reader.specs.Reading.{before, after}
use Rattle.log_reader.proofs.words.cut.Goals as goal

pub returns-in-Some : goal.returns-in-Some
unfolding before after
returns-in-Some c =
    let s = split_once_first c.args.separator c.args.text.now (Some c.in-Some.parts) c.in-Some.ensures.cases c.requires in
    record { before = s.1; after = s.2 }

pub returns-in-None : goal.returns-in-None
unfolding before after
returns-in-None c =
    let text = c.args.text.now in
    let whole : position_or_len (λ b. b == c.args.separator) text ≡ length text = split_once_first c.args.separator text None c.in-None.ensures.cases c.requires in
    record {
      before = sym (ap (λ (n : ℕ). take n text) whole ∙ take-length text);
      after = sym (drop_all (position_or_len (λ b. b == c.args.separator) text + 1) text (omega (arith, whole)));
    }
