use Rattle.std.proofs.Common.{◌≡◌, ℕ, List, Option, map, drop}
use Rattle.std.specs.Fn.{FnReturnsAt}
use Rattle.script_text.specs.Words.{all_read}
use Rattle.script_text.proofs.WordLemmas.{all_before}
use Rattle.script_text.proofs.word.all_read.Given as goal

abbrev pub invariant-loop-word : goal.invariant-loop-word
invariant-loop-word g l = (says : List ℕ → Option _) → ((word : List ℕ) (r : _) → FnReturnsAt g.F.Fn l.read word r → r ≡ says word) → all_before l.values.items (all_read says (map (λ w. w.now) (drop l.word-index l.words))) ≡ all_read says (map (λ w. w.now) l.words)
