-- The words so far and those of the rest are the words of the text.
use denote.Shadow.{shadow}
use denote.Text.{Utf8}
use Rattle.std.proofs.Common.{◌≡◌, true, ◌++◌, length, map, take}
use Rattle.script_text.specs.Lines.{is_plain, words_of}
use Rattle.script_text.proofs.few.few_words.Given as goal

abbrev pub invariant-loop-count : goal.invariant-loop-count
invariant-loop-count l =
    shadow (Utf8 l.rest) × (is_plain l.rest ≡ true) × (length l.words ≡ 6) × (map (λ w. w.now) (take l.count l.words) ++ words_of l.rest ≡ words_of l.text)
