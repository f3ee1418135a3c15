use Rattle.std.proofs.Common.{◌≡◌, ℕ, ◌==◌, ◌<◌, ◌∷◌, [], not, length, true, ap, ◌∙◌, arith, rules, tests}
use Rattle.std.specs.Char.{char_set_contains}
use Rattle.std.specs.Str.Iter.{split_pattern}
use Rattle.std.proofs.lemmas.Bool.Decides.{nat_tests}
use Rattle.std.proofs.lemmas.Iterator.Consumers.{map_from_collect, YieldsList-from_filter}
use Rattle.script_text.specs.Lines.{is_blank, words_of}
use Rattle.script_text.proofs.BlankSplits.{YieldsList-from_split_by}
use Rattle.script_text.proofs.word.words.Goals as goal

blank-low : (c : ℕ) → is_blank c ≡ true → c < 128
blank-low c h = grind (arith, nat_tests)

in_blanks : (c : ℕ) → char_set_contains (32 ∷ 9 ∷ []) c ≡ is_blank c
in_blanks c = grind (arith, nat_tests)

pub returns : goal.returns
unfolding words_of
returns c = map_from_collect _ c.collect.ensures.ran
    (YieldsList-from_filter _ (λ word. not (length word == 0))
    (YieldsList-from_split_by is_blank blank-low (λ l k. (b : ℕ) → char_set_contains l b ≡ k b) c.args.text.now (cc) (cc) (λ b. ap (λ s. char_set_contains (split_pattern s) b) c.filter.ensures.source ∙ ap (λ l. char_set_contains l b) c.split.ensures.pattern ∙ in_blanks b))
    c.filter.ensures.closure (λ x b q k. search (rules, tests)))
