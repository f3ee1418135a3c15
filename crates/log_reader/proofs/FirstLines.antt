-- The first line of a text that begins with the line of an item.
use Rattle.std.proofs.Common.{◌≡◌, ◌<◌, ◌^◌, ◌==◌, ℕ, List, ◌∷◌, ◌++◌, length, codes, take, position, ap, ◌∙◌, append_assoc}
use Rattle.std.proofs.Math.Seq.{take-append_seam}
use Rattle.std.specs.Fmt.{decimal}
use Rattle.ft_base.specs.declared.item.Item.{Item}
use Rattle.ft_base.specs.Job.{Job}
use Rattle.trace_views.specs.LogText.{item_words, joined, log_line}
use Rattle.trace_lines.specs.LogItems.{IsNamedApart, IsItemOf}
use Rattle.log_reader.specs.FirstLine.{IsFirstLine}
use Rattle.log_reader.proofs.Cuts.{position-at}
use Rattle.log_reader.proofs.LineBytes.{line-no_feed, line-utf8}
use Rattle.log_reader.proofs.ItemWords.{line-graphic}

-- the line without its line feed
abbrev pub bare_line : Job → ℕ → Item → List ℕ
bare_line job place item = joined (decimal place ∷ item_words job item)

pub line-then : (job : Job) (place : ℕ) (item : Item) (more : List ℕ) → log_line job place item ++ more ≡ bare_line job place item ++ 10 ∷ more
unfolding log_line
line-then job place item more = append_assoc (bare_line job place item) (codes "\n") more

pub first-line : (job : Job) → IsNamedApart job → (place : ℕ) (item : Item) (text more : List ℕ) → place < 2 ^ 64 → IsItemOf job item
    → text ≡ log_line job place item ++ more → IsFirstLine (bare_line job place item) text
first-line job apart place item text more lt of e =
    let line = bare_line job place item in
    let graphic = line-graphic job apart place item lt of in
    let cut : text ≡ line ++ 10 ∷ more = e ∙ line-then job place item more in
    record {
      place = ap (λ (t : List ℕ). position (λ b. b == 10) t) cut ∙ position-at 10 line more (line-no_feed (decimal place ∷ item_words job item) graphic);
      bytes = ap (λ (t : List ℕ). take (length line) t) cut ∙ take-append_seam line (10 ∷ more);
      utf8 = line-utf8 (decimal place ∷ item_words job item) graphic;
    }
