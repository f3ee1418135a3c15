use Rattle.std.proofs.Common.{◌≡◌, ℕ, true, refl, ◌&&◌, List, [], ◌∷◌, arith}
use Rattle.std.proofs.lemmas.Bool.Decides.{nat_tests}
use Rattle.std.specs.List.{list_all}
use Rattle.ft_base.specs.Name.{is_first_byte, is_later_byte, is_name_text}
use Rattle.ft_base.proofs.Small.{false_true, and_both}
use Rattle.told_items.specs.Fields.{is_plain}
use Rattle.told_items.proofs.laws.names_need_no_escape.Goals as goal

first-plain : (b : ℕ) → is_first_byte b ≡ true → is_plain b ≡ true
first-plain b h = grind (arith, nat_tests)

later-plain : (b : ℕ) → is_later_byte b ≡ true → is_plain b ≡ true
later-plain b h = grind (arith, nat_tests)

all-plain : (bs : List ℕ) → list_all is_later_byte bs ≡ true → list_all is_plain bs ≡ true
all-plain [] h = refl
all-plain (b ∷ bs) h = let both = and_both (is_later_byte b) (list_all is_later_byte bs) h in rw (later-plain b both.0) (all-plain bs both.1)

of-name : (name : List ℕ) → is_name_text name ≡ true → list_all is_plain name ≡ true
of-name [] h = false_true h
of-name (x ∷ xs) h =
    let b = and_both (is_first_byte x && list_all is_later_byte xs) _ h in
    let parts = and_both (is_first_byte x) (list_all is_later_byte xs) b.0 in
    rw (first-plain x parts.0) (all-plain xs parts.1)

pub returns : goal.returns
returns c = of-name
