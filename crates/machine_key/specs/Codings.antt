-- Codes: values as lists of numbers, and what reads them back.
use Rattle.std.specs.Prelude.{ℕ, zero, suc, ◌≡◌, Bool, true, false, nat_lt, List, [], ◌∷◌, ◌++◌, length, get_or, drop}
use mathlib.Core.Path.{refl, ap, ◌∙◌}
use mathlib.Core.List.{append_assoc}

-- the numbers of a value, what reads a value from the front of a list with what is left, and that what was written is read back, whatever follows it
pub record Coding (A : Type 0) : Type 0 where
  pub numbers : A → List ℕ
  pub read : List ℕ → A × List ℕ
  pub back : (x : A) (rest : List ℕ) → read (numbers x ++ rest) ≡ (x, rest)

abbrev pub number : Coding ℕ
number = record { numbers = λ n. n ∷ []; read = λ l. (get_or l 0 0, drop 1 l); back = λ n rest. refl }

-- one after the other
abbrev pub then_read : {A B : Type 0} → Coding B → A × List ℕ → (A × B) × List ℕ
then_read b x = ((x.0, (b.read x.1).0), (b.read x.1).1)

abbrev pub pair : {A B : Type 0} → Coding A → Coding B → Coding (A × B)
pair a b = record {
  numbers = λ x. a.numbers x.0 ++ b.numbers x.1;
  read = λ l. then_read b (a.read l);
  back = λ x rest.
      ap (λ l. then_read b (a.read l)) (append_assoc (a.numbers x.0) (b.numbers x.1) rest) ∙ ap (then_read b) (a.back x.0 (b.numbers x.1 ++ rest)) ∙ ap (λ y. ((x.0, y.0), y.1)) (b.back x.1 rest);
}

-- how many there are, and then each
abbrev pub all_numbers : {A : Type 0} → Coding A → List A → List ℕ
all_numbers c [] = []
all_numbers c (x ∷ xs) = c.numbers x ++ all_numbers c xs

abbrev pub read_more : {A : Type 0} → A → List A × List ℕ → List A × List ℕ
read_more x xs = (x ∷ xs.0, xs.1)

abbrev pub read_all : {A : Type 0} → Coding A → ℕ → List ℕ → List A × List ℕ
read_all c zero l = ([], l)
read_all c (suc n) l = read_more (c.read l).0 (read_all c n (c.read l).1)

pub all-back : {A : Type 0} (c : Coding A) (xs : List A) (rest : List ℕ) → read_all c (length xs) (all_numbers c xs ++ rest) ≡ (xs, rest)
all-back c [] rest = refl
all-back c (x ∷ xs) rest =
    ap (λ l. read_more (c.read l).0 (read_all c (length xs) (c.read l).1)) (append_assoc (c.numbers x) (all_numbers c xs) rest)
    ∙ ap (λ y. read_more y.0 (read_all c (length xs) y.1)) (c.back x (all_numbers c xs ++ rest))
    ∙ ap (read_more x) (all-back c xs rest)

abbrev pub list : {A : Type 0} → Coding A → Coding (List A)
list c = record { numbers = λ xs. length xs ∷ all_numbers c xs; read = λ l. read_all c (get_or l 0 0) (drop 1 l); back = λ xs rest. all-back c xs rest }

-- by the code of what a value is made of, which says all of it
abbrev pub made_of : {A B : Type 0} → Coding A → (parts : B → A) (whole : A → B) → ((x : B) → whole (parts x) ≡ x) → Coding B
made_of c parts whole same = record {
  numbers = λ x. c.numbers (parts x);
  read = λ l. (whole (c.read l).0, (c.read l).1);
  back = λ x rest. ap (λ y. (whole y.0, y.1)) (c.back (parts x) rest) ∙ ap (λ y. (y, rest)) (same x);
}

-- whether it is so
abbrev pub flag_no : Bool → ℕ
flag_no true = 1
flag_no false = 0

pub flag-same : (b : Bool) → nat_lt 0 (flag_no b) ≡ b
flag-same true = refl
flag-same false = refl

abbrev pub flag : Coding Bool
flag = made_of number flag_no (λ n. nat_lt 0 n) flag-same
