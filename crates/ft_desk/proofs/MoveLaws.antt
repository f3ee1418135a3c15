-- What moves, and what stays, when a user comes to some functions and leaves others.
use Rattle.std.proofs.Common.{◌≡◌, ◌≢◌, ℕ, suc, ◌+◌, ◌<◌, ◌≤◌, Bool, true, false, not, ◌||◌, List, get_or, is_some, refl, subst, ◌∙◌, inl, inr, arith}
use Rattle.std.proofs.lemmas.Bool.{cases_lt}
use Rattle.ft_base.specs.Marks.{Marks, holds}
use Rattle.ft_base.proofs.Small.{or-false_both}
use Rattle.site_counts.specs.declared.rows.Row.{Row}
use Rattle.site_counts.specs.Rows.{row_of}
use Rattle.ft_desk.specs.declared.user.User.{User}
use Rattle.ft_desk.specs.Sites.{same_insn}
use Rattle.ft_desk.specs.Users.{insn_by}
use Rattle.ft_desk.specs.Moves.{moved, moved_row, insn_before, insn_after}
use Rattle.ft_desk.proofs.SiteLaws.{same_insn-refl}

-- a site that the user neither comes to nor leaves stays
pub stays : (users : List User) (rows : List Row) (totals : List ℕ) (u : ℕ) (came left : Marks) (f : ℕ)
    → (holds came f || holds left f) ≡ false → same_insn (insn_before users rows totals f) (insn_after users rows totals u came left f) ≡ true
stays users rows totals u came left f e =
    let h = or-false_both (holds came f) (holds left f) e in
    let a = h.0 in
    let b = h.1 in
    rw (a, b) (same_insn-refl (insn_before users rows totals f))

-- of a site that it comes to or leaves, it leaves it if it does not come to it
pub leaves-not_comes : (a b : Bool) → (a || b) ≡ true → (a ≡ true → b ≡ false) → b ≡ not a
leaves-not_comes true b h apart = apart refl
leaves-not_comes false b h apart = h

-- the instruction of a site after the user has moved
pub moved_insn : (users : List User) (rows : List Row) (totals : List ℕ) (u : ℕ) (came left : Marks) (f : ℕ) (row : Row) (comes : Bool)
    → row ≡ row_of rows f → comes ≡ holds came f → holds left f ≡ not (holds came f)
    → insn_by users (moved comes (not comes) 1 row.count) (moved comes (not comes) (suc u) (get_or totals f 0)) ≡ insn_after users rows totals u came left f
moved_insn users rows totals u came left f row comes er ec el = rw (er, ec, el) refl

-- the row of a site after the user has moved
pub moved_row-is : (comes a b : Bool) (x y : User) (row row' : Row) → comes ≡ a → b ≡ not a → x ≡ y → row ≡ row'
    → moved_row comes (not comes) x.regs (is_some x.ipmodify) row ≡ moved_row a b y.regs (is_some y.ipmodify) row'
moved_row-is comes a b x y row row' ec eb ex er = rw (ec, eb, ex, er) refl

-- and its total
pub moved-is : (comes a b : Bool) (k n n' : ℕ) → comes ≡ a → b ≡ not a → n ≡ n' → moved comes (not comes) k n ≡ moved a b k n'
moved-is comes a b k n n' ec eb en = rw (ec, eb, en) refl

-- a site that the user neither comes to nor leaves keeps its row
pub row-stays : (a b regs modifies : Bool) (row : Row) → (a || b) ≡ false → row ≡ moved_row a b regs modifies row
row-stays a b regs modifies row e =
    let h = or-false_both a b e in
    let x = h.0 in
    let y = h.1 in
    rw (x, y) refl

-- and its total
pub total-stays : (a b : Bool) (k n : ℕ) → (a || b) ≡ false → n ≡ moved a b k n
total-stays a b k n e =
    let h = or-false_both a b e in
    let x = h.0 in
    let y = h.1 in
    rw (x, y) refl

-- a list is gone through: below a place all is done, from there on nothing. The next place that changes is a later one
module _ {A : Type 0} (new old was becomes : ℕ → A) (from f : ℕ) (low : from ≤ f) (done : (g : ℕ) → g < from → old g ≡ becomes g)
    (rest : (g : ℕ) → from ≤ g → old g ≡ was g) (passed : (g : ℕ) → from ≤ g → g < f → was g ≡ becomes g) (here : new f ≡ becomes f)
    (others : (g : ℕ) → g ≢ f → new g ≡ old g) where
  pub more-done : (g : ℕ) → g < f + 1 → new g ≡ becomes g
  more-done g h = elim (cases_lt g from) [
    | inl l ↦ others g (λ q. omega (arith, q)) ∙ done g l
    | inr l ↦ elim (cases_lt g f) [
      | inl m ↦ others g (λ q. omega (arith, q)) ∙ rest g l ∙ passed g l m
      | inr m ↦ let q : f ≡ g = omega arith in subst (λ x. new x ≡ becomes x) q here
    ]
  ]

  pub less-left : (g : ℕ) → f + 1 ≤ g → new g ≡ was g
  less-left g h = others g (λ q. omega (arith, q)) ∙ rest g (omega arith)
