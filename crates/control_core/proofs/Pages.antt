-- A page after a store, and whether another one follows.
use Rattle.std.proofs.Common.{cond, ◌≡◌, ◌*◌, ◌≤◌, Bool, true, false, Option, Some, None, refl, sym, ap, ap₂, ◌∙◌, inl, inr}
use Rattle.std.specs.Prelude.{is_some, option_map}
use Rattle.std.proofs.lemmas.Bool.{cases_lt}
use Rattle.ft_base.specs.declared.number.UserNo.{UserNo}
use Rattle.ft_base.specs.Desk.{Desk}
use Rattle.ft_base.proofs.Small.{false_true}
use Rattle.word_map.specs.declared.op.Op.{Op}
use Rattle.word_map.specs.Places.{words_for}
use Rattle.word_map.specs.Ops.{WordOp}
use Rattle.hash_pages.specs.Pages.{Page}
use Rattle.hash_pages.proofs.PageLaws.{none_after}
use Rattle.control_core.specs.declared.phase.Phase.TheVariants as phase
use Rattle.control_core.specs.declared.control.Control.TheInside.{Inside}
use Rattle.control_core.specs.Seated.{Seated}
use Rattle.control_core.specs.ControlInvariant.{seated_of}
use Rattle.control_core.specs.Steps.{at_phase, listed, page_after, pair_at, write_next, wrote}

-- an operation is there as a code operation is
map-some : (f : WordOp → Op) (o : Option WordOp) → is_some o ≡ is_some (option_map f o)
map-some f None = refl
map-some f (Some op) = refl

pub test-is : (r : Option Op) (o : Option WordOp) (f : WordOp → Op) (x b : Bool) → x ≡ is_some r → x ≡ b → r ≡ option_map f o → is_some o ≡ b
test-is r o f x b ex eb er = map-some f o ∙ ap is_some (sym er) ∙ sym ex ∙ eb

-- a page with a store left
pub has-left : (state : Desk) (page : Page) (user : Option UserNo) → is_some (write_next state page user) ≡ true
    → page.stored ≤ 2 * words_for page.shape.funcs
has-left state page None e = false_true e
has-left state page (Some u) e = elim (cases_lt (2 * words_for page.shape.funcs) page.stored) [
  | inl lt ↦ false_true (sym (ap is_some (none_after page (pair_at state u.0) page.stored lt)) ∙ e)
  | inr le ↦ le
]

-- the page goes on, or the list follows
module _ (c : Seated) (page : Page) where
  wrote-true : is_some (write_next c.desk.state page c.desk.plan.user) ≡ true → at_phase c (phase.Writing page) ≡ wrote c page
  wrote-true e = ap (λ b. cond b (at_phase c (phase.Writing page)) (listed c)) (sym e)

  wrote-false : is_some (write_next c.desk.state page c.desk.plan.user) ≡ false → listed c ≡ wrote c page
  wrote-false e = ap (λ b. cond b (at_phase c (phase.Writing page)) (listed c)) (sym e)

module _ (d : Inside) (s : Seated) (page next : Page) (v : seated_of d ≡ s) (e : next ≡ page_after page) where
  pub wrote-more : is_some (write_next d.desk.state next d.desk.plan.user) ≡ true
      → seated_of (record d { phase = phase.Writing next }) ≡ wrote s (page_after page)
  wrote-more test = wrote-true (seated_of d) next test ∙ ap₂ wrote v e

  pub wrote-last : is_some (write_next d.desk.state next d.desk.plan.user) ≡ false → listed s ≡ wrote s (page_after page)
  wrote-last test = ap listed (sym v) ∙ wrote-false (seated_of d) next test ∙ ap₂ wrote v e
