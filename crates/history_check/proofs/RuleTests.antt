-- What a test that is exactly a fact says of it.
use Rattle.std.proofs.Common.{◌≡◌, Bool, true, false, refl, sym, ◌∙◌}
use Rattle.std.specs.Prelude.{IsTrue, ◌↔◌}
use Rattle.ft_base.proofs.Small.{false_true}

pub yes : {P : Type 0} → P → IsTrue true ↔ P
yes p = (λ e. p, λ x. refl)

pub no : {P : Type 0} → (P → ⊥) → IsTrue false ↔ P
no none = (λ e. false_true e, λ p. absurd (none p))

-- the fact doesn't hold where the test fails
pub fails : {P : Type 0} → (b : Bool) → (IsTrue b ↔ P) → b ≡ false → P → ⊥
fails b is e p = false_true (sym e ∙ is.1 p)
