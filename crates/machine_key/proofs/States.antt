-- The code of a state tells it but for its history.
use Rattle.std.proofs.Common.{◌≡◌, ℕ, List, [], ◌++◌, sym, ap, ◌∙◌}
use Rattle.ft_base.specs.Job.{Job}
use Rattle.word_machine.specs.Machine.{World}
use Rattle.job_outcomes.specs.Jobs.{IsLike}
use Rattle.machine_key.specs.Codings.{Coding}
use Rattle.machine_key.specs.States.{Parts, world_in, parts, IsCode}

-- values of one code are the same
pub same : {A : Type 0} (c : Coding A) (x y : A) → c.numbers x ≡ c.numbers y → x ≡ y
same c x y e = ap (λ p. p.0) (sym (c.back x []) ∙ ap (λ l. c.read (l ++ [])) e ∙ c.back y [])

pub states-told : (job : Job) (k : List ℕ) (v w : World) → IsCode job v k → IsCode job w k → IsLike job v w
states-told job k v w a b =
    let e : a.0 ≡ b.0 = same parts a.0 b.0 (a.3 ∙ sym b.3) in record {
      words = ap (λ (s : World). s.words) (sym a.1) ∙ ap (λ (p : Parts). (world_in job [] p).words) e ∙ ap (λ (s : World). s.words) b.1;
      control = ap (λ (s : World). s.control) (sym a.1) ∙ ap (λ (p : Parts). (world_in job [] p).control) e ∙ ap (λ (s : World). s.control) b.1;
      cpus = ap (λ (s : World). s.cpus) (sym a.1) ∙ ap (λ (p : Parts). (world_in job [] p).cpus) e ∙ ap (λ (s : World). s.cpus) b.1;
      told = sym a.2 ∙ ap (λ (p : Parts). p.outcome) e ∙ b.2;
    }
