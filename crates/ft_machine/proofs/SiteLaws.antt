-- Between any two steps the bytes of each call site are whole.
use Rattle.std.proofs.Common.{◌≡◌, ℕ, ◌<◌, ◌%◌, ◌∷◌, inl, inr, refl, ap, ◌∙◌}
use Rattle.ft_base.specs.Desk.{desk, target}
use Rattle.ft_base.specs.Job.{Job, funcs}
use Rattle.control_core.proofs.ChangedSites.{insn-numbered_back}
use Rattle.ft_hist.specs.Past.{done, begun}
use Rattle.site_bytes.specs.Bytes.{bytes_of, four_bytes, head_byte, tail_number}
use Rattle.site_bytes.specs.declared.insn.Insn.{Insn}
use Rattle.site_bytes.specs.declared.insn.Insn.TheVariants.{Nop, List as CallList, Own}
use Rattle.word_map.specs.Instructions.{insn_at, insn_of}
use Rattle.word_machine.specs.Commands.{insn}
use Rattle.word_machine.specs.Laws.{HasTarget, IsSettled, Runs}
use Rattle.word_machine.specs.Limits.{IsLimited}
use Rattle.word_machine.specs.Machine.{World}
use Rattle.word_machine_laws.proofs.Settled.{settled}
use Rattle.ft_machine.specs.Sites.{IsWhole, site_of, site_on}

-- its head and its tail are its bytes
bytes-are : (f : ℕ) (i : Insn) → head_byte i % 256 ∷ four_bytes (tail_number f i) ≡ bytes_of f i
bytes-are f Nop = refl
bytes-are f CallList = refl
bytes-are f (Own s) = refl

module _ (job : Job) (s : World) (f : ℕ) where
  -- a site that has its target's words has its target's bytes
  target-bytes : (k : ℕ) → HasTarget job s.words f k → site_of s.words f ≡ site_on (desk job k) f
  unfolding insn insn_at
  target-bytes k h =
      let i : Insn = insn_of (desk job k) (target (desk job k) f) in
      (λ j. h.0 j % 256 ∷ four_bytes (h.1 j))
      ∙ ap (λ (x : Insn). head_byte x % 256 ∷ four_bytes (tail_number f x)) (insn-numbered_back i)
      ∙ bytes-are f i

  whole-by : IsSettled job s f → IsWhole job s.past f (site_of s.words f)
  whole-by h = record {
    whole = elim h.whole [
      | inl e ↦ inl (ap (λ n. n % 256) e)
      | inr t ↦ elim t [
        | inl old ↦ inr (inl (target-bytes (done s.past) old))
        | inr new ↦ inr (inr (target-bytes (begun s.past) new))
      ]
    ];
    between = λ e. target-bytes (done s.past) (h.between e);
  }

-- the site of each function is whole in each world that runs
pub whole-site : (job : Job) (s : World) → IsLimited job → Runs job s → (f : ℕ) → f < funcs job → IsWhole job s.past f (site_of s.words f)
whole-site job s limited r f inside = whole-by job s f (settled job s r.kept f inside)
