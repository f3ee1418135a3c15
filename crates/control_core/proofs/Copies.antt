-- The copies of sets that are in use after a command are the machine's.
use Rattle.std.proofs.Common.{cond, ◌≡◌, ℕ, ◌<◌, Bool, true, false, List, length, get_or, Some, refl, ap, ◌∙◌, arith, inl, inr}
use Rattle.std.proofs.lemmas.Bool.Decides.{eqb_tells}
use Rattle.ft_base.specs.Job.{Job, Command, Register, Unregister, Filter, Notrace, Pid, NoPid, Enable, Disable, MaxDepth}
use Rattle.ft_base.specs.Desk.{Desk, desk, user_at, answer_on, is_accepted}
use Rattle.ft_base.specs.WellFormed.{IsNamed}
use Rattle.word_map.specs.Contents.{other_copy}
use Rattle.word_map.specs.Words.{at_put}
use Rattle.ft_desk.specs.Declarations.{IsOf}
use Rattle.ft_desk.specs.Plans.{copies_after, turned}
use Rattle.ft_desk.specs.DeskView.{DeskView, after_command}
use Rattle.word_machine.specs.Commands.{command, edits_or, effect, effect_by, subject, subject_of}
use Rattle.word_machine.specs.Control.{copy_after}
use Rattle.word_machine.specs.Values.{copies_in}
use Rattle.word_machine_laws.proofs.ValueLaws.{copies-put}
use Rattle.ft_desk.proofs.NextDesk.{if_accepted, if_refused}
use Rattle.control_core.proofs.Plans.{effect_if_accepted, effect_if_refused, subject-is}

-- a function that gets what it has is the same
own-at : (g : ℕ → ℕ) (u k : ℕ) → g k ≡ at_put g u (g u) k
own-at g u k = elim (eqb_tells k u) [
  | inl e ↦ rw e.0 (ap g e.1)
  | inr e ↦ rw e.0 refl
]

pub put-own : (g : ℕ → ℕ) (u : ℕ) → g ≡ at_put g u (g u)
put-own g u = λ i k. own-at g u k i

-- the copies after an accepted command, with those of an edit of a user, registered or not
module _ (copies : List ℕ) where
  edited : (u : ℕ) → u < length copies → (b : Bool)
      → copies_in (cond b (turned copies u) copies) ≡ at_put (copies_in copies) u (copy_after (edits_or b) (copies_in copies u))
  edited u within true = copies-put copies u (other_copy (get_or copies u 0)) within
  edited u within false = put-own (copies_in copies) u

  accepted : (job : Job) (D : Desk) (c : Command) → length copies ≡ length job.users → IsNamed job c
      → copies_in (copies_after D copies c)
      ≡ at_put (copies_in copies) (subject_of c) (copy_after (effect_by D c) (copies_in copies (subject_of c)))
  accepted job D (Register u) size w = copies-put copies u (other_copy (get_or copies u 0)) (omega (arith, size, w))
  accepted job D (Unregister u) size w = put-own (copies_in copies) u
  accepted job D (Filter u x) size w = edited u (omega (arith, size, w)) (user_at D u).registered
  accepted job D (Notrace u x) size w = edited u (omega (arith, size, w)) (user_at D u).registered
  accepted job D (Pid pids) size w = put-own (copies_in copies) 0
  accepted job D (NoPid nopids) size w = put-own (copies_in copies) 0
  accepted job D (Enable u) size w = put-own (copies_in copies) u
  accepted job D (Disable u) size w = put-own (copies_in copies) u
  accepted job D (MaxDepth depth) size w = put-own (copies_in copies) 0

module _ (job : Job) (s : DeskView) (d : ℕ) (c : Command) (named : IsNamed job c) (is : IsOf job s.declared) (same : s.state ≡ desk job d)
    (given : command job d ≡ Some c) (size : length s.copies ≡ length job.users) where
  pub copies-named : copies_in (after_command s c).copies
      ≡ at_put (copies_in s.copies) (subject job d) (copy_after (effect job d) (copies_in s.copies (subject job d)))
  copies-named = by (is_accepted (answer_on job (desk job d) c)) refl
    where
      by : (b : Bool) → is_accepted (answer_on job (desk job d) c) ≡ b
          → copies_in (after_command s c).copies
          ≡ at_put (copies_in s.copies) (subject job d) (copy_after (effect job d) (copies_in s.copies (subject job d)))
      by true e =
          rw (if_accepted job s d c is same e, effect_if_accepted job d c given e, subject-is job d c given)
          (ap (λ (D : Desk). copies_in (copies_after D s.copies c)) same
          ∙ accepted s.copies job (desk job d) c size named)
      by false e = rw (if_refused job s d c is same e, effect_if_refused job d c given e) (put-own (copies_in s.copies) (subject job d))
