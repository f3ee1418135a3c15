-- The desk after commands that were led, and all that is read from it, is the same whatever lines come after them.
use Rattle.std.proofs.Common.{◌≡◌, ℕ, zero, suc, ◌<◌, ◌≤◌, List, length, slice_get, if◌then◌else◌, Some, None, Option, refl, ap, ◌∙◌, arith}
use Rattle.ft_base.specs.Job.{Job, Command, Ctl, LinePlan, commands, commands_in, funcs}
use Rattle.ft_base.specs.Desk.{Desk, desk, after, answer_on, target, is_accepted}
use Rattle.word_map.specs.Instructions.{code_by}
use Rattle.patch_core.specs.Moves.{batch}
use Rattle.word_machine.specs.Commands.{Nothing, effect_by, changed_from, command, effect, effect_in, insn, moves}
use Rattle.word_machine_laws.specs.Led.{later}
use Rattle.word_machine_laws.proofs.LedLists.{commands_append, get_front}

module _ (job : Job) (more : List Ctl) (plan : LinePlan) where
  abbrev longer : Job
  longer = later job more plan

  pub same_command : (d : ℕ) → d < length (commands job) → command longer d ≡ command job d
  same_command d lt = ap (λ l. slice_get l d) (commands_append job.ctls more) ∙ get_front (commands job) (commands_in more) d lt

  -- answers and changes read no lines
  same_after : (d : Desk) (k : ℕ) (c : Option Command) → after longer d k c ≡ after job d k c
  same_after d k None = refl
  same_after d k (Some c) = refl

  pub same_desk : (k : ℕ) → k ≤ length (commands job) → desk longer k ≡ desk job k
  unfolding desk
  same_desk zero le = refl
  same_desk (suc k) le =
      same_after (desk longer k) (suc k) (command longer k)
      ∙ ap (λ c. after job (desk longer k) (suc k) c) (same_command k (omega arith))
      ∙ ap (λ d. after job d (suc k) (command job k)) (same_desk k (omega arith))

  same_insn : (k : ℕ) → k ≤ length (commands job) → (f : ℕ) → insn longer k f ≡ insn job k f
  unfolding insn
  same_insn k le f = ap (λ d. code_by d (target d f)) (same_desk k le)

  same_effect_in : (d : ℕ) (c : Option Command) → d ≤ length (commands job) → effect_in longer d c ≡ effect_in job d c
  same_effect_in d None le = refl
  same_effect_in d (Some c) le = ap (λ x. if is_accepted (answer_on job x c) then effect_by x c else Nothing) (same_desk d le)

  pub same_effect : (d : ℕ) → d < length (commands job) → effect longer d ≡ effect job d
  same_effect d lt = same_effect_in d (command longer d) (omega arith) ∙ ap (λ c. effect_in job d c) (same_command d lt)

  same_changed : (d : ℕ) → d < length (commands job) → (from n : ℕ) → changed_from longer d from n ≡ changed_from job d from n
  same_changed d lt from zero = refl
  same_changed d lt from (suc n) =
      let before = same_insn d (omega arith) from in let after = same_insn (suc d) (omega arith) from in let rest = same_changed d lt (suc from) n in cc

  pub same_moves : (d : ℕ) → d < length (commands job) → moves longer d ≡ moves job d
  unfolding moves
  same_moves d lt = ap batch (same_changed d lt 0 (funcs job))
