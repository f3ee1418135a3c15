-- Between any two steps each call site is settled.
use Rattle.std.proofs.Common.{◌≡◌, ℕ, suc, ◌<◌, ◌≤◌, Bool, true, false, inl, inr, sym, ap, ◌∙◌, subst, arith, cond}
use Rattle.std.proofs.lemmas.Bool.{cases_lt}
use Rattle.ft_base.specs.Job.{Job, funcs}
use Rattle.ft_hist.specs.Past.{done, begun}
use Rattle.word_machine.specs.Commands.{insn, changes}
use Rattle.word_machine.specs.Machine.{World}
use Rattle.word_machine.specs.Progress.{underway}
use Rattle.word_machine.specs.Sites.{SiteAt, stage, stage_in, stage_by}
use Rattle.word_machine.specs.Rule.{MachineRule}
use Rattle.word_machine.specs.Laws.{HasTarget, IsSettled}
use Rattle.word_machine_laws.proofs.VerdictLaws.{selected-underway}
use Rattle.word_machine_laws.proofs.Effects.{late}

module _ (job : Job) (s : World) (kept : MachineRule job s) (f : ℕ) (inside : f < funcs job) where
  site : SiteAt (stage job s.control.commands_done s.control.position f) f (insn job s.control.commands_done f) (insn job (suc s.control.commands_done) f)
      (s.words.head f) (s.words.tail f) (s.words.next f)
  site = kept.sites.sites f inside

  -- if something of the batch is stored, the command has begun
  pub has_begun : 1 ≤ stage job s.control.commands_done s.control.position f → begun s.past ≡ suc s.control.commands_done
  has_begun le = kept.counts.started ∙ ap (λ b. cond b (suc s.control.commands_done) s.control.commands_done)
      (by_change (changes job s.control.commands_done f) le)
    where
      by_change : (b : Bool) → 1 ≤ stage_by b (stage_in s.control.position f) → underway s.control.position ≡ true
      by_change true h = selected-underway s.control.position (late s.control.position f h)
      by_change false h = absurd (omega (arith, h))

  old : stage job s.control.commands_done s.control.position f < 2 → HasTarget job s.words f (done s.past)
  old lt = subst (λ k. HasTarget job s.words f k) (sym kept.counts.returned) (site.before lt, site.tail_old (omega (arith, lt)))

  new : 8 ≤ stage job s.control.commands_done s.control.position f → HasTarget job s.words f (begun s.past)
  new le = subst (λ k. HasTarget job s.words f k) (sym (has_begun (omega (arith, le)))) (site.after le, site.tail_new (omega (arith, le)))

  pub settled : IsSettled job s f
  settled = record {
    whole = elim (cases_lt (stage job s.control.commands_done s.control.position f) 2) [
      | inl lt ↦ inr (inl (old lt))
      | inr ge ↦ elim (cases_lt (stage job s.control.commands_done s.control.position f) 8) [
        | inl lt ↦ inl (site.broken ge lt)
        | inr le ↦ inr (inr (new le))
      ]
    ];
    between = λ e. elim (cases_lt (stage job s.control.commands_done s.control.position f) 2) [
      | inl lt ↦ old lt
      | inr ge ↦ (let b = has_begun (omega (arith, ge)) in let d = kept.counts.returned in absurd (omega (arith, b, d, e)))
    ];
  }
