-- The word of a trampoline that a task is in names its user, under the registration that it was fetched under.
use Rattle.std.proofs.Common.{◌≡◌, ℕ, suc, ◌≤◌, Bool, true, false, List, inl, inr, refl, sym, ap, ◌∙◌}
use Rattle.ft_base.specs.declared.item.Item.{Item}
use Rattle.ft_base.specs.Job.{Job}
use Rattle.ft_base.specs.Desk.{desk, is_sited}
use Rattle.ft_base.proofs.Small.{false_true}
use Rattle.word_map.specs.Contents.{tramp_word}
use Rattle.word_machine.specs.Commands.{effect, state_of}
use Rattle.word_machine.specs.Task.{OpenCall}
use Rattle.word_machine.specs.Progress.{SeenAt, selected, quiet_reached}
use Rattle.word_machine.specs.Trampolines.{IsOwned, TrampolinesHeld}
use Rattle.word_machine.specs.Verdicts.{Here, InOwn}
use Rattle.word_machine_laws.proofs.Effects.{gave_close, selected_took, close-passed}

pub own-word : (job : Job) (h : Here) (past : List Item) (q : ℕ) (c : OpenCall) (slot u reg t : ℕ) (tramp : ℕ → ℕ) → TrampolinesHeld job h.d h.p tramp
    → quiet_reached (effect job h.d) h.p h.request t ≤ q → InOwn job h past q c slot u reg → tramp slot ≡ tramp_word reg u
own-word job h past q c slot u reg t tramp k passed x = by_flag (selected h.p) refl x.1
  where
    Sited : ℕ → Type 0
    Sited j = (is_sited (desk job j) u c.func ≡ true) × IsOwned job slot u reg j

    under : (j : ℕ) → IsOwned job slot u reg j → tramp slot ≡ tramp_word (state_of job j u).reg u → tramp slot ≡ tramp_word reg u
    under j own e = e ∙ ap (λ r. tramp_word r u) own.1

    by_flag : (b : Bool) → selected h.p ≡ b → SeenAt b (effect job h.d) h.p h.request q (Sited h.d) (Sited (suc h.d)) → tramp slot ≡ tramp_word reg u
    by_flag false e own = under h.d own.1 (k.before u slot own.1.0 (λ g. false_true (sym e ∙ ap selected (gave_close (effect job h.d) h.p g).1)))
    by_flag true e (inl own) = under (suc h.d) own.1 (k.after (selected_took h.p e) u slot own.1.0)
    by_flag true e (inr y) = under h.d y.2.1 (k.before u slot y.2.1.0
        (λ g. absurd (close-passed (effect job h.d) h.p h.request q t (gave_close (effect job h.d) h.p g).1 y.0 passed y.1)))
