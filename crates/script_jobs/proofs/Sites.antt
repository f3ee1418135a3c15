-- Between whole lines the sites of functions of modules that aren't loaded are nops, since no user is sited there.
use Rattle.std.proofs.Common.{◌≡◌, ℕ, suc, ◌<◌, ◌&&◌, Bool, false, List, [], ◌∷◌, length, get_or, refl, sym, ap, ◌∙◌, subst, arith}
use Rattle.ft_base.specs.declared.item.Item.{Item}
use Rattle.ft_base.specs.Desk.{Desk, UserState, desk, unseen, sited, sited_from, is_matching}
use Rattle.ft_base.specs.Job.{Job}
use Rattle.ft_base.proofs.DeskLaws.{length-desk}
use Rattle.ft_base.proofs.Small.{and-false}
use Rattle.ft_hist.specs.Past.{begun, done}
use Rattle.ft_machine.specs.Sites.{IsWhole}
use Rattle.site_bytes.specs.Bytes.{bytes_of}
use Rattle.site_bytes.specs.declared.insn.Insn.TheVariants.{Nop}
use Rattle.ft_machine.proofs.Nobody.{nobody-nop}
use Rattle.ft_script.specs.Above.{Above}
use Rattle.ft_script.specs.Script.{declared_in, job_of, IsJobOf}
use Rattle.ft_script.specs.Holds.{CanRun}
use Rattle.ft_script.specs.Hidden.{known_after, is_there, matches_by_own}
use Rattle.ft_script.proofs.HiddenModules.{hides}
use Rattle.script_jobs.proofs.Texts.{can_run}

-- if none of these users is sited, the list of those that are is empty
none-sited : (d : Desk) (f base : ℕ) (users : List UserState)
    → ((u : ℕ) → u < length users → ((get_or users u (unseen 0)).registered && is_matching (get_or users u (unseen 0)) f) ≡ false) → sited_from d f base users ≡ []
none-sited d f base [] none = refl
none-sited d f base (s ∷ rest) none = rw (none 0 (omega arith)) (none-sited d f (suc base) rest (λ u lt. none (suc u) (omega (arith, lt))))

module _ (above : Above) (run : CanRun above) (single : above.lane_count ≡ 0) (n f : ℕ) (within : f < length above.functions) where
  abbrev k : ℕ
  k = (known_after above n).commands

  abbrev job : Job
  job = job_of above

  users-same : length (desk job k).users ≡ length above.users
  unfolding job_of
  users-same = length-desk job k

  nobody : is_there job k f ≡ false → sited (desk job k) f ≡ []
  nobody away = none-sited (desk job k) f 0 (desk job k).users (λ u lt.
      let there = users-same in
      (hides above run single n).sited u f (omega (arith, there, lt)) within
      ∙ ap (λ (b : Bool). matches_by_own (desk job k) (known_after above n) u f && b) away ∙ and-false _)

  pub unloaded-nop : (past : List Item) (bytes : List ℕ) → IsWhole job past f bytes → begun past ≡ done past → done past ≡ k → is_there job k f ≡ false → bytes ≡ bytes_of f Nop
  unloaded-nop past bytes whole still here away = nobody-nop job past f bytes whole still (ap (λ c. sited (desk job c) f) here ∙ nobody away)

-- the same of an accepted text
pub accepted-nop : (text : List ℕ) (j : Job) (n f : ℕ) (past : List Item) (bytes : List ℕ) → IsJobOf text j → (declared_in text).lane_count ≡ 0
    → f < length j.functions → IsWhole j past f bytes → begun past ≡ done past → done past ≡ (known_after (declared_in text) n).commands
    → is_there j (done past) f ≡ false → bytes ≡ bytes_of f Nop
unfolding job_of
accepted-nop text j n f past bytes is single within whole still here away =
    let m = is.meaning in
    unloaded-nop (declared_in text) (can_run text is.accepted) single n f (subst (λ (j : Job). f < length j.functions) m within) past bytes
    (subst (λ (j : Job). IsWhole j past f bytes) m whole) still here
    (sym (ap (λ c. is_there (job_of (declared_in text)) c f) here) ∙ subst (λ (j : Job). is_there j (done past) f ≡ false) m away)
