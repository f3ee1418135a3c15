-- What is never done while a task uses it: a trampoline is not freed or given away, a link is not stored anew, and a copy of sets is not written.
use Rattle.std.proofs.Common.{◌≡◌, ℕ, suc, true, false, List, Some, None, inl, inr, refl, sym, ap, ◌∙◌, subst, arith}
use Rattle.std.proofs.lemmas.Option.{same_Some}
use Rattle.ft_base.specs.declared.item.Ran.TheVariants.{List as ByList}
use Rattle.ft_base.specs.Job.{Job}
use Rattle.ft_base.specs.Desk.{UserState, desk}
use Rattle.ft_base.specs.Order.{has}
use Rattle.ft_hist.specs.Past.{Visit}
use Rattle.ft_base.proofs.Small.{false_true}
use Rattle.word_map.specs.Contents.{low}
use Rattle.word_machine.specs.Commands.{Effect, Adds, effect, subject, state_of}
use Rattle.word_machine.specs.Task.{OpenCall, Moment, InTramp, OwnSel, TestSel, TestFilter, TestNotrace, AtPids, AtDepth, Refusing, Calling, Missing, Acting, Ending, AtLink}
use Rattle.word_machine.specs.Machine.{World}
use Rattle.word_machine.specs.Progress.{listed, is_adds, comes_to}
use Rattle.word_machine.specs.UserList.{list_desk}
use Rattle.word_machine.specs.HashCopies.{ReaderAt, InFilter, InNotrace}
use Rattle.word_machine.specs.Verdicts.{InOwn, Walks, BeforeVisit, AfterVisit}
use Rattle.word_machine.specs.Calls.{CallAt}
use Rattle.word_machine.specs.Rule.{MachineRule, here, IsWordJob}
use Rattle.word_machine.specs.Laws.{IsAt, IsHeldFor, IsLinking, IsWriting, walked, copy_read}
use Rattle.word_machine_laws.proofs.DeskChanges.{SubjectBy, between}
use Rattle.word_machine_laws.proofs.OpenCalls.{task-rule, call-rule}
use Rattle.word_machine_laws.proofs.OwnWord.{own-word}

none_some : {A : Type 0} {B : Type 0} (x : A) → None ≡ Some x → B
none_some x e = absurd (cc)

module _ (job : Job) (ok : IsWordJob job) (s : World) (kept : MachineRule job s) (c t : ℕ) (top : OpenCall) (below : List OpenCall) where
  -- the trampoline that a call is in is held for it
  held-for : (m : Moment) (slot u reg : ℕ) → IsAt job s c t top below m → InOwn job (here s kept.base) s.past (low (s.words.quiet t)) top slot u reg
      → IsHeldFor job s top slot u reg
  held-for m slot u reg at' x = record {
    names = own-word job (here s kept.base) s.past (low (s.words.quiet t)) top slot u reg t s.words.tramp kept.tramps
        (task-rule job s kept c t top below m at').reached x;
    whose = x.0;
  }

  -- before the load of its word
  pub in-tramp : (slot : ℕ) → IsAt job s c t top below (InTramp slot) → (u : ℕ) × (reg : ℕ) × IsHeldFor job s top slot u reg
  in-tramp slot at' =
      let x = (call-rule job s kept c t top below (InTramp slot) at').1.at.1 in (x.0, x.1, held-for (InTramp slot) slot x.0 x.1 at' x.2)

  -- and before the load of its user's state
  pub in-own : (u reg : ℕ) → IsAt job s c t top below (OwnSel u reg) → (slot : ℕ) × IsHeldFor job s top slot u reg
  in-own u reg at' =
      let x = (call-rule job s kept c t top below (OwnSel u reg) at').1.at.3 in (x.0, held-for (OwnSel u reg) x.0 u reg at' x.1)

  -- the user that control adds is not registered before the command
  added-new : is_adds (effect job s.control.commands_done) ≡ true
      → (state_of job s.control.commands_done (subject job s.control.commands_done)).registered ≡ false
  added-new a = by_effect (effect job s.control.commands_done) (between job ok.job' s.control.commands_done).subject a
    where
      by_effect : (z : Effect) → SubjectBy job (desk job s.control.commands_done) (suc s.control.commands_done) z
          (state_of job s.control.commands_done (subject job s.control.commands_done))
          (state_of job (suc s.control.commands_done) (subject job s.control.commands_done)) → is_adds z ≡ true
          → (state_of job s.control.commands_done (subject job s.control.commands_done)).registered ≡ false
      by_effect Adds x a = x.0
      by_effect _ x a = false_true a

  -- a walker is at nobody whose link control is about to store
  walks-elsewhere : (q u : ℕ) → Walks job (here s kept.base) q u → IsLinking job s u → ⊥
  walks-elsewhere q u (inl there) x =
      let adds : is_adds (effect job s.control.commands_done) ≡ true =
      subst (λ p. comes_to (effect job s.control.commands_done) p ≡ true) x.0 kept.sites.fit in
      let members : has u s.control.order ≡ (state_of job s.control.commands_done u).registered =
      subst (λ p. has u s.control.order ≡ (state_of job (list_desk p s.control.commands_done) u).registered) x.0 (kept.list.order'.members u) in
      false_true (sym (added-new adds) ∙ ap (λ v. (state_of job s.control.commands_done v).registered) (sym x.1) ∙ sym members ∙ there)
  walks-elsewhere q u (inr g) x = false_true (sym (ap listed x.0) ∙ g.0.0)

  before : (q u : ℕ) (ms : List Visit) → top.ran ≡ ByList → BeforeVisit job (here s kept.base) q top.ran u ms → Walks job (here s kept.base) q u
  before q u ms is b = (subst (λ r. BeforeVisit job (here s kept.base) q r u ms) is b).0

  after : (q u : ℕ) (ms : List Visit) → top.ran ≡ ByList → AfterVisit job (here s kept.base) q top.ran u ms → Walks job (here s kept.base) q u
  after q u ms is b = (subst (λ r. AfterVisit job (here s kept.base) q r u ms) is b).0

  -- whoever is called back or tested by the list caller is walked
  walks : (q : ℕ) (m : Moment) (u : ℕ) → walked m ≡ Some u → top.ran ≡ ByList → CallAt job (here s kept.base) s.past (s.words.ack c) q top below m
      → Walks job (here s kept.base) q u
  walks q (TestSel v) u e is k = subst (Walks job (here s kept.base) q) (same_Some v u e) (before q v _ is k.at.1)
  walks q (TestFilter v copy reg) u e is k = subst (Walks job (here s kept.base) q) (same_Some v u e) (before q v _ is k.at.1)
  walks q (TestNotrace v copy reg) u e is k = subst (Walks job (here s kept.base) q) (same_Some v u e) (before q v _ is k.at.1)
  walks q (AtPids v reg) u e is k = subst (Walks job (here s kept.base) q) (same_Some v u e) (before q v _ is k.at.1)
  walks q (AtDepth v reg) u e is k = subst (Walks job (here s kept.base) q) (same_Some v u e) (before q v _ is k.at.1)
  walks q (Refusing v reg reason) u e is k = subst (Walks job (here s kept.base) q) (same_Some v u e) (before q v _ is k.at.1)
  walks q (Calling v reg) u e is k = subst (Walks job (here s kept.base) q) (same_Some v u e) (before q v _ is k.at.1)
  walks q (Missing v) u e is k = subst (Walks job (here s kept.base) q) (same_Some v u e) (after q v _ is k.at.1)
  walks q (Acting v o) u e is k = subst (Walks job (here s kept.base) q) (same_Some v u e) (after q v _ is k.at.1)
  walks q (Ending v) u e is k = subst (Walks job (here s kept.base) q) (same_Some v u e) (after q v _ is k.at.1)
  walks q (AtLink v) u e is k = subst (Walks job (here s kept.base) q) (same_Some v u e) (after q v _ is k.at.1)
  walks q _ u e is k = none_some u e

  -- no task is at a user whose link is about to be stored
  pub link-unused : (m : Moment) (u : ℕ) → IsAt job s c t top below m → top.ran ≡ ByList → walked m ≡ Some u → IsLinking job s u → ⊥
  link-unused m u at' is e x =
      walks-elsewhere (low (s.words.quiet t)) u (walks (low (s.words.quiet t)) m u e is (call-rule job s kept c t top below m at').1) x

  -- a copy that is read is not the one that control is about to write
  other : (q u copy : ℕ) (R : UserState → (ℕ → ℕ → ℕ) → Type 0)
      → ReaderAt job s.control.commands_done s.control.position s.control.request q s.control.copies s.words.bits u copy R → IsWriting job s u copy → ⊥
  other q u copy R k x =
      let same : copy ≡ s.control.copies u =
      (subst (λ p. ReaderAt job s.control.commands_done p s.control.request q s.control.copies s.words.bits u copy R) x.2 k).0 refl in
      let two = kept.sets.small u in let e = x.4 in absurd (omega (arith, same, two, e))

  reads : (q : ℕ) (m : Moment) (u copy : ℕ) → copy_read m ≡ Some (u, copy) → CallAt job (here s kept.base) s.past (s.words.ack c) q top below m
      → IsWriting job s u copy → ⊥
  reads q (TestFilter v d reg) u copy e k x =
      other q v d (InFilter job reg) k.at.3 (subst (λ (y : ℕ × ℕ). IsWriting job s y.0 y.1) (sym (same_Some (v, d) (u, copy) e)) x)
  reads q (TestNotrace v d reg) u copy e k x =
      other q v d (InNotrace job reg top.func) k.at.3 (subst (λ (y : ℕ × ℕ). IsWriting job s y.0 y.1) (sym (same_Some (v, d) (u, copy) e)) x)
  reads q _ u copy e k x = none_some (u, copy) e

  pub copy-unread : (m : Moment) (u copy : ℕ) → IsAt job s c t top below m → copy_read m ≡ Some (u, copy) → IsWriting job s u copy → ⊥
  copy-unread m u copy at' e x = reads (low (s.words.quiet t)) m u copy e (call-rule job s kept c t top below m at').1 x
