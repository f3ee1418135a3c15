-- The rows that give a trampoline to a user and take it away.
use Rattle.std.proofs.Common.{cond, ◌≡◌, ◌≢◌, ℕ, suc, ◌+◌, ◌<◌, ◌≤◌, true, false, List, length, Some, inl, inr, refl, sym, ap, ◌∙◌, subst, arith}
use Rattle.std.specs.Prelude.{nat_lt}
use Rattle.std.proofs.lemmas.Bool.{cases_eq}
use Rattle.std.proofs.lemmas.Bool.Decides.{nat_tests}
use Rattle.std.proofs.lemmas.Option.{same_Some}
use Rattle.ft_base.specs.declared.item.Item.{Item}
use Rattle.ft_base.specs.Job.{Job, Ctl}
use Rattle.ft_base.specs.Desk.{UserState, desk}
use Rattle.ft_base.specs.WellFormed.{IsWellFormed}
use Rattle.ft_base.proofs.Small.{false_true}
use Rattle.word_map.specs.Words.{Words, put, at_put, Tramp}
use Rattle.word_map.specs.Contents.{tramp_word, low, other_copy}
use Rattle.word_machine.specs.Commands.{Adds, Removes, effect, subject, state_of, set_words}
use Rattle.word_map.specs.Ops.{Store}
use Rattle.word_machine.specs.Control.{Position, Take, Copy, Select, Release, Close, slot_of, copy_from, control_got}
use Rattle.word_machine.specs.Cpu.{Cpu}
use Rattle.word_machine.specs.Machine.{control_row}
use Rattle.word_machine.specs.Progress.{took, gave, underway, quiet_reached, writes_copy, selects, comes_to, waits}
use Rattle.word_machine.specs.Sites.{PositionAt, stage_in, asks, reached}
use Rattle.word_machine.specs.UserList.{PushedAt}
use Rattle.word_machine.specs.HashCopies.{WrittenAt}
use Rattle.word_machine.specs.Trampolines.{HasSlot, TrampolinesHeld}
use Rattle.word_machine.specs.Rule.{MachineRule}
use Rattle.word_machine_laws.proofs.DeskChanges.{SubjectBy, between}
use Rattle.word_machine.proofs.Small.{if_case, put_same, put_other, slot_is}
use Rattle.word_machine_laws.proofs.Sites.{Passed, passed_same}
use Rattle.word_machine_laws.proofs.NoSwitch.{world, Flags, goes_still, listed_on, sets_on, limits_on, row_kept}
use Rattle.word_machine_laws.proofs.CommandDesks.{others_same}
use Rattle.word_machine_laws.proofs.DeskSlots.{added_free, slots_apart}
use Rattle.word_machine_laws.proofs.Effects.{adds_of, removes_of, none_gave, closing}

-- the first word of the copy, or the store of the state if a set has no words
pub first_copy : (job : Job) (P : Position → Type 0) → (0 < set_words job → P (Copy 0 0)) → (set_words job ≡ 0 → P Select) → P (copy_from job 0 0)
first_copy job P copy select =
    if_case P (nat_lt 0 (set_words job)) (Copy 0 0) (cond (nat_lt 0 (set_words job)) (Copy 1 0) Select) (λ e. copy (grind (arith, nat_tests)))
    (λ e. if_case P (nat_lt 0 (set_words job)) (Copy 1 0) Select (λ e'. false_true (sym e ∙ e'))
    (λ e'. select (let z : set_words job ≤ 0 = grind (arith, nat_tests) in omega (arith, z))))

module _ (job : Job) (ok : IsWellFormed job) (d : ℕ) (tramp : ℕ → ℕ) where
  -- a registration takes a free trampoline
  tramps_take : (t0 : ℕ) (p' : Position) → effect job d ≡ Adds → (state_of job (suc d) (subject job d)).slot ≡ Some t0
      → (state_of job (suc d) (subject job d)).registered ≡ true → gave (effect job d) p' ≡ false → took p' ≡ true
      → TrampolinesHeld job d Take tramp → TrampolinesHeld job d p' (at_put tramp t0 (tramp_word (state_of job (suc d) (subject job d)).reg (subject job d)))
  tramps_take t0 p' adds slot registered give take k = record {
    before = λ u t h free. put_other tramp t0 x t (apart u t h) ∙ k.before u t h (λ g. false_true (sym (none_gave (effect job d) Take refl) ∙ g));
    after = λ e u t h. elim (cases_eq u (subject job d)) [
      | inl s ↦
          let same : t ≡ t0 = same_Some t t0 (sym (subst (λ v. (state_of job (suc d) v).slot ≡ Some t) s h.1) ∙ slot) in
          subst (λ v. at_put tramp t0 x t ≡ tramp_word (state_of job (suc d) v).reg v) (sym s)
          (subst (λ y. at_put tramp t0 x y ≡ x) (sym same) (put_same tramp t0 x))
      | inr ne ↦
          let old : HasSlot (state_of job d u) t = subst (λ (s : UserState). HasSlot s t) (others_same job ok d u ne) h in
          subst (λ (s : UserState). at_put tramp t0 x t ≡ tramp_word s.reg u) (sym (others_same job ok d u ne)) (put_other tramp t0 x t (apart u t old)
          ∙ k.before u t old (λ g. false_true (sym (none_gave (effect job d) Take refl) ∙ g)))
    ];
    free = λ t within old new.
        put_other tramp t0 x t (λ e. new take (subject job d) (registered, (subst (λ y. (state_of job (suc d) (subject job d)).slot ≡ Some y) (sym e) slot)))
        ∙ k.free t within (λ u h. false_true (sym give ∙ (old u h).0)) (λ e. false_true e);
  }
    where
      x : ℕ
      x = tramp_word (state_of job (suc d) (subject job d)).reg (subject job d)

      apart : (u t : ℕ) → HasSlot (state_of job d u) t → t ≢ t0
      apart u t h e = added_free job ok d t0 adds slot u (subst (λ y. HasSlot (state_of job d u) y) e h)

  -- an unregistration gives it back
  tramps_release : (t0 : ℕ) → effect job d ≡ Removes → (state_of job d (subject job d)).slot ≡ Some t0 → TrampolinesHeld job d Release tramp
      → TrampolinesHeld job d Close (at_put tramp t0 0)
  tramps_release t0 removes slot k = record {
    before = λ u t h free.
        let ne : u ≢ subject job d = free (ap (λ z. gave z Close) removes) in
        put_other tramp t0 0 t (apart u t ne h) ∙ k.before u t h (λ g. false_true (sym (none_gave (effect job d) Release refl) ∙ g));
    after = λ e u t h. elim (cases_eq u (subject job d)) [
      | inl s ↦ false_true (sym (ap (λ (y : UserState). y.registered) c.1) ∙ subst (λ v. (state_of job (suc d) v).registered ≡ true) s h.0)
      | inr ne ↦ put_other tramp t0 0 t (apart u t ne (subst (λ (y : UserState). HasSlot y t) (others_same job ok d u ne) h)) ∙ k.after refl u t h
    ];
    free = λ t within old new. elim (cases_eq t t0) [
      | inl e ↦ subst (λ y. at_put tramp t0 0 y ≡ 0) (sym e) (put_same tramp t0 0)
      | inr ne ↦ put_other tramp t0 0 t ne ∙ k.free t within
          (λ u h. absurd (ne (same_Some t t0 (sym (subst (λ v. (state_of job d v).slot ≡ Some t) (old u h).1 h.1) ∙ slot)))) new
    ];
  }
    where
      c : SubjectBy job (desk job d) (suc d) Removes (state_of job d (subject job d)) (state_of job (suc d) (subject job d))
      c = subst (λ z. SubjectBy job (desk job d) (suc d) z (state_of job d (subject job d)) (state_of job (suc d) (subject job d))) removes
          (between job ok d).subject

      apart : (u t : ℕ) → u ≢ subject job d → HasSlot (state_of job d u) t → t ≢ t0
      apart u t ne h e = ne (slots_apart job ok d u (subject job d) t h (c.0, slot ∙ ap (λ y. Some y) (sym e)))

module _ (job : Job) (ok : IsWellFormed job) (ws : Words) (d : ℕ) (remaining : List Ctl) (request : ℕ) (copies : ℕ → ℕ) (order : List ℕ) (cpus : ℕ
    → Cpu) (past : List Item) where
  abbrev At : Position → Type 0
  At p = MachineRule job (world ws d remaining request copies order cpus past p)

  -- a store of a trampoline
  tramp_to : (p p' : Position) (t0 x : ℕ) → (k : At p) → Flags job d p p' request request → TrampolinesHeld job d p' (at_put ws.tramp t0 x)
      → underway p' ≡ underway p → PushedAt job d ws.link order p'
      → WrittenAt job (state_of job (suc d) (subject job d)) (ws.bits (subject job d) (other_copy (copies (subject job d)))) (effect job d) p'
      → Passed job ws.ack d p k.base request d p' k.base request ws.want ws.head ws.tail ws.next
      → ((t : ℕ) → t < length job.tasks → quiet_reached (effect job d) p request t ≤ low (ws.quiet t)
      → quiet_reached (effect job d) p' request t ≤ low (ws.quiet t))
      → MachineRule job (world (put (Tramp t0) x ws) d remaining request copies order cpus past p')
  tramp_to p p' t0 x k flags tramps begun pushed written pass quiets =
      row_kept job ws d remaining request copies order cpus past p p' k.base request copies order k begun (omega arith) pass
      (listed_on job d p p' order ws.first ws.link flags.list pushed k.list) (sets_on job d p p' copies ws.sel ws.bits flags.select written k.sets) tramps
      (limits_on job d p p' ws.pids ws.depth flags.pids flags.depth k.limits) quiets
      (goes_still job d p p' k.base k.base request request flags order copies ws.link ws.bits)

  pub take_keeps : At Take → MachineRule job (control_row job (world ws d remaining request copies order cpus past Take)
      (Store (Tramp (slot_of (state_of job (suc d) (subject job d)).slot)) (tramp_word (state_of job (suc d) (subject job d)).reg (subject job d))))
  unfolding control_got
  take_keeps k = first_copy job (λ q. MachineRule job
      (world (put (Tramp (slot_of (state_of job (suc d) (subject job d)).slot))
      (tramp_word (state_of job (suc d) (subject job d)).reg (subject job d)) ws) d remaining request copies order cpus past q))
      (λ some. to (Copy 0 0) (record { list = refl; select = refl; pids = refl; depth = refl; hold = λ q small h. tt; grows = omega arith })
      (none_gave (effect job d) (Copy 0 0) refl) refl refl tt
      (λ i v ti tv b. absurd (elim b [ inl x ↦ omega (arith, x) | inr x ↦ (let y = x.1 in omega (arith, y)) ])) (λ f. refl) refl (
        omega arith,
        some,
      ) (ap writes_copy adds) (λ b c. refl) (λ t. refl))
      (λ none. to Select (record { list = refl; select = refl; pids = refl; depth = refl; hold = λ q small h. tt; grows = omega arith })
      (none_gave (effect job d) Select refl) refl refl tt
      (λ w i v ti tv. absurd (omega (arith, none, tv))) (λ f. refl) refl tt (ap selects adds) (λ b c. refl) (λ t. refl))
    where
      adds : effect job d ≡ Adds
      adds = adds_of (effect job d) k.sites.fit

      registered : (state_of job (suc d) (subject job d)).registered ≡ true
      registered =
          let c : SubjectBy job (desk job d) (suc d) Adds (state_of job d (subject job d)) (state_of job (suc d) (subject job d)) =
          subst (λ z. SubjectBy job (desk job d) (suc d) z (state_of job d (subject job d)) (state_of job (suc d) (subject job d))) adds
          (between job ok d).subject in
          ap (λ (y : UserState). y.registered) c.1

      to : (p' : Position) → Flags job d Take p' request request → gave (effect job d) p' ≡ false → took p' ≡ true → underway p' ≡ true
          → PushedAt job d ws.link order p'
          → WrittenAt job (state_of job (suc d) (subject job d)) (ws.bits (subject job d) (other_copy (copies (subject job d)))) (effect job d) p'
          → ((f : ℕ) → stage_in p' f ≡ 0) → asks p' ≡ 0 → PositionAt job d p' → comes_to (effect job d) p' ≡ true → ((b c : ℕ) → reached b p' c ≡ 0)
          → ((t : ℕ) → quiet_reached (effect job d) p' request t ≡ 0)
          → MachineRule job (world (put (Tramp (slot_of (state_of job (suc d) (subject job d)).slot))
          (tramp_word (state_of job (suc d) (subject job d)).reg (subject job d)) ws) d remaining request copies order cpus past p')
      to p' flags give take begun pushed written stages none position fit reaches quiet =
          tramp_to Take p' (slot_of (state_of job (suc d) (subject job d)).slot) (tramp_word (state_of job (suc d) (subject job d)).reg (subject job d)) k flags
          (tramps_take job ok d ws.tramp (slot_of (state_of job (suc d) (subject job d)).slot) p' adds
          (slot_is (state_of job (suc d) (subject job d)).slot k.sites.position) registered give take k.tramps)
          begun pushed written
          (passed_same job d ws.ack Take p' k.base k.base request request ws.want ws.want ws.head ws.tail ws.next (λ f inside ch. stages f)
          (k.sites.asked ∙ ap (λ n. k.base + n) (sym none)) (let z = k.sites.few in omega (arith, z)) k.sites.want position fit (inl refl)
          (λ c within s. rw (reaches k.base c) (omega arith)) k.sites)
          (λ t there r. rw (quiet t) (omega arith))

  pub release_keeps : At Release
      → MachineRule job (control_row job (world ws d remaining request copies order cpus past Release)
      (Store (Tramp (slot_of (state_of job d (subject job d)).slot)) 0))
  unfolding control_got
  release_keeps k =
      let removes : effect job d ≡ Removes = removes_of (effect job d) k.sites.fit in
      tramp_to Release Close (slot_of (state_of job d (subject job d)).slot) 0 k
      (record { list = refl; select = refl; pids = refl; depth = refl; hold = λ q small h. closing (effect job d) request q h; grows = omega arith })
      (tramps_release job ok d ws.tramp (slot_of (state_of job d (subject job d)).slot) removes
      (slot_is (state_of job d (subject job d)).slot k.sites.position) k.tramps)
      refl tt tt
      (passed_same job d ws.ack Release Close k.base k.base request request ws.want ws.want ws.head ws.tail ws.next
      (λ f inside ch. refl) k.sites.asked k.sites.few k.sites.want tt refl (inl refl) (λ c within s. omega arith) k.sites)
      (λ t there r. if_case (λ n. n ≤ low (ws.quiet t)) (waits (effect job d)) request 0 (λ e. r) (λ e. omega arith))
