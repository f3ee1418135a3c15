-- The row that writes a word of the copy of sets that is not in use.
use Rattle.std.proofs.Common.{cond, ◌≡◌, ◌≢◌, ◌⊎◌, ℕ, zero, suc, ◌+◌, ◌<◌, ◌≤◌, Bool, true, false, ◌&&◌, List, inl, inr, refl, sym, ap, ◌∙◌, subst, arith}
use Rattle.std.specs.Prelude.{◌==◌, nat_lt}
use Rattle.std.proofs.lemmas.Bool.{eq-eqb, cases_lt}
use Rattle.std.proofs.lemmas.Bool.Decides.{nat_tests}
use Rattle.ft_base.specs.declared.item.Item.{Item}
use Rattle.ft_base.specs.Job.{Job, Ctl}
use Rattle.ft_base.specs.Desk.{UserState}
use Rattle.ft_base.proofs.Small.{false_true}
use Rattle.word_map.specs.Words.{Words, put, bits_put, Bits}
use Rattle.word_map.specs.Contents.{set_word, other_copy}
use Rattle.word_machine.specs.Commands.{effect, subject, state_of, set_words}
use Rattle.word_map.specs.Ops.{Store}
use Rattle.word_machine.specs.Control.{Position, Copy, Select, copy_from, control_got}
use Rattle.word_machine.specs.Cpu.{Cpu}
use Rattle.word_machine.specs.Machine.{control_row}
use Rattle.word_machine.specs.Progress.{SeenAt, selected, took, gave, underway, quiet_reached, desk_by, comes_to}
use Rattle.word_machine.specs.Sites.{PositionAt, stage_in, asks, reached}
use Rattle.word_machine.specs.UserList.{PushedAt}
use Rattle.word_machine.specs.HashCopies.{HasSets, SelIs, stored_last, WrittenAt, HashCopies}
use Rattle.word_machine.specs.Rule.{MachineRule}
use Rattle.word_machine.proofs.Small.{if_case, flip_other}
use Rattle.word_machine_laws.proofs.Sites.{Fetches, passed_same}
use Rattle.word_machine_laws.proofs.ControlEffects.{ControlEffect}
use Rattle.word_machine_laws.proofs.NoSwitch.{world, hereby, Flags, goes_still, tramps_on, listed_on, limits_on, row_kept}
use Rattle.word_machine_laws.proofs.Effects.{writes_selects, none_gave}

-- a store into another copy
pub bits_other : (bits : ℕ → ℕ → ℕ → ℕ → ℕ) (u c h w x v e : ℕ) → (v ≡ u → e ≢ c) → bits_put bits u c h w x v e ≡ bits v e
bits_other bits u c h w x v e ne i j k = by_tests (v == u) (e == c) refl refl i
  where
    by_tests : (a b : Bool) → (v == u) ≡ a → (e == c) ≡ b → cond (a && b && (j == h) && (k == w)) x (bits v e j k) ≡ bits v e j k
    by_tests false b ea eb = refl
    by_tests true false ea eb = refl
    by_tests true true ea eb = absurd (ne (grind (arith, nat_tests)) (grind (arith, nat_tests)))

module _ (job : Job) (d h w : ℕ) (copies : ℕ → ℕ) (bits : ℕ → ℕ → ℕ → ℕ → ℕ) where
  abbrev s0 : ℕ
  s0 = subject job d

  abbrev c0 : ℕ
  c0 = other_copy (copies (subject job d))

  abbrev new : UserState
  new = state_of job (suc d) (subject job d)

  abbrev bits' : ℕ → ℕ → ℕ → ℕ → ℕ
  bits' = bits_put bits (subject job d) (other_copy (copies (subject job d))) h w (set_word (state_of job (suc d) (subject job d)) h w)

  goes_copy : (p' : Position) (base request : ℕ) (order : List ℕ) (link : ℕ → ℕ) → Flags job d (Copy h w) p' request request → ((u : ℕ) → copies u < 2)
      → (ack q : ℕ) → q ≤ request → Fetches job ack d (Copy h w) base d p' base
      → ControlEffect job (hereby d (Copy h w) base request order copies link bits) (hereby d p' base request order copies link bits') ack q
  goes_copy p' base request order link flags small ack q le fetch =
      let g : ControlEffect job (hereby d (Copy h w) base request order copies link bits) (hereby d p' base request order copies link bits) ack q =
      goes_still job d (Copy h w) p' base base request request flags order copies link bits ack q le fetch in
      record {
        later = g.later;
        fetch = g.fetch;
        user = g.user;
        reads = λ u copy R steady s.
            let same : bits' u copy ≡ bits u copy =
            bits_other bits s0 c0 h w (set_word new h w) u copy (λ e c. flip_other (copies s0) (small s0) (sym (ap copies e) ∙ sym (s.0 refl) ∙ c)) in
            subst (λ b. SeenAt b (effect job d) p' request q ((b ≡ false → copy ≡ copies u) × R (state_of job d u) (bits' u copy))
            ((copy ≡ copies u) × R (state_of job (suc d) u) (bits' u copy))) (sym flags.select)
            (s.0, subst (λ y. R (state_of job d u) y) (sym same) s.1);
        walks = g.walks;
        walked = g.walked;
        since = g.since;
        pids = g.pids;
        depth = g.depth;
      }

  sets_copy : (p' : Position) (sel : ℕ → ℕ) → selected p' ≡ false → WrittenAt job new (bits' s0 c0) (effect job d) p'
      → HashCopies job d (Copy h w) copies sel bits → HashCopies job d p' copies sel bits'
  sets_copy p' sel out written k = record {
    small = k.small;
    sels = λ u.
        let same : bits' u (copies u) ≡ bits u (copies u) =
        bits_other bits s0 c0 h w (set_word new h w) u (copies u) (λ e c. flip_other (copies s0) (k.small s0) (sym (ap copies e) ∙ c)) in
        subst (λ y. SelIs job (state_of job (desk_by y d) u) (sel u) (copies u) (bits' u)) (sym out)
        ((λ r. (((k.sels u).0 r).0, subst (λ y. HasSets job (state_of job d u) y) (sym same) ((k.sels u).0 r).1)), (k.sels u).1);
    last = λ u. k.last u ∙ ap (λ y. stored_last job u (copies u) (desk_by y d)) (sym out);
    written = written;
    left = λ e s. false_true (sym out ∙ s);
  }

  -- what is written so far, with this word
  written_now : (sel : ℕ → ℕ) → HashCopies job d (Copy h w) copies sel bits → (i v : ℕ) → i < 2 → v < set_words job → (i < h) ⊎ ((i ≡ h) × (v < suc w))
      → bits' s0 c0 i v ≡ set_word new i v
  written_now sel k i v ti tv before = by_tests (i == h) (v == w) refl refl
    where
      z1 : (subject job d == subject job d) ≡ true
      z1 = eq-eqb (subject job d) (subject job d) refl

      z2 : (other_copy (copies (subject job d)) == other_copy (copies (subject job d))) ≡ true
      z2 = eq-eqb (other_copy (copies (subject job d))) (other_copy (copies (subject job d))) refl

      by_tests : (a b : Bool) → (i == h) ≡ a → (v == w) ≡ b
          → cond ((subject job d == subject job d) && (other_copy (copies (subject job d)) == other_copy (copies (subject job d))) && a && b)
          (set_word new h w) (bits s0 c0 i v) ≡ set_word new i v
      by_tests true true ea eb =
          let ei : i ≡ h = grind (arith, nat_tests) in let ev : v ≡ w = grind (arith, nat_tests) in
          rw (z1, z2) (λ j. set_word new (sym ei j) (sym ev j))
      by_tests true false ea eb =
          let ne : v ≢ w = grind (arith, nat_tests) in
          rw (z1, z2) (k.written i v ti tv (elim before [ inl x ↦ inl x | inr x ↦ inr (x.0, (let y = x.1 in omega (arith, y, ne))) ]))
      by_tests false b ea eb =
          let ne : i ≢ h = grind (arith, nat_tests) in
          rw (z1, z2) (k.written i v ti tv (elim before [ inl x ↦ inl x | inr x ↦ absurd (ne x.0) ]))

module _ (job : Job) (ws : Words) (d : ℕ) (remaining : List Ctl) (request : ℕ) (copies : ℕ → ℕ) (order : List ℕ) (cpus : ℕ → Cpu) (past : List Item) where
  abbrev At : Position → Type 0
  At p = MachineRule job (world ws d remaining request copies order cpus past p)

  abbrev word_at : ℕ → ℕ → ℕ
  word_at h w = set_word (state_of job (suc d) (subject job d)) h w

  abbrev After : ℕ → ℕ → Position → Type 0
  After h w p = MachineRule job (world
      (put (Bits (subject job d) (other_copy (copies (subject job d))) h w) (word_at h w) ws) d remaining request copies order cpus past p)

  copy_to : (h w : ℕ) (p' : Position) → Flags job d (Copy h w) p' request request → selected p' ≡ false → took p' ≡ took (Copy h w)
      → gave (effect job d) p' ≡ false → underway p' ≡ true → PushedAt job d ws.link order p' → PositionAt job d p'
      → comes_to (effect job d) p' ≡ true → ((f : ℕ) → stage_in p' f ≡ 0) → asks p' ≡ 0
      → ((b c : ℕ) → reached b p' c ≡ 0) → ((t : ℕ) → quiet_reached (effect job d) p' request t ≡ 0)
      → WrittenAt job (state_of job (suc d) (subject job d)) (bits' job d h w copies ws.bits (subject job d) (other_copy (copies (subject job d))))
      (effect job d) p' → At (Copy h w) → After h w p'
  copy_to h w p' flags out take give begun pushed position fit stages none reaches quiet written k =
      row_kept job ws d remaining request copies order cpus past (Copy h w) p' k.base request copies order k begun (omega arith)
      (passed_same job d ws.ack (Copy h w) p' k.base k.base request request ws.want ws.want ws.head ws.tail ws.next (λ f inside ch. stages f)
      (k.sites.asked ∙ ap (λ n. k.base + n) (sym none)) (let z = k.sites.few in omega (arith, z)) k.sites.want position fit (inl refl)
      (λ c within s. rw (reaches k.base c) (omega arith)) k.sites)
      (listed_on job d (Copy h w) p' order ws.first ws.link flags.list pushed k.list) (sets_copy job d h w copies ws.bits p' ws.sel out written k.sets)
      (tramps_on job d (Copy h w) p' take (give ∙ sym (none_gave (effect job d) (Copy h w) refl)) ws.tramp k.tramps)
      (limits_on job d (Copy h w) p' ws.pids ws.depth flags.pids flags.depth k.limits) (λ t there r. rw (quiet t) (omega arith))
      (goes_copy job d h w copies ws.bits p' k.base request order ws.link flags k.sets.small)

  pub copy_keeps : (h w : ℕ) → At (Copy h w)
      → MachineRule job (control_row job (world ws d remaining request copies order cpus past (Copy h w))
      (Store (Bits (subject job d) (other_copy (copies (subject job d))) h w) (word_at h w)))
  unfolding control_got
  copy_keeps h w k = dest h refl
    where
      to_copy : (i v : ℕ) → i < 2 → v < set_words job
          → WrittenAt job (state_of job (suc d) (subject job d)) (bits' job d h w copies ws.bits (subject job d) (other_copy (copies (subject job d))))
          (effect job d) (Copy i v) → After h w (Copy i v)
      to_copy i v ti tv written =
          copy_to h w (Copy i v) (record { list = refl; select = refl; pids = refl; depth = refl; hold = λ q small x. tt; grows = omega arith }) refl refl
          (none_gave (effect job d) (Copy i v) refl) refl tt (ti, tv) k.sites.fit (λ f. refl) refl (λ b c. refl) (λ t. refl) written k

      to_select : WrittenAt job (state_of job (suc d) (subject job d)) (bits' job d h w copies ws.bits (subject job d) (other_copy (copies (subject job d))))
          (effect job d) Select → After h w Select
      to_select written =
          copy_to h w Select (record { list = refl; select = refl; pids = refl; depth = refl; hold = λ q small x. tt; grows = omega arith }) refl refl
          (none_gave (effect job d) Select refl) refl tt tt (writes_selects (effect job d) k.sites.fit) (λ f. refl) refl (λ b c. refl) (λ t. refl) written k

      now : (i v : ℕ) → i < 2 → v < set_words job → (i < h) ⊎ ((i ≡ h) × (v < suc w))
          → bits' job d h w copies ws.bits (subject job d) (other_copy (copies (subject job d))) i v ≡ set_word (state_of job (suc d) (subject job d)) i v
      now = written_now job d h w copies ws.bits ws.sel k.sets

      dest : (i : ℕ) → i ≡ h → After h w (copy_from job i (suc w))
      dest zero e =
          if_case (After h w) (nat_lt (suc w) (set_words job)) (Copy 0 (suc w)) (cond (nat_lt 0 (set_words job)) (Copy 1 0) Select)
          (λ t. to_copy 0 (suc w) (omega arith) (grind (arith, nat_tests))
          (λ i v ti tv b. now i v ti tv (elim b [ inl x ↦ absurd (omega (arith, x)) | inr x ↦ inr (x.0 ∙ e, x.1) ])))
          (λ t. if_case (After h w) (nat_lt 0 (set_words job)) (Copy 1 0) Select
          (λ t'. to_copy 1 0 (omega arith) (grind (arith, nat_tests))
          (λ i v ti tv b. now i v ti tv (inr (
            elim b [ inl x ↦ (omega (arith, x, e)) | inr x ↦ absurd (let y = x.1 in omega (arith, y)) ],
            (let all : set_words job ≤ suc w = grind (arith, nat_tests) in omega (arith, all, tv)),
          ))))
          (λ t'. to_select (λ some i v ti tv. absurd (let none : set_words job ≤ 0 = grind (arith, nat_tests) in omega (arith, none, tv)))))
      dest (suc m) e =
          let one : h ≡ 1 = (let z = k.sites.position.0 in omega (arith, z, e)) in
          if_case (After h w) (nat_lt (suc w) (set_words job)) (Copy 1 (suc w)) Select
          (λ t. to_copy 1 (suc w) (omega arith) (grind (arith, nat_tests))
          (λ i v ti tv b. now i v ti tv (elim b [ inl x ↦ inl (omega (arith, x, one)) | inr x ↦ inr (x.0 ∙ sym one, x.1) ])))
          (λ t. to_select (λ some i v ti tv. let all : set_words job ≤ suc w = grind (arith, nat_tests) in
          elim (cases_lt i 1) [
            | inl x ↦ now i v ti tv (inl (omega (arith, x, one)))
            | inr x ↦ now i v ti tv
                (inr ((omega (arith, x, ti, one)), (omega (arith, all, tv))))
          ]))
