-- The fetch of a call site in two loads, while it may be changed.
use Rattle.std.proofs.Common.{◌≡◌, ◌⊎◌, ℕ, zero, suc, ◌+◌, ◌<◌, ◌≤◌, Bool, true, false, List, [], inl, inr, refl, sym, ◌∙◌, subst, arith}
use Rattle.std.specs.Prelude.{◌==◌}
use Rattle.std.proofs.lemmas.Bool.{cases_lt, eq-eqb}
use Rattle.std.proofs.lemmas.Bool.Decides.{nat_tests}
use Rattle.ft_base.specs.declared.item.Ran.TheVariants.{Nop, List as ByList}
use Rattle.ft_base.specs.declared.item.Item.{Item}
use Rattle.ft_base.specs.Job.{Job, funcs}
use Rattle.ft_base.specs.Desk.{desk, is_sited}
use Rattle.ft_base.proofs.Small.{false_true}
use Rattle.ft_hist.specs.Past.{begun, visits, entry_of}
use Rattle.ft_hist.specs.Rules.{InWindow}
use Rattle.site_bytes.specs.Bytes.{breakpoint}
use Rattle.word_map.specs.Instructions.{head_of, decode}
use Rattle.patch_core.specs.Moves.{Put, Sync}
use Rattle.word_machine.specs.Commands.{insn, changes, effect, state_of}
use Rattle.word_machine.specs.Control.{Position, Patch, Ask, Await, Cpus}
use Rattle.word_machine.specs.Task.{OpenCall, Moment, Fetch, GotHead, GotBreak, InTramp, AtFirst, Closing, head_in, fetched, fetched_ran}
use Rattle.word_machine.specs.Progress.{SeenAt, selected, underway, begun_at}
use Rattle.word_machine.specs.Sites.{stage, stage_in, stage_by, asks, SiteAt, FetchAt, PositionAt, SitesInPatching}
use Rattle.word_machine.specs.Trampolines.{IsOwned}
use Rattle.word_machine.specs.Verdicts.{Here, Dispatches, TrampSeen}
use Rattle.word_machine.specs.Rule.{Counts, IsWordJob}
use Rattle.word_machine_laws.proofs.VerdictLaws.{selected-underway}
use Rattle.word_machine.proofs.Small.{if_case}
use Rattle.word_machine_laws.proofs.Batches.{is-move, sweep-syncs}
use Rattle.word_machine_laws.proofs.Contents.{decode_own}
use Rattle.word_machine_laws.proofs.DeskChanges.{numbers-kept}
use Rattle.word_machine_laws.proofs.DeskNumbers.{InsnSays, insn-says, sites_kept, unchanged}
use Rattle.word_machine_laws.proofs.LoadMoments.{running, dispatch_goes, entry-from}
use Rattle.word_machine_laws.proofs.Effects.{early, late}

-- a stage before the third request
asks_low : (job : Job) (d : ℕ) (p : Position) (f : ℕ) → PositionAt job d p → f < funcs job → changes job d f ≡ true → stage_in p f < 9 → asks p ≤ 2
asks_low job d (Patch w x rest) f a inside ch low =
    let s = is-move job d (Put w x) rest a in let k = s.syncs in let y = (sweep-syncs s.sweep).0 in omega (arith, k, y)
asks_low job d (Ask (Cpus rest)) f a inside ch low = omega arith
asks_low job d (Await (Cpus rest) c) f a inside ch low = let e = (is-move job d Sync rest a).left f inside ch in omega (arith, e, low)
asks_low job d _ f a inside ch low = omega arith

not_break : (i h : ℕ) → h ≡ 204 → h ≡ head_of i → ⊥
not_break zero h is e = omega (arith, is, e)
not_break (suc zero) h is e = omega (arith, is, e)
not_break (suc (suc s)) h is e = omega (arith, is, e)

-- what the first load of a fetch finds
pub loads : (n f old new base ack head tail next : ℕ) → SiteAt n f old new head tail next → (2 ≤ n → n < 9 → ack < base + 3)
    → FetchAt n old new base ack (head_in (head == breakpoint) head)
loads n f old new base ack head tail next s low =
    if_case (λ q. FetchAt n old new base ack q) (head == breakpoint) GotBreak (GotHead head)
    (λ e.
    let is : head ≡ 204 = grind (arith, nat_tests) in
    let two : 2 ≤ n = elim (cases_lt n 2) [ inl h ↦ absurd (not_break old head is (s.before h)) | inr h ↦ h ] in
    let eight : n < 8 = elim (cases_lt n 8) [ inl h ↦ h | inr h ↦ absurd (not_break new head is (s.after h)) ] in
    (two, omega (arith, eight), low two (omega (arith, eight))))
    (λ e. elim (cases_lt n 2) [
      | inl h ↦ inl (s.before h, inl h)
      | inr h ↦ elim (cases_lt n 8) [
        | inl k ↦ absurd (let b : head ≡ 204 = s.broken h k in let z : (head == 204) ≡ true = eq-eqb head 204 b in let t : true ≡ false = sym z ∙ e in cc)
        | inr k ↦ inr (k, s.after k)
      ]
    ])

-- the second load of a fetch without a breakpoint completes one of the two instructions, whole
pub decodes : (n f old new base ack byte head tail next : ℕ) → f < 4096 → SiteAt n f old new head tail next → FetchAt n old new base ack (GotHead byte)
    → ((decode f byte tail ≡ old) × (n < 5)) ⊎ ((decode f byte tail ≡ new) × (1 ≤ n))
decodes n f old new base ack byte head tail next lt s (inl x) =
    let low : n < 5 = elim x.1 [ inl y ↦ (omega (arith, y)) | inr y ↦ (let z = y.0 in omega (arith, z)) ] in
    inl (subst (λ (q : ℕ × ℕ). decode f q.0 q.1 ≡ old) (λ j. (sym x.0 j, sym (s.tail_old low) j)) (decode_own f old lt), low)
decodes n f old new base ack byte head tail next lt s (inr x) =
    let high : 5 ≤ n = (let z = x.0 in omega (arith, z)) in
    inr (subst (λ (q : ℕ × ℕ). decode f q.0 q.1 ≡ new) (λ j. (sym x.1 j, sym (s.tail_new high) j)) (decode_own f new lt), (omega (arith, high)))

-- after a breakpoint the instruction that is to come is read
pub breaks : (n f old new base ack head tail next : ℕ) → SiteAt n f old new head tail next → FetchAt n old new base ack GotBreak → (next ≡ new) × (1 ≤ n)
breaks n f old new base ack head tail next s x = (s.next_new (let z = x.0 in omega (arith, z)), (let z = x.0 in omega (arith, z)))

module _ (job : Job) (ok : IsWordJob job) (h : Here) (past : List Item) (clock : ℕ) (counts : Counts h.d h.p clock past) where
  pub begun-low : h.d ≤ begun past
  begun-low = (let e = counts.started in let l : h.d ≤ begun_at h.p h.d = if_case (λ n. h.d ≤ n) (underway h.p) (suc h.d) h.d (λ e. omega arith)
      (λ e. omega arith) in omega (arith, e, l))

  pub begun-high : underway h.p ≡ true → suc h.d ≤ begun past
  begun-high u = (let e = counts.started in let l : begun_at h.p h.d ≡ suc h.d = rw u refl in omega (arith, e, l))

  -- an instruction of the old desk or of the new one
  abbrev pub Decoded : ℕ → ℕ → Type 0
  Decoded f i = ((i ≡ insn job h.d f) × (stage job h.d h.p f < 5)) ⊎ ((i ≡ insn job (suc h.d) f) × (1 ≤ stage job h.d h.p f))

  -- if a site has a stage above 0, its command is under way and the user's state is stored
  staged : (f : ℕ) → 1 ≤ stage job h.d h.p f → selected h.p ≡ true
  staged f = by (changes job h.d f)
    where
      by : (b : Bool) → 1 ≤ stage_by b (stage_in h.p f) → selected h.p ≡ true
      by true l = late h.p f l
      by false l = absurd (omega (arith, l))

  module _ (q : ℕ) (c : OpenCall) (low : (entry_of c.call past).from ≤ h.d) where
    -- what was decoded was the target at some command of the window
    decoded-in : (i : ℕ) (P : ℕ → ℕ → Type 0) → Decoded c.func i → ((k : ℕ) → P k (insn job k c.func)) → InWindow c.call past (λ k. P k i)
    decoded-in i P (inl x) says = (h.d, low, begun-low, subst (λ n. P h.d n) (sym x.0) (says h.d))
    decoded-in i P (inr x) says = (
      suc h.d,
      (omega (arith, low)),
      begun-high (selected-underway h.p (staged c.func x.1)),
      subst (λ n. P (suc h.d) n) (sym x.0) (says (suc h.d)),
    )

    -- whose a trampoline is: a user's that is sited and has it, under this registration
    abbrev Owns : (t u reg k : ℕ) → Type 0
    Owns t u reg k = (is_sited (desk job k) u c.func ≡ true) × IsOwned job t u reg k

    -- the target at a desk of the window is a trampoline, and its user still has it
    owned-at : (t k : ℕ) → (entry_of c.call past).from ≤ k → k ≤ begun past → (o : InsnSays job k c.func (suc (suc t)))
        → SeenAt (selected h.p) (effect job h.d) h.p h.request q (Owns t o.0 (state_of job k o.0).reg h.d) (Owns t o.0 (state_of job k o.0).reg (suc h.d))
        → TrampSeen job h past q c t
    owned-at t k from to o seen = (o.0, (state_of job k o.0).reg, ((k, from, to, (o.1, (o.3, refl))), seen))

    -- by the new desk, whose user's state is stored
    owned-new : (t : ℕ) → selected h.p ≡ true → InsnSays job (suc h.d) c.func (suc (suc t)) → TrampSeen job h past q c t
    owned-new t sel o =
        let reg = (state_of job (suc h.d) o.0).reg in
        owned-at t (suc h.d) (omega (arith, low)) (begun-high (selected-underway h.p sel)) o
        (subst (λ b. SeenAt b (effect job h.d) h.p h.request q (Owns t o.0 reg h.d) (Owns t o.0 reg (suc h.d))) (sym sel) (inl (o.2, (o.3, refl))))

    -- by the old desk
    owned-old : (t : ℕ) (o : InsnSays job h.d c.func (suc (suc t)))
        → (selected h.p ≡ true → SeenAt true (effect job h.d) h.p h.request q (Owns t o.0 (state_of job h.d o.0).reg h.d)
        (Owns t o.0 (state_of job h.d o.0).reg (suc h.d))) → TrampSeen job h past q c t
    owned-old t o still = owned-at t h.d low begun-low o (by_flag (selected h.p) refl)
      where
        by_flag : (b : Bool) → selected h.p ≡ b → SeenAt b (effect job h.d) h.p h.request q (Owns t o.0 (state_of job h.d o.0).reg h.d)
            (Owns t o.0 (state_of job h.d o.0).reg (suc h.d))
        by_flag false e = (o.2, (o.3, refl))
        by_flag true e = still e

    -- a trampoline was decoded: its user was the target, and still has it
    tramp-decoded : (t : ℕ) → Decoded c.func (suc (suc t)) → TrampSeen job h past q c t
    tramp-decoded t (inr x) =
        owned-new t (staged c.func x.1) (subst (λ n. InsnSays job (suc h.d) c.func n) (sym x.0) (insn-says job (suc h.d) c.func))
    tramp-decoded t (inl x) = by_change (changes job h.d c.func) refl x.1
      where
        o : InsnSays job h.d c.func (suc (suc t))
        o = subst (λ n. InsnSays job h.d c.func n) (sym x.0) (insn-says job h.d c.func)

        by_change : (b : Bool) → changes job h.d c.func ≡ b → stage_by b (stage_in h.p c.func) < 5 → TrampSeen job h past q c t
        by_change true e low5 = owned-old t o (λ sel. elim (sites_kept job ok.job' h.d o.0 c.func t (o.2, o.3)) [
          | inl w ↦ inr (w, early (effect job h.d) h.p c.func h.request q low5, (o.2, (o.3, refl)))
          | inr new ↦ inl (new.0, (new.1, (numbers-kept job ok.job' h.d o.0 o.3.0).1))
        ])
        by_change false e low5 = by_flag (selected h.p) refl
          where
            by_flag : (b : Bool) → selected h.p ≡ b → TrampSeen job h past q c t
            by_flag false z = owned-old t o (λ sel. false_true (sym z ∙ sel))
            by_flag true z =
                owned-new t z (subst (λ n. InsnSays job (suc h.d) c.func n) (sym (x.0 ∙ unchanged job h.d c.func e)) (insn-says job (suc h.d) c.func))

  module _ (ack q : ℕ) (c : OpenCall) (below : List OpenCall) where
    -- after the decoding
    pub fetched_kept : (m : Moment) (i : ℕ) → Decoded c.func i → visits job c.call past ≡ [] → Dispatches job h past ack q c below m
        → Dispatches job h past ack q (running c (fetched_ran i)) below (fetched i)
    fetched_kept m i dec none x =
        let low : (entry_of c.call past).from ≤ h.d = (let e = entry-from job h past ack q c below m x in let y = x.early in omega (arith, e, y)) in
        by low i dec
      where
        by : (entry_of c.call past).from ≤ h.d → (i : ℕ) → Decoded c.func i → Dispatches job h past ack q (running c (fetched_ran i)) below (fetched i)
        by low zero dec = dispatch_goes job h past ack q c below m Closing Nop x (λ u un. inl refl)
            ((let w = decoded-in q c low zero (λ k n. InsnSays job k c.func n) dec (λ k. insn-says job k c.func) in (w.0, w.1, w.2, sym w.3)), none)
        by low (suc zero) dec = dispatch_goes job h past ack q c below m AtFirst ByList x (λ u un. inl refl)
            (none, (let w = decoded-in q c low 1 (λ k n. InsnSays job k c.func n) dec (λ k. insn-says job k c.func) in (w.0, w.1, w.2, sym w.3)), refl)
        by low (suc (suc t)) dec = dispatch_goes job h past ack q c below m (InTramp t) ByList x (λ u un. inl refl)
            (none, tramp-decoded q c low t dec)

    module _ (wanted : ℕ) (head tail next : ℕ → ℕ) (sites : SitesInPatching job h.d h.p h.base h.request wanted head tail next)
        (inside : c.func < funcs job) where
      -- the first load
      pub head_kept : ack ≤ h.request → Dispatches job h past ack q c below Fetch
          → Dispatches job h past ack q c below (head_in (head c.func == breakpoint) (head c.func))
      head_kept acked x = by (head c.func == breakpoint) (loads (stage job h.d h.p c.func) c.func (insn job h.d c.func) (insn job (suc h.d) c.func) h.base ack
          (head c.func) (tail c.func) (next c.func) (sites.sites c.func inside)
          (λ two low. let z : asks h.p ≤ 2 = small two low in let a = sites.asked in omega (arith, acked, a, z)))
        where
          small : 2 ≤ stage job h.d h.p c.func → stage job h.d h.p c.func < 9 → asks h.p ≤ 2
          small = by_change (changes job h.d c.func) refl
            where
              by_change : (b : Bool) → changes job h.d c.func ≡ b → 2 ≤ stage_by b (stage_in h.p c.func) → stage_by b (stage_in h.p c.func) < 9 → asks h.p ≤ 2
              by_change true e g l = asks_low job h.d h.p c.func sites.position inside e l
              by_change false e g l = absurd (omega (arith, g))

          by : (b : Bool) → FetchAt (stage job h.d h.p c.func) (insn job h.d c.func) (insn job (suc h.d) c.func) h.base ack (head_in b (head c.func))
              → Dispatches job h past ack q c below (head_in b (head c.func))
          by true f = dispatch_goes job h past ack q c below Fetch GotBreak c.ran x (λ u un. inl refl) (x.at, f)
          by false f = dispatch_goes job h past ack q c below Fetch (GotHead (head c.func)) c.ran x (λ u un. inl refl) (x.at, f)

      -- the second load
      pub tail_kept : (byte : ℕ) → Dispatches job h past ack q c below (GotHead byte)
          → Dispatches job h past ack q (running c (fetched_ran (decode c.func byte (tail c.func)))) below (fetched (decode c.func byte (tail c.func)))
      tail_kept byte x =
          let lt : c.func < 4096 = (let s = ok.sites in omega (arith, inside, s)) in
          fetched_kept (GotHead byte) (decode c.func byte (tail c.func))
          (decodes (stage job h.d h.p c.func) c.func (insn job h.d c.func) (insn job (suc h.d) c.func) h.base ack byte (head c.func) (tail c.func)
          (next c.func) lt (sites.sites c.func inside) x.at.1)
          x.at.0 x

      pub next_kept : Dispatches job h past ack q c below GotBreak
          → Dispatches job h past ack q (running c (fetched_ran (next c.func))) below (fetched (next c.func))
      next_kept x =
          fetched_kept GotBreak (next c.func)
          (inr (breaks (stage job h.d h.p c.func) c.func (insn job h.d c.func) (insn job (suc h.d) c.func) h.base ack (head c.func) (tail c.func)
          (next c.func) (sites.sites c.func inside) x.at.1))
          x.at.0 x
