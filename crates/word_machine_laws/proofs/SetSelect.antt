-- The row that stores a user's state.
use Rattle.std.proofs.Common.{◌≡◌, ◌≢◌, ◌⊎◌, ℕ, suc, ◌+◌, ◌%◌, ◌<◌, Bool, true, false, ◌&&◌, cond, List, inl, inr, refl, sym, ap, ◌∙◌, subst, arith}
use Rattle.std.specs.Prelude.{◌==◌}
use Rattle.std.proofs.lemmas.Bool.{eq-eqb, cases_eq}
use Rattle.std.proofs.lemmas.Bool.Decides.{nat_tests}
use Rattle.ft_base.specs.declared.item.Item.{Item}
use Rattle.ft_base.specs.Marks.{is_empty}
use Rattle.ft_base.specs.Job.{Job, Ctl}
use Rattle.ft_base.specs.Desk.{UserState, desk, is_allowed}
use Rattle.ft_base.specs.Order.{IsOrder}
use Rattle.ft_base.specs.WellFormed.{IsWellFormed}
use Rattle.ft_base.proofs.Small.{false_true}
use Rattle.word_map.specs.Words.{Words, put, at_put, Sel}
use Rattle.word_map.specs.Contents.{sel_of, sel_word, high, other_copy}
use Rattle.word_machine.specs.Commands.{Effect, Adds, Removes, Edits, Enables, Disables, Lists, Levels, Nothing, effect, subject, state_of}
use Rattle.word_map.specs.Ops.{Store}
use Rattle.word_machine.specs.Control.{Position, Select, Push, Relink, Ask, Tasks, Close, batch_first, copy_after, selected_in, control_got}
use Rattle.word_machine.specs.Cpu.{Cpu}
use Rattle.word_machine.specs.Machine.{control_row}
use Rattle.word_machine.specs.Progress.{SeenAt, selected, listed, pids_stored, depth_stored, desk_by, waits, writes_copy, selects, relinks, patches, is_adds, comes_to}
use Rattle.word_machine.specs.UserList.{since_of, list_desk, PushedAt, UserList}
use Rattle.word_machine.specs.HashCopies.{HasSets, SelIs, stored_last, WrittenAt, HashCopies}
use Rattle.word_machine.specs.Sites.{PositionAt, stage_in, asks, reached}
use Rattle.word_machine.specs.Rule.{MachineRule}
use Rattle.word_machine_laws.proofs.DeskChanges.{SubjectBy, between}
use Rattle.word_machine.proofs.Small.{put_case, put_same, put_other}
use Rattle.word_machine_laws.proofs.Sites.{Fetches, Passed, passed_same}
use Rattle.word_machine_laws.proofs.SiteSyncs.{enter_row}
use Rattle.word_machine_laws.proofs.ControlEffects.{ControlEffect}
use Rattle.word_machine_laws.proofs.NoSwitch.{world, hereby, seen_on, tramps_on, listed_on, limits_on, row_kept}
use Rattle.word_machine_laws.proofs.SiteRows.{InBatch, Stored, stored_at, stored_Close, in_batch, in_ask}
use Rattle.word_machine_laws.proofs.CommandDesks.{others_same, user_kept, none_changes, rest_same, order_flips}
use Rattle.word_machine_laws.proofs.Effects.{after_small, none_gave}

-- the state of a user that is not registered
sel_off : (reg copy : ℕ) (e b : Bool) → copy < 2 → (high (sel_word reg false e copy b) ≡ reg) × (sel_word reg false e copy b % 2 ≡ 0)
sel_off reg copy true true h = (omega arith, omega arith)
sel_off reg copy true false h = (omega arith, omega arith)
sel_off reg copy false true h = (omega arith, omega arith)
sel_off reg copy false false h = (omega arith, omega arith)

-- a position after the store of the state
pub record Selected (job : Job) (d : ℕ) (p : Position) (order : List ℕ) (first : ℕ) (link : ℕ → ℕ) : Type 0 where
  pub stored : Stored job d p
  pub list : UserList job d p order first link
  pub same : (v : ℕ) → since_of job (list_desk p d) v ≡ since_of job d v

module _ (job : Job) (ok : IsWellFormed job) (d : ℕ) (copies : ℕ → ℕ) where
  abbrev Copies : ℕ → ℕ
  Copies = at_put copies (subject job d) (copy_after (effect job d) (copies (subject job d)))

  -- the copy of a registered user stays, or the command waits
  copy_kept : (u : ℕ) → (state_of job d u).registered ≡ true → (waits (effect job d) ≡ true) ⊎ (Copies u ≡ copies u)
  copy_kept u reg = elim (cases_eq u (subject job d)) [
    | inr ne ↦ inr (put_other copies (subject job d) (copy_after (effect job d) (copies (subject job d))) u ne)
    | inl e ↦ elim (by_effect (effect job d) (between job ok d).subject (subst (λ x. (state_of job d x).registered ≡ true) e reg)) [
      | inl w ↦ inl w
      | inr c ↦ inr (subst (λ x. Copies x ≡ copies x) (sym e) (put_same copies (subject job d) (copy_after (effect job d) (copies (subject job d))) ∙ c))
    ]
  ]
    where
      by_effect : (z : Effect) → SubjectBy job (desk job d) (suc d) z (state_of job d (subject job d)) (state_of job (suc d) (subject job d))
          → (state_of job d (subject job d)).registered ≡ true
          → (waits z ≡ true) ⊎ (copy_after z (copies (subject job d)) ≡ copies (subject job d))
      by_effect Adds c r = false_true (sym c.0 ∙ r)
      by_effect Enables c r = inr refl
      by_effect Nothing c r = inr refl
      by_effect _ c r = inl refl

  module _ (p' : Position) (base base' request : ℕ) (order : List ℕ) (first : ℕ) (link : ℕ → ℕ) (bits : ℕ → ℕ → ℕ → ℕ
      → ℕ) (b : Selected job d p' order first link) where
    goes_select : (ack q : ℕ) → Fetches job ack d Select base d p' base'
        → ControlEffect job (hereby d Select base request order copies link bits) (hereby d p' base' request order Copies link bits) ack q
    goes_select ack q fetch = record {
      later = omega arith;
      fetch = fetch;
      user = λ u R steady s.
          subst (λ x. SeenAt x (effect job d) p' request q (R (state_of job d u)) (R (state_of job (suc d) u))) (sym b.stored.select)
          (elim (user_kept job ok d R u steady s) [ inl w ↦ inr (w, b.stored.hold request q, s) | inr n ↦ inl n ]);
      reads = λ u copy R steady s.
          subst (λ x. SeenAt x (effect job d) p' request q ((selected p' ≡ false → copy ≡ Copies u) × R (state_of job d u) (bits u copy))
          ((copy ≡ Copies u) × R (state_of job (suc d) u) (bits u copy))) (sym b.stored.select)
          (elim (copy_kept u (steady (bits u copy) (state_of job d u) s.1).0) [
            | inl w ↦ inr (w, b.stored.hold request q, ((λ h. false_true (sym h ∙ b.stored.select)), s.1))
            | inr same ↦ elim (user_kept job ok d (λ y. R y (bits u copy)) u (steady (bits u copy)) s.1) [
              | inl w ↦ inr (w, b.stored.hold request q, ((λ h. false_true (sym h ∙ b.stored.select)), s.1))
              | inr n ↦ inl (s.0 refl ∙ sym same, n)
            ]
          ]);
      walks = λ u w. elim w [ inl a ↦ inl a | inr g ↦ false_true g.0.0 ];
      walked = λ u w. b.same u;
      since = λ u. inl (b.same u);
      pids = λ t x s. seen_on (effect job d) Select p' request request q true (pids_stored p') (is_allowed (desk job d) t ≡ x)
          (is_allowed (desk job (suc d)) t ≡ x) b.stored.pids (λ h. b.stored.hold request q) s;
      depth = λ Q s. seen_on (effect job d) Select p' request request q true (depth_stored p') (Q (desk job d).depth) (Q (desk job (suc d)).depth) b.stored.depth
          (λ h. b.stored.hold request q) s;
    }

  abbrev s0 : ℕ
  s0 = subject job d

  abbrev x : ℕ
  x = copy_after (effect job d) (copies (subject job d))

  abbrev new : UserState
  new = state_of job (suc d) (subject job d)

  sets_select : (p' : Position) (sel : ℕ → ℕ) (bits : ℕ → ℕ → ℕ → ℕ → ℕ) → selected p' ≡ true
      → ((s : UserState) (copy : ℕ → ℕ → ℕ) → WrittenAt job s copy (effect job d) p') → selects (effect job d) ≡ true
      → HashCopies job d Select copies sel bits
      → HashCopies job d p' Copies (at_put sel (subject job d)
      (sel_of (state_of job (suc d) (subject job d)) (copy_after (effect job d) (copies (subject job d))))) bits
  sets_select p' sel bits out written some k = record {
    small = λ u. put_case copies s0 x (λ i y. y < 2) u (λ e. after_small (effect job d) (copies s0) (k.small s0)) (λ ne. k.small u);
    sels = λ u.
        subst (λ y. SelIs job (state_of job (desk_by y d) u) (at_put sel s0 (sel_of new x) u) (Copies u) (bits u)) (sym out)
        (elim (cases_eq u s0) [
          | inl e ↦ subst (λ i. SelIs job (state_of job (suc d) i) (at_put sel s0 (sel_of new x) i) (at_put copies s0 x i) (bits i)) (sym e)
              (subst (λ (q : ℕ × ℕ). SelIs job new q.0 q.1 (bits s0)) (λ i. (sym (put_same sel s0 (sel_of new x)) i, sym (put_same copies s0 x) i)) own)
          | inr ne ↦ subst (λ (q : ℕ × ℕ). SelIs job (state_of job (suc d) u) q.0 q.1 (bits u)) (λ i. (
            sym (put_other sel s0 (sel_of new x) u ne) i,
            sym (put_other copies s0 x u ne) i,
          ))
              (subst (λ t. SelIs job t (sel u) (copies u) (bits u)) (sym (others_same job ok d u ne)) (k.sels u))
        ]);
    last = λ u. put_case sel s0 (sel_of new x) (λ i v. v ≡ stored_last job i (Copies i) (desk_by (selected p') d)) u (λ e. sym here ∙ sym (at_desk s0)) (λ ne. there u ne ∙ sym (at_desk u));
    written = written new (bits s0 (other_copy (Copies s0)));
    left = λ e on.
        let c = subst (λ z. SubjectBy job (desk job d) (suc d) z (state_of job d s0) new) e (between job ok d).subject in (
          put_same sel s0 (sel_of new x) ∙ ap (λ i. sel_of new i) (sym (put_same copies s0 x)),
          subst (λ i. HasSets job (state_of job d s0) (bits s0 i)) (sym (put_same copies s0 x ∙ ap (λ z. copy_after z (copies s0)) e)) ((k.sels s0).0 c.0).1,
        );
  }
    where
      copied : (z : Effect) → effect job d ≡ z → selects z ≡ true → SubjectBy job (desk job d) (suc d) z (state_of job d s0) new → new.registered ≡ true
          → HasSets job new (bits s0 x)
      copied Adds e t c r = subst (λ y. HasSets job new (bits s0 (copy_after y (copies s0)))) (sym e) (k.written (ap writes_copy e))
      copied Edits e t c r = subst (λ y. HasSets job new (bits s0 (copy_after y (copies s0)))) (sym e) (k.written (ap writes_copy e))
      copied Removes e t c r = false_true (sym (ap (λ (y : UserState). y.registered) c.1) ∙ r)
      copied Lists e t c r = false_true t
      copied Levels e t c r = false_true t
      copied Nothing e t c r = false_true t
      copied _ e t c r = subst (λ y. HasSets job new (bits s0 (copy_after y (copies s0)))) (sym e)
          (subst (λ y. HasSets job y (bits s0 (copies s0))) (sym c.1) ((k.sels s0).0 c.0).1)

      at_desk : (u : ℕ) → stored_last job u (Copies u) (desk_by (selected p') d) ≡ stored_last job u (Copies u) (suc d)
      at_desk u = ap (λ y. stored_last job u (Copies u) (desk_by y d)) out

      here : stored_last job s0 (Copies s0) (suc d) ≡ sel_of new x
      here =
          let both : (selects (effect job d) && (s0 == s0)) ≡ true = rw (some, eq-eqb s0 s0 refl) refl in
          ap (λ b. cond b (sel_of new (Copies s0)) (stored_last job s0 (Copies s0) d)) both ∙ ap (λ y. sel_of new y) (put_same copies s0 x)

      there : (u : ℕ) → u ≢ s0 → sel u ≡ stored_last job u (Copies u) (suc d)
      there u ne =
          let other : (u == s0) ≡ false = grind (arith, nat_tests) in
          let none : (selects (effect job d) && (u == s0)) ≡ false = rw (some, other) refl in
          k.last u ∙ ap (λ y. stored_last job u y d) (sym (put_other copies s0 x u ne))
          ∙ ap (λ b. cond b (sel_of (state_of job (suc d) u) (Copies u)) (stored_last job u (Copies u) d)) (sym none)

      own : SelIs job new (sel_of new x) x (bits s0)
      own = (
        (λ r. (refl, copied (effect job d) refl some (between job ok d).subject r)),
        (λ r. subst (λ y. (high (sel_word new.reg y new.enabled x (is_empty new.filter)) ≡ new.reg)
            × (sel_word new.reg y new.enabled x (is_empty new.filter) % 2 ≡ 0)) (sym r)
            (sel_off new.reg x new.enabled (is_empty new.filter) (after_small (effect job d) (copies s0) (k.small s0)))),
      )

module _ (job : Job) (ok : IsWellFormed job) (ws : Words) (d : ℕ) (remaining : List Ctl) (request : ℕ) (copies : ℕ → ℕ) (order : List ℕ) (cpus : ℕ
    → Cpu) (past : List Item) where
  abbrev stored : ℕ
  stored = sel_of (state_of job (suc d) (subject job d)) (copy_after (effect job d) (copies (subject job d)))

  abbrev At : Position → Type 0
  At p = MachineRule job (world ws d remaining request copies order cpus past p)

  abbrev After : Position → Type 0
  After p = MachineRule job (world (put (Sel (subject job d)) stored ws) d remaining request (Copies job ok d copies) order cpus past p)

  select_to : (p' : Position) (base' : ℕ) → (k : At Select) → Selected job d p' order ws.first ws.link
      → Passed job ws.ack d Select k.base request d p' base' request ws.want ws.head ws.tail ws.next → After p'
  select_to p' base' k b pass =
      row_kept job ws d remaining request copies order cpus past Select p' base' request (Copies job ok d copies) order k b.stored.begun (omega arith) pass b.list
      (sets_select job ok d copies p' ws.sel ws.bits b.stored.select b.stored.written k.sites.fit k.sets)
      (tramps_on job d Select p' b.stored.take (b.stored.give ∙ sym (none_gave (effect job d) Select refl)) ws.tramp k.tramps)
      (limits_on job d Select p' ws.pids ws.depth b.stored.pids b.stored.depth k.limits) (λ t there r. rw (b.stored.quiet request t) (omega arith))
      (λ ack q small fetch. goes_select job ok d copies p' k.base base' request order ws.first ws.link ws.bits b ack q fetch)

  -- a list that the command leaves
  flipped : (p' : Position) → listed p' ≡ true → relinks (effect job d) ≡ false → PushedAt job d ws.link order p'
      → UserList job d Select order ws.first ws.link → UserList job d p' order ws.first ws.link
  flipped p' on none pushed k = record {
    order' = subst (λ y. IsOrder (desk job (desk_by y d)) (desk_by y d) order) (sym on) (order_flips job ok d none order k.order');
    leads = k.leads;
    pushed = pushed;
  }

  flipped_since : (p' : Position) → listed p' ≡ true → relinks (effect job d) ≡ false → (v : ℕ) → since_of job (list_desk p' d) v ≡ since_of job d v
  flipped_since p' on none v = subst (λ y. since_of job (desk_by y d) v ≡ since_of job d v) (sym on) (rest_same job ok d none v).1

  from_batch : (p' : Position) → relinks (effect job d) ≡ false → InBatch job d p' → UserList job d Select order ws.first ws.link
      → Selected job d p' order ws.first ws.link
  from_batch p' none b k = record {
    stored = b.stored;
    list = flipped p' b.list none (b.pushed ws.link order) k;
    same = flipped_since p' b.list none;
  }

  pub select_keeps : At Select → MachineRule job (control_row job (world ws d remaining request copies order cpus past Select)
      (Store (Sel (subject job d)) stored))
  unfolding control_got
  select_keeps k = by_effect (effect job d) refl k.sites.fit
    where
      same : (p' : Position) → ((f : ℕ) → stage_in p' f ≡ 0) → asks p' ≡ 0 → PositionAt job d p' → comes_to (effect job d) p' ≡ true
          → ((c : ℕ) → reached k.base p' c ≡ 0) → Passed job ws.ack d Select k.base request d p' k.base request ws.want ws.head ws.tail ws.next
      same p' stages none position fit reaches =
          passed_same job d ws.ack Select p' k.base k.base request request ws.want ws.want ws.head ws.tail ws.next (λ f inside ch. stages f)
          (k.sites.asked ∙ ap (λ n. k.base + n) (sym none)) (let z = k.sites.few in omega (arith, z)) k.sites.want position fit (inl refl)
          (λ c within s. rw (reaches c) (omega arith)) k.sites

      no_site : (p' : Position) → patches (effect job d) ≡ false → asks p' ≡ 0 → PositionAt job d p' → comes_to (effect job d) p' ≡ true
          → ((c : ℕ) → reached k.base p' c ≡ 0) → Passed job ws.ack d Select k.base request d p' k.base request ws.want ws.head ws.tail ws.next
      no_site p' patch none position fit reaches =
          passed_same job d ws.ack Select p' k.base k.base request request ws.want ws.want ws.head ws.tail ws.next
          (λ f inside ch. false_true (sym (none_changes job ok d patch f) ∙ ch)) (k.sites.asked ∙ ap (λ n. k.base + n) (sym none)) (let z = k.sites.few in
          omega (arith, z)) k.sites.want position fit (inl refl)
          (λ c within s. rw (reaches c) (omega arith)) k.sites

      by_effect : (z : Effect) → effect job d ≡ z → selects z ≡ true → After (selected_in job d z)
      by_effect Adds e t = select_to Push k.base k
          (record {
            stored = stored_at job d Push (refl, refl, refl, refl, refl) (none_gave (effect job d) Push refl) (λ r q. tt) (λ r t. refl) (λ s c. tt);
            list = listed_on job d Select Push order ws.first ws.link refl tt k.list;
            same = λ v. refl;
          })
          (same Push (λ f. refl) refl tt (ap is_adds e) (λ c. refl))
      by_effect Removes e t = select_to Relink k.base k
          (record {
            stored = stored_at job d Relink (refl, refl, refl, refl, refl) (none_gave (effect job d) Relink refl) (λ r q. tt) (λ r t. refl) (λ s c. tt);
            list = listed_on job d Select Relink order ws.first ws.link refl (λ a. false_true (sym (ap is_adds e) ∙ a)) k.list;
            same = λ v. refl;
          })
          (same Relink (λ f. refl) refl tt (ap relinks e) (λ c. refl))
      by_effect Edits e t = select_to (batch_first job d) k.base k (from_batch (batch_first job d) (ap relinks e) (in_batch job d (ap patches e)) k.list)
          (enter_row job d ws.ack k.base request ws.want ws.head ws.tail ws.next Select (ap patches e) (λ f. refl) refl refl k.sites)
      by_effect Disables e t = select_to (Ask Tasks) k.base k (from_batch (Ask Tasks) (ap relinks e) (in_ask job d Tasks) k.list)
          (no_site (Ask Tasks) (ap patches e) refl tt (ap waits e) (λ c. refl))
      by_effect Enables e t = select_to Close k.base k
          (record {
            stored = stored_Close job d Enables e refl refl;
            list = flipped Close refl (ap relinks e) tt k.list;
            same = flipped_since Close refl (ap relinks e);
          })
          (no_site Close (ap patches e) refl tt refl (λ c. refl))
      by_effect Lists e t = false_true t
      by_effect Levels e t = false_true t
      by_effect Nothing e t = false_true t
