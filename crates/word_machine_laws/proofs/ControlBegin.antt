-- The row that begins a command.
use Rattle.std.proofs.Common.{cond, ◌≡◌, ℕ, suc, ◌+◌, ◌<◌, Bool, true, false, List, ◌∷◌, length, Some, inl, inr, refl, sym, ap, ◌∙◌, subst, arith}
use Rattle.std.specs.Prelude.{Option, map, is_some, slice_get, not, ◌&&◌, ◌||◌}
use Rattle.std.proofs.lemmas.Bool.{cases_eq}
use Rattle.std.specs.List.{range_with_len}
use Rattle.std.proofs.lemmas.Option.{slice_get_within}
use Rattle.ft_base.specs.declared.item.Item.{Item}
use Rattle.ft_base.specs.declared.item.Item.TheVariants.{Begin}
use Rattle.ft_base.specs.Marks.{holds, is_empty}
use Rattle.ft_base.specs.Job.{Job, Ctl, Run, Command, commands}
use Rattle.ft_base.specs.Desk.{UserState, desk, is_allowed}
use Rattle.ft_base.specs.Order.{IsOrder}
use Rattle.ft_base.specs.WellFormed.{IsWellFormed}
use Rattle.ft_base.proofs.Small.{false_true}
use Rattle.ft_hist.specs.Past.{begun}
use Rattle.ft_hist.specs.Rules.{IsLegalPast, HasWaited, MayBegin}
use Rattle.ft_hist.proofs.Laws.{plain-other}
use Rattle.site_set.specs.Marks.{number_with_bits}
use Rattle.word_map.specs.Words.{Words}
use Rattle.word_map.specs.Contents.{low, half_size, mask_of, tramp_word}
use Rattle.word_machine.specs.Commands.{Effect, Adds, Removes, Edits, Enables, Disables, Lists, Levels, Nothing, effect, subject, state_of, changes, has_slot_at}
use Rattle.word_map.specs.Ops.{Mark}
use Rattle.word_machine.specs.Control.{Position, Line, Take, Copy, Select, StorePids, StoreDepth, Close, begin_in, copy_from, control_got}
use Rattle.word_machine.specs.Cpu.{Cpu}
use Rattle.word_machine.specs.Machine.{control_row}
use Rattle.word_machine.specs.Progress.{SeenAt, selected, listed, took, gave, pids_stored, depth_stored, desk_by, underway, quiet_reached, relinks, patches, selects, is_adds, is_lists, is_levels, writes_copy, comes_to}
use Rattle.word_machine.specs.Sites.{PositionAt, stage_in, asks, reached}
use Rattle.word_machine.specs.UserList.{since_of, list_desk, PushedAt, UserList}
use Rattle.word_machine.specs.HashCopies.{SelIs, stored_last, WrittenAt, HashCopies}
use Rattle.word_machine.specs.Trampolines.{HasSlot, TrampolinesHeld, PidsAndDepth}
use Rattle.word_machine.specs.Rule.{MachineRule}
use Rattle.word_machine_laws.proofs.OtherItems.{cpu_carried}
use Rattle.word_machine_laws.proofs.DeskChanges.{SubjectBy, between}
use Rattle.word_machine.proofs.Small.{if_case}
use Rattle.word_machine_laws.proofs.Sites.{Fetches, Passed, passed_same}
use Rattle.word_machine_laws.proofs.ControlEffects.{ControlEffect, cpu_goes}
use Rattle.word_machine_laws.proofs.NoSwitch.{world, hereby, lines_on, under_on}
use Rattle.word_machine_laws.proofs.CommandDesks.{others_same, none_changes, rest_same, order_flips, StaysEnabled}
use Rattle.word_machine_laws.proofs.TrampRows.{first_copy}
use Rattle.word_machine_laws.proofs.Room.{HasRoomFor}
use Rattle.ft_hist.proofs.ItemParts.{may_follow, of_begin}

module _ (job : Job) (ok : IsWellFormed job) (d : ℕ) where
  -- a command that stores no user's state leaves all states
  states_same : selects (effect job d) ≡ false → (u : ℕ) → ((state_of job d u).registered ≡ true → state_of job (suc d) u ≡ state_of job d u)
      × ((state_of job (suc d) u).registered ≡ (state_of job d u).registered) × ((state_of job (suc d) u).reg ≡ (state_of job d u).reg)
  states_same none u = elim (cases_eq u (subject job d)) [
    | inr ne ↦ (let e = others_same job ok d u ne in ((λ r. e), ap (λ (s : UserState). s.registered) e, ap (λ (s : UserState). s.reg) e))
    | inl e ↦ subst (λ x. ((state_of job d x).registered ≡ true → state_of job (suc d) x ≡ state_of job d x)
        × ((state_of job (suc d) x).registered ≡ (state_of job d x).registered) × ((state_of job (suc d) x).reg ≡ (state_of job d x).reg)) (sym e)
        (by_effect (effect job d) (between job ok d).subject none)
  ]
    where
      by_effect : (z : Effect) → SubjectBy job (desk job d) (suc d) z (state_of job d (subject job d)) (state_of job (suc d) (subject job d))
          → selects z ≡ false
          → ((state_of job d (subject job d)).registered ≡ true → state_of job (suc d) (subject job d) ≡ state_of job d (subject job d))
          × ((state_of job (suc d) (subject job d)).registered ≡ (state_of job d (subject job d)).registered)
          × ((state_of job (suc d) (subject job d)).reg ≡ (state_of job d (subject job d)).reg)
      by_effect Lists c x = ((λ r. c), ap (λ (s : UserState). s.registered) c, ap (λ (s : UserState). s.reg) c)
      by_effect Levels c x = ((λ r. c), ap (λ (s : UserState). s.registered) c, ap (λ (s : UserState). s.reg) c)
      by_effect Nothing c x = (c.1, c.0.registered, c.0.reg)
      by_effect _ c x = false_true (sym x)

  -- a trampoline that a user has afterwards it had before, but for a new user
  slot_back : (effect job d ≡ Adds → has_slot_at job (suc d) (subject job d) ≡ false) → (u t : ℕ) → HasSlot (state_of job (suc d) u) t
      → HasSlot (state_of job d u) t × ((state_of job (suc d) u).reg ≡ (state_of job d u).reg)
  slot_back none u t h = elim (cases_eq u (subject job d)) [
    | inr ne ↦ (let e = others_same job ok d u ne in (subst (λ (s : UserState). HasSlot s t) e h, ap (λ (s : UserState). s.reg) e))
    | inl e ↦ subst (λ x. HasSlot (state_of job d x) t × ((state_of job (suc d) x).reg ≡ (state_of job d x).reg)) (sym e)
        (by_effect (effect job d) refl (between job ok d).subject (subst (λ x. HasSlot (state_of job (suc d) x) t) e h))
  ]
    where
      slot_there : (o : Option ℕ) → o ≡ Some t → is_some o ≡ true
      slot_there o x = rw x refl

      by_effect : (z : Effect) → effect job d ≡ z
          → SubjectBy job (desk job d) (suc d) z (state_of job d (subject job d)) (state_of job (suc d) (subject job d))
          → HasSlot (state_of job (suc d) (subject job d)) t
          → HasSlot (state_of job d (subject job d)) t × ((state_of job (suc d) (subject job d)).reg ≡ (state_of job d (subject job d)).reg)
      by_effect Adds e c x = false_true (sym (none e) ∙ slot_there (state_of job (suc d) (subject job d)).slot x.1)
      by_effect Removes e c x = false_true (sym (ap (λ (s : UserState). s.registered) c.1) ∙ x.0)
      by_effect Edits e c x = ((sym c.1.registered ∙ x.0, sym c.1.slot ∙ x.1), c.1.reg)
      by_effect Lists e c x = (subst (λ (s : UserState). HasSlot s t) c x, ap (λ (s : UserState). s.reg) c)
      by_effect Levels e c x = (subst (λ (s : UserState). HasSlot s t) c x, ap (λ (s : UserState). s.reg) c)
      by_effect Nothing e c x = ((sym c.0.registered ∙ x.0, sym c.0.slot ∙ x.1), c.0.reg)
      by_effect _ e c x = (subst (λ (s : UserState). HasSlot s t) c.1 x, ap (λ (s : UserState). s.reg) c.1)

  pids_same : is_lists (effect job d) ≡ false → (t : ℕ) → is_allowed (desk job (suc d)) t ≡ is_allowed (desk job d) t
  pids_same none t = let e = (between job ok d).lists none in λ i. ((is_empty (e.0 i) || holds (e.0 i) t) && not (holds (e.1 i) t))

  -- what a position after the Begin asks of a command: the command leaves each word that counts as stored there
  record Begins (p' : Position) (request : ℕ) : Type 0 where
    user : selected p' ≡ true → selects (effect job d) ≡ false
    list : listed p' ≡ true → relinks (effect job d) ≡ false
    pids : pids_stored p' ≡ true → is_lists (effect job d) ≡ false
    depth : depth_stored p' ≡ true → is_levels (effect job d) ≡ false
    slot : took p' ≡ true → effect job d ≡ Adds → has_slot_at job (suc d) (subject job d) ≡ false
    give : gave (effect job d) p' ≡ false
    begun : underway p' ≡ true
    pushed : (link : ℕ → ℕ) (order : List ℕ) → PushedAt job d link order p'
    written : (copy : ℕ → ℕ → ℕ) → WrittenAt job (state_of job (suc d) (subject job d)) copy (effect job d) p'
    quiet : (t : ℕ) → quiet_reached (effect job d) p' request t ≡ 0
    stages : (f : ℕ) → patches (effect job d) ≡ true → stage_in p' f ≡ 0
    none : asks p' ≡ 0
    reaches : (b c : ℕ) → reached b p' c ≡ 0
    position : PositionAt job d p'
    fit : comes_to (effect job d) p' ≡ true

  module _ (p' : Position) (request : ℕ) (b : Begins p' request) where
    listed_begin : (order : List ℕ) (first : ℕ) (link : ℕ → ℕ) → UserList job d Line order first link → UserList job d p' order first link
    listed_begin order first link k = record { order' = by_list (listed p') refl; leads = k.leads; pushed = b.pushed link order }
      where
        by_list : (x : Bool) → listed p' ≡ x → IsOrder (desk job (desk_by x d)) (desk_by x d) order
        by_list false e = k.order'
        by_list true e = order_flips job ok d (b.list e) order k.order'

    since_begin : (v : ℕ) → since_of job (list_desk p' d) v ≡ since_of job d v
    since_begin v = by_list (listed p') refl
      where
        by_list : (x : Bool) → listed p' ≡ x → since_of job (desk_by x d) v ≡ since_of job d v
        by_list false e = refl
        by_list true e = (rest_same job ok d (b.list e) v).1

    sets_begin : (copies sel : ℕ → ℕ) (bits : ℕ → ℕ → ℕ → ℕ → ℕ) → HashCopies job d Line copies sel bits → HashCopies job d p' copies sel bits
    sets_begin copies sel bits k = record { small = k.small; sels = λ u. by_state u (selected p') refl; last = λ u. k.last u ∙ stays u (selected p') refl; written = b.written _; left = λ e out. false_true (sym (b.user out) ∙ ap selects e) }
      where
        by_state : (u : ℕ) (x : Bool) → selected p' ≡ x → SelIs job (state_of job (desk_by x d) u) (sel u) (copies u) (bits u)
        by_state u false e = k.sels u
        by_state u true e =
            let s = states_same (b.user e) u in (
              (λ r. (let o : (state_of job d u).registered ≡ true = sym s.1 ∙ r in
                  subst (λ (y : UserState). SelIs job y (sel u) (copies u) (bits u)) (sym (s.0 o)) (k.sels u)).0 r),
              (λ r. (let x = (k.sels u).1 (sym s.1 ∙ r) in (x.0 ∙ sym s.2, x.1))),
            )

        stays : (u : ℕ) (x : Bool) → selected p' ≡ x → stored_last job u (copies u) d ≡ stored_last job u (copies u) (desk_by x d)
        stays u false e = refl
        stays u true e = rw (b.user e) refl

    tramps_begin : (tramp : ℕ → ℕ) → TrampolinesHeld job d Line tramp → TrampolinesHeld job d p' tramp
    tramps_begin tramp k = record {
      before = λ u t h free. k.before u t h (λ g. absurd (none_line (effect job d) g));
      after = λ e u t h. (let x = slot_back (b.slot e) u t h in k.before u t x.0 (λ g. absurd (none_line (effect job d) g))
          ∙ ap (λ r. tramp_word r u) (sym x.1));
      free = λ t within old new. k.free t within (λ u h. false_true (sym b.give ∙ (old u h).0)) (λ e. false_true e);
    }
      where
        none_line : (z : Effect) → gave z Line ≡ true → ⊥
        none_line Removes e = false_true e
        none_line _ e = false_true e

    limits_begin : (pids depth : ℕ) → PidsAndDepth job d Line pids depth → PidsAndDepth job d p' pids depth
    limits_begin pids depth k = record { tasks = by_pids (pids_stored p') refl; level = by_depth (depth_stored p') refl }
      where
        by_pids : (x : Bool) → pids_stored p' ≡ x → pids ≡ mask_of (desk job (desk_by x d)) (length job.tasks)
        by_pids false e = k.tasks
        by_pids true e =
            let same : is_allowed (desk job d) ≡ is_allowed (desk job (suc d)) = λ i t. sym (pids_same (b.pids e) t) i in
            k.tasks ∙ ap (λ (f : ℕ → Bool). number_with_bits (map f (range_with_len 0 (length job.tasks)))) same

        by_depth : (x : Bool) → depth_stored p' ≡ x → depth ≡ (desk job (desk_by x d)).depth
        by_depth false e = k.level
        by_depth true e = k.level ∙ sym ((between job ok d).level (b.depth e))

    goes_begin : (base : ℕ) (order : List ℕ) (copies link : ℕ → ℕ) (bits : ℕ → ℕ → ℕ → ℕ → ℕ) (ack q : ℕ) → Fetches job ack d Line base d p' base
        → ControlEffect job (hereby d Line base request order copies link bits) (hereby d p' base request order copies link bits) ack q
    goes_begin base order copies link bits ack q fetch = record {
      later = omega arith;
      fetch = fetch;
      user = λ u R steady s. by_user u R steady s (selected p') refl;
      reads = λ u copy R steady s. by_read u copy R steady s (selected p') refl;
      walks = λ u w. elim w [ inl a ↦ inl a | inr g ↦ false_true g.0.0 ];
      walked = λ u w. since_begin u;
      since = λ u. inl (since_begin u);
      pids = λ t x s. by_pids t x s (pids_stored p') refl;
      depth = λ Q s. by_depth Q s (depth_stored p') refl;
    }
      where
        by_user : (u : ℕ) (R : UserState → Type 0) → StaysEnabled R → R (state_of job d u) → (x : Bool) → selected p' ≡ x
            → SeenAt x (effect job d) p' request q (R (state_of job d u)) (R (state_of job (suc d) u))
        by_user u R steady s false e = s
        by_user u R steady s true e = inl (subst R (sym ((states_same (b.user e) u).0 (steady (state_of job d u) s).0)) s)

        by_read : (u copy : ℕ) (R : UserState → (ℕ → ℕ → ℕ) → Type 0) → ((y : ℕ → ℕ → ℕ) → StaysEnabled (λ s. R s y))
            → (false ≡ false → copy ≡ copies u) × R (state_of job d u) (bits u copy) → (x : Bool) → selected p' ≡ x
            → SeenAt x (effect job d) p' request q ((x ≡ false → copy ≡ copies u) × R (state_of job d u) (bits u copy))
            ((copy ≡ copies u) × R (state_of job (suc d) u) (bits u copy))
        by_read u copy R steady s false e = s
        by_read u copy R steady s true e = inl (
          s.0 refl,
          subst (λ y. R y (bits u copy)) (sym ((states_same (b.user e) u).0 (steady (bits u copy) (state_of job d u) s.1).0)) s.1,
        )

        by_pids : (t : ℕ) (y : Bool) → is_allowed (desk job d) t ≡ y → (x : Bool) → pids_stored p' ≡ x
            → SeenAt x (effect job d) p' request q (is_allowed (desk job d) t ≡ y) (is_allowed (desk job (suc d)) t ≡ y)
        by_pids t y s false e = s
        by_pids t y s true e = inl (pids_same (b.pids e) t ∙ s)

        by_depth : (Q : ℕ → Type 0) → Q (desk job d).depth → (x : Bool) → depth_stored p' ≡ x
            → SeenAt x (effect job d) p' request q (Q (desk job d).depth) (Q (desk job (suc d)).depth)
        by_depth Q s false e = s
        by_depth Q s true e = inl (subst Q (sym ((between job ok d).level (b.depth e))) s)

module _ (job : Job) (ok : IsWellFormed job) (ws : Words) (d : ℕ) (c : Command) (rest : List Ctl) (request : ℕ) (copies : ℕ → ℕ) (order : List ℕ) (cpus : ℕ
    → Cpu) (past : List Item) where
  abbrev At : Position → Type 0
  At p = MachineRule job (world ws d (Run c ∷ rest) request copies order cpus past p)

  may_begin : At Line → MayBegin job past (suc d)
  may_begin k = record {
    number = ap (λ n. suc n) (sym k.counts.started);
    follows = k.counts.started ∙ sym k.counts.returned;
    stands = subst (λ n. n < length (commands job)) (sym k.counts.started)
        (slice_get_within (commands job) d c (let z : d + 0 ≡ d = omega arith in ap (λ n. slice_get (commands job) n) (sym z) ∙ k.lines.commands 0));
  }

  begin_to : (p' : Position) → Begins job ok d p' request → HasRoomFor job → HasWaited job past → At Line
      → MachineRule job (world (record ws { clock = half_size + 1 + ws.clock }) d (Run c ∷ rest) request copies order cpus (Begin (suc d) ∷ past) p')
  unfolding IsLegalPast
  begin_to p' b room waited k =
      let pass : Passed job ws.ack d Line k.base request d p' k.base request ws.want ws.head ws.tail ws.next =
      passed_same job d ws.ack Line p' k.base k.base request request ws.want ws.want ws.head ws.tail ws.next
      (λ f inside ch. stays f ch (patches (effect job d)) refl) (k.sites.asked ∙ ap (λ n. k.base + n) (sym b.none)) (let z = k.sites.few in
      omega (arith, z)) k.sites.want b.position b.fit (inl refl)
      (λ c within s. rw (b.reaches k.base c) (omega arith)) k.sites in
      let legal : IsLegalPast job (Begin (suc d) ∷ past) =
      (may_follow job past (Begin (suc d)) (λ t. rw (plain-other job past (Begin (suc d)) t refl) (k.runs t)) (of_begin (may_begin k, waited)), k.legal) in
      record {
        base = k.base;
        counts = record {
          returned = k.counts.returned;
          started = ap (λ n. suc n) k.counts.started ∙ ap (λ (x : Bool). cond x (suc d) d) (sym b.begun);
          clock' = (let z = k.counts.clock' in omega (arith, z));
          room = room (Begin (suc d) ∷ past) legal;
        };
        legal = legal;
        runs = λ t. rw (plain-other job past (Begin (suc d)) t refl) (k.runs t);
        lines = lines_on job d Line p' (Run c ∷ rest) _ (λ u. under_on Close p' (Run c ∷ rest) b.begun (c, rest, refl)) k.lines;
        sites = pass.sites;
        list = listed_begin job ok d p' request b order ws.first ws.link k.list;
        sets = sets_begin job ok d p' request b copies ws.sel ws.bits k.sets;
        tramps = tramps_begin job ok d p' request b ws.tramp k.tramps;
        limits = limits_begin job ok d p' request b ws.pids ws.depth k.limits;
        cpus = λ c within.
            cpu_goes job (Begin (suc d) ∷ past) (hereby d Line k.base request order copies ws.link ws.bits)
            (hereby d p' k.base request order copies ws.link ws.bits) (ws.ack c) ws.quiet c (cpus c)
            (let z = k.counts.started in omega (arith, z)) (omega arith) (pass.reach c within) (λ t there r. rw (b.quiet t) (omega arith))
            (λ t there r a qr small. goes_begin job ok d p' request b k.base order copies ws.link ws.bits (ws.ack c) (low (ws.quiet t))
            (pass.fetch c within r a))
            (cpu_carried job (hereby d Line k.base request order copies ws.link ws.bits) past (Begin (suc d)) (λ t. refl) (ws.ack c) ws.quiet c (cpus c)
            (k.cpus c within));
      }
    where
      stays : (f : ℕ) → changes job d f ≡ true → (x : Bool) → patches (effect job d) ≡ x → stage_in p' f ≡ 0
      stays f ch true e = b.stages f e
      stays f ch false e = false_true (sym (none_changes job ok d e f) ∙ ch)

  -- the row: the clock has room for one more item, and control's waits are met in the history's words
  pub begin_keeps : HasRoomFor job → HasWaited job past → At Line
      → MachineRule job (control_row job (world ws d (Run c ∷ rest) request copies order cpus past Line) (Mark (Begin (suc d))))
  unfolding control_got
  begin_keeps room waited k = by_effect (effect job d) refl
    where
      to : (p' : Position) → Begins job ok d p' request
          → MachineRule job (world (record ws { clock = half_size + 1 + ws.clock }) d (Run c ∷ rest) request copies order cpus (Begin (suc d) ∷ past) p')
      to p' b = begin_to p' b room waited k

      -- with the state still to be stored
      early : (p' : Position) → selected p' ≡ false → listed p' ≡ false → is_lists (effect job d) ≡ false → is_levels (effect job d) ≡ false
          → (took p' ≡ true → effect job d ≡ Adds → has_slot_at job (suc d) (subject job d) ≡ false) → gave (effect job d) p' ≡ false → underway p' ≡ true
          → ((link : ℕ → ℕ) (order : List ℕ) → PushedAt job d link order p')
          → ((copy : ℕ → ℕ → ℕ) → WrittenAt job (state_of job (suc d) (subject job d)) copy (effect job d) p')
          → ((t : ℕ) → quiet_reached (effect job d) p' request t ≡ 0) → ((f : ℕ) → stage_in p' f ≡ 0) → asks p' ≡ 0 → ((b c : ℕ) → reached b p' c ≡ 0)
          → PositionAt job d p' → comes_to (effect job d) p' ≡ true
          → MachineRule job (world (record ws { clock = half_size + 1 + ws.clock }) d (Run c ∷ rest) request copies order cpus (Begin (suc d) ∷ past) p')
      early p' sel lis pids depth slot give begun pushed written quiet stages none reaches position fit = to p' (record {
        user = λ e. false_true (sym sel ∙ e);
        list = λ e. false_true (sym lis ∙ e);
        pids = λ e. pids;
        depth = λ e. depth;
        slot = slot;
        give = give;
        begun = begun;
        pushed = pushed;
        written = written;
        quiet = quiet;
        stages = λ f e. stages f;
        none = none;
        reaches = reaches;
        position = position;
        fit = fit;
      })

      to_select : (z : Effect) → effect job d ≡ z → is_lists z ≡ false → is_levels z ≡ false → (z ≡ Adds → has_slot_at job (suc d) (subject job d) ≡ false)
          → gave z Select ≡ false → selects z ≡ true → ((copy : ℕ → ℕ → ℕ) → WrittenAt job (state_of job (suc d) (subject job d)) copy z Select)
          → MachineRule job (world (record ws { clock = half_size + 1 + ws.clock }) d (Run c ∷ rest) request copies order cpus (Begin (suc d) ∷ past) Select)
      to_select z e pids depth slot give fit written =
          early Select refl refl (ap is_lists e ∙ pids) (ap is_levels e ∙ depth) (λ t a. slot (sym e ∙ a)) (ap (λ y. gave y Select) e ∙ give) refl
          (λ l o. tt) (λ copy. subst (λ y. WrittenAt job (state_of job (suc d) (subject job d)) copy y Select) (sym e) (written copy))
          (λ t. refl) (λ f. refl) refl (λ b c. refl) tt (ap selects e ∙ fit)

      to_copy : (z : Effect) → effect job d ≡ z → is_lists z ≡ false → is_levels z ≡ false → (z ≡ Adds → has_slot_at job (suc d) (subject job d) ≡ false)
          → gave z Select ≡ false → gave z (Copy 0 0) ≡ false → selects z ≡ true → writes_copy z ≡ true
          → MachineRule job (world (record ws { clock = half_size + 1 + ws.clock }) d (Run c ∷ rest) request copies order cpus (Begin (suc d) ∷ past)
          (copy_from job 0 0))
      to_copy z e pids depth slot give give' fit fit' = first_copy job
          (λ p. MachineRule job (world (record ws { clock = half_size + 1 + ws.clock }) d (Run c ∷ rest) request copies order cpus (Begin (suc d) ∷ past) p))
          (λ some. early (Copy 0 0) refl refl (ap is_lists e ∙ pids) (ap is_levels e ∙ depth) (λ t a. slot (sym e ∙ a)) (ap (λ y. gave y (Copy 0 0)) e
          ∙ give') refl (λ l o. tt)
          (λ copy i v ti tv b. absurd (elim b [ inl x ↦ omega (arith, x) | inr x ↦ (let y = x.1 in omega (arith, y)) ]))
          (λ t. refl) (λ f. refl) refl (λ b c. refl) (omega arith, some) (ap writes_copy e ∙ fit'))
          (λ none. to_select z e pids depth slot give fit (λ copy w i v ti tv. absurd (omega (arith, none, tv))))

      by_effect : (z : Effect) → effect job d ≡ z
          → MachineRule job (world (record ws { clock = half_size + 1 + ws.clock }) d (Run c ∷ rest) request copies order cpus (Begin (suc d) ∷ past)
          (begin_in job d z))
      by_effect Adds e = if_case (λ p. MachineRule job (world (record ws { clock = half_size + 1 + ws.clock }) d (Run c ∷ rest) request copies order cpus
          (Begin (suc d) ∷ past) p)) (has_slot_at job (suc d) (subject job d)) Take (copy_from job 0 0)
          (λ s. early Take refl refl (ap is_lists e) (ap is_levels e) (λ t a. false_true t) (ap (λ y. gave y Take) e) refl (λ l o. tt) (λ copy. tt)
          (λ t. refl) (λ f. refl) refl (λ b c. refl) s (ap is_adds e))
          (λ s. to_copy Adds e refl refl (λ a. s) refl refl refl refl)
      by_effect Removes e = to_select Removes e refl refl (λ a. false_true (ap is_adds a)) refl refl (λ copy w. false_true w)
      by_effect Edits e = to_copy Edits e refl refl (λ a. false_true (ap is_adds a)) refl refl refl refl
      by_effect Enables e = to_select Enables e refl refl (λ a. false_true (ap is_adds a)) refl refl (λ copy w. false_true w)
      by_effect Disables e = to_select Disables e refl refl (λ a. false_true (ap is_adds a)) refl refl (λ copy w. false_true w)
      by_effect Lists e = to StorePids (record {
        user = λ x. ap selects e;
        list = λ x. ap relinks e;
        pids = λ x. false_true x;
        depth = λ x. ap is_levels e;
        slot = λ x a. false_true (ap is_adds (sym e ∙ a));
        give = ap (λ y. gave y StorePids) e;
        begun = refl;
        pushed = λ l o. tt;
        written = λ copy. tt;
        quiet = λ t. refl;
        stages = λ f x. refl;
        none = refl;
        reaches = λ b c. refl;
        position = tt;
        fit = ap is_lists e;
      })
      by_effect Levels e = to StoreDepth (record {
        user = λ x. ap selects e;
        list = λ x. ap relinks e;
        pids = λ x. ap is_lists e;
        depth = λ x. false_true x;
        slot = λ x a. false_true (ap is_adds (sym e ∙ a));
        give = ap (λ y. gave y StoreDepth) e;
        begun = refl;
        pushed = λ l o. tt;
        written = λ copy. tt;
        quiet = λ t. refl;
        stages = λ f x. refl;
        none = refl;
        reaches = λ b c. refl;
        position = tt;
        fit = ap is_levels e;
      })
      by_effect Nothing e = to Close (record {
        user = λ x. ap selects e;
        list = λ x. ap relinks e;
        pids = λ x. ap is_lists e;
        depth = λ x. ap is_levels e;
        slot = λ x a. false_true (ap is_adds (sym e ∙ a));
        give = ap (λ y. gave y Close) e;
        begun = refl;
        pushed = λ l o. tt;
        written = λ copy. tt;
        quiet = subst (λ y. (t : ℕ) → quiet_reached y Close request t ≡ 0) (sym e) (λ t. refl);
        stages = λ f x. false_true (sym (ap patches e) ∙ x);
        none = refl;
        reaches = λ b c. refl;
        position = tt;
        fit = refl;
      })
