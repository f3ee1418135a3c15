-- The rows that put a user on the list and take one off it.
use Rattle.std.proofs.Common.{cond, ◌≡◌, ◌⊎◌, ℕ, suc, ◌<◌, Bool, true, false, ◌==◌, List, [], ◌∷◌, inl, inr, refl, sym, ap, ◌∙◌, subst, arith, eqb-true}
use Rattle.std.proofs.lemmas.Bool.{eq-eqb, cases_eq}
use Rattle.ft_base.specs.declared.item.Item.{Item}
use Rattle.ft_base.specs.Job.{Job, Ctl, Register, Unregister}
use Rattle.ft_base.specs.Desk.{desk, is_allowed}
use Rattle.ft_base.specs.Order.{IsOrder, has, order_after}
use Rattle.ft_base.specs.WellFormed.{IsWellFormed}
use Rattle.word_map.specs.Chains.{Leads}
use Rattle.ft_base.proofs.Small.{false_true, or-true}
use Rattle.word_map.specs.Words.{Words, put, at_put, First, Link}
use Rattle.word_machine.specs.Commands.{Effect, Adds, Removes, Edits, Enables, Disables, Lists, Levels, Nothing, effect, subject, state_of}
use Rattle.word_map.specs.Ops.{Store}
use Rattle.word_machine.specs.Control.{Position, Push, Relink, batch_first, name_of, follower, namer_from, relink_op, relinked, control_got}
use Rattle.word_machine.specs.Cpu.{Cpu}
use Rattle.word_machine.specs.Machine.{control_row, words_after, past_after}
use Rattle.word_machine.specs.Progress.{selected, pids_stored, depth_stored, desk_by, is_adds, relinks, patches}
use Rattle.word_machine.specs.UserList.{since_of, older, UserList, ListWalk, Unlinked}
use Rattle.word_machine.specs.Rule.{MachineRule}
use Rattle.word_machine_laws.proofs.DeskChanges.{SubjectBy, between, since-step, numbers-kept}
use Rattle.word_machine.proofs.Small.{put_same, each_of}
use Rattle.word_machine_laws.proofs.Sites.{Fetches, passed_same}
use Rattle.word_machine_laws.proofs.SiteSyncs.{enter_row}
use Rattle.word_machine_laws.proofs.ControlEffects.{ControlEffect}
use Rattle.word_machine_laws.proofs.NoSwitch.{world, hereby, Flags, seen_on, read_still, goes_still, tramps_on, tramps_before, sets_on, limits_on, row_kept}
use Rattle.word_machine_laws.proofs.SiteRows.{InBatch, in_batch}
use Rattle.word_machine_laws.proofs.CommandDesks.{order_next, sort_adds, sort_removes}
use Rattle.word_machine_laws.proofs.UserList.{Among, among_of, has_of, Falls, falls_of, without_user, WalkOn, reads_name, reads_other, reads_older, push_reads, namer, namer_word, namer_later, unlink_reads, without_older, unlink_walker, without_filter}
use Rattle.word_machine_laws.proofs.Effects.{adds_of, relinks_patches, none_gave}

module _ (job : Job) (ok : IsWellFormed job) (ws : Words) (d : ℕ) (remaining : List Ctl) (request : ℕ) (copies : ℕ → ℕ) (cpus : ℕ
    → Cpu) (past : List Item) where
  abbrev At : List ℕ → Position → Type 0
  At order p = MachineRule job (world ws d remaining request copies order cpus past p)

  -- ## push: the link of the new user

  new_out : (order : List ℕ) → effect job d ≡ Adds → IsOrder (desk job d) d order → Among (subject job d) order → ⊥
  new_out order adds h a =
      let c : SubjectBy job (desk job d) (suc d) Adds (state_of job d (subject job d)) (state_of job (suc d) (subject job d)) =
      subst (λ z. SubjectBy job (desk job d) (suc d) z (state_of job d (subject job d)) (state_of job (suc d) (subject job d))) adds
      (between job ok d).subject in
      false_true (sym (h.members (subject job d) ∙ c.0) ∙ has_of (subject job d) order a)

  pub push_keeps : (order : List ℕ) → At order Push
      → MachineRule job (control_row job (world ws d remaining request copies order cpus past Push) (Store (Link (subject job d)) (name_of order)))
  unfolding control_got
  push_keeps order k =
      let adds : effect job d ≡ Adds = adds_of (effect job d) k.sites.fit in
      let flags : Flags job d Push Relink request request =
      record { list = refl; select = refl; pids = refl; depth = refl; hold = λ q small h. tt; grows = omega arith } in
      let list : UserList job d Relink order ws.first (at_put ws.link (subject job d) (name_of order)) = record {
        order' = k.list.order';
        leads = reads_other ws.link (subject job d) (name_of order) ws.first order (new_out order adds k.list.order') k.list.leads;
        pushed = λ e. put_same ws.link (subject job d) (name_of order);
      } in
      row_kept job ws d remaining request copies order cpus past Push Relink k.base request copies order k refl (omega arith)
      (passed_same job d ws.ack Push Relink k.base k.base request request ws.want ws.want ws.head ws.tail ws.next
      (λ f inside ch. refl) k.sites.asked k.sites.few k.sites.want tt (ap relinks adds) (inl refl) (λ c within s. omega arith) k.sites)
      list (sets_on job d Push Relink copies ws.sel ws.bits refl tt k.sets) (tramps_before job d Push Relink refl refl refl ws.tramp k.tramps)
      (limits_on job d Push Relink ws.pids ws.depth refl refl k.limits) (λ t there r. omega arith)
      (λ ack q small fetch.
      let g = goes_still job d Push Relink k.base k.base request request flags order copies ws.link ws.bits ack q small fetch in
      record {
        later = g.later;
        fetch = g.fetch;
        user = g.user;
        reads = g.reads;
        walks = λ u w. elim w [ inl x ↦ inl x | inr x ↦ false_true x.0.0 ];
        walked = g.walked;
        since = g.since;
        pids = g.pids;
        depth = g.depth;
      })

  -- ## the store that makes the list that of the command

  relink_to : (order order' : List ℕ) (first' : ℕ) (link' : ℕ → ℕ) → (k : At order Relink) → IsOrder (desk job (suc d)) (suc d) order'
      → Leads link' first' order'
      → ((q u : ℕ) → has u order ≡ true → ListWalk link' (since_of job (suc d)) order' (Unlinked job d (batch_first job d) request q u) u)
      → MachineRule job (world (record ws { first = first'; link = link' }) d remaining request copies order' cpus past (batch_first job d))
  relink_to order order' first' link' k orders reads walks =
      let fit : patches (effect job d) ≡ true = relinks_patches (effect job d) k.sites.fit in
      let b : InBatch job d (batch_first job d) = in_batch job d fit in
      let list : UserList job d (batch_first job d) order' first' link' = record {
        order' = subst (λ y. IsOrder (desk job (desk_by y d)) (desk_by y d) order') (sym b.list) orders;
        leads = reads;
        pushed = b.pushed link' order';
      } in
      row_kept job ws d remaining request copies order cpus past Relink (batch_first job d) k.base request copies order' k b.stored.begun (omega arith)
      (enter_row job d ws.ack k.base request ws.want ws.head ws.tail ws.next Relink fit (λ f. refl) refl refl k.sites) list
      (sets_on job d Relink (batch_first job d) copies ws.sel ws.bits b.stored.select (b.stored.written (state_of job (suc d) (subject job d)) _) k.sets)
      (tramps_on job d Relink (batch_first job d) b.stored.take (b.stored.give ∙ sym (none_gave (effect job d) Relink refl)) ws.tramp k.tramps)
      (limits_on job d Relink (batch_first job d) ws.pids ws.depth b.stored.pids b.stored.depth k.limits)
      (λ t there r. rw (b.stored.quiet request t) (omega arith)) (λ ack q small fetch. goes b k ack q fetch)
    where
      goes : (b : InBatch job d (batch_first job d)) (k : At order Relink) (ack q : ℕ) → Fetches job ack d Relink k.base d (batch_first job d) k.base
          → ControlEffect job (hereby d Relink k.base request order copies ws.link ws.bits) (hereby d (batch_first job d) k.base request order' copies link' ws.bits) ack q
      goes b k ack q fetch = record {
        later = omega arith;
        fetch = fetch;
        user = λ u R steady s. seen_on (effect job d) Relink (batch_first job d) request request q true (selected (batch_first job d)) (R (state_of job d u))
            (R (state_of job (suc d) u)) b.stored.select (λ h. b.stored.hold request q) s;
        reads = λ u copy R steady s. read_still job d Relink (batch_first job d) request request q (λ h. b.stored.hold request q) copies ws.bits u copy R b.stored.select s;
        walks = λ u w. elim w [
          | inl x ↦ subst (λ y. ListWalk link' (since_of job (desk_by y d)) order' (Unlinked job d (batch_first job d) request q u) u) (sym b.list) (walks q u x)
          | inr x ↦ false_true x.0.0
        ];
        walked = λ u w. elim w [
          | inl x ↦ subst (λ y. since_of job (desk_by y d) u ≡ since_of job d u) (sym b.list) (numbers-kept job ok d u (sym (k.list.order'.members u) ∙ x)).0
          | inr x ↦ false_true x.0.0
        ];
        since = λ u. subst (λ y. (since_of job (desk_by y d) u ≡ since_of job d u) ⊎ ((state_of job d u).registered ≡ false)) (sym b.list)
            (elim (since-step job ok d u) [ inl x ↦ inl x | inr x ↦ inr x.1 ]);
        pids = λ t x s. seen_on (effect job d) Relink (batch_first job d) request request q true (pids_stored (batch_first job d)) (is_allowed (desk job d) t ≡ x)
            (is_allowed (desk job (suc d)) t ≡ x) b.stored.pids (λ h. b.stored.hold request q) s;
        depth = λ Q s. seen_on (effect job d) Relink (batch_first job d) request request q true (depth_stored (batch_first job d)) (Q (desk job d).depth)
            (Q (desk job (suc d)).depth) b.stored.depth (λ h. b.stored.hold request q) s;
      }

  -- the list begins with the new user
  link_keeps : (order : List ℕ) → effect job d ≡ Adds → At order Relink
      → MachineRule job (world (put First (suc (subject job d)) ws) d remaining request copies (subject job d ∷ order) cpus past (batch_first job d))
  link_keeps order adds k =
      let s = sort_adds job ok d adds in
      relink_to order (subject job d ∷ order) (suc (subject job d)) ws.link k
      (order_next job ok d (Register (subject job d)) order s.0 s.1 k.list.order')
      (push_reads ws.link ws.first order (subject job d) (k.list.pushed (ap is_adds adds)) k.list.leads)
      (λ q u x. inl (rw x (or-true (subject job d == u))))

  -- the user is unlinked
  falls : (order : List ℕ) → IsOrder (desk job d) d order → Falls (since_of job d) (suc d) order
  falls order h = falls_of (desk job d) (suc d) order (each_of (λ v. since_of job d v < suc d) order (λ v. (let r = h.recent v in omega (arith, r)))) h.falling

  since_same : effect job d ≡ Removes → since_of job d ≡ since_of job (suc d)
  since_same removes i v = sym (elim (since-step job ok d v) [ inl e ↦ e | inr x ↦ false_true (ap is_adds (sym removes ∙ x.3)) ]) i

  -- of a list without the user, in both ways to say it
  unlinked : (v : ℕ) (vs : List ℕ) (first' : ℕ) (link' : ℕ → ℕ) → effect job d ≡ Removes → (k : At (v ∷ vs) Relink)
      → Leads link' first' (without_user (subject job d) (v ∷ vs))
      → ((G : ℕ → Type 0) (x : ℕ) → ((y : ℕ) → G y → y ≡ subject job d) → G (subject job d) → Among x (v ∷ vs)
      → WalkOn link' (since_of job d) (without_user (subject job d) (v ∷ vs)) G x)
      → MachineRule job (world (record ws { first = first'; link = link' }) d remaining request copies
      (order_after (v ∷ vs) (Unregister (subject job d))) cpus past (batch_first job d))
  unlinked v vs first' link' removes k reads walk =
      let s = sort_removes job ok d removes in
      let same : order_after (v ∷ vs) (Unregister (subject job d)) ≡ without_user (subject job d) (v ∷ vs) =
      without_filter (since_of job d) (suc d) (subject job d) (v ∷ vs) (falls (v ∷ vs) k.list.order') in
      let b : InBatch job d (batch_first job d) = in_batch job d (relinks_patches (effect job d) k.sites.fit) in
      relink_to (v ∷ vs) (order_after (v ∷ vs) (Unregister (subject job d))) first' link' k
      (order_next job ok d (Unregister (subject job d)) (v ∷ vs) s.0 s.1 k.list.order')
      (subst (λ (l : List ℕ). Leads link' first' l) (sym same) reads)
      (λ q u x. subst (λ (l : List ℕ). ListWalk link' (since_of job (suc d)) l (Unlinked job d (batch_first job d) request q u) u) (sym same)
      (subst (λ f. ListWalk link' f (without_user (subject job d) (v ∷ vs)) (Unlinked job d (batch_first job d) request q u) u) (since_same removes)
      (elim (walk (λ y. Unlinked job d (batch_first job d) request q y) u (λ y g. g.2) (b.list, removes, refl, b.stored.hold request q) (among_of u (v ∷ vs) x)) [
        | inl a ↦ inl (has_of u (without_user (subject job d) (v ∷ vs)) a)
        | inr g ↦ inr g
      ])))

  unlink_keeps : (order : List ℕ) → effect job d ≡ Removes → At order Relink
      → MachineRule job (world (put (namer_from First (subject job d) order) (follower (subject job d) order) ws) d remaining request copies
      (order_after order (Unregister (subject job d))) cpus past (batch_first job d))
  unlink_keeps [] removes k = false_true (k.list.order'.members (subject job d) ∙ registered)
    where
      registered : (state_of job d (subject job d)).registered ≡ true
      registered =
          let c : SubjectBy job (desk job d) (suc d) Removes (state_of job d (subject job d)) (state_of job (suc d) (subject job d)) =
          subst (λ z. SubjectBy job (desk job d) (suc d) z (state_of job d (subject job d)) (state_of job (suc d) (subject job d))) removes
          (between job ok d).subject in
          c.0
  unlink_keeps (v ∷ vs) removes k = by_test (v == subject job d) refl
    where
      c : SubjectBy job (desk job d) (suc d) Removes (state_of job d (subject job d)) (state_of job (suc d) (subject job d))
      c = subst (λ z. SubjectBy job (desk job d) (suc d) z (state_of job d (subject job d)) (state_of job (suc d) (subject job d))) removes
          (between job ok d).subject

      there : Among (subject job d) (v ∷ vs)
      there = among_of (subject job d) (v ∷ vs) (k.list.order'.members (subject job d) ∙ c.0)

      among : (v == subject job d) ≡ false → Among (subject job d) vs
      among t = elim there [ inl s ↦ false_true (sym t ∙ eq-eqb v (subject job d) (sym s)) | inr a ↦ a ]

      f : Falls (since_of job d) (suc d) (v ∷ vs)
      f = falls (v ∷ vs) k.list.order'

      walk_first : (v == subject job d) ≡ true → (G : ℕ → Type 0) (x : ℕ) → ((y : ℕ) → G y → y ≡ subject job d) → G (subject job d) → Among x (v ∷ vs)
          → WalkOn ws.link (since_of job d) (without_user (subject job d) (v ∷ vs)) G x
      walk_first t G x only gone a =
          let z : v ≡ subject job d = eqb-true v (subject job d) t in
          let rest : without_user (subject job d) (v ∷ vs) ≡ vs = ap (λ (b : Bool). cond b vs (v ∷ without_user (subject job d) vs)) t in
          elim (cases_eq x (subject job d)) [
            | inl e ↦ inr (
              subst (λ y. G y) (sym e) gone,
              subst (λ y. Leads ws.link (ws.link y) (older (since_of job d) (since_of job d y) (without_user (subject job d) (v ∷ vs)))) (sym e)
                  (subst (λ (l : List ℕ). Leads ws.link (ws.link (subject job d)) l)
                  (sym (without_older (since_of job d) (suc d) (subject job d) (v ∷ vs) f there))
                  (reads_older ws.link (since_of job d) (suc d) ws.first (v ∷ vs) (subject job d) f k.list.leads there)),
            )
            | inr ne ↦ inl (subst (λ (l : List ℕ). Among x l) (sym rest) (elim a [ inl s ↦ absurd (ne (s ∙ z)) | inr y ↦ y ]))
          ]

      walk_after : (v == subject job d) ≡ false → (G : ℕ → Type 0) (x : ℕ) → ((y : ℕ) → G y → y ≡ subject job d) → G (subject job d) → Among x (v ∷ vs)
          → WalkOn (at_put ws.link (namer v (subject job d) vs) (follower (subject job d) vs)) (since_of job d) (without_user (subject job d) (v ∷ vs)) G x
      walk_after t G x only gone a =
          let n : namer v (subject job d) (v ∷ vs) ≡ namer v (subject job d) vs = ap (λ (b : Bool). cond b v (namer v (subject job d) vs)) t in
          let o : follower (subject job d) (v ∷ vs) ≡ follower (subject job d) vs = ap (λ (b : Bool). cond b (name_of vs) (follower (subject job d) vs)) t in
          let later : since_of job d (subject job d) < since_of job d (namer v (subject job d) (v ∷ vs)) =
          subst (λ i. since_of job d (subject job d) < since_of job d i) (sym n) (namer_later (since_of job d) v (subject job d) vs f.1 (among t)) in
          subst (λ (q : ℕ × ℕ). WalkOn (at_put ws.link q.0 q.1) (since_of job d) (without_user (subject job d) (v ∷ vs)) G x) (λ i. (n i, o i))
          (unlink_walker ws.link (since_of job d) ws.first v (subject job d) (suc d) x (v ∷ vs) G f k.list.leads there later only gone a)

      by_test : (t : Bool) → (v == subject job d) ≡ t
          → MachineRule job (world (put (cond t First (namer_from (Link v) (subject job d) vs))
          (cond t (name_of vs) (follower (subject job d) vs)) ws) d remaining request copies (order_after (v ∷ vs) (Unregister (subject job d))) cpus past
          (batch_first job d))
      by_test true t =
          unlinked v vs (name_of vs) ws.link removes k
          (subst (λ (l : List ℕ). Leads ws.link (name_of vs) l) (sym (ap (λ (b : Bool). cond b vs (v ∷ without_user (subject job d) vs)) t))
          (subst (λ y. Leads ws.link y vs) (reads_name ws.link (ws.link v) vs k.list.leads.1) k.list.leads.1))
          (walk_first t)
      by_test false t =
          subst (λ w. MachineRule job (world (put w (follower (subject job d) vs) ws) d remaining request copies
          (order_after (v ∷ vs) (Unregister (subject job d))) cpus past (batch_first job d))) (sym (namer_word v (subject job d) vs))
          (unlinked v vs ws.first (at_put ws.link (namer v (subject job d) vs) (follower (subject job d) vs)) removes k
          (subst (λ (l : List ℕ). Leads (at_put ws.link (namer v (subject job d) vs) (follower (subject job d) vs)) ws.first l)
          (sym (ap (λ (b : Bool). cond b vs (v ∷ without_user (subject job d) vs)) t))
          (k.list.leads.0, unlink_reads ws.link (since_of job d) v (subject job d) vs f.1 (among t) k.list.leads.1))
          (walk_after t))

  -- as the step table has it
  pub relink_keeps : (order : List ℕ) → At order Relink
      → MachineRule job (control_row job (world ws d remaining request copies order cpus past Relink) (relink_op (effect job d) (subject job d) order))
  unfolding control_got
  relink_keeps order k = by_effect (effect job d) refl k.sites.fit
    where
      by_effect : (z : Effect) → effect job d ≡ z → relinks z ≡ true
          → MachineRule job (record {
            words = words_after (relink_op z (subject job d) order) ws;
            control = record {
              commands_done = d;
              remaining = remaining;
              request = request;
              copies = copies;
              order = relinked z (subject job d) order;
              position = batch_first job d;
            };
            cpus = cpus;
            past = past_after (relink_op z (subject job d) order) past;
          })
      by_effect Adds e t = link_keeps order e k
      by_effect Removes e t = unlink_keeps order e k
      by_effect Edits e t = false_true t
      by_effect Enables e t = false_true t
      by_effect Disables e t = false_true t
      by_effect Lists e t = false_true t
      by_effect Levels e t = false_true t
      by_effect Nothing e t = false_true t
