-- The row that marks the Return.
use Rattle.std.proofs.Common.{cond, ◌≡◌, ℕ, suc, ◌+◌, ◌<◌, ◌≤◌, Bool, true, false, ◌&&◌, ◌==◌, List, ◌∷◌, length, get_or, Some, inl, inr, refl, sym, ap, ◌∙◌, subst, arith}
use Rattle.std.specs.Prelude.{Option, slice_get, IfSome}
use Rattle.std.proofs.lemmas.Bool.{cases_eq, cases_lt}
use Rattle.std.proofs.lemmas.Option.{slice_get_within}
use Rattle.ft_base.specs.declared.item.Item.{Item}
use Rattle.ft_base.specs.declared.item.Item.TheVariants.{Return}
use Rattle.ft_base.specs.Job.{Job, no_task, Ctl, Run, Command, Register, Unregister, Filter, Notrace, Pid, NoPid, Enable, Disable, MaxDepth, commands, waits_before}
use Rattle.ft_base.specs.Desk.{UserState, desk, is_allowed, is_accepted, is_matching, answer_on}
use Rattle.ft_base.specs.WellFormed.{IsWellFormed}
use Rattle.ft_base.proofs.Small.{false_true, and_both}
use Rattle.ft_hist.specs.Past.{is_called, callbacks}
use Rattle.ft_hist.specs.Rules.{IsLegalPast, IsStill, IsAnswered}
use Rattle.ft_hist.proofs.Laws.{plain-other}
use Rattle.word_map.specs.Words.{Words}
use Rattle.word_map.specs.Contents.{low}
use Rattle.word_machine.specs.Commands.{Effect, Adds, Removes, Edits, Disables, Lists, Levels, Nothing, effect, effect_in, effect_by, subject, subject_in, state_of, command}
use Rattle.word_map.specs.Ops.{Mark}
use Rattle.word_machine.specs.Control.{Position, Line, Close, answer_in, rest_lines, control_got}
use Rattle.word_machine.specs.Cpu.{Cpu}
use Rattle.word_machine.specs.Machine.{control_row}
use Rattle.word_machine.specs.Progress.{SeenAt, waits, gave, ClosingHolds}
use Rattle.word_machine.specs.UserList.{since_of}
use Rattle.word_machine.specs.Trampolines.{HasSlot, TrampolinesHeld}
use Rattle.word_machine.specs.Tasks.{TaskRule, callbacks_at}
use Rattle.word_machine.specs.Rule.{MachineRule, ControlLines, UnderAt, IsWordJob, task_in}
use Rattle.word_machine_laws.proofs.OtherItems.{cpu_carried}
use Rattle.word_machine_laws.proofs.DeskChanges.{SubjectBy, between}
use Rattle.word_machine_laws.proofs.VerdictLaws.{seen_close}
use Rattle.word_machine_laws.proofs.Sites.{Fetches, Passed, passed_close}
use Rattle.word_machine_laws.proofs.ControlEffects.{ControlEffect, cpu_goes}
use Rattle.word_machine_laws.proofs.NoSwitch.{world, hereby}
use Rattle.word_machine_laws.proofs.CommandDesks.{others_same}
use Rattle.word_machine_laws.proofs.NoneCalled.{none_called}
use Rattle.word_machine_laws.proofs.Effects.{passed_of}
use Rattle.ft_hist.proofs.OpenCallbacks.{of_user, there_of, by_task, stranger_none}
use Rattle.ft_hist.proofs.Carries.{of_task}
use Rattle.word_machine_laws.proofs.Room.{HasRoomFor}
use Rattle.ft_hist.proofs.ItemParts.{may_follow, of_return}

-- ## tasks

module _ (job : Job) (d base base' request : ℕ) (order : List ℕ) (copies link : ℕ → ℕ) (bits : ℕ → ℕ → ℕ → ℕ → ℕ) where
  goes_close : (ack q : ℕ) → (waits (effect job d) ≡ true → request ≤ q) → Fetches job ack d Close base (suc d) Line base'
      → ControlEffect job (hereby d Close base request order copies link bits) (hereby (suc d) Line base' request order copies link bits) ack q
  goes_close ack q passed fetch = record {
    later = omega arith;
    fetch = fetch;
    user = λ u R steady s. closed (R (state_of job d u)) (R (state_of job (suc d) u)) (R (state_of job (suc (suc d)) u)) s;
    reads = λ u copy R steady s.
        let x = closed ((true ≡ false → copy ≡ copies u) × R (state_of job d u) (bits u copy)) ((copy ≡ copies u) × R (state_of job (suc d) u) (bits u copy))
        ((copy ≡ copies u) × R (state_of job (suc (suc d)) u) (bits u copy)) s in
        ((λ h. x.0), x.1);
    walks = λ u w. elim w [
      | inl a ↦ inl a
      | inr g ↦ absurd
          (let h : ClosingHolds (waits (effect job d)) request q = g.0.3 in let w : waits (effect job d) ≡ true = ap waits g.0.1 in
          let h' : ClosingHolds true request q = subst (λ b. ClosingHolds b request q) w h in let p = passed w in omega (arith, h', p))
    ];
    walked = λ u w. refl;
    since = λ u. inl refl;
    pids = λ t b s. closed (is_allowed (desk job d) t ≡ b) (is_allowed (desk job (suc d)) t ≡ b) (is_allowed (desk job (suc (suc d))) t ≡ b) s;
    depth = λ Q s. closed (Q (desk job d).depth) (Q (desk job (suc d)).depth) (Q (desk job (suc (suc d))).depth) s;
  }
    where
      closed : (old new newer : Type 0) → SeenAt true (effect job d) Close request q old new → SeenAt false (effect job (suc d)) Line request q new newer
      closed old new newer s = seen_close (effect job d) (effect job (suc d)) Line request q old new newer passed s

-- ## the trampolines

tramps_close : (job : Job) → IsWellFormed job → (d : ℕ) (tramp : ℕ → ℕ) → TrampolinesHeld job d Close tramp → TrampolinesHeld job (suc d) Line tramp
tramps_close job ok d tramp k = record {
  before = λ u t h free. k.after refl u t h;
  after = λ e. false_true e;
  free = λ t within old new. k.free t within (λ u h. gone t u h (λ v x. none (effect job (suc d)) (old v x).0))
      (λ e u h. none (effect job (suc d)) (old u h).0);
}
  where
    none : (z : Effect) → gave z Line ≡ true → ⊥
    none Removes e = false_true e
    none _ e = false_true e

    by_effect : (t : ℕ) (z : Effect) → SubjectBy job (desk job d) (suc d) z (state_of job d (subject job d)) (state_of job (suc d) (subject job d))
        → HasSlot (state_of job d (subject job d)) t → (HasSlot (state_of job (suc d) (subject job d)) t → ⊥) → gave z Close ≡ true
    by_effect t Removes c h out = refl
    by_effect t Adds c h out = false_true (sym c.0 ∙ h.0)
    by_effect t Edits c h out = absurd (out (c.1.registered ∙ h.0, c.1.slot ∙ h.1))
    by_effect t Lists c h out = absurd (out (subst (λ (s : UserState). HasSlot s t) (sym c) h))
    by_effect t Levels c h out = absurd (out (subst (λ (s : UserState). HasSlot s t) (sym c) h))
    by_effect t Nothing c h out = absurd (out (subst (λ (s : UserState). HasSlot s t) (sym (c.1 h.0)) h))
    by_effect t _ c h out = absurd (out (subst (λ (s : UserState). HasSlot s t) (sym c.1) h))

    gone : (t u : ℕ) → HasSlot (state_of job d u) t → ((v : ℕ) → HasSlot (state_of job (suc d) v) t → ⊥)
        → (gave (effect job d) Close ≡ true) × (u ≡ subject job d)
    gone t u h out = elim (cases_eq u (subject job d)) [
      | inr ne ↦ absurd (out u (subst (λ (s : UserState). HasSlot s t) (sym (others_same job ok d u ne)) h))
      | inl e ↦ (by_effect t (effect job d) (between job ok d).subject (subst (λ v. HasSlot (state_of job d v) t) e h) (out (subject job d)), e)
    ]

-- ## control's lines

lines_close : (job : Job) (d : ℕ) (remaining : List Ctl) (gone : ℕ → ℕ) → (c : Command) (rest : List Ctl) → remaining ≡ Run c ∷ rest
    → ControlLines job d Close remaining gone → (slice_get (commands job) d ≡ Some c) × ControlLines job (suc d) Line rest gone
lines_close job d remaining gone c rest is k =
    let l : ControlLines job d Close (Run c ∷ rest) gone = subst (λ (x : List Ctl). ControlLines job d Close x gone) is k in
    let here : slice_get (commands job) d ≡ Some c = (let z : d + 0 ≡ d = omega arith in ap (λ n. slice_get (commands job) n) (sym z) ∙ l.commands 0) in (
      here,
      record {
        waits = l.waits;
        met = l.met;
        before = λ n. (let z : suc d + n ≡ d + suc n = omega arith in ap (λ m. waits_before m job.ctls) z ∙ l.before (suc n));
        within = slice_get_within (commands job) d c here;
        commands = λ n. (let z : suc d + n ≡ d + suc n = omega arith in ap (λ m. slice_get (commands job) m) z ∙ l.commands (suc n));
        under = tt;
      },
    )

module _ (job : Job) (ok : IsWordJob job) (ws : Words) (d : ℕ) (remaining : List Ctl) (request : ℕ) (copies : ℕ → ℕ) (order : List ℕ) (cpus : ℕ
    → Cpu) (past : List Item) where
  abbrev At : Position → Type 0
  At p = MachineRule job (world ws d remaining request copies order cpus past p)

  -- ## no callback of a user that is taken off is open

  not_called : At Close → (u : ℕ) → u ≡ subject job d → waits (effect job d) ≡ true
      → ((state_of job (suc d) u).registered ≡ true → (state_of job (suc d) u).enabled ≡ true → ⊥) → is_called u past ≡ false
  not_called k u own waits' off = by_task u (callbacks past)
      (λ t. elim (cases_lt t (length job.tasks)) [ inl lt ↦ there t lt | inr ge ↦ stranger_none job t (omega (arith, ge)) past u (k.runs t) ])
    where
      there : (t : ℕ) → t < length job.tasks → of_user u (of_task t (callbacks past)) ≡ false
      there t lt =
          let c = (get_or job.tasks t no_task).cpu in
          let h = hereby d Close k.base request order copies ws.link ws.bits in
          let kt : TaskRule job h past (ws.ack c) (ws.quiet t) t ((cpus c).tasks t) = (k.cpus c (ok.placed t lt)).tasks t (lt, refl) in
          let q = low (ws.quiet t) in
          let passed : waits (effect job d) ≡ true → request ≤ q = passed_of (effect job d) request q kt.reached in
          subst (λ bs. of_user u bs ≡ false) (sym kt.opens)
          (none_called job h past (ws.ack c) q t u
          (λ m f s e.
          let x = seen_close (effect job d) (effect job (suc d)) Line request q
          ((((((state_of job d m.user).registered && is_matching (state_of job d m.user) f) && (state_of job d m.user).enabled) ≡ true))
          × (since_of job d m.user ≡ m.since))
          ((((((state_of job (suc d) m.user).registered && is_matching (state_of job (suc d) m.user) f) && (state_of job (suc d) m.user).enabled) ≡ true))
          × (since_of job (suc d) m.user ≡ m.since))
          (Unit {0}) passed s in
          let y : (((state_of job (suc d) u).registered && is_matching (state_of job (suc d) u) f) && (state_of job (suc d) u).enabled) ≡ true =
          subst (λ v. (((state_of job (suc d) v).registered && is_matching (state_of job (suc d) v) f) && (state_of job (suc d) v).enabled) ≡ true) e x.0 in
          let z = and_both ((state_of job (suc d) u).registered && is_matching (state_of job (suc d) u) f) (state_of job (suc d) u).enabled y in
          off (and_both (state_of job (suc d) u).registered (is_matching (state_of job (suc d) u) f) z.0).0 z.1)
          (λ v reg s e.
          let x = seen_close (effect job d) (effect job (suc d)) Line request q
          (((state_of job d v).registered && (state_of job d v).enabled && ((state_of job d v).reg == reg)) ≡ true)
          (((state_of job (suc d) v).registered && (state_of job (suc d) v).enabled && ((state_of job (suc d) v).reg == reg)) ≡ true)
          (Unit {0}) passed s in
          let y : ((state_of job (suc d) u).registered && (state_of job (suc d) u).enabled && ((state_of job (suc d) u).reg == reg)) ≡ true =
          subst (λ v. ((state_of job (suc d) v).registered && (state_of job (suc d) v).enabled && ((state_of job (suc d) v).reg == reg)) ≡ true) e x in
          let z = and_both ((state_of job (suc d) u).registered && (state_of job (suc d) u).enabled) ((state_of job (suc d) u).reg == reg) y in
          let w = and_both (state_of job (suc d) u).registered (state_of job (suc d) u).enabled z.0 in
          off w.0 w.1)
          ((cpus c).tasks t).moment ((cpus c).tasks t).stack kt.calls
          (there_of past t (callbacks_at ((cpus c).tasks t).moment ((cpus c).tasks t).stack) kt.opens))

  still : At Close → (c : Command) → command job d ≡ Some c → is_accepted (answer_on job (desk job d) c) ≡ true → IsStill past c
  still k c is accepts = by_command c is accepts
    where
      sort_is : (c : Command) → command job d ≡ Some c → is_accepted (answer_on job (desk job d) c) ≡ true → effect job d ≡ effect_by (desk job d) c
      sort_is c is accepts = ap (λ (o : Option Command). effect_in job d o) is ∙ ap (λ (b : Bool). cond b (effect_by (desk job d) c) Nothing) accepts

      by_command : (c : Command) → command job d ≡ Some c → is_accepted (answer_on job (desk job d) c) ≡ true → IsStill past c
      by_command (Unregister u) is accepts =
          let z : effect job d ≡ Removes = sort_is (Unregister u) is accepts in
          let own : u ≡ subject job d = ap (λ (o : Option Command). subject_in o) (sym is) in
          let s : SubjectBy job (desk job d) (suc d) Removes (state_of job d (subject job d)) (state_of job (suc d) (subject job d)) =
          subst (λ z. SubjectBy job (desk job d) (suc d) z (state_of job d (subject job d)) (state_of job (suc d) (subject job d))) z
          (between job ok.job' d).subject in
          not_called k u own (ap waits z)
          (λ r e. false_true (sym (subst (λ v. (state_of job (suc d) v).registered ≡ false) (sym own) (ap (λ (x : UserState). x.registered) s.1)) ∙ r))
      by_command (Disable u) is accepts =
          let z : effect job d ≡ Disables = sort_is (Disable u) is accepts in
          let own : u ≡ subject job d = ap (λ (o : Option Command). subject_in o) (sym is) in
          let s : SubjectBy job (desk job d) (suc d) Disables (state_of job d (subject job d)) (state_of job (suc d) (subject job d)) =
          subst (λ z. SubjectBy job (desk job d) (suc d) z (state_of job d (subject job d)) (state_of job (suc d) (subject job d))) z
          (between job ok.job' d).subject in
          not_called k u own (ap waits z)
          (λ r e. false_true (sym (subst (λ v. (state_of job (suc d) v).enabled ≡ false) (sym own) (ap (λ (x : UserState). x.enabled) s.1)) ∙ e))
      by_command (Register u) is accepts = tt
      by_command (Filter u e) is accepts = tt
      by_command (Notrace u e) is accepts = tt
      by_command (Pid e) is accepts = tt
      by_command (NoPid e) is accepts = tt
      by_command (Enable u) is accepts = tt
      by_command (MaxDepth n) is accepts = tt

  may_return : (k : At Close) → (c : Command) → slice_get (commands job) d ≡ Some c → IsAnswered job past (suc d) (answer_in job d (command job d))
  may_return k c is = record {
    number = ap (λ n. suc n) (sym k.counts.returned);
    follows = k.counts.started ∙ ap (λ n. suc n) (sym k.counts.returned);
    command = subst (λ n. (c : Command) × (slice_get (commands job) n ≡ Some c) × (answer_in job d (command job d) ≡ answer_on job (desk job n) c)) (sym k.counts.returned)
        (c, is, ap (λ (o : Option Command). answer_in job d o) is);
  }

  -- and whom it takes off is still
  still_then : (k : At Close) → (c : Command) → slice_get (commands job) d ≡ Some c → is_accepted (answer_in job d (command job d)) ≡ true → IfSome (slice_get (commands job) d) (IsStill past)
  still_then k c is e = subst (λ (o : Option Command). IfSome o (IsStill past)) (sym is) (still k c is (ap (λ (o : Option Command). is_accepted (answer_in job d o)) (sym is) ∙ e))

  -- the row
  pub close_keeps : HasRoomFor job → At Close
      → MachineRule job (control_row job (world ws d remaining request copies order cpus past Close) (Mark (Return (suc d) (answer_in job d (command job d)))))
  unfolding control_got IsLegalPast
  close_keeps room k =
      let u : UnderAt Close remaining = k.lines.under in
      let l = lines_close job d remaining _ u.0 u.1 u.2 k.lines in
      let pass : Passed job ws.ack d Close k.base request (suc d) Line request request ws.want ws.head ws.tail ws.next =
      passed_close job d ws.ack Line k.base request ws.want ws.head ws.tail ws.next (λ f. refl) refl (λ b c. refl) tt refl k.sites in
      let legal : IsLegalPast job (Return (suc d) (answer_in job d (command job d)) ∷ past) = (
        may_follow job past (Return (suc d) (answer_in job d (command job d))) (λ t. rw (plain-other job past (Return (suc d) (answer_in job d (command job d))) t refl) (k.runs t))
            (of_return (still_then k u.0 l.0) (may_return k u.0 l.0)),
        k.legal,
      ) in
      record {
        base = request;
        counts = record {
          returned = ap (λ n. suc n) k.counts.returned;
          started = k.counts.started;
          clock' = (let z = k.counts.clock' in omega (arith, z));
          room = room (Return (suc d) (answer_in job d (command job d)) ∷ past) legal;
        };
        legal = legal;
        runs = λ t. rw (plain-other job past (Return (suc d) (answer_in job d (command job d))) t refl) (k.runs t);
        lines = subst (λ (x : List Ctl). ControlLines job (suc d) Line x (λ t. (task_in job cpus t).gone)) (ap rest_lines (sym u.2)) l.1;
        sites = pass.sites;
        list = record { order' = k.list.order'; leads = k.list.leads; pushed = tt };
        sets = record { small = k.sets.small; sels = k.sets.sels; last = k.sets.last; written = tt; left = λ e out. false_true out };
        tramps = tramps_close job ok.job' d ws.tramp k.tramps;
        limits = record { tasks = k.limits.tasks; level = k.limits.level };
        cpus = λ c within.
            cpu_goes job (Return (suc d) (answer_in job d (command job d)) ∷ past) (hereby d Close k.base request order copies ws.link ws.bits)
            (hereby (suc d) Line request request order copies ws.link ws.bits) (ws.ack c) ws.quiet c (cpus c)
            (let z = k.counts.started in omega (arith, z)) (omega arith) (pass.reach c within) (λ t there r. omega arith)
            (λ t there r a qr small. goes_close job d k.base request request order copies ws.link ws.bits (ws.ack c) (low (ws.quiet t))
            (passed_of (effect job d) request (low (ws.quiet t)) qr) (pass.fetch c within r a))
            (cpu_carried job (hereby d Close k.base request order copies ws.link ws.bits) past (Return (suc d) (answer_in job d (command job d))) (λ t. refl)
            (ws.ack c) ws.quiet c (cpus c) (k.cpus c within));
      }
