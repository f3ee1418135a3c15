-- Plain users, which version 3 calls back without asking whether they are on: in their own trampoline, and in a walk that comes to one that the
-- command under way takes off.
use Rattle.std.proofs.Common.{cond, ◌≡◌, ℕ, zero, suc, ◌≤◌, Bool, true, false, not, ◌||◌, ◌&&◌, List, Option, Some, None, inl, inr, refl, sym, ap, ◌∙◌, subst, arith}
use Rattle.std.specs.Prelude.{slice_get}
use Rattle.std.proofs.lemmas.Bool.{cases_eq}
use Rattle.ft_base.specs.declared.item.Ran.TheVariants.{List as ByList, Own}
use Rattle.ft_base.specs.declared.item.Item.{Item}
use Rattle.ft_base.specs.declared.user.Kind.{Kind}
use Rattle.ft_base.specs.declared.user.Kind.TheVariants.{Function, Graph, Fprobe, Profile}
use Rattle.ft_base.specs.Marks.{is_empty}
use Rattle.ft_base.specs.Kinds.{is_function, is_fprobe}
use Rattle.ft_base.specs.Job.{Job, Command, Register, Unregister, Filter, Notrace, Pid, NoPid, Enable, Disable, MaxDepth, commands}
use Rattle.ft_base.specs.Desk.{UserState, desk, spec_at, is_on, is_sited, answer_on, is_accepted}
use Rattle.ft_base.specs.Versions.{has_looks}
use Rattle.ft_base.specs.WellFormed.{IsWellFormed}
use Rattle.ft_base.proofs.Small.{false_true}
use Rattle.ft_hist.specs.Past.{visits}
use Rattle.word_map.specs.Contents.{high, tramp_user, sel_on, sel_copy, sel_empty}
use Rattle.word_machine.specs.Commands.{Effect, Adds, Removes, Edits, Enables, Disables, Lists, Levels, Nothing, effect, effect_by, effect_in, edits_or, command, subject, state_of}
use Rattle.word_machine.specs.Control.{Position, Line, Take, Copy, Select, Await, Release, Close}
use Rattle.word_machine.specs.Task.{OpenCall, Moment, InTramp, OwnSel, TestFilter, TestNotrace, is_asked, owned_in, tests_in, begin_call}
use Rattle.word_machine.specs.Progress.{SeenAt, HoldsAt, waits, selected, listed, desk_by, quiet_reached}
use Rattle.word_machine.specs.UserList.{UserList}
use Rattle.word_machine.specs.HashCopies.{HasSets, HashCopies, LeftAt, Reader, ReaderAt, InFilter, InNotrace}
use Rattle.word_machine.specs.Trampolines.{TrampolinesHeld}
use Rattle.word_machine.specs.Verdicts.{Here, Dispatches, RanIs, BeforeVisit, Walks, may_come_before}
use Rattle.word_machine.specs.Rule.{Counts, IsWordJob}
use Rattle.word_machine_laws.proofs.VerdictLaws.{seen_map}
use Rattle.word_machine_laws.proofs.DeskStart.{nobody_is}
use Rattle.word_machine_laws.proofs.DeskChanges.{SubjectBy, between}
use Rattle.word_machine_laws.proofs.DeskNumbers.{sited-registered}
use Rattle.word_machine_laws.proofs.Contents.{sel-on-is, copy_of, bare_of, reg_of}
use Rattle.word_machine_laws.proofs.LoadMoments.{running, dispatch_goes}
use Rattle.word_machine_laws.proofs.LoadOwn.{tramp_kept}
use Rattle.word_machine_laws.proofs.LoadTests.{since_now, Comes, begin_kept, sel_kept}

-- ## a plain user is on as long as it is registered

-- a plain user is no fprobe
no_fprobe : (k : Kind) → is_function k ≡ true → is_fprobe k ≡ false
no_fprobe Function e = refl
no_fprobe Graph e = refl
no_fprobe (Fprobe x c) e = false_true e
no_fprobe Profile e = refl

module _ (job : Job) (ok : IsWellFormed job) where
  -- only an fprobe is disabled
  disables-fprobe : (k : ℕ) → effect job k ≡ Disables → is_fprobe (spec_at job (subject job k)).kind ≡ true
  disables-fprobe k e = by (command job k) refl
    where
      switched : (u : ℕ) → is_accepted (answer_on job (desk job k) (Disable u)) ≡ true → is_fprobe (spec_at job u).kind ≡ true
      switched u e = at' (state_of job k u).registered (is_fprobe (spec_at job u).kind) refl refl
        where
          at' : (r f : Bool) → (state_of job k u).registered ≡ r → is_fprobe (spec_at job u).kind ≡ f → is_fprobe (spec_at job u).kind ≡ true
          at' false f x y = false_true (rw x at e)
          at' true false x y = false_true (rw (x, y) at e)
          at' true true x y = y

      accepted : (c : Command) → is_accepted (answer_on job (desk job k) c) ≡ true → effect_by (desk job k) c ≡ Disables
          → slice_get (commands job) k ≡ Some c → is_fprobe (spec_at job (subject job k)).kind ≡ true
      accepted (Disable u) a z is = rw is (switched u a)
      accepted (Filter u x) a z is = edit (state_of job k u).registered z
        where
          edit : (b : Bool) → edits_or b ≡ Disables → is_fprobe (spec_at job (subject job k)).kind ≡ true
          edit true z = absurd cc
          edit false z = absurd cc
      accepted (Notrace u x) a z is = edit (state_of job k u).registered z
        where
          edit : (b : Bool) → edits_or b ≡ Disables → is_fprobe (spec_at job (subject job k)).kind ≡ true
          edit true z = absurd cc
          edit false z = absurd cc
      accepted (Register u) a z is = absurd cc
      accepted (Unregister u) a z is = absurd cc
      accepted (Pid x) a z is = absurd cc
      accepted (NoPid x) a z is = absurd cc
      accepted (Enable u) a z is = absurd cc
      accepted (MaxDepth n) a z is = absurd cc

      by : (o : Option Command) → slice_get (commands job) k ≡ o → is_fprobe (spec_at job (subject job k)).kind ≡ true
      by None is = (let z : effect_in job k None ≡ Disables = subst (λ o. effect_in job k o ≡ Disables) is e in absurd cc)
      by (Some c) is = at' (is_accepted (answer_on job (desk job k) c)) refl (subst (λ o. effect_in job k o ≡ Disables) is e)
        where
          at' : (b : Bool) → is_accepted (answer_on job (desk job k) c) ≡ b → cond b (effect_by (desk job k) c) Nothing ≡ Disables
              → is_fprobe (spec_at job (subject job k)).kind ≡ true
          at' true a z = accepted c a z is
          at' false a z = absurd cc

  pub plain-enabled : (k u : ℕ) → is_function (spec_at job u).kind ≡ true → (state_of job k u).registered ≡ true → (state_of job k u).enabled ≡ true
  plain-enabled zero u plain r = nobody_is job u r
  plain-enabled (suc k) u plain r = elim (cases_eq u (subject job k)) [
    | inr ne ↦
        let same = (between job ok k).others u ne in
        subst (λ (s : UserState). s.enabled ≡ true) (sym same) (plain-enabled k u plain (subst (λ (s : UserState). s.registered ≡ true) same r))
    | inl e ↦ subst (λ v. (state_of job (suc k) v).enabled ≡ true) (sym e)
        (by_effect (effect job k) refl (between job ok k).subject (subst (λ v. (state_of job (suc k) v).registered ≡ true) e r) (λ x. subst
        (λ v. (state_of job k v).registered ≡ true → (state_of job k v).enabled ≡ true) e (plain-enabled k u plain) x)
        (subst (λ v. is_function (spec_at job v).kind ≡ true) e plain))
  ]
    where
      by_effect : (z : Effect) → effect job k ≡ z → SubjectBy job (desk job k) (suc k) z (state_of job k (subject job k)) (state_of job (suc k) (subject job k))
          → (state_of job (suc k) (subject job k)).registered ≡ true → ((state_of job k (subject job k)).registered ≡ true → (state_of job k (subject job k)).enabled ≡ true)
          → is_function (spec_at job (subject job k)).kind ≡ true → (state_of job (suc k) (subject job k)).enabled ≡ true
      by_effect Adds z c r before p = ap (λ (s : UserState). s.enabled) c.1
      by_effect Removes z c r before p = false_true (sym (ap (λ (s : UserState). s.registered) c.1) ∙ r)
      by_effect Edits z c r before p = c.1.enabled ∙ before c.0
      by_effect Enables z c r before p = ap (λ (s : UserState). s.enabled) c.1
      by_effect Disables z c r before p = false_true (sym (no_fprobe (spec_at job (subject job k)).kind p) ∙ disables-fprobe k z)
      by_effect Lists z c r before p = ap (λ (s : UserState). s.enabled) c ∙ before (sym (ap (λ (s : UserState). s.registered) c) ∙ r)
      by_effect Levels z c r before p = ap (λ (s : UserState). s.enabled) c ∙ before (sym (ap (λ (s : UserState). s.registered) c) ∙ r)
      by_effect Nothing z c r before p = c.0.enabled ∙ before (sym c.0.registered ∙ r)

-- who isn't asked is plain
not-asked : (job : Job) (u : ℕ) → is_asked job u ≡ false → is_function (spec_at job u).kind ≡ true
not-asked job u e = by (has_looks job.version) (is_function (spec_at job u).kind) e
  where
    by : (a b : Bool) → not (a && b) ≡ false → b ≡ true
    by a true e = refl
    by true false e = false_true (sym e)
    by false false e = false_true (sym e)

-- ## dispatches

-- before the list is stored any task holds a command
hold-unlisted : (z : Effect) (p : Position) (request q : ℕ) → listed p ≡ false → HoldsAt z p request q
hold-unlisted z (Await whom n) request q e = false_true (sym e)
hold-unlisted z Release request q e = false_true (sym e)
hold-unlisted z Close request q e = false_true (sym e)
hold-unlisted z _ request q e = tt

-- the list is stored after the state
listed-selected : (p : Position) → listed p ≡ true → selected p ≡ true
listed-selected Line e = false_true e
listed-selected Take e = false_true e
listed-selected (Copy h w) e = false_true e
listed-selected Select e = false_true e
listed-selected _ e = refl

module _ (job : Job) (ok : IsWordJob job) (h : Here) (past : List Item) (clock : ℕ) (counts : Counts h.d h.p clock past) (ack q : ℕ) (c : OpenCall)
    (below : List OpenCall) where
  abbrev At : Moment → Type 0
  At m = Dispatches job h past ack q c below m

  -- a trampoline's user is called back: it is still registered, and so it is on
  pub plain_kept : (u reg : ℕ) → is_asked job u ≡ false → At (OwnSel u reg) → At (begin_call job c below u reg)
  plain_kept u reg plain x =
      begin_kept job ok h past clock counts ack q c below (OwnSel u reg) x u reg x.at.1
      (subst (λ r. BeforeVisit job h q r u (visits job c.call past)) (sym x.at.2) (refl, x.at.0))
      (subst (λ r. Comes job ok h past clock counts ack q c below (λ v. may_come_before (since_now job ok h past clock counts) r u v)) (sym x.at.2) (λ v un. inl refl))
      (seen_map (selected h.p) (effect job h.d) h.p h.request q _ _ (On h.d) (On (suc h.d)) (λ own. (on h.d own.0, own.1.1)) (λ own. (on (suc h.d) own.0, own.1.1))
      x.at.3.1.1)
    where
      On : ℕ → Type 0
      On k = (is_on (desk job k) u c.func ≡ true) × ((state_of job k u).reg ≡ reg)

      on : (k : ℕ) → is_sited (desk job k) u c.func ≡ true → is_on (desk job k) u c.func ≡ true
      on k s = (let en = plain-enabled job ok.job' k u (not-asked job u plain) (sited-registered job k u c.func s) in rw (s, en) refl)

module _ (job : Job) (ok : IsWordJob job) (h : Here) (past : List Item) (clock : ℕ) (counts : Counts h.d h.p clock past) (ack q : ℕ) (c : OpenCall)
    (below : List OpenCall) where
  -- the load of a trampoline's word: whether its user is on is asked, or the user is called back
  pub owned_kept : (slot t : ℕ) (tramp : ℕ → ℕ) → TrampolinesHeld job h.d h.p tramp → quiet_reached (effect job h.d) h.p h.request t ≤ q
      → Dispatches job h past ack q c below (InTramp slot)
      → Dispatches job h past ack q (running c (Own (record { 0 = tramp_user (tramp slot) }))) below
      (owned_in (is_asked job (tramp_user (tramp slot))) (tramp_user (tramp slot)) (high (tramp slot))
      (begin_call job c below (tramp_user (tramp slot)) (high (tramp slot))))
  owned_kept slot t tramp k passed x = by (is_asked job (tramp_user (tramp slot))) refl
    where
      asked : Dispatches job h past ack q (running c (Own (record { 0 = tramp_user (tramp slot) }))) below (OwnSel (tramp_user (tramp slot)) (high (tramp slot)))
      asked = tramp_kept job ok h past clock counts ack q c below slot t tramp k passed x

      by : (b : Bool) → is_asked job (tramp_user (tramp slot)) ≡ b
          → Dispatches job h past ack q (running c (Own (record { 0 = tramp_user (tramp slot) }))) below
          (owned_in b (tramp_user (tramp slot)) (high (tramp slot)) (begin_call job c below (tramp_user (tramp slot)) (high (tramp slot))))
      by true e = asked
      by false e =
          plain_kept job ok h past clock counts ack q (running c (Own (record { 0 = tramp_user (tramp slot) }))) below (tramp_user (tramp slot)) (high (tramp slot)) e asked

module _ (job : Job) (ok : IsWordJob job) (h : Here) (past : List Item) (clock : ℕ) (counts : Counts h.d h.p clock past) (ack q : ℕ) (c : OpenCall)
    (below : List OpenCall) where
  module _ (m : Moment) (x : Dispatches job h past ack q c below m) (u : ℕ) (ran : RanIs job past c) (before : BeforeVisit job h q c.ran u (visits job c.call past))
      (watch : Comes job ok h past clock counts ack q c below (λ v. may_come_before (since_now job ok h past clock counts) c.ran u v)) where
    abbrev Old : ℕ → (UserState → (ℕ → ℕ → ℕ) → Type 0) → Type 0
    Old copy R = (selected h.p ≡ false → copy ≡ h.copies u) × R (state_of job h.d u) (h.bits u copy)

    -- the user at which a walk is, though it is not registered any more: the command takes it off, and the task holds the command
    abbrev Leaves : Type 0
    Leaves = (effect job h.d ≡ Removes) × (u ≡ subject job h.d) × (selected h.p ≡ true) × HoldsAt (effect job h.d) h.p h.request q

    leaves : (first : ℕ) (link : ℕ → ℕ) → UserList job h.d h.p h.order first link → c.ran ≡ ByList
        → (state_of job (desk_by (selected h.p) h.d) u).registered ≡ false → Leaves
    leaves first link list is off = at' (subst (λ r. BeforeVisit job h q r u (visits job c.call past)) is before).0
      where
        gone : (k : ℕ) → (state_of job h.d u).registered ≡ true → (state_of job (suc h.d) u).registered ≡ false → (effect job h.d ≡ Removes) × (u ≡ subject job h.d)
        gone k r o = elim (cases_eq u (subject job h.d)) [
          | inr ne ↦ false_true (sym o ∙ ap (λ (s : UserState). s.registered) ((between job ok.job' h.d).others u ne) ∙ r)
          | inl e ↦ (
            by_effect (effect job h.d) (between job ok.job' h.d).subject (subst (λ v. (state_of job h.d v).registered ≡ true) e r)
                (subst (λ v. (state_of job (suc h.d) v).registered ≡ false) e o),
            e,
          )
        ]
          where
            by_effect : (z : Effect) → SubjectBy job (desk job h.d) (suc h.d) z (state_of job h.d (subject job h.d)) (state_of job (suc h.d) (subject job h.d))
                → (state_of job h.d (subject job h.d)).registered ≡ true → (state_of job (suc h.d) (subject job h.d)).registered ≡ false → z ≡ Removes
            by_effect Adds s r o = false_true (sym o ∙ ap (λ (y : UserState). y.registered) s.1)
            by_effect Removes s r o = refl
            by_effect Edits s r o = false_true (sym o ∙ s.1.registered ∙ r)
            by_effect Nothing s r o = false_true (sym o ∙ s.0.registered ∙ r)
            by_effect Lists s r o = false_true (sym o ∙ ap (λ (y : UserState). y.registered) s ∙ r)
            by_effect Levels s r o = false_true (sym o ∙ ap (λ (y : UserState). y.registered) s ∙ r)
            by_effect _ s r o = false_true (sym o ∙ ap (λ (y : UserState). y.registered) s.1 ∙ r)

        in-list : (s l : Bool) → selected h.p ≡ s → listed h.p ≡ l → (state_of job (desk_by l h.d) u).registered ≡ true → (state_of job (desk_by s h.d) u).registered ≡ false → Leaves
        in-list false false es el r o = false_true (sym o ∙ r)
        in-list true true es el r o = false_true (sym o ∙ r)
        in-list false true es el r o = false_true (sym es ∙ listed-selected h.p el)
        in-list true false es el r o = (let g = gone 0 r o in (g.0, g.1, es, hold-unlisted (effect job h.d) h.p h.request q el))

        at' : Walks job h q u → Leaves
        at' (inl has) = in-list (selected h.p) (listed h.p) refl refl (sym (list.order'.members u) ∙ has) off
        at' (inr w) = (w.0.1, w.0.2, listed-selected h.p w.0.0, w.0.3)

    -- the load of its state: its sets are looked at, whether or not it is still registered
    pub plain_walk : (first : ℕ) (link sel : ℕ → ℕ) → UserList job h.d h.p h.order first link → HashCopies job h.d h.p h.copies sel h.bits → c.ran ≡ ByList
        → Dispatches job h past ack q c below (tests_in (not (is_asked job u) || sel_on (sel u)) (sel_empty (sel u)) u (sel u))
    plain_walk first link sel list sets is = by (is_asked job u) (sel_on (sel u)) refl refl
      where
        same : Dispatches job h past ack q c below (tests_in (sel_on (sel u)) (sel_empty (sel u)) u (sel u))
        same = sel_kept job ok h past clock counts ack q c below m x u 0 ran before watch sel sets is

        read : is_asked job u ≡ false → Leaves → (e : Bool) → sel_empty (sel u) ≡ e → Dispatches job h past ack q c below (tests_in true e u (sel u))
        read plain l e empty = to e empty
          where
            left : LeftAt job h.d u (sel u) (h.copies u) (h.bits u (h.copies u))
            left = subst (λ v. LeftAt job h.d v (sel v) (h.copies v) (h.bits v (h.copies v))) (sym l.1) (sets.left l.0 l.2)

            removed : ((state_of job h.d u).registered ≡ true) × (state_of job (suc h.d) u ≡ record (state_of job h.d u) { registered = false; slot = None })
            removed = subst (λ v. ((state_of job h.d v).registered ≡ true) × (state_of job (suc h.d) v ≡ record (state_of job h.d v) { registered = false; slot = None })) (sym l.1)
                (subst (λ z. SubjectBy job (desk job h.d) (suc h.d) z (state_of job h.d (subject job h.d)) (state_of job (suc h.d) (subject job h.d))) l.0 (between job ok.job' h.d).subject)

            s' : UserState
            s' = state_of job (suc h.d) u

            copy : sel_copy (sel u) ≡ h.copies u
            copy = ap sel_copy left.0 ∙ copy_of s'.reg (h.copies u) s'.registered s'.enabled (is_empty s'.filter) (sets.small u)

            bare : sel_empty (sel u) ≡ is_empty (state_of job h.d u).filter
            bare = ap sel_empty left.0 ∙ bare_of s'.reg (h.copies u) s'.registered s'.enabled (is_empty s'.filter) (sets.small u)
                ∙ ap (λ (y : UserState). is_empty y.filter) removed.1

            reader : Reader job (state_of job h.d u) (h.bits u (sel_copy (sel u))) (high (sel u))
            reader = record {
              registered = removed.0;
              enabled = plain-enabled job ok.job' h.d u (not-asked job u plain) removed.0;
              number = sym (ap high left.0 ∙ reg_of s'.reg (h.copies u) s'.registered s'.enabled (is_empty s'.filter) (sets.small u) ∙ ap (λ (y : UserState). y.reg) removed.1);
              copied = subst (λ i. HasSets job (state_of job h.d u) (h.bits u i)) (sym copy) left.1;
            }

            reads : (R : UserState → (ℕ → ℕ → ℕ) → Type 0) → R (state_of job h.d u) (h.bits u (sel_copy (sel u)))
                → ReaderAt job h.d h.p h.request q h.copies h.bits u (sel_copy (sel u)) R
            reads R r =
                subst (λ b. SeenAt b (effect job h.d) h.p h.request q ((b ≡ false → sel_copy (sel u) ≡ h.copies u) × R (state_of job h.d u) (h.bits u (sel_copy (sel u))))
                ((sel_copy (sel u) ≡ h.copies u) × R (state_of job (suc h.d) u) (h.bits u (sel_copy (sel u))))) (sym l.2)
                (inr (ap waits l.0, l.3, ((λ z. copy), r)))

            to : (e : Bool) → sel_empty (sel u) ≡ e → Dispatches job h past ack q c below (tests_in true e u (sel u))
            to true empty =
                let b : is_empty (state_of job h.d u).filter ≡ true = sym bare ∙ empty in
                dispatch_goes job h past ack q c below m (TestNotrace u (sel_copy (sel u)) (high (sel u))) c.ran x watch
                (ran, before, is, reads (InNotrace job (high (sel u)) c.func) (reader, rw b refl), omega arith)
            to false empty =
                dispatch_goes job h past ack q c below m (TestFilter u (sel_copy (sel u)) (high (sel u))) c.ran x watch
                (ran, before, is, reads (InFilter job (high (sel u))) (reader, sym bare ∙ empty), omega arith)

        by : (a b : Bool) → is_asked job u ≡ a → sel_on (sel u) ≡ b → Dispatches job h past ack q c below (tests_in (not a || b) (sel_empty (sel u)) u (sel u))
        by true b ea eb = subst (λ y. Dispatches job h past ack q c below (tests_in y (sel_empty (sel u)) u (sel u))) eb same
        by false true ea eb = subst (λ y. Dispatches job h past ack q c below (tests_in y (sel_empty (sel u)) u (sel u))) eb same
        by false false ea eb = read ea (leaves first link list is (off (state_of job (desk_by (selected h.p) h.d) u).registered refl)) (sel_empty (sel u)) refl
          where
            off : (r : Bool) → (state_of job (desk_by (selected h.p) h.d) u).registered ≡ r → (state_of job (desk_by (selected h.p) h.d) u).registered ≡ false
            off false r = r
            off true r =
                let s = state_of job (desk_by (selected h.p) h.d) u in
                let en = plain-enabled job ok.job' (desk_by (selected h.p) h.d) u (not-asked job u ea) r in
                false_true (sym eb ∙ sel-on-is job s (sel u) (h.copies u) (h.bits u) (sets.small u) (sets.sels u) ∙ rw (r, en) refl)
