-- Misses: a Miss may come next exactly if its task's latest item is the Back of that user in the call.
use Rattle.std.proofs.Common.{cond, ◌≡◌, ℕ, Bool, true, false, ◌&&◌, ◌==◌, List, [], ◌∷◌, Option, Some, None, IsSome, refl, sym, subst, eqb-true}
use Rattle.std.specs.List.{AllByRecursion as Each}
use Rattle.ft_base.specs.declared.number.CallNo.{CallNo}
use Rattle.ft_base.specs.declared.number.UserNo.{UserNo}
use Rattle.ft_base.specs.declared.item.Item.{Item}
use Rattle.ft_base.specs.declared.item.Item.TheVariants.{Back, Refuse, Miss}
use Rattle.ft_base.specs.declared.item.Reason.{Reason}
use Rattle.ft_base.specs.Same.{same_call}
use Rattle.ft_base.specs.Job.{Job}
use Rattle.ft_base.specs.Desk.{spec_at}
use Rattle.ft_base.specs.Kinds.{has_exit}
use Rattle.ft_base.proofs.Small.{==-refl, false_true, and_both}
use Rattle.ft_hist.specs.Past.{is_of, done, Callback, held, miss_after, miss_due}
use Rattle.ft_hist.specs.Plain.{plain, PlainTask, after_item, Frame, Phase, Owed, Dispatch, InBack, Leaving, after_miss, after_refusal, on_call, in_phase, on_top, at_start, after_next}
use Rattle.ft_hist.specs.Rules.{KeepsPlainRun}
use Rattle.ft_hist.proofs.Laws.{same_call-refl}
use Rattle.ft_hist.proofs.Steps.{IsQuiet, own-step, run-holds, same_call-eq, Step, step_act, step_back, step_begin, step_enter, step_miss, step_ret, step_return}
use Rattle.kernel_rules.proofs.Runs.{settled, some-before}

-- the item is the Back of this user in the call
abbrev pub is_back_of : CallNo → ℕ → Item → Bool
is_back_of c u (Back d v) = same_call d c && (v.0 == u)
is_back_of c u _ = false

-- the task's latest item is that
abbrev pub last_back : ℕ → CallNo → ℕ → List Item → Bool
last_back t c u [] = false
last_back t c u (item ∷ past) = cond (is_of t item) (is_back_of c u item) (last_back t c u past)

module _ (job : Job) where
  -- a Miss that is due comes after such a Back
  pub due-back : (t : ℕ) (past : List Item) (m : Callback) → miss_due job t past ≡ Some m → last_back t m.call m.user past ≡ true
  due-back t [] m e = absurd cc
  due-back t (item ∷ past) m e = by (is_of t item) item (due-back t past m) e
    where
      of : (b : Bool) (c : CallNo) (u : UserNo) → cond b (Some (record { call = c; user = u.0; ctx = None })) None ≡ Some m → is_back_of m.call m.user (Back c u) ≡ true
      of true c u e =
          let call' : c ≡ m.call = cc in
          let user' : u.0 ≡ m.user = cc in
          rw (← call', ← user', same_call-refl c, ==-refl u.0) refl
      of false c u e = absurd cc

      after : (x : Item) → miss_after job x past ≡ Some m → is_back_of m.call m.user x ≡ true
      after (Back c u) e = of (has_exit (spec_at job u.0).kind && (held job c past == job.frames)) c u e
      after _ e = absurd cc

      by : (b : Bool) (x : Item) → (miss_due job t past ≡ Some m → last_back t m.call m.user past ≡ true) → cond b (miss_after job x past) (miss_due job t past) ≡ Some m → cond b (is_back_of m.call m.user x) (last_back t m.call m.user past) ≡ true
      by true x more e = after x e
      by false x more e = more e

  -- what a Miss needs after a Back, and nothing of other items
  abbrev LeavesFresh : PlainTask → Item → Type 0
  LeavesFresh s (Back c u) = (d : ℕ) → IsSome (after_item job d s (Miss c u))
  LeavesFresh s _ = Unit {0}

  -- a Back leaves its task so
  leaves-fresh : {n : ℕ} {p s : PlainTask} {item : Item} → Step job n p s item → LeavesFresh s item
  unfolding after_item
  leaves-fresh (step_back p f below {u}) = λ d. rw (same_call-refl f.call, ==-refl u.0) refl
  leaves-fresh _ = tt

  record IsFresh (t : ℕ) (c : CallNo) (u : UserNo) (past : List Item) : Type 0 where
    pub run : PlainTask
    pub is : plain job t past ≡ Some run
    pub miss : (d : ℕ) → IsSome (after_item job d run (Miss c u))

  -- a task is so after a Back that is its latest item
  fresh : (t : ℕ) (c : CallNo) (u : UserNo) (past : List Item) → last_back t c u.0 past ≡ true → IsSome (plain job t past) → IsFresh t c u past
  unfolding plain
  fresh t c u [] last some = absurd cc
  fresh t c u (item ∷ past) last some = by (is_of t item) refl last (fresh t c u past)
    where
      here : (o : Option PlainTask) → plain job t (item ∷ past) ≡ o → IsSome o → (s : PlainTask) × (plain job t (item ∷ past) ≡ Some s)
      here None e h = false_true h
      here (Some s) e h = (s, e)

      of-back : (x : Item) → is_back_of c u.0 x ≡ true → (s : PlainTask) → LeavesFresh s x → (d : ℕ) → IsSome (after_item job d s (Miss c u))
      of-back (Back d v) is s h =
          let both = and_both (same_call d c) (v.0 == u.0) is in
          let call' : d ≡ c = same_call-eq d c both.0 in
          let user' : v.0 ≡ u.0 = eqb-true v.0 u.0 both.1 in
          subst (λ (n : ℕ). (k : ℕ) → IsSome (after_item job k s (Miss c (record { 0 = n })))) user' (subst (λ (e : CallNo). (k : ℕ) → IsSome (after_item job k s (Miss e v))) call' h)
      of-back _ is s h = false_true is

      by : (b : Bool) → is_of t item ≡ b → cond b (is_back_of c u.0 item) (last_back t c u.0 past) ≡ true
          → (last_back t c u.0 past ≡ true → IsSome (plain job t past) → IsFresh t c u past) → IsFresh t c u (item ∷ past)
      by true own is more =
          let now = here (plain job t (item ∷ past)) refl some in
          let w = own-step job t item past now.0 own now.1 in
          record { run = now.0; is = now.1; miss = of-back item is now.0 (leaves-fresh w.2) }
      by false other is more =
          let h = more is (some-before job t item past some) in
          record { run = h.run; is = rw other h.is; miss = h.miss }

  -- a Miss may come directly after its Back
  pub fresh-run : (c : CallNo) (u : UserNo) (past : List Item) → last_back c.task.0 c u.0 past ≡ true → ((t : ℕ) → IsSome (plain job t past)) → KeepsPlainRun job past (Miss c u)
  unfolding plain
  fresh-run c u past last some t = by (c.task.0 == t) refl
    where
      by : (b : Bool) → (c.task.0 == t) ≡ b → IsSome (cond b (Rattle.ft_hist.specs.Plain.after_next job (done past) (Miss c u) (plain job t past)) (plain job t past))
      by true own =
          let task : c.task.0 ≡ t = eqb-true c.task.0 t own in
          let h = fresh t c u past (subst (λ (n : ℕ). last_back n c u.0 past ≡ true) task last) (some t) in
          rw h.is (h.miss (done past))
      by false other = some t

  -- ## the latest item of a task whose next may be a Miss

  -- no Miss may come in this call
  abbrev IsSettled : Frame → Type 0
  IsSettled f = settled f.phase ≡ f.phase

  -- after the Back of the top call alone a Miss may come
  abbrev IsTopBack : ℕ → List Item → List Frame → Type 0
  IsTopBack t past [] = Unit {0}
  IsTopBack t past (f ∷ below) = ((u : ℕ) (owed : Option Owed) → f.phase ≡ InBack u owed true → last_back t f.call u past ≡ true) × Each IsSettled below

  -- on a stack where none may come
  settled-top : (t : ℕ) (past : List Item) (fs : List Frame) → Each IsSettled fs → IsTopBack t past fs
  settled-top t past [] h = tt
  settled-top t past (f ∷ below) h = ((λ u owed e. not_fresh f.phase u owed e h.0), h.1)
    where
      not_fresh : (ph : Phase) (u : ℕ) (owed : Option Owed) → ph ≡ InBack u owed true → settled ph ≡ ph → last_back t f.call u past ≡ true
      not_fresh (InBack v o true) u owed e s = absurd cc
      not_fresh (InBack v o false) u owed e s = absurd cc
      not_fresh _ u owed e s = absurd cc

  -- where the next act may begin none may come
  quiet-settled : (fs : List Frame) → IsQuiet fs → (t : ℕ) (past : List Item) → IsTopBack t past fs → Each IsSettled fs
  quiet-settled [] q t past h = tt
  quiet-settled (f ∷ below) q t past h = (rw (q.1) refl, h.1)

  -- one more item of the task
  top-own : (t n : ℕ) (p s : PlainTask) (item : Item) (past : List Item) → is_of t item ≡ true → Step job n p s item → IsTopBack t past p.stack → IsTopBack t (item ∷ past) s.stack
  top-own t n p s item past own (step_enter it quiet acts x) h = ((λ u owed e. absurd cc), quiet-settled p.stack quiet t past h)
  top-own t n p s item past own (step_act q g below it) h = ((λ u owed e. absurd cc), (refl, h.1))
  top-own t n p s item past own (step_back q f below {u}) h = ((λ v owed e. (let same : u.0 ≡ v = cc in rw (own, same_call-refl f.call, same) (==-refl v))), h.1)
  top-own t n p s item past own (step_ret q f below) h = settled-top t (item ∷ past) below h.1
  top-own t n p s item past own step_begin h = false_true own
  top-own t n p s item past own step_return h = false_true own
  top-own t n p s item past own _ h = ((λ u owed e. absurd cc), h.1)

  -- so it is along a plain run
  top-back : (t : ℕ) (past : List Item) (s : PlainTask) → plain job t past ≡ Some s → IsTopBack t past s.stack
  top-back t = run-holds job t (λ past s. IsTopBack t past s.stack) tt
      (λ item past p s own here k h. top-own t (done past) p s item past own k h)
      (λ item past s other here h. kept item past other s.stack h)
    where
      kept : (item : Item) (past : List Item) → is_of t item ≡ false → (fs : List Frame) → IsTopBack t past fs → IsTopBack t (item ∷ past) fs
      kept item past other [] h = tt
      kept item past other (f ∷ below) h = ((λ u owed e. rw other (h.0 u owed e)), h.1)

  -- a Miss comes directly after its Back
  abbrev IsMissBack : ℕ → List Item → Item → Type 0
  IsMissBack t past (Miss c u) = last_back t c u.0 past ≡ true
  IsMissBack t past _ = Unit {0}

  -- a Miss that may come next comes directly after its Back
  pub miss-after-back : (c : CallNo) (u : UserNo) (past : List Item) → IsSome (plain job c.task.0 (Miss c u ∷ past)) → last_back c.task.0 c u.0 past ≡ true
  miss-after-back c u past some = of (plain job c.task.0 (Miss c u ∷ past)) refl some
    where
      by-step : {n : ℕ} {p s : PlainTask} {item : Item} → Step job n p s item → plain job c.task.0 past ≡ Some p → IsMissBack c.task.0 past item
      by-step (step_miss q f below {u}) here = (top-back _ past _ here).0 _ _ refl
      by-step _ here = tt

      of : (o : Option PlainTask) → plain job c.task.0 (Miss c u ∷ past) ≡ o → IsSome o → last_back c.task.0 c u.0 past ≡ true
      of None e h = false_true h
      of (Some s) e h = let w = own-step job c.task.0 (Miss c u) past s (==-refl c.task.0) e in by-step w.2 w.1

  -- such a Back is of the task
  pub back-task : (t : ℕ) (c : CallNo) (u : ℕ) (past : List Item) → last_back t c u past ≡ true → (c.task.0 == t) ≡ true
  back-task t c u [] last = false_true last
  back-task t c u (item ∷ past) last = by (is_of t item) item refl last (back-task t c u past)
    where
      by : (b : Bool) (x : Item) → is_of t x ≡ b → cond b (is_back_of c u x) (last_back t c u past) ≡ true → (last_back t c u past ≡ true → (c.task.0 == t) ≡ true) → (c.task.0 == t) ≡ true
      by true (Back d v) own last more = subst (λ (e : CallNo). (e.task.0 == t) ≡ true) (same_call-eq d c (and_both (same_call d c) (v.0 == u) last).0) own
      by true _ own last more = false_true last
      by false x other last more = more last

  -- a refusal and a Miss don't both come next
  not-both : (d e : ℕ) (s : PlainTask) (c c' : CallNo) (u u' : UserNo) (reason : Reason) → IsSome (after_item job d s (Refuse c u reason)) → IsSome (after_item job e s (Miss c' u')) → ⊥
  unfolding after_item
  not-both d e s c c' u u' reason = on s.stack
    where
      at-phase : (a b : Bool) (f : Frame) (below : List Frame) (ph : Phase) → IsSome (cond a (after_refusal s ph) None) → IsSome (cond b (after_miss s f below u'.0 ph) None) → ⊥
      at-phase true true f below Dispatch h k = false_true k
      at-phase true true f below (InBack v owed fresh) h k = false_true h
      at-phase true true f below _ h k = false_true h
      at-phase true false f below ph h k = false_true k
      at-phase false b f below ph h k = false_true h

      on : (fs : List Frame) → IsSome (on_call fs c (λ t below. after_refusal s t.phase)) → IsSome (on_call fs c' (λ t below. after_miss s t below u'.0 t.phase)) → ⊥
      on [] h k = false_true h
      on (f ∷ below) h k = at-phase (same_call f.call c) (same_call f.call c') f below f.phase h k

  -- where a refusal may come no Back is the task's latest item
  pub no-back : (c : CallNo) (u : UserNo) (reason : Reason) (past : List Item) → ((v : ℕ) → IsSome (plain job v past)) → IsSome (plain job c.task.0 (Refuse c u reason ∷ past))
      → (d : CallNo) (v : UserNo) → last_back c.task.0 d v.0 past ≡ true → ⊥
  unfolding plain
  no-back c u reason past runs refuses d v last =
      both (plain job c.task.0 past) (rw (==-refl c.task.0) at refuses) (rw (back-task c.task.0 d v.0 past last) at misses)
    where
      misses : IsSome (plain job c.task.0 (Miss d v ∷ past))
      misses = fresh-run d v past (subst (λ (n : ℕ). last_back n d v.0 past ≡ true) (sym (eqb-true d.task.0 c.task.0 (back-task c.task.0 d v.0 past last))) last) runs c.task.0

      both : (o : Option PlainTask) → IsSome (after_next job (done past) (Refuse c u reason) o) → IsSome (after_next job (done past) (Miss d v) o) → ⊥
      both None h k = false_true h
      both (Some s) h k = not-both _ _ s c d u v reason h k
