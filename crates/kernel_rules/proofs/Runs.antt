-- A task's plain run without misses: it goes on as ever, since whether a Miss may come directly after a Back is all that a Miss changes.
use Rattle.std.proofs.Common.{cond, ◌≡◌, ℕ, suc, Bool, true, false, ◌&&◌, ◌==◌, List, [], ◌∷◌, map, Option, Some, None, IsSome, refl, sym, ap, ap₂, ◌∙◌}
use Rattle.ft_base.specs.declared.number.CallNo.{CallNo}
use Rattle.ft_base.specs.declared.number.UserNo.{UserNo}
use Rattle.ft_base.specs.declared.context.Ctx.{Ctx}
use Rattle.ft_base.specs.declared.item.Reason.{Reason}
use Rattle.ft_base.specs.declared.item.Ran.TheVariants.{List as ByList}
use Rattle.ft_base.specs.declared.item.Item.{Item}
use Rattle.ft_base.specs.declared.item.Item.TheVariants.{Begin, Return, Enter, Back, BackEnd, Refuse, Miss, Body, Leave, Exit, ExitEnd, Ret}
use Rattle.ft_base.specs.declared.task.TaskAct.{TaskAct}
use Rattle.ft_base.specs.declared.task.TaskAct.TheVariants.{Call, Ret as RetAct}
use Rattle.ft_base.specs.Same.{same_call, same_ctx, context}
use Rattle.ft_base.specs.Job.{Job}
use Rattle.ft_base.specs.Desk.{spec_at}
use Rattle.ft_base.proofs.Small.{false_true}
use Rattle.ft_hist.specs.Past.{is_of, done}
use Rattle.ft_hist.specs.Plain.{plain, after_item, after_next, PlainTask, Frame, Phase, Owed, owed_by, Dispatch, InBack, Running, Leaving, InExit, in_phase, top_call, same_top, ahead, on_call, after_back, after_back_end, after_miss, after_body, after_leave, after_scripted_leave, after_exit, after_exit_end, after_ret, after_refusal, after_enter, after_scripted_enter, after_owed_enter}
use Rattle.ft_hist.specs.Rules.{acts_passed}
use Rattle.kernel_rules.proofs.Thinned.{bare, thinned, done-thin}

-- ## a task without its misses

-- a phase in which no Miss may come
abbrev pub settled : Phase → Phase
settled (InBack u owed fresh) = InBack u owed false
settled phase = phase

-- the call in it
abbrev pub settled_frame : Frame → Frame
settled_frame f = record f { phase = settled f.phase }

-- the task in it
abbrev pub settled_task : PlainTask → PlainTask
settled_task s = record s { stack = map settled_frame s.stack }

-- the run, if it came this far
abbrev pub settled_run : Option PlainTask → Option PlainTask
settled_run None = None
settled_run (Some s) = Some (settled_task s)

-- no Miss
abbrev pub is_miss : Item → Bool
is_miss (Miss call u) = true
is_miss _ = false

-- twice is once
phase-again : (p : Phase) → settled (settled p) ≡ settled p
phase-again (InBack u owed fresh) = refl
phase-again Dispatch = refl
phase-again Running = refl
phase-again Leaving = refl
phase-again (InExit u) = refl

-- so it is of a stack
frames-again : (fs : List Frame) → map settled_frame (map settled_frame fs) ≡ map settled_frame fs
frames-again [] = refl
frames-again (f ∷ fs) = ap₂ (λ (p : Phase) (rest : List Frame). record f { phase = p } ∷ rest) (phase-again f.phase) (frames-again fs)

-- the top call stays
top-same : (fs : List Frame) → top_call (map settled_frame fs) ≡ top_call fs
top-same [] = refl
top-same (f ∷ fs) = refl

-- ## one item

module _ (s : PlainTask) where
  -- the task with another stack
  abbrev with : List Frame → PlainTask
  with fs = record s { stack = fs }

  -- what the run comes to is the same on a stack without misses
  abbrev Same : Option PlainTask → Option PlainTask → Type 0
  Same o o' = settled_run o ≡ settled_run o'

  -- under a test
  either : (b : Bool) (o o' : Option PlainTask) → Same o o' → Same (cond b o None) (cond b o' None)
  either true o o' h = h
  either false o o' h = refl

  module _ (f : Frame) (below : List Frame) where
    -- the calls below
    abbrev low : List Frame
    low = map settled_frame below

    -- the top call in a phase
    abbrev on : Phase → List Frame → PlainTask
    on ph fs = with (in_phase f ph ∷ fs)

    -- a call goes to another phase
    to : (ph : Phase) → Same (Some (on ph low)) (Some (on ph below))
    to ph = ap (λ (fs : List Frame). Some (on (settled ph) fs)) (frames-again below)

    -- by a Back
    of-back : (job : Job) (u : ℕ) (ph : Phase) → Same (after_back job (on (settled ph) low) (in_phase f (settled ph)) low u (settled ph)) (after_back job (on ph below) (in_phase f ph) below u ph)
    of-back job u Dispatch = to (InBack u (owed_by f.ctx (spec_at job u).act) true)
    of-back job u _ = refl

    -- by the end of an entry callback
    of-back-end : (u : ℕ) (ph : Phase) → Same (after_back_end (on (settled ph) low) (in_phase f (settled ph)) low u (settled ph)) (after_back_end (on ph below) (in_phase f ph) below u ph)
    of-back-end u (InBack v None fresh) = either (u == v) _ _ (to Dispatch)
    of-back-end u _ = refl

    -- by a refusal
    of-refusal : (ph : Phase) → Same (after_refusal (on (settled ph) low) (settled ph)) (after_refusal (on ph below) ph)
    of-refusal Dispatch = to Dispatch
    of-refusal _ = refl

    -- by a Body
    of-body : (ph : Phase) → Same (after_body (on (settled ph) low) (in_phase f (settled ph)) low (settled ph)) (after_body (on ph below) (in_phase f ph) below ph)
    of-body Dispatch = to Running
    of-body _ = refl

    -- by a scripted return
    of-script-leave : (ph : Phase) (acts : List TaskAct) (cs : List Ctx) (gone : ℕ)
        → Same (after_scripted_leave (on (settled ph) low) (in_phase f (settled ph)) low acts cs gone) (after_scripted_leave (on ph below) (in_phase f ph) below acts cs gone)
    of-script-leave ph (RetAct ∷ rest) cs gone =
        ap (λ (fs : List Frame). Some (record { next = s.next; acts = rest; gone = suc gone; contexts = cs; stack = in_phase f Leaving ∷ fs })) (frames-again below)
    of-script-leave ph _ cs gone = refl

    -- by a Leave
    of-leave : (d : ℕ) (ph : Phase) → Same (after_leave d (on (settled ph) low) (in_phase f (settled ph)) low (settled ph)) (after_leave d (on ph below) (in_phase f ph) below ph)
    of-leave d Running = by f.scripted
      where
        by : (b : Bool) → Same (cond b (after_scripted_leave (on Running low) (in_phase f Running) low (ahead d s.acts s.contexts s.gone).acts (ahead d s.acts s.contexts s.gone).contexts (ahead d s.acts s.contexts s.gone).gone) (Some (on Leaving low)))
            (cond b (after_scripted_leave (on Running below) (in_phase f Running) below (ahead d s.acts s.contexts s.gone).acts (ahead d s.acts s.contexts s.gone).contexts (ahead d s.acts s.contexts s.gone).gone) (Some (on Leaving below)))
        by true = of-script-leave Running (ahead d s.acts s.contexts s.gone).acts _ _
        by false = to Leaving
    of-leave d _ = refl

    -- by an Exit
    of-exit : (u : ℕ) (ph : Phase) → Same (after_exit (on (settled ph) low) (in_phase f (settled ph)) low u (settled ph)) (after_exit (on ph below) (in_phase f ph) below u ph)
    of-exit u Leaving = to (InExit u)
    of-exit u _ = refl

    -- by the end of an exit callback
    of-exit-end : (u : ℕ) (ph : Phase) → Same (after_exit_end (on (settled ph) low) (in_phase f (settled ph)) low u (settled ph)) (after_exit_end (on ph below) (in_phase f ph) below u ph)
    of-exit-end u (InExit v) = either (u == v) _ _ (to Leaving)
    of-exit-end u _ = refl

    -- by a Ret
    of-ret : (c : Option CallNo) (ph : Phase) → Same (after_ret (on (settled ph) low) low c (settled ph)) (after_ret (on ph below) below c ph)
    of-ret c Leaving = rw (top-same below) (either (same_top c (top_call below)) _ _ (ap (λ (fs : List Frame). Some (with fs)) (frames-again below)))
    of-ret c _ = refl

  module _ (call : CallNo) (x : Ctx) (g : ℕ) where
    -- the call that is entered
    abbrev new : Bool → Frame
    new scripted = record { call = call; ctx = x; func = g; scripted = scripted; phase = Dispatch }

    -- by the script
    of-script : (fs : List Frame) (acts : List TaskAct) (cs : List Ctx) (gone : ℕ) → Same (after_scripted_enter (with (map settled_frame fs)) acts cs gone call x g) (after_scripted_enter (with fs) acts cs gone call x g)
    of-script fs (Call h ∷ rest) cs gone =
        either ((h.0 == g) && same_ctx x (context cs)) _ _
        (ap (λ (below : List Frame). Some (record { next = suc s.next; acts = rest; gone = suc gone; contexts = cs; stack = new true ∷ below })) (frames-again fs))
    of-script fs _ cs gone = refl

    -- by a user's act
    of-owed : (f : Frame) (below : List Frame) (ph : Phase) (u : ℕ) (owed : Option Owed)
        → Same (after_owed_enter (with (in_phase f (settled ph) ∷ map settled_frame below)) (in_phase f (settled ph)) (map settled_frame below) u owed call x g)
        (after_owed_enter (with (in_phase f ph ∷ below)) (in_phase f ph) below u owed call x g)
    of-owed f below ph u None = refl
    of-owed f below ph u (Some o) =
        either ((o.func == g) && same_ctx o.ctx x) _ _
        (ap (λ (fs : List Frame). Some (record s { next = suc s.next; stack = new false ∷ in_phase f (InBack u None false) ∷ fs })) (frames-again below))

    -- by an Enter
    of-enter : (d : ℕ) (fs : List Frame) → Same (after_enter d (with (map settled_frame fs)) (map settled_frame fs) call x g) (after_enter d (with fs) fs call x g)
    of-enter d [] = refl
    of-enter d (f ∷ below) = by f.phase
      where
        by : (ph : Phase) → Same (after_enter d (with (in_phase f (settled ph) ∷ map settled_frame below)) (in_phase f (settled ph) ∷ map settled_frame below) call x g)
            (after_enter d (with (in_phase f ph ∷ below)) (in_phase f ph ∷ below) call x g)
        by Running = either f.scripted _ _ (of-script (in_phase f Running ∷ below) (ahead d s.acts s.contexts s.gone).acts _ _)
        by (InBack u owed fresh) = of-owed f below (InBack u owed fresh) u owed
        by _ = refl

  -- by each item but a Miss
  pub item-over : (job : Job) (d : ℕ) (fs : List Frame) (item : Item) → is_miss item ≡ false → Same (after_item job d (with (map settled_frame fs)) item) (after_item job d (with fs) item)
  unfolding after_item
  item-over job d fs (Enter call x f caller) other = rw (top-same fs) (either ((call.n == s.next) && same_top caller (top_call fs)) _ _ (of-enter call x f.0 d fs))
  item-over job d fs (Miss call u) other = absurd cc
  item-over job d fs (Begin k) other = ap (λ (rest : List Frame). Some (with rest)) (frames-again fs)
  item-over job d fs (Return k a) other = ap (λ (rest : List Frame). Some (with rest)) (frames-again fs)
  item-over job d [] _ other = refl
  item-over job d (f ∷ below) (Back call u) other = either (same_call f.call call) _ _ (of-back f below job u.0 f.phase)
  item-over job d (f ∷ below) (BackEnd call u) other = either (same_call f.call call) _ _ (of-back-end f below u.0 f.phase)
  item-over job d (f ∷ below) (Refuse call u reason) other = either (same_call f.call call) _ _ (of-refusal f below f.phase)
  item-over job d (f ∷ below) (Body call g ran) other = either (same_call f.call call) _ _ (of-body f below f.phase)
  item-over job d (f ∷ below) (Leave call) other = either (same_call f.call call) _ _ (of-leave f below d f.phase)
  item-over job d (f ∷ below) (Exit call u entry) other = either (same_call f.call call) _ _ (of-exit f below u.0 f.phase)
  item-over job d (f ∷ below) (ExitEnd call u) other = either (same_call f.call call) _ _ (of-exit-end f below u.0 f.phase)
  item-over job d (f ∷ below) (Ret call c) other = either (same_call f.call call) _ _ (of-ret f below c f.phase)

-- ## along a run

module _ (job : Job) where
  -- two runs that are the same but for misses
  abbrev pub SameRun : ℕ → List Item → List Item → Type 0
  SameRun t past past' = settled_run (plain job t past) ≡ settled_run (plain job t past')

  -- a run that is the same came as far
  pub still-some : (o o' : Option PlainTask) → settled_run o ≡ settled_run o' → IsSome o → IsSome o'
  still-some o None same h = absurd (none o same h)
    where
      none : (x : Option PlainTask) → settled_run x ≡ None → IsSome x → ⊥
      none None e k = false_true k
      none (Some s) e k = absurd cc
  still-some o (Some s) same h = refl

  -- so does a run
  next-same : (d : ℕ) (item : Item) (o : Option PlainTask) → is_miss item ≡ false → settled_run (after_next job d item (settled_run o)) ≡ settled_run (after_next job d item o)
  next-same d item None other = refl
  next-same d item (Some s) other = item-over s job d s.stack item other

  -- a run goes on from what is the same
  pub one-more : (t : ℕ) (item : Item) (past past' : List Item) → done past ≡ done past' → is_miss item ≡ false → SameRun t past past' → SameRun t (item ∷ past) (item ∷ past')
  unfolding plain
  one-more t item past past' dones other same = by (is_of t item)
    where
      by : (b : Bool) → settled_run (cond b (after_next job (done past) item (plain job t past)) (plain job t past)) ≡ settled_run (cond b (after_next job (done past') item (plain job t past')) (plain job t past'))
      by true =
          ap (λ (n : ℕ). settled_run (after_next job n item (plain job t past))) dones
          ∙ sym (next-same (done past') item (plain job t past) other)
          ∙ ap (λ (o : Option PlainTask). settled_run (after_next job (done past') item o)) same
          ∙ next-same (done past') item (plain job t past') other
      by false = same

  -- a run that came this far came as far before
  pub some-before : (t : ℕ) (item : Item) (past : List Item) → IsSome (plain job t (item ∷ past)) → IsSome (plain job t past)
  unfolding plain
  some-before t item past = by (is_of t item) (plain job t past)
    where
      by : (b : Bool) (o : Option PlainTask) → IsSome (cond b (after_next job (done past) item o) o) → IsSome o
      by true None h = h
      by true (Some s) h = refl
      by false o h = h

  -- a refusal leaves a task where it is, and a Miss but for the next Miss
  refusal-stays : (d : ℕ) (s : PlainTask) (call : CallNo) (u : UserNo) (reason : Reason) → IsSome (after_item job d s (Refuse call u reason)) → settled_run (Some s) ≡ settled_run (after_item job d s (Refuse call u reason))
  unfolding after_item
  refusal-stays d s call u reason = on s.stack
    where
      at : (b : Bool) (ph : Phase) → IsSome (cond b (after_refusal s ph) None) → settled_run (Some s) ≡ settled_run (cond b (after_refusal s ph) None)
      at true Dispatch h = refl
      at true _ h = false_true h
      at false ph h = false_true h

      on : (fs : List Frame) → IsSome (on_call fs call (λ t below. after_refusal s t.phase)) → settled_run (Some s) ≡ settled_run (on_call fs call (λ t below. after_refusal s t.phase))
      on [] h = false_true h
      on (f ∷ below) h = at (same_call f.call call) f.phase h

  -- and so does a Miss
  miss-stays : (d : ℕ) (s : PlainTask) (call : CallNo) (u : UserNo) → IsSome (after_item job d s (Miss call u)) → settled_run (Some s) ≡ settled_run (after_item job d s (Miss call u))
  unfolding after_item
  miss-stays d s call u = over s.stack
    where
      on : Frame → List Frame → Phase → PlainTask
      on f below ph = record s { stack = in_phase f ph ∷ below }

      same : (c : Bool) (f : Frame) (below : List Frame) (v : ℕ) (owed : Option Owed)
          → IsSome (cond c (Some (record s { stack = in_phase f (InBack v owed false) ∷ below })) None)
          → settled_run (Some (record s { stack = in_phase f (InBack v owed true) ∷ below })) ≡ settled_run (cond c (Some (record s { stack = in_phase f (InBack v owed false) ∷ below })) None)
      same true f below v owed h = refl
      same false f below v owed h = false_true h

      at : (b : Bool) (f : Frame) (below : List Frame) (ph : Phase) → IsSome (cond b (after_miss (record s { stack = in_phase f ph ∷ below }) (in_phase f ph) below u.0 ph) None)
          → settled_run (Some (record s { stack = in_phase f ph ∷ below })) ≡ settled_run (cond b (after_miss (record s { stack = in_phase f ph ∷ below }) (in_phase f ph) below u.0 ph) None)
      at true f below (InBack v owed true) h = same (u.0 == v) f below v owed h
      at true f below _ h = false_true h
      at false f below ph h = false_true h

      over : (fs : List Frame) → IsSome (on_call fs call (λ t below. after_miss (record s { stack = fs }) t below u.0 t.phase))
          → settled_run (Some (record s { stack = fs })) ≡ settled_run (on_call fs call (λ t below. after_miss (record s { stack = fs }) t below u.0 t.phase))
      over [] h = false_true h
      over (f ∷ below) h = at (same_call f.call call) f below f.phase h

  -- the run stays where an item leaves it
  stays : (t : ℕ) (item : Item) (past : List Item) → ((d : ℕ) (s : PlainTask) → IsSome (after_item job d s item) → settled_run (Some s) ≡ settled_run (after_item job d s item))
      → IsSome (plain job t (item ∷ past)) → SameRun t past (item ∷ past)
  unfolding plain
  stays t item past keeps = by (is_of t item) (plain job t past)
    where
      by : (b : Bool) (o : Option PlainTask) → IsSome (cond b (after_next job (done past) item o) o) → settled_run o ≡ settled_run (cond b (after_next job (done past) item o) o)
      by true None h = refl
      by true (Some s) h = keeps (done past) s h
      by false o h = refl

  -- it reads neither the places of exits nor what bodies ran
  pub bare-run : (t : ℕ) (item : Item) (past : List Item) → plain job t (bare item ∷ past) ≡ plain job t (item ∷ past)
  unfolding plain after_item
  bare-run t (Body call g ran) past = by (call.task.0 == t) (plain job t past)
    where
      by : (b : Bool) (o : Option PlainTask) → cond b (after_next job (done past) (Body call g ByList) o) o ≡ cond b (after_next job (done past) (Body call g ran) o) o
      by true None = refl
      by true (Some s) = refl
      by false o = refl
  bare-run t (Exit call u entry) past = by (call.task.0 == t) (plain job t past)
    where
      by : (b : Bool) (o : Option PlainTask) → cond b (after_next job (done past) (Exit call u 0) o) o ≡ cond b (after_next job (done past) (Exit call u entry) o) o
      by true None = refl
      by true (Some s) = refl
      by false o = refl
  bare-run t _ past = refl

  -- an item that stays
  kept : (t : ℕ) (item : Item) (past : List Item) → is_miss item ≡ false → SameRun t (thinned past) past → SameRun t (bare item ∷ thinned past) (item ∷ past)
  kept t item past other same = ap settled_run (bare-run t item (thinned past)) ∙ one-more t item (thinned past) past (done-thin past) other same

  -- a run is the same without refusals, and but for misses
  pub run-thin : (t : ℕ) (past : List Item) → IsSome (plain job t past) → SameRun t (thinned past) past
  run-thin t [] h = refl
  run-thin t (Refuse call u reason ∷ past) h =
      run-thin t past (some-before t (Refuse call u reason) past h) ∙ stays t (Refuse call u reason) past (λ d s. refusal-stays d s call u reason) h
  run-thin t (Miss call u ∷ past) h =
      run-thin t past (some-before t (Miss call u) past h) ∙ stays t (Miss call u) past (λ d s. miss-stays d s call u) h
  run-thin t (item ∷ past) h = kept t item past refl (run-thin t past (some-before t item past h))

  -- two pasts that are the same but for refusals and misses
  pub run-alike : (t : ℕ) (past past' : List Item) → thinned past ≡ thinned past' → IsSome (plain job t past) → IsSome (plain job t past') → SameRun t past past'
  run-alike t past past' e h h' = sym (run-thin t past h) ∙ ap (λ (p : List Item). settled_run (plain job t p)) e ∙ run-thin t past' h'

  -- how many acts it has done
  pub passed-same : (s : PlainTask) → acts_passed (settled_task s) ≡ acts_passed s
  passed-same s = of s.stack
    where
      of : (fs : List Frame) → acts_passed (record s { stack = map settled_frame fs }) ≡ acts_passed (record s { stack = fs })
      of [] = refl
      of (f ∷ below) = by f.phase
        where
          by : (ph : Phase) → acts_passed (record s { stack = in_phase f (settled ph) ∷ map settled_frame below }) ≡ acts_passed (record s { stack = in_phase f ph ∷ below })
          by Running = refl
          by _ = refl
