-- The frames that a past holds are those of the task's shadow stack: it has the calls of the plain stack that hold a frame.
use Rattle.std.proofs.Common.{cond, ◌≡◌, ℕ, suc, ◌<◌, Bool, true, false, not, ◌&&◌, ◌||◌, ◌==◌, List, [], ◌∷◌, length, reverse, Option, Some, refl, sym, ap, ◌∙◌, subst, arith, eqb-true, nat_lt}
use Rattle.std.specs.List.{filter, list_any, AllByRecursion as Each}
use Rattle.ft_base.specs.declared.number.CallNo.{CallNo}
use Rattle.ft_base.specs.declared.number.FuncNo.{FuncNo}
use Rattle.ft_base.specs.declared.number.UserNo.{UserNo}
use Rattle.ft_base.specs.declared.context.Ctx.{Ctx}
use Rattle.ft_base.specs.declared.item.Item.{Item}
use Rattle.ft_base.specs.declared.item.Ran.{Ran}
use Rattle.ft_base.specs.declared.item.Reason.{Reason}
use Rattle.ft_base.specs.declared.item.Item.TheVariants.{Enter, Back, Refuse, Body, Ret}
use Rattle.ft_base.specs.Same.{same_call}
use Rattle.ft_base.specs.Job.{Job}
use Rattle.ft_base.specs.Desk.{spec_at}
use Rattle.ft_base.specs.Kinds.{has_depth, has_exit, cancels}
use Rattle.ft_base.proofs.Small.{false_true, or-false_both, Each-weaker, each-all}
use Rattle.ft_hist.specs.Past.{is_of, done, is_open, is_dispatched, all_visits, visits, Visit, visit, has_frame_user, held, gets_frame}
use Rattle.ft_hist.specs.Plain.{plain, PlainTask, Frame, Phase, Dispatch, InBack, top_call}
use Rattle.ft_hist.specs.Rules.{IsLegal, IsLegalPast}
use Rattle.ft_hist.specs.Known.{holds}
use Rattle.ft_hist.specs.ShadowStack.{Framed, without, is_kept, gets, with_user, after, shadow_stack}
use Rattle.ft_hist.proofs.Laws.{same_call-refl}
use Rattle.ft_hist.proofs.Lists.{none_visited}
use Rattle.ft_hist.proofs.RunLaws.{calls_on, sound}
use Rattle.ft_hist.proofs.Steps.{Step, step_begin, step_return, step_enter, step_act, step_back, step_back_end, step_refuse, step_miss, step_body, step_ret, run-holds}
use Rattle.ft_hist.proofs.Since.{Untouched, untouched-item, touches, holds-untouched, holds_by, holds-by, any-filter}
use Rattle.ft_hist.proofs.FrameCounts.{Opens, opens, held-on, not_same, not_same', top-open}
use Rattle.ft_hist.proofs.Carries.{carries_item}
use Rattle.ft_hist.proofs.Numbers.{some-run}

-- ## a call before its Body

-- the Body of a call in this phase is behind it
abbrev is_over : Phase → Bool
is_over Dispatch = false
is_over (InBack u owed fresh) = false
is_over _ = true

-- each call on a stack whose phase is before the Body has none
abbrev Undone : List Item → List Frame → Type 0
Undone past fs = Each (λ f. is_over f.phase ≡ false → is_dispatched f.call past ≡ false) fs

-- ## the frames of a stack

-- the calls of these that hold a frame, each with whether it keeps it
abbrev frames_by : (CallNo → Bool) → (CallNo → Bool) → List CallNo → List Framed
frames_by h k [] = []
frames_by h k (c ∷ cs) = cond (h c) (record { call = c; kept = k c } ∷ frames_by h k cs) (frames_by h k cs)

abbrev of_call : CallNo → Bool → Framed
of_call c k = record { call = c; kept = k }

-- a callback of the call that got a frame keeps it
abbrev keeps : Job → List Item → CallNo → Bool
keeps job past c = has_frame_user c (λ m. not (cancels (spec_at job m.user).kind)) (all_visits job past)

abbrev frames_on : Job → List Item → List CallNo → List Framed
frames_on job past cs = frames_by (λ c. holds job past c) (λ c. keeps job past c) cs

frames-ext : (h k h' k' : CallNo → Bool) (cs : List CallNo) → Each (λ c. (h' c ≡ h c) × (k' c ≡ k c)) cs → frames_by h' k' cs ≡ frames_by h k cs
frames-ext h k h' k' [] e = refl
frames-ext h k h' k' (c ∷ cs) e =
    ap (λ b. cond b (of_call c (k' c) ∷ frames_by h' k' cs) (frames_by h' k' cs)) e.0.0
    ∙ ap (λ b. cond (h c) (of_call c b ∷ frames_by h' k' cs) (frames_by h' k' cs)) e.0.1
    ∙ ap (λ fs. cond (h c) (of_call c (k c) ∷ fs) fs) (frames-ext h k h' k' cs e.1)

-- the frames of other calls
without-apart : (call : CallNo) (h k : CallNo → Bool) (cs : List CallNo) → Each (λ c. same_call c call ≡ false) cs → without call (frames_by h k cs) ≡ frames_by h k cs
without-apart call h k [] e = refl
without-apart call h k (c ∷ cs) e = by (h c) (without-apart call h k cs e.1)
  where
    by : (b : Bool) → without call (frames_by h k cs) ≡ frames_by h k cs → without call (cond b (of_call c (k c) ∷ frames_by h k cs) (frames_by h k cs)) ≡ cond b (of_call c (k c) ∷ frames_by h k cs) (frames_by h k cs)
    by true more = rw e.0 (ap (λ fs. of_call c (k c) ∷ fs) more)
    by false more = more

length-without : (call : CallNo) (h k : CallNo → Bool) (cs : List CallNo) → length (without call (frames_by h k cs)) ≡ length (filter (λ c. not (same_call c call) && h c) cs)
length-without call h k [] = refl
length-without call h k (c ∷ cs) =
    let more = length-without call h k cs in
    let fs = frames_by h k cs in
    let gs = filter (λ d. not (same_call d call) && h d) cs in
    elim (h c) as (λ a. length (without call (cond a (of_call c (k c) ∷ fs) fs)) ≡ length (cond (not (same_call c call) && a) (c ∷ gs) gs)) [
      | true ↦ elim (same_call c call) as (λ b. length (cond (not b) (of_call c (k c) ∷ without call fs) (without call fs)) ≡ length (cond (not b && true) (c ∷ gs) gs)) [ true ↦ more | false ↦ ap suc more ]
      | false ↦ elim (same_call c call) as (λ b. length (without call fs) ≡ length (cond (not b && false) (c ∷ gs) gs)) [ true ↦ more | false ↦ more ]
    ]

kept-apart : (call : CallNo) (h k : CallNo → Bool) (cs : List CallNo) → Each (λ c. same_call c call ≡ false) cs → is_kept call (frames_by h k cs) ≡ false
kept-apart call h k [] e = refl
kept-apart call h k (c ∷ cs) e = by (h c) (kept-apart call h k cs e.1)
  where
    by : (b : Bool) → is_kept call (frames_by h k cs) ≡ false → is_kept call (cond b (of_call c (k c) ∷ frames_by h k cs) (frames_by h k cs)) ≡ false
    by true more = rw (e.0, more) refl
    by false more = more

-- the top call of a stack
module _ (call : CallNo) (h k : CallNo → Bool) (below : List CallNo) (others : Each (λ c. same_call c call ≡ false) below) where
  kept-top : is_kept call (frames_by h k (call ∷ below)) ≡ (h call && k call)
  kept-top = by (h call)
    where
      or-none : (b : Bool) → (b || false) ≡ b
      or-none true = refl
      or-none false = refl

      by : (b : Bool) → is_kept call (cond b (of_call call (k call) ∷ frames_by h k below) (frames_by h k below)) ≡ (b && k call)
      by true = rw (same_call-refl call, kept-apart call h k below others) (or-none (k call))
      by false = kept-apart call h k below others

  without-top : without call (frames_by h k (call ∷ below)) ≡ frames_by h k below
  without-top = by (h call)
    where
      by : (b : Bool) → without call (cond b (of_call call (k call) ∷ frames_by h k below) (frames_by h k below)) ≡ frames_by h k below
      by true = rw (same_call-refl call) (without-apart call h k below others)
      by false = without-apart call h k below others

-- ## what items leave of them

module _ (job : Job) (past : List Item) where
  keeps-by : (c : CallNo) → keeps job past c ≡ list_any (λ m. m.framed && not (cancels (spec_at job m.user).kind)) (visits job c past)
  keeps-by c = any-filter (λ m. same_call m.call c) (λ m. m.framed) (λ m. not (cancels (spec_at job m.user).kind)) (all_visits job past)

  -- who keeps a frame got one
  kept-any : (call : CallNo) (ms : List Visit) → has_frame_user call (λ m. true) ms ≡ false → has_frame_user call (λ m. not (cancels (spec_at job m.user).kind)) ms ≡ false
  kept-any call [] e = refl
  kept-any call (m ∷ ms) e =
      let both = or-false_both ((same_call m.call call && m.framed) && true) (has_frame_user call (λ x. true) ms) e in
      rw (one (same_call m.call call && m.framed) (not (cancels (spec_at job m.user).kind)) both.0, kept-any call ms both.1) refl
    where
      one : (a b : Bool) → (a && true) ≡ false → (a && b) ≡ false
      one false b q = refl
      one true b q = false_true (sym q)

keeps-untouched : (job : Job) (c : CallNo) (past past' : List Item) → Untouched job c past past' → keeps job past' c ≡ keeps job past c
keeps-untouched job c past past' u = keeps-by job past' c ∙ ap (λ ms. list_any (λ m. m.framed && not (cancels (spec_at job m.user).kind)) ms) u.visits ∙ sym (keeps-by job past c)

-- calls that the items don't touch
same-on : (job : Job) (past past' : List Item) (cs : List CallNo) → Each (λ c. Untouched job c past past') cs → frames_on job past' cs ≡ frames_on job past cs
same-on job past past' cs u =
    frames-ext (λ c. holds job past c) (λ c. keeps job past c) (λ c. holds job past' c) (λ c. keeps job past' c) cs
    (Each-weaker (λ c. Untouched job c past past') (λ c. (holds job past' c ≡ holds job past c) × (keeps job past' c ≡ keeps job past c)) cs (λ c x. (holds-untouched job c past past' x, keeps-untouched job c past past' x)) u)

module _ (job : Job) (t : ℕ) (past : List Item) (p : PlainTask) (here : plain job t past ≡ Some p) (frames : shadow_stack job t past ≡ frames_on job past (calls_on p.stack)) where
  o : Opens t past p.next (calls_on p.stack)
  o = opens job t past p here

  -- the call on the top
  module _ (call : CallNo) (own : (call.task.0 == t) ≡ true) (below : List CallNo) (top : calls_on p.stack ≡ call ∷ below) where
    lower : Each (λ c. c.n < call.n) below
    lower = (rw top at o.falls).0

    others : Each (λ c. same_call c call ≡ false) below
    others = Each-weaker (λ c. c.n < call.n) (λ c. same_call c call ≡ false) below (λ c lt. not_same' call c lt) lower

    others' : Each (λ c. same_call call c ≡ false) below
    others' = Each-weaker (λ c. c.n < call.n) (λ c. same_call call c ≡ false) below (λ c lt. not_same call c lt) lower

    is-open : is_open call past ≡ true
    is-open = top-open job t past p call below here top

    abbrev any : Bool
    any = has_frame_user call (λ m. true) (all_visits job past)

    abbrev kp : Bool
    kp = keeps job past call

    abbrev rest : List Framed
    rest = frames_on job past below

    frames-top : shadow_stack job t past ≡ frames_on job past (call ∷ below)
    frames-top = frames ∙ ap (λ cs. frames_on job past cs) top

    below-same : (item : Item) → Each (λ c. touches c item ≡ false) below → frames_on job (item ∷ past) below ≡ rest
    below-same item e = same-on job past (item ∷ past) below (Each-weaker (λ c. touches c item ≡ false) (λ c. Untouched job c past (item ∷ past)) below (λ c x. untouched-item job c past item x) e)

    module _ (dispatching : is_dispatched call past ≡ false) where
      holds-any : holds job past call ≡ any
      holds-any = rw (is-open, dispatching) refl

      kept-now : is_kept call (shadow_stack job t past) ≡ (any && kp)
      kept-now = ap (λ fs. is_kept call fs) frames-top ∙ kept-top call (λ c. holds job past c) (λ c. keeps job past c) below others ∙ ap (λ b. b && kp) holds-any

      without-now : without call (shadow_stack job t past) ≡ rest
      without-now = ap (λ fs. without call fs) frames-top ∙ without-top call (λ c. holds job past c) (λ c. keeps job past c) below others

      frames-now : shadow_stack job t past ≡ cond any (of_call call kp ∷ rest) rest
      frames-now = frames-top ∙ ap (λ b. cond b (of_call call kp ∷ rest) rest) holds-any

      -- a Back
      module _ (u : UserNo) where
        abbrev g : Bool
        g = gets_frame job call u.0 past (all_visits job past)

        abbrev nc : Bool
        nc = not (cancels (spec_at job u.0).kind)

        gets-now : gets job call u.0 (shadow_stack job t past) ≡ g
        gets-now = ap (λ n. has_depth (spec_at job u.0).kind || (has_exit (spec_at job u.0).kind && nat_lt n job.frames))
            (ap (λ fs. length (without call fs)) frames ∙ length-without call (λ c. holds job past c) (λ c. keeps job past c) (calls_on p.stack)
            ∙ sym (held-on job past p call (subst (λ n. plain job n past ≡ Some p) (sym (eqb-true call.task.0 t own)) here)))

        holds-back : holds job (Back call u ∷ past) call ≡ (g || any)
        unfolding all_visits
        holds-back = rw (is-open, dispatching, same_call-refl call) (and-yes g any)
          where
            and-yes : (a b : Bool) → ((a && true) || b) ≡ (a || b)
            and-yes true b = refl
            and-yes false b = refl

        keeps-back : keeps job (Back call u ∷ past) call ≡ ((g && nc) || kp)
        unfolding all_visits
        keeps-back = rw (same_call-refl call) refl

        made : (a b c d : Bool) → (b ≡ false → c ≡ false)
            → cond a (of_call call ((b && c) || d) ∷ rest) (cond b (of_call call c ∷ rest) rest) ≡ cond (a || b) (of_call call ((a && d) || c) ∷ rest) rest
        made false b c d f = refl
        made true true true true f = refl
        made true true true false f = refl
        made true true false true f = refl
        made true true false false f = refl
        made true false true d f = false_true (sym (f refl))
        made true false false true f = refl
        made true false false false f = refl

        after-back : with_user job call u.0 (shadow_stack job t past) ≡ frames_on job (Back call u ∷ past) (call ∷ below)
        after-back =
            let fs = shadow_stack job t past in
            let shape : Bool → Bool → List Framed → List Framed → List Framed = λ a b w f. cond a (of_call call (b || nc) ∷ w) f in
            let below' = frames_on job (Back call u ∷ past) below in
            ap (λ x. shape x (is_kept call fs) (without call fs) fs) gets-now
            ∙ ap (λ x. shape g x (without call fs) fs) kept-now
            ∙ ap (λ w. shape g (any && kp) w fs) without-now
            ∙ ap (λ f. shape g (any && kp) rest f) frames-now
            ∙ made g any kp nc (kept-any job past call (all_visits job past))
            ∙ sym (ap (λ x. cond x (of_call call (keeps job (Back call u ∷ past) call) ∷ below') below') holds-back
            ∙ ap (λ x. cond (g || any) (of_call call x ∷ below') below') keeps-back
            ∙ ap (λ r. cond (g || any) (of_call call ((g && nc) || kp) ∷ r) r) (below-same (Back call u) others'))

      -- a Body
      module _ (h : FuncNo) (ran : Ran) where
        gone : (b c : Bool) → (b ≡ false → c ≡ false) → cond (b && c) (cond b (of_call call c ∷ rest) rest) rest ≡ cond c (of_call call c ∷ rest) rest
        gone true c f = refl
        gone false true f = false_true (sym (f refl))
        gone false false f = refl

        holds-body : holds job (Body call h ran ∷ past) call ≡ kp
        unfolding all_visits
        holds-body = rw (is-open, same_call-refl call) refl

        after-body : cond (is_kept call (shadow_stack job t past)) (shadow_stack job t past) (without call (shadow_stack job t past)) ≡ frames_on job (Body call h ran ∷ past) (call ∷ below)
        unfolding all_visits
        after-body =
            let fs = shadow_stack job t past in
            let below' = frames_on job (Body call h ran ∷ past) below in
            ap (λ x. cond x fs (without call fs)) kept-now
            ∙ ap (λ w. cond (any && kp) fs w) without-now
            ∙ ap (λ f. cond (any && kp) f rest) frames-now
            ∙ gone any kp (kept-any job past call (all_visits job past))
            ∙ sym (ap (λ x. cond x (of_call call kp ∷ below') below') holds-body ∙ ap (λ r. cond kp (of_call call kp ∷ r) r) (below-same (Body call h ran) others'))

    -- a Ret
    after-ret : (to : Option CallNo) → without call (shadow_stack job t past) ≡ frames_on job (Ret call to ∷ past) below
    after-ret to =
        ap (λ fs. without call fs) frames-top ∙ without-top call (λ c. holds job past c) (λ c. keeps job past c) below others
        ∙ sym (below-same (Ret call to) others')

  -- a refusal gets no frame
  after-refuse : (call : CallNo) (u : UserNo) (reason : Reason) (cs : List CallNo) → frames_on job (Refuse call u reason ∷ past) cs ≡ frames_on job past cs
  unfolding all_visits
  after-refuse call u reason cs =
      let m = visit job call u.0 past (all_visits job past) false in
      frames-ext (λ c. holds job past c) (λ c. keeps job past c) (λ c. holds job (Refuse call u reason ∷ past) c) (λ c. keeps job (Refuse call u reason ∷ past) c) cs
      (each-all (λ c. (holds job (Refuse call u reason ∷ past) c ≡ holds job past c) × (keeps job (Refuse call u reason ∷ past) c ≡ keeps job past c)) cs (λ c. (
        holds-by job (Refuse call u reason ∷ past) c
            ∙ elim (same_call call c) as (λ b. holds_by job (is_open c past) (is_dispatched c past) (cond b (m ∷ visits job c past) (visits job c past)) ≡ holds_by job (is_open c past) (is_dispatched c past) (visits job c past)) [ true ↦ refl | false ↦ refl ]
            ∙ sym (holds-by job past c),
        keeps-by job (Refuse call u reason ∷ past) c
            ∙ elim (same_call call c) as (λ b. list_any (λ v. v.framed && not (cancels (spec_at job v.user).kind)) (cond b (m ∷ visits job c past) (visits job c past)) ≡ list_any (λ v. v.framed && not (cancels (spec_at job v.user).kind)) (visits job c past)) [ true ↦ refl | false ↦ refl ]
            ∙ sym (keeps-by job past c),
      )))

  -- a call that is entered is before its Body, and has no frame
  after-enter : (call : CallNo) (x : Ctx) (f : FuncNo) (caller : Option CallNo) → (call.task.0 == t) ≡ true → call.n ≡ p.next
      → (is_dispatched call past ≡ false) × (shadow_stack job t past ≡ frames_on job (Enter call x f caller ∷ past) (call ∷ calls_on p.stack))
  unfolding all_visits
  after-enter call x f caller own number =
      let item = Enter call x f caller in
      let cs = calls_on p.stack in
      let so = sound job t past p here in
      let task = eqb-true call.task.0 t own in
      let none = none_visited call (all_visits job past)
      (Each-weaker (λ m. m.call.task.0 ≡ t → m.call.n < p.next) (λ m. m.call.task.0 ≡ call.task.0 → m.call.n < call.n) (all_visits job past) (λ m lt e. let l = lt (e ∙ task) in omega (arith, l, number)) so.visits) in
      let apart' : Each (λ c. Untouched job c past (item ∷ past)) cs = Each-weaker (λ c. c.n < p.next) (λ c. Untouched job c past (item ∷ past)) cs (λ c lt. untouched-item job c past item (not_same call c (rw number lt))) o.number in
      let no : holds job (item ∷ past) call ≡ false = holds-by job (item ∷ past) call ∙ ap (λ ms. holds_by job (is_open call (item ∷ past)) (is_dispatched call past) ms) none ∙ nobody (is_open call (item ∷ past)) (is_dispatched call past) in (
        (so.fresh call task (omega (arith, number))).0,
        frames ∙ sym (ap (λ b. cond b (of_call call (keeps job (item ∷ past) call) ∷ frames_on job (item ∷ past) cs) (frames_on job (item ∷ past) cs)) no ∙ same-on job past (item ∷ past) cs apart'),
      )
    where
      nobody : (a b : Bool) → (a && cond b false false) ≡ false
      nobody true true = refl
      nobody true false = refl
      nobody false b = refl

-- ## along the plain run

undone-body : (past : List Item) (call : CallNo) (h : FuncNo) (ran : Ran) (below : List Frame) → Each (λ c. same_call call c ≡ false) (calls_on below) → Undone past below → Undone (Body call h ran ∷ past) below
undone-body past call h ran [] a u = tt
undone-body past call h ran (f ∷ below) a u = ((λ x. rw a.0 (u.0 x)), undone-body past call h ran below a.1 u.1)

undone-other : (job : Job) (t : ℕ) (item : Item) (past : List Item) → is_of t item ≡ false → (fs : List Frame) → Each (λ c. c.task.0 ≡ t) (calls_on fs) → Undone past fs → Undone (item ∷ past) fs
undone-other job t item past other [] own u = tt
undone-other job t item past other (f ∷ fs) own u =
    ((λ x. ((carries_item job t item past other).calls f.call own.0).dispatched ∙ u.0 x), undone-other job t item past other fs own.1 u.1)

-- one more item of the task
shown-own : (job : Job) (t : ℕ) (past : List Item) (p s : PlainTask) (item : Item) → is_of t item ≡ true → plain job t past ≡ Some p → Step job (done past) p s item
    → Undone past p.stack → shadow_stack job t past ≡ frames_on job past (calls_on p.stack)
    → Undone (item ∷ past) s.stack × (after job item (shadow_stack job t past) ≡ frames_on job (item ∷ past) (calls_on s.stack))
unfolding all_visits
shown-own job t past p s item own here step_begin u frames = false_true own
shown-own job t past p s item own here step_return u frames = false_true own
shown-own job t past p s item own here (step_enter {call = call} {x = x} {f = f} {caller = caller} it quiet acts is) u frames =
    let n = after-enter job t past _ here frames call x f caller own it.number in
    ((λ z. n.0, u), n.1)
shown-own job t past p s item own here (step_act q g below {call = call} {x = x} {f = f} {caller = caller} it) u frames =
    let n = after-enter job t past _ here frames call x f caller own it.number in
    ((λ z. n.0, (λ z. u.0 refl, u.1)), n.1)
shown-own job t past p s item own here (step_back q f below {u = v}) u frames =
    ((λ z. u.0 refl, u.1), after-back job t past _ here frames f.call own (calls_on below) refl (u.0 refl) v)
shown-own job t past p s item own here (step_back_end q f below) u frames = ((λ z. u.0 refl, u.1), frames)
shown-own job t past p s item own here (step_refuse q f below {u = v} {reason = reason}) u frames =
    (u, frames ∙ sym (after-refuse job t past _ here frames f.call v reason (f.call ∷ calls_on below)))
shown-own job t past p s item own here (step_miss q f below) u frames = ((λ z. u.0 refl, u.1), frames)
shown-own job t past p s item own here (step_body q f below {g = g} {ran = ran}) u frames =
    let others = others' job t past _ here frames f.call own (calls_on below) refl in
    ((λ z. false_true (sym z), undone-body past f.call g ran below others u.1), after-body job t past _ here frames f.call own (calls_on below) refl (u.0 refl) g ran)
shown-own job t past p s item own here (step_ret q f below) u frames = (u.1, after-ret job t past _ here frames f.call own (calls_on below) refl (top_call below))
shown-own job t past p s item own here _ u frames = ((λ z. false_true (sym z), u.1), frames)

pub shown : (job : Job) (t : ℕ) (past : List Item) (s : PlainTask) → plain job t past ≡ Some s → Undone past s.stack × (shadow_stack job t past ≡ frames_on job past (calls_on s.stack))
unfolding shadow_stack
shown job t = run-holds job t (λ past s. Undone past s.stack × (shadow_stack job t past ≡ frames_on job past (calls_on s.stack))) (tt, refl)
    (λ item past p s own here k h. let n = shown-own job t past p s item own here k h.0 h.1 in (n.0, rw own n.1))
    (λ item past s other here h.
    let so = sound job t past s here in
    let same = same-on job past (item ∷ past) (calls_on s.stack) (Each-weaker (λ c. c.task.0 ≡ t) (λ c. Untouched job c past (item ∷ past)) (calls_on s.stack) (λ c own. (carries_item job t item past other).calls c own) so.task) in
    (undone-other job t item past other s.stack so.task h.0, rw other (h.1 ∙ sym same)))

-- so the frames that other calls of a task hold are the others on its shadow stack
pub held-past : (job : Job) (past : List Item) (call : CallNo) → IsLegalPast job past → held job call past ≡ length (without call (shadow_stack job call.task.0 past))
held-past job past call legal =
    let r = some-run job call.task.0 past legal in
    held-on job past r.0 call r.1
    ∙ sym (ap (λ fs. length (without call fs)) (shown job call.task.0 past r.0 r.1).1 ∙ length-without call (λ c. holds job past c) (λ c. keeps job past c) (calls_on r.0.stack))

pub held-shown : (job : Job) (items : List Item) (call : CallNo) → IsLegal job items → held job call (reverse items) ≡ length (without call (shadow_stack job call.task.0 (reverse items)))
unfolding IsLegal
held-shown job items call legal = held-past job (reverse items) call legal
