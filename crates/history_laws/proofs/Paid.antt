-- Each item of a task is paid for: the items so far, what the open calls may still make, and the bound of each call to come are
-- together no more than the bound of each call of the script.
use Rattle.std.proofs.Common.{cond, if◌then◌else◌, ◌≡◌, ℕ, zero, suc, ◌+◌, ◌*◌, ◌<◌, ◌≤◌, Bool, true, false, not, ◌&&◌, ◌==◌, List, [], ◌∷◌, length, Option, Some, None, is_some, refl, sym, ap, ◌∙◌, subst, arith, inl, inr, nat_lt, nat_le, eqb-true}
use Rattle.std.specs.Prelude.{Contains}
use Rattle.std.specs.List.{list_any, AllByRecursion as Each}
use Rattle.ft_base.specs.declared.number.CallNo.{CallNo}
use Rattle.ft_base.specs.declared.number.UserNo.{UserNo}
use Rattle.ft_base.specs.declared.number.FuncNo.{FuncNo}
use Rattle.std.proofs.lemmas.Bool.Decides.{eqb_tells}
use Rattle.std.proofs.lemmas.List.Folds.{list_any_at}
use Rattle.ft_base.specs.declared.context.Ctx.{Ctx}
use Rattle.ft_base.specs.declared.context.Ctx.TheVariants.{Irq}
use Rattle.ft_base.specs.declared.user.Act.{Act}
use Rattle.ft_base.specs.declared.user.Act.TheVariants.{CallIn, IrqIn}
use Rattle.ft_base.specs.declared.item.Item.{Item}
use Rattle.ft_base.specs.declared.item.Item.TheVariants.{Enter, Back, Refuse, Exit, Ret}
use Rattle.ft_base.specs.declared.task.TaskAct.{TaskAct}
use Rattle.ft_base.specs.declared.task.TaskAct.TheVariants.{Call, Ret as RetAct, Raise, Lower, After}
use Rattle.ft_base.specs.Items.{call_of}
use Rattle.ft_base.specs.Same.{same_call, rank}
use Rattle.ft_base.specs.Job.{Job}
use Rattle.ft_base.specs.Versions.{levels}
use Rattle.ft_base.specs.Desk.{Desk, desk, is_on, user_at, unseen, spec_at}
use Rattle.ft_base.proofs.Small.{false_true, ==-refl, Each-weaker}
use Rattle.ft_base.proofs.DeskLaws.{length-desk}
use Rattle.std.proofs.lemmas.Bool.{cases_lt}
use Rattle.std.proofs.Math.Nat.{mul-suc}
use Rattle.std.proofs.lemmas.List.{get_or_past}
use Rattle.ft_hist.specs.Past.{is_of, done, begun, entry_of, Visit, visit, all_visits, visits, exits}
use Rattle.ft_hist.specs.Plain.{plain, PlainTask, Frame, Phase, Dispatch, InBack, Running, Leaving, InExit, Owed, ahead, below_top, in_phase, on_top, owed_by, top_call}
use Rattle.ft_hist.specs.Rules.{IsLegalPast, MayVisit, PassesAll, MayExit}
use Rattle.ft_hist.proofs.Laws.{same_call-refl}
use Rattle.ft_hist.proofs.FrameCounts.{opens}
use Rattle.ft_hist.proofs.Numbers.{none-before}
use Rattle.ft_hist.proofs.RunLaws.{calls_on, sound}
use Rattle.ft_hist.proofs.Steps.{Step, step_begin, step_return, step_enter, step_act, step_back, step_back_end, step_refuse, step_miss, step_body, step_leave, step_act_leave, step_exit, step_exit_end, step_ret, acts_ahead, new_frame, past_act}
use Rattle.ft_hist.proofs.Since.{touches, touches-none, untouched-item}
use Rattle.history_laws.specs.Bound.{items_of, calls_in, calls_of}
use Rattle.history_laws.proofs.Credit.{sum_of, cost, bound, inner, seen_in, owing, phase_due, call_due, pred, level, due, sum-visit, exits-one}
use Rattle.ft_hist.proofs.OpenBacks.{standing, lower-apart, opens-below}
use Rattle.history_laws.proofs.Guarded.{owed-from, PhaseHolds, Guarded, has-level}

module _ (job : Job) (t : ℕ) where
  abbrev pub B : ℕ
  B = bound job (2 * levels job)

  pub record Paid (past : List Item) (s : PlainTask) : Type 0 where
    pub paid : items_of t past + (due job past s.stack + B * calls_in s.acts) ≤ B * calls_of job t
    pub guarded : Guarded job s.stack

  -- ## what an item leaves alone

  pub due-spared : (past : List Item) (item : Item) (fs : List Frame) → Each (λ f. touches f.call item ≡ false) fs → due job (item ∷ past) fs ≡ due job past fs
  due-spared past item [] h = refl
  due-spared past item (f ∷ below) h =
      let u = untouched-item job f.call past item h.0 in
      rw (u.visits, u.exits, due-spared past item below h.1) refl

  -- over an item of another actor
  pub paid-other : (past : List Item) (item : Item) (s : PlainTask) → is_of t item ≡ false → Each (λ f. touches f.call item ≡ false) s.stack → Paid past s → Paid (item ∷ past) s
  paid-other past item s other untouched h = record { paid = rw (other, due-spared past item s.stack untouched) h.paid; guarded = h.guarded }

  -- ## the calls below the top one

  each-frames : (P : CallNo → Type 0) (fs : List Frame) → Each P (calls_on fs) → Each (λ g. P g.call) fs
  each-frames P [] h = tt
  each-frames P (f ∷ fs) h = (h.0, each-frames P fs h.1)

  abbrev Apart : CallNo → List Frame → Type 0
  Apart call fs = Each (λ g. same_call call g.call ≡ false) fs

  apart-below : (past : List Item) (p : PlainTask) (call : CallNo) (below : List Frame) → plain job t past ≡ Some p → calls_on p.stack ≡ call ∷ calls_on below → Apart call below
  apart-below past p call below here top =
      let falls = rw top at (opens job t past p here).falls in
      each-frames (λ c. same_call call c ≡ false) below (lower-apart call (calls_on below) falls.0)

  pub own-task : (past : List Item) (p : PlainTask) → plain job t past ≡ Some p → Each (λ g. g.call.task.0 ≡ t) p.stack
  own-task past p here = each-frames (λ c. c.task.0 ≡ t) p.stack (sound job t past p here).task

  -- ## an item of the top call

  -- acts without items are no calls
  pub calls-ahead : (d : ℕ) (acts : List TaskAct) (cs : List Ctx) (gone : ℕ) → calls_in (ahead d acts cs gone).acts ≡ calls_in acts
  calls-ahead d [] cs gone = refl
  calls-ahead d (Call f ∷ rest) cs gone = refl
  calls-ahead d (RetAct ∷ rest) cs gone = refl
  calls-ahead d (Raise c ∷ rest) cs gone = calls-ahead d rest (c ∷ cs) (suc gone)
  calls-ahead d (Lower ∷ rest) cs gone = calls-ahead d rest (below_top cs) (suc gone)
  calls-ahead d (After n ∷ rest) cs gone = by (nat_le n d) (calls-ahead d rest cs (suc gone))
    where
      by : (b : Bool) → calls_in (ahead d rest cs (suc gone)).acts ≡ calls_in rest
          → calls_in (cond b (ahead d rest cs (suc gone)) (record { acts = After n ∷ rest; contexts = cs; gone = gone })).acts ≡ calls_in rest
      by true e = e
      by false e = refl

  -- the calls that are left when the next act is done
  pub calls-left : (d : ℕ) (p : PlainTask) (acts : List TaskAct) → (acts_ahead d p).acts ≡ acts → calls_in acts ≡ calls_in p.acts
  calls-left d p acts e = ap calls_in (sym e) ∙ calls-ahead d p.acts p.contexts p.gone

  -- the top call goes from one phase to another
  top-step : (past : List Item) (item : Item) (p s : PlainTask) (f : Frame) (below : List Frame) (from to : Phase) → plain job t past ≡ Some (on_top p (in_phase f from) below) → is_of t item ≡ true → call_of item ≡ Some f.call
      → s.stack ≡ in_phase f to ∷ below → calls_in s.acts ≡ calls_in p.acts
      → suc (call_due job (level job (f ∷ below)) to (visits job f.call (item ∷ past)) (exits f.call (item ∷ past))) ≤ call_due job (level job (f ∷ below)) from (visits job f.call past) (exits f.call past)
      → PhaseHolds job f.ctx below to → Paid past (on_top p (in_phase f from) below) → Paid (item ∷ past) s
  top-step past item p s f below from to here own is stack acts less holds h =
      let apart = Each-weaker (λ g. same_call f.call g.call ≡ false) (λ g. touches g.call item ≡ false) below (λ g e. touches-none item f.call g.call is e) (apart-below past _ f.call below here refl) in
      let was = h.paid in
      record {
        paid = rw (own, stack, acts, due-spared past item below apart) (omega (arith, was, less));
        guarded = rw stack (record { phase = holds; over = h.guarded.0.over }, h.guarded.1);
      }

  -- with the same visits and exits only the phase goes on
  phase-step : (past : List Item) (item : Item) (p s : PlainTask) (f : Frame) (below : List Frame) (from to : Phase) → plain job t past ≡ Some (on_top p (in_phase f from) below) → is_of t item ≡ true → call_of item ≡ Some f.call
      → s.stack ≡ in_phase f to ∷ below → calls_in s.acts ≡ calls_in p.acts
      → visits job f.call (item ∷ past) ≡ visits job f.call past → exits f.call (item ∷ past) ≡ exits f.call past
      → ((b : ℕ) → suc (phase_due job b to) ≤ phase_due job b from)
      → PhaseHolds job f.ctx below to → Paid past (on_top p (in_phase f from) below) → Paid (item ∷ past) s
  phase-step past item p s f below from to here own is stack acts vs es less holds h =
      top-step past item p s f below from to here own is stack acts (let l = less (inner job (level job (f ∷ below))) in rw (vs, es) (omega (arith, l))) holds h

  -- ## a callback

  owing-act : (x : Ctx) (act : Option Act) (b : ℕ) → owing job b (owed_by x act) ≤ (if is_some act then b else 0)
  owing-act x None b = omega arith
  owing-act x (Some (CallIn f)) b = omega arith
  owing-act x (Some (IrqIn f)) b = by (nat_lt (rank x) (rank Irq))
    where
      by : (c : Bool) → owing job b (cond c (Some (record { ctx = Irq; func = f.0 })) None) ≤ b
      by true = omega arith
      by false = omega arith

  user-within : (d : Desk) (u f : ℕ) → length d.users ≡ length job.users → is_on d u f ≡ true → u < length job.users
  user-within d u f size on = elim (cases_lt u (length job.users)) [
    | inl lt ↦ lt
    | inr ge ↦ (
        let none : user_at d u ≡ unseen 0 = get_or_past d.users u (unseen 0) (omega (arith, size, ge)) in
        false_true (rw none at on))
  ]

  visit-within : (past : List Item) (call : CallNo) (u : ℕ) → MayVisit job past call u → u < length job.users
  visit-within past call u m = elim m.on [
    | inl on ↦ user-within (desk job (done past)) u (entry_of call past).func (length-desk job (done past)) on
    | inr on ↦ user-within (desk job (begun past)) u (entry_of call past).func (length-desk job (begun past)) on
  ]

  -- one more visit of a call, in numbers
  back-less : (u : ℕ) (x : Ctx) (ms : List Visit) (es : List ℕ) (v : Visit) (n m : ℕ) (same : Bool) → v.user ≡ u → u < length job.users → seen_in job ms u ≡ false → n ≡ suc m → same ≡ true
      → suc (call_due job n (InBack u (owed_by x (spec_at job u).act) true) (cond same (v ∷ ms) ms) es) ≤ call_due job n Dispatch ms es
  back-less u x ms es v n m same is lt un lev equal =
      let visited = sum-visit job (cost job (suc m)) (seen_in job ms) u (length job.users) lt un in
      let act = owing-act x (spec_at job u).act (bound job m) in
      let two = exit-most v.back (list_any (λ e. e == v.place) es) in
      rw (equal, lev, is) (omega (arith, visited, act, two))
    where
      exit-most : (a b : Bool) → (cond (a && not b) 2 0) ≤ 2
      exit-most true true = omega arith
      exit-most true false = omega arith
      exit-most false b = omega arith

  refuse-less : (u : ℕ) (ms : List Visit) (es : List ℕ) (v : Visit) (n : ℕ) (same : Bool) → v.user ≡ u → v.back ≡ false → u < length job.users → seen_in job ms u ≡ false → same ≡ true
      → suc (call_due job n Dispatch (cond same (v ∷ ms) ms) es) ≤ call_due job n Dispatch ms es
  refuse-less u ms es v n same is unback lt un equal =
      let visited = sum-visit job (cost job n) (seen_in job ms) u (length job.users) lt un in
      let one = costs-one n in
      rw (equal, is, unback) (omega (arith, visited, one))
    where
      costs-one : (k : ℕ) → 1 ≤ cost job k u
      costs-one zero = omega arith
      costs-one (suc k) = omega arith

  -- a callback leaves a level free, and is paid by the visit
  back-paid : (past : List Item) (p : PlainTask) (f : Frame) (below : List Frame) (u : UserNo) → plain job t past ≡ Some (on_top p (in_phase f Dispatch) below) → (f.call.task.0 == t) ≡ true → MayVisit job past f.call u.0 → PassesAll job past f.call u.0
      → Paid past (on_top p (in_phase f Dispatch) below) → Paid (Back f.call u ∷ past) (on_top p (in_phase f (InBack u.0 (owed_by f.ctx (spec_at job u.0).act) true)) below)
  unfolding all_visits
  back-paid past p f below u here own may passes h =
      let run = subst (λ n. plain job n past ≡ Some (on_top p (in_phase f Dispatch) below)) (sym (eqb-true f.call.task.0 t own)) here in
      let free = rw (opens-below job f.call f.ctx (standing below) past _ run refl) at passes.free in
      let lev = has-level job f below h.guarded.0.over h.guarded.1 free in
      top-step past (Back f.call u) p _ f below Dispatch (InBack u.0 (owed_by f.ctx (spec_at job u.0).act) true) here own refl refl refl
      (back-less u.0 f.ctx (visits job f.call past) (exits f.call past) (visit job f.call u.0 past (all_visits job past) true) (level job (f ∷ below)) lev.0 (same_call f.call f.call) refl (visit-within past f.call u.0 may) may.once lev.1 (same_call-refl f.call))
      (free, owed-from f.ctx (spec_at job u.0).act) h

  -- an exit of a visit that had none
  exit-less : (n : ℕ) (u entry : ℕ) (ms : List Visit) (es : List ℕ) (same : Bool) → list_any (λ m. m.back && (entry == m.place)) ms ≡ true → list_any (λ x. x == entry) es ≡ false → same ≡ true
      → suc (call_due job n (InExit u) ms (cond same (entry ∷ es) es)) ≤ call_due job n Leaving ms es
  exit-less n u entry ms es same some none equal = let one = exits-one job ms entry es some none in rw equal (omega (arith, one))

  exit-paid : (past : List Item) (p : PlainTask) (f : Frame) (below : List Frame) (u : UserNo) (entry : ℕ) → plain job t past ≡ Some (on_top p (in_phase f Leaving) below) → (f.call.task.0 == t) ≡ true → MayExit job past f.call u.0 entry
      → Paid past (on_top p (in_phase f Leaving) below) → Paid (Exit f.call u entry ∷ past) (on_top p (in_phase f (InExit u.0)) below)
  unfolding all_visits
  exit-paid past p f below u entry here own may h =
      top-step past (Exit f.call u entry) p _ f below Leaving (InExit u.0) here own refl refl refl
      (exit-less (level job (f ∷ below)) u.0 entry (visits job f.call past) (exits f.call past) (same_call f.call f.call)
      (visit-at (visits job f.call past) may.of.0 entry may.of.1 may.of.4.0 may.of.3) (none-before-it (exits f.call past) entry may.order) (same_call-refl f.call))
      tt h
    where
      visit-at : (ms : List Visit) (m : Visit) (entry : ℕ) → Contains ms m → m.back ≡ true → m.place ≡ entry → list_any (λ x. x.back && (entry == x.place)) ms ≡ true
      visit-at ms m entry c back place = list_any_at (λ (x : Visit). x.back && (entry == x.place)) ms c.0 m c.1 (subst (λ (x : Visit). (x.back && (entry == x.place)) ≡ true) (sym c.2) (rw (back, place) (==-refl entry)))

      none-before-it : (es : List ℕ) (entry : ℕ) → Each (λ e. e < entry) es → list_any (λ x. x == entry) es ≡ false
      none-before-it [] entry h = refl
      none-before-it (e ∷ es) entry h = rw (lower e entry h.0, none-before-it es entry h.1) refl
        where
          lower : (a b : ℕ) → a < b → (a == b) ≡ false
          lower a b lt = elim (eqb_tells a b) [ inl x ↦ (let y = x.1 in absurd (omega (arith, lt, y))) | inr x ↦ x.0 ]

  -- a return takes the top call away
  ret-paid : (past : List Item) (p : PlainTask) (f : Frame) (below : List Frame) (to : Option CallNo) → plain job t past ≡ Some (on_top p (in_phase f Leaving) below) → (f.call.task.0 == t) ≡ true
      → Paid past (on_top p (in_phase f Leaving) below) → Paid (Ret f.call to ∷ past) (record p { stack = below })
  unfolding all_visits
  ret-paid past p f below to here own h =
      let was = h.paid in
      let spared = due-spared past (Ret f.call to) below (apart-below past _ f.call below here refl) in
      record { paid = rw (own, spared) (omega (arith, was)); guarded = h.guarded.1 }

  -- ## an Enter

  apart-new : (past : List Item) (p : PlainTask) (call : CallNo) → plain job t past ≡ Some p → call.n ≡ p.next → Apart call p.stack
  apart-new past p call here n =
      each-frames (λ c. same_call call c ≡ false) p.stack (lower-apart call (calls_on p.stack) (rw n (sound job t past p here).number))

  -- a new call costs its bound, of which the Enter is the first item
  new-due : (n : ℕ) (ms : List Visit) (es : List ℕ) → ms ≡ [] → es ≡ [] → suc (call_due job n Dispatch ms es) ≡ bound job n
  new-due zero ms es vs none = rw vs (costs-alike (length job.users))
    where
      costs-alike : (k : ℕ) → suc (3 + (sum_of job (cost job zero) (λ u. false) k + 0)) ≡ 4 + k
      costs-alike zero = omega arith
      costs-alike (suc k) = let more = costs-alike k in omega (arith, more)
  new-due (suc n) ms es vs none = rw vs (omega arith)

  enough-script : (n d c c' k b most : ℕ) → suc c ≡ c' → suc k ≡ b → n + (d + b * c') ≤ most → suc n + ((k + d) + b * c) ≤ most
  enough-script n d c c' k b most e k' h = let q : b * c' ≡ b * c + b = rw (sym e) (mul-suc b c) in omega (arith, h, q, k')

  script-paid : (past : List Item) (d : ℕ) (p : PlainTask) (call : CallNo) (x : Ctx) (f : FuncNo) (caller : Option CallNo) (rest : List TaskAct) → plain job t past ≡ Some p → (call.task.0 == t) ≡ true → call.n ≡ p.next
      → visits job call past ≡ [] → exits call past ≡ [] → (acts_ahead d p).acts ≡ Call f ∷ rest → Paid past p
      → Paid (Enter call x f caller ∷ past) (record (past_act d p rest) { next = suc p.next; stack = new_frame call x f.0 true ∷ p.stack })
  unfolding all_visits
  script-paid past d p call x f caller rest here own n vs es acts h =
      let spared = due-spared past (Enter call x f caller) p.stack (apart-new past p call here n) in
      let cost = new-due (2 * levels job) (visits job call past) (exits call past) vs es in
      let left = calls-left d p (Call f ∷ rest) acts in
      record {
        paid = rw (own, spared) (enough-script (items_of t past) (due job past p.stack) (calls_in rest) (calls_in p.acts) (call_due job (2 * levels job) Dispatch (visits job call past) (exits call past)) B (B * calls_of job t) left cost h.paid);
        guarded = (record { phase = tt; over = λ e. false_true (sym e) }, h.guarded);
      }

  enough-act : (n d bc most lev m u : ℕ) (o : Owed) (fresh : Bool) (ms : List Visit) (es : List ℕ) (new : List Visit) (none : List ℕ) → lev ≡ suc m → new ≡ [] → none ≡ []
      → n + ((call_due job lev (InBack u (Some o) fresh) ms es + d) + bc) ≤ most → suc n + ((call_due job (pred job lev) Dispatch new none + (call_due job lev (InBack u None false) ms es + d)) + bc) ≤ most
  enough-act n d bc most lev m u o fresh ms es new none at vs no_exits h =
      let cost = new-due m new none vs no_exits in
      let was : n + ((call_due job (suc m) (InBack u (Some o) fresh) ms es + d) + bc) ≤ most = subst (λ k. n + ((call_due job k (InBack u (Some o) fresh) ms es + d) + bc) ≤ most) at h in
      rw at (omega (arith, was, cost))

  act-paid : (past : List Item) (p : PlainTask) (g : Frame) (below : List Frame) (u : ℕ) (o : Owed) (fresh : Bool) (call : CallNo) (f : FuncNo) (caller : Option CallNo)
      → plain job t past ≡ Some (on_top p (in_phase g (InBack u (Some o) fresh)) below) → (call.task.0 == t) ≡ true → call.n ≡ p.next → visits job call past ≡ [] → exits call past ≡ []
      → Paid past (on_top p (in_phase g (InBack u (Some o) fresh)) below)
      → Paid (Enter call o.ctx f caller ∷ past) (record p { next = suc p.next; stack = new_frame call o.ctx f.0 false ∷ in_phase g (InBack u None false) ∷ below })
  unfolding all_visits
  act-paid past p g below u o fresh call f caller here own n vs es h =
      let item : Item = Enter call o.ctx f caller in
      let apart = apart-new past _ call here n in
      let spared = due-spared past item below apart.1 in
      let mine = untouched-item job g.call past item apart.0 in
      let holds = h.guarded.0.phase in
      let lev = has-level job g below h.guarded.0.over h.guarded.1 holds.0 in
      record {
        paid = rw (own, spared, mine.visits, mine.exits)
            (enough-act (items_of t past) (due job past below) (B * calls_in p.acts) (B * calls_of job t) (level job (g ∷ below)) lev.0 u o fresh (visits job g.call past) (exits g.call past) (visits job call past) (exits call past) lev.1 vs es h.paid);
        guarded = (
          record { phase = tt; over = λ e. (tt, holds.1) },
          (record { phase = (holds.0, tt); over = h.guarded.0.over }, h.guarded.1),
        );
      }

  -- a call that is entered is a new one
  new-call : (past : List Item) (p : PlainTask) (call : CallNo) (x : Ctx) (f : FuncNo) (caller : Option CallNo) → IsLegalPast job (Enter call x f caller ∷ past) → plain job t past ≡ Some p → (call.task.0 == t) ≡ true → call.n ≡ p.next
      → (visits job call past ≡ []) × (exits call past ≡ [])
  unfolding IsLegalPast
  new-call past p call x f caller l here own n =
      (none-before job call x f caller past (l.0.run call.task.0), ((sound job t past p here).fresh call (eqb-true call.task.0 t own) (omega (arith, n))).1)

  -- ## whatever the item is

  pub paid-own : (past : List Item) (item : Item) (p s : PlainTask) → is_of t item ≡ true → IsLegalPast job (item ∷ past) → plain job t past ≡ Some p → Step job (done past) p s item → Paid past p → Paid (item ∷ past) s
  unfolding IsLegalPast all_visits
  paid-own past item p s own l here step_begin h = false_true own
  paid-own past item p s own l here step_return h = false_true own
  paid-own past item p s own l here (step_enter {call = call} {x = x} {f = f} {caller = caller} {rest = rest} it quiet acts is) h =
      let new = new-call past p call x f caller l here own it.number in
      script-paid past (done past) p call x f caller rest here own it.number new.0 new.1 acts h
  paid-own past item p s own l here (step_act q g below {u = u} {fresh = fresh} {call = call} {x = x} {f = f} {caller = caller} it) h =
      let new = new-call past _ call x f caller l here own it.number in
      act-paid past q g below u (record { ctx = x; func = f.0 }) fresh call f caller here own it.number new.0 new.1 h
  paid-own past item p s own l here (step_back q f below {u = u}) h = back-paid past q f below u here own l.0.callbacks l.0.refusals h
  paid-own past item p s own l here (step_back_end q f below {u = u} {fresh = fresh}) h =
      phase-step past _ q _ f below (InBack u.0 None fresh) Dispatch here own refl refl refl refl refl (λ b. omega arith) tt h
  paid-own past item p s own l here (step_refuse q f below {u = u} {reason = reason}) h =
      top-step past (Refuse f.call u reason) q _ f below Dispatch Dispatch here own refl refl refl
      (refuse-less u.0 (visits job f.call past) (exits f.call past) (visit job f.call u.0 past (all_visits job past) false) (level job (f ∷ below)) (same_call f.call f.call) refl refl (visit-within past f.call u.0 l.0.callbacks) l.0.callbacks.once (same_call-refl f.call))
      tt h
  paid-own past item p s own l here (step_miss q f below {u = u} {owed = owed}) h =
      phase-step past _ q _ f below (InBack u.0 owed true) (InBack u.0 owed false) here own refl refl refl refl refl (λ b. omega arith) h.guarded.0.phase h
  paid-own past item p s own l here (step_body q f below) h = phase-step past _ q _ f below Dispatch Running here own refl refl refl refl refl (λ b. omega arith) tt h
  paid-own past item p s own l here (step_leave q f below {rest = rest} acts) h =
      phase-step past _ q _ (record f { scripted = true }) below Running Leaving here own refl refl (calls-left (done past) q (RetAct ∷ rest) acts) refl refl (λ b. omega arith) tt h
  paid-own past item p s own l here (step_act_leave q f below) h =
      phase-step past _ q _ (record f { scripted = false }) below Running Leaving here own refl refl refl refl refl (λ b. omega arith) tt h
  paid-own past item p s own l here (step_exit q f below {u = u} {entry = entry}) h = exit-paid past q f below u entry here own l.0.exits.0 h
  paid-own past item p s own l here (step_exit_end q f below {u = u}) h = phase-step past _ q _ f below (InExit u.0) Leaving here own refl refl refl refl refl (λ b. omega arith) tt h
  paid-own past item p s own l here (step_ret q f below) h = ret-paid past q f below (top_call below) here own h
