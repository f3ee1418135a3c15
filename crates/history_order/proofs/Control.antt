-- An item of a task and a neighbouring Begin or Return that change places.
use Rattle.std.proofs.Common.{cond, ◌≡◌, ℕ, suc, ◌<◌, ◌≤◌, Bool, true, false, ◌&&◌, ◌==◌, List, [], ◌∷◌, ◌++◌, length, reverse, set, Option, Some, None, IfSome, IsSome, slice_get, refl, sym, ap, ◌∙◌, subst, arith, inl, inr, nat_le, leb-true, le-leb}
use Rattle.std.proofs.lemmas.Bool.Decides.{eqb_tells}
use Rattle.std.proofs.lemmas.Bool.{cases_lt}
use Rattle.std.proofs.lemmas.List.{get_or_past, length-set}
use Rattle.std.specs.List.{list_any, AllByRecursion as Each}
use Rattle.ft_base.specs.declared.number.CallNo.{CallNo}
use Rattle.ft_base.specs.declared.context.Ctx.{Ctx}
use Rattle.ft_base.specs.declared.item.Answer.{Answer}
use Rattle.ft_base.specs.declared.item.Item.{Item}
use Rattle.ft_base.specs.declared.item.Item.TheVariants.{Begin, Return, Enter, Back, BackEnd, Refuse, Miss, Body, Leave, Exit, ExitEnd, Ret}
use Rattle.ft_base.specs.declared.task.TaskAct.{TaskAct}
use Rattle.ft_base.specs.declared.task.TaskAct.TheVariants.{Call, Ret as RetAct, Raise, Lower, After}
use Rattle.ft_base.specs.Items.{call_of}
use Rattle.ft_base.specs.Same.{same_call}
use Rattle.ft_base.specs.Job.{Job, Command, Register, Unregister, Filter, Notrace, Enable, Disable, command_at, commands, funcs, takes_off, waits_before}
use Rattle.ft_base.specs.Desk.{Desk, UserState, unseen, after, answer_at, answer_on, changed, desk, edited, is_accepted, is_live, is_matching, is_on, is_sited, registered_as, unregistered_as, user_at, with_user}
use Rattle.ft_base.proofs.DeskLaws.{desk-suc, user_at-same, user_at-other}
use Rattle.ft_base.proofs.Order.{user-part, not-registered}
use Rattle.ft_base.proofs.Small.{false_true, and_both, and-false, or-false_both, Each-weaker}
use Rattle.ft_hist.specs.Finished.{AreWaitsMet}
use Rattle.ft_hist.specs.Past.{is_of, done, begun, Callback, callbacks, ended, entry_of, is_called}
use Rattle.ft_hist.specs.Plain.{plain, PlainTask, Frame, Phase, Running, Ahead, ahead, below_top, after_item, after_next, after_enter, after_enter_ahead, after_leave, after_leave_ahead, after_scripted_enter, after_scripted_leave, in_phase, on_call, same_top, top_call}
use Rattle.ft_hist.specs.Rules.{AtReturnedOrBegun, HasWaited, IsAnswered, IsLegal, IsLegalPast, IsStill, MayFollow, acts_passed}
use Rattle.ft_hist.proofs.Finishing.{acts_done-more, passed-is, waits-back}
use Rattle.ft_hist.proofs.ItemParts.{may_follow, of_begin, of_return}
use Rattle.ft_hist.proofs.Laws.{plain-other}
use Rattle.ft_hist.proofs.Numbers.{some-run}
use Rattle.history_order.specs.Exchange.{StaysLegal, exchanged, reads_returns, waits_for_begin}
use Rattle.history_order.proofs.Alike.{IsRead, IsSeen, Suits}
use Rattle.history_order.proofs.Exchanging.{MayExchange, stays-legal}
use Rattle.history_order.proofs.Moves.{counts-of, run-two, none-runs, first-legal, x-follows, y-follows, control-first, control-last}

module _ (job : Job) (past : List Item) where
  -- ## a Begin

  -- a Begin may come as well after a past with the same counts
  begin-with : (past' : List Item) (k : ℕ) → done past' ≡ done past → begun past' ≡ begun past → IsLegalPast job past' → HasWaited job past' → MayFollow job past (Begin k) → MayFollow job past' (Begin k)
  begin-with past' k d b l waited h =
      let m = h.commands.0 in
      may_follow job past' (Begin k) (none-runs job past' (Begin k) (λ v. refl) l) (of_begin (
        record {
          number = m.number ∙ ap suc (sym b);
          follows = b ∙ m.follows ∙ sym d;
          stands = subst (λ (n : ℕ). n < length (commands job)) (sym b) m.stands;
        },
        waited,
      ))

  -- waits that are met stay so over an item of a task
  waited-more : (item : Item) → begun (item ∷ past) ≡ begun past → IsLegalPast job past → IsLegalPast job (item ∷ past) → HasWaited job past → HasWaited job (item ∷ past)
  waited-more item b l l' h =
      subst (λ (n : ℕ). Each (λ (w : ℕ × ℕ). IfSome (plain job w.0 (item ∷ past)) (λ s. w.1 ≤ acts_passed s)) (waits_before n job.ctls)) (sym b)
      (Each-weaker (λ (w : ℕ × ℕ). IfSome (plain job w.0 past) (λ s. w.1 ≤ acts_passed s)) (λ (w : ℕ × ℕ). IfSome (plain job w.0 (item ∷ past)) (λ s. w.1 ≤ acts_passed s)) (waits_before (begun past) job.ctls)
      (λ w x. one w.0 w.1 x) h)
    where
      one : (t n : ℕ) → IfSome (plain job t past) (λ s. n ≤ acts_passed s) → IfSome (plain job t (item ∷ past)) (λ s. n ≤ acts_passed s)
      one t n x =
          let r = some-run job t past l in
          let r' = some-run job t (item ∷ past) l' in
          let le : n ≤ acts_passed r.0 = subst (λ (o : Option PlainTask). IfSome o (λ s. n ≤ acts_passed s)) r.1 x in
          let now = passed-is job t past r.0 r.1 in
          let then' = passed-is job t (item ∷ past) r'.0 r'.1 in
          let more = acts_done-more job t item past in
          let le' : n ≤ acts_passed r'.0 = omega (arith, le, now, then', more) in
          subst (λ (o : Option PlainTask). IfSome o (λ s. n ≤ acts_passed s)) (sym r'.1) le'

  -- an item after a Begin finds what it found before it
  module _ (k : ℕ) (follows : begun past ≡ done past) where
    seen-begin : IsSeen job past (Begin k ∷ past)
    seen-begin = (inl refl, inl (sym follows))

    read-begin : (c : CallNo) (u : ℕ) → AtReturnedOrBegun past (λ j. is_on (desk job j) u (entry_of c past).func ≡ true) → IsRead job c u past (Begin k ∷ past)
    read-begin c u on = let now : is_on (desk job (done past)) u (entry_of c past).func ≡ true = by on in (rw now refl, rw now refl)
      where
        by : AtReturnedOrBegun past (λ j. is_on (desk job j) u (entry_of c past).func ≡ true) → is_on (desk job (done past)) u (entry_of c past).func ≡ true
        by (inl x) = x
        by (inr x) = subst (λ (n : ℕ). is_on (desk job n) u (entry_of c past).func ≡ true) follows x

    suits-begin : (x : Item) → MayFollow job past x → Suits job x past (Begin k ∷ past)
    suits-begin (Enter c x f caller) h = omega arith
    suits-begin (Leave c) h = omega arith
    suits-begin (Back c u) h = (seen-begin, read-begin c u.0 h.callbacks.on)
    suits-begin (Refuse c u reason) h = (seen-begin, read-begin c u.0 h.callbacks.on)
    suits-begin (Exit c u entry) h = seen-begin
    suits-begin (Body c g ran) h = omega arith
    suits-begin (Ret c to) h = omega arith
    suits-begin _ h = tt

  -- one that may come before it doesn't read it
  suits-without : (k : ℕ) (y : Item) → waits_for_begin y ≡ false → Suits job y (Begin k ∷ past) past
  suits-without k (Enter c x f caller) e = omega arith
  suits-without k (Leave c) e = omega arith
  suits-without k (Back c u) e = false_true (sym e)
  suits-without k (Refuse c u reason) e = false_true (sym e)
  suits-without k (Exit c u entry) e = false_true (sym e)
  suits-without k (Body c g ran) e = false_true (sym e)
  suits-without k (Ret c to) e = false_true (sym e)
  suits-without k _ e = tt

legal-items : (job : Job) (before : List Item) → IsLegalPast job (reverse before) → IsLegal job before
unfolding IsLegal
legal-items job before l = l

pub begin-earlier : (job : Job) (before after : List Item) (x : Item) (call : CallNo) (k : ℕ) → call_of x ≡ Some call → AreWaitsMet job (reverse before)
    → StaysLegal job (before ++ x ∷ Begin k ∷ after) (before ++ Begin k ∷ x ∷ exchanged before after)
begin-earlier job before after x call k of met = stays-legal job before after x (Begin k) may
  where
    may : IsLegalPast job (Begin k ∷ x ∷ reverse before) → MayExchange job (reverse before) x (Begin k)
    may l =
        let past = reverse before in
        let xs = counts-of x call of past in
        let old = first-legal job past x (Begin k) l in
        let h = y-follows job past x (Begin k) l in
        let follows : begun past ≡ done past = sym xs.1 ∙ h.commands.0.follows ∙ xs.0 in
        let first = begin-with job (x ∷ past) past k (sym xs.0) (sym xs.1) old (waits-back job before (legal-items job before old) met) h in
        let later = counts-of x call of (Begin k ∷ past) in
        control-first job past x (Begin k) l call of (λ v. refl) first (suits-begin job past k follows x (x-follows job past x (Begin k) l))
        (run-two job past call.task.0 x (Begin k ∷ past) refl (plain-other job past (Begin k) call.task.0 refl)) (later.0 ∙ sym xs.0) (later.1 ∙ ap suc (sym xs.1))

pub begin-later : (job : Job) (before after : List Item) (y : Item) (call : CallNo) (k : ℕ) → call_of y ≡ Some call → waits_for_begin y ≡ false
    → StaysLegal job (before ++ Begin k ∷ y ∷ after) (before ++ y ∷ Begin k ∷ exchanged before after)
begin-later job before after y call k of quiet = stays-legal job before after (Begin k) y may
  where
    may : IsLegalPast job (y ∷ Begin k ∷ reverse before) → MayExchange job (reverse before) (Begin k) y
    may l =
        let past = reverse before in
        let ys = counts-of y call of past in
        let old = first-legal job past (Begin k) y l in
        let h = x-follows job past (Begin k) y l in
        let later = counts-of y call of (Begin k ∷ past) in
        control-last job past (Begin k) y l call of (λ v. refl) (suits-without job past k y quiet) (run-two job (Begin k ∷ past) call.task.0 y past refl (sym (plain-other job past (Begin k) call.task.0 refl)))
        (λ m legal. begin-with job past (y ∷ past) k ys.0 ys.1 legal (waited-more job past y ys.1 old legal h.commands.1) h)
        (ys.0 ∙ sym later.0) (ap suc ys.1 ∙ sym later.1)

-- ## what one command leaves

-- a part of a user's state that a change of another leaves, and that the change itself leaves
part-kept : {X : Type 0} (part : UserState → X) (d : Desk) (v : ℕ) (s : UserState) → part s ≡ part (user_at d v) → (u : ℕ) → part (user_at (with_user d v s) u) ≡ part (user_at d u)
part-kept part d v s same u = elim (cases_lt v (length d.users)) [
  | inl lt ↦ user-part part d v s lt same u
  | inr ge ↦ elim (eqb_tells u v) [
    | inl e ↦ (let far : length d.users ≤ u = (let is = e.1 in omega (arith, ge, is)) in ap part (get_or_past (set d.users v s) u (unseen 0) (let n = length-set d.users v s in omega (arith, far, n)) ∙ sym (get_or_past d.users u (unseen 0) far)))
    | inr e ↦ ap part (user_at-other d v u s e.1)
  ]
]

abbrev registration : UserState → ℕ × ℕ
registration s = (s.reg, s.since)

module _ (job : Job) where
  -- who is registered before a command keeps its registration over it
  kept-by : (d : Desk) (k : ℕ) (c : Command) (u : ℕ) → is_accepted (answer_on job d c) ≡ true → (user_at d u).registered ≡ true → registration (user_at (changed job d k c) u) ≡ registration (user_at d u)
  kept-by d k (Register v) u ok there = elim (eqb_tells u v) [
    | inl e ↦ false_true (sym (not-registered job d v ok) ∙ subst (λ (n : ℕ). (user_at d n).registered ≡ true) e.1 there)
    | inr e ↦ ap (λ (s : UserState). registration s) (user_at-other d v u (registered_as job d k (user_at d v)) e.1)
  ]
  kept-by d k (Unregister v) u ok there = part-kept (λ (s : UserState). registration s) d v (unregistered_as (user_at d v)) refl u
  kept-by d k (Filter v e) u ok there = part-kept (λ (s : UserState). registration s) d v (record (user_at d v) { filter = edited (funcs job) (user_at d v).filter e }) refl u
  kept-by d k (Notrace v e) u ok there = part-kept (λ (s : UserState). registration s) d v (record (user_at d v) { notrace = edited (funcs job) (user_at d v).notrace e }) refl u
  kept-by d k (Enable v) u ok there = part-kept (λ (s : UserState). registration s) d v (record (user_at d v) { enabled = true }) refl u
  kept-by d k (Disable v) u ok there = part-kept (λ (s : UserState). registration s) d v (record (user_at d v) { enabled = false }) refl u
  kept-by d k _ u ok there = refl

  kept-over : (k u : ℕ) → (user_at (desk job k) u).registered ≡ true → registration (user_at (desk job (suc k)) u) ≡ registration (user_at (desk job k) u)
  kept-over k u there = ap (λ (d : Desk). registration (user_at d u)) (desk-suc job k) ∙ by (slice_get (commands job) k)
    where
      by : (o : Option Command) → registration (user_at (after job (desk job k) (suc k) o) u) ≡ registration (user_at (desk job k) u)
      by None = refl
      by (Some c) = accepted (is_accepted (answer_on job (desk job k) c)) refl
        where
          accepted : (b : Bool) → is_accepted (answer_on job (desk job k) c) ≡ b → registration (user_at (cond b (changed job (desk job k) (suc k) c) (desk job k)) u) ≡ registration (user_at (desk job k) u)
          accepted true e = kept-by (desk job k) (suc k) c u e there
          accepted false e = refl

  -- whom an accepted command takes off is neither registered and enabled after it
  abbrev is_there : UserState → Bool
  is_there s = s.registered && s.enabled

  off-by : (d : Desk) (v : ℕ) (s : UserState) → is_there s ≡ false → is_there (user_at (with_user d v s) v) ≡ false
  off-by d v s off = elim (cases_lt v (length d.users)) [
    | inl lt ↦ ap (λ (x : UserState). is_there x) (user_at-same d v s lt) ∙ off
    | inr ge ↦ ap (λ (x : UserState). is_there x) (get_or_past (set d.users v s) v (unseen 0) (let n = length-set d.users v s in omega (arith, ge, n)))
  ]

  off-changed : (d : Desk) (k : ℕ) (c : Command) (u : ℕ) → takes_off c ≡ Some u → is_there (user_at (changed job d k c) u) ≡ false
  off-changed d k (Unregister v) u e = let is : v ≡ u = cc in subst (λ (n : ℕ). is_there (user_at (changed job d k (Unregister v)) n) ≡ false) is (off-by d v (unregistered_as (user_at d v)) refl)
  off-changed d k (Disable v) u e = let is : v ≡ u = cc in subst (λ (n : ℕ). is_there (user_at (changed job d k (Disable v)) n) ≡ false) is
      (off-by d v (record (user_at d v) { enabled = false }) (and-false (user_at d v).registered))
  off-changed d k _ u e = absurd cc

-- ## a Return

ended-none : (c : CallNo) (w u : ℕ) (bs : List Callback) → list_any (λ b. b.user == u) bs ≡ false → list_any (λ b. b.user == u) (ended c w bs) ≡ false
ended-none c w u [] e = e
ended-none c w u (b ∷ bs) e = let both = or-false_both (b.user == u) (list_any (λ x. x.user == u) bs) e in by (same_call b.call c && (b.user == w)) both.0 both.1 (ended-none c w u bs both.1)
  where
    by : (t : Bool) → (b.user == u) ≡ false → list_any (λ x. x.user == u) bs ≡ false → list_any (λ x. x.user == u) (ended c w bs) ≡ false → list_any (λ x. x.user == u) (cond t bs (b ∷ ended c w bs)) ≡ false
    by true q r more = r
    by false q r more = rw (q, more) refl

module _ (job : Job) (past : List Item) (k : ℕ) (answer : Answer) (returns : MayFollow job past (Return k answer)) where
  r : IsAnswered job past k answer
  r = returns.commands

  abbrev then' : Desk
  then' = desk job (suc (done past))

  command-is : command_at job k ≡ Some r.command.0
  command-is = ap (λ (n : ℕ). command_at job n) r.number ∙ r.command.1

  -- what holds at a desk after a Return holds after its command
  at-then : (P : ℕ → Type 0) → AtReturnedOrBegun (Return k answer ∷ past) P → P (suc (done past))
  at-then P (inl x) = x
  at-then P (inr x) = subst P r.follows x

  off-then : (u : ℕ) → is_accepted answer ≡ true → takes_off r.command.0 ≡ Some u → is_there job (user_at then' u) ≡ false
  off-then u accepted off =
      let c = r.command.0 in
      let ok : is_accepted (answer_on job (desk job (done past)) c) ≡ true = ap (λ (a : Answer). is_accepted a) (sym r.command.2) ∙ accepted in
      ap (λ (d : Desk). is_there job (user_at d u)) (desk-suc job (done past) ∙ ap (λ (o : Option Command). after job (desk job (done past)) (suc (done past)) o) r.command.1)
      ∙ ap (λ (b : Bool). is_there job (user_at (cond b (changed job (desk job (done past)) (suc (done past)) c) (desk job (done past))) u)) ok
      ∙ off-changed job (desk job (done past)) (suc (done past)) c u off

  on-there : (u f : ℕ) → is_on then' u f ≡ true → is_there job (user_at then' u) ≡ true
  on-there u f on =
      let both = and_both (is_sited then' u f) (user_at then' u).enabled on in
      rw ((and_both (user_at then' u).registered (is_matching (user_at then' u) f) both.0).0, both.1) refl

  another : (w u : ℕ) → is_there job (user_at then' u) ≡ false → is_there job (user_at then' w) ≡ true → (w == u) ≡ false
  another w u off on = elim (eqb_tells w u) [
    | inl e ↦ false_true (sym off ∙ subst (λ (n : ℕ). is_there job (user_at then' n) ≡ true) e.1 on)
    | inr e ↦ e.0
  ]

  -- whom it takes off is still not called over an item that may come after it
  quiet-more : (y : Item) → MayFollow job (Return k answer ∷ past) y → (u : ℕ) → is_there job (user_at then' u) ≡ false → is_called u past ≡ false → is_called u (y ∷ past) ≡ false
  quiet-more (Back c w) h u off e =
      rw (another w.0 u off (on-there w.0 (entry_of c past).func (at-then (λ j. is_on (desk job j) w.0 (entry_of c past).func ≡ true) h.callbacks.on)), e) refl
  quiet-more (Exit c w entry) h u off e =
      let of = h.exits.0.of in
      let live = at-then (λ j. is_live (desk job j) w.0 of.0.reg ≡ true) of.5 in
      rw (another w.0 u off (and_both (is_there job (user_at then' w.0)) ((user_at then' w.0).reg == of.0.reg) live).0, e) refl
  quiet-more (BackEnd c w) h u off e = ended-none c w.0 u (callbacks past) e
  quiet-more (ExitEnd c w) h u off e = ended-none c w.0 u (callbacks past) e
  quiet-more _ h u off e = e

  still-more : (y : Item) → MayFollow job (Return k answer ∷ past) y → is_accepted answer ≡ true → IfSome (command_at job k) (IsStill past) → IfSome (command_at job k) (IsStill (y ∷ past))
  still-more y h accepted still =
      subst (λ (o : Option Command). IfSome o (IsStill (y ∷ past))) (sym command-is)
      (by (takes_off r.command.0) refl (subst (λ (o : Option Command). IfSome o (IsStill past)) command-is still))
    where
      by : (o : Option ℕ) → takes_off r.command.0 ≡ o → IfSome o (λ u. is_called u past ≡ false) → IfSome o (λ u. is_called u (y ∷ past) ≡ false)
      by None e x = tt
      by (Some u) e x = quiet-more y h u (off-then u accepted e) x

  -- an item before it reads what it read after it
  read-return : (c : CallNo) (u : ℕ) → is_on then' u (entry_of c past).func ≡ true → IsRead job c u (Return k answer ∷ past) past
  read-return c u on = by (is_on (desk job (done past)) u (entry_of c past).func) refl
    where
      by : (b : Bool) → is_on (desk job (done past)) u (entry_of c past).func ≡ b → IsRead job c u (Return k answer ∷ past) past
      by true e =
          let both = and_both (is_sited (desk job (done past)) u (entry_of c past).func) (user_at (desk job (done past)) u).enabled e in
          let there = (and_both (user_at (desk job (done past)) u).registered (is_matching (user_at (desk job (done past)) u) (entry_of c past).func) both.0).0 in
          let same = sym (kept-over job (done past) u there) in
          (rw (on, e) (ap (λ (p : ℕ × ℕ). p.0) same), rw (on, e) (ap (λ (p : ℕ × ℕ). p.1) same))
      by false e = (rw (on, e, r.follows) refl, rw (on, e, r.follows) refl)

  seen-return : IsSeen job (Return k answer ∷ past) past
  seen-return = (inr r.follows, inr refl)

  suits-return : (y : Item) → MayFollow job (Return k answer ∷ past) y → Suits job y (Return k answer ∷ past) past
  suits-return (Enter c x f caller) h = omega arith
  suits-return (Leave c) h = omega arith
  suits-return (Back c u) h = (seen-return, read-return c u.0 (at-then (λ j. is_on (desk job j) u.0 (entry_of c past).func ≡ true) h.callbacks.on))
  suits-return (Refuse c u reason) h = (seen-return, read-return c u.0 (at-then (λ j. is_on (desk job j) u.0 (entry_of c past).func ≡ true) h.callbacks.on))
  suits-return (Exit c u entry) h = seen-return
  suits-return (Body c g ran) h = omega arith
  suits-return (Ret c to) h = omega arith
  suits-return _ h = tt

  -- a Return may come as well after a past with the same counts
  return-with : (past' : List Item) → done past' ≡ done past → begun past' ≡ begun past → IsLegalPast job past' → (is_accepted answer ≡ true → IfSome (command_at job k) (IsStill past')) → MayFollow job past' (Return k answer)
  return-with past' d b l still = may_follow job past' (Return k answer) (none-runs job past' (Return k answer) (λ v. refl) l) (of_return still (answered))
    where
      answered : IsAnswered job past' k answer
      answered = record {
        number = r.number ∙ ap suc (sym d);
        follows = b ∙ r.follows ∙ ap suc (sym d);
        command = subst (λ (n : ℕ). (c : Command) × (slice_get (commands job) n ≡ Some c) × (answer ≡ answer_at job n c)) (sym d) r.command;
      }

-- ## a plain run that has an item before one more Return has it after it

abbrev gives : List TaskAct → Bool
gives (Call f ∷ rest) = true
gives (RetAct ∷ rest) = true
gives _ = false

ahead-late : (d : ℕ) (acts : List TaskAct) (cs : List Ctx) (gone : ℕ) → gives (ahead d acts cs gone).acts ≡ true → ahead d acts cs gone ≡ ahead (suc d) acts cs gone
ahead-late d [] cs gone g = refl
ahead-late d (Call f ∷ rest) cs gone g = refl
ahead-late d (RetAct ∷ rest) cs gone g = refl
ahead-late d (Raise c ∷ rest) cs gone g = ahead-late d rest (c ∷ cs) (suc gone) g
ahead-late d (Lower ∷ rest) cs gone g = ahead-late d rest (below_top cs) (suc gone) g
ahead-late d (After n ∷ rest) cs gone g = by (nat_le n d) refl g (ahead-late d rest cs (suc gone))
  where
    stop : Ahead
    stop = record { acts = After n ∷ rest; contexts = cs; gone = gone }

    by : (b : Bool) → nat_le n d ≡ b → gives (cond b (ahead d rest cs (suc gone)) stop).acts ≡ true → (gives (ahead d rest cs (suc gone)).acts ≡ true → ahead d rest cs (suc gone) ≡ ahead (suc d) rest cs (suc gone))
        → cond b (ahead d rest cs (suc gone)) stop ≡ cond (nat_le n (suc d)) (ahead (suc d) rest cs (suc gone)) stop
    by true e x more = let le = leb-true n d e in rw (le-leb n (suc d) (omega (arith, le))) (more x)
    by false e x more = false_true x

module _ (d : ℕ) (s : PlainTask) where
  abbrev now : Ahead
  now = ahead d s.acts s.contexts s.gone

  late : gives now.acts ≡ true → now ≡ ahead (suc d) s.acts s.contexts s.gone
  late g = ahead-late d s.acts s.contexts s.gone g

  -- an Enter
  module _ (call : CallNo) (x : Ctx) (f : ℕ) where
    enter-gives : (acts : List TaskAct) (cs : List Ctx) (gone : ℕ) → IsSome (after_scripted_enter s acts cs gone call x f) → gives acts ≡ true
    enter-gives (Call g ∷ rest) cs gone h = refl
    enter-gives _ cs gone h = false_true h

    enter-ahead : IsSome (after_enter_ahead s now call x f) → after_enter_ahead s now call x f ≡ after_enter_ahead s (ahead (suc d) s.acts s.contexts s.gone) call x f
    enter-ahead h = ap (λ (a : Ahead). after_enter_ahead s a call x f) (late (enter-gives now.acts now.contexts now.gone h))

    enter-over : (t : Frame) (below : List Frame) (ph : Phase) → IsSome (after_enter d s (in_phase t ph ∷ below) call x f) → after_enter d s (in_phase t ph ∷ below) call x f ≡ after_enter (suc d) s (in_phase t ph ∷ below) call x f
    enter-over t below Running h = by t.scripted h
      where
        by : (b : Bool) → IsSome (cond b (after_enter_ahead s now call x f) None) → cond b (after_enter_ahead s now call x f) None ≡ cond b (after_enter_ahead s (ahead (suc d) s.acts s.contexts s.gone) call x f) None
        by true y = enter-ahead y
        by false y = refl
    enter-over t below _ h = refl

    enter-late : (stack : List Frame) → IsSome (after_enter d s stack call x f) → after_enter d s stack call x f ≡ after_enter (suc d) s stack call x f
    enter-late [] h = enter-ahead h
    enter-late (t ∷ below) h = enter-over t below t.phase h

  -- a Leave
  leave-gives : (t : Frame) (below : List Frame) (acts : List TaskAct) (cs : List Ctx) (gone : ℕ) → IsSome (after_scripted_leave s t below acts cs gone) → gives acts ≡ true
  leave-gives t below (RetAct ∷ rest) cs gone h = refl
  leave-gives t below _ cs gone h = false_true h

  leave-late : (t : Frame) (below : List Frame) (ph : Phase) → IsSome (after_leave d s t below ph) → after_leave d s t below ph ≡ after_leave (suc d) s t below ph
  leave-late t below Running h = by t.scripted h
    where
      by : (b : Bool) → IsSome (after_leave d s (record t { scripted = b }) below Running) → after_leave d s (record t { scripted = b }) below Running ≡ after_leave (suc d) s (record t { scripted = b }) below Running
      by true y = ap (λ (a : Ahead). after_leave_ahead s (record t { scripted = true }) below a) (late (leave-gives (record t { scripted = true }) below now.acts now.contexts now.gone y))
      by false y = refl
  leave-late t below _ h = refl

  if-late : (b : Bool) (o o' : Option PlainTask) → (IsSome o → o ≡ o') → IsSome (cond b o None) → cond b o None ≡ cond b o' None
  if-late true o o' same h = same h
  if-late false o o' same h = refl

  call-late : (stack : List Frame) (call : CallNo) → IsSome (on_call stack call (λ t below. after_leave d s t below t.phase))
      → on_call stack call (λ t below. after_leave d s t below t.phase) ≡ on_call stack call (λ t below. after_leave (suc d) s t below t.phase)
  call-late [] call h = refl
  call-late (t ∷ below) call h = if-late (same_call t.call call) (after_leave d s t below t.phase) (after_leave (suc d) s t below t.phase) (leave-late t below t.phase) h

  item-late : (job : Job) (item : Item) → IsSome (after_item job d s item) → after_item job d s item ≡ after_item job (suc d) s item
  unfolding after_item
  item-late job (Enter call x f caller) h = if-late ((call.n == s.next) && same_top caller (top_call s.stack)) (after_enter d s s.stack call x f.0) (after_enter (suc d) s s.stack call x f.0) (enter-late call x f.0 s.stack) h
  item-late job (Leave call) h = call-late s.stack call h
  item-late job _ h = refl

  -- these read no returned command
  item-timeless : (job : Job) (n : ℕ) (item : Item) → reads_returns item ≡ false → after_item job d s item ≡ after_item job n s item
  unfolding after_item
  item-timeless job n (Miss c u) e = refl
  item-timeless job n (Body c g ran) e = refl
  item-timeless job n (Ret c to) e = refl
  item-timeless job n _ e = false_true (sym e)

module _ (job : Job) (past : List Item) (k : ℕ) (answer : Answer) (v : ℕ) where
  run-late : (y : Item) → IsSome (plain job v (y ∷ past)) → plain job v (y ∷ past) ≡ plain job v (y ∷ Return k answer ∷ past)
  unfolding plain
  run-late y some = by (is_of v y) (plain job v past) some
    where
      by : (b : Bool) (o : Option PlainTask) → IsSome (cond b (after_next job (done past) y o) o) → cond b (after_next job (done past) y o) o ≡ cond b (after_next job (suc (done past)) y o) o
      by true None h = refl
      by true (Some s) h = item-late (done past) s job y h
      by false o h = refl

  run-timeless : (x : Item) → reads_returns x ≡ false → plain job v (x ∷ Return k answer ∷ past) ≡ plain job v (x ∷ past)
  unfolding plain
  run-timeless x quiet = by (is_of v x) (plain job v past)
    where
      by : (b : Bool) (o : Option PlainTask) → cond b (after_next job (suc (done past)) x o) o ≡ cond b (after_next job (done past) x o) o
      by true None = refl
      by true (Some s) = item-timeless (suc (done past)) s job (done past) x quiet
      by false o = refl

pub return-later : (job : Job) (before after : List Item) (y : Item) (call : CallNo) (k : ℕ) (answer : Answer) → call_of y ≡ Some call → IsSome (plain job call.task.0 (y ∷ reverse before))
    → StaysLegal job (before ++ Return k answer ∷ y ∷ after) (before ++ y ∷ Return k answer ∷ exchanged before after)
return-later job before after y call k answer of run = stays-legal job before after (Return k answer) y may
  where
    may : IsLegalPast job (y ∷ Return k answer ∷ reverse before) → MayExchange job (reverse before) (Return k answer) y
    may l =
        let past = reverse before in
        let ys = counts-of y call of past in
        let later = counts-of y call of (Return k answer ∷ past) in
        let h = x-follows job past (Return k answer) y l in
        let g = y-follows job past (Return k answer) y l in
        control-last job past (Return k answer) y l call of (λ v. refl) (suits-return job past k answer h y g) (run-late job past k answer call.task.0 y run)
        (λ m legal. return-with job past k answer h (y ∷ past) ys.0 ys.1 legal (λ e. still-more job past k answer h y g e (h.callbacks e)))
        (ap suc ys.0 ∙ sym later.0) (ys.1 ∙ sym later.1)

module _ (job : Job) (past : List Item) where
  -- these open no callback and end none
  still-without : (x : Item) → reads_returns x ≡ false → (o : Option Command) → IfSome o (IsStill (x ∷ past)) → IfSome o (IsStill past)
  still-without (Miss c u) e o h = h
  still-without (Body c g ran) e o h = h
  still-without (Ret c to) e o h = h
  still-without _ e o h = false_true (sym e)

  suits-before : (k : ℕ) (answer : Answer) (x : Item) → reads_returns x ≡ false → Suits job x past (Return k answer ∷ past)
  suits-before k answer (Miss c u) e = tt
  suits-before k answer (Body c g ran) e = omega arith
  suits-before k answer (Ret c to) e = omega arith
  suits-before k answer _ e = false_true (sym e)

pub return-earlier : (job : Job) (before after : List Item) (x : Item) (call : CallNo) (k : ℕ) (answer : Answer) → call_of x ≡ Some call → reads_returns x ≡ false
    → StaysLegal job (before ++ x ∷ Return k answer ∷ after) (before ++ Return k answer ∷ x ∷ exchanged before after)
return-earlier job before after x call k answer of quiet = stays-legal job before after x (Return k answer) may
  where
    may : IsLegalPast job (Return k answer ∷ x ∷ reverse before) → MayExchange job (reverse before) x (Return k answer)
    may l =
        let past = reverse before in
        let xs = counts-of x call of past in
        let later = counts-of x call of (Return k answer ∷ past) in
        let old = first-legal job past x (Return k answer) l in
        let h = y-follows job past x (Return k answer) l in
        let first = return-with job (x ∷ past) k answer h past (sym xs.0) (sym xs.1) old (λ e. still-without job past x quiet (command_at job k) (h.callbacks e)) in
        control-first job past x (Return k answer) l call of (λ v. refl) first (suits-before job past k answer x quiet) (run-timeless job past k answer call.task.0 x quiet)
        (later.0 ∙ ap suc (sym xs.0)) (later.1 ∙ sym xs.1)
