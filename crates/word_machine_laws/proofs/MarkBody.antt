-- The Body of a call: what was fetched, who was let in, and who was silent.
use Rattle.std.proofs.Common.{cond, ◌≡◌, ◌≢◌, ℕ, suc, ◌≤◌, Bool, true, false, not, ◌&&◌, ◌||◌, ◌==◌, List, [], ◌∷◌, Some, IsSome, refl, sym, ap, ◌∙◌, subst, arith, inl, inr}
use Rattle.std.specs.Prelude.{◌⊎◌}
use Rattle.std.proofs.lemmas.Bool.{cases_eq}
use Rattle.std.specs.List.{list_any, AllByRecursion as Each}
use Rattle.ft_base.specs.declared.context.Ctx.{Ctx}
use Rattle.ft_base.specs.declared.item.Item.{Item}
use Rattle.ft_base.specs.declared.item.Item.TheVariants.{Body}
use Rattle.ft_base.specs.declared.item.Ran.{Ran}
use Rattle.ft_base.specs.declared.item.Ran.TheVariants.{Nop, List as ByList, Own}
use Rattle.ft_base.specs.declared.task.TaskAct.{TaskAct}
use Rattle.ft_base.specs.Job.{Job}
use Rattle.ft_base.specs.Desk.{UserState, desk, spec_at, user_at, is_on, is_sited, is_matching, target}
use Rattle.ft_base.specs.Kinds.{cancels}
use Rattle.ft_base.specs.Tasks.{has_acts}
use Rattle.ft_base.proofs.Small.{false_true, ==-refl, and_both, Each-weaker}
use Rattle.ft_base.proofs.Modifiers.{one_modifies}
use Rattle.ft_hist.specs.Past.{done, Entered, entry_of, Visit, visits, all_visits}
use Rattle.ft_hist.specs.Plain.{plain, after_item, PlainTask, Frame, Dispatch, Running}
use Rattle.ft_hist.specs.Rules.{MayFollow, InWindow, IsSilent, IsFetched}
use Rattle.ft_hist.specs.Frames.{is_nil, keeps_frame}
use Rattle.ft_hist.proofs.Laws.{same_call-refl}
use Rattle.ft_hist.proofs.WindowLaws.{begun-more}
use Rattle.ft_hist.proofs.Visiting.{MetOf, at_most_one}
use Rattle.ft_hist.specs.Known.{holds}
use Rattle.ft_hist.proofs.Since.{holds-by}
use Rattle.ft_hist.proofs.CallSo.{entry-is}
use Rattle.word_map.specs.Contents.{low, greatest_half}
use Rattle.word_machine.specs.Commands.{effect, subject, state_of, Effect}
use Rattle.word_machine.specs.Task.{OpenCall, TaskState, Polling, Closing, Leaving, around, level_of, rest_acts, closed}
use Rattle.word_machine.specs.Progress.{SeenAt, selected}
use Rattle.word_machine.specs.UserList.{since_of, list_desk}
use Rattle.word_machine.specs.Verdicts.{Here, Dispatches, SeenVisit, may_come_closing}
use Rattle.word_machine.specs.Calls.{Calls, Opened, BodyRuns, under_call}
use Rattle.word_machine.specs.Tasks.{TaskRule, plain_stack, frame_of}
use Rattle.word_machine.specs.Rule.{Counts, IsWordJob}
use Rattle.word_machine_laws.proofs.OtherItems.{calls_carried}
use Rattle.word_machine_laws.proofs.Stacks.{opens-of, older_untouched}
use Rattle.word_machine_laws.proofs.DeskChanges.{between, numbers-kept}
use Rattle.word_machine_laws.proofs.Marks.{follows, mid_kept}
use Rattle.word_machine_laws.proofs.MarkDispatch.{task, few-below}
use Rattle.ft_base.proofs.Targets.{sited_own, sited_nop, off_unsited}
use Rattle.word_machine_laws.proofs.PollWords.{told-fewer, one-done}
use Rattle.ft_hist.proofs.ItemParts.{of_body}

-- ## what a target says of users

-- ## those that were visited are on at one command

module _ (job : Job) (ok : IsWordJob job) (h : Here) (q f : ℕ) where
  abbrev On : ℕ → Visit → Type 0
  On k m = (is_on (desk job k) m.user f ≡ true) × (since_of job k m.user ≡ m.since)

  same_user : (u : ℕ) → u ≢ subject job h.d → user_at (desk job (suc h.d)) u ≡ user_at (desk job h.d) u
  same_user u ne = (between job ok.job' h.d).others u ne

  on_of : UserState → ℕ → Bool
  on_of s f' = (s.registered && is_matching s f') && s.enabled

  -- a user that the command does not name has one state at both
  on_new : (m : Visit) → m.user ≢ subject job h.d → On h.d m → On (suc h.d) m
  unfolding on_of
  on_new m ne x = (ap (λ (s : UserState). on_of s f) (same_user m.user ne) ∙ x.0, ap (λ (s : UserState). s.since) (same_user m.user ne) ∙ x.1)

  on_old : (m : Visit) → m.user ≢ subject job h.d → On (suc h.d) m → On h.d m
  unfolding on_of
  on_old m ne x = (sym (ap (λ (s : UserState). on_of s f) (same_user m.user ne)) ∙ x.0, sym (ap (λ (s : UserState). s.since) (same_user m.user ne)) ∙ x.1)

  registered-of : (k u : ℕ) → is_on (desk job k) u f ≡ true → (state_of job k u).registered ≡ true
  registered-of k u e = (and_both _ _ (and_both _ _ e).0).0

  all_new : is_on (desk job (suc h.d)) (subject job h.d) f ≡ true → (m : Visit) → On (suc h.d) m ⊎ On h.d m → On (suc h.d) m
  all_new on m (inl x) = x
  all_new on m (inr x) = elim (cases_eq m.user (subject job h.d)) [
    | inl e ↦ (subst (λ u. is_on (desk job (suc h.d)) u f ≡ true) (sym e) on, (numbers-kept job ok.job' h.d m.user (registered-of h.d m.user x.0)).0 ∙ x.1)
    | inr ne ↦ on_new m ne x
  ]

  all_old : is_on (desk job (suc h.d)) (subject job h.d) f ≡ false → (m : Visit) → On (suc h.d) m ⊎ On h.d m → On h.d m
  all_old off m (inr x) = x
  all_old off m (inl x) = elim (cases_eq m.user (subject job h.d)) [
    | inl e ↦ false_true (sym off ∙ subst (λ u. is_on (desk job (suc h.d)) u f ≡ true) e x.0)
    | inr ne ↦ on_old m ne x
  ]

  either : (b : Bool) (z : Effect) (m : Visit) → SeenAt b z h.p h.request q (On h.d m) (On (suc h.d) m) → On (suc h.d) m ⊎ On h.d m
  either false z m x = inr x
  either true z m (inl x) = inl x
  either true z m (inr x) = inr x.2

  pub met_at_one : (ms : List Visit) → Each (λ m. SeenVisit job h q m f) ms → (k : ℕ) × Each (On k) ms
  met_at_one ms each =
      elim (is_on (desk job (suc h.d)) (subject job h.d) f) as (λ b. is_on (desk job (suc h.d)) (subject job h.d) f ≡ b → (k : ℕ) × Each (On k) ms) [
        | true ↦ λ e. (
          suc h.d,
          Each-weaker (λ m. SeenVisit job h q m f) (On (suc h.d)) ms
              (λ m x. all_new e m (either (selected h.p) (effect job h.d) m x)) each,
        )
        | false ↦ λ e. (h.d, Each-weaker (λ m. SeenVisit job h q m f) (On h.d) ms (λ m x. all_old e m (either (selected h.p) (effect job h.d) m x)) each)
      ] refl

framed-any : (job : Job) (ms : List Visit) → list_any (λ m. keeps_frame job m) ms ≡ true → list_any (λ m. m.framed && true) ms ≡ true
framed-any job [] e = e
framed-any job (m ∷ ms) e =
    elim m.framed as (λ b. ((b && not (cancels (spec_at job m.user).kind)) || list_any (λ m. keeps_frame job m) ms) ≡ true
    → ((b && true) || list_any (λ m. m.framed && true) ms) ≡ true) [
      | true ↦ λ x. refl
      | false ↦ λ x. framed-any job ms x
    ] e

module _ (job : Job) (ok : IsWordJob job) (h : Here) (ack word clock : ℕ) (past : List Item) (counts : Counts h.d h.p clock past) (runs : (t : ℕ)
    → IsSome (plain job t past)) where
  abbrev q : ℕ
  q = low word

  abbrev Row : Item → ℕ → TaskState → Type 0
  Row item t x = MayFollow job past item × TaskRule job h (item ∷ past) ack word t x

  module _ (n gone : ℕ) (acts : List TaskAct) (cs : List Ctx) (w : ℕ) (c : OpenCall) (below : List OpenCall)
      (k : TaskRule job h past ack word c.call.task.0 (task n gone acts cs (c ∷ below) w Closing)) where
    abbrev t : ℕ
    t = c.call.task.0

    abbrev d : Dispatches job h past ack q c below Closing
    d = k.calls.1

    abbrev e : Entered
    e = record { ctx = c.ctx; func = c.func; caller = d.caller; from = d.from }

    abbrev since : ℕ → ℕ
    since u = since_of job (list_desk h.p h.d) u

    known : entry_of c.call past ≡ e
    known = entry-is job (around c below) c.call e past d.so.known

    abbrev Off : ℕ → Type 0
    Off u = InWindow c.call past (λ j. is_on (desk job j) u c.func ≡ false)

    silent : (r : Ran) → InWindow c.call past (λ j. r ≡ target (desk job j) c.func) → (u : ℕ) → (may_come_closing r u ≡ true) ⊎ Off u → Off u
    silent r wd u (inr x) = x
    silent ByList wd u (inl x) = false_true x
    silent (Own w') wd u (inl x) = (wd.0, wd.1, wd.2, off_unsited (desk job wd.0) u c.func (not_sited (is_sited (desk job wd.0) u c.func) refl))
      where
        not_sited : (b : Bool) → is_sited (desk job wd.0) u c.func ≡ b → is_sited (desk job wd.0) u c.func ≡ false
        not_sited false y = y
        not_sited true y = (let same : u ≡ w'.0 = sited_own (desk job wd.0) c.func u w'.0 (sym wd.3) y in
            let z : (u == w'.0) ≡ true = rw same (==-refl w'.0) in false_true (rw z at x))
    silent Nop wd u (inl x) = (wd.0, wd.1, wd.2, off_unsited (desk job wd.0) u c.func (not_sited (is_sited (desk job wd.0) u c.func) refl))
      where
        not_sited : (b : Bool) → is_sited (desk job wd.0) u c.func ≡ b → is_sited (desk job wd.0) u c.func ≡ false
        not_sited false y = y
        not_sited true y = sited_nop (desk job wd.0) c.func u (sym wd.3) y

    whole_window : IsSilent job past c.call
    whole_window u within un = subst (λ (x : Entered). InWindow c.call past (λ j. is_on (desk job j) u x.func ≡ false)) (sym known) (silent c.ran d.at.0 u (d.so.watch u un))

    fetches : IsFetched job past c.call c.runs.0 c.ran
    fetches =
        let one = met_at_one job ok h q c.func (visits job c.call past) d.on in
        record {
          fetched = subst (λ (x : Entered). InWindow c.call past (λ j. c.ran ≡ target (desk job j) x.func)) (sym known) d.at.0;
          only = d.at.1;
          one = at_most_one job (desk job one.0) c.func (visits job c.call past) (λ x y. one_modifies job ok.job' one.0 c.func x y k.calls.0.inside)
              (Each-weaker _ (MetOf (desk job one.0) c.func []) (visits job c.call past)
              (λ m x. record { since = sym x.1; on = x.0; below = tt }) one.1) d.so.sinks;
          runs = rw known d.so.runs;
        }

    reads-body : (r : ℕ) (at : PlainTask) (under : List Frame) → at.stack ≡ frame_of c Dispatch ∷ under → after_item job r at (Body c.call c.runs c.ran)
        ≡ Some (record at { stack = frame_of c Running ∷ under })
    unfolding after_item
    reads-body r at under st = rw (st, same_call-refl c.call) refl

    abbrev body : Item
    body = Body c.call c.runs c.ran

    abbrev c' : OpenCall
    c' = record c { framed = not (is_nil c.users) }

    runs_body : BodyRuns job (body ∷ past) c'
    unfolding all_visits
    runs_body = record { dispatched = rw (same_call-refl c.call) refl; exits = d.so.unexited; frame = d.so.frame }

    holds_body : holds job (body ∷ past) c.call ≡ not (is_nil c.users)
    unfolding all_visits
    holds_body = holds-by job (body ∷ past) c.call ∙ rw (d.so.opened, same_call-refl c.call) d.so.frame.kept

    few_body : level_of (c' ∷ below) ≤ job.frames
    few_body =
        elim (not (is_nil c.users)) as (λ b. not (is_nil c.users) ≡ b → cond b (suc (level_of below)) (level_of below) ≤ job.frames) [
          | true ↦ λ x. (let framed : c.framed ≡ true = sym d.so.framed ∙ framed-any job (visits job c.call past) (d.so.frame.kept ∙ x) in
              let lt = d.so.room framed in omega arith)
          | false ↦ λ x. few-below job c below k.few
        ] refl

    opened_body : Opened job (body ∷ past) t c'
    opened_body = record { task = refl; inside = k.calls.0.inside; opened = k.calls.0.opened; context = k.calls.0.context; holds = holds_body }

    below_body : Calls job h (body ∷ past) ack q t (under_call c below) below
    below_body = calls_carried job h past (body ∷ past) (begun-more body past) (omega arith) ack q t (under_call c below) below
        (older_untouched job past c.call body below (λ d' e'. e') (opens-of job past t (task n gone acts cs (c ∷ below) w Closing) k.run).falls.0) k.calls.2

    abbrev under : List Frame
    under = plain_stack job false (under_call c below) below

    abbrev at' : PlainTask
    at' = record k.run.at { stack = frame_of c Running ∷ under }

    followed : MayFollow job past body × (plain job t (body ∷ past) ≡ Some at')
    followed = follows job past body t k.run.at at' (λ v. refl) runs k.run.is (reads-body (done past) k.run.at under k.run.stack) (of_body whole_window k.miss fetches)

    pub body_row : Row body t (closed (task n gone acts cs (c ∷ below) w Closing) c below)
    body_row = (followed.0, by c.scripted refl)
      where
        by : (b : Bool) → c.scripted ≡ b
            → TaskRule job h (body ∷ past) ack word t
            (cond b (task n (suc gone) (rest_acts acts) cs (c' ∷ below) w Polling) (task n gone acts cs (c' ∷ below) w Leaving))
        by true s = record {
          word' = k.word';
          gone = (let g = k.gone in omega (arith, g));
          total = one-done gone acts _ k.stands.0 k.total;
          quiet = told-fewer h.request (has_acts acts) (has_acts (rest_acts acts)) greatest_half (low word) k.stands.0 k.quiet;
          first = tt;
          reached = k.reached;
          stands = tt;
          grounded = k.grounded;
          run = record { fresh = false; at = at'; is = followed.1; next = k.run.next; stack = refl; ahead = k.run.ahead; counted = λ e. false_true (sym e) };
          opens = k.opens;
          miss = rw (==-refl t) refl;
          few = few_body;
          script = k.script;
          calls = (opened_body, (runs_body, s), below_body);
        }
        by false s = mid_kept job h ack word t past (body ∷ past) n n gone acts cs w
            (c ∷ below) Closing Leaving c' below refl refl k false at' followed.1 k.run.next refl refl refl refl refl
            k.opens (rw (==-refl t) refl) few_body refl k.grounded (opened_body, (runs_body, s), below_body)
