-- The return of a call: its Leave, its exits and its Ret.
use Rattle.std.proofs.Common.{cond, ◌≡◌, ℕ, suc, ◌≤◌, Bool, true, false, List, [], ◌∷◌, Some, None, IsSome, refl, sym, ap, ◌∙◌, subst, arith}
use Rattle.ft_base.specs.declared.context.Ctx.{Ctx}
use Rattle.ft_base.specs.declared.item.Item.{Item}
use Rattle.ft_base.specs.declared.item.Item.TheVariants.{Leave, Exit, ExitEnd, Ret}
use Rattle.ft_base.specs.declared.task.TaskAct.{TaskAct}
use Rattle.ft_base.specs.declared.task.TaskAct.TheVariants.{Ret as RetAct}
use Rattle.ft_base.specs.Job.{Job}
use Rattle.ft_base.specs.Desk.{desk, is_live}
use Rattle.ft_base.specs.Tasks.{has_acts}
use Rattle.ft_base.proofs.Small.{false_true, ==-refl}
use Rattle.ft_hist.specs.Past.{done, Callback, callbacks, visits, all_visits}
use Rattle.ft_hist.specs.Plain.{plain, after_item, PlainTask, Frame, Phase, Running, Leaving as InReturn, InExit, ahead, Ahead, top_call}
use Rattle.ft_hist.specs.Rules.{MayFollow}
use Rattle.ft_hist.specs.Frames.{FrameUser}
use Rattle.ft_hist.proofs.Laws.{same_call-refl, same_top-refl}
use Rattle.ft_hist.proofs.WindowLaws.{begun-more}
use Rattle.ft_hist.proofs.Exits.{exits-start, exits-may, exits-after, exits-done}
use Rattle.ft_hist.proofs.Since.{untouched-item, holds-by}
use Rattle.word_map.specs.Contents.{low, greatest_half}
use Rattle.word_machine.specs.Task.{OpenCall, TaskState, Moment, Polling, First, Leaving, Exiting, EndingExit, Returning, Ending, next_exit, returned, user_of, top_of, level_of, is_quiet, rest_acts}
use Rattle.word_machine.specs.Progress.{selected}
use Rattle.word_machine.specs.Verdicts.{Here}
use Rattle.word_machine.specs.Calls.{Calls, CallAt, Opened, BodyRuns, Leaves, under_call}
use Rattle.word_machine.specs.Tasks.{TaskRule, StandsIn, plain_stack, plain_phase, frame_of, open_by, callbacks_at, callback_at, miss_at, is_returning, with_callback, HasCaller, Grounded}
use Rattle.word_machine.specs.Rule.{Counts}
use Rattle.word_machine_laws.proofs.OtherItems.{calls_carried, opened_carried, leaves_carried}
use Rattle.word_machine_laws.proofs.VerdictLaws.{either_of, selected-underway}
use Rattle.word_machine_laws.proofs.Stacks.{opens-of, older_untouched}
use Rattle.word_machine_laws.proofs.Marks.{follows, mid_kept}
use Rattle.word_machine_laws.proofs.MarkDispatch.{task, few-below, ended-own}
use Rattle.word_machine_laws.proofs.MarkEnter.{open_first}
use Rattle.word_machine_laws.proofs.PollWords.{told-fewer, first-loud, one-done}
use Rattle.ft_hist.proofs.ItemParts.{of_exits}

-- what all places between the exits have
pub record ReturnsAt (job : Job) (c : OpenCall) (below : List OpenCall) (m : Moment) : Type 0 where
  pub quiet : is_quiet m ≡ false
  pub returning : is_returning m ≡ true
  pub phase : (fresh : Bool) → plain_phase job fresh c m ≡ InReturn
  pub none : (rest : List Callback) → callback_at c m rest ≡ rest
  pub miss : miss_at m (c ∷ below) ≡ None

pub at_exit : (job : Job) (c : OpenCall) (below : List OpenCall) (us : List FrameUser) → ReturnsAt job c below (next_exit us)
at_exit job c below [] = record { quiet = refl; returning = refl; phase = λ f. refl; none = λ rest. refl; miss = refl }
at_exit job c below (m ∷ rest) = record { quiet = refl; returning = refl; phase = λ f. refl; none = λ r. refl; miss = refl }

pub leaves_at : (job : Job) (h : Here) (past : List Item) (ack q : ℕ) (c : OpenCall) (below : List OpenCall) (us : List FrameUser) → Leaves job past h.d c us
    → CallAt job h past ack q c below (next_exit us)
leaves_at job h past ack q c below [] x = x
leaves_at job h past ack q c below (m ∷ rest) x = x

top-plain : (job : Job) (fresh : Bool) (m : Moment) (stack : List OpenCall) → top_call (plain_stack job fresh m stack) ≡ top_of stack
top-plain job fresh m [] = refl
top-plain job fresh m (c ∷ below) = refl

-- between acts a task polls, with the same calls
pub polling_stack : (job : Job) (fresh : Bool) (stack : List OpenCall) → plain_stack job fresh First stack ≡ plain_stack job false Polling stack
polling_stack job fresh [] = refl
polling_stack job fresh (c ∷ below) = refl

pub polling_callbacks : (stack : List OpenCall) → callbacks_at First stack ≡ callbacks_at Polling stack
polling_callbacks [] = refl
polling_callbacks (c ∷ below) = refl

pub polling_calls : (job : Job) (h : Here) (past : List Item) (ack q t : ℕ) (stack : List OpenCall) → Calls job h past ack q t First stack
    → Calls job h past ack q t Polling stack
polling_calls job h past ack q t [] k = tt
polling_calls job h past ack q t (c ∷ below) k = k

module _ (job : Job) (h : Here) (ack word clock : ℕ) (past : List Item) (counts : Counts h.d h.p clock past) (runs : (t : ℕ) → IsSome (plain job t past)) where
  abbrev q : ℕ
  q = low word

  abbrev Row : Item → ℕ → TaskState → Type 0
  Row item t x = MayFollow job past item × TaskRule job h (item ∷ past) ack word t x

  module _ (n gone : ℕ) (acts : List TaskAct) (cs : List Ctx) (w : ℕ) (c : OpenCall) (below : List OpenCall) where
    abbrev t : ℕ
    t = c.call.task.0

    abbrev under : List Frame
    under = plain_stack job false (under_call c below) below

    abbrev leave : Item
    leave = Leave c.call

    left-now : (d : ℕ) → done past ≡ d → BodyRuns job past c → Leaves job (leave ∷ past) d c c.users
    left-now d e b = record {
      dispatched = b.dispatched;
      ms = visits job c.call past;
      so = exits-start job c.call past c.users b.frame b.exits;
      leave = rw (same_call-refl c.call) (omega (arith, e));
    }

    opened-now : BodyRuns job past c → Opened job past t c → Opened job (leave ∷ past) t c
    unfolding all_visits
    opened-now b o = record {
      task = o.task;
      inside = o.inside;
      opened = o.opened;
      context = o.context;
      holds = holds-by job (leave ∷ past) c.call ∙ sym (holds-by job past c.call) ∙ o.holds;
    }

    -- ## the Leave by the script

    abbrev ret_ahead : List TaskAct → Ahead
    ret_ahead rest = record { acts = RetAct ∷ rest; contexts = cs; gone = gone }

    reads-leave : (d : ℕ) (rest : List TaskAct) (at : PlainTask) → at.stack ≡ frame_of c Running ∷ under → c.scripted ≡ true
        → ahead d at.acts at.contexts at.gone ≡ ret_ahead rest
        → after_item job d at leave ≡ Some (record { next = at.next; acts = rest; gone = suc gone; contexts = cs; stack = frame_of c InReturn ∷ under })
    unfolding after_item
    reads-leave d rest at st sc a = rw (st, same_call-refl c.call, sc, a) refl

    pub leave_row : (rest : List TaskAct) → TaskRule job h past ack word t (task n gone (RetAct ∷ rest) cs (c ∷ below) w First)
        → Row leave t (task n gone (RetAct ∷ rest) cs (c ∷ below) w (next_exit c.users))
    leave_row rest k =
        let b : BodyRuns job past c = k.calls.1.0 in
        let sc : c.scripted ≡ true = k.calls.1.1 in
        let at : PlainTask = record { next = k.run.at.next; acts = rest; gone = suc gone; contexts = cs; stack = frame_of c InReturn ∷ under } in
        let f = follows job past leave t k.run.at at (λ v. refl) runs k.run.is (reads-leave (done past) rest k.run.at k.run.stack sc k.run.ahead) (of_exits k.miss) in
        let r = at_exit job c below c.users in (
          f.0,
          record {
            word' = k.word';
            gone = k.gone;
            total = k.total;
            quiet = k.quiet;
            first = first-loud (next_exit c.users) (RetAct ∷ rest) r.quiet;
            reached = k.reached;
            stands = subst (λ b. StandsIn b (RetAct ∷ rest) (c ∷ below)) (sym r.quiet) (refl, refl);
            grounded = k.grounded;
            run = record {
              fresh = false;
              at = at;
              is = f.1;
              next = k.run.next;
              stack = ap (λ (p : Phase). frame_of c p ∷ under) (sym (r.phase false));
              ahead = rw r.quiet refl;
              counted = λ e. refl;
            };
            opens = k.opens ∙ sym (r.none _);
            miss = rw (==-refl t) (sym r.miss);
            few = k.few;
            script = rw (r.quiet, r.returning, sc) (rw sc at k.script);
            calls = (
              opened-now b k.calls.0,
              leaves_at job h (leave ∷ past) ack q c below c.users (left-now h.d counts.returned b),
              calls_carried job h past (leave ∷ past) (begun-more leave past) (omega arith) ack q t (under_call c below) below
                  (older_untouched job past c.call leave below (λ d e. e)
                  (opens-of job past t (task n gone (RetAct ∷ rest) cs (c ∷ below) w First) k.run).falls.0) k.calls.2,
            );
          },
        )

    -- ## that of an act's call

    reads-leave' : (d : ℕ) (at : PlainTask) → at.stack ≡ frame_of c Running ∷ under → c.scripted ≡ false
        → after_item job d at leave ≡ Some (record at { stack = frame_of c InReturn ∷ under })
    unfolding after_item
    reads-leave' d at st sc = rw (st, same_call-refl c.call, sc) refl

    pub leave_act_row : TaskRule job h past ack word t (task n gone acts cs (c ∷ below) w Leaving)
        → Row leave t (task n gone acts cs (c ∷ below) w (next_exit c.users))
    leave_act_row k =
        let b : BodyRuns job past c = k.calls.1.0 in
        let sc : c.scripted ≡ false = k.calls.1.1 in
        let at : PlainTask = record k.run.at { stack = frame_of c InReturn ∷ under } in
        let f = follows job past leave t k.run.at at (λ v. refl) runs k.run.is (reads-leave' (done past) k.run.at k.run.stack sc) (of_exits k.miss) in
        let r = at_exit job c below c.users in (
          f.0,
          mid_kept job h ack word t past (leave ∷ past) n n gone acts cs w (c ∷ below) Leaving
              (next_exit c.users) c below refl r.quiet k false at f.1 k.run.next
              (ap (λ (p : Phase). frame_of c p ∷ under) (sym (r.phase false))) refl refl refl refl (k.opens ∙ sym (r.none _))
              (rw (==-refl t) (sym r.miss)) k.few
              (rw (r.returning, sc) refl) k.grounded (
                opened-now b k.calls.0,
                leaves_at job h (leave ∷ past) ack q c below c.users (left-now h.d counts.returned b),
                calls_carried job h past (leave ∷ past) (begun-more leave past) (omega arith) ack q t (under_call c below) below
                    (older_untouched job past c.call leave below (λ d e. e)
                    (opens-of job past t (task n gone acts cs (c ∷ below) w Leaving) k.run).falls.0) k.calls.2,
              ),
        )

    -- ## an exit

    module _ (m : FrameUser) (rest : List FrameUser) where
      abbrev exit : Item
      exit = Exit c.call (record { 0 = m.user }) m.entry

      abbrev exit_end : Item
      exit_end = ExitEnd c.call (record { 0 = m.user })

      reads-exit : (d : ℕ) (at : PlainTask) → at.stack ≡ frame_of c InReturn ∷ under
          → after_item job d at exit ≡ Some (record at { stack = frame_of c (InExit m.user) ∷ under })
      unfolding after_item
      reads-exit d at st = rw (st, same_call-refl c.call) refl

      reads-exit_end : (d : ℕ) (at : PlainTask) → at.stack ≡ frame_of c (InExit m.user) ∷ under
          → after_item job d at exit_end ≡ Some (record at { stack = frame_of c InReturn ∷ under })
      unfolding after_item
      reads-exit_end d at st = rw (st, same_call-refl c.call, ==-refl m.user) refl

      pub exit_row : TaskRule job h past ack word t (task n gone acts cs (c ∷ below) w (Exiting m rest))
          → Row exit t (task n gone acts cs (c ∷ below) w (EndingExit m rest))
      unfolding all_visits
      exit_row k =
          let l : Leaves job past h.d c (m ∷ rest) = k.calls.1.0 in
          let at : PlainTask = record k.run.at { stack = frame_of c (InExit m.user) ∷ under } in
          let f = follows job past exit t k.run.at at (λ v. refl) runs k.run.is (reads-exit (done past) k.run.at k.run.stack) (of_exits (
            exits-may job c.call l.ms m rest past (either_of job h q clock past (selected h.p) (λ j. is_live (desk job j) m.user m.reg ≡ true) counts
                (selected-underway h.p) k.calls.1.1) l.so,
            k.miss,
          )) in (
            f.0,
            mid_kept job h ack word t past (exit ∷ past) n n gone acts cs w (c ∷ below) (Exiting m rest)
                (EndingExit m rest) c below refl refl k false at f.1 k.run.next refl refl refl refl refl
                (rw (==-refl t, k.calls.0.context) (ap (λ (bs : List Callback). with_callback c m.user bs) k.opens))
                (rw (==-refl t) refl) k.few refl k.grounded (
                  record {
                    task = refl;
                    inside = k.calls.0.inside;
                    opened = k.calls.0.opened;
                    context = k.calls.0.context;
                    holds = holds-by job (exit ∷ past) c.call ∙ sym (holds-by job past c.call) ∙ k.calls.0.holds;
                  },
                  (record { dispatched = l.dispatched; ms = l.ms; so = exits-after job c.call l.ms m rest past l.so; leave = l.leave }, k.calls.1.1),
                  calls_carried job h past (exit ∷ past) (begun-more exit past) (omega arith) ack q t (under_call c below) below
                      (older_untouched job past c.call exit below (λ d e. e)
                      (opens-of job past t (task n gone acts cs (c ∷ below) w (Exiting m rest)) k.run).falls.0) k.calls.2,
                ),
          )

      pub exit_end_row : TaskRule job h past ack word t (task n gone acts cs (c ∷ below) w (EndingExit m rest))
          → Row exit_end t (task n gone acts cs (c ∷ below) w (next_exit rest))
      exit_end_row k =
          let l : Leaves job past h.d c rest = k.calls.1.0 in
          let at : PlainTask = record k.run.at { stack = frame_of c InReturn ∷ under } in
          let f = follows job past exit_end t k.run.at at (λ v. refl) runs k.run.is (reads-exit_end (done past) k.run.at k.run.stack) (of_exits k.miss) in
          let r = at_exit job c below rest in
          let u = untouched-item job c.call past exit_end refl in (
            f.0,
            mid_kept job h ack word t past (exit_end ∷ past) n n gone acts cs w (c ∷ below) (EndingExit m rest)
                (next_exit rest) c below refl r.quiet k false at f.1 k.run.next
                (ap (λ (p : Phase). frame_of c p ∷ under) (sym (r.phase false))) refl refl refl refl
                (ended-own c.call m.user (callbacks past) ∙ rw k.opens (rw (same_call-refl c.call, ==-refl m.user) (sym (r.none _))))
                (rw (==-refl t) (sym r.miss)) k.few
                (ap (λ (b : Bool). open_by b (c ∷ below)) r.returning) k.grounded (
                  opened_carried job h past (exit_end ∷ past) (begun-more exit_end past) (omega arith) t c u k.calls.0,
                  leaves_at job h (exit_end ∷ past) ack q c below rest (leaves_carried job h past (exit_end ∷ past) (begun-more exit_end past)
                      (omega arith) h.d c rest u l),
                  calls_carried job h past (exit_end ∷ past) (begun-more exit_end past) (omega arith) ack q t (under_call c below) below
                      (older_untouched job past c.call exit_end below (λ d e. refl)
                      (opens-of job past t (task n gone acts cs (c ∷ below) w (EndingExit m rest)) k.run).falls.0) k.calls.2,
                ),
          )

    -- ## the Ret

    abbrev ret : Item
    ret = Ret c.call (top_of below)

    reads-ret : (d : ℕ) (at : PlainTask) → at.stack ≡ frame_of c InReturn ∷ under → after_item job d at ret ≡ Some (record at { stack = under })
    unfolding after_item
    reads-ret d at st = rw (st, same_call-refl c.call, top-plain job false (under_call c below) below, same_top-refl (top_of below)) refl

    pub ret_row : TaskRule job h past ack word t (task n gone acts cs (c ∷ below) w Returning)
        → Row ret t (returned (task n gone acts cs (c ∷ below) w Returning) c below)
    ret_row k = (go.0, by c.scripted refl)
      where
        at : PlainTask
        at = record k.run.at { stack = under }

        go : MayFollow job past ret × (plain job t (ret ∷ past) ≡ Some at)
        go = follows job past ret t k.run.at at (λ v. refl) runs k.run.is (reads-ret (done past) k.run.at k.run.stack)
            (of_exits (exits-done job c.call k.calls.1.ms past k.calls.1.so, k.miss))

        rest-on : Calls job h (ret ∷ past) ack q t (under_call c below) below
        rest-on = calls_carried job h past (ret ∷ past) (begun-more ret past) (omega arith) ack q t (under_call c below) below
            (older_untouched job past c.call ret below (λ d e. e) (opens-of job past t (task n gone acts cs (c ∷ below) w Returning) k.run).falls.0) k.calls.2

        by : (b : Bool) → c.scripted ≡ b
            → TaskRule job h (ret ∷ past) ack word t
            (cond b (task n (suc gone) (rest_acts acts) cs below w Polling) (task n gone acts cs below w (Ending (user_of below))))
        by true s = record {
          word' = k.word';
          gone = (let g = k.gone in omega (arith, g));
          total = one-done gone acts _ k.stands.0 k.total;
          quiet = told-fewer h.request (has_acts acts) (has_acts (rest_acts acts)) greatest_half (low word) k.stands.0 k.quiet;
          first = tt;
          reached = k.reached;
          stands = tt;
          grounded = k.grounded.1;
          run = record {
            fresh = false;
            at = at;
            is = go.1;
            next = k.run.next;
            stack = rw s (polling_stack job false below);
            ahead = k.run.ahead;
            counted = λ e. false_true (sym e);
          };
          opens = k.opens ∙ rw s (polling_callbacks below);
          miss = rw (==-refl t) refl;
          few = few-below job c below k.few;
          script = rw (open_first below) (rw s at k.script);
          calls = polling_calls job h (ret ∷ past) ack q t below (rw s at rest-on);
        }
        by false s = ending below (rw s at k.grounded.0) (rw s at rest-on) refl
          where
            ending : (stack : List OpenCall) → HasCaller false stack → Calls job h (ret ∷ past) ack q t (Ending (user_of stack)) stack → below ≡ stack
                → TaskRule job h (ret ∷ past) ack word t (task n gone acts cs stack w (Ending (user_of stack)))
            ending [] ground calls e = absurd ground
            ending (c2 ∷ ds) ground calls e =
                mid_kept job h ack word t past (ret ∷ past) n n gone acts cs w (c ∷ below) Returning
                (Ending c2.user) c2 ds refl refl k false at go.1 k.run.next (rw (s, e) refl) refl refl refl refl
                (k.opens ∙ rw (s, e) refl) (rw (==-refl t) refl) (subst (λ (xs : List OpenCall). level_of xs ≤ job.frames) e (few-below job c below k.few))
                (rw (s, e) refl)
                (subst (λ (xs : List OpenCall). Grounded xs) e k.grounded.1) calls
