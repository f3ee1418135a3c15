-- The Enter of a call, by the script or by a user's act.
use Rattle.std.proofs.Common.{cond, ◌≡◌, ℕ, suc, ◌<◌, Bool, true, false, nat_lt, List, [], ◌∷◌, Option, Some, None, IsSome, refl, ap, ◌∙◌, subst, arith, inl}
use Rattle.ft_base.specs.declared.number.CallNo.{CallNo}
use Rattle.ft_base.specs.declared.context.Ctx.{Ctx}
use Rattle.ft_base.specs.declared.context.Ctx.TheVariants.{Irq}
use Rattle.ft_base.specs.declared.item.Item.{Item}
use Rattle.ft_base.specs.declared.item.Item.TheVariants.{Enter}
use Rattle.ft_base.specs.declared.user.Act.{Act}
use Rattle.ft_base.specs.declared.user.Act.TheVariants.{CallIn, IrqIn}
use Rattle.ft_base.specs.declared.task.TaskAct.{TaskAct}
use Rattle.ft_base.specs.declared.task.TaskAct.TheVariants.{Call}
use Rattle.ft_base.specs.Same.{rank, context}
use Rattle.ft_base.specs.Job.{Job, funcs}
use Rattle.ft_base.specs.Desk.{spec_at, plain_spec}
use Rattle.ft_base.specs.WellFormed.{IsActNamed}
use Rattle.ft_base.proofs.Small.{false_true, ==-refl, each-get}
use Rattle.ft_hist.specs.Past.{done, visits, all_visits}
use Rattle.ft_hist.specs.Plain.{plain, after_item, PlainTask, Frame, Dispatch, InBack, Owed, owed_by, ahead, Ahead}
use Rattle.ft_hist.specs.Rules.{MayFollow}
use Rattle.ft_hist.proofs.Laws.{same_call-refl}
use Rattle.ft_hist.proofs.WindowLaws.{begun-more}
use Rattle.ft_hist.proofs.RunLaws.{sound, Sound, calls_on}
use Rattle.ft_hist.proofs.Lists.{none_visited}
use Rattle.ft_hist.specs.Dispatch.{call_of, CallSo}
use Rattle.word_map.specs.Contents.{low}
use Rattle.word_machine.specs.Task.{OpenCall, TaskState, First, Fetch, Acting, opened, top_of, around}
use Rattle.word_machine.specs.Verdicts.{Here, Dispatches, walk_of, may_come}
use Rattle.word_machine.specs.Calls.{Calls, CallAt, Opened, under_call}
use Rattle.word_machine.specs.UserList.{since_of, list_desk}
use Rattle.word_machine.specs.Tasks.{TaskRule, plain_stack, frame_of, open_by, scripted_of}
use Rattle.word_machine.specs.Rule.{Counts, IsWordJob}
use Rattle.word_machine_laws.proofs.OtherItems.{calls_carried, call_carried, opened_carried}
use Rattle.word_machine_laws.proofs.Stacks.{opens-of, older_untouched}
use Rattle.word_machine_laws.proofs.Marks.{follows, mid_kept}
use Rattle.word_machine_laws.proofs.MarkDispatch.{task, so-holds}
use Rattle.ft_hist.proofs.ItemParts.{of_exits}

-- an act's function is one of the job's
named : (job : Job) (x : Ctx) (act : Option Act) (o : Owed) → owed_by x act ≡ Some o → IsActNamed job act → o.func < funcs job
named job x None o y i = absurd cc
named job x (Some (CallIn f)) o y i = subst (λ z. z < funcs job) (ap func_or y) i
  where
    func_or : Option Owed → ℕ
    func_or None = f.0
    func_or (Some z) = z.func
named job x (Some (IrqIn f)) o y i =
    elim (nat_lt (rank x) 2) as (λ b. cond b (Some (record { ctx = Irq; func = f.0 })) None ≡ Some o → o.func < funcs job) [
      | true ↦ λ z. subst (λ q. q < funcs job) (ap func_or z) i
      | false ↦ λ z. absurd cc
    ] y
  where
    func_or : Option Owed → ℕ
    func_or None = f.0
    func_or (Some z) = z.func

-- between acts the open calls run their bodies
pub first_stack : (job : Job) (fresh : Bool) (stack : List OpenCall) → plain_stack job fresh First stack ≡ plain_stack job false First stack
first_stack job fresh [] = refl
first_stack job fresh (c ∷ below) = refl

pub open_first : (stack : List OpenCall) → open_by false stack ≡ scripted_of stack
open_first [] = refl
open_first (c ∷ below) = refl

module _ (job : Job) (h : Here) (ack word clock : ℕ) (past : List Item) (counts : Counts h.d h.p clock past) (runs : (t : ℕ) → IsSome (plain job t past)) where
  abbrev q : ℕ
  q = low word

  abbrev Row : Item → ℕ → TaskState → Type 0
  Row item t x = MayFollow job past item × TaskRule job h (item ∷ past) ack word t x

  -- a call that was just entered has visited nobody
  module _ (t n : ℕ) (ctx : Ctx) (f : ℕ) (caller : Option CallNo) (scripted : Bool) (stack : List OpenCall) (inside : f < funcs job) (at : PlainTask)
      (is : plain job t past ≡ Some at) (next : at.next ≡ n) where
    abbrev call : CallNo
    call = call_of (record { 0 = t }) n

    abbrev entering : Item
    entering = Enter call ctx (record { 0 = f }) caller

    abbrev new : OpenCall
    new = opened call ctx f scripted

    fresh_call : Opened job (entering ∷ past) t new × CallAt job h (entering ∷ past) ack q new stack Fetch
    unfolding all_visits
    fresh_call =
        let s : Sound job t past at.next (calls_on at.stack) = sound job t past at is in
        let fresh = s.fresh call refl (rw next (omega arith)) in
        let none : visits job call past ≡ [] = none_visited call (all_visits job past) (rw next at s.visits) in
        let so : CallSo job (around new stack) call (record { ctx = ctx; func = f; caller = caller; from = done past }) (walk_of new)
        (may_come (since_of job (list_desk h.p h.d)) new.ran Fetch) (entering ∷ past) = record {
          known = rw (same_call-refl call) refl;
          opened = rw (same_call-refl call) refl;
          undone = fresh.0;
          unexited = fresh.1;
          sinks = rw none tt;
          watch = λ u un. inl refl;
          runs = rw none refl;
          framed = rw none refl;
          frame = rw none (record { owed = tt; all = tt; rises = tt; kept = refl });
          places = tt;
          room = λ x. false_true x;
        } in (
          record {
            task = refl;
            inside = inside;
            opened = so.opened;
            context = rw (same_call-refl call) refl;
            holds = so-holds job (around new stack) call _ (walk_of new) _ (entering ∷ past) so;
          },
          record { from = done past; caller = caller; early = (let e = counts.returned in omega (arith, e)); so = so; on = rw none tt; at = none },
        )

  -- ## by the script

  abbrev ahead_is : ℕ → ℕ → List TaskAct → List Ctx → Ahead
  ahead_is f gone rest cs = record { acts = Call (record { 0 = f }) ∷ rest; contexts = cs; gone = gone }

  reads-enter : (d t n f gone : ℕ) (rest : List TaskAct) (cs : List Ctx) (at : PlainTask) (fresh : Bool) (stack : List OpenCall) (ack' q' : ℕ)
      → at.stack ≡ plain_stack job fresh First stack → at.next ≡ n
      → ahead d at.acts at.contexts at.gone ≡ ahead_is f gone rest cs → Calls job h past ack' q' t First stack
      → after_item job d at (Enter (call_of (record { 0 = t }) n) (context cs) (record { 0 = f }) (top_of stack))
      ≡ Some (record {
        next = suc at.next;
        acts = rest;
        gone = suc gone;
        contexts = cs;
        stack = record { call = call_of (record { 0 = t }) n; ctx = context cs; func = f; scripted = true; phase = Dispatch } ∷ at.stack;
      })
  unfolding after_item
  reads-enter d t n f gone rest cs at fresh [] ack' q' st nx a k = rw (nx, st, a, ==-refl n, ==-refl f, ==-refl (rank (context cs))) refl
  reads-enter d t n f gone rest cs at fresh (c ∷ below) ack' q' st nx a k = rw (
    nx,
    st,
    same_call-refl c.call,
    k.1.1,
    a,
    ==-refl n,
    ==-refl f,
    ==-refl (rank (context cs)),
  ) refl

  pub enter_row : (t n gone f : ℕ) (rest : List TaskAct) (cs : List Ctx) (w : ℕ) (stack : List OpenCall)
      → TaskRule job h past ack word t (task n gone (Call (record { 0 = f }) ∷ rest) cs stack w First)
      → Row (Enter (call_of (record { 0 = t }) n) (context cs) (record { 0 = f }) (top_of stack)) t
      (task (suc n) gone (Call (record { 0 = f }) ∷ rest) cs (opened (call_of (record { 0 = t }) n) (context cs) f true ∷ stack) w Fetch)
  enter_row t n gone f rest cs w stack k =
      let item : Item = Enter (call_of (record { 0 = t }) n) (context cs) (record { 0 = f }) (top_of stack) in
      let at : PlainTask = record {
        next = suc k.run.at.next;
        acts = rest;
        gone = suc gone;
        contexts =
            cs;
        stack = record { call = call_of (record { 0 = t }) n; ctx = context cs; func = f; scripted = true; phase = Dispatch } ∷ k.run.at.stack;
      } in
      let fo = follows job past item t k.run.at at (λ v. refl) runs k.run.is
      (reads-enter (done past) t n f gone rest cs k.run.at k.run.fresh stack ack q k.run.stack k.run.next k.run.ahead k.calls) (of_exits k.miss) in
      let new = fresh_call t n (context cs) f (top_of stack) true stack k.script.0 k.run.at k.run.is k.run.next in (
        fo.0,
        record {
          word' = k.word';
          gone = k.gone;
          total = k.total;
          quiet = k.quiet;
          first = tt;
          reached = k.reached;
          stands = (refl, refl);
          grounded = (tt, k.grounded);
          run = record {
            fresh = false;
            at = at;
            is = fo.1;
            next = ap suc k.run.next;
            stack = ap (λ (fs : List Frame). record {
              call = call_of (record { 0 = t }) n;
              ctx = context cs;
              func = f;
              scripted = true;
              phase = Dispatch;
            } ∷ fs) (k.run.stack ∙ first_stack job k.run.fresh stack);
            ahead = refl;
            counted = λ e. refl;
          };
          opens = k.opens;
          miss = rw (==-refl t) refl;
          few = k.few;
          script = rw (open_first stack) at k.script.1;
          calls = (
            new.0,
            new.1,
            calls_carried job h past (item ∷ past) (begun-more item past) (omega arith) ack q t First stack
                (older_untouched job past (call_of (record { 0 = t }) n) item stack (λ d e. e)
                (opens-of job past t (task n gone (Call (record { 0 = f }) ∷ rest) cs stack w First) k.run).number) k.calls,
          );
        },
      )

  -- ## by a user's act

  module _ (ok : IsWordJob job) (n gone : ℕ) (acts : List TaskAct) (cs : List Ctx) (w : ℕ) (c : OpenCall) (below : List OpenCall) (u : ℕ) (o : Owed) where
    reads-owed : (d : ℕ) (at : PlainTask) (under : List Frame) (fresh : Bool) → at.stack ≡ frame_of c (InBack u (Some o) fresh) ∷ under → at.next ≡ n
        → after_item job d at (Enter (call_of c.call.task n) o.ctx (record { 0 = o.func }) (Some c.call))
        ≡ Some (record at {
          next = suc at.next;
          stack = record {
            call = call_of c.call.task n;
            ctx = o.ctx;
            func = o.func;
            scripted = false;
            phase = Dispatch;
          } ∷ frame_of c (InBack u None false) ∷ under;
        })
    unfolding after_item
    reads-owed d at under fresh st nx = rw (nx, st, same_call-refl c.call, ==-refl n, ==-refl o.func, ==-refl (rank o.ctx)) refl

    pub act_row : TaskRule job h past ack word c.call.task.0 (task n gone acts cs (c ∷ below) w (Acting u o))
        → Row (Enter (call_of c.call.task n) o.ctx (record { 0 = o.func }) (Some c.call)) c.call.task.0
        (task (suc n) gone acts cs (opened (call_of c.call.task n) o.ctx o.func false ∷ record c { user = u } ∷ below) w Fetch)
    act_row k =
        let t : ℕ = c.call.task.0 in
        let item : Item = Enter (call_of c.call.task n) o.ctx (record { 0 = o.func }) (Some c.call) in
        let under : List Frame = plain_stack job false (under_call c below) below in
        let at : PlainTask = record k.run.at {
          next = suc k.run.at.next;
          stack = record {
            call = call_of c.call.task n;
            ctx = o.ctx;
            func = o.func;
            scripted =
                false;
            phase = Dispatch;
          } ∷ frame_of c (InBack u None false) ∷ under;
        } in
        let fo = follows job past item t k.run.at at (λ v. refl) runs k.run.is
        (reads-owed (done past) k.run.at under k.run.fresh k.run.stack k.run.next) (of_exits k.miss) in
        let inside : o.func < funcs job =
        named job c.ctx (spec_at job u).act o k.calls.1.at.2 (each-get (λ s. IsActNamed job s.act) job.users u plain_spec tt ok.job'.acts) in
        let new = fresh_call t n o.ctx o.func (Some c.call) false (record c { user = u } ∷ below) inside k.run.at k.run.is k.run.next in
        let older = older_untouched job past (call_of c.call.task n) item (c ∷ below) (λ d e. e)
        (opens-of job past t (task n gone acts cs (c ∷ below) w (Acting u o)) k.run).number in
        let le = begun-more item past in
        let d : Dispatches job h (item ∷ past) ack q c below (Acting u o) =
        call_carried job h past (item ∷ past) le (omega arith) ack q c below (Acting u o) older.0 k.calls.1 in (
          fo.0,
          mid_kept job h ack word t past (item ∷ past) n (suc n) gone acts cs w (c ∷ below) (Acting u o) Fetch
              (opened (call_of c.call.task n) o.ctx o.func false) (record c { user = u } ∷ below) refl refl k false at fo.1
              (ap suc k.run.next) refl refl refl refl refl k.opens (rw (==-refl t) refl) k.few refl (tt, k.grounded) (
                new.0,
                new.1,
                (
                  (let oc = opened_carried job h past (item ∷ past) le (omega arith) t c older.0 k.calls.0 in
                      record { task = oc.task; inside = oc.inside; opened = oc.opened; context = oc.context; holds = oc.holds }),
                  record { from = d.from; caller = d.caller; early = d.early; so = d.so; on = d.on; at = (d.at.0, d.at.1) },
                  calls_carried job h past (item ∷ past) le (omega arith) ack q t (under_call c below) below older.1 k.calls.2,
                ),
              ),
        )
