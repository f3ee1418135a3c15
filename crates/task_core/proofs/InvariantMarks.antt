-- A task keeps its invariant over the marks of its top call.
use Rattle.std.proofs.Common.{cond, ◌≡◌, ℕ, suc, ◌<◌, ◌≤◌, Bool, true, false, not, ◌||◌, ◌&&◌, List, [], ◌∷◌, ◌++◌, Option, Some, None, length, nat_lt, refl, sym, subst, inl, inr, ltb-true}
use Rattle.std.specs.List.{AllByRecursion as Each}
use Rattle.ft_base.specs.declared.context.Ctx.{Ctx}
use Rattle.ft_base.specs.declared.context.Ctx.TheVariants.{Irq}
use Rattle.ft_base.specs.declared.item.Reason.{Reason}
use Rattle.ft_base.specs.declared.task.TaskAct.{TaskAct}
use Rattle.ft_base.specs.declared.user.Act.{Act}
use Rattle.ft_base.specs.declared.user.Act.TheVariants.{CallIn, IrqIn}
use Rattle.ft_base.specs.Desk.{plain_spec, spec_at}
use Rattle.ft_base.specs.Job.{Job, funcs}
use Rattle.ft_base.specs.Kinds.{cancels, has_depth, has_exit}
use Rattle.ft_base.specs.Same.{rank}
use Rattle.ft_base.specs.WellFormed.{IsActNamed}
use Rattle.ft_base.proofs.Small.{Each-snoc, false_true, or-true_either, and_both, each-get}
use Rattle.ft_hist.specs.Frames.{FrameUser}
use Rattle.ft_hist.specs.Plain.{Owed, owed_by}
use Rattle.ft_hist.specs.Dispatch.{is_full, misses_frame, takes_frame}
use Rattle.word_map.specs.Contents.{low}
use Rattle.word_machine.specs.Task.{OpenCall, TaskState, Moment, Refusing, Calling, Missing, Acting, Ending, act_in, after_user, around, call_got, called_back, guards_under, level_of, miss_in, with_top}
use Rattle.task_core.specs.Framed.{AreFramed}
use Rattle.task_core.specs.TaskInvariant.{IsActContext}
use Rattle.task_core.proofs.InvariantParts.{Keeps, in-dispatch, task-goes}
use Rattle.task_core.proofs.InvariantLoads.{Follows, after-follows, dispatch-goes}

-- ## acts

-- what is owed, if anything is, is in a context that an act in this one may have
abbrev IsOwedIn : Ctx → Option Owed → Type 0
IsOwedIn x None = Unit {0}
IsOwedIn x (Some o) = IsActContext x o.ctx

owed-in : (x : Ctx) (act : Option Act) → IsOwedIn x (owed_by x act)
owed-in x None = tt
owed-in x (Some (CallIn f)) = inl refl
owed-in x (Some (IrqIn f)) = by (nat_lt (rank x) (rank Irq)) refl
  where
    by : (b : Bool) → nat_lt (rank x) (rank Irq) ≡ b → IsOwedIn x (cond b (Some (record { ctx = Irq; func = f.0 })) None)
    by true e = inr (ltb-true (rank x) (rank Irq) e, refl)
    by false e = tt

-- the call that an act owes is in a context that it may have
pub owed-context : (x : Ctx) (act : Option Act) (o : Owed) → owed_by x act ≡ Some o → IsActContext x o.ctx
owed-context x act o e = subst (λ w. IsOwedIn x w) e (owed-in x act)

-- and is a call of a function of the job
abbrev IsNamedIn : Job → Option Owed → Type 0
IsNamedIn job None = Unit {0}
IsNamedIn job (Some o) = o.func < funcs job

owed-named : (job : Job) (x : Ctx) (act : Option Act) → IsActNamed job act → IsNamedIn job (owed_by x act)
owed-named job x None named = tt
owed-named job x (Some (CallIn f)) named = named
owed-named job x (Some (IrqIn f)) named = by (nat_lt (rank x) (rank Irq))
  where
    by : (b : Bool) → IsNamedIn job (cond b (Some (record { ctx = Irq; func = f.0 })) None)
    by true = named
    by false = tt

-- ## the frame after a callback

module _ (job : Job) (c : OpenCall) (below : List OpenCall) (u reg place : ℕ) where
  -- a call that has no frame then owes nothing
  bare-called : (framed takes cancel : Bool) (users : List FrameUser) (m : FrameUser) → (framed ≡ false → users ≡ []) → (framed || takes) ≡ false
      → cond (takes && not cancel) (users ++ m ∷ []) users ≡ []
  bare-called true takes cancel users m bare e = false_true (sym e)
  bare-called false true cancel users m bare e = false_true (sym e)
  bare-called false false cancel users m bare e = bare refl

  -- there is room for the frame that it takes
  few-called : (framed takes : Bool) (level : ℕ) → cond framed (suc level) level ≤ job.frames → (takes ≡ true → level < job.frames)
      → cond (framed || takes) (suc level) level ≤ job.frames
  few-called true takes level few room = few
  few-called false true level few room = room refl
  few-called false false level few room = few

  takes-room : (has_depth (spec_at job u).kind ≡ true → level_of below < job.frames) → takes_frame job (around c below) u ≡ true → level_of below < job.frames
  takes-room room e = elim (or-true_either (has_depth (spec_at job u).kind) _ e) [
    | inl y ↦ room y
    | inr y ↦ ltb-true (level_of below) job.frames (and_both (has_exit (spec_at job u).kind) _ y).1
  ]

  pub called-framed : AreFramed job.frames (c ∷ below) → (has_depth (spec_at job u).kind ≡ true → level_of below < job.frames)
      → AreFramed job.frames (called_back job c below u reg place ∷ below)
  called-framed k room = record {
    bare = (
      bare-called c.framed (takes_frame job (around c below) u) (cancels (spec_at job u).kind) c.users (record { user = u; reg = reg; entry = place })
          k.bare.0,
      k.bare.1,
    );
    few = few-called c.framed (takes_frame job (around c below) u) (level_of below) k.few (takes-room room);
  }

  -- the users of the frame are users of the job
  pub called-users : u < length job.users → Each (λ o. o.user < length job.users) c.users
      → Each (λ o. o.user < length job.users) (called_back job c below u reg place).users
  called-users lt us = by (takes_frame job (around c below) u && not (cancels (spec_at job u).kind))
    where
      by : (b : Bool) → Each (λ o. o.user < length job.users) (cond b (c.users ++ record { user = u; reg = reg; entry = place } ∷ []) c.users)
      by true = Each-snoc (λ o. o.user < length job.users) c.users (record { user = u; reg = reg; entry = place }) us lt
      by false = us

-- ## a callback

module _ (job : Job) (named : Each (λ s. IsActNamed job s.act) job.users) (P : ℕ → List TaskAct → Type 0) (x : TaskState) (c : OpenCall) (below : List OpenCall) where
  -- the calls below have left a level of the guard of its context
  abbrev Free : Type 0
  Free = is_full job (guards_under c.scripted below) c.ctx ≡ false

  act-follows : (u : ℕ) → u < length job.users → Free → Follows job c below (act_in (owed_by c.ctx (spec_at job u).act) u)
  act-follows u lt free = by (owed_by c.ctx (spec_at job u).act) refl
      (owed-named job c.ctx (spec_at job u).act (each-get (λ s. IsActNamed job s.act) job.users u plain_spec tt named))
    where
      by : (o : Option Owed) → owed_by c.ctx (spec_at job u).act ≡ o → IsNamedIn job o → Follows job c below (act_in o u)
      by None e owed = (refl, record { names = lt; acted = λ h. false_true h; free = λ h. free; found = tt })
      by (Some o) e owed = (refl, record { names = (lt, owed); acted = λ h. false_true h; free = λ h. free; found = e })

  miss-follows : (b : Bool) (u : ℕ) (m : Moment) → u < length job.users → Free → Follows job c below m → Follows job c below (miss_in b u m)
  miss-follows true u m lt free h = (refl, record { names = lt; acted = λ h. false_true h; free = λ e. free; found = tt })
  miss-follows false u m lt free h = h

  pub refuse-row : (u reg : ℕ) (reason : Reason) (v : ℕ) → Keeps job P (with_top x c below (Refusing u reg reason))
      → Keeps job P (call_got job (with_top x c below (Refusing u reg reason)) c below (Refusing u reg reason) v)
  refuse-row u reg reason v k =
      dispatch-goes job c below P x (Refusing u reg reason) (after_user c.ran u) refl (after-follows job c below c.ran u k.0.calls.0.names) k

  pub back-row : (u reg v : ℕ) → Keeps job P (with_top x c below (Calling u reg))
      → Keeps job P (call_got job (with_top x c below (Calling u reg)) c below (Calling u reg) v)
  back-row u reg v k =
      let call = k.0.calls.0 in
      let lt : u < length job.users = call.names in
      let misses : Bool = misses_frame job (around c below) u in
      let acts : Moment = act_in (owed_by c.ctx (spec_at job u).act) u in
      let f : Follows job c below (miss_in misses u acts) = miss-follows misses u acts lt (call.free refl) (act-follows u lt (call.free refl)) in
      let b = in-dispatch (miss_in misses u acts) f.0 in
      let c' : OpenCall = called_back job c below u reg (low v) in
      task-goes job c below P x (Calling u reg) (miss_in misses u acts) c'.ran c'.runs c'.framed c'.users refl b.0 (rw b.1 refl) (λ e. refl)
      (called-framed job c below u reg (low v) k.0.framed call.found) (called-users job c below u reg (low v) lt call.users) f.1 k

  pub miss-row : (u v : ℕ) → Keeps job P (with_top x c below (Missing u)) → Keeps job P (call_got job (with_top x c below (Missing u)) c below (Missing u) v)
  miss-row u v k =
      dispatch-goes job c below P x (Missing u) (act_in (owed_by c.ctx (spec_at job u).act) u) refl
      (act-follows u k.0.calls.0.names (k.0.calls.0.free refl)) k

  pub act-row : (u : ℕ) (o : Owed) (v : ℕ) → Keeps job P (with_top x c below (Acting u o))
      → Keeps job P (call_got job (with_top x c below (Acting u o)) c below (Acting u o) v)
  act-row u o v (k, told) =
      let call = k.calls.0 in (
        record {
          script = k.script;
          raised = k.raised;
          stands = (k.stands.0, refl);
          first = tt;
          ground = λ e. k.ground refl;
          framed = record { bare = (λ e. refl, k.framed.bare); few = k.framed.few };
          calls = (
            record {
              func = call.names.1;
              users = tt;
              names = tt;
              scripted = λ e. false_true e;
              acted = λ e. false_true e;
              called = owed-context c.ctx (spec_at job u).act o call.found;
              free = λ e. false_true e;
              found = tt;
            },
            (
              record {
                func = call.func;
                users = call.users;
                names = call.names.0;
                scripted = λ e. false_true e;
                acted = λ e. false_true e;
                called = call.called;
                free = λ e. call.free refl;
                found = tt;
              },
              k.calls.1,
            ),
          );
        },
        told,
      )

  pub back-end_row : (u v : ℕ) → Keeps job P (with_top x c below (Ending u)) → Keeps job P (call_got job (with_top x c below (Ending u)) c below (Ending u) v)
  back-end_row u v k = dispatch-goes job c below P x (Ending u) (after_user c.ran u) refl (after-follows job c below c.ran u k.0.calls.0.names) k
