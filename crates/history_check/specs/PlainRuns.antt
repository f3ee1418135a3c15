-- The plain run of a task as the program keeps it.
use Rattle.std.specs.Prelude.{ℕ, suc, ◌+◌, Bool, true, false, ◌&&◌, ◌==◌, nat_le, List, [], ◌∷◌, map, Option, Some, None, option_map, if◌then◌else◌}
use Rattle.ft_base.specs.declared.number.CallNo.{CallNo}
use Rattle.ft_base.specs.declared.context.Ctx.{Ctx}
use Rattle.ft_base.specs.declared.item.Item.{Item}
use Rattle.ft_base.specs.declared.item.Item.TheVariants.{Begin, Return, Enter, Back, BackEnd, Refuse, Miss, Body, Leave, Exit, ExitEnd}
use Rattle.ft_base.specs.declared.task.TaskAct.{TaskAct}
use Rattle.ft_base.specs.declared.task.TaskAct.TheVariants.{After, Call, Ret}
use Rattle.ft_base.specs.Desk.{spec_at}
use Rattle.ft_base.specs.Job.{Job}
use Rattle.ft_base.specs.Same.{same_call, same_ctx, context}
use Rattle.ft_hist.specs.Plain as plain
use Rattle.ft_hist.specs.Plain.{Ahead, PlainTask, in_phase, on_top, Dispatch, InBack, Running, Leaving, InExit, owed_by}
use Rattle.history_check.specs.declared.acts.Acts.{Acts}
use Rattle.history_check.specs.declared.frame.Owed.{Owed}
use Rattle.history_check.specs.declared.frame.Phase.{Phase}
use Rattle.history_check.specs.declared.frame.Phase.TheVariants as kept
use Rattle.history_check.specs.declared.frame.Frame.{Frame}

-- what is owed
abbrev pub owed_of : Owed → plain.Owed
owed_of o = record { ctx = o.ctx; func = o.func.0 }

-- how far a call is
abbrev pub phase_of : Phase → plain.Phase
phase_of kept.Dispatch = Dispatch
phase_of (kept.InBack user owed fresh) = InBack user.0 (option_map owed_of owed) fresh
phase_of kept.Running = Running
phase_of kept.Leaving = Leaving
phase_of (kept.InExit user) = InExit user.0

-- a call
abbrev pub frame_of : Frame → plain.Frame
frame_of t = record { call = t.call; ctx = t.ctx; func = t.func.0; scripted = t.scripted; phase = phase_of t.phase }

-- calls, the top first
abbrev pub stack_of : List Frame → List plain.Frame
stack_of ts = map frame_of ts

-- whether the script's next act is in a call's body
abbrev pub runs_script : plain.Frame → Bool
runs_script t = by_phase t.phase
  where
    by_phase : plain.Phase → Bool
    by_phase Running = t.scripted
    by_phase _ = false

-- ## acts

-- the acts to come, the raised contexts, and how many acts were done
abbrev pub ahead_of : Acts → Ahead
ahead_of a = record { acts = a.rest.now; contexts = a.contexts.items; gone = a.gone }

-- the task after one more act, if the next one is a call of this function in this context
abbrev pub called : ℕ → Ctx → Ahead → Option Ahead
called f ctx a = by_acts a.acts
  where
    by_acts : List TaskAct → Option Ahead
    by_acts (Call g ∷ rest) =
        if (g.0 == f) && same_ctx ctx (context a.contexts) then Some (record { acts = rest; contexts = a.contexts; gone = suc a.gone }) else None
    by_acts _ = None

-- the task after one more act, if the next one is a return
abbrev pub returned : Ahead → Option Ahead
returned a = by_acts a.acts
  where
    by_acts : List TaskAct → Option Ahead
    by_acts (Ret ∷ rest) = Some (record { acts = rest; contexts = a.contexts; gone = suc a.gone })
    by_acts _ = None

-- how many acts are done after so many and those to come that give no items
abbrev pub past_silent : ℕ → List TaskAct → ℕ
past_silent n [] = n
past_silent n (Call f ∷ rest) = n
past_silent n (Ret ∷ rest) = n
past_silent n (_ ∷ rest) = past_silent (suc n) rest

-- an act that gives no items, and whose wait is met by this many commands that have returned
abbrev pub is_silent : ℕ → TaskAct → Bool
is_silent returned (Call f) = false
is_silent returned Ret = false
is_silent returned (After n) = nat_le n returned
is_silent returned _ = true

-- ## items that change no more than how far the top call is

-- how far the top call is after an item of it, if the item may come there; none if the item does more than that
abbrev pub phase_after : Job → plain.Frame → Item → Option plain.Phase
phase_after job t (Back call u) = by_phase t.phase
  where
    by_phase : plain.Phase → Option plain.Phase
    by_phase Dispatch = Some (InBack u.0 (owed_by t.ctx (spec_at job u.0).act) true)
    by_phase _ = None
phase_after job t (Miss call u) = by_phase t.phase
  where
    by_phase : plain.Phase → Option plain.Phase
    by_phase (InBack v owed true) = if u.0 == v then Some (InBack v owed false) else None
    by_phase _ = None
phase_after job t (BackEnd call u) = by_phase t.phase
  where
    by_phase : plain.Phase → Option plain.Phase
    by_phase (InBack v None fresh) = if u.0 == v then Some Dispatch else None
    by_phase _ = None
phase_after job t (Refuse call u reason) = by_phase t.phase
  where
    by_phase : plain.Phase → Option plain.Phase
    by_phase Dispatch = Some Dispatch
    by_phase _ = None
phase_after job t (Body call g ran) = by_phase t.phase
  where
    by_phase : plain.Phase → Option plain.Phase
    by_phase Dispatch = Some Running
    by_phase _ = None
phase_after job t (Exit call u entry) = by_phase t.phase
  where
    by_phase : plain.Phase → Option plain.Phase
    by_phase Leaving = Some (InExit u.0)
    by_phase _ = None
phase_after job t (ExitEnd call u) = by_phase t.phase
  where
    by_phase : plain.Phase → Option plain.Phase
    by_phase (InExit v) = if u.0 == v then Some Leaving else None
    by_phase _ = None
phase_after job t _ = None

-- ## a task

-- a task on its plain run
abbrev pub task_of : ℕ → Acts → List Frame → PlainTask
task_of next a stack = record { next = next; acts = a.rest.now; gone = a.gone; contexts = a.contexts.items; stack = stack_of stack }

-- a task of these acts before its first
abbrev pub starting : List TaskAct → PlainTask
starting acts = record { next = 1; acts = acts; gone = 0; contexts = []; stack = [] }

-- the task after the top call is in this phase, if it may come there
abbrev pub moved : PlainTask → plain.Frame → List plain.Frame → Option plain.Phase → Option PlainTask
moved s t below phase = option_map (λ p. on_top s (in_phase t p) below) phase

-- the task with these acts to come, if there are any
abbrev pub with_acts : PlainTask → Option Ahead → Option PlainTask
with_acts s a = option_map (λ (b : Ahead). record s { acts = b.acts; gone = b.gone; contexts = b.contexts }) a

-- the task after one more call was opened
abbrev pub opened : PlainTask → CallNo → Ctx → ℕ → Bool → PlainTask
opened s call ctx f scripted = record s {
  next = s.next + 1;
  stack = record { call = call; ctx = ctx; func = f; scripted = scripted; phase = Dispatch } ∷ s.stack;
}

-- the call on the top
abbrev pub top_of : List plain.Frame → Option plain.Frame
top_of [] = None
top_of (t ∷ below) = Some t

-- the top call, if it is this one
abbrev pub top_if : List plain.Frame → CallNo → Option plain.Frame
top_if [] call = None
top_if (t ∷ below) call = if same_call t.call call then Some t else None

-- an item that changes no more than how far the top call is
abbrev pub IsStep : Item → Type 0
IsStep (Begin k) = ⊥
IsStep (Return k answer) = ⊥
IsStep (Enter call ctx f caller) = ⊥
IsStep (Leave call) = ⊥
IsStep (Item.Ret call to) = ⊥
IsStep _ = Unit {0}
