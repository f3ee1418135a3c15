-- The stacks of a task of the word machine, as `return_stack` has them.
use Rattle.std.specs.Prelude.{ℕ, Bool, ◌≡◌, ◌≤◌, false, List, [], map, Some, None, if◌then◌else◌}
use Rattle.std.specs.List.{AllByRecursion as Each}
use Rattle.ft_base.specs.declared.user.Kind.{Kind}
use Rattle.ft_base.specs.Kinds.{has_exit, cancels}
use Rattle.ft_hist.specs.Frames.{FrameUser}
use Rattle.return_stack.specs.declared.shadow.FrameUser.{FrameUser as OwedUser}
use Rattle.return_stack.specs.Calls.{CallStack, StackedCall}
use Rattle.fprobe.specs.declared.entry.Probe.{Probe}
use Rattle.fprobe.specs.declared.entry.Probe.TheVariants.{Plain, Wanted, Cancelled, Missed}
use Rattle.word_machine.specs.Task.{OpenCall, level_of}

-- a user of a frame
abbrev pub owed_user : FrameUser → OwedUser
owed_user m = record { user = record { 0 = m.user }; reg = m.reg; entry = m.entry }

-- an open call
abbrev pub stacked : OpenCall → StackedCall
stacked c = record { call = c.call; users = if c.framed then Some (map owed_user c.users) else None }

-- the open calls, the latest first, where there may be so many calls and frames
abbrev pub stack_of : ℕ → ℕ → List OpenCall → CallStack
stack_of calls frames cs = record { calls = map stacked cs; call_limit = calls; frame_limit = frames }

-- a call without a frame owes nothing, and all calls together have no more frames than there may be
pub record AreFramed (frames : ℕ) (cs : List OpenCall) : Type 0 where
  pub bare : Each (λ c. c.framed ≡ false → c.users ≡ []) cs
  pub few : level_of cs ≤ frames

-- what comes of the callback of a user of this kind, in a call that has no frame and can get none (full), or in any other
abbrev pub probe_of : Kind → Bool → Probe
probe_of kind full = if has_exit kind then (if full then Missed else (if cancels kind then Cancelled else Wanted)) else Plain
