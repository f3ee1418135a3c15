-- What becomes of a call's frame when an fprobe was called back (fprobe.rst, The fprobe entry/exit handler).
use Rattle.std.specs.Prelude.{List}
use Rattle.return_stack.specs.declared.shadow.FrameUser.{FrameUser}
use Rattle.return_stack.specs.Calls.{StackedCall, with_hook, with_user}
use Rattle.fprobe.specs.declared.entry.Probe.{Probe}
use Rattle.fprobe.specs.declared.entry.Probe.TheVariants.{Plain, Wanted, Cancelled, Missed}

-- an exit that is set up or cancelled takes a frame; only one that is set up is owed
abbrev pub calls_after : Probe → List StackedCall → FrameUser → List StackedCall
calls_after Plain calls user = calls
calls_after Missed calls user = calls
calls_after Cancelled calls user = with_hook calls
calls_after Wanted calls user = with_user (with_hook calls) user
