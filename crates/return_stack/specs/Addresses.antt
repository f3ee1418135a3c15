-- How return addresses and the shadow stack tell the open calls.
use Rattle.std.specs.Prelude.{◌≡◌, List, [], ◌∷◌, Option, Some, None, IsSome}
use Rattle.ft_base.specs.declared.number.CallNo.{CallNo}
use Rattle.return_stack.specs.declared.shadow.FrameUser.{FrameUser}
use Rattle.return_stack.specs.declared.stacks.Address.{Address}
use Rattle.return_stack.specs.declared.stacks.Address.TheVariants.{Hook, To}
use Rattle.return_stack.specs.Shadow.{ShadowFrame}
use Rattle.return_stack.specs.Calls.{StackedCall}

-- a call over those below it
abbrev pub over : Option CallNo → Option (List FrameUser) → List StackedCall → List StackedCall
over None users below = below
over (Some call) users below = record { call = call; users = users } ∷ below

-- the open calls: the latest one, the one that its return address names, and so on. The address that the hook has replaced is in the frame
abbrev pub open_calls : Option CallNo → List Address → List ShadowFrame → List StackedCall
open_calls call [] frames = []
open_calls call (To to ∷ below) frames = over call None (open_calls to below frames)
open_calls call (Hook ∷ below) [] = []
open_calls call (Hook ∷ below) (f ∷ frames) = over call (Some f.users) (open_calls f.to below frames)

-- the addresses name a call each, the outermost call's none, and each hook has its frame
abbrev pub HooksHaveFrames : Option CallNo → List Address → List ShadowFrame → Type 0
HooksHaveFrames call [] frames = (call ≡ None) × (frames ≡ [])
HooksHaveFrames call (To to ∷ below) frames = IsSome call × HooksHaveFrames to below frames
HooksHaveFrames call (Hook ∷ below) [] = ⊥
HooksHaveFrames call (Hook ∷ below) (f ∷ frames) = IsSome call × HooksHaveFrames f.to below frames
