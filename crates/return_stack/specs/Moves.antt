-- What becomes of the open calls in any list of moves, and of an ordinary stack of calls.
use Rattle.std.specs.Prelude.{List, [], ◌∷◌, map, drop, if◌then◌else◌}
use Rattle.ft_base.specs.declared.number.CallNo.{CallNo}
use Rattle.return_stack.specs.declared.shadow.FrameUser.{FrameUser}
use Rattle.return_stack.specs.Calls.{CallStack, is_full, with_call, with_hook, with_user, without_empty}

-- what a task and its tracer do to the stacks: a call, a hook, a user of a frame, a frame without users taken away, a return
pub data Move : Type 0 where
  Push : (call : CallNo) → Move
  HookTop : Move
  AddUser : (user : FrameUser) → Move
  DropEmpty : Move
  Pop : Move

-- the stacks after a move; a hook that is refused changes nothing
abbrev pub after_move : CallStack → Move → CallStack
after_move s (Push call) = record s { calls = with_call s.calls call }
after_move s HookTop = if is_full s then s else record s { calls = with_hook s.calls }
after_move s (AddUser user) = record s { calls = with_user s.calls user }
after_move s DropEmpty = record s { calls = without_empty s.calls }
after_move s Pop = record s { calls = drop 1 s.calls }

-- the stacks after moves, the first of them first
abbrev pub after_moves : CallStack → List Move → CallStack
after_moves s [] = s
after_moves s (move ∷ rest) = after_moves (after_move s move) rest

-- the open calls without their frames, the latest first
abbrev pub plain_calls : CallStack → List CallNo
plain_calls s = map (λ c. c.call) s.calls

-- an ordinary stack of calls after a move: only calls and returns count
abbrev pub ordinary_move : List CallNo → Move → List CallNo
ordinary_move calls (Push call) = call ∷ calls
ordinary_move calls Pop = drop 1 calls
ordinary_move calls _ = calls

-- an ordinary stack of calls after moves
abbrev pub ordinary : List CallNo → List Move → List CallNo
ordinary calls [] = calls
ordinary calls (move ∷ rest) = ordinary (ordinary_move calls move) rest
