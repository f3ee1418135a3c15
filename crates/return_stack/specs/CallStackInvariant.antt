-- How the stacks keep the open calls.
use Rattle.std.specs.Prelude.{◌<◌, ◌≤◌, ◌^◌, reverse, vec_len, vec_capacity}
use Rattle.return_stack.specs.declared.stacks.Stacks.TheInside.{Inside}
use Rattle.return_stack.specs.Calls.{CallStack}
use Rattle.return_stack.specs.Addresses.{open_calls, HooksHaveFrames}

-- the open calls, the latest first
abbrev pub stack_of : Inside → CallStack
stack_of s = record {
  calls = open_calls s.running (reverse s.addresses.items) s.shadow.frames;
  call_limit = s.call_limit;
  frame_limit = s.shadow.limit;
}

-- the addresses fit the shadow stack, and there is room for all calls
pub record CallStackInvariant (s : Inside) : Type 0 where
  pub tied : HooksHaveFrames s.running (reverse s.addresses.items) s.shadow.frames
  pub within : vec_len s.addresses ≤ s.call_limit
  pub room : s.call_limit ≤ vec_capacity s.addresses
  pub small : s.call_limit < 2 ^ 32
