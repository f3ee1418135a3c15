-- What the callback of an fprobe leaves on the stacks.
use Rattle.std.proofs.Common.{cond, ◌≡◌, ℕ, Bool, true, false, not, ◌||◌, ◌&&◌, List, [], ◌∷◌, ◌++◌, map, Some, None, nat_lt, refl, ap, ◌∙◌}
use Rattle.std.specs.Prelude.{Option, unwrap_or}
use Rattle.std.specs.Option.{option_map}
use Rattle.std.proofs.lemmas.List.{map-append}
use Rattle.ft_base.specs.declared.user.Kind.{Kind}
use Rattle.ft_base.specs.declared.user.Kind.TheVariants.{Fprobe}
use Rattle.ft_base.specs.Desk.{spec_at}
use Rattle.ft_base.specs.Job.{Job}
use Rattle.ft_base.specs.Kinds.{cancels, has_depth, has_exit, is_fprobe}
use Rattle.ft_base.proofs.Small.{false_true}
use Rattle.ft_hist.specs.Frames.{FrameUser}
use Rattle.ft_hist.specs.Dispatch.{takes_frame}
use Rattle.return_stack.specs.declared.shadow.FrameUser.{FrameUser as OwedUser}
use Rattle.return_stack.specs.Calls.{StackedCall, is_full, with_hook, with_user}
use Rattle.fprobe.specs.declared.entry.Probe.TheVariants.{Plain, Wanted, Cancelled, Missed}
use Rattle.fprobe.specs.Entry.{calls_after}
use Rattle.word_machine.specs.Task.{OpenCall, around, called_back, level_of}
use Rattle.task_core.specs.Framed.{AreFramed, owed_user, probe_of, stack_of, stacked}
use Rattle.task_core.proofs.Stacks.{room-is}

fprobe-depth : (k : Kind) → is_fprobe k ≡ true → has_depth k ≡ false
fprobe-depth (Fprobe exit cancel) e = refl
fprobe-depth _ e = false_true e

depth-keeps : (k : Kind) → has_depth k ≡ true → cancels k ≡ false
depth-keeps (Fprobe exit cancel) e = false_true e
depth-keeps _ e = refl

-- the users of a call's frame, if it has one
abbrev owing : Bool → List FrameUser → Option (List OwedUser)
owing framed users = cond framed (Some (map owed_user users)) None

none-owed : (framed : Bool) (users : List FrameUser) → owing (framed || false) users ≡ owing framed users
none-owed true users = refl
none-owed false users = refl

cancelled-owed : (framed : Bool) (users : List FrameUser) → (framed ≡ false → users ≡ [])
    → owing (framed || true) users ≡ Some (unwrap_or (owing framed users) [])
cancelled-owed true users bare = refl
cancelled-owed false users bare = rw (bare refl) refl

wanted-owed : (framed : Bool) (users : List FrameUser) (m : FrameUser) → (framed ≡ false → users ≡ [])
    → owing (framed || true) (users ++ m ∷ []) ≡ option_map (λ us. us ++ owed_user m ∷ []) (Some (unwrap_or (owing framed users) []))
wanted-owed true users m bare = ap (λ (us : List OwedUser). Some us) (map-append owed_user users (m ∷ []))
wanted-owed false users m bare = rw (bare refl) refl

-- a call after a callback, which takes a frame or not, and is owed or not
abbrev after_callback : OpenCall → List StackedCall → FrameUser → Bool → Bool → List StackedCall
after_callback c rest m takes cancel =
    record { call = c.call; users = owing (c.framed || takes) (cond (takes && not cancel) (c.users ++ m ∷ []) c.users) } ∷ rest

-- a call with these users, over the others
abbrev over : OpenCall → List StackedCall → Option (List OwedUser) → List StackedCall
over c rest users = record { call = c.call; users = users } ∷ rest

module _ (c : OpenCall) (rest : List StackedCall) (m : FrameUser) where
  probe-after : (exit full cancel : Bool) → (c.framed ≡ false → c.users ≡ [])
      → after_callback c rest m (exit && not full) cancel
      ≡ calls_after (cond exit (cond full Missed (cond cancel Cancelled Wanted)) Plain) (stacked c ∷ rest) (owed_user m)
  probe-after false full cancel bare = ap (over c rest) (none-owed c.framed c.users)
  probe-after true true cancel bare = ap (over c rest) (none-owed c.framed c.users)
  probe-after true false true bare = ap (over c rest) (cancelled-owed c.framed c.users bare)
  probe-after true false false bare = ap (over c rest) (wanted-owed c.framed c.users m bare)

module _ (job : Job) (n : ℕ) (c : OpenCall) (below : List OpenCall) (u reg place : ℕ) where
  abbrev user : FrameUser
  user = record { user = u; reg = reg; entry = place }

  abbrev full : Bool
  full = is_full (stack_of n job.frames (c ∷ below))

  -- it takes a frame if it has an exit, and there is room
  takes-is : AreFramed job.frames (c ∷ below) → is_fprobe (spec_at job u).kind ≡ true
      → takes_frame job (around c below) u ≡ (has_exit (spec_at job u).kind && not full)
  takes-is k e =
      ap (λ b. b || (has_exit (spec_at job u).kind && nat_lt (level_of below) job.frames)) (fprobe-depth (spec_at job u).kind e)
      ∙ ap (λ b. has_exit (spec_at job u).kind && b) (room-is job.frames n c below k)

  -- a graph or profile user takes a frame, and is owed its exit
  pub graph-called : AreFramed job.frames (c ∷ below) → has_depth (spec_at job u).kind ≡ true
      → map stacked (called_back job c below u reg place ∷ below) ≡ with_user (with_hook (map stacked (c ∷ below))) (owed_user user)
  graph-called k e =
      ap (λ (y : Bool × Bool). after_callback c (map stacked below) user (y.0 || (has_exit (spec_at job u).kind && nat_lt (level_of below) job.frames)) y.1)
      (λ i. (e i, depth-keeps (spec_at job u).kind e i))
      ∙ probe-after c (map stacked below) user true false false k.bare.0

  -- a user without an exit changes nothing
  pub other-called : AreFramed job.frames (c ∷ below) → has_depth (spec_at job u).kind ≡ false → has_exit (spec_at job u).kind ≡ false
      → map stacked (called_back job c below u reg place ∷ below) ≡ map stacked (c ∷ below)
  other-called k e e' =
      ap (λ (y : Bool × Bool). after_callback c (map stacked below) user (y.0 || (y.1 && nat_lt (level_of below) job.frames)) (cancels (spec_at job u).kind))
      (λ i. (e i, e' i))
      ∙ probe-after c (map stacked below) user false false (cancels (spec_at job u).kind) k.bare.0

  pub fprobe-called : AreFramed job.frames (c ∷ below) → is_fprobe (spec_at job u).kind ≡ true
      → map stacked (called_back job c below u reg place ∷ below)
      ≡ calls_after (probe_of (spec_at job u).kind full) (map stacked (c ∷ below)) (owed_user user)
  fprobe-called k e =
      ap (λ b. after_callback c (map stacked below) user b (cancels (spec_at job u).kind)) (takes-is k e)
      ∙ probe-after c (map stacked below) user (has_exit (spec_at job u).kind) full (cancels (spec_at job u).kind) k.bare.0
