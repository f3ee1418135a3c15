-- The frames of a task's stacks are those of the machine, and so is the room for one more.
use Rattle.std.proofs.Common.{cond, ◌≡◌, ℕ, suc, ◌≤◌, Bool, true, false, not, ◌&&◌, ◌==◌, List, [], ◌∷◌, map, Some, None, nat_lt, refl, sym, ap, ◌∙◌, arith}
use Rattle.std.proofs.lemmas.Bool.{lt-ltb}
use Rattle.std.proofs.lemmas.Bool.Decides.{nat_tests}
use Rattle.ft_base.specs.Desk.{spec_at}
use Rattle.ft_base.specs.Job.{Job}
use Rattle.ft_base.specs.Kinds.{has_exit}
use Rattle.ft_hist.specs.Dispatch.{misses_frame}
use Rattle.return_stack.specs.Calls.{frames_in, is_full}
use Rattle.word_machine.specs.Task.{OpenCall, around, level_of}
use Rattle.task_core.specs.Framed.{AreFramed, owed_user, stack_of, stacked}

pub frames-level : (cs : List OpenCall) → frames_in (map stacked cs) ≡ level_of cs
frames-level [] = refl
frames-level (c ∷ cs) = by c.framed (frames-level cs)
  where
    by : (b : Bool) → frames_in (map stacked cs) ≡ level_of cs
        → frames_in (record { call = c.call; users = cond b (Some (map owed_user c.users)) None } ∷ map stacked cs)
        ≡ cond b (suc (level_of cs)) (level_of cs)
    by true e = ap suc e
    by false e = e

-- a frame can be had exactly if the stacks are not full
room-in : (l f : ℕ) → l ≤ f → nat_lt l f ≡ not (l == f)
room-in l f le = grind (arith, nat_tests)

module _ (frames n : ℕ) (c : OpenCall) (below : List OpenCall) where
  pub room-is : AreFramed frames (c ∷ below) → nat_lt (level_of below) frames ≡ not (is_full (stack_of n frames (c ∷ below)))
  room-is k = by c.framed k.few
    where
      by : (b : Bool) → cond b (suc (level_of below)) (level_of below) ≤ frames
          → nat_lt (level_of below) frames
          ≡ not (is_full (record {
            calls = record { call = c.call; users = cond b (Some (map owed_user c.users)) None } ∷ map stacked below;
            call_limit = n;
            frame_limit = frames;
          }))
      by true few = lt-ltb (level_of below) frames (omega arith)
      by false few = room-in (level_of below) frames few ∙ ap (λ l. not (l == frames)) (sym (frames-level below))

twice : (b : Bool) → not (not b) ≡ b
twice true = refl
twice false = refl

pub misses-same : (job : Job) (n : ℕ) (c : OpenCall) (below : List OpenCall) (u : ℕ) → AreFramed job.frames (c ∷ below)
    → misses_frame job (around c below) u ≡ (has_exit (spec_at job u).kind && is_full (stack_of n job.frames (c ∷ below)))
misses-same job n c below u k =
    ap (λ b. has_exit (spec_at job u).kind && b)
    (ap not (room-is job.frames n c below k) ∙ twice (is_full (stack_of n job.frames (c ∷ below))))
