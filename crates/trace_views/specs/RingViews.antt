-- What the view rings has made of the items of a job so far.
use Rattle.std.specs.Prelude.{ℕ, ◌≡◌, ◌≤◌, ◌<◌, List, length, map, reverse, slice_index}
use Rattle.std.specs.List.{AllByRecursion as Each}
use Rattle.ft_base.specs.declared.item.Item.{Item}
use Rattle.ft_base.specs.Job.{Job}
use Rattle.ring_rules.specs.Fold.{Tracing, after_items, at_start}
use Rattle.ring_rules.specs.Hits.{quota, trigger}
use Rattle.ring_rules.specs.Legal.{fired_at}
use Rattle.ring_rules.specs.Plan.{TracePlan, plan_of}
use Rattle.trace_views.specs.declared.ring_view.RingsView.{RingsView}
use Rattle.trace_views.specs.declared.switch.Switch.{Switch}
use Rattle.trace_views.specs.OpenCalls.{IsFollowed}
use Rattle.trace_views.specs.LineRings.{LineBox, ring_of}
use Rattle.trace_views.specs.RingLines.{IsLineAt}

-- the switch and the hits are as the definition has them
pub record IsSwitchOf (s : Tracing) (switch : Switch) : Type 0 where
  pub on' : switch.on ≡ s.on
  pub hits' : switch.hits.items ≡ s.hits

-- of a trigger with so many hits so many have fired
abbrev pub IsFiredBy : TracePlan → List ℕ → List (List ℕ) → Type 0
IsFiredBy plan hits fired =
    (length fired ≡ length plan.triggers)
    × ((i : ℕ) → i < length plan.triggers → length (fired_at fired i) ≡ quota (trigger plan i).limit (slice_index hits i))

-- what is so far by the definition, after these items of a job, the latest first
abbrev pub so_far : Job → List Item → Tracing
so_far job past = after_items (plan_of job) 0 (reverse past) (at_start (plan_of job))

-- A ring of a job after these items.
--   most'   it holds as many entries as the job says
--   few     no more were written than items came
--   lines'  each line is that of the entry callback at its place
pub record IsRingAfter (job : Job) (past : List Item) (b : LineBox) : Type 0 where
  pub most' : b.most ≡ job.rings.ring
  pub few : b.written ≤ length past
  pub lines' : Each (λ line. IsLineAt job (reverse past) line.place line) b.lines

-- The view has taken these items of a job, the latest first.
--   plan'    what rings need to know of the job
--   calls    the open calls
--   place'   the place of the next item
--   switch'  the switch and the hits
--   rings'   the rings
--   each     what each of them keeps
pub record HasRings (job : Job) (past : List Item) (view : RingsView) : Type 0 where
  pub plan' : view.plan ≡ plan_of job
  pub calls : IsFollowed job past view.stacks
  pub place' : view.place ≡ length past
  pub switch' : IsSwitchOf (so_far job past) view.switch
  pub rings' : map ring_of view.rings.items ≡ (so_far job past).rings.cpus
  pub each : Each (IsRingAfter job past) view.rings.items
