-- The rings of a history that is gone through by place, from the first item to the last.
use Rattle.std.specs.Prelude.{ℕ, zero, suc, Bool, ◌&&◌, List, [], ◌∷◌, ◌++◌, length, set, slice_index, slice_index_or, replicate, if◌then◌else◌, Option, None, Some, get_or}
use Rattle.ft_base.specs.declared.number.CallNo.{CallNo}
use Rattle.ft_base.specs.declared.item.Item.{Item}
use Rattle.ft_base.specs.Items.{call_of}
use Rattle.circular_buffer.specs.Buffer.{keep_last}
use Rattle.ring_rules.specs.Plan.{TracePlan}
use Rattle.ring_rules.specs.Hits.{fires, is_hit, is_traced, trigger}

-- a CPU's ring: how many places were written into it, and the last of them, which it holds (ftrace.rst, The File System: buffer_size_kb)
pub record Ring : Type 0 where
  pub written : ℕ
  pub held : List ℕ

-- the ring of each CPU, and the places at which each trigger fired
pub record Rings : Type 0 where
  pub cpus : List Ring
  pub fired : List (List ℕ)

-- what is so far: whether tracing is on, how often each trigger was hit, and the rings
pub record Tracing : Type 0 where
  pub on : Bool
  pub hits : List ℕ
  pub rings : Rings

-- an empty ring
abbrev pub no_ring : Ring
no_ring = record { written = 0; held = [] }

-- a ring that holds so many places, after one more was written
abbrev pub write : ℕ → ℕ → Ring → Ring
write most p ring = record { written = suc ring.written; held = keep_last most (ring.held ++ p ∷ []) }

-- the CPU of a call
abbrev pub cpu_of_call : TracePlan → Option CallNo → ℕ
cpu_of_call plan None = 0
cpu_of_call plan (Some call) = get_or plan.tasks call.task.0 0

-- trigger i is hit at p: it fires while its hits before are fewer than its limit, and then switches tracing on or off
abbrev pub hit : TracePlan → ℕ → ℕ → Tracing → Tracing
hit plan p i s =
    if fires (trigger plan i).limit (slice_index s.hits i)
    then record {
      on = (trigger plan i).on;
      hits = set s.hits i (suc (slice_index s.hits i));
      rings = record { cpus = s.rings.cpus; fired = set s.rings.fired i (slice_index_or s.rings.fired i [] ++ p ∷ []) };
    }
    else record { on = s.on; hits = set s.hits i (suc (slice_index s.hits i)); rings = s.rings }

-- the first n triggers, in the order of their lines, each if the item hits it
abbrev pub hit_all : TracePlan → ℕ → Item → ℕ → Tracing → Tracing
hit_all plan p item zero s = s
hit_all plan p item (suc n) s =
    if is_hit (trigger plan n) item then hit plan p n (hit_all plan p item n s) else hit_all plan p item n s

-- the place is written into the ring of CPU c
abbrev pub written_at : TracePlan → ℕ → ℕ → Rings → Rings
written_at plan p c r = record { cpus = set r.cpus c (write plan.ring p (slice_index_or r.cpus c no_ring)); fired = r.fired }

-- while tracing is on, the place of an entry callback is written
abbrev pub traced : TracePlan → ℕ → Item → Tracing → Tracing
traced plan p item s =
    if is_traced plan item && s.on then record { on = s.on; hits = s.hits; rings = written_at plan p (cpu_of_call plan (call_of item)) s.rings } else s

-- one more item
abbrev pub after_item : TracePlan → ℕ → Item → Tracing → Tracing
after_item plan p item s = traced plan p item (hit_all plan p item (length plan.triggers) s)

-- items that stand from place p on
abbrev pub after_items : TracePlan → ℕ → List Item → Tracing → Tracing
after_items plan p [] s = s
after_items plan p (item ∷ rest) s = after_items plan (suc p) rest (after_item plan p item s)

-- what is before the first item
abbrev pub at_start : TracePlan → Tracing
at_start plan = record {
  on = plan.tracing;
  hits = replicate (length plan.triggers) 0;
  rings = record { cpus = replicate plan.cpus no_ring; fired = replicate (length plan.triggers) [] };
}

-- the rings of a history
abbrev pub fold : TracePlan → List Item → Rings
fold plan history = (after_items plan 0 history (at_start plan)).rings
