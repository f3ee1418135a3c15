use Rattle.std.proofs.Common.{◌≡◌, ◌<◌, length, get_or, nat_lt, rules}
use Rattle.std.proofs.lemmas.List.Sorted.{IsPartitionPoint-from_clause, IsPartitionedBy-ltb}
use Rattle.trace_views.specs.declared.function.FunctionLine.{FunctionLine}
use Rattle.trace_views.proofs.BackLines.{first-is}
use Rattle.trace_views.proofs.rings.line_of.Goals as goal
use Rattle.trace_views.proofs.rings.line_of.Goals.{After-partition_point-first}

-- the search finds the first line that isn't below the place
first : (c : goal.After-partition_point-first)
    → (c.partition_point-first.result < length c.args.lines.now)
    × ((d : FunctionLine) → (get_or c.args.lines.now c.partition_point-first.result d).place ≡ c.args.place)
first c = first-is c.args.lines.now c.args.place c.partition_point-first.result c.requires.rising c.requires.there
    (IsPartitionPoint-from_clause (λ (line : FunctionLine). nat_lt line.place c.args.place) c.args.lines.now c.partition_point-first.result
    c.partition_point-first.ensures.partitioned (IsPartitionedBy-ltb (λ (line : FunctionLine). line.place) c.args.lines.now c.args.place c.requires.rising) (λ a r f' k. search rules))

pub bounds-lines-first : goal.bounds-lines-first
bounds-lines-first c = (first c).0

pub returns-clause-among : goal.returns-clause-among
returns-clause-among c = (c.partition_point-first.result, (first (goal.at.returns-clause-among c).After-partition_point-first).0, search rules)

pub returns-clause-place : goal.returns-clause-place
returns-clause-place c = (first (goal.at.returns-clause-place c).After-partition_point-first).1 _
