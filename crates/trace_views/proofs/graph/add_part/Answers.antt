-- A callback's line is by the latest open call of its task.
use Rattle.std.proofs.Common.{◌==◌, ◌++◌, sym, ap, ◌∙◌, arith}
use Rattle.std.proofs.lemmas.Result.{on_ok_weaker}
use Rattle.ft_base.specs.declared.item.Item.TheVariants.{Back, Exit}
use Rattle.trace_views.specs.Words.{lines_text}
use Rattle.trace_views.specs.GraphLines.{graph_line_text}
use Rattle.trace_views.proofs.LeafLaws.{not_false}
use Rattle.trace_views.proofs.PartLaws.{leaf-after, back-line, exit-line}
use Rattle.trace_views.proofs.WalkLaws.{Walking, walking, goes-here, place-is, in-open, in-levels, in-latest, is-open, backs-within}
use Rattle.trace_views.proofs.graph.add_part.Goals as goal
use Rattle.trace_views.proofs.graph.add_part.Goals.{In-Back, In-Exit}

-- the walk at a callback, and at an exit
back : (c : In-Back) → Walking c.requires.so_far.0 c.args.user.0 c.args.place c.args.history.now.items c.args.walk.now (Back c.in-Back.call c.in-Back.whose)
back c = walking (Back c.in-Back.call c.in-Back.whose) c.requires.so_far.1 c.item.ensures c.in-Back.is

exit : (c : In-Exit) → Walking c.requires.so_far.0 c.args.user.0 c.args.place c.args.history.now.items c.args.walk.now (Exit c.in-Exit.call c.in-Exit.whose c.in-Exit.entry)
exit c = walking (Exit c.in-Exit.call c.in-Exit.whose c.in-Exit.entry) c.requires.so_far.1 c.item.ensures c.in-Exit.is

pub shown-requires-clause-task : goal.shown-requires-clause-task
shown-requires-clause-task c = let k = back (goal.at.shown-requires-clause-task c).In-Back in in-open k c.in-Back.call (goes-here k)

pub shown-requires-clause-level : goal.shown-requires-clause-level
shown-requires-clause-level c = let k = back (goal.at.shown-requires-clause-level c).In-Back in in-levels k c.in-Back.call (goes-here k)

pub shown-requires-clause-open : goal.shown-requires-clause-open
shown-requires-clause-open c = let k = back (goal.at.shown-requires-clause-open c).In-Back in is-open k c.in-Back.call (goes-here k)

pub shown-requires-clause-backs : goal.shown-requires-clause-backs
shown-requires-clause-backs c = let k = back (goal.at.shown-requires-clause-backs c).In-Back in backs-within k c.in-Back.call (goes-here k)

pub time-requires : goal.time-requires
time-requires c =
    leaf-after c.in-Back.call c.in-Back.whose (back (goal.at.time-requires c).In-Back) (not_false (c.in-Back.whose.0 == c.args.user.0) (sym c.ne.ensures ∙ c.if-ne.false))

pub ends_leaf-requires : goal.ends_leaf-requires
ends_leaf-requires c = let k = exit (goal.at.ends_leaf-requires c).In-Exit in in-latest k c.in-Exit.call (goes-here k).0

pub shown-requires-in-Exit-clause-task : goal.shown-requires-in-Exit-clause-task
shown-requires-in-Exit-clause-task c = let k = exit (goal.at.shown-requires-in-Exit-clause-task c).In-Exit in in-open k c.in-Exit.call (goes-here k).0

pub shown-requires-in-Exit-clause-level : goal.shown-requires-in-Exit-clause-level
shown-requires-in-Exit-clause-level c = let k = exit (goal.at.shown-requires-in-Exit-clause-level c).In-Exit in in-levels k c.in-Exit.call (goes-here k).0

pub shown-requires-in-Exit-clause-open : goal.shown-requires-in-Exit-clause-open
shown-requires-in-Exit-clause-open c = let k = exit (goal.at.shown-requires-in-Exit-clause-open c).In-Exit in is-open k c.in-Exit.call (goes-here k).0

pub shown-requires-in-Exit-clause-backs : goal.shown-requires-in-Exit-clause-backs
shown-requires-in-Exit-clause-backs c = let k = exit (goal.at.shown-requires-in-Exit-clause-backs c).In-Exit in backs-within k c.in-Exit.call (goes-here k).0

pub overflow_sub-line : goal.overflow_sub-line
overflow_sub-line c =
    let k = exit (goal.at.overflow_sub-line c).In-Exit in
    let lt = (goes-here k).1 in
    let n = place-is k in
    omega (arith, lt, n)

pub returns-else-ne : goal.returns-else-ne
returns-else-ne c =
    on_ok_weaker c.add_line.result
    (λ said job. said job ∙ ap (λ line. lines_text (graph_line_text job) c.args.lines.now.items ++ line)
    (back-line job c.in-Back.call c.shown.result c.shown.ensures.same c.shown.ensures.func c.shown.ensures.shown c.in-Back.whose (back (goal.at.returns-else-ne c).In-Back)
    (not_false (c.in-Back.whose.0 == c.args.user.0) (sym c.ne.ensures ∙ c.if-ne.false)) c.time.result c.time.ensures))
    c.add_line.ensures

pub returns-else-ends_leaf : goal.returns-else-ends_leaf
returns-else-ends_leaf c =
    on_ok_weaker c.add_line-in-Exit.result
    (λ said job. said job ∙ ap (λ line. lines_text (graph_line_text job) c.args.lines.now.items ++ line)
    (exit-line job c.in-Exit.call c.shown-in-Exit.result c.shown-in-Exit.ensures.same c.shown-in-Exit.ensures.func c.shown-in-Exit.ensures.shown c.in-Exit.whose c.in-Exit.entry
    (exit (goal.at.returns-else-ends_leaf c).In-Exit)
    (not_false (c.in-Exit.whose.0 == c.args.user.0) (sym c.ne-in-Exit.ensures ∙ c.if-ne-2.false)) (sym c.ends_leaf.ensures ∙ c.if-ends_leaf.false)))
    c.add_line-in-Exit.ensures
