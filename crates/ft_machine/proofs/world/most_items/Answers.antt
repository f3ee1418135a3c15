-- The lines are at most as many as a script may have, and the rooms of the CPUs are those of all items.
use Rattle.std.proofs.Common.{arith}
use Rattle.word_machine_laws.proofs.Limited.{few-commands}
use Rattle.ft_machine.proofs.world.most_items.Goals as goal

pub overflow_add-result : goal.overflow_add-result
overflow_add-result c =
    let r = c.requires in
    let rooms = c.all_rooms.ensures r.0 r.1.shape r.1.limited r.1.declared in
    omega (arith, rooms, r.1.lines, r.1.limited.ctls, r.1.limited.items)

pub returns-clause-most : goal.returns-clause-most
returns-clause-most c = λ job is.
    (let rooms = c.all_rooms.ensures job is.shape is.limited is.declared in
    let same = is.lines in
    omega (arith, rooms, same))

pub returns-clause-least : goal.returns-clause-least
returns-clause-least c = λ job is.
    (let rooms = c.all_rooms.ensures job is.shape is.limited is.declared in
    let few = few-commands job.ctls in
    let same = is.lines in
    omega (arith, rooms, few, same))
