-- At each place the call of a callback was entered, so its function is kept; and what is kept goes over the item.
use Rattle.std.proofs.Common.{◌∙◌, sym, refl, arith}
use Rattle.std.proofs.lemmas.Result.{on_ok_weaker}
use Rattle.func_profile.proofs.NoteLemmas.{Noting, back-some, exit-some, exit-after, hit-has-room, time-has-room, after-enter, after-back, after-exit, after-back-other, after-exit-other, after-rest}
use Rattle.func_profile.proofs.TallyLemmas.{not-noted}
use Rattle.func_profile.proofs.tally.Tally.note.Goals as goal

pub function-func-requires : goal.function-func-requires
function-func-requires c =
    let at : Noting c.args.user.0 c.args.history.now.items c.args.place c.args.self.now c.item.result.now = record { rows = c.requires.calls; kept = c.requires.so_far; here = c.item.ensures } in
    back-some at c.in-Back.call c.in-Back.whose c.in-Back.is

pub add_hit-requires : goal.add_hit-requires
add_hit-requires c =
    let at : Noting c.args.user.0 c.args.history.now.items c.args.place c.args.self.now c.item.result.now = record { rows = c.requires.calls; kept = c.requires.so_far; here = c.item.ensures } in
    hit-has-room at c.function-func.result.0 (omega arith)

pub function-func-requires-then-eq-2 : goal.function-func-requires-then-eq-2
function-func-requires-then-eq-2 c =
    let at : Noting c.args.user.0 c.args.history.now.items c.args.place c.args.self.now c.item.result.now = record { rows = c.requires.calls; kept = c.requires.so_far; here = c.item.ensures } in
    exit-some at c.in-Exit.call c.in-Exit.whose c.in-Exit.entry c.in-Exit.is

pub overflow_sub-place : goal.overflow_sub-place
overflow_sub-place c =
    let at : Noting c.args.user.0 c.args.history.now.items c.args.place c.args.self.now c.item.result.now = record { rows = c.requires.calls; kept = c.requires.so_far; here = c.item.ensures } in
    let lt = exit-after at c.in-Exit.call c.in-Exit.whose c.in-Exit.entry c.in-Exit.is in
    omega (arith, lt)

pub add_time-requires : goal.add_time-requires
add_time-requires c =
    let at : Noting c.args.user.0 c.args.history.now.items c.args.place c.args.self.now c.item.result.now = record { rows = c.requires.calls; kept = c.requires.so_far; here = c.item.ensures } in
    time-has-room at c.function-func-then-eq-2.result.0 c.in-Exit.entry (omega arith)

pub returns-in-Enter : goal.returns-in-Enter
returns-in-Enter c =
    let at : Noting c.args.user.0 c.args.history.now.items c.args.place c.args.self.now c.item.result.now = record { rows = c.requires.calls; kept = c.requires.so_far; here = c.item.ensures } in
    on_ok_weaker c.enter.result (λ functions. after-enter at c.enter.new.self c.in-Enter.call c.in-Enter.ctx c.in-Enter.func c.in-Enter.caller c.in-Enter.is functions c.enter.ensures.table) c.enter.ensures.functions

pub returns-then-eq : goal.returns-then-eq
returns-then-eq c =
    let at : Noting c.args.user.0 c.args.history.now.items c.args.place c.args.self.now c.item.result.now = record { rows = c.requires.calls; kept = c.requires.so_far; here = c.item.ensures } in
    after-back at (record c.args.self.now { table = c.add_hit.new.self }) c.in-Back.call c.in-Back.whose c.in-Back.is c.function-func.result c.function-func.ensures (sym c.eq.ensures ∙ c.if-eq.true) refl c.add_hit.ensures

pub returns-else-eq : goal.returns-else-eq
returns-else-eq c =
    let at : Noting c.args.user.0 c.args.history.now.items c.args.place c.args.self.now c.item.result.now = record { rows = c.requires.calls; kept = c.requires.so_far; here = c.item.ensures } in
    after-back-other at c.in-Back.call c.in-Back.whose c.in-Back.is (sym c.eq.ensures ∙ c.if-eq.false)

pub returns-then-eq-2 : goal.returns-then-eq-2
returns-then-eq-2 c =
    let at : Noting c.args.user.0 c.args.history.now.items c.args.place c.args.self.now c.item.result.now = record { rows = c.requires.calls; kept = c.requires.so_far; here = c.item.ensures } in
    after-exit at (record c.args.self.now { table = c.add_time.new.self }) c.in-Exit.call c.in-Exit.whose c.in-Exit.entry c.in-Exit.is c.function-func-then-eq-2.result c.function-func-then-eq-2.ensures (sym c.eq-in-Exit.ensures ∙ c.if-eq-2.true) refl c.add_time.ensures

pub returns-else-eq-2 : goal.returns-else-eq-2
returns-else-eq-2 c =
    let at : Noting c.args.user.0 c.args.history.now.items c.args.place c.args.self.now c.item.result.now = record { rows = c.requires.calls; kept = c.requires.so_far; here = c.item.ensures } in
    after-exit-other at c.in-Exit.call c.in-Exit.whose c.in-Exit.entry c.in-Exit.is (sym c.eq-in-Exit.ensures ∙ c.if-eq-2.false)

pub returns-in_default : goal.returns-in_default
returns-in_default c =
    let at : Noting c.args.user.0 c.args.history.now.items c.args.place c.args.self.now c.item.result.now = record { rows = c.requires.calls; kept = c.requires.so_far; here = c.item.ensures } in
    after-rest at (not-noted c.item.result.now c.in_default.not-Enter c.in_default.not-Back c.in_default.not-Exit)
