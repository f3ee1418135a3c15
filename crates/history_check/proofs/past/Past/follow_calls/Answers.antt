-- The task of the item goes on, and the others stay.
use Rattle.std.proofs.Common.{◌∙◌, ◌∷◌, length, refl, sym, ap}
use Rattle.std.specs.Prelude.{option_map}
use Rattle.history_check.specs.TaskCalls.{due_of}
use Rattle.std.proofs.lemmas.Option.{slice_get_read}
use Rattle.std.proofs.lemmas.Result.{on_ok_weaker}
use Rattle.history_check.specs.declared.task_past.TaskPast.{TaskPast}
use Rattle.history_check.proofs.FollowPast.{calls-of-task, no-task-there, tasks-set, tasks-still}
use Rattle.history_check.proofs.past.Past.follow_calls.Goals as goal
use Rattle.ft_hist.proofs.Laws.{own-item}

pub returns-in_default-clause-told : goal.returns-in_default-clause-told
returns-in_default-clause-told c = λ job past users d tasks goes within by due.
    tasks-still job past c.args.item.now c.args.self.now.tasks.items (sym c.call.ensures ∙ c.in_default.is) tasks

pub follow-requires : goal.follow-requires
follow-requires c =
    let xs = c.args.self.now.tasks.items in
    let x = c.in-Some-get_mut.task.now in
    c.requires c.in-Some.call.task.0 x (slice_get_read xs (length xs) c.in-Some.call.task.0 x refl c.in-Some-get_mut.ensures.item.3.0 c.in-Some-get_mut.ensures.value)

pub returns-in-Some-get_mut-clause-told : goal.returns-in-Some-get_mut-clause-told
returns-in-Some-get_mut-clause-told c = λ job past users d tasks goes within by due.
    let xs = c.args.self.now.tasks.items in
    let x = c.in-Some-get_mut.task.now in
    let call = c.in-Some.call in
    let item = c.args.item.now in
    let is = sym c.call.ensures ∙ c.in-Some.is in
    let at = slice_get_read xs (length xs) call.task.0 x refl c.in-Some-get_mut.ensures.item.3.0 c.in-Some-get_mut.ensures.value in
    let k = calls-of-task job past (item ∷ past) call.task.0 x (tasks.1 call.task.0 x at) in
    let new = c.follow.new.self in
    let run = ap (λ (y : TaskPast). y.run) c.follow.ensures.rest in
    let owed = ap (λ (y : TaskPast). y.due) c.follow.ensures.rest in
    on_ok_weaker c.follow.result (λ after. tasks-set job past item xs tasks call is x at new run (λ e f. ap (option_map due_of) owed ∙ due e f) after)
    (c.follow.ensures.told job past call.task.0 users k (own-item item call is) (goes call.task.0) by d)

pub returns-in-None-clause-told : goal.returns-in-None-clause-told
returns-in-None-clause-told c = λ job past users d tasks goes within by due.
    let is = sym c.call.ensures ∙ c.in-Some.is in
    absurd (no-task-there job past c.args.item.now c.args.self.now.tasks.items tasks within c.in-Some.call is c.in-None.ensures.item.3)
