-- Each part follows the item, and the others stay.
use Rattle.std.proofs.Common.{◌∙◌, ◌+◌, ◌∷◌, length, sym, ap, subst}
use Rattle.ft_desk.specs.Lines.{lines_of}
use Rattle.history_check.specs.declared.past.Past.{Past}
use Rattle.history_check.specs.CallbackList.{callbacks_of}
use Rattle.history_check.specs.TaskCalls.{AreTasksOf}
use Rattle.history_check.proofs.FollowPast.{begun-fits, done-fits, has-room, in-job, place-fits, taken-in}
use Rattle.history_check.proofs.past.Past.take_in.Goals as goal

pub follow_calls-requires : goal.follow_calls-requires
follow_calls-requires c = λ t x at. let r = c.requires in has-room r.0 r.1 (c.args.item.now ∷ r.1) t x (r.2.each t x at) r.3

pub count-requires-clause-done : goal.count-requires-clause-done
count-requires-clause-done c =
    let r = c.requires in
    done-fits r.0 r.1 (c.args.item.now ∷ r.1) c.args.self.now r.2 r.3 c.follow_calls.new.self.done (ap (λ (p : Past). p.done) c.follow_calls.ensures.rest)

pub count-requires-clause-begun : goal.count-requires-clause-begun
count-requires-clause-begun c =
    let r = c.requires in
    begun-fits r.0 r.1 (c.args.item.now ∷ r.1) c.args.self.now r.2 r.3 c.follow_calls.new.self.begun (ap (λ (p : Past). p.begun) c.follow_calls.ensures.rest)

pub count-requires-clause-place : goal.count-requires-clause-place
count-requires-clause-place c =
    let r = c.requires in
    place-fits r.0 r.1 (c.args.item.now ∷ r.1) c.args.self.now r.2 r.3 c.follow_calls.new.self.place (ap (λ (p : Past). p.place) c.follow_calls.ensures.rest)

pub returns : goal.returns
returns c = λ job past k run commands.
    let item = c.args.item.now in
    let old = c.args.self.now in
    let moved = c.follow_calls.ensures.rest in
    let counted = c.count.ensures.rest in
    let tasks = c.in_ok-follow_calls.ensures.told job past k.specs k.done' (k.size, k.each) run (in-job job past (item ∷ past) old k item run)
    (c.visit_by-visit.ensures job past k run) (c.due_after-due.ensures job past k run) in
    let back = c.in_ok-follow.ensures past k.callbacks' (c.context_of-ctx.ensures job past k run) in
    taken-in job past item old c.count.new.self k run commands
    (ap (λ (p : Past). p.desks) counted ∙ ap (λ (p : Past). p.desks) moved)
    (ap (λ (p : Past). p.specs) counted ∙ ap (λ (p : Past). p.specs) moved)
    (ap (λ (p : Past). p.frames) counted ∙ ap (λ (p : Past). p.frames) moved)
    (ap (λ (p : Past). p.levels) counted ∙ ap (λ (p : Past). p.levels) moved)
    (subst (λ ts. AreTasksOf job (item ∷ past) (item ∷ past) ts.items) (sym (ap (λ (p : Past). p.tasks) counted)) tasks)
    (ap (λ (p : Past). callbacks_of p.callbacks) counted ∙ ap (λ (p : Past). callbacks_of p.callbacks) moved ∙ back)
    (c.count.ensures.done past (ap (λ (p : Past). p.done) moved ∙ k.done'))
    (c.count.ensures.begun past (ap (λ (p : Past). p.begun) moved ∙ k.begun'))
    (c.count.ensures.place ∙ ap (λ (p : Past). p.place + 1) moved)
    (c.count.ensures.lines (length job.tasks) job.ctls past (ap (λ (p : Past). lines_of (length job.tasks) p.lines.now) moved ∙ k.lines))
