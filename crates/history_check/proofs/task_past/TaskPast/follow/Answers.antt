-- A call is entered over the others, returns, or goes on.
use Rattle.std.proofs.Common.{◌∙◌, length, refl}
use Rattle.std.proofs.lemmas.Option.{slice_get_read}
use Rattle.std.proofs.lemmas.Result.{on_ok_weaker}
use Rattle.history_check.proofs.FollowTask.{enter-item, inside-item, is-inside, no-top, on-ok-both, ret-item, top-open}
use Rattle.history_check.proofs.task_past.TaskPast.follow.Goals as goal

pub returns-in-Enter-clause-told : goal.returns-in-Enter-clause-told
returns-in-Enter-clause-told c = λ job past t users k mine some by d.
    let h = c.new-entered.ensures in
    let cs = c.args.self.now.calls.items in
    on_ok_weaker c.push.result (λ at. enter-item job past t cs k c.args.item.now mine some c.in-Enter.call c.in-Enter.ctx c.in-Enter.func c.in-Enter.caller c.in-Enter.is c.new-entered.result
    (h.0, h.1, h.2, h.3 ∙ d, h.4 ∙ c.held-held.ensures job past t users k, h.5, h.6, h.7, h.8) c.push.new.self.calls.items at) c.push.ensures.more

pub returns-in-Ret-clause-told : goal.returns-in-Ret-clause-told
returns-in-Ret-clause-told c = λ job past t users k mine some by d.
    ret-item job past t c.args.self.now.calls.items k c.args.item.now mine some c.in-Ret.call c.in-Ret.to c.in-Ret.is c.pop_front.new.self.items c.pop_front.ensures.rest

pub returns-in-Some : goal.returns-in-Some
returns-in-Some c = record {
  told = λ job past t users k mine some by d.
      let cs = c.args.self.now.calls.items in
      let top = c.in-Some.top.now in
      let first = slice_get_read cs (length cs) 0 top refl c.in-Some.ensures.item.3.0 c.in-Some.ensures.value in
      let inside = is-inside c.args.item.now c.in_default.not-Enter c.in_default.not-Ret in
      let w = top-open job past t c.args.item.now mine some inside cs k top first in
      on-ok-both c.follow.result (c.follow.ensures.told job past w.1 w.0 inside by d) c.follow.ensures.same (λ open' same. inside-item job past t c.args.item.now mine some inside cs k top first c.follow.new.self open' same);
  rest = refl;
}

pub returns-in-None : goal.returns-in-None
returns-in-None c = record {
  told = λ job past t users k mine some by d.
      absurd (no-top job past t c.args.item.now mine some (is-inside c.args.item.now c.in_default.not-Enter c.in_default.not-Ret) c.args.self.now.calls.items k c.in-None.ensures.item.3);
  rest = refl;
}
