use Rattle.std.proofs.Common.{◌-◌, Some, refl, arith, vec_len}
use Rattle.std.specs.Prelude.{reverse}
use Rattle.std.specs.Vec.{with_item}
use Rattle.std.proofs.lemmas.List.{length-reverse}
use Rattle.std.proofs.lemmas.Option.{slice_get_within}
use Rattle.ft_base.proofs.Small.{==-refl}
use Rattle.trace_views.proofs.FollowLaws.{has-list, has-room, after-enter, after-body, after-ret, body-top}
use Rattle.trace_views.proofs.StackSteps.{first-is, reverse-top, reverse-pop}
use Rattle.trace_views.proofs.open_calls.OpenCalls.follow.Goals as goal

pub index_mut-requires : goal.index_mut-requires
index_mut-requires c =
    let lt = has-list c.requires.0 c.requires.1 c.args.self.now c.requires.2 c.in-Enter.call.task.0 c.args.item.now (rw c.in-Enter.is (==-refl c.in-Enter.call.task.0)) c.requires.3 in
    omega (arith, lt, c.args.self.now.tasks.ok.0)

pub push_reserved-requires : goal.push_reserved-requires
push_reserved-requires c =
    let lt = has-list c.requires.0 c.requires.1 c.args.self.now c.requires.2 c.in-Enter.call.task.0 c.args.item.now (rw c.in-Enter.is (==-refl c.in-Enter.call.task.0)) c.requires.3 in
    let room = has-room c.requires.0 c.requires.1 c.args.self.now c.requires.2 c.in-Enter.call.task.0 c.index_mut.result.now c.index_mut.result.now lt c.index_mut.ensures.value
    c.in-Enter.call c.in-Enter.ctx c.in-Enter.func c.in-Enter.caller refl (rw c.in-Enter.is at c.requires.3) in
    omega (arith, room, c.index_mut.result.now.ok.0)

pub index_mut-requires-in-Body : goal.index_mut-requires-in-Body
index_mut-requires-in-Body c =
    let lt = has-list c.requires.0 c.requires.1 c.args.self.now c.requires.2 c.in-Body.call.task.0 c.args.item.now (rw c.in-Body.is (==-refl c.in-Body.call.task.0)) c.requires.3 in
    omega (arith, lt, c.args.self.now.tasks.ok.0)

pub index_mut-requires-in-Ret : goal.index_mut-requires-in-Ret
index_mut-requires-in-Ret c =
    let lt = has-list c.requires.0 c.requires.1 c.args.self.now c.requires.2 c.in-Ret.call.task.0 c.args.item.now (rw c.in-Ret.is (==-refl c.in-Ret.call.task.0)) c.requires.3 in
    omega (arith, lt, c.args.self.now.tasks.ok.0)

pub returns-in-Enter : goal.returns-in-Enter
returns-in-Enter c = λ job past told legal.
    after-enter job past c.args.self.now told c.args.item.now c.in-Enter.call c.in-Enter.ctx c.in-Enter.func c.in-Enter.caller c.in-Enter.is legal
    c.index_mut.result.now c.push_reserved.new.self c.index_mut.ensures.value c.push_reserved.ensures.items c.push_reserved.ensures.capacity _ refl

pub returns-in-Some : goal.returns-in-Some
returns-in-Some c = λ job past told legal.
    (let some = c.in-Some.ensures.variant.0 refl in
    after-body job past c.args.self.now told c.args.item.now c.in-Body.call c.in-Body.func c.in-Body.ran c.in-Body.is legal
    c.index_mut-in-Body.result.now
    (with_item c.index_mut-in-Body.result.now (vec_len c.index_mut-in-Body.result.now - 1) (record { ctx = c.in-Some.top.now.ctx; func = c.in-Some.top.now.func; body = Some c.in-Body.func }))
    c.index_mut-in-Body.ensures.value c.in-Some.top.now
    (first-is c.index_mut-in-Body.result.now.items (vec_len c.index_mut-in-Body.result.now - 1) c.in-Some.top.now (omega (arith, c.index_mut-in-Body.result.now.ok.0)) (omega (arith, some, c.index_mut-in-Body.result.now.ok.0)) c.in-Some.ensures.value)
    (reverse-top c.index_mut-in-Body.result.now.items _ (vec_len c.index_mut-in-Body.result.now - 1) (omega (arith, c.index_mut-in-Body.result.now.ok.0))) refl _ refl)

pub returns-in_default-last_mut : goal.returns-in_default-last_mut
returns-in_default-last_mut c = λ job past told legal.
    (let top = body-top job past c.args.self.now told c.args.item.now c.in-Body.call c.in-Body.func c.in-Body.ran c.in-Body.is legal c.index_mut-in-Body.result.now c.index_mut-in-Body.ensures.value in
    let within = slice_get_within (reverse c.index_mut-in-Body.result.now.items) 0 _ top in
    let long = length-reverse c.index_mut-in-Body.result.now.items in
    let clash = c.in_default-last_mut.ensures.variant.1 (omega (arith, within, long, c.index_mut-in-Body.result.now.ok.0)) in
    absurd cc)

pub returns-in-Ret : goal.returns-in-Ret
returns-in-Ret c = λ job past told legal.
    after-ret job past c.args.self.now told c.args.item.now c.in-Ret.call c.in-Ret.to c.in-Ret.is legal
    c.index_mut-in-Ret.result.now c.pop.new.self c.index_mut-in-Ret.ensures.value
    (reverse-pop c.index_mut-in-Ret.result.now.items c.pop.new.self.items c.pop.result c.pop.ensures.items
    (λ none. let empty = rw none at c.pop.ensures.cases in omega (arith, empty.1, c.pop.new.self.ok.0))) c.pop.ensures.capacity _ refl
