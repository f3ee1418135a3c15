-- One more ring has the room of its CPU.
use Rattle.std.proofs.Common.{rules, ◌≡◌, ℕ, ◌*◌, List, [], ◌∷◌, ◌++◌, length, map, sym, ap, ap₂, ◌∙◌, arith}
use Rattle.std.specs.List.{range_with_len}
use Rattle.std.proofs.lemmas.List.{length-map}
use Rattle.std.proofs.lemmas.List.FromFn.{map-range_with_len_more}
use Rattle.ft_base.specs.declared.limits.Limits.{Limits}
use Rattle.ft_base.specs.Job.{Job, Spec}
use Rattle.ft_base.specs.Versions.{levels, limits_of}
use Rattle.ft_base.proofs.Versions.{few-largest, levels-most}
use Rattle.user_specs.specs.Bound.{call_bound_in, call_bound_of}
use Rattle.user_specs.specs.Plain.{cpu_of, spec_of}
use Rattle.word_machine.specs.Laws.{room_on}
use Rattle.trace_rings.proofs.Plans.{cpu-count}
use Rattle.ft_machine.proofs.Plans.{room-most}
use Rattle.live_threads.proofs.RingRooms.{few-acts, few-tasks, room-is}
use Rattle.live_threads.proofs.ring_rooms.ring_rooms.Goals.{After-calls_of}
use Rattle.live_threads.proofs.ring_rooms.ring_rooms.Goals as goal

-- the levels are those of the job
levels-are : {read version : ℕ} {limits : Limits} (job : Job) → version ≡ job.version → limits ≡ limits_of version → read ≡ limits.levels
    → read ≡ levels job
levels-are job is of' read-is = read-is ∙ ap (λ (l : Limits). l.levels) of' ∙ ap (λ v. (limits_of v).levels) is

pub call_bound-bound-requires : goal.call_bound-bound-requires
call_bound-bound-requires c =
    let job = c.args.job.now in
    let few = (few-largest job.version c.users.ensures.limited.counts).few_users in
    let count = sym (length-map c.specs.result.now spec_of) ∙ ap length c.specs.ensures in
    let most = levels-most job.version in
    let same = levels-are job c.version.ensures c.of.ensures c.from.ensures in
    record { users = omega (arith, count, few); levels = omega (arith, same, most) }

pub calls_of-requires : goal.calls_of-requires
calls_of-requires c =
    let plans = c.cpus-plans.result.now in
    let limited = c.users.ensures.limited in
    let p = c.plan-item in
    record {
      tasks = few-tasks c.args.job.now limited plans c.cpus-plans.ensures.tasks c.loop-plan.plan-index p.result c.loop-plan-test.true p.is;
      acts = few-acts c.args.job.now limited plans c.cpus-plans.ensures.tasks c.loop-plan.plan-index p.result c.loop-plan-test.true p.is;
    }

-- the product is the CPU's room
is-room : (c : After-calls_of) → c.call_bound-bound.result * c.calls_of.result ≡ room_on c.args.job.now c.loop-plan.plan-index
is-room c =
    let job = c.args.job.now in
    let same = levels-are job c.version.ensures c.of.ensures c.from.ensures in
    let bound : c.call_bound-bound.result ≡ call_bound_in job =
    c.call_bound-bound.ensures ∙ ap₂ (λ (us : List Spec) n. call_bound_of us n) c.specs.ensures same in
    let plans = c.cpus-plans.result.now in
    let p = c.plan-item in
    ap₂ (λ a b. a * b) bound c.calls_of.ensures
    ∙ room-is job c.users.ensures.limited plans c.cpus-plans.ensures.tasks c.loop-plan.plan-index p.result c.loop-plan-test.true p.is

pub overflow_mul-bound : goal.overflow_mul-bound
overflow_mul-bound c =
    let same = is-room c in
    let few = room-most c.args.job.now c.loop-plan.plan-index c.users.ensures.limited in
    omega (arith, same, few)

pub loop-plan-preserved : goal.loop-plan-preserved
loop-plan-preserved c =
    let job = c.args.job.now in
    let n = c.loop-plan.plan-index in
    let x = c.call_bound-bound.result * c.calls_of.result in
    record {
      rooms = c.push_reserved.ensures.items
          ∙ ap (λ (xs : List ℕ). xs ++ x ∷ []) c.loop-plan.invariant.rooms
          ∙ ap (λ (y : ℕ). map (room_on job) (range_with_len 0 n) ++ y ∷ []) (is-room (goal.at.loop-plan-preserved c).After-calls_of)
          ∙ sym (map-range_with_len_more (room_on job) 0 n n (omega arith));
      count = search rules;
      room = search rules;
    }

pub returns : goal.returns
returns c =
    let job = c.args.job.now in
    let many = cpu-count cpu_of c.cpus-plans.result.now job.quanta c.cpus-plans.ensures.quanta in
    let past = c.loop-plan-test.false in
    let last = c.loop-plan.auto.plan-index-end in
    let all : c.loop-plan.plan-index ≡ length job.quanta = omega (arith, many, past, last) in
    c.loop-plan.invariant.rooms ∙ ap (λ n. map (room_on job) (range_with_len 0 n)) all
