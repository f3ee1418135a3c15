use Rattle.ft_machine.proofs.Plans.{plan-all-acts, plan-cpu, plan-frames, plan-made, plan-tasks}
use Rattle.ft_machine.proofs.cpus.new_cpu.Goals as goal

pub own_room-room-requires : goal.own_room-room-requires
own_room-room-requires c = (c.requires.0, c.args.cpu.0, c.args.map, c.requires.1)

pub new-requires : goal.new-requires
new-requires c = record {
  cpu = plan-cpu c.requires.0 c.args.plan.now c.args.cpu.0 c.args.specs.now c.args.limits c.args.map c.requires.1;
  tasks = plan-tasks c.requires.0 c.args.plan.now c.args.cpu.0 c.args.specs.now c.args.limits c.args.map c.requires.1;
  acts = plan-all-acts c.requires.0 c.args.plan.now c.args.cpu.0 c.args.specs.now c.args.limits c.args.map c.requires.1;
  frames = plan-frames c.requires.0 c.args.plan.now c.args.cpu.0 c.args.specs.now c.args.limits c.args.map c.requires.1;
}

pub returns : goal.returns
returns c =
    plan-made c.args.plan.now c.args.cpu.0 c.args.specs.now c.args.limits c.args.map c.args.rooms c.own_room-room.result c.new.result
    (λ job is. c.own_room-room.ensures job c.args.cpu.0 c.args.map is)
    c.new.ensures.of c.new.ensures.room
