-- What contracts see of a desk.
use Rattle.std.specs.Prelude.{ℕ, suc, List, [], length, get_or, replicate, if◌then◌else◌}
use Rattle.ft_base.specs.declared.item.Answer.{Answer}
use Rattle.ft_base.specs.Job.{Command}
use Rattle.ft_base.specs.Order.{order_after}
use Rattle.ft_base.specs.Desk.{Desk, opening, answer_on, changed, is_accepted}
use Rattle.ft_desk.specs.Declarations.{Declared, job_of}
use Rattle.ft_desk.specs.Plans.{PlainPlan, plan_by, no_plan, copies_after}

-- what was declared, the users' state, for each user the copy of its sets that is in use, the registered users, the latest first,
-- how many commands were planned, and the plan of the last of them
pub record DeskView : Type 0 where
  pub declared : Declared
  pub state : Desk
  pub copies : List ℕ
  pub order : List ℕ
  pub commands : ℕ
  pub plan : PlainPlan

-- nothing was planned yet
abbrev pub opened : Declared → DeskView
opened d = record {
  declared = d;
  state = opening (job_of d);
  copies = replicate (length d.specs) 0;
  order = [];
  commands = 0;
  plan = no_plan;
}

-- the answer to a command
abbrev pub answer : DeskView → Command → Answer
answer s c = answer_on (job_of s.declared) s.state c

-- after a command that was accepted
abbrev pub carried_out : DeskView → Command → DeskView
carried_out s c =
    let next = changed (job_of s.declared) s.state (suc s.commands) c in
    record s {
      state = next;
      copies = copies_after s.state s.copies c;
      order = order_after s.order c;
      commands = suc s.commands;
      plan = plan_by s.state next s.declared.funcs s.declared.tasks (λ u. get_or s.copies u 0) s.order c;
    }

-- after a command that was refused: only the plan is empty
abbrev pub turned_down : DeskView → DeskView
turned_down s = record s { commands = suc s.commands; plan = no_plan }

-- after a command
abbrev pub after_command : DeskView → Command → DeskView
after_command s c = if is_accepted (answer s c) then carried_out s c else turned_down s
