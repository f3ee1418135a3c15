use Rattle.history_check.proofs.desks.Row.new.Goals as goal

pub returns-clause-row : goal.returns-clause-row
returns-clause-row c =
    let state = c.args.desk.now.state in
    let tasks = c.args.desk.now.declared.tasks in
    let (n, told) = c.requires in
    record {
      size = c.in_ok-users.ensures.size;
      each = c.in_ok-users.ensures.each;
      allowed = λ t lt. c.allowed.ensures state tasks n t told lt;
      depth = c.depth.ensures state tasks n told;
      runs = c.in_ok-runs.ensures;
    }
