use Rattle.std.proofs.lemmas.Result.{on_ok_weaker}
use Rattle.ft_script.proofs.ReaderParts.{open-line, open-room, open-step}
use Rattle.ft_script.proofs.reader.Reader.expand.Goals as goal

pub add-requires-clause-line : goal.add-requires-clause-line
add-requires-clause-line c = open-line c.args.self.now c.open.new.self c.in_ok-open.ensures.above c.in-Some.expansion c.in_ok-open.ensures.open c.in-Some.is c.args.ctl.now c.requires.line

pub add-requires-clause-room : goal.add-requires-clause-room
add-requires-clause-room c = open-room c.args.self.now c.open.new.self c.in_ok-open.ensures.above c.in-Some.expansion c.in_ok-open.ensures.open c.in-Some.is c.requires.small.within

pub returns-in-Some-clause-expansion : goal.returns-in-Some-clause-expansion
returns-in-Some-clause-expansion c =
    on_ok_weaker c.add.result (open-step c.args.self.now c.open.new.self c.in_ok-open.ensures.above c.in-Some.expansion c.in_ok-open.ensures.open c.in-Some.is c.args.ctl.now c.add.new.self) c.add.ensures
