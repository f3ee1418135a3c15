use Rattle.std.proofs.Common.{arith}
use Rattle.std.proofs.lemmas.Bool.{eq-eqb, eqb-true, le-leb, leb-true}
use Rattle.history_check.proofs.JudgeControl.{met-past, met-there}
use Rattle.history_check.proofs.rules.commands.has_done.Goals as goal

pub returns-in-Some : goal.returns-in-Some
returns-in-Some c = λ job items is.
    let n = c.args.acts in
    let done = c.acts_passed.result in
    let same = c.acts_passed.ensures in
    met-there job items c.args.past.now is c.args.task c.in-Some.task.now c.in-Some.ensures n _
    (λ h. (let le = leb-true n done h in omega (arith, le, same)), λ h. le-leb n done (omega (arith, h, same)))

pub returns-in-None : goal.returns-in-None
returns-in-None c = λ job items is.
    met-past job items c.args.past.now is c.args.task c.in-None.ensures c.args.acts _ (λ h. eqb-true c.args.acts 0 h, λ h. eq-eqb c.args.acts 0 h)
