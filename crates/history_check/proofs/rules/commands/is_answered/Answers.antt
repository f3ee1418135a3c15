use Rattle.std.proofs.Common.{◌≡◌, true, rules, arith}
use Rattle.history_check.proofs.JudgeControl.{answered-none, answered-there}
use Rattle.history_check.proofs.rules.commands.is_answered.Goals as goal

pub returns-in-Some : goal.returns-in-Some
returns-in-Some c = λ job items is.
    let told : c.eq.result ≡ true → c.in-Some.due ≡ c.args.answer = λ h. search rules in
    let tells : c.in-Some.due ≡ c.args.answer → c.eq.result ≡ true = λ h. search rules in
    answered-there job items c.args.past.now is c.args.k c.args.answer (omega arith) (omega arith) c.in-Some.due (c.in-Some.ensures job is.desks) c.eq.result told tells

pub returns-in-None : goal.returns-in-None
returns-in-None c = λ job items is. answered-none job items c.args.past.now is c.args.k c.args.answer (c.in-None.ensures job is.desks)
