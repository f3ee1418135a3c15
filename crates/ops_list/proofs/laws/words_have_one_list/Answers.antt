use Rattle.ops_list.proofs.Lists.{leads-one, leads-front, leads-back}
use Rattle.ops_list.proofs.laws.words_have_one_list.Goals as goal

pub returns-clause-one : goal.returns-clause-one
returns-clause-one c = λ ws users others r s. leads-one ws.link ws.first users others r s

pub returns-clause-front : goal.returns-clause-front
returns-clause-front c = λ ws front back u r. leads-front ws.link ws.first front back u r

pub returns-clause-back : goal.returns-clause-back
returns-clause-back c = λ ws front back u r. leads-back ws.link ws.first front back u r
