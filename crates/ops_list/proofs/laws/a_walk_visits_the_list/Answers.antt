use Rattle.ops_list.proofs.Lists.{leads-after}
use Rattle.ops_list.proofs.Walks.{visits, loads-fit}
use Rattle.ops_list.proofs.laws.a_walk_visits_the_list.Goals as goal

pub returns-clause-head : goal.returns-clause-head
returns-clause-head c = λ ws users i r. visits ws ws.first users i r

pub returns-clause-user : goal.returns-clause-user
returns-clause-user c = λ ws front back u i r. visits ws (ws.link u.0) back i (leads-after ws.link ws.first front back u.0 r)

pub returns-clause-fits : goal.returns-clause-fits
returns-clause-fits c = λ shape ws users n r a. loads-fit shape ws users n r a
