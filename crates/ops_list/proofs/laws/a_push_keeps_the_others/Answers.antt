use Rattle.std.proofs.Common.{refl}
use Rattle.word_map.specs.Contents.{name_of}
use Rattle.ops_list.specs.Lists.{nth_user}
use Rattle.ops_list.proofs.Lists.{leads-other, leads-linked}
use Rattle.ops_list.proofs.laws.a_push_keeps_the_others.Goals as goal

pub returns-clause-between : goal.returns-clause-between
returns-clause-between c = λ ws users u r out. leads-other ws.link u.0 (name_of (nth_user users 0)) ws.first users out r

pub returns-clause-pushed : goal.returns-clause-pushed
returns-clause-pushed c = λ ws users u r out. (refl, leads-linked ws.link ws.first users u.0 out r)
