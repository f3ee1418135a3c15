use Rattle.std.proofs.Common.{subst}
use Rattle.state_search.specs.Entries.{AreApart}
use Rattle.state_search.proofs.Entries.{apart}
use Rattle.state_search.proofs.key_table.KeyTable.len.Goals as goal

pub returns-clause-apart : goal.returns-clause-apart
returns-clause-apart g c = subst AreApart c.self.view_is (apart c.self.inside.map.entries c.len.ensures.unique)
