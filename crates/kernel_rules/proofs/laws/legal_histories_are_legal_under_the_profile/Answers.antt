use Rattle.std.proofs.Common.{reverse}
use Rattle.ft_hist.specs.Rules as strict
use Rattle.kernel_rules.specs.Rules.{IsLegal}
use Rattle.kernel_rules.proofs.Weaker.{legal-past, whole}
use Rattle.kernel_rules.proofs.laws.legal_histories_are_legal_under_the_profile.Goals as goal

pub returns-clause-legal : goal.returns-clause-legal
unfolding IsLegal strict.IsLegal
returns-clause-legal c = λ job items legal. legal-past job (reverse items) legal

pub returns-clause-whole : goal.returns-clause-whole
returns-clause-whole c = λ job items w. whole job items w
