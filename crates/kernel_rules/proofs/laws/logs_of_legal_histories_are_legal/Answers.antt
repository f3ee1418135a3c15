use Rattle.std.proofs.Common.{sym, subst, reverse, List}
use Rattle.ft_base.specs.declared.item.Item.{Item}
use Rattle.ft_hist.specs.Rules as strict
use Rattle.kernel_rules.specs.declared.line.ExitOrder.TheVariants.{AsEntered}
use Rattle.kernel_rules.specs.Rules.{IsAtEnd}
use Rattle.kernel_rules.proofs.Weaker.{legal-past}
use Rattle.kernel_rules.proofs.Reading.{all_told, read-log, told-items}
use Rattle.kernel_rules.proofs.laws.logs_of_legal_histories_are_legal.Goals as goal

pub returns-clause-legal : goal.returns-clause-legal
unfolding strict.IsLegal
returns-clause-legal c = λ job items legal. (all_told (reverse items), read-log AsEntered job items (legal-past job (reverse items) legal))

pub returns-clause-whole : goal.returns-clause-whole
unfolding strict.IsLegal
returns-clause-whole c = λ job items w. (
  all_told (reverse items),
  read-log AsEntered job items (legal-past job (reverse items) w.legal),
  subst (λ (past : List Item). IsAtEnd job past) (sym (told-items (reverse items))) (record { returned = w.returned; tasks = w.tasks }),
)
