use Rattle.std.proofs.Common.{length, arith}
use Rattle.ft_base.specs.Desk.{is_free}
use Rattle.tramp_slots.specs.Holders.{is_free_slot}
use Rattle.tramp_slots.proofs.LowestLemmas.{lowest-same}
use Rattle.tramp_slots.proofs.laws.takes_the_slot_of_the_desk.Goals as goal

pub returns : goal.returns
returns c = λ desk holders same. lowest-same (is_free desk) (is_free_slot holders) 0 (length holders) (λ k low high. same k (omega arith))
