-- The clock has room for every legal history of a job.
use Rattle.std.proofs.Common.{◌<◌, List, length, reverse, sym, subst, arith}
use Rattle.std.proofs.lemmas.List.{reverse-reverse, length-reverse}
use Rattle.ft_base.specs.declared.item.Item.{Item}
use Rattle.ft_base.specs.Job.{Job}
use Rattle.ft_hist.specs.Rules.{IsLegal, IsLegalPast}
use Rattle.history_laws.proofs.Bounded.{history-bounded}
use Rattle.word_map.specs.Contents.{half_size}
use Rattle.word_machine.specs.Rule.{IsWordJob}

-- the low half of the clock counts the items of a legal history
abbrev pub HasRoomFor : Job → Type 0
HasRoomFor job = (past : List Item) → IsLegalPast job past → length past < half_size

pub legal-turned : (job : Job) (past : List Item) → IsLegalPast job past → IsLegal job (reverse past)
unfolding IsLegal
legal-turned job past l = subst (λ p. IsLegalPast job p) (sym (reverse-reverse past)) l

pub has-room : (job : Job) → IsWordJob job → HasRoomFor job
has-room job ok past l =
    let b = history-bounded job (reverse past) (legal-turned job past l) in let e = length-reverse past in let r = ok.room in omega (arith, b, e, r)
