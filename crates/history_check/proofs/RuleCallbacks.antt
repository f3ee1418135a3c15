-- What a judge asks of the visits of a call.
use Rattle.std.proofs.Common.{◌≡◌, ℕ, ◌<◌, true, nat_lt, List, [], ◌∷◌, map, refl, sym}
use Rattle.std.specs.Prelude.{IsTrue, ◌↔◌}
use Rattle.std.specs.List.{list_all, AllByRecursion as Each}
use Rattle.std.specs.Cmp.Derive.{both_true}
use Rattle.std.proofs.lemmas.Bool.{lt-ltb, ltb-true}
use Rattle.ft_base.specs.declared.number.CallNo.{CallNo}
use Rattle.ft_base.specs.declared.item.Item.{Item}
use Rattle.ft_base.specs.Job.{Job}
use Rattle.ft_base.proofs.Small.{and_both}
use Rattle.ft_hist.specs.Past.{visits}
use Rattle.history_check.specs.declared.open_call.OpenCall.{OpenCall}
use Rattle.history_check.specs.declared.open_call.Visit.{Visit}
use Rattle.history_check.specs.TaskCalls.{IsTop, visit_of}
use Rattle.history_check.proofs.RuleCalls.{visits-are}

-- ## visits

-- a number is below those of all visits
all-before : (call : CallNo) (s : ℕ) (ms : List Visit) → list_all (λ m. nat_lt s m.since) ms ≡ true → Each (λ m. s < m.since) (map (visit_of call) ms)
all-before call s [] e = tt
all-before call s (m ∷ ms) e =
    let both = and_both (nat_lt s m.since) (list_all (λ x. nat_lt s x.since) ms) e in (ltb-true s m.since both.0, all-before call s ms both.1)

before-all : (call : CallNo) (s : ℕ) (ms : List Visit) → Each (λ m. s < m.since) (map (visit_of call) ms) → list_all (λ m. nat_lt s m.since) ms ≡ true
before-all call s [] h = refl
before-all call s (m ∷ ms) h = both_true (lt-ltb s m.since h.0) (before-all call s ms h.1)

pub order-is : (job : Job) (items : List Item) (call : CallNo) (t : OpenCall) → IsTop job items call t → (s : ℕ)
    → IsTrue (list_all (λ m. nat_lt s m.since) t.visits.items) ↔ Each (λ m. s < m.since) (visits job call items)
order-is job items call t k s = rw (sym (visits-are job items call t k)) (all-before call s t.visits.items, before-all call s t.visits.items)
