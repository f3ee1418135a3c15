-- Whether only acts without items are left, and their waits are met.
use Rattle.std.proofs.Common.{◌≡◌, ℕ, Bool, true, List, [], ◌∷◌, refl, sym, ◌∙◌, le-leb, leb-true}
use Rattle.std.specs.Prelude.{IsTrue, ◌↔◌, nat_le}
use Rattle.std.specs.List.{list_all}
use Rattle.std.specs.Cmp.Derive.{both_true}
use Rattle.ft_base.specs.declared.task.TaskAct.{TaskAct}
use Rattle.ft_base.specs.declared.task.TaskAct.TheVariants.{After, Call, Lower, Raise, Ret}
use Rattle.ft_base.proofs.Small.{and_both}
use Rattle.ft_hist.specs.Rules.{GiveNoItems}
use Rattle.history_check.specs.PlainRuns.{is_silent}

all-silent : (returned : ℕ) (acts : List TaskAct) → list_all (is_silent returned) acts ≡ true → GiveNoItems returned acts
all-silent returned [] e = tt
all-silent returned (Call f ∷ rest) e = absurd cc
all-silent returned (Ret ∷ rest) e = absurd cc
all-silent returned (Raise c ∷ rest) e = all-silent returned rest e
all-silent returned (Lower ∷ rest) e = all-silent returned rest e
all-silent returned (After k ∷ rest) e =
    let both = and_both (nat_le k returned) (list_all (is_silent returned) rest) e in (leb-true k returned both.0, all-silent returned rest both.1)

none-left : (returned : ℕ) (acts : List TaskAct) → GiveNoItems returned acts → list_all (is_silent returned) acts ≡ true
none-left returned [] h = refl
none-left returned (Call f ∷ rest) h = absurd h
none-left returned (Ret ∷ rest) h = absurd h
none-left returned (Raise c ∷ rest) h = none-left returned rest h
none-left returned (Lower ∷ rest) h = none-left returned rest h
none-left returned (After k ∷ rest) h = both_true (le-leb k returned h.0) (none-left returned rest h.1)

pub over-is : (returned : ℕ) (acts : List TaskAct) (b : Bool) → b ≡ list_all (is_silent returned) acts → IsTrue b ↔ GiveNoItems returned acts
over-is returned acts b is = (λ t. all-silent returned acts (sym is ∙ t), λ h. is ∙ none-left returned acts h)
