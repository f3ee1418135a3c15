-- The rules of callbacks and of silence, alone: what a history keeps of them, legal or not.
use Rattle.std.specs.Prelude.{◌≡◌, true, List, [], ◌∷◌, reverse, IfSome}
use Rattle.ft_base.specs.declared.item.Item.{Item}
use Rattle.ft_base.specs.declared.item.Item.TheVariants.{Return, Back, Refuse, Body}
use Rattle.ft_base.specs.Job.{Job, command_at}
use Rattle.ft_base.specs.Desk.{is_accepted}
use Rattle.ft_hist.specs.Rules.{IsSilent, IsStill, MayVisit}

-- what an item keeps of the rules, after its past: a callback or a refusal is of a user that is on, for the first time in its call, and
-- registered before those visited so far; a dispatch ends if all others were off; and no callback of a user is open when a command that
-- takes it off returns
abbrev pub KeepsBacks : Job → List Item → Item → Type 0
KeepsBacks job past (Back call u) = MayVisit job past call u.0
KeepsBacks job past (Refuse call u reason) = MayVisit job past call u.0
KeepsBacks job past (Body call g ran) = IsSilent job past call
KeepsBacks job past (Return k answer) = is_accepted answer ≡ true → IfSome (command_at job k) (IsStill past)
KeepsBacks job past _ = Unit {0}

-- each item keeps them, the latest first
unfoldable pub AreBacksLegalPast : Job → List Item → Type 0
AreBacksLegalPast job [] = Unit {0}
AreBacksLegalPast job (item ∷ past) = KeepsBacks job past item × AreBacksLegalPast job past

-- a history keeps them
unfoldable pub AreBacksLegal : Job → List Item → Type 0
AreBacksLegal job items = AreBacksLegalPast job (reverse items)
