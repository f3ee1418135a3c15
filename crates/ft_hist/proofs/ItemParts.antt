-- How the seven parts of an item are put together: each item keeps some of them by what it is, and the others for nothing.
use Rattle.ft_base.specs.declared.item.Item.{Item}
use Rattle.ft_base.specs.Job.{Job}
use Rattle.std.proofs.Common.{List}
use Rattle.ft_hist.specs.Rules.{KeepsPlainRun, KeepsCallbacks, KeepsSilence, KeepsRefusals, KeepsExits, KeepsFetches, KeepsCommands, MayFollow}

-- all parts but the plain run
abbrev pub KeepsOthers : Job → List Item → Item → Type 0
KeepsOthers job past item =
    KeepsCallbacks job past item × KeepsSilence job past item × KeepsRefusals job past item × KeepsExits job past item × KeepsFetches job past item
    × KeepsCommands job past item

pub may_follow : (job : Job) (past : List Item) (item : Item) → KeepsPlainRun job past item → KeepsOthers job past item → MayFollow job past item
may_follow job past item run o = record { run = run; callbacks = o.0; silence = o.1; refusals = o.2; exits = o.3; fetches = o.4; commands = o.5 }

-- a Begin: it is the next command's, and control has waited
pub of_begin : {C : Type 0} → C → Unit {0} × Unit {0} × Unit {0} × Unit {0} × Unit {0} × C
of_begin commands = (tt, tt, tt, tt, tt, commands)

-- a Return: whom it takes off is still, and it is the answer
pub of_return : {S C : Type 0} → S → C → S × Unit {0} × Unit {0} × Unit {0} × Unit {0} × C
of_return still answered = (still, tt, tt, tt, tt, answered)

-- a Back or a Refuse: the user may be visited, and passes all rules or has the reason; and no Miss is due
pub of_visit : {V R E : Type 0} → V → R → E → V × Unit {0} × R × E × Unit {0} × Unit {0}
of_visit visit reason none = (visit, tt, reason, none, tt, tt)

-- a Body: it is silent and what was fetched is right, and no Miss is due
pub of_body : {S E F : Type 0} → S → E → F → Unit {0} × S × Unit {0} × E × F × Unit {0}
of_body silent none fetched = (tt, silent, tt, none, fetched, tt)

-- each other item: what it keeps of exits and misses
pub of_exits : {E : Type 0} → E → Unit {0} × Unit {0} × Unit {0} × E × Unit {0} × Unit {0}
of_exits exits = (tt, tt, tt, exits, tt, tt)
