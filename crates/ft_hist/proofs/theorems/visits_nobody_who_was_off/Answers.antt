use Rattle.ft_hist.proofs.ItemOrders.{at_x, was-on}
use Rattle.ft_base.specs.declared.item.Item.TheVariants.{Back, Refuse}
use Rattle.ft_hist.proofs.theorems.visits_nobody_who_was_off.Goals as goal

pub returns-clause-back : goal.returns-clause-back
returns-clause-back c = λ job items before mid rest call ctx f caller user legal e.
    was-on job items before mid rest call ctx f caller (Back call user) legal e user.0 (at_x job items before mid rest call ctx f caller (Back call user) legal e).callbacks

pub returns-clause-refuse : goal.returns-clause-refuse
returns-clause-refuse c = λ job items before mid rest call ctx f caller user reason legal e.
    was-on job items before mid rest call ctx f caller (Refuse call user reason) legal e user.0 (at_x job items before mid rest call ctx f caller (Refuse call user reason) legal e).callbacks
