-- What an item leaves of the calls that are kept: all of a call that it says nothing of.
use Rattle.std.proofs.Common.{cond, ◌≡◌, ℕ, suc, Bool, true, false, List, [], ◌∷◌, length, Some, refl, sym, ap, ◌∙◌}
use Rattle.std.specs.List.{filter, AllByRecursion as Each}
use Rattle.ft_base.specs.declared.number.CallNo.{CallNo}
use Rattle.ft_base.specs.declared.item.Item.{Item}
use Rattle.ft_base.specs.declared.item.Item.TheVariants.{Enter, Back, Refuse, Body, Leave, Exit, Ret}
use Rattle.ft_base.specs.Items.{call_of}
use Rattle.ft_base.specs.Same.{same_call}
use Rattle.ft_base.specs.Job.{Job}
use Rattle.ft_hist.specs.Past.{is_of}
use Rattle.ft_hist.specs.Known.{holds}
use Rattle.ft_hist.proofs.RunLaws.{some_inj}
use Rattle.ft_hist.proofs.Since.{Untouched, holds-untouched, touches, untouched-item}
use Rattle.ft_hist.proofs.Laws.{other-task}
use Rattle.history_check.specs.declared.open_call.OpenCall.{OpenCall}
use Rattle.history_check.specs.TaskCalls.{AreStacked, IsOpenCall, holding}

-- an item of one call says nothing of another
pub touch-other : (c call : CallNo) (item : Item) → call_of item ≡ Some call → same_call call c ≡ false → touches c item ≡ false
touch-other c call (Enter d x f caller) is other = ap (λ (y : CallNo). same_call y c) (some_inj d call is) ∙ other
touch-other c call (Back d u) is other = ap (λ (y : CallNo). same_call y c) (some_inj d call is) ∙ other
touch-other c call (Refuse d u reason) is other = ap (λ (y : CallNo). same_call y c) (some_inj d call is) ∙ other
touch-other c call (Body d g ran) is other = ap (λ (y : CallNo). same_call y c) (some_inj d call is) ∙ other
touch-other c call (Leave d) is other = ap (λ (y : CallNo). same_call y c) (some_inj d call is) ∙ other
touch-other c call (Exit d u entry) is other = ap (λ (y : CallNo). same_call y c) (some_inj d call is) ∙ other
touch-other c call (Ret d to) is other = ap (λ (y : CallNo). same_call y c) (some_inj d call is) ∙ other
touch-other c call _ is other = refl

-- an item of another task, or of none, says nothing of a task's calls
pub touch-task : (t : ℕ) (c : CallNo) (item : Item) → is_of t item ≡ false → c.task.0 ≡ t → touches c item ≡ false
touch-task t c (Enter d x f caller) other own = other-task t d c other own
touch-task t c (Back d u) other own = other-task t d c other own
touch-task t c (Refuse d u reason) other own = other-task t d c other own
touch-task t c (Body d g ran) other own = other-task t d c other own
touch-task t c (Leave d) other own = other-task t d c other own
touch-task t c (Exit d u entry) other own = other-task t d c other own
touch-task t c (Ret d to) other own = other-task t d c other own
touch-task t c _ other own = refl

-- what is kept of a call is still what the items tell if they tell the same
pub open-untouched : (job : Job) (past past' : List Item) (o : OpenCall) → Untouched job o.call past past' → IsOpenCall job past o → IsOpenCall job past' o
open-untouched job past past' o u k = record {
  entered' = (k.entered'.0, u.entered ∙ k.entered'.1);
  open' = u.open' ∙ k.open';
  dispatched = k.dispatched ∙ sym u.dispatched;
  visits' = k.visits' ∙ sym u.visits;
  exits' = k.exits' ∙ sym u.exits;
  left = k.left ∙ sym u.left;
}

module _ (job : Job) (past : List Item) (item : Item) where
  -- the item says nothing of any of these calls
  abbrev pub AreUntouched : List OpenCall → Type 0
  AreUntouched cs = Each (λ c. touches c.call item ≡ false) cs

  pub calls-stay : (cs : List OpenCall) → AreUntouched cs → Each (IsOpenCall job past) cs → Each (IsOpenCall job (item ∷ past)) cs
  calls-stay [] free h = tt
  calls-stay (c ∷ cs) free h = (open-untouched job past (item ∷ past) c (untouched-item job c.call past item free.0) h.0, calls-stay cs free.1 h.1)

  pub holding-stays : (cs : List OpenCall) → AreUntouched cs → holding job (item ∷ past) cs ≡ holding job past cs
  holding-stays [] free = refl
  holding-stays (c ∷ cs) free =
      let same = holds-untouched job c.call past (item ∷ past) (untouched-item job c.call past item free.0) in
      let rest = holding-stays cs free.1 in
      rw same (one (holds job past c.call) rest)
    where
      one : (b : Bool) → holding job (item ∷ past) cs ≡ holding job past cs
          → length (cond b (c ∷ filter (λ (x : OpenCall). holds job (item ∷ past) x.call) cs) (filter (λ (x : OpenCall). holds job (item ∷ past) x.call) cs))
          ≡ length (cond b (c ∷ filter (λ (x : OpenCall). holds job past x.call) cs) (filter (λ (x : OpenCall). holds job past x.call) cs))
      one true rest = ap suc rest
      one false rest = rest

  pub stacked-stays : (cs : List OpenCall) → AreUntouched cs → AreStacked job past cs → AreStacked job (item ∷ past) cs
  unfolding AreStacked
  stacked-stays [] free h = tt
  stacked-stays (c ∷ cs) free h = (h.0 ∙ sym (holding-stays cs free.1), stacked-stays cs free.1 h.1)
