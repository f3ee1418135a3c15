-- How the words on a past go on over one more item, of whichever actor.
use Rattle.std.proofs.Common.{◌≡◌, ℕ, suc, ◌≤◌, Bool, false, List, [], ◌∷◌, length, refl, arith}
use Rattle.ft_base.specs.declared.number.CallNo.{CallNo}
use Rattle.ft_base.specs.declared.item.Item.{Item}
use Rattle.ft_base.specs.declared.item.Item.TheVariants.{Begin, Return, Enter, Back, Refuse}
use Rattle.ft_base.specs.Same.{same_call}
use Rattle.ft_base.specs.Job.{Job}
use Rattle.ft_hist.specs.Past.{done, begun, entered, entry_of, all_visits, visits}
use Rattle.ft_hist.specs.Rules.{InWindow, IsLegalPast}

-- the counts never fall
pub done-more : (item : Item) (past : List Item) → done past ≤ done (item ∷ past)
done-more (Return k a) past = omega arith
done-more _ past = omega arith

pub begun-more : (item : Item) (past : List Item) → begun past ≤ begun (item ∷ past)
begun-more (Begin k) past = omega arith
begun-more _ past = omega arith

-- each command that has returned or begun is told by an item
pub few-done : (past : List Item) → done past ≤ length past
few-done [] = omega arith
few-done (Return n answer ∷ past) = let h = few-done past in omega (arith, h)
few-done (_ ∷ past) = let h = few-done past in omega (arith, h)

pub few-begun : (past : List Item) → begun past ≤ length past
few-begun [] = omega arith
few-begun (Begin n ∷ past) = let h = few-begun past in omega (arith, h)
few-begun (_ ∷ past) = let h = few-begun past in omega (arith, h)

-- whether an item enters this call
abbrev pub is_enter : CallNo → Item → Bool
is_enter call (Enter c ctx f caller) = same_call c call
is_enter call _ = false

-- a call keeps its Enter
pub entered-more : (call : CallNo) (item : Item) (past : List Item) → is_enter call item ≡ false → entered call (item ∷ past) ≡ entered call past
entered-more call (Enter c ctx f caller) past other = rw other refl
entered-more call _ past other = refl

pub entry_of-more : (call : CallNo) (item : Item) (past : List Item) → is_enter call item ≡ false → entry_of call (item ∷ past) ≡ entry_of call past
entry_of-more call (Enter c ctx f caller) past other = rw other refl
entry_of-more call _ past other = refl

-- what held at a command of the window so far still does
pub InWindow-more : (call : CallNo) (item : Item) (past : List Item) (P : ℕ → Type 0) → is_enter call item ≡ false → InWindow call past P → InWindow call (item ∷ past) P
InWindow-more call item past P other w =
    let e : entry_of call (item ∷ past) ≡ entry_of call past = entry_of-more call item past other in
    let b : begun past ≤ begun (item ∷ past) = begun-more item past in
    (w.0, rw e w.1, (let c = w.2 in omega (arith, b)), w.3)

-- whether an item is a Back or a Refuse of this call
abbrev pub is_visit : CallNo → Item → Bool
is_visit call (Back c u) = same_call c call
is_visit call (Refuse c u reason) = same_call c call
is_visit call _ = false

-- the visits of a call stay over any other item
pub visits-more : (job : Job) (call : CallNo) (item : Item) (past : List Item) → is_visit call item ≡ false → visits job call (item ∷ past) ≡ visits job call past
unfolding all_visits
visits-more job call (Back c u) past other = rw other refl
visits-more job call (Refuse c u reason) past other = rw other refl
visits-more job call _ past other = refl

-- in a legal history at most one command is under way
pub legal-counts : (job : Job) (past : List Item) → IsLegalPast job past → (done past ≤ begun past) × (begun past ≤ suc (done past))
unfolding IsLegalPast
legal-counts job [] l = (omega arith, omega arith)
legal-counts job (Begin k ∷ past) l =
    let e : begun past ≡ done past = l.0.commands.0.follows in (omega arith, omega arith)
legal-counts job (Return k a ∷ past) l =
    let e : begun past ≡ suc (done past) = l.0.commands.follows in (omega arith, omega arith)
legal-counts job (_ ∷ past) l = legal-counts job past l.1
