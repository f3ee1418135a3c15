-- Items of a history, one after the other.
use Rattle.std.proofs.Common.{◌≡◌, ℕ, ◌+◌, ◌<◌, ◌≤◌, List, [], ◌∷◌, ◌++◌, length, reverse, take, drop, slice_get, Some, sym, ap, ◌∙◌, subst, arith}
use Rattle.std.proofs.lemmas.List.{reverse-append, take-append-drop, length-take-le, length-reverse, take_all}
use Rattle.ft_base.specs.declared.item.Item.{Item}
use Rattle.ft_base.specs.declared.item.Item.TheVariants.{Return, Back, Refuse, Body}
use Rattle.ft_base.specs.Job.{Job}
use Rattle.ft_hist.specs.Past.{begun, done}
use Rattle.ft_hist.specs.Rules.{IsLegal, IsLegalPast, MayFollow}
use Rattle.ft_hist.proofs.Splitting.{past-more}
use Rattle.history_check.specs.Backs.{AreBacksLegal, AreBacksLegalPast, KeepsBacks}
use Rattle.ft_hist.specs.Telling.{past_at}
use Rattle.ft_hist.proofs.WindowLaws.{few-done, few-begun}

-- ## places

-- the past of the end is the whole history
pub past-all : (items : List Item) (k : ℕ) → length items ≤ k → past_at k items ≡ reverse items
past-all items k over = ap reverse (take_all k items over)

-- as many items are before a place as its number
pub length-past : (items : List Item) (k : ℕ) → k ≤ length items → length (past_at k items) ≡ k
length-past items k within = length-reverse (take k items) ∙ length-take-le k items within

-- ## counts

-- before a place there are no more returns, and no more beginnings, than its number
pub done-room : (items : List Item) (k n : ℕ) → n ≡ done (past_at k items) → k < length items → length items < 4294967296 → n + 1 < 4294967296
done-room items k n is lt fits =
    let b = few-done (past_at k items) in
    let l = length-past items k (omega (arith, lt)) in
    omega (arith, is, b, l, lt, fits)

pub begun-room : (items : List Item) (k n : ℕ) → n ≡ begun (past_at k items) → k < length items → length items < 4294967296 → n + 1 < 4294967296
begun-room items k n is lt fits =
    let b = few-begun (past_at k items) in
    let l = length-past items k (omega (arith, lt)) in
    omega (arith, is, b, l, lt, fits)

-- ## the rules

-- nothing before the first item breaks them
pub none-breaks : (job : Job) → AreBacksLegalPast job []
unfolding AreBacksLegalPast
none-breaks job = tt

-- one item more
pub more-keeps : (job : Job) (item : Item) (past : List Item) → KeepsBacks job past item → AreBacksLegalPast job past → AreBacksLegalPast job (item ∷ past)
unfolding AreBacksLegalPast
more-keeps job item past keeps so-far = (keeps, so-far)

last-keeps : (job : Job) (item : Item) (past : List Item) → AreBacksLegalPast job (item ∷ past) → KeepsBacks job past item
unfolding AreBacksLegalPast
last-keeps job item past all = all.0

older-keep : (job : Job) (newer past : List Item) → AreBacksLegalPast job (newer ++ past) → AreBacksLegalPast job past
unfolding AreBacksLegalPast
older-keep job [] past all = all
older-keep job (x ∷ newer) past all = older-keep job newer past all.1

-- each beginning of a history keeps them if all of it does
front-keeps : (job : Job) (items : List Item) (k : ℕ) → AreBacksLegal job items → AreBacksLegalPast job (past_at k items)
unfolding AreBacksLegal
front-keeps job items k all =
    older-keep job (reverse (drop k items)) (past_at k items)
    (subst (λ (xs : List Item). AreBacksLegalPast job xs) (ap reverse (sym (take-append-drop k items)) ∙ reverse-append (take k items) (drop k items)) all)

-- so does each item
pub item-keeps : (job : Job) (items : List Item) (k : ℕ) (item : Item) → slice_get items k ≡ Some item → AreBacksLegal job items → KeepsBacks job (past_at k items) item
item-keeps job items k item here all =
    last-keeps job item (past_at k items) (subst (λ (xs : List Item). AreBacksLegalPast job xs) (past-more items k item here) (front-keeps job items (k + 1) all))

-- the history keeps them if its past at the end does
pub all-keep : (job : Job) (items : List Item) (k : ℕ) → length items ≤ k → AreBacksLegalPast job (past_at k items) → AreBacksLegal job items
unfolding AreBacksLegal
all-keep job items k over all = subst (λ (xs : List Item). AreBacksLegalPast job xs) (past-all items k over) all

-- ## legal histories

follow-keeps : (job : Job) (past : List Item) (item : Item) → MayFollow job past item → KeepsBacks job past item
follow-keeps job past (Back call u) may = may.callbacks
follow-keeps job past (Refuse call u reason) may = may.callbacks
follow-keeps job past (Body call g ran) may = may.silence
follow-keeps job past (Return n answer) may = may.callbacks
follow-keeps job past _ may = tt

legal-past-keeps : (job : Job) (past : List Item) → IsLegalPast job past → AreBacksLegalPast job past
unfolding IsLegalPast AreBacksLegalPast
legal-past-keeps job [] legal = tt
legal-past-keeps job (item ∷ past) legal = (follow-keeps job past item legal.0, legal-past-keeps job past legal.1)

-- each legal history keeps them
pub legal-keeps : (job : Job) (items : List Item) → IsLegal job items → AreBacksLegal job items
unfolding IsLegal AreBacksLegal
legal-keeps job items legal = legal-past-keeps job (reverse items) legal
