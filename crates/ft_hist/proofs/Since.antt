-- What items leave alone: the words on a call over items that don't touch it, and all that is older than a call.
use Rattle.std.proofs.Common.{cond, ◌≡◌, ℕ, suc, ◌<◌, ◌≤◌, Bool, true, false, not, ◌&&◌, ◌||◌, ◌==◌, List, [], ◌∷◌, length, Some, subst, refl, sym, ap, ◌∙◌, arith, inl, inr}
use Rattle.std.proofs.lemmas.Bool.Decides.{eqb_tells}
use Rattle.std.specs.List.{filter, list_any, AllByRecursion as Each}
use Rattle.ft_base.specs.declared.number.CallNo.{CallNo}
use Rattle.ft_base.specs.declared.item.Item.{Item}
use Rattle.ft_base.specs.declared.item.Item.TheVariants.{Enter, Back, Refuse, Body, Leave, Exit, Ret}
use Rattle.ft_base.specs.Items.{call_of}
use Rattle.ft_base.specs.Same.{same_call}
use Rattle.ft_base.specs.Job.{Job}
use Rattle.ft_base.specs.Desk.{spec_at}
use Rattle.ft_base.specs.Kinds.{cancels}
use Rattle.ft_hist.specs.Past.{is_of, done, begun, entered, entry_of, is_open, is_dispatched, all_visits, visits, exits, done_at_leave, miss_due, Visit}
use Rattle.ft_hist.specs.Plain.{plain}
use Rattle.ft_hist.specs.Known.{Watches, holds}

-- whether an item says something of a call that a word on the call sees
abbrev pub touches : CallNo → Item → Bool
touches c (Enter call x f caller) = same_call call c
touches c (Back call u) = same_call call c
touches c (Refuse call u reason) = same_call call c
touches c (Body call g ran) = same_call call c
touches c (Leave call) = same_call call c
touches c (Exit call u entry) = same_call call c
touches c (Ret call to) = same_call call c
touches c _ = false

-- the words on a call are the same
pub record Untouched (job : Job) (c : CallNo) (past past' : List Item) : Type 0 where
  pub entered : entered c past' ≡ entered c past
  pub open' : is_open c past' ≡ is_open c past
  pub dispatched : is_dispatched c past' ≡ is_dispatched c past
  pub visits : visits job c past' ≡ visits job c past
  pub exits : exits c past' ≡ exits c past
  pub left : done_at_leave c past' ≡ done_at_leave c past

pub untouched-refl : (job : Job) (c : CallNo) (past : List Item) → Untouched job c past past
untouched-refl job c past = record { entered = refl; open' = refl; dispatched = refl; visits = refl; exits = refl; left = refl }

pub untouched-trans : (job : Job) (c : CallNo) (a b d : List Item) → Untouched job c a b → Untouched job c b d → Untouched job c a d
untouched-trans job c a b d x y = record {
  entered = y.entered ∙ x.entered;
  open' = y.open' ∙ x.open';
  dispatched = y.dispatched ∙ x.dispatched;
  visits = y.visits ∙ x.visits;
  exits = y.exits ∙ x.exits;
  left = y.left ∙ x.left;
}

pub untouched-item : (job : Job) (c : CallNo) (past : List Item) (item : Item) → touches c item ≡ false → Untouched job c past (item ∷ past)
unfolding all_visits
untouched-item job c past (Enter call x f caller) e = record { entered = rw e refl; open' = rw e refl; dispatched = refl; visits = refl; exits = refl; left = refl }
untouched-item job c past (Back call u) e = record { entered = refl; open' = refl; dispatched = refl; visits = rw e refl; exits = refl; left = refl }
untouched-item job c past (Refuse call u reason) e = record { entered = refl; open' = refl; dispatched = refl; visits = rw e refl; exits = refl; left = refl }
untouched-item job c past (Body call g ran) e = record { entered = refl; open' = refl; dispatched = rw e refl; visits = refl; exits = refl; left = refl }
untouched-item job c past (Leave call) e = record { entered = refl; open' = refl; dispatched = refl; visits = refl; exits = refl; left = rw e refl }
untouched-item job c past (Exit call u entry) e = record { entered = refl; open' = refl; dispatched = refl; visits = refl; exits = rw e refl; left = refl }
untouched-item job c past (Ret call to) e = record { entered = refl; open' = rw e refl; dispatched = refl; visits = refl; exits = refl; left = refl }
untouched-item job c past _ e = record { entered = refl; open' = refl; dispatched = refl; visits = refl; exits = refl; left = refl }

apart-from : (x call c : CallNo) → Some x ≡ Some call → same_call call c ≡ false → same_call x c ≡ false
apart-from x call c is other = let same : call ≡ x = cc in subst (λ (d : CallNo). same_call d c ≡ false) same other

-- an item touches no call but its own
pub touches-none : (item : Item) (call c : CallNo) → call_of item ≡ Some call → same_call call c ≡ false → touches c item ≡ false
touches-none (Enter x ctx f caller) call c is other = apart-from x call c is other
touches-none (Back x u) call c is other = apart-from x call c is other
touches-none (Refuse x u reason) call c is other = apart-from x call c is other
touches-none (Body x g ran) call c is other = apart-from x call c is other
touches-none (Leave x) call c is other = apart-from x call c is other
touches-none (Exit x u entry) call c is other = apart-from x call c is other
touches-none (Ret x to) call c is other = apart-from x call c is other
touches-none _ call c is other = refl

-- ## what is older

abbrev pub IsOlder : ℕ → ℕ → CallNo → Type 0
IsOlder t n c = c.task.0 ≡ t → c.n < n

-- the items between two pasts are of calls of task t from number n on
pub record Since (job : Job) (t n : ℕ) (past past' : List Item) : Type 0 where
  pub older : (c : CallNo) → IsOlder t n c → Untouched job c past past'
  pub runs : (v : ℕ) → (t == v) ≡ false → plain job v past' ≡ plain job v past
  pub misses : (v : ℕ) → (t == v) ≡ false → miss_due job v past' ≡ miss_due job v past
  pub done : done past' ≡ done past
  pub begun : begun past' ≡ begun past
  pub longer : length past ≤ length past'

pub since-refl : (job : Job) (t n : ℕ) (past : List Item) → Since job t n past past
since-refl job t n past = record { older = λ c e. untouched-refl job c past; runs = λ v e. refl; misses = λ v e. refl; done = refl; begun = refl; longer = omega arith }

pub since-trans : (job : Job) (t n : ℕ) (a b d : List Item) → Since job t n a b → Since job t n b d → Since job t n a d
since-trans job t n a b d x y = record {
  older = λ c e. untouched-trans job c a b d (x.older c e) (y.older c e);
  runs = λ v e. y.runs v e ∙ x.runs v e;
  misses = λ v e. y.misses v e ∙ x.misses v e;
  done = y.done ∙ x.done;
  begun = y.begun ∙ x.begun;
  longer = (let a' = x.longer in let b' = y.longer in omega arith);
}

-- the calls from a later number on are among those from an earlier one
pub since-later : (job : Job) (t n m : ℕ) (a b : List Item) → n ≤ m → Since job t m a b → Since job t n a b
since-later job t n m a b le x = record {
  older = λ c e. x.older c (λ s. let lt = e s in omega arith);
  runs = x.runs;
  misses = x.misses;
  done = x.done;
  begun = x.begun;
  longer = x.longer;
}

pub apart : (t n : ℕ) (call c : CallNo) → call.task.0 ≡ t → n ≤ call.n → IsOlder t n c → same_call call c ≡ false
apart t n call c own le old =
    elim (eqb_tells call.task.0 c.task.0) [
      | inl e ↦ let lt : c.n < n = old (sym e.1 ∙ own) in
          let ne : (call.n == c.n) ≡ false = elim (eqb_tells call.n c.n) [ inl x ↦ (let y : call.n ≡ c.n = x.1 in absurd (omega arith)) | inr x ↦ x.0 ] in
          rw (e.0, ne) refl
      | inr e ↦ rw e.0 refl
    ]

pub misses-other : (job : Job) (v : ℕ) (item : Item) (past : List Item) → is_of v item ≡ false → miss_due job v (item ∷ past) ≡ miss_due job v past
misses-other job v item past e = rw e refl

pub since-item : (job : Job) (t n : ℕ) (call : CallNo) (item : Item) (past : List Item) → call.task.0 ≡ t → n ≤ call.n
    → ((v : ℕ) → is_of v item ≡ (call.task.0 == v)) → ((c : CallNo) → same_call call c ≡ false → touches c item ≡ false)
    → done (item ∷ past) ≡ done past → begun (item ∷ past) ≡ begun past → Since job t n past (item ∷ past)
unfolding plain
since-item job t n call item past own le is touch d b = record {
  older = λ c old. untouched-item job c past item (touch c (apart t n call c own le old));
  runs = λ v e. rw (is v, own, e) refl;
  misses = λ v e. misses-other job v item past (is v ∙ rw own e);
  done = d;
  begun = b;
  longer = omega arith;
}

-- ## frames

-- how many of these calls hold a frame
abbrev pub holding : Job → List Item → List CallNo → ℕ
holding job past cs = length (filter (λ c. holds job past c) cs)

pub any-filter : {A : Type 0} (p q r : A → Bool) (xs : List A) → list_any (λ x. p x && q x && r x) xs ≡ list_any (λ x. q x && r x) (filter p xs)
any-filter p q r [] = refl
any-filter p q r (x ∷ xs) = elim (p x) as (λ b. ((b && q x && r x) || list_any (λ y. p y && q y && r y) xs) ≡ list_any (λ y. q y && r y) (cond b (x ∷ filter p xs) (filter p xs))) [
  | true ↦ ap (λ b. (q x && r x) || b) (any-filter p q r xs)
  | false ↦ any-filter p q r xs
]

-- by the visits of the call alone
abbrev pub holds_by : Job → Bool → Bool → List Visit → Bool
holds_by job open' dispatched ms = open' && (cond dispatched (list_any (λ m. m.framed && not (cancels (spec_at job m.user).kind)) ms) (list_any (λ m. m.framed && true) ms))

pub holds-by : (job : Job) (past : List Item) (c : CallNo) → holds job past c ≡ holds_by job (is_open c past) (is_dispatched c past) (visits job c past)
holds-by job past c =
    rw (any-filter (λ m. same_call m.call c) (λ m. m.framed) (λ m. not (cancels (spec_at job m.user).kind)) (all_visits job past), any-filter (λ m. same_call m.call c) (λ m. m.framed) (λ m. true) (all_visits job past)) refl

pub holds-untouched : (job : Job) (c : CallNo) (past past' : List Item) → Untouched job c past past' → holds job past' c ≡ holds job past c
holds-untouched job c past past' u = holds-by job past' c ∙ rw (u.open', u.dispatched, u.visits) refl ∙ sym (holds-by job past c)

pub holding-since : (job : Job) (t n : ℕ) (past past' : List Item) (cs : List CallNo) → Since job t n past past' → Each (IsOlder t n) cs → holding job past' cs ≡ holding job past cs
holding-since job t n past past' [] s h = refl
holding-since job t n past past' (c ∷ cs) s h =
    let same = holds-untouched job c past past' (s.older c h.0) in
    let rest = holding-since job t n past past' cs s h.1 in
    rw same (elim (holds job past c) as (λ b. length (cond b (c ∷ filter (λ x. holds job past' x) cs) (filter (λ x. holds job past' x) cs)) ≡ length (cond b (c ∷ filter (λ x. holds job past x) cs) (filter (λ x. holds job past x) cs))) [
      | true ↦ ap suc rest
      | false ↦ rest
    ])

-- ## who is still to come

pub entry-untouched : (job : Job) (c : CallNo) (past past' : List Item) → Untouched job c past past' → entry_of c past' ≡ entry_of c past
entry-untouched job c past past' u = rw u.entered refl

pub watches-untouched : (job : Job) (call : CallNo) (f : ℕ) (past past' : List Item) (todo : ℕ → Bool) → Untouched job call past past' → begun past ≤ begun past'
    → Watches job call f past todo → Watches job call f past' todo
watches-untouched job call f past past' todo u le w v un =
    elim (w v (rw u.visits at un)) [
      | inl x ↦ inl x
      | inr x ↦ inr (x.0, rw (entry-untouched job call past past' u) x.1, (let b = x.2 in omega (arith, b, le)), x.3)
    ]
