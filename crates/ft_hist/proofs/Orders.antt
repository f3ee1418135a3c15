-- The laws of order by items: which user comes before which, what runs, who is let in, and how commands go one by one.
use Rattle.std.proofs.Common.{cond, ◌≡◌, ℕ, suc, ◌<◌, ◌≤◌, Bool, true, false, ◌&&◌, ◌==◌, List, [], ◌∷◌, ◌++◌, length, reverse, Option, Some, is_some, refl, sym, ap, ◌∙◌, subst, arith, eqb-true, append_assoc, inl, inr}
use Rattle.std.specs.Prelude.{slice_get}
use Rattle.std.specs.List.{list_any, filter, AllByRecursion as Each}
use Rattle.std.proofs.lemmas.List.{reverse-reverse}
use Rattle.std.proofs.lemmas.Bool.{cases_lt}
use Rattle.ft_base.specs.declared.number.CallNo.{CallNo}
use Rattle.ft_base.specs.declared.number.FuncNo.{FuncNo}
use Rattle.ft_base.specs.declared.number.UserNo.{UserNo}
use Rattle.ft_base.specs.declared.context.Ctx.{Ctx}
use Rattle.ft_base.specs.declared.item.Answer.{Answer}
use Rattle.ft_base.specs.declared.item.Ran.{Ran}
use Rattle.ft_base.specs.declared.item.Ran.TheVariants.{Nop, Own}
use Rattle.ft_base.specs.declared.item.Item.{Item}
use Rattle.ft_base.specs.declared.item.Item.TheVariants.{Begin, Return, Enter, Back, Refuse, Body}
use Rattle.ft_base.specs.Same.{same_call}
use Rattle.ft_base.specs.Job.{Job, Command, commands}
use Rattle.ft_base.specs.Desk.{spec_at, answer_at}
use Rattle.ft_base.proofs.Small.{false_true, and_both, or-true, ==-refl}
use Rattle.ft_hist.specs.Past.{done, begun, entry_of, Visit, visit, visits, all_visits}
use Rattle.ft_hist.specs.Rules.{IsLegal, IsLegalPast, MayFollow, MayVisit, IsFetched, backs_with_replacement, replacement}
use Rattle.ft_hist.specs.Telling.{is_visit_by, is_command, is_return_of, since_at}
use Rattle.ft_hist.proofs.Splitting.{splits, split-reverse}
use Rattle.ft_hist.proofs.Laws.{same_call-refl}
use Rattle.ft_hist.proofs.RunLaws.{same_call-eq}
use Rattle.ft_hist.proofs.ByItems.{any-reverse, visited-since, visits-older, of-visit, HasBack, told}
use Rattle.ft_hist.proofs.ItemOrders.{later_at, legal-to, at_x, func_is}

-- ## the order of users

visit-may : (job : Job) (past : List Item) (y : Item) (call : CallNo) (v : ℕ) → is_visit_by call v y ≡ true → MayFollow job past y → MayVisit job past call v
visit-may job past (Back c w) call v h f =
    let both = and_both (same_call c call) (w.0 == v) h in
    subst (λ (d : CallNo). MayVisit job past d v) (same_call-eq c call both.0) (subst (λ (n : ℕ). MayVisit job past c n) (eqb-true w.0 v both.1) f.callbacks)
visit-may job past (Refuse c w reason) call v h f =
    let both = and_both (same_call c call) (w.0 == v) h in
    subst (λ (d : CallNo). MayVisit job past d v) (same_call-eq c call both.0) (subst (λ (n : ℕ). MayVisit job past c n) (eqb-true w.0 v both.1) f.callbacks)
visit-may job past _ call v h f = false_true h

-- whoever is visited later in a call was registered earlier
pub registered-earlier : (job : Job) (items first second third : List Item) (x y : Item) (call : CallNo) (u v : ℕ) → IsLegal job items → items ≡ first ++ x ∷ (second ++ y ∷ third)
    → is_visit_by call u x ≡ true → is_visit_by call v y ≡ true → since_at job call v (first ++ x ∷ second) < since_at job call u first
registered-earlier job items first second third x y call u v legal e there later =
    let may = visit-may job (reverse (first ++ x ∷ second)) y call v later (later_at job items first second third x y legal e) in
    let all = subst (λ (past : List Item). Each (λ m. since_at job call v (first ++ x ∷ second) < m.since) (visits job call past)) (split-reverse first x second) may.order in
    (of-visit job call (λ m. since_at job call v (first ++ x ∷ second) < m.since) u x (reverse second) (reverse first) there all).1

-- ## what runs

abbrev replaces : Job → Visit → Bool
replaces job m = m.back && is_some (spec_at job m.user).ipmodify

-- one that passes adds to those that do
more-left : {X : Type 0} (p : X → Bool) (xs : List X) (x : X) (ys : List X) → p x ≡ true → suc (length (filter p ys)) ≤ length (filter p (xs ++ x ∷ ys))
more-left p [] x ys e = rw e (omega arith)
more-left p (z ∷ xs) x ys e = by (p z) (more-left p xs x ys e)
  where
    by : (b : Bool) → suc (length (filter p ys)) ≤ length (filter p (xs ++ x ∷ ys)) → suc (length (filter p ys)) ≤ length (cond b (z ∷ filter p (xs ++ x ∷ ys)) (filter p (xs ++ x ∷ ys)))
    by true le = omega (arith, le)
    by false le = le

none-of : {X : Type 0} (xs : List X) → length xs ≤ 0 → xs ≡ []
none-of [] le = refl
none-of (x ∷ xs) le = absurd (omega (arith, le))

-- where at most one passes, that is all that do
only-one : {X : Type 0} (p : X → Bool) (xs : List X) (x : X) (ys : List X) → p x ≡ true → length (filter p (xs ++ x ∷ ys)) ≤ 1 → filter p (xs ++ x ∷ ys) ≡ x ∷ []
only-one p [] x ys e le = rw e (ap (λ zs. x ∷ zs) (none-of (filter p ys) (let l = rw e at le in omega (arith, l))))
only-one p (z ∷ xs) x ys e le = by (p z) le (only-one p xs x ys e)
  where
    by : (b : Bool) → length (cond b (z ∷ filter p (xs ++ x ∷ ys)) (filter p (xs ++ x ∷ ys))) ≤ 1 → (length (filter p (xs ++ x ∷ ys)) ≤ 1 → filter p (xs ++ x ∷ ys) ≡ x ∷ [])
        → cond b (z ∷ filter p (xs ++ x ∷ ys)) (filter p (xs ++ x ∷ ys)) ≡ x ∷ []
    by true l more = let some = more-left p xs x ys e in absurd (omega (arith, l, some))
    by false l more = more l

func_no : (g h : FuncNo) → g.0 ≡ h.0 → g ≡ h
func_no g h e = ap number e
  where
    number : ℕ → FuncNo
    number n = record { 0 = n }

back-now : (job : Job) (call : CallNo) (user : UserNo) (older : List Item) → visits job call (Back call user ∷ older) ≡ visit job call user.0 older (all_visits job older) true ∷ visits job call older
unfolding all_visits
back-now job call user older = rw (same_call-refl call) refl

-- the replacement of a user that was called back
pub replaced : (job : Job) (items first mid rest : List Item) (call : CallNo) (user : UserNo) (g h : FuncNo) (ran : Ran) → IsLegal job items
    → items ≡ first ++ Back call user ∷ (mid ++ Body call g ran ∷ rest) → (spec_at job user.0).ipmodify ≡ Some h → g ≡ h
replaced job items first mid rest call user g h ran legal e has =
    let past = reverse (first ++ Back call user ∷ mid) in
    let may : IsFetched job past call g.0 ran = (later_at job items first mid rest (Back call user) (Body call g ran) legal e).fetches in
    let b = back-among job call user (reverse mid) (reverse first) in
    let is : visits job call past ≡ b.0 ++ b.1 ∷ b.2 = ap (λ (xs : List Item). visits job call xs) (split-reverse first (Back call user) mid) ∙ b.3 in
    let passes : replaces job b.1 ≡ true = rw (b.4, b.5, has) refl in
    let one : length (filter (λ m. replaces job m) (b.0 ++ b.1 ∷ b.2)) ≤ 1 = subst (λ ms. length (filter (λ m. replaces job m) ms) ≤ 1) is may.one in
    let only : backs_with_replacement job (visits job call past) ≡ b.1 ∷ [] = ap (λ ms. filter (λ m. replaces job m) ms) is ∙ only-one (λ m. replaces job m) b.0 b.1 b.2 passes one in
    func_no g h (may.runs ∙ ap (λ ms. replacement job (entry_of call past).func ms) only ∙ rw (b.5, has) refl)
  where
    back-among : (job : Job) (call : CallNo) (user : UserNo) (newer older : List Item)
        → (xs : List Visit) × (m : Visit) × (ys : List Visit) × (visits job call (newer ++ Back call user ∷ older) ≡ xs ++ m ∷ ys) × (m.back ≡ true) × (m.user ≡ user.0)
    back-among job call user newer older =
        let w = visits-older job call newer (Back call user ∷ older) in
        (w.0, visit job call user.0 older (all_visits job older) true, visits job call older, w.1 ∙ ap (λ ms. w.0 ++ ms) (back-now job call user older), refl, refl)

-- nobody else that was called back has one
module _ (job : Job) (items a b c d : List Item) (call : CallNo) (u v : UserNo) (g : FuncNo) (ran : Ran) (legal : IsLegal job items)
    (e : items ≡ a ++ Back call u ∷ (b ++ Back call v ∷ (c ++ Body call g ran ∷ d))) where
  abbrev upto : List Item
  upto = a ++ Back call u ∷ b

  abbrev at_end : List Item
  at_end = reverse (upto ++ Back call v ∷ c)

  abbrev now : UserNo → List Item → Visit
  now w older = visit job call w.0 older (all_visits job older) true

  split : items ≡ upto ++ Back call v ∷ (c ++ Body call g ran ∷ d)
  split = e ∙ sym (append_assoc a (Back call u ∷ b) (Back call v ∷ (c ++ Body call g ran ∷ d)))

  may : IsFetched job at_end call g.0 ran
  may = (later_at job items upto c d (Back call v) (Body call g ran) legal split).fetches

  pub replaced-once : is_some (spec_at job u.0).ipmodify ≡ true → is_some (spec_at job v.0).ipmodify ≡ false
  replaced-once first = by (is_some (spec_at job v.0).ipmodify) refl
    where
      by : (x : Bool) → is_some (spec_at job v.0).ipmodify ≡ x → is_some (spec_at job v.0).ipmodify ≡ false
      by false q = q
      by true q =
          let later = visits-older job call (reverse c) (Back call v ∷ reverse upto) in
          let earlier = visits-older job call (reverse b) (Back call u ∷ reverse a) in
          let under : visits job call (reverse upto) ≡ earlier.0 ++ now u (reverse a) ∷ visits job call (reverse a) =
          ap (λ (xs : List Item). visits job call xs) (split-reverse a (Back call u) b) ∙ earlier.1 ∙ ap (λ ms. earlier.0 ++ ms) (back-now job call u (reverse a)) in
          let all : visits job call at_end ≡ later.0 ++ now v (reverse upto) ∷ visits job call (reverse upto) =
          ap (λ (xs : List Item). visits job call xs) (split-reverse upto (Back call v) c) ∙ later.1 ∙ ap (λ ms. later.0 ++ ms) (back-now job call v (reverse upto)) in
          let one : length (filter (λ m. replaces job m) (later.0 ++ now v (reverse upto) ∷ visits job call (reverse upto))) ≤ 1 = subst (λ ms. length (filter (λ m. replaces job m) ms) ≤ 1) all may.one in
          let two = more-left (λ m. replaces job m) later.0 (now v (reverse upto)) (visits job call (reverse upto)) q in
          let some : suc (length (filter (λ m. replaces job m) (visits job call (reverse a)))) ≤ length (filter (λ m. replaces job m) (visits job call (reverse upto))) =
          subst (λ ms. suc (length (filter (λ m. replaces job m) (visits job call (reverse a)))) ≤ length (filter (λ m. replaces job m) ms)) (sym under)
          (more-left (λ m. replaces job m) earlier.0 (now u (reverse a)) (visits job call (reverse a)) first) in
          absurd (omega (arith, one, two, some))

-- where nobody that was called back has one, the function itself
module _ (job : Job) (items before mid rest : List Item) (call : CallNo) (ctx : Ctx) (f g : FuncNo) (caller : Option CallNo) (ran : Ran) (legal : IsLegal job items)
    (e : items ≡ before ++ Enter call ctx f caller ∷ (mid ++ Body call g ran ∷ rest))
    (none : (a b : List Item) (user : UserNo) → before ++ Enter call ctx f caller ∷ mid ≡ a ++ Back call user ∷ b → is_some (spec_at job user.0).ipmodify ≡ false) where
  abbrev at_body : List Item
  at_body = reverse (before ++ Enter call ctx f caller ∷ mid)

  plain-user : (m : Visit) → HasBack job call m at_body → is_some (spec_at job m.user).ipmodify ≡ false
  plain-user m h = none (reverse h.1) (reverse h.0) (record { 0 = m.user })
      (sym (reverse-reverse (before ++ Enter call ctx f caller ∷ mid)) ∙ ap (λ (xs : List Item). reverse xs) h.2 ∙ split-reverse h.0 (Back call (record { 0 = m.user })) h.1)

  nobody : (ms : List Visit) → Each (λ m. m.back ≡ true → HasBack job call m at_body) ms → backs_with_replacement job ms ≡ []
  nobody [] h = refl
  nobody (m ∷ ms) h = by m.back refl (nobody ms h.1)
    where
      by : (b : Bool) → m.back ≡ b → backs_with_replacement job ms ≡ [] → cond (b && is_some (spec_at job m.user).ipmodify) (m ∷ backs_with_replacement job ms) (backs_with_replacement job ms) ≡ []
      by true q more = rw (plain-user m (h.0 q)) more
      by false q more = more

  pub unreplaced : g ≡ f
  unreplaced =
      let m = (at_x job items before mid rest call ctx f caller (Body call g ran) legal e).fetches in
      func_no g f (m.runs ∙ ap (λ ms. replacement job (entry_of call at_body).func ms) (nobody (visits job call at_body) (told job call at_body)) ∙ func_is job items before mid rest call ctx f caller (Body call g ran) legal e)

-- ## who is let in

-- nobody through the nop
pub none-through : (job : Job) (items first second rest : List Item) (x : Item) (call : CallNo) (u : ℕ) (g : FuncNo) → IsLegal job items
    → items ≡ first ++ x ∷ (second ++ Body call g Nop ∷ rest) → is_visit_by call u x ≡ false
none-through job items first second rest x call u g legal e = by (is_visit_by call u x) refl
  where
    by : (b : Bool) → is_visit_by call u x ≡ b → is_visit_by call u x ≡ false
    by false q = q
    by true q =
        let past = reverse (first ++ x ∷ second) in
        let none : visits job call past ≡ [] = (later_at job items first second rest x (Body call g Nop) legal e).fetches.only in
        let seen : list_any (λ m. m.user == u) (visits job call past) ≡ true =
        subst (λ xs. list_any (λ m. m.user == u) (visits job call xs) ≡ true) (sym (split-reverse first x second)) (visited-since job call u (reverse second) x (reverse first) q) in
        false_true (rw none at seen)

-- one user alone through its own trampoline
pub own-through : (job : Job) (items first second rest : List Item) (x : Item) (call : CallNo) (u : ℕ) (g : FuncNo) (user : UserNo) → IsLegal job items
    → items ≡ first ++ x ∷ (second ++ Body call g (Own user) ∷ rest) → is_visit_by call u x ≡ true → u ≡ user.0
own-through job items first second rest x call u g user legal e there =
    let only = (later_at job items first second rest x (Body call g (Own user)) legal e).fetches.only in
    let all = subst (λ (past : List Item). Each (λ m. m.user ≡ user.0) (visits job call past)) (split-reverse first x second) only in
    (of-visit job call (λ m. m.user ≡ user.0) u x (reverse second) (reverse first) there all).1

-- ## commands

pub begins-next : (job : Job) (items first rest : List Item) (k : ℕ) → IsLegal job items → items ≡ first ++ Begin k ∷ rest
    → (begun (reverse first) ≡ done (reverse first)) × (k ≡ suc (done (reverse first))) × (k ≤ length (commands job))
begins-next job items first rest k legal e =
    let m = (splits job items first (Begin k) rest legal e).commands.0 in
    let n = m.number in
    let follows = m.follows in
    let stands = m.stands in
    (follows, omega (arith, n, follows), omega (arith, n, stands))

-- the command under way is that of the latest mark
abbrev UnderWay : List Item → Type 0
UnderWay past = (newer : List Item) × (older : List Item) × (past ≡ newer ++ Begin (suc (done past)) ∷ older) × (list_any is_command newer ≡ false)

under-way : (job : Job) (past : List Item) → IsLegalPast job past → begun past ≡ suc (done past) → UnderWay past
unfolding IsLegalPast
under-way job [] l e = absurd (omega (arith, e))
under-way job (Begin k ∷ past) l e =
    let m = l.0.commands.0 in
    let n = m.number in
    let follows = m.follows in
    let k_is : k ≡ suc (done past) = omega (arith, n, follows) in
    ([], past, ap (λ (j : ℕ). Begin j ∷ past) k_is, refl)
under-way job (Return k a ∷ past) l e = let follows = l.0.commands.follows in absurd (omega (arith, e, follows))
under-way job (x ∷ past) l e = further x past refl refl (under-way job past l.1 e)
  where
    further : (x : Item) (past : List Item) → is_command x ≡ false → done (x ∷ past) ≡ done past → UnderWay past → UnderWay (x ∷ past)
    further x past other same w = (x ∷ w.0, w.1, rw same (ap (λ (xs : List Item). x ∷ xs) w.2), rw (other, w.3) refl)

-- the number n of a Return, with its Begin and its answer
pub returns-it : (job : Job) (items first rest : List Item) (k : ℕ) (answer : Answer) → IsLegal job items → items ≡ first ++ Return k answer ∷ rest
    → (a : List Item) × (b : List Item) × (first ≡ a ++ Begin k ∷ b) × (list_any is_command b ≡ false)
    × (c : Command) × (k ≡ suc (done (reverse first))) × (slice_get (commands job) (done (reverse first)) ≡ Some c) × (answer ≡ answer_at job (done (reverse first)) c)
returns-it job items first rest k answer legal e =
    let m = (splits job items first (Return k answer) rest legal e).commands in
    let w = under-way job (reverse first) (legal-to job items first (Return k answer ∷ rest) legal e) m.follows in
    let shape : first ≡ reverse w.1 ++ Begin k ∷ reverse w.0 =
    sym (reverse-reverse first) ∙ ap (λ (xs : List Item). reverse xs) (w.2 ∙ ap (λ (j : ℕ). w.0 ++ Begin j ∷ w.1) (sym m.number)) ∙ split-reverse w.0 (Begin k) w.1 in
    (reverse w.1, reverse w.0, shape, any-reverse is_command w.0 ∙ w.3, m.command.0, m.number, m.command.1, m.command.2)

-- each command that has returned has its Return
pub has-return : (job : Job) (past : List Item) (k : ℕ) → IsLegalPast job past → k < done past → list_any (is_return_of (suc k)) past ≡ true
unfolding IsLegalPast
has-return job [] k l lt = absurd (omega (arith, lt))
has-return job (Return n a ∷ past) k l lt =
    let number = l.0.commands.number in
    elim (cases_lt k (done past)) [
      | inl below ↦ rw (has-return job past k l.1 below) (or-true (n == suc k))
      | inr above ↦ (let same : n ≡ suc k = omega (arith, number, lt, above) in rw same (rw (==-refl (suc k)) refl))
    ]
has-return job (_ ∷ past) k l lt = has-return job past k l.1 lt
