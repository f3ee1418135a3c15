-- The laws of histories by their items: where items come in this order in a legal history, what follows.
use Rattle.std.proofs.Common.{◌≡◌, ℕ, ◌<◌, ◌≤◌, Bool, true, false, ◌&&◌, ◌==◌, List, [], ◌∷◌, ◌++◌, length, reverse, Option, refl, sym, ap, ◌∙◌, subst, arith, eqb-true, inl, inr, append_assoc}
use Rattle.std.specs.List.{list_any}
use Rattle.ft_base.specs.declared.number.CallNo.{CallNo}
use Rattle.ft_base.specs.declared.number.FuncNo.{FuncNo}
use Rattle.ft_base.specs.declared.context.Ctx.{Ctx}
use Rattle.ft_base.specs.declared.item.Ran.{Ran}
use Rattle.ft_base.specs.declared.item.Item.{Item}
use Rattle.ft_base.specs.declared.item.Item.TheVariants.{Enter, Back, Refuse, Body}
use Rattle.ft_base.specs.Same.{same_call}
use Rattle.ft_base.specs.Job.{Job}
use Rattle.ft_base.specs.Desk.{desk, is_on, target}
use Rattle.ft_base.proofs.Small.{false_true, and_both}
use Rattle.ft_hist.specs.Past.{Entered, done, begun, entry_of, visits, all_visits}
use Rattle.ft_hist.specs.Rules.{IsLegal, IsLegalPast, MayFollow, MayVisit, InWindow, AtReturnedOrBegun}
use Rattle.ft_hist.specs.Telling.{is_visit_by, AtSomeCommand, AtEachCommand}
use Rattle.ft_hist.proofs.Splitting.{splits, legal-front, split-reverse, legal-older}
use Rattle.ft_hist.proofs.WindowLaws.{legal-counts, done-more}
use Rattle.ft_hist.proofs.Numbers.{entry-since, none-before}
use Rattle.ft_hist.proofs.RunLaws.{same_call-eq as same_call-eq'}
use Rattle.ft_hist.proofs.ByItems.{any-reverse, visited-since, visited-by-item}

-- the counts never fall over more items
pub done-newer : (newer past : List Item) → done past ≤ done (newer ++ past)
done-newer [] past = omega arith
done-newer (x ∷ newer) past = let a = done-newer newer past in let b = done-more x (newer ++ past) in omega (arith, a, b)

-- the past of a split history is legal
pub legal-to : (job : Job) (items front rest : List Item) → IsLegal job items → items ≡ front ++ rest → IsLegalPast job (reverse front)
unfolding IsLegal
legal-to job items front rest l e = legal-front job front rest (subst (λ xs. IsLegal job xs) e l)

-- ## one item after another

module _ (job : Job) (items first second third : List Item) (x y : Item) (legal : IsLegal job items) (e : items ≡ first ++ x ∷ (second ++ y ∷ third)) where
  -- at the later one
  pub later_at : MayFollow job (reverse (first ++ x ∷ second)) y
  later_at = splits job items (first ++ x ∷ second) y third legal (e ∙ sym (append_assoc first (x ∷ second) (y ∷ third)))

  pub earlier_at : MayFollow job (reverse first) x
  earlier_at = splits job items first x (second ++ y ∷ third) legal e

  -- each user is visited at most once in a call
  pub once : (call : CallNo) (u : ℕ) → is_visit_by call u x ≡ true → is_visit_by call u y ≡ false
  once call u there = by y later_at refl
    where
      seen : list_any (λ m. m.user == u) (visits job call (reverse (first ++ x ∷ second))) ≡ true
      seen = subst (λ past. list_any (λ m. m.user == u) (visits job call past) ≡ true) (sym (split-reverse first x second)) (visited-since job call u (reverse second) x (reverse first) there)

      apart : (c : CallNo) (v : ℕ) → list_any (λ m. m.user == v) (visits job c (reverse (first ++ x ∷ second))) ≡ false → (b : Bool) → (same_call c call && (v == u)) ≡ b → (same_call c call && (v == u)) ≡ false
      apart c v none false q = q
      apart c v none true q =
          let both = and_both (same_call c call) (v == u) q in
          let user : v ≡ u = eqb-true v u both.1 in
          let is : c ≡ call = same_call-eq' c call both.0 in
          false_true (sym (subst (λ (w : ℕ). list_any (λ m. m.user == w) (visits job call (reverse (first ++ x ∷ second))) ≡ false) user
          (subst (λ (d : CallNo). list_any (λ m. m.user == v) (visits job d (reverse (first ++ x ∷ second))) ≡ false) is none)) ∙ seen)

      by : (z : Item) → MayFollow job (reverse (first ++ x ∷ second)) z → y ≡ z → is_visit_by call u z ≡ false
      by (Back c v) f q = apart c v.0 f.callbacks.once (same_call c call && (v.0 == u)) refl
      by (Refuse c v reason) f q = apart c v.0 f.callbacks.once (same_call c call && (v.0 == u)) refl
      by _ f q = refl

-- ## an item of a call after its Enter

module _ (job : Job) (items before mid rest : List Item) (call : CallNo) (ctx : Ctx) (f : FuncNo) (caller : Option CallNo) (x : Item) (legal : IsLegal job items)
    (e : items ≡ before ++ Enter call ctx f caller ∷ (mid ++ x ∷ rest)) where
  -- the items before x, and their past
  abbrev pub upto : List Item
  upto = before ++ Enter call ctx f caller ∷ mid

  pub at_x : MayFollow job (reverse upto) x
  at_x = later_at job items before mid rest (Enter call ctx f caller) x legal e

  pub past_is : reverse upto ≡ reverse mid ++ Enter call ctx f caller ∷ reverse before
  past_is = split-reverse before (Enter call ctx f caller) mid

  pub legal_past : IsLegalPast job (reverse upto)
  legal_past = legal-to job items upto (x ∷ rest) legal (e ∙ sym (append_assoc before (Enter call ctx f caller ∷ mid) (x ∷ rest)))

  legal_split : IsLegalPast job (reverse mid ++ Enter call ctx f caller ∷ reverse before)
  legal_split = subst (λ past. IsLegalPast job past) past_is legal_past

  pub entry_is : entry_of call (reverse upto) ≡ record { ctx = ctx; func = f.0; caller = caller; from = done (reverse before) }
  entry_is = ap (λ past. entry_of call past) past_is ∙ entry-since job call ctx f caller (reverse mid) (reverse before) legal_split

  pub func_is : (entry_of call (reverse upto)).func ≡ f.0
  func_is = ap (λ (n : Entered). n.func) entry_is

  pub ctx_is : (entry_of call (reverse upto)).ctx ≡ ctx
  ctx_is = ap (λ (n : Entered). n.ctx) entry_is

  pub from_is : (entry_of call (reverse upto)).from ≡ done (reverse before)
  from_is = ap (λ (n : Entered). n.from) entry_is

  -- facts in the call's window
  pub in-window : (P : ℕ → Type 0) → InWindow call (reverse upto) P → AtSomeCommand before upto P
  in-window P w = (w.0, subst (λ n. n ≤ w.0) from_is w.1, w.2, w.3)

  pub from-now : (P : ℕ → Type 0) → AtReturnedOrBegun (reverse upto) P → AtSomeCommand before upto P
  from-now P w =
      let counts = (legal-counts job (reverse upto) legal_past).0 in
      let more : done (reverse before) ≤ done (reverse upto) = rw past_is (let a = done-newer (reverse mid) (Enter call ctx f caller ∷ reverse before) in a) in
      elim w [
        | inl p ↦ (done (reverse upto), more, counts, p)
        | inr p ↦ (begun (reverse upto), omega (arith, more, counts), (let z : begun (reverse upto) ≤ begun (reverse upto) = omega arith in z), p)
      ]

  -- a user that is visited was on
  pub was-on : (u : ℕ) → MayVisit job (reverse upto) call u → AtSomeCommand before upto (λ k. is_on (desk job k) u f.0 ≡ true)
  was-on u m = from-now (λ k. is_on (desk job k) u f.0 ≡ true) (subst (λ g. AtReturnedOrBegun (reverse upto) (λ k. is_on (desk job k) u g ≡ true)) func_is m.on)

  -- nobody was visited in it before
  pub older_part : (xs : List Item) → IsLegalPast job (xs ++ Enter call ctx f caller ∷ reverse before) → IsLegalPast job (Enter call ctx f caller ∷ reverse before)
  older_part xs l = legal-older job xs (Enter call ctx f caller ∷ reverse before) l

  pub unvisited_before : visits job call (reverse before) ≡ []
  unfolding IsLegalPast
  unvisited_before = none-before job call ctx f caller (reverse before) ((older_part (reverse mid) legal_split).0.run call.task.0)

  -- whoever was visited has an item since the Enter
  pub visited_item : (u : ℕ) → list_any (λ m. m.user == u) (visits job call (reverse upto)) ≡ true → list_any (is_visit_by call u) mid ≡ true
  unfolding all_visits
  visited_item u h =
      let there = subst (λ past. list_any (λ m. m.user == u) (visits job call past) ≡ true) past_is h in
      sym (any-reverse (is_visit_by call u) mid) ∙ visited-by-item job call u (reverse mid) (Enter call ctx f caller ∷ reverse before) unvisited_before there

  -- its return reaches its caller, once
  pub entered_here : IsLegalPast job (Enter call ctx f caller ∷ reverse before)
  entered_here = older_part (reverse mid) legal_split

-- at the Body
module _ (job : Job) (items before mid rest : List Item) (call : CallNo) (ctx : Ctx) (f : FuncNo) (caller : Option CallNo) (g : FuncNo) (ran : Ran) (legal : IsLegal job items)
    (e : items ≡ before ++ Enter call ctx f caller ∷ (mid ++ Body call g ran ∷ rest)) where
  abbrev until : List Item
  until = upto job items before mid rest call ctx f caller (Body call g ran) legal e

  -- whoever was on throughout is called back or refused
  pub who-was-on : (u : ℕ) → u < length job.users → AtEachCommand before until (λ k. is_on (desk job k) u f.0 ≡ true) → list_any (is_visit_by call u) mid ≡ true
  who-was-on u within on = by (list_any (λ m. m.user == u) (visits job call (reverse until))) refl
    where
      by : (b : Bool) → list_any (λ m. m.user == u) (visits job call (reverse until)) ≡ b → list_any (is_visit_by call u) mid ≡ true
      by true q = visited_item job items before mid rest call ctx f caller (Body call g ran) legal e u q
      by false q =
          let off = (at_x job items before mid rest call ctx f caller (Body call g ran) legal e).silence u within q in
          let w = in-window job items before mid rest call ctx f caller (Body call g ran) legal e (λ k. is_on (desk job k) u (entry_of call (reverse until)).func ≡ false) off in
          let there : is_on (desk job w.0) u f.0 ≡ false = subst (λ h. is_on (desk job w.0) u h ≡ false) (func_is job items before mid rest call ctx f caller (Body call g ran) legal e) w.3 in
          false_true (sym there ∙ on w.0 w.1 w.2)

  -- what ran was the target at a command of the window
  pub ran-target : AtSomeCommand before until (λ k. ran ≡ target (desk job k) f.0)
  ran-target =
      let m = at_x job items before mid rest call ctx f caller (Body call g ran) legal e in
      in-window job items before mid rest call ctx f caller (Body call g ran) legal e (λ k. ran ≡ target (desk job k) f.0)
      (subst (λ h. InWindow call (reverse until) (λ k. ran ≡ target (desk job k) h)) (func_is job items before mid rest call ctx f caller (Body call g ran) legal e) m.fetches.fetched)
