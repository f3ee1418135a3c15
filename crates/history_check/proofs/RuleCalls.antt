-- The top call of an item's task, as the rules ask for it.
use Rattle.std.proofs.Common.{◌≡◌, ℕ, ◌≤◌, Bool, false, ◌||◌, ◌==◌, List, [], ◌∷◌, map, Option, Some, None, refl, sym, ap, ◌∙◌, subst}
use Rattle.std.specs.Prelude.{IsTrue, ◌↔◌}
use Rattle.std.specs.List.{list_any}
use Rattle.ft_base.specs.declared.number.CallNo.{CallNo}
use Rattle.ft_base.specs.declared.item.Item.{Item}
use Rattle.ft_base.specs.Items.{call_of}
use Rattle.ft_base.specs.Job.{Job}
use Rattle.ft_hist.specs.Past.{begun, done_at_leave, entered, entry_of, exits, visits}
use Rattle.ft_hist.specs.Past as told
use Rattle.ft_hist.specs.Rules.{InWindow}
use Rattle.ft_hist.proofs.RunLaws.{some_inj}
use Rattle.history_check.specs.declared.open_call.OpenCall.{OpenCall}
use Rattle.history_check.specs.declared.open_call.Visit.{Visit}
use Rattle.history_check.specs.TaskCalls.{IsTop, visit_of}
use Rattle.history_check.specs.JudgePast.{IsTopOf, is_enter}

-- whether a user is among the visits
any-visit : (call : CallNo) (u : ℕ) (ms : List Visit) → list_any (λ m. m.user.0 == u) ms ≡ list_any (λ m. m.user == u) (map (visit_of call) ms)
any-visit call u [] = refl
any-visit call u (m ∷ ms) = ap (λ b. (m.user.0 == u) || b) (any-visit call u ms)

abbrev pub has_visit : OpenCall → ℕ → Bool
has_visit t u = list_any (λ m. m.user.0 == u) t.visits.items

module _ (job : Job) (items : List Item) where
  -- ## the call of the next item

  module _ (item : Item) (o : Option OpenCall) (call : CallNo) (of : call_of item ≡ Some call) (inner : is_enter item ≡ false) (h : IsTopOf job items item o) where
    -- what is asked of the top call is asked of the item's, since they are one
    pub of-top : (t : OpenCall) → o ≡ Some t → (b : Bool) (P : CallNo → Type 0) → (IsTop job items t.call t → IsTrue b ↔ P t.call) → IsTrue b ↔ P call
    of-top t e b P is =
        let found = (h call of).1 inner in
        let top : IsTop job items call t = subst (λ (c : OpenCall). IsTop job items call c) (sym (some_inj t found.0 (sym e ∙ found.1))) found.2 in
        subst (λ (c : CallNo). IsTrue b ↔ P c) top.call' (is (subst (λ (c : CallNo). IsTop job items c t) (sym top.call') top))

    -- and there is a top call
    pub no-top : {A : Type 0} → o ≡ None → A
    no-top e =
        let found = (h call of).1 inner in
        let one : None ≡ Some found.0 = sym e ∙ found.1 in absurd cc

  -- ## what is kept of it

  module _ (call : CallNo) (t : OpenCall) (k : IsTop job items call t) where
    entered-so : entered call items ≡ Some (record { ctx = t.ctx; func = t.func.0; caller = k.is.entered'.0; from = t.from })
    entered-so = subst (λ (c : CallNo). entered c items ≡ Some (record { ctx = t.ctx; func = t.func.0; caller = k.is.entered'.0; from = t.from })) k.call' k.is.entered'.1

    pub ctx-is : t.ctx ≡ (entry_of call items).ctx
    ctx-is = rw entered-so refl

    pub func-is : t.func.0 ≡ (entry_of call items).func
    func-is = rw entered-so refl

    pub from-is : t.from ≡ (entry_of call items).from
    from-is = rw entered-so refl

    pub visits-are : map (visit_of call) t.visits.items ≡ visits job call items
    visits-are = subst (λ (c : CallNo). map (visit_of c) t.visits.items ≡ visits job c items) k.call' k.is.visits'

    pub exits-are : t.exits.items ≡ exits call items
    exits-are = subst (λ (c : CallNo). t.exits.items ≡ exits c items) k.call' k.is.exits'

    pub left-is : t.left ≡ done_at_leave call items
    left-is = subst (λ (c : CallNo). t.left ≡ done_at_leave c items) k.call' k.is.left

    pub visited-is : (u : ℕ) → has_visit t u ≡ list_any (λ m. m.user == u) (visits job call items)
    visited-is u = any-visit call u t.visits.items ∙ ap (λ (ms : List told.Visit). list_any (λ m. m.user == u) ms) visits-are

    -- a fact at some command since it was entered
    pub window : (P : ℕ → Type 0) → ((n : ℕ) × (t.from ≤ n) × (n ≤ begun items) × P n) ↔ InWindow call items P
    window P = (λ w. (w.0, subst (λ n. n ≤ w.0) from-is w.1, w.2, w.3), λ w. (w.0, subst (λ n. n ≤ w.0) (sym from-is) w.1, w.2, w.3))
