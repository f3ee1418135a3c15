-- What a check of callbacks keeps of calls and visits, over one more item.
use Rattle.std.proofs.Common.{cond, ◌≡◌, ℕ, ◌<◌, Bool, true, false, not, ◌&&◌, ◌||◌, ◌==◌, List, [], ◌∷◌, Option, Some, refl, sym, ap, ◌∙◌, subst, arith}
use Rattle.std.specs.Prelude.{IfOk, IsTrue, ◌↔◌, Result, Ok, Err}
use Rattle.std.specs.List.{list_any, AllByRecursion as Each}
use Rattle.std.proofs.lemmas.Bool.{lt-ltb, ltb-true}
use Rattle.ft_base.specs.declared.number.CallNo.{CallNo}
use Rattle.ft_base.specs.declared.number.FuncNo.{FuncNo}
use Rattle.ft_base.specs.declared.number.UserNo.{UserNo}
use Rattle.ft_base.specs.declared.context.Ctx.{Ctx}
use Rattle.ft_base.specs.declared.item.Answer.{Answer}
use Rattle.ft_base.specs.declared.item.Ran.{Ran}
use Rattle.ft_base.specs.declared.item.Reason.{Reason}
use Rattle.ft_base.specs.declared.item.Item.{Item}
use Rattle.ft_base.specs.declared.item.Item.TheVariants.{Return, Enter, Back, Refuse, Body}
use Rattle.ft_base.specs.declared.memory.NoMemory.{NoMemory}
use Rattle.ft_base.specs.Items.{call_of}
use Rattle.ft_base.specs.Same.{same_call}
use Rattle.ft_base.specs.Job.{Job}
use Rattle.ft_base.specs.Desk.{desk, is_on, user_at}
use Rattle.ft_base.proofs.Small.{Each-weaker}
use Rattle.ft_hist.specs.Past.{Visit, all_visits, ctx_of, entered, entry_of, visit, visits, since_now}
use Rattle.ft_hist.specs.Rules.{MayVisit}
use Rattle.ft_hist.proofs.RunLaws.{same_call-eq, some_inj}
use Rattle.history_check.specs.declared.backs.Check.{Check}
use Rattle.history_check.specs.declared.backs.Entry.{Entry}
use Rattle.history_check.specs.Backs.{KeepsBacks}
use Rattle.history_check.specs.CallbackCheck.{AreCalls, HasEntered, HasVisited, IsCheck, IsEntry, entry_at, is_before, is_visited, no_entry, with_latest}
use Rattle.history_check.specs.TaskCalls.{IsContextOf}
use Rattle.history_check.proofs.VisitLaws as law

-- ## items that tell nothing of calls and visits

-- the item enters no call and visits no user
abbrev pub IsOther : Item → Type 0
IsOther (Enter call ctx f caller) = ⊥
IsOther (Back call u) = ⊥
IsOther (Refuse call u reason) = ⊥
IsOther _ = Unit {0}

entered-stays : (call : CallNo) (past : List Item) (item : Item) → IsOther item → entered call (item ∷ past) ≡ entered call past
entered-stays call past (Enter c ctx f caller) other = absurd other
entered-stays call past (Back c u) other = absurd other
entered-stays call past (Refuse c u reason) other = absurd other
entered-stays call past _ other = refl

visits-stay : (job : Job) (call : CallNo) (past : List Item) (item : Item) → IsOther item → visits job call (item ∷ past) ≡ visits job call past
unfolding all_visits
visits-stay job call past (Enter c ctx f caller) other = absurd other
visits-stay job call past (Back c u) other = absurd other
visits-stay job call past (Refuse c u reason) other = absurd other
visits-stay job call past _ other = refl

-- what is kept of a call is still what the items tell if they tell the same
entry-kept : (job : Job) (call : CallNo) (past more : List Item) (e : Entry) → entered call more ≡ entered call past → visits job call more ≡ visits job call past → IsEntry job past call e → IsEntry job more call e
entry-kept job call past more e same visited k = record {
  ctx = rw same k.ctx;
  func = rw same k.func;
  from = rw same k.from;
  order = λ s. subst (λ (ms : List Visit). IsTrue (is_before s e.latest) ↔ Each (λ m. s < m.since) ms) (sym visited) (k.order s);
}

-- the visits of a user
abbrev has_user : ℕ → List Visit → Bool
has_user u ms = list_any (λ m. m.user == u) ms

-- an item of another kind than these
abbrev pub IsPassed : Item → Type 0
IsPassed (Return k answer) = ⊥
IsPassed (Enter call ctx f caller) = ⊥
IsPassed (Back call u) = ⊥
IsPassed (Refuse call u reason) = ⊥
IsPassed (Body call f ran) = ⊥
IsPassed _ = Unit {0}

-- it has no rule
pub passed-keeps : (job : Job) (past : List Item) (item : Item) → IsPassed item → IsTrue true ↔ KeepsBacks job past item
passed-keeps job past (Return k answer) passed = absurd passed
passed-keeps job past (Back call u) passed = absurd passed
passed-keeps job past (Refuse call u reason) passed = absurd passed
passed-keeps job past (Body call f ran) passed = absurd passed
passed-keeps job past _ passed = (λ t. tt, λ t. refl)

pub passed-other : (item : Item) → IsPassed item → IsOther item
passed-other (Enter call ctx f caller) passed = absurd passed
passed-other (Back call u) passed = absurd passed
passed-other (Refuse call u reason) passed = absurd passed
passed-other _ passed = tt

pub is-passed : (item : Item) → ((k : ℕ) (answer : Answer) → item ≡ Return k answer → ⊥) → ((call : CallNo) (ctx : Ctx) (f : FuncNo) (caller : Option CallNo) → item ≡ Enter call ctx f caller → ⊥)
    → ((call : CallNo) (u : UserNo) → item ≡ Back call u → ⊥) → ((call : CallNo) (u : UserNo) (reason : Reason) → item ≡ Refuse call u reason → ⊥)
    → ((call : CallNo) (f : FuncNo) (ran : Ran) → item ≡ Body call f ran → ⊥) → IsPassed item
is-passed (Return k answer) a b c d e = a k answer refl
is-passed (Enter call ctx f caller) a b c d e = b call ctx f caller refl
is-passed (Back call u) a b c d e = c call u refl
is-passed (Refuse call u reason) a b c d e = d call u reason refl
is-passed (Body call f ran) a b c d e = e call f ran refl
is-passed _ a b c d e = tt

module _ (job : Job) (past : List Item) (old new : Check) (k : IsCheck job past old) where
  -- ## an item that tells nothing of them

  pub after-other : (item : Item) → IsOther item → AreCalls job (item ∷ past) old
  after-other item other = record {
    entries = λ call. entry-kept job call past (item ∷ past) (entry_at old call) (entered-stays call past item other) (visits-stay job call past item other) (k.calls.entries call);
    visited = λ call u. k.calls.visited call u ∙ ap (has_user u) (sym (visits-stay job call past item other));
  }

  -- ## a call that is entered

  module _ (call : CallNo) (ctx : Ctx) (f : FuncNo) (caller : Option CallNo) (h : HasEntered call ctx f.0 old new) where
    -- no visit comes with it
    no-visit : (c : CallNo) → visits job c (Enter call ctx f caller ∷ past) ≡ visits job c past
    unfolding all_visits
    no-visit c = refl

    entered-one : (c : CallNo) (b : Bool) → same_call call c ≡ b
        → IsEntry job (Enter call ctx f caller ∷ past) c (cond b (record (entry_at old call) { ctx = Some ctx; func = record { 0 = f.0 }; from = old.done }) (entry_at old c))
    entered-one c true same =
        let is : call ≡ c = same_call-eq call c same in
        record {
          ctx = rw same refl;
          func = rw same refl;
          from = rw same k.done';
          order = λ s. subst (λ (ms : List Visit). IsTrue (is_before s (entry_at old call).latest) ↔ Each (λ m. s < m.since) ms) (ap (λ d. visits job d past) is ∙ sym (no-visit c)) ((k.calls.entries call).order s);
        }
    entered-one c false other =
        entry-kept job c past (Enter call ctx f caller ∷ past) (entry_at old c) (rw other refl) (no-visit c) (k.calls.entries c)

    pub after-enter : new.visited ≡ old.visited → AreCalls job (Enter call ctx f caller ∷ past) new
    after-enter visited = record {
      entries = λ c. rw (h c) (entered-one c (same_call call c) refl);
      visited = λ c u. rw visited (k.calls.visited c u ∙ ap (has_user u) (sym (no-visit c)));
    }

  -- ## a user that is visited

  -- an item that visits a user
  record Visits (call : CallNo) (item : Item) (v : Visit) : Type 0 where
    same : (c : CallNo) → entered c (item ∷ past) ≡ entered c past
    more : (c : CallNo) → visits job c (item ∷ past) ≡ cond (same_call call c) (v ∷ visits job c past) (visits job c past)

  module _ (call : CallNo) (u : ℕ) (may : MayVisit job past call u) (h : HasVisited job past call u old new) (item : Item) (v : Visit) (is : Visits call item v)
      (user : v.user ≡ u) (since : v.since ≡ since_now job call u past) where
    -- the visits of a call, with one more if it is this one
    visited-one : (c : CallNo) (w : ℕ) (b : Bool) → ((b && (u == w)) || has_user w (visits job c past)) ≡ has_user w (cond b (v ∷ visits job c past) (visits job c past))
    visited-one c w true = rw user refl
    visited-one c w false = refl

    -- all are registered after the new one
    later : (s : ℕ) (ms : List Visit) → s < since_now job call u past → Each (λ m. since_now job call u past < m.since) ms → Each (λ m. s < m.since) ms
    later s ms lt each = Each-weaker (λ m. since_now job call u past < m.since) (λ m. s < m.since) ms (λ m le. omega (arith, lt, le)) each

    order-one : (c : CallNo) → same_call call c ≡ true → (s : ℕ) → IsTrue (is_before s (Some (since_now job call u past))) ↔ Each (λ m. s < m.since) (v ∷ visits job c past)
    order-one c same s = (
      λ lt. (let below = ltb-true s (since_now job call u past) lt in (rw since below, subst (λ d. Each (λ m. s < m.since) (visits job d past)) (same_call-eq call c same) (later s (visits job call past) below may.order))),
      λ each. lt-ltb s (since_now job call u past) (subst (λ n. s < n) since each.0),
    )

    entry-one : (c : CallNo) (b : Bool) → same_call call c ≡ b → IsEntry job (item ∷ past) c (cond b (with_latest (since_now job call u past) (entry_at old call)) (entry_at old c))
    entry-one c true same =
        let e = subst (λ d. IsEntry job past d (entry_at old call)) (same_call-eq call c same) (k.calls.entries call) in
        record {
          ctx = rw (is.same c) e.ctx;
          func = rw (is.same c) e.func;
          from = rw (is.same c) e.from;
          order = λ s. subst (λ (ms : List Visit). IsTrue (is_before s (Some (since_now job call u past))) ↔ Each (λ m. s < m.since) ms)
              (sym (is.more c ∙ ap (λ d. cond d (v ∷ visits job c past) (visits job c past)) same)) (order-one c same s);
        }
    entry-one c false other =
        entry-kept job c past (item ∷ past) (entry_at old c) (is.same c) (is.more c ∙ ap (λ d. cond d (v ∷ visits job c past) (visits job c past)) other) (k.calls.entries c)

    after-visited : AreCalls job (item ∷ past) new
    after-visited = record {
      entries = λ c. rw (h.entries c) (entry-one c (same_call call c) refl);
      visited = λ c w. rw (h.visited c w, k.calls.visited c w) (visited-one c w (same_call call c) ∙ ap (has_user w) (sym (is.more c)));
    }

  -- the visits after a callback and after a refusal
  back-visits : (call : CallNo) (u : UserNo) → Visits call (Back call u) (visit job call u.0 past (all_visits job past) true)
  unfolding all_visits
  back-visits call u = record {
    same = λ c. refl;
    more = λ c. refl;
  }

  refuse-visits : (call : CallNo) (u : UserNo) (reason : Reason) → Visits call (Refuse call u reason) (visit job call u.0 past (all_visits job past) false)
  unfolding all_visits
  refuse-visits call u reason = record {
    same = λ c. refl;
    more = λ c. refl;
  }

  pub after-back : (call : CallNo) (u : UserNo) → MayVisit job past call u.0 → HasVisited job past call u.0 old new → AreCalls job (Back call u ∷ past) new
  after-back call u may h = after-visited call u.0 may h (Back call u) (visit job call u.0 past (all_visits job past) true) (back-visits call u) refl refl

  pub after-refuse : (call : CallNo) (u : UserNo) (reason : Reason) → MayVisit job past call u.0 → HasVisited job past call u.0 old new → AreCalls job (Refuse call u reason ∷ past) new
  after-refuse call u reason may h =
      after-visited call u.0 may h (Refuse call u reason) (visit job call u.0 past (all_visits job past) false) (refuse-visits call u reason) refl refl

  -- the check's answer tells whether the visit is kept
  pub visit-kept : {A : Type 0} (call : CallNo) (u : ℕ) (r : Result Bool NoMemory) → (MayVisit job past call u → HasVisited job past call u old new → A)
      → IfOk r (λ b. IsTrue b ↔ MayVisit job past call u) → IfOk r (λ b. b ≡ true → HasVisited job past call u old new) → IfOk r (λ b. b ≡ true → A)
  visit-kept call u (Ok b) f may kept = λ t. f (may.0 t) (kept t)
  visit-kept call u (Err e) f may kept = tt

-- ## what is kept of a call

module _ (job : Job) (past : List Item) (c : Check) (k : IsCheck job past c) (call : CallNo) (e : Entry) (kept : e ≡ entry_at c call) where
  pub from-is : e.from ≡ (entry_of call past).from
  from-is = ap (λ (x : Entry). x.from) kept ∙ (k.calls.entries call).from

  pub func-is : e.func.0 ≡ (entry_of call past).func
  func-is = ap (λ (x : Entry). x.func.0) kept ∙ (k.calls.entries call).func

  pub order-is : (s : ℕ) (before : Bool) → before ≡ is_before s e.latest → IsTrue before ↔ Each (λ m. s < m.since) (visits job call past)
  order-is s before tested =
      let is : before ≡ is_before s (entry_at c call).latest = tested ∙ ap (λ (x : Entry). is_before s x.latest) kept in rw is ((k.calls.entries call).order s)

  pub context-is : (item : Item) → call_of item ≡ Some call → IsContextOf past item e.ctx
  context-is item is = λ d at inside. subst (λ (x : CallNo). ctx_of x past ≡ e.ctx) (some_inj call d (sym is ∙ at)) (sym (ap (λ (x : Entry). x.ctx) kept ∙ (k.calls.entries call).ctx))

  -- the tests in the order of the check
  pub may-is : (u at : ℕ) → at ≡ cond (is_on (desk job c.done) u e.func.0) c.done c.begun → (s : ℕ) → s ≡ (user_at (desk job at) u).since → (on before : Bool) → on ≡ is_on (desk job at) u e.func.0
      → before ≡ is_before s e.latest → IsTrue (on && before && not (is_visited c call u)) ↔ MayVisit job past call u
  may-is u at registration s since on before is-on tested =
      subst (λ b. IsTrue b ↔ MayVisit job past call u) (swapped on (is_visited c call u) before)
      (law.may-is job past call u e.func.0 at c.done c.begun func-is k.done' k.begun' registration s since on (is_visited c call u) before is-on (k.calls.visited call u) (order-is s before tested))
    where
      swapped : (a b c : Bool) → (a && not b && c) ≡ (a && c && not b)
      swapped true true true = refl
      swapped true true false = refl
      swapped true false true = refl
      swapped true false false = refl
      swapped false b c = refl

-- before the first item
pub at-start : (job : Job) (c : Check) → c.entries.entries ≡ [] → c.visited.keys ≡ [] → AreCalls job [] c
unfolding all_visits
at-start job c entries visited = record {
  entries = λ call. rw (none call) (record { ctx = refl; func = refl; from = refl; order = λ s. (λ t. tt, λ t. refl) });
  visited = λ call u. rw visited refl;
}
  where
    none : (call : CallNo) → entry_at c call ≡ no_entry
    none call = rw entries refl

-- the same maps tell the same
pub same-calls : (job : Job) (past : List Item) (old new : Check) → new.entries ≡ old.entries → new.visited ≡ old.visited → AreCalls job past old → AreCalls job past new
same-calls job past old new entries visited k = record {
  entries = λ call. rw entries (k.entries call);
  visited = λ call u. rw visited (k.visited call u);
}
