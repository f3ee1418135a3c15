-- A desk of a shape stays one, and its plans are of the shape.
use Rattle.std.proofs.Common.{cond, ◌≡◌, ℕ, zero, suc, ◌+◌, ◌<◌, ◌≤◌, ◌==◌, not, Bool, true, false, List, [], ◌∷◌, length, set, get_or, Option, Some, None, refl, sym, ap, ◌∙◌, arith, inl, inr}
use Rattle.std.specs.Prelude.{All}
use Rattle.std.proofs.lemmas.Bool.{cases_eq}
use Rattle.std.proofs.lemmas.List.{length-set}
use Rattle.std.proofs.lemmas.List.Elements.{All-nil, All-cons, All-filter, All-head, All-tail}
use Rattle.ft_base.specs.declared.limits.TheConstants.{FUNCS}
use Rattle.ft_base.specs.declared.item.Ran.{Ran}
use Rattle.ft_base.specs.declared.item.Ran.TheVariants.{Nop as RanNop, List as RanList, Own as RanOwn}
use Rattle.ft_base.specs.declared.number.UserNo.{UserNo}
use Rattle.ft_base.specs.Job.{Command, Register, Unregister, Filter, Notrace, Pid, NoPid, Enable, Disable, MaxDepth, funcs}
use Rattle.ft_base.specs.Order.{order_after}
use Rattle.ft_base.specs.Desk.{Desk, UserState, changed, is_accepted, is_free, lowest, target, user_at, with_user}
use Rattle.ft_base.specs.WellFormed.{IsNamed}
use Rattle.ft_base.proofs.DeskLaws.{user_at-same, user_at-other}
use Rattle.filter_hash.proofs.EditLaws.{length-edited}
use Rattle.site_bytes.specs.declared.insn.Insn.{Insn}
use Rattle.site_bytes.specs.declared.insn.SiteChange.{SiteChange}
use Rattle.word_map.specs.declared.shape.Shape.{Shape}
use Rattle.word_map.specs.Instructions.{insn_at, insn_of, insn_of_slot}
use Rattle.ops_list.specs.Names.{IsUserIn}
use Rattle.patch_core.specs.Moves.{IsChange, IsInsnIn}
use Rattle.word_machine.proofs.Small.{lowest_case}
use Rattle.ft_desk.specs.Declarations.{job_of}
use Rattle.ft_desk.specs.Plans.{copies_after, edit_plan, first_of, given_by, no_plan, plan_by, sites_between, taken_by, user_after, user_before, user_no}
use Rattle.ft_desk.specs.DeskView.{DeskView, after_command, answer, carried_out, turned_down}
use Rattle.ft_desk.specs.Sites.{changed_sites, same_insn}
use Rattle.ft_desk.proofs.ClaimLaws.{funcs-is}
use Rattle.control_core.specs.Plans.{IsDeskIn, IsPlanIn, IsTrampIn}

-- ## states

-- the lowest of the first n numbers is below n
lowest-small : (p : ℕ → Bool) (n t : ℕ) → lowest p 0 n ≡ Some t → t < n
lowest-small p n t = lowest_case (λ o. o ≡ Some t → t < n) p 0 n (λ g is low high between e. (let z : g ≡ t = cc in omega (arith, z, high)))
    (λ all e. absurd (cc))

module _ (shape : Shape) where
  -- the filter of each user has the shape's functions
  abbrev AreSized : Desk → Type 0
  AreSized d = (u : ℕ) → u < shape.users → length (user_at d u).filter ≡ shape.funcs

  -- each slot is one of the shape's trampolines
  abbrev AreSlots : Desk → Type 0
  AreSlots d = (u slot : ℕ) → (user_at d u).slot ≡ Some slot → slot < shape.tramps

  module _ (d : Desk) (u : ℕ) (x : UserState) (within : u < length d.users) where
    sized-with : AreSized d → length x.filter ≡ shape.funcs → AreSized (with_user d u x)
    sized-with all e v lt = elim (cases_eq v u) [
      | inl is ↦ ap (λ w. length (user_at (with_user d u x) w).filter) is ∙ ap (λ (s : UserState). length s.filter) (user_at-same d u x within) ∙ e
      | inr ne ↦ ap (λ (s : UserState). length s.filter) (user_at-other d u v x ne) ∙ all v lt
    ]

    slots-with : AreSlots d → ((slot : ℕ) → x.slot ≡ Some slot → slot < shape.tramps) → AreSlots (with_user d u x)
    slots-with all own v slot h = elim (cases_eq v u) [
      | inl is ↦ own slot (sym (ap (λ w. (user_at (with_user d u x) w).slot) is ∙ ap (λ (s : UserState). s.slot) (user_at-same d u x within)) ∙ h)
      | inr ne ↦ all v slot (sym (ap (λ (s : UserState). s.slot) (user_at-other d u v x ne)) ∙ h)
    ]

  -- ## the desk after an accepted command

  module _ (s : DeskView) (k : IsDeskIn shape s) (n : ℕ) where
    -- a user of the desk
    within : (u : ℕ) → u < length s.declared.specs → u < length s.state.users
    within u h = (let a = k.declared.users in let b = k.users in omega (arith, h, a, b))

    among : (u : ℕ) → u < length s.declared.specs → u < shape.users
    among u h = (let a = k.declared.users in omega (arith, h, a))

    funcs-same : funcs (job_of s.declared) ≡ shape.funcs
    funcs-same = funcs-is s.declared.funcs ∙ k.declared.funcs

    sized-next : (c : Command) → IsNamed (job_of s.declared) c → AreSized (changed (job_of s.declared) s.state n c)
    sized-next (Register u) h = sized-with s.state u _ (within u h) k.filters (k.filters u (among u h))
    sized-next (Unregister u) h = sized-with s.state u _ (within u h) k.filters (k.filters u (among u h))
    sized-next (Filter u e) h =
        sized-with s.state u _ (within u h) k.filters
        (length-edited (funcs (job_of s.declared)) (user_at s.state u).filter e (k.filters u (among u h) ∙ sym funcs-same) ∙ funcs-same)
    sized-next (Notrace u e) h = sized-with s.state u _ (within u h) k.filters (k.filters u (among u h))
    sized-next (Pid pids) h = k.filters
    sized-next (NoPid nopids) h = k.filters
    sized-next (Enable u) h = sized-with s.state u _ (within u h) k.filters (k.filters u (among u h))
    sized-next (Disable u) h = sized-with s.state u _ (within u h) k.filters (k.filters u (among u h))
    sized-next (MaxDepth depth) h = k.filters

    slots-next : (c : Command) → IsNamed (job_of s.declared) c → AreSlots (changed (job_of s.declared) s.state n c)
    slots-next (Register u) h =
        slots-with s.state u _ (within u h) k.slots
        (λ slot e. (let a = lowest-small (is_free s.state) s.declared.tramps slot e in let b = k.declared.tramps in omega (arith, a, b)))
    slots-next (Unregister u) h = slots-with s.state u _ (within u h) k.slots (λ slot e. absurd (cc))
    slots-next (Filter u e) h = slots-with s.state u _ (within u h) k.slots (k.slots u)
    slots-next (Notrace u e) h = slots-with s.state u _ (within u h) k.slots (k.slots u)
    slots-next (Pid pids) h = k.slots
    slots-next (NoPid nopids) h = k.slots
    slots-next (Enable u) h = slots-with s.state u _ (within u h) k.slots (k.slots u)
    slots-next (Disable u) h = slots-with s.state u _ (within u h) k.slots (k.slots u)
    slots-next (MaxDepth depth) h = k.slots

    length-next : (c : Command) → length (changed (job_of s.declared) s.state n c).users ≡ length s.state.users
    length-next (Register u) = length-set s.state.users u _
    length-next (Unregister u) = length-set s.state.users u _
    length-next (Filter u e) = length-set s.state.users u _
    length-next (Notrace u e) = length-set s.state.users u _
    length-next (Pid pids) = refl
    length-next (NoPid nopids) = refl
    length-next (Enable u) = length-set s.state.users u _
    length-next (Disable u) = length-set s.state.users u _
    length-next (MaxDepth depth) = refl

    order-next : (c : Command) → IsNamed (job_of s.declared) c → All (λ u. u < shape.users) (order_after s.order c)
    order-next (Register u) h = All-cons (λ v. v < shape.users) u s.order (among u h) k.order
    order-next (Unregister u) h = All-filter (λ v. not (v == u)) (λ v. v < shape.users) s.order k.order
    order-next (Filter u e) h = k.order
    order-next (Notrace u e) h = k.order
    order-next (Pid pids) h = k.order
    order-next (NoPid nopids) h = k.order
    order-next (Enable u) h = k.order
    order-next (Disable u) h = k.order
    order-next (MaxDepth depth) h = k.order

  -- ## copies

  module _ (d : Desk) (copies : List ℕ) where
    turned-if : (u x : ℕ) (b : Bool) → length (cond b (set copies u x) copies) ≡ length copies
    turned-if u x true = length-set copies u x
    turned-if u x false = refl

    pub copies-next : (c : Command) → length (copies_after d copies c) ≡ length copies
    copies-next (Register u) = length-set copies u _
    copies-next (Unregister u) = refl
    copies-next (Filter u e) = turned-if u _ (user_at d u).registered
    copies-next (Notrace u e) = turned-if u _ (user_at d u).registered
    copies-next (Pid pids) = refl
    copies-next (NoPid nopids) = refl
    copies-next (Enable u) = refl
    copies-next (Disable u) = refl
    copies-next (MaxDepth depth) = refl

  -- ## plans

  insn-slot : (o : Option ℕ) → ((slot : ℕ) → o ≡ Some slot → slot < shape.tramps) → IsInsnIn shape (insn_of_slot o)
  insn-slot None h = tt
  insn-slot (Some slot) h = h slot refl

  insn-in : (d : Desk) → AreSlots d → (r : Ran) → IsInsnIn shape (insn_of d r)
  insn-in d all RanNop = tt
  insn-in d all RanList = tt
  insn-in d all (RanOwn u) = insn-slot (user_at d u.0).slot (all u.0)

  insn-at_in : (d : Desk) → AreSlots d → (f : ℕ) → IsInsnIn shape (insn_at d f)
  unfolding insn_at
  insn-at_in d all f = insn-in d all (target d f)

  -- sites of the shape, at most so many
  record AreSites (n : ℕ) (sites : List SiteChange) : Type 0 where
    changes : All (IsChange shape) sites
    few : length sites ≤ n

  module _ (old new : ℕ → Insn) (each : (f : ℕ) → IsInsnIn shape (new f)) where
    sites-in : (n from : ℕ) → from + n ≤ shape.funcs → AreSites n (changed_sites old new from n)
    unfolding changed_sites
    sites-in zero from h = record { changes = All-nil (IsChange shape); few = omega arith }
    sites-in (suc n) from h = by (same_insn (old from) (new from)) (sites-in n (suc from) (omega arith))
      where
        by : (b : Bool) → AreSites n (changed_sites old new (suc from) n)
            → AreSites (suc n) (cond b (changed_sites old new (suc from) n)
            (record { func = record { 0 = from }; insn = new from } ∷ changed_sites old new (suc from) n))
        by true r = record { changes = r.changes; few = (let x = r.few in omega (arith, x)) }
        by false r = record {
          changes = All-cons (IsChange shape) _ _ (record { func = omega arith; insn = each from }) r.changes;
          few = (let x = r.few in omega (arith, x));
        }

  taken-in : (o : Option ℕ) (reg : ℕ) → ((slot : ℕ) → o ≡ Some slot → slot < shape.tramps) → IsTrampIn shape (taken_by o reg no_plan.tramp)
  taken-in None reg h = tt
  taken-in (Some slot) reg h = h slot refl

  given-in : (o : Option ℕ) → ((slot : ℕ) → o ≡ Some slot → slot < shape.tramps) → IsTrampIn shape (given_by o no_plan.tramp)
  given-in None h = tt
  given-in (Some slot) h = h slot refl

  first-in : (order : List ℕ) → All (λ u. u < shape.users) order → IsUserIn shape (first_of order)
  first-in [] h = tt
  first-in (v ∷ vs) h = All-head (λ u. u < shape.users) v vs h

  after-in : (u : ℕ) (order : List ℕ) → All (λ v. v < shape.users) order → IsUserIn shape (user_after u order)
  after-in u [] h = tt
  after-in u (v ∷ vs) h =
      elim (v == u) as (λ b. IsUserIn shape (cond b (first_of vs) (user_after u vs))) [
        | true ↦ first-in vs (All-tail (λ x. x < shape.users) v vs h)
        | false ↦ after-in u vs (All-tail (λ x. x < shape.users) v vs h)
      ]

  before-in : (before : Option UserNo) (u : ℕ) (order : List ℕ) → IsUserIn shape before → All (λ v. v < shape.users) order
      → IsUserIn shape (user_before before u order)
  before-in before u [] b h = b
  before-in before u (v ∷ vs) b h =
      elim (v == u) as (λ x. IsUserIn shape (cond x before (user_before (Some (user_no v)) u vs))) [
        | true ↦ b
        | false ↦ before-in (Some (user_no v)) u vs (All-head (λ x. x < shape.users) v vs h) (All-tail (λ x. x < shape.users) v vs h)
      ]

  -- an empty plan
  pub none-in : IsPlanIn shape no_plan
  none-in = record { user = tt; tramp = tt; list = tt; sites = All-nil (IsChange shape); few = omega arith }

  module _ (s : DeskView) (k : IsDeskIn shape s) (few : shape.funcs ≤ FUNCS) (new : Desk) (slots : AreSlots new) (copies : ℕ → ℕ) where
    sites : AreSites s.declared.funcs (sites_between s.state new s.declared.funcs)
    sites = sites-in (insn_at s.state) (insn_at new) (insn-at_in new slots) s.declared.funcs 0 (let e = k.declared.funcs in omega (arith, e))

    few-sites : length (sites_between s.state new s.declared.funcs) ≤ FUNCS
    few-sites = (let a = sites.few in let b = k.declared.funcs in omega (arith, a, b, few))

    edit-in : (u : ℕ) → u < shape.users → (b : Bool) → IsPlanIn shape (edit_plan s.state new s.declared.funcs u (copies u) b)
    edit-in u h true = record { user = h; tramp = tt; list = tt; sites = sites.changes; few = few-sites }
    edit-in u h false = none-in

    plan-in : (c : Command) → IsNamed (job_of s.declared) c
        → IsPlanIn shape (plan_by s.state new s.declared.funcs s.declared.tasks copies s.order c)
    plan-in (Register u) h = record {
      user = among s k 0 u h;
      tramp = taken-in (user_at new u).slot (user_at new u).reg (slots u);
      list = first-in s.order k.order;
      sites = sites.changes;
      few = few-sites;
    }
    plan-in (Unregister u) h = record {
      user = among s k 0 u h;
      tramp = given-in (user_at s.state u).slot (k.slots u);
      list = (before-in None u s.order tt k.order, after-in u s.order k.order);
      sites = sites.changes;
      few = few-sites;
    }
    plan-in (Filter u e) h = edit-in u (among s k 0 u h) (user_at s.state u).registered
    plan-in (Notrace u e) h = edit-in u (among s k 0 u h) (user_at s.state u).registered
    plan-in (Pid pids) h = record { user = tt; tramp = tt; list = tt; sites = All-nil (IsChange shape); few = omega arith }
    plan-in (NoPid nopids) h = record { user = tt; tramp = tt; list = tt; sites = All-nil (IsChange shape); few = omega arith }
    plan-in (Enable u) h = record { user = among s k 0 u h; tramp = tt; list = tt; sites = All-nil (IsChange shape); few = omega arith }
    plan-in (Disable u) h = record { user = among s k 0 u h; tramp = tt; list = tt; sites = All-nil (IsChange shape); few = omega arith }
    plan-in (MaxDepth depth) h = record { user = tt; tramp = tt; list = tt; sites = All-nil (IsChange shape); few = omega arith }

  -- ## after a command

  module _ (s : DeskView) (k : IsDeskIn shape s) (few : shape.funcs ≤ FUNCS) (c : Command) (h : IsNamed (job_of s.declared) c) where
    carried-desk : IsDeskIn shape (carried_out s c)
    carried-desk = record {
      declared = k.declared;
      users = length-next s k (suc s.commands) c ∙ k.users;
      copies = copies-next s.state s.copies c ∙ k.copies;
      filters = sized-next s k (suc s.commands) c h;
      slots = slots-next s k (suc s.commands) c h;
      order = order-next s k 0 c h;
    }

    turned-desk : IsDeskIn shape (turned_down s)
    turned-desk = record { declared = k.declared; users = k.users; copies = k.copies; filters = k.filters; slots = k.slots; order = k.order }

    pub desk-after : IsDeskIn shape (after_command s c)
    desk-after = elim (is_accepted (answer s c)) as (λ b. IsDeskIn shape (cond b (carried_out s c) (turned_down s))) [
      | true ↦ carried-desk
      | false ↦ turned-desk
    ]

    carried-plan : IsPlanIn shape (carried_out s c).plan
    carried-plan = plan-in s k few (changed (job_of s.declared) s.state (suc s.commands) c) (slots-next s k (suc s.commands) c h) (λ u. get_or s.copies u 0) c h

    pub plan-after : IsPlanIn shape (after_command s c).plan
    plan-after = elim (is_accepted (answer s c)) as (λ b. IsPlanIn shape (cond b (carried_out s c) (turned_down s)).plan) [
      | true ↦ carried-plan
      | false ↦ none-in
    ]
