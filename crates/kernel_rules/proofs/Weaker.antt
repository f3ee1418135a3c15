-- What the rules allow the profile allows.
use Rattle.std.proofs.Common.{cond, ◌≡◌, ℕ, suc, ◌≤◌, true, false, List, [], ◌∷◌, Option, Some, None, IfSome, reverse, refl, sym, subst, arith, inl, inr}
use Rattle.ft_base.specs.declared.number.CallNo.{CallNo}
use Rattle.ft_base.specs.declared.item.Item.{Item}
use Rattle.ft_base.specs.declared.item.Item.TheVariants.{Return, Enter, Back, Refuse, Leave, Exit}
use Rattle.ft_base.specs.Same.{same_call}
use Rattle.ft_base.specs.Job.{Job, Command, Unregister, command_at}
use Rattle.ft_base.specs.Desk.{desk, user_at, is_on, is_live}
use Rattle.ft_base.proofs.Small.{and_both, ==-refl}
use Rattle.ft_hist.specs.Past.{done, begun, entry_of, done_at_leave}
use Rattle.ft_hist.specs.Rules as strict
use Rattle.ft_hist.specs.Rules.{AtReturnedOrBegun}
use Rattle.ft_hist.proofs.WindowLaws.{legal-counts}
use Rattle.kernel_rules.specs.declared.line.ExitOrder.TheVariants.{AsEntered}
use Rattle.kernel_rules.specs.Rules.{AtSome, HasStayed, IsStill, KeepsCallbacks, KeepsExits, MayExit, MayFollow, MayVisit, IsLegalPast, IsWhole, is_registered}

-- ## where windows begin

-- no more commands had returned when a call was entered than have now
pub entered-before : (call : CallNo) (past : List Item) → (entry_of call past).from ≤ done past
entered-before call [] = omega arith
entered-before call (Return k a ∷ past) = let h = entered-before call past in omega (arith, h)
entered-before call (Enter c x f caller ∷ past) =
    elim (same_call c call) as (λ b. same_call c call ≡ b → (entry_of call (Enter c x f caller ∷ past)).from ≤ done past) [
      | true ↦ λ e. rw e (omega arith)
      | false ↦ λ e. rw e (entered-before call past)
    ] refl
entered-before call (_ ∷ past) = entered-before call past

-- nor when it was left
pub left-before : (call : CallNo) (past : List Item) → done_at_leave call past ≤ done past
left-before call [] = omega arith
left-before call (Return k a ∷ past) = let h = left-before call past in omega (arith, h)
left-before call (Leave c ∷ past) =
    elim (same_call c call) as (λ b. cond b (done past) (done_at_leave call past) ≤ done past) [ true ↦ omega arith | false ↦ left-before call past ]
left-before call (_ ∷ past) = left-before call past

-- ## one item

module _ (job : Job) (past : List Item) (counts : (done past ≤ begun past) × (begun past ≤ suc (done past))) where
  -- a fact of a registered user after the commands that have returned, or after those that have begun, is one at some command
  at-some : (u from : ℕ) (P : ℕ → Type 0) → from ≤ done past → ((k : ℕ) → P k → (user_at (desk job k) u).registered ≡ true) → AtReturnedOrBegun past P → AtSome job past u from P
  at-some u from P low registered (inl p) = (done past, low, counts.0, p, λ le. stayed)
    where
      stayed : is_registered (desk job (done past)) u (user_at (desk job (done past)) u).reg ≡ true
      stayed = rw (registered (done past) p, ==-refl (user_at (desk job (done past)) u).reg) refl
  at-some u from P low registered (inr p) = (begun past, (let c = counts.0 in omega arith), omega arith, p, stayed)
    where
      stayed : HasStayed job past u (begun past)
      stayed le =
          let same : begun past ≡ done past = (let c = counts.0 in omega arith) in
          subst (λ k. is_registered (desk job (done past)) u (user_at (desk job k) u).reg ≡ true) (sym same)
          (rw (subst (λ k. (user_at (desk job k) u).registered ≡ true) same (registered (begun past) p), ==-refl (user_at (desk job (done past)) u).reg) refl)

  -- whoever is on is registered, and so is whoever is live
  on-registered : (u f k : ℕ) → is_on (desk job k) u f ≡ true → (user_at (desk job k) u).registered ≡ true
  on-registered u f k on = (and_both _ _ (and_both _ _ on).0).0

  live-registered : (u r k : ℕ) → is_live (desk job k) u r ≡ true → (user_at (desk job k) u).registered ≡ true
  live-registered u r k live = (and_both _ _ (and_both _ _ live).0).0

  visit : (call : CallNo) (u : ℕ) → strict.MayVisit job past call u → MayVisit job past call u
  visit call u m = record {
    on = at-some u (entry_of call past).from (λ k. is_on (desk job k) u (entry_of call past).func ≡ true) (entered-before call past) (on-registered u (entry_of call past).func) m.on;
    once = m.once;
    order = m.order;
  }

  still : (c : Command) → strict.IsStill past c → IsStill past c
  still (Unregister u) s = s
  still _ s = tt

  still-some : (o : Option Command) → IfSome o (strict.IsStill past) → IfSome o (IsStill past)
  still-some None s = s
  still-some (Some c) s = still c s

  callbacks : (item : Item) → strict.KeepsCallbacks job past item → KeepsCallbacks job past item
  callbacks (Back call u) h = visit call u.0 h
  callbacks (Refuse call u reason) h = visit call u.0 h
  callbacks (Return k answer) h = λ ok. still-some (command_at job k) (h ok)
  callbacks _ h = tt

  exit : (call : CallNo) (u entry : ℕ) → strict.MayExit job past call u entry → MayExit AsEntered job past call u entry
  exit call u entry h =
      let o = h.of in
      record {
        of = (o.0, o.1, o.2, o.3, o.4, at-some u (done_at_leave call past) (λ k. is_live (desk job k) u o.0.reg ≡ true) (left-before call past) (live-registered u o.0.reg) o.5);
        order = h.order;
      }

  exits : (item : Item) → strict.KeepsExits job past item → KeepsExits AsEntered job past item
  exits (Exit call u entry) h = (exit call u.0 entry h.0, h.1)
  exits _ h = h

  may-follow : (item : Item) → strict.MayFollow job past item → MayFollow AsEntered job past item
  may-follow item m = record {
    run = m.run;
    callbacks = callbacks item m.callbacks;
    silence = m.silence;
    refusals = m.refusals;
    exits = exits item m.exits;
    fetches = m.fetches;
    commands = m.commands;
  }

-- ## histories

pub legal-past : (job : Job) (past : List Item) → strict.IsLegalPast job past → IsLegalPast AsEntered job past
unfolding IsLegalPast strict.IsLegalPast
legal-past job [] l = tt
legal-past job (item ∷ past) l = (may-follow job past (legal-counts job past l.1) item l.0, legal-past job past l.1)

pub whole : (job : Job) (items : List Item) → strict.IsWhole job items → IsWhole AsEntered job items
unfolding strict.IsLegal Rattle.kernel_rules.specs.Rules.IsLegal
whole job items w = record { legal = legal-past job (reverse items) w.legal; end' = record { returned = w.returned; tasks = w.tasks } }
