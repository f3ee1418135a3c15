-- For each clause of the profile an item that it alone lets follow a past, and one that it doesn't let follow either.
use Rattle.std.proofs.Common.{◌≡◌, ℕ, zero, suc, ◌≤◌, ◌<◌, ◌⊎◌, true, false, List, [], ◌∷◌, Some, None, IsSome, ◌==◌, refl, sym, arith, inl, inr, ne_eqb}
use Rattle.std.specs.List.{list_any, AllByRecursion as Each}
use Rattle.ft_base.specs.declared.context.Ctx.TheVariants.{Normal}
use Rattle.ft_base.specs.declared.item.Ran.TheVariants.{Own, List as ByList}
use Rattle.ft_base.specs.declared.item.Reason.TheVariants.{Recursion}
use Rattle.ft_base.specs.declared.item.Answer.TheVariants.{Accepted}
use Rattle.ft_base.specs.declared.item.Item.{Item}
use Rattle.ft_base.specs.declared.item.Item.TheVariants.{Begin, Return, Enter, Back, BackEnd, Refuse, Body, Leave, Exit, ExitEnd}
use Rattle.ft_base.specs.declared.number.CallNo.{CallNo}
use Rattle.ft_base.specs.declared.number.UserNo.{UserNo}
use Rattle.ft_base.specs.declared.task.TaskAct.TheVariants.{Call, Ret as RetAct, After}
use Rattle.ft_base.specs.declared.user.Kind.TheVariants.{Function, Fprobe}
use Rattle.ft_base.specs.Job.{Job, Ctl, Register, Unregister, Filter, Disable, Run}
use Rattle.ft_base.specs.Desk.{desk, is_on, is_live}
use Rattle.ft_base.proofs.Small.{false_true}
use Rattle.ft_hist.specs.Past.{all_visits, entry_of, is_of, Visit}
use Rattle.ft_hist.specs.Plain.{plain, after_item}
use Rattle.ft_hist.specs.Rules as strict
use Rattle.ft_hist.specs.Rules.{AtReturnedOrBegun, InWindow}
use Rattle.ft_hist.proofs.NotLegal.{between}
use Rattle.ft_hist.proofs.SmallJobs.{call_in, plain_user, one_task, recursion}
use Rattle.kernel_rules.specs.declared.line.ExitOrder.TheVariants.{AsEntered, Reversed}
use Rattle.kernel_rules.specs.declared.line.Line.TheVariants.{Seen}
use Rattle.kernel_rules.specs.Direct as direct
use Rattle.kernel_rules.specs.Rules.{HasStayed, MayFollow, IsStill}

-- the call, of a, and its user
abbrev one : CallNo
one = call_in 0 1

abbrev u : UserNo
u = record { 0 = 0 }

-- a task that calls a after the first command, which registers a user, and a second command
abbrev after_one : Ctl → Job
after_one second = one_task (plain_user Function ∷ []) (After 1 ∷ Call (record { 0 = 0 }) ∷ RetAct ∷ []) (Run (Register 0) ∷ second ∷ [])

-- a task that has none of these items is on its plain run
idle : (job : Job) (t : ℕ) (past : List Item) → Each (λ item. is_of t item ≡ false) past → IsSome (plain job t past)
unfolding plain
idle job t [] none = refl
idle job t (item ∷ past) none = rw none.0 (idle job t past none.1)

-- no other task than the first is the first
other : (t : ℕ) → (0 == suc t) ≡ false
other t = ne_eqb 0 (suc t) (λ same. omega (arith, same))

-- ## a callback after the return of the command that took its user off

abbrev called : List Item
called = Enter one Normal (record { 0 = 0 }) None ∷ Return 1 Accepted ∷ Begin 1 ∷ []

abbrev returned : List Item
returned = Return 2 Accepted ∷ Begin 2 ∷ called

-- the command takes a out of the filter
abbrev filtered : Job
filtered = after_one (Run (Filter 0 (record { append = false; remove = false; clear = false; set = false ∷ true ∷ false ∷ false ∷ [] })))

abbrev unregistered : Job
unregistered = after_one (Run (Unregister 0))

strictly_too_late : strict.MayFollow filtered returned (Back one u) → ⊥
unfolding desk all_visits
strictly_too_late may = elim (may.callbacks.on) [ inl on ↦ false_true on | inr on ↦ false_true on ]

pub late : MayFollow AsEntered filtered returned (Back one u)
unfolding desk all_visits plain after_item
late = record {
  run = λ t. runs t;
  callbacks = record { on = (1, omega arith, omega arith, refl, λ le. refl); once = refl; order = tt };
  silence = tt;
  refusals = record { pid = λ e. false_true e; free = omega arith; room = λ e. false_true e; level = λ e. false_true e };
  exits = refl;
  fetches = tt;
  commands = tt;
}
  where
    runs : (t : ℕ) → IsSome (plain filtered t (Back one u ∷ returned))
    runs zero = refl
    runs (suc t) = idle filtered (suc t) (Back one u ∷ returned) (other t, (refl, (refl, (other t, (refl, (refl, tt))))))

pub after_unregistration : MayFollow AsEntered unregistered returned (Back one u) → ⊥
unfolding desk all_visits
after_unregistration may = let w = may.callbacks.on in by w.0 w.1 w.2 w.3 w.4
  where
    by : (k : ℕ) → 1 ≤ k → k ≤ 2 → is_on (desk unregistered k) 0 0 ≡ true → HasStayed unregistered returned 0 k → ⊥
    by zero low high on stayed = omega (arith, low)
    by (suc zero) low high on stayed = false_true (stayed (omega arith))
    by (suc (suc zero)) low high on stayed = false_true on
    by (suc (suc (suc k))) low high on stayed = omega (arith, high)

-- the call was entered after the command had returned
abbrev entered_late : List Item
entered_late = Enter one Normal (record { 0 = 0 }) None ∷ Return 2 Accepted ∷ Begin 2 ∷ Return 1 Accepted ∷ Begin 1 ∷ []

pub before_its_window : MayFollow AsEntered filtered entered_late (Back one u) → ⊥
unfolding desk all_visits
before_its_window may = let w = may.callbacks.on in by w.0 w.1 w.2 w.3
  where
    by : (k : ℕ) → 2 ≤ k → k ≤ 2 → is_on (desk filtered k) 0 0 ≡ true → ⊥
    by zero low high on = omega (arith, low)
    by (suc zero) low high on = omega (arith, low)
    by (suc (suc zero)) low high on = false_true on
    by (suc (suc (suc k))) low high on = omega (arith, high)

-- ## an exit after the return of the command that took its user off

-- an fprobe is called back in the call, which is left, and then the second command returns
abbrev left : List Item
left = Return 2 Accepted ∷ Begin 2 ∷ Leave one ∷ Body one (record { 0 = 0 }) (Own u) ∷ BackEnd one u ∷ Back one u ∷ called

abbrev probe : Ctl → Job
probe second = record (after_one second) { users = plain_user (Fprobe true false) ∷ [] }

abbrev disabled : Job
disabled = probe (Run (Disable 0))

abbrev unregistered_probe : Job
unregistered_probe = probe (Run (Unregister 0))

strictly_too_late_exit : strict.MayFollow disabled left (Exit one u 3) → ⊥
unfolding desk all_visits
strictly_too_late_exit may = let m = may.exits.0.of in not-live m.0.reg m.5
  where
    not-live : (r : ℕ) → AtReturnedOrBegun left (λ k. is_live (desk disabled k) 0 r ≡ true) → ⊥
    not-live r (inl live) = false_true live
    not-live r (inr live) = false_true live

pub late_exit : MayFollow AsEntered disabled left (Exit one u 3)
unfolding desk all_visits plain after_item
late_exit = record {
  run = λ t. runs t;
  callbacks = tt;
  silence = tt;
  refusals = tt;
  exits = (record { of = (visit_one, (0, omega arith, refl), refl, refl, (refl, refl, refl), (1, omega arith, omega arith, refl, λ le. refl)); order = tt }, refl);
  fetches = tt;
  commands = tt;
}
  where
    visit_one : Visit
    visit_one = record { call = one; user = 0; reg = 1; since = 1; place = 3; back = true; framed = true }

    runs : (t : ℕ) → IsSome (plain disabled t (Exit one u 3 ∷ left))
    runs zero = refl
    runs (suc t) = idle disabled (suc t) (Exit one u 3 ∷ left) (other t, (refl, (refl, (other t, (other t, (other t, (other t, (other t, (refl, (refl, tt))))))))))

pub exit_after_unregistration : MayFollow AsEntered unregistered_probe left (Exit one u 3) → ⊥
unfolding desk all_visits
exit_after_unregistration may = let m = may.exits.0.of in by m.0.reg m.5.0 m.5.1 m.5.2 m.5.3 m.5.4
  where
    by : (r k : ℕ) → 1 ≤ k → k ≤ 2 → is_live (desk unregistered_probe k) 0 r ≡ true → HasStayed unregistered_probe left 0 k → ⊥
    by r zero low high live stayed = omega (arith, low)
    by r (suc zero) low high live stayed = false_true (stayed (omega arith))
    by r (suc (suc zero)) low high live stayed = false_true live
    by r (suc (suc (suc k))) low high live stayed = omega (arith, high)

-- ## a callback that is open where a command returns

abbrev open' : List Item
open' = Begin 2 ∷ Back one u ∷ called

strictly_open : strict.MayFollow disabled open' (Return 2 Accepted) → ⊥
unfolding desk all_visits
strictly_open may = let still : strict.IsStill open' (Disable 0) = may.callbacks refl in false_true (sym still)

pub open_at_disabling : MayFollow AsEntered disabled open' (Return 2 Accepted)
unfolding desk all_visits plain after_item
open_at_disabling = record {
  run = λ t. runs t;
  callbacks = λ ok. tt;
  silence = tt;
  refusals = tt;
  exits = tt;
  fetches = tt;
  commands = record { number = refl; follows = refl; command = (Disable 0, refl, refl) };
}
  where
    runs : (t : ℕ) → IsSome (plain disabled t (Return 2 Accepted ∷ open'))
    runs zero = refl
    runs (suc t) = idle disabled (suc t) (Return 2 Accepted ∷ open') (refl, (refl, (other t, (other t, (refl, (refl, tt))))))

pub open_at_unregistration : MayFollow AsEntered unregistered_probe open' (Return 2 Accepted) → ⊥
unfolding desk all_visits
open_at_unregistration may = let still : IsStill open' (Unregister 0) = may.callbacks refl in false_true (sym still)

-- ## exits in the opposite order

abbrev v : UserNo
v = record { 0 = 1 }

abbrev two_probes : Job
two_probes = record (after_one (Run (Register 1))) { users = plain_user (Fprobe true false) ∷ plain_user (Fprobe true false) ∷ [] }

-- both are called back in the call, which is left
abbrev both : List Item
both =
    Leave one ∷ Body one (record { 0 = 0 }) ByList ∷ BackEnd one u ∷ Back one u ∷ BackEnd one v ∷ Back one v ∷ Enter one Normal (record { 0 = 0 }) None
    ∷ Return 2 Accepted ∷ Begin 2 ∷ Return 1 Accepted ∷ Begin 1 ∷ []

-- the exit of the second has come
abbrev second_out : List Item
second_out = ExitEnd one u ∷ Exit one u 7 ∷ both

-- that of the first has
abbrev first_out : List Item
first_out = ExitEnd one v ∷ Exit one v 5 ∷ both

strictly_out_of_order : strict.MayFollow two_probes second_out (Exit one v 5) → ⊥
strictly_out_of_order may = let later : 7 < 5 = may.exits.0.order.0 in omega (arith, later)

pub reversed : MayFollow Reversed two_probes second_out (Exit one v 5)
unfolding desk all_visits plain after_item
reversed = record {
  run = λ t. runs t;
  callbacks = tt;
  silence = tt;
  refusals = tt;
  exits = (record { of = (visit_first, (1, omega arith, refl), refl, refl, (refl, refl, refl), (2, omega arith, omega arith, refl, λ le. refl)); order = (omega arith, tt) }, refl);
  fetches = tt;
  commands = tt;
}
  where
    visit_first : Visit
    visit_first = record { call = one; user = 1; reg = 1; since = 2; place = 5; back = true; framed = true }

    runs : (t : ℕ) → IsSome (plain two_probes t (Exit one v 5 ∷ second_out))
    runs zero = refl
    runs (suc t) = idle two_probes (suc t) (Exit one v 5 ∷ second_out) (other t, (other t, (other t, (other t, (other t, (other t, (other t, (other t, (other t, (other t, (refl, (refl, (refl, (refl, tt))))))))))))))

pub not_reversed : MayFollow Reversed two_probes first_out (Exit one u 7) → ⊥
not_reversed may = let later : 7 < 5 = may.exits.0.order.0 in omega (arith, later)

-- ## a refusal that lacks

-- a user's act calls b within its callback
abbrev two : CallNo
two = call_in 0 2

abbrev within : List Item
within = Enter two Normal (record { 0 = 1 }) (Some one) ∷ Back one u ∷ called

strictly_silent : strict.MayFollow recursion within (Body two (record { 0 = 1 }) (Own u)) → ⊥
unfolding desk all_visits
strictly_silent may =
    let w = may.silence 0 (omega arith) refl in
    let off : is_on (desk recursion 1) 0 1 ≡ false = between (λ k. is_on (desk recursion k) 0 1 ≡ false) 1 w.0 w.1 w.2 w.3 in
    false_true (sym off)

pub refusal_lacks : direct.MayFollow AsEntered recursion within (Seen (Body two (record { 0 = 1 }) (Own u)))
unfolding desk all_visits plain after_item
refusal_lacks = record {
  run = λ t. runs t;
  callbacks' = tt;
  silence = (refused ∷ [], (could, tt, tt), λ user lt alone. lacked user lt);
  refusals = tt;
  exits = tt;
  fetches = record { fetched = (1, omega arith, omega arith, refl); only = tt; one = omega arith; runs = refl };
  commands = tt;
}
  where
    runs : (t : ℕ) → IsSome (plain recursion t (Body two (record { 0 = 1 }) (Own u) ∷ within))
    runs zero = refl
    runs (suc t) = idle recursion (suc t) (Body two (record { 0 = 1 }) (Own u) ∷ within) (other t, (other t, (other t, (other t, (refl, (refl, tt))))))

    refused : direct.Lacked
    refused = record { user = u; reason = Recursion; before = within }

    refuses : (t : ℕ) → IsSome (plain recursion t (Refuse two u Recursion ∷ within))
    refuses zero = refl
    refuses (suc t) = idle recursion (suc t) (Refuse two u Recursion ∷ within) (other t, (other t, (other t, (other t, (refl, (refl, tt))))))

    could : direct.CouldRefuse recursion within two refused
    could = record {
      cut = ([], refl);
      run = λ t. refuses t;
      may = record { on = (1, omega arith, omega arith, refl, λ le. refl); once = refl; order = tt };
      why = (λ e. false_true e, omega arith);
      once = refl;
      order = tt;
    }

    lacked : (user : ℕ) → user < 1 → InWindow two within (λ k. is_on (desk recursion k) user (entry_of two within).func ≡ false) ⊎ (list_any (λ r. r.user.0 == user) (refused ∷ []) ≡ true)
    lacked zero lt = inr refl
    lacked (suc user) lt = absurd (omega (arith, lt))
