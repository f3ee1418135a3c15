-- What a line without a cause declares keeps the limits and the order.
use Rattle.std.proofs.Common.{◌≡◌, ℕ, zero, suc, ◌+◌, ◌-◌, ◌*◌, ◌<◌, ◌≤◌, false, List, [], ◌∷◌, ◌++◌, length, refl, sym, ap, subst, ◌∙◌, arith}
use Rattle.std.specs.Prelude.{unwrap_or}
use Rattle.std.proofs.lemmas.Bool.{ltb-false}
use Rattle.std.proofs.lemmas.List.{length_push}
use Rattle.ft_base.specs.declared.context.Ctx.{Ctx}
use Rattle.ft_base.specs.declared.context.Ctx.TheVariants.{Normal, Softirq, Irq, Nmi}
use Rattle.ft_base.specs.declared.limits.TheConstants.{CPUS, TASKS, LANES, COMMANDS, UNTILS, LEVELS, ITEMS, STEPS}
use Rattle.ft_base.specs.declared.task.TaskAct.{TaskAct}
use Rattle.ft_base.specs.declared.task.TaskAct.TheVariants.{Call, Ret, Raise, Lower, After}
use Rattle.ft_base.specs.Job.{Ctl, commands_in}
use Rattle.ft_base.specs.Versions.{limits_of, IsFew}
use Rattle.ft_base.proofs.Versions.{few-largest}
use Rattle.user_specs.specs.Bound.{call_bound_of}
use Rattle.ft_script.specs.declared.levels.Levels.{Levels}
use Rattle.ft_script.specs.Levels.{present, open_in, open_here, open_calls, with_open, without, levels_after}
use Rattle.ft_script.specs.Above.{Above, Run, Until, LinedCtl, Declaration, a_version, a_function, some_slots, an_absence, a_trigger, a_user, a_cpu, a_task, an_act, a_lane, a_ctl, more_turns, Resolved, calls_with, with_what, declared}
use Rattle.ft_script.specs.Expansion.{Expansion, opened, expanded_all, lines_as_they_are, expansion_of, command_count}
use Rattle.ft_script.specs.Causes.{has_too_many_commands}
use Rattle.ft_script.specs.Within.{FewActs, IsWithinLimits, IsInOrder}
use Rattle.ft_script.specs.Holds.{LanesHold, Holds}
use Rattle.ft_script.specs.LineConditions.{IsNextCall, FitsAs, IsRanked, Fits}
use Rattle.ft_script.proofs.TaskLaws.{length-push_act}
use Rattle.ft_script.proofs.Expanding.{expansion-plain, expansion-lanes, opening-few}

-- ## the version

-- it isn't line 1, which says the version
abbrev pub IsLater : Declaration → Type 0
IsLater (a_version number) = ⊥
IsLater _ = Unit {0}

pub same-version : (above : Above) (what : Declaration) → IsLater what → above.version ≡ (with_what above what).version
same-version above (a_version number) later = absurd later
same-version above what later = refl

-- ## the order of ranks

-- what comes before the lines that say a module is absent adds none
kept-absent : (above : Above) (rank : ℕ) (what : Declaration) → IsRanked rank what → rank < 2 → (with_what above what).absent ≡ above.absent
kept-absent above rank (an_absence owner) ranked low = absurd (omega (arith, ranked, low))
kept-absent above rank what ranked low = refl

-- nor a trigger
kept-triggers : (above : Above) (rank : ℕ) (what : Declaration) → IsRanked rank what → rank < 2 → (with_what above what).triggers ≡ above.triggers
kept-triggers above rank (a_trigger trigger) ranked low = absurd (omega (arith, ranked, low))
kept-triggers above rank what ranked low = refl

-- what comes before the lines of tasks adds no call
kept-calls : (above : Above) (rank : ℕ) (what : Declaration) → IsRanked rank what → rank < 5 → (with_what above what).calls ≡ above.calls
kept-calls above rank (an_act act) ranked low = absurd (omega (arith, ranked, low))
kept-calls above rank what ranked low = refl

-- what comes before the lanes adds none
kept-lanes : (above : Above) (rank : ℕ) (what : Declaration) → IsRanked rank what → rank < 6 → (with_what above what).lane_count ≡ above.lane_count
kept-lanes above rank a_lane ranked low = absurd (omega (arith, ranked, low))
kept-lanes above rank what ranked low = refl

-- what comes before the lines of control adds none of them
kept-ctls : (above : Above) (rank : ℕ) (what : Declaration) → IsRanked rank what → rank < 6 → (with_what above what).ctls ≡ above.ctls
kept-ctls above rank (a_ctl ctl) ranked low = absurd (omega (arith, ranked, low))
kept-ctls above rank what ranked low = refl

pub order-declared : (above : Above) → IsInOrder above → (line : Resolved) → Fits above line → IsInOrder (declared above line)
order-declared above order line f = record {
  first = λ none. absurd (omega (arith, none));
  absent = λ low. kept-absent above line.rank line.what f.ranked low ∙ order.absent (let r = f.order in omega (arith, r, low));
  triggers = λ low. kept-triggers above line.rank line.what f.ranked low ∙ order.triggers (let r = f.order in omega (arith, r, low));
  calls = λ low. kept-calls above line.rank line.what f.ranked low ∙ order.calls (let r = f.order in omega (arith, r, low));
  lanes = λ low. kept-lanes above line.rank line.what f.ranked low ∙ order.lanes (let r = f.order in omega (arith, r, low));
  ctls = λ low. kept-ctls above line.rank line.what f.ranked low ∙ order.ctls (let r = f.order in omega (arith, r, low));
}

-- ## open calls

-- with n calls open in a context in place of those that are
pub calls-with_open : (l : Levels) (c : Ctx) (n : ℕ) → open_calls (with_open l c n) + open_in l c ≡ open_calls l + n
calls-with_open l Normal n = omega arith
calls-with_open l Softirq n = omega arith
calls-with_open l Irq n = omega arith
calls-with_open l Nmi n = omega arith

-- a context that goes leaves the calls of the others
pub calls-without : (l : Levels) (c : Ctx) → open_calls (without l c) ≤ open_calls l
calls-without l Normal = omega arith
calls-without l Softirq = omega arith
calls-without l Irq = omega arith
calls-without l Nmi = omega arith

-- ## commands

-- in a script with lanes the lines stay as they are
in-lanes : (above : Above) (last : ℕ) → above.lane_count ≡ suc last → (expansion_of above).ctls ≡ lines_as_they_are above.ctls
in-lanes above last e = ap (λ (x : Expansion). x.ctls) (expansion-lanes above last e)

-- above the first line of control there is at most one command for each user
few-before : (above : Above) → above.ctls ≡ [] → command_count above ≤ length above.users
few-before above none = by above.lane_count refl
  where
    by : (count : ℕ) → above.lane_count ≡ count → command_count above ≤ length above.users
    by zero e =
        let same : (expansion_of above).ctls ≡ (opened above).ctls
        = ap (λ (x : Expansion). x.ctls) (expansion-plain above e) ∙ ap (λ (ctls : List LinedCtl). (expanded_all (opened above) ctls).ctls) none in
        subst (λ (ctls : List Ctl). length (commands_in ctls) ≤ length above.users) (sym same) (opening-few above)
    by (suc last) e =
        let same : (expansion_of above).ctls ≡ [] = in-lanes above last e ∙ ap lines_as_they_are none in
        subst (λ (ctls : List Ctl). length (commands_in ctls) ≤ length above.users) (sym same) (omega arith)

-- without lanes there is no line of control if each has a lane
pub no-ctls : (above : Above) → above.lanes ≡ [] → length above.lanes ≡ length above.ctls → above.ctls ≡ []
no-ctls above none each = by above.ctls (sym each ∙ ap (λ (lanes : List ℕ). length lanes) none)
  where
    by : (ctls : List LinedCtl) → length ctls ≡ 0 → ctls ≡ []
    by [] e = refl
    by (c ∷ cs) e = absurd (omega (arith, e))

-- one more lane leaves the commands: either there were lanes already, or there is no line of control, since each that is above has a lane
few-in_lanes : (above : Above) (count : ℕ) → above.lane_count ≡ count → LanesHold above count → length above.lanes ≡ length above.ctls → command_count above ≤ COMMANDS
    → length (commands_in (lines_as_they_are above.ctls)) ≤ COMMANDS
few-in_lanes above zero e lanes each few =
    subst (λ (ctls : List LinedCtl). length (commands_in (lines_as_they_are ctls)) ≤ COMMANDS) (sym (no-ctls above lanes each)) (omega arith)
few-in_lanes above (suc last) e lanes each few = subst (λ (ctls : List Ctl). length (commands_in ctls) ≤ COMMANDS) (in-lanes above last e) few

-- ## within the limits

room-for : {X : Type 0} (limit : ℕ) (xs : List X) (x : X) → length xs < limit → length (xs ++ x ∷ []) ≤ limit
room-for limit xs x l = let n = length_push xs x in omega (arith, n, l)

module _ (above : Above) (h : Holds above) where
  within-functions : (what : Declaration) → FitsAs above what → length (with_what above what).functions ≤ (limits_of above.version).funcs
  within-functions (a_function function) f = room-for (limits_of above.version).funcs above.functions function f.room
  within-functions what f = h.within.counts.few_functions

  within-users : (what : Declaration) → FitsAs above what → length (with_what above what).users ≤ (limits_of above.version).users
  within-users (a_user user) f = room-for (limits_of above.version).users above.users user f.room
  within-users what f = h.within.counts.few_users

  within-tasks : (what : Declaration) → FitsAs above what → length (with_what above what).tasks ≤ TASKS
  within-tasks (a_task pid cpu) f = room-for TASKS above.tasks _ f.room
  within-tasks (an_act act) f =
      let n = length-push_act above.tasks (record { act = act; line = suc above.lines }) in
      let few = h.within.counts.few_tasks in
      omega (arith, n, few)
  within-tasks what f = h.within.counts.few_tasks

  within-tramps : (what : Declaration) → FitsAs above what → unwrap_or (with_what above what).tramps 0 ≤ (limits_of above.version).tramps
  within-tramps (some_slots count) f = f.few
  within-tramps what f = h.within.counts.few_tramps

  within-cpus : (what : Declaration) → FitsAs above what → length (with_what above what).quanta ≤ CPUS
  within-cpus (a_cpu quantum) f = room-for CPUS above.quanta quantum f.1
  within-cpus what f = h.within.few_cpus

  -- users are fewer than commands may be, so above the first line of control there are no more commands than there may be
  few-yet : (d : Above) → d.ctls ≡ [] → length d.users ≤ (limits_of above.version).users → command_count d ≤ COMMANDS
  few-yet d none users =
      let counts = h.within.counts in
      let few : IsFew (limits_of above.version) (length above.functions) (length d.users) (length above.tasks) (unwrap_or above.tramps 0)
      = record { few_functions = counts.few_functions; few_users = users; few_tasks = counts.few_tasks; few_tramps = counts.few_tramps } in
      let most = (few-largest above.version few).few_users in
      let all = few-before d none in
      omega (arith, all, most)

  within-commands : (what : Declaration) → IsLater what → FitsAs above what → has_too_many_commands above what ≡ false → command_count (with_what above what) ≤ COMMANDS
  within-commands (a_version number) later f few = absurd later
  within-commands (a_function function) later f few = few-yet (with_what above (a_function function)) f.before h.within.counts.few_users
  within-commands (some_slots count) later f few = few-yet (with_what above (some_slots count)) f.before h.within.counts.few_users
  within-commands (an_absence owner) later f few = few-yet (with_what above (an_absence owner)) f.before h.within.counts.few_users
  within-commands (a_user user) later f few = few-yet (with_what above (a_user user)) f.before (within-users (a_user user) f)
  within-commands (a_task pid cpu) later f few = few-yet (with_what above (a_task pid cpu)) f.before h.within.counts.few_users
  within-commands (an_act act) later f few = few-yet (with_what above (an_act act)) f.before h.within.counts.few_users
  within-commands a_lane later f few =
      subst (λ (ctls : List Ctl). length (commands_in ctls) ≤ COMMANDS) (sym (in-lanes (with_what above a_lane) above.lane_count refl))
      (few-in_lanes above above.lane_count refl h.lanes f.each h.within.few_commands)
  within-commands (a_ctl ctl) later f few = ltb-false COMMANDS (command_count (with_what above (a_ctl ctl))) few
  within-commands what later f few = h.within.few_commands

  within-waits : (what : Declaration) → FitsAs above what → (with_what above what).waits ≤ UNTILS
  within-waits (a_ctl (Run line)) f = h.within.few_waits
  within-waits (a_ctl (Until task acts)) f = let r : above.waits < UNTILS = f.1 in omega (arith, r)
  within-waits what f = h.within.few_waits

  within-lanes : (what : Declaration) → FitsAs above what → (with_what above what).lane_count ≤ LANES
  within-lanes a_lane f = let r = f.room in omega (arith, r)
  within-lanes what f = h.within.few_lanes

  within-steps : (what : Declaration) → FitsAs above what → (with_what above what).steps ≤ STEPS
  within-steps (more_turns turns steps) f = f
  within-steps what f = h.within.few_steps

  -- one more act makes one more call at most
  few-calls : (act : TaskAct) → calls_with act above.calls ≤ suc above.calls
  few-calls (Call f) = omega arith
  few-calls Ret = omega arith
  few-calls (Raise to) = omega arith
  few-calls Lower = omega arith
  few-calls (After n) = omega arith

  -- only a call opens one
  few-open : (act : TaskAct) → IsNextCall above act → open_calls (levels_after above.levels act) ≤ LEVELS
  few-open (Call f) next =
      let deep : open_calls above.levels < LEVELS = next.1 in
      let opened = calls-with_open above.levels (present above.levels) (suc (open_here above.levels)) in
      omega (arith, opened, deep)
  few-open Ret next =
      let closed = calls-with_open above.levels (present above.levels) (open_here above.levels - 1) in
      let low = h.within.acts.few_open in
      omega (arith, closed, low)
  few-open (Raise to) next =
      let raised = calls-with_open above.levels to 0 in
      let low = h.within.acts.few_open in
      omega (arith, raised, low)
  few-open Lower next =
      let lowered = calls-without above.levels (present above.levels) in
      let low = h.within.acts.few_open in
      omega (arith, lowered, low)
  few-open (After n) next = h.within.acts.few_open

  within-acts : (what : Declaration) → FitsAs above what → let d = with_what above what in FewActs d.levels d.acts d.calls
  within-acts (a_task pid cpu) f = record {
    few_acts = h.within.acts.few_acts;
    few_calls = h.within.acts.few_calls;
    few_open = omega arith;
  }
  within-acts (an_act act) f =
      let few_calls = h.within.acts.few_calls in
      let made = few-calls act in
      let left = f.room in
      record { few_acts = omega (arith, left); few_calls = omega (arith, made, few_calls); few_open = few-open act f.call }
  within-acts what f = h.within.acts

  pub within-declared : (what : Declaration) → IsLater what → FitsAs above what → has_too_many_commands above what ≡ false → IsWithinLimits (with_what above what)
  within-declared what later f few = record {
    counts = (let d = with_what above what in
        subst (λ v. IsFew (limits_of v) (length d.functions) (length d.users) (length d.tasks) (unwrap_or d.tramps 0)) (same-version above what later) (record {
          few_functions = within-functions what f;
          few_users = within-users what f;
          few_tasks = within-tasks what f;
          few_tramps = within-tramps what f;
        }));
    few_cpus = within-cpus what f;
    acts = within-acts what f;
    few_commands = within-commands what later f few;
    few_waits = within-waits what f;
    few_lanes = within-lanes what f;
    few_steps = within-steps what f;
  }

  -- ## items

  few-items : (what : Declaration) → FitsAs above what → let d = with_what above what in call_bound_of d.users (limits_of above.version).levels * d.calls ≤ ITEMS
  few-items (a_user user) f = let none : above.calls ≡ 0 = f.first in rw none (omega arith)
  few-items (an_act (Call g)) f = f.call.2
  few-items (an_act Ret) f = h.items
  few-items (an_act (Raise to)) f = h.items
  few-items (an_act Lower) f = h.items
  few-items (an_act (After n)) f = h.items
  few-items what f = h.items

  pub items-declared : (what : Declaration) → IsLater what → FitsAs above what → let d = with_what above what in call_bound_of d.users (limits_of d.version).levels * d.calls ≤ ITEMS
  items-declared what later f =
      let d = with_what above what in
      subst (λ v. call_bound_of d.users (limits_of v).levels * d.calls ≤ ITEMS) (same-version above what later) (few-items what f)
