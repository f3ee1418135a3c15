-- What is read has the numbers of the job.
use Rattle.std.proofs.Common.{cond, ◌<◌, ◌^◌, ℕ, Bool, true, false, List, length, Option, Some, None, arith}
use Rattle.std.specs.Prelude.{IfSome}
use Rattle.ft_base.specs.declared.number.CallNo.{CallNo}
use Rattle.ft_base.specs.declared.number.FuncNo.{FuncNo}
use Rattle.ft_base.specs.declared.number.UserNo.{UserNo}
use Rattle.ft_base.specs.declared.number.TaskNo.{TaskNo}
use Rattle.ft_base.specs.declared.item.Ran.TheVariants.{Nop, List as ByList, Own}
use Rattle.ft_base.specs.declared.item.Answer.TheVariants.{Accepted, Already, NotThere, Invalid, NoMatch, Busy}
use Rattle.ft_base.specs.declared.item.Item.TheVariants.{Begin, Return, Enter, Back, BackEnd, Refuse, Miss, Body, Leave, Exit, ExitEnd, Ret}
use Rattle.ft_base.specs.Job.{Job, funcs}
use Rattle.trace_views.specs.Words.{Word}
use Rattle.trace_lines.specs.LogItems.{IsCallOf, IsCallerOf, IsRanOf, IsAnswerOf}
use Rattle.log_reader.specs.Lookups.{Lookups, AreLookupsOf}
use Rattle.log_reader.specs.Refused.{IsCallShort, IsCallerShort, IsNumbered}
use Rattle.log_reader.specs.Reading.{◌>>=◌, before, after, number_in, context_in, reason_in, call_in, caller_in, ran_in, answer_in, call_item, words_item, item_in}
use Rattle.log_reader.proofs.NumberWords.{number-small}
use Rattle.log_reader.proofs.FoundAgain.{function-below, user-below, task-below}

-- what is read, if anything is, has a property
record Gives {A : Type 0} (o : Option A) (P : A → Type 0) : Type 0 where
  holds : IfSome o P

-- what holds of the one gives what holds after it
then-gives : {A B : Type 0} {P : A → Type 0} {Q : B → Type 0} {o : Option A} {f : A → Option B} → Gives o P → ((a : A) → P a → Gives (f a) Q) → Gives (o >>= f) Q
then-gives {o = None} h g = record { holds = tt }
then-gives {o = Some a} h g = g a h.holds

gives-any : {A : Type 0} (o : Option A) → Gives o (λ _. Unit {0})
gives-any None = record { holds = tt }
gives-any (Some a) = record { holds = tt }

gives-either : {B : Type 0} {Q : B → Type 0} {x y : Option B} (t : Bool) → Gives x Q → Gives y Q → Gives (cond t x y) Q
gives-either true h k = h
gives-either false h k = k

gives-none : {A : Type 0} {Q : A → Type 0} → Gives None Q
gives-none = record { holds = tt }

gives-one : {A : Type 0} {Q : A → Type 0} {a : A} → Q a → Gives (Some a) Q
gives-one h = record { holds = h }

module _ (job : Job) (find : Lookups) (known : AreLookupsOf job find) where
  number-gives : (w : Word) → Gives (number_in w) (λ n. n < 2 ^ 32)
  number-gives w = record { holds = number-small w }

  function-gives : (w : Word) → Gives (find.function w) (λ (f : FuncNo). f.0 < funcs job)
  function-gives w = record { holds = function-below job find known w }

  user-gives : (w : Word) → Gives (find.user w) (λ (u : UserNo). u.0 < length job.users)
  user-gives w = record { holds = user-below job find known w }

  task-gives : (pid : ℕ) → Gives (find.task pid) (λ (t : TaskNo). t.0 < length job.tasks)
  task-gives pid = record { holds = task-below job find known pid }

  -- a call of the job, whose number has 32 bits
  abbrev IsShortCall : CallNo → Type 0
  IsShortCall call = IsCallOf job call × IsCallShort call

  abbrev IsShortCaller : Option CallNo → Type 0
  IsShortCaller caller = IsCallerOf job caller × IsCallerShort caller

  call-gives : (w : Word) → Gives (call_in find w) IsShortCall
  unfolding call_in
  call-gives w =
      then-gives (number-gives (before 46 w)) (λ pid _.
      then-gives (task-gives pid) (λ t below.
      then-gives (number-gives (after 46 w)) (λ n small. gives-one ((below, (let z : n < 2 ^ 64 = omega arith in z)), small))))

  caller-gives : (w : Word) → Gives (caller_in find w) IsShortCaller
  unfolding caller_in
  caller-gives w = gives-either _ (gives-one (tt, tt)) (then-gives (call-gives w) (λ call h. gives-one h))

  ran-gives : (w name : Word) → Gives (ran_in find w name) (IsRanOf job)
  unfolding ran_in
  ran-gives w name = gives-either _ (gives-one {a = Nop} tt) (gives-either _ (gives-one {a = ByList} tt) (gives-either _ (then-gives (user-gives name) (λ u h. gives-one {a = Own u} h)) gives-none))

  answer-gives : (w f u : Word) → Gives (answer_in find w f u) (IsAnswerOf job)
  unfolding answer_in
  answer-gives w f u =
      gives-either _ (gives-one {a = Accepted} tt) (gives-either _ (gives-one {a = Already} tt) (gives-either _ (gives-one {a = NotThere} tt)
      (gives-either _ (gives-one {a = Invalid} tt) (gives-either _ (gives-one {a = NoMatch} tt)
      (gives-either _ (then-gives (function-gives f) (λ x h. then-gives (user-gives u) (λ y k. gives-one {a = Busy x y} (h, k)))) gives-none)))))

  call_item-gives : (kind : Word) (call : CallNo) (second third fourth : Word) → IsShortCall call → Gives (call_item find kind call second third fourth) (IsNumbered job)
  unfolding call_item
  call_item-gives kind call second third fourth h =
      gives-either _ (then-gives (gives-any (context_in second)) (λ ctx _. then-gives (function-gives third) (λ f in_f. then-gives (caller-gives fourth) (λ caller in_c.
      gives-one {a = Enter call ctx f caller} (record { of_job = (h.0, in_f, in_c.0); short = (h.1, in_c.1) })))))
      (gives-either _ (then-gives (user-gives second) (λ u in_u. gives-one {a = Back call u} (record { of_job = (h.0, in_u); short = h.1 })))
      (gives-either _ (then-gives (user-gives second) (λ u in_u. gives-one {a = BackEnd call u} (record { of_job = (h.0, in_u); short = h.1 })))
      (gives-either _ (then-gives (user-gives second) (λ u in_u. then-gives (gives-any (reason_in third)) (λ reason _. gives-one {a = Refuse call u reason} (record { of_job = (h.0, in_u); short = h.1 }))))
      (gives-either _ (then-gives (user-gives second) (λ u in_u. gives-one {a = Miss call u} (record { of_job = (h.0, in_u); short = h.1 })))
      (gives-either _ (then-gives (function-gives second) (λ g in_g. then-gives (ran-gives third fourth) (λ ran in_r. gives-one {a = Body call g ran} (record { of_job = (h.0, in_g, in_r); short = h.1 }))))
      (gives-either _ (gives-one {a = Leave call} (record { of_job = h.0; short = h.1 }))
      (gives-either _ (then-gives (user-gives second) (λ u in_u. then-gives (number-gives third) (λ n small.
      gives-one {a = Exit call u n} (record { of_job = (h.0, in_u, (let z : n < 2 ^ 64 = omega arith in z)); short = (h.1, small) }))))
      (gives-either _ (then-gives (user-gives second) (λ u in_u. gives-one {a = ExitEnd call u} (record { of_job = (h.0, in_u); short = h.1 })))
      (gives-either _ (then-gives (caller-gives second) (λ to in_c. gives-one {a = Ret call to} (record { of_job = (h.0, in_c.0); short = (h.1, in_c.1) }))) gives-none)))))))))

  words_item-gives : (kind first second third fourth : Word) → Gives (words_item find kind first second third fourth) (IsNumbered job)
  unfolding words_item
  words_item-gives kind first second third fourth =
      gives-either _ (then-gives (number-gives first) (λ k small. gives-one {a = Begin k} (record { of_job = (let z : k < 2 ^ 64 = omega arith in z); short = small })))
      (gives-either _ (then-gives (number-gives first) (λ k small. then-gives (answer-gives second third fourth) (λ a in_a.
      gives-one {a = Return k a} (record { of_job = ((let z : k < 2 ^ 64 = omega arith in z), in_a); short = small }))))
      (then-gives (call-gives first) (λ call h. call_item-gives kind call second third fourth h)))

  pub item-numbered : (line : List ℕ) → IfSome (item_in find line) (IsNumbered job)
  unfolding item_in
  item-numbered line = (words_item-gives _ _ _ _ _).holds
