-- A reader of the log: from the words of an item it gives the item again, so the words tell the item.
use Rattle.std.proofs.Common.{cond, if◌then◌else◌, ◌≡◌, ℕ, zero, suc, ◌<◌, ◌≤◌, ◌^◌, Bool, true, false, ◌==◌, List, [], ◌∷◌, ◌++◌, length, codes, Option, Some, None, refl, sym, ap, ◌∙◌, arith, inl, eqb-true}
use Rattle.std.specs.Prelude.{get_or, IfSome}
use Rattle.std.specs.Fmt.{decimal}
use Rattle.std.specs.Str.{bytes_eq}
use Rattle.std.specs.Str.Parse.{digits_value}
use Rattle.std.proofs.lemmas.Slice.Eq.{bytes_eq-Decides}
use Rattle.ft_base.specs.declared.number.CallNo.{CallNo}
use Rattle.ft_base.specs.declared.number.FuncNo.{FuncNo}
use Rattle.ft_base.specs.declared.number.UserNo.{UserNo}
use Rattle.ft_base.specs.declared.context.Ctx.{Ctx}
use Rattle.ft_base.specs.declared.context.Ctx.TheVariants.{Normal, Softirq, Irq, Nmi}
use Rattle.ft_base.specs.declared.item.Reason.{Reason}
use Rattle.ft_base.specs.declared.item.Reason.TheVariants.{Pid, Recursion, Depth}
use Rattle.ft_base.specs.declared.item.Ran.{Ran}
use Rattle.ft_base.specs.declared.item.Ran.TheVariants.{Nop, List as ByList, Own}
use Rattle.ft_base.specs.declared.item.Answer.{Answer}
use Rattle.ft_base.specs.declared.item.Answer.TheVariants.{Accepted, Already, NotThere, Invalid, NoMatch, Busy}
use Rattle.ft_base.specs.declared.item.Item.{Item}
use Rattle.ft_base.specs.declared.item.Item.TheVariants.{Begin, Return, Enter, Back, BackEnd, Refuse, Miss, Body, Leave, Exit, ExitEnd, Ret}
use Rattle.ft_base.specs.Job.{Job, Func, Task, Spec, funcs, no_func, no_task}
use Rattle.ft_base.specs.Desk.{plain_spec}
use Rattle.ft_base.proofs.Small.{==-refl}
use Rattle.trace_views.specs.Words.{Word, function_word, user_word, pid_at}
use Rattle.trace_views.specs.LogText.{call_word, caller_word, context_word, reason_word, ran_words, answer_words, lane_words}
use Rattle.trace_lines.specs.LogItems.{IsNamedApart, IsCallOf, IsCallerOf, IsRanOf, IsAnswerOf, IsItemOf}
use Rattle.trace_lines.proofs.LogSaid.{said, AreSmall, IsInLaneAlike}
use Rattle.trace_lines.proofs.LogWords.{upto, beyond, upto-at, beyond-at, decimal-free, decimal-first, value-decimal}

-- the place of the first that passes
abbrev find : {X : Type 0} → (X → Bool) → List X → ℕ
find p [] = 0
find p (x ∷ xs) = if p x then 0 else suc (find p xs)

find-is : {X : Type 0} (p : X → Bool) (d : X) (xs : List X) (i : ℕ) → i < length xs → p (get_or xs i d) ≡ true → (find p xs < length xs) × (p (get_or xs (find p xs) d) ≡ true)
find-is p d [] i lt pass = absurd (omega (arith, lt))
find-is p d (x ∷ xs) zero lt pass = rw pass ((let z : 0 < suc (length xs) = omega arith in z), pass)
find-is p d (x ∷ xs) (suc i) lt pass = by (p x) refl (find-is p d xs i (omega arith) pass)
  where
    by : (b : Bool) → p x ≡ b → (find p xs < length xs) × (p (get_or xs (find p xs) d) ≡ true)
        → (cond b 0 (suc (find p xs)) < suc (length xs)) × (p (get_or (x ∷ xs) (cond b 0 (suc (find p xs))) d) ≡ true)
    by true e more = ((let z : 0 < suc (length xs) = omega arith in z), e)
    by false e more = ((let l = more.0 in omega (arith, l)), more.1)

bytes-same : (xs : List ℕ) → bytes_eq xs xs ≡ true
bytes-same xs = (bytes_eq-Decides xs xs).1 refl

-- ## names and numbers

abbrev read_function : Job → Word → FuncNo
read_function job w = record { 0 = find (λ (f : Func). bytes_eq f.name w) job.functions }

abbrev read_user : Job → Word → UserNo
read_user job w = record { 0 = find (λ (u : Spec). bytes_eq u.name w) job.users }

abbrev read_call : Job → Word → CallNo
read_call job w = record { task = record { 0 = find (λ (t : Task). t.pid == digits_value 10 (upto 46 w)) job.tasks }; n = digits_value 10 (beyond 46 w) }

abbrev read_caller : Job → Word → Option CallNo
read_caller job w = if bytes_eq w (codes "-") then None else Some (read_call job w)

module _ (job : Job) (apart : IsNamedApart job) where
  function-again : (f : FuncNo) → f.0 < funcs job → read_function job (function_word job f.0) ≡ f
  function-again f lt =
      let name = function_word job f.0 in
      let found = find-is (λ (x : Func). bytes_eq x.name name) no_func job.functions f.0 lt (bytes-same name) in
      let k = find (λ (x : Func). bytes_eq x.name name) job.functions in
      let same : function_word job k ≡ name = (bytes_eq-Decides (function_word job k) name).0 found.1 in
      let is : k ≡ f.0 = apart.apart_functions k f.0 found.0 lt same in
      rw is refl

  user-again : (u : UserNo) → u.0 < length job.users → read_user job (user_word job u.0) ≡ u
  user-again u lt =
      let name = user_word job u.0 in
      let found = find-is (λ (x : Spec). bytes_eq x.name name) plain_spec job.users u.0 lt (bytes-same name) in
      let k = find (λ (x : Spec). bytes_eq x.name name) job.users in
      let same : user_word job k ≡ name = (bytes_eq-Decides (user_word job k) name).0 found.1 in
      let is : k ≡ u.0 = apart.apart_users k u.0 found.0 lt same in
      rw is refl

  task-again : (t : ℕ) → t < length job.tasks → find (λ (x : Task). x.pid == pid_at job t) job.tasks ≡ t
  task-again t lt =
      let found = find-is (λ (x : Task). x.pid == pid_at job t) no_task job.tasks t lt (==-refl (pid_at job t)) in
      let k = find (λ (x : Task). x.pid == pid_at job t) job.tasks in
      apart.apart_pids k t found.0 lt (eqb-true (pid_at job k) (pid_at job t) found.1)

  call-again : (call : CallNo) → IsCallOf job call → read_call job (call_word job call) ≡ call
  call-again call of =
      let pid = pid_at job call.task.0 in
      let free = decimal-free 46 pid (inl (omega arith)) (apart.pids call.task.0) in
      let first : upto 46 (call_word job call) ≡ decimal pid = upto-at 46 (decimal pid) (decimal call.n) free in
      let second : beyond 46 (call_word job call) ≡ decimal call.n = beyond-at 46 (decimal pid) (decimal call.n) free in
      let task : digits_value 10 (upto 46 (call_word job call)) ≡ pid = ap (λ (w : Word). digits_value 10 w) first ∙ value-decimal pid (apart.pids call.task.0) in
      let n : digits_value 10 (beyond 46 (call_word job call)) ≡ call.n = ap (λ (w : Word). digits_value 10 w) second ∙ value-decimal call.n of.1 in
      same-call task n
    where
      same-call : digits_value 10 (upto 46 (call_word job call)) ≡ pid_at job call.task.0 → digits_value 10 (beyond 46 (call_word job call)) ≡ call.n → read_call job (call_word job call) ≡ call
      same-call a b = rw (a, b, task-again call.task.0 of.0) refl

  caller-again : (caller : Option CallNo) → IsCallerOf job caller → read_caller job (caller_word job caller) ≡ caller
  caller-again None of = refl
  caller-again (Some call) of = rw not_dash (ap (λ (c : CallNo). Some c) (call-again call of))
    where
      not_dash : bytes_eq (call_word job call) (codes "-") ≡ false
      not_dash =
          let d = decimal-first (pid_at job call.task.0) (apart.pids call.task.0) in
          rw d.2 (first d.0 (d.1 ++ (codes "." ++ decimal call.n)) d.3)
        where
          first : (d : ℕ) (ds : List ℕ) → 48 ≤ d → bytes_eq (d ∷ ds) (codes "-") ≡ false
          first d ds le = by (bytes_eq (d ∷ ds) (codes "-")) refl
            where
              by : (b : Bool) → bytes_eq (d ∷ ds) (codes "-") ≡ b → bytes_eq (d ∷ ds) (codes "-") ≡ false
              by false e = e
              by true e =
                  let same : d ∷ ds ≡ codes "-" = (bytes_eq-Decides (d ∷ ds) (codes "-")).0 e in
                  let is : d ≡ 45 = cc in
                  absurd (omega (arith, le, is))

  -- ## the words of an item

  abbrev read_context : Word → Ctx
  read_context w = if bytes_eq w (codes "normal") then Normal else (if bytes_eq w (codes "softirq") then Softirq else (if bytes_eq w (codes "irq") then Irq else Nmi))

  context-again : (x : Ctx) → read_context (context_word x) ≡ x
  context-again Normal = refl
  context-again Softirq = refl
  context-again Irq = refl
  context-again Nmi = refl

  abbrev read_reason : Word → Reason
  read_reason w = if bytes_eq w (codes "pid") then Pid else (if bytes_eq w (codes "recursion") then Recursion else Depth)

  reason-again : (r : Reason) → read_reason (reason_word r) ≡ r
  reason-again Pid = refl
  reason-again Recursion = refl
  reason-again Depth = refl

  abbrev read_ran : List Word → Ran
  read_ran [] = Nop
  read_ran (w ∷ []) = if bytes_eq w (codes "nop") then Nop else ByList
  read_ran (w ∷ u ∷ rest) = Own (read_user job u)

  ran-again : (ran : Ran) → IsRanOf job ran → read_ran (ran_words job ran) ≡ ran
  ran-again Nop of = refl
  ran-again ByList of = refl
  ran-again (Own u) of = ap (λ (v : UserNo). Own v) (user-again u of)

  abbrev read_answer : List Word → Answer
  read_answer [] = Accepted
  read_answer (w ∷ []) = if bytes_eq w (codes "ok") then Accepted else (if bytes_eq w (codes "already") then Already else (if bytes_eq w (codes "not-there") then NotThere else (if bytes_eq w (codes "invalid") then Invalid else NoMatch)))
  read_answer (w ∷ f ∷ []) = Accepted
  read_answer (w ∷ f ∷ u ∷ rest) = Busy (read_function job f) (read_user job u)

  answer-again : (a : Answer) → IsAnswerOf job a → read_answer (answer_words job a) ≡ a
  answer-again Accepted of = refl
  answer-again Already of = refl
  answer-again NotThere of = refl
  answer-again Invalid of = refl
  answer-again NoMatch of = refl
  answer-again (Busy f u) of = rw (function-again f of.0, user-again u of.1) refl

  -- an item by its first word and the others
  abbrev read_number : Word → ℕ
  read_number w = digits_value 10 w

  abbrev read_rest : Word → List Word → Item
  read_rest w [] = Begin 0
  read_rest w (a ∷ []) = if bytes_eq w (codes "begin") then Begin (read_number a) else Leave (read_call job a)
  read_rest w (a ∷ b ∷ []) =
      if bytes_eq w (codes "return") then Return (read_number a) (read_answer (b ∷ []))
      else (if bytes_eq w (codes "back") then Back (read_call job a) (read_user job b)
      else (if bytes_eq w (codes "back-end") then BackEnd (read_call job a) (read_user job b)
      else (if bytes_eq w (codes "miss") then Miss (read_call job a) (read_user job b)
      else (if bytes_eq w (codes "exit-end") then ExitEnd (read_call job a) (read_user job b)
      else Ret (read_call job a) (read_caller job b)))))
  read_rest w (a ∷ b ∷ c ∷ []) =
      if bytes_eq w (codes "begin") then Begin (read_number a)
      else (if bytes_eq w (codes "refuse") then Refuse (read_call job a) (read_user job b) (read_reason c)
      else (if bytes_eq w (codes "exit") then Exit (read_call job a) (read_user job b) (read_number c)
      else Body (read_call job a) (read_function job b) (read_ran (c ∷ []))))
  read_rest w (a ∷ b ∷ c ∷ d ∷ []) =
      if bytes_eq w (codes "enter") then Enter (read_call job a) (read_context b) (read_function job c) (read_caller job d)
      else (if bytes_eq w (codes "return") then Return (read_number a) (read_answer (b ∷ c ∷ d ∷ []))
      else Body (read_call job a) (read_function job b) (read_ran (c ∷ d ∷ [])))
  read_rest w (a ∷ b ∷ c ∷ d ∷ e ∷ rest) = Begin 0

  abbrev read_item : List Word → Item
  read_item [] = Begin 0
  read_item (w ∷ rest) = read_rest w rest

  begin-again : (k : ℕ) (lane : Option ℕ) → k < 2 ^ 64 → read_item (codes "begin" ∷ decimal k ∷ lane_words lane) ≡ Begin k
  begin-again k None of = rw (value-decimal k of) refl
  begin-again k (Some lane) of = rw (value-decimal k of) refl

  module _ (lanes : ℕ → Option ℕ) where
    item-again : (item : Item) → IsItemOf job item → read_item (said job lanes item) ≡ item
    item-again (Begin k) of = begin-again k (lanes k) of
    item-again (Return k Accepted) of = rw (value-decimal k of.0) refl
    item-again (Return k Already) of = rw (value-decimal k of.0) refl
    item-again (Return k NotThere) of = rw (value-decimal k of.0) refl
    item-again (Return k Invalid) of = rw (value-decimal k of.0) refl
    item-again (Return k NoMatch) of = rw (value-decimal k of.0) refl
    item-again (Return k (Busy f u)) of = rw (value-decimal k of.0, function-again f of.1.0, user-again u of.1.1) refl
    item-again (Enter call ctx f caller) of = rw (call-again call of.0, context-again ctx, function-again f of.1, caller-again caller of.2) refl
    item-again (Back call u) of = rw (call-again call of.0, user-again u of.1) refl
    item-again (BackEnd call u) of = rw (call-again call of.0, user-again u of.1) refl
    item-again (Refuse call u reason) of = rw (call-again call of.0, user-again u of.1, reason-again reason) refl
    item-again (Miss call u) of = rw (call-again call of.0, user-again u of.1) refl
    item-again (Body call g Nop) of = rw (call-again call of.0, function-again g of.1) refl
    item-again (Body call g ByList) of = rw (call-again call of.0, function-again g of.1) refl
    item-again (Body call g (Own u)) of = rw (call-again call of.0, function-again g of.1, user-again u of.2) refl
    item-again (Leave call) of = rw (call-again call of) refl
    item-again (Exit call u entry) of = rw (call-again call of.0, user-again u of.1, value-decimal entry of.2) refl
    item-again (ExitEnd call u) of = rw (call-again call of.0, user-again u of.1) refl
    item-again (Ret call to) of = rw (call-again call of.0, caller-again to of.1) refl

  -- so equal words come from equal items
  pub same-item : (ls ms : ℕ → Option ℕ) (i j : Item) → IsItemOf job i → IsItemOf job j → said job ls i ≡ said job ms j → i ≡ j
  same-item ls ms i j a b e = sym (item-again ls i a) ∙ ap (λ (ws : List Word). read_item ws) e ∙ item-again ms j b

  -- ## the lanes of commands

  abbrev read_lane : List Word → Option ℕ
  read_lane (w ∷ k ∷ word ∷ lane ∷ rest) = Some (digits_value 10 lane)
  read_lane _ = None

  lane-again : (k : ℕ) (lane : Option ℕ) → IfSome lane (λ n. n < 2 ^ 64) → read_lane (codes "begin" ∷ decimal k ∷ lane_words lane) ≡ lane
  lane-again k None small = refl
  lane-again k (Some lane) small = ap (λ (n : ℕ). Some n) (value-decimal lane small)

  -- so equal words come from equal lanes
  pub same-lane : (ls ms : ℕ → Option ℕ) (item : Item) → AreSmall ls → AreSmall ms → said job ls item ≡ said job ms item → IsInLaneAlike ls ms item
  same-lane ls ms (Begin k) a b e = sym (lane-again k (ls k) (a k)) ∙ ap (λ (ws : List Word). read_lane ws) e ∙ lane-again k (ms k) (b k)
  same-lane ls ms _ a b e = tt
