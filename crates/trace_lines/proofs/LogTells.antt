-- The log tells its history: equal texts come from equal histories and equal ends.
use Rattle.std.proofs.Common.{◌≡◌, ℕ, suc, ◌+◌, ◌<◌, ◌≤◌, ◌^◌, Bool, true, false, List, [], ◌∷◌, ◌++◌, length, Option, Some, None, refl, sym, ap, ◌∙◌, subst, arith, append_assoc}
use Rattle.std.proofs.lemmas.List.Elements.{All-from_recursion, All-contains}
use Rattle.std.specs.Prelude.{IfSome}
use Rattle.std.specs.Fmt.{decimal}
use Rattle.std.specs.List.{AllByRecursion as Each}
use Rattle.ft_base.specs.declared.number.CallNo.{CallNo}
use Rattle.ft_base.specs.declared.context.Ctx.{Ctx}
use Rattle.ft_base.specs.declared.context.Ctx.TheVariants.{Normal, Softirq, Irq, Nmi}
use Rattle.ft_base.specs.declared.item.Reason.{Reason}
use Rattle.ft_base.specs.declared.item.Reason.TheVariants.{Pid, Recursion, Depth}
use Rattle.ft_base.specs.declared.item.Ran.{Ran}
use Rattle.ft_base.specs.declared.item.Ran.TheVariants.{Nop, List as ByList, Own}
use Rattle.ft_base.specs.declared.item.Answer.{Answer}
use Rattle.ft_base.specs.declared.item.Answer.TheVariants.{Accepted, Already, NotThere, Invalid, NoMatch, Busy}
use Rattle.ft_base.specs.declared.item.Item.{Item}
use Rattle.ft_base.specs.declared.item.Item.TheVariants.{Begin, Return, Enter, Back, BackEnd, Refuse, Miss, Body, Leave, Exit, ExitEnd, Ret}
use Rattle.ft_base.specs.Job.{Job, funcs}
use Rattle.ft_base.proofs.Small.{Each-weaker}
use Rattle.trace_views.specs.Words.{Word, function_word, user_word, pid_at, lane_at, last_line}
use Rattle.trace_views.specs.LogText.{call_word, caller_word, context_word, reason_word, ran_words, answer_words, lane_words, joined, log_text}
use Rattle.trace_lines.specs.LogItems.{IsNamedApart, AreNamedAlike, AreInLanesAlike, IsCallOf, IsCallerOf, IsRanOf, IsAnswerOf, IsItemOf}
use Rattle.trace_lines.proofs.LogWords.{IsWord, Free, Free-append, Free-joined, same-upto, same-joined, decimal-word, decimal-first, name-word}
use Rattle.trace_lines.proofs.LogReads.{same-item, same-lane}
use Rattle.trace_lines.proofs.LogSaid.{said, line_said, lines_said, AreSmall, IsInLaneAlike, lanes-of, named-is, log-said}

module _ (job : Job) (apart : IsNamedApart job) where
  call-is-word : (call : CallNo) → IsCallOf job call → IsWord (call_word job call)
  call-is-word call of =
      let pid = decimal-word (pid_at job call.task.0) (apart.pids call.task.0) in
      let n = decimal-word call.n of.1 in
      (Free-append 32 (decimal (pid_at job call.task.0)) (46 ∷ decimal call.n) pid.0 n.0, Free-append 10 (decimal (pid_at job call.task.0)) (46 ∷ decimal call.n) pid.1 n.1)

  caller-is-word : (caller : Option CallNo) → IsCallerOf job caller → IsWord (caller_word job caller)
  caller-is-word None of = (refl, refl)
  caller-is-word (Some call) of = call-is-word call of

  context-is-word : (x : Ctx) → IsWord (context_word x)
  context-is-word Normal = (refl, refl)
  context-is-word Softirq = (refl, refl)
  context-is-word Irq = (refl, refl)
  context-is-word Nmi = (refl, refl)

  reason-is-word : (r : Reason) → IsWord (reason_word r)
  reason-is-word Pid = (refl, refl)
  reason-is-word Recursion = (refl, refl)
  reason-is-word Depth = (refl, refl)

  user-is-word : (u : ℕ) → u < length job.users → IsWord (user_word job u)
  user-is-word u lt = name-word (user_word job u) (apart.users u lt)

  function-is-word : (f : ℕ) → f < funcs job → IsWord (function_word job f)
  function-is-word f lt = name-word (function_word job f) (apart.functions f lt)

  ran-are-words : (ran : Ran) → IsRanOf job ran → Each IsWord (ran_words job ran)
  ran-are-words Nop of = ((refl, refl), tt)
  ran-are-words ByList of = ((refl, refl), tt)
  ran-are-words (Own u) of = ((refl, refl), (user-is-word u.0 of, tt))

  answer-are-words : (a : Answer) → IsAnswerOf job a → Each IsWord (answer_words job a)
  answer-are-words Accepted of = ((refl, refl), tt)
  answer-are-words Already of = ((refl, refl), tt)
  answer-are-words NotThere of = ((refl, refl), tt)
  answer-are-words Invalid of = ((refl, refl), tt)
  answer-are-words NoMatch of = ((refl, refl), tt)
  answer-are-words (Busy f u) of = ((refl, refl), (function-is-word f.0 of.0, (user-is-word u.0 of.1, tt)))

  lane-are-words : (lane : Option ℕ) → IfSome lane (λ n. n < 2 ^ 64) → Each IsWord (lane_words lane)
  lane-are-words None small = tt
  lane-are-words (Some n) small = ((refl, refl), (decimal-word n small, tt))

  -- the last line begins with no digit
  last-split : (x : Bool) → (d : ℕ) × (ds : List ℕ) × (last_line x ≡ (d ∷ ds) ++ 10 ∷ []) × Free 10 (d ∷ ds) × (57 < d)
  last-split true = (101, 110 ∷ 100 ∷ [], refl, refl, omega arith)
  last-split false = (115, 116 ∷ 111 ∷ 112 ∷ 112 ∷ 101 ∷ 100 ∷ [], refl, refl, omega arith)

  first-byte : (p : ℕ) (ws : List Word) (d : ℕ) (ds : List ℕ) → p < 2 ^ 64 → d ∷ ds ≡ joined (decimal p ∷ ws) → d ≤ 57
  first-byte p ws d ds lt e = by (decimal-first p lt) ws e
    where
      by : (f : (d : ℕ) × (ds : List ℕ) × (decimal p ≡ d ∷ ds) × (48 ≤ d) × (d ≤ 57)) (vs : List Word) → d ∷ ds ≡ joined (decimal p ∷ vs) → d ≤ 57
      by f [] q = let same : d ∷ ds ≡ f.0 ∷ f.1 = q ∙ f.2 in let is : d ≡ f.0 = cc in (let h = f.4 in omega (arith, is, h))
      by f (v ∷ vs) q = let same : d ∷ ds ≡ f.0 ∷ (f.1 ++ 32 ∷ joined (v ∷ vs)) = q ∙ ap (λ (w : Word). w ++ 32 ∷ joined (v ∷ vs)) f.2 in let is : d ≡ f.0 = cc in (let h = f.4 in omega (arith, is, h))

  module _ (lanes : ℕ → Option ℕ) (small : AreSmall lanes) where
    are-words : (item : Item) → IsItemOf job item → Each IsWord (said job lanes item)
    are-words (Begin k) of = ((refl, refl), (decimal-word k of, lane-are-words (lanes k) (small k)))
    are-words (Return k a) of = ((refl, refl), (decimal-word k of.0, answer-are-words a of.1))
    are-words (Enter call ctx f caller) of = ((refl, refl), (call-is-word call of.0, (context-is-word ctx, (function-is-word f.0 of.1, (caller-is-word caller of.2, tt)))))
    are-words (Back call u) of = ((refl, refl), (call-is-word call of.0, (user-is-word u.0 of.1, tt)))
    are-words (BackEnd call u) of = ((refl, refl), (call-is-word call of.0, (user-is-word u.0 of.1, tt)))
    are-words (Refuse call u reason) of = ((refl, refl), (call-is-word call of.0, (user-is-word u.0 of.1, (reason-is-word reason, tt))))
    are-words (Miss call u) of = ((refl, refl), (call-is-word call of.0, (user-is-word u.0 of.1, tt)))
    are-words (Body call g ran) of = ((refl, refl), (call-is-word call of.0, (function-is-word g.0 of.1, ran-are-words ran of.2)))
    are-words (Leave call) of = ((refl, refl), (call-is-word call of, tt))
    are-words (Exit call u entry) of = ((refl, refl), (call-is-word call of.0, (user-is-word u.0 of.1, (decimal-word entry of.2, tt))))
    are-words (ExitEnd call u) of = ((refl, refl), (call-is-word call of.0, (user-is-word u.0 of.1, tt)))
    are-words (Ret call to) of = ((refl, refl), (call-is-word call of.0, (caller-is-word to of.1, tt)))

    pub line-words : (p : ℕ) (item : Item) → p < 2 ^ 64 → IsItemOf job item → Each IsWord (decimal p ∷ said job lanes item)
    line-words p item lt of = (decimal-word p lt, are-words item of)

    -- a line and the rest
    line-split : (p : ℕ) (item : Item) (rest : List ℕ) → line_said job lanes p item ++ rest ≡ joined (decimal p ∷ said job lanes item) ++ 10 ∷ rest
    line-split p item rest = append_assoc (joined (decimal p ∷ said job lanes item)) (10 ∷ []) rest

    -- the line of an item doesn't begin as the last line does
    last-apart : (x : Bool) (p : ℕ) (item : Item) (rest : List ℕ) → p < 2 ^ 64 → IsItemOf job item → last_line x ≡ line_said job lanes p item ++ rest → ⊥
    last-apart x p item rest lt of e =
        let l = last-split x in
        let both = same-upto 10 (l.0 ∷ l.1) (joined (decimal p ∷ said job lanes item)) [] rest l.3 (Free-joined (decimal p ∷ said job lanes item) (line-words p item lt of)) (sym l.2 ∙ e ∙ line-split p item rest) in
        let low = first-byte p (said job lanes item) l.0 l.1 lt both.0 in
        let high = l.4 in
        absurd (omega (arith, low, high))

  same-end : (x y : Bool) → last_line x ≡ last_line y → x ≡ y
  same-end true true e = refl
  same-end false false e = refl
  same-end true false e = absurd cc
  same-end false true e = absurd cc

  module _ (ls ms : ℕ → Option ℕ) (small : AreSmall ls) (small' : AreSmall ms) where
    -- two lines tell their items, and the lanes
    same-line : (p : ℕ) (i j : Item) (more more' : List ℕ) → p < 2 ^ 64 → IsItemOf job i → IsItemOf job j
        → line_said job ls p i ++ more ≡ line_said job ms p j ++ more' → (i ≡ j) × IsInLaneAlike ls ms i × (more ≡ more')
    same-line p i j more more' lt oi oj e =
        let wi = line-words ls small p i lt oi in
        let wj = line-words ms small' p j lt oj in
        let split = sym (line-split ls small p i more) ∙ e ∙ line-split ms small' p j more' in
        let both = same-upto 10 (joined (decimal p ∷ said job ls i)) (joined (decimal p ∷ said job ms j)) more more' (Free-joined (decimal p ∷ said job ls i) wi) (Free-joined (decimal p ∷ said job ms j) wj) split in
        let words = same-joined (decimal p ∷ said job ls i) (decimal p ∷ said job ms j) wi wj (omega arith) (omega arith) both.0 in
        let own : said job ls i ≡ said job ms j = ap (λ (ws : List Word). rest_of ws) words in
        let item = same-item job apart ls ms i j oi oj own in
        (item, same-lane job apart ls ms i small small' (own ∙ ap (λ (x : Item). said job ms x) (sym item)), both.1)
      where
        rest_of : List Word → List Word
        rest_of [] = []
        rest_of (w ∷ ws) = ws

    pub same-lines : (a b : List Item) (p : ℕ) (x y : Bool) → Each (IsItemOf job) a → Each (IsItemOf job) b → p + length a < 2 ^ 64 → p + length b < 2 ^ 64
        → lines_said job ls p a ++ last_line x ≡ lines_said job ms p b ++ last_line y → (a ≡ b) × (x ≡ y) × Each (IsInLaneAlike ls ms) a
    same-lines [] [] p x y oa ob la lb e = (refl, same-end x y e, tt)
    same-lines [] (j ∷ b) p x y oa ob la lb e = absurd (last-apart ms small' x p j (lines_said job ms (suc p) b ++ last_line y) (omega (arith, lb)) ob.0 (e ∙ append_assoc (line_said job ms p j) (lines_said job ms (suc p) b) (last_line y)))
    same-lines (i ∷ a) [] p x y oa ob la lb e = absurd (last-apart ls small y p i (lines_said job ls (suc p) a ++ last_line x) (omega (arith, la)) oa.0 (sym e ∙ append_assoc (line_said job ls p i) (lines_said job ls (suc p) a) (last_line x)))
    same-lines (i ∷ a) (j ∷ b) p x y oa ob la lb e =
        let split = sym (append_assoc (line_said job ls p i) (lines_said job ls (suc p) a) (last_line x)) ∙ e ∙ append_assoc (line_said job ms p j) (lines_said job ms (suc p) b) (last_line y) in
        let first = same-line p i j (lines_said job ls (suc p) a ++ last_line x) (lines_said job ms (suc p) b ++ last_line y) (omega (arith, la)) oa.0 ob.0 split in
        let rest = same-lines a b (suc p) x y oa.1 ob.1 (omega (arith, la)) (omega (arith, lb)) first.2 in
        (ap (λ (z : Item). z ∷ a) first.0 ∙ ap (λ (zs : List Item). j ∷ zs) rest.0, rest.1, (first.1, rest.2))

itself : (job : Job) → AreNamedAlike job job
itself job = record { functions = refl; users = refl; tasks = refl }

-- jobs that are named alike have equal logs only for equal histories, with the same lanes
same-logs : (job other : Job) (a b : List Item) (x y : Bool) → AreNamedAlike job other → IsNamedApart job → Each (λ lane. lane < 2 ^ 64) other.lines.lanes
    → Each (IsItemOf job) a → Each (IsItemOf job) b → length a < 2 ^ 64 → length b < 2 ^ 64
    → log_text job a x ≡ log_text other b y → (a ≡ b) × (x ≡ y) × Each (IsInLaneAlike (lane_at job) (lane_at other)) a
same-logs job other a b x y alike apart small oa ob la lb e =
    same-lines job apart (lane_at job) (lane_at other) (lanes-of job apart.lanes) (lanes-of other small) a b 0 x y oa ob (omega (arith, la)) (omega (arith, lb))
    (sym (log-said job job (itself job) a x) ∙ e ∙ log-said job other alike b y)

pub same-text : (job : Job) → IsNamedApart job → (a b : List Item) (x y : Bool) → Each (IsItemOf job) a → Each (IsItemOf job) b → length a < 2 ^ 64 → length b < 2 ^ 64
    → log_text job a x ≡ log_text job b y → (a ≡ b) × (x ≡ y)
same-text job apart a b x y oa ob la lb e = let all = same-logs job job a b x y (itself job) apart apart.lanes oa ob la lb e in (all.0, all.1)

-- an item of the one is one of the other
item-of : (job other : Job) → AreNamedAlike job other → (item : Item) → IsItemOf other item → IsItemOf job item
item-of job other alike item of = subst (λ (j : Job). IsItemOf j item) (named-is job other alike) of

pub same-lanes : (job other : Job) (a b : List Item) (x y : Bool) → AreNamedAlike job other → IsNamedApart job → IsNamedApart other
    → Each (IsItemOf job) a → Each (IsItemOf other) b → length a < 2 ^ 64 → length b < 2 ^ 64
    → log_text job a x ≡ log_text other b y → (a ≡ b) × (x ≡ y) × AreInLanesAlike job other a
same-lanes job other a b x y alike apart apart' oa ob la lb e =
    let all = same-logs job other a b x y alike apart apart'.lanes oa (Each-weaker (IsItemOf other) (IsItemOf job) b (item-of job other alike) ob) la lb e in
    (all.0, all.1, λ k in_a. All-contains (IsInLaneAlike (lane_at job) (lane_at other)) a (Begin k) (All-from_recursion (IsInLaneAlike (lane_at job) (lane_at other)) a all.2) in_a)
