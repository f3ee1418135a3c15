-- From the line of an item this item is read again.
use Rattle.std.proofs.Common.{◌≡◌, ◌<◌, ◌≤◌, ◌^◌, ℕ, Bool, true, false, List, [], ◌∷◌, ◌++◌, codes, Option, Some, None, refl, ap, ◌∙◌, arith, inl}
use Rattle.std.specs.Fmt.{decimal}
use Rattle.std.specs.List.{AllByRecursion as Each}
use Rattle.std.specs.Str.{bytes_eq}
use Rattle.std.proofs.lemmas.Slice.Eq.{bytes_eq-Decides}
use Rattle.ft_base.specs.declared.number.CallNo.{CallNo}
use Rattle.ft_base.specs.declared.context.Ctx.{Ctx}
use Rattle.ft_base.specs.declared.context.Ctx.TheVariants.{Normal, Softirq, Irq, Nmi}
use Rattle.ft_base.specs.declared.item.Reason.{Reason}
use Rattle.ft_base.specs.declared.item.Reason.TheVariants.{Pid, Recursion, Depth}
use Rattle.ft_base.specs.declared.item.Ran.TheVariants.{Nop, List as ByList, Own}
use Rattle.ft_base.specs.declared.item.Answer.TheVariants.{Accepted, Already, NotThere, Invalid, NoMatch, Busy}
use Rattle.ft_base.specs.declared.item.Item.{Item}
use Rattle.ft_base.specs.declared.item.Item.TheVariants.{Begin, Return, Enter, Back, BackEnd, Refuse, Miss, Body, Leave, Exit, ExitEnd, Ret}
use Rattle.ft_base.specs.Job.{Job}
use Rattle.trace_views.specs.Words.{Word, function_word, user_word, pid_at, lane_at}
use Rattle.trace_views.specs.LogText.{call_word, caller_word, context_word, reason_word, lane_words, item_words, joined}
use Rattle.trace_lines.specs.LogItems.{IsNamedApart, IsCallOf, IsCallerOf, IsItemOf}
use Rattle.trace_lines.proofs.LogWords.{decimal-free, decimal-first}
use Rattle.log_reader.specs.Lookups.{Lookups, AreLookupsOf}
use Rattle.log_reader.specs.Refused.{IsShort, IsCallShort, IsCallerShort, IsNumbered}
use Rattle.log_reader.specs.Reading.{before, after, context_in, reason_in, call_in, caller_in, ran_in, answer_in, call_item, words_item, item_in, kind_item}
use Rattle.log_reader.proofs.Cuts.{before-at, after-at, before-all, after-all}
use Rattle.log_reader.proofs.LineBytes.{IsGraphic, no-space}
use Rattle.log_reader.proofs.NumberWords.{number-again}
use Rattle.log_reader.proofs.FoundAgain.{function-again, user-again, task-again}
use Rattle.log_reader.proofs.ItemWords.{line-graphic}

-- ## the words of a line

pub first-word : (w : Word) (ws : List Word) → IsGraphic w → before 32 (joined (w ∷ ws)) ≡ w
first-word w [] h = before-all 32 w (no-space w h)
first-word w (v ∷ ws) h = before-at 32 w (joined (v ∷ ws)) (no-space w h)

pub later-words : (w : Word) (ws : List Word) → IsGraphic w → after 32 (joined (w ∷ ws)) ≡ joined ws
later-words w [] h = after-all 32 w (no-space w h)
later-words w (v ∷ ws) h = after-at 32 w (joined (v ∷ ws)) (no-space w h)

pub no-words_before : before 32 [] ≡ []
no-words_before = before-all 32 [] refl

pub no-words_after : after 32 [] ≡ []
no-words_after = after-all 32 [] refl

module _ (find : Lookups) where
  after-kind : (place kind : Word) (ws : List Word) → IsGraphic place → IsGraphic kind → item_in find (joined (place ∷ kind ∷ ws)) ≡ kind_item find kind (joined ws)
  unfolding item_in
  after-kind place kind ws p k =
      ap (λ (rest : List ℕ). kind_item find (before 32 rest) (after 32 rest)) (later-words place (kind ∷ ws) p)
      ∙ ap (λ (w : Word). kind_item find w (after 32 (joined (kind ∷ ws)))) (first-word kind ws k)
      ∙ ap (λ (rest : List ℕ). kind_item find kind rest) (later-words kind ws k)

  one-word : (kind a : Word) → IsGraphic a → kind_item find kind (joined (a ∷ [])) ≡ words_item find kind a [] [] []
  one-word kind a h = rw (later-words a [] h, first-word a [] h, no-words_after, no-words_after, no-words_before) refl

  two-words : (kind a b : Word) → IsGraphic a → IsGraphic b → kind_item find kind (joined (a ∷ b ∷ [])) ≡ words_item find kind a b [] []
  two-words kind a b h i = rw (later-words a (b ∷ []) h, first-word a (b ∷ []) h, later-words b [] i, first-word b [] i, no-words_after, no-words_before) refl

  three-words : (kind a b c : Word) → IsGraphic a → IsGraphic b → IsGraphic c → kind_item find kind (joined (a ∷ b ∷ c ∷ [])) ≡ words_item find kind a b c []
  three-words kind a b c h i j = rw (later-words a (b ∷ c ∷ []) h, first-word a (b ∷ c ∷ []) h, later-words b (c ∷ []) i, first-word b (c ∷ []) i, later-words c [] j, first-word c [] j) refl

  four-words : (kind a b c d : Word) → IsGraphic a → IsGraphic b → IsGraphic c → kind_item find kind (joined (a ∷ b ∷ c ∷ d ∷ [])) ≡ words_item find kind a b c d
  four-words kind a b c d h i j = rw (later-words a (b ∷ c ∷ d ∷ []) h, first-word a (b ∷ c ∷ d ∷ []) h, later-words b (c ∷ d ∷ []) i, first-word b (c ∷ d ∷ []) i, later-words c (d ∷ []) j, first-word c (d ∷ []) j) refl

-- ## what they say

context-again : (x : Ctx) → context_in (context_word x) ≡ Some x
unfolding context_in
context-again Normal = refl
context-again Softirq = refl
context-again Irq = refl
context-again Nmi = refl

reason-again : (r : Reason) → reason_in (reason_word r) ≡ Some r
unfolding reason_in
reason-again Pid = refl
reason-again Recursion = refl
reason-again Depth = refl

module _ (job : Job) (find : Lookups) (known : AreLookupsOf job find) (apart : IsNamedApart job) where
  call-again : (call : CallNo) → IsCallOf job call → IsCallShort call → call_in find (call_word job call) ≡ Some call
  unfolding call_in
  call-again call of short =
      let pid = pid_at job call.task.0 in
      let free = decimal-free 46 pid (inl (omega arith)) (apart.pids call.task.0) in
      let first : before 46 (call_word job call) ≡ decimal pid = before-at 46 (decimal pid) (decimal call.n) free in
      let second : after 46 (call_word job call) ≡ decimal call.n = after-at 46 (decimal pid) (decimal call.n) free in
      let task : find.task pid ≡ Some call.task = task-again job find known apart call.task of.0 in
      rw (first, second, number-again pid (known.pids call.task.0 of.0), task, number-again call.n short) refl

  caller-again : (caller : Option CallNo) → IsCallerOf job caller → IsCallerShort caller → caller_in find (caller_word job caller) ≡ Some caller
  unfolding caller_in
  caller-again None of short = refl
  caller-again (Some call) of short = rw (not_dash, call-again call of short) refl
    where
      first : (d : ℕ) (ds : List ℕ) → 48 ≤ d → bytes_eq (d ∷ ds) (codes "-") ≡ false
      first d ds le = by (bytes_eq (d ∷ ds) (codes "-")) refl
        where
          by : (b : Bool) → bytes_eq (d ∷ ds) (codes "-") ≡ b → bytes_eq (d ∷ ds) (codes "-") ≡ false
          by false e = e
          by true e =
              let same : d ∷ ds ≡ codes "-" = (bytes_eq-Decides (d ∷ ds) (codes "-")).0 e in
              let is : d ≡ 45 = cc in
              absurd (omega (arith, le, is))

      not_dash : bytes_eq (call_word job call) (codes "-") ≡ false
      not_dash =
          let d = decimal-first (pid_at job call.task.0) (apart.pids call.task.0) in
          rw d.2 (first d.0 (d.1 ++ (codes "." ++ decimal call.n)) d.3)

  -- the item of its words after the place
  said-again : (item : Item) → IsItemOf job item → IsShort item → Each IsGraphic (item_words job item) → (place : Word) → IsGraphic place
      → item_in find (joined (place ∷ item_words job item)) ≡ Some item
  unfolding words_item call_item answer_in ran_in
  said-again (Begin k) of short g place p = begins (lane_at job k) (g.1.1) ∙ begun
    where
      begun : words_item find (codes "begin") (decimal k) [] [] [] ≡ Some (Begin k)
      begun = rw (number-again k short) refl

      begins : (lane : Option ℕ) → Each IsGraphic (lane_words lane)
          → item_in find (joined (place ∷ codes "begin" ∷ decimal k ∷ lane_words lane)) ≡ words_item find (codes "begin") (decimal k) [] [] []
      begins None h = after-kind find place (codes "begin") (decimal k ∷ []) p refl ∙ one-word find (codes "begin") (decimal k) g.1.0
      begins (Some n) h = after-kind find place (codes "begin") (decimal k ∷ codes "lane" ∷ decimal n ∷ []) p refl
          ∙ three-words find (codes "begin") (decimal k) (codes "lane") (decimal n) g.1.0 refl h.1.0
          ∙ rw (number-again k short) refl
  said-again (Return k Accepted) of short g place p =
      after-kind find place (codes "return") (decimal k ∷ codes "ok" ∷ []) p refl ∙ two-words find (codes "return") (decimal k) (codes "ok") g.1.0 refl ∙ rw (number-again k short) refl
  said-again (Return k Already) of short g place p =
      after-kind find place (codes "return") (decimal k ∷ codes "already" ∷ []) p refl ∙ two-words find (codes "return") (decimal k) (codes "already") g.1.0 refl ∙ rw (number-again k short) refl
  said-again (Return k NotThere) of short g place p =
      after-kind find place (codes "return") (decimal k ∷ codes "not-there" ∷ []) p refl ∙ two-words find (codes "return") (decimal k) (codes "not-there") g.1.0 refl ∙ rw (number-again k short) refl
  said-again (Return k Invalid) of short g place p =
      after-kind find place (codes "return") (decimal k ∷ codes "invalid" ∷ []) p refl ∙ two-words find (codes "return") (decimal k) (codes "invalid") g.1.0 refl ∙ rw (number-again k short) refl
  said-again (Return k NoMatch) of short g place p =
      after-kind find place (codes "return") (decimal k ∷ codes "no-match" ∷ []) p refl ∙ two-words find (codes "return") (decimal k) (codes "no-match") g.1.0 refl ∙ rw (number-again k short) refl
  said-again (Return k (Busy f u)) of short g place p =
      after-kind find place (codes "return") (decimal k ∷ codes "busy" ∷ function_word job f.0 ∷ user_word job u.0 ∷ []) p refl
      ∙ four-words find (codes "return") (decimal k) (codes "busy") (function_word job f.0) (user_word job u.0) g.1.0 refl g.1.1.1.0
      ∙ rw (number-again k short, function-again job find known apart f of.1.0, user-again job find known apart u of.1.1) refl
  said-again (Enter call ctx f caller) of short g place p =
      after-kind find place (codes "enter") (call_word job call ∷ context_word ctx ∷ function_word job f.0 ∷ caller_word job caller ∷ []) p refl
      ∙ four-words find (codes "enter") (call_word job call) (context_word ctx) (function_word job f.0) (caller_word job caller) g.1.0 g.1.1.0 g.1.1.1.0
      ∙ rw (call-again call of.0 short.0, context-again ctx, function-again job find known apart f of.1, caller-again caller of.2 short.1) refl
  said-again (Back call u) of short g place p =
      after-kind find place (codes "back") (call_word job call ∷ user_word job u.0 ∷ []) p refl
      ∙ two-words find (codes "back") (call_word job call) (user_word job u.0) g.1.0 g.1.1.0
      ∙ rw (call-again call of.0 short, user-again job find known apart u of.1) refl
  said-again (BackEnd call u) of short g place p =
      after-kind find place (codes "back-end") (call_word job call ∷ user_word job u.0 ∷ []) p refl
      ∙ two-words find (codes "back-end") (call_word job call) (user_word job u.0) g.1.0 g.1.1.0
      ∙ rw (call-again call of.0 short, user-again job find known apart u of.1) refl
  said-again (Refuse call u reason) of short g place p =
      after-kind find place (codes "refuse") (call_word job call ∷ user_word job u.0 ∷ reason_word reason ∷ []) p refl
      ∙ three-words find (codes "refuse") (call_word job call) (user_word job u.0) (reason_word reason) g.1.0 g.1.1.0 g.1.1.1.0
      ∙ rw (call-again call of.0 short, user-again job find known apart u of.1, reason-again reason) refl
  said-again (Miss call u) of short g place p =
      after-kind find place (codes "miss") (call_word job call ∷ user_word job u.0 ∷ []) p refl
      ∙ two-words find (codes "miss") (call_word job call) (user_word job u.0) g.1.0 g.1.1.0
      ∙ rw (call-again call of.0 short, user-again job find known apart u of.1) refl
  said-again (Body call f Nop) of short g place p =
      after-kind find place (codes "body") (call_word job call ∷ function_word job f.0 ∷ codes "nop" ∷ []) p refl
      ∙ three-words find (codes "body") (call_word job call) (function_word job f.0) (codes "nop") g.1.0 g.1.1.0 refl
      ∙ rw (call-again call of.0 short, function-again job find known apart f of.1) refl
  said-again (Body call f ByList) of short g place p =
      after-kind find place (codes "body") (call_word job call ∷ function_word job f.0 ∷ codes "list" ∷ []) p refl
      ∙ three-words find (codes "body") (call_word job call) (function_word job f.0) (codes "list") g.1.0 g.1.1.0 refl
      ∙ rw (call-again call of.0 short, function-again job find known apart f of.1) refl
  said-again (Body call f (Own u)) of short g place p =
      after-kind find place (codes "body") (call_word job call ∷ function_word job f.0 ∷ codes "own" ∷ user_word job u.0 ∷ []) p refl
      ∙ four-words find (codes "body") (call_word job call) (function_word job f.0) (codes "own") (user_word job u.0) g.1.0 g.1.1.0 refl
      ∙ rw (call-again call of.0 short, function-again job find known apart f of.1, user-again job find known apart u of.2) refl
  said-again (Leave call) of short g place p =
      after-kind find place (codes "leave") (call_word job call ∷ []) p refl
      ∙ one-word find (codes "leave") (call_word job call) g.1.0
      ∙ rw (call-again call of short) refl
  said-again (Exit call u entry) of short g place p =
      after-kind find place (codes "exit") (call_word job call ∷ user_word job u.0 ∷ decimal entry ∷ []) p refl
      ∙ three-words find (codes "exit") (call_word job call) (user_word job u.0) (decimal entry) g.1.0 g.1.1.0 g.1.1.1.0
      ∙ rw (call-again call of.0 short.0, user-again job find known apart u of.1, number-again entry short.1) refl
  said-again (ExitEnd call u) of short g place p =
      after-kind find place (codes "exit-end") (call_word job call ∷ user_word job u.0 ∷ []) p refl
      ∙ two-words find (codes "exit-end") (call_word job call) (user_word job u.0) g.1.0 g.1.1.0
      ∙ rw (call-again call of.0 short, user-again job find known apart u of.1) refl
  said-again (Ret call to) of short g place p =
      after-kind find place (codes "ret") (call_word job call ∷ caller_word job to ∷ []) p refl
      ∙ two-words find (codes "ret") (call_word job call) (caller_word job to) g.1.0 g.1.1.0
      ∙ rw (call-again call of.0 short.0, caller-again to of.1 short.1) refl

  -- the item of its line, without the line feed
  pub item-again : (place : ℕ) (item : Item) → place < 2 ^ 64 → IsNumbered job item → item_in find (joined (decimal place ∷ item_words job item)) ≡ Some item
  item-again place item lt numbered =
      let g = line-graphic job apart place item lt numbered.of_job in
      said-again item numbered.of_job numbered.short g.1 (decimal place) g.0
