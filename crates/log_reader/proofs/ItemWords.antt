-- The words of an item of the job have no byte but those of words.
use Rattle.std.proofs.Common.{◌<◌, ◌^◌, ℕ, [], ◌∷◌, length, Option, Some, None, refl}
use Rattle.std.specs.Prelude.{IfSome}
use Rattle.std.specs.Fmt.{decimal}
use Rattle.std.specs.List.{AllByRecursion as Each}
use Rattle.ft_base.specs.declared.number.CallNo.{CallNo}
use Rattle.ft_base.specs.declared.context.Ctx.{Ctx}
use Rattle.ft_base.specs.declared.context.Ctx.TheVariants.{Normal, Softirq, Irq, Nmi}
use Rattle.ft_base.specs.declared.item.Reason.{Reason}
use Rattle.ft_base.specs.declared.item.Reason.TheVariants.{Pid, Recursion, Depth}
use Rattle.ft_base.specs.declared.item.Ran.{Ran}
use Rattle.ft_base.specs.declared.item.Ran.TheVariants.{Nop, List as ByList, Own}
use Rattle.ft_base.specs.declared.item.Answer.{Answer}
use Rattle.ft_base.specs.declared.item.Answer.TheVariants.{Accepted, Already, NotThere, Invalid, NoMatch, Busy}
use Rattle.ft_base.specs.declared.item.Item.{Item}
use Rattle.ft_base.specs.declared.item.Item.TheVariants.{Begin, Return, Enter, Back, BackEnd, Refuse, Miss, Body, Leave, Exit, ExitEnd, Ret}
use Rattle.ft_base.specs.Job.{Job, funcs}
use Rattle.trace_views.specs.Words.{function_word, user_word, pid_at, lane_at}
use Rattle.trace_views.specs.LogText.{call_word, caller_word, context_word, reason_word, ran_words, answer_words, lane_words, item_words}
use Rattle.trace_lines.specs.LogItems.{IsNamedApart, IsCallOf, IsCallerOf, IsRanOf, IsAnswerOf, IsItemOf}
use Rattle.trace_lines.proofs.LogSaid.{lanes-of}
use Rattle.log_reader.proofs.LineBytes.{IsGraphic, decimal-graphic, name-graphic, graphic-append}

module _ (job : Job) (apart : IsNamedApart job) where
  pub call-graphic : (call : CallNo) → IsCallOf job call → IsGraphic (call_word job call)
  call-graphic call of =
      graphic-append (decimal (pid_at job call.task.0)) (46 ∷ decimal call.n) (decimal-graphic (pid_at job call.task.0) (apart.pids call.task.0))
      (graphic-append (46 ∷ []) (decimal call.n) refl (decimal-graphic call.n of.1))

  caller-graphic : (caller : Option CallNo) → IsCallerOf job caller → IsGraphic (caller_word job caller)
  caller-graphic None of = refl
  caller-graphic (Some call) of = call-graphic call of

  context-graphic : (x : Ctx) → IsGraphic (context_word x)
  context-graphic Normal = refl
  context-graphic Softirq = refl
  context-graphic Irq = refl
  context-graphic Nmi = refl

  reason-graphic : (r : Reason) → IsGraphic (reason_word r)
  reason-graphic Pid = refl
  reason-graphic Recursion = refl
  reason-graphic Depth = refl

  user-graphic : (u : ℕ) → u < length job.users → IsGraphic (user_word job u)
  user-graphic u lt = name-graphic (user_word job u) (apart.users u lt)

  function-graphic : (f : ℕ) → f < funcs job → IsGraphic (function_word job f)
  function-graphic f lt = name-graphic (function_word job f) (apart.functions f lt)

  ran-graphic : (ran : Ran) → IsRanOf job ran → Each IsGraphic (ran_words job ran)
  ran-graphic Nop of = (refl, tt)
  ran-graphic ByList of = (refl, tt)
  ran-graphic (Own u) of = (refl, (user-graphic u.0 of, tt))

  answer-graphic : (a : Answer) → IsAnswerOf job a → Each IsGraphic (answer_words job a)
  answer-graphic Accepted of = (refl, tt)
  answer-graphic Already of = (refl, tt)
  answer-graphic NotThere of = (refl, tt)
  answer-graphic Invalid of = (refl, tt)
  answer-graphic NoMatch of = (refl, tt)
  answer-graphic (Busy f u) of = (refl, (function-graphic f.0 of.0, (user-graphic u.0 of.1, tt)))

  lane-graphic : (lane : Option ℕ) → IfSome lane (λ n. n < 2 ^ 64) → Each IsGraphic (lane_words lane)
  lane-graphic None small = tt
  lane-graphic (Some n) small = (refl, (decimal-graphic n small, tt))

  item-graphic : (item : Item) → IsItemOf job item → Each IsGraphic (item_words job item)
  item-graphic (Begin k) of = (refl, (decimal-graphic k of, lane-graphic (lane_at job k) (lanes-of job apart.lanes k)))
  item-graphic (Return k a) of = (refl, (decimal-graphic k of.0, answer-graphic a of.1))
  item-graphic (Enter call ctx f caller) of = (refl, (call-graphic call of.0, (context-graphic ctx, (function-graphic f.0 of.1, (caller-graphic caller of.2, tt)))))
  item-graphic (Back call u) of = (refl, (call-graphic call of.0, (user-graphic u.0 of.1, tt)))
  item-graphic (BackEnd call u) of = (refl, (call-graphic call of.0, (user-graphic u.0 of.1, tt)))
  item-graphic (Refuse call u reason) of = (refl, (call-graphic call of.0, (user-graphic u.0 of.1, (reason-graphic reason, tt))))
  item-graphic (Miss call u) of = (refl, (call-graphic call of.0, (user-graphic u.0 of.1, tt)))
  item-graphic (Body call g ran) of = (refl, (call-graphic call of.0, (function-graphic g.0 of.1, ran-graphic ran of.2)))
  item-graphic (Leave call) of = (refl, (call-graphic call of, tt))
  item-graphic (Exit call u entry) of = (refl, (call-graphic call of.0, (user-graphic u.0 of.1, (decimal-graphic entry of.2, tt))))
  item-graphic (ExitEnd call u) of = (refl, (call-graphic call of.0, (user-graphic u.0 of.1, tt)))
  item-graphic (Ret call to) of = (refl, (call-graphic call of.0, (caller-graphic to of.1, tt)))

  pub line-graphic : (place : ℕ) (item : Item) → place < 2 ^ 64 → IsItemOf job item → Each IsGraphic (decimal place ∷ item_words job item)
  line-graphic place item lt of = (decimal-graphic place lt, item-graphic item of)
