-- A call on a task's plain run was entered in one of the job's functions.
use Rattle.std.proofs.Common.{cond, ◌≡◌, ◌<◌, Bool, true, false, List, ◌∷◌, Some, refl, sym, ap, ◌∙◌, subst, arith, inl, inr}
use Rattle.std.proofs.lemmas.Option.{slice_get_cases}
use Rattle.ft_base.specs.declared.number.CallNo.{CallNo}
use Rattle.ft_base.specs.declared.item.Item.{Item}
use Rattle.ft_base.specs.declared.item.Item.TheVariants.{Enter}
use Rattle.ft_base.specs.Same.{same_call}
use Rattle.ft_base.specs.Job.{Job, funcs}
use Rattle.ft_base.specs.WellFormed.{IsWellFormed}
use Rattle.ft_hist.specs.Past.{Entered, done, entered}
use Rattle.ft_hist.specs.Plain.{PlainTask, plain}
use Rattle.ft_hist.proofs.RunLaws.{some_inj}
use Rattle.ft_hist.proofs.Carries.{carries_item}
use Rattle.ft_hist.proofs.Named.{EnterNamed, enter-named}
use Rattle.ft_hist.proofs.Steps.{run-holds}
use Rattle.history_check.specs.declared.open_call.OpenCall.{OpenCall}
use Rattle.history_check.specs.declared.past.Past.{Past}
use Rattle.history_check.specs.TaskCalls.{IsTop}
use Rattle.history_check.specs.JudgePast.{IsPast}

module _ (job : Job) (is : IsWellFormed job) (call : CallNo) where
  entered-more : (item : Item) (past : List Item) → EnterNamed (funcs job) item → ((e : Entered) → entered call past ≡ Some e → e.func < funcs job) → (e : Entered) → entered call (item ∷ past) ≡ Some e → e.func < funcs job
  entered-more (Enter c ctx f caller) past named h e here = by (same_call c call) here
    where
      by : (b : Bool) → cond b (Some (record { ctx = ctx; func = f.0; caller = caller; from = done past })) (entered call past) ≡ Some e → e.func < funcs job
      by true x = subst (λ n. n < funcs job) (ap (λ (y : Entered). y.func) (some_inj (record { ctx = ctx; func = f.0; caller = caller; from = done past }) e x)) named
      by false x = h e x
  entered-more _ past named h e here = h e here

  -- its Enter is of one of the job's functions
  entered-named : (items : List Item) (s : PlainTask) → plain job call.task.0 items ≡ Some s → (e : Entered) → entered call items ≡ Some e → e.func < funcs job
  entered-named = run-holds job call.task.0 (λ past s. (e : Entered) → entered call past ≡ Some e → e.func < funcs job) (λ e here. absurd cc)
      (λ item past p s own was k h. entered-more item past (enter-named job is past p s call.task.0 item was k) h)
      (λ item past s other was h e here. h e (sym ((carries_item job call.task.0 item past other).calls call refl).entered ∙ here))

-- so is an open call of a judged past
pub func-named : (job : Job) (items : List Item) (p : Past) (t : OpenCall) → IsPast job items p → IsTop job items t.call t → t.func.0 < funcs job
func-named job items p t k top =
    let told = top.is.entered' in
    elim ((slice_get_cases p.tasks.items t.call.task.0).1) [
      | inl found ↦ entered-named job k.desks.named t.call items found.0.run ((k.each t.call.task.0 found.0 found.2).run) _ told.1
      | inr gone ↦ absurd (let size = k.size in let task = top.task in let past = gone.0 in omega (arith, size, task, past))
    ]
