-- What the view function makes of one more item.
use Rattle.std.proofs.Common.{◌≡◌, ℕ, ◌+◌, true, List, [], ◌∷◌, ◌++◌, get_or, refl, sym, ap, ◌∙◌, subst, arith}
use Rattle.ft_base.specs.declared.number.CallNo.{CallNo}
use Rattle.ft_base.specs.declared.number.UserNo.{UserNo}
use Rattle.ft_base.specs.declared.item.Item.{Item}
use Rattle.ft_base.specs.declared.item.Item.TheVariants.{Back}
use Rattle.ft_base.specs.Desk.{spec_at}
use Rattle.ft_base.specs.Job.{Job}
use Rattle.ft_base.specs.Kinds.{is_function}
use Rattle.ft_hist.specs.Rules.{IsLegalPast}
use Rattle.trace_views.specs.declared.function.FunctionLine.{FunctionLine}
use Rattle.trace_views.specs.declared.function.FunctionView.{FunctionView}
use Rattle.trace_views.specs.FunctionText.{function_line, function_part}
use Rattle.trace_views.specs.FunctionViews.{HasFunction}
use Rattle.trace_views.specs.OpenCalls.{IsFollowed, function_line_text}
use Rattle.trace_views.specs.Words.{lines_text}
use Rattle.trace_views.proofs.ItemTexts.{texts-next}
use Rattle.trace_views.proofs.LineTexts.{line-after}

-- what an item prints is not told what comes after it
part-alike : (job : Job) (past : List Item) (item : Item) (a b : List Item) → function_part job past item a ≡ function_part job past item b
part-alike job past (Back call u) a b = refl
part-alike job past _ a b = refl

module _ (job : Job) (past : List Item) (view : FunctionView) (told : HasFunction job past view) (item : Item) where
  -- the line of an entry callback of a function tracer
  pub line-added : (call : CallNo) (u : UserNo) → item ≡ Back call u → IsLegalPast job (item ∷ past) → get_or view.tracers.items u.0 true ≡ true
      → (line : FunctionLine) → (IsLegalPast job (Back call u ∷ past) → function_line_text job line ≡ function_line job past call u.0)
      → (lines' : List FunctionLine) → lines' ≡ view.lines.items ++ line ∷ []
      → lines_text (function_line_text job) lines' ≡ lines_text (function_line_text job) view.lines.items ++ function_part job past item []
  line-added call u is l tracer line text lines' grown =
      let shown : is_function (spec_at job u.0).kind ≡ true = sym (told.tracers u.0) ∙ tracer in
      let part : function_part job past (Back call u) [] ≡ function_line job past call u.0 = rw shown refl in
      ap (lines_text (function_line_text job)) grown
      ∙ line-after (function_line_text job) view.lines.items line
      ∙ ap (λ (t : List ℕ). lines_text (function_line_text job) view.lines.items ++ t)
      (text (subst (λ (x : Item). IsLegalPast job (x ∷ past)) is l) ∙ sym part ∙ ap (λ (x : Item). function_part job past x []) (sym is))

  -- the view has taken the item
  pub taken-in : (view' : FunctionView) → IsFollowed job (item ∷ past) view'.open → view'.place ≡ view.place + 1 → view'.tracers ≡ view.tracers
      → lines_text (function_line_text job) view'.lines.items ≡ lines_text (function_line_text job) view.lines.items ++ function_part job past item []
      → HasFunction job (item ∷ past) view'
  taken-in view' calls place same texts = record {
    tracers = λ u. ap (λ ts. get_or ts.items u true) same ∙ told.tracers u;
    calls = calls;
    place' = (let p = told.place' in omega (arith, place, p));
    texts = texts ∙ ap (λ (t : List ℕ). t ++ function_part job past item []) told.texts ∙ sym (texts-next (function_part job) (part-alike job) past item);
  }
