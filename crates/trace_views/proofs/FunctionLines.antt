-- The lines of the form function: each is what its entry callback prints.
use Rattle.std.proofs.Common.{◌≡◌, ℕ, zero, suc, List, [], ◌∷◌, length, replicate, Option, Some, refl, sym, ap, ◌∙◌, subst, append_assoc}
use Rattle.std.specs.Prelude.{slice_get, option_map}
use Rattle.std.proofs.lemmas.List.{length-replicate}
use Rattle.ft_base.specs.declared.number.CallNo.{CallNo}
use Rattle.ft_base.specs.declared.number.FuncNo.{FuncNo}
use Rattle.ft_base.specs.declared.number.TaskNo.{TaskNo}
use Rattle.ft_base.specs.declared.number.UserNo.{UserNo}
use Rattle.ft_base.specs.declared.item.Item.{Item}
use Rattle.ft_base.specs.declared.item.Item.TheVariants.{Back}
use Rattle.ft_base.specs.Job.{Job}
use Rattle.ft_hist.specs.Past.{entry_of}
use Rattle.ft_hist.specs.Rules.{IsLegal, IsLegalPast}
use Rattle.ft_hist.proofs.RunLaws.{some_inj}
use Rattle.trace_views.specs.declared.function.FunctionLine.{FunctionLine}
use Rattle.trace_views.specs.declared.open_calls.OpenCall.{OpenCall}
use Rattle.trace_views.specs.FunctionText.{function_line, parent_word}
use Rattle.trace_views.specs.OpenCalls.{open_call_of, runs, parent_of, parent_name, function_line_text, HasOpenCalls}
use Rattle.ft_hist.specs.Telling.{past_at}
use Rattle.trace_views.specs.RingLines.{IsLineAt}
use Rattle.trace_views.specs.RingsText.{entry_part, entry_text}
use Rattle.trace_views.specs.TaskStacks.{stack_at}
use Rattle.ft_hist.proofs.Splitting.{length-past}
use Rattle.trace_views.proofs.ItemTexts.{legal-at, part-is}
use Rattle.trace_views.proofs.OpenCallLaws.{top-at-back, below-at-back, parent-is}

-- the line of an entry callback at a place, in the latest call of a task
abbrev pub line_of : ℕ → TaskNo → OpenCall → Option FuncNo → UserNo → FunctionLine
line_of place task call parent u = record { place = place; task = task; ctx = call.ctx; func = call.func; parent = parent; user = u }

-- it is the line of the specs
pub line-is : (job : Job) (past : List Item) (call : CallNo) (u : UserNo) (parent : Option FuncNo) → parent_name job parent ≡ parent_word job past (entry_of call past).caller
    → function_line_text job (line_of (length past) call.task (open_call_of past call) parent u) ≡ function_line job past call u.0
unfolding function_line_text function_line
line-is job past call u parent e = rw e (simp append_assoc)

module _ (job : Job) (past : List Item) (call : CallNo) (u : UserNo) (stacks : List (List OpenCall)) (told : HasOpenCalls job past stacks) (l : IsLegalPast job (Back call u ∷ past)) where
  -- the line of an entry callback, from the top of its task's stack
  pub back-line : (top : OpenCall) → slice_get (stack_at stacks call.task.0) 0 ≡ Some top
      → (parent : Option FuncNo) → parent ≡ parent_of (stack_at stacks call.task.0)
      → (place : ℕ) → place ≡ length past → function_line_text job (line_of place call.task top parent u) ≡ function_line job past call u.0
  back-line top top_is parent parent_is place long =
      let kept : top ≡ open_call_of past call = some_inj top (open_call_of past call) (sym top_is ∙ top-at-back job past stacks told call u l) in
      let word : parent_name job parent ≡ parent_word job past (entry_of call past).caller =
      ap (parent_name job) (parent_is ∙ ap (λ (o : Option OpenCall). option_map runs o) (below-at-back job past stacks told call u l)) ∙ parent-is job past (entry_of call past).caller in
      ap (λ (o : OpenCall). function_line_text job (line_of place call.task o parent u)) kept
      ∙ ap (λ (q : ℕ). function_line_text job (line_of q call.task (open_call_of past call) parent u)) long
      ∙ line-is job past call u parent word

-- at a place of a history
pub legal-back : (job : Job) (items : List Item) (p : ℕ) (item : Item) (call : CallNo) (u : UserNo) → slice_get items p ≡ Some item → item ≡ Back call u → IsLegal job items → IsLegalPast job (Back call u ∷ past_at p items)
legal-back job items p item call u here is legal = subst (λ (x : Item). IsLegalPast job (x ∷ past_at p items)) is (legal-at items p item here job legal)

pub line-at : (job : Job) (items : List Item) (p : ℕ) (item : Item) (call : CallNo) (u : UserNo) (line : FunctionLine) → slice_get items p ≡ Some item → item ≡ Back call u → line.place ≡ p → line.user ≡ u
    → (p ≡ length (past_at p items) → function_line_text job line ≡ function_line job (past_at p items) call u.0) → IsLineAt job items p line
line-at job items p item call u line here is place user text = record {
  call = call;
  stands = here ∙ ap (λ (x : Item). Some x) is ∙ ap (λ (v : UserNo). Some (Back call v)) (sym user);
  place' = place;
  text = text (sym (length-past items p item here)) ∙ ap (λ (v : UserNo). function_line job (past_at p items) call v.0) (sym user);
}

-- ## from place to place

none-at : {A : Type 0} (n t : ℕ) → stack_at {A = A} (replicate n []) t ≡ []
none-at zero t = refl
none-at (suc n) zero = refl
none-at (suc n) (suc t) = none-at n t

-- before the first item no call is open
pub no-calls : (job : Job) (stacks : List (List OpenCall)) (n : ℕ) → n ≡ length job.tasks → stacks ≡ replicate n [] → HasOpenCalls job [] stacks
no-calls job stacks n count none = rw none (record { tasks = length-replicate n [] ∙ count; calls = none-at n })

-- ## what the item at a place prints

module _ (job : Job) (items : List Item) (p : ℕ) (line : FunctionLine) (is : IsLineAt job items p line) where
  -- as an entry of a ring it does so whatever its user
  pub entry-shown : function_line_text job line ≡ entry_text job items line.place
  entry-shown = is.text ∙ sym (ap (entry_text job items) is.place' ∙ part-is items p (Back is.call line.user) is.stands (entry_part job))
