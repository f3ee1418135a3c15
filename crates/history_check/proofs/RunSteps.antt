-- What an item makes of a task on its plain run, by what its top call is.
use Rattle.std.proofs.Common.{cond, ◌≡◌, ℕ, Bool, true, false, ◌==◌, List, [], ◌∷◌, Option, Some, None, refl, sym, ap, ◌∙◌}
use Rattle.ft_base.specs.declared.number.CallNo.{CallNo}
use Rattle.ft_base.specs.declared.item.Item.{Item}
use Rattle.ft_base.specs.declared.item.Item.TheVariants.{Back, BackEnd, Refuse, Miss, Body, Exit, ExitEnd}
use Rattle.ft_base.specs.declared.item.Ran.{Ran}
use Rattle.ft_base.specs.declared.item.Reason.{Reason}
use Rattle.ft_base.specs.declared.number.FuncNo.{FuncNo}
use Rattle.ft_base.specs.declared.number.UserNo.{UserNo}
use Rattle.ft_base.specs.Items.{call_of}
use Rattle.ft_base.specs.Job.{Job}
use Rattle.ft_base.specs.Same.{same_call}
use Rattle.ft_hist.specs.Plain.{PlainTask, Frame, Phase, Dispatch, InBack, Leaving, InExit, on_call, in_phase, after_back, after_back_end, after_miss, after_refusal, after_body, after_exit, after_exit_end, after_item}
use Rattle.ft_hist.proofs.RunLaws.{some_inj}
use Rattle.history_check.specs.PlainRuns.{IsStep, moved, phase_after, top_if}

-- the top call is this one
pub record IsTop (s : PlainTask) (call : CallNo) (t : Frame) : Type 0 where
  pub below : List Frame
  pub stack : s.stack ≡ t ∷ below
  pub same : same_call t.call call ≡ true

pub is-top : (s : PlainTask) (call : CallNo) (t : Frame) → top_if s.stack call ≡ Some t → IsTop s call t
is-top s call t e = by s.stack refl e
  where
    of-same : (f : Frame) (rest : List Frame) (b : Bool) → s.stack ≡ f ∷ rest → same_call f.call call ≡ b → cond b (Some f) None ≡ Some t → IsTop s call t
    of-same f rest true at is e = record { below = rest; stack = at ∙ ap (λ (x : Frame). x ∷ rest) (some_inj f t e); same = ap (λ (x : Frame). same_call x.call call) (sym (some_inj f t e)) ∙ is }
    of-same f rest false at is e = absurd cc

    by : (ts : List Frame) → s.stack ≡ ts → top_if ts call ≡ Some t → IsTop s call t
    by [] at e = absurd cc
    by (f ∷ rest) at e = of-same f rest (same_call f.call call) at refl e

-- nothing is done if another call is on the top, or none
pub no-top : (ts : List Frame) (call : CallNo) (next : Frame → List Frame → Option PlainTask) → top_if ts call ≡ None → on_call ts call next ≡ None
no-top [] call next e = refl
no-top (f ∷ rest) call next e = by (same_call f.call call) e
  where
    by : (b : Bool) → cond b (Some f) None ≡ None → cond b (next f rest) None ≡ None
    by true e = absurd cc
    by false e = refl

module _ (job : Job) (returned : ℕ) (s : PlainTask) (call : CallNo) where
  at-none : (d : CallNo) (next : Frame → List Frame → Option PlainTask) → Some d ≡ Some call → top_if s.stack call ≡ None → on_call s.stack d next ≡ None
  at-none d next same e = ap (λ x. on_call s.stack x next) (some_inj d call same) ∙ no-top s.stack call next e

  -- no item of a call that isn't on the top may come, but an Enter
  pub of-none : (item : Item) → top_if s.stack call ≡ None → call_of item ≡ Some call → IsStep item → after_item job returned s item ≡ None
  unfolding after_item
  of-none (Back d u) e c step = at-none d _ c e
  of-none (BackEnd d u) e c step = at-none d _ c e
  of-none (Refuse d u r) e c step = at-none d _ c e
  of-none (Miss d u) e c step = at-none d _ c e
  of-none (Body d g r) e c step = at-none d _ c e
  of-none (Exit d u p) e c step = at-none d _ c e
  of-none (ExitEnd d u) e c step = at-none d _ c e
  of-none _ e c step = absurd step

  -- what each item makes of the top call
  module _ (t : Frame) (top : IsTop s call t) where
    abbrev below : List Frame
    below = top.below

    pub on-top : (next : Frame → List Frame → Option PlainTask) → on_call s.stack call next ≡ next t below
    on-top next = ap (λ ts. on_call ts call next) top.stack ∙ ap (λ b. cond b (next t below) None) top.same

    at-top : (c : CallNo) (next : Frame → List Frame → Option PlainTask) → Some c ≡ Some call → on_call s.stack c next ≡ next t below
    at-top c next e = ap (λ x. on_call s.stack x next) (some_inj c call e) ∙ on-top next

    -- one phase after another
    abbrev Moves : Item → Phase → Option PlainTask → Type 0
    Moves item p after = after ≡ moved s t below (phase_after job (in_phase t p) item)

    if-same : (b : Bool) (p : Phase) → cond b (Some (record s { stack = in_phase t p ∷ below })) None ≡ moved s t below (cond b (Some p) None)
    if-same true p = refl
    if-same false p = refl

    back : (c : CallNo) (u : UserNo) (p : Phase) → Moves (Back c u) p (after_back job s t below u.0 p)
    back c u Dispatch = refl
    back c u _ = refl

    miss : (c : CallNo) (u : UserNo) (p : Phase) → Moves (Miss c u) p (after_miss s t below u.0 p)
    miss c u (InBack v o true) = if-same (u.0 == v) (InBack v o false)
    miss c u _ = refl

    back-end : (c : CallNo) (u : UserNo) (p : Phase) → Moves (BackEnd c u) p (after_back_end s t below u.0 p)
    back-end c u (InBack v None fr) = if-same (u.0 == v) Dispatch
    back-end c u _ = refl

    refusal : (c : CallNo) (u : UserNo) (r : Reason) (p : Phase) → p ≡ t.phase → Moves (Refuse c u r) p (after_refusal s p)
    refusal c u r Dispatch is = ap (λ ts. Some (record s { stack = ts })) (top.stack ∙ ap (λ q. in_phase t q ∷ below) (sym is))
    refusal c u r _ is = refl

    body : (c : CallNo) (g : FuncNo) (r : Ran) (p : Phase) → Moves (Body c g r) p (after_body s t below p)
    body c g r Dispatch = refl
    body c g r _ = refl

    exit : (c : CallNo) (u : UserNo) (e : ℕ) (p : Phase) → Moves (Exit c u e) p (after_exit s t below u.0 p)
    exit c u e Dispatch = refl
    exit c u e _ = refl

    exit-end : (c : CallNo) (u : UserNo) (p : Phase) → Moves (ExitEnd c u) p (after_exit_end s t below u.0 p)
    exit-end c u (InExit v) = if-same (u.0 == v) Leaving
    exit-end c u _ = refl

    pub step-is : (item : Item) → call_of item ≡ Some call → IsStep item → after_item job returned s item ≡ moved s t below (phase_after job t item)
    unfolding after_item
    step-is (Back d u) c step = at-top d _ c ∙ back d u t.phase
    step-is (BackEnd d u) c step = at-top d _ c ∙ back-end d u t.phase
    step-is (Refuse d u r) c step = at-top d _ c ∙ refusal d u r t.phase refl
    step-is (Miss d u) c step = at-top d _ c ∙ miss d u t.phase
    step-is (Body d g r) c step = at-top d _ c ∙ body d g r t.phase
    step-is (Exit d u p) c step = at-top d _ c ∙ exit d u p t.phase
    step-is (ExitEnd d u) c step = at-top d _ c ∙ exit-end d u t.phase
    step-is _ c step = absurd step
