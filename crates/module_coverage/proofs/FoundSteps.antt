-- Each item of a task leaves its calls at their places in the script, and the call that the item is of is not over.
use Rattle.std.proofs.Common.{cond, ◌≡◌, ℕ, suc, ◌≤◌, Bool, true, false, not, ◌&&◌, List, [], ◌∷◌, length, take, drop, Option, Some, None, refl, sym, ap, ◌∙◌, subst, arith, nat_lt, inl, inr}
use Rattle.std.specs.Prelude.{slice_get, IfSome, ◌-◌}
use Rattle.ft_base.specs.declared.number.CallNo.{CallNo}
use Rattle.ft_base.specs.declared.number.FuncNo.{FuncNo}
use Rattle.ft_base.specs.declared.context.Ctx.{Ctx}
use Rattle.ft_base.specs.declared.context.Ctx.TheVariants.{Irq}
use Rattle.ft_base.specs.declared.item.Item.{Item}
use Rattle.ft_base.specs.declared.item.Item.TheVariants.{Enter}
use Rattle.ft_base.specs.declared.task.TaskAct.{TaskAct}
use Rattle.ft_base.specs.declared.task.TaskAct.TheVariants.{Call, Ret as RetAct}
use Rattle.ft_base.specs.declared.user.Act.{Act}
use Rattle.ft_base.specs.declared.user.Act.TheVariants.{CallIn, IrqIn}
use Rattle.ft_base.specs.Items.{call_of}
use Rattle.ft_base.specs.Same.{rank}
use Rattle.ft_base.specs.Job.{Job}
use Rattle.ft_base.specs.Desk.{spec_at, plain_spec}
use Rattle.ft_base.proofs.Small.{false_true, and-false, each-get}
use Rattle.ft_hist.specs.Past.{is_of}
use Rattle.ft_hist.specs.Plain.{PlainTask, Frame, Phase, Owed, Dispatch, InBack, Running, Leaving, InExit, on_top, in_phase, owed_by}
use Rattle.ft_hist.specs.Rules.{acts_passed}
use Rattle.ft_hist.proofs.Steps.{Step, step_begin, step_return, step_enter, step_act, step_back, step_back_end, step_refuse, step_miss, step_body, step_leave, step_act_leave, step_exit, step_exit_end, step_ret, IsQuiet, acts_ahead}
use Rattle.module_coverage.specs.Covered.{acts_of, last_after, return_number}
use Rattle.module_coverage.specs.Apart.{IsActApart, AreActsApart}
use Rattle.module_coverage.proofs.ActNumbers.{get-between, take-front, drop-between, Gone, gone-more, gone-ahead, return-call, return-least, return-ahead, starts, alone, passed-ahead}
use Rattle.module_coverage.proofs.FoundPlaces.{leaves, under, returns_from, IsPlaced, OfCall, Owes, Below, Top, to-below, to-top, below-same, Going, Claims}

at-least : (b : Bool) (gone n : ℕ) → gone ≤ n → gone ≤ cond b gone n
at-least true gone n le = omega arith
at-least false gone n le = le

-- what a user's act owes is apart, if the act is
owes-of : (job : Job) (t u : ℕ) (x : Ctx) (a : Option Act) → IsActApart job a → Owes job t (InBack u (owed_by x a) true)
owes-of job t u x None h = tt
owes-of job t u x (Some (CallIn f)) h = h
owes-of job t u x (Some (IrqIn f)) h = by (nat_lt (rank x) (rank Irq))
  where
    by : (b : Bool) → Owes job t (InBack u (cond b (Some (record { ctx = Irq; func = f.0 })) None) true)
    by true = h
    by false = tt

owes-still : (job : Job) (t u : ℕ) (owed : Option Owed) → Owes job t (InBack u owed true) → Owes job t (InBack u owed false)
owes-still job t u None h = tt
owes-still job t u (Some o) h = h

-- the next act that gives items is a call, which has its place
placed-at : (job : Job) (t r gone : ℕ) (f : FuncNo) (rest : List TaskAct) → Gone (acts_of job t) (Call f ∷ rest) gone r → IsPlaced job t r f.0 (return_number (suc gone) 0 rest)
placed-at job t r gone f rest went = record {
  place = length went.front;
  called = f;
  act = subst (λ (xs : List TaskAct). slice_get xs (length went.front) ≡ Some (Call f)) (sym went.whole) (get-between went.front (Call f) rest);
  func_is = refl;
  from = subst (λ (xs : List TaskAct). last_after 0 xs ≤ r) (sym (ap (λ (xs : List TaskAct). take (length went.front) xs) went.whole ∙ take-front went.front (Call f ∷ rest))) went.waited;
  number_is =
      ap (λ (xs : List TaskAct). return_number (suc (length went.front)) 0 xs) (ap (λ (xs : List TaskAct). drop (suc (length went.front)) xs) went.whole ∙ drop-between went.front (Call f) rest)
      ∙ ap (λ n. return_number (suc n) 0 rest) went.count;
}

-- over a quiet stack no call has begun to return
quiet-below : (job : Job) (t r gone : ℕ) (number : ℕ → ℕ) (fs : List Frame) → IsQuiet fs → Top job t r number gone fs → Below job t r number fs
quiet-below job t r gone number [] q h = tt
quiet-below job t r gone number (f ∷ below) q h = to-below job t r gone number f below (ap leaves q.1) h

-- and what is passed is told by the acts alone
quiet-passed : (p : PlainTask) (fs : List Frame) → p.stack ≡ fs → IsQuiet fs → acts_passed p ≡ acts_passed (alone p.gone p.acts)
quiet-passed p [] top q = rw top refl
quiet-passed p (f ∷ below) top q = rw (top, q.1, q.0) refl

-- what is known of the acts from the next one on, that gives items
record NextAct (job : Job) (t r : ℕ) (p : PlainTask) (act : TaskAct) (rest : List TaskAct) : Type 0 where
  went : Gone (acts_of job t) (act ∷ rest) (acts_ahead r p).gone r
  same : (k : ℕ) → returns_from p.gone p.acts k ≡ return_number (acts_ahead r p).gone k (act ∷ rest)
  passed : starts (act ∷ rest) ≡ true → acts_passed (alone p.gone p.acts) ≡ (acts_ahead r p).gone

ahead-is : (job : Job) (t r : ℕ) (p : PlainTask) (act : TaskAct) (rest : List TaskAct) → (acts_ahead r p).acts ≡ act ∷ rest → Gone (acts_of job t) p.acts p.gone r → NextAct job t r p act rest
ahead-is job t r p act rest e h = record {
  went = subst (λ (xs : List TaskAct). Gone (acts_of job t) xs (acts_ahead r p).gone r) e (gone-ahead (acts_of job t) p.acts p.contexts p.gone r h);
  same = λ k. return-ahead k r p.acts p.contexts p.gone ∙ ap (λ (xs : List TaskAct). return_number (acts_ahead r p).gone k xs) e;
  passed = λ it. passed-ahead r p.acts p.contexts p.gone (ap starts e ∙ it);
}

module _ (job : Job) (t r : ℕ) (name : CallNo → ℕ) (apart : AreActsApart job) where
  -- but for a call in its body, the latest act isn't done
  busy : (gone : ℕ) (left : List TaskAct) (scripted leaving : Bool) (func : ℕ) → OfCall job t scripted r func (cond leaving gone (return_number gone 0 left)) → Claims job t r (gone - 1) func
  busy gone left false leaving func x = inl x
  busy gone left true leaving func x =
      let most = at-least leaving gone (return_number gone 0 left) (return-least gone 0 left) in
      let above = return-least (suc x.place) 0 (drop (suc x.place) (acts_of job t)) in
      let n = x.number_is in
      inr (cond leaving gone (return_number gone 0 left), x, omega (arith, most, above, n))

  -- the top call goes from one phase to another, neither of which it reaches by an act
  turned : (q : PlainTask) (f : Frame) (below : List Frame) (from to : Phase) → leaves from ≡ leaves to → Owes job t to → Going job t name r (on_top q (in_phase f from) below)
      → Going job t name r (on_top q (in_phase f to) below) × Claims job t r (q.gone - 1) (name f.call)
  turned q f below from to same owes h =
      let number : ℕ → ℕ = returns_from q.gone q.acts in (
        record {
          script = h.script;
          calls = (
            owes,
            subst (λ (b : Bool). OfCall job t f.scripted r f.func (cond b q.gone (number 0))) same h.calls.1,
            subst (λ (b : Bool). Below job t r (under (f.scripted && not b) number) below) same h.calls.2,
          );
          names = h.names;
        },
        subst (λ (n : ℕ). Claims job t r (q.gone - 1) n) h.names.0 (busy q.gone q.acts f.scripted (leaves from) f.func h.calls.1),
      )

  pub goes : (p s : PlainTask) (item : Item) → is_of t item ≡ true → ((call : CallNo) (ctx : Ctx) (f : FuncNo) (caller : Option CallNo) → item ≡ Enter call ctx f caller → name call ≡ f.0)
      → Step job r p s item → Going job t name r p → Going job t name r s × IfSome (call_of item) (λ call. Claims job t r (acts_passed p) (name call))
  goes p s item own named step_begin h = false_true own
  goes p s item own named step_return h = false_true own
  goes p s item own named (step_enter {call = call} {x = x} {f = f} {caller = caller} {rest = rest} it quiet acts ctx) h =
      let is = named call x f caller refl in
      let a = ahead-is job t r p (Call f) rest acts h.script in
      let gone = (acts_ahead r p).gone in
      let number : ℕ → ℕ = returns_from p.gone p.acts in
      let placed = placed-at job t r gone f rest a.went in
      let passed = quiet-passed p p.stack refl quiet ∙ a.passed refl in
      let least = return-least (suc gone) 0 rest in (
        record {
          script = gone-more (acts_of job t) (Call f) rest gone r a.went a.went.waited;
          calls = (tt, placed, below-same job t r number (under true (returns_from (suc gone) rest)) (λ k. a.same k ∙ return-call gone k f rest) p.stack (quiet-below job t r p.gone number p.stack quiet h.calls));
          names = (sym is, h.names);
        },
        subst (λ (n : ℕ). Claims job t r (acts_passed p) n) (sym is) (inr (return_number (suc gone) 0 rest, placed, omega (arith, passed, least))),
      )
  goes p s item own named (step_act q g below {u = u} {fresh = fresh} {call = call} {x = x} {f = f} {caller = caller} it) h =
      let is = named call x f caller refl in
      let number : ℕ → ℕ = returns_from q.gone q.acts in
      let all = to-below job t r q.gone number (in_phase g (InBack u (Some (record { ctx = x; func = f.0 })) fresh)) below refl h.calls in (
        record {
          script = h.script;
          calls = (tt, h.calls.0, below-same job t r number (under false number) (λ k. refl) (in_phase g (InBack u None false) ∷ below) (refl, tt, all.2, all.3));
          names = (sym is, h.names);
        },
        subst (λ (n : ℕ). Claims job t r (q.gone - 1) n) (sym is) (inl h.calls.0),
      )
  goes p s item own named (step_back q f below {u = u}) h =
      turned q f below Dispatch (InBack u.0 (owed_by f.ctx (spec_at job u.0).act) true) refl
      (owes-of job t u.0 f.ctx (spec_at job u.0).act (each-get (λ x. IsActApart job x.act) job.users u.0 plain_spec tt apart)) h
  goes p s item own named (step_back_end q f below {u = u} {fresh = fresh}) h = turned q f below (InBack u.0 None fresh) Dispatch refl tt h
  goes p s item own named (step_refuse q f below) h = turned q f below Dispatch Dispatch refl tt h
  goes p s item own named (step_miss q f below {u = u} {owed = owed}) h = turned q f below (InBack u.0 owed true) (InBack u.0 owed false) refl (owes-still job t u.0 owed h.calls.0) h
  goes p s item own named (step_body q f below) h = turned q f below Dispatch Running refl tt h
  goes p s item own named (step_leave q f below {rest = rest} acts) h =
      let a = ahead-is job t r q RetAct rest acts h.script in
      let gone = (acts_ahead r q).gone in
      let number : ℕ → ℕ = returns_from q.gone q.acts in
      let last : number 0 ≡ suc gone = a.same 0 in
      let passed = a.passed refl in (
        record {
          script = gone-more (acts_of job t) RetAct rest gone r a.went a.went.waited;
          calls = (
            tt,
            subst (λ (n : ℕ). IsPlaced job t r f.func n) last h.calls.1,
            below-same job t r (under true number) (under false (returns_from (suc gone) rest)) (λ k. a.same (suc k)) below h.calls.2,
          );
          names = h.names;
        },
        subst (λ (n : ℕ). Claims job t r (acts_passed (alone q.gone q.acts)) n) h.names.0 (inr (number 0, h.calls.1, omega (arith, passed, last))),
      )
  goes p s item own named (step_act_leave q f below) h =
      (record { script = h.script; calls = h.calls; names = h.names }, subst (λ (n : ℕ). Claims job t r (q.gone - 1) n) h.names.0 (inl h.calls.1))
  goes p s item own named (step_exit q f below {u = u}) h = turned q f below Leaving (InExit u.0) refl tt h
  goes p s item own named (step_exit_end q f below {u = u}) h = turned q f below (InExit u.0) Leaving refl tt h
  goes p s item own named (step_ret q f below) h =
      let number : ℕ → ℕ = returns_from q.gone q.acts in
      let left : Below job t r (under false number) below = subst (λ (b : Bool). Below job t r (under b number) below) (and-false f.scripted) h.calls.2 in (
        record { script = h.script; calls = to-top job t r q.gone number below (below-same job t r (under false number) number (λ k. refl) below left); names = h.names.1 },
        subst (λ (n : ℕ). Claims job t r (q.gone - 1) n) h.names.0 (busy q.gone q.acts f.scripted true f.func h.calls.1),
      )
