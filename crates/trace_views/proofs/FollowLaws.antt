-- The open calls that a view follows, from item to item.
use Rattle.std.proofs.Common.{◌≡◌, ℕ, ◌+◌, ◌*◌, ◌<◌, ◌≤◌, true, List, [], ◌∷◌, ◌++◌, length, get_or, Option, Some, None, inl, inr, refl, sym, ap, ◌∙◌, subst, arith, add-one}
use Rattle.std.specs.Prelude.{map, set, take, drop, reverse, slice_get, vec_capacity}
use Rattle.std.specs.Global.{Vec}
use Rattle.std.proofs.Math.Seq.{map-set_same}
use Rattle.std.proofs.lemmas.Bool.{cases_lt}
use Rattle.std.proofs.lemmas.List.{get_or-map, get_or_past, length-map, length-reverse, reverse-reverse, take_all}
use Rattle.std.proofs.lemmas.Option.{slice_get_within}
use Rattle.ft_base.specs.declared.number.CallNo.{CallNo}
use Rattle.ft_base.specs.declared.number.FuncNo.{FuncNo}
use Rattle.ft_base.specs.declared.number.UserNo.{UserNo}
use Rattle.ft_base.specs.declared.context.Ctx.{Ctx}
use Rattle.ft_base.specs.declared.item.Ran.{Ran}
use Rattle.ft_base.specs.declared.item.Item.{Item}
use Rattle.ft_base.specs.declared.item.Item.TheVariants.{Enter, Back, Body, Exit, Ret}
use Rattle.ft_base.specs.Job.{Job}
use Rattle.ft_base.specs.Versions.{levels}
use Rattle.ft_base.proofs.Small.{==-refl}
use Rattle.ft_hist.specs.Past.{is_of}
use Rattle.ft_hist.specs.Rules.{IsLegal, IsLegalPast}
use Rattle.ft_hist.specs.Telling.{open_calls, past_at}
use Rattle.history_laws.specs.Bound.{calls_of}
use Rattle.history_laws.proofs.Stacks.{stack-bounded}
use Rattle.trace_views.specs.declared.open_calls.OpenCall.{OpenCall}
use Rattle.trace_views.specs.declared.open_calls.OpenCalls.{OpenCalls}
use Rattle.trace_views.specs.OpenCalls.{HasOpenCalls, IsFollowed, open_call_of, rooms_in, stacks_in}
use Rattle.trace_views.specs.TaskStacks.{stack_at, with_top}
use Rattle.trace_views.proofs.ItemTexts.{legal-at, past-next}
use Rattle.trace_views.proofs.OpenCallLaws.{told-enter, told-body, told-ret, top-at-body, top-at-back, top-at-exit}
use Rattle.trace_views.proofs.StackSteps.{changed, read, reverse-push}
use Rattle.trace_views.proofs.TopCalls.{named, put}

module _ (job : Job) (past : List Item) (o : OpenCalls) (told : IsFollowed job past o) where
  many : length o.tasks.items ≡ length job.tasks
  many = sym (length-map o.tasks.items (λ (v : Vec OpenCall). reverse v.items)) ∙ told.stacks.tasks

  -- an item's task is one of those that have a list
  pub has-list : (t : ℕ) (item : Item) → is_of t item ≡ true → IsLegalPast job (item ∷ past) → t < length o.tasks.items
  has-list t item own l = let lt = named job t item past own l in omega (arith, lt, many)

  -- a list that has become another one of the same room
  module _ (t : ℕ) (v v' : Vec OpenCall) (lt : t < length o.tasks.items) (here : v ≡ get_or o.tasks.items t v) where
    pub stack-is : reverse v.items ≡ stack_at (stacks_in o) t
    stack-is = read (λ (w : Vec OpenCall). reverse w.items) o.tasks.items (stacks_in o) refl t v (let e = length-map o.tasks.items (λ (w : Vec OpenCall). reverse w.items) in omega (arith, lt, e)) here

    room-is : vec_capacity v ≡ get_or (rooms_in o) t 0
    room-is = ap (λ (w : Vec OpenCall). vec_capacity w) here ∙ sym (get_or-map (λ (w : Vec OpenCall). vec_capacity w) o.tasks.items t v 0 lt)

    -- with an Enter there is room for one more
    pub has-room : (call : CallNo) (ctx : Ctx) (f : FuncNo) (caller : Option CallNo) → call.task.0 ≡ t → IsLegalPast job (Enter call ctx f caller ∷ past) → length v.items < vec_capacity v
    has-room call ctx f caller own l =
        let now = stack-bounded job (Enter call ctx f caller ∷ past) call.task.0 l in
        let one = ap (λ (cs : List CallNo). length cs) (put job call ctx f caller past l) in
        let kept : length v.items ≡ length (open_calls call.task.0 past) =
        sym (length-reverse v.items) ∙ ap (λ (os : List OpenCall). length os) (stack-is ∙ told.stacks.calls t) ∙ length-map (open_calls t past) (open_call_of past) ∙ ap (λ n. length (open_calls n past)) (sym own) in
        let room = told.rooms t (omega (arith, lt, many)) in
        let same : calls_of job call.task.0 ≡ calls_of job t = ap (calls_of job) own in
        omega (arith, now, one, kept, room, same, room-is)

    pub followed : (item : Item) (change : List OpenCall → List OpenCall) → reverse v'.items ≡ change (reverse v.items) → vec_capacity v' ≡ vec_capacity v
        → HasOpenCalls job (item ∷ past) (set (stacks_in o) t (change (stack_at (stacks_in o) t))) → (o' : OpenCalls) → o'.tasks.items ≡ set o.tasks.items t v' → IsFollowed job (item ∷ past) o'
    followed item change stack room h o' is = record {
      stacks = subst (λ (ss : List (List OpenCall)). HasOpenCalls job (item ∷ past) ss)
          (sym (ap (λ (vs : List (Vec OpenCall)). map (λ (w : Vec OpenCall). reverse w.items) vs) is ∙ changed (λ (w : Vec OpenCall). reverse w.items) o.tasks.items (stacks_in o) refl t v v' change (let e = length-map o.tasks.items (λ (w : Vec OpenCall). reverse w.items) in omega (arith, lt, e)) here stack)) h;
      rooms = λ n within. subst (λ (rs : List ℕ). calls_of job n + 2 * levels job ≤ get_or rs n 0)
          (sym (ap (λ (vs : List (Vec OpenCall)). map (λ (w : Vec OpenCall). vec_capacity w) vs) is ∙ map-set_same (λ (w : Vec OpenCall). vec_capacity w) o.tasks.items t v' v (room ∙ ap (λ (w : Vec OpenCall). vec_capacity w) here))) (told.rooms n within);
    }

  -- after an Enter, a Body and a Ret
  module _ (item : Item) where
    pub after-enter : (call : CallNo) (ctx : Ctx) (f : FuncNo) (caller : Option CallNo) → item ≡ Enter call ctx f caller → IsLegalPast job (item ∷ past)
        → (v v' : Vec OpenCall) → v ≡ get_or o.tasks.items call.task.0 v → v'.items ≡ v.items ++ record { ctx = ctx; func = f; body = None } ∷ [] → vec_capacity v' ≡ vec_capacity v
        → (o' : OpenCalls) → o'.tasks.items ≡ set o.tasks.items call.task.0 v' → IsFollowed job (item ∷ past) o'
    after-enter call ctx f caller is l v v' here grown room o' new =
        let l' : IsLegalPast job (Enter call ctx f caller ∷ past) = subst (λ (x : Item). IsLegalPast job (x ∷ past)) is l in
        let lt = has-list call.task.0 (Enter call ctx f caller) (==-refl call.task.0) l' in
        subst (λ (x : Item). IsFollowed job (x ∷ past) o') (sym is)
        (followed call.task.0 v v' lt here (Enter call ctx f caller) (λ stack. record { ctx = ctx; func = f; body = None } ∷ stack)
        (ap (λ (os : List OpenCall). reverse os) grown ∙ reverse-push v.items (record { ctx = ctx; func = f; body = None })) room
        (told-enter job past (stacks_in o) told.stacks call ctx f caller l') o' new)

    pub body-top : (call : CallNo) (g : FuncNo) (ran : Ran) → item ≡ Body call g ran → IsLegalPast job (item ∷ past)
        → (v : Vec OpenCall) → v ≡ get_or o.tasks.items call.task.0 v → slice_get (reverse v.items) 0 ≡ Some (open_call_of past call)
    body-top call g ran is l v here =
        let l' : IsLegalPast job (Body call g ran ∷ past) = subst (λ (x : Item). IsLegalPast job (x ∷ past)) is l in
        let lt = has-list call.task.0 (Body call g ran) (==-refl call.task.0) l' in
        ap (λ (os : List OpenCall). slice_get os 0) (stack-is call.task.0 v v lt here) ∙ top-at-body job past (stacks_in o) told.stacks call g ran l'

    pub after-body : (call : CallNo) (g : FuncNo) (ran : Ran) → item ≡ Body call g ran → IsLegalPast job (item ∷ past)
        → (v v' : Vec OpenCall) → v ≡ get_or o.tasks.items call.task.0 v → (top : OpenCall) → slice_get (reverse v.items) 0 ≡ Some top
        → reverse v'.items ≡ with_top (record top { body = Some g }) (reverse v.items) → vec_capacity v' ≡ vec_capacity v
        → (o' : OpenCalls) → o'.tasks.items ≡ set o.tasks.items call.task.0 v' → IsFollowed job (item ∷ past) o'
    after-body call g ran is l v v' here top top_is changed' room o' new =
        let l' : IsLegalPast job (Body call g ran ∷ past) = subst (λ (x : Item). IsLegalPast job (x ∷ past)) is l in
        let lt = has-list call.task.0 (Body call g ran) (==-refl call.task.0) l' in
        subst (λ (x : Item). IsFollowed job (x ∷ past) o') (sym is)
        (followed call.task.0 v v' lt here (Body call g ran) (λ stack. with_top (record top { body = Some g }) stack) changed' room
        (told-body job past (stacks_in o) told.stacks call g ran top l' (sym (ap (λ (os : List OpenCall). slice_get os 0) (stack-is call.task.0 v v lt here)) ∙ top_is)) o' new)

    pub after-ret : (call : CallNo) (to : Option CallNo) → item ≡ Ret call to → IsLegalPast job (item ∷ past)
        → (v v' : Vec OpenCall) → v ≡ get_or o.tasks.items call.task.0 v → reverse v'.items ≡ drop 1 (reverse v.items) → vec_capacity v' ≡ vec_capacity v
        → (o' : OpenCalls) → o'.tasks.items ≡ set o.tasks.items call.task.0 v' → IsFollowed job (item ∷ past) o'
    after-ret call to is l v v' here popped room o' new =
        let l' : IsLegalPast job (Ret call to ∷ past) = subst (λ (x : Item). IsLegalPast job (x ∷ past)) is l in
        let lt = has-list call.task.0 (Ret call to) (==-refl call.task.0) l' in
        subst (λ (x : Item). IsFollowed job (x ∷ past) o') (sym is)
        (followed call.task.0 v v' lt here (Ret call to) (λ stack. drop 1 stack) popped room (told-ret job past (stacks_in o) told.stacks call to l') o' new)

-- the list of a task that has an open call
pub list-of : (o : OpenCalls) (t : ℕ) (v : Vec OpenCall) → 0 < length (stack_at (stacks_in o) t) → v ≡ get_or o.tasks.items t v → stack_at (stacks_in o) t ≡ reverse v.items
list-of o t v some here = elim (cases_lt t (length (stacks_in o))) [
  | inl lt ↦ sym (read (λ (w : Vec OpenCall). reverse w.items) o.tasks.items (stacks_in o) refl t v lt here)
  | inr ge ↦ (let none = ap (λ (os : List OpenCall). length os) (get_or_past (stacks_in o) t [] ge) in absurd (omega (arith, none, some)))
]

module _ (job : Job) (past : List Item) (o : OpenCalls) (told : IsFollowed job past o) where
  -- at a callback the call is the top one
  pub back-open : (call : CallNo) (u : UserNo) → IsLegalPast job (Back call u ∷ past) → slice_get (stack_at (stacks_in o) call.task.0) 0 ≡ Some (open_call_of past call)
  back-open call u l = top-at-back job past (stacks_in o) told.stacks call u l

  pub exit-open : (call : CallNo) (u : UserNo) (entry : ℕ) → IsLegalPast job (Exit call u entry ∷ past) → slice_get (stack_at (stacks_in o) call.task.0) 0 ≡ Some (open_call_of past call)
  exit-open call u entry l = top-at-exit job past (stacks_in o) told.stacks call u entry l

pub some-open : (stack : List OpenCall) (call : OpenCall) → slice_get stack 0 ≡ Some call → 0 < length stack
some-open stack call e = slice_get_within stack 0 call e

-- from a place of a history to the next one: what holds after the item there
pub next-place : (P : List Item → Type 0) (items : List Item) (p : ℕ) (item : Item) → slice_get items p ≡ Some item → P (item ∷ past_at p items) → P (past_at (p + 1) items)
next-place P items p item here h = rw (add-one p) (subst P (sym (past-next items p item here)) h)

pub at-next : (job : Job) (items : List Item) (p : ℕ) (item : Item) → slice_get items p ≡ Some item → IsLegal job items → (o' : OpenCalls)
    → (IsLegalPast job (item ∷ past_at p items) → IsFollowed job (item ∷ past_at p items) o') → IsFollowed job (past_at (p + 1) items) o'
at-next job items p item here legal o' h = next-place (λ past. IsFollowed job past o') items p item here (h (legal-at items p item here job legal))

pub all-past : (items : List Item) (p : ℕ) → length items ≤ p → reverse (past_at p items) ≡ items
all-past items p past = reverse-reverse (take p items) ∙ take_all p items past
