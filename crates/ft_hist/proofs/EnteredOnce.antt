-- Each call is entered once, from the latest open call of its task, and before its other items, which come while it is open.
use Rattle.std.proofs.Common.{◌≡◌, Bool, true, false, not, ◌&&◌, ◌||◌, List, [], ◌∷◌, ◌++◌, reverse, Option, Some, refl, sym, ap, ◌∙◌, subst, append_assoc}
use Rattle.std.specs.Prelude.{◌≢◌, slice_get}
use Rattle.std.specs.List.{list_any}
use Rattle.std.proofs.lemmas.List.{reverse-reverse}
use Rattle.ft_base.specs.declared.number.CallNo.{CallNo}
use Rattle.ft_base.specs.declared.number.FuncNo.{FuncNo}
use Rattle.ft_base.specs.declared.context.Ctx.{Ctx}
use Rattle.ft_base.specs.declared.item.Item.{Item}
use Rattle.ft_base.specs.declared.item.Item.TheVariants.{Begin, Return, Enter, Ret}
use Rattle.ft_base.specs.Items.{call_of}
use Rattle.ft_base.specs.Same.{same_call}
use Rattle.ft_base.specs.Job.{Job}
use Rattle.ft_base.proofs.Small.{false_true}
use Rattle.ft_hist.specs.Past.{is_of, is_open}
use Rattle.ft_hist.specs.Plain.{PlainTask}
use Rattle.ft_hist.specs.Rules.{IsLegal, IsLegalPast, MayFollow}
use Rattle.ft_hist.specs.Telling.{is_ret_of, open_calls}
use Rattle.ft_hist.proofs.Laws.{same_call-refl, own-item}
use Rattle.ft_hist.proofs.RunLaws.{same_call-eq, calls_on, Keeps, Moves}
use Rattle.ft_hist.proofs.FrameCounts.{opens, top-open}
use Rattle.ft_hist.proofs.Splitting.{splits, split-reverse, legal-older}
use Rattle.ft_hist.proofs.Numbers.{moved, some-run, enters-fresh, past-enter, past-through}
use Rattle.ft_hist.proofs.Nesting.{top_of, entering}
use Rattle.ft_hist.proofs.ByItems.{any-reverse}
use Rattle.ft_hist.proofs.ItemOrders.{legal-to}

-- ## the Enter of a call names the latest open call of its task

first-is : (cs : List CallNo) → top_of cs ≡ slice_get cs 0
first-is [] = refl
first-is (c ∷ cs) = refl

pub from-latest : (job : Job) (items first rest : List Item) (call : CallNo) (ctx : Ctx) (f : FuncNo) (caller : Option CallNo) → IsLegal job items → items ≡ first ++ Enter call ctx f caller ∷ rest
    → caller ≡ slice_get (open_calls call.task.0 (reverse first)) 0
unfolding IsLegalPast
from-latest job items first rest call ctx f caller legal e =
    let here : IsLegalPast job (Enter call ctx f caller ∷ reverse first) = (splits job items first (Enter call ctx f caller) rest legal e, legal-to job items first (Enter call ctx f caller ∷ rest) legal e) in
    let en = entering job call ctx f caller (reverse first) here in
    let o = opens job call.task.0 (reverse first) en.run en.run_is in
    en.caller_is ∙ first-is (calls_on en.run.stack) ∙ ap (λ (cs : List CallNo). slice_get cs 0) (sym o.open')

-- ## each other item of a call comes while the call is open

module _ (call : CallNo) where
  -- the call was entered, and has not returned since
  abbrev pub WasEntered : List Item → Type 0
  WasEntered past = (newer : List Item) × (ctx : Ctx) × (f : FuncNo) × (caller : Option CallNo) × (older : List Item) × (past ≡ newer ++ Enter call ctx f caller ∷ older) × (list_any (is_ret_of call) newer ≡ false)

  after : (z : Item) (past : List Item) → is_ret_of call z ≡ false → WasEntered past → WasEntered (z ∷ past)
  after z past other w = (z ∷ w.0, w.1, w.2, w.3, w.4, ap (λ (zs : List Item). z ∷ zs) w.5, rw (other, w.6) refl)

  at-enter : (c : CallNo) (ctx : Ctx) (f : FuncNo) (caller : Option CallNo) (past : List Item) (b : Bool) → same_call c call ≡ b → (b || is_open call past) ≡ true → (is_open call past ≡ true → WasEntered past) → WasEntered (Enter c ctx f caller ∷ past)
  at-enter c ctx f caller past true q h more = ([], ctx, f, caller, past, ap (λ (d : CallNo). Enter d ctx f caller ∷ past) (same_call-eq c call q), refl)
  at-enter c ctx f caller past false q h more = after (Enter c ctx f caller) past refl (more h)

  at-ret : (c : CallNo) (to : Option CallNo) (past : List Item) (b : Bool) → same_call c call ≡ b → (not b && is_open call past) ≡ true → (is_open call past ≡ true → WasEntered past) → WasEntered (Ret c to ∷ past)
  at-ret c to past true q h more = absurd cc
  at-ret c to past false q h more = after (Ret c to) past q (more h)

  was-entered : (past : List Item) → is_open call past ≡ true → WasEntered past
  was-entered [] h = absurd cc
  was-entered (Enter c ctx f caller ∷ past) h = at-enter c ctx f caller past (same_call c call) refl h (was-entered past)
  was-entered (Ret c to ∷ past) h = at-ret c to past (same_call c call) refl h (was-entered past)
  was-entered (x ∷ past) h = after x past refl (was-entered past h)

-- whether an item is an Enter
abbrev is_enter_item : Item → Bool
is_enter_item (Enter c ctx f caller) = true
is_enter_item _ = false

no-enter : (call : CallNo) (x : Item) → call_of x ≡ Some call → ((ctx : Ctx) (f : FuncNo) (caller : Option CallNo) → x ≢ Enter call ctx f caller) → is_enter_item x ≡ false
no-enter call (Enter c ctx f caller) is other = let same : c ≡ call = cc in absurd (other ctx f caller (ap (λ (d : CallNo). Enter d ctx f caller) same))
no-enter call _ is other = refl

module _ (job : Job) (call : CallNo) (past : List Item) where
  kept-open : (x : Item) → is_of call.task.0 x ≡ true → ((p s : PlainTask) → Moves p s x → (below : List CallNo) × (calls_on p.stack ≡ call ∷ below)) → IsLegalPast job (x ∷ past) → is_open call past ≡ true
  kept-open x own top l =
      let r = some-run job call.task.0 (x ∷ past) l in
      let m = moved job call.task.0 x past r.0 own r.1 in
      let k = top m.0 r.0 m.2 in
      top-open job call.task.0 past m.0 call k.0 m.1 k.1

  on-top : (p s : PlainTask) (c : CallNo) → Keeps p s c → c ≡ call → (below : List CallNo) × (calls_on p.stack ≡ call ∷ below)
  on-top p s c k same = (k.top.0, k.top.1 ∙ ap (λ (d : CallNo). d ∷ k.top.0) same)

  pub open-at : (x : Item) → call_of x ≡ Some call → is_enter_item x ≡ false → IsLegalPast job (x ∷ past) → is_open call past ≡ true
  open-at (Begin k) is other l = absurd cc
  open-at (Return k a) is other l = absurd cc
  open-at (Enter c ctx f caller) is other l = absurd cc
  open-at (Ret c to) is other l = let same : c ≡ call = cc in kept-open (Ret c to) (own-item (Ret c to) call is) (λ p s m. (calls_on s.stack, m.calls ∙ ap (λ (d : CallNo). d ∷ calls_on s.stack) same)) l
  open-at x is other l = kept-open x (own-item x call is) (λ p s m. on-top p s _ m cc) l

pub enters-first : (job : Job) (items first rest : List Item) (call : CallNo) (x : Item) → IsLegal job items → items ≡ first ++ x ∷ rest → call_of x ≡ Some call
    → ((ctx : Ctx) (f : FuncNo) (caller : Option CallNo) → x ≢ Enter call ctx f caller)
    → (a : List Item) × (ctx : Ctx) × (f : FuncNo) × (caller : Option CallNo) × (b : List Item) × (first ≡ a ++ Enter call ctx f caller ∷ b) × (list_any (is_ret_of call) b ≡ false)
unfolding IsLegalPast
enters-first job items first rest call x legal e is other =
    let here : IsLegalPast job (x ∷ reverse first) = (splits job items first x rest legal e, legal-to job items first (x ∷ rest) legal e) in
    let w = was-entered call (reverse first) (open-at job call (reverse first) x is (no-enter call x is other) here) in
    let shape : first ≡ reverse w.4 ++ Enter call w.1 w.2 w.3 ∷ reverse w.0 =
    sym (reverse-reverse first) ∙ ap (λ (xs : List Item). reverse xs) w.5 ∙ split-reverse w.0 (Enter call w.1 w.2 w.3) w.4 in
    (reverse w.4, w.1, w.2, w.3, reverse w.0, shape, any-reverse (is_ret_of call) w.0 ∙ w.6)

-- ## no call is entered again

pub enters-once : (job : Job) (items a b c : List Item) (call : CallNo) (ctx ctx' : Ctx) (f f' : FuncNo) (caller caller' : Option CallNo) → IsLegal job items
    → items ≢ a ++ Enter call ctx f caller ∷ (b ++ Enter call ctx' f' caller' ∷ c)
unfolding IsLegalPast
enters-once job items a b c call ctx ctx' f f' caller caller' legal e =
    let split : items ≡ (a ++ Enter call ctx f caller ∷ b) ++ Enter call ctx' f' caller' ∷ c = e ∙ sym (append_assoc a (Enter call ctx f caller ∷ b) (Enter call ctx' f' caller' ∷ c)) in
    let before = legal-to job items (a ++ Enter call ctx f caller ∷ b) (Enter call ctx' f' caller' ∷ c) legal split in
    let past_is = split-reverse a (Enter call ctx f caller) b in
    let l : IsLegalPast job (reverse b ++ Enter call ctx f caller ∷ reverse a) = subst (λ (past : List Item). IsLegalPast job past) past_is before in
    let first : IsLegalPast job (Enter call ctx f caller ∷ reverse a) = legal-older job (reverse b) (Enter call ctx f caller ∷ reverse a) l in
    let past = past-through job call (reverse b) (Enter call ctx f caller ∷ reverse a) l (past-enter job call ctx f caller (reverse a) first) in
    let again : IsLegalPast job (Enter call ctx' f' caller' ∷ (reverse b ++ Enter call ctx f caller ∷ reverse a)) =
    (subst (λ (past : List Item). MayFollow job past (Enter call ctx' f' caller')) past_is (splits job items (a ++ Enter call ctx f caller ∷ b) (Enter call ctx' f' caller') c legal split), l) in
    let fresh = enters-fresh job call (Enter call ctx' f' caller') (reverse b ++ Enter call ctx f caller ∷ reverse a) again past in
    false_true (sym fresh ∙ same_call-refl call)
