-- The outcome after one item more.
use Rattle.std.proofs.Common.{◌≡◌, ℕ, ◌==◌, Bool, true, false, List, [], ◌∷◌, ◌++◌, map, get_or, drop, Option, Some, None, if◌then◌else◌, refl, sym, ap, ◌∙◌, append_assoc, append-nil}
use Rattle.std.proofs.lemmas.List.{map-append}
use Rattle.std.specs.List.{range_with_len}
use Rattle.std.specs.Option.{option_to_list}
use Rattle.ft_base.specs.declared.number.CallNo.{CallNo}
use Rattle.ft_base.specs.declared.number.FuncNo.{FuncNo}
use Rattle.ft_base.specs.declared.item.Answer.{Answer}
use Rattle.ft_base.specs.declared.item.Item.{Item}
use Rattle.job_outcomes.specs.Outcomes.{Happening, CallTold, Outcome, happening, of_call, happened, entered, told_of, calls_of, refusal, refusals, outcome}

happened-next : (call : CallNo) (items : List Item) (x : Item) → happened call (items ++ x ∷ []) ≡ happened call items ++ of_call call (happening x)
happened-next call [] x = append-nil (of_call call (happening x))
happened-next call (y ∷ items) x =
    ap (λ (l : List Happening). of_call call (happening y) ++ l) (happened-next call items x) ∙ sym (append_assoc (of_call call (happening y)) (happened call items) (of_call call (happening x)))

-- a call of which one item more is told
abbrev more : Item → CallTold → CallTold
more x c = record c { happened = c.happened ++ of_call c.call (happening x) }

told-next : (t : ℕ) (e : Option (CallNo × FuncNo)) (items : List Item) (x : Item) → told_of t e (items ++ x ∷ []) ≡ map (more x) (told_of t e items)
told-next t None items x = refl
told-next t (Some e) items x = by (e.0.task.0 == t)
  where
    by : (b : Bool) → (if b then record { call = e.0; func = e.1; happened = happened e.0 (items ++ x ∷ []) } ∷ [] else []) ≡ map (more x) (if b then record { call = e.0; func = e.1; happened = happened e.0 items } ∷ [] else [])
    by true = ap (λ (h : List Happening). record { call = e.0; func = e.1; happened = h } ∷ []) (happened-next e.0 items x)
    by false = refl

calls-next : (t : ℕ) (items : List Item) (x : Item) → calls_of t (items ++ x ∷ []) ≡ map (more x) (calls_of t items) ++ told_of t (entered x) []
calls-next t [] x = append-nil (told_of t (entered x) [])
calls-next t (y ∷ items) x =
    (λ i. told-next t (entered y) items x i ++ calls-next t items x i)
    ∙ sym (append_assoc (map (more x) (told_of t (entered y) items)) (map (more x) (calls_of t items)) (told_of t (entered x) []))
    ∙ ap (λ (l : List CallTold). l ++ told_of t (entered x) []) (sym (map-append (more x) (told_of t (entered y) items) (calls_of t items)))

-- so for each of these tasks, if as much was told before
all-next : (ts : List ℕ) (a b : List Item) (x : Item) → map (λ t. calls_of t a) ts ≡ map (λ t. calls_of t b) ts → map (λ t. calls_of t (a ++ x ∷ [])) ts ≡ map (λ t. calls_of t (b ++ x ∷ [])) ts
all-next [] a b x e = refl
all-next (t ∷ ts) a b x e =
    let here : calls_of t a ≡ calls_of t b = ap (λ l. get_or l 0 []) e in
    let rest : map (λ u. calls_of u a) ts ≡ map (λ u. calls_of u b) ts = ap (drop 1) e in
    λ i. (calls-next t a x ∙ ap (λ (l : List CallTold). map (more x) l ++ told_of t (entered x) []) here ∙ sym (calls-next t b x)) i ∷ all-next ts a b x rest i

refusals-next : (items : List Item) (x : Item) → refusals (items ++ x ∷ []) ≡ refusals items ++ refusals (x ∷ [])
refusals-next [] x = refl
refusals-next (y ∷ items) x =
    ap (λ (l : List (ℕ × Answer)). option_to_list (refusal y) ++ l) (refusals-next items x) ∙ sym (append_assoc (option_to_list (refusal y)) (refusals items) (refusals (x ∷ [])))

-- one outcome stays one
pub outcome-next : (tasks : ℕ) (a b : List Item) (x : Item) → outcome tasks a ≡ outcome tasks b → outcome tasks (a ++ x ∷ []) ≡ outcome tasks (b ++ x ∷ [])
outcome-next tasks a b x e =
    let calls : map (λ t. calls_of t (a ++ x ∷ [])) (range_with_len 0 tasks) ≡ map (λ t. calls_of t (b ++ x ∷ [])) (range_with_len 0 tasks) = all-next (range_with_len 0 tasks) a b x (ap (λ (o : Outcome). o.calls) e) in
    let refused : refusals (a ++ x ∷ []) ≡ refusals (b ++ x ∷ []) = refusals-next a x ∙ ap (λ (o : Outcome). o.refused ++ refusals (x ∷ [])) e ∙ sym (refusals-next b x) in
    λ i. record { calls = calls i; refused = refused i }
