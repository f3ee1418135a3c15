-- Whom a fetched instruction lets in, and what runs in the place of a function.
use Rattle.std.proofs.Common.{if◌then◌else◌, cond, ◌≡◌, ℕ, ◌+◌, ◌<◌, ◌≤◌, Bool, true, false, ◌&&◌, ◌==◌, List, [], ◌∷◌, length, map, drop, get_or, Option, Some, None, is_some, refl, sym, ap, ◌∙◌, subst, arith, eqb-true}
use Rattle.std.specs.Prelude.{IsTrue, ◌↔◌}
use Rattle.std.specs.List.{list_all, AllByRecursion as Each}
use Rattle.std.specs.Cmp.Derive.{both_true}
use Rattle.std.proofs.lemmas.List.{drop_more, drop_all}
use Rattle.ft_base.specs.declared.number.CallNo.{CallNo}
use Rattle.ft_base.specs.declared.number.FuncNo.{FuncNo}
use Rattle.ft_base.specs.Job.{Job}
use Rattle.ft_base.specs.Desk.{spec_at}
use Rattle.ft_base.proofs.Small.{false_true, and_both, ==-refl}
use Rattle.ft_hist.specs.Past.{Visit as Told}
use Rattle.ft_hist.specs.Rules.{OneReplaces, backs_with_replacement, replacement}
use Rattle.history_check.specs.declared.open_call.Visit.{Visit}
use Rattle.history_check.specs.TaskCalls.{visit_of}

-- ## whom it lets in

all-own : (call : CallNo) (u : ℕ) (ms : List Visit) → list_all (λ m. m.user.0 == u) ms ≡ true → Each (λ m. m.user ≡ u) (map (visit_of call) ms)
all-own call u [] e = tt
all-own call u (m ∷ ms) e =
    let both = and_both (m.user.0 == u) (list_all (λ x. x.user.0 == u) ms) e in (eqb-true m.user.0 u both.0, all-own call u ms both.1)

own-all : (call : CallNo) (u : ℕ) (ms : List Visit) → Each (λ m. m.user ≡ u) (map (visit_of call) ms) → list_all (λ m. m.user.0 == u) ms ≡ true
own-all call u [] h = refl
own-all call u (m ∷ ms) h =
    let here : (m.user.0 == u) ≡ true = subst (λ n. (m.user.0 == n) ≡ true) h.0 (==-refl m.user.0) in both_true here (own-all call u ms h.1)

-- all visits are of one user
pub own-is : (call : CallNo) (u : ℕ) (ms : List Visit) (told : List Told) → map (visit_of call) ms ≡ told → (b : Bool) → b ≡ list_all (λ m. m.user.0 == u) ms
    → IsTrue b ↔ Each (λ m. m.user ≡ u) told
own-is call u ms told same b is = (
  λ t. subst (λ (xs : List Told). Each (λ m. m.user ≡ u) xs) same (all-own call u ms (sym is ∙ t)),
  λ h. is ∙ own-all call u ms (subst (λ (xs : List Told). Each (λ m. m.user ≡ u) xs) (sym same) h),
)

-- ## what runs

-- what replaces the function at a visit
abbrev pub replacing : Job → Visit → Option FuncNo
replacing job m = if m.back then (spec_at job m.user.0).ipmodify else None

-- what runs is the replacement that was found, or else the function
abbrev pub runs_by : ℕ → ℕ → Option FuncNo → Bool
runs_by f g None = g == f
runs_by f g (Some h) = g == h.0

-- one visit more: what it says is the answer, if it isn't the first replacement
abbrev pub with_visit : Option FuncNo → Option FuncNo → (Option FuncNo → Bool) → Bool
with_visit None found rest = rest found
with_visit (Some h) None rest = rest (Some h)
with_visit (Some h) (Some other) rest = false

-- whether at most one of what was found and of these visits replaces the function, and that runs
abbrev pub is_run : Job → ℕ → ℕ → Option FuncNo → List Visit → Bool
is_run job f g found [] = runs_by f g found
is_run job f g found (m ∷ ms) = with_visit (replacing job m) found (λ o. is_run job f g o ms)

module _ (job : Job) (call : CallNo) (f g : ℕ) where
  abbrev Backs : List Visit → List Told
  Backs ms = backs_with_replacement job (map (visit_of call) ms)

  abbrev Runs : List Told → Type 0
  Runs ms = OneReplaces ms × (g ≡ replacement job f ms)

  -- one was found: no other follows, and it runs
  abbrev RunsFound : FuncNo → List Told → Type 0
  RunsFound h ms = (ms ≡ []) × (g ≡ h.0)

  -- the visit that replaces the function is kept, and no other is
  keeps : (m : Visit) (h : FuncNo) → replacing job m ≡ Some h → ((m.back && is_some (spec_at job m.user.0).ipmodify) ≡ true) × ((spec_at job m.user.0).ipmodify ≡ Some h)
  keeps m h e = by m.back (spec_at job m.user.0).ipmodify e
    where
      by : (b : Bool) (o : Option FuncNo) → cond b o None ≡ Some h → ((b && is_some o) ≡ true) × (o ≡ Some h)
      by true None x = absurd cc
      by true (Some y) x = (refl, x)
      by false o x = absurd cc

  drops : (m : Visit) → replacing job m ≡ None → (m.back && is_some (spec_at job m.user.0).ipmodify) ≡ false
  drops m e = by m.back (spec_at job m.user.0).ipmodify e
    where
      by : (b : Bool) (o : Option FuncNo) → cond b o None ≡ None → (b && is_some o) ≡ false
      by true None x = refl
      by true (Some y) x = absurd cc
      by false o x = refl

  kept : (m : Visit) (ms : List Visit) (h : FuncNo) → replacing job m ≡ Some h → Backs (m ∷ ms) ≡ visit_of call m ∷ Backs ms
  kept m ms h e = ap (λ b. cond b (visit_of call m ∷ Backs ms) (Backs ms)) (keeps m h e).0

  dropped : (m : Visit) (ms : List Visit) → replacing job m ≡ None → Backs (m ∷ ms) ≡ Backs ms
  dropped m ms e = ap (λ b. cond b (visit_of call m ∷ Backs ms) (Backs ms)) (drops m e)

  -- after one was found
  run-found : (h : FuncNo) (ms : List Visit) → IsTrue (is_run job f g (Some h) ms) ↔ RunsFound h (Backs ms)
  run-found h [] = (λ e. (refl, eqb-true g h.0 e), λ r. subst (λ n. (g == n) ≡ true) r.1 (==-refl g))
  run-found h (m ∷ ms) =
      elim (replacing job m) as (λ o. replacing job m ≡ o → IsTrue (with_visit o (Some h) (λ x. is_run job f g x ms)) ↔ RunsFound h (Backs (m ∷ ms))) [
        | None ↦ λ e. subst (λ (xs : List Told). IsTrue (is_run job f g (Some h) ms) ↔ RunsFound h xs) (sym (dropped m ms e)) (run-found h ms)
        | Some x ↦ λ e. (λ t. false_true t, λ r. absurd (let z : visit_of call m ∷ Backs ms ≡ [] = sym (kept m ms x e) ∙ r.0 in cc))
      ] refl

  runs-one : (h : FuncNo) (m : Told) (ms : List Told) → (spec_at job m.user).ipmodify ≡ Some h → replacement job f (m ∷ ms) ≡ h.0
  runs-one h m ms e = rw e refl

  alone : (h : FuncNo) (m : Told) (ms : List Told) → (spec_at job m.user).ipmodify ≡ Some h → RunsFound h ms ↔ Runs (m ∷ ms)
  alone h m [] e = (λ r. (omega arith, r.1 ∙ sym (runs-one h m [] e)), λ r. (refl, r.1 ∙ runs-one h m [] e))
  alone h m (x ∷ ms) e = (
    λ r. absurd (let z : x ∷ ms ≡ [] = r.0 in cc),
    λ r. absurd (let z : length (m ∷ x ∷ ms) ≤ 1 = r.0 in omega arith),
  )

  -- before one was found
  run-is : (ms : List Visit) → IsTrue (is_run job f g None ms) ↔ Runs (Backs ms)
  run-is [] = (λ e. (omega arith, eqb-true g f e), λ r. subst (λ n. (g == n) ≡ true) r.1 (==-refl g))
  run-is (m ∷ ms) =
      elim (replacing job m) as (λ o. replacing job m ≡ o → IsTrue (with_visit o None (λ x. is_run job f g x ms)) ↔ Runs (Backs (m ∷ ms))) [
        | None ↦ λ e. subst (λ (xs : List Told). IsTrue (is_run job f g None ms) ↔ Runs xs) (sym (dropped m ms e)) (run-is ms)
        | Some h ↦ λ e.
            (let found = run-found h ms in
            let one = alone h (visit_of call m) (Backs ms) (keeps m h e).1 in
            subst (λ (xs : List Told). IsTrue (is_run job f g (Some h) ms) ↔ Runs xs) (sym (kept m ms h e)) (λ t. one.0 (found.0 t), λ r. found.1 (one.1 r)))
      ] refl

  -- what is said of all visits is said by the rule
  pub run-told : (ms : List Visit) (told : List Told) → map (visit_of call) ms ≡ told → (b : Bool) → b ≡ is_run job f g None ms
      → IsTrue b ↔ Runs (backs_with_replacement job told)
  run-told ms told same b is =
      let all = run-is ms in (
        λ t. subst (λ (xs : List Told). Runs (backs_with_replacement job xs)) same (all.0 (sym is ∙ t)),
        λ r. is ∙ all.1 (subst (λ (xs : List Told). Runs (backs_with_replacement job xs)) (sym same) r),
      )

-- ## the visits one by one

module _ (job : Job) (f g : ℕ) (ms : List Visit) where
  module _ (i : ℕ) (m : Visit) (found : Option FuncNo) (lt : i < length ms) (here : m ≡ get_or ms i m) where
    at-visit : is_run job f g found (drop i ms) ≡ with_visit (replacing job m) found (λ o. is_run job f g o (drop (i + 1) ms))
    at-visit = ap (λ (xs : List Visit). is_run job f g found xs) (drop_more ms i m lt ∙ ap (λ (x : Visit). x ∷ drop (i + 1) ms) (sym here))

    -- the second
    pub run-second : (h : FuncNo) → replacing job m ≡ Some h → is_some found ≡ true → is_run job f g found (drop i ms) ≡ false
    run-second h e some = at-visit ∙ ap (λ o. with_visit o found (λ x. is_run job f g x (drop (i + 1) ms))) e ∙ by found some
      where
        by : (o : Option FuncNo) → is_some o ≡ true → with_visit (Some h) o (λ x. is_run job f g x (drop (i + 1) ms)) ≡ false
        by None n = absurd cc
        by (Some x) n = refl

  pub run-over : (i : ℕ) (found : Option FuncNo) → length ms ≤ i → is_run job f g found (drop i ms) ≡ runs_by f g found
  run-over i found all = ap (λ (xs : List Visit). is_run job f g found xs) (drop_all i ms all)
