-- Hidden functions, and what a user matches beside them.
use Rattle.std.proofs.Common.{cond, ◌≡◌, ℕ, zero, suc, ◌+◌, ◌<◌, ◌≤◌, Bool, true, false, not, ◌&&◌, ◌||◌, List, [], ◌∷◌, length, get_or, set, Option, Some, None, refl, sym, ap, ◌∙◌, arith, inl, inr, get_or-set_same, get_or-set_other}
use Rattle.std.proofs.lemmas.Bool.{cases_eq, cases_lt}
use Rattle.std.proofs.lemmas.List.{length-map, length-set}
use Rattle.ft_base.specs.Marks.{Marks, holds, is_empty, union, empty}
use Rattle.ft_base.specs.Desk.{matches_by, edited}
use Rattle.ft_base.proofs.Small.{false_true, and_both}
use Rattle.site_set.proofs.MarksLemmas.{length-empty, holds-empty, IsEmpty-from_is_empty, holds-union, same_members, union-empty}
use Rattle.module_table.specs.Lines.{hidden, is_hidden, replacing}

-- a function is hidden by its module
pub holds-hidden : (owners : List (Option ℕ)) (loaded : List Bool) (f : ℕ) → holds (hidden owners loaded) f ≡ is_hidden loaded (get_or owners f None)
holds-hidden [] loaded f = refl
holds-hidden (o ∷ os) loaded zero = refl
holds-hidden (o ∷ os) loaded (suc f) = holds-hidden os loaded f

-- the same, under a name that an attribute can have
pub holds_hidden : (owners : List (Option ℕ)) (loaded : List Bool) (f : ℕ) → holds (hidden owners loaded) f ≡ is_hidden loaded (get_or owners f None)
holds_hidden = holds-hidden

pub length-hidden : (owners : List (Option ℕ)) (loaded : List Bool) → length (hidden owners loaded) ≡ length owners
length-hidden owners loaded = length-map owners (is_hidden loaded)

-- what is hidden once a module is loaded was hidden before
pub hidden-load : (loaded : List Bool) (m : ℕ) (o : Option ℕ) → m < length loaded → is_hidden (set loaded m true) o ≡ true → is_hidden loaded o ≡ true
hidden-load loaded m None lt e = e
hidden-load loaded m (Some k) lt e = elim (cases_eq k m) [
  | inl same ↦ false_true (sym (ap not (ap (λ i. get_or (set loaded m true) i true) same ∙ get_or-set_same loaded m true true lt)) ∙ e)
  | inr apart ↦ ap not (sym (get_or-set_other loaded m k true true apart)) ∙ e
]

-- what is hidden stays hidden once a module is unloaded
pub hidden-unload : (loaded : List Bool) (m : ℕ) (o : Option ℕ) → m < length loaded → is_hidden loaded o ≡ true → is_hidden (set loaded m false) o ≡ true
hidden-unload loaded m None lt e = e
hidden-unload loaded m (Some k) lt e = elim (cases_eq k m) [
  | inl same ↦ ap not (ap (λ i. get_or (set loaded m false) i true) same ∙ get_or-set_same loaded m false true lt)
  | inr apart ↦ ap not (get_or-set_other loaded m k false true apart) ∙ e
]

-- ## sets that replace

-- the edit leaves exactly the set
pub edited-replacing : (old set : Marks) → edited (length set) old (replacing set) ≡ set
edited-replacing old set = by (is_empty set) refl
  where
    by : (b : Bool) → is_empty set ≡ b → cond b (empty (length set)) (union (empty (length set)) set) ≡ set
    by true e = same_members (empty (length set)) set (length-empty (length set))
        (λ f lt. holds-empty (length set) f ∙ sym (IsEmpty-from_is_empty set e f))
    by false e = union-empty set

-- and selects something, or clears
pub selects-replacing : (set : Marks) → (is_empty set || not (is_empty set)) ≡ true
selects-replacing set = by (is_empty set)
  where
    by : (b : Bool) → (b || not b) ≡ true
    by true = refl
    by false = refl

-- ## what is matched

-- what is matched beside more functions is matched beside fewer
pub matches-fewer : (filter many few : Marks) (f : ℕ) → (holds few f ≡ true → holds many f ≡ true) → matches_by filter many f ≡ true → matches_by filter few f ≡ true
matches-fewer filter many few f more e = by (holds few f) refl
  where
    parts : ((is_empty filter || holds filter f) ≡ true) × (not (holds many f) ≡ true)
    parts = and_both (is_empty filter || holds filter f) (not (holds many f)) e

    by : (b : Bool) → holds few f ≡ b → matches_by filter few f ≡ true
    by true h = false_true (sym (ap not (more h)) ∙ parts.1)
    by false h = rw (parts.0, h) refl

-- a union with fewer functions has fewer
pub union-fewer : (own many few : Marks) (f : ℕ) → length many ≡ length own → length few ≡ length own
    → (holds few f ≡ true → holds many f ≡ true) → holds (union own few) f ≡ true → holds (union own many) f ≡ true
union-fewer own many few f lm lf more e = holds-union own many (omega arith) f ∙ by (holds own f) refl
  where
    by : (b : Bool) → holds own f ≡ b → (b || holds many f) ≡ true
    by true h = refl
    by false h = more (sym (ap (λ x. x || holds few f) h) ∙ sym (holds-union own few (omega arith) f) ∙ e)

-- beside a union: beside its first set, where the second hasn't the function
pub matches-union : (filter own hidden : Marks) (f : ℕ) → length hidden ≡ length own
    → matches_by filter (union own hidden) f ≡ (matches_by filter own f && not (holds hidden f))
matches-union filter own hidden f same = rw (holds-union own hidden (omega arith) f) (by (is_empty filter || holds filter f) (holds own f) (holds hidden f))
  where
    by : (a b c : Bool) → (a && not (b || c)) ≡ ((a && not b) && not c)
    by false b c = refl
    by true true c = refl
    by true false c = refl

-- ## a set that is filled function by function

-- below f the set is as these marks say, and from f on it has no member
pub record IsUpTo (marks set : Marks) (f : ℕ) : Type 0 where
  pub size : length set ≡ length marks
  pub below : (k : ℕ) → k < f → holds set k ≡ holds marks k
  pub from : (k : ℕ) → f ≤ k → holds set k ≡ false

pub up_to-empty : (marks : Marks) (n : ℕ) → n ≡ length marks → IsUpTo marks (empty n) 0
up_to-empty marks n e = record {
  size = length-empty n ∙ e;
  below = λ k under. absurd (omega arith);
  from = λ k over. holds-empty n k;
}

pub up_to-add : (marks set' : Marks) (f : ℕ) → f < length marks → holds marks f ≡ true → IsUpTo marks set' f → IsUpTo marks (set set' f true) (f + 1)
up_to-add marks set' f within passes is = record {
  size = length-set set' f true ∙ is.size;
  below = λ k under. elim (cases_lt k f) [
    | inl h ↦ get_or-set_other set' f k true false (omega arith) ∙ is.below k h
    | inr h ↦ let same : f ≡ k = omega arith in
        ap (λ i. holds (set set' f true) i) (sym same) ∙ get_or-set_same set' f true false (let e = is.size in omega arith) ∙ sym passes ∙ ap (holds marks) same
  ];
  from = λ k over. get_or-set_other set' f k true false (omega arith) ∙ is.from k (omega arith);
}

pub up_to-skip : (marks set : Marks) (f : ℕ) → holds marks f ≡ false → IsUpTo marks set f → IsUpTo marks set (f + 1)
up_to-skip marks set f fails is = record {
  size = is.size;
  below = λ k under. elim (cases_lt k f) [
    | inl h ↦ is.below k h
    | inr h ↦ let same : f ≡ k = omega arith in ap (holds set) (sym same) ∙ is.from f (omega arith) ∙ sym fails ∙ ap (holds marks) same
  ];
  from = λ k over. is.from k (omega arith);
}

pub up_to-end : (marks set : Marks) (f : ℕ) → length marks ≤ f → IsUpTo marks set f → set ≡ marks
up_to-end marks set f past is = same_members set marks is.size (λ k within. is.below k (let e = is.size in omega arith))
