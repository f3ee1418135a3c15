-- Sets of functions as marks, one for each function of the table.
use Rattle.std.proofs.Common.{◌≡◌, ℕ, ◌+◌, ◌<◌, ◌≤◌, arith, Bool, true, false, List, map, length, slice_get, slice_set, Option, Some, None, option_map, sym, ap, ap₂, ◌∙◌, inl, inr, ext_get_or}
use Rattle.std.proofs.lemmas.Bool.{cases_lt}
use Rattle.std.proofs.lemmas.List.{get_or-set_same, get_or-set_other, length-set}
use Rattle.std.proofs.lemmas.Option.{slice_get-map, get_or_from_slice_get}
use Rattle.ft_base.specs.Marks.{Marks, holds, empty}
use Rattle.ft_base.specs.Job.{Func}
use Rattle.site_set.proofs.MarksLemmas.{holds-empty, length-empty}

-- the function whose name and module these are
function_at : (o : Option Func) (name : List ℕ) (owner : Option (List ℕ)) → option_map (λ f. f.name) o ≡ Some name → option_map (λ f. f.owner) o ≡ Some owner → o ≡ Some (record { name = name; owner = owner })
function_at None name owner n m = absurd cc
function_at (Some f) name owner n m =
    let same_name : f.name ≡ name = cc in
    let same_owner : f.owner ≡ owner = cc in
    ap₂ (λ (x : List ℕ) (y : Option (List ℕ)). Some (record { name = x; owner = y })) same_name same_owner

-- the mark of a function in the set of those that pass a test
pub holds-map : (test : Func → Bool) (fs : List Func) (k : ℕ) (name : List ℕ) (owner : Option (List ℕ)) → slice_get (map (λ f. f.name) fs) k ≡ Some name → slice_get (map (λ f. f.owner) fs) k ≡ Some owner → holds (map test fs) k ≡ test (record { name = name; owner = owner })
holds-map test fs k name owner n m =
    let here = function_at (slice_get fs k) name owner (sym (slice_get-map (λ (f : Func). f.name) fs k) ∙ n) (sym (slice_get-map (λ (f : Func). f.owner) fs k) ∙ m) in
    get_or_from_slice_get (map test fs) k (test (record { name = name; owner = owner })) false (slice_get-map test fs k ∙ ap (option_map test) here)

-- below f the set is as these marks say, and from f on it has no member
pub record IsUpTo (marks set : Marks) (f : ℕ) : Type 0 where
  pub size : length set ≡ length marks
  pub below : (k : ℕ) → k < f → holds set k ≡ holds marks k
  pub from : (k : ℕ) → f ≤ k → holds set k ≡ false

pub IsUpTo-empty : (marks : Marks) (n : ℕ) → n ≡ length marks → IsUpTo marks (empty n) 0
IsUpTo-empty marks n e = record {
  size = length-empty n ∙ e;
  below = λ k under. absurd (omega arith);
  from = λ k over. holds-empty n k;
}

pub IsUpTo-add : (marks set : Marks) (f : ℕ) → f < length marks → holds marks f ≡ true → IsUpTo marks set f → IsUpTo marks (slice_set set f true) (f + 1)
IsUpTo-add marks set f within passes is = record {
  size = length-set set f true ∙ is.size;
  below = λ k under. elim (cases_lt k f) [
    | inl h ↦ get_or-set_other set f k true false (omega arith) ∙ is.below k h
    | inr h ↦ let same : f ≡ k = omega arith in
        ap (λ i. holds (slice_set set f true) i) (sym same) ∙ get_or-set_same set f true false (let e = is.size in omega arith) ∙ sym passes ∙ ap (holds marks) same
  ];
  from = λ k over. get_or-set_other set f k true false (omega arith) ∙ is.from k (omega arith);
}

pub IsUpTo-skip : (marks set : Marks) (f : ℕ) → holds marks f ≡ false → IsUpTo marks set f → IsUpTo marks set (f + 1)
IsUpTo-skip marks set f fails is = record {
  size = is.size;
  below = λ k under. elim (cases_lt k f) [
    | inl h ↦ is.below k h
    | inr h ↦ let same : f ≡ k = omega arith in
        ap (holds set) (sym same) ∙ is.from f (omega arith) ∙ sym fails ∙ ap (holds marks) same
  ];
  from = λ k over. is.from k (omega arith);
}

pub IsUpTo-end : (marks set : Marks) (f : ℕ) → length marks ≤ f → IsUpTo marks set f → set ≡ marks
IsUpTo-end marks set f past is = ext_get_or false set marks is.size (λ k within. is.below k (let e = is.size in omega arith))
