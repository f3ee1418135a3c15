-- What an edit makes of a set.
use Rattle.std.proofs.Common.{◌≡◌, ℕ, ◌&&◌, ◌||◌, not, Bool, true, false, cond, length, refl, ap, ◌∙◌, arith, if◌then◌else◌}
use Rattle.site_set.proofs.MarksLemmas.{length-empty, holds-empty, is_empty-empty, IsEmpty-from_is_empty, is_empty-from_IsEmpty, length-union, holds-union, length-difference, holds-difference}
use Rattle.ft_base.specs.Marks.{Marks, holds, is_empty, empty, union, difference}
use Rattle.ft_base.specs.Job.{Edit}
use Rattle.ft_base.specs.Desk.{edited}

-- the set that an edit starts from: the set as it is, or the empty set
abbrev pub start : Bool → ℕ → Marks → Marks
start append size old = if append then old else empty size

length-start : (append : Bool) (size : ℕ) (old : Marks) → length old ≡ size → length (start append size old) ≡ size
length-start true size old h = h
length-start false size old h = length-empty size

holds-start : (append : Bool) (size : ℕ) (old : Marks) (f : ℕ) → holds (start append size old) f ≡ (append && holds old f)
holds-start true size old f = refl
holds-start false size old f = holds-empty size f

-- ---- the steps of an edit that doesn't clear

pub start-as_it_is : (size : ℕ) (old now : Marks) (append : Bool) → append ≡ true → now ≡ old → now ≡ start append size old
start-as_it_is size old now append e is = rw e is

pub start-anew : (size : ℕ) (old now : Marks) (append : Bool) → append ≡ false → now ≡ empty size → now ≡ start append size old
start-anew size old now append e is = rw e is

pub edited-removes : (size : ℕ) (old now new : Marks) (edit : Edit) → edit.clear ≡ false → edit.remove ≡ true → now ≡ start edit.append size old
    → new ≡ difference now edit.set → new ≡ edited size old edit
edited-removes size old now new edit kept removes from is = rw (kept, removes, ← from) is

pub edited-adds : (size : ℕ) (old now new : Marks) (edit : Edit) → edit.clear ≡ false → edit.remove ≡ false → now ≡ start edit.append size old
    → new ≡ union now edit.set → new ≡ edited size old edit
edited-adds size old now new edit kept adds from is = rw (kept, adds, ← from) is

-- ---- an edit as a whole

-- it keeps the size
pub length-edited : (size : ℕ) (old : Marks) (edit : Edit) → length old ≡ size → length (edited size old edit) ≡ size
length-edited size old edit h =
    by_parts edit.clear edit.remove
  where
    by_parts : (clear remove : Bool)
        → length (cond clear (empty size) (cond remove (difference (start edit.append size old) edit.set) (union (start edit.append size old) edit.set))) ≡ size
    by_parts true remove = length-empty size
    by_parts false true = length-difference (start edit.append size old) edit.set ∙ length-start edit.append size old h
    by_parts false false = length-union (start edit.append size old) edit.set ∙ length-start edit.append size old h

-- what it makes of each function
pub holds-edited : (size f : ℕ) (old : Marks) (edit : Edit) → length old ≡ size → length edit.set ≡ size
    → holds (edited size old edit) f
    ≡ (not edit.clear && (if edit.remove then (edit.append && holds old f) && not (holds edit.set f) else (edit.append && holds old f) || holds edit.set f))
holds-edited size f old edit h k =
    by_parts edit.clear edit.remove
  where
    from : Marks
    from = start edit.append size old

    was : Bool
    was = edit.append && holds old f

    by_parts : (clear remove : Bool) → holds (cond clear (empty size) (cond remove (difference (start edit.append size old) edit.set) (union (start edit.append size old) edit.set))) f
        ≡ (not clear && cond remove ((edit.append && holds old f) && not (holds edit.set f)) ((edit.append && holds old f) || holds edit.set f))
    by_parts true remove = holds-empty size f
    by_parts false true = holds-difference (start edit.append size old) edit.set f ∙ ap (λ b. b && not (holds edit.set f)) (holds-start edit.append size old f)
    by_parts false false = holds-union (start edit.append size old) edit.set (omega (arith, length-start edit.append size old h)) f
        ∙ ap (λ b. b || holds edit.set f) (holds-start edit.append size old f)

-- what was there is gone if it is taken out
gone : (append was taken : Bool) → (was ≡ true → taken ≡ true) → ((append && was) && not taken) ≡ false
gone false was taken h = refl
gone true false taken h = refl
gone true true taken h = rw (h refl) refl

-- a removal of each function that a set holds makes it empty
pub is_empty-removed : (size : ℕ) (old : Marks) (edit : Edit) → edit.remove ≡ true → ((f : ℕ) → holds old f ≡ true → holds edit.set f ≡ true)
    → is_empty (edited size old edit) ≡ true
is_empty-removed size old edit removes all = rw removes (by_clear edit.clear)
  where
    none : (f : ℕ) → holds (difference (start edit.append size old) edit.set) f ≡ false
    none f = holds-difference (start edit.append size old) edit.set f ∙ ap (λ b. b && not (holds edit.set f)) (holds-start edit.append size old f)
        ∙ gone edit.append (holds old f) (holds edit.set f) (all f)

    by_clear : (clear : Bool) → is_empty (cond clear (empty size) (difference (start edit.append size old) edit.set)) ≡ true
    by_clear true = is_empty-empty size
    by_clear false = is_empty-from_IsEmpty (difference (start edit.append size old) edit.set) none

-- a removal from an empty set leaves it empty
pub is_empty-still : (size : ℕ) (old : Marks) (edit : Edit) → edit.remove ≡ true → is_empty old ≡ true → is_empty (edited size old edit) ≡ true
is_empty-still size old edit removes empty = is_empty-removed size old edit removes
    (λ f held. let not_held : holds old f ≡ false = IsEmpty-from_is_empty old empty f in absurd cc)
