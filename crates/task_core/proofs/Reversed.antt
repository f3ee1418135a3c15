-- The open calls as contracts see them, the latest first, after the last item of the list that keeps them is changed or dropped.
use Rattle.std.proofs.Common.{◌≡◌, ℕ, suc, List, ◌∷◌, length, take, drop, set, reverse, sym, ap, ◌∙◌}
use Rattle.std.proofs.lemmas.List.{length-reverse}
use Rattle.return_stack.proofs.StackLemmas.{reverse-last, reverse-set_last}
use Rattle.task_core.specs.declared.open_call.OpenCall.{OpenCall}
use Rattle.task_core.specs.declared.open_call.OpenCalls.TheInside.{Inside}
use Rattle.task_core.specs.OpenCallsInvariant.{opens_of}
use Rattle.task_core.specs.Opens.{Opens, no_call}

-- there are as many calls as contracts see
pub length-calls : (d : Inside) (v : Opens) → opens_of d ≡ v → length d.calls.items ≡ length v.calls
length-calls d v e = sym (length-reverse d.calls.items) ∙ ap (λ (o : Opens). length o.calls) e

-- the last item comes first, before all others
without-last : (xs : List OpenCall) (n : ℕ) → suc n ≡ length xs → reverse (take n xs) ≡ drop 1 (reverse xs)
without-last xs n h = sym (ap (λ (ys : List OpenCall). drop 1 ys) (reverse-last xs n no_call h))

with-last : (xs : List OpenCall) (n : ℕ) (call : OpenCall) → suc n ≡ length xs → reverse (set xs n call) ≡ call ∷ drop 1 (reverse xs)
with-last xs n call h = reverse-set_last xs n call h ∙ ap (λ (rest : List OpenCall). call ∷ rest) (without-last xs n h)

-- these calls, with room for as many as before
abbrev with_calls : ℕ → List OpenCall → Opens
with_calls limit calls = record { calls = calls; limit = limit }

-- the latest call returns
pub popped : (d : Inside) (v : Opens) (n : ℕ) (left : List OpenCall) → opens_of d ≡ v → suc n ≡ length d.calls.items → left ≡ take n d.calls.items
    → with_calls d.limit (reverse left) ≡ record v { calls = drop 1 v.calls }
popped d v n left e h is =
    ap (λ (xs : List OpenCall). with_calls d.limit (reverse xs)) is
    ∙ ap (λ (xs : List OpenCall). with_calls d.limit xs) (without-last d.calls.items n h)
    ∙ ap (λ (o : Opens). with_calls o.limit (drop 1 o.calls)) e

-- the latest call is changed
pub replaced : (d : Inside) (v : Opens) (n : ℕ) (call : OpenCall) → opens_of d ≡ v → suc n ≡ length d.calls.items
    → with_calls d.limit (reverse (set d.calls.items n call)) ≡ record v { calls = call ∷ drop 1 v.calls }
replaced d v n call e h =
    ap (λ (xs : List OpenCall). with_calls d.limit xs) (with-last d.calls.items n call h)
    ∙ ap (λ (o : Opens). with_calls o.limit (call ∷ drop 1 o.calls)) e
