-- The open calls as contracts see them, against the addresses and the shadow stack that keep them.
use Rattle.std.proofs.Common.{◌≡◌, ℕ, ◌<◌, ◌+◌, ◌-◌, suc, List, [], ◌∷◌, ◌++◌, length, take, drop, get_or, set, reverse, ap, sym, ◌∙◌, arith}
use Rattle.std.proofs.lemmas.List.{length-reverse, reverse-append, get_or-reverse, set_split, take-append-drop, drop_more, drop_all}
use Rattle.return_stack.specs.declared.stacks.Address.{Address}
use Rattle.return_stack.specs.declared.stacks.Stacks.TheInside.{Inside}
use Rattle.return_stack.specs.Calls.{CallStack, address_of, up_to}
use Rattle.return_stack.specs.Addresses.{HooksHaveFrames}
use Rattle.return_stack.specs.CallStackInvariant.{stack_of}
use Rattle.return_stack.proofs.AddressLemmas.{length-open_calls, address_of-drop}

-- the addresses fit the shadow stack
abbrev pub HasHookFrames : Inside → Type 0
HasHookFrames s = HooksHaveFrames s.running (reverse s.addresses.items) s.shadow.frames

-- there are as many open calls as addresses
pub length-calls : (s : Inside) (v : CallStack) → stack_of s ≡ v → HasHookFrames s → length v.calls ≡ length s.addresses.items
length-calls s v e t =
    ap (λ (w : CallStack). length w.calls) (sym e)
    ∙ (length-open_calls s.running (reverse s.addresses.items) s.shadow.frames t ∙ length-reverse s.addresses.items)

-- the limit of calls is the one that is kept
pub call_limit_is : (s : Inside) (v : CallStack) → stack_of s ≡ v → v.call_limit ≡ s.call_limit
call_limit_is s v e = ap (λ (w : CallStack). w.call_limit) (sym e)

-- the address at a place is that of the call there
pub address_of-up_to : (s : Inside) (v : CallStack) (i : ℕ) (d : Address) → stack_of s ≡ v → HasHookFrames s → i < length s.addresses.items
    → address_of (up_to v.calls i) ≡ get_or s.addresses.items i d
address_of-up_to s v i d e t h =
    let n = length-calls s v e t in
    let k : length s.addresses.items - suc i < length s.addresses.items = omega arith in
    let j : length s.addresses.items - 1 - (length s.addresses.items - suc i) ≡ i = omega arith in
    let at_top = address_of-drop (length s.addresses.items - suc i) s.running (reverse s.addresses.items) s.shadow.frames d t (omega (arith, length-reverse s.addresses.items)) in
    ap (λ (m : ℕ). address_of (drop (m - suc i) v.calls)) n
    ∙ (ap (λ (w : CallStack). address_of (drop (length s.addresses.items - suc i) w.calls)) (sym e)
    ∙ (at_top ∙ (get_or-reverse s.addresses.items _ d k ∙ ap (λ (m : ℕ). get_or s.addresses.items m d) j)))

-- a list and its last element
last_split : {A : Type 0} (xs : List A) (n : ℕ) (d : A) → suc n ≡ length xs → xs ≡ take n xs ++ get_or xs n d ∷ []
last_split {A = A} xs n d h =
    sym (take-append-drop n xs)
    ∙ ap (λ (rest : List A). take n xs ++ rest) (drop_more xs n d (omega arith) ∙ ap (λ (rest : List A). get_or xs n d ∷ rest) (drop_all (n + 1) xs (omega arith)))

-- the latest first, the last element comes first
pub reverse-last : {A : Type 0} (xs : List A) (n : ℕ) (d : A) → suc n ≡ length xs → reverse xs ≡ get_or xs n d ∷ reverse (take n xs)
reverse-last {A = A} xs n d h =
    ap (λ (ys : List A). reverse ys) (last_split xs n d h) ∙ reverse-append (take n xs) (get_or xs n d ∷ [])

-- and so does one that is written in its place
pub reverse-set_last : {A : Type 0} (xs : List A) (n : ℕ) (y : A) → suc n ≡ length xs → reverse (set xs n y) ≡ y ∷ reverse (take n xs)
reverse-set_last {A = A} xs n y h =
    ap (λ (ys : List A). reverse ys) (set_split xs n y (omega arith) ∙ ap (λ (rest : List A). take n xs ++ y ∷ rest) (drop_all (suc n) xs (omega arith)))
    ∙ reverse-append (take n xs) (y ∷ [])
