-- The acts of a script that a task has gone through: how many they are, for how many commands they wait, and which act a call's
-- return is.
use Rattle.std.proofs.Common.{cond, ◌≡◌, ℕ, zero, suc, ◌≤◌, Bool, true, false, List, [], ◌∷◌, ◌++◌, length, take, drop, Some, refl, sym, ap, ◌∙◌, subst, arith, nat_le, leb-true, append_assoc}
use Rattle.std.specs.Prelude.{slice_get}
use Rattle.ft_base.specs.declared.number.FuncNo.{FuncNo}
use Rattle.ft_base.specs.declared.context.Ctx.{Ctx}
use Rattle.ft_base.specs.declared.task.TaskAct.{TaskAct}
use Rattle.ft_base.specs.declared.task.TaskAct.TheVariants.{Call, Ret as RetAct, Raise, Lower, After}
use Rattle.ft_base.proofs.Small.{false_true}
use Rattle.ft_hist.specs.Plain.{PlainTask, ahead, below_top}
use Rattle.ft_hist.specs.Rules.{acts_passed}
use Rattle.module_coverage.specs.Covered.{last_after, return_number}

-- ## a list in two parts

module _ {A : Type 0} where
  pub get-between : (xs : List A) (y : A) (ys : List A) → slice_get (xs ++ y ∷ ys) (length xs) ≡ Some y
  get-between [] y ys = refl
  get-between (x ∷ xs) y ys = get-between xs y ys

  pub take-front : (xs ys : List A) → take (length xs) (xs ++ ys) ≡ xs
  take-front [] ys = refl
  take-front (x ∷ xs) ys = ap (λ zs. x ∷ zs) (take-front xs ys)

  pub drop-between : (xs : List A) (y : A) (ys : List A) → drop (suc (length xs)) (xs ++ y ∷ ys) ≡ ys
  drop-between [] y ys = refl
  drop-between (x ∷ xs) y ys = drop-between xs y ys

  length-more : (xs : List A) (y : A) → length (xs ++ y ∷ []) ≡ suc (length xs)
  length-more [] y = refl
  length-more (x ∷ xs) y = ap suc (length-more xs y)

-- ## waits for commands

waits-append : (n : ℕ) (xs ys : List TaskAct) → last_after n (xs ++ ys) ≡ last_after (last_after n xs) ys
waits-append n [] ys = refl
waits-append n (After k ∷ xs) ys = waits-append (cond (nat_le n k) k n) xs ys
waits-append n (_ ∷ xs) ys = waits-append n xs ys

-- the greater of two numbers is within their bound
greater : (n k r : ℕ) (b : Bool) → n ≤ r → k ≤ r → cond b k n ≤ r
greater n k r true le le' = le'
greater n k r false le le' = le

-- these acts of the script are left of it, and so many are gone, whose waits so many returned commands have met
pub record Gone (script left : List TaskAct) (gone returned : ℕ) : Type 0 where
  pub front : List TaskAct
  pub whole : script ≡ front ++ left
  pub count : length front ≡ gone
  pub waited : last_after 0 front ≤ returned

pub gone-more : (script : List TaskAct) (a : TaskAct) (left : List TaskAct) (gone r : ℕ) (h : Gone script (a ∷ left) gone r) → last_after (last_after 0 h.front) (a ∷ []) ≤ r → Gone script left (suc gone) r
gone-more script a left gone r h le = record {
  front = h.front ++ a ∷ [];
  whole = h.whole ∙ sym (append_assoc h.front (a ∷ []) left);
  count = length-more h.front a ∙ ap suc h.count;
  waited = subst (λ n. n ≤ r) (sym (waits-append 0 h.front (a ∷ []))) le;
}

pub gone-later : (script left : List TaskAct) (gone r r' : ℕ) → r ≤ r' → Gone script left gone r → Gone script left gone r'
gone-later script left gone r r' le h = record { front = h.front; whole = h.whole; count = h.count; waited = (let w = h.waited in omega (arith, w, le)) }

-- the acts without items that are passed, as far as their waits are met
pub gone-ahead : (script left : List TaskAct) (cs : List Ctx) (gone r : ℕ) → Gone script left gone r → Gone script (ahead r left cs gone).acts (ahead r left cs gone).gone r
gone-ahead script [] cs gone r h = h
gone-ahead script (Call f ∷ rest) cs gone r h = h
gone-ahead script (RetAct ∷ rest) cs gone r h = h
gone-ahead script (Raise c ∷ rest) cs gone r h = gone-ahead script rest (c ∷ cs) (suc gone) r (gone-more script (Raise c) rest gone r h h.waited)
gone-ahead script (Lower ∷ rest) cs gone r h = gone-ahead script rest (below_top cs) (suc gone) r (gone-more script Lower rest gone r h h.waited)
gone-ahead script (After m ∷ rest) cs gone r h = by (nat_le m r) refl (λ x. gone-ahead script rest cs (suc gone) r x)
  where
    by : (b : Bool) → nat_le m r ≡ b → (Gone script rest (suc gone) r → Gone script (ahead r rest cs (suc gone)).acts (ahead r rest cs (suc gone)).gone r)
        → Gone script (cond b (ahead r rest cs (suc gone)) (record { acts = After m ∷ rest; contexts = cs; gone = gone })).acts (cond b (ahead r rest cs (suc gone)) (record { acts = After m ∷ rest; contexts = cs; gone = gone })).gone r
    by true e more = more (gone-more script (After m) rest gone r h (greater (last_after 0 h.front) m r (nat_le (last_after 0 h.front) m) h.waited (leb-true m r e)))
    by false e more = h

-- ## the act by which a call returns

-- the next act gives items
abbrev pub starts : List TaskAct → Bool
starts (Call f ∷ rest) = true
starts (RetAct ∷ rest) = true
starts _ = false

-- one more call is to return first
pub return-call : (n k : ℕ) (f : FuncNo) (acts : List TaskAct) → return_number n k (Call f ∷ acts) ≡ return_number (suc n) (suc k) acts
return-call n zero f acts = refl
return-call n (suc k) f acts = refl

-- an act without items goes by
return-passes : (n k : ℕ) (a : TaskAct) (acts : List TaskAct) → starts (a ∷ []) ≡ false → return_number n k (a ∷ acts) ≡ return_number (suc n) k acts
return-passes n k (Call f) acts e = false_true (sym e)
return-passes n k RetAct acts e = false_true (sym e)
return-passes n zero (Raise c) acts e = refl
return-passes n (suc k) (Raise c) acts e = refl
return-passes n zero Lower acts e = refl
return-passes n (suc k) Lower acts e = refl
return-passes n zero (After m) acts e = refl
return-passes n (suc k) (After m) acts e = refl

pub return-least : (n k : ℕ) (acts : List TaskAct) → n ≤ return_number n k acts
return-least n zero [] = omega arith
return-least n (suc k) [] = omega arith
return-least n zero (RetAct ∷ acts) = omega arith
return-least n (suc k) (RetAct ∷ acts) = let le = return-least (suc n) k acts in omega (arith, le)
return-least n k (Call f ∷ acts) = let le = return-least (suc n) (suc k) acts in rw (return-call n k f acts) (omega (arith, le))
return-least n k (Raise c ∷ acts) = let le = return-least (suc n) k acts in rw (return-passes n k (Raise c) acts refl) (omega (arith, le))
return-least n k (Lower ∷ acts) = let le = return-least (suc n) k acts in rw (return-passes n k Lower acts refl) (omega (arith, le))
return-least n k (After m ∷ acts) = let le = return-least (suc n) k acts in rw (return-passes n k (After m) acts refl) (omega (arith, le))

-- it is the same from where the acts without items are passed
pub return-ahead : (k r : ℕ) (left : List TaskAct) (cs : List Ctx) (gone : ℕ) → return_number gone k left ≡ return_number (ahead r left cs gone).gone k (ahead r left cs gone).acts
return-ahead k r [] cs gone = refl
return-ahead k r (Call f ∷ rest) cs gone = refl
return-ahead k r (RetAct ∷ rest) cs gone = refl
return-ahead k r (Raise c ∷ rest) cs gone = return-passes gone k (Raise c) rest refl ∙ return-ahead k r rest (c ∷ cs) (suc gone)
return-ahead k r (Lower ∷ rest) cs gone = return-passes gone k Lower rest refl ∙ return-ahead k r rest (below_top cs) (suc gone)
return-ahead k r (After m ∷ rest) cs gone = by (nat_le m r) (return-passes gone k (After m) rest refl ∙ return-ahead k r rest cs (suc gone))
  where
    by : (b : Bool) → return_number gone k (After m ∷ rest) ≡ return_number (ahead r rest cs (suc gone)).gone k (ahead r rest cs (suc gone)).acts
        → return_number gone k (After m ∷ rest) ≡ return_number (cond b (ahead r rest cs (suc gone)) (record { acts = After m ∷ rest; contexts = cs; gone = gone })).gone k (cond b (ahead r rest cs (suc gone)) (record { acts = After m ∷ rest; contexts = cs; gone = gone })).acts
    by true more = more
    by false more = refl

-- ## how many acts are done where an act with items is next

-- a task over an empty stack
abbrev pub alone : ℕ → List TaskAct → PlainTask
alone gone acts = record { next = 0; acts = acts; gone = gone; contexts = []; stack = [] }

pub passed-ahead : (r : ℕ) (left : List TaskAct) (cs : List Ctx) (gone : ℕ) → starts (ahead r left cs gone).acts ≡ true → acts_passed (alone gone left) ≡ (ahead r left cs gone).gone
passed-ahead r [] cs gone e = false_true e
passed-ahead r (Call f ∷ rest) cs gone e = refl
passed-ahead r (RetAct ∷ rest) cs gone e = refl
passed-ahead r (Raise c ∷ rest) cs gone e = passed-ahead r rest (c ∷ cs) (suc gone) e
passed-ahead r (Lower ∷ rest) cs gone e = passed-ahead r rest (below_top cs) (suc gone) e
passed-ahead r (After m ∷ rest) cs gone e = by (nat_le m r) e (λ x. passed-ahead r rest cs (suc gone) x)
  where
    by : (b : Bool) → starts (cond b (ahead r rest cs (suc gone)) (record { acts = After m ∷ rest; contexts = cs; gone = gone })).acts ≡ true
        → (starts (ahead r rest cs (suc gone)).acts ≡ true → acts_passed (alone (suc gone) rest) ≡ (ahead r rest cs (suc gone)).gone)
        → acts_passed (alone (suc gone) rest) ≡ (cond b (ahead r rest cs (suc gone)) (record { acts = After m ∷ rest; contexts = cs; gone = gone })).gone
    by true x more = more x
    by false x more = false_true x
