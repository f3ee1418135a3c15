-- What the table asks before a load and a store, and what they tell, in the words of their plays.
use Rattle.std.proofs.Common.{◌≡◌, ℕ, ◌+◌, ◌%◌, ◌^◌, ◌<◌, Bool, None, slice_index, refl, sym, subst, arith}
use Rattle.atomic_table.specs.Table.{Allows, Me, State, carried_after}
use Rattle.word_map.specs.declared.op.Op.{Op}
use Rattle.word_map.specs.declared.op.Op.TheVariants.{Load, Store, Mark}
use Rattle.word_map.specs.Contents.{mark_weight}
use Rattle.live_table.specs.Views.{View}
use Rattle.live_table.specs.AtomicSteps.{MakesOp, MakesStep}
use Rattle.live_table.specs.Operations.{op_after, op_gives, op_word}

-- a load adds nothing
left-is : (n : ℕ) → n < 2 ^ 64 → (n + 0) % 2 ^ 64 ≡ n
left-is n small = omega (arith, small)

module _ (me : Me (Unit {0}) View) where
  -- what an operation asks, and what it tells
  abbrev Asks : (State (Unit {0}) View → Type 0) → ℕ → ℕ → Op → Type 0
  Asks holds slots id op = Allows holds slots id me (op_word op) (op_after op) (λ n m. MakesOp None op n me m)

  abbrev Tells : Op → ℕ → Me (Unit {0}) View → Type 0
  Tells op v m = (n : ℕ) × (v ≡ op_gives op n) × MakesOp None op n me m

  module _ (op : Op) (holds : State (Unit {0}) View → Type 0) (slots id : ℕ) (asks : Asks holds slots id op) where
    pub load-asks : (word : ℕ) → op ≡ Load word → Allows holds slots id me word (λ n. n) (λ n m. MakesStep None word n ((n + 0) % 2 ^ 64) n me m)
    load-asks word is t r homes at small =
        let own : Asks holds slots id (Load word) = subst (Asks holds slots id) is asks in
        let a = own t r homes at small in
        let n = slice_index t.words word in
        (a.0, a.1, a.2, a.3, subst (λ left. MakesStep None word n left n me (a.0, carried_after me.1 a.1)) (sym (left-is n small)) a.4)

    pub store-asks : (word x : ℕ) → op ≡ Store word x → Allows holds slots id me word (λ n. x) (λ n m. (found : ℕ) × MakesStep None word found x 0 me m)
    store-asks word x is t r homes at small =
        let own : Asks holds slots id (Store word x) = subst (Asks holds slots id) is asks in
        let a = own t r homes at small in
        (a.0, a.1, a.2, a.3, (slice_index t.words word, a.4))

    pub mark-asks : (command : Bool) → op ≡ Mark command
        → Allows holds slots id me 0 (λ n. (n + mark_weight command) % 2 ^ 64) (λ n m. MakesStep None 0 n ((n + mark_weight command) % 2 ^ 64) n me m)
    mark-asks command is = subst (Asks holds slots id) is asks

  pub load-tells : (op : Op) (word n : ℕ) (m : Me (Unit {0}) View) → op ≡ Load word → MakesStep None word n ((n + 0) % 2 ^ 64) n me m → Tells op n m
  load-tells op word n m is told =
      let own : Tells (Load word) n m = (n, refl, subst (λ left. MakesStep None word n left n me m) (left-is n told.1.fits) told) in
      subst (λ o. Tells o n m) (sym is) own

-- its word is one of the table's
pub word-within : (words : ℕ) (op op' : Op) → op_word op < words → op ≡ op' → op_word op' < words
word-within words op op' within is = subst (λ o. op_word o < words) is within
