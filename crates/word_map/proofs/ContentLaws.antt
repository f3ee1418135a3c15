-- A word that is taken apart gives what it was made of.
use Rattle.std.proofs.Common.{◌≡◌, ℕ, ◌+◌, ◌*◌, ◌/◌, ◌%◌, ◌<◌, Bool, true, false, ◌&&◌, ap, ◌∙◌, arith}
use Rattle.std.specs.Prelude.{◌==◌}
use Rattle.std.proofs.lemmas.Bool.Decides.{nat_tests}
use Rattle.ft_base.specs.Marks.{Marks, holds}
use Rattle.site_set.specs.Marks.{word_of}
use Rattle.site_set.proofs.MarksLemmas.{bit_at-word_of}
use Rattle.word_map.specs.declared.sel.Sel.{Sel}
use Rattle.word_map.specs.Contents.{half_size, halves, high, low, sel_word, sel_parts, sel_on, sel_copy, sel_empty, tramp_word, tramp_user, is_marked}

-- ## a user's state

-- what a state's word says, by its parts
pub sel-parts : (reg copy : ℕ) (r e b : Bool) → copy < 2
    → sel_parts (sel_word reg r e copy b) ≡ record { reg = reg; registered = r; enabled = e; copy = copy; empty = b }
sel-parts reg copy r e b h = let t = told-bits reg copy r e b h in λ i. record { reg = t.0 i; registered = t.1 i; enabled = t.2 i; copy = t.3 i; empty = t.4 i }
  where
    told-bits : (reg copy : ℕ) (r e b : Bool) → copy < 2
        → (high (sel_word reg r e copy b) ≡ reg) × ((sel_word reg r e copy b % 2 == 1) ≡ r) × ((sel_word reg r e copy b / 2 % 2 == 1) ≡ e)
        × (sel_copy (sel_word reg r e copy b) ≡ copy) × (sel_empty (sel_word reg r e copy b) ≡ b)
    told-bits reg copy true true true h = (omega arith, grind (arith, nat_tests), grind (arith, nat_tests), omega arith, grind (arith, nat_tests))
    told-bits reg copy true true false h = (omega arith, grind (arith, nat_tests), grind (arith, nat_tests), omega arith, grind (arith, nat_tests))
    told-bits reg copy true false true h = (omega arith, grind (arith, nat_tests), grind (arith, nat_tests), omega arith, grind (arith, nat_tests))
    told-bits reg copy true false false h = (omega arith, grind (arith, nat_tests), grind (arith, nat_tests), omega arith, grind (arith, nat_tests))
    told-bits reg copy false true true h = (omega arith, grind (arith, nat_tests), grind (arith, nat_tests), omega arith, grind (arith, nat_tests))
    told-bits reg copy false true false h = (omega arith, grind (arith, nat_tests), grind (arith, nat_tests), omega arith, grind (arith, nat_tests))
    told-bits reg copy false false true h = (omega arith, grind (arith, nat_tests), grind (arith, nat_tests), omega arith, grind (arith, nat_tests))
    told-bits reg copy false false false h = (omega arith, grind (arith, nat_tests), grind (arith, nat_tests), omega arith, grind (arith, nat_tests))

-- the same, by what is asked of a state
pub told : (reg copy : ℕ) (r e b : Bool) → copy < 2 → (sel_on (sel_word reg r e copy b) ≡ (r && e))
    × (sel_copy (sel_word reg r e copy b) ≡ copy) × (sel_empty (sel_word reg r e copy b) ≡ b) × (high (sel_word reg r e copy b) ≡ reg)
told reg copy r e b h =
    let p = sel-parts reg copy r e b h in
    (ap (λ (s : Sel). s.registered && s.enabled) p, ap (λ (s : Sel). s.copy) p, ap (λ (s : Sel). s.empty) p, ap (λ (s : Sel). s.reg) p)

-- ## the halves of a word

pub low-halves : (g l : ℕ) → l < half_size → (low (halves g l) ≡ l) × (high (halves g l) ≡ g)
low-halves g l lt = (omega arith, omega arith)

-- ## a trampoline's word

pub tramp-reads : (v reg u : ℕ) → u + 1 < half_size → v ≡ tramp_word reg u → (tramp_user v ≡ u) × (high v ≡ reg)
tramp-reads v reg u small e = (omega (arith, small, e), omega (arith, small, e))

-- ## a word of a set

-- a bit of a set's word is a mark of the set
pub marked-is : (s : Marks) (f : ℕ) → is_marked (word_of s (f / 64)) f ≡ holds s f
marked-is s f = bit_at-word_of s (f / 64) (f % 64) (omega arith) ∙ (let e : 64 * (f / 64) + f % 64 ≡ f = omega arith in ap (holds s) e)
