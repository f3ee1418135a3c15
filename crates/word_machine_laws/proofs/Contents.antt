-- What the contents of words say: a user's state, a word of a set, the tasks that are traced, the two parts of an instruction.
use Rattle.std.proofs.Common.{◌≡◌, ℕ, zero, suc, ◌+◌, ◌%◌, ◌/◌, ◌<◌, ◌≤◌, Bool, true, false, ◌||◌, ◌&&◌, length, map, get_or, refl, sym, ap, ◌∙◌, arith}
use Rattle.std.specs.Prelude.{◌==◌}
use Rattle.std.specs.List.{range_with_len}
use Rattle.std.specs.Int.{bit_at}
use Rattle.std.proofs.lemmas.Bool.{eq-eqb}
use Rattle.std.proofs.lemmas.Bool.Decides.{nat_tests}
use Rattle.std.proofs.lemmas.List.{get_or-map}
use Rattle.std.proofs.lemmas.List.FromFn.{length-range_with_len, get_or-range_with_len}
use Rattle.ft_base.specs.Marks.{holds, is_empty}
use Rattle.ft_base.specs.Job.{Job}
use Rattle.ft_base.specs.Desk.{Desk, UserState, is_allowed, is_matching}
use Rattle.ft_base.proofs.Small.{false_true, and-false, or-true}
use Rattle.site_set.proofs.MarksLemmas.{bit_at-number_with_bits}
use Rattle.word_map.specs.Contents.{high, half_size, sel_word, sel_on, sel_copy, sel_empty, stands, is_marked, mask_of, low}
use Rattle.word_map.specs.Instructions.{head_of, tail_of, decode}
use Rattle.word_map.proofs.ContentLaws.{marked-is, told}
use Rattle.word_machine.specs.Commands.{set_words}
use Rattle.word_machine.specs.HashCopies.{SelIs, Reader}
use Rattle.word_machine.proofs.Small.{digit-one}

-- ## a user's state

module _ (reg copy : ℕ) (r e b : Bool) (h : copy < 2) where
  on_of : sel_on (sel_word reg r e copy b) ≡ (r && e)
  on_of = (told reg copy r e b h).0

  pub copy_of : sel_copy (sel_word reg r e copy b) ≡ copy
  copy_of = (told reg copy r e b h).1

  pub bare_of : sel_empty (sel_word reg r e copy b) ≡ b
  bare_of = (told reg copy r e b h).2

  pub reg_of : high (sel_word reg r e copy b) ≡ reg
  reg_of = (told reg copy r e b h).3

even-off : (v : ℕ) → v % 2 ≡ 0 → sel_on v ≡ false
even-off v e = rw e refl

-- what a load of a user's state tells of the user at the desk that the word is of
pub sel-on-is : (job : Job) (s : UserState) (v copy : ℕ) (bits : ℕ → ℕ → ℕ → ℕ) → copy < 2 → SelIs job s v copy bits → sel_on v ≡ (s.registered && s.enabled)
sel-on-is job s v copy bits small is = by s.registered refl
  where
    by : (r : Bool) → s.registered ≡ r → sel_on v ≡ (s.registered && s.enabled)
    by true e = ap sel_on (is.0 e).0 ∙ on_of s.reg copy s.registered s.enabled (is_empty s.filter) small
    by false e = even-off v (is.1 e).1 ∙ (rw e refl)

pub sel-reg-is : (job : Job) (s : UserState) (v copy : ℕ) (bits : ℕ → ℕ → ℕ → ℕ) → copy < 2 → SelIs job s v copy bits → high v ≡ s.reg
sel-reg-is job s v copy bits small is = by s.registered refl
  where
    by : (r : Bool) → s.registered ≡ r → high v ≡ s.reg
    by true e = ap high (is.0 e).0 ∙ reg_of s.reg copy s.registered s.enabled (is_empty s.filter) small
    by false e = (is.1 e).0

pub test_on : (job : Job) (s : UserState) (v copy : ℕ) (bits : ℕ → ℕ → ℕ → ℕ) → copy < 2 → SelIs job s v copy bits → sel_on v ≡ true
    → (sel_copy v ≡ copy) × Reader job s (bits copy) (high v) × (sel_empty v ≡ is_empty s.filter)
test_on job s v copy bits small is on = by s.registered s.enabled refl refl (sym (sel-on-is job s v copy bits small is) ∙ on)
  where
    by : (r e : Bool) → s.registered ≡ r → s.enabled ≡ e → (s.registered && s.enabled) ≡ true → (sel_copy v ≡ copy) × Reader job s (bits copy) (high v)
        × (sel_empty v ≡ is_empty s.filter)
    by false e x y both = false_true (rw x at both)
    by true false x y both = false_true (rw (x, y) at both)
    by true true x y both =
        let h = is.0 x in (
          ap sel_copy h.0 ∙ copy_of s.reg copy s.registered s.enabled (is_empty s.filter) small,
          record { registered = x; enabled = y; number = sym (sel-reg-is job s v copy bits small is); copied = h.1 },
          ap sel_empty h.0 ∙ bare_of s.reg copy s.registered s.enabled (is_empty s.filter) small,
        )

-- on at a function, by a user's state
abbrev pub on_by : UserState → ℕ → Bool
on_by s f = s.registered && is_matching s f && s.enabled

pub test_off : (job : Job) (s : UserState) (v copy f : ℕ) (bits : ℕ → ℕ → ℕ → ℕ) → copy < 2 → SelIs job s v copy bits → sel_on v ≡ false → on_by s f ≡ false
test_off job s v copy f bits small is off = by s.registered s.enabled refl refl (sym (sel-on-is job s v copy bits small is) ∙ off)
  where
    by : (r e : Bool) → s.registered ≡ r → s.enabled ≡ e → (s.registered && s.enabled) ≡ false → on_by s f ≡ false
    by false e x y both = rw x refl
    by true false x y both = rw (x, y) (and-false (is_matching s f))
    by true true x y both = false_true (sym (rw (x, y) at both))

-- a registration that stands is live
pub stands-live : (job : Job) (s : UserState) (v copy reg : ℕ) (bits : ℕ → ℕ → ℕ → ℕ) → copy < 2 → SelIs job s v copy bits
    → stands v reg ≡ (s.registered && s.enabled && (s.reg == reg))
stands-live job s v copy reg bits small is = (let a = sel-on-is job s v copy bits small is in let b = sel-reg-is job s v copy bits small is in rw (a, b) refl)

-- ## a word of a set

-- a task in the word of the allowed ones
pub mask-is : (d : Desk) (tasks t : ℕ) → tasks ≤ 64 → t < tasks → is_marked (mask_of d tasks) t ≡ is_allowed d t
mask-is d tasks t few inside =
    let small : t % 64 ≡ t = omega (arith, few, inside) in
    let len : length (range_with_len 0 tasks) ≡ tasks = length-range_with_len 0 tasks in
    ap (λ n. bit_at (mask_of d tasks) n == 1) small
    ∙ ap (λ n. n == 1) (bit_at-number_with_bits (map (is_allowed d) (range_with_len 0 tasks)) t)
    ∙ digit-one (get_or (map (is_allowed d) (range_with_len 0 tasks)) t false)
    ∙ get_or-map (is_allowed d) (range_with_len 0 tasks) t 0 false (omega (arith, len, inside))
    ∙ ap (λ n. is_allowed d n) (get_or-range_with_len 0 tasks t 0 inside ∙ (let z : 0 + t ≡ t = omega arith in z))

module _ (job : Job) (s : UserState) (copy : ℕ → ℕ → ℕ) (reg f : ℕ) where
  filter-word : f / 64 < set_words job → Reader job s copy reg → is_marked (copy 0 (f / 64)) f ≡ holds s.filter f
  filter-word inside r = ap (λ v. is_marked v f) (r.copied 0 (f / 64) (omega arith) inside) ∙ marked-is s.filter f

  notrace-word : f / 64 < set_words job → Reader job s copy reg → is_marked (copy 1 (f / 64)) f ≡ holds s.notrace f
  notrace-word inside r = ap (λ v. is_marked v f) (r.copied 1 (f / 64) (omega arith) inside) ∙ marked-is s.notrace f

  pub filter_in : f / 64 < set_words job → Reader job s copy reg → is_marked (copy 0 (f / 64)) f ≡ true → (is_empty s.filter || holds s.filter f) ≡ true
  filter_in inside r e = (let h : holds s.filter f ≡ true = sym (filter-word inside r) ∙ e in rw h (or-true (is_empty s.filter)))

  pub filter_out : f / 64 < set_words job → Reader job s copy reg → is_empty s.filter ≡ false → is_marked (copy 0 (f / 64)) f ≡ false → on_by s f ≡ false
  filter_out inside r empty e = (let h : holds s.filter f ≡ false = sym (filter-word inside r) ∙ e in rw (h, empty, r.registered) refl)

  pub notrace_on : f / 64 < set_words job → Reader job s copy reg → (is_empty s.filter || holds s.filter f) ≡ true → is_marked (copy 1 (f / 64)) f ≡ false
      → on_by s f ≡ true
  notrace_on inside r passes e = (let h : holds s.notrace f ≡ false = sym (notrace-word inside r) ∙ e in rw (h, passes, r.registered, r.enabled) refl)

  pub notrace_off : f / 64 < set_words job → Reader job s copy reg → (is_empty s.filter || holds s.filter f) ≡ true → is_marked (copy 1 (f / 64)) f ≡ true
      → on_by s f ≡ false
  notrace_off inside r passes e = (let h : holds s.notrace f ≡ true = sym (notrace-word inside r) ∙ e in rw (h, passes, r.registered) refl)

-- ## the two parts of an instruction

pub decode_own : (f i : ℕ) → f < 4096 → decode f (head_of i) (tail_of f i) ≡ i
decode_own f zero lt = refl
decode_own f (suc zero) lt = (let z : (tail_of f 1 == tail_of f 1) ≡ true = eq-eqb (tail_of f 1) (tail_of f 1) refl in rw z refl)
decode_own f (suc (suc s)) lt =
    let z : (tail_of f (suc (suc s)) == tail_of f 1) ≡ false = grind (arith, nat_tests) in
    rw z (omega (arith, lt))

-- ## the halves of a word

pub low-small : (v : ℕ) → low v < half_size
low-small v = omega arith
