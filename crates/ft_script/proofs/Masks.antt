-- The mask of the tasks whose pids are in a list.
use Rattle.std.proofs.Common.{◌≡◌, ◌≢◌, ℕ, zero, suc, ◌+◌, ◌*◌, ◌^◌, ◌%◌, ◌<◌, ◌≤◌, ◌==◌, true, false, List, [], ◌∷◌, length, map, get_or, bit_or, refl, sym, ap, ◌∙◌, inl, inr, arith, w64, ext_get_or}
use Rattle.std.specs.List.{list_any}
use Rattle.std.specs.Int.{bit_at}
use Rattle.std.proofs.lemmas.Bool.{cases_lt}
use Rattle.std.proofs.lemmas.Nat.Bits.{bit_at-zero, bit_at_set_same, bit_at_set_other}
use Rattle.ft_base.specs.Marks.{Marks}
use Rattle.pid_filter.specs.Lists.{tasks_in}
use Rattle.pid_filter.proofs.MaskLemmas.{length-tasks_in, holds-tasks_in}
use Rattle.script_waits.specs.declared.script.LinedTask.{LinedTask as KeptTask}
use Rattle.script_waits.specs.Tasks.{lined_task}

-- the bits of a mask below n are the marks below n, and no other bit is set
pub record IsMaskOf (marks : Marks) (n mask : ℕ) : Type 0 where
  pub low : (t : ℕ) → t < n → (bit_at mask t == 1) ≡ get_or marks t false
  pub high : (t : ℕ) → n ≤ t → bit_at mask t ≡ 0

pub mask-none : (marks : Marks) → IsMaskOf marks 0 0
mask-none marks = record { low = λ t h. absurd (omega (arith, h)); high = λ t h. bit_at-zero t }

module _ (marks : Marks) (n mask : ℕ) (is : IsMaskOf marks n mask) where
  -- one more task, whose mark is false
  pub mask-unset : get_or marks n false ≡ false → IsMaskOf marks (n + 1) mask
  mask-unset e = record {
    low = λ t h. elim (cases_lt t n) [
      | inl l ↦ is.low t l
      | inr l ↦ let same : t ≡ n = omega (arith, h, l) in
          ap (λ b. b == 1) (is.high t l) ∙ sym (ap (λ k. get_or marks k false) same ∙ e)
    ];
    high = λ t h. is.high t (omega (arith, h));
  }

  -- one more task, whose mark is true
  pub mask-set : n < 64 → get_or marks n false ≡ true → IsMaskOf marks (n + 1) (bit_or mask (1 * 2 ^ n % 2 ^ 64))
  mask-set few e = record {
    low = λ t h. elim (cases_lt t n) [
      | inl l ↦ let other : t ≢ n = omega (arith, l) in
          ap (λ b. b == 1) (bit_at_set_other w64 mask n few t other) ∙ is.low t l
      | inr l ↦ let same : t ≡ n = omega (arith, h, l) in
          ap (λ k. bit_at (bit_or mask (1 * 2 ^ n % 2 ^ 64)) k == 1) same ∙ ap (λ b. b == 1) (bit_at_set_same w64 mask n few) ∙ sym (ap (λ k. get_or marks k false) same ∙ e)
    ];
    high = λ t h. let other : t ≢ n = omega (arith, h) in bit_at_set_other w64 mask n few t other ∙ is.high t (omega (arith, h));
  }

-- the mark of each task is whether the list has its pid
abbrev pub listed_marks : List ℕ → List KeptTask → Marks
listed_marks list tasks = map (λ task. list_any (λ p. p == task.pid) list) (map lined_task tasks)

pub marks-size : (list : List ℕ) (tasks : List KeptTask) → length (listed_marks list tasks) ≡ length tasks
marks-size list [] = refl
marks-size list (x ∷ xs) = ap suc (marks-size list xs)

pub mark-is : (list : List ℕ) (tasks : List KeptTask) (n : ℕ) (task : KeptTask) → n < length tasks → get_or (listed_marks list tasks) n false ≡ list_any (λ p. p == (get_or tasks n task).pid) list
mark-is list [] n task h = absurd (omega (arith, h))
mark-is list (x ∷ xs) zero task h = refl
mark-is list (x ∷ xs) (suc n) task h = mark-is list xs n task (omega (arith, h))

-- at the end the tasks of the mask are those
pub mask-all : (list : List ℕ) (tasks : List KeptTask) (n mask : ℕ) → n ≡ length tasks → IsMaskOf (listed_marks list tasks) n mask → tasks_in (length tasks) mask ≡ listed_marks list tasks
mask-all list tasks n mask all is = ext_get_or false _ _ (length-tasks_in (length tasks) mask ∙ sym (marks-size list tasks))
    (λ t h. let low : t < length tasks = omega (arith, h, length-tasks_in (length tasks) mask) in
    holds-tasks_in (length tasks) mask t low ∙ is.low t (omega (arith, low, all)))
