-- The item of a CPU's last step.
use Rattle.std.proofs.Common.{◌≡◌, ◌⊎◌, inl, inr, ℕ, ◌+◌, ◌<◌, ◌≤◌, nat_lt, List, [], ◌∷◌, ◌++◌, length, Option, Some, None, IsSome, refl, ap, ◌∙◌, arith}
use Rattle.std.specs.Prelude.{slice_get}
use Rattle.std.proofs.lemmas.Bool.{ltb-false, ltb-true}
use Rattle.std.proofs.lemmas.List.{append-nil, length-append}
use Rattle.ft_base.specs.declared.item.Stamped.{Stamped}
use Rattle.ft_base.specs.Job.{Job}
use Rattle.word_map.specs.Ops.{WordOp, Load, Store, Mark}
use Rattle.word_machine.specs.Cpu.{Cpu, cpu_got, cpu_next, cpu_start}
use Rattle.cpu_core.specs.CpuSteps.{marks_in}
use Rattle.task_core.specs.TaskOps.{item_in}
use Rattle.ft_machine.specs.Fed.{cpu_after, cpu_fed}
use Rattle.live_table.specs.Seats.{CpuPlace, IsLast, items_at, last_at, last_mark}
use Rattle.live_table.specs.Steps.{with_value}
use Rattle.live_table.proofs.Values.{cpu_marks-snoc}

-- the item of one more value
pub last_mark-snoc : (job : Job) (me : Cpu) (vs : List ℕ) (v : ℕ)
    → last_mark job me (vs ++ v ∷ []) ≡ slice_get (marks_in (cpu_next job (cpu_after job me vs)) v) 0
last_mark-snoc job me [] v = refl
last_mark-snoc job me (w ∷ []) v = refl
last_mark-snoc job me (w ∷ u ∷ ws) v = last_mark-snoc job (cpu_got job me w) (u ∷ ws) v

-- an operation marks one item, or none
abbrev MarksOne : Option WordOp → ℕ → Type 0
MarksOne op v = ((x : Stamped) × (marks_in op v ≡ x ∷ []) × IsSome (item_in op)) ⊎ (marks_in op v ≡ [])

marks-one : (op : Option WordOp) (v : ℕ) → MarksOne op v
marks-one None v = inr refl
marks-one (Some (Load w)) v = inr refl
marks-one (Some (Store w x)) v = inr refl
marks-one (Some (Mark item)) v = inl (_, refl, refl)

-- ## what the seat keeps

module _ (items more : List Stamped) (op : Option WordOp) (v : ℕ) (is : more ≡ items ++ marks_in op v) where
  same-length : length more ≡ length items + length (marks_in op v)
  same-length = ap (λ (l : List Stamped). length l) is ∙ length-append items (marks_in op v)

  -- whether the step marked the last of them
  pub last-more : (last : Option Stamped) → last ≡ slice_get (marks_in op v) 0 → IsLast more (nat_lt (length items) (length more)) last
  last-more last e = by (marks-one op v)
    where
      by : MarksOne op v → IsLast more (nat_lt (length items) (length more)) last
      by (inl (x, one, some)) = record {
        marked = λ t. (x, e ∙ ap (λ (l : List Stamped). slice_get l 0) one, (items, is ∙ ap (λ (l : List Stamped). items ++ l) one));
        none = λ f. absurd (let le = ltb-false (length items) (length more) f in let n = ap (λ (l : List Stamped). length l) one in let m = same-length in omega (arith, le, n, m));
      }
      by (inr none) = record {
        marked = λ t. absurd (let lt = ltb-true (length items) (length more) t in let n = ap (λ (l : List Stamped). length l) none in let m = same-length in omega (arith, lt, n, m));
        none = λ f. e ∙ ap (λ (l : List Stamped). slice_get l 0) none;
      }

  -- and that there are no more than there is room for
  pub few-more : (room : ℕ) → (IsSome (item_in op) → length items < room) → length items ≤ room → length more ≤ room
  few-more room has few = by (marks-one op v)
    where
      by : MarksOne op v → length more ≤ room
      by (inl (x, one, some)) = let lt = has some in let n = ap (λ (l : List Stamped). length l) one in let m = same-length in omega (arith, lt, n, m)
      by (inr none) = let n = ap (λ (l : List Stamped). length l) none in let m = same-length in omega (arith, few, n, m)

-- ## for the crates above

-- with one value more a CPU has marked one item more, which is its last step's, or none, and then its last step has none
pub value-marks : (s t : CpuPlace) (v : ℕ) → t ≡ with_value s v
    → ((x : Stamped) × (last_at t ≡ Some x) × (items_at t ≡ items_at s ++ x ∷ [])) ⊎ ((last_at t ≡ None) × (items_at t ≡ items_at s))
value-marks s t v is = by (marks-one op v)
  where
    op : Option WordOp
    op = cpu_next s.job (cpu_fed s.job s.number s.values)

    last : last_at t ≡ slice_get (marks_in op v) 0
    last = ap last_at is ∙ last_mark-snoc s.job (cpu_start s.job s.number) s.values v

    items : items_at t ≡ items_at s ++ marks_in op v
    items = ap items_at is ∙ cpu_marks-snoc s.job (cpu_start s.job s.number) s.values v

    by : MarksOne op v → ((x : Stamped) × (last_at t ≡ Some x) × (items_at t ≡ items_at s ++ x ∷ [])) ⊎ ((last_at t ≡ None) × (items_at t ≡ items_at s))
    by (inl (x, one, some)) = inl (x, last ∙ ap (λ (l : List Stamped). slice_get l 0) one, items ∙ ap (λ (l : List Stamped). items_at s ++ l) one)
    by (inr none) = inr (last ∙ ap (λ (l : List Stamped). slice_get l 0) none, items ∙ ap (λ (l : List Stamped). items_at s ++ l) none ∙ append-nil (items_at s))
