-- Whose items marks are: a CPU marks items of its own tasks, and control of none. So a mark of a CPU is one more item of its tasks, of which
-- there are never more than their calls can make.
use Rattle.std.proofs.Common.{cond, ◌≡◌, ◌≢◌, ℕ, zero, suc, ◌+◌, ◌<◌, ◌≤◌, Bool, true, false, ◌==◌, List, [], ◌∷◌, length, get_or, Some, inl, inr, refl, sym, ap, ◌∙◌, subst, arith, filter, eqb-true}
use Rattle.std.proofs.lemmas.Option.{same_Some}
use Rattle.std.specs.Prelude.{sum_by}
use Rattle.std.specs.List.{range_with_len, AllByRecursion as Each}
use Rattle.std.proofs.lemmas.Bool.Decides.{eqb_tells}
use Rattle.std.proofs.lemmas.List.Sums.{sum_by-cons}
use Rattle.ft_base.specs.declared.item.Item.{Item}
use Rattle.ft_base.specs.declared.item.Item.TheVariants.{Begin, Return}
use Rattle.ft_base.specs.Job.{Job, Ctl, Run, Until, no_task}
use Rattle.ft_base.proofs.Small.{==-refl, Each-filter, Each-weaker}
use Rattle.ft_hist.specs.Past.{is_of}
use Rattle.ft_hist.proofs.Lists.{Each-passes}
use Rattle.ft_hist.specs.Rules.{IsLegalPast, MayFollow}
use Rattle.history_laws.specs.Bound.{items_of}
use Rattle.word_map.specs.Ops.{Mark}
use Rattle.word_machine.specs.Commands.{Effect, Removes, effect, command}
use Rattle.word_machine.specs.Control.{Control, Position, Line, Relink, Close, answer_in, line_op, relink_op, next_in, control_next}
use Rattle.word_machine.specs.Cpu.{cpu_next}
use Rattle.word_machine.specs.Machine.{World}
use Rattle.word_machine.specs.Rule.{MachineRule, IsOn, IsWordJob}
use Rattle.word_machine.specs.Laws.{tasks_on, items_on, room_on}
use Rattle.word_machine_laws.proofs.PollRows.{cpu-did}
use Rattle.word_machine_laws.proofs.Lengths.{past-on-cpu}
use Rattle.word_machine.proofs.Small.{each_of, lower-apart}

-- ## counts of items

module _ (item : Item) (past : List Item) where
  -- an item of none of these tasks
  none-counted : (ts : List ℕ) → Each (λ u. is_of u item ≡ false) ts → sum_by (λ u. items_of u (item ∷ past)) ts ≡ sum_by (λ u. items_of u past) ts
  none-counted [] h = refl
  none-counted (u ∷ ts) h =
      let a = sum_by-cons (λ v. items_of v (item ∷ past)) u ts in
      let b = sum_by-cons (λ v. items_of v past) u ts in
      let here : items_of u (item ∷ past) ≡ items_of u past = rw h.0 refl in
      let more = none-counted ts h.1 in
      omega (arith, a, b, here, more)

  -- an item of one of them, which are those that pass of n tasks from a on
  module _ (t : ℕ) (own : (u : ℕ) → is_of u item ≡ (t == u)) (p : ℕ → Bool) (passes : p t ≡ true) where
    above : (n a : ℕ) → t < a → Each (λ u. is_of u item ≡ false) (range_with_len a n)
    above zero a lt = tt
    above (suc n) a lt = (own a ∙ lower-apart t a lt, above n (a + 1) (omega (arith, lt)))

    one-counted : (n a : ℕ) → a ≤ t → t < a + n
        → sum_by (λ u. items_of u (item ∷ past)) (filter p (range_with_len a n)) ≡ suc (sum_by (λ u. items_of u past) (filter p (range_with_len a n)))
    one-counted zero a le lt = absurd (omega (arith, le, lt))
    one-counted (suc n) a le lt = elim (eqb_tells t a) [
      | inl e ↦ first e.1
      | inr e ↦ (let ne = e.1 in later e.0 (one-counted n (a + 1) (after a t le ne) (omega (arith, lt))))
    ]
      where
        after : (x y : ℕ) → x ≤ y → (y ≡ x → ⊥) → x + 1 ≤ y
        after x y less ne = omega (arith, less, ne)

        first : t ≡ a → sum_by (λ u. items_of u (item ∷ past)) (filter p (range_with_len a (suc n))) ≡ suc (sum_by (λ u. items_of u past) (filter p (range_with_len a (suc n))))
        first e =
            let rest = filter p (range_with_len (a + 1) n) in
            let is : p a ≡ true = subst (λ v. p v ≡ true) e passes in
            let mine : is_of a item ≡ true = own a ∙ subst (λ v. (v == a) ≡ true) (sym e) (==-refl a) in
            let here : items_of a (item ∷ past) ≡ suc (items_of a past) = rw mine refl in
            let x = sum_by-cons (λ v. items_of v (item ∷ past)) a rest in
            let y = sum_by-cons (λ v. items_of v past) a rest in
            let more = none-counted rest (Each-filter (λ u. is_of u item ≡ false) p (range_with_len (a + 1) n) (above n (a + 1) (omega (arith, e)))) in
            rw is (omega (arith, here, x, y, more))

        later : (t == a) ≡ false
            → sum_by (λ u. items_of u (item ∷ past)) (filter p (range_with_len (a + 1) n)) ≡ suc (sum_by (λ u. items_of u past) (filter p (range_with_len (a + 1) n)))
            → sum_by (λ u. items_of u (item ∷ past)) (filter p (range_with_len a (suc n))) ≡ suc (sum_by (λ u. items_of u past) (filter p (range_with_len a (suc n))))
        later ne more = elim (p a) as (λ b. sum_by (λ u. items_of u (item ∷ past)) (cond b (a ∷ filter p (range_with_len (a + 1) n)) (filter p (range_with_len (a + 1) n)))
            ≡ suc (sum_by (λ u. items_of u past) (cond b (a ∷ filter p (range_with_len (a + 1) n)) (filter p (range_with_len (a + 1) n))))) [
              | true ↦ (let rest = filter p (range_with_len (a + 1) n) in
                  let other : is_of a item ≡ false = own a ∙ ne in
                  let here : items_of a (item ∷ past) ≡ items_of a past = rw other refl in
                  let x = sum_by-cons (λ v. items_of v (item ∷ past)) a rest in
                  let y = sum_by-cons (λ v. items_of v past) a rest in
                  omega (arith, here, x, y, more))
              | false ↦ more
            ]

-- ## marks of a CPU

module _ (job : Job) (ok : IsWordJob job) (s : World) (k : MachineRule job s) (c : ℕ) (inside : c < length job.quanta) (item : Item)
    (is : cpu_next job (s.cpus c) ≡ Some (Mark item)) where
  marked : (t : ℕ) × IsOn job c t × ((u : ℕ) → is_of u item ≡ (t == u)) × MayFollow job s.past item
  unfolding cpu_next
  marked = let d = cpu-did job ok s k c inside (s.cpus c) (k.cpus c inside) (s.cpus c).phase refl (Mark item) is in (d.0, d.1, d.2, d.3)

  -- the item is one of its tasks'
  pub own-mark : items_on job c (item ∷ s.past) ≡ suc (items_on job c s.past)
  own-mark =
      let m = marked in
      let lt = m.1.0 in
      one-counted item s.past m.0 m.2 (λ u. (get_or job.tasks u no_task).cpu == c) (rw m.1.1 (==-refl c)) (length job.tasks) 0 (omega arith) (omega (arith, lt))

  -- and of no other CPU's
  pub other-mark : (c' : ℕ) → c' ≢ c → items_on job c' (item ∷ s.past) ≡ items_on job c' s.past
  other-mark c' ne =
      none-counted item s.past (tasks_on job c')
      (Each-weaker (λ u. ((get_or job.tasks u no_task).cpu == c') ≡ true) (λ u. is_of u item ≡ false) (tasks_on job c') (λ u on. marked.2 u ∙ apart u on)
      (Each-passes (λ u. (get_or job.tasks u no_task).cpu == c') (range_with_len 0 (length job.tasks))))
    where
      apart : (u : ℕ) → ((get_or job.tasks u no_task).cpu == c') ≡ true → (marked.0 == u) ≡ false
      apart u on = elim (eqb_tells marked.0 u) [
        | inl e ↦ absurd (ne (sym (eqb-true _ _ on) ∙ ap (λ (i : ℕ). (get_or job.tasks i no_task).cpu) (sym e.1) ∙ marked.1.1))
        | inr e ↦ e.0
      ]

  -- so its tasks have not had all the items for which there is room
  pub mark-room : items_on job c s.past < room_on job c
  unfolding IsLegalPast
  mark-room = let most = past-on-cpu job c (item ∷ s.past) (marked.3, k.legal) in let one = own-mark in omega (arith, most, one)

-- ## marks of control

pub relink-marks : (z : Effect) (u : ℕ) (order : List ℕ) (item : Item) → relink_op z u order ≡ Mark item → ⊥
relink-marks Removes u order item e = absurd cc
relink-marks _ u order item e = absurd cc

control-marks : (job : Job) (c : Control) (p : Position) (item : Item) → next_in job c p ≡ Some (Mark item) → (u : ℕ) → is_of u item ≡ false
control-marks job c Line item is u = by c.remaining is
  where
    by : (lines : List Ctl) → line_op c.commands_done lines ≡ Some (Mark item) → is_of u item ≡ false
    by [] e = absurd cc
    by (Until t n ∷ rest) e = absurd cc
    by (Run x ∷ rest) e = let same : Begin (suc c.commands_done) ≡ item = cc in subst (λ i. is_of u i ≡ false) same refl
control-marks job c Relink item is u = absurd (relink-marks (effect job c.commands_done) _ _ item (same_Some _ _ is))
control-marks job c Close item is u =
    let same : Return (suc c.commands_done) (answer_in job c.commands_done (command job c.commands_done)) ≡ item = cc in subst (λ i. is_of u i ≡ false) same refl
control-marks job c _ item is u = absurd cc

pub control-mark : (job : Job) (s : World) (c : ℕ) (item : Item) → control_next job s.control ≡ Some (Mark item) → items_on job c (item ∷ s.past) ≡ items_on job c s.past
unfolding control_next
control-mark job s c item is =
    none-counted item s.past (tasks_on job c)
    (each_of (λ u. is_of u item ≡ false) (tasks_on job c) (control-marks job s.control s.control.position item is))
