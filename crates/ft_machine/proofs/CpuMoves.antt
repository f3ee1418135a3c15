-- A step of a CPU: the word machine's row.
use Rattle.std.proofs.Common.{◌≡◌, ◌≢◌, ℕ, zero, suc, ◌+◌, ◌<◌, inl, inr, List, [], ◌∷◌, get_or, length, set, slice_get, Option, Some, None, IsSome, option_map, refl, sym, ap, ◌∙◌, subst, arith, length-set}
use Rattle.std.proofs.lemmas.Bool.{cases_eq, lt-ltb}
use Rattle.std.proofs.lemmas.Option.{same_Some, slice_get_read, slice_get_within}
use Rattle.std.specs.Prelude.{nat_lt, cond}
use Rattle.ft_base.specs.declared.item.Item.{Item}
use Rattle.ft_base.specs.declared.item.Stamped.{Stamped}
use Rattle.ft_base.specs.declared.limits.TheConstants.{ITEMS}
use Rattle.ft_base.specs.declared.turn.Actor.TheVariants as actor
use Rattle.ft_base.specs.declared.number.CpuNo.{CpuNo}
use Rattle.ft_base.specs.Desk.{desk}
use Rattle.ft_base.specs.Job.{Job}
use Rattle.ft_base.proofs.Small.{false_true}
use Rattle.word_map.specs.declared.op.Op.{Op}
use Rattle.word_map.specs.Contents.{mask_of}
use Rattle.word_map.specs.Ops.{WordOp, Load, Store, Mark, placed}
use Rattle.word_map.specs.Shapes.{shape_of}
use Rattle.word_map.specs.Words.{at_put}
use Rattle.word_machine.specs.Cpu.{Cpu, cpu_got, cpu_next, cpu_start}
use Rattle.word_machine.specs.Laws.{CpuTakes, IsOnWord, Runs, items_on, room_on}
use Rattle.word_machine.specs.Limits.{IsLimited}
use Rattle.word_machine.specs.Machine.{World, cpu_moved, cpu_row, past_after, step, taken}
use Rattle.word_machine_laws.proofs.CpuTakes.{cpu-takes}
use Rattle.word_machine_laws.proofs.Limited.{limited as word-job}
use Rattle.word_machine_laws.proofs.Marked.{mark-room, other-mark, own-mark}
use Rattle.word_machine.proofs.Small.{put_other, put_same}
use Rattle.word_machine_laws.proofs.There.{cpu-there}
use Rattle.word_machine_laws.proofs.WordsFit.{cpu-row-runs}
use Rattle.cpu_core.specs.declared.parts.Parts.{Parts as CpuParts}
use Rattle.cpu_core.specs.Cpus.{IsFor as IsCpuFor, cpu_of}
use Rattle.cpu_core.specs.Marks.{HasRoom}
use Rattle.cpu_core.specs.Taken.{IsTaken}
use Rattle.task_core.specs.TaskOps.{item_in}
use Rattle.cpu_core.proofs.Lookups.{get-set}
use Rattle.ft_machine.specs.Tables.{HasRoomAt, IsOn, gives, made}
use Rattle.ft_machine.specs.Worlds.{IsCpuAt, IsFor, Parts, cpu_or, cpus_of, marked_on, world_of}
use Rattle.ft_machine.proofs.Chosen.{Chosen, chosen, none-next}
use Rattle.ft_machine.proofs.Made.{IsOpThere, gives-is, made-is, made-length, of-job, on-is, room-is}
use Rattle.ft_machine.proofs.Moved.{HasMoved}
use Rattle.ft_machine.proofs.Plans.{room-most}
use Rattle.ft_machine.proofs.Recording.{IsLeft, IsMarkOf, told-past}

-- ## the list of CPUs

get-set-other : {A : Type 0} (xs : List A) (i k : ℕ) (y : A) → k ≢ i → slice_get (set xs i y) k ≡ slice_get xs k
get-set-other [] i k y ne = refl
get-set-other (x ∷ xs) zero zero y ne = absurd (ne refl)
get-set-other (x ∷ xs) zero (suc k) y ne = refl
get-set-other (x ∷ xs) (suc i) zero y ne = refl
get-set-other (x ∷ xs) (suc i) (suc k) y ne = get-set-other xs i k y (λ e. ne (ap suc e))

-- one CPU is changed
module _ (job : Job) (cpus : List CpuParts) (i : ℕ) (x y : CpuParts) (at : slice_get cpus i ≡ Some x) where
  put-at : (k : ℕ) → cpus_of job (set cpus i y) k ≡ at_put (cpus_of job cpus) i (cpu_of job y) k
  put-at k = elim (cases_eq k i) [
    | inl e ↦ subst (λ n. cpus_of job (set cpus i y) n ≡ at_put (cpus_of job cpus) i (cpu_of job y) n) (sym e)
        (ap (cpu_or job (cpu_start job i)) (get-set cpus i x y at) ∙ sym (put_same (cpus_of job cpus) i (cpu_of job y)))
    | inr ne ↦ ap (cpu_or job (cpu_start job k)) (get-set-other cpus i k y ne) ∙ sym (put_other (cpus_of job cpus) i (cpu_of job y) k ne)
  ]

  pub cpus-put : cpus_of job (set cpus i y) ≡ at_put (cpus_of job cpus) i (cpu_of job y)
  cpus-put = λ j k. put-at k j

-- the words, control and CPUs after a step of a CPU
abbrev pub ran : Parts → List ℕ → ℕ → CpuParts → Parts
ran w words i y = record { shape = w.shape; words = words; control = w.control; cpus = set w.cpus i y }

module _ (job : Job) (past : List Item) (limited : IsLimited job) (w : Parts) (k : IsFor job past w) (r : Runs job (world_of job past w))
    (i : ℕ) (x : CpuParts) (at : slice_get w.cpus i ≡ Some x) where
  pub inside : i < length job.quanta
  inside = subst (λ n. i < n) k.cpus' (slice_get_within w.cpus i x at)

  same : (world_of job past w).cpus i ≡ cpu_of job x
  same = ap (cpu_or job (cpu_start job i)) at

  step-is : (n : CpuNo) → n.0 ≡ i → step job (actor.Cpu n) (world_of job past w) ≡ cpu_moved job (world_of job past w) i (cpu_next job (cpu_of job x))
  unfolding step
  step-is n e =
      (λ j. cond (nat_lt (e j) (length job.quanta)) (cpu_moved job (world_of job past w) (e j) (cpu_next job ((world_of job past w).cpus (e j)))) (world_of job past w))
      ∙ ap (λ b. cond b (cpu_moved job (world_of job past w) i (cpu_next job ((world_of job past w).cpus i))) (world_of job past w)) (lt-ltb i (length job.quanta) inside)
      ∙ ap (λ me. cpu_moved job (world_of job past w) i (cpu_next job me)) same

  -- with no operation nothing happens
  pub cpu-rests : (n : CpuNo) → n.0 ≡ i → cpu_next job (cpu_of job x) ≡ None → world_of job past w ≡ step job (actor.Cpu n) (world_of job past w)
  cpu-rests n e none = sym (step-is n e ∙ ap (λ o. cpu_moved job (world_of job past w) i o) none)

  module _ (op : WordOp) (next : cpu_next job (cpu_of job x) ≡ Some op) where
    abbrev row : World
    row = cpu_row job (world_of job past w) i op

    next-in : cpu_next job ((world_of job past w).cpus i) ≡ Some op
    next-in = ap (cpu_next job) same ∙ next

    runs-on : Runs job row
    runs-on = cpu-row-runs job limited (world_of job past w) i op inside r next-in

    there : IsOpThere (shape_of job) op
    there = of-job job op (subst (λ o. IsOnWord job o) next-in (cpu-there job (word-job job limited) (world_of job past w) i inside r.kept))

    on : IsOn (length w.words) (placed (shape_of job) op)
    on = on-is (shape_of job) (mask_of (desk job 0) (length job.tasks)) w.words k.count op there

    room : HasRoomAt w.words (placed (shape_of job) op)
    room = room-is (shape_of job) (mask_of (desk job 0) (length job.tasks)) w.words k.count op runs-on.fits

    value-is : gives (placed (shape_of job) op) w.words ≡ taken op (world_of job past w).words
    value-is = gives-is (shape_of job) (mask_of (desk job 0) (length job.tasks)) w.words k.count op there

    takes : CpuTakes job (cpu_of job x) (gives (placed (shape_of job) op) w.words)
    takes =
        subst (λ v. CpuTakes job (cpu_of job x) v) (sym value-is)
        (subst (λ me. CpuTakes job me (taken op (world_of job past w).words)) same
        (cpu-takes job (word-job job limited) (world_of job past w) r.kept i inside op next-in))

    own : IsCpuAt job past i x
    own = k.each i x at

    -- there is room for what it marks
    mark-fits : (o : WordOp) → cpu_next job ((world_of job past w).cpus i) ≡ Some o → IsSome (item_in (Some o)) → HasRoom x.marked
    mark-fits (Load y) e some = false_true some
    mark-fits (Store y z) e some = false_true some
    mark-fits (Mark item) e some =
        let lt = mark-room job (word-job job limited) (world_of job past w) r.kept i inside item e in
        let none = ap (λ (xs : List Stamped). length xs) own.none in
        let most = room-most job i limited in
        let left = own.left in
        let some : 0 < room_on job i = omega (arith, lt) in
        let room = own.room some in
        record { room = omega (arith, none, room); left = omega (arith, lt, most, none, left) }

    module _ (y : CpuParts) (is_for : IsCpuFor job y) (none : y.marked.items ≡ []) (left : IsLeft op x.marked.left y.marked.left) (stays : y.marked.room ≡ x.marked.room)
        (is : cpu_of job y ≡ cpu_got job (cpu_of job x) (gives (placed (shape_of job) op) w.words))
        (o : Option Item) (is-told : IsMarkOf op o) where
      abbrev told : List Item
      told = marked_on o past

      abbrev after : Parts
      after = ran w (made (placed (shape_of job) op) w.words) i y

      got-is : cpu_of job y ≡ cpu_got job ((world_of job past w).cpus i) (taken op (world_of job past w).words)
      got-is = is ∙ λ j. cpu_got job (sym same j) (value-is j)

      pub cpu-moves : world_of job told after ≡ row
      cpu-moves = λ j. record {
        words = made-is (shape_of job) (mask_of (desk job 0) (length job.tasks)) w.words k.count op there j;
        control = (world_of job past w).control;
        cpus = (cpus-put job w.cpus i x y at ∙ ap (λ me. at_put (cpus_of job w.cpus) i me) got-is) j;
        past = told-past op o is-told past j;
      }

      -- what it can still mark
      own-left : (o : WordOp) → cpu_next job ((world_of job past w).cpus i) ≡ Some o → IsLeft o x.marked.left y.marked.left
          → y.marked.left + items_on job i (past_after o past) ≡ ITEMS
      own-left (Load a) e l = ap (λ n. n + items_on job i past) l ∙ own.left
      own-left (Store a b) e l = ap (λ n. n + items_on job i past) l ∙ own.left
      own-left (Mark item) e l =
          let more = own-mark job (word-job job limited) (world_of job past w) r.kept i inside item e in
          let had = own.left in
          omega (arith, more, l, had)

      -- no other CPU has marked anything
      other-count : (c : ℕ) → c ≢ i → (o : WordOp) → cpu_next job ((world_of job past w).cpus i) ≡ Some o
          → items_on job c (past_after o past) ≡ items_on job c past
      other-count c ne (Load a) e = refl
      other-count c ne (Store a b) e = refl
      other-count c ne (Mark item) e = other-mark job (word-job job limited) (world_of job past w) r.kept i inside item e c ne

      number-is : y.cpu.0 ≡ i
      number-is =
          ap (λ (me : Cpu). me.number) (got-is ∙ sym (put_same (world_of job past w).cpus i (cpu_got job ((world_of job past w).cpus i) (taken op (world_of job past w).words))))
          ∙ (runs-on.kept.cpus i inside).number

      on-past : (c : ℕ) → items_on job c told ≡ items_on job c (past_after op past)
      on-past c = ap (λ (items : List Item). items_on job c items) (told-past op o is-told past)

      this-cpu : IsCpuAt job told i y
      this-cpu = record {
        is_for = is_for;
        number = number-is;
        none = none;
        left = ap (λ n. y.marked.left + n) (on-past i) ∙ own-left op next-in left;
        room = λ some. subst (λ n. 0 < n) (sym stays) (own.room some);
      }

      other-cpu : (c : ℕ) → c ≢ i → (z : CpuParts) → slice_get w.cpus c ≡ Some z → IsCpuAt job told c z
      other-cpu c ne z there-is = let kept = k.each c z there-is in record {
        is_for = kept.is_for;
        number = kept.number;
        none = kept.none;
        left = ap (λ n. z.marked.left + n) (on-past c ∙ other-count c ne op next-in) ∙ kept.left;
        room = kept.room;
      }

      each-cpu : (c : ℕ) (z : CpuParts) → slice_get (set w.cpus i y) c ≡ Some z → IsCpuAt job told c z
      each-cpu c z there-is = elim (cases_eq c i) [
        | inl e ↦
            let now : slice_get (set w.cpus i y) i ≡ Some z = subst (λ n. slice_get (set w.cpus i y) n ≡ Some z) e there-is in
            let one : y ≡ z = same_Some y z (sym (get-set w.cpus i x y at) ∙ now) in
            subst (λ n. IsCpuAt job told n z) (sym e) (subst (λ u. IsCpuAt job told i u) one this-cpu)
        | inr ne ↦ other-cpu c ne z (sym (get-set-other w.cpus i c y ne) ∙ there-is)
      ]

      pub cpu-keeps : IsFor job told after
      cpu-keeps = record {
        shape' = k.shape';
        count = made-length (shape_of job) op w.words ∙ k.count;
        control' = k.control';
        none = k.none;
        cpus' = length-set w.cpus i y ∙ k.cpus';
        each = each-cpu;
      }

-- ## as code has the operation

module _ (job : Job) (past : List Item) (limited : IsLimited job) (w : Parts) (k : IsFor job past w) (r : Runs job (world_of job past w))
    (i : ℕ) (x : CpuParts) (at : slice_get w.cpus i ≡ Some x)
    (code : Op) (u : Chosen (shape_of job) (cpu_next job (cpu_of job x)) code) where
  pub cpu-on : IsOn (length w.words) code
  cpu-on = subst (λ o. IsOn (length w.words) o) u.placed' (on job past limited w k r i x at u.op u.is)

  pub cpu-room : HasRoomAt w.words code
  cpu-room = subst (λ o. HasRoomAt w.words o) u.placed' (room job past limited w k r i x at u.op u.is)

  pub cpu-takes-it : (v : ℕ) → v ≡ gives code w.words → CpuTakes job (cpu_of job x) v
  cpu-takes-it v value = subst (λ n. CpuTakes job (cpu_of job x) n) (sym (value ∙ ap (λ o. gives o w.words) (sym u.placed'))) (takes job past limited w k r i x at u.op u.is)

  pub cpu-fits : IsSome (item_in (cpu_next job (cpu_of job x))) → HasRoom x.marked
  cpu-fits some = mark-fits job past limited w k r i x at u.op u.is u.op (next-in job past limited w k r i x at u.op u.is) (subst (λ o. IsSome (item_in o)) u.is some)

  pub cpu-taken : (v : ℕ) → v ≡ gives code w.words → IsTaken x v
  cpu-taken v value = record {
    job = job;
    limited = limited;
    is_for = (k.each i x at).is_for;
    takes = cpu-takes-it v value;
    next = subst (λ (o : Option WordOp). IsSome o) (sym u.is) refl;
    room = cpu-fits;
  }

  -- a mark was left to it
  pub cpu-had-left : IsSome (item_in (Some u.op)) → 0 < x.marked.left
  cpu-had-left some = let lt = (cpu-fits (subst (λ o. IsSome (item_in o)) (sym u.is) some)).left in omega (arith, lt)

  pub cpu-moved : (words : List ℕ) → words ≡ made code w.words → (v : ℕ) → v ≡ gives code w.words → (y : CpuParts) → IsCpuFor job y → y.marked.items ≡ []
      → IsLeft u.op x.marked.left y.marked.left → y.marked.room ≡ x.marked.room → cpu_of job y ≡ cpu_got job (cpu_of job x) v → (o : Option Item) → IsMarkOf u.op o
      → (n : CpuNo) → n.0 ≡ i
      → HasMoved job (marked_on o past) (ran w words i y) (step job (actor.Cpu n) (world_of job past w))
  cpu-moved words words-are v value y is_for none left stays is o is-told n e =
      let is' : cpu_of job y ≡ cpu_got job (cpu_of job x) (gives (placed (shape_of job) u.op) w.words) =
      is ∙ ap (λ m. cpu_got job (cpu_of job x) m) (value ∙ ap (λ o. gives o w.words) (sym u.placed')) in
      let same-words : made (placed (shape_of job) u.op) w.words ≡ words = ap (λ o. made o w.words) u.placed' ∙ sym words-are in
      let goes = cpu-moves job past limited w k r i x at u.op u.is y is_for none left stays is' o is-told in
      subst (λ ws. HasMoved job (marked_on o past) (ran w ws i y) (step job (actor.Cpu n) (world_of job past w))) same-words
      (record {
        is_for = cpu-keeps job past limited w k r i x at u.op u.is y is_for none left stays is' o is-told;
        is = goes ∙ sym (step-is job past limited w k r i x at n e ∙ ap (λ p. cpu_moved job (world_of job past w) i p) u.is);
        runs = subst (λ s. Runs job s) (sym goes) (runs-on job past limited w k r i x at u.op u.is);
      })

-- ## from the code's answers

module _ (w : Parts) (i : ℕ) (x : CpuParts) (at : slice_get w.cpus i ≡ Some x) (o : Option Op)
    (answer : (job : Job) → IsLimited job → IsCpuFor job x → o ≡ option_map (placed (shape_of job)) (cpu_next job (cpu_of job x))) where
  pub cpu-chosen : (job : Job) (past : List Item) → IsLimited job → IsFor job past w → (code : Op) → o ≡ Some code → Chosen (shape_of job) (cpu_next job (cpu_of job x)) code
  cpu-chosen job past limited k code e = chosen (shape_of job) (cpu_next job (cpu_of job x)) code (sym (answer job limited (k.each i x at).is_for) ∙ e)

  pub cpu-none : (job : Job) (past : List Item) → IsLimited job → IsFor job past w → o ≡ None → cpu_next job (cpu_of job x) ≡ None
  cpu-none job past limited k e = none-next (shape_of job) (cpu_next job (cpu_of job x)) (sym (answer job limited (k.each i x at).is_for) ∙ e)

-- the CPU that is read
pub found : (v w : Parts) → w ≡ v → (i : ℕ) → i < length v.cpus → (x : CpuParts) → x ≡ get_or w.cpus i x → slice_get w.cpus i ≡ Some x
found v w e i lt x is = slice_get_read w.cpus (length w.cpus) i x refl (subst (λ (p : Parts). i < length p.cpus) (sym e) lt) is

-- a CPU that is read twice makes the operation of the first reading
pub cpu-again : (v w : Parts) → w ≡ v → (i : ℕ) → i < length v.cpus → (x y : CpuParts) → x ≡ get_or w.cpus i x → y ≡ get_or w.cpus i y → (o : Option Op)
    → ((job : Job) → IsLimited job → IsCpuFor job x → o ≡ option_map (placed (shape_of job)) (cpu_next job (cpu_of job x)))
    → (code : Op) → o ≡ Some code → (job : Job) (past : List Item) → IsLimited job → IsFor job past w → Chosen (shape_of job) (cpu_next job (cpu_of job y)) code
cpu-again v w e i lt x y first second o answer code is job past limited k =
    let at = found v w e i lt y second in
    let one : x ≡ y = same_Some x y (sym (found v w e i lt x first) ∙ at) in
    cpu-chosen w i y at o
    (subst (λ (z : CpuParts). (job : Job) → IsLimited job → IsCpuFor job z → o ≡ option_map (placed (shape_of job)) (cpu_next job (cpu_of job z))) one answer)
    job past limited k code is
