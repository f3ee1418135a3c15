-- A step of a CPU's seat: what the table asks before the operation, what the CPU asks of the value, and what the seat keeps after it.
use Rattle.std.proofs.Common.{◌≡◌, ℕ, ◌<◌, Bool, nat_lt, List, [], ◌∷◌, ◌++◌, length, Option, Some, None, IsSome, option_map, refl, sym, ap, ◌∙◌, subst, arith}
use Rattle.atomic_table.specs.Seated.{TableId}
use Rattle.atomic_table.specs.Table.{Me, Allows}
use Rattle.ft_base.specs.declared.item.Stamped.{Stamped}
use Rattle.ft_base.specs.Job.{Job}
use Rattle.word_map.specs.declared.op.Op.{Op}
use Rattle.word_map.specs.Ops.{WordOp, placed}
use Rattle.word_map.specs.Places.{len}
use Rattle.word_map.specs.Shapes.{shape_of}
use Rattle.word_machine.specs.Cpu.{Cpu, cpu_got, cpu_next, cpu_start}
use Rattle.word_machine.specs.Laws.{CpuTakes, IsOnWord, room_on}
use Rattle.word_machine.specs.Limits.{IsLimited}
use Rattle.cpu_core.specs.declared.parts.Parts.{Parts as CpuParts}
use Rattle.cpu_core.specs.CpuSteps.{marks_in}
use Rattle.cpu_core.specs.Cpus.{IsFor, cpu_of}
use Rattle.cpu_core.specs.Taken.{IsTaken}
use Rattle.task_core.specs.TaskOps.{item_in}
use Rattle.ft_machine.proofs.Chosen.{Chosen, chosen, none-next}
use Rattle.ft_machine.proofs.Made.{IsOpThere, of-job}
use Rattle.ft_machine.proofs.Plans.{room-most}
use Rattle.ft_machine.specs.Fed.{cpu_fed, cpu_items}
use Rattle.ft_machine.proofs.FedLaws.{cpu_after-append}
use Rattle.live_table.specs.declared.live.Going.TheVariants.{End, More}
use Rattle.live_table.specs.Views.{View, CpuFacts, FactsIn, cpu_view, took, values_of}
use Rattle.live_table.specs.AtomicSteps.{AtomicStep, MakesOp}
use Rattle.live_table.specs.Operations.{op_after, op_gives, op_word}
use Rattle.live_table.specs.Rule.{LiveRule}
use Rattle.live_table.specs.Seats.{CpuPlace, CpuSits, IsLast, IsRising, last_mark}
use Rattle.live_table.specs.Steps.{CpuSteps, given_by}
use Rattle.live_table.proofs.Lasts.{few-more, last-more, last_mark-snoc}
use Rattle.live_table.proofs.Moves.{cpu_allowed}
use Rattle.live_table.proofs.Rising.{rising-more}
use Rattle.live_table.proofs.Tables.{op-within}
use Rattle.live_table.proofs.Values.{cpu_marks-snoc}

-- what contracts see of the seat
abbrev pub place_of : {S : Type 0} → TableId → ℕ → Me S View → ℕ → CpuPlace
place_of table id me c = record { table_id = table; id = id; job = me.0.job; number = c; values = values_of me.0.parts }

module _ (me : Me (Unit {0}) View) (c : ℕ) (x : CpuParts) (fresh : Bool) (sits : CpuSits me c x fresh) where
  -- with no operation left nothing happens
  pub cpu-stops : (o : Option Op)
      → ((job : Job) → IsLimited job → IsFor job x → o ≡ option_map (placed (shape_of job)) (cpu_next job (cpu_of job x))) → o ≡ None
      → (table : TableId) (id : ℕ) (s : CpuPlace) → place_of table id me c ≡ s → CpuSteps s End (place_of table id me c)
  cpu-stops o answer none table id s is =
      let job = me.0.job in
      let over : cpu_next job (cpu_of job x) ≡ None =
      none-next (shape_of job) (cpu_next job (cpu_of job x)) (sym (answer job sits.limited sits.is_for) ∙ none) in
      subst (λ (u : CpuPlace). CpuSteps u End (place_of table id me c)) is (ap (cpu_next job) (sym sits.fed) ∙ over, refl)

  module _ (code : Op)
      (answer : (job : Job) → IsLimited job → IsFor job x → Some code ≡ option_map (placed (shape_of job)) (cpu_next job (cpu_of job x))) where
    choice : Chosen (shape_of me.0.job) (cpu_next me.0.job (cpu_of me.0.job x)) code
    choice = let job = me.0.job in chosen (shape_of job) (cpu_next job (cpu_of job x)) code (sym (answer job sits.limited sits.is_for))

    next-fed : cpu_next me.0.job (cpu_fed me.0.job c (values_of me.0.parts)) ≡ Some choice.op
    next-fed = ap (cpu_next me.0.job) (sym sits.fed) ∙ choice.is

    -- the operation is on a word of the table
    pub cpu-within : (key : Job) → me.0.job ≡ key → (words : ℕ) → words ≡ len (shape_of key) → op_word code < words
    cpu-within key same words many =
        let job = me.0.job in
        let there : IsOpThere (shape_of job) choice.op = of-job job choice.op (subst (λ o. IsOnWord job o) choice.is sits.next) in
        let inside : op_word code < len (shape_of job) = subst (λ o. op_word o < len (shape_of job)) choice.placed' (op-within (shape_of job) choice.op there) in
        let e = ap (λ q. len (shape_of q)) same in
        omega (arith, inside, e, many)

    -- the rule of the table allows it
    pub cpu-allows : (key : Job) → me.0.job ≡ key → (slots id : ℕ)
        → Allows {S = Unit {0}} (LiveRule key) slots id me (op_word code) (op_after code) (λ n m. MakesOp None code n me m)
    cpu-allows key same slots id =
        let job = me.0.job in
        let vs = values_of me.0.parts in
        subst (λ (q : Job). Allows {S = Unit {0}} (LiveRule q) slots id me (op_word code) (op_after code) (λ n m. MakesOp None code n me m)) same
        (subst (λ (u : Me (Unit {0}) View). Allows {S = Unit {0}} (LiveRule job) slots id u (op_word code) (op_after code) (λ n m. MakesOp None code n u m)) (sym sits.view')
        (subst (λ (o : Op). Allows {S = Unit {0}} (LiveRule job) slots id (cpu_view job c vs, []) (op_word o) (op_after o) (λ n m. MakesOp None o n (cpu_view job c vs, []) m)) choice.placed'
        (cpu_allowed job slots id c vs choice.op next-fed)))

    module _ (m : Me (Unit {0}) View) (n v : ℕ) (value : v ≡ op_gives code n) (takes : MakesOp None code n me m) where
      -- the seat knows one value more
      knows : m ≡ (cpu_view me.0.job c (values_of me.0.parts ++ v ∷ []), [])
      knows = takes.0.0 ∙ (λ i. (took (sits.view' i).0 (sym value i), (sits.view' i).1))

      told : CpuFacts me.0.job c v (values_of me.0.parts)
      told =
          subst (λ z. CpuFacts me.0.job c z (values_of me.0.parts)) (sym value)
          (subst (λ (u : Me (Unit {0}) View). FactsIn u.0.led (op_gives code n) u.0.parts) sits.view' takes.0.1)

      takes-it : CpuTakes me.0.job (cpu_of me.0.job x) v
      takes-it = subst (λ s. CpuTakes me.0.job s v) (sym sits.fed) told.fits

      -- the CPU may take the value
      pub cpu-taken : IsTaken x v
      cpu-taken = record {
        job = me.0.job;
        limited = sits.limited;
        is_for = sits.is_for;
        takes = takes-it;
        next = subst (λ (o : Option WordOp). IsSome o) (sym choice.is) refl;
        room = λ some.
            (let lt = told.room (subst (λ s. IsSome (item_in (cpu_next me.0.job s))) sits.fed some) in
            let had = ap (λ (xs : List Stamped). length xs) sits.marked in
            let room = sits.room in
            let left = sits.left in
            let most = room-most me.0.job c sits.limited in
            record { room = omega (arith, lt, had, room); left = omega (arith, lt, had, left, most) });
      }

      -- the seat after the CPU took it
      pub cpu-sits : (y : CpuParts)
          → ((job : Job) → IsLimited job → IsFor job x → CpuTakes job (cpu_of job x) v → IsFor job y)
          → ((job : Job) → IsLimited job → IsFor job x → CpuTakes job (cpu_of job x) v → cpu_of job y ≡ cpu_got job (cpu_of job x) v)
          → ((job : Job) → IsLimited job → IsFor job x → CpuTakes job (cpu_of job x) v
          → y.marked.items ≡ x.marked.items ++ marks_in (cpu_next job (cpu_of job x)) v)
          → y.marked.room ≡ x.marked.room → y.marked.left ≡ x.marked.left
          → (before after : List Stamped) → before ≡ x.marked.items → after ≡ y.marked.items → CpuSits m c y (nat_lt (length before) (length after))
      cpu-sits y of' is items room left before after first then =
          let job = me.0.job in
          let vs = values_of me.0.parts in
          let fed : cpu_of job y ≡ cpu_fed job c (vs ++ v ∷ []) =
          is job sits.limited sits.is_for takes-it ∙ ap (λ (s : Cpu). cpu_got job s v) sits.fed ∙ sym (cpu_after-append job (cpu_start job c) vs (v ∷ [])) in
          let marks : y.marked.items ≡ cpu_items job c vs ++ marks_in (cpu_next job (cpu_fed job c vs)) v =
          items job sits.limited sits.is_for takes-it ∙ (λ i. sits.marked i ++ marks_in (cpu_next job (sits.fed i)) v) in
          let op = cpu_next job (cpu_fed job c vs) in
          let had = ap (λ (l : List Stamped). length l) sits.marked in
          let fresh' = nat_lt (length before) (length after) in
          let few = sits.few in
          subst (λ (u : Me (Unit {0}) View). CpuSits u c y fresh') (sym knows) record {
            view' = refl;
            limited = sits.limited;
            is_for = of' job sits.limited sits.is_for takes-it;
            within = sits.within;
            fed = fed;
            marked = marks ∙ sym (cpu_marks-snoc job (cpu_start job c) vs v);
            rising = subst IsRising (sym marks)
                (rising-more (cpu_items job c vs) (cpu_next job (cpu_fed job c vs)) v (subst IsRising sits.marked sits.rising) told.told.rising);
            last = subst (λ (b : Bool). IsLast y.marked.items b (last_mark job (cpu_start job c) (vs ++ v ∷ [])))
                (λ i. nat_lt (length ((sym sits.marked ∙ sym first) i)) (length (sym then i)))
                (last-more (cpu_items job c vs) y.marked.items op v marks (last_mark job (cpu_start job c) (vs ++ v ∷ []))
                (last_mark-snoc job (cpu_start job c) vs v));
            room = room ∙ sits.room;
            few = few-more (cpu_items job c vs) y.marked.items op v marks (room_on job c) told.room (omega (arith, few, had));
            left = left ∙ sits.left;
            next = subst (λ s. IsOnWord job (cpu_next job s)) (sym fed) told.told.next';
          }

      -- what the step is to the caller
      pub cpu-steps : (table table' : TableId) (id id' : ℕ) (s : CpuPlace) → place_of table id me c ≡ s → table' ≡ table → id' ≡ id
          → CpuSteps s More (place_of table' id' m c)
      cpu-steps table table' id id' s is same-table same-id =
          let job = me.0.job in
          let vs = values_of me.0.parts in
          let gives : v ≡ given_by job choice.op n = value ∙ ap (λ o. op_gives o n) (sym choice.placed') in
          let job' : m.0.job ≡ job = ap (λ (u : Me (Unit {0}) View). u.0.job) knows in
          let values : values_of m.0.parts ≡ vs ++ given_by job choice.op n ∷ [] =
          ap (λ (u : Me (Unit {0}) View). values_of u.0.parts) knows ∙ ap (λ z. vs ++ z ∷ []) gives in
          let known' : m.0 ≡ cpu_view m.0.job c (values_of m.0.parts) =
          subst (λ (u : Me (Unit {0}) View). u.0 ≡ cpu_view u.0.job c (values_of u.0.parts)) (sym knows) refl in
          subst (λ (u : CpuPlace). CpuSteps u More (place_of table' id' m c)) is (
            choice.op,
            n,
            next-fed,
            λ i. record { table_id = same-table i; id = same-id i; job = job' i; number = c; values = values i },
            subst (λ z. CpuTakes job (cpu_fed job c vs) z) gives told.fits,
            subst (λ (u : Op × View × View). AtomicStep job None (op_word u.0) n (op_after u.0 n) u.1 u.2)
                (λ i. (sym choice.placed' i, (sits.view' i).0, known' i)) takes.1,
          )
