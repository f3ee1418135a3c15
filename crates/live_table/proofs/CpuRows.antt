-- An operation of a CPU keeps the state's rule: on the list of words, on the values that actors have taken, and on what they have marked.
use Rattle.std.proofs.Common.{◌≡◌, ◌≢◌, ℕ, ◌<◌, Bool, true, false, List, [], ◌∷◌, ◌++◌, length, Some, IsSome, cond, inl, inr, refl, sym, ap, ◌∙◌, subst, arith, eqb-true}
use Rattle.std.specs.Prelude.{◌==◌}
use Rattle.std.proofs.lemmas.Bool.{cases_eq, lt-ltb}
use Rattle.std.proofs.lemmas.List.{append-nil, length-append}
use Rattle.std.proofs.lemmas.Option.{same_Some}
use Rattle.ft_base.specs.declared.item.Item.{Item}
use Rattle.ft_base.specs.declared.item.Stamped.{Stamped}
use Rattle.ft_base.specs.declared.turn.Actor.{Actor}
use Rattle.ft_base.specs.Job.{Job}
use Rattle.ft_base.proofs.Small.{false_true}
use Rattle.ft_hist.specs.Placing.{AreCounted}
use Rattle.word_map.specs.Contents.{low}
use Rattle.word_map.specs.Ops.{WordOp, Load, Store, Mark, placed}
use Rattle.word_map.specs.Places.{len}
use Rattle.word_map.specs.Shapes.{shape_of}
use Rattle.word_map.specs.Words.{at_put}
use Rattle.word_machine.specs.Cpu.{cpu_got, cpu_next, cpu_start}
use Rattle.word_machine.specs.Laws.{CpuTakes, IsOnWord, Runs, items_on, room_on}
use Rattle.word_machine.specs.Limits.{IsLimited}
use Rattle.word_machine.specs.Machine.{World, cpu_moved, cpu_row, past_after, step, taken}
use Rattle.word_machine_laws.proofs.CpuTakes.{cpu-takes}
use Rattle.word_machine_laws.proofs.Limited.{limited as word-job}
use Rattle.word_machine_laws.proofs.Marked.{mark-room, other-mark, own-mark}
use Rattle.word_machine_laws.proofs.There.{cpu-there}
use Rattle.word_machine_laws.proofs.WordsFit.{cpu-row-runs}
use Rattle.cpu_core.specs.CpuSteps.{marks_in}
use Rattle.task_core.specs.TaskOps.{item_in}
use Rattle.ft_machine.proofs.Made.{IsOpThere, of-job}
use Rattle.ft_machine.specs.Fed.{cpu_fed, cpu_items}
use Rattle.ft_machine.proofs.FedLaws.{cpu_after-append}
use Rattle.live_table.specs.Recorded.{IsRecorded, lists}
use Rattle.dealt_seats.specs.Views.{cpu}
use Rattle.live_table.specs.Rule.{world_with}
use Rattle.live_table.specs.Views.{CpuFacts}
use Rattle.live_table.proofs.Recording.{Tells, at-cpu, cpu-follows, items-on, placed-on, tells}
use Rattle.live_table.proofs.Tables.{changed, changed-named, gave, gave-named}
use Rattle.live_table.proofs.Values.{cpu_marks-snoc}
use Rattle.dealt_seats.proofs.Actors.{at_cpu, at_cpu-other, at_cpu-same}

module _ (job : Job) (limited : IsLimited job) (words : List ℕ) (values : Actor → List ℕ) (past : List Item)
    (count : length words ≡ len (shape_of job)) (runs : Runs job (world_with job words values past)) where
  abbrev s : World
  s = world_with job words values past

  -- what an operation gives here
  abbrev value : WordOp → ℕ
  value op = gave words (placed (shape_of job) op)

  -- the words after it
  abbrev words' : WordOp → List ℕ
  words' op = changed words (placed (shape_of job) op)

  module _ (c : ℕ) (inside : c < length job.quanta) (op : WordOp) (next : cpu_next job (cpu_fed job c (values (cpu c))) ≡ Some op) where
    abbrev more : List ℕ
    more = values (cpu c) ++ value op ∷ []

    -- what all have taken then, and the state
    abbrev values' : Actor → List ℕ
    values' = at_cpu values c more

    abbrev after : World
    after = world_with job (words' op) values' (past_after op past)

    row : Runs job (cpu_row job s c op)
    row = cpu-row-runs job limited s c op inside runs next

    there : IsOpThere (shape_of job) op
    there = of-job job op (subst (λ o. IsOnWord job o) next (cpu-there job (word-job job limited) s c inside runs.kept))

    value-is : value op ≡ taken op s.words
    value-is = gave-named job words count op there

    states : (d : ℕ) → cpu_fed job d (values' (cpu d)) ≡ at_put s.cpus c (cpu_got job (s.cpus c) (taken op s.words)) d
    states d = by (d == c) refl
      where
        by : (b : Bool) → (d == c) ≡ b → cpu_fed job d (cond b more (values (cpu d))) ≡ cond b (cpu_got job (s.cpus c) (taken op s.words)) (s.cpus d)
        by true e =
            ap (λ n. cpu_fed job n more) (eqb-true d c e) ∙ cpu_after-append job (cpu_start job c) (values (cpu c)) (value op ∷ [])
            ∙ ap (cpu_got job (s.cpus c)) value-is
        by false e = refl

    same : after ≡ cpu_row job s c op
    same = λ i. record {
      words = changed-named job words count op there row.fits i;
      control = s.control;
      cpus = λ d. states d i;
      past = past_after op past;
    }

    step-is : step job (cpu c) s ≡ cpu_row job s c op
    unfolding step
    step-is =
        ap (λ b. cond b (cpu_moved job s c (cpu_next job (s.cpus c))) s) (lt-ltb c (length job.quanta) inside)
        ∙ ap (cpu_moved job s c) next

    -- it is the machine's after a step of the CPU
    pub cpu-row : after ≡ step job (cpu c) s
    cpu-row = same ∙ sym step-is

    -- the machine's rule holds of it
    pub cpu-runs : Runs job after
    cpu-runs = subst (Runs job) (sym same) row

    -- what the CPU has marked then
    marked : cpu_items job c (values' (cpu c)) ≡ cpu_items job c (values (cpu c)) ++ marks_in (Some op) (value op)
    marked =
        ap (cpu_items job c) (at_cpu-same values c more) ∙ cpu_marks-snoc job (cpu_start job c) (values (cpu c)) (value op)
        ∙ ap (λ o. cpu_items job c (values (cpu c)) ++ marks_in o (value op)) next

    at : Tells op (value op) (length past)
    at = subst (λ v. Tells op v (length past)) (sym value-is) (tells job s runs.kept op)

    module _ (recorded : IsRecorded job values past) where
      own-count : (o : WordOp) → cpu_next job (s.cpus c) ≡ Some o → (v : ℕ)
          → length (cpu_items job c (values (cpu c)) ++ marks_in (Some o) v) ≡ items_on job c (past_after o past)
      own-count (Load w) e v = ap (λ (xs : List Stamped). length xs) (append-nil (cpu_items job c (values (cpu c)))) ∙ recorded.own c inside
      own-count (Store w x) e v = ap (λ (xs : List Stamped). length xs) (append-nil (cpu_items job c (values (cpu c)))) ∙ recorded.own c inside
      own-count (Mark item) e v =
          let one = length-append (cpu_items job c (values (cpu c))) (marks_in (Some (Mark item)) v) in
          let grown = own-mark job (word-job job limited) s runs.kept c inside item e in
          let had = recorded.own c inside in
          omega (arith, one, grown, had)

      other-count : (d : ℕ) → d ≢ c → (o : WordOp) → cpu_next job (s.cpus c) ≡ Some o → items_on job d (past_after o past) ≡ items_on job d past
      other-count d ne (Load w) e = refl
      other-count d ne (Store w x) e = refl
      other-count d ne (Mark item) e = other-mark job (word-job job limited) s runs.kept c inside item e d ne

      counts : (d : ℕ) → d < length job.quanta → length (cpu_items job d (values' (cpu d))) ≡ items_on job d (past_after op past)
      counts d within = elim (cases_eq d c) [
        | inl e ↦ subst (λ n. length (cpu_items job n (values' (cpu n))) ≡ items_on job n (past_after op past)) (sym e)
            (ap (λ (xs : List Stamped). length xs) marked ∙ own-count op next (value op))
        | inr ne ↦ ap (λ vs. length (cpu_items job d vs)) (at_cpu-other values c more d ne) ∙ recorded.own d within ∙ sym (other-count d ne op next)
      ]

      -- so is it of the items
      pub cpu-recorded : IsRecorded job values' (past_after op past)
      cpu-recorded =
          let follows = cpu-follows job values values' c (λ d ne. at_cpu-other values c more d ne) op (value op) inside refl marked in
          record {
            placed = placed-on (lists job values) (lists job values') past op (value op) at follows recorded.placed;
            items = items-on (lists job values) (lists job values') past op (value op) at follows recorded.placed.below recorded.items;
            own = counts;
          }

      rising : (item : Item) → Some op ≡ Some (Mark item) → AreCounted (low (value op)) (cpu_items job c (values (cpu c)))
      rising item e =
          let told : low (value op) ≡ length past = subst (λ o. Tells o (value op) (length past)) (same_Some op (Mark item) e) at in
          subst (λ n. AreCounted n (cpu_items job c (values (cpu c)))) (sym told)
          (at-cpu (AreCounted (length past)) job values c 0 (length job.quanta) (omega arith) (omega (arith, inside)) recorded.placed.below.1)

      has-room : (o : WordOp) → cpu_next job (s.cpus c) ≡ Some o → IsSome (item_in (Some o)) → length (cpu_items job c (values (cpu c))) < room_on job c
      has-room (Load w) e some = false_true some
      has-room (Store w x) e some = false_true some
      has-room (Mark item) e some =
          let lt = mark-room job (word-job job limited) s runs.kept c inside item e in
          let had = recorded.own c inside in
          omega (arith, lt, had)

      -- what the operation tells
      pub cpu-told : CpuFacts job c (value op) (values (cpu c))
      cpu-told = record {
        fits = subst (λ v. CpuTakes job (s.cpus c) v) (sym value-is) (cpu-takes job (word-job job limited) s runs.kept c inside op next);
        room = λ some. has-room op next (subst (λ o. IsSome (item_in o)) next some);
        told = record {
          rising = λ item e. rising item (sym next ∙ e);
          next' = subst (λ vs. IsOnWord job (cpu_next job (cpu_fed job c vs))) (at_cpu-same values c more)
              (cpu-there job (word-job job limited) after c inside cpu-runs.kept);
        };
      }
