-- Each script has an answer: whoever can go goes on until nobody can.
use Rattle.std.proofs.Common.{◌≡◌, ℕ, zero, suc, ◌+◌, ◌-◌, ◌<◌, ◌≤◌, ◌⊎◌, inl, inr, arith, true, false, Bool, true≢false, List, [], ◌∷◌, length, set, get_or, slice_get, Option, option_map, refl, sym, ◌∙◌, subst, add-one}
use Rattle.std.proofs.lemmas.Bool.{cases_lt, cases_eq}
use Rattle.std.proofs.Math.ListN.{length-replicate}
use Rattle.std.proofs.lemmas.List.{length-set}
use Rattle.script_waits.specs.declared.script.LinedAct.{LinedAct}
use Rattle.script_waits.specs.declared.script.ControlLine.{ControlLine}
use Rattle.script_waits.specs.Greedy.{Passed, Reaches, start, task, control, IsGreatest, IsDeadlock, IsLeast, none_passed, commands_in, passes_act, passes_line, next_act, next_line, lower_of, task_goes, control_goes}
use Rattle.script_waits.proofs.Runs.{past-stops}
use Rattle.script_waits.proofs.Least.{WaitsTo, least-start, least-more, least-end}

-- an act that is passed is there
act-inside : (acts : List LinedAct) (i commands : ℕ) → passes_act commands (slice_get acts i) ≡ true → i < length acts
act-inside [] i commands e = absurd (true≢false (sym e))
act-inside (x ∷ xs) zero commands e = omega arith
act-inside (x ∷ xs) (suc i) commands e = let l = act-inside xs i commands e in omega (arith, l)

-- so is a line
line-inside : (lines : List ControlLine) (i : ℕ) (acts : List ℕ) → passes_line acts (slice_get lines i) ≡ true → i < length lines
line-inside [] i acts e = absurd (true≢false (sym e))
line-inside (x ∷ xs) zero acts e = omega arith
line-inside (x ∷ xs) (suc i) acts e = let l = line-inside xs i acts e in omega (arith, l)

-- how many acts are to come, over all tasks
acts_left : List (List LinedAct) → List ℕ → ℕ
acts_left [] acts = 0
acts_left (x ∷ xs) [] = length x + acts_left xs []
acts_left (x ∷ xs) (a ∷ rest) = (length x - a) + acts_left xs rest

-- fewer after each step
acts_left-less : (tracks : List (List LinedAct)) (acts : List ℕ) (t : ℕ) → t < length acts → get_or acts t 0 < length (get_or tracks t [])
    → acts_left tracks (set acts t (suc (get_or acts t 0))) < acts_left tracks acts
unfolding acts_left
acts_left-less [] acts t inside less = absurd (omega (arith, less))
acts_left-less (x ∷ xs) [] t inside less = absurd (omega (arith, inside))
acts_left-less (x ∷ xs) (a ∷ rest) zero inside less = omega (arith, less)
acts_left-less (x ∷ xs) (a ∷ rest) (suc t) inside less = let l = acts_left-less xs rest t (omega (arith, inside)) less in omega (arith, l)

module _ (tracks : List (List LinedAct)) (lines : List ControlLine) where
  -- one of the first tasks can go, or none of them
  pick : (p : Passed) (n : ℕ) → ((t : ℕ) → t < n → task_goes tracks lines p t ≡ false) ⊎ ((t : ℕ) × (task_goes tracks lines p t ≡ true))
  pick p zero = inl (λ t below. absurd (omega (arith, below)))
  pick p (suc n) = by (task_goes tracks lines p n) refl (pick p n)
    where
      by : (b : Bool) → task_goes tracks lines p n ≡ b → ((t : ℕ) → t < n → task_goes tracks lines p t ≡ false) ⊎ ((t : ℕ) × (task_goes tracks lines p t ≡ true))
          → ((t : ℕ) → t < suc n → task_goes tracks lines p t ≡ false) ⊎ ((t : ℕ) × (task_goes tracks lines p t ≡ true))
      by true e rest = inr (n, e)
      by false e (inr found) = inr found
      by false e (inl none) = inl (λ t below. elim (cases_eq t n) [
        | inl same ↦ subst (λ i. task_goes tracks lines p i ≡ false) (sym same) e
        | inr other ↦ none t (omega (arith, below, other))
      ])

  -- acts and lines that are to come
  left : Passed → ℕ
  left p = acts_left tracks p.acts + (length lines - p.lines)

  -- one step, if anybody can go: `next` says what comes of it
  step : (p : Passed) → length p.acts ≡ length tracks → Reaches tracks lines p
      → ((q : Passed) → length q.acts ≡ length tracks → Reaches tracks lines q → left q < left p → (g : Passed) × IsGreatest tracks lines g)
      → (g : Passed) × IsGreatest tracks lines g
  unfolding left
  step p long r next = by (control_goes tracks lines p) refl (pick p (length tracks))
    where
      -- a task that isn't there can't go
      there : (t : ℕ) → task_goes tracks lines p t ≡ true → t < length tracks
      there t goes = elim (cases_lt t (length tracks)) [
        | inl below ↦ below
        | inr past ↦ absurd (true≢false (sym goes ∙ past-stops tracks t (get_or p.acts t 0) (commands_in lines p.lines) past))
      ]

      by : (b : Bool) → control_goes tracks lines p ≡ b → ((t : ℕ) → t < length tracks → task_goes tracks lines p t ≡ false) ⊎ ((t : ℕ) × (task_goes tracks lines p t ≡ true))
          → (g : Passed) × IsGreatest tracks lines g
      by b e (inr found) =
          let t : ℕ = found.0 in
          let below : t < length tracks = there t found.1 in
          let inside = act-inside (get_or tracks t []) (get_or p.acts t 0) (commands_in lines p.lines) found.1 in
          let less = acts_left-less tracks p.acts t (omega (arith, below, long)) inside in
          next (record p { acts = set p.acts t (suc (get_or p.acts t 0)) }) (length-set p.acts t (suc (get_or p.acts t 0)) ∙ long) (task p t r found.1) (omega (arith, less))
      by true e (inl none) =
          let inside = line-inside lines p.lines p.acts e in
          next (record p { lines = suc p.lines }) long (control p r e) (omega (arith, inside))
      by false e (inl none) = (
        p,
        record {
          reached = r;
          tasks = λ t. elim (cases_lt t (length tracks)) [
            | inl below ↦ none t below
            | inr past ↦ past-stops tracks t (get_or p.acts t 0) (commands_in lines p.lines) past
          ];
          control = e;
        },
      )

  -- from here on nobody can go after at most this many steps
  settle : (steps : ℕ) (p : Passed) → length p.acts ≡ length tracks → Reaches tracks lines p → left p ≤ steps → (g : Passed) × IsGreatest tracks lines g
  settle zero p long r low = step p long r (λ q l reached less. absurd (omega (arith, low, less)))
  settle (suc steps) p long r low = step p long r (λ q l reached less. settle steps q l reached (omega (arith, low, less)))

  greatest : (g : Passed) × IsGreatest tracks lines g
  greatest = settle (left (none_passed tracks lines)) (none_passed tracks lines) (length-replicate {A = ℕ} (length tracks) 0) start (omega arith)

  -- the least line at which control or one of the first tasks is
  least_to : (p : Passed) (t : ℕ) → (low : Option ℕ) × IsLeast (WaitsTo tracks lines p t) low
  least_to p zero = (option_map (λ (l : ControlLine). l.line) (next_line tracks lines p), least-start tracks lines p)
  least_to p (suc t) =
      let before = least_to p t in
      let low : Option ℕ = lower_of before.0 (option_map (λ (a : LinedAct). a.line) (next_act tracks lines p t)) in
      (low, subst (λ n. IsLeast (WaitsTo tracks lines p n) low) (add-one t) (least-more tracks lines p t before.0 before.1))

  pub deadlock_found : (lowest : Option ℕ) × IsDeadlock tracks lines lowest
  deadlock_found =
      let p : Passed = greatest.0 in
      let low = least_to p (length tracks) in
      (low.0, record { passed = p; greatest = greatest.1; least = least-end tracks lines p (length tracks) low.0 (omega arith) low.1 })
