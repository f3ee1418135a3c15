-- A search of the CPUs for a task, CPU by CPU.
use Rattle.std.proofs.Common.{cond, ◌≡◌, ℕ, suc, ◌+◌, ◌<◌, Bool, true, false, ◌==◌, List, [], ◌∷◌, length, get_or, drop, map, Option, Some, None, is_some, refl, sym, ap, ◌∙◌, subst, add-one}
use Rattle.std.specs.Prelude.{option_map}
use Rattle.std.proofs.lemmas.List.{drop_more}
use Rattle.ft_base.specs.Job.{Task}
use Rattle.ft_base.proofs.Small.{false_true}
use Rattle.user_specs.specs.Plain.{DeclaredTask, task_of, cpu_of}
use Rattle.user_specs.specs.declared.plan.CpuPlan.{CpuPlan}
use Rattle.ft_job.specs.Parts.{found_on, or_else, found_in, said_of}
use Rattle.ft_base.specs.declared.task.TaskAct.{TaskAct}

-- what is said of a task is the same on any CPU
said-on : (n c : ℕ) (ts : List DeclaredTask) → option_map said_of (found_on n c ts) ≡ option_map said_of (found_on n 0 ts)
said-on n c [] = refl
said-on n c (t ∷ ts) =
    elim (t.task == n) as (λ b. option_map said_of (cond b (Some (record { pid = t.pid; cpu = c; acts = t.acts })) (found_on n c ts))
    ≡ option_map said_of (cond b (Some (record { pid = t.pid; cpu = 0; acts = t.acts })) (found_on n 0 ts))) [
      | true ↦ refl
      | false ↦ said-on n c ts
    ]

-- the CPU of a task that is found on one is that one
cpu-on : (n c : ℕ) (ts : List DeclaredTask) → is_some (found_on n c ts) ≡ true → option_map (λ t. t.cpu) (found_on n c ts) ≡ Some c
cpu-on n c [] = λ e. false_true e
cpu-on n c (t ∷ ts) =
    elim (t.task == n) as (λ b. is_some (cond b (Some (record { pid = t.pid; cpu = c; acts = t.acts })) (found_on n c ts)) ≡ true
    → option_map (λ u. u.cpu) (cond b (Some (record { pid = t.pid; cpu = c; acts = t.acts })) (found_on n c ts)) ≡ Some c) [
      | true ↦ λ e. refl
      | false ↦ cpu-on n c ts
    ]

some-map : {A B : Type 0} (f : A → B) (o : Option A) → is_some (option_map f o) ≡ is_some o
some-map f None = refl
some-map f (Some a) = refl

none-is : {A : Type 0} (o : Option A) → is_some o ≡ false → o ≡ None
none-is None e = refl
none-is (Some a) e = false_true (sym e)

first-some : (a b : Option Task) → is_some a ≡ true → or_else a b ≡ a
first-some None b e = false_true e
first-some (Some t) b e = refl

module _ (cpus : List CpuPlan) (n i : ℕ) (x : CpuPlan) (so : found_in n i (map cpu_of (drop i cpus)) ≡ found_in n 0 (map cpu_of cpus)) (lt : i < length cpus) (read : x ≡ get_or cpus i x) where
  cut : found_in n 0 (map cpu_of cpus) ≡ or_else (found_on n i (map task_of x.tasks.items)) (found_in n (suc i) (map cpu_of (drop (i + 1) cpus)))
  cut = sym so ∙ ap (λ (l : List CpuPlan). found_in n i (map cpu_of l)) (drop_more cpus i x lt ∙ ap (λ (y : CpuPlan). y ∷ drop (i + 1) cpus) (sym read))

  module _ (o : Option (ℕ × List TaskAct)) (is : o ≡ option_map said_of (found_on n 0 (map task_of x.tasks.items))) where
    here : option_map said_of (found_on n i (map task_of x.tasks.items)) ≡ o
    here = said-on n i (map task_of x.tasks.items) ∙ sym is

    there : is_some (found_on n i (map task_of x.tasks.items)) ≡ is_some o
    there = sym (some-map said_of (found_on n i (map task_of x.tasks.items))) ∙ ap (λ (p : Option (ℕ × List TaskAct)). is_some p) here

    -- the task is on this CPU
    pub found-here : is_some o ≡ true → o ≡ option_map said_of (found_in n 0 (map cpu_of cpus))
    found-here some = sym here ∙ ap (λ (p : Option Task). option_map said_of p) (sym (cut ∙ first-some _ _ (there ∙ some)))

    -- so its CPU is this one
    pub cpu-here : is_some o ≡ true → Some i ≡ option_map (λ t. t.cpu) (found_in n 0 (map cpu_of cpus))
    cpu-here some =
        sym (cpu-on n i (map task_of x.tasks.items) (there ∙ some)) ∙ ap (λ (p : Option Task). option_map (λ t. t.cpu) p) (sym (cut ∙ first-some _ _ (there ∙ some)))

    -- or on a later one
    pub found-later : is_some o ≡ false → found_in n (i + 1) (map cpu_of (drop (i + 1) cpus)) ≡ found_in n 0 (map cpu_of cpus)
    found-later none =
        let off : found_on n i (map task_of x.tasks.items) ≡ None = none-is _ (there ∙ none) in
        subst (λ (k : ℕ). found_in n k (map cpu_of (drop (i + 1) cpus)) ≡ found_in n 0 (map cpu_of cpus)) (sym (add-one i)) (sym (rw off at cut))

-- whether a task was found tells whether its pid was
pub told : {A B : Type 0} (f : A → B) (o : Option A) (b was : Bool) → b ≡ is_some o → b ≡ was → is_some (option_map f o) ≡ was
told f o b was e is = some-map f o ∙ sym e ∙ is
