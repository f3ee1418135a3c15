-- What is so of a CPU's tasks after one of them has told, or has made a step.
use Rattle.std.proofs.Common.{cond, ◌≡◌, ℕ, zero, suc, ◌+◌, ◌<◌, ◌≤◌, ◌⊎◌, inl, inr, ◌==◌, eqb-true, Bool, true, false, ◌||◌, List, [], ◌∷◌, length, set, slice_get, Option, Some, None, IsSomeAnd, length-set, refl, sym, ap, ◌∙◌, subst, arith}
use Rattle.std.proofs.lemmas.Option.{same_Some}
use Rattle.ft_base.specs.declared.task.TaskAct.{TaskAct}
use Rattle.ft_base.specs.declared.task.TaskAct.TheVariants.{Raise, Lower}
use Rattle.grace_core.specs.Views.{has_told, told_word}
use Rattle.task_core.specs.declared.task.Task.{Task}
use Rattle.task_core.specs.TaskNeeds.{CanBegin, HasAct}
use Rattle.task_core.specs.Starts.{is_left, view_of}
use Rattle.task_core.specs.TaskOps.{present}
use Rattle.cpu_core.specs.declared.parts.Parts.{Parts}
use Rattle.cpu_core.specs.declared.tasks.Span.{Span}
use Rattle.cpu_core.specs.CpuNeeds.{CanBeginAct}
use Rattle.cpu_core.specs.CpuSteps.{told_by, with_told}
use Rattle.cpu_core.specs.TasksInvariant.{AreTold}
use Rattle.cpu_core.specs.Turns.{HaveTold, RestTold, any_left, first_untold, told_task}
use Rattle.cpu_core.proofs.Untold.{has-told, have-all, have-fewer, have-set, have-told, rest-fewer, rest-none, rest-set, rest-told, told-next}

-- there is a task
pub some-within : (ts : List Task) (i : ℕ) (P : Task → Type 0) → IsSomeAnd (slice_get ts i) P → i < length ts
some-within [] i P h = elim h [ ]
some-within (t ∷ ts) zero P h = omega arith
some-within (t ∷ ts) (suc i) P h = let lt : i < length ts = some-within ts i P h in omega arith

-- ## what is known of all tasks

module _ (r : ℕ) (ts : List Task) (i : ℕ) (u : Task) where
  -- after a step of a task: that one has changed, too
  pub told-changed : (c d : Span) → i < length ts → (d.from ≤ c.from) × (c.to ≤ d.to) → (d.from ≤ i) × (i < d.to) → (d.to ≡ c.to) ⊎ (d.to ≡ suc i)
      → AreTold r c ts → AreTold r d (set ts i u)
  told-changed c d lt old one least told = record {
    before = have-set r ts d.from i u one.0 (have-fewer r ts d.from c.from old.0 told.before);
    after = rest-set r ts d.to i u one.1 (rest-fewer r ts c.to d.to old.1 told.after);
    within = rw (length-set ts i u) (elim least [
      | inl e ↦ omega (arith, e, told.within)
      | inr e ↦ omega (arith, e, lt)
    ]);
  }

-- after the store of a word: what was known still holds if it was of the same request
pub told-stored : (r q : ℕ) (b : Bool) (c : Span) (ts : List Task) (i n : ℕ) (x u : Task) → b ≡ (r == q) → n ≡ length ts → u ≡ told_task q x → AreTold r c ts
    → AreTold r (cond b c (record { from = 0; to = n })) (set ts i u)
told-stored r q true c ts i n x u same count is told =
    let same-request : r ≡ q = eqb-true r q (sym same) in
    let now : has_told r (view_of u) ≡ true = subst (λ k. has_told k (view_of u) ≡ true) (sym same-request) (ap (λ t. has_told q (view_of t)) is ∙ has-told q x) in
    record {
      before = have-told r ts c.from i u now told.before;
      after = rest-told r ts c.to i u now told.after;
      within = rw (length-set ts i u) told.within;
    }
told-stored r q false c ts i n x u same count is told = record {
  before = tt;
  after = subst (λ k. RestTold r k (set ts i u)) (length-set ts i u ∙ sym count) (rest-none r (set ts i u));
  within = omega (arith, count, length-set ts i u);
}

-- all have told
pub told-all : (r n : ℕ) (ts : List Task) → first_untold r ts ≡ None → AreTold r (record { from = n; to = 0 }) ts
told-all r n ts none = record { before = have-all r ts n none; after = none; within = (omega arith) }

-- ## a task has told

-- a task with this word
abbrev pub with_word : Task → ℕ → Task
with_word t w = record t { word = w }

-- what is so of a task whatever its word, is so at each place as it was
pub at-told : (P : Task → Type 0) → ((t : Task) (w : ℕ) → P t → P (with_word t w)) → (ts : List Task) (i n : ℕ) (t : Task) (w : ℕ)
    → slice_get ts i ≡ Some t → IsSomeAnd (slice_get ts n) P → IsSomeAnd (slice_get (set ts i (with_word t w)) n) P
at-told P keeps [] i n t w e h = h
at-told P keeps (x ∷ ts) zero zero t w e h = keeps t w (subst P (same_Some x t e) h)
at-told P keeps (x ∷ ts) zero (suc n) t w e h = h
at-told P keeps (x ∷ ts) (suc i) zero t w e h = h
at-told P keeps (x ∷ ts) (suc i) (suc n) t w e h = at-told P keeps ts i n t w e h

-- the same tasks have an act left
pub left-told : (ts : List Task) (i : ℕ) (t : Task) (w : ℕ) → slice_get ts i ≡ Some t → any_left (set ts i (with_word t w)) ≡ any_left ts
left-told [] i t w e = refl
left-told (x ∷ ts) zero t w e = ap (λ y. is_left y || any_left ts) (sym (same_Some x t e))
left-told (x ∷ ts) (suc i) t w e = ap (λ b. is_left x || b) (left-told ts i t w e)

-- an act that could begin still can
begins-told : (t : Task) (w : ℕ) (act : Option TaskAct) → CanBegin t act → CanBegin (with_word t w) act
begins-told t w (Some (Raise x)) h = h
begins-told t w (Some Lower) h = h
begins-told t w _ h = tt

-- what code knows of the tasks after the store: those before the next one have told, and an act can begin as before
module _ (r i : ℕ) (ts us : List Task) where
  pub told-after : first_untold r ts ≡ Some i → IsSomeAnd (slice_get ts i) (λ t. us ≡ set ts i (told_task r t)) → HaveTold r (i + 1) us
  told-after first stored = by (slice_get ts i) stored
    where
      more : suc i ≡ i + 1
      more = omega arith

      by : (o : Option Task) → IsSomeAnd o (λ t. us ≡ set ts i (told_task r t)) → HaveTold r (i + 1) us
      by None is = absurd is
      by (Some t) is = subst (λ n. HaveTold r n us) more (subst (λ xs. HaveTold r (suc i) xs) (sym is) (told-next r ts i t first))

  pub begins-after : (n : ℕ) → (any_left ts ≡ true → CanBeginAct ts n) → IsSomeAnd (slice_get ts i) (λ t. us ≡ set ts i (told_task r t))
      → any_left us ≡ true → CanBeginAct us n
  begins-after n act stored = by (slice_get ts i) refl stored
    where
      by : (o : Option Task) → slice_get ts i ≡ o → IsSomeAnd o (λ t. us ≡ set ts i (told_task r t)) → any_left us ≡ true → CanBeginAct us n
      by None e is = absurd is
      by (Some t) e is = subst (λ xs. any_left xs ≡ true → CanBeginAct xs n) (sym is) (λ any.
          let can : CanBeginAct ts n = act (sym (left-told ts i t (told_word r (view_of t)) e) ∙ any) in
          record {
            present' = subst (λ m. n < m) (sym (length-set ts i (told_task r t))) can.present';
            act =
                at-told (λ x. HasAct x × CanBegin x (present x)) (λ x w h. (h.0, begins-told x w (present x) h.1))
                ts i n t (told_word r (view_of t)) e can.act;
          })

-- the CPU after the store
pub stored-told : (c : Parts) (r i : ℕ) (us : List Task) → IsSomeAnd (slice_get c.tasks i) (λ t. us ≡ set c.tasks i (told_task r t))
    → (let d : Parts = record c { tasks = us } in d) ≡ with_told c r i
stored-told c r i us stored = by (slice_get c.tasks i) stored
  where
    by : (o : Option Task) → IsSomeAnd o (λ t. us ≡ set c.tasks i (told_task r t)) → (let d : Parts = record c { tasks = us } in d) ≡ told_by c r i o
    by None is = absurd is
    by (Some t) is = ap (λ ts. let d : Parts = record c { tasks = ts } in d) is

-- ## an act begins

-- there are as many tasks after a change of one of them
pub length-changed : (o : Option Task) (ts us : List Task) (i : ℕ) (f : Task → Task) → IsSomeAnd o (λ t. us ≡ set ts i (f t)) → length us ≡ length ts
length-changed (Some t) ts us i f h = ap length h ∙ length-set ts i (f t)
length-changed None ts us i f h = elim h [ ]
