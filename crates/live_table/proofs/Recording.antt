-- What the operations of an actor make of all that is marked.
use Rattle.std.proofs.Common.{◌≡◌, ◌≢◌, ℕ, zero, suc, ◌+◌, ◌<◌, ◌≤◌, List, [], ◌∷◌, ◌++◌, length, inl, inr, refl, sym, ap, ◌∙◌, subst, arith}
use Rattle.std.specs.List.{AllByRecursion as Each}
use Rattle.std.proofs.lemmas.Bool.{cases_eq}
use Rattle.std.proofs.lemmas.List.{append-nil}
use Rattle.std.specs.Prelude.{Some}
use Rattle.ft_base.specs.declared.item.Item.{Item}
use Rattle.ft_base.specs.declared.item.Stamped.{Stamped}
use Rattle.ft_base.specs.declared.turn.Actor.{Actor}
use Rattle.ft_base.specs.declared.turn.Actor.TheVariants.{Control as ByControl}
use Rattle.ft_base.specs.Job.{Job}
use Rattle.ft_hist.specs.Placing.{AreCounted, ArePlaced, past_below}
use Rattle.ft_hist.proofs.Placing.{Grows, past-grows, placed-grows}
use Rattle.word_map.specs.Contents.{low}
use Rattle.word_map.specs.Ops.{WordOp, Load, Store, Mark}
use Rattle.word_machine.specs.Machine.{World, past_after, taken}
use Rattle.word_machine.specs.Rule.{MachineRule}
use Rattle.control_core.specs.Steps.{marks_in as control_marks_in}
use Rattle.cpu_core.specs.CpuSteps.{marks_in}
use Rattle.ft_machine.proofs.Made.{past-counted}
use Rattle.ft_machine.specs.Fed.{control_items, cpu_items}
use Rattle.live_table.specs.Recorded.{cpu_lists, lists}
use Rattle.dealt_seats.specs.Views.{cpu}

-- ## an item more

-- the item of a mark at a place that this clock tells
abbrev pub stamp : ℕ → Item → Stamped
stamp v item = record { place = low v; item = item }

-- lists after an operation: a mark is one more item of one of them
abbrev pub Follows : WordOp → ℕ → List (List Stamped) → List (List Stamped) → Type 0
Follows (Load w) v ls ls' = ls' ≡ ls
Follows (Store w x) v ls ls' = ls' ≡ ls
Follows (Mark item) v ls ls' = Grows (stamp v item) ls ls'

-- ## the lists of all actors

module _ (job : Job) (values values' : Actor → List ℕ) where
  -- CPUs that took nothing
  cpu_lists-same : (b n : ℕ) → ((d : ℕ) → b ≤ d → values' (cpu d) ≡ values (cpu d)) → cpu_lists job values' b n ≡ cpu_lists job values b n
  cpu_lists-same b zero same = refl
  cpu_lists-same b (suc n) same = λ i. cpu_items job b (same b (omega arith) i) ∷ cpu_lists-same (suc b) n (λ d le. same d (omega (arith, le))) i

  -- control made an operation
  pub control-follows : (op : WordOp) (v : ℕ) → ((d : ℕ) → values' (cpu d) ≡ values (cpu d))
      → control_items job (values' ByControl) ≡ control_items job (values ByControl) ++ control_marks_in (Some op) v
      → Follows op v (lists job values) (lists job values')
  control-follows (Load w) v same e =
      λ i. (e ∙ append-nil (control_items job (values ByControl))) i ∷ cpu_lists-same 0 (length job.quanta) (λ d le. same d) i
  control-follows (Store w x) v same e =
      λ i. (e ∙ append-nil (control_items job (values ByControl))) i ∷ cpu_lists-same 0 (length job.quanta) (λ d le. same d) i
  control-follows (Mark item) v same e = inl (e, cpu_lists-same 0 (length job.quanta) (λ d le. same d))

  -- CPU c alone took something
  module _ (c : ℕ) (others : (d : ℕ) → d ≢ c → values' (cpu d) ≡ values (cpu d)) where
    after-it : (b n : ℕ) → b ≡ c → cpu_lists job values' (suc b) n ≡ cpu_lists job values (suc b) n
    after-it b n same = cpu_lists-same (suc b) n (λ d le. others d (λ e. omega (arith, e, same, le)))

    -- it marked nothing
    cpu_lists-kept : cpu_items job c (values' (cpu c)) ≡ cpu_items job c (values (cpu c)) → (b n : ℕ)
        → cpu_lists job values' b n ≡ cpu_lists job values b n
    cpu_lists-kept e b zero = refl
    cpu_lists-kept e b (suc n) = elim (cases_eq b c) [
      | inl same ↦
          λ i. subst (λ d. cpu_items job d (values' (cpu d)) ≡ cpu_items job d (values (cpu d))) (sym same) e i ∷ cpu_lists-kept e (suc b) n i
      | inr ne ↦ λ i. cpu_items job b (others b ne i) ∷ cpu_lists-kept e (suc b) n i
    ]

    -- it marked an item
    cpu_lists-grow : (s : Stamped) → cpu_items job c (values' (cpu c)) ≡ cpu_items job c (values (cpu c)) ++ s ∷ [] → (b n : ℕ) → b ≤ c → c < b + n
        → Grows s (cpu_lists job values b n) (cpu_lists job values' b n)
    cpu_lists-grow s e b zero from to = absurd (omega (arith, from, to))
    cpu_lists-grow s e b (suc n) from to = elim (cases_eq b c) [
      | inl same ↦ inl (
        subst (λ d. cpu_items job d (values' (cpu d)) ≡ cpu_items job d (values (cpu d)) ++ s ∷ []) (sym same) e,
        after-it b n same,
      )
      | inr ne ↦ inr (ap (cpu_items job b) (others b ne), cpu_lists-grow s e (suc b) n (omega (arith, from, ne)) (omega (arith, to)))
    ]

    -- it made an operation
    pub cpu-follows : (op : WordOp) (v : ℕ) → c < length job.quanta → values' ByControl ≡ values ByControl
        → cpu_items job c (values' (cpu c)) ≡ cpu_items job c (values (cpu c)) ++ marks_in (Some op) v
        → Follows op v (lists job values) (lists job values')
    cpu-follows (Load w) v inside same e =
        λ i. control_items job (same i) ∷ cpu_lists-kept (e ∙ append-nil (cpu_items job c (values (cpu c)))) 0 (length job.quanta) i
    cpu-follows (Store w x) v inside same e =
        λ i. control_items job (same i) ∷ cpu_lists-kept (e ∙ append-nil (cpu_items job c (values (cpu c)))) 0 (length job.quanta) i
    cpu-follows (Mark item) v inside same e =
        inr (ap (control_items job) same, cpu_lists-grow (stamp v item) e 0 (length job.quanta) (omega arith) (omega (arith, inside)))

-- what holds of each list holds of a CPU's
pub at-cpu : (P : List Stamped → Type 0) (job : Job) (values : Actor → List ℕ) (c b n : ℕ) → b ≤ c → c < b + n → Each P (cpu_lists job values b n)
    → P (cpu_items job c (values (cpu c)))
at-cpu P job values c b zero from to k = absurd (omega (arith, from, to))
at-cpu P job values c b (suc n) from to k = elim (cases_eq b c) [
  | inl same ↦ subst (λ d. P (cpu_items job d (values (cpu d)))) same k.0
  | inr ne ↦ at-cpu P job values c (suc b) n (omega (arith, from, ne)) (omega (arith, to)) k.1
]

-- ## the history

-- a mark gives the place of its item
abbrev pub Tells : WordOp → ℕ → ℕ → Type 0
Tells (Mark item) v n = low v ≡ n
Tells _ v n = Unit {0}

-- since the clock counts the items
pub tells : (job : Job) (s : World) → MachineRule job s → (op : WordOp) → Tells op (taken op s.words) (length s.past)
tells job s k (Load w) = record {}
tells job s k (Store w x) = record {}
tells job s k (Mark item) = past-counted job s k

module _ (ls ls' : List (List Stamped)) (past : List Item) where
  -- each place has one item
  pub placed-on : (op : WordOp) (v : ℕ) → Tells op v (length past) → Follows op v ls ls' → ArePlaced (length past) ls
      → ArePlaced (length (past_after op past)) ls'
  placed-on (Load w) v at f is = subst (λ xs. ArePlaced (length past) xs) (sym f) is
  placed-on (Store w x) v at f is = subst (λ xs. ArePlaced (length past) xs) (sym f) is
  placed-on (Mark item) v at f is =
      subst (λ n. ArePlaced (suc n) ls') at (placed-grows (stamp v item) ls ls' f (subst (λ n. ArePlaced n ls) (sym at) is))

  -- the items by place
  pub items-on : (op : WordOp) (v : ℕ) → Tells op v (length past) → Follows op v ls ls' → Each (AreCounted (length past)) ls
      → past ≡ past_below ls (length past) → past_after op past ≡ past_below ls' (length (past_after op past))
  items-on (Load w) v at f below e = e ∙ ap (λ xs. past_below xs (length past)) (sym f)
  items-on (Store w x) v at f below e = e ∙ ap (λ xs. past_below xs (length past)) (sym f)
  items-on (Mark item) v at f below e =
      ap (λ (rest : List Item). item ∷ rest) (e ∙ ap (past_below ls) (sym at))
      ∙ sym (past-grows (stamp v item) ls ls' f (subst (λ n. Each (AreCounted n) ls) (sym at) below))
      ∙ ap (λ n. past_below ls' (suc n)) at
