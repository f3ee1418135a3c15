-- A batch on call sites: how it begins, and its syncs.
use Rattle.std.proofs.Common.{◌≡◌, ℕ, zero, suc, ◌+◌, ◌*◌, ◌-◌, ◌<◌, ◌≤◌, ◌⊎◌, true, false, cond, List, [], ◌∷◌, inl, inr, refl, sym, ap, ◌∙◌, subst, arith, length}
use Rattle.std.specs.Prelude.{nat_lt}
use Rattle.std.proofs.lemmas.Bool.{cases_lt, cases_eq}
use Rattle.std.proofs.lemmas.Bool.Decides.{nat_tests}
use Rattle.ft_base.specs.Job.{Job}
use Rattle.patch_core.specs.Moves.{Move, Sync}
use Rattle.word_machine.specs.Commands.{effect, moves}
use Rattle.word_machine.specs.Control.{Position, Ask, Await, Cpus, before_moves, batch_first}
use Rattle.word_machine.specs.Progress.{asked_in, syncs_in, patches}
use Rattle.word_machine.specs.Sites.{SitesInPatching, stage_in, asks, synced}
use Rattle.word_machine.proofs.Small.{if_case}
use Rattle.word_machine_laws.proofs.Batches.{asked_before, is-move, after-move, moves-whole}
use Rattle.word_machine_laws.proofs.Sites.{Passed, passed_lifts, passed_same, before_rest}

-- one more is passed
pub passed_more : (high low i c ack : ℕ) → (c ≡ i → high ≤ ack) → cond (nat_lt c i) high low ≤ ack → cond (nat_lt c (suc i)) high low ≤ ack
passed_more high low i c ack here old = elim (cases_lt c i) [
  | inl h ↦ (let e : nat_lt c i ≡ true = grind (arith, nat_tests) in let e' : nat_lt c (suc i) ≡ true = grind (arith, nat_tests) in rw e' (rw e at old))
  | inr h ↦ elim (cases_eq c i) [
    | inl s ↦ (let e' : nat_lt c (suc i) ≡ true = grind (arith, nat_tests) in rw e' (here s))
    | inr ne ↦ (let e : nat_lt c i ≡ false = grind (arith, nat_tests) in let e' : nat_lt c (suc i) ≡ false = grind (arith, nat_tests) in rw e' (rw e at old))
  ]
]

-- all are passed
pub passed_all : (high low i c ack : ℕ) → c < i → cond (nat_lt c i) high low ≤ ack → high ≤ ack
passed_all high low i c ack h old = let e : nat_lt c i ≡ true = grind (arith, nat_tests) in rw e at old

-- what all have acknowledged after a sync
synced-is : (base n : ℕ) → 0 < n → synced base n ≡ base + n
synced-is base zero some = absurd (omega (arith, some))
synced-is base (suc n) some = refl

-- how many requests are stored before the batch that has these moves left; once it is over its own requests are such, too
abbrev pub based : ℕ → List Move → ℕ
based base [] = base + 3
based base _ = base

based-is : (base : ℕ) (rest : List Move) → (based base rest + asked_before rest ≡ base + (3 - syncs_in rest))
    × (synced (based base rest) (asked_before rest) ≤ synced base (3 - syncs_in rest)) × ((based base rest ≡ base) ⊎ (9 - 3 * syncs_in rest ≡ 9))
based-is base [] = (omega arith, omega arith, inr refl)
based-is base (m ∷ rest) = (refl, omega arith, inl refl)

module _ (job : Job) (d : ℕ) (ack : ℕ → ℕ) (base request wanted : ℕ) (head tail next : ℕ → ℕ) where
  -- a batch begins, or is empty
  pub enter_row : (p : Position) → patches (effect job d) ≡ true → ((f : ℕ) → stage_in p f ≡ 0) → asks p ≡ 0 → asked_in p ≡ 0
      → SitesInPatching job d p base request wanted head tail next
      → Passed job ack d p base request d (batch_first job d) base request wanted head tail next
  enter_row p fit none asks_none few k =
      let w = moves-whole job d in
      let b = before_rest job d (moves job d) ([], refl) fit in
      passed_same job d ack p (batch_first job d) base base request request wanted wanted head tail next
      (λ f inside ch. let e = b.stages f in let z = none f in let l = w.stages f inside ch in omega (arith, e, z, l))
      (let a = k.asked in let e = b.asked in let z = w.asked in omega (arith, a, asks_none, e, z))
      (let a = k.few in omega (arith, a, few)) k.want b.position b.fit (inl refl)
      (λ c within r. subst (λ n. n ≤ ack c) (sym (b.reaches base c ∙ ap (λ n. synced base n) w.asked)) (omega arith)) k

  -- ## a sync: the request is stored, a CPU is found to have reached it, all have

  module _ (rest : List Move) where
    pub ask_row : SitesInPatching job d (Ask (Cpus rest)) base request wanted head tail next
        → Passed job ack d (Ask (Cpus rest)) base request d (Await (Cpus rest) 0) base (suc request) (suc request) head tail next
    ask_row k =
        let s = is-move job d Sync rest k.position in
        let q = s.few in
        passed_lifts job d ack (Ask (Cpus rest)) (Await (Cpus rest) 0) (8 - 3 * syncs_in rest) base base request (suc request) wanted (suc request) head tail next
        (λ f inside ch. let e = s.left f inside ch in (omega (arith, e), omega (arith, e, q)))
        (λ e. omega (arith, e, q)) (λ e. omega (arith, e, q)) (λ e. omega (arith, e, q)) (λ e. omega (arith, e, q))
        (let a = k.asked in omega (arith, a, q)) (let a = k.few in omega (arith, a, q)) refl k.position k.fit (inl refl)
        (λ c within r. (
          if_case (λ n. n ≤ ack c) (nat_lt c 0) (synced base (3 - syncs_in rest)) (synced base (2 - syncs_in rest))
              (λ e. absurd (grind (arith, nat_tests))) (λ e. r),
          (λ e. absurd (omega (arith, e, q))),
          (λ e. absurd (omega (arith, e, q))),
        ))
        k

    all_synced : (i : ℕ) → SitesInPatching job d (Await (Cpus rest) i) base request wanted head tail next
        → synced base (3 - syncs_in rest) ≡ base + (3 - syncs_in rest)
    all_synced i k = synced-is base (3 - syncs_in rest) (let q = (is-move job d Sync rest k.position).few in omega (arith, q))

    pub pass_row : (i : ℕ) → request ≤ ack i → SitesInPatching job d (Await (Cpus rest) i) base request wanted head tail next
        → Passed job ack d (Await (Cpus rest) i) base request d (Await (Cpus rest) (suc i)) base request wanted head tail next
    pass_row i le k =
        passed_same job d ack (Await (Cpus rest) i) (Await (Cpus rest) (suc i)) base base request request wanted wanted head tail next (λ f inside ch. refl) k.asked
        k.few k.want k.position k.fit (inl refl)
        (λ c within r. passed_more (synced base (3 - syncs_in rest)) (synced base (2 - syncs_in rest)) i c (ack c)
        (λ e. subst (λ j. synced base (3 - syncs_in rest) ≤ ack j) (sym e) (let a = k.asked in let y = all_synced i k in omega (arith, a, y, le))) r)
        k

    pub exit_row : (i : ℕ) → length job.quanta ≤ i → SitesInPatching job d (Await (Cpus rest) i) base request wanted head tail next
        → Passed job ack d (Await (Cpus rest) i) base request d (before_moves job d rest) (based base rest) request wanted head tail next
    exit_row i all k =
        let s = is-move job d Sync rest k.position in
        let q = s.few in
        let b = before_rest job d rest (after-move job d Sync rest k.position) k.fit in
        let from = based-is base rest in
        passed_lifts job d ack (Await (Cpus rest) i) (before_moves job d rest) (9 - 3 * syncs_in rest) base (based base rest) request request wanted wanted
        head tail next
        (λ f inside ch. let e = s.left f inside ch in let g = b.stages f in (omega (arith, e), omega (arith, e, g, q)))
        (λ e. omega (arith, e, q)) (λ e. omega (arith, e, q)) (λ e. omega (arith, e, q)) (λ e. omega (arith, e, q))
        (let a = k.asked in let e = b.asked in let f = from.0 in omega (arith, a, e, f)) (let a = k.few in let e = b.few in omega (arith, a, e)) k.want
        b.position b.fit from.2
        (λ c within r.
        let y = all_synced i k in
        let have = passed_all (synced base (3 - syncs_in rest)) (synced base (2 - syncs_in rest)) i c (ack c) (omega (arith, all, within)) r in (
          (let e = b.reaches (based base rest) c in let f = from.1 in omega (arith, e, f, have)),
          (λ e. omega (arith, e, y, have)),
          (λ e. omega (arith, e, y, have)),
        ))
        k
