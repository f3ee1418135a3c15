-- A whole poll of the machine's CPU: one load, a store for each word that is to change, and the end.
use Rattle.std.proofs.Common.{cond, ◌≡◌, ℕ, suc, ◌+◌, ◌<◌, Bool, true, false, ◌&&◌, ◌==◌, List, [], ◌∷◌, length, Option, Some, None, eq-eqb, eqb-true, refl, sym, ap, ◌∙◌, subst, arith}
use Rattle.std.specs.List.{AllByRecursion as Each}
use Rattle.std.proofs.lemmas.Option.{none-some, same_Some}
use Rattle.ft_base.specs.Job.{Job}
use Rattle.ft_base.specs.Tasks.{tasks_of}
use Rattle.ft_base.proofs.Small.{and-false}
use Rattle.grace_core.specs.Views.{has_told}
use Rattle.word_map.specs.Contents.{halves}
use Rattle.word_map.specs.Ops.{Load}
use Rattle.word_map.specs.Words.{Want}
use Rattle.word_machine.specs.Task.{TaskState, is_open_to_requests, quiet_word, viewed}
use Rattle.word_machine.specs.Cpu.{Cpu, StoringAck, StoringQuiet, ack_value, any_has_more, cpu_got, cpu_next, going_got, going_op, is_looked_before, looked, looks, phase_got, phase_op, poll_on, polled, polling, present_got, present_op, quiet_in, quiet_next, takes_looks, ticked, with_word}
use Rattle.word_machine.proofs.Small.{if_case, put_case, put_same}
use Rattle.cpu_core.specs.WholePoll.{IsBeforePoll, all_told, cpu_past, is_telling, own_tellers, stores_of, tell, tell_each, tellers}
use Rattle.cpu_core.proofs.Untold.{low-told}

-- ## the words of tasks

module _ (r : ℕ) where
  -- a task that tells has told
  tells : (x : TaskState) → has_told r (viewed (with_word r x)) ≡ true
  tells x = eq-eqb (quiet_word r x) (quiet_word r (with_word r x)) (ap (λ l. halves x.gone l) (sym (low-told r (viewed x))))

  self-told : (tasks : ℕ → TaskState) (t : ℕ) → has_told r (viewed (tell r tasks t t)) ≡ true
  self-told tasks t = ap (λ x. has_told r (viewed x)) (put_same tasks t (with_word r (tasks t))) ∙ tells (tasks t)

  -- who has told still has when another tells
  still-told : (tasks : ℕ → TaskState) (t u : ℕ) → has_told r (viewed (tasks u)) ≡ true → has_told r (viewed (tell r tasks t u)) ≡ true
  still-told tasks t u told = put_case tasks t (with_word r (tasks t)) (λ i x. has_told r (viewed x) ≡ true) u (λ e. tells (tasks t)) (λ ne. told)

  -- none is left to tell
  none-left : (ts : List ℕ) (tasks : ℕ → TaskState) → quiet_next tasks r ts ≡ None → (tellers r tasks ts ≡ 0) × (tell_each r tasks ts ≡ tasks)
  none-left [] tasks e = (refl, refl)
  none-left (u ∷ rest) tasks e = by (has_told r (viewed (tasks u))) e (none-left rest tasks)
    where
      by : (b : Bool) → cond b (quiet_next tasks r rest) (Some u) ≡ None
          → (quiet_next tasks r rest ≡ None → (tellers r tasks rest ≡ 0) × (tell_each r tasks rest ≡ tasks))
          → (cond b (tellers r tasks rest) (suc (tellers r (tell r tasks u) rest)) ≡ 0)
          × (cond b (tell_each r tasks rest) (tell_each r (tell r tasks u) rest) ≡ tasks)
      by true e more = more e
      by false e more = absurd (none-some u (sym e))

  -- the first that is left tells, and one fewer is left
  abbrev OneFewer : List ℕ → (ℕ → TaskState) → ℕ → Type 0
  OneFewer ts tasks t = (tellers r tasks ts ≡ suc (tellers r (tell r tasks t) ts)) × (tell_each r tasks ts ≡ tell_each r (tell r tasks t) ts)

  one-fewer : (ts : List ℕ) (tasks : ℕ → TaskState) (t : ℕ) → quiet_next tasks r ts ≡ Some t → OneFewer ts tasks t
  one-fewer [] tasks t e = absurd (none-some t e)
  one-fewer (u ∷ rest) tasks t e = by (has_told r (viewed (tasks u))) refl e (one-fewer rest tasks t)
    where
      next : ℕ → TaskState
      next = tell r tasks t

      -- the next task is one that has told, then
      fewer-by : {A : Type 0} (v : ℕ) (f : A → A) (x y : A) → has_told r (viewed (tell r tasks v u)) ≡ true
          → f x ≡ f (cond (has_told r (viewed (tell r tasks v u))) x y)
      fewer-by v f x y told = ap (λ b. f (cond b x y)) (sym told)

      by : (b : Bool) → has_told r (viewed (tasks u)) ≡ b → cond b (quiet_next tasks r rest) (Some u) ≡ Some t
          → (quiet_next tasks r rest ≡ Some t → OneFewer rest tasks t)
          → (cond b (tellers r tasks rest) (suc (tellers r (tell r tasks u) rest)) ≡ suc (tellers r next (u ∷ rest)))
          × (cond b (tell_each r tasks rest) (tell_each r (tell r tasks u) rest) ≡ tell_each r next (u ∷ rest))
      by true told e more =
          let still = still-told tasks t u told in (
            (more e).0 ∙ fewer-by t (λ n. suc n) (tellers r next rest) (suc (tellers r (tell r next u) rest)) still,
            (more e).1 ∙ fewer-by t (λ f. f) (tell_each r next rest) (tell_each r (tell r next u) rest) still,
          )
      by false untold e more =
          subst (λ v. (suc (tellers r (tell r tasks u) rest) ≡ suc (tellers r (tell r tasks v) (u ∷ rest)))
          × (tell_each r (tell r tasks u) rest ≡ tell_each r (tell r tasks v) (u ∷ rest)))
          (same_Some u t e)
          (let first = tell r tasks u in (
            fewer-by u (λ n. suc n) (tellers r first rest) (suc (tellers r (tell r first u) rest)) (self-told tasks u),
            fewer-by u (λ f. f) (tell_each r first rest) (tell_each r (tell r first u) rest) (self-told tasks u),
          ))

  -- in the end each has told
  told-then : (ts : List ℕ) (tasks : ℕ → TaskState) (u : ℕ) → has_told r (viewed (tasks u)) ≡ true → has_told r (viewed (tell_each r tasks ts u)) ≡ true
  told-then [] tasks u told = told
  told-then (t ∷ rest) tasks u told =
      if_case (λ (f : ℕ → TaskState). has_told r (viewed (f u)) ≡ true) (has_told r (viewed (tasks t))) (tell_each r tasks rest) (tell_each r (tell r tasks t) rest)
      (λ e. told-then rest tasks u told) (λ e. told-then rest (tell r tasks t) u (still-told tasks t u told))

  abbrev HasWord : (ℕ → TaskState) → ℕ → Type 0
  HasWord tasks t = (tasks t).word ≡ quiet_word r (tasks t)

  pub each-told : (ts : List ℕ) (tasks : ℕ → TaskState) → Each (HasWord (tell_each r tasks ts)) ts
  each-told [] tasks = tt
  each-told (t ∷ rest) tasks =
      if_case (λ f. Each (HasWord f) (t ∷ rest)) (has_told r (viewed (tasks t))) (tell_each r tasks rest) (tell_each r (tell r tasks t) rest)
      (λ told. (word rest tasks t told, each-told rest tasks))
      (λ untold. (word rest (tell r tasks t) t (self-told tasks t), each-told rest (tell r tasks t)))
    where
      word : (ts : List ℕ) (tasks : ℕ → TaskState) (t : ℕ) → has_told r (viewed (tasks t)) ≡ true → HasWord (tell_each r tasks ts) t
      word ts tasks t told = let f = tell_each r tasks ts in eqb-true (f t).word (quiet_word r (f t)) (told-then ts tasks t told)

-- ## the stores

module _ (job : Job) (r : ℕ) where
  -- the CPU after so many stores of its tasks' words
  abbrev after : Cpu → ℕ → Cpu
  after m n = record m { count = n + m.count; tasks = tell_each r m.tasks (tasks_of job m.number) }

  -- after one
  abbrev one-on : Cpu → ℕ → Cpu
  one-on m t = record m { count = suc m.count; tasks = tell r m.tasks t; phase = StoringQuiet r t }

  one-got : (m : Cpu) (t v : ℕ) → (let d : Cpu = record m { phase = StoringQuiet r t } in cpu_got job d v ≡ poll_on job (one-on m t) r)
  unfolding cpu_got
  one-got m t v = refl

  stores-one : (m : Cpu) (t : ℕ) → (let d : Cpu = record m { phase = StoringQuiet r t } in is_telling (cpu_next job d) ≡ true)
  unfolding cpu_next
  stores-one m t = refl

  abbrev Over : List ℕ → Cpu → Type 0
  Over values m = length values ≡ own_tellers job m r → cpu_past job (poll_on job m r) values ≡ polled job (after m (length values))

  over-by : (values : List ℕ) (m : Cpu) (o : Option ℕ) → quiet_next m.tasks r (tasks_of job m.number) ≡ o → length values ≡ own_tellers job m r
      → ((v : ℕ) (rest : List ℕ) → values ≡ v ∷ rest → (d : Cpu) → Over rest d)
      → cpu_past job (quiet_in job m r o) values ≡ polled job (after m (length values))
  over-by [] m None e few more =
      let none = none-left r (tasks_of job m.number) m.tasks e in
      let zero-more : m.count ≡ 0 + m.count = omega arith in
      ap (λ n. let d : Cpu = record m { count = n } in polled job d) zero-more
      ∙ ap (λ f. let d : Cpu = record m { count = 0 + m.count; tasks = f } in polled job d) (sym none.1)
  over-by [] m (Some t) e few more = (let one = one-fewer r (tasks_of job m.number) m.tasks t e in absurd (omega (arith, few, one.0)))
  over-by (v ∷ rest) m None e few more = (let none = none-left r (tasks_of job m.number) m.tasks e in absurd (omega (arith, few, none.0)))
  over-by (v ∷ rest) m (Some t) e few more =
      let one = one-fewer r (tasks_of job m.number) m.tasks t e in
      let counts : length rest + suc m.count ≡ suc (length rest) + m.count = omega arith in
      ap (λ d. cpu_past job d rest) (one-got m t v)
      ∙ more v rest refl (one-on m t) (omega (arith, few, one.0))
      ∙ ap (λ n. let d : Cpu = record (one-on m t) { count = n; tasks = tell_each r (tell r m.tasks t) (tasks_of job m.number) } in polled job d) counts
      ∙ ap (λ f. let d : Cpu = record m { count = suc (length rest) + m.count; tasks = f } in polled job d) (sym one.1)

  stores-over : (values : List ℕ) (m : Cpu) → Over values m
  stores-over [] m few = over-by [] m (quiet_next m.tasks r (tasks_of job m.number)) refl few (λ v rest e. absurd (cc))
  stores-over (v ∷ values) m few =
      over-by (v ∷ values) m (quiet_next m.tasks r (tasks_of job m.number)) refl few (λ w rest e d. subst (λ l. Over l d) (tail e) (stores-over values d))
    where
      tail : {w : ℕ} {rest : List ℕ} → v ∷ values ≡ w ∷ rest → values ≡ rest
      tail e = cc

  -- until the last, each step is one
  abbrev Stores : List ℕ → Cpu → Type 0
  Stores values m = length values < own_tellers job m r → is_telling (cpu_next job (cpu_past job (poll_on job m r) values)) ≡ true

  stores-by : (values : List ℕ) (m : Cpu) (o : Option ℕ) → quiet_next m.tasks r (tasks_of job m.number) ≡ o → length values < own_tellers job m r
      → ((v : ℕ) (rest : List ℕ) → values ≡ v ∷ rest → (d : Cpu) → Stores rest d)
      → is_telling (cpu_next job (cpu_past job (quiet_in job m r o) values)) ≡ true
  stores-by values m None e few more = (let none = none-left r (tasks_of job m.number) m.tasks e in absurd (omega (arith, few, none.0)))
  stores-by [] m (Some t) e few more = stores-one m t
  stores-by (v ∷ rest) m (Some t) e few more =
      let one = one-fewer r (tasks_of job m.number) m.tasks t e in
      ap (λ d. is_telling (cpu_next job (cpu_past job d rest))) (one-got m t v)
      ∙ more v rest refl (one-on m t) (omega (arith, few, one.0))

  stores-on : (values : List ℕ) (m : Cpu) → Stores values m
  stores-on [] m few = stores-by [] m (quiet_next m.tasks r (tasks_of job m.number)) refl few (λ v rest e. absurd (cc))
  stores-on (v ∷ values) m few =
      stores-by (v ∷ values) m (quiet_next m.tasks r (tasks_of job m.number)) refl few (λ w rest e d. subst (λ l. Stores l d) (tail e) (stores-on values d))
    where
      tail : {w : ℕ} {rest : List ℕ} → v ∷ values ≡ w ∷ rest → values ≡ rest
      tail e = cc

-- ## the load, and the store of the CPU's own word

module _ (job : Job) (me : Cpu) where
  -- whoever is before a poll isn't open to requests: there is no look
  no-look : IsBeforePoll job me → looks job me ≡ false
  no-look k = by (any_has_more job me) refl
    where
      by : (b : Bool) → any_has_more job me ≡ b → looks job me ≡ false
      by true more =
          ap (λ m. takes_looks job && any_has_more job me && is_open_to_requests (me.tasks me.present) m) (k.between more)
          ∙ and-false (takes_looks job && any_has_more job me)
      by false none =
          ap (λ b. takes_looks job && b && is_looked_before (me.tasks me.present)) none
          ∙ ap (λ b. b && is_looked_before (me.tasks me.present)) (and-false (takes_looks job))

  -- a poll loads the request
  pub asks : IsBeforePoll job me → cpu_next job me ≡ Some (Load Want)
  unfolding cpu_next
  asks k =
      ap (phase_op job me) k.going
      ∙ ap (λ b. cond b (Some (Load Want)) (going_op job me)) (no-look k)
      ∙ if_case (λ o. o ≡ Some (Load Want)) (any_has_more job me) (present_op me (me.tasks me.present).moment) (Some (Load Want))
      (λ more. ap (present_op me) (k.between more)) (λ none. refl)

  -- and goes on with it
  asked : (v : ℕ) → IsBeforePoll job me → cpu_got job me v ≡ polling job (ticked me) v
  unfolding cpu_got
  asked v k =
      ap (λ p. phase_got job me p v) k.going
      ∙ ap (λ b. cond b (looked me v) (going_got job (ticked me) v)) (no-look k)
      ∙ if_case (λ x. x ≡ polling job (ticked me) v) (any_has_more job me) (present_got job (ticked me) (me.tasks me.present).moment v) (polling job (ticked me) v)
      (λ more. ap (λ m. present_got job (ticked me) m v) (k.between more)) (λ none. refl)

  module _ (r : ℕ) where
    -- the CPU that has yet to store its own word
    abbrev acking : Cpu
    acking = record (ticked me) { phase = StoringAck r }

    -- and after that
    abbrev acked : Cpu
    acked = record (ticked (ticked me)) { ack = ack_value job me r; phase = StoringAck r }

    ack-got : (v : ℕ) → cpu_got job acking v ≡ poll_on job acked r
    unfolding cpu_got
    ack-got v = refl

    stores-ack : is_telling (cpu_next job acking) ≡ true
    unfolding cpu_next
    stores-ack = refl

    -- what is so many steps after the load
    over-from : (b : Bool) (values : List ℕ) → (me.ack == ack_value job me r) ≡ b
        → length values ≡ cond b (own_tellers job me r) (suc (own_tellers job me r))
        → cpu_past job (cond b (poll_on job (ticked me) r) acking) values
        ≡ polled job (record (all_told job me r) { count = suc (length values) + me.count })
    over-from true values same few =
        let counts : length values + suc me.count ≡ suc (length values) + me.count = omega arith in
        stores-over job r values (ticked me) few
        ∙ ap (λ n. let d : Cpu = record (after job r (ticked me) (length values)) { count = n } in polled job d) counts
        ∙ ap (λ a. let d : Cpu = record (all_told job me r) { count = suc (length values) + me.count; ack = a } in polled job d)
        (eqb-true me.ack (ack_value job me r) same)
    over-from false [] same few = absurd (cc)
    over-from false (v ∷ values) same few =
        let counts : length values + suc (suc me.count) ≡ suc (suc (length values)) + me.count = omega arith in
        ap (λ d. cpu_past job d values) (ack-got v)
        ∙ stores-over job r values acked (omega (arith, few))
        ∙ ap (λ n. let d : Cpu = record (all_told job me r) { count = n } in polled job d) counts

    stores-from : (b : Bool) (values : List ℕ)
        → length values < cond b (own_tellers job me r) (suc (own_tellers job me r))
        → is_telling (cpu_next job (cpu_past job (cond b (poll_on job (ticked me) r) acking) values)) ≡ true
    stores-from true values few = stores-on job r values (ticked me) few
    stores-from false [] few = stores-ack
    stores-from false (v ∷ values) few =
        ap (λ d. is_telling (cpu_next job (cpu_past job d values))) (ack-got v) ∙ stores-on job r values acked (omega (arith, few))

pub stores : (job : Job) (me : Cpu) (request : ℕ) (values : List ℕ) → IsBeforePoll job me → length values < stores_of job me request
    → is_telling (cpu_next job (cpu_past job me (request ∷ values))) ≡ true
stores job me r values k few =
    ap (λ d. is_telling (cpu_next job (cpu_past job d values))) (asked job me r k)
    ∙ stores-from job me r (me.ack == ack_value job me r) values few

pub over : (job : Job) (me : Cpu) (request : ℕ) (values : List ℕ) → IsBeforePoll job me → length values ≡ stores_of job me request
    → cpu_past job me (request ∷ values) ≡ polled job (all_told job me request)
over job me r values k few =
    ap (λ d. cpu_past job d values) (asked job me r k)
    ∙ over-from job me r (me.ack == ack_value job me r) values refl few
    ∙ ap (λ n. let d : Cpu = record (all_told job me r) { count = suc n + me.count } in polled job d) few
