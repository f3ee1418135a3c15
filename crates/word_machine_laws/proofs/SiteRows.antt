-- The rows of a batch.
use Rattle.std.proofs.Common.{◌≡◌, ℕ, ◌≤◌, true, false, cond, List, [], ◌∷◌, refl, sym, ap, ap₂, ◌∙◌, subst, arith}
use Rattle.ft_base.specs.declared.item.Item.{Item}
use Rattle.ft_base.specs.Job.{Job, Ctl}
use Rattle.ft_base.specs.Desk.{UserState}
use Rattle.ft_base.proofs.Small.{false_true}
use Rattle.word_map.specs.Words.{Word, Words}
use Rattle.word_map.specs.Ops.{Store}
use Rattle.patch_core.specs.Moves.{Move, Put, Sync, Done}
use Rattle.word_machine.specs.Commands.{effect, Effect, Adds, Removes, Edits, moves}
use Rattle.word_machine.specs.Control.{Position, Patch, Awaited, Ask, Await, Cpus, Tasks, Close, before_moves, batch_first, after_batch, after_batch_in, control_got}
use Rattle.word_machine.specs.Cpu.{Cpu}
use Rattle.word_machine.specs.Machine.{control_row, words_after}
use Rattle.word_machine.specs.Progress.{HoldsAt, selected, listed, took, gave, pids_stored, depth_stored, underway, quiet_reached, patches, waits, ClosingHolds}
use Rattle.word_machine.specs.UserList.{PushedAt}
use Rattle.word_machine.specs.HashCopies.{WrittenAt}
use Rattle.word_machine.specs.Rule.{MachineRule}
use Rattle.word_machine_laws.proofs.Effects.{none_gave}
use Rattle.word_machine_laws.proofs.Batches.{Sweep, Nexts, store_at, is-move, after-move}
use Rattle.word_machine_laws.proofs.Sites.{Passed, before_rest, passed_store}
use Rattle.word_machine_laws.proofs.NoSwitch.{world, Flags, Stays, tramps_on, kept_on}

-- a position after the store of the user's state: the trampoline, the lists of pids and the depth are those of the command, too, and nobody
-- has passed a quiet point
pub record Stored (job : Job) (d : ℕ) (p : Position) : Type 0 where
  pub select : selected p ≡ true
  pub take : took p ≡ true
  pub pids : pids_stored p ≡ true
  pub depth : depth_stored p ≡ true
  pub begun : underway p ≡ true
  pub give : gave (effect job d) p ≡ false
  pub hold : (r q : ℕ) → HoldsAt (effect job d) p r q
  pub quiet : (r t : ℕ) → quiet_reached (effect job d) p r t ≡ 0
  pub written : (s : UserState) (copy : ℕ → ℕ → ℕ) → WrittenAt job s copy (effect job d) p

-- a position of a batch: the list is that of the command, too
pub record InBatch (job : Job) (d : ℕ) (p : Position) : Type 0 where
  pub stored : Stored job d p
  pub list : listed p ≡ true
  pub pushed : (link : ℕ → ℕ) (order : List ℕ) → PushedAt job d link order p

module _ (job : Job) (d : ℕ) where
  pub stored_at : (p : Position)
      → (selected p ≡ true) × (took p ≡ true) × (pids_stored p ≡ true) × (depth_stored p ≡ true) × (underway p ≡ true)
      → gave (effect job d) p ≡ false → ((r q : ℕ) → HoldsAt (effect job d) p r q) → ((r t : ℕ) → quiet_reached (effect job d) p r t ≡ 0)
      → ((s : UserState) (copy : ℕ → ℕ → ℕ) → WrittenAt job s copy (effect job d) p) → Stored job d p
  stored_at p on give hold quiet written = record {
    select = on.0;
    take = on.1;
    pids = on.2;
    depth = on.3;
    begun = on.4;
    give = give;
    hold = hold;
    quiet = quiet;
    written = written;
  }

  -- the Return, if the command does not wait
  pub stored_Close : (z : Effect) → effect job d ≡ z → gave z Close ≡ false → waits z ≡ false → Stored job d Close
  stored_Close z e give none =
      stored_at Close (refl, refl, refl, refl, refl) (ap (λ y. gave y Close) e ∙ give) (λ r q. subst (λ b. ClosingHolds b r q) (sym off) tt)
      (λ r t. ap (λ b. cond b r 0) off) (λ s c. tt)
    where
      off : waits (effect job d) ≡ false
      off = ap waits e ∙ none

  in_patch : (w : Word) (x : ℕ) (rest : List Move) → InBatch job d (Patch w x rest)
  in_patch w x rest =
      let s = stored_at (Patch w x rest) (refl, refl, refl, refl, refl) (none_gave (effect job d) (Patch w x rest) refl) (λ r q. tt) (λ r t. refl)
      (λ s c. tt) in
      record { stored = s; list = refl; pushed = λ l o. tt }

  pub in_ask : (whom : Awaited) → InBatch job d (Ask whom)
  in_ask whom =
      let s = stored_at (Ask whom) (refl, refl, refl, refl, refl) (none_gave (effect job d) (Ask whom) refl) (λ r q. tt) (λ r t. refl) (λ s c. tt) in
      record { stored = s; list = refl; pushed = λ l o. tt }

  pub in_sync : (rest : List Move) (n : ℕ) → InBatch job d (Await (Cpus rest) n)
  in_sync rest n =
      let s = stored_at (Await (Cpus rest) n) (refl, refl, refl, refl, refl) (none_gave (effect job d) (Await (Cpus rest) n) refl) (λ r q. tt) (λ r t. refl)
      (λ s c. tt) in
      record { stored = s; list = refl; pushed = λ l o. tt }

  in_after : patches (effect job d) ≡ true → InBatch job d (after_batch job d)
  in_after fit = by_effect (effect job d) refl fit
    where
      by_effect : (z : Effect) → effect job d ≡ z → patches z ≡ true → InBatch job d (after_batch_in z)
      by_effect Removes e t = in_ask Tasks
      by_effect Edits e t = in_ask Tasks
      by_effect Adds e t = record { stored = stored_Close Adds e refl refl; list = refl; pushed = λ l o. tt }
      by_effect _ e t = false_true t

  pub in_moves : (rest : List Move) → patches (effect job d) ≡ true → InBatch job d (before_moves job d rest)
  in_moves (Put w x ∷ rest) fit = in_patch w x rest
  in_moves (Sync ∷ rest) fit = in_ask (Cpus rest)
  in_moves (Done ∷ rest) fit = in_after fit
  in_moves [] fit = in_after fit

  pub in_batch : patches (effect job d) ≡ true → InBatch job d (batch_first job d)
  in_batch fit = in_moves (moves job d) fit

  pub batch_flags : (p p' : Position) (request request' : ℕ) → request ≤ request' → InBatch job d p → InBatch job d p' → Flags job d p p' request request'
  batch_flags p p' request request' le b b' = record {
    list = b'.list ∙ sym b.list;
    select = b'.stored.select ∙ sym b.stored.select;
    pids = b'.stored.pids ∙ sym b.stored.pids;
    depth = b'.stored.depth ∙ sym b.stored.depth;
    hold = λ q small h. b'.stored.hold request' q;
    grows = le;
  }

  pub batch_stays : (p p' : Position) → InBatch job d p → InBatch job d p' → Stays job d p p'
  batch_stays p p' b b' = record {
    tramps = tramps_on job d p p' (b'.stored.take ∙ sym b.stored.take) (b'.stored.give ∙ sym b.stored.give);
    pushed = b'.pushed;
    written = b'.stored.written;
    begun = b'.stored.begun ∙ sym b.stored.begun;
  }

module _ (job : Job) (d : ℕ) (remaining : List Ctl) (copies : ℕ → ℕ) (order : List ℕ) (cpus : ℕ → Cpu) (past : List Item) where
  pub kept_batch : (ws : Words) (request : ℕ) (p p' : Position) (base' request' wanted : ℕ) (head tail next : ℕ → ℕ) → request ≤ request' → InBatch job d p
      → InBatch job d p'
      → (k : MachineRule job (world ws d remaining request copies order cpus past p))
      → Passed job ws.ack d p k.base request d p' base' request' wanted head tail next
      → MachineRule job (world (record ws { want = wanted; head = head; tail = tail; next = next }) d remaining request' copies order cpus past p')
  kept_batch ws request p p' base' request' wanted head tail next le b b' k pass =
      kept_on job ws d remaining request copies order cpus past p p' base' request' wanted head tail next (batch_flags job d p p' request request' le b b')
      (batch_stays job d p p' b b') k pass
      (λ t there r. rw (b'.stored.quiet request' t) (omega arith))

  abbrev At : Words → ℕ → Position → Type 0
  At ws request p = MachineRule job (world ws d remaining request copies order cpus past p)

  pub patch_keeps : (ws : Words) (request : ℕ) (w : Word) (x : ℕ) (rest : List Move) → At ws request (Patch w x rest)
      → MachineRule job (control_row job (world ws d remaining request copies order cpus past (Patch w x rest)) (Store w x))
  unfolding control_got
  patch_keeps ws request w x rest k =
      let s = is-move job d (Put w x) rest k.sites.position in
      let b = before_rest job d rest (after-move job d (Put w x) rest k.sites.position) k.sites.fit in
      let after : Words = words_after (store_at job d s.sweep s.site) ws in
      subst (λ o. MachineRule job (control_row job (world ws d remaining request copies order cpus past (Patch w x rest)) o)) (sym (ap₂ Store s.word s.value))
      (by_sweep s.sweep s.site
      (kept_batch ws request (Patch w x rest) (before_moves job d rest) k.base request ws.want after.head after.tail after.next (omega arith)
      (in_patch job d w x rest) (in_moves job d rest k.sites.fit) k
      (passed_store job d w x rest s (before_moves job d rest) b ws.ack k.base request ws.want ws k.sites)))
    where
      by_sweep : (z : Sweep) (i : ℕ)
          → MachineRule job (world (record ws {
            want = ws.want;
            head = (words_after (store_at job d z i) ws).head;
            tail = (words_after (store_at job d z i) ws).tail;
            next = (words_after (store_at job d z i) ws).next;
          }) d remaining request copies order cpus past (before_moves job d rest))
          → MachineRule job (control_row job (world ws d remaining request copies order cpus past (Patch w x rest)) (store_at job d z i))
      by_sweep Nexts i kept = kept
      by_sweep _ i kept = kept
