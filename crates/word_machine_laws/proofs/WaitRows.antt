-- The rows of waits: for each CPU, in a sync of a batch, and for the quiet point of each task.
use Rattle.std.proofs.Common.{◌≡◌, ℕ, suc, ◌<◌, ◌≤◌, true, false, List, Some, inl, inr, refl, sym, ap, ◌∙◌, subst, arith, length}
use Rattle.std.specs.Prelude.{Option, nat_lt, nat_le, is_some}
use Rattle.std.proofs.lemmas.Bool.{leb-true, ltb-false}
use Rattle.std.proofs.lemmas.Bool.Decides.{nat_tests}
use Rattle.ft_base.specs.declared.item.Item.{Item}
use Rattle.ft_base.specs.Job.{Job, Ctl}
use Rattle.ft_base.proofs.Small.{false_true}
use Rattle.word_map.specs.Words.{Words, put, read, Want}
use Rattle.word_map.specs.Contents.{low}
use Rattle.word_map.specs.Ops.{Load, Store}
use Rattle.grace_core.specs.declared.waiter.WaitPhase.TheVariants.{Asking, Waiting, Ended}
use Rattle.grace_core.specs.Waits.{awaited, awaited_word, reached, waiting_for}
use Rattle.word_machine.specs.Commands.{effect, subject, state_of, Effect, Removes, has_slot_at}
use Rattle.word_machine.specs.Control.{Position, Awaited, Ask, Await, Cpus, Tasks, Release, Close, before_moves, released_in, is_for_tasks, wait_for, after_wait, in_wait, control_got}
use Rattle.word_machine.specs.Cpu.{Cpu}
use Rattle.word_machine.specs.Machine.{control_row}
use Rattle.word_machine.specs.Progress.{gave, waits, quiet_reached, comes_to}
use Rattle.word_machine.specs.Sites.{PositionAt}
use Rattle.word_machine.specs.Trampolines.{TrampolinesHeld, HasSlot}
use Rattle.word_machine.specs.Rule.{MachineRule}
use Rattle.word_machine.proofs.Small.{if_case}
use Rattle.word_machine_laws.proofs.Sites.{passed_same}
use Rattle.word_machine_laws.proofs.SiteSyncs.{based, ask_row, pass_row, exit_row, passed_more, passed_all}
use Rattle.word_machine_laws.proofs.SiteRows.{in_ask, in_sync, in_moves, kept_batch}
use Rattle.word_machine_laws.proofs.NoSwitch.{world, tramps_before, kept_on}
use Rattle.word_machine_laws.proofs.Effects.{closing, none_gave}

slot_there : (o : Option ℕ) (t : ℕ) → o ≡ Some t → is_some o ≡ true
slot_there o t e = rw e refl

module _ (job : Job) (d : ℕ) (remaining : List Ctl) (copies : ℕ → ℕ) (order : List ℕ) (cpus : ℕ → Cpu) (past : List Item) where
  abbrev At : Words → ℕ → Position → Type 0
  At ws request p = MachineRule job (world ws d remaining request copies order cpus past p)

  -- how many a wait is for, and the last request that one of them has reached
  abbrev many : Awaited → ℕ
  many whom = awaited (wait_for job whom 0 Asking)

  abbrev found : Words → Awaited → ℕ → ℕ
  found ws whom n = reached (is_for_tasks whom) (read (awaited_word (is_for_tasks whom) n) ws)

  -- the request is stored: nobody has reached it yet. With a quiet request the batch is over
  asked : (ws : Words) (request : ℕ) (whom : Awaited) → At ws request (Ask whom) → At (put Want (suc request) ws) (suc request) (Await whom 0)
  asked ws request (Cpus rest) k =
      kept_batch job d remaining copies order cpus past ws request (Ask (Cpus rest)) (Await (Cpus rest) 0) k.base (suc request) (suc request) ws.head ws.tail
      ws.next (omega arith) (in_ask job d (Cpus rest)) (in_sync job d rest 0) k
      (ask_row job d ws.ack k.base request ws.want ws.head ws.tail ws.next rest k.sites)
  asked ws request Tasks k =
      kept_on job ws d remaining request copies order cpus past (Ask Tasks) (Await Tasks 0) (suc request) (suc request) (suc request) ws.head ws.tail ws.next
      (record { list = refl; select = refl; pids = refl; depth = refl; hold = λ q small h. omega (arith, small); grows = omega arith })
      (record { tramps = tramps_before job d (Ask Tasks) (Await Tasks 0) refl refl refl; pushed = λ l o. tt; written = λ s c. tt; begun = refl })
      k
      (passed_same job d ws.ack (Ask Tasks) (Await Tasks 0) k.base (suc request) request (suc request) ws.want (suc request) ws.head ws.tail ws.next
      (λ f inside ch. refl) (omega arith) (let z = k.sites.few in omega (arith, z)) refl tt k.sites.fit (inr (λ f. inr refl))
      (λ c within s. omega arith) k.sites)
      (λ t there r. if_case (λ n. n ≤ low (ws.quiet t)) (nat_lt t 0) (suc request) 0 (λ e. absurd (grind (arith, nat_tests))) (λ e. omega arith))

  -- one more was found to have reached it
  passed : (ws : Words) (request : ℕ) (whom : Awaited) (n : ℕ) → request ≤ found ws whom n → At ws request (Await whom n)
      → At ws request (Await whom (suc n))
  passed ws request (Cpus rest) n le k =
      kept_batch job d remaining copies order cpus past ws request (Await (Cpus rest) n) (Await (Cpus rest) (suc n)) k.base request ws.want ws.head ws.tail
      ws.next (omega arith) (in_sync job d rest n) (in_sync job d rest (suc n)) k
      (pass_row job d ws.ack k.base request ws.want ws.head ws.tail ws.next rest n le k.sites)
  passed ws request Tasks n le k =
      kept_on job ws d remaining request copies order cpus past (Await Tasks n) (Await Tasks (suc n)) k.base request ws.want ws.head ws.tail ws.next
      (record { list = refl; select = refl; pids = refl; depth = refl; hold = λ q small h. h; grows = omega arith })
      (record { tramps = tramps_before job d (Await Tasks n) (Await Tasks (suc n)) refl refl refl; pushed = λ l o. tt; written = λ s c. tt; begun = refl })
      k
      (passed_same job d ws.ack (Await Tasks n) (Await Tasks (suc n)) k.base k.base request request ws.want ws.want ws.head ws.tail ws.next
      (λ f inside ch. refl) k.sites.asked k.sites.few k.sites.want tt k.sites.fit (inl refl) (λ c within s. omega arith) k.sites)
      (λ t there r. passed_more request 0 n t (low (ws.quiet t)) (λ e. subst (λ j. request ≤ low (ws.quiet j)) (sym e) le) r)

  -- all have
  over : (ws : Words) (request : ℕ) (whom : Awaited) (n : ℕ) → many whom ≤ n → At ws request (Await whom n) → At ws request (after_wait job d whom)
  over ws request (Cpus rest) n all k =
      kept_batch job d remaining copies order cpus past ws request (Await (Cpus rest) n) (before_moves job d rest) (based k.base rest) request ws.want ws.head
      ws.tail ws.next (omega arith) (in_sync job d rest n) (in_moves job d rest k.sites.fit) k
      (exit_row job d ws.ack k.base request ws.want ws.head ws.tail ws.next rest n all k.sites)
  over ws request Tasks n all k = by_effect (effect job d) refl
    where
      reached_by : (t : ℕ) → t < length job.tasks → quiet_reached (effect job d) (Await Tasks n) request t ≤ low (ws.quiet t) → request ≤ low (ws.quiet t)
      reached_by t there r = passed_all request 0 n t (low (ws.quiet t)) (omega arith) r

      to_close : ((u t : ℕ) → HasSlot (state_of job d u) t → gave (effect job d) Close ≡ true → u ≡ subject job d → ⊥) → At ws request Close
      to_close none =
          kept_on job ws d remaining request copies order cpus past (Await Tasks n) Close k.base request ws.want ws.head ws.tail ws.next
          (record { list = refl; select = refl; pids = refl; depth = refl; hold = λ q small h. closing (effect job d) request q h; grows = omega arith })
          (record { tramps = given; pushed = λ l o. tt; written = λ s c. tt; begun = refl })
          k
          (passed_same job d ws.ack (Await Tasks n) Close k.base k.base request request ws.want ws.want ws.head ws.tail ws.next
          (λ f inside ch. refl) k.sites.asked k.sites.few k.sites.want tt refl (inl refl) (λ c within s. omega arith) k.sites)
          (λ t there r. if_case (λ m. m ≤ low (ws.quiet t)) (waits (effect job d)) request 0 (λ e. reached_by t there r) (λ e. omega arith))
        where
          given : (tramp : ℕ → ℕ) → TrampolinesHeld job d (Await Tasks n) tramp → TrampolinesHeld job d Close tramp
          given tramp x = record {
            before = λ u t h free. x.before u t h (λ g. false_true (sym (none_gave (effect job d) (Await Tasks n) refl) ∙ g));
            after = x.after;
            free = λ t within old new. x.free t within (λ u h. absurd (none u t h (old u h).0 (old u h).1)) new;
          }

      to_release : comes_to (effect job d) Release ≡ true → PositionAt job d Release → At ws request Release
      to_release fit position =
          kept_on job ws d remaining request copies order cpus past (Await Tasks n) Release k.base request ws.want ws.head ws.tail ws.next
          (record { list = refl; select = refl; pids = refl; depth = refl; hold = λ q small h. h; grows = omega arith })
          (record { tramps = tramps_before job d (Await Tasks n) Release refl refl refl; pushed = λ l o. tt; written = λ s c. tt; begun = refl })
          k
          (passed_same job d ws.ack (Await Tasks n) Release k.base k.base request request ws.want ws.want ws.head ws.tail ws.next
          (λ f inside ch. refl) k.sites.asked k.sites.few k.sites.want position fit (inl refl) (λ c within s. omega arith) k.sites)
          reached_by

      no_gift : (z : Effect) → effect job d ≡ z → gave z Close ≡ false → At ws request Close
      no_gift z e g = to_close (λ u t h give e'. false_true (sym g ∙ sym (ap (λ y. gave y Close) e) ∙ give))

      by_effect : (z : Effect) → effect job d ≡ z → At ws request (released_in job d z)
      by_effect Removes e =
          if_case (λ q. At ws request q) (has_slot_at job d (subject job d)) Release Close
          (λ s. to_release (ap (λ y. comes_to y Release) e) s)
          (λ s. to_close (λ u t h g same. false_true
          (sym s ∙ slot_there (state_of job d (subject job d)).slot t (subst (λ v. (state_of job d v).slot ≡ Some t) same h.1))))
      by_effect z e = no_gift z e refl

  -- the wait for this one, or what follows
  goes_on : (ws : Words) (request : ℕ) (whom : Awaited) (n : ℕ) → At ws request (Await whom n)
      → At ws request (in_wait job d whom (waiting_for (many whom) n))
  goes_on ws request whom n k =
      if_case (λ p. At ws request (in_wait job d whom p)) (nat_lt n (many whom)) (Waiting n) Ended (λ e. k)
      (λ e. over ws request whom n (ltb-false n (many whom) e) k)

  pub ask_keeps : (ws : Words) (request : ℕ) (whom : Awaited) → At ws request (Ask whom)
      → MachineRule job (control_row job (world ws d remaining request copies order cpus past (Ask whom)) (Store Want (suc request)))
  unfolding control_got
  ask_keeps ws request whom k = goes_on (put Want (suc request) ws) (suc request) whom 0 (asked ws request whom k)

  pub await_keeps : (ws : Words) (request : ℕ) (whom : Awaited) (n : ℕ) → At ws request (Await whom n)
      → MachineRule job (control_row job (world ws d remaining request copies order cpus past (Await whom n)) (Load (awaited_word (is_for_tasks whom) n)))
  unfolding control_got
  await_keeps ws request whom n k =
      if_case (λ p. At ws request (in_wait job d whom p)) (nat_le request (found ws whom n)) (waiting_for (many whom) (suc n)) (Waiting n)
      (λ e. goes_on ws request whom (suc n) (passed ws request whom n (leb-true request (found ws whom n) e) k)) (λ e. k)
