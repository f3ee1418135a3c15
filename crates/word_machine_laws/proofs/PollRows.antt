-- Every row of a CPU keeps the rule: loads, items, and both stores of a poll.
use Rattle.std.proofs.Common.{cond, ◌≡◌, ◌≢◌, ℕ, ◌<◌, ◌≤◌, Bool, true, false, ◌==◌, List, [], ◌∷◌, length, get_or, Some, refl, sym, ap, ◌∙◌, subst, arith, inl, inr, eqb-true}
use Rattle.std.specs.Prelude.{◌⊎◌}
use Rattle.std.specs.List.{list_any}
use Rattle.std.proofs.lemmas.Bool.Decides.{eqb_tells}
use Rattle.std.proofs.lemmas.Option.{same_Some}
use Rattle.ft_base.specs.declared.item.Item.{Item}
use Rattle.ft_base.specs.declared.item.Item.TheVariants.{Begin, Return}
use Rattle.ft_base.specs.declared.task.TaskAct.{TaskAct}
use Rattle.ft_base.specs.Job.{Job, no_task}
use Rattle.ft_base.specs.Tasks.{has_acts, tasks_of}
use Rattle.ft_base.proofs.Small.{false_true, ==-refl, Each-weaker}
use Rattle.ft_hist.specs.Past.{is_of, done, begun}
use Rattle.ft_hist.specs.Rules.{IsLegalPast, MayFollow}
use Rattle.word_map.specs.Words.{Clock, Want, Ack, Quiet, at_put}
use Rattle.word_map.specs.Contents.{low, half_size, halves, greatest_half, all_ones}
use Rattle.word_machine.specs.Commands.{effect}
use Rattle.word_map.specs.Ops.{WordOp, Load, Store, Mark}
use Rattle.word_machine.specs.Task.{OpenCall, TaskState, Moment, Polling, First, is_quiet, is_fetching, quiet_word, task_op, task_got}
use Rattle.word_machine.specs.Cpu.{Cpu, Phase, Going, Looked, Answering, StoringAck, StoringQuiet, Over, has_more, any_has_more, ticked, looks, looked, ack_value, poll_on, polling, with_word, moved, is_unmet, present_op, present_got, going_op, going_got, phase_op, phase_got, cpu_next, cpu_got}
use Rattle.word_machine.specs.Machine.{World, weight, words_after, past_after, taken, cpu_row}
use Rattle.word_machine.specs.Progress.{quiet_reached}
use Rattle.word_machine.specs.Sites.{reached}
use Rattle.word_machine.specs.Verdicts.{Here}
use Rattle.word_machine.specs.Tasks.{TaskRule, HasTold, StandsIn}
use Rattle.word_machine.specs.Rule.{MachineRule, here, ControlLines, IsWordJob, CpuRule, IsOn, PollAt, Polls, WordsBelow, task_in}
use Rattle.word_machine.proofs.Small.{put_same, put_other, put_case}
use Rattle.word_machine_laws.proofs.OtherItems.{task_carried}
use Rattle.word_machine_laws.proofs.TaskSteps.{task_step, SteppedBy, is_polling}
use Rattle.word_machine_laws.proofs.PollTasks.{task_ack, quiet_calls}
use Rattle.word_machine_laws.proofs.PollSteps.{moved-kept, poll_on-kept}
use Rattle.word_machine_laws.proofs.Effects.{reached-low, quiet-low, asked-four}
use Rattle.word_map.proofs.ContentLaws.{low-halves}
use Rattle.word_machine_laws.proofs.Contents.{low-small}
use Rattle.word_machine_laws.proofs.TasksOf.{task_goes_on}
use Rattle.word_machine_laws.proofs.PollWords.{told-more}
use Rattle.word_machine_laws.proofs.LookRows.{looked-kept, answered-kept, over-kept}
use Rattle.word_machine_laws.proofs.Finished.{task-gone, Grows, grows-put, grows-moved, grows-on, grows-polling, present-is, present-got, polling-of}
use Rattle.ft_hist.proofs.Carries.{carries_item}
use Rattle.word_machine_laws.proofs.Room.{HasRoomFor, has-room}

-- the requests fit a half of a word
pub request-small : (job : Job) (ok : IsWordJob job) (s : World) → MachineRule job s → s.control.request < greatest_half
request-small job ok s k = let a = k.sites.few in let b = k.lines.within in let f = ok.few in let l = asked-four s.control.position in omega (arith, a, b, f, l)

module _ (job : Job) (ok : IsWordJob job) (s : World) (k : MachineRule job s) (c : ℕ) (within : c < length job.quanta) where
  abbrev h : Here
  h = here s k.base

  abbrev past : List Item
  past = s.past

  abbrev ack : ℕ
  ack = s.words.ack c

  abbrev quiet : ℕ → ℕ
  quiet = s.words.quiet

  -- what a row of the CPU does
  abbrev pub Did : WordOp → (ℕ → TaskState) → Cpu → Type 0
  Did (Load w) tasks me = CpuRule job h past ack quiet c me × Grows tasks me.tasks
  Did (Store (Ack i) x) tasks me = (i ≡ c) × CpuRule job h past x quiet c me × Grows tasks me.tasks
  Did (Store (Quiet t) x) tasks me = IsOn job c t × CpuRule job h past ack (at_put quiet t x) c me × Grows tasks me.tasks
  Did (Store w x) tasks me = ⊥
  Did (Mark item) tasks me = (t : ℕ) × IsOn job c t × ((u : ℕ) → is_of u item ≡ (t == u)) × MayFollow job past item
      × CpuRule job h (item ∷ past) ack quiet c me × Grows tasks me.tasks

  module _ (me : Cpu) (kept : CpuRule job h past ack quiet c me) where
    -- a task that is fetching has an act left
    busy : (m : Moment) (acts : List TaskAct) (stack : List OpenCall) → is_fetching m ≡ true → StandsIn (is_quiet m) acts stack → has_acts acts ≡ true
    busy m acts stack f st = (subst (λ b. StandsIn b acts stack) (loud m f) st).0
      where
        loud : (m : Moment) → is_fetching m ≡ true → is_quiet m ≡ false
        loud Polling f = false_true f
        loud First f = false_true f
        loud _ f = refl

    -- before a poll nobody is fetching
    still : Polls job me → (t : ℕ) → IsOn job c t → is_fetching (me.tasks t).moment ≡ false
    still polls t on = by (is_fetching (me.tasks t).moment) refl
      where
        by : (b : Bool) → is_fetching (me.tasks t).moment ≡ b → is_fetching (me.tasks t).moment ≡ false
        by false e = e
        by true e =
            let a = kept.alone t on e in
            let more = busy (me.tasks t).moment (me.tasks t).acts (me.tasks t).stack e (kept.tasks t on).stands in
            let m = polls (task_goes_on job c t me kept.number on more) in
            false_true (sym (ap is_fetching (ap (λ (i : ℕ). (me.tasks i).moment) a.0 ∙ m)) ∙ e)

    words-now : WordsBelow job c me h.request
    words-now t on = let x = kept.tasks t on in subst (λ n. HasTold h.request (has_more me.tasks t) greatest_half (low n)) (sym x.word') x.quiet

    -- the load of the last request
    polling-kept : Polls job me → me.ack ≤ h.request → CpuRule job h past ack quiet c (polling job me h.request)
    polling-kept polls last = by (me.ack == ack_value job me h.request) refl
      where
        by : (b : Bool) → (me.ack == ack_value job me h.request) ≡ b
            → CpuRule job h past ack quiet c (cond b (poll_on job me h.request) (record me { phase = StoringAck h.request }))
        by true e = poll_on-kept job ok h past ack quiet c me h.request (record {
          number = kept.number;
          stored = kept.stored;
          acked = eqb-true me.ack _ e;
          reach = kept.reach;
          loaded = omega arith;
          below = words-now;
          polls = polls;
          present = kept.present;
          still = still polls;
          tasks = kept.tasks;
        })
        by false e = record {
          number = kept.number;
          stored = kept.stored;
          acked = kept.acked;
          reach = kept.reach;
          polls = (omega arith, last, words-now, polls);
          present = kept.present;
          alone = λ t on f. false_true (sym (still polls t on) ∙ f);
          tasks = kept.tasks;
        }

    -- the store of the CPU's own word
    ack-kept : (r : ℕ) → PollAt job h.request c me (StoringAck r)
        → CpuRule job h past (ack_value job me r) quiet c (poll_on job (record me { ack = ack_value job me r }) r)
    ack-kept r p = poll_on-kept job ok h past (ack_value job me r) quiet c (record me { ack = ack_value job me r }) r (record {
      number = kept.number;
      stored = refl;
      acked = refl;
      reach = by (any_has_more job me) refl;
      loaded = p.0;
      below = p.2;
      polls = p.3;
      present = kept.present;
      still = still p.3;
      tasks = λ t on. task_ack job h past ack (ack_value job me r) (quiet t) t (me.tasks t) (still p.3 t on) (kept.tasks t on);
    })
      where
        by : (b : Bool) → any_has_more job me ≡ b → reached h.base h.p c ≤ cond b r all_ones
        by true e = (let a = kept.reach in let x = p.1 in let st = kept.stored in omega (arith, a, x, st))
        by false e = (let a = reached-low h.base c h.p in let q = k.sites.asked in let sm = request-small job ok s k in omega (arith, a, q, sm))

    -- the store of a task's word
    word-kept : (r t : ℕ) → r ≤ h.request → IsOn job c t → HasTold r (has_more me.tasks t) greatest_half (low (me.tasks t).word)
        → TaskRule job h past ack (quiet_word r (me.tasks t)) t (with_word r (me.tasks t))
    word-kept r t loaded on below =
        let x = kept.tasks t on in
        by (has_acts (me.tasks t).acts) (is_quiet (me.tasks t).moment) refl refl x
      where
        y : TaskState
        y = me.tasks t

        made : (l : ℕ) → l < half_size → HasTold h.request (has_acts (me.tasks t).acts) greatest_half l → quiet_reached (effect job h.d) h.p h.request t ≤ l
            → (is_quiet (me.tasks t).moment ≡ true) ⊎ (l ≡ low (quiet t)) → TaskRule job h past ack (quiet t) t (me.tasks t)
            → TaskRule job h past ack (halves (me.tasks t).gone l) t (record (me.tasks t) { word = halves (me.tasks t).gone l })
        made l lt small reach or x =
            let e = low-halves (me.tasks t).gone l lt in
            record {
              word' = refl;
              gone = rw e.1 (omega arith);
              total = x.total;
              quiet = rw e.0 small;
              first = x.first;
              reached = rw e.0 reach;
              stands = x.stands;
              grounded = x.grounded;
              run = record {
                fresh = x.run.fresh;
                at = x.run.at;
                is = x.run.is;
                next = x.run.next;
                stack = x.run.stack;
                ahead = x.run.ahead;
                counted = x.run.counted;
              };
              opens = x.opens;
              miss = x.miss;
              few = x.few;
              script = x.script;
              calls = rw e.0 (elim or [
                | inl qu ↦ quiet_calls job h past ack (low (quiet t)) l t (me.tasks t).moment (me.tasks t).stack qu x.calls
                | inr same ↦ rw same x.calls
              ]);
            }

        by : (a q : Bool) → has_acts (me.tasks t).acts ≡ a → is_quiet (me.tasks t).moment ≡ q → TaskRule job h past ack (quiet t) t (me.tasks t)
            → TaskRule job h past ack (quiet_word r (me.tasks t)) t (with_word r (me.tasks t))
        by false q ea eq x =
            let sm = request-small job ok s k in let lo = quiet-low (effect job h.d) h.p h.request t in
            rw ea (made greatest_half (omega arith) (inr (ea, refl)) (omega (arith, sm, lo)) (inl (ended q eq)) x)
          where
            ended : (q : Bool) → is_quiet (me.tasks t).moment ≡ q → is_quiet (me.tasks t).moment ≡ true
            ended true z = z
            ended false z = false_true (sym ea ∙ (rw z at x.stands).0)
        by true true ea eq x =
            let sm = request-small job ok s k in let b = told-more r _ greatest_half _ ea below in let re = x.reached in let w = x.word' in
            let b' : low (quiet t) ≤ r = subst (λ n. low n ≤ r) w b in
            rw (ea, eq) (made r (omega (arith, sm, loaded)) (inl loaded) (omega (arith, re, b')) (inl eq) x)
        by true false ea eq x =
            let w = x.word' in let small = low-small (me.tasks t).word in
            rw (ea, eq) (made (low (me.tasks t).word) (omega (arith, small))
            (subst (λ n. HasTold h.request (has_acts (me.tasks t).acts) greatest_half (low n)) (sym w) x.quiet)
            (subst (λ n. quiet_reached (effect job h.d) h.p h.request t ≤ low n) (sym w) x.reached)
            (inr (ap low w)) x)

    -- what the store of a word leaves of the tasks
    put-part : {A : Type 0} (f : TaskState → A) (t : ℕ) (x : TaskState) → f x ≡ f (me.tasks t) → (v : ℕ) → f (at_put me.tasks t x v) ≡ f (me.tasks v)
    put-part f t x same v = put_case me.tasks t x (λ i y. f y ≡ f (me.tasks i)) v (λ e. same) (λ ne. refl)

    any-same : (p p' : ℕ → Bool) → ((v : ℕ) → p' v ≡ p v) → (xs : List ℕ) → list_any p' xs ≡ list_any p xs
    any-same p p' same [] = refl
    any-same p p' same (x ∷ xs) = rw (same x, any-same p p' same xs) refl

    quiet-kept : (r t : ℕ) → PollAt job h.request c me (StoringQuiet r t)
        → CpuRule job h past ack (at_put quiet t (quiet_word r (me.tasks t))) c
        (poll_on job (record me { tasks = at_put me.tasks t (with_word r (me.tasks t)) }) r)
    quiet-kept r t p =
        let more : (v : ℕ) → has_more (at_put me.tasks t (with_word r (me.tasks t))) v ≡ has_more me.tasks v =
        put-part (λ (y : TaskState). has_acts y.acts) t (with_word r (me.tasks t)) refl in
        let moment : (v : ℕ) → (at_put me.tasks t (with_word r (me.tasks t)) v).moment ≡ (me.tasks v).moment =
        put-part (λ (y : TaskState). y.moment) t (with_word r (me.tasks t)) refl in
        let goes : any_has_more job (record me { tasks = at_put me.tasks t (with_word r (me.tasks t)) }) ≡ any_has_more job me =
        any-same (λ v. has_more me.tasks v) (λ v. has_more (at_put me.tasks t (with_word r (me.tasks t))) v) more (tasks_of job me.number) in
        let own = word-kept r t p.0 p.4 (p.2 t p.4) in
        poll_on-kept job ok h past ack (at_put quiet t (quiet_word r (me.tasks t))) c (record me { tasks = at_put me.tasks t (with_word r (me.tasks t)) }) r
        (record {
          number = kept.number;
          stored = kept.stored;
          acked = p.1 ∙ ap (λ b. cond b r all_ones) (sym goes);
          reach = kept.reach;
          loaded = p.0;
          below = λ v on. put_case me.tasks t (with_word r (me.tasks t)) (λ i y. IsOn job c i → HasTold r (has_acts y.acts) greatest_half (low y.word)) v
              (λ e o. new-low (has_acts (me.tasks t).acts) refl) (λ ne o. p.2 v o) on;
          polls = λ on. moment me.present ∙ p.3 (sym goes ∙ on);
          present = λ on. (let x = kept.present (sym goes ∙ on) in (x.0, more me.present ∙ x.1));
          still = λ v on. ap is_fetching (moment v) ∙ still p.3 v on;
          tasks = λ v on. put_case me.tasks t (with_word r (me.tasks t)) (λ i y. IsOn job c i
              → TaskRule job h past ack (at_put quiet t (quiet_word r (me.tasks t)) i) i y) v
              (λ e o. subst (λ n. TaskRule job h past ack n t (with_word r (me.tasks t))) (sym (put_same quiet t (quiet_word r (me.tasks t)))) own)
              (λ ne o. subst (λ n. TaskRule job h past ack n v (me.tasks v)) (sym (put_other quiet t (quiet_word r (me.tasks t)) v ne)) (kept.tasks v o)) on;
        })
      where
        new-low : (b : Bool) → has_acts (me.tasks t).acts ≡ b → HasTold r (has_acts (me.tasks t).acts) greatest_half (low (quiet_word r (me.tasks t)))
        new-low false a = let z = low-halves (me.tasks t).gone greatest_half (omega arith) in inr (a, rw a z.0)
        new-low true a = inl (by (is_quiet (me.tasks t).moment) refl)
          where
            by : (b : Bool) → is_quiet (me.tasks t).moment ≡ b → low (quiet_word r (me.tasks t)) ≤ r
            by true e = (let loaded = p.0 in let sm = request-small job ok s k in let z = low-halves (me.tasks t).gone r (omega (arith, sm, loaded)) in
                rw (a, e) (rw z.0 (omega arith)))
            by false e = (let lt = low-small (me.tasks t).word in let z = low-halves (me.tasks t).gone (low (me.tasks t).word) (omega (arith, lt)) in
                rw (a, e) (rw z.0 (told-more r _ greatest_half _ a (p.2 t p.4))))

  poll-tick : (me : Cpu) (p : Phase) → PollAt job h.request c me p → PollAt job h.request c (ticked me) p
  poll-tick me Going x = x
  poll-tick me Looked x = x
  poll-tick me (Answering r) x = x
  poll-tick me (StoringAck r) x = x
  poll-tick me (StoringQuiet r t) x = x
  poll-tick me Over x = x

  tick-kept : (me : Cpu) → CpuRule job h past ack quiet c me → CpuRule job h past ack quiet c (ticked me)
  tick-kept me k' = record {
    number = k'.number;
    stored = k'.stored;
    acked = k'.acked;
    reach = k'.reach;
    polls = poll-tick me me.phase k'.polls;
    present = k'.present;
    alone = k'.alone;
    tasks = k'.tasks;
  }

  module _ (me : Cpu) (kept : CpuRule job h past ack quiet c me) where
    -- a step of the present task, with or without an item
    module _ (on : any_has_more job me ≡ true) (going : me.phase ≡ Going) (poll : is_polling (me.tasks me.present).moment ≡ false) where
      abbrev x0 : TaskState
      x0 = me.tasks me.present

      is-on : IsOn job c me.present
      is-on = (kept.present on).0

      acked : ack ≤ h.request
      acked = told-more h.request (any_has_more job me) all_ones ack on kept.acked

      below : WordsBelow job c me ack
      below = subst (λ r. WordsBelow job c me r) kept.stored (subst (λ (p : Phase). PollAt job h.request c me p) going kept.polls).1

      own-below : low (quiet me.present) ≤ ack
      own-below = subst (λ (n : ℕ). low n ≤ ack) (kept.tasks me.present is-on).word'
          (told-more ack _ greatest_half _ (kept.present on).1 (below me.present is-on))

      still-others : (t : ℕ) → IsOn job c t → t ≢ me.present → is_fetching (me.tasks t).moment ≡ false
      still-others t on-t ne = by (is_fetching (me.tasks t).moment) refl
        where
          by : (b : Bool) → is_fetching (me.tasks t).moment ≡ b → is_fetching (me.tasks t).moment ≡ false
          by false e = e
          by true e = absurd (ne (kept.alone t on-t e).0)

      moved-on : (past' : List Item) (unmet : Bool) (x : TaskState)
          → ((t : ℕ) → IsOn job c t → t ≢ me.present → TaskRule job h past' ack (quiet t) t (me.tasks t))
          → TaskRule job h past' ack (quiet me.present) me.present x
          → CpuRule job h past' ack quiet c (moved job (ticked me) unmet x)
      moved-on past' unmet x others own =
          moved-kept job ok h past' ack quiet c (ticked me) unmet x kept.number kept.stored going acked below kept.reach is-on own-below still-others others own

      did-op : (op : WordOp) (unmet : Bool) (x : TaskState) → (me.tasks me.present).gone ≤ x.gone → SteppedBy job h past ack (quiet me.present) me.present op x
          → Did op me.tasks (moved job (ticked me) unmet x)
      did-op (Load w) unmet x le st = (moved-on past unmet x (λ t o ne. kept.tasks t o) st, grows-moved job (ticked me) unmet x le)
      did-op (Store w y) unmet x le st = absurd st
      did-op (Mark item) unmet x le st = (
        me.present,
        is-on,
        st.1,
        st.0.0,
        moved-on (item ∷ past) unmet x (λ t o ne. task_carried job h past (item ∷ past) ack (quiet t) t (me.tasks t)
            (carries_item job t item past (st.1 t ∙ other t ne)) (kept.tasks t o)) st.0.1,
        grows-moved job (ticked me) unmet x le,
      )
        where
          other : (t : ℕ) → t ≢ me.present → (me.present == t) ≡ false
          other t ne = elim (eqb_tells me.present t) [ inl e ↦ absurd (ne (sym e.1)) | inr e ↦ e.0 ]

      present-did : (op : WordOp) → task_op me.present (me.tasks me.present) (me.tasks me.present).moment ≡ Some op
          → Did op me.tasks (moved job (ticked me) (is_unmet (me.tasks me.present).moment (me.tasks me.present).acts (taken op s.words))
          (task_got job me.present (me.tasks me.present) (me.tasks me.present).moment (taken op s.words)))
      present-did op is =
          did-op op _ _ (task-gone job me.present (me.tasks me.present) (me.tasks me.present).moment (taken op s.words))
          (task_step job ok s k c (quiet me.present) acked me.present is-on.0 x0.next x0.gone x0.acts x0.contexts x0.word x0.stack x0.moment
          (kept.tasks me.present is-on) poll op is)

    want-is : s.words.want ≡ h.request
    want-is = k.sites.want

    poll-did : me.phase ≡ Going → Polls job me → Did (Load Want) me.tasks (polling job (ticked me) s.words.want)
    poll-did going polls = subst (λ (r : ℕ). CpuRule job h past ack quiet c (polling job (ticked me) r) × Grows me.tasks (polling job (ticked me) r).tasks)
        (sym want-is) (
          polling-kept (ticked me) (tick-kept me kept) polls (subst (λ (p : Phase). PollAt job h.request c me p) going kept.polls).0,
          grows-polling job (ticked me) h.request,
        )

    going-did : me.phase ≡ Going → (op : WordOp) → going_op job me ≡ Some op → Did op me.tasks (going_got job (ticked me) (taken op s.words))
    going-did going op is = by (any_has_more job me) refl
      where
        by_poll : (b : Bool) → any_has_more job me ≡ true → is_polling (me.tasks me.present).moment ≡ b → present_op me (me.tasks me.present).moment ≡ Some op
            → Did op me.tasks (present_got job (ticked me) (me.tasks me.present).moment (taken op s.words))
        by_poll true on e is' =
            let m = polling-of (me.tasks me.present).moment e in
            rw m (subst (λ o. Did o me.tasks (polling job (ticked me) (taken o s.words))) (same_Some (Load Want) op (rw m at is')) (poll-did going (λ y. m)))
        by_poll false on e is' =
            subst (λ (me' : Cpu). Did op me.tasks me') (sym (present-got job (ticked me) (me.tasks me.present).moment (taken op s.words) e))
            (present-did on going e op (sym (present-is me (me.tasks me.present).moment e) ∙ is'))

        chosen : (b : Bool) → any_has_more job me ≡ b
            → Did op me.tasks (cond b (present_got job (ticked me) (me.tasks me.present).moment (taken op s.words))
            (polling job (ticked me) (taken op s.words)))
            → Did op me.tasks (going_got job (ticked me) (taken op s.words))
        chosen b e x = subst (λ y. Did op me.tasks (cond y (present_got job (ticked me) (me.tasks me.present).moment (taken op s.words))
            (polling job (ticked me) (taken op s.words)))) (sym e) x

        by : (b : Bool) → any_has_more job me ≡ b → Did op me.tasks (going_got job (ticked me) (taken op s.words))
        by true e = chosen true e (by_poll (is_polling (me.tasks me.present).moment) e refl (rw e at is))
        by false e = chosen false e (subst (λ o. Did o me.tasks (polling job (ticked me) (taken o s.words))) (same_Some (Load Want) op (rw e at is))
            (poll-did going (λ y. false_true (sym e ∙ y))))

  module _ (me : Cpu) (kept : CpuRule job h past ack quiet c me) where
    pub cpu-did : (ph : Phase) → me.phase ≡ ph → (op : WordOp) → phase_op job me ph ≡ Some op → Did op me.tasks (phase_got job me ph (taken op s.words))
    cpu-did Going e op is = by (looks job me) refl is
      where
        by : (b : Bool) → looks job me ≡ b → cond b (Some (Load Want)) (going_op job me) ≡ Some op
            → Did op me.tasks (cond b (looked me (taken op s.words)) (going_got job (ticked me) (taken op s.words)))
        by true l is' =
            subst (λ o. Did o me.tasks (looked me (taken o s.words))) (same_Some (Load Want) op is')
            (subst (λ (r : ℕ). CpuRule job h past ack quiet c (looked me r) × Grows me.tasks (looked me r).tasks) (sym (want-is me kept))
            (looked-kept job h past ack quiet c me kept e l, λ t. omega arith))
        by false l is' = going-did me kept e op is'
    cpu-did Looked e op is = going-did (record me { phase = Going }) (over-kept job h past ack quiet c me kept e) refl op is
    cpu-did (Answering r) e op is =
        subst (λ o. Did o me.tasks (phase_got job me (Answering r) (taken o s.words))) (same_Some _ op is)
        (kept.number, answered-kept job h past ack quiet c me kept r e, λ t. omega arith)
    cpu-did (StoringAck r) e op is =
        subst (λ o. Did o me.tasks (phase_got job me (StoringAck r) (taken o s.words))) (same_Some _ op is) (
          kept.number,
          ack-kept (ticked me) (tick-kept me kept) r (poll-tick me (StoringAck r) (subst (λ p. PollAt job h.request c me p) e kept.polls)),
          grows-on job (record (ticked me) { ack = ack_value job me r }) r,
        )
    cpu-did (StoringQuiet r t) e op is =
        let p = subst (λ p. PollAt job h.request c me p) e kept.polls in
        subst (λ o. Did o me.tasks (phase_got job me (StoringQuiet r t) (taken o s.words))) (same_Some _ op is)
        (p.4, quiet-kept (ticked me) (tick-kept me kept) r t (poll-tick me (StoringQuiet r t) p), grows-both r t)
      where
        grows-both : (r t : ℕ) → Grows me.tasks (poll_on job (record (ticked me) { tasks = at_put me.tasks t (with_word r (me.tasks t)) }) r).tasks
        grows-both r t v =
            let a = grows-put me.tasks t (with_word r (me.tasks t)) (omega arith) v in
            let b = grows-on job (record (ticked me) { tasks = at_put me.tasks t (with_word r (me.tasks t)) }) r v in omega (arith, a, b)
    cpu-did Over e op is = absurd cc

-- ## the whole state

-- an item of a task counts for nothing else
task-item : (t : ℕ) (item : Item) (before : List Item) → ((u : ℕ) → is_of u item ≡ (t == u))
    → (done (item ∷ before) ≡ done before) × (begun (item ∷ before) ≡ begun before) × (weight item ≡ 1)
task-item t (Begin k) before own = false_true (own t ∙ ==-refl t)
task-item t (Return k a) before own = false_true (own t ∙ ==-refl t)
task-item t _ before own = (refl, refl, refl)

module _ (job : Job) (ok : IsWordJob job) (s : World) (k : MachineRule job s) (c : ℕ) (within : c < length job.quanta) where
  abbrev Then : WordOp → Cpu → World
  Then op me = record { words = words_after op s.words; control = s.control; cpus = at_put s.cpus c me; past = past_after op s.past }

  -- control's waits stay met
  lines-on : (me : Cpu) → Grows (s.cpus c).tasks me.tasks
      → ControlLines job s.control.commands_done s.control.position s.control.remaining (λ t. (task_in job (at_put s.cpus c me) t).gone)
  lines-on me grows = record {
    waits = k.lines.waits;
    met = Each-weaker (λ (w : ℕ × ℕ). w.1 ≤ (task_in job s.cpus w.0).gone) (λ (w : ℕ × ℕ). w.1 ≤ (task_in job (at_put s.cpus c me) w.0).gone) k.lines.waits
        (λ w le. let m = more w.0 in omega (arith, le, m)) k.lines.met;
    before = k.lines.before;
    within = k.lines.within;
    commands = k.lines.commands;
    under = k.lines.under;
  }
    where
      more : (t : ℕ) → (task_in job s.cpus t).gone ≤ (task_in job (at_put s.cpus c me) t).gone
      more t = put_case s.cpus c me (λ i y. ((s.cpus i).tasks t).gone ≤ (y.tasks t).gone) (get_or job.tasks t no_task).cpu (λ e. grows t) (λ ne. omega arith)

  -- another CPU's tasks are others
  apart : (c' t v : ℕ) → c' ≢ c → IsOn job c t → IsOn job c' v → (t == v) ≡ false
  apart c' t v ne a b = elim (eqb_tells t v) [
    | inl e ↦ absurd (ne (sym b.1 ∙ ap (λ (i : ℕ). (get_or job.tasks i no_task).cpu) (sym e.1) ∙ a.1))
    | inr e ↦ e.0
  ]

  -- a CPU over changes that each of its tasks keeps through
  over : (past' : List Item) (quiet' : ℕ → ℕ) (c' : ℕ) (me : Cpu) → CpuRule job (here s k.base) s.past (s.words.ack c') s.words.quiet c' me
      → ((t : ℕ) → IsOn job c' t → TaskRule job (here s k.base) s.past (s.words.ack c') (s.words.quiet t) t (me.tasks t)
      → TaskRule job (here s k.base) past' (s.words.ack c') (quiet' t) t (me.tasks t))
      → CpuRule job (here s k.base) past' (s.words.ack c') quiet' c' me
  over past' quiet' c' me x f = record {
    number = x.number;
    stored = x.stored;
    acked = x.acked;
    reach = x.reach;
    polls = x.polls;
    present = x.present;
    alone = x.alone;
    tasks = λ t on. f t on (x.tasks t on);
  }

  kept-did : (op : WordOp) (me : Cpu) → HasRoomFor job → Did job ok s k c within op (s.cpus c).tasks me → MachineRule job (Then op me)
  unfolding IsLegalPast
  kept-did (Load w) me room d = record {
    base = k.base;
    counts = k.counts;
    legal = k.legal;
    runs = k.runs;
    lines = lines-on me d.1;
    sites = k.sites;
    list = k.list;
    sets = k.sets;
    tramps = k.tramps;
    limits = k.limits;
    cpus = λ i lt. put_case s.cpus c me (λ j y. j < length job.quanta → CpuRule job (here s k.base) s.past (s.words.ack j) s.words.quiet j y) i (λ e l. d.0)
        (λ ne l. k.cpus i l) lt;
  }
  kept-did (Store (Ack n) x) me room d = record {
    base = k.base;
    counts = k.counts;
    legal = k.legal;
    runs = k.runs;
    lines = lines-on me d.2;
    sites = k.sites;
    list = k.list;
    sets = k.sets;
    tramps = k.tramps;
    limits = k.limits;
    cpus = λ i lt. put_case s.cpus c me (λ j y. j < length job.quanta → CpuRule job (here s k.base) s.past (at_put s.words.ack n x j) s.words.quiet j y) i
        (λ e l. subst (λ v. CpuRule job (here s k.base) s.past v s.words.quiet c me)
        (sym (ap (λ (z : ℕ). at_put s.words.ack z x c) d.0 ∙ put_same s.words.ack c x)) d.1)
        (λ ne l. subst (λ v. CpuRule job (here s k.base) s.past v s.words.quiet i (s.cpus i)) (sym (put_other s.words.ack n x i (λ e. ne (e ∙ d.0))))
        (k.cpus i l)) lt;
  }
  kept-did (Store (Quiet t) x) me room d = record {
    base = k.base;
    counts = k.counts;
    legal = k.legal;
    runs = k.runs;
    lines = lines-on me d.2;
    sites = k.sites;
    list = k.list;
    sets = k.sets;
    tramps = k.tramps;
    limits = k.limits;
    cpus = λ i lt. put_case s.cpus c me (λ j y. j < length job.quanta → CpuRule job (here s k.base) s.past (s.words.ack j) (at_put s.words.quiet t x) j y) i
        (λ e l. d.1)
        (λ ne l. over s.past (at_put s.words.quiet t x) i (s.cpus i) (k.cpus i l)
        (λ v on y. subst (λ n. TaskRule job (here s k.base) s.past (s.words.ack i) n v ((s.cpus i).tasks v))
        (sym (put_other s.words.quiet t x v (λ e. differs i v ne on e))) y)) lt;
  }
    where
      differs : (i v : ℕ) → i ≢ c → IsOn job i v → v ≡ t → ⊥
      differs i v ne on e = false_true (sym (apart i t v ne d.0 on) ∙ rw e (==-refl t))
  kept-did (Mark item) me room d =
      let n = task-item d.0 item s.past d.2 in
      record {
        base = k.base;
        counts = record {
          returned = n.0 ∙ k.counts.returned;
          started = n.1 ∙ k.counts.started;
          clock' = (let c' = k.counts.clock' in let a = n.0 in let b = n.1 in let w = n.2 in omega (arith, c', a, b, w));
          room = room (item ∷ s.past) (d.3, k.legal);
        };
        legal = (d.3, k.legal);
        runs = d.3.run;
        lines = lines-on me d.5;
        sites = k.sites;
        list = k.list;
        sets = k.sets;
        tramps = k.tramps;
        limits = k.limits;
        cpus = λ i lt. put_case s.cpus c me (λ j y. j < length job.quanta → CpuRule job (here s k.base) (item ∷ s.past) (s.words.ack j) s.words.quiet j y) i
            (λ e l. d.4)
            (λ ne l. over (item ∷ s.past) s.words.quiet i (s.cpus i) (k.cpus i l)
            (λ v on y. task_carried job (here s k.base) s.past (item ∷ s.past) (s.words.ack i) (s.words.quiet v) v ((s.cpus i).tasks v)
            (carries_item job v item s.past (d.2 v ∙ apart i d.0 v ne d.1 on)) y)) lt;
      }
  kept-did (Store Clock x) me room d = absurd d
  kept-did (Store _ x) me room d = absurd d

-- each row of a CPU keeps the rule
pub cpu_keeps : (job : Job) (ok : IsWordJob job) (s : World) (c : ℕ) (op : WordOp) → c < length job.quanta → MachineRule job s
    → cpu_next job (s.cpus c) ≡ Some op → MachineRule job (cpu_row job s c op)
unfolding cpu_next cpu_got
cpu_keeps job ok s c op within k is =
    kept-did job ok s k c within op (phase_got job (s.cpus c) (s.cpus c).phase (taken op s.words)) (has-room job ok)
    (cpu-did job ok s k c within (s.cpus c) (k.cpus c within) (s.cpus c).phase refl op is)
