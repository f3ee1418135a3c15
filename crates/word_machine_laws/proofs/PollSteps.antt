-- A CPU after a step or in a poll: it switches, the present task goes on, the poll goes on.
use Rattle.std.proofs.Common.{cond, ◌≡◌, ◌≢◌, ℕ, suc, ◌≤◌, Bool, true, false, not, ◌||◌, ◌==◌, nat_lt, nat_le, List, [], ◌∷◌, get_or, Option, Some, None, IfSome, refl, sym, ap, ◌∙◌, subst, arith, inl, inr}
use Rattle.std.specs.List.{filter, AllByRecursion as Each}
use Rattle.std.proofs.lemmas.Bool.{cases_eq}
use Rattle.ft_base.specs.declared.context.Ctx.{Ctx}
use Rattle.ft_base.specs.declared.item.Item.{Item}
use Rattle.ft_base.specs.declared.task.TaskAct.{TaskAct}
use Rattle.ft_base.specs.declared.task.TaskAct.TheVariants.{Call, Ret as RetAct, Raise, Lower, After}
use Rattle.ft_base.specs.Job.{Job}
use Rattle.ft_base.proofs.Small.{false_true, or-false_both, Each-filter}
use Rattle.ft_base.specs.WellFormed.{IsScript}
use Rattle.ft_base.specs.Tasks.{has_acts, tasks_of}
use Rattle.ft_hist.specs.Past.{done}
use Rattle.ft_hist.specs.Plain.{below_top, ahead}
use Rattle.word_map.specs.Words.{at_put}
use Rattle.word_map.specs.Contents.{low, greatest_half, all_ones}
use Rattle.word_machine.specs.Task.{OpenCall, TaskState, Moment, Polling, First, is_quiet, is_fetching, quiet_word, begun_act}
use Rattle.word_machine.specs.Cpu.{Cpu, Phase, Going, Over, has_more, any_has_more, next_task, switched, ack_value, quiet_next, quiet_in, polled, poll_on, moved}
use Rattle.word_machine.specs.Sites.{reached}
use Rattle.word_machine.specs.Verdicts.{Here}
use Rattle.word_machine.specs.Calls.{Calls}
use Rattle.word_machine.specs.Tasks.{plain_stack, TaskRule, HasTold, IsToDo, StandsIn}
use Rattle.word_machine.specs.Rule.{IsWordJob, CpuRule, IsOn, PollAt, Polls, WordsBelow}
use Rattle.word_machine.proofs.Small.{put_same, put_other, put_case, each-append, any-append, any-split}
use Rattle.word_machine_laws.proofs.Start.{on-tasks}
use Rattle.word_machine_laws.proofs.MarkDispatch.{task}
use Rattle.word_machine_laws.proofs.MarkReturn.{polling_callbacks}
use Rattle.word_machine_laws.proofs.TasksOf.{first-there}
use Rattle.word_machine_laws.proofs.PollWords.{told-more, told-fewer}

-- ## switches

module _ (job : Job) (ok : IsWordJob job) (h : Here) (past : List Item) (ack : ℕ) (quiet : ℕ → ℕ) (c : ℕ) where
  -- a CPU that is within no fetch and no poll
  pub record Settled (me : Cpu) : Type 0 where
    pub number : me.number ≡ c
    pub stored : me.ack ≡ ack
    pub acked : ack ≤ h.request
    pub below : WordsBelow job c me ack
    pub reach : reached h.base h.p c ≤ ack
    pub phase : me.phase ≡ Going
    pub on : IsOn job c me.present
    pub still : (t : ℕ) → IsOn job c t → is_fetching (me.tasks t).moment ≡ false
    pub tasks : (t : ℕ) → IsOn job c t → TaskRule job h past ack (quiet t) t (me.tasks t)

  next-on : (me : Cpu) → me.number ≡ c → any_has_more job me ≡ true → IsOn job c (next_task job me) × (has_more me.tasks (next_task job me) ≡ true)
  next-on me num on =
      let all : Each (IsOn job c) (tasks_of job me.number) = subst (λ (n : ℕ). Each (IsOn job c) (tasks_of job n)) (sym num) (on-tasks job ok c) in
      first-there (λ t. has_more me.tasks t) (IsOn job c) me.present _
      (each-append (IsOn job c) (filter (λ v. nat_lt me.present v) (tasks_of job me.number)) (filter (λ v. nat_le v me.present) (tasks_of job me.number))
      (Each-filter (IsOn job c) (λ v. nat_lt me.present v) (tasks_of job me.number) all)
      (Each-filter (IsOn job c) (λ v. nat_le v me.present) (tasks_of job me.number) all))
      (any-append (λ t. has_more me.tasks t) (filter (λ v. nat_lt me.present v) (tasks_of job me.number))
      (filter (λ v. nat_le v me.present) (tasks_of job me.number))
      ∙ any-split (λ t. has_more me.tasks t) me.present (tasks_of job me.number) on)

  pub switched-kept : (me : Cpu) (unmet : Bool) → Settled me → CpuRule job h past ack quiet c (switched job unmet me)
  switched-kept me unmet k = by (not (has_more me.tasks me.present) || unmet || nat_le (get_or job.quanta me.number 1) me.count) refl
    where
      going : (me.ack ≤ h.request) × WordsBelow job c me me.ack
      going = ((let a = k.acked in let s = k.stored in omega (arith, a, s)), subst (λ r. WordsBelow job c me r) (sym k.stored) k.below)

      by : (b : Bool) → (not (has_more me.tasks me.present) || unmet || nat_le (get_or job.quanta me.number 1) me.count) ≡ b
          → CpuRule job h past ack quiet c (cond b (record me { present = next_task job me; count = 0 }) me)
      by true e = record {
        number = k.number;
        stored = k.stored;
        acked = inl k.acked;
        reach = k.reach;
        polls = subst (λ (p : Phase). PollAt job h.request c (record me { present = next_task job me; count = 0 }) p) (sym k.phase) going;
        present = λ on. next-on me k.number on;
        alone = λ t on f. false_true (sym (k.still t on) ∙ f);
        tasks = k.tasks;
      }
      by false e = record {
        number = k.number;
        stored = k.stored;
        acked = inl k.acked;
        reach = k.reach;
        polls = subst (λ (p : Phase). PollAt job h.request c me p) (sym k.phase) going;
        present = λ on. (
          k.on,
          left-of (has_more me.tasks me.present)
              (or-false_both (not (has_more me.tasks me.present)) unmet (or-false_both (not (has_more me.tasks me.present) || unmet) _ e).0).0,
        );
        alone = λ t on f. false_true (sym (k.still t on) ∙ f);
        tasks = k.tasks;
      }
        where
          left-of : (b : Bool) → not b ≡ false → b ≡ true
          left-of true y = refl
          left-of false y = false_true (sym y)

  -- ## the present task has gone on

  pub moved-kept : (me : Cpu) (unmet : Bool) (x : TaskState) → me.number ≡ c → me.ack ≡ ack → me.phase ≡ Going → ack ≤ h.request → WordsBelow job c me ack
      → reached h.base h.p c ≤ ack → IsOn job c me.present → low (quiet me.present) ≤ ack
      → ((t : ℕ) → IsOn job c t → t ≢ me.present → is_fetching (me.tasks t).moment ≡ false)
      → ((t : ℕ) → IsOn job c t → t ≢ me.present → TaskRule job h past ack (quiet t) t (me.tasks t))
      → TaskRule job h past ack (quiet me.present) me.present x
      → CpuRule job h past ack quiet c (moved job me unmet x)
  moved-kept me unmet x num stored phase acked below reach on own-below still others own = by (is_fetching x.moment) refl
    where
      below' : WordsBelow job c (record me { tasks = at_put me.tasks me.present x }) ack
      below' t on-t = put_case me.tasks me.present x (λ i y. IsOn job c i → HasTold ack (has_acts y.acts) greatest_half (low y.word)) t
          (λ e o. inl (subst (λ (n : ℕ). low n ≤ ack) (sym own.word') own-below)) (λ ne o. below t o) on-t

      me' : Cpu
      me' = record me { tasks = at_put me.tasks me.present x }

      all : (t : ℕ) → IsOn job c t → TaskRule job h past ack (quiet t) t (at_put me.tasks me.present x t)
      all t on-t = put_case me.tasks me.present x (λ i y. IsOn job c i → TaskRule job h past ack (quiet i) i y) t (λ e o. own) (λ ne o. others t o ne) on-t

      by : (b : Bool) → is_fetching x.moment ≡ b
          → CpuRule job h past ack quiet c
          (cond b (record me { tasks = at_put me.tasks me.present x }) (switched job unmet (record me { tasks = at_put me.tasks me.present x })))
      by true e = record {
        number = num;
        stored = stored;
        acked = inl acked;
        reach = reach;
        polls = subst (λ (p : Phase). PollAt job h.request c (record me { tasks = at_put me.tasks me.present x }) p) (sym phase) (
          (let s = stored in omega (arith, acked, s)),
          subst (λ r. WordsBelow job c (record me { tasks = at_put me.tasks me.present x }) r) (sym stored) below',
        );
        present = λ y. (on, subst (λ (z : TaskState). has_acts z.acts ≡ true) (sym (put_same me.tasks me.present x)) (busy x.moment e own.stands));
        alone = λ t on-t f. (here t on-t f, phase);
        tasks = all;
      }
        where
          busy : (m : Moment) → is_fetching m ≡ true → StandsIn (is_quiet m) x.acts x.stack → has_acts x.acts ≡ true
          busy m f s = (subst (λ b. StandsIn b x.acts x.stack) (loud m f) s).0
            where
              loud : (m : Moment) → is_fetching m ≡ true → is_quiet m ≡ false
              loud Polling f = false_true f
              loud First f = false_true f
              loud _ f = refl

          here : (t : ℕ) → IsOn job c t → is_fetching (at_put me.tasks me.present x t).moment ≡ true → t ≡ me.present
          here t on-t f = elim (cases_eq t me.present) [
            | inl y ↦ y
            | inr ne ↦ false_true (sym (still t on-t ne) ∙ sym (ap (λ (z : TaskState). is_fetching z.moment) (put_other me.tasks me.present x t ne)) ∙ f)
          ]
      by false e = switched-kept (record me { tasks = at_put me.tasks me.present x }) unmet (record {
        number = num;
        stored = stored;
        acked = acked;
        below = below';
        reach = reach;
        phase = phase;
        on = on;
        still = λ t on-t. put_case me.tasks me.present x (λ i y. IsOn job c i → is_fetching y.moment ≡ false) t (λ z o. e) (λ ne o. still t o ne) on-t;
        tasks = all;
      })

  -- ## a poll

  -- a CPU whose own word has the loaded request, and whose tasks are to be looked at
  pub record Polled (me : Cpu) (r : ℕ) : Type 0 where
    pub number : me.number ≡ c
    pub stored : me.ack ≡ ack
    pub acked : me.ack ≡ ack_value job me r
    pub reach : reached h.base h.p c ≤ ack
    pub loaded : r ≤ h.request
    pub below : WordsBelow job c me r
    pub polls : Polls job me
    pub present : any_has_more job me ≡ true → IsOn job c me.present × (has_more me.tasks me.present ≡ true)
    pub still : (t : ℕ) → IsOn job c t → is_fetching (me.tasks t).moment ≡ false
    pub tasks : (t : ℕ) → IsOn job c t → TaskRule job h past ack (quiet t) t (me.tasks t)

  first_stack' : (fresh : Bool) (stack : List OpenCall) → plain_stack job fresh Polling stack ≡ plain_stack job false First stack
  first_stack' fresh [] = refl
  first_stack' fresh (d ∷ below) = refl

  first_calls : (q t : ℕ) (stack : List OpenCall) → Calls job h past ack q t Polling stack → Calls job h past ack q t First stack
  first_calls q t [] k = tt
  first_calls q t (d ∷ below) k = k

  polled_stack : (fresh : Bool) (stack : List OpenCall) → plain_stack job fresh Polling stack ≡ plain_stack job false Polling stack
  polled_stack fresh [] = refl
  polled_stack fresh (d ∷ below) = refl

  first-kept : (t n gone : ℕ) (acts : List TaskAct) (cs : List Ctx) (w : ℕ) (stack : List OpenCall) → IsToDo acts
      → TaskRule job h past ack (quiet t) t (task n gone acts cs stack w Polling) → TaskRule job h past ack (quiet t) t (task n gone acts cs stack w First)
  first-kept t n gone acts cs w stack to-do k = record {
    word' = k.word';
    gone = k.gone;
    total = k.total;
    quiet = k.quiet;
    first = to-do;
    reached = k.reached;
    stands = tt;
    grounded = k.grounded;
    run = record {
      fresh = false;
      at = k.run.at;
      is = k.run.is;
      next = k.run.next;
      stack = k.run.stack ∙ first_stack' k.run.fresh stack;
      ahead = k.run.ahead;
      counted = λ e. false_true (sym e);
    };
    opens = k.opens ∙ sym (polling_callbacks stack);
    miss = k.miss;
    few = k.few;
    script = k.script;
    calls = first_calls (low (quiet t)) t stack k.calls;
  }

  -- an act without operations is done
  silent-kept : (t n gone : ℕ) (a : TaskAct) (rest : List TaskAct) (cs cs' : List Ctx) (w : ℕ) (stack : List OpenCall)
      → ((d : ℕ) → ahead d (a ∷ rest) cs gone ≡ ahead d rest cs' (suc gone)) → ((i : ℕ) → IsScript job i (a ∷ rest) → IsScript job i rest)
      → TaskRule job h past ack (quiet t) t (task n gone (a ∷ rest) cs stack w Polling)
      → TaskRule job h past ack (quiet t) t (task n (suc gone) rest cs' stack w Polling)
  silent-kept t n gone a rest cs cs' w stack same script k = record {
    word' = k.word';
    gone = (let g = k.gone in omega (arith, g));
    total = (let e = k.total in omega (arith, e));
    quiet = told-fewer h.request true (has_acts rest) greatest_half (low (quiet t)) refl k.quiet;
    first = tt;
    reached = k.reached;
    stands = tt;
    grounded = k.grounded;
    run = record {
      fresh = false;
      at = k.run.at;
      is = k.run.is;
      next = k.run.next;
      stack = k.run.stack ∙ polled_stack k.run.fresh stack;
      ahead = k.run.ahead ∙ same (done past);
      counted = λ e. false_true (sym e);
    };
    opens = k.opens;
    miss = k.miss;
    few = k.few;
    script = script _ k.script;
    calls = k.calls;
  }

  abbrev Begun : ℕ → TaskState → Type 0
  Begun t x = TaskRule job h past ack (quiet t) t x × (is_fetching x.moment ≡ false)

  -- an act begins, or is done if it has no operation
  begun-kept : (t n gone : ℕ) (acts : List TaskAct) (cs : List Ctx) (w : ℕ) (stack : List OpenCall) → has_acts acts ≡ true
      → TaskRule job h past ack (quiet t) t (task n gone acts cs stack w Polling) → Begun t (begun_act (task n gone acts cs stack w Polling) acts)
  begun-kept t n gone [] cs w stack has k = false_true has
  begun-kept t n gone (Raise x ∷ rest) cs w stack has k = (silent-kept t n gone (Raise x) rest cs (x ∷ cs) w stack (λ d. refl) (λ i y. y) k, refl)
  begun-kept t n gone (Lower ∷ rest) cs w stack has k = (silent-kept t n gone Lower rest cs (below_top cs) w stack (λ d. refl) (λ i y. y) k, refl)
  begun-kept t n gone (Call f ∷ rest) cs w stack has k = (first-kept t n gone (Call f ∷ rest) cs w stack tt k, refl)
  begun-kept t n gone (RetAct ∷ rest) cs w stack has k = (first-kept t n gone (RetAct ∷ rest) cs w stack tt k, refl)
  begun-kept t n gone (After m ∷ rest) cs w stack has k = (first-kept t n gone (After m ∷ rest) cs w stack tt k, refl)

  begun-of : (t : ℕ) (x : TaskState) → x.moment ≡ Polling → has_acts x.acts ≡ true → TaskRule job h past ack (quiet t) t x → Begun t (begun_act x x.acts)
  begun-of t x e has k =
      subst (λ m. TaskRule job h past ack (quiet t) t (task x.next x.gone x.acts x.contexts x.stack x.word m)
      → Begun t (begun_act (task x.next x.gone x.acts x.contexts x.stack x.word m) x.acts)) (sym e)
      (λ y. begun-kept t x.next x.gone x.acts x.contexts x.word x.stack has y) k

  -- an act that begins leaves the quiet word
  begun-word : (x : TaskState) (acts : List TaskAct) → x.word ≡ (begun_act x acts).word
  begun-word x [] = refl
  begun-word x (Raise y ∷ rest) = refl
  begun-word x (Lower ∷ rest) = refl
  begun-word x (Call f ∷ rest) = refl
  begun-word x (RetAct ∷ rest) = refl
  begun-word x (After m ∷ rest) = refl

  pub polled-kept : (me : Cpu) (r : ℕ) → Polled me r → CpuRule job h past ack quiet c (polled job me)
  polled-kept me r k = by (any_has_more job me) refl
    where
      by : (b : Bool) → any_has_more job me ≡ b
          → CpuRule job h past ack quiet c
          (cond b (switched job false (record me {
            tasks = at_put me.tasks me.present (begun_act (me.tasks me.present) (me.tasks me.present).acts);
            phase = Going;
          })) (record me { phase = Over }))
      by true e =
          let on = (k.present e).0 in
          let has = (k.present e).1 in
          let x = begun-of me.present (me.tasks me.present) (k.polls e) has (k.tasks me.present on) in
          let is : ack ≡ r = sym k.stored ∙ k.acked ∙ rw e refl in
          switched-kept (record me { tasks = at_put me.tasks me.present (begun_act (me.tasks me.present) (me.tasks me.present).acts); phase = Going }) false
          (record {
            number = k.number;
            stored = k.stored;
            acked = (let l = k.loaded in omega (arith, is, l));
            below = λ t on-t. put_case me.tasks me.present (begun_act (me.tasks me.present) (me.tasks me.present).acts) (λ i y. IsOn job c i
                → HasTold ack (has_acts y.acts) greatest_half (low y.word)) t
                (λ z o. inl (rw is (subst (λ (w : ℕ). low w ≤ r) (begun-word (me.tasks me.present) (me.tasks me.present).acts)
                (told-more r _ greatest_half _ has (k.below me.present on)))))
                (λ ne o. rw is (k.below t o)) on-t;
            reach = k.reach;
            phase = refl;
            on = on;
            still = λ t on-t. put_case me.tasks me.present (begun_act (me.tasks me.present) (me.tasks me.present).acts) (λ i y. IsOn job c i
                → is_fetching y.moment ≡ false) t (λ z o. x.1) (λ ne o. k.still t o) on-t;
            tasks = λ t on-t. put_case me.tasks me.present (begun_act (me.tasks me.present) (me.tasks me.present).acts) (λ i y. IsOn job c i
                → TaskRule job h past ack (quiet i) i y) t (λ z o. x.0) (λ ne o. k.tasks t o) on-t;
          })
      by false e = record {
        number = k.number;
        stored = k.stored;
        acked = inr (e, sym k.stored ∙ k.acked ∙ rw e refl);
        reach = k.reach;
        polls = (e, k.acked ∙ rw e refl);
        present = λ y. false_true (sym e ∙ y);
        alone = λ t on f. false_true (sym (k.still t on) ∙ f);
        tasks = k.tasks;
      }

  quiet_next-on : (tasks : ℕ → TaskState) (r : ℕ) (ts : List ℕ) → Each (IsOn job c) ts → IfSome (quiet_next tasks r ts) (IsOn job c)
  quiet_next-on tasks r [] all = tt
  quiet_next-on tasks r (t ∷ ts) all =
      elim ((tasks t).word == quiet_word r (tasks t)) as (λ b. IfSome (cond b (quiet_next tasks r ts) (Some t)) (IsOn job c)) [
        | true ↦ quiet_next-on tasks r ts all.1
        | false ↦ all.0
      ]

  pub poll_on-kept : (me : Cpu) (r : ℕ) → Polled me r → CpuRule job h past ack quiet c (poll_on job me r)
  poll_on-kept me r k =
      by (quiet_next me.tasks r (tasks_of job me.number))
      (quiet_next-on me.tasks r (tasks_of job me.number) (subst (λ (n : ℕ). Each (IsOn job c) (tasks_of job n)) (sym k.number) (on-tasks job ok c)))
    where
      value : (b : Bool) → HasTold h.request b all_ones (cond b r all_ones)
      value true = inl k.loaded
      value false = inr (refl, refl)

      by : (o : Option ℕ) → IfSome o (IsOn job c) → CpuRule job h past ack quiet c (quiet_in job me r o)
      by None on = polled-kept me r k
      by (Some t) on = record {
        number = k.number;
        stored = k.stored;
        acked = subst (λ v. HasTold h.request (any_has_more job me) all_ones v) (sym k.acked ∙ k.stored) (value (any_has_more job me));
        reach = k.reach;
        polls = (k.loaded, k.acked, k.below, k.polls, on);
        present = k.present;
        alone = λ v on-v f. false_true (sym (k.still v on-v) ∙ f);
        tasks = k.tasks;
      }
