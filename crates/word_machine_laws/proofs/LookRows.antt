-- Both steps of a look keep the rule: the load of the last request, and the store of the CPU's own word. A look lies within no fetch, and
-- tells nothing of the tasks.
use Rattle.std.proofs.Common.{cond, ◌≡◌, ℕ, ◌≤◌, Bool, true, false, ◌&&◌, ◌==◌, List, refl, sym, ◌∙◌, subst, arith, inl}
use Rattle.ft_base.specs.declared.item.Item.{Item}
use Rattle.ft_base.specs.Job.{Job}
use Rattle.ft_base.proofs.Small.{false_true, and_both}
use Rattle.word_map.specs.Contents.{greatest_half}
use Rattle.word_machine.specs.Task.{TaskState, Moment, GotHead, GotBreak, is_fetching, is_open_to_requests}
use Rattle.word_machine.specs.Cpu.{Cpu, Phase, Going, Looked, Answering, has_more, any_has_more, takes_looks, is_looked_before, looks, looked}
use Rattle.word_machine.specs.Verdicts.{Here}
use Rattle.word_machine.specs.Rule.{CpuRule, IsOn, PollAt, WordsBelow}
use Rattle.word_machine_laws.proofs.PollTasks.{task_ack}
use Rattle.word_machine_laws.proofs.PollWords.{told-later}

-- a task at a step before which requests can be answered fetches nothing
open-still : (x : TaskState) (m : Moment) → is_open_to_requests x m ≡ true → is_fetching m ≡ false
open-still x (GotHead byte) e = false_true e
open-still x GotBreak e = false_true e
open-still x m e = refl

-- a CPU that looks has a task with an act left, and its present task fetches nothing
looks-so : (job : Job) (me : Cpu) → looks job me ≡ true → (any_has_more job me ≡ true) × (is_looked_before (me.tasks me.present) ≡ true)
looks-so job me e = (
  (and_both (takes_looks job) (any_has_more job me) (and_both (takes_looks job && any_has_more job me) (is_looked_before (me.tasks me.present)) e).0).1,
  (and_both (takes_looks job && any_has_more job me) (is_looked_before (me.tasks me.present)) e).1,
)

module _ (job : Job) (h : Here) (past : List Item) (ack : ℕ) (quiet : ℕ → ℕ) (c : ℕ) (me : Cpu) (kept : CpuRule job h past ack quiet c me) where
  -- the load
  pub looked-kept : me.phase ≡ Going → looks job me ≡ true → CpuRule job h past ack quiet c (looked me h.request)
  looked-kept going e = by (me.ack == h.request)
    where
      poll : (me.ack ≤ h.request) × WordsBelow job c me me.ack
      poll = subst (λ (p : Phase). PollAt job h.request c me p) going kept.polls

      still : (t : ℕ) → IsOn job c t → is_fetching (me.tasks t).moment ≡ false
      still t on = at' (is_fetching (me.tasks t).moment) refl
        where
          at' : (b : Bool) → is_fetching (me.tasks t).moment ≡ b → is_fetching (me.tasks t).moment ≡ false
          at' false y = y
          at' true y =
              let x = me.tasks me.present in
              false_true (sym (open-still x x.moment (looks-so job me e).1) ∙ subst (λ (i : ℕ). is_fetching (me.tasks i).moment ≡ true) (kept.alone t on y).0 y)

      to : (p : Phase) → PollAt job h.request c (record me { phase = p }) p → CpuRule job h past ack quiet c (record me { phase = p })
      to p at' = record {
        number = kept.number;
        stored = kept.stored;
        acked = kept.acked;
        reach = kept.reach;
        polls = at';
        present = kept.present;
        alone = λ t on f. false_true (sym (still t on) ∙ f);
        tasks = kept.tasks;
      }

      by : (b : Bool) → CpuRule job h past ack quiet c (record me { phase = cond b Looked (Answering h.request) })
      by true = to Looked poll
      by false = to (Answering h.request) (omega arith, poll.0, poll.1, (looks-so job me e).0)

  -- the store
  pub answered-kept : (r : ℕ) → me.phase ≡ Answering r → CpuRule job h past r quiet c (record me { ack = r; phase = Going })
  answered-kept r answers = record {
    number = kept.number;
    stored = refl;
    acked = inl poll.0;
    reach = (let a = kept.reach in let s = kept.stored in let x = poll.1 in omega (arith, a, s, x));
    polls = (poll.0, λ t on. told-later me.ack r (has_more me.tasks t) greatest_half _ poll.1 (poll.2 t on));
    present = kept.present;
    alone = λ t on f. absurd (busy t on f);
    tasks = λ t on. task_ack job h past ack r (quiet t) t (me.tasks t) (still t on) (kept.tasks t on);
  }
    where
      poll : (r ≤ h.request) × (me.ack ≤ r) × WordsBelow job c me me.ack × (any_has_more job me ≡ true)
      poll = subst (λ (p : Phase). PollAt job h.request c me p) answers kept.polls

      busy : (t : ℕ) → IsOn job c t → is_fetching (me.tasks t).moment ≡ true → ⊥
      busy t on f = (let e : Answering r ≡ Going = sym answers ∙ (kept.alone t on f).1 in absurd cc)

      still : (t : ℕ) → IsOn job c t → is_fetching (me.tasks t).moment ≡ false
      still t on = by (is_fetching (me.tasks t).moment) refl
        where
          by : (b : Bool) → is_fetching (me.tasks t).moment ≡ b → is_fetching (me.tasks t).moment ≡ false
          by false y = y
          by true y = absurd (busy t on y)

  -- the look is over
  pub over-kept : me.phase ≡ Looked → CpuRule job h past ack quiet c (record me { phase = Going })
  over-kept e = record {
    number = kept.number;
    stored = kept.stored;
    acked = kept.acked;
    reach = kept.reach;
    polls = subst (λ (p : Phase). PollAt job h.request c me p) e kept.polls;
    present = kept.present;
    alone = λ t on f. ((kept.alone t on f).0, refl);
    tasks = kept.tasks;
  }
