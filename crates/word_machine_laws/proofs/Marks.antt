-- Marks of a task: how the rule goes on over an item of its top call.
use Rattle.std.proofs.Common.{◌≡◌, ℕ, ◌≤◌, Bool, false, ◌==◌, List, ◌∷◌, Some, IsSome, refl, sym, ◌∙◌, subst}
use Rattle.ft_base.specs.declared.context.Ctx.{Ctx}
use Rattle.ft_base.specs.declared.item.Item.{Item}
use Rattle.ft_base.specs.declared.task.TaskAct.{TaskAct}
use Rattle.ft_base.specs.Job.{Job}
use Rattle.ft_hist.specs.Past.{is_of, done, callbacks, miss_due}
use Rattle.ft_hist.specs.Plain.{plain, after_item, PlainTask}
use Rattle.ft_hist.specs.Rules.{MayFollow}
use Rattle.ft_hist.proofs.Laws.{run_more}
use Rattle.word_map.specs.Contents.{low}
use Rattle.word_machine.specs.Task.{OpenCall, Moment, is_quiet, level_of}
use Rattle.word_machine.specs.Verdicts.{Here}
use Rattle.word_machine.specs.Calls.{Calls}
use Rattle.word_machine.specs.Tasks.{Grounded, TaskRule, StandsIn, plain_stack, callbacks_at, miss_at, open_by, is_returning}
use Rattle.ft_hist.proofs.Carries.{of_task}
use Rattle.word_machine_laws.proofs.PollWords.{first-loud}
use Rattle.ft_hist.proofs.ItemParts.{KeepsOthers, may_follow}

-- one more item of a task: it may come, and the task goes on
pub follows : (job : Job) (past : List Item) (item : Item) (t : ℕ) (at at' : PlainTask) → ((v : ℕ) → is_of v item ≡ (t == v))
    → ((v : ℕ) → IsSome (plain job v past))
    → plain job t past ≡ Some at → after_item job (done past) at item ≡ Some at' → KeepsOthers job past item
    → MayFollow job past item × (plain job t (item ∷ past) ≡ Some at')
follows job past item t at at' own runs here next may =
    let w = run_more job past item t at at' own runs here next in (may_follow job past item w.0 may, w.1)

module _ (job : Job) (h : Here) (ack word t : ℕ) where
  -- a step within an act, with or without an item: the acts to come stay
  pub mid_kept : (past past' : List Item) (n n' gone : ℕ) (acts : List TaskAct) (cs : List Ctx) (w : ℕ) (stack : List OpenCall) (m m' : Moment) (c : OpenCall)
      (below : List OpenCall)
      → is_quiet m ≡ false → is_quiet m' ≡ false
      → (k : TaskRule job h past ack word t (record { next = n; acts = acts; gone = gone; contexts = cs; stack = stack; word = w; moment = m }))
      → (fresh : Bool) (at : PlainTask) → plain job t past' ≡ Some at → at.next ≡ n' → at.stack ≡ plain_stack job fresh m' (c ∷ below)
      → at.acts ≡ k.run.at.acts → at.contexts ≡ k.run.at.contexts → at.gone ≡ k.run.at.gone → done past' ≡ done past
      → of_task t (callbacks past') ≡ callbacks_at m' (c ∷ below) → miss_due job t past' ≡ miss_at m' (c ∷ below)
      → level_of (c ∷ below) ≤ job.frames → open_by (is_returning m') (c ∷ below) ≡ open_by (is_returning m) stack
      → Grounded (c ∷ below) → Calls job h past' ack (low word) t m' (c ∷ below)
      → TaskRule job h past' ack word t (record { next = n'; acts = acts; gone = gone; contexts = cs; stack = c ∷ below; word = w; moment = m' })
  mid_kept past past' n n' gone acts cs w stack m m' c below q q' k fresh at is next st acts-is cs-is gone-is d opens miss few open' ground calls =
      let stands : StandsIn false acts stack = subst (λ b. StandsIn b acts stack) q k.stands in
      record {
        word' = k.word';
        gone = k.gone;
        total = k.total;
        quiet = k.quiet;
        first = first-loud m' acts q';
        reached = k.reached;
        stands = subst (λ b. StandsIn b acts (c ∷ below)) (sym q') (stands.0, refl);
        grounded = ground;
        run = record {
          fresh = fresh;
          at = at;
          is = is;
          next = next;
          stack = st;
          ahead = rw (d, acts-is, cs-is, gone-is, q') (rw q at k.run.ahead);
          counted = λ e. gone-is ∙ k.run.counted q;
        };
        opens = opens;
        miss = miss;
        few = few;
        script = rw (open', q') (rw q at k.script);
        calls = calls;
      }
