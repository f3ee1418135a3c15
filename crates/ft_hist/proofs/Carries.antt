-- What an item leaves of the calls of a task that it is not of.
use Rattle.std.proofs.Common.{cond, ◌≡◌, ℕ, ◌≤◌, true, false, ◌==◌, ◌&&◌, List, [], ◌∷◌, length, refl, ap, arith, eqb-true}
use Rattle.std.specs.List.{filter}
use Rattle.ft_base.specs.declared.number.CallNo.{CallNo}
use Rattle.ft_base.specs.declared.context.Ctx.{Ctx}
use Rattle.ft_base.specs.declared.item.Item.{Item}
use Rattle.ft_base.specs.declared.item.Item.TheVariants.{Return, Enter, Back, BackEnd, Refuse, Body, Leave, Exit, ExitEnd, Ret}
use Rattle.ft_base.specs.declared.task.TaskAct.{TaskAct}
use Rattle.ft_base.specs.Same.{same_call}
use Rattle.ft_base.specs.Job.{Job}
use Rattle.ft_base.proofs.Small.{and_both}
use Rattle.ft_hist.specs.Past.{is_of, done, begun, Callback, callbacks, ended, miss_due}
use Rattle.ft_hist.specs.Plain.{plain, ahead}
use Rattle.ft_hist.proofs.Laws.{ahead-more, plain-other}
use Rattle.ft_hist.proofs.WindowLaws.{begun-more}
use Rattle.ft_hist.proofs.Since.{Untouched, touches, untouched-item, misses-other}

-- the items between two pasts leave the calls of task t alone
pub record Carries (job : Job) (t : ℕ) (past past' : List Item) : Type 0 where
  pub calls : (c : CallNo) → c.task.0 ≡ t → Untouched job c past past'
  pub run : plain job t past' ≡ plain job t past
  pub opens : filter (λ b. b.call.task.0 == t) (callbacks past') ≡ filter (λ b. b.call.task.0 == t) (callbacks past)
  pub miss : miss_due job t past' ≡ miss_due job t past
  pub ahead : (xs ys : List TaskAct) (cs es : List Ctx) (m n : ℕ) → ahead (done past) xs cs m ≡ ahead (done past) ys es n
      → ahead (done past') xs cs m ≡ ahead (done past') ys es n
  pub begun : begun past ≤ begun past'
  pub longer : length past ≤ length past'

-- ## an item of another task, or of control

same-other : (call c : CallNo) (v : ℕ) → (call.task.0 == v) ≡ false → c.task.0 ≡ v → same_call call c ≡ false
same-other call c v other own = rw (own, other) refl

pub touches-other : (v : ℕ) (item : Item) (c : CallNo) → is_of v item ≡ false → c.task.0 ≡ v → touches c item ≡ false
touches-other v (Enter call x f caller) c other own = same-other call c v other own
touches-other v (Back call u) c other own = same-other call c v other own
touches-other v (Refuse call u reason) c other own = same-other call c v other own
touches-other v (Body call g ran) c other own = same-other call c v other own
touches-other v (Leave call) c other own = same-other call c v other own
touches-other v (Exit call u entry) c other own = same-other call c v other own
touches-other v (Ret call to) c other own = same-other call c v other own
touches-other v _ c other own = refl

abbrev pub of_task : ℕ → List Callback → List Callback
of_task v bs = filter (λ b. b.call.task.0 == v) bs

ended-other : (v : ℕ) (call : CallNo) (u : ℕ) (bs : List Callback) → (call.task.0 == v) ≡ false → of_task v (ended call u bs) ≡ of_task v bs
ended-other v call u [] other = refl
ended-other v call u (b ∷ bs) other =
    elim (same_call b.call call && (b.user == u)) as (λ y. (same_call b.call call && (b.user == u)) ≡ y
    → of_task v (cond y bs (b ∷ ended call u bs)) ≡ of_task v (b ∷ bs)) [
      | true ↦ λ e.
          let task : b.call.task.0 ≡ call.task.0 =
          eqb-true b.call.task.0 call.task.0
          (and_both (b.call.task.0 == call.task.0) (b.call.n == call.n) (and_both (same_call b.call call) (b.user == u) e).0).0 in
          let no : (b.call.task.0 == v) ≡ false = rw task other in
          rw no refl
      | false ↦ λ e. ap (λ (xs : List Callback). cond (b.call.task.0 == v) (b ∷ xs) xs) (ended-other v call u bs other)
    ] refl

callbacks-other : (v : ℕ) (item : Item) (past : List Item) → is_of v item ≡ false → of_task v (callbacks (item ∷ past)) ≡ of_task v (callbacks past)
callbacks-other v (Back c u) past other = rw other refl
callbacks-other v (BackEnd c u) past other = ended-other v c u.0 (callbacks past) other
callbacks-other v (Exit c u p) past other = rw other refl
callbacks-other v (ExitEnd c u) past other = ended-other v c u.0 (callbacks past) other
callbacks-other v _ past other = refl

ahead-item : (item : Item) (past : List Item) (xs ys : List TaskAct) (cs es : List Ctx) (m n : ℕ) → ahead (done past) xs cs m ≡ ahead (done past) ys es n
    → ahead (done (item ∷ past)) xs cs m ≡ ahead (done (item ∷ past)) ys es n
ahead-item (Return k a) past xs ys cs es m n e = ahead-more (done past) xs ys cs es m n e
ahead-item _ past xs ys cs es m n e = e

pub carries_item : (job : Job) (v : ℕ) (item : Item) (past : List Item) → is_of v item ≡ false → Carries job v past (item ∷ past)
carries_item job v item past other = record {
  calls = λ c own. untouched-item job c past item (touches-other v item c other own);
  run = plain-other job past item v other;
  opens = callbacks-other v item past other;
  miss = misses-other job v item past other;
  ahead = ahead-item item past;
  begun = begun-more item past;
  longer = omega arith;
}
