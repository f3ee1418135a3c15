-- A command begins only when the waits before it are met: so no more commands have begun than stand above control's first wait for
-- more acts than a task has done.
use Rattle.std.proofs.Common.{cond, ◌≡◌, ℕ, zero, suc, ◌+◌, ◌<◌, ◌≤◌, Bool, true, false, ◌&&◌, ◌==◌, List, [], ◌∷◌, length, Option, refl, ap, ◌∙◌, subst, arith, eqb-true, nat_le, leb-true}
use Rattle.std.specs.Prelude.{IfSome}
use Rattle.std.specs.List.{AllByRecursion as Each}
use Rattle.ft_base.specs.declared.item.Item.{Item}
use Rattle.ft_base.specs.declared.item.Item.TheVariants.{Begin}
use Rattle.ft_base.specs.Job.{Job, Ctl, Run, Until, commands_in, waits_before}
use Rattle.ft_base.proofs.Small.{and_both, Each-weaker}
use Rattle.ft_hist.specs.Past.{begun}
use Rattle.ft_hist.specs.Plain.{PlainTask, plain}
use Rattle.ft_hist.specs.Rules.{IsLegalPast, HasWaited, acts_passed}
use Rattle.ft_hist.specs.Finished.{acts_done}
use Rattle.ft_hist.proofs.Finishing.{passed-is, acts_done-more}
use Rattle.ft_hist.proofs.Numbers.{some-run}
use Rattle.module_coverage.specs.Covered.{commands_until}

-- ## control's lines

until-least : (t n k : ℕ) (ctls : List Ctl) → k ≤ commands_until t n k ctls
until-least t n k [] = omega arith
until-least t n k (Run c ∷ ctls) = let le = until-least t n (suc k) ctls in omega (arith, le)
until-least t n k (Until u m ∷ ctls) = by ((u == t) && nat_le n m) (until-least t n k ctls)
  where
    by : (b : Bool) → k ≤ commands_until t n k ctls → k ≤ cond b k (commands_until t n k ctls)
    by true le = omega arith
    by false le = le

-- where the waits before a command are for fewer acts of the task, the command stands above the first wait for so many
until-after : (t n k b : ℕ) (ctls : List Ctl) → Each (λ w. w.0 ≡ t → w.1 < n) (waits_before b ctls) → b < length (commands_in ctls) → k + suc b ≤ commands_until t n k ctls
until-after t n k b [] waits lt = absurd (omega (arith, lt))
until-after t n k b (Until u m ∷ ctls) waits lt = by ((u == t) && nat_le n m) refl (until-after t n k b ctls waits.1 lt)
  where
    by : (x : Bool) → ((u == t) && nat_le n m) ≡ x → k + suc b ≤ commands_until t n k ctls → k + suc b ≤ cond x k (commands_until t n k ctls)
    by false e more = more
    by true e more =
        let both = and_both (u == t) (nat_le n m) e in
        let few = waits.0 (eqb-true u t both.0) in
        let many : n ≤ m = leb-true n m both.1 in
        absurd (omega (arith, few, many))
until-after t n k zero (Run c ∷ ctls) waits lt = let le = until-least t n (suc k) ctls in omega (arith, le)
until-after t n k (suc b) (Run c ∷ ctls) waits lt = let le = until-after t n (suc k) b ctls waits (omega (arith, lt)) in omega (arith, le)

-- ## the acts that a task has done

module _ (job : Job) (t : ℕ) where
  -- the waits that are met before a command are for no more acts than the task has done
  waits-few : (n : ℕ) (past : List Item) → IsLegalPast job past → acts_done job t past < n → HasWaited job past → Each (λ w. w.0 ≡ t → w.1 < n) (waits_before (begun past) job.ctls)
  waits-few n past l lt h = Each-weaker (λ (w : ℕ × ℕ). IfSome (plain job w.0 past) (λ s. w.1 ≤ acts_passed s)) (λ (w : ℕ × ℕ). w.0 ≡ t → w.1 < n) (waits_before (begun past) job.ctls) one h
    where
      one : (w : ℕ × ℕ) → IfSome (plain job w.0 past) (λ s. w.1 ≤ acts_passed s) → w.0 ≡ t → w.1 < n
      one w x own =
          let r = some-run job w.0 past l in
          let le : w.1 ≤ acts_passed r.0 = subst (λ (o : Option PlainTask). IfSome o (λ s. w.1 ≤ acts_passed s)) r.1 x in
          let same : acts_passed r.0 ≡ acts_done job t past = passed-is job w.0 past r.0 r.1 ∙ ap (λ v. acts_done job v past) own in
          omega (arith, le, same, lt)

  pub begun-few : (past : List Item) → IsLegalPast job past → (n : ℕ) → acts_done job t past < n → begun past ≤ commands_until t n 0 job.ctls
  unfolding IsLegalPast
  begun-few [] l n lt = omega arith
  begun-few (Begin k ∷ past) l n lt = let le = until-after t n 0 (begun past) job.ctls (waits-few n past l.1 lt l.0.commands.1) l.0.commands.0.stands in omega (arith, le)
  begun-few (item ∷ past) l n lt = let more = acts_done-more job t item past in begun-few past l.1 n (omega (arith, more, lt))
