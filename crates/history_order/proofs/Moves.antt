-- Which neighbours may be exchanged: items of two tasks, and an item of a task with a Begin or a Return.
use Rattle.std.proofs.Common.{cond, ◌≡◌, ◌≢◌, ℕ, true, false, ◌==◌, List, ◌∷◌, ◌++◌, reverse, Option, Some, IsSome, refl, sym, ap, ◌∙◌, subst, inl, inr, eqb-true}
use Rattle.std.proofs.lemmas.Bool.Decides.{eqb_tells}
use Rattle.ft_base.specs.declared.number.CallNo.{CallNo}
use Rattle.ft_base.specs.declared.item.Item.{Item}
use Rattle.ft_base.specs.declared.item.Item.TheVariants.{Begin, Return, Exit}
use Rattle.ft_base.specs.Items.{call_of, is_task}
use Rattle.ft_base.specs.Job.{Job}
use Rattle.ft_base.specs.Desk.{after}
use Rattle.ft_base.proofs.Small.{false_true, ==-refl}
use Rattle.ft_hist.specs.Past.{is_of, done, begun}
use Rattle.ft_hist.specs.Plain.{plain, PlainTask, after_next}
use Rattle.ft_hist.specs.Rules.{KeepsPlainRun, IsLegalPast, MayFollow}
use Rattle.ft_hist.proofs.Laws.{plain-other}
use Rattle.ft_hist.proofs.Numbers.{some-run}
use Rattle.history_order.specs.Exchange.{StaysLegal, exchanged, with_places}
use Rattle.history_order.proofs.Alike.{Suits, On, on-same, left-other, right-other}
use Rattle.history_order.proofs.Admits.{goes}
use Rattle.history_order.proofs.Exchanging.{MayExchange, stays-legal, suits-same}

-- ## an item of a task

of-call : (item : Item) (call : CallNo) → call_of item ≡ Some call → (v : ℕ) → is_of v item ≡ (call.task.0 == v)
of-call item call e v = ap (λ (o : Option CallNo). is_task v o) e

is-own : (item : Item) (call : CallNo) → call_of item ≡ Some call → is_of call.task.0 item ≡ true
is-own item call e = of-call item call e call.task.0 ∙ ==-refl call.task.0

of-its-task : (item : Item) (call : CallNo) → call_of item ≡ Some call → (v : ℕ) → is_of v item ≡ true → call.task.0 ≡ v
of-its-task item call e v own = eqb-true call.task.0 v (sym (of-call item call e v) ∙ own)

pub counts-of : (item : Item) (call : CallNo) → call_of item ≡ Some call → (past : List Item) → (done (item ∷ past) ≡ done past) × (begun (item ∷ past) ≡ begun past)
counts-of (Begin k) call e past = absurd cc
counts-of (Return k answer) call e past = absurd cc
counts-of _ call e past = (refl, refl)

-- the same places
abbrev same_place : ℕ → ℕ
same_place e = e

same-item : (item : Item) → with_places same_place item ≡ item
same-item (Exit c u entry) = refl
same-item _ = refl

module _ (job : Job) (past : List Item) where
  pub run-two : (v : ℕ) (item : Item) (past' : List Item) → done past' ≡ done past → plain job v past' ≡ plain job v past → plain job v (item ∷ past') ≡ plain job v (item ∷ past)
  unfolding plain
  run-two v item past' d same =
      ap (λ (n : ℕ). cond (is_of v item) (after_next job n item (plain job v past')) (plain job v past')) d
      ∙ ap (λ (o : Option PlainTask). cond (is_of v item) (after_next job (done past) item o) o) same

  -- control's item keeps all plain runs
  pub none-runs : (item : Item) → ((v : ℕ) → is_of v item ≡ false) → IsLegalPast job past → KeepsPlainRun job past item
  none-runs item none l w = let r = some-run job w past l in rw (plain-other job past item w (none w) ∙ r.1) refl

module _ (job : Job) (past : List Item) (x y : Item) (l : IsLegalPast job (y ∷ x ∷ past)) where
  pub first-legal : IsLegalPast job past
  unfolding IsLegalPast
  first-legal = l.1.1

  second-legal : IsLegalPast job (x ∷ past)
  unfolding IsLegalPast
  second-legal = l.1

  pub x-follows : MayFollow job past x
  unfolding IsLegalPast
  x-follows = l.1.0

  pub y-follows : MayFollow job (x ∷ past) y
  unfolding IsLegalPast
  y-follows = l.0

  joined : MayFollow job past y → IsLegalPast job (y ∷ past)
  unfolding IsLegalPast
  joined m = (m, first-legal)

  both : MayFollow job past y → MayFollow job (y ∷ past) x → IsLegalPast job (x ∷ y ∷ past)
  unfolding IsLegalPast
  both m n = (n, (m, first-legal))

  -- the second item of a task without the first
  module _ (call : CallNo) (of : call_of y ≡ Some call) (other : is_of call.task.0 x ≡ false) where
    on-earlier : On job same_place call.task.0 (x ∷ past) past
    on-earlier = left-other job same_place call.task.0 x past past other (on-same job same_place call.task.0 past first-legal (λ e lt. refl))

    earlier : Suits job y (x ∷ past) past → IsSome (plain job call.task.0 (y ∷ past)) → MayFollow job past y
    earlier s run = subst (λ (z : Item). MayFollow job past z) (same-item y)
        (goes job same_place call.task.0 (x ∷ past) past second-legal first-legal on-earlier y (is-own y call of) (λ w ne. of-call y call of w ∙ ne) s
        (subst (λ (z : Item). IsSome (plain job call.task.0 (z ∷ past))) (sym (same-item y)) run) y-follows)

  -- the first item of a task after the second
  module _ (call : CallNo) (of : call_of x ≡ Some call) (other : is_of call.task.0 y ≡ false) where
    on-later : On job same_place call.task.0 past (y ∷ past)
    on-later = right-other job same_place call.task.0 y past past other (on-same job same_place call.task.0 past first-legal (λ e lt. refl))

    later : MayFollow job past y → Suits job x past (y ∷ past) → IsSome (plain job call.task.0 (x ∷ y ∷ past)) → MayFollow job (y ∷ past) x
    later m s run = subst (λ (z : Item). MayFollow job (y ∷ past) z) (same-item x)
        (goes job same_place call.task.0 past (y ∷ past) first-legal (joined m) on-later x (is-own x call of) (λ w ne. of-call x call of w ∙ ne) s
        (subst (λ (z : Item). IsSome (plain job call.task.0 (z ∷ y ∷ past))) (sym (same-item x)) run) x-follows)

  -- ## two tasks

  module _ (a b : CallNo) (of_x : call_of x ≡ Some a) (of_y : call_of y ≡ Some b) (ne : a.task.0 ≢ b.task.0) where
    x-other : is_of b.task.0 x ≡ false
    x-other = of-call x a of_x b.task.0 ∙ elim (eqb_tells a.task.0 b.task.0) [ inl e ↦ absurd (ne e.1) | inr e ↦ e.0 ]

    y-other : is_of a.task.0 y ≡ false
    y-other = of-call y b of_y a.task.0 ∙ elim (eqb_tells b.task.0 a.task.0) [ inl e ↦ absurd (ne (sym e.1)) | inr e ↦ e.0 ]

    xs : (done (x ∷ past) ≡ done past) × (begun (x ∷ past) ≡ begun past)
    xs = counts-of x a of_x past

    ys : (done (y ∷ past) ≡ done past) × (begun (y ∷ past) ≡ begun past)
    ys = counts-of y b of_y past

    suits-earlier : Suits job y (x ∷ past) past
    suits-earlier = suits-same job same_place (x ∷ past) past (sym xs.0) (sym xs.1) b.task.0 second-legal first-legal (on-earlier b of_y x-other) y (is-own y b of_y)

    run-earlier : plain job b.task.0 (y ∷ past) ≡ plain job b.task.0 (y ∷ x ∷ past)
    run-earlier = run-two job (x ∷ past) b.task.0 y past (sym xs.0) (sym (plain-other job past x b.task.0 x-other))

    y-first : MayFollow job past y
    y-first = earlier b of_y x-other suits-earlier (subst (λ (o : Option PlainTask). IsSome o) (sym run-earlier) (y-follows.run b.task.0))

    suits-later : Suits job x past (y ∷ past)
    suits-later = suits-same job same_place past (y ∷ past) ys.0 ys.1 a.task.0 first-legal (joined y-first) (on-later a of_x y-other) x (is-own x a of_x)

    run-later : plain job a.task.0 (x ∷ y ∷ past) ≡ plain job a.task.0 (x ∷ past)
    run-later = run-two job past a.task.0 x (y ∷ past) ys.0 (plain-other job past y a.task.0 y-other)

    pub two-tasks : MayExchange job past x y
    two-tasks = record {
      old = l;
      new = both y-first (later a of_x y-other y-first suits-later (subst (λ (o : Option PlainTask). IsSome o) (sym run-later) (x-follows.run a.task.0)));
      apart = λ v own. subst (λ (n : ℕ). is_of n y ≡ false) (of-its-task x a of_x v own) y-other;
      run_x = λ v own. subst (λ (n : ℕ). plain job n (x ∷ y ∷ past) ≡ plain job n (x ∷ past)) (of-its-task x a of_x v own) run-later;
      run_y = λ v own. subst (λ (n : ℕ). plain job n (y ∷ past) ≡ plain job n (y ∷ x ∷ past)) (of-its-task y b of_y v own) run-earlier;
      suits_x = λ v own. suits-later;
      suits_y = λ v own. suits-earlier;
      returned = (counts-of x a of_x (y ∷ past)).0 ∙ ys.0 ∙ sym ((counts-of y b of_y (x ∷ past)).0 ∙ xs.0);
      begins = (counts-of x a of_x (y ∷ past)).1 ∙ ys.1 ∙ sym ((counts-of y b of_y (x ∷ past)).1 ∙ xs.1);
    }

  -- ## an item of a task, and then one of control

  module _ (a : CallNo) (of : call_of x ≡ Some a) (none : (v : ℕ) → is_of v y ≡ false) where
    pub control-first : MayFollow job past y → Suits job x past (y ∷ past) → plain job a.task.0 (x ∷ y ∷ past) ≡ plain job a.task.0 (x ∷ past)
        → done (x ∷ y ∷ past) ≡ done (y ∷ x ∷ past) → begun (x ∷ y ∷ past) ≡ begun (y ∷ x ∷ past) → MayExchange job past x y
    control-first m s run d e = record {
      old = l;
      new = both m (later a of (none a.task.0) m s (subst (λ (o : Option PlainTask). IsSome o) (sym run) (x-follows.run a.task.0)));
      apart = λ v own. none v;
      run_x = λ v own. subst (λ (n : ℕ). plain job n (x ∷ y ∷ past) ≡ plain job n (x ∷ past)) (of-its-task x a of v own) run;
      run_y = λ v own. false_true (sym (none v) ∙ own);
      suits_x = λ v own. s;
      suits_y = λ v own. false_true (sym (none v) ∙ own);
      returned = d;
      begins = e;
    }

  -- ## the other way round

  module _ (b : CallNo) (of : call_of y ≡ Some b) (none : (v : ℕ) → is_of v x ≡ false) where
    pub control-last : Suits job y (x ∷ past) past → plain job b.task.0 (y ∷ past) ≡ plain job b.task.0 (y ∷ x ∷ past) → (MayFollow job past y → IsLegalPast job (y ∷ past) → MayFollow job (y ∷ past) x)
        → done (x ∷ y ∷ past) ≡ done (y ∷ x ∷ past) → begun (x ∷ y ∷ past) ≡ begun (y ∷ x ∷ past) → MayExchange job past x y
    control-last s run n d e =
        let m = earlier b of (none b.task.0) s (subst (λ (o : Option PlainTask). IsSome o) (sym run) (y-follows.run b.task.0)) in
        record {
          old = l;
          new = both m (n m (joined m));
          apart = λ v own. false_true (sym (none v) ∙ own);
          run_x = λ v own. false_true (sym (none v) ∙ own);
          run_y = λ v own. subst (λ (k : ℕ). plain job k (y ∷ past) ≡ plain job k (y ∷ x ∷ past)) (of-its-task y b of v own) run;
          suits_x = λ v own. false_true (sym (none v) ∙ own);
          suits_y = λ v own. s;
          returned = d;
          begins = e;
        }

pub change-tasks : (job : Job) (before after : List Item) (x y : Item) (a b : CallNo) → call_of x ≡ Some a → call_of y ≡ Some b → a.task.0 ≢ b.task.0
    → StaysLegal job (before ++ x ∷ y ∷ after) (before ++ y ∷ x ∷ exchanged before after)
change-tasks job before after x y a b of_x of_y ne = stays-legal job before after x y (λ l. two-tasks job (reverse before) x y l a b of_x of_y ne)
