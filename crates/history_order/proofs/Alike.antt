-- Two pasts in which a task finds the same: its plain run and its frames are the same, and of each of its calls the same is told, but for
-- places, and for windows that may begin earlier.
use Rattle.std.proofs.Common.{cond, ◌≡◌, ℕ, ◌<◌, ◌≤◌, ◌⊎◌, Bool, true, false, ◌&&◌, ◌||◌, ◌==◌, List, [], ◌∷◌, length, map, Option, Some, None, refl, sym, ap, ap₂, ◌∙◌, subst, arith, eqb-true, nat_lt}
use Rattle.std.specs.List.{AllByRecursion as Each}
use Rattle.ft_base.specs.declared.number.CallNo.{CallNo}
use Rattle.ft_base.specs.declared.item.Item.{Item}
use Rattle.ft_base.specs.declared.item.Item.TheVariants.{Begin, Return, Enter, Back, Refuse, Body, Leave, Exit, Ret}
use Rattle.ft_base.specs.Same.{same_call}
use Rattle.ft_base.specs.Job.{Job}
use Rattle.ft_base.specs.Desk.{spec_at}
use Rattle.ft_base.specs.Kinds.{has_depth, has_exit}
use Rattle.ft_base.proofs.Small.{Each-weaker}
use Rattle.ft_hist.specs.Past.{is_of, done, begun, Callback, Entered, entered, Visit, visit, all_visits, visits, exits, done_at_leave, held, miss_due, user_now}
use Rattle.ft_hist.specs.Plain.{plain}
use Rattle.ft_hist.specs.Rules.{IsLegalPast}
use Rattle.ft_hist.specs.ShadowStack.{Framed, without, after, shadow_stack}
use Rattle.ft_hist.proofs.Carries.{touches-other}
use Rattle.ft_hist.proofs.Laws.{plain-other}
use Rattle.ft_hist.proofs.Since.{untouched-item, misses-other}
use Rattle.ft_hist.proofs.Shadow.{held-past}
use Rattle.history_order.specs.Exchange.{with_places}
use Rattle.history_order.proofs.Visits.{visits-before, exits-of}

-- the same Enter, with a window that may begin earlier
abbrev pub IsEntered : Option Entered → Option Entered → Type 0
IsEntered None None = Unit {0}
IsEntered (Some a) (Some b) = (b.ctx ≡ a.ctx) × (b.func ≡ a.func) × (b.from ≤ a.from)
IsEntered _ _ = ⊥

is-entered : (o : Option Entered) → IsEntered o o
is-entered None = tt
is-entered (Some a) = (refl, refl, omega arith)

-- a list of which an act changes nothing
map-same : {X : Type 0} (f : X → X) (xs : List X) → Each (λ x. f x ≡ x) xs → map f xs ≡ xs
map-same f [] h = refl
map-same f (x ∷ xs) h = ap₂ (λ y ys. y ∷ ys) h.0 (map-same f xs h.1)

-- ## what an item asks of another past

module _ (job : Job) where
  -- the commands that have returned or begun are among those of the other past
  abbrev pub IsSeen : List Item → List Item → Type 0
  IsSeen past past' = ((done past' ≡ done past) ⊎ (begun past' ≡ done past)) × ((done past' ≡ begun past) ⊎ (begun past' ≡ begun past))

  -- a visit reads the same registration
  abbrev pub IsRead : CallNo → ℕ → List Item → List Item → Type 0
  IsRead c u past past' = ((user_now job c u past').reg ≡ (user_now job c u past).reg) × ((user_now job c u past').since ≡ (user_now job c u past).since)

  -- the item may come after either past: a window that it begins may begin earlier, and one that it ends may end later
  abbrev pub Suits : Item → List Item → List Item → Type 0
  Suits (Enter c x f caller) past past' = done past' ≤ done past
  Suits (Leave c) past past' = done past' ≤ done past
  Suits (Back c u) past past' = IsSeen past past' × IsRead c u.0 past past'
  Suits (Refuse c u reason) past past' = IsSeen past past' × IsRead c u.0 past past'
  Suits (Exit c u entry) past past' = IsSeen past past'
  Suits (Body c g ran) past past' = begun past ≤ begun past'
  Suits (Ret c to) past past' = begun past ≤ begun past'
  Suits _ past past' = Unit {0}

module _ (job : Job) (to : ℕ → ℕ) where
  -- a visit at another place
  abbrev pub at_place : Visit → ℕ → Visit
  at_place m p = record m { place = p }

  abbrev pub moved : Visit → Visit
  moved m = at_place m (to m.place)

  -- the same of one call
  pub record OnCall (c : CallNo) (past past' : List Item) : Type 0 where
    pub entry : IsEntered (entered c past) (entered c past')
    pub met : visits job c past' ≡ map moved (visits job c past)
    pub had : exits c past' ≡ map to (exits c past)
    pub left : done_at_leave c past' ≤ done_at_leave c past

  -- task v finds the same
  pub record On (v : ℕ) (past past' : List Item) : Type 0 where
    pub each : (c : CallNo) → c.task.0 ≡ v → OnCall c past past'
    pub run : plain job v past' ≡ plain job v past
    pub stack : shadow_stack job v past' ≡ shadow_stack job v past
    pub miss : miss_due job v past' ≡ miss_due job v past

  pub on-same : (v : ℕ) (past : List Item) → IsLegalPast job past → ((e : ℕ) → e < length past → to e ≡ e) → On v past past
  on-same v past l fixed = record {
    each = λ c own. record {
      entry = is-entered (entered c past);
      met = sym (map-same moved (visits job c past) (Each-weaker (λ m. m.place < length past) (λ m. moved m ≡ m) (visits job c past) (λ m lt. ap (λ p. at_place m p) (fixed m.place lt)) (visits-before job c past)));
      had = sym (map-same to (exits c past) (Each-weaker (λ e. (m : Visit) × (m.place < length past) × (m.place ≡ e)) (λ e. to e ≡ e) (exits c past)
          (λ e w. fixed e (let lt = w.1 in let is = w.2 in omega (arith, lt, is))) (exits-of job c (λ m. m.place < length past) past l (visits-before job c past))));
      left = omega arith;
    };
    run = refl;
    stack = refl;
    miss = refl;
  }

  -- ## an item of another task, or of control

  stack-other : (v : ℕ) (item : Item) (past : List Item) → is_of v item ≡ false → shadow_stack job v (item ∷ past) ≡ shadow_stack job v past
  unfolding shadow_stack
  stack-other v item past other = rw other refl

  pub left-other : (v : ℕ) (item : Item) (past past' : List Item) → is_of v item ≡ false → On v past past' → On v (item ∷ past) past'
  left-other v item past past' other h = record {
    each = λ c own.
        let u = untouched-item job c past item (touches-other v item c other own) in
        let g = h.each c own in
        record {
          entry = subst (λ (o : Option Entered). IsEntered o (entered c past')) (sym u.entered) g.entry;
          met = g.met ∙ ap (λ (ms : List Visit). map moved ms) (sym u.visits);
          had = g.had ∙ ap (λ (es : List ℕ). map to es) (sym u.exits);
          left = subst (λ (n : ℕ). done_at_leave c past' ≤ n) (sym u.left) g.left;
        };
    run = h.run ∙ sym (plain-other job past item v other);
    stack = h.stack ∙ sym (stack-other v item past other);
    miss = h.miss ∙ sym (misses-other job v item past other);
  }

  pub right-other : (v : ℕ) (item : Item) (past past' : List Item) → is_of v item ≡ false → On v past past' → On v past (item ∷ past')
  right-other v item past past' other h = record {
    each = λ c own.
        let u = untouched-item job c past' item (touches-other v item c other own) in
        let g = h.each c own in
        record {
          entry = subst (λ (o : Option Entered). IsEntered (entered c past) o) (sym u.entered) g.entry;
          met = u.visits ∙ g.met;
          had = u.exits ∙ g.had;
          left = subst (λ (n : ℕ). n ≤ done_at_leave c past) (sym u.left) g.left;
        };
    run = plain-other job past' item v other ∙ h.run;
    stack = stack-other v item past' other ∙ h.stack;
    miss = misses-other job v item past' other ∙ h.miss;
  }

  -- ## one more item of the task

  module _ (v : ℕ) (past past' : List Item) (l : IsLegalPast job past) (l' : IsLegalPast job past') (on : On v past past') where
    pub held-same : (c : CallNo) → c.task.0 ≡ v → held job c past' ≡ held job c past
    held-same c own =
        held-past job past' c l'
        ∙ ap (λ (fs : List Framed). length (without c fs)) (subst (λ (n : ℕ). shadow_stack job n past' ≡ shadow_stack job n past) (sym own) on.stack)
        ∙ sym (held-past job past c l)

    abbrev visit_as : CallNo → ℕ → Bool → ℕ → ℕ → ℕ → ℕ → Visit
    visit_as c u back reg since place level = record {
      call = c;
      user = u;
      reg = reg;
      since = since;
      place = place;
      back = back;
      framed = back && (has_depth (spec_at job u).kind || (has_exit (spec_at job u).kind && nat_lt level job.frames));
    }

    module _ (placed : to (length past) ≡ length past') where
      visit-same : (c : CallNo) (u : ℕ) (back : Bool) → c.task.0 ≡ v → IsRead job c u past past' → visit job c u past' (all_visits job past') back ≡ moved (visit job c u past (all_visits job past) back)
      visit-same c u back own read =
          ap (λ (n : ℕ). visit_as c u back n (user_now job c u past').since (length past') (held job c past')) read.0
          ∙ ap (λ (n : ℕ). visit_as c u back (user_now job c u past).reg n (length past') (held job c past')) read.1
          ∙ ap (λ (n : ℕ). visit_as c u back (user_now job c u past).reg (user_now job c u past).since n (held job c past')) (sym placed)
          ∙ ap (λ (n : ℕ). visit_as c u back (user_now job c u past).reg (user_now job c u past).since (to (length past)) n) (held-same c own)

      one-more : (c : CallNo) (b : Bool) (m m' : Visit) → m' ≡ moved m → visits job c past' ≡ map moved (visits job c past)
          → cond b (m' ∷ visits job c past') (visits job c past') ≡ map moved (cond b (m ∷ visits job c past) (visits job c past))
      one-more c true m m' same met = ap₂ (λ x xs. x ∷ xs) same met
      one-more c false m m' same met = met

      more-call : (item : Item) → is_of v item ≡ true → Suits job item past past' → (c : CallNo) → OnCall c past past' → OnCall c (item ∷ past) (with_places to item ∷ past')
      unfolding all_visits
      more-call (Enter d x f caller) own s c h = record { entry = by (same_call d c); met = h.met; had = h.had; left = h.left }
        where
          by : (b : Bool) → IsEntered (cond b (Some (record { ctx = x; func = f.0; caller = caller; from = done past })) (entered c past)) (cond b (Some (record { ctx = x; func = f.0; caller = caller; from = done past' })) (entered c past'))
          by true = (refl, refl, s)
          by false = h.entry
      more-call (Back d u) own s c h = record {
        entry = h.entry;
        met = one-more c (same_call d c) (visit job d u.0 past (all_visits job past) true) (visit job d u.0 past' (all_visits job past') true) (visit-same d u.0 true (eqb-true d.task.0 v own) s.1) h.met;
        had = h.had;
        left = h.left;
      }
      more-call (Refuse d u reason) own s c h = record {
        entry = h.entry;
        met = one-more c (same_call d c) (visit job d u.0 past (all_visits job past) false) (visit job d u.0 past' (all_visits job past') false) (visit-same d u.0 false (eqb-true d.task.0 v own) s.1) h.met;
        had = h.had;
        left = h.left;
      }
      more-call (Leave d) own s c h = record { entry = h.entry; met = h.met; had = h.had; left = by (same_call d c) }
        where
          by : (b : Bool) → cond b (done past') (done_at_leave c past') ≤ cond b (done past) (done_at_leave c past)
          by true = s
          by false = h.left
      more-call (Exit d u entry) own s c h = record { entry = h.entry; met = h.met; had = by (same_call d c); left = h.left }
        where
          by : (b : Bool) → cond b (to entry ∷ exits c past') (exits c past') ≡ map to (cond b (entry ∷ exits c past) (exits c past))
          by true = ap (λ (es : List ℕ). to entry ∷ es) h.had
          by false = h.had
      more-call _ own s c h = record { entry = h.entry; met = h.met; had = h.had; left = h.left }

      more-stack : (item : Item) → shadow_stack job v (with_places to item ∷ past') ≡ shadow_stack job v (item ∷ past)
      unfolding shadow_stack
      more-stack (Exit d u entry) = ap (λ (fs : List Framed). cond (d.task.0 == v) (after job (Exit d u entry) fs) fs) on.stack
      more-stack item = ap (λ (fs : List Framed). cond (is_of v item) (after job item fs) fs) on.stack

      more-miss : (item : Item) → is_of v item ≡ true → miss_due job v (with_places to item ∷ past') ≡ miss_due job v (item ∷ past)
      more-miss (Begin k) own = on.miss
      more-miss (Return k answer) own = on.miss
      more-miss (Back d u) own =
          rw own (ap (λ (n : ℕ). cond (has_exit (spec_at job u.0).kind && (n == job.frames)) (some_callback (record { call = d; user = u.0; ctx = None })) None) (held-same d (eqb-true d.task.0 v own)))
        where
          some_callback : Callback → Option Callback
          some_callback b = Some b
      more-miss _ own = rw own refl

      pub more : (item : Item) → is_of v item ≡ true → Suits job item past past' → plain job v (with_places to item ∷ past') ≡ plain job v (item ∷ past)
          → On v (item ∷ past) (with_places to item ∷ past')
      more item own s run = record { each = λ c e. more-call item own s c (on.each c e); run = run; stack = more-stack item; miss = more-miss item own }
