-- The open calls of a task are its plain stack, and so the frames held are counted on that stack.
use Rattle.std.proofs.Common.{cond, ◌≡◌, ℕ, ◌<◌, Bool, true, false, not, ◌&&◌, ◌||◌, ◌==◌, List, [], ◌∷◌, length, Some, refl, sym, ap, ◌∙◌, subst, arith, eqb-true, inl, inr}
use Rattle.std.proofs.lemmas.Bool.Decides.{eqb_tells}
use Rattle.std.specs.List.{filter, AllByRecursion as Each}
use Rattle.ft_base.specs.declared.number.CallNo.{CallNo}
use Rattle.ft_base.specs.declared.item.Item.{Item}
use Rattle.ft_base.specs.declared.item.Item.TheVariants.{Begin, Return, Enter, Ret}
use Rattle.ft_base.specs.Same.{same_call}
use Rattle.ft_base.specs.Job.{Job}
use Rattle.ft_base.specs.Desk.{spec_at}
use Rattle.ft_base.proofs.Small.{false_true, ==-refl, and_both, and-false, Each-weaker, each-all, filter-all, filter-ext}
use Rattle.ft_base.specs.Kinds.{cancels}
use Rattle.ft_hist.specs.Past.{is_of, done, is_open, calls, held, all_visits, is_dispatched, has_frame_user}
use Rattle.ft_hist.specs.Plain.{plain, PlainTask}
use Rattle.ft_hist.specs.Telling.{open_calls}
use Rattle.ft_hist.proofs.Laws.{same_call-refl}
use Rattle.ft_hist.proofs.RunLaws.{calls_on, Keeps, Moves, step-moves}
use Rattle.ft_hist.proofs.Steps.{run-holds}
use Rattle.ft_hist.specs.Known.{holds}
use Rattle.ft_hist.proofs.Since.{IsOlder, apart, holding}

filter-both : {X : Type 0} (a n o : X → Bool) (xs : List X) → filter (λ x. a x && (n x && o x)) xs ≡ filter n (filter (λ x. a x && o x) xs)
filter-both a n o [] = refl
filter-both a n o (x ∷ xs) =
    elim (a x) as (λ b. cond (b && (n x && o x)) (x ∷ filter (λ y. a y && (n y && o y)) xs) (filter (λ y. a y && (n y && o y)) xs) ≡ filter n (cond (b && o x) (x ∷ filter (λ y. a y && o y) xs) (filter (λ y. a y && o y) xs))) [
      | false ↦ filter-both a n o xs
      | true ↦ elim (o x) as (λ b. cond (n x && b) (x ∷ filter (λ y. a y && (n y && o y)) xs) (filter (λ y. a y && (n y && o y)) xs) ≡ filter n (cond b (x ∷ filter (λ y. a y && o y) xs) (filter (λ y. a y && o y) xs))) [
        | false ↦ rw (and-false (n x)) (filter-both a n o xs)
        | true ↦ elim (n x) as (λ b. cond (b && true) (x ∷ filter (λ y. a y && (n y && o y)) xs) (filter (λ y. a y && (n y && o y)) xs) ≡ cond b (x ∷ filter n (filter (λ y. a y && o y) xs)) (filter n (filter (λ y. a y && o y) xs))) [
          | true ↦ ap (λ ys. x ∷ ys) (filter-both a n o xs)
          | false ↦ filter-both a n o xs
        ]
      ]
    ]

filter-nest : {X : Type 0} (a n o q : X → Bool) (xs : List X) → filter (λ x. a x && n x && (o x && q x)) xs ≡ filter (λ x. n x && (o x && q x)) (filter (λ x. a x && o x) xs)
filter-nest a n o q [] = refl
filter-nest a n o q (x ∷ xs) =
    let more = filter-nest a n o q xs in
    elim (a x) as (λ b. cond (b && n x && (o x && q x)) (x ∷ filter (λ y. a y && n y && (o y && q y)) xs) (filter (λ y. a y && n y && (o y && q y)) xs) ≡ filter (λ y. n y && (o y && q y)) (cond (b && o x) (x ∷ filter (λ y. a y && o y) xs) (filter (λ y. a y && o y) xs))) [
      | false ↦ more
      | true ↦ elim (o x) as (λ b. o x ≡ b → cond (n x && (b && q x)) (x ∷ filter (λ y. a y && n y && (o y && q y)) xs) (filter (λ y. a y && n y && (o y && q y)) xs) ≡ filter (λ y. n y && (o y && q y)) (cond b (x ∷ filter (λ y. a y && o y) xs) (filter (λ y. a y && o y) xs))) [
        | false ↦ λ e. rw (and-false (n x)) more
        | true ↦ λ e. rw e (elim (n x && q x) as (λ b. cond b (x ∷ filter (λ y. a y && n y && (o y && q y)) xs) (filter (λ y. a y && n y && (o y && q y)) xs) ≡ cond b (x ∷ filter (λ y. n y && (o y && q y)) (filter (λ y. a y && o y) xs)) (filter (λ y. n y && (o y && q y)) (filter (λ y. a y && o y) xs))) [
          | true ↦ ap (λ ys. x ∷ ys) more
          | false ↦ more
        ])
      ] refl
    ]

-- each call has a greater number than those below it
abbrev pub Falls : List CallNo → Type 0
Falls [] = Unit {0}
Falls (c ∷ cs) = Each (λ d. d.n < c.n) cs × Falls cs

pub record Opens (t : ℕ) (past : List Item) (next : ℕ) (stack : List CallNo) : Type 0 where
  pub number : Each (λ c. c.n < next) stack
  pub falls : Falls stack
  pub made : Each (IsOlder t next) (calls past)
  pub open' : open_calls t past ≡ stack

ne_n : (a b : ℕ) → a < b → (b == a) ≡ false
ne_n a b lt = elim (eqb_tells b a) [ inl x ↦ (let y : b ≡ a = x.1 in absurd (omega arith)) | inr x ↦ x.0 ]

ne_m : (a b : ℕ) → a < b → (a == b) ≡ false
ne_m a b lt = elim (eqb_tells a b) [ inl x ↦ (let y : a ≡ b = x.1 in absurd (omega arith)) | inr x ↦ x.0 ]

pub not_same : (call c : CallNo) → c.n < call.n → same_call call c ≡ false
not_same call c lt = rw (ne_n c.n call.n lt) (and-false (call.task.0 == c.task.0))

pub not_same' : (call c : CallNo) → c.n < call.n → same_call c call ≡ false
not_same' call c lt = rw (ne_m c.n call.n lt) (and-false (c.task.0 == call.task.0))

module _ (t : ℕ) (past : List Item) where
  kept : (s s' : PlainTask) (call : CallNo) (item : Item) → calls (item ∷ past) ≡ calls past → open_calls t (item ∷ past) ≡ open_calls t past → Keeps s s' call
      → Opens t past s.next (calls_on s.stack) → Opens t (item ∷ past) s'.next (calls_on s'.stack)
  kept s s' call item same still k h = record {
    number = rw (k.calls, k.next) h.number;
    falls = rw k.calls h.falls;
    made = rw (same, k.next) h.made;
    open' = rw (still, k.calls) h.open';
  }

  -- which calls are open after an Enter or a Ret of the task
  enter_same : (call : CallNo) (next : ℕ) (cs : List CallNo) → call.task.0 ≡ t → call.n ≡ next → Each (IsOlder t next) cs
      → Each (λ c. ((c.task.0 == t) && (same_call call c || is_open c past)) ≡ ((c.task.0 == t) && is_open c past)) cs
  enter_same call next [] own num h = tt
  enter_same call next (c ∷ cs) own num h =
      (rw (apart t call.n call c own (omega arith) (λ e. rw num (h.0 e))) refl, enter_same call next cs own num h.1)

  opens-own : (s s' : PlainTask) (item : Item) → is_of t item ≡ true → Moves s s' item → Opens t past s.next (calls_on s.stack)
      → Opens t (item ∷ past) s'.next (calls_on s'.stack)
  opens-own s s' (Begin k) own m h = false_true own
  opens-own s s' (Return k a) own m h = false_true own
  opens-own s s' (Enter call x f caller) own m h = record {
    number = rw m.calls (rw (m.number, m.next) (omega arith), Each-weaker (λ c. c.n < s.next) (λ c. c.n < s'.next) (calls_on s.stack) (λ c lt. rw m.next (omega arith)) h.number);
    falls = rw m.calls (Each-weaker (λ c. c.n < s.next) (λ c. c.n < call.n) (calls_on s.stack) (λ c lt. rw m.number lt) h.number, h.falls);
    made = (λ e. rw (m.number, m.next) (omega arith), Each-weaker (IsOlder t s.next) (IsOlder t s'.next) (calls past) (λ c old e. (let lt = old e in rw m.next (omega arith))) h.made);
    open' = rw (own, same_call-refl call) (ap (λ cs. call ∷ cs) (filter-ext (λ c. (c.task.0 == t) && (same_call call c || is_open c past)) (λ c. (c.task.0 == t) && is_open c past) (calls past)
        (enter_same call s.next (calls past) (eqb-true call.task.0 t own) m.number h.made) ∙ h.open') ∙ sym m.calls);
  }
  opens-own s s' (Ret call to) own m h =
      let numbers = rw m.calls at h.number in
      let falls = rw m.calls at h.falls in
      record {
        number = rw m.next numbers.1;
        falls = falls.1;
        made = rw m.next h.made;
        open' = filter-both (λ c. c.task.0 == t) (λ c. not (same_call call c)) (λ c. is_open c past) (calls past)
            ∙ ap (λ cs. filter (λ c. not (same_call call c)) cs) (h.open' ∙ m.calls)
            ∙ rw (same_call-refl call) (filter-all (λ c. not (same_call call c)) (calls_on s'.stack)
            (Each-weaker (λ d. d.n < call.n) (λ d. not (same_call call d) ≡ true) (calls_on s'.stack) (λ d lt. rw (not_same call d lt) refl) falls.0));
      }
  opens-own s s' item own m h = kept s s' _ item refl refl m h

  -- and after one of another task
  foreign : (call : CallNo) → (call.task.0 == t) ≡ false → (c : CallNo) (b : Bool) → ((c.task.0 == t) && (same_call call c || b)) ≡ ((c.task.0 == t) && b)
  foreign call other c b =
      elim (eqb_tells c.task.0 t) [
        | inl e ↦ rw (subst (λ x. (call.task.0 == x) ≡ false) (sym e.1) other) refl
        | inr e ↦ rw e.0 refl
      ]

  foreign' : (call : CallNo) → (call.task.0 == t) ≡ false → (c : CallNo) (b : Bool) → ((c.task.0 == t) && (not (same_call call c) && b)) ≡ ((c.task.0 == t) && b)
  foreign' call other c b =
      elim (eqb_tells c.task.0 t) [
        | inl e ↦ rw (subst (λ x. (call.task.0 == x) ≡ false) (sym e.1) other) refl
        | inr e ↦ rw e.0 refl
      ]

  opens-other : (next : ℕ) (stack : List CallNo) (item : Item) → is_of t item ≡ false → Opens t past next stack → Opens t (item ∷ past) next stack
  opens-other next stack (Enter call x f caller) other h = record {
    number = h.number;
    falls = h.falls;
    made = (λ e. false_true (sym other ∙ (rw e (==-refl t))), h.made);
    open' = rw other (filter-ext (λ c. (c.task.0 == t) && (same_call call c || is_open c past)) (λ c. (c.task.0 == t) && is_open c past) (calls past) (each-all _ (calls past) (λ c. foreign call other c (is_open c past))) ∙ h.open');
  }
  opens-other next stack (Ret call to) other h = record {
    number = h.number;
    falls = h.falls;
    made = h.made;
    open' = filter-ext (λ c. (c.task.0 == t) && (not (same_call call c) && is_open c past)) (λ c. (c.task.0 == t) && is_open c past) (calls past) (each-all _ (calls past) (λ c. foreign' call other c (is_open c past))) ∙ h.open';
  }
  opens-other next stack _ other h = record { number = h.number; falls = h.falls; made = h.made; open' = h.open' }

pub opens : (job : Job) (t : ℕ) (past : List Item) (s : PlainTask) → plain job t past ≡ Some s → Opens t past s.next (calls_on s.stack)
opens job t = run-holds job t (λ past s. Opens t past s.next (calls_on s.stack)) (record { number = tt; falls = tt; made = tt; open' = refl })
    (λ item past p s own here k h. opens-own t past p s item own (step-moves job (done past) p s item k) h)
    (λ item past s other here h. opens-other t past s.next (calls_on s.stack) item other h)

-- the first that passes a test does
first-passes : {X : Type 0} (p : X → Bool) (xs : List X) (y : X) (ys : List X) → filter p xs ≡ y ∷ ys → p y ≡ true
first-passes p [] y ys e = absurd cc
first-passes p (x ∷ xs) y ys e = by (p x) refl e (first-passes p xs y ys)
  where
    by : (b : Bool) → p x ≡ b → cond b (x ∷ filter p xs) (filter p xs) ≡ y ∷ ys → (filter p xs ≡ y ∷ ys → p y ≡ true) → p y ≡ true
    by true q z more = let is : x ≡ y = cc in subst (λ (w : _). p w ≡ true) is q
    by false q z more = more z

-- the top call of a task's stack is open
pub top-open : (job : Job) (t : ℕ) (past : List Item) (s : PlainTask) (call : CallNo) (below : List CallNo) → plain job t past ≡ Some s → calls_on s.stack ≡ call ∷ below → is_open call past ≡ true
top-open job t past s call below here top =
    (and_both (call.task.0 == t) (is_open call past) (first-passes (λ c. (c.task.0 == t) && is_open c past) (calls past) call below ((opens job t past s here).open' ∙ top))).1

-- the frames that a task's other calls hold are those of the calls on its stack
pub held-on : (job : Job) (past : List Item) (s : PlainTask) (call : CallNo) → plain job call.task.0 past ≡ Some s
    → held job call past ≡ length (filter (λ c. not (same_call c call) && holds job past c) (calls_on s.stack))
held-on job past s call here =
    let frame : CallNo → Bool = λ c. cond (is_dispatched c past) (has_frame_user c (λ m. not (cancels (spec_at job m.user).kind)) (all_visits job past)) (has_frame_user c (λ m. true) (all_visits job past)) in
    ap length (
    filter-nest (λ c. c.task.0 == call.task.0) (λ c. not (same_call c call)) (λ c. is_open c past) frame (calls past)
    ∙ ap (λ cs. filter (λ c. not (same_call c call) && (is_open c past && frame c)) cs) (opens job call.task.0 past s here).open'
    )

-- and those that its top call finds are those of the calls below it
pub held-is : (job : Job) (past : List Item) (s : PlainTask) (call : CallNo) (below : List CallNo) → plain job call.task.0 past ≡ Some s → calls_on s.stack ≡ call ∷ below → held job call past ≡ holding job past below
held-is job past s call below here top =
    let falls = rw top at (opens job call.task.0 past s here).falls in
    held-on job past s call here
    ∙ ap length (
    ap (λ cs. filter (λ c. not (same_call c call) && holds job past c) cs) top
    ∙ rw (same_call-refl call) (filter-ext (λ c. not (same_call c call) && holds job past c) (λ c. holds job past c) below
    (Each-weaker (λ d. d.n < call.n) (λ d. (not (same_call d call) && holds job past d) ≡ holds job past d) below (λ d lt. rw (not_same' call d lt) refl) falls.0))
    )
