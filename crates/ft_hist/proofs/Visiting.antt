-- One more visit of a call: what it makes of what is known of those visited.
use Rattle.std.proofs.Common.{cond, ◌≡◌, ℕ, ◌<◌, ◌≤◌, Bool, true, false, not, ◌&&◌, ◌||◌, ◌==◌, List, [], ◌∷◌, ◌++◌, length, Option, Some, None, is_some, refl, sym, ap, ◌∙◌, arith, eqb-true}
use Rattle.std.specs.List.{list_any, AllByRecursion as Each}
use Rattle.ft_base.specs.declared.number.CallNo.{CallNo}
use Rattle.ft_base.specs.declared.number.FuncNo.{FuncNo}
use Rattle.ft_base.specs.declared.item.Ran.TheVariants.{Own, List as ByList}
use Rattle.ft_base.specs.declared.item.Item.{Item}
use Rattle.ft_base.specs.Job.{Job}
use Rattle.ft_base.specs.Desk.{Desk, desk, is_on, user_at, spec_at, target_by}
use Rattle.ft_base.specs.Order.{IsBelow, has}
use Rattle.ft_base.proofs.Small.{false_true, ==-refl, or-true, and-false, Each-weaker, Each-snoc, Contains-head, Contains-more}
use Rattle.ft_base.specs.Kinds.{cancels}
use Rattle.ft_hist.specs.Past.{done, begun, entry_of, Visit, registration_at}
use Rattle.ft_hist.specs.Rules.{OnlyThose, backs_with_replacement, replacement, HasExit}
use Rattle.ft_hist.specs.Frames.{FrameUser, runs_after, is_nil, IsOwed, is_user_of, is_among, Rises, keeps_frame, FrameOf}
use Rattle.ft_hist.specs.Known.{Sinks}

-- a visit on this desk, of a user that is on, registered after each of those to come
pub record MetOf (d : Desk) (f : ℕ) (todo : List ℕ) (m : Visit) : Type 0 where
  pub since : m.since ≡ (user_at d m.user).since
  pub on : is_on d m.user f ≡ true
  pub below : Each (λ u. IsBelow d m.user u) todo

pub registration_at-same : (job : Job) (call : CallNo) (u k : ℕ) (past : List Item) → done past ≡ k → begun past ≡ k → registration_at job call u past ≡ k
registration_at-same job call u k past d b =
    elim (is_on (desk job (done past)) u (entry_of call past).func) as (λ c. cond c (done past) (begun past) ≡ k) [ true ↦ d | false ↦ b ]

-- nobody is visited twice
pub unmet : (d : Desk) (f u : ℕ) (us : List ℕ) (ms : List Visit) → Each (MetOf d f (u ∷ us)) ms → list_any (λ m. m.user == u) ms ≡ false
unmet d f u us [] h = refl
unmet d f u us (m ∷ ms) h =
    elim (m.user == u) as (λ b. (m.user == u) ≡ b → (b || list_any (λ m. m.user == u) ms) ≡ false) [
      | true ↦ λ e. let same : m.user ≡ u = eqb-true m.user u e in
          let lt : (user_at d u).since < (user_at d m.user).since = h.0.below.0 in
          let ne : (user_at d m.user).since ≡ (user_at d u).since = rw same refl in
          absurd (omega arith)
      | false ↦ λ e. unmet d f u us ms h.1
    ] refl

or-false_left : (a : Bool) → (a || false) ≡ true → a ≡ true
or-false_left true e = refl
or-false_left false e = e

all_in : (d : Desk) (f : ℕ) (v : ℕ) (ms : List Visit) → ((u : ℕ) → is_on d u f ≡ true → has u (v ∷ []) ≡ true) → Each (MetOf d f []) ms → Each (λ m. m.user ≡ v) ms
all_in d f v [] g h = tt
all_in d f v (m ∷ ms) g h =
    let here : ((v == m.user) || false) ≡ true = g m.user h.0.on in
    (sym (eqb-true v m.user (or-false_left (v == m.user) here)), all_in d f v ms g h.1)

nobody : (d : Desk) (f : ℕ) (ms : List Visit) → ((u : ℕ) → is_on d u f ≡ true → has u [] ≡ true) → Each (MetOf d f []) ms → ms ≡ []
nobody d f [] g h = refl
nobody d f (m ∷ ms) g h = false_true (g m.user h.0.on)

-- what a site's target lets in
pub only_those : (d : Desk) (f : ℕ) (us : List ℕ) (ms : List Visit) → ((u : ℕ) → is_on d u f ≡ true → has u us ≡ true) → Each (MetOf d f []) ms → OnlyThose (target_by d us) ms
only_those d f [] ms g h = nobody d f ms g h
only_those d f (u ∷ []) ms g h =
    elim (is_some (user_at d u).slot) as (λ b. OnlyThose (cond b (Own (record { 0 = u })) ByList) ms) [ true ↦ all_in d f u ms g h | false ↦ tt ]
only_those d f (u ∷ v ∷ rest) ms g h = tt

-- ## replacements

abbrev replaces : Job → Visit → Bool
replaces job m = m.back && is_some (spec_at job m.user).ipmodify

and_right : (a b : Bool) → (a && b) ≡ true → b ≡ true
and_right true b e = e
and_right false b e = false_true e

-- where all that replace are one user, and no user is visited twice, there is at most one
pub at_most_one : (job : Job) (d : Desk) (f : ℕ) (ms : List Visit)
    → ((u v : ℕ) → is_on d u f ≡ true → is_on d v f ≡ true → is_some (spec_at job u).ipmodify ≡ true → is_some (spec_at job v).ipmodify ≡ true → u ≡ v)
    → Each (MetOf d f []) ms → Sinks ms → length (backs_with_replacement job ms) ≤ 1
at_most_one job d f [] one h s = omega arith
at_most_one job d f (m ∷ ms) one h s =
    elim (replaces job m) as (λ b. replaces job m ≡ b → length (cond b (m ∷ backs_with_replacement job ms) (backs_with_replacement job ms)) ≤ 1) [
      | true ↦ λ e. rw (none ms (and_right m.back _ e) h.1 s.0) (omega arith)
      | false ↦ λ e. at_most_one job d f ms one h.1 s.1
    ] refl
  where
    none : (xs : List Visit) → is_some (spec_at job m.user).ipmodify ≡ true → Each (MetOf d f []) xs → Each (λ x. m.since < x.since) xs → backs_with_replacement job xs ≡ []
    none [] e k l = refl
    none (x ∷ xs) e k l =
        elim (replaces job x) as (λ b. replaces job x ≡ b → cond b (x ∷ backs_with_replacement job xs) (backs_with_replacement job xs) ≡ []) [
          | true ↦ λ y.
              let same : m.user ≡ x.user = one m.user x.user h.0.on k.0.on e (and_right x.back _ y) in
              let lt : m.since < x.since = l.0 in
              let eq : m.since ≡ x.since = h.0.since ∙ ap (λ u. (user_at d u).since) same ∙ sym k.0.since in
              absurd (omega arith)
          | false ↦ λ y. none xs e k.1 l.1
        ] refl

-- what is to run after a Back
pub runs-back : (job : Job) (f : ℕ) (runs : FuncNo) (m : Visit) (ms : List Visit) → m.back ≡ true → runs.0 ≡ replacement job f (backs_with_replacement job ms)
    → (runs_after runs (spec_at job m.user).ipmodify).0 ≡ replacement job f (backs_with_replacement job (m ∷ ms))
runs-back job f runs m ms back h = by (spec_at job m.user).ipmodify refl
  where
    by : (o : Option FuncNo) → (spec_at job m.user).ipmodify ≡ o → (runs_after runs (spec_at job m.user).ipmodify).0 ≡ replacement job f (backs_with_replacement job (m ∷ ms))
    by None e = let r : replaces job m ≡ false = rw e (and-false m.back) in rw r (rw e h)
    by (Some g) e = let r : replaces job m ≡ true = rw e (ap (λ b. b && true) back) in rw r (rw e refl)

-- and after a refusal
pub runs-refuse : (job : Job) (f : ℕ) (runs : FuncNo) (m : Visit) (ms : List Visit) → m.back ≡ false → runs.0 ≡ replacement job f (backs_with_replacement job ms)
    → runs.0 ≡ replacement job f (backs_with_replacement job (m ∷ ms))
runs-refuse job f runs m ms back h = let r : replaces job m ≡ false = ap (λ b. b && is_some (spec_at job m.user).ipmodify) back in rw r h

-- ## frames

among-snoc : (m : Visit) (xs : List FrameUser) (y : FrameUser) → is_among m xs ≡ true → is_among m (xs ++ y ∷ []) ≡ true
among-snoc m [] y h = false_true h
among-snoc m (x ∷ xs) y h =
    elim (is_user_of m x) as (λ b. (b || is_among m xs) ≡ true → (b || is_among m (xs ++ y ∷ [])) ≡ true) [ true ↦ λ e. refl | false ↦ λ e. among-snoc m xs y e ] h

among-last : (m : Visit) (xs : List FrameUser) (y : FrameUser) → is_user_of m y ≡ true → is_among m (xs ++ y ∷ []) ≡ true
among-last m [] y h = rw h refl
among-last m (x ∷ xs) y h = rw (among-last m xs y h, or-true (is_user_of m x)) refl

rises-snoc : (xs : List FrameUser) (y : FrameUser) → Rises xs → Each (λ x. x.entry < y.entry) xs → Rises (xs ++ y ∷ [])
rises-snoc [] y h k = (tt, tt)
rises-snoc (x ∷ xs) y h k = (Each-snoc (λ z. x.entry < z.entry) xs y h.0 k.0, rises-snoc xs y h.1 k.1)

not_nil-snoc : (xs : List FrameUser) (y : FrameUser) → not (is_nil (xs ++ y ∷ [])) ≡ true
not_nil-snoc [] y = refl
not_nil-snoc (x ∷ xs) y = refl

owed-more : (job : Job) (m : Visit) (ms : List Visit) (xs : List FrameUser) → Each (IsOwed job ms) xs → Each (IsOwed job (m ∷ ms)) xs
owed-more job m ms xs h = Each-weaker (IsOwed job ms) (IsOwed job (m ∷ ms)) xs (λ x o. (o.0, Contains-more m o.0 ms o.1, o.2, o.3, o.4, o.5)) h

-- a visit without a frame that stays
pub frame-none : (job : Job) (m : Visit) (ms : List Visit) (xs : List FrameUser) → keeps_frame job m ≡ false → FrameOf job ms xs → FrameOf job (m ∷ ms) xs
frame-none job m ms xs e h = record {
  owed = owed-more job m ms xs h.owed;
  all = (λ x. false_true (sym e ∙ rw (x.1, x.2) refl), h.all);
  rises = h.rises;
  kept = rw e h.kept;
}

abbrev pub user_of : Visit → FrameUser
user_of m = record { user = m.user; reg = m.reg; entry = m.place }

-- a Back with a frame that stays
pub frame-joined : (job : Job) (m : Visit) (ms : List Visit) (xs : List FrameUser) → m.back ≡ true → keeps_frame job m ≡ true → Each (λ x. x.entry < m.place) xs
    → FrameOf job ms xs → FrameOf job (m ∷ ms) (xs ++ user_of m ∷ [])
frame-joined job m ms xs back e below h = record {
  owed = Each-snoc (IsOwed job (m ∷ ms)) xs (user_of m) (owed-more job m ms xs h.owed) (m, Contains-head m ms, refl, refl, refl, has_exit');
  all = (
    λ x. among-last m xs (user_of m) (rw (==-refl m.user, ==-refl m.reg, ==-refl m.place) refl),
    Each-weaker (λ y. HasExit job y → is_among y xs ≡ true) (λ y. HasExit job y → is_among y (xs ++ user_of m ∷ []) ≡ true) ms (λ y f x. among-snoc y xs (user_of m) (f x)) h.all,
  );
  rises = rises-snoc xs (user_of m) h.rises below;
  kept = rw (e, not_nil-snoc xs (user_of m)) refl;
}
  where
    not_true : (b : Bool) → not b ≡ true → b ≡ false
    not_true true x = false_true x
    not_true false x = refl

    split : (a b : Bool) → (a && not b) ≡ true → (a ≡ true) × (b ≡ false)
    split true b x = (refl, not_true b x)
    split false b x = false_true x

    has_exit' : HasExit job m
    has_exit' = let s = split m.framed (cancels (spec_at job m.user).kind) e in (back, s.0, s.1)
