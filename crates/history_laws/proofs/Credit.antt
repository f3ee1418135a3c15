-- What an open call can still make: a credit, which each item of its task pays down by one.
use Rattle.std.proofs.Common.{cond, if◌then◌else◌, ◌≡◌, ℕ, zero, suc, ◌+◌, ◌*◌, ◌<◌, ◌≤◌, Bool, true, false, not, ◌&&◌, ◌||◌, ◌==◌, List, [], ◌∷◌, length, Option, Some, None, is_some, refl, sym, ap, ◌∙◌, subst, arith, inl, inr}
use Rattle.std.specs.List.{list_any}
use Rattle.std.proofs.lemmas.Bool.Decides.{eqb_tells}
use Rattle.ft_base.specs.declared.item.Item.{Item}
use Rattle.ft_base.specs.Job.{Job}
use Rattle.ft_base.specs.Versions.{levels}
use Rattle.ft_base.specs.Desk.{spec_at}
use Rattle.ft_base.proofs.Small.{false_true, and_both}
use Rattle.ft_hist.specs.Past.{Visit, visits, exits}
use Rattle.ft_hist.specs.Plain.{Frame, Phase, Dispatch, InBack, Running, Leaving, InExit, Owed}

module _ (job : Job) where
  abbrev pub has_act : ℕ → Bool
  has_act u = is_some (spec_at job u).act

  -- what users below n cost, of those that have not been visited
  abbrev pub sum_of : (ℕ → ℕ) → (ℕ → Bool) → ℕ → ℕ
  sum_of cost seen zero = 0
  sum_of cost seen (suc n) = (if seen n then 0 else cost n) + sum_of cost seen n

  -- a user in a call whose acts have b items: Back, Miss, BackEnd, Exit, ExitEnd, and its act's call
  abbrev pub cost_with : ℕ → ℕ → ℕ
  cost_with b u = 5 + (if has_act u then b else 0)

  -- a call by the levels of acts that it may have in it: in one without any, each user is refused
  abbrev pub bound : ℕ → ℕ
  bound zero = 4 + length job.users
  bound (suc n) = 4 + sum_of (cost_with (bound n)) (λ u. false) (length job.users)

  abbrev pub cost : ℕ → ℕ → ℕ
  cost zero u = 1
  cost (suc n) u = cost_with (bound n) u

  abbrev pub seen_in : List Visit → ℕ → Bool
  seen_in ms u = list_any (λ m. m.user == u) ms

  -- the exits that these visits may still have
  abbrev pub exits_due : List Visit → List ℕ → ℕ
  exits_due [] es = 0
  exits_due (m ∷ ms) es = (if m.back && not (list_any (λ e. e == m.place) es) then 2 else 0) + exits_due ms es

  abbrev pub owing : ℕ → Option Owed → ℕ
  owing b None = 0
  owing b (Some o) = b

  -- what a phase leaves to come: of levels of acts below it, the call of an act has b items
  abbrev pub phase_due : ℕ → Phase → ℕ
  phase_due b Dispatch = 3
  phase_due b (InBack u owed fresh) = 4 + (if fresh then 1 else 0) + owing b owed
  phase_due b Running = 2
  phase_due b Leaving = 1
  phase_due b (InExit u) = 2

  -- the bound of an act's call in a call of this level
  abbrev pub inner : ℕ → ℕ
  inner zero = 0
  inner (suc n) = bound n

  -- what a call may still make
  abbrev pub call_due : ℕ → Phase → List Visit → List ℕ → ℕ
  call_due n phase ms es = phase_due (inner n) phase + (sum_of (cost n) (seen_in ms) (length job.users) + exits_due ms es)

  abbrev pub pred : ℕ → ℕ
  pred zero = 0
  pred (suc n) = n

  -- the levels of acts that a call may have in it: in a scripted one as many as the guards of two contexts have levels, and one less in
  -- one that an act makes
  abbrev pub level : List Frame → ℕ
  level [] = 2 * levels job
  level (f ∷ below) = if f.scripted then 2 * levels job else pred (level below)

  abbrev pub frame_due : List Item → ℕ → Frame → ℕ
  frame_due past n f = call_due n f.phase (visits job f.call past) (exits f.call past)

  abbrev pub due : List Item → List Frame → ℕ
  due past [] = 0
  due past (f ∷ below) = frame_due past (level (f ∷ below)) f + due past below

  -- ## sums

  sum-seen : (cost : ℕ → ℕ) (seen : ℕ → Bool) (u n : ℕ) → sum_of cost (λ v. (u == v) || seen v) n ≤ sum_of cost seen n
  sum-seen cost seen u zero = omega arith
  sum-seen cost seen u (suc n) = let more = sum-seen cost seen u n in by (u == n) (seen n) more
    where
      by : (a b : Bool) → sum_of cost (λ v. (u == v) || seen v) n ≤ sum_of cost seen n
          → (cond (a || b) 0 (cost n)) + sum_of cost (λ v. (u == v) || seen v) n ≤ (cond b 0 (cost n)) + sum_of cost seen n
      by true true h = omega (arith, h)
      by true false h = omega (arith, h)
      by false true h = omega (arith, h)
      by false false h = omega (arith, h)

  -- a user that is visited now costs no more
  pub sum-visit : (cost : ℕ → ℕ) (seen : ℕ → Bool) (u n : ℕ) → u < n → seen u ≡ false → cost u + sum_of cost (λ v. (u == v) || seen v) n ≤ sum_of cost seen n
  sum-visit cost seen u zero lt un = absurd (omega (arith, lt))
  sum-visit cost seen u (suc n) lt un = elim (eqb_tells u n) [
    | inl e ↦ (let more = sum-seen cost seen u n in
        let here : seen n ≡ false = subst (λ k. seen k ≡ false) e.1 un in
        let same : cost u ≡ cost n = ap cost e.1 in
        rw (e.0, here) (omega (arith, more, same)))
    | inr e ↦ (let ne = e.1 in
        let more = sum-visit cost seen u n (below u n lt ne) un in
        rw e.0 (by (seen n) more))
  ]
    where
      below : (a b : ℕ) → a < suc b → (a ≡ b → ⊥) → a < b
      below a b l ne = omega (arith, l, ne)

      by : (b : Bool) → cost u + sum_of cost (λ v. (u == v) || seen v) n ≤ sum_of cost seen n
          → cost u + ((cond b 0 (cost n)) + sum_of cost (λ v. (u == v) || seen v) n) ≤ (cond b 0 (cost n)) + sum_of cost seen n
      by true h = omega (arith, h)
      by false h = omega (arith, h)

  -- ## exits

  exits-more : (ms : List Visit) (e : ℕ) (es : List ℕ) → exits_due ms (e ∷ es) ≤ exits_due ms es
  exits-more [] e es = omega arith
  exits-more (m ∷ ms) e es = let more = exits-more ms e es in by m.back (e == m.place) (list_any (λ x. x == m.place) es) more
    where
      by : (a b c : Bool) → exits_due ms (e ∷ es) ≤ exits_due ms es → (cond (a && not (b || c)) 2 0) + exits_due ms (e ∷ es) ≤ (cond (a && not c) 2 0) + exits_due ms es
      by true true true h = omega (arith, h)
      by true true false h = omega (arith, h)
      by true false true h = omega (arith, h)
      by true false false h = omega (arith, h)
      by false true true h = omega (arith, h)
      by false true false h = omega (arith, h)
      by false false true h = omega (arith, h)
      by false false false h = omega (arith, h)

  -- an exit of one of the visits that had none
  pub exits-one : (ms : List Visit) (e : ℕ) (es : List ℕ) → list_any (λ m. m.back && (e == m.place)) ms ≡ true → list_any (λ x. x == e) es ≡ false → 2 + exits_due ms (e ∷ es) ≤ exits_due ms es
  exits-one [] e es some none = false_true some
  exits-one (m ∷ ms) e es some none = by (m.back && (e == m.place)) refl some (exits-one ms e es) (exits-more ms e es)
    where
      at : (a c : Bool) → a ≡ true → (e == m.place) ≡ true → list_any (λ x. x == m.place) es ≡ c → exits_due ms (e ∷ es) ≤ exits_due ms es
          → 2 + ((cond (a && not ((e == m.place) || c)) 2 0) + exits_due ms (e ∷ es)) ≤ (cond (a && not c) 2 0) + exits_due ms es
      at false c x y z h = false_true x
      at true true x y z h = let is = eqb_is y in false_true (sym (subst (λ k. list_any (λ x. x == k) es ≡ false) is none) ∙ z)
        where
          eqb_is : (e == m.place) ≡ true → e ≡ m.place
          eqb_is q = elim (eqb_tells e m.place) [ inl t ↦ t.1 | inr t ↦ false_true (sym t.0 ∙ q) ]
      at true false x y z h = rw y (omega (arith, h))

      by : (b : Bool) → (m.back && (e == m.place)) ≡ b → (b || list_any (λ n. n.back && (e == n.place)) ms) ≡ true
          → (list_any (λ n. n.back && (e == n.place)) ms ≡ true → list_any (λ x. x == e) es ≡ false → 2 + exits_due ms (e ∷ es) ≤ exits_due ms es)
          → exits_due ms (e ∷ es) ≤ exits_due ms es
          → 2 + ((cond (m.back && not ((e == m.place) || list_any (λ x. x == m.place) es)) 2 0) + exits_due ms (e ∷ es)) ≤ (cond (m.back && not (list_any (λ x. x == m.place) es)) 2 0) + exits_due ms es
      by true q x one more = let both = and_both m.back (e == m.place) q in at m.back (list_any (λ z. z == m.place) es) both.0 both.1 refl more
      by false q x one more = let rest = one x none in other m.back (e == m.place) (list_any (λ z. z == m.place) es) rest
        where
          other : (a b c : Bool) → 2 + exits_due ms (e ∷ es) ≤ exits_due ms es → 2 + ((cond (a && not (b || c)) 2 0) + exits_due ms (e ∷ es)) ≤ (cond (a && not c) 2 0) + exits_due ms es
          other true true true h = omega (arith, h)
          other true true false h = omega (arith, h)
          other true false true h = omega (arith, h)
          other true false false h = omega (arith, h)
          other false b c h = omega (arith, h)
