-- The frame of a call has room for the user that is called next: the frame's users are among those visited, each of them once.
use Rattle.std.proofs.Common.{cond, ◌≡◌, ℕ, ◌<◌, ◌≤◌, Bool, true, false, ◌==◌, List, [], ◌∷◌, length, map, refl, sym, ap, ◌∙◌, subst, arith, inl, inr, eqb-true}
use Rattle.std.specs.Prelude.{Contains, eqb}
use Rattle.std.specs.List.{list_any, IsDistinct, AllByRecursion as Each}
use Rattle.std.proofs.lemmas.Bool.Decides.{nat_tests}
use Rattle.std.proofs.lemmas.Cmp.{nat_eq_equiv}
use Rattle.std.proofs.lemmas.List.{length-map}
use Rattle.std.proofs.lemmas.List.Folds.{list_any_at}
use Rattle.std.proofs.lemmas.Map.Made.{length-le_from_is_member}
use Rattle.std.proofs.lemmas.Map.Steps.{length-le_from_distinct_below}
use Rattle.ft_base.specs.declared.number.CallNo.{CallNo}
use Rattle.ft_base.specs.declared.item.Item.{Item}
use Rattle.ft_base.specs.declared.item.Item.TheVariants.{Back, Refuse}
use Rattle.ft_base.specs.Same.{same_call}
use Rattle.ft_base.specs.Job.{Job}
use Rattle.ft_base.specs.Desk.{desk}
use Rattle.ft_base.specs.Order.{IsOrder}
use Rattle.ft_base.specs.WellFormed.{IsWellFormed}
use Rattle.ft_base.proofs.Small.{false_true, or-false_both, or-true_either, ==-refl}
use Rattle.ft_hist.specs.Past.{Entered, Visit, visit, all_visits, visits, entry_of}
use Rattle.ft_hist.specs.Frames.{FrameUser, IsOwed, Rises, FrameOf}
use Rattle.ft_hist.specs.Rules.{IsLegalPast, IsUnvisited, MayVisit}
use Rattle.ft_hist.proofs.RunLaws.{same_call-eq}
use Rattle.ft_hist.proofs.CallSo.{entry-is}
use Rattle.word_machine.specs.Task.{OpenCall, Calling, around}
use Rattle.word_machine.specs.UserList.{list_desk}
use Rattle.word_machine.specs.Verdicts.{Here, Dispatches}
use Rattle.word_machine.specs.Rule.{Counts, IsWordJob}
use Rattle.word_machine.proofs.Small.{any-map, lower-apart}
use Rattle.word_machine_laws.proofs.Visiting.{may_meet}
use Rattle.word_machine_laws.proofs.There.{either-inside, visited-inside}

-- ## the users of a frame are no more than those visited

-- the places of the Backs of a frame's users
abbrev entries : List FrameUser → List ℕ
entries xs = map (λ (x : FrameUser). x.entry) xs

-- the places of visits
abbrev places : List Visit → List ℕ
places ms = map (λ (m : Visit). m.place) ms

-- no two entries are equal, since they rise
entries-apart : (xs : List FrameUser) → Rises xs → IsDistinct eqb (entries xs)
unfolding IsDistinct
entries-apart [] r = tt
entries-apart (x ∷ xs) r = (above xs r.0, entries-apart xs r.1)
  where
    above : (ys : List FrameUser) → Each (λ (y : FrameUser). x.entry < y.entry) ys → Each (λ y. eqb x.entry y ≡ false) (entries ys)
    above [] h = tt
    above (y ∷ ys) h = (lower-apart x.entry y.entry h.0, above ys h.1)

-- each is the place of a visit
owed-places : (job : Job) (ms : List Visit) (xs : List FrameUser) → Each (IsOwed job ms) xs → (q : ℕ) → list_any (eqb q) (entries xs) ≡ true
    → list_any (eqb q) (places ms) ≡ true
owed-places job ms [] h q e = false_true e
owed-places job ms (x ∷ xs) h q e = elim (or-true_either (eqb q x.entry) (list_any (eqb q) (entries xs)) e) [
  | inl here ↦ at h.0.0 h.0.1 (eqb-true q x.entry here ∙ sym h.0.3)
  | inr there ↦ owed-places job ms xs h.1 q there
]
  where
    at : (m : Visit) → Contains ms m → q ≡ m.place → list_any (eqb q) (places ms) ≡ true
    at m c same = any-map (eqb q) (λ (y : Visit). y.place) ms
        ∙ list_any_at (λ (y : Visit). eqb q y.place) ms c.0 m c.1 (subst (λ (y : Visit). eqb q y.place ≡ true) (sym c.2) (rw same (==-refl m.place)))

frame-few : (job : Job) (ms : List Visit) (xs : List FrameUser) → FrameOf job ms xs → length xs ≤ length ms
frame-few job ms xs f =
    let le = length-le_from_is_member nat_eq_equiv (entries xs) (places ms) (entries-apart xs f.rises) (owed-places job ms xs f.owed) in
    let a = length-map xs (λ (x : FrameUser). x.entry) in
    let b = length-map ms (λ (m : Visit). m.place) in
    omega (arith, le, a, b)

-- ## those visited, and one who was not, are no more than the users

-- the users of visits
abbrev users : List Visit → List ℕ
users ms = map (λ (m : Visit). m.user) ms

unvisited-apart : (u : ℕ) (ms : List Visit) → list_any (λ (m : Visit). m.user == u) ms ≡ false → Each (λ v. eqb u v ≡ false) (users ms)
unvisited-apart u [] e = tt
unvisited-apart u (m ∷ ms) e =
    let both = or-false_both (m.user == u) (list_any (λ (x : Visit). x.user == u) ms) e in (turned m.user u both.0, unvisited-apart u ms both.1)
  where
    turned : (a b : ℕ) → (a == b) ≡ false → eqb b a ≡ false
    turned a b e = grind (arith, nat_tests)

below : (n : ℕ) (ms : List Visit) → Each (λ (m : Visit). m.user < n) ms → (q : ℕ) → list_any (eqb q) (users ms) ≡ true → q < n
below n [] h q e = false_true e
below n (m ∷ ms) h q e = elim (or-true_either (eqb q m.user) (list_any (eqb q) (users ms)) e) [
  | inl here ↦ subst (λ v. v < n) (sym (eqb-true q m.user here)) h.0
  | inr there ↦ below n ms h.1 q there
]

visits-few : (n u : ℕ) (ms : List Visit) → IsDistinct eqb (users ms) → list_any (λ (m : Visit). m.user == u) ms ≡ false → Each (λ (m : Visit). m.user < n) ms → u < n
    → length ms < n
unfolding IsDistinct
visits-few n u ms apart once inside lt =
    let le = length-le_from_distinct_below (u ∷ users ms) n (unvisited-apart u ms once, apart) within in
    let e = length-map ms (λ (m : Visit). m.user) in
    omega (arith, le, e)
  where
    within : (q : ℕ) → list_any (eqb q) (u ∷ users ms) ≡ true → q < n
    within q e = elim (or-true_either (eqb q u) (list_any (eqb q) (users ms)) e) [
      | inl here ↦ subst (λ v. v < n) (sym (eqb-true q u here)) lt
      | inr there ↦ below n ms inside q there
    ]

module _ (job : Job) where
  apart-one : (call c : CallNo) (u : ℕ) (past : List Item) (back : Bool) → IsUnvisited job c u past → IsDistinct eqb (users (visits job call past))
      → IsDistinct eqb (users (cond (same_call c call) (visit job c u past (all_visits job past) back ∷ visits job call past) (visits job call past)))
  unfolding IsDistinct
  apart-one call c u past back once h =
      elim (same_call c call) as (λ b. same_call c call ≡ b
      → IsDistinct eqb (users (cond b (visit job c u past (all_visits job past) back ∷ visits job call past) (visits job call past)))) [
        | true ↦ λ e. (unvisited-apart u (visits job call past) (subst (λ z. IsUnvisited job z u past) (same_call-eq c call e) once), h)
        | false ↦ λ e. h
      ] refl

  -- nobody is visited twice in a call
  visited-apart : (call : CallNo) (past : List Item) → IsLegalPast job past → IsDistinct eqb (users (visits job call past))
  unfolding IsLegalPast all_visits IsDistinct
  visited-apart call [] l = tt
  visited-apart call (Back c u ∷ past) l = apart-one call c u.0 past true l.0.callbacks.once (visited-apart call past l.1)
  visited-apart call (Refuse c u reason ∷ past) l = apart-one call c u.0 past false l.0.callbacks.once (visited-apart call past l.1)
  visited-apart call (_ ∷ past) l = visited-apart call past l.1

-- ## so there is room

frame-room : (job : Job) (ok : IsWellFormed job) (call : CallNo) (u : ℕ) (past : List Item) (xs : List FrameUser) → IsLegalPast job past
    → MayVisit job past call u → FrameOf job (visits job call past) xs → length xs < length job.users
frame-room job ok call u past xs legal may frame =
    let few = frame-few job (visits job call past) xs frame in
    let more = visits-few (length job.users) u (visits job call past) (visited-apart job call past legal) may.once (visited-inside job ok call past legal)
    (either-inside job ok past u (entry_of call past).func may.on) in
    omega (arith, few, more)

module _ (job : Job) (ok : IsWordJob job) (h : Here) (past : List Item) (clock : ℕ) (counts : Counts h.d h.p clock past) (legal : IsLegalPast job past)
    (ord : IsOrder (desk job (list_desk h.p h.d)) (list_desk h.p h.d) h.order) (ack q : ℕ) (c : OpenCall) (below : List OpenCall) where
  pub call-room : (u reg : ℕ) → Dispatches job h past ack q c below (Calling u reg) → length c.users < length job.users
  call-room u reg d =
      let e : Entered = record { ctx = c.ctx; func = c.func; caller = d.caller; from = d.from } in
      let known = entry-is job (around c below) c.call e past d.so.known in
      frame-room job ok.job' c.call u past c.users legal
      (may_meet job ok h q clock past counts legal ord c.ran c.call u reg c.func (ap (λ (y : Entered). y.func) known) d.at.2 d.at.1) d.so.frame
