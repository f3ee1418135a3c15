-- From words on a past to items and back: visits, exits, Leaves and open callbacks.
use Rattle.std.proofs.Common.{cond, ◌≡◌, ℕ, Bool, true, false, ◌&&◌, ◌||◌, ◌==◌, List, [], ◌∷◌, ◌++◌, length, reverse, refl, sym, ap, ◌∙◌, subst, eqb-true, inl, inr}
use Rattle.std.proofs.lemmas.List.Folds.{list_any-append}
use Rattle.std.proofs.lemmas.List.{reverse-append}
use Rattle.std.specs.List.{list_any, AllByRecursion as Each}
use Rattle.ft_base.specs.declared.number.CallNo.{CallNo}
use Rattle.ft_base.specs.declared.item.Item.{Item}
use Rattle.ft_base.specs.declared.item.Item.TheVariants.{Back, BackEnd, Refuse, Exit, ExitEnd}
use Rattle.ft_base.specs.Same.{same_call}
use Rattle.ft_base.specs.declared.number.UserNo.{UserNo}
use Rattle.ft_base.specs.Job.{Job}
use Rattle.ft_base.specs.Desk.{desk, user_at}
use Rattle.ft_base.proofs.Small.{false_true, and_both, or-true, or-true_either, or-false_both, Each-weaker}
use Rattle.ft_hist.specs.Past.{Callback, callbacks, ended, Visit, visit, all_visits, visits, registration_at, gets_frame, exits}
use Rattle.ft_hist.specs.Telling.{is_visit_by, is_begin_by, is_exit_for, is_end_by}
use Rattle.ft_hist.proofs.Laws.{same_call-refl}
use Rattle.ft_hist.proofs.RunLaws.{same_call-eq}

-- a test over a list is that over the list turned round
pub any-reverse : {X : Type 0} (p : X → Bool) (xs : List X) → list_any p (reverse xs) ≡ list_any p xs
any-reverse p [] = refl
any-reverse p (x ∷ xs) = ap (λ ys. list_any p ys) (reverse-append (x ∷ []) xs) ∙ list_any-append p (reverse xs) (x ∷ []) ∙ swap (list_any p (reverse xs)) (p x) ∙ ap (λ b. p x || b) (any-reverse p xs)
  where
    swap : (a b : Bool) → (a || (b || false)) ≡ (b || a)
    swap true true = refl
    swap true false = refl
    swap false true = refl
    swap false false = refl

module _ (job : Job) (call : CallNo) (u : ℕ) where
  -- the user is among those visited in the call
  abbrev pub Visited : List Item → Type 0
  Visited past = list_any (λ m. m.user == u) (visits job call past) ≡ true

  one-more : (m : Visit) (b : Bool) (ms : List Visit) → list_any (λ m. m.user == u) ms ≡ true → list_any (λ m. m.user == u) (cond b (m ∷ ms) ms) ≡ true
  one-more m true ms h = rw h (or-true (m.user == u))
  one-more m false ms h = h

  pub visited-more : (item : Item) (past : List Item) → Visited past → Visited (item ∷ past)
  unfolding all_visits
  visited-more (Back c v) past h = one-more (visit job c v.0 past (all_visits job past) true) (same_call c call) (visits job call past) h
  visited-more (Refuse c v reason) past h = one-more (visit job c v.0 past (all_visits job past) false) (same_call c call) (visits job call past) h
  visited-more _ past h = h

  pub visited-now : (item : Item) (past : List Item) → is_visit_by call u item ≡ true → Visited (item ∷ past)
  unfolding all_visits
  visited-now (Back c v) past h = let both = and_both (same_call c call) (v.0 == u) h in rw (both.0, both.1) refl
  visited-now (Refuse c v reason) past h = let both = and_both (same_call c call) (v.0 == u) h in rw (both.0, both.1) refl
  visited-now _ past h = false_true h

  pub visited-since : (newer : List Item) (item : Item) (past : List Item) → is_visit_by call u item ≡ true → Visited (newer ++ item ∷ past)
  visited-since [] item past h = visited-now item past h
  visited-since (x ∷ newer) item past h = visited-more x (newer ++ item ∷ past) (visited-since newer item past h)

  by-one : (m : Visit) (same : Bool) (own : ℕ) (ms : List Visit) (rest : Bool) → m.user ≡ own → list_any (λ m. m.user == u) (cond same (m ∷ ms) ms) ≡ true → (list_any (λ m. m.user == u) ms ≡ true → rest ≡ true)
      → ((same && (own == u)) || rest) ≡ true
  by-one m true own ms rest is h more = elim (or-true_either (m.user == u) (list_any (λ m. m.user == u) ms) h) [
    | inl e ↦ rw (sym is, e) refl
    | inr e ↦ rw (more e) (or-true (own == u))
  ]
  by-one m false own ms rest is h more = more h

  -- whoever is visited and was not so far has an item
  pub visited-by-item : (newer past : List Item) → visits job call past ≡ [] → Visited (newer ++ past) → list_any (is_visit_by call u) newer ≡ true
  unfolding all_visits
  visited-by-item [] past none h = false_true (rw none at h)
  visited-by-item (Back c v ∷ newer) past none h =
      by-one (visit job c v.0 (newer ++ past) (all_visits job (newer ++ past)) true) (same_call c call) v.0 (visits job call (newer ++ past)) (list_any (is_visit_by call u) newer) refl h (visited-by-item newer past none)
  visited-by-item (Refuse c v reason ∷ newer) past none h =
      by-one (visit job c v.0 (newer ++ past) (all_visits job (newer ++ past)) false) (same_call c call) v.0 (visits job call (newer ++ past)) (list_any (is_visit_by call u) newer) refl h (visited-by-item newer past none)
  visited-by-item (_ ∷ newer) past none h = visited-by-item newer past none h

-- ## callbacks that are open

module _ (call : CallNo) (u : ℕ) where
  -- a callback of the user in the call is open
  abbrev pub is_open_by : Callback → Bool
  is_open_by b = same_call b.call call && (b.user == u)

  abbrev pub Opened : List Item → Type 0
  Opened past = list_any is_open_by (callbacks past) ≡ true

  one-less : (c : CallNo) (v : ℕ) (bs : List Callback) → (same_call c call && (v == u)) ≡ false → list_any is_open_by bs ≡ true → list_any is_open_by (ended c v bs) ≡ true
  one-less c v [] other h = h
  one-less c v (b ∷ bs) other h = by (same_call b.call c && (b.user == v)) refl (λ x. one-less c v bs other x)
    where
      by : (same : Bool) → (same_call b.call c && (b.user == v)) ≡ same → (list_any is_open_by bs ≡ true → list_any is_open_by (ended c v bs) ≡ true) → list_any is_open_by (cond same bs (b ∷ ended c v bs)) ≡ true
      by true e more =
          let both = and_both (same_call b.call c) (b.user == v) e in
          let is : b.call ≡ c = same_call-eq b.call c both.0 in
          let user : b.user ≡ v = eqb-true b.user v both.1 in
          let not_it : is_open_by b ≡ false = rw (is, user) other in
          elim (or-true_either (is_open_by b) (list_any is_open_by bs) h) [ inl x ↦ false_true (sym not_it ∙ x) | inr x ↦ x ]
      by false e more = elim (or-true_either (is_open_by b) (list_any is_open_by bs) h) [
        | inl x ↦ rw x refl
        | inr x ↦ rw (more x) (or-true (is_open_by b))
      ]

  opened-more : (item : Item) (past : List Item) → is_end_by call u item ≡ false → Opened past → Opened (item ∷ past)
  opened-more (Back c v) past other h = rw h (or-true _)
  opened-more (Exit c v e) past other h = rw h (or-true _)
  opened-more (BackEnd c v) past other h = one-less c v.0 (callbacks past) other h
  opened-more (ExitEnd c v) past other h = one-less c v.0 (callbacks past) other h
  opened-more _ past other h = h

  -- a callback that has begun and has no end yet is open
  pub opened-since : (newer past : List Item) → list_any (is_end_by call u) newer ≡ false → Opened past → Opened (newer ++ past)
  opened-since [] past none h = h
  opened-since (x ∷ newer) past none h =
      let both = or-false_both (is_end_by call u x) (list_any (is_end_by call u) newer) none in
      opened-more x (newer ++ past) both.0 (opened-since newer past both.1 h)

  -- and then the user is being called
  pub opened-called : (bs : List Callback) → list_any is_open_by bs ≡ true → list_any (λ b. b.user == u) bs ≡ true
  opened-called [] h = false_true h
  opened-called (b ∷ bs) h = elim (or-true_either (is_open_by b) (list_any is_open_by bs) h) [
    | inl x ↦ rw (and_both (same_call b.call call) (b.user == u) x).1 refl
    | inr x ↦ rw (opened-called bs x) (or-true (b.user == u))
  ]

module _ (call : CallNo) (u : ℕ) where
  -- a callback that begins is open
  pub opened-now : (item : Item) (past : List Item) → is_begin_by call u item ≡ true → list_any (is_open_by call u) (callbacks (item ∷ past)) ≡ true
  opened-now (Back c v) past h = rw h refl
  opened-now (Exit c v e) past h = rw h refl
  opened-now _ past h = false_true h

-- ## entry callbacks and their exits

-- a later visit of the call, or of another
in-front : (b : Bool) (m : Visit) (ms rest : List Visit) → (later : List Visit) × (ms ≡ later ++ rest) → (later : List Visit) × (cond b (m ∷ ms) ms ≡ later ++ rest)
in-front true m ms rest h = (m ∷ h.0, ap (λ xs. m ∷ xs) h.1)
in-front false m ms rest h = h

pub Each-after : {X : Type 0} (P : X → Type 0) (xs ys : List X) → Each P (xs ++ ys) → Each P ys
Each-after P [] ys h = h
Each-after P (x ∷ xs) ys h = Each-after P xs ys h.1

module _ (job : Job) (call : CallNo) where
  -- an entry callback of the call is told by its item
  abbrev pub HasBack : Visit → List Item → Type 0
  HasBack m past = (newer : List Item) × (older : List Item) × (past ≡ newer ++ Back call (record { 0 = m.user }) ∷ older) × (m.place ≡ length older)
      × (m.reg ≡ (user_at (desk job (registration_at job call m.user older)) m.user).reg) × (m.framed ≡ gets_frame job call m.user older (all_visits job older))

  abbrev Told : List Item → List Visit → Type 0
  Told past ms = Each (λ m. m.back ≡ true → HasBack m past) ms

  told-more : (item : Item) (past : List Item) (ms : List Visit) → Told past ms → Told (item ∷ past) ms
  told-more item past ms h = Each-weaker (λ m. m.back ≡ true → HasBack m past) (λ m. m.back ≡ true → HasBack m (item ∷ past)) ms
      (λ m f e. let w = f e in (item ∷ w.0, w.1, ap (λ (xs : List Item). item ∷ xs) w.2, w.3, w.4, w.5)) h

  told-visit : (item : Item) (c : CallNo) (m : Visit) (past : List Item) (ms : List Visit) → (same_call c call ≡ true → m.back ≡ true → HasBack m (item ∷ past)) → Told past ms → Told (item ∷ past) (cond (same_call c call) (m ∷ ms) ms)
  told-visit item c m past ms own h = by (same_call c call) refl
    where
      by : (b : Bool) → same_call c call ≡ b → Told (item ∷ past) (cond b (m ∷ ms) ms)
      by true e = (own e, told-more item past ms h)
      by false e = told-more item past ms h

  pub told : (past : List Item) → Told past (visits job call past)
  unfolding all_visits
  told [] = tt
  told (Back c v ∷ past) = told-visit (Back c v) c (visit job c v.0 past (all_visits job past) true) past (visits job call past)
      (λ e b. let is : c ≡ call = same_call-eq c call e in ([], past, ap (λ (d : CallNo). Back d v ∷ past) is, refl, ap (λ (d : CallNo). (user_at (desk job (registration_at job d v.0 past)) v.0).reg) is, ap (λ (d : CallNo). gets_frame job d v.0 past (all_visits job past)) is)) (told past)
  told (Refuse c v reason ∷ past) = told-visit (Refuse c v reason) c (visit job c v.0 past (all_visits job past) false) past (visits job call past) (λ e b. false_true b) (told past)
  told (item ∷ past) = told-more item past (visits job call past) (told past)

  -- the visits of an older past are among those of a later one
  pub visits-older : (newer past : List Item) → (later : List Visit) × (visits job call (newer ++ past) ≡ later ++ visits job call past)
  unfolding all_visits
  visits-older [] past = ([], refl)
  visits-older (Back c v ∷ newer) past = in-front (same_call c call) (visit job c v.0 (newer ++ past) (all_visits job (newer ++ past)) true) (visits job call (newer ++ past)) (visits job call past) (visits-older newer past)
  visits-older (Refuse c v reason ∷ newer) past = in-front (same_call c call) (visit job c v.0 (newer ++ past) (all_visits job (newer ++ past)) false) (visits job call (newer ++ past)) (visits job call past) (visits-older newer past)
  visits-older (_ ∷ newer) past = visits-older newer past

  -- a callback or a refusal of the call is its latest visit
  pub visit-now : (u : ℕ) (x : Item) (past : List Item) → is_visit_by call u x ≡ true → (back : Bool) × (visits job call (x ∷ past) ≡ visit job call u past (all_visits job past) back ∷ visits job call past)
  unfolding all_visits
  visit-now u (Back c v) past h =
      let both = and_both (same_call c call) (v.0 == u) h in
      (true, rw both.0 (rw (same_call-eq c call both.0, eqb-true v.0 u both.1) refl))
  visit-now u (Refuse c v reason) past h =
      let both = and_both (same_call c call) (v.0 == u) h in
      (false, rw both.0 (rw (same_call-eq c call both.0, eqb-true v.0 u both.1) refl))
  visit-now u _ past h = false_true h

  -- so what holds of each visit of the call holds of it
  pub of-visit : (P : Visit → Type 0) (u : ℕ) (x : Item) (newer older : List Item) → is_visit_by call u x ≡ true → Each P (visits job call (newer ++ x ∷ older))
      → (back : Bool) × P (visit job call u older (all_visits job older) back)
  of-visit P u x newer older h all =
      let now = visit-now u x older h in
      let w = visits-older newer (x ∷ older) in
      (now.0, (subst (λ ms. Each P ms) now.1 (Each-after P w.0 (visits job call (x ∷ older)) (subst (λ ms. Each P ms) w.1 all))).0)

  pub of-back : (P : Visit → Type 0) (newer older : List Item) (user : UserNo) → Each P (visits job call (newer ++ Back call user ∷ older)) → P (visit job call user.0 older (all_visits job older) true)
  unfolding all_visits
  of-back P newer older user h =
      let w = visits-older newer (Back call user ∷ older) in
      (rw (same_call-refl call) at (Each-after P w.0 (visits job call (Back call user ∷ older)) (subst (λ ms. Each P ms) w.1 h))).0

  -- an exit that the call has had is told by its item
  pub exit-item : (entry : ℕ) (past : List Item) → list_any (λ e. e == entry) (exits call past) ≡ true → list_any (is_exit_for call entry) past ≡ true
  exit-item entry [] h = false_true h
  exit-item entry (Exit c v e ∷ past) h = by (same_call c call) h (exit-item entry past)
    where
      by : (b : Bool) → list_any (λ x. x == entry) (cond b (e ∷ exits call past) (exits call past)) ≡ true → (list_any (λ x. x == entry) (exits call past) ≡ true → list_any (is_exit_for call entry) past ≡ true)
          → ((b && (e == entry)) || list_any (is_exit_for call entry) past) ≡ true
      by true x more = elim (or-true_either (e == entry) (list_any (λ y. y == entry) (exits call past)) x) [ inl q ↦ rw q refl | inr q ↦ rw (more q) (or-true (e == entry)) ]
      by false x more = more x
  exit-item entry (_ ∷ past) h = exit-item entry past h
