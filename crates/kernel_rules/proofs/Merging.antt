-- The visits and the exits of a call in a history: those that the lines tell, each at its place, and the refusals that the log lacks.
use Rattle.std.proofs.Common.{cond, ◌≡◌, ℕ, suc, ◌+◌, ◌-◌, ◌<◌, Bool, true, false, if◌then◌else◌, List, [], ◌∷◌, length, map, refl, ap, ◌∙◌, subst, arith, lt-ltb}
use Rattle.std.proofs.lemmas.List.{length-map}
use Rattle.std.specs.List.{AllByRecursion as Each}
use Rattle.ft_base.specs.declared.number.CallNo.{CallNo}
use Rattle.ft_base.specs.declared.item.Item.{Item}
use Rattle.ft_base.specs.declared.item.Item.TheVariants.{Back, Refuse, Miss, Body}
use Rattle.ft_base.specs.Same.{same_call}
use Rattle.ft_base.specs.Job.{Job}
use Rattle.ft_base.proofs.Small.{map-ext, Each-weaker}
use Rattle.ft_hist.specs.Past.{Visit, visit, all_visits, visits, held, user_now}
use Rattle.history_order.proofs.Visits.{visits-before}
use Rattle.kernel_rules.specs.declared.line.Line.{Line}
use Rattle.kernel_rules.specs.Recorded.{AreTold, Lacking, Marked, Told, history}
use Rattle.kernel_rules.specs.Direct.{item_of}
use Rattle.kernel_rules.proofs.Thinned.{Alike, alike, visit_as}
use Rattle.kernel_rules.proofs.Places.{IsDrawn, drawn, place_of, place-beyond, thin-told, told}

-- ## visits of two lists, in their order

pub data Merge : List Visit → List Visit → List Visit → Type 0 where
  merged_none : Merge [] [] []
  merged_left : {m : Visit} {xs ys zs : List Visit} → Merge xs ys zs → Merge (m ∷ xs) ys (m ∷ zs)
  merged_right : {m : Visit} {xs ys zs : List Visit} → Merge xs ys zs → Merge xs (m ∷ ys) (m ∷ zs)

-- what holds of both lists holds of the merged one
pub merge-both : (P : Visit → Type 0) {xs ys zs : List Visit} → Merge xs ys zs → Each P xs → Each P ys → Each P zs
merge-both P merged_none p q = tt
merge-both P (merged_left h) p q = (p.0, merge-both P h p.1 q)
merge-both P (merged_right h) p q = (q.0, merge-both P h p q.1)

-- and the other way round
pub merge-parts : (P : Visit → Type 0) {xs ys zs : List Visit} → Merge xs ys zs → Each P zs → Each P xs × Each P ys
merge-parts P merged_none r = (tt, tt)
merge-parts P (merged_left h) r = let w = merge-parts P h r.1 in ((r.0, w.0), w.1)
merge-parts P (merged_right h) r = let w = merge-parts P h r.1 in (w.0, (r.0, w.1))

-- a visit at the place of its line
abbrev pub at_place : List Marked → Visit → Visit
at_place past m = record m { place = place_of past m.place }

-- the lines are as many as what is told
pub told-length : (lines : List Line) (past : List Marked) → AreTold lines past → length lines ≡ told past
unfolding AreTold
told-length lines [] t = rw t refl
told-length lines (Lacking item ∷ past) t = told-length lines past t.1
told-length [] (Told item ∷ past) t = absurd t
told-length (line ∷ lines) (Told item ∷ past) t = ap suc (told-length lines past t.1)

-- and so are their items
pub item-length : (lines : List Line) (past : List Marked) → AreTold lines past → length (map item_of lines) ≡ told past
item-length lines past t = length-map lines item_of ∙ told-length lines past t

module _ (job : Job) where
  -- the refusals of a call that the log lacks
  abbrev pub lacks : CallNo → List Marked → List Visit
  lacks c [] = []
  lacks c (Lacking (Refuse d u reason) ∷ past) = if same_call d c then visit job d u.0 (history past) (all_visits job (history past)) false ∷ lacks c past else lacks c past
  lacks c (_ ∷ past) = lacks c past

  -- a visit reads the same of its user
  pub user-alike : (c : CallNo) (u : ℕ) (past past' : List Item) → Alike job past past' → user_now job c u past ≡ user_now job c u past'
  user-alike c u past past' a = rw (a.entered' c, a.done', a.begun') refl

  module _ (c : CallNo) where
    module _ (lines : List Line) (past : List Marked) (t : AreTold lines past) where
      -- the items of the lines
      abbrev xs : List Item
      xs = map item_of lines

      -- they are like the history
      abbrev same : Alike job xs (history past)
      same = alike job xs (history past) (thin-told lines past t)

      -- the place of the next line is the end of the history
      next-place : place_of past (length xs) ≡ length (history past)
      next-place =
          let n : length xs ≡ told past = item-length lines past t in
          let h : place_of past (length xs) ≡ length past + (length xs - told past) = place-beyond past (length xs) (omega (arith, n)) in
          let l : length (history past) ≡ length past = length-map past _ in
          omega (arith, n, h, l)

      -- a visit that is told is that of its line
      pub visit-drawn : (d : CallNo) (u : ℕ) (back : Bool) → at_place past (visit job d u xs (all_visits job xs) back) ≡ visit job d u (history past) (all_visits job (history past)) back
      visit-drawn d u back =
          ap (λ (n : ℕ). visit_as job d u back (user_now job d u xs).reg (user_now job d u xs).since n (held job d xs)) next-place
          ∙ ap (λ s. visit_as job d u back s.reg s.since (length (history past)) (held job d xs)) (user-alike d u xs (history past) same)
          ∙ ap (λ (n : ℕ). visit_as job d u back (user_now job d u (history past)).reg (user_now job d u (history past)).since (length (history past)) n) (same.held' d)

      -- an item that the log lacks moves no line that is there
      pub same-places : (item : Item) → map (at_place (Lacking item ∷ past)) (visits job c xs) ≡ map (at_place past) (visits job c xs)
      same-places item =
          map-ext (at_place (Lacking item ∷ past)) (at_place past) (visits job c xs)
          (Each-weaker (λ m. m.place < length xs) (λ m. at_place (Lacking item ∷ past) m ≡ at_place past m) (visits job c xs)
          (λ m lt. rw (lt-ltb m.place (told past) (let n : length xs ≡ told past = item-length lines past t in omega (arith, n, lt))) refl) (visits-before job c xs))

    -- one more visit that is told
    left : (b : Bool) (m m' : Visit) (ms ys zs : List Visit) (f : Visit → Visit) → f m ≡ m' → Merge (map f ms) ys zs → Merge (map f (cond b (m ∷ ms) ms)) ys (cond b (m' ∷ zs) zs)
    left true m m' ms ys zs f e h = subst (λ (x : Visit). Merge (f m ∷ map f ms) ys (x ∷ zs)) e (merged_left h)
    left false m m' ms ys zs f e h = h

    -- one more that lacks
    right : (b : Bool) (m : Visit) (ms ys zs : List Visit) → Merge ms ys zs → Merge ms (cond b (m ∷ ys) ys) (cond b (m ∷ zs) zs)
    right true m ms ys zs h = merged_right h
    right false m ms ys zs h = h

    -- the visits of a history are those that are told and those that lack
    abbrev IsMerged : List Line → List Marked → Type 0
    IsMerged lines past = Merge (map (at_place past) (visits job c (map item_of lines))) (lacks c past) (visits job c (history past))

    -- an item that is told
    merge-told : (line : Line) (lines : List Line) (item : Item) (past : List Marked) → AreTold lines past → IsDrawn past (item_of line) item → IsMerged lines past
        → Merge (map (at_place past) (visits job c (item_of line ∷ map item_of lines))) (lacks c past) (visits job c (item ∷ history past))
    unfolding all_visits
    merge-told line lines (Back d u) past t e h =
        rw e (left (same_call d c) _ _ (visits job c (map item_of lines)) (lacks c past) (visits job c (history past)) (at_place past) (visit-drawn lines past t d u.0 true) h)
    merge-told line lines (Refuse d u reason) past t e h =
        rw e (left (same_call d c) _ _ (visits job c (map item_of lines)) (lacks c past) (visits job c (history past)) (at_place past) (visit-drawn lines past t d u.0 false) h)
    merge-told line lines (Body d g ran) past t e h = rw (e.1) h
    merge-told line lines _ past t e h = rw e h

    -- so it is in each history that the lines tell
    pub merged : (lines : List Line) (past : List Marked) → AreTold lines past → IsMerged lines past
    unfolding AreTold all_visits
    merged lines [] t = rw t merged_none
    merged lines (Lacking (Refuse d u reason) ∷ past) t =
        right (same_call d c) (visit job d u.0 (history past) (all_visits job (history past)) false) (map (at_place (Lacking (Refuse d u reason) ∷ past)) (visits job c (map item_of lines))) (lacks c past) (visits job c (history past))
        (rw (same-places lines past t.1 (Refuse d u reason)) (merged lines past t.1))
    merged lines (Lacking (Miss d u) ∷ past) t = rw (same-places lines past t.1 (Miss d u)) (merged lines past t.1)
    merged lines (Lacking item ∷ past) t = absurd t.0
    merged [] (Told item ∷ past) t = absurd t
    merged (line ∷ lines) (Told item ∷ past) t = merge-told line lines item past t.1 (drawn past line item t.0) (merged lines past t.1)

    -- what is lacking is no entry callback
    pub lacks-none : (past : List Marked) → Each (λ m. m.back ≡ false) (lacks c past)
    lacks-none [] = tt
    lacks-none (Lacking (Refuse d u reason) ∷ past) = by (same_call d c) (lacks-none past)
      where
        by : (b : Bool) → Each (λ m. m.back ≡ false) (lacks c past) → Each (λ m. m.back ≡ false) (cond b (visit job d u.0 (history past) (all_visits job (history past)) false ∷ lacks c past) (lacks c past))
        by true h = (refl, h)
        by false h = h
    lacks-none (_ ∷ past) = lacks-none past
