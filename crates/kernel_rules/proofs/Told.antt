-- What a log's lines tell of a call's visits and exits is what the history has, but for the refusals that the log lacks.
use Rattle.std.proofs.Common.{cond, ◌≡◌, ℕ, suc, ◌<◌, Bool, true, false, ◌&&◌, ◌||◌, ◌==◌, nat_lt, List, [], ◌∷◌, length, map, is_some, Contains, refl, sym, ap, ap₂, ◌∙◌, subst, arith, ltb-true, ltb-false, eqb-true, lt-ltb}
use Rattle.std.proofs.lemmas.List.{length-map}
use Rattle.std.specs.List.{list_any, filter, AllByRecursion as Each}
use Rattle.ft_base.specs.declared.number.CallNo.{CallNo}
use Rattle.ft_base.specs.declared.item.Item.{Item}
use Rattle.ft_base.specs.declared.item.Item.TheVariants.{Refuse, Miss, Body, Exit}
use Rattle.ft_base.specs.declared.item.Ran.{Ran}
use Rattle.ft_base.specs.declared.item.Ran.TheVariants.{Nop, List as ByList, Own}
use Rattle.ft_base.specs.Same.{same_call}
use Rattle.ft_base.specs.Job.{Job}
use Rattle.ft_base.specs.Desk.{spec_at}
use Rattle.ft_base.proofs.Small.{Contains-head, Contains-more, Each-weaker, ==-refl, false_true, map-ext, or-false_both, same_test}
use Rattle.ft_hist.specs.Past.{Visit, all_visits, exits, visits}
use Rattle.ft_hist.specs.Rules.{IsUnvisited, OnlyThose, backs_with_replacement, replacement}
use Rattle.ft_hist.proofs.ExitItems.{each-of}
use Rattle.history_order.proofs.Visits.{visits-before}
use Rattle.kernel_rules.specs.declared.line.ExitOrder.{ExitOrder}
use Rattle.kernel_rules.specs.declared.line.ExitOrder.TheVariants.{AsEntered, Reversed}
use Rattle.kernel_rules.specs.declared.line.Line.{Line}
use Rattle.kernel_rules.specs.Rules.{ComesAfter, IsLegalPast}
use Rattle.kernel_rules.specs.Recorded.{AreTold, Lacking, Marked, Told, history, line_of}
use Rattle.kernel_rules.specs.Direct.{item_of}
use Rattle.kernel_rules.proofs.Thinned.{alike, backs, thinned, unplaced}
use Rattle.kernel_rules.proofs.Places.{IsDrawn, drawn, line-place, place-rises, place_of, told}
use Rattle.kernel_rules.proofs.Merging.{at_place, item-length, lacks, lacks-none, merge-both, merge-parts, merged}

-- ## lists

-- a fact of each image
pub each-map : {X Y : Type 0} (f : X → Y) (Q : Y → Type 0) (xs : List X) → Each (λ x. Q (f x)) xs → Each Q (map f xs)
each-map f Q [] h = tt
each-map f Q (x ∷ xs) h = (h.0, each-map f Q xs h.1)

-- and the other way round
pub each-unmap : {X Y : Type 0} (f : X → Y) (Q : Y → Type 0) (xs : List X) → Each Q (map f xs) → Each (λ x. Q (f x)) xs
each-unmap f Q [] h = tt
each-unmap f Q (x ∷ xs) h = (h.0, each-unmap f Q xs h.1)

-- a list contains each of its elements
pub each-contained : {X : Type 0} (xs : List X) → Each (λ x. Contains xs x) xs
each-contained [] = tt
each-contained (x ∷ xs) = (Contains-head x xs, Each-weaker (λ y. Contains xs y) (λ y. Contains (x ∷ xs) y) xs (λ y h. Contains-more x y xs h) (each-contained xs))

-- nobody passes
pub none-each : {X : Type 0} (p : X → Bool) (xs : List X) → list_any p xs ≡ false → Each (λ x. p x ≡ false) xs
none-each p [] h = tt
none-each p (x ∷ xs) h = let both = or-false_both (p x) (list_any p xs) h in (both.0, none-each p xs both.1)

-- and the other way round
pub each-none : {X : Type 0} (p : X → Bool) (xs : List X) → Each (λ x. p x ≡ false) xs → list_any p xs ≡ false
each-none p [] h = refl
each-none p (x ∷ xs) h = rw h.0 (each-none p xs h.1)

-- whether one of the images passes
pub any-map : {X Y : Type 0} (f : X → Y) (p : Y → Bool) (q : X → Bool) → ((x : X) → p (f x) ≡ q x) → (xs : List X) → list_any p (map f xs) ≡ list_any q xs
any-map f p q same [] = refl
any-map f p q same (x ∷ xs) = ap₂ (λ a b. a || b) (same x) (any-map f p q same xs)

-- a list of which nothing is an element
pub nothing : {X : Type 0} (xs : List X) → Each (λ x. ⊥) xs → xs ≡ []
nothing [] h = refl
nothing (x ∷ xs) h = absurd h.0

-- ## places of lines

-- lines rise with their places
pub lines-rise : (past : List Marked) (e f : ℕ) → place_of past e < place_of past f → e < f
lines-rise past e f lt = by (nat_lt e f) (nat_lt f e) refl refl
  where
    by : (b c : Bool) → nat_lt e f ≡ b → nat_lt f e ≡ c → e < f
    by true c p q = ltb-true e f p
    by false true p q = let back = place-rises past f e (ltb-true f e q) in absurd (omega (arith, back, lt))
    by false false p q =
        let a = ltb-false e f p in
        let b = ltb-false f e q in
        let same : e ≡ f = omega (arith, a, b) in
        let places : place_of past e ≡ place_of past f = ap (place_of past) same in
        absurd (omega (arith, places, lt))

-- two lines have the same place if they are the same
pub same-place : (past : List Marked) (e f : ℕ) → (place_of past e == place_of past f) ≡ (e == f)
same-place past e f = same_test _ _ to from
  where
    to : (place_of past e == place_of past f) ≡ true → (e == f) ≡ true
    to h =
        let places : place_of past e ≡ place_of past f = eqb-true (place_of past e) (place_of past f) h in
        let lines : e ≡ f = sym (line-place past e) ∙ ap (line_of past) places ∙ line-place past f in
        rw lines (==-refl f)

    from : (e == f) ≡ true → (place_of past e == place_of past f) ≡ true
    from h = let same : e ≡ f = eqb-true e f h in rw same (==-refl (place_of past f))

-- exits whose places are in order have lines in order
pub after-lines : (by : ExitOrder) (past : List Marked) (e f : ℕ) → ComesAfter by (place_of past e) (place_of past f) → ComesAfter by e f
after-lines AsEntered past e f h = lines-rise past f e h
after-lines Reversed past e f h = lines-rise past e f h

-- and the other way round
pub after-places : (by : ExitOrder) (past : List Marked) (e f : ℕ) → ComesAfter by e f → ComesAfter by (place_of past e) (place_of past f)
after-places AsEntered past e f h = place-rises past f e h
after-places Reversed past e f h = place-rises past e f h

module _ (job : Job) (c : CallNo) where
  module _ (lines : List Line) (past : List Marked) (t : AreTold lines past) where
    -- the items of the lines
    abbrev xs : List Item
    xs = map item_of lines

    -- ## visits

    -- a fact of each visit is one of those that are told, at their places, and of those that lack
    pub parts-of : (P : Visit → Type 0) → Each P (visits job c (history past)) → Each (λ m. P (at_place past m)) (visits job c xs) × Each P (lacks job c past)
    parts-of P h = let w = merge-parts P (merged job c lines past t) h in (each-unmap (at_place past) P (visits job c xs) w.0, w.1)

    -- and the other way round
    pub both-of : (P : Visit → Type 0) → Each (λ m. P (at_place past m)) (visits job c xs) → Each P (lacks job c past) → Each P (visits job c (history past))
    both-of P h k = merge-both P (merged job c lines past t) (each-map (at_place past) P (visits job c xs) h) k

    -- who is visited by no line, if by no item of the history
    pub once-down : (u : ℕ) → IsUnvisited job c u (history past) → IsUnvisited job c u xs
    once-down u h = each-none (λ m. m.user == u) (visits job c xs) (parts-of (λ m. (m.user == u) ≡ false) (none-each (λ m. m.user == u) (visits job c (history past)) h)).0

    -- an entry callback is told
    pub record ToldBy (m : Visit) : Type 0 where
      pub by : Visit
      pub there : Contains (visits job c xs) by
      pub same : at_place past by ≡ m

    -- so is each
    pub backs-told : Each (λ m. m.back ≡ true → ToldBy m) (visits job c (history past))
    backs-told =
        both-of (λ m. m.back ≡ true → ToldBy m)
        (Each-weaker (λ m. Contains (visits job c xs) m) (λ m. m.back ≡ true → ToldBy (at_place past m)) (visits job c xs) (λ m h _. record { by = m; there = h; same = refl }) (each-contained (visits job c xs)))
        (Each-weaker (λ m. m.back ≡ false) (λ m. m.back ≡ true → ToldBy m) (lacks job c past) (λ m no yes. false_true (sym no ∙ yes)) (lacks-none job c past))

    -- a visit that is told stands at a line that is there
    pub line-there : (m : Visit) → ToldBy m → (place_of past (line_of past m.place) ≡ m.place) × (line_of past m.place < told past)
    line-there m h =
        let lt : h.by.place < length xs = each-of (λ (n : Visit). n.place < length xs) (visits job c xs) h.by h.there (visits-before job c xs) in
        let n : length xs ≡ told past = item-length lines past t in
        let place : place_of past h.by.place ≡ m.place = ap (λ n. n.place) h.same in
        let line : line_of past m.place ≡ h.by.place = ap (line_of past) (sym place) ∙ line-place past h.by.place in
        (ap (place_of past) line ∙ place, omega (arith, line, lt, n))

    -- whom a body let in
    pub only-down : (ran : Ran) → OnlyThose ran (visits job c (history past)) → OnlyThose ran (visits job c xs)
    only-down Nop h = nothing (visits job c xs) (parts-of (λ m. ⊥) (subst (λ (ms : List Visit). Each (λ m. ⊥) ms) (sym h) tt)).0
    only-down ByList h = tt
    only-down (Own u) h = (parts-of (λ m. m.user ≡ u.0) h).0

-- ## exits

module _ (job : Job) (c : CallNo) where
  -- the exits of a call that a legal history has had are those of the lines, each with its place
  pub record AreExits (lines : List Line) (past : List Marked) : Type 0 where
    pub same : exits c (history past) ≡ map (place_of past) (exits c (map item_of lines))
    pub there : Each (λ e. e < told past) (exits c (map item_of lines))

  -- an item that lacks
  lacking : (item : Item) (lines : List Line) (past : List Marked) → exits c (item ∷ history past) ≡ exits c (history past) → AreExits lines past → AreExits lines (Lacking item ∷ past)
  lacking item lines past none h = record {
    same = none ∙ h.same
        ∙ sym (map-ext (place_of (Lacking item ∷ past)) (place_of past) (exits c (map item_of lines))
        (Each-weaker (λ e. e < told past) (λ e. place_of (Lacking item ∷ past) e ≡ place_of past e) (exits c (map item_of lines)) (λ e lt. rw (lt-ltb e (told past) lt) refl) h.there));
    there = h.there;
  }

  -- the line tells the item after these
  abbrev Heads : Line → List Line → Item → List Marked → Type 0
  Heads line lines item past =
      (exits c (item ∷ history past) ≡ map (place_of past) (exits c (item_of line ∷ map item_of lines))) × Each (λ e. e < suc (told past)) (exits c (item_of line ∷ map item_of lines))

  -- lines that are there are so after one more
  more : (n : ℕ) (es : List ℕ) → Each (λ e. e < n) es → Each (λ e. e < suc n) es
  more n es h = Each-weaker (λ e. e < n) (λ e. e < suc n) es (λ e lt. omega (arith, lt)) h

  -- it is so after an item that is told
  heads : (by : ExitOrder) (line : Line) (lines : List Line) (item : Item) (past : List Marked) → AreTold lines past → IsLegalPast by job (item ∷ history past) → IsDrawn past (item_of line) item → AreExits lines past → Heads line lines item past
  unfolding IsLegalPast
  heads by line lines (Exit d u place) past t l e h = rw e (of (same_call d c))
    where
      placed : (place_of past (line_of past place) ≡ place) × (line_of past place < told past)
      placed =
          let o = l.0.exits.0.of in
          let m : ToldBy job d lines past t o.0 = each-of (λ m. m.back ≡ true → ToldBy job d lines past t m) (visits job d (history past)) o.0 o.1 (backs-told job d lines past t) o.4.0 in
          subst (λ (p : ℕ). (place_of past (line_of past p) ≡ p) × (line_of past p < told past)) o.3 (line-there job d lines past t o.0 m)

      of : (b : Bool) → (cond b (place ∷ exits c (history past)) (exits c (history past)) ≡ map (place_of past) (cond b (line_of past place ∷ exits c (map item_of lines)) (exits c (map item_of lines))))
          × Each (λ e. e < suc (told past)) (cond b (line_of past place ∷ exits c (map item_of lines)) (exits c (map item_of lines)))
      of true = (ap₂ (λ (p : ℕ) (ps : List ℕ). p ∷ ps) (sym placed.0) h.same, ((let lt = placed.1 in omega (arith, lt)), more (told past) (exits c (map item_of lines)) h.there))
      of false = (h.same, more (told past) (exits c (map item_of lines)) h.there)
  heads by line lines (Body d g ran) past t l e h = rw (e.1) (h.same, more (told past) (exits c (map item_of lines)) h.there)
  heads by line lines _ past t l e h = rw e (h.same, more (told past) (exits c (map item_of lines)) h.there)

  -- so it is in each legal history that the lines tell
  pub exits-told : (by : ExitOrder) (lines : List Line) (past : List Marked) → AreTold lines past → IsLegalPast by job (history past) → AreExits lines past
  unfolding AreTold IsLegalPast
  exits-told by lines [] t l = rw t (record { same = refl; there = tt })
  exits-told by lines (Lacking (Refuse d u reason) ∷ past) t l = lacking (Refuse d u reason) lines past refl (exits-told by lines past t.1 l.1)
  exits-told by lines (Lacking (Miss d u) ∷ past) t l = lacking (Miss d u) lines past refl (exits-told by lines past t.1 l.1)
  exits-told by lines (Lacking item ∷ past) t l = absurd t.0
  exits-told by [] (Told item ∷ past) t l = absurd t
  exits-told by (line ∷ lines) (Told item ∷ past) t l =
      let h = heads by line lines item past t.1 l (drawn past line item t.0) (exits-told by lines past t.1 l.1) in
      record { same = h.0; there = h.1 }

-- ## replacements

module _ (job : Job) where
  -- an entry callback of a user that replaces functions
  abbrev replaces : Visit → Bool
  replaces m = m.back && is_some (spec_at job m.user).ipmodify

  -- the entry callbacks of a call with a replacement, of all entry callbacks
  of-backs : (c : CallNo) (ms : List Visit) → map unplaced (filter replaces (filter (λ m. same_call m.call c) ms)) ≡ filter replaces (filter (λ m. same_call m.call c) (backs ms))
  of-backs c [] = refl
  of-backs c (m ∷ ms) = by m.back refl (same_call m.call c) (is_some (spec_at job m.user).ipmodify) refl refl (of-backs c ms)
    where
      by : (b : Bool) → m.back ≡ b → (s r : Bool) → same_call m.call c ≡ s → is_some (spec_at job m.user).ipmodify ≡ r
          → map unplaced (filter replaces (filter (λ m. same_call m.call c) ms)) ≡ filter replaces (filter (λ m. same_call m.call c) (backs ms))
          → map unplaced (filter replaces (filter (λ m. same_call m.call c) (m ∷ ms))) ≡ filter replaces (filter (λ m. same_call m.call c) (backs (m ∷ ms)))
      by true e true true f g h = rw (e, f, g) (ap₂ (λ (n : Visit) (ns : List Visit). n ∷ ns) refl h)
      by true e true false f g h = rw (e, f, g) h
      by true e false r f g h = rw (e, f) h
      by false e true r f g h = rw (e, f) h
      by false e false r f g h = rw (e, f) h

  -- the place of a callback is nothing to its replacement
  replacement-unplaced : (f : ℕ) (ms : List Visit) → replacement job f (map unplaced ms) ≡ replacement job f ms
  replacement-unplaced f [] = refl
  replacement-unplaced f (m ∷ ms) = refl

  module _ (c : CallNo) (past past' : List Item) (same : thinned past ≡ thinned past') where
    -- the same callbacks replace functions
    same-backs : map unplaced (backs_with_replacement job (visits job c past)) ≡ map unplaced (backs_with_replacement job (visits job c past'))
    same-backs =
        of-backs c (all_visits job past)
        ∙ ap (λ (ms : List Visit). filter replaces (filter (λ m. same_call m.call c) ms)) (alike job past past' same).backs'
        ∙ sym (of-backs c (all_visits job past'))

    -- as many, and the same function runs
    pub replaced-alike : (length (backs_with_replacement job (visits job c past')) ≡ length (backs_with_replacement job (visits job c past)))
        × ((f : ℕ) → replacement job f (backs_with_replacement job (visits job c past')) ≡ replacement job f (backs_with_replacement job (visits job c past)))
    replaced-alike = (
      sym (length-map (backs_with_replacement job (visits job c past')) unplaced) ∙ ap length (sym same-backs) ∙ length-map (backs_with_replacement job (visits job c past)) unplaced,
      λ f. sym (replacement-unplaced f (backs_with_replacement job (visits job c past'))) ∙ ap (replacement job f) (sym same-backs) ∙ replacement-unplaced f (backs_with_replacement job (visits job c past)),
    )
