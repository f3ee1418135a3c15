-- The refusals that a log lacks in a call, as its lines could have told them.
use Rattle.std.proofs.Common.{cond, ◌≡◌, ℕ, suc, ◌<◌, ◌≤◌, ◌⊎◌, inl, inr, Bool, true, false, ◌==◌, if◌then◌else◌, List, [], ◌∷◌, ◌++◌, length, map, IsSome, refl, sym, ap, ◌∙◌, subst, arith, eqb-true}
use Rattle.std.specs.List.{list_any, AllByRecursion as Each}
use Rattle.ft_base.specs.declared.number.CallNo.{CallNo}
use Rattle.ft_base.specs.declared.item.Item.{Item}
use Rattle.ft_base.specs.declared.item.Item.TheVariants.{Back, Refuse, Miss, Body, Exit}
use Rattle.ft_base.specs.Same.{same_call}
use Rattle.ft_base.specs.Job.{Job}
use Rattle.ft_base.specs.Desk.{desk, is_on}
use Rattle.ft_base.proofs.Small.{Each-weaker, each-all, ==-refl, false_true}
use Rattle.ft_hist.specs.Past.{Visit, all_visits, entry_of, since_now, visit, visits}
use Rattle.ft_hist.specs.Plain.{plain}
use Rattle.ft_hist.specs.Rules as strict
use Rattle.ft_hist.specs.Rules.{InWindow, IsUnvisited}
use Rattle.ft_hist.proofs.Steps.{same_call-eq}
use Rattle.history_order.proofs.Visits.{visits-before}
use Rattle.kernel_rules.specs.declared.line.ExitOrder.{ExitOrder}
use Rattle.kernel_rules.specs.declared.line.Line.{Line}
use Rattle.kernel_rules.specs.Rules.{IsLegalPast, KeepsCallbacks, MayVisit}
use Rattle.kernel_rules.specs.Recorded.{AreTold, Lacking, Marked, Told, history}
use Rattle.kernel_rules.specs.Direct.{AreLegal, AreSilent, ComesFirst, CouldLack, CouldRefuse, IsSilent, Lacked, item_of, since_of}
use Rattle.kernel_rules.proofs.Places.{drawn, IsDrawn, thin-told}
use Rattle.kernel_rules.proofs.Merging.{lacks}
use Rattle.kernel_rules.proofs.Told.{both-of, each-none, none-each, parts-of}
use Rattle.kernel_rules.proofs.Parts.{entry-alike, since-alike, why-alike, window-alike}
use Rattle.kernel_rules.proofs.Removing.{history-runs, line-runs, run-down, visit-down}

-- two facts of each
pub each-and : {X : Type 0} (P Q : X → Type 0) (xs : List X) → Each P xs → Each Q xs → Each (λ x. P x × Q x) xs
each-and P Q [] p q = tt
each-and P Q (x ∷ xs) p q = ((p.0, q.0), each-and P Q xs p.1 q.1)

-- a test that fails fails the other way round
pub eq-sym : (a b : ℕ) → (a == b) ≡ false → (b == a) ≡ false
eq-sym a b h = by (b == a) refl
  where
    by : (x : Bool) → (b == a) ≡ x → (b == a) ≡ false
    by true e = absurd (false_true (sym h ∙ ap (λ n. a == n) (eqb-true b a e) ∙ ==-refl a))
    by false e = e

-- a fact of each from two
pub each-pairs : {X : Type 0} (P Q R : X → Type 0) (xs : List X) → ((x : X) → P x → Q x → R x) → Each P xs → Each Q xs → Each R xs
each-pairs P Q R [] f p q = tt
each-pairs P Q R (x ∷ xs) f p q = (f x p.0 q.0, each-pairs P Q R xs f p.1 q.1)

-- a part of a list is no longer
pub cut-length : {X : Type 0} (since before xs : List X) → since ++ before ≡ xs → length before ≤ length xs
cut-length [] before xs e = let n : length before ≡ length xs = ap length e in omega (arith, n)
cut-length (s ∷ since) before xs e =
    let h = cut-length since before (since ++ before) refl in
    let n : suc (length (since ++ before)) ≡ length xs = ap length e in
    omega (arith, h, n)

-- a visit of a call, if the item is one
abbrev pub visitor : CallNo → Item → List ℕ
visitor c (Back d u) = if same_call d c then u.0 ∷ [] else []
visitor c (Refuse d u reason) = if same_call d c then u.0 ∷ [] else []
visitor c _ = []

-- a line visits whom its item visits
pub visitor-drawn : (c : CallNo) (past : List Marked) (x item : Item) → IsDrawn past x item → visitor c x ≡ visitor c item
visitor-drawn c past x (Exit d u place) e = rw e refl
visitor-drawn c past x (Body d g ran) e = rw (e.1) refl
visitor-drawn c past x item e = rw e refl

module _ (job : Job) (c : CallNo) where
  -- what holds of each visit holds after one more item
  pub each-more : (P : Visit → Type 0) (x : Item) (past : List Item) → Each (λ u. (back : Bool) → P (visit job c u past (all_visits job past) back)) (visitor c x) → Each P (visits job c past) → Each P (visits job c (x ∷ past))
  unfolding all_visits
  each-more P (Back d u) past one more = by (same_call d c) refl one
    where
      by : (b : Bool) → same_call d c ≡ b → Each (λ v. (back : Bool) → P (visit job c v past (all_visits job past) back)) (cond b (u.0 ∷ []) []) → Each P (cond b (visit job d u.0 past (all_visits job past) true ∷ visits job c past) (visits job c past))
      by true is o = (subst (λ (e : CallNo). P (visit job e u.0 past (all_visits job past) true)) (sym (same_call-eq d c is)) (o.0 true), more)
      by false is o = more
  each-more P (Refuse d u reason) past one more = by (same_call d c) refl one
    where
      by : (b : Bool) → same_call d c ≡ b → Each (λ v. (back : Bool) → P (visit job c v past (all_visits job past) back)) (cond b (u.0 ∷ []) []) → Each P (cond b (visit job d u.0 past (all_visits job past) false ∷ visits job c past) (visits job c past))
      by true is o = (subst (λ (e : CallNo). P (visit job e u.0 past (all_visits job past) false)) (sym (same_call-eq d c is)) (o.0 false), more)
      by false is o = more
  each-more P _ past one more = more

  -- one more line, which visits nobody or one that comes after a refusal that is lacking
  abbrev pub IsAfter : List Item → Lacked → ℕ → Type 0
  IsAfter past r u = ((u == r.user.0) ≡ false) × (since_now job c u past < since_of job c r)

  -- so the refusal could still lack
  pub could-more : (x : Item) (past : List Item) (r : Lacked) → Each (IsAfter past r) (visitor c x) → CouldRefuse job past c r → CouldRefuse job (x ∷ past) c r
  could-more x past r later h = record {
    cut = (x ∷ h.cut.0, ap (λ ys. x ∷ ys) h.cut.1);
    run = h.run;
    may = h.may;
    why = h.why;
    once = each-none (λ m. m.user == r.user.0) (visits job c (x ∷ past))
        (each-more (λ m. (m.user == r.user.0) ≡ false) x past (Each-weaker (IsAfter past r) _ (visitor c x) (λ u k back. k.0) later) (none-each (λ m. m.user == r.user.0) (visits job c past) h.once));
    order = each-more (λ m. length r.before ≤ m.place → m.since < since_of job c r) x past (Each-weaker (IsAfter past r) _ (visitor c x) (λ u k back le. k.1) later) h.order;
  }

  -- so do all
  lack-more : (x : Item) (past : List Item) (rs : List Lacked) → Each (λ r. Each (IsAfter past r) (visitor c x)) rs → CouldLack job past c rs → CouldLack job (x ∷ past) c rs
  lack-more x past [] later h = tt
  lack-more x past (r ∷ rs) later h = (could-more x past r later.0 h.0, h.1, lack-more x past rs later.1 h.2)

  -- each of those that could lack could be told
  pub all-could : (past : List Item) (rs : List Lacked) → CouldLack job past c rs → Each (λ r. CouldRefuse job past c r) rs
  all-could past [] h = tt
  all-could past (r ∷ rs) h = (h.0, all-could past rs h.2)

  -- the refusals that are lacking, each with the lines before it
  abbrev pub lacked : List Line → List Marked → List Lacked
  lacked lines [] = []
  lacked lines (Lacking (Refuse d u reason) ∷ past) = if same_call d c then record { user = u; reason = reason; before = map item_of lines } ∷ lacked lines past else lacked lines past
  lacked lines (Lacking item ∷ past) = lacked lines past
  lacked [] (Told item ∷ past) = []
  lacked (line ∷ lines) (Told item ∷ past) = lacked lines past

  -- the same user with the same registration
  abbrev pub IsPair : Visit → Lacked → Type 0
  IsPair m r = (m.user ≡ r.user.0) × (m.since ≡ since_of job c r)

  -- of two lists
  abbrev pub ArePairs : List Visit → List Lacked → Type 0
  ArePairs [] [] = Unit {0}
  ArePairs (m ∷ ms) (r ∷ rs) = IsPair m r × ArePairs ms rs
  ArePairs _ _ = ⊥

  -- a fact of the visits is one of the refusals
  pub each-pair : (P : Visit → Type 0) (Q : Lacked → Type 0) → ((m : Visit) (r : Lacked) → IsPair m r → P m → Q r) → (ms : List Visit) (rs : List Lacked) → ArePairs ms rs → Each P ms → Each Q rs
  each-pair P Q to [] [] pairs h = tt
  each-pair P Q to [] (r ∷ rs) pairs h = absurd pairs
  each-pair P Q to (m ∷ ms) [] pairs h = absurd pairs
  each-pair P Q to (m ∷ ms) (r ∷ rs) pairs h = (to m r pairs.0 h.0, each-pair P Q to ms rs pairs.1 h.1)

  -- and the other way round
  pub pair-each : (P : Visit → Type 0) (Q : Lacked → Type 0) → ((m : Visit) (r : Lacked) → IsPair m r → Q r → P m) → (ms : List Visit) (rs : List Lacked) → ArePairs ms rs → Each Q rs → Each P ms
  pair-each P Q to [] [] pairs h = tt
  pair-each P Q to [] (r ∷ rs) pairs h = absurd pairs
  pair-each P Q to (m ∷ ms) [] pairs h = absurd pairs
  pair-each P Q to (m ∷ ms) (r ∷ rs) pairs h = (to m r pairs.0 h.0, pair-each P Q to ms rs pairs.1 h.1)

  module _ (by : ExitOrder) where
    -- what a history lacks is what its lines lack
    pub paired : (lines : List Line) (past : List Marked) → AreTold lines past → IsLegalPast by job (history past) → AreLegal by job lines → ArePairs (lacks job c past) (lacked lines past)
    unfolding AreTold IsLegalPast AreLegal
    paired lines [] t l d = tt
    paired lines (Lacking (Refuse e u reason) ∷ past) t l d = of (same_call e c) refl (paired lines past t.1 l.1 d)
      where
        of : (b : Bool) → same_call e c ≡ b → ArePairs (lacks job c past) (lacked lines past)
            → ArePairs (cond b (visit job e u.0 (history past) (all_visits job (history past)) false ∷ lacks job c past) (lacks job c past))
            (cond b (record { user = u; reason = reason; before = map item_of lines } ∷ lacked lines past) (lacked lines past))
        of true is h = ((refl, since), h)
          where
            since : since_now job e u.0 (history past) ≡ since_now job c u.0 (map item_of lines)
            since =
                ap (λ (x : CallNo). since_now job x u.0 (history past)) (same_call-eq e c is)
                ∙ since-alike job (map item_of lines) (history past) (thin-told lines past t.1) (λ v. line-runs by job lines d v) (λ v. history-runs by job (history past) l.1 v) c u.0
        of false is h = h
    paired lines (Lacking (Miss e u) ∷ past) t l d = paired lines past t.1 l.1 d
    paired lines (Lacking item ∷ past) t l d = absurd t.0
    paired [] (Told item ∷ past) t l d = absurd t
    paired (line ∷ lines) (Told item ∷ past) t l d = paired lines past t.1 l.1 d.1

    -- whom a new item visits comes after those
    after-all : (lines : List Line) (past : List Marked) → AreTold lines past → IsLegalPast by job (history past) → AreLegal by job lines
        → (u : ℕ) → MayVisit job (history past) c u → Each (λ r. IsAfter (map item_of lines) r u) (lacked lines past)
    after-all lines past t l d u may =
        each-pair (λ m. ((m.user == u) ≡ false) × (since_now job c u (history past) < m.since)) (λ r. IsAfter (map item_of lines) r u) to
        (lacks job c past) (lacked lines past) (paired lines past t l d)
        (each-and (λ m. (m.user == u) ≡ false) (λ m. since_now job c u (history past) < m.since) (lacks job c past)
        (parts-of job c lines past t (λ m. (m.user == u) ≡ false) (none-each (λ m. m.user == u) (visits job c (history past)) may.once)).1
        (parts-of job c lines past t (λ m. since_now job c u (history past) < m.since) may.order).1)
      where
        since : since_now job c u (history past) ≡ since_now job c u (map item_of lines)
        since = since-alike job (map item_of lines) (history past) (thin-told lines past t) (λ v. line-runs by job lines d v) (λ v. history-runs by job (history past) l v) c u

        to : (m : Visit) (r : Lacked) → IsPair m r → ((m.user == u) ≡ false) × (since_now job c u (history past) < m.since) → IsAfter (map item_of lines) r u
        to m r is h = (
          eq-sym r.user.0 u (subst (λ (n : ℕ). (n == u) ≡ false) is.0 h.0),
          (let lt = h.1 in let e = is.1 in omega (arith, lt, e, since)),
        )

    -- so does a line that tells it
    later : (lines : List Line) (past : List Marked) (t : AreTold lines past) (l : IsLegalPast by job (history past)) (d : AreLegal by job lines)
        → (item : Item) → KeepsCallbacks job (history past) item → Each (λ r. Each (IsAfter (map item_of lines) r) (visitor c item)) (lacked lines past)
    later lines past t l d (Back e u) may = of (same_call e c) refl
      where
        of : (b : Bool) → same_call e c ≡ b → Each (λ r. Each (IsAfter (map item_of lines) r) (cond b (u.0 ∷ []) [])) (lacked lines past)
        of true is = Each-weaker (λ r. IsAfter (map item_of lines) r u.0) _ (lacked lines past) (λ r h. (h, tt))
            (after-all lines past t l d u.0 (subst (λ (x : CallNo). MayVisit job (history past) x u.0) (same_call-eq e c is) may))
        of false is = each-all _ (lacked lines past) (λ r. tt)
    later lines past t l d (Refuse e u reason) may = of (same_call e c) refl
      where
        of : (b : Bool) → same_call e c ≡ b → Each (λ r. Each (IsAfter (map item_of lines) r) (cond b (u.0 ∷ []) [])) (lacked lines past)
        of true is = Each-weaker (λ r. IsAfter (map item_of lines) r u.0) _ (lacked lines past) (λ r h. (h, tt))
            (after-all lines past t l d u.0 (subst (λ (x : CallNo). MayVisit job (history past) x u.0) (same_call-eq e c is) may))
        of false is = each-all _ (lacked lines past) (λ r. tt)
    later lines past t l d _ may = each-all _ (lacked lines past) (λ r. tt)

    -- the lines could have told what is lacking
    pub could-lack : (lines : List Line) (past : List Marked) → AreTold lines past → IsLegalPast by job (history past) → AreLegal by job lines → CouldLack job (map item_of lines) c (lacked lines past)
    unfolding AreTold IsLegalPast AreLegal
    could-lack lines [] t l d = tt
    could-lack lines (Lacking (Refuse e u reason) ∷ past) t l d = of (same_call e c) refl (could-lack lines past t.1 l.1 d)
      where
        xs : List Item
        xs = map item_of lines

        runs : (v : ℕ) → IsSome (plain job v xs)
        runs v = line-runs by job lines d v

        r : Lacked
        r = record { user = u; reason = reason; before = xs }

        may : MayVisit job xs e u.0
        may = visit-down by job lines past t.1 l.1 runs e u.0 l.0.callbacks

        could : CouldRefuse job xs e r
        could = record {
          cut = ([], refl);
          run = run-down by job lines past t.1 l.1 runs (Refuse e u reason) l.0.run;
          may = may;
          why = why-alike job (history past) xs (sym (thin-told lines past t.1)) (λ v. history-runs by job (history past) l.1 v) runs e u.0 reason l.0.refusals;
          once = may.once;
          order = Each-weaker (λ m. m.place < length xs) _ (visits job e xs) (λ m lt le. absurd (omega (arith, lt, le))) (visits-before job e xs);
        }

        of : (b : Bool) → same_call e c ≡ b → CouldLack job xs c (lacked lines past) → CouldLack job xs c (cond b (r ∷ lacked lines past) (lacked lines past))
        of true is h = (
          subst (λ (x : CallNo). CouldRefuse job xs x r) (same_call-eq e c is) could,
          each-pairs (λ s. CouldRefuse job xs c s) (λ s. IsAfter xs s u.0) (λ s. ComesFirst job c r s) (lacked lines past)
              (λ s k after. record { earlier = cut-length k.cut.0 s.before xs k.cut.1; other = eq-sym u.0 s.user.0 after.0; order = after.1 })
              (all-could xs (lacked lines past) h) (after-all lines past t.1 l.1 d u.0 (subst (λ (x : CallNo). MayVisit job (history past) x u.0) (same_call-eq e c is) l.0.callbacks)),
          h,
        )
        of false is h = h
    could-lack lines (Lacking (Miss e u) ∷ past) t l d = could-lack lines past t.1 l.1 d
    could-lack lines (Lacking item ∷ past) t l d = absurd t.0
    could-lack [] (Told item ∷ past) t l d = absurd t
    could-lack (line ∷ lines) (Told item ∷ past) t l d =
        lack-more (item_of line) (map item_of lines) (lacked lines past)
        (subst (λ (us : List ℕ). Each (λ r. Each (IsAfter (map item_of lines) r) us) (lacked lines past)) (sym (visitor-drawn c past (item_of line) item (drawn past line item t.0)))
        (later lines past t.1 l.1 d.1 item l.0.callbacks))
        (could-lack lines past t.1 l.1 d.1)

    -- whoever no line visits, and who isn't lacking, was off at some command of the window
    pub silent-down : (lines : List Line) (past : List Marked) → AreTold lines past → IsLegalPast by job (history past) → AreLegal by job lines → strict.IsSilent job (history past) c → IsSilent job (map item_of lines) c
    silent-down lines past t l d h = (lacked lines past, could-lack lines past t l d, silent)
      where
        xs : List Item
        xs = map item_of lines

        unvisited : (u : ℕ) → IsUnvisited job c u xs → list_any (λ r. r.user.0 == u) (lacked lines past) ≡ false → IsUnvisited job c u (history past)
        unvisited u none others =
            each-none (λ m. m.user == u) (visits job c (history past))
            (both-of job c lines past t (λ m. (m.user == u) ≡ false) (none-each (λ m. m.user == u) (visits job c xs) none)
            (pair-each (λ m. (m.user == u) ≡ false) (λ r. (r.user.0 == u) ≡ false) (λ m r is k. subst (λ (n : ℕ). (n == u) ≡ false) (sym is.0) k) (lacks job c past) (lacked lines past)
            (paired lines past t l d) (none-each (λ r. r.user.0 == u) (lacked lines past) others)))

        silent : AreSilent job xs c (lacked lines past)
        silent u lt none = of (list_any (λ r. r.user.0 == u) (lacked lines past)) refl
          where
            of : (b : Bool) → list_any (λ r. r.user.0 == u) (lacked lines past) ≡ b
                → InWindow c xs (λ k. is_on (desk job k) u (entry_of c xs).func ≡ false) ⊎ (list_any (λ r. r.user.0 == u) (lacked lines past) ≡ true)
            of true is = inr is
            of false is =
                let same = sym (thin-told lines past t) in
                let off = h u lt (unvisited u none is) in
                inl (subst (λ (f : ℕ). InWindow c xs (λ k. is_on (desk job k) u f ≡ false))
                (ap (λ e. e.func) (sym (entry-alike job (history past) xs same (λ v. history-runs by job (history past) l v) (λ v. line-runs by job lines d v) c)))
                (window-alike job (history past) xs same (λ v. history-runs by job (history past) l v) (λ v. line-runs by job lines d v) c (λ k. is_on (desk job k) u (entry_of c (history past)).func ≡ false) off))
