-- From lines that keep a part to a history that they tell: with what the log lacks filled in, the item of the next line keeps it too.
use Rattle.std.proofs.Common.{◌≡◌, ℕ, ◌<◌, ◌≤◌, ◌⊎◌, inl, inr, true, false, ◌==◌, List, [], ◌∷◌, map, IsSome, Contains, refl, sym, ap, ◌∙◌, subst, arith}
use Rattle.std.specs.List.{list_any, AllByRecursion as Each}
use Rattle.ft_base.specs.declared.number.CallNo.{CallNo}
use Rattle.ft_base.specs.declared.number.UserNo.{UserNo}
use Rattle.ft_base.specs.declared.number.FuncNo.{FuncNo}
use Rattle.ft_base.specs.declared.item.Item.{Item}
use Rattle.ft_base.specs.declared.item.Item.TheVariants.{Return, Back, Refuse, Body, Exit}
use Rattle.ft_base.specs.declared.item.Ran.{Ran}
use Rattle.ft_base.specs.declared.item.Ran.TheVariants.{Nop, List as ByList, Own}
use Rattle.ft_base.specs.Same.{same_call}
use Rattle.ft_base.specs.Job.{Job}
use Rattle.ft_base.specs.Desk.{desk, is_on, is_sited, target}
use Rattle.ft_base.proofs.Small.{Each-weaker, and_both, false_true}
use Rattle.ft_base.proofs.Targets.{sited_nop, sited_own}
use Rattle.ft_hist.proofs.Laws.{same_call-refl}
use Rattle.ft_hist.specs.Past.{Callback, Visit, all_visits, done_at_leave, entry_of, exits, is_dispatched, is_of, miss_due, since_now, visit, visits}
use Rattle.ft_hist.specs.Plain.{plain}
use Rattle.ft_hist.specs.Rules as strict
use Rattle.ft_hist.specs.Rules.{AreExitsDone, HasExit, InWindow, IsExitDone, IsFetched, IsUnvisited, KeepsPlainRun, MayMiss, NoMissDue, OnlyThose}
use Rattle.ft_hist.proofs.ExitItems.{each-of}
use Rattle.ft_hist.proofs.Steps.{same_call-eq}
use Rattle.kernel_rules.specs.declared.line.ExitOrder.{ExitOrder}
use Rattle.kernel_rules.specs.declared.line.Line.{Line}
use Rattle.kernel_rules.specs.declared.line.Line.TheVariants.{Seen, Unfetched}
use Rattle.kernel_rules.specs.Rules as profile
use Rattle.kernel_rules.specs.Rules.{AtSome, IsLegalPast, KeepsCallbacks, MayExit, MayFollow, MayVisit}
use Rattle.kernel_rules.specs.Recorded.{AreTold, Marked, Tells, history}
use Rattle.kernel_rules.specs.Direct.{AreSilent, Lacked, item_of}
use Rattle.kernel_rules.proofs.Thinned.{Alike, alike, thinned}
use Rattle.kernel_rules.proofs.Places.{IsDrawn, line-place, place_of, thin-told}
use Rattle.kernel_rules.proofs.Merging.{at_place, lacks, lacks-none}
use Rattle.kernel_rules.proofs.Told.{after-places, any-map, both-of, each-map, each-none, exits-told, none-each, nothing, once-down, parts-of, replaced-alike, same-place}
use Rattle.kernel_rules.proofs.Parts.{on-alike, return-alike, since-alike}
use Rattle.kernel_rules.proofs.Removing.{history-runs}
use Rattle.kernel_rules.proofs.Lacks.{IsAfter, eq-sym, visitor}
use Rattle.kernel_rules.proofs.Wanted.{IsOf, Wanted, of-each, undispatched}

-- the item that a line tells after these, where a body whose fetch nobody saw ran this
abbrev pub told_as : List Marked → Ran → Line → Item
told_as past ran (Unfetched c g) = Body c g ran
told_as past ran (Seen (Exit c u e)) = Exit c u (place_of past e)
told_as past ran (Seen item) = item

-- the line tells it
pub tells : (past : List Marked) (ran : Ran) (line : Line) → Tells past line (told_as past ran line)
tells past ran (Unfetched c g) = (refl, refl)
tells past ran (Seen (Exit c u e)) = (refl, refl, sym (line-place past e))
tells past ran (Seen item) = refl

-- a part that binds neither exits nor bodies is that of the item
pub as-item : (P : Item → Type 0) → ((c : CallNo) (u : UserNo) (e : ℕ) → P (Exit c u e)) → ((c : CallNo) (g : FuncNo) (ran : Ran) → P (Body c g ran))
    → (past : List Marked) (x item : Item) → IsDrawn past x item → P x → P item
as-item P exit body past x (Exit c u place) e h = exit c u place
as-item P exit body past x (Body c g ran) e h = body c g ran
as-item P exit body past x item e h = subst P e h

-- who is on is let in by what its site should be
only-on : (job : Job) (k f : ℕ) (ran : Ran) (ms : List Visit) → ran ≡ target (desk job k) f → Each (λ m. is_on (desk job k) m.user f ≡ true) ms → Each (λ m. OnlyThose ran (m ∷ [])) ms
only-on job k f ran [] e h = tt
only-on job k f ran (m ∷ ms) e h = (one ran e, only-on job k f ran ms e h.1)
  where
    sited : is_sited (desk job k) m.user f ≡ true
    sited = (and_both _ _ h.0).0

    one : (r : Ran) → r ≡ target (desk job k) f → OnlyThose r (m ∷ [])
    one Nop e = sited_nop (desk job k) f m.user (sym e) sited
    one ByList e = tt
    one (Own v) e = (sited_own (desk job k) f m.user v.0 (sym e) sited, tt)

module _ (by : ExitOrder) (job : Job) (lines : List Line) (past : List Marked) (t : AreTold lines past) (legal : IsLegalPast by job (history past)) (runs : (v : ℕ) → IsSome (plain job v (map item_of lines))) where
  -- the items of the lines
  abbrev xs : List Item
  xs = map item_of lines

  -- the items of the history
  abbrev hs : List Item
  hs = history past

  -- they are the same but for refusals and misses
  same : thinned xs ≡ thinned hs
  same = thin-told lines past t

  -- each task has a run after the history
  hruns : (v : ℕ) → IsSome (plain job v hs)
  hruns v = history-runs by job hs legal v

  -- so they are alike
  abbrev a : Alike job xs hs
  a = alike job xs hs same

  -- ## callbacks

  module _ (w : List Wanted) (only : (c : CallNo) → is_dispatched c xs ≡ false → Each (λ m. IsOf job c m w) (lacks job c past)) where
    -- whoever may be visited after the lines may be after the history, if it comes after those that are wanted
    pub visit-up : (c : CallNo) (u : ℕ) → is_dispatched c xs ≡ false → Each (λ r. same_call r.call c ≡ true → IsAfter job c xs r.lacked u) w → MayVisit job xs c u → MayVisit job hs c u
    visit-up c u open' after h = record {
      on = on-alike job xs hs same runs hruns c u h.on;
      once = each-none (λ m. m.user == u) (visits job c hs) (both-of job c lines past t (λ m. (m.user == u) ≡ false) (none-each (λ m. m.user == u) (visits job c xs) h.once) (Each-weaker _ (λ m. (m.user == u) ≡ false) (lacks job c past) others (only c open')));
      order = both-of job c lines past t (λ m. since_now job c u hs < m.since)
          (subst (λ (n : ℕ). Each (λ m. n < m.since) (visits job c xs)) (sym now) h.order)
          (Each-weaker _ (λ m. since_now job c u hs < m.since) (lacks job c past) later (only c open'));
    }
      where
        now : since_now job c u hs ≡ since_now job c u xs
        now = since-alike job xs hs same runs hruns c u

        others : (m : Visit) → IsOf job c m w → (m.user == u) ≡ false
        others m is =
            let r = of-each job c m (λ r. same_call r.call c ≡ true → IsAfter job c xs r.lacked u) w after is in
            subst (λ (n : ℕ). (n == u) ≡ false) (sym r.3.0) (eq-sym u r.0.lacked.user.0 (r.1 r.2).0)

        later : (m : Visit) → IsOf job c m w → since_now job c u hs < m.since
        later m is =
            let r = of-each job c m (λ r. same_call r.call c ≡ true → IsAfter job c xs r.lacked u) w after is in
            let lt = (r.1 r.2).1 in
            let e = r.3.1 in
            omega (arith, lt, e, now)

    -- whom an item of a call visits comes after what the call wants
    own : (item : Item) (c : CallNo) {u : ℕ} (r : Wanted) → same_call r.call c ≡ true → Each (IsAfter job r.call xs r.lacked) (visitor r.call item) → visitor c item ≡ u ∷ [] → IsAfter job c xs r.lacked u
    own item c r is h e =
        (subst (λ (us : List ℕ). Each (IsAfter job c xs r.lacked) us) e (subst (λ (d : CallNo). Each (IsAfter job d xs r.lacked) (visitor d item)) (same_call-eq r.call c is) h)).0

    -- the part of callbacks
    pub callbacks-up : (item : Item) → KeepsPlainRun job xs item → Each (λ r. Each (IsAfter job r.call xs r.lacked) (visitor r.call item)) w → KeepsCallbacks job xs item → KeepsCallbacks job hs item
    callbacks-up (Back c u) run after h = visit-up c u.0 (undispatched job c xs (Back c u) (same_call-refl c) (run c.task.0)) (Each-weaker _ _ w (λ r k is. own (Back c u) c r is k (rw (same_call-refl c) refl)) after) h
    callbacks-up (Refuse c u reason) run after h =
        visit-up c u.0 (undispatched job c xs (Refuse c u reason) (same_call-refl c) (run c.task.0)) (Each-weaker _ _ w (λ r k is. own (Refuse c u reason) c r is k (rw (same_call-refl c) refl)) after) h
    callbacks-up (Return k answer) run after h = λ ok. return-alike job xs hs same runs hruns k (h ok)
    callbacks-up _ run after h = tt

    -- ## silence

    -- a history that has those who could lack, or of them those who were on all along, keeps silence
    pub silent-up : (c : CallNo) (rs : List Lacked) → AreSilent job xs c rs
        → ((u : ℕ) → list_any (λ r. r.user.0 == u) rs ≡ true → InWindow c xs (λ k. is_on (desk job k) u (entry_of c xs).func ≡ false) ⊎ (list_any (λ m. m.user == u) (lacks job c past) ≡ true))
        → strict.IsSilent job hs c
    silent-up c rs silent lacking u lt none =
        elim (silent u lt (once-down job c lines past t u none)) [
          | inl off ↦ up off
          | inr is ↦ elim (lacking u is) [
            | inl off ↦ up off
            | inr there ↦ false_true (sym (each-none (λ m. m.user == u) (lacks job c past) (parts-of job c lines past t (λ m. (m.user == u) ≡ false) (none-each (λ m. m.user == u) (visits job c hs) none)).1) ∙ there)
          ]
        ]
      where
        up : InWindow c xs (λ k. is_on (desk job k) u (entry_of c xs).func ≡ false) → InWindow c hs (λ k. is_on (desk job k) u (entry_of c hs).func ≡ false)
        up off = rw (← a.entered' c, ← a.begun') off

  -- ## exits

  -- an exit may come
  pub exit-up : (c : CallNo) (u e : ℕ) → MayExit by job xs c u e → MayExit by job hs c u (place_of past e)
  exit-up c u e h =
      let o = h.of in
      let es = exits-told job c by lines past t legal in
      record {
        of = (
          at_place past o.0,
          each-of (λ m. Contains (visits job c hs) (at_place past m)) (visits job c xs) o.0 o.1 (parts-of job c lines past t (λ m. Contains (visits job c hs) m) (Rattle.kernel_rules.proofs.Told.each-contained (visits job c hs))).0,
          o.2,
          ap (place_of past) o.3,
          o.4,
          rw (← a.left c, ← a.done', ← a.begun') o.5,
        );
        order = subst (λ (ps : List ℕ). Each (λ p. profile.ComesAfter by (place_of past e) p) ps) (sym es.same)
            (each-map (place_of past) (λ p. profile.ComesAfter by (place_of past e) p) (exits c xs)
            (Each-weaker (λ f. profile.ComesAfter by e f) (λ f. profile.ComesAfter by (place_of past e) (place_of past f)) (exits c xs) (λ f k. after-places by past e f k) h.order));
      }

  -- the exits of a call are done
  pub done-up : (c : CallNo) → AreExitsDone job xs c → AreExitsDone job hs c
  done-up c h =
      both-of job c lines past t (λ m. HasExit job m → IsExitDone job c m hs)
      (Each-weaker (λ m. HasExit job m → IsExitDone job c m xs) (λ m. HasExit job (at_place past m) → IsExitDone job c (at_place past m) hs) (visits job c xs) (λ m k has. one m (k has)) h)
      (Each-weaker (λ m. m.back ≡ false) (λ m. HasExit job m → IsExitDone job c m hs) (lacks job c past) (λ m no has. false_true (sym no ∙ has.0)) (lacks-none job c past))
    where
      one : (m : Visit) → IsExitDone job c m xs → IsExitDone job c (at_place past m) hs
      one m (inl had) =
          inl (subst (λ (ps : List ℕ). list_any (λ e. e == place_of past m.place) ps ≡ true) (sym (exits-told job c by lines past t legal).same)
          (any-map (place_of past) (λ e. e == place_of past m.place) (λ e. e == m.place) (λ e. same-place past e m.place) (exits c xs) ∙ had))
      one m (inr dead) = inr (rw (← a.left c, ← a.begun') dead)

  -- ## fetches

  -- a fetch lets in who is told and who lacks
  only-both : (c : CallNo) (ran : Ran) → OnlyThose ran (visits job c xs) → Each (λ m. OnlyThose ran (m ∷ [])) (lacks job c past) → OnlyThose ran (visits job c hs)
  only-both c Nop h k =
      nothing (visits job c hs)
      (both-of job c lines past t (λ m. ⊥) (subst (λ (ms : List Visit). Each (λ m. ⊥) ms) (sym h) tt) (Each-weaker (λ m. OnlyThose Nop (m ∷ [])) (λ m. ⊥) (lacks job c past) (λ m e. absurd cc) k))
  only-both c ByList h k = tt
  only-both c (Own v) h k = both-of job c lines past t (λ m. m.user ≡ v.0) h (Each-weaker (λ m. OnlyThose (Own v) (m ∷ [])) (λ m. m.user ≡ v.0) (lacks job c past) (λ m h. h.0) k)

  -- a body is of a fetch
  pub fetched-up : (c : CallNo) (g : ℕ) (ran : Ran) (k : ℕ) → (entry_of c xs).from ≤ k → k ≤ Rattle.ft_hist.specs.Past.begun xs → ran ≡ target (desk job k) (entry_of c xs).func
      → OnlyThose ran (visits job c xs) → Each (λ m. is_on (desk job k) m.user (entry_of c xs).func ≡ true) (lacks job c past)
      → strict.OneReplaces (strict.backs_with_replacement job (visits job c xs)) → g ≡ strict.replacement job (entry_of c xs).func (strict.backs_with_replacement job (visits job c xs))
      → IsFetched job hs c g ran
  fetched-up c g ran k low high e only on one runs' = record {
    fetched = rw (← a.entered' c, ← a.begun') (k, low, high, e);
    only = only-both c ran only (only-on job k (entry_of c xs).func ran (lacks job c past) e on);
    one = (let n = (replaced-alike job c xs hs same).0 in omega (arith, n, one));
    runs = runs' ∙ sym ((replaced-alike job c xs hs same).1 (entry_of c xs).func) ∙ rw (a.entered' c) refl;
  }
