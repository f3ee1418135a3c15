-- The lines of a legal history are legal: without the items that the log lacks each line keeps each part.
use Rattle.std.proofs.Common.{cond, ◌≡◌, ℕ, ◌<◌, inl, inr, Bool, true, false, ◌==◌, List, [], ◌∷◌, map, Option, Some, None, IsSome, IfSome, refl, sym, ap, ◌∙◌, subst, arith}
use Rattle.std.specs.List.{list_any, AllByRecursion as Each}
use Rattle.ft_base.specs.declared.number.CallNo.{CallNo}
use Rattle.ft_base.specs.declared.number.UserNo.{UserNo}
use Rattle.ft_base.specs.declared.number.FuncNo.{FuncNo}
use Rattle.ft_base.specs.declared.item.Item.{Item}
use Rattle.ft_base.specs.declared.item.Item.TheVariants.{Return, Back, Refuse, Miss, Body, Exit, Ret}
use Rattle.ft_base.specs.declared.item.Ran.{Ran}
use Rattle.ft_base.specs.Job.{Job}
use Rattle.ft_base.specs.Desk.{desk, is_live}
use Rattle.ft_base.proofs.Small.{Each-weaker, false_true}
use Rattle.ft_hist.specs.Past.{Callback, Visit, done_at_leave, entry_of, exits, is_of, miss_after, miss_due, since_now, visits}
use Rattle.ft_hist.specs.Plain.{plain}
use Rattle.ft_hist.specs.Rules as strict
use Rattle.ft_hist.specs.Rules.{AreExitsDone, HasExit, InWindow, IsDead, IsExitDone, IsFetched, IsUnvisited, KeepsPlainRun, MayMiss}
use Rattle.ft_hist.proofs.ExitItems.{each-of}
use Rattle.kernel_rules.specs.declared.line.ExitOrder.{ExitOrder}
use Rattle.kernel_rules.specs.declared.line.Line.{Line}
use Rattle.kernel_rules.specs.declared.line.Line.TheVariants.{Seen, Unfetched}
use Rattle.kernel_rules.specs.Rules.{AtSome, IsLegalPast, KeepsCallbacks, MayExit, MayFollow, MayVisit}
use Rattle.kernel_rules.specs.Rules as profile
use Rattle.kernel_rules.specs.Recorded.{AreTold, Lacking, Marked, Told, Tells, history, line_of}
use Rattle.kernel_rules.specs.Direct as direct
use Rattle.kernel_rules.specs.Direct.{AreLegal, CouldFetch, item_of}
use Rattle.kernel_rules.proofs.Thinned.{Alike, alike, bare, thinned}
use Rattle.kernel_rules.proofs.Places.{IsDrawn, drawn, line-place, place_of, thin-told}
use Rattle.kernel_rules.proofs.Merging.{at_place}
use Rattle.kernel_rules.proofs.Told.{ToldBy, after-lines, any-map, backs-told, each-unmap, exits-told, once-down, only-down, parts-of, replaced-alike, same-place}
use Rattle.kernel_rules.proofs.Parts.{on-alike, return-alike, run-on, since-alike}
use Rattle.kernel_rules.proofs.Misses.{fresh-run, is_back_of, last_back, miss-after-back}

-- each task has a run
pub history-runs : (by : ExitOrder) (job : Job) (past : List Item) → IsLegalPast by job past → (t : ℕ) → IsSome (plain job t past)
unfolding IsLegalPast plain
history-runs by job [] l t = refl
history-runs by job (item ∷ past) l t = l.0.run t

-- and after legal lines
pub line-runs : (by : ExitOrder) (job : Job) (lines : List Line) → AreLegal by job lines → (t : ℕ) → IsSome (plain job t (map item_of lines))
unfolding AreLegal plain
line-runs by job [] l t = refl
line-runs by job (line ∷ lines) l t = l.0.run t

-- what an item tells of its task is what its line tells
pub bare-drawn : (past : List Marked) (x item : Item) → IsDrawn past x item → bare x ≡ bare item
bare-drawn past x (Exit c u place) e = rw e refl
bare-drawn past x (Body c g ran) e = rw (e.1) refl
bare-drawn past x item e = rw e refl

-- it is of the same task
pub of-drawn : (t : ℕ) (past : List Marked) (x item : Item) → IsDrawn past x item → is_of t x ≡ is_of t item
of-drawn t past x (Exit c u place) e = rw e refl
of-drawn t past x (Body c g ran) e = rw (e.1) refl
of-drawn t past x item e = rw e refl

-- the item is a Body
abbrev is_body : Item → Bool
is_body (Body c g ran) = true
is_body _ = false

-- it is the same Back
pub back-drawn : (c : CallNo) (u : ℕ) (past : List Marked) (x item : Item) → IsDrawn past x item → is_back_of c u x ≡ is_back_of c u item
back-drawn c u past x (Exit d v place) e = rw e refl
back-drawn c u past x (Body d g ran) e = rw (e.1) refl
back-drawn c u past x item e = rw e refl

-- an item that lacks is no Back
no-back-lacks : (b a o : Bool) → cond b false a ≡ true → (a ≡ true → o ≡ true) → o ≡ true
no-back-lacks true a o e more = false_true e
no-back-lacks false a o e more = more e

-- the latest item of a task is told if it is a Back
back-told : (t : ℕ) (c : CallNo) (u : ℕ) (lines : List Line) (past : List Marked) → AreTold lines past → last_back t c u (history past) ≡ true → last_back t c u (map item_of lines) ≡ true
unfolding AreTold
back-told t c u lines [] read e = false_true e
back-told t c u lines (Lacking (Refuse d v reason) ∷ past) read e = no-back-lacks (d.task.0 == t) (last_back t c u (history past)) (last_back t c u (map item_of lines)) e (back-told t c u lines past read.1)
back-told t c u lines (Lacking (Miss d v) ∷ past) read e = no-back-lacks (d.task.0 == t) (last_back t c u (history past)) (last_back t c u (map item_of lines)) e (back-told t c u lines past read.1)
back-told t c u lines (Lacking item ∷ past) read e = absurd read.0
back-told t c u [] (Told item ∷ past) read e = absurd read
back-told t c u (line ∷ lines) (Told item ∷ past) read e =
    let d = drawn past line item read.0 in
    rw (of-drawn t past (item_of line) item d, back-drawn c u past (item_of line) item d) (by (is_of t item) e (back-told t c u lines past read.1))
  where
    by : (b : Bool) → cond b (is_back_of c u item) (last_back t c u (history past)) ≡ true → (last_back t c u (history past) ≡ true → last_back t c u (map item_of lines) ≡ true)
        → cond b (is_back_of c u item) (last_back t c u (map item_of lines)) ≡ true
    by true e more = e
    by false e more = more e

module _ (job : Job) where
  -- a Miss that is due in the history is due after the lines
  pub after-drawn : (x item : Item) (marked : List Marked) (past past' : List Item) → Alike job past past' → IsDrawn marked x item → miss_after job x past ≡ miss_after job item past'
  after-drawn x (Back c u) marked past past' a e = rw (e, a.held' c) refl
  after-drawn x (Exit c u place) marked past past' a e = rw e refl
  after-drawn x (Body c g ran) marked past past' a e = rw (e.1) refl
  after-drawn x item marked past past' a e = rw e refl

  -- where an item lacks
  due-lacking : (b : Bool) (o o' : Option Callback) (m : Callback) → cond b None o ≡ Some m → (o ≡ Some m → o' ≡ Some m) → o' ≡ Some m
  due-lacking true o o' m e more = absurd cc
  due-lacking false o o' m e more = more e

  -- a Miss that is due in the history is due after the lines
  pub due-told : (t : ℕ) (lines : List Line) (past : List Marked) → AreTold lines past → (m : Callback) → miss_due job t (history past) ≡ Some m → miss_due job t (map item_of lines) ≡ Some m
  unfolding AreTold
  due-told t lines [] read m e = absurd cc
  due-told t lines (Lacking (Refuse c u reason) ∷ past) read m e = due-lacking (c.task.0 == t) (miss_due job t (history past)) (miss_due job t (map item_of lines)) m e (due-told t lines past read.1 m)
  due-told t lines (Lacking (Miss c u) ∷ past) read m e = due-lacking (c.task.0 == t) (miss_due job t (history past)) (miss_due job t (map item_of lines)) m e (due-told t lines past read.1 m)
  due-told t lines (Lacking item ∷ past) read m e = absurd read.0
  due-told t [] (Told item ∷ past) read m e = absurd read
  due-told t (line ∷ lines) (Told item ∷ past) read m e =
      let d = drawn past line item read.0 in
      rw (of-drawn t past (item_of line) item d, after-drawn (item_of line) item past (map item_of lines) (history past) (alike job (map item_of lines) (history past) (thin-told lines past read.1)) d)
      (by (is_of t item) e (due-told t lines past read.1 m))
    where
      by : (b : Bool) → cond b (miss_after job item (history past)) (miss_due job t (history past)) ≡ Some m
          → (miss_due job t (history past) ≡ Some m → miss_due job t (map item_of lines) ≡ Some m)
          → cond b (miss_after job item (history past)) (miss_due job t (map item_of lines)) ≡ Some m
      by true e more = e
      by false e more = more e

module _ (by : ExitOrder) (job : Job) (lines : List Line) (past : List Marked) (t : AreTold lines past) (legal : IsLegalPast by job (history past)) (runs : (v : ℕ) → IsSome (plain job v (map item_of lines))) where
  -- the items of the lines
  abbrev xs : List Item
  xs = map item_of lines

  -- the items of the history
  abbrev hs : List Item
  hs = history past

  -- they are the same but for refusals and misses
  same : thinned hs ≡ thinned xs
  same = sym (thin-told lines past t)

  -- each task has a run after the history
  hruns : (v : ℕ) → IsSome (plain job v hs)
  hruns v = history-runs by job hs legal v

  -- so they are alike
  abbrev a : Alike job hs xs
  a = alike job hs xs same

  -- ## the plain run

  -- a Miss that is due
  miss-down : (c : CallNo) (u : UserNo) → MayMiss job hs c u.0 → MayMiss job xs c u.0
  miss-down c u may = of (miss_due job c.task.0 hs) refl may.0 may.1
    where
      of : (o : Option Callback) → miss_due job c.task.0 hs ≡ o → IfSome o (λ m. (m.call ≡ c) × (m.user ≡ u.0)) → IsSome o → MayMiss job xs c u.0
      of None e is some = false_true some
      of (Some m) e is some = rw (due-told job c.task.0 lines past t m e) (is, refl)

  -- the part of the plain run
  pub run-down : (item : Item) → KeepsPlainRun job hs item → KeepsPlainRun job xs item
  run-down (Miss c u) run = fresh-run job c u xs (back-told c.task.0 c u.0 lines past t (miss-after-back job c u hs (run c.task.0))) runs
  run-down item run = run-on job hs xs same hruns runs item refl run

  -- ## callbacks

  -- a visit
  pub visit-down : (c : CallNo) (u : ℕ) → MayVisit job hs c u → MayVisit job xs c u
  visit-down c u h = record {
    on = on-alike job hs xs same hruns runs c u h.on;
    once = once-down job c lines past t u h.once;
    order = subst (λ (n : ℕ). Each (λ m. n < m.since) (visits job c xs)) (sym (since-alike job hs xs same hruns runs c u)) (parts-of job c lines past t (λ m. since_now job c u hs < m.since) h.order).0;
  }

  -- the part of callbacks
  pub callbacks-down : (item : Item) → KeepsCallbacks job hs item → KeepsCallbacks job xs item
  callbacks-down (Back c u) h = visit-down c u.0 h
  callbacks-down (Refuse c u reason) h = visit-down c u.0 h
  callbacks-down (Return k answer) h = λ ok. return-alike job hs xs same hruns runs k (h ok)
  callbacks-down _ h = tt

  -- ## exits

  -- an exit
  pub exit-down : (c : CallNo) (u place : ℕ) → MayExit by job hs c u place → MayExit by job xs c u (line_of past place)
  exit-down c u place h =
      let o = h.of in
      let m : ToldBy job c lines past t o.0 = each-of (λ m. m.back ≡ true → ToldBy job c lines past t m) (visits job c hs) o.0 o.1 (backs-told job c lines past t) o.4.0 in
      let is : place_of past m.by.place ≡ place = ap (λ n. n.place) m.same ∙ o.3 in
      let line : line_of past place ≡ m.by.place = ap (line_of past) (sym is) ∙ line-place past m.by.place in
      let es = exits-told job c by lines past t legal in
      record {
        of = (
          m.by,
          m.there,
          ap (λ n. n.user) m.same ∙ o.2,
          sym line,
          subst (λ n. HasExit job n) (sym m.same) o.4,
          subst (λ (r : ℕ). AtSome job xs u (done_at_leave c xs) (λ k. is_live (desk job k) u r ≡ true)) (sym (ap (λ n. n.reg) m.same))
              (rw (← a.left c, ← a.done', ← a.begun') o.5),
        );
        order = subst (λ (n : ℕ). Each (λ e. profile.ComesAfter by n e) (exits c xs)) (sym line)
            (Each-weaker (λ e. profile.ComesAfter by place (place_of past e)) (λ e. profile.ComesAfter by m.by.place e) (exits c xs)
            (λ e k. after-lines by past m.by.place e (subst (λ (n : ℕ). profile.ComesAfter by n (place_of past e)) (sym is) k))
            (each-unmap (place_of past) (λ e. profile.ComesAfter by place e) (exits c xs) (subst (λ (ps : List ℕ). Each (λ e. profile.ComesAfter by place e) ps) es.same h.order)));
      }

  -- the exits of a call are done
  pub done-down : (c : CallNo) → AreExitsDone job hs c → AreExitsDone job xs c
  done-down c h =
      Each-weaker (λ m. HasExit job (at_place past m) → IsExitDone job c (at_place past m) hs) (λ m. HasExit job m → IsExitDone job c m xs) (visits job c xs) (λ m k has. one m (k has))
      (parts-of job c lines past t (λ m. HasExit job m → IsExitDone job c m hs) h).0
    where
      one : (m : Visit) → IsExitDone job c (at_place past m) hs → IsExitDone job c m xs
      one m (inl had) =
          inl (sym (any-map (place_of past) (λ e. e == place_of past m.place) (λ e. e == m.place) (λ e. same-place past e m.place) (exits c xs))
          ∙ subst (λ (ps : List ℕ). list_any (λ e. e == place_of past m.place) ps ≡ true) (exits-told job c by lines past t legal).same had)
      one m (inr dead) = inr (rw (← a.left c, ← a.begun') dead)

  -- the part of exits
  pub exits-down : (line : Line) (item : Item) → Tells past line item → profile.KeepsExits by job hs item → direct.KeepsExits by job xs (item_of line)
  exits-down line item tells h = of item (drawn past line item tells) h
    where
      of : (i : Item) → IsDrawn past (item_of line) i → profile.KeepsExits by job hs i → direct.KeepsExits by job xs (item_of line)
      of (Miss c u) d h = rw d (miss-down c u h)
      of (Exit c u place) d h = rw d (exit-down c u.0 place h.0)
      of (Ret c to) d h = rw d (done-down c h.0)
      of (Body c g ran) d h = rw (d.1) tt
      of _ d h = rw d tt

  -- ## fetches

  -- at most one user replaces the function
  one-down : (c : CallNo) → strict.OneReplaces (strict.backs_with_replacement job (visits job c hs)) → strict.OneReplaces (strict.backs_with_replacement job (visits job c xs))
  one-down c h = let n = (replaced-alike job c hs xs same).0 in omega (arith, n, h)

  -- the same function runs
  runs-down : (c : CallNo) (g : ℕ) → g ≡ strict.replacement job (entry_of c hs).func (strict.backs_with_replacement job (visits job c hs))
      → g ≡ strict.replacement job (entry_of c xs).func (strict.backs_with_replacement job (visits job c xs))
  runs-down c g h = h ∙ sym ((replaced-alike job c hs xs same).1 (entry_of c hs).func) ∙ rw (a.entered' c) refl

  -- a body is of the same fetch
  fetched : (c : CallNo) (g : ℕ) (ran : Ran) → IsFetched job hs c g ran → IsFetched job xs c g ran
  fetched c g ran h = record {
    fetched = rw (← a.entered' c, ← a.begun') h.fetched;
    only = only-down job c lines past t ran h.only;
    one = one-down c h.one;
    runs = runs-down c g h.runs;
  }

  -- a line that tells a body
  fetches-body : (line : Line) (c : CallNo) (g : FuncNo) (ran : Ran) → Tells past line (Body c g ran) → IsFetched job hs c g.0 ran → direct.LineFetches job xs line
  fetches-body (Unfetched d f) c g ran tells h =
      let k = h.fetched in
      rw (tells.0, tells.1) (record {
        only = rw (← a.entered' c, ← a.begun') (k.0, k.1, k.2, subst (λ (r : Ran). strict.OnlyThose r (visits job c xs)) k.3 (only-down job c lines past t ran h.only));
        one = one-down c h.one;
        runs = runs-down c g.0 h.runs;
      })
  fetches-body (Seen (Exit d u entry)) c g ran tells h = absurd tells
  fetches-body (Seen x) c g ran tells h = subst (λ (i : Item). strict.KeepsFetches job xs i) (sym tells) (fetched c g.0 ran h)

  -- a line that tells no body
  fetches-other : (line : Line) (item : Item) → Tells past line item → is_body item ≡ false → direct.LineFetches job xs line
  fetches-other (Unfetched d f) (Body c g ran) tells other = absurd cc
  fetches-other (Unfetched d f) _ tells other = absurd tells
  fetches-other (Seen (Body c g ran)) item tells other = absurd (let k : true ≡ is_body item = ap is_body tells in cc)
  fetches-other (Seen _) item tells other = tt

  -- the part of fetches
  pub fetches-down : (line : Line) (item : Item) → Tells past line item → strict.KeepsFetches job hs item → direct.LineFetches job xs line
  fetches-down line (Body c g ran) tells h = fetches-body line c g ran tells h
  fetches-down line item tells h = fetches-other line item tells refl
