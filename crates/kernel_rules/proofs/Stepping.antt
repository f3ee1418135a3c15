-- One more line: with the Miss that is due filled in, its item may come after a history that the lines before it tell.
use Rattle.std.proofs.Common.{cond, ◌≡◌, ℕ, Bool, true, false, ◌==◌, List, ◌∷◌, map, Option, Some, None, IsSome, IfSome, refl, sym, ap, ◌∙◌, subst, eqb-true}
use Rattle.std.specs.List.{list_any, AllByRecursion as Each}
use Rattle.ft_base.specs.declared.number.CallNo.{CallNo}
use Rattle.ft_base.specs.declared.number.UserNo.{UserNo}
use Rattle.ft_base.specs.declared.item.Item.{Item}
use Rattle.ft_base.specs.declared.item.Item.TheVariants.{Miss, Exit, Ret}
use Rattle.ft_base.specs.declared.item.Ran.{Ran}
use Rattle.ft_base.specs.Items.{call_of}
use Rattle.ft_base.specs.Job.{Job}
use Rattle.ft_base.proofs.Small.{==-refl, Each-weaker, false_true}
use Rattle.ft_hist.specs.Past.{Callback, is_dispatched, is_of, miss_after, miss_due}
use Rattle.ft_hist.specs.Plain.{plain}
use Rattle.ft_hist.specs.Rules as strict
use Rattle.ft_hist.specs.Rules.{InWindow, KeepsCommands, KeepsPlainRun, KeepsRefusals, MayMiss, NoMissDue, OnlyThose}
use Rattle.kernel_rules.specs.declared.line.ExitOrder.{ExitOrder}
use Rattle.kernel_rules.specs.declared.line.Line.{Line}
use Rattle.kernel_rules.specs.declared.line.Line.TheVariants.{Seen}
use Rattle.kernel_rules.specs.Rules as profile
use Rattle.kernel_rules.specs.Rules.{IsLegalPast, KeepsCallbacks, MayFollow, MayVisit}
use Rattle.kernel_rules.specs.Recorded.{AreTold, Lacking, Marked, history}
use Rattle.kernel_rules.specs.Direct as direct
use Rattle.kernel_rules.specs.Direct.{AreLegal, AreSilent, CouldLack, Lacked, item_of}
use Rattle.kernel_rules.proofs.Thinned.{alike}
use Rattle.kernel_rules.proofs.Runs.{is_miss}
use Rattle.kernel_rules.proofs.Places.{IsDrawn, drawn, thin-told}
use Rattle.kernel_rules.proofs.Merging.{lacks}
use Rattle.kernel_rules.proofs.Parts.{commands-alike, refusals-alike, run-on}
use Rattle.kernel_rules.proofs.Misses.{fresh-run, is_back_of, last_back, miss-after-back}
use Rattle.kernel_rules.proofs.Removing.{after-drawn, back-drawn, history-runs, line-runs, of-drawn}
use Rattle.kernel_rules.proofs.Lines.{run-line}
use Rattle.kernel_rules.proofs.Inserting.{as-item, callbacks-up, done-up, exit-up, tells, told_as}
use Rattle.kernel_rules.proofs.Filling.{Filled, due-run, due-task, user}
use Rattle.kernel_rules.proofs.Lacks.{IsAfter, visitor, visitor-drawn}
use Rattle.kernel_rules.proofs.Wanted.{IsOf, Wanted}

module _ (by : ExitOrder) (job : Job) (lines : List Line) (direct' : AreLegal by job lines) (w : List Wanted) where
  -- the items of the lines
  abbrev xs : List Item
  xs = map item_of lines

  -- each task has a run after the lines
  runs : (v : ℕ) → IsSome (plain job v xs)
  runs v = line-runs by job lines direct' v

  -- a history that is ready for an item of this kind: no Miss is due in its task but where it is one
  pub record Ready (x : Item) : Type 0 where
    pub past : List Marked
    pub told' : AreTold lines past
    pub legal : IsLegalPast by job (history past)
    pub only : (c : CallNo) → is_dispatched c xs ≡ false → Each (λ m. IsOf job c m w) (lacks job c past)
    pub all : Each (λ r. list_any (λ m. m.user == r.lacked.user.0) (lacks job r.call past) ≡ true) w
    pub due : (t : ℕ) (m : Callback) → is_of t x ≡ false → miss_due job t xs ≡ Some m → miss_due job t (history past) ≡ Some m
    pub clear : is_miss x ≡ false → IfSome (call_of x) (NoMissDue job (history past))
    pub fresh : (t : ℕ) (c : CallNo) (u : UserNo) → is_of t x ≡ false → last_back t c u.0 xs ≡ true → last_back t c u.0 (history past) ≡ true
    pub back : is_miss x ≡ true → (t : ℕ) (c : CallNo) (u : UserNo) → last_back t c u.0 xs ≡ true → last_back t c u.0 (history past) ≡ true
    pub miss : is_miss x ≡ true → (t : ℕ) (m : Callback) → miss_due job t xs ≡ Some m → miss_due job t (history past) ≡ Some m

  module _ (f : Filled by job lines w) where
    -- the items of the history
    abbrev hs : List Item
    hs = history f.past

    -- each task has a run after the history
    hruns : (v : ℕ) → IsSome (plain job v hs)
    hruns v = history-runs by job hs f.legal v

    -- the history as it is
    as-it-is : (x : Item) → (is_miss x ≡ false → IfSome (call_of x) (NoMissDue job hs)) → Ready x
    as-it-is x clear = record {
      past = f.past;
      told' = f.told';
      legal = f.legal;
      only = f.only;
      all = f.all;
      due = λ t m other e. f.due t m e;
      fresh = λ t c u other e. f.fresh t c u e;
      back = λ is t c u e. f.fresh t c u e;
      clear = clear;
      miss = λ is t m e. f.due t m e;
    }

    -- the Miss that is due in the task
    module _ (x : Item) (c : CallNo) (own : (t : ℕ) → is_of t x ≡ (c.task.0 == t)) (of : call_of x ≡ Some c) (plain' : is_miss x ≡ false) (m : Callback) (e : miss_due job c.task.0 hs ≡ Some m) where
      -- the Miss
      abbrev miss : Item
      miss = Miss m.call (user m.user)

      -- it may come
      may : MayFollow by job hs miss
      may = record {
        run = due-run job c.task.0 hs m e hruns;
        callbacks = tt;
        silence = tt;
        refusals = tt;
        exits = here (m.call.task.0) (eqb-true m.call.task.0 c.task.0 (due-task job c.task.0 hs m e));
        fetches = tt;
        commands = tt;
      }
        where
          here : (t : ℕ) → t ≡ c.task.0 → IfSome (miss_due job t hs) (λ n. (n.call ≡ m.call) × (n.user ≡ m.user)) × IsSome (miss_due job t hs)
          here t is = rw (is, e) ((refl, refl), refl)

      -- it is of the task of the item
      task : m.call.task.0 ≡ c.task.0
      task = eqb-true m.call.task.0 c.task.0 (due-task job c.task.0 hs m e)

      -- so it is none of another task
      apart : (t : ℕ) → is_of t x ≡ false → (m.call.task.0 == t) ≡ false
      apart t other = ap (λ (v : ℕ). v == t) task ∙ sym (own t) ∙ other

      -- the history with it
      with-miss : Ready x
      unfolding IsLegalPast AreTold
      with-miss = record {
        past = Lacking miss ∷ f.past;
        told' = (tt, f.told');
        legal = (may, f.legal);
        only = f.only;
        all = f.all;
        due = λ t n other d. due t n other d;
        clear = λ _. subst (λ (o : Option CallNo). IfSome o (NoMissDue job (miss ∷ hs))) (sym of) (rw (task, ==-refl c.task.0) refl);
        fresh = λ t d v other e. fresh t d v other e;
        back = λ is. false_true (sym plain' ∙ is);
        miss = λ is. false_true (sym plain' ∙ is);
      }
        where
          due : (t : ℕ) (n : Callback) → is_of t x ≡ false → miss_due job t xs ≡ Some n → miss_due job t (miss ∷ hs) ≡ Some n
          due t n other d = rw (apart t other) (f.due t n d)

          fresh : (t : ℕ) (d : CallNo) (v : UserNo) → is_of t x ≡ false → last_back t d v.0 xs ≡ true → last_back t d v.0 (miss ∷ hs) ≡ true
          fresh t d v other e = rw (apart t other) (f.fresh t d v e)

    -- by the call of the item
    ready-of : (x : Item) (o : Option CallNo) → call_of x ≡ o → ((t : ℕ) (c : CallNo) → o ≡ Some c → is_of t x ≡ (c.task.0 == t)) → (b : Bool) → is_miss x ≡ b → Ready x
    ready-of x None e own b is = as-it-is x (λ _. subst (λ (o : Option CallNo). IfSome o (NoMissDue job hs)) (sym e) tt)
    ready-of x (Some c) e own true is = as-it-is x (λ no. false_true (sym no ∙ is))
    ready-of x (Some c) e own false is = by-due (miss_due job c.task.0 hs) refl
      where
        by-due : (o : Option Callback) → miss_due job c.task.0 hs ≡ o → Ready x
        by-due None d = as-it-is x (λ _. subst (λ (o : Option CallNo). IfSome o (NoMissDue job hs)) (sym e) d)
        by-due (Some m) d = with-miss x c (λ t. own t c refl) e is m d

    -- for each item
    pub ready : (x : Item) → Ready x
    ready x = ready-of x (call_of x) refl (λ t c e. ap (λ o. Rattle.ft_base.specs.Items.is_task t o) e) (is_miss x) refl

  -- ## the item

  module _ (line : Line) (r : Ready (item_of line)) (ran : Ran) where
    -- the items of the history
    abbrev hist : List Item
    hist = history r.past

    -- each task has a run after it
    rruns : (v : ℕ) → IsSome (plain job v hist)
    rruns v = history-runs by job hist r.legal v

    -- the item that the line tells
    abbrev item : Item
    item = told_as r.past ran line

    -- its line is that of the line
    is-drawn : IsDrawn r.past (item_of line) item
    is-drawn = drawn r.past line item (tells r.past ran line)

    -- it goes on with the run of the lines
    run-of : KeepsPlainRun job xs (item_of line) → KeepsPlainRun job xs item
    run-of run t = subst (λ o. IsSome o) (run-line job xs r.past (item_of line) item t is-drawn) (run t)

    -- the part of callbacks
    pub callbacks-of : KeepsPlainRun job xs (item_of line) → Each (λ s. Each (IsAfter job s.call xs s.lacked) (visitor s.call (item_of line))) w → KeepsCallbacks job xs (item_of line) → KeepsCallbacks job hist item
    callbacks-of run after h =
        callbacks-up by job lines r.past r.told' r.legal runs w r.only item (run-of run)
        (Each-weaker _ _ w (λ s k. subst (λ (us : List ℕ). Each (IsAfter job s.call xs s.lacked) us) (visitor-drawn s.call r.past (item_of line) item is-drawn) k) after)
        (as-item (λ i. KeepsCallbacks job xs i) (λ c u e. tt) (λ c g ran. tt) r.past (item_of line) item is-drawn h)

    -- the part of refusals
    pub refusals-of : KeepsRefusals job xs (item_of line) → KeepsRefusals job hist item
    refusals-of h = refusals-alike job xs hist (thin-told lines r.past r.told') runs rruns item (as-item (λ i. KeepsRefusals job xs i) (λ c u e. tt) (λ c g ran. tt) r.past (item_of line) item is-drawn h)

    -- the part of commands
    pub commands-of : KeepsCommands job xs (item_of line) → KeepsCommands job hist item
    commands-of h = commands-alike job xs hist (thin-told lines r.past r.told') runs rruns item (as-item (λ i. KeepsCommands job xs i) (λ c u e. tt) (λ c g ran. tt) r.past (item_of line) item is-drawn h)

    -- what is due after it
    pub due-of : (t : ℕ) (m : Callback) → miss_due job t (item_of line ∷ xs) ≡ Some m → miss_due job t (item ∷ hist) ≡ Some m
    due-of t m e =
        rw (sym (of-drawn t r.past (item_of line) item is-drawn), sym (after-drawn job (item_of line) item r.past xs hist (alike job xs hist (thin-told lines r.past r.told')) is-drawn))
        (of (is_of t (item_of line)) refl e)
      where
        of : (b : Bool) → is_of t (item_of line) ≡ b → cond b (miss_after job (item_of line) xs) (miss_due job t xs) ≡ Some m → cond b (miss_after job (item_of line) xs) (miss_due job t hist) ≡ Some m
        of true own e = e
        of false other e = r.due t m other e

    -- after which Back a Miss may come after it
    pub fresh-of : (t : ℕ) (c : CallNo) (u : UserNo) → last_back t c u.0 (item_of line ∷ xs) ≡ true → last_back t c u.0 (item ∷ hist) ≡ true
    fresh-of t c u e = rw (sym (of-drawn t r.past (item_of line) item is-drawn), sym (back-drawn c u.0 r.past (item_of line) item is-drawn)) (of (is_of t (item_of line)) refl e)
      where
        of : (b : Bool) → is_of t (item_of line) ≡ b → cond b (is_back_of c u.0 (item_of line)) (last_back t c u.0 xs) ≡ true → cond b (is_back_of c u.0 (item_of line)) (last_back t c u.0 hist) ≡ true
        of true own e = e
        of false other e = r.fresh t c u other e

  -- a Miss that is due after the lines is due after the history
  miss-up : (c : CallNo) (u : UserNo) (r : Ready (Miss c u)) → MayMiss job xs c u.0 → MayMiss job (history r.past) c u.0
  miss-up c u r may = of (miss_due job c.task.0 xs) refl may.0 may.1
    where
      of : (o : Option Callback) → miss_due job c.task.0 xs ≡ o → IfSome o (λ m. (m.call ≡ c) × (m.user ≡ u.0)) → IsSome o → MayMiss job (history r.past) c u.0
      of None e is some = false_true some
      of (Some m) e is some = rw (r.miss refl c.task.0 m e) (is, refl)

  -- the part of the plain run
  pub run-up : (line : Line) (r : Ready (item_of line)) (ran : Ran) → KeepsPlainRun job xs (item_of line) → KeepsPlainRun job (history r.past) (told_as r.past ran line)
  run-up (Seen (Miss c u)) r ran run = fresh-run job c u (history r.past) (r.back refl c.task.0 c u (miss-after-back job c u xs (run c.task.0))) (λ v. history-runs by job (history r.past) r.legal v)
  run-up line r ran run =
      run-on job xs (history r.past) (thin-told lines r.past r.told') runs (λ v. history-runs by job (history r.past) r.legal v) (told_as r.past ran line) refl (run-of line r ran run)

  -- the part of exits
  pub exits-up : (line : Line) (r : Ready (item_of line)) (ran : Ran) → direct.KeepsExits by job xs (item_of line) → profile.KeepsExits by job (history r.past) (told_as r.past ran line)
  exits-up (Seen (Miss c u)) r ran h = miss-up c u r h
  exits-up (Seen (Exit c u e)) r ran h = (exit-up by job lines r.past r.told' r.legal runs c u.0 e h, r.clear refl)
  exits-up (Seen (Ret c to)) r ran h = (done-up by job lines r.past r.told' r.legal runs c h, r.clear refl)
  exits-up line r ran h = r.clear refl

  -- the item may come after the history
  pub follow-up : (line : Line) (r : Ready (item_of line)) (ran : Ran) → direct.MayFollow by job xs line → Each (λ s. Each (IsAfter job s.call xs s.lacked) (visitor s.call (item_of line))) w
      → strict.KeepsSilence job (history r.past) (told_as r.past ran line) → strict.KeepsFetches job (history r.past) (told_as r.past ran line) → MayFollow by job (history r.past) (told_as r.past ran line)
  follow-up line r ran m after silence fetches = record {
    run = run-up line r ran m.run;
    callbacks = callbacks-of line r ran m.run after m.callbacks';
    silence = silence;
    refusals = refusals-of line r ran m.refusals;
    exits = exits-up line r ran m.exits;
    fetches = fetches;
    commands = commands-of line r ran m.commands;
  }
