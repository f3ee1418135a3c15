-- How what is known of a call that leaves goes on over one more item, and what it is good for at the start and at the end of its return.
use Rattle.std.proofs.Common.{◌≡◌, ◌<◌, ◌≤◌, ◌⊎◌, true, false, ◌&&◌, ◌||◌, ◌==◌, List, [], ◌∷◌, refl, sym, ◌∙◌, subst, arith, eqb-true, inl, inr}
use Rattle.std.specs.List.{list_any, AllByRecursion as Each}
use Rattle.ft_base.specs.declared.number.CallNo.{CallNo}
use Rattle.ft_base.specs.declared.item.Item.{Item}
use Rattle.ft_base.specs.declared.item.Item.TheVariants.{Leave, Exit}
use Rattle.ft_base.specs.Job.{Job}
use Rattle.ft_base.specs.Desk.{desk, is_live}
use Rattle.ft_base.proofs.Small.{false_true, and_both, Each-weaker, or-true}
use Rattle.ft_hist.specs.Past.{begun, exits, visits, Visit}
use Rattle.ft_hist.specs.Rules.{AtReturnedOrBegun, MayExit, AreExitsDone, IsExitDone, IsDead, HasExit}
use Rattle.ft_hist.proofs.Laws.{same_call-refl}
use Rattle.ft_hist.proofs.WindowLaws.{visits-more}
use Rattle.ft_hist.specs.Frames.{FrameUser, is_user_of, is_among, FrameOf}
use Rattle.ft_hist.specs.Known.{Fate, ExitsSo}
use Rattle.ft_hist.proofs.Since.{Untouched}

module _ (job : Job) (call : CallNo) (ms : List Visit) where
  -- the next exit may stand where its registration is live at either command
  pub exits-may : (x : FrameUser) (rest : List FrameUser) (past : List Item) → AtReturnedOrBegun past (λ k. is_live (desk job k) x.user x.reg ≡ true) → ExitsSo job call ms past (x ∷ rest) → MayExit job past call x.user x.entry
  exits-may x rest past live h =
      let o = h.owed.0 in
      record {
        of = (o.0, rw h.those o.1, o.2, o.3, o.5, subst (λ r. AtReturnedOrBegun past (λ k. is_live (desk job k) x.user r ≡ true)) (sym o.4) live);
        order = Each-weaker (λ e. Each (λ y. e < y.entry) (x ∷ rest)) (λ e. e < x.entry) (exits call past) (λ e b. b.0) h.before;
      }

  parts : (m : Visit) (x : FrameUser) → is_user_of m x ≡ true → (x.user ≡ m.user) × (x.reg ≡ m.reg) × ((x.entry == m.place) ≡ true)
  parts m x e =
      let a = and_both ((x.user == m.user) && (x.reg == m.reg)) (x.entry == m.place) e in
      let b = and_both (x.user == m.user) (x.reg == m.reg) a.0 in
      (eqb-true x.user m.user b.0, eqb-true x.reg m.reg b.1, a.1)

  -- one user less to come
  taken : (m : Visit) (x : FrameUser) (rest : List FrameUser) (past past' : List Item)
      → (is_user_of m x ≡ true → (list_any (λ e. e == m.place) (exits call past') ≡ true) ⊎ IsDead job call m.user m.reg past')
      → (list_any (λ e. e == m.place) (exits call past) ≡ true → list_any (λ e. e == m.place) (exits call past') ≡ true)
      → (IsDead job call m.user m.reg past → IsDead job call m.user m.reg past')
      → Fate job call m (x ∷ rest) past → Fate job call m rest past'
  taken m x rest past past' here more dead (inl a) =
      elim (is_user_of m x) as (λ b. is_user_of m x ≡ b → (b || is_among m rest) ≡ true → Fate job call m rest past') [
        | true ↦ λ e y. inr (here e)
        | false ↦ λ e y. inl y
      ] refl a
  taken m x rest past past' here more dead (inr (inl a)) = inr (inl (more a))
  taken m x rest past past' here more dead (inr (inr a)) = inr (inr (dead a))

  abbrev exit_of : FrameUser → Item
  exit_of x = Exit call (record { 0 = x.user }) x.entry

  -- over the Exit of the next user
  pub exits-after : (x : FrameUser) (rest : List FrameUser) (past : List Item) → ExitsSo job call ms past (x ∷ rest) → ExitsSo job call ms (exit_of x ∷ past) rest
  exits-after x rest past h =
      let now_exits : exits call (exit_of x ∷ past) ≡ x.entry ∷ exits call past = rw (same_call-refl call) refl in
      record {
        those = visits-more job call (exit_of x) past refl ∙ h.those;
        owed = h.owed.1;
        rises = h.rises.1;
        before = rw now_exits (h.rises.0, Each-weaker (λ e. Each (λ y. e < y.entry) (x ∷ rest)) (λ e. Each (λ y. e < y.entry) rest) (exits call past) (λ e b. b.1) h.before);
        all = Each-weaker (λ m. HasExit job m → Fate job call m (x ∷ rest) past) (λ m. HasExit job m → Fate job call m rest (exit_of x ∷ past)) ms
            (λ m g i. taken m x rest past (exit_of x ∷ past) (λ e. inl (rw (now_exits, (parts m x e).2) refl)) (λ e. rw (now_exits, e, or-true (x.entry == m.place)) refl) (λ d. d) (g i)) h.all;
      }

  -- past a user whose registration was not live at some command since the Leave
  pub exits-dead : (x : FrameUser) (rest : List FrameUser) (past : List Item) → IsDead job call x.user x.reg past → ExitsSo job call ms past (x ∷ rest) → ExitsSo job call ms past rest
  exits-dead x rest past dead h = record {
    those = h.those;
    owed = h.owed.1;
    rises = h.rises.1;
    before = Each-weaker (λ e. Each (λ y. e < y.entry) (x ∷ rest)) (λ e. Each (λ y. e < y.entry) rest) (exits call past) (λ e b. b.1) h.before;
    all = Each-weaker (λ m. HasExit job m → Fate job call m (x ∷ rest) past) (λ m. HasExit job m → Fate job call m rest past) ms
        (λ m g i. taken m x rest past past
        (λ e. inr (subst (λ u. IsDead job call u m.reg past) (parts m x e).0 (subst (λ r. IsDead job call x.user r past) (parts m x e).1 dead))) (λ e. e) (λ d. d) (g i)) h.all;
  }

  -- over items that don't touch the call, of whichever actor
  pub exits-untouched : (rest : List FrameUser) (past past' : List Item) → Untouched job call past past' → begun past ≤ begun past' → ExitsSo job call ms past rest → ExitsSo job call ms past' rest
  exits-untouched rest past past' u le h = record {
    those = u.visits ∙ h.those;
    owed = h.owed;
    rises = h.rises;
    before = rw u.exits h.before;
    all = Each-weaker (λ m. HasExit job m → Fate job call m rest past) (λ m. HasExit job m → Fate job call m rest past') ms (λ m g i. later m (g i)) h.all;
  }
    where
      later : (m : Visit) → Fate job call m rest past → Fate job call m rest past'
      later m (inl a) = inl a
      later m (inr (inl a)) = inr (inl (rw u.exits a))
      later m (inr (inr d)) = inr (inr (d.0, rw u.left d.1, (let b = d.2 in omega (arith, b, le)), d.3))

  -- with nobody to come, all exits are done
  pub exits-done : (past : List Item) → ExitsSo job call ms past [] → AreExitsDone job past call
  exits-done past h = rw h.those (Each-weaker (λ m. HasExit job m → Fate job call m [] past) (λ m. HasExit job m → IsExitDone job call m past) ms (λ m g i. done m (g i)) h.all)
    where
      done : (m : Visit) → Fate job call m [] past → IsExitDone job call m past
      done m (inl a) = false_true a
      done m (inr d) = d

-- at the Leave all users of the frame are owed
pub exits-start : (job : Job) (call : CallNo) (past : List Item) (users : List FrameUser) → FrameOf job (visits job call past) users → exits call past ≡ []
    → ExitsSo job call (visits job call past) (Leave call ∷ past) users
exits-start job call past users frame none = record {
  those = visits-more job call (Leave call) past refl;
  owed = frame.owed;
  rises = frame.rises;
  before = rw none tt;
  all = Each-weaker (λ m. HasExit job m → is_among m users ≡ true) _ (visits job call past) (λ m g i. inl (g i)) frame.all;
}
