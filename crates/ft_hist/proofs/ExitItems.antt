-- The laws of exits and of what is open at an unregistration, by items.
use Rattle.std.proofs.Common.{IfSome, ◌≡◌, ℕ, zero, suc, ◌<◌, ◌≤◌, ◌⊎◌, Bool, true, false, ◌==◌, List, [], ◌∷◌, ◌++◌, length, reverse, Option, Some, refl, sym, ap, ◌∙◌, subst, arith, cond, inl, inr, lt-ltb, ◌||◌, ◌&&◌, nat_lt, ltb-true, append_assoc}
use Rattle.std.specs.Prelude.{slice_get, get_or, Contains}
use Rattle.std.specs.List.{list_any, AllByRecursion as Each}
use Rattle.std.proofs.lemmas.List.{reverse-reverse, length-reverse}
use Rattle.std.proofs.lemmas.Bool.{cases_lt}
use Rattle.ft_base.specs.declared.number.CallNo.{CallNo}
use Rattle.ft_base.specs.declared.number.UserNo.{UserNo}
use Rattle.ft_base.specs.declared.item.Answer.TheVariants.{Accepted}
use Rattle.ft_base.specs.declared.item.Item.{Item}
use Rattle.ft_base.specs.declared.item.Item.TheVariants.{Return, Back, Exit, Ret}
use Rattle.ft_base.specs.Job.{Job, Command, commands}
use Rattle.ft_base.specs.Desk.{desk, is_live, spec_at}
use Rattle.ft_base.specs.Same.{same_call}
use Rattle.ft_base.specs.Kinds.{has_depth, has_exit, cancels, wants_frame}
use Rattle.ft_base.proofs.Small.{false_true}
use Rattle.ft_hist.specs.Past.{callbacks, is_called, held, AreFramesHeld, Visit, user_now, visit, visits, all_visits, exits, gets_frame, IsFrameLeft}
use Rattle.ft_hist.specs.Rules.{IsLegal, HasExit, IsExitDone, AtReturnedOrBegun, IsStill}
use Rattle.ft_hist.specs.Telling.{is_begin_by, is_end_by, is_exit_for, TakesOff, MayLackExit}
use Rattle.ft_hist.proofs.Laws.{same_call-refl}
use Rattle.ft_hist.proofs.Splitting.{splits, split-reverse}
use Rattle.ft_hist.proofs.ByItems.{any-reverse, opened-since, opened-now, opened-called, HasBack, told, of-back, exit-item}
use Rattle.ft_hist.proofs.ItemOrders.{later_at, legal-to}
use Rattle.ft_hist.proofs.FrameLimit.{frames-within}

-- ## no callback is open where its user's unregistration or disabling returns

module _ (job : Job) (items a b rest : List Item) (x : Item) (k : ℕ) (call : CallNo) (u : ℕ) (legal : IsLegal job items)
    (e : items ≡ (a ++ x ∷ b) ++ Return (suc k) Accepted ∷ rest) (begins : is_begin_by call u x ≡ true) where
  still : (c : Command) → TakesOff c u → IsStill (reverse (a ++ x ∷ b)) c → is_called u (reverse (a ++ x ∷ b)) ≡ false
  still c off h = subst (λ o. IfSome o (λ v. is_called v (reverse (a ++ x ∷ b)) ≡ false)) off h

  pub ended-before : (c : Command) → slice_get (commands job) k ≡ Some c → TakesOff c u → list_any (is_end_by call u) b ≡ true
  ended-before c command off = by (list_any (is_end_by call u) b) refl
    where
      by : (t : Bool) → list_any (is_end_by call u) b ≡ t → list_any (is_end_by call u) b ≡ true
      by true q = q
      by false q =
          let r = splits job items (a ++ x ∷ b) (Return (suc k) Accepted) rest legal e in
          let quiet : IsStill (reverse (a ++ x ∷ b)) c = subst (λ (o : Option Command). IfSome o (IsStill (reverse (a ++ x ∷ b)))) command (r.callbacks refl) in
          let opened = opened-called call u (callbacks (reverse b ++ x ∷ reverse a))
          (opened-since call u (reverse b) (x ∷ reverse a) (any-reverse (is_end_by call u) b ∙ q) (opened-now call u x (reverse a) begins)) in
          false_true (sym (still c off quiet) ∙ subst (λ past. is_called u past ≡ true) (sym (split-reverse a x b)) opened)

-- ## exits

-- what holds of each element of a list holds of one that it contains
each-at : {X : Type 0} (P : X → Type 0) (xs : List X) (i : ℕ) (x : X) → i < length xs → get_or xs i x ≡ x → Each P xs → P x
each-at P [] i x lt e h = absurd (omega arith)
each-at P (y ∷ xs) zero x lt e h = subst P e h.0
each-at P (y ∷ xs) (suc i) x lt e h = each-at P xs i x (omega arith) e h.1

pub each-of : {X : Type 0} (P : X → Type 0) (xs : List X) (x : X) → Contains xs x → Each P xs → P x
each-of P xs x c h = each-at P xs c.0 x c.1 c.2 h

pub user_no : (user : UserNo) (v : ℕ) → v ≡ user.0 → record { 0 = v } ≡ user
user_no user v e = rw e refl

module _ (job : Job) (items first rest : List Item) (call : CallNo) (user : UserNo) (entry : ℕ) (legal : IsLegal job items) (e : items ≡ first ++ Exit call user entry ∷ rest) where
  -- the exit of a call's frame belongs to the Back at its entry, and that Back's registration is live
  pub exit-of : (a : List Item) × (b : List Item) × (first ≡ a ++ Back call user ∷ b) × (length a ≡ entry)
      × AtReturnedOrBegun (reverse first) (λ k. is_live (desk job k) user.0 (user_now job call user.0 (reverse a)).reg ≡ true)
  exit-of =
      let of = (splits job items first (Exit call user entry) rest legal e).exits.0.of in
      let m = of.0 in
      let has : HasBack job call m (reverse first) = each-of (λ v. v.back ≡ true → HasBack job call v (reverse first)) (visits job call (reverse first)) m of.1 (told job call (reverse first)) of.4.0 in
      let older = has.1 in
      let back : Back call (record { 0 = m.user }) ≡ Back call user = ap (λ (v : UserNo). Back call v) (user_no user m.user of.2) in
      let shape : first ≡ reverse older ++ Back call user ∷ reverse has.0 =
      sym (reverse-reverse first) ∙ ap (λ (xs : List Item). reverse xs) (has.2 ∙ ap (λ (z : Item). has.0 ++ z ∷ older) back) ∙ split-reverse has.0 (Back call user) older in
      let place : length (reverse older) ≡ entry = length-reverse older ∙ sym has.3 ∙ of.3 in
      let reg : m.reg ≡ (user_now job call user.0 (reverse (reverse older))).reg =
      has.4 ∙ ap (λ (v : ℕ). (user_now job call v older).reg) of.2 ∙ ap (λ (xs : List Item). (user_now job call user.0 xs).reg) (sym (reverse-reverse older)) in
      (reverse older, reverse has.0, shape, place, subst (λ r. AtReturnedOrBegun (reverse first) (λ k. is_live (desk job k) user.0 r ≡ true)) reg of.5)

  -- and its user has an exit and doesn't cancel it, and its Back found a frame
  pub exit-set-up : (wants_frame (spec_at job user.0).kind ≡ true) × (cancels (spec_at job user.0).kind ≡ false)
      × (a : List Item) × (b : List Item) × (first ≡ a ++ Back call user ∷ b) × (length a ≡ entry) × IsFrameLeft job (reverse a) call
  exit-set-up =
      let of = (splits job items first (Exit call user entry) rest legal e).exits.0.of in
      let m = of.0 in
      let has : HasBack job call m (reverse first) = each-of (λ v. v.back ≡ true → HasBack job call v (reverse first)) (visits job call (reverse first)) m of.1 (told job call (reverse first)) of.4.0 in
      let older = has.1 in
      let back : Back call (record { 0 = m.user }) ≡ Back call user = ap (λ (v : UserNo). Back call v) (user_no user m.user of.2) in
      let shape : first ≡ reverse older ++ Back call user ∷ reverse has.0 =
      sym (reverse-reverse first) ∙ ap (λ (xs : List Item). reverse xs) (has.2 ∙ ap (λ (z : Item). has.0 ++ z ∷ older) back) ∙ split-reverse has.0 (Back call user) older in
      let place : length (reverse older) ≡ entry = length-reverse older ∙ sym has.3 ∙ of.3 in
      let gets : gets_frame job call user.0 older (all_visits job older) ≡ true = subst (λ (v : ℕ). gets_frame job call v older (all_visits job older) ≡ true) of.2 (sym has.5 ∙ of.4.1) in
      let before : items ≡ reverse older ++ Back call user ∷ (reverse has.0 ++ Exit call user entry ∷ rest) =
      e ∙ ap (λ (xs : List Item). xs ++ Exit call user entry ∷ rest) shape ∙ append_assoc (reverse older) (Back call user ∷ reverse has.0) (Exit call user entry ∷ rest) in
      let passes = (splits job items (reverse older) (Back call user) (reverse has.0 ++ Exit call user entry ∷ rest) legal before).refusals in
      let w = by older (has_depth (spec_at job user.0).kind) refl passes.room (has_exit (spec_at job user.0).kind) gets in
      (w.0, subst (λ (v : ℕ). cancels (spec_at job v).kind ≡ false) of.2 of.4.2, reverse older, reverse has.0, shape, place, w.1)
    where
      by : (older : List Item) (d : Bool) → has_depth (spec_at job user.0).kind ≡ d → (has_depth (spec_at job user.0).kind ≡ true → IsFrameLeft job (reverse (reverse older)) call) → (x : Bool)
          → (d || (x && nat_lt (held job call older) job.frames)) ≡ true → ((d || x) ≡ true) × IsFrameLeft job (reverse (reverse older)) call
      by older true de room x g = (refl, room de)
      by older false de room true g = (refl, subst (λ (xs : List Item). IsFrameLeft job xs call) (sym (reverse-reverse older)) (ltb-true (held job call older) job.frames g))
      by older false de room false g = false_true g

-- a later exit belongs to a later Back
exits-since : (call : CallNo) (user : UserNo) (entry : ℕ) (P : ℕ → Type 0) (newer past : List Item) → Each P (exits call (newer ++ Exit call user entry ∷ past)) → P entry
exits-since call user entry P [] past h = (rw (same_call-refl call) at h).0
exits-since call user entry P (Exit c v n ∷ newer) past h = exits-since call user entry P newer past (rest (same_call c call) n (exits call (newer ++ Exit call user entry ∷ past)) h)
  where
    rest : (b : Bool) (n : ℕ) (es : List ℕ) → Each P (cond b (n ∷ es) es) → Each P es
    rest true n es k = k.1
    rest false n es k = k
exits-since call user entry P (_ ∷ newer) past h = exits-since call user entry P newer past h

pub exit-after : (job : Job) (items a b c : List Item) (call : CallNo) (user user' : UserNo) (entry entry' : ℕ) → IsLegal job items
    → items ≡ a ++ Exit call user entry ∷ (b ++ Exit call user' entry' ∷ c) → entry < entry'
exit-after job items a b c call user user' entry entry' legal e =
    let order = (later_at job items a b c (Exit call user entry) (Exit call user' entry') legal e).exits.0.order in
    exits-since call user entry (λ n. n < entry') (reverse b) (reverse a)
    (subst (λ (past : List Item). Each (λ n. n < entry') (exits call past)) (split-reverse a (Exit call user entry) b) order)

module _ (job : Job) (items first second rest : List Item) (call : CallNo) (user : UserNo) (to : Option CallNo) (legal : IsLegal job items)
    (e : items ≡ first ++ Back call user ∷ (second ++ Ret call to ∷ rest)) where
  abbrev pub to_ret : List Item
  to_ret = first ++ Back call user ∷ second

  pub exit-or-why : (list_any (is_exit_for call (length first)) to_ret ≡ true) ⊎ MayLackExit job first second call user
  exit-or-why =
      let past_is : reverse to_ret ≡ reverse second ++ Back call user ∷ reverse first = split-reverse first (Back call user) second in
      let done = (later_at job items first second rest (Back call user) (Ret call to) legal e).exits.0 in
      let done' = subst (λ vs. Each (λ m. HasExit job m → IsExitDone job call m (reverse to_ret)) vs) (ap (λ (past : List Item). visits job call past) past_is) done in
      let own = of-back job call (λ m. HasExit job m → IsExitDone job call m (reverse to_ret)) (reverse second) (reverse first) user done' in
      by (cancels (spec_at job user.0).kind) refl (has_depth (spec_at job user.0).kind) refl (has_exit (spec_at job user.0).kind) refl own
    where
      -- the visit of the Back
      own_visit : Visit
      own_visit = visit job call user.0 (reverse first) (all_visits job (reverse first)) true

      why : IsExitDone job call own_visit (reverse to_ret) → (list_any (is_exit_for call (length first)) to_ret ≡ true) ⊎ MayLackExit job first second call user
      why (inl had) = inl (
          sym (any-reverse (is_exit_for call (length first)) to_ret)
          ∙ exit-item job call (length first) (reverse to_ret) (subst (λ n. list_any (λ y. y == n) (exits call (reverse to_ret)) ≡ true) (length-reverse first) had))
      why (inr dead) = inr (inr (inr (inr dead)))

      full : job.frames ≤ held job call (reverse first) → AreFramesHeld job (reverse first) call
      full ge = let le = frames-within job call (reverse first) (legal-to job items first (Back call user ∷ (second ++ Ret call to ∷ rest)) legal e) in omega (arith, ge, le)

      by : (c : Bool) → cancels (spec_at job user.0).kind ≡ c → (d : Bool) → has_depth (spec_at job user.0).kind ≡ d → (x : Bool) → has_exit (spec_at job user.0).kind ≡ x
          → (HasExit job own_visit → IsExitDone job call own_visit (reverse to_ret))
          → (list_any (is_exit_for call (length first)) to_ret ≡ true) ⊎ MayLackExit job first second call user
      by true ce d de x xe own = inr (inr (inl ce))
      by false ce true de x xe own = why (own (refl, rw de refl, ce))
      by false ce false de false xe own = inr (inl (de, xe))
      by false ce false de true xe own = elim (cases_lt (held job call (reverse first)) job.frames) [
        | inl lt ↦ why (own (refl, rw (de, xe, lt-ltb (held job call (reverse first)) job.frames lt) refl, ce))
        | inr ge ↦ inr (inr (inr (inl (de, full ge))))
      ]
