-- A full shadow stack: whoever is called back then is no graph or profile user, never has an exit, and if it is an fprobe with an exit
-- handler its miss is the next item of the task. And a miss comes there alone.
use Rattle.std.proofs.Common.{◌≡◌, ℕ, suc, Bool, true, false, ◌&&◌, ◌==◌, ◌+◌, List, [], ◌∷◌, ◌++◌, length, reverse, Option, Some, None, refl, sym, ap, ◌∙◌, subst, arith, cond, eqb-true}
use Rattle.std.specs.Prelude.{nat_lt, IfSome, IsSome}
use Rattle.std.specs.List.{list_any}
use Rattle.std.proofs.lemmas.List.{reverse-reverse, length-reverse, length-append}
use Rattle.std.proofs.lemmas.Bool.Decides.{nat_tests}
use Rattle.ft_base.specs.declared.number.CallNo.{CallNo}
use Rattle.ft_base.specs.declared.number.UserNo.{UserNo}
use Rattle.ft_base.specs.declared.item.Item.{Item}
use Rattle.ft_base.specs.declared.item.Item.TheVariants.{Begin, Return, Enter, Back, BackEnd, Refuse, Miss, Body, Leave, Exit, ExitEnd, Ret}
use Rattle.ft_base.specs.Job.{Job}
use Rattle.ft_base.specs.Desk.{spec_at}
use Rattle.ft_base.specs.Kinds.{has_depth, has_exit}
use Rattle.ft_base.specs.Same.{same_call}
use Rattle.ft_base.proofs.Small.{false_true, ==-refl, and_both, or-false_both}
use Rattle.ft_hist.specs.Past.{Callback, is_of, held, visits, all_visits, gets_frame, miss_due}
use Rattle.ft_hist.specs.Rules.{IsLegal, MayFollow, NoMissDue, MayMiss}
use Rattle.ft_hist.specs.Telling.{is_exit_for}
use Rattle.ft_hist.proofs.RunLaws.{same_call-eq}
use Rattle.ft_hist.proofs.Splitting.{splits, split-reverse}
use Rattle.ft_hist.proofs.ByItems.{HasBack, told, any-reverse}
use Rattle.ft_hist.proofs.ExitItems.{each-of, user_no}
use Rattle.ft_hist.proofs.ItemOrders.{later_at}

-- a list isn't as long as one that ends in it
longer : (zs ts us : List Item) (y : Item) → ts ≡ y ∷ (zs ++ us) → length ts ≡ length us → ⊥
longer zs ts us y e n =
    let m : length (zs ++ us) ≡ length zs + length us = length-append zs us in
    let l : length ts ≡ suc (length (zs ++ us)) = ap (λ (ws : List Item). length ws) e in
    absurd (omega (arith, m, l, n))

-- two ends of one list that are equally long are the same
same-tail : (xs ys ts us : List Item) → xs ++ ts ≡ ys ++ us → length ts ≡ length us → ts ≡ us
same-tail [] [] ts us e n = e
same-tail [] (y ∷ ys) ts us e n = absurd (longer ys ts us y e n)
same-tail (x ∷ xs) [] ts us e n = absurd (longer xs us ts x (sym e) (sym n))
same-tail (x ∷ xs) (y ∷ ys) ts us e n = let rest : xs ++ ts ≡ ys ++ us = cc in same-tail xs ys ts us rest n

-- an exit that is there is there somewhere
exit-there : (call : CallNo) (n : ℕ) (items : List Item) → list_any (is_exit_for call n) items ≡ true → (xs : List Item) × (v : UserNo) × (ys : List Item) × (items ≡ xs ++ Exit call v n ∷ ys)
exit-there call n [] h = false_true h
exit-there call n (x ∷ items) h = by x (is_exit_for call n x) refl (λ q. exit-there call n items q) h
  where
    found : (x : Item) → is_exit_for call n x ≡ true → (v : UserNo) × (x ≡ Exit call v n)
    found (Exit c v e) q = let both = and_both (same_call c call) (e == n) q in (v, ap (λ (d : CallNo). Exit d v e) (same_call-eq c call both.0) ∙ ap (λ (k : ℕ). Exit call v k) (eqb-true e n both.1))
    found _ q = false_true q

    by : (z : Item) (b : Bool) → is_exit_for call n z ≡ b → (list_any (is_exit_for call n) items ≡ true → (xs : List Item) × (v : UserNo) × (ys : List Item) × (items ≡ xs ++ Exit call v n ∷ ys))
        → list_any (is_exit_for call n) (z ∷ items) ≡ true → (xs : List Item) × (v : UserNo) × (ys : List Item) × (z ∷ items ≡ xs ++ Exit call v n ∷ ys)
    by z true q more k = let f = found z q in ([], f.0, items, ap (λ (y : Item). y ∷ items) f.1)
    by z false q more k = let w = more (rw q at k) in (z ∷ w.0, w.1, w.2, ap (λ (ys : List Item). z ∷ ys) w.3)

module _ (job : Job) (items first rest : List Item) (call : CallNo) (user : UserNo) (legal : IsLegal job items) (e : items ≡ first ++ Back call user ∷ rest)
    (full : held job call (reverse first) ≡ job.frames) where
  -- the user is no graph or profile user
  pub no-depth : has_depth (spec_at job user.0).kind ≡ false
  no-depth = by (has_depth (spec_at job user.0).kind) refl
    where
      by : (b : Bool) → has_depth (spec_at job user.0).kind ≡ b → has_depth (spec_at job user.0).kind ≡ false
      by false q = q
      by true q = let lt = (splits job items first (Back call user) rest legal e).refusals.room q in absurd (omega (arith, lt, full))

  -- so this callback wants no frame
  no-frame : gets_frame job call user.0 (reverse first) (all_visits job (reverse first)) ≡ false
  no-frame = rw no-depth (by (has_exit (spec_at job user.0).kind))
    where
      not-less : nat_lt (held job call (reverse first)) job.frames ≡ false
      not-less = rw full grind (arith, nat_tests)

      by : (b : Bool) → (b && nat_lt (held job call (reverse first)) job.frames) ≡ false
      by true = not-less
      by false = refl

  -- and never has an exit
  pub no-exit : list_any (is_exit_for call (length first)) rest ≡ false
  no-exit = by (list_any (is_exit_for call (length first)) rest) refl
    where
      of : (xs ys : List Item) (v : UserNo) → rest ≡ xs ++ Exit call v (length first) ∷ ys → ⊥
      of xs ys v there =
          let past = reverse (first ++ Back call user ∷ xs) in
          let split : past ≡ reverse xs ++ Back call user ∷ reverse first = split-reverse first (Back call user) xs in
          let at : items ≡ first ++ Back call user ∷ (xs ++ Exit call v (length first) ∷ ys) = e ∙ ap (λ (zs : List Item). first ++ Back call user ∷ zs) there in
          let of = (later_at job items first xs ys (Back call user) (Exit call v (length first)) legal at).exits.0.of in
          let m = of.0 in
          let has : HasBack job call m past = each-of (λ w. w.back ≡ true → HasBack job call w past) (visits job call past) m of.1 (told job call past) of.4.0 in
          let older = has.1 in
          let place : length older ≡ length (reverse first) = sym has.3 ∙ of.3 ∙ sym (length-reverse first) in
          let tails : Back call (record { 0 = m.user }) ∷ older ≡ Back call user ∷ reverse first =
          same-tail has.0 (reverse xs) (Back call (record { 0 = m.user }) ∷ older) (Back call user ∷ reverse first) (sym has.2 ∙ split) (ap (λ (n : ℕ). suc n) place) in
          let same : older ≡ reverse first = cc in
          let who : m.user ≡ user.0 = ap (λ (zs : List Item). user_of zs) tails in
          let wants : m.framed ≡ gets_frame job call user.0 (reverse first) (all_visits job (reverse first)) =
          has.5 ∙ ap (λ (u : ℕ). gets_frame job call u older (all_visits job older)) who ∙ ap (λ (zs : List Item). gets_frame job call user.0 zs (all_visits job zs)) same in
          false_true (sym (wants ∙ no-frame) ∙ of.4.1)
        where
          user_of : List Item → ℕ
          user_of (Back c u ∷ zs) = u.0
          user_of _ = 0

      by : (b : Bool) → list_any (is_exit_for call (length first)) rest ≡ b → list_any (is_exit_for call (length first)) rest ≡ false
      by false q = q
      by true q = let w = exit-there call (length first) rest q in absurd (of w.0 w.2 w.1 w.3)

-- ## misses

-- items of others leave a miss due
due-kept : (job : Job) (t : ℕ) (newer past : List Item) → list_any (is_of t) newer ≡ false → miss_due job t (newer ++ past) ≡ miss_due job t past
due-kept job t [] past none = refl
due-kept job t (x ∷ newer) past none = let both = or-false_both (is_of t x) (list_any (is_of t) newer) none in rw both.0 (due-kept job t newer past both.1)

module _ (job : Job) (items first mid rest : List Item) (call : CallNo) (user : UserNo) (x : Item) (legal : IsLegal job items) (e : items ≡ first ++ Back call user ∷ (mid ++ x ∷ rest))
    (full : held job call (reverse first) ≡ job.frames) (exits : has_exit (spec_at job user.0).kind ≡ true) where
  due : list_any (is_of call.task.0) mid ≡ false → miss_due job call.task.0 (reverse (first ++ Back call user ∷ mid)) ≡ Some (record { call = call; user = user.0; ctx = None })
  due none =
      ap (λ past. miss_due job call.task.0 past) (split-reverse first (Back call user) mid)
      ∙ due-kept job call.task.0 (reverse mid) (Back call user ∷ reverse first) (any-reverse (is_of call.task.0) mid ∙ none)
      ∙ rw (==-refl call.task.0, exits, full, ==-refl job.frames) refl

  -- the task's next item is the miss
  pub misses : list_any (is_of call.task.0) mid ≡ false → is_of call.task.0 x ≡ true → x ≡ Miss call user
  misses none own = by x (later_at job items first mid rest (Back call user) x legal e) own (due none)
    where
      none-due : (c : CallNo) → (c.task.0 == call.task.0) ≡ true → NoMissDue job (reverse (first ++ Back call user ∷ mid)) c
          → miss_due job call.task.0 (reverse (first ++ Back call user ∷ mid)) ≡ Some (record { call = call; user = user.0; ctx = None }) → ⊥
      none-due c q h d =
          let same = subst (λ (t : ℕ). miss_due job t (reverse (first ++ Back call user ∷ mid)) ≡ None) (eqb-true c.task.0 call.task.0 q) h in
          let clash : Some (record { call = call; user = user.0; ctx = None }) ≡ None = sym d ∙ same in
          absurd cc

      is-due : (c : CallNo) (v : UserNo) → (c.task.0 == call.task.0) ≡ true → MayMiss job (reverse (first ++ Back call user ∷ mid)) c v.0
          → miss_due job call.task.0 (reverse (first ++ Back call user ∷ mid)) ≡ Some (record { call = call; user = user.0; ctx = None }) → Miss c v ≡ Miss call user
      is-due c v q h d =
          let due' = subst (λ (t : ℕ). miss_due job t (reverse (first ++ Back call user ∷ mid)) ≡ Some (record { call = call; user = user.0; ctx = None })) (sym (eqb-true c.task.0 call.task.0 q)) d in
          let both = subst (λ (o : Option Callback). IfSome o (λ m. (m.call ≡ c) × (m.user ≡ v.0))) due' h.0 in
          ap (λ (d : CallNo). Miss d v) (sym both.0) ∙ ap (λ (w : UserNo). Miss call w) (user_no user v.0 (sym both.1))

      by : (z : Item) → MayFollow job (reverse (first ++ Back call user ∷ mid)) z → is_of call.task.0 z ≡ true
          → miss_due job call.task.0 (reverse (first ++ Back call user ∷ mid)) ≡ Some (record { call = call; user = user.0; ctx = None }) → z ≡ Miss call user
      by (Begin k) f q d = false_true q
      by (Return k a) f q d = false_true q
      by (Enter c z g caller) f q d = absurd (none-due c q f.exits d)
      by (Back c v) f q d = absurd (none-due c q f.exits d)
      by (BackEnd c v) f q d = absurd (none-due c q f.exits d)
      by (Refuse c v reason) f q d = absurd (none-due c q f.exits d)
      by (Miss c v) f q d = is-due c v q f.exits d
      by (Body c g ran) f q d = absurd (none-due c q f.exits d)
      by (Leave c) f q d = absurd (none-due c q f.exits d)
      by (Exit c v entry) f q d = absurd (none-due c q f.exits.1 d)
      by (ExitEnd c v) f q d = absurd (none-due c q f.exits d)
      by (Ret c to) f q d = absurd (none-due c q f.exits.1 d)

module _ (job : Job) (t : ℕ) (m : Callback) where
  -- a miss that is due comes of a callback that found the stack full, after which the task has had no item
  abbrev pub ComesOf : List Item → Type 0
  ComesOf past = (newer : List Item) × (c : CallNo) × (v : UserNo) × (older : List Item) × (past ≡ newer ++ Back c v ∷ older) × (list_any (is_of t) newer ≡ false)
      × (m.call ≡ c) × (m.user ≡ v.0) × (has_exit (spec_at job v.0).kind ≡ true) × (held job c older ≡ job.frames)

  after : (z : Item) (past : List Item) → is_of t z ≡ false → ComesOf past → ComesOf (z ∷ past)
  after z past other w = (z ∷ w.0, w.1, w.2, w.3, ap (λ (zs : List Item). z ∷ zs) w.4, rw (other, w.5) refl, w.6, w.7, w.8, w.9)

  of-other : (z : Item) (past : List Item) (b : Bool) → is_of t z ≡ b → cond b None (miss_due job t past) ≡ Some m → (miss_due job t past ≡ Some m → ComesOf past) → ComesOf (z ∷ past)
  of-other z past true q k w = absurd cc
  of-other z past false q k w = after z past q (w k)

  of-full : (c : CallNo) (v : UserNo) (past : List Item) (b : Bool) → (has_exit (spec_at job v.0).kind && (held job c past == job.frames)) ≡ b
      → cond b (Some (record { call = c; user = v.0; ctx = None })) None ≡ Some m → ComesOf (Back c v ∷ past)
  of-full c v past false r k = absurd cc
  of-full c v past true r k =
      let both = and_both (has_exit (spec_at job v.0).kind) (held job c past == job.frames) r in
      let is : record { call = c; user = v.0; ctx = None } ≡ m = cc in
      ([], c, v, past, refl, refl, sym (ap (λ (b : Callback). b.call) is), sym (ap (λ (b : Callback). b.user) is), both.0, eqb-true (held job c past) job.frames both.1)

  of-back : (c : CallNo) (v : UserNo) (past : List Item) (b : Bool) → (c.task.0 == t) ≡ b
      → cond b (cond (has_exit (spec_at job v.0).kind && (held job c past == job.frames)) (Some (record { call = c; user = v.0; ctx = None })) None) (miss_due job t past) ≡ Some m
      → (miss_due job t past ≡ Some m → ComesOf past) → ComesOf (Back c v ∷ past)
  of-back c v past false q k w = after (Back c v) past q (w k)
  of-back c v past true q k w = of-full c v past (has_exit (spec_at job v.0).kind && (held job c past == job.frames)) refl k

  pub due-from : (past : List Item) → miss_due job t past ≡ Some m → ComesOf past
  due-from [] h = absurd cc
  due-from (Begin k ∷ past) q = after (Begin k) past refl (due-from past q)
  due-from (Return k a ∷ past) q = after (Return k a) past refl (due-from past q)
  due-from (Back c v ∷ past) q = of-back c v past (c.task.0 == t) refl q (due-from past)
  due-from (z ∷ past) q = of-other z past (is_of t z) refl q (due-from past)

-- so a miss comes directly after such a callback
pub missed : (job : Job) (items first rest : List Item) (call : CallNo) (user : UserNo) → IsLegal job items → items ≡ first ++ Miss call user ∷ rest
    → (a : List Item) × (b : List Item) × (first ≡ a ++ Back call user ∷ b) × (list_any (is_of call.task.0) b ≡ false)
    × (has_exit (spec_at job user.0).kind ≡ true) × (held job call (reverse a) ≡ job.frames)
missed job items first rest call user legal e = of (miss_due job call.task.0 (reverse first)) refl (splits job items first (Miss call user) rest legal e).exits
  where
    of : (o : Option Callback) → miss_due job call.task.0 (reverse first) ≡ o → IfSome o (λ m. (m.call ≡ call) × (m.user ≡ user.0)) × IsSome o
        → (a : List Item) × (b : List Item) × (first ≡ a ++ Back call user ∷ b) × (list_any (is_of call.task.0) b ≡ false)
        × (has_exit (spec_at job user.0).kind ≡ true) × (held job call (reverse a) ≡ job.frames)
    of None q h = false_true h.1
    of (Some m) q h =
        let w = due-from job call.task.0 m (reverse first) q in
        let c_is : w.1 ≡ call = sym w.6 ∙ h.0.0 in
        let v_is : w.2 ≡ user = user_no user w.2.0 (sym w.7 ∙ h.0.1) in
        let back : Back w.1 w.2 ≡ Back call user = ap (λ (c : CallNo). Back c w.2) c_is ∙ ap (λ (v : UserNo). Back call v) v_is in
        let shape : first ≡ reverse w.3 ++ Back call user ∷ reverse w.0 =
        sym (reverse-reverse first) ∙ ap (λ (xs : List Item). reverse xs) (w.4 ∙ ap (λ (z : Item). w.0 ++ z ∷ w.3) back) ∙ split-reverse w.0 (Back call user) w.3 in (
          reverse w.3,
          reverse w.0,
          shape,
          any-reverse (is_of call.task.0) w.0 ∙ w.5,
          subst (λ (v : UserNo). has_exit (spec_at job v.0).kind ≡ true) v_is w.8,
          subst (λ (c : CallNo). held job c (reverse (reverse w.3)) ≡ job.frames) c_is (ap (λ (xs : List Item). held job w.1 xs) (reverse-reverse w.3) ∙ w.9),
        )
