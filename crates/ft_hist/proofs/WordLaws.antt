-- What the word machine needs besides: where desks change under a call, a user's registration is read later and later, so whoever stands below all that were visited hasn't been met.
use Rattle.std.proofs.Common.{cond, ◌≡◌, ◌≢◌, ℕ, zero, suc, ◌<◌, ◌≤◌, ◌⊎◌, Bool, true, false, ◌||◌, ◌==◌, nat_le, List, [], ◌∷◌, length, Option, Some, None, refl, sym, ap, ◌∙◌, subst, arith, inl, inr, eqb-true, leb-true, leb-false}
use Rattle.std.specs.Prelude.{slice_get, ◌&&◌, is_some}
use Rattle.std.proofs.lemmas.Bool.Decides.{eqb_tells}
use Rattle.std.specs.List.{list_any, AllByRecursion as Each}
use Rattle.ft_base.specs.declared.number.CallNo.{CallNo}
use Rattle.ft_base.specs.declared.item.Item.{Item}
use Rattle.ft_base.specs.declared.item.Item.TheVariants.{Begin, Return, Enter, Back, Refuse}
use Rattle.ft_base.specs.Same.{same_call}
use Rattle.ft_base.specs.Job.{Job, Command, Register, Unregister, Filter, Notrace, Enable, Disable, commands, funcs}
use Rattle.ft_base.specs.Desk.{Desk, UserState, desk, after, changed, user_at, with_user, is_on, is_accepted, answer_on, is_matching, spec_at, registered_as, unregistered_as, edited}
use Rattle.ft_base.proofs.DeskLaws.{length-desk, user_at-same, user_at-other}
use Rattle.ft_base.specs.WellFormed.{IsWellFormed, IsNamed}
use Rattle.ft_base.proofs.Small.{false_true, Each-weaker, or-false_both, ==-refl}
use Rattle.ft_base.proofs.Modifiers.{named-at, lone, start-since}
use Rattle.ft_hist.specs.Past.{done, begun, entry_of, all_visits, visit, Visit, visits, registration_at}
use Rattle.ft_hist.specs.Rules.{IsLegalPast, IsUnvisited, AtReturnedOrBegun, MayVisit, OneReplaces, backs_with_replacement}
use Rattle.ft_hist.proofs.WindowLaws.{legal-counts, entry_of-more}
use Rattle.ft_hist.proofs.Numbers.{none-before}
use Rattle.ft_hist.proofs.RunLaws.{same_call-eq}

module _ (job : Job) (is : IsWellFormed job) where
  abbrev since_at : ℕ → ℕ → ℕ
  since_at k u = (user_at (desk job k) u).since

  -- no user was registered at a command that is still to come
  abbrev IsRecent : Desk → ℕ → Type 0
  IsRecent d k = (u : ℕ) → (user_at d u).since ≤ k

  abbrev Grows : Desk → Desk → ℕ → ℕ → Type 0
  Grows d d' k v = ((user_at d v).since ≤ (user_at d' v).since) × ((user_at d' v).since ≤ suc k)

  grows-with : (d : Desk) (k u : ℕ) (s : UserState) → u < length d.users → (user_at d u).since ≤ s.since → s.since ≤ suc k → IsRecent d k → (v : ℕ) → Grows d (with_user d u s) k v
  grows-with d k u s within le most r v =
      elim (eqb_tells u v) [
        | inl t ↦ subst (λ x. Grows d (with_user d u s) k x) t.1 (rw (user_at-same d u s within) (le, most))
        | inr f ↦ rw (user_at-other d u v s (λ q. f.1 (sym q))) (omega arith, (let l = r v in omega arith))
      ]

  same-since : (d : Desk) (k : ℕ) → IsRecent d k → (v : ℕ) → Grows d d k v
  same-since d k r v = (omega arith, (let l = r v in omega arith))

  grows : (d : Desk) (k : ℕ) (c : Command) → length d.users ≡ length job.users → IsRecent d k → IsNamed job c → (v : ℕ) → Grows d (changed job d (suc k) c) k v
  grows d k (Register u) size r w = let l = r u in grows-with d k u _ (rw size w) (omega arith) (omega arith) r
  grows d k (Unregister u) size r w = let l = r u in grows-with d k u _ (rw size w) (omega arith) (omega arith) r
  grows d k (Filter u x) size r w = let l = r u in grows-with d k u _ (rw size w) (omega arith) (omega arith) r
  grows d k (Notrace u x) size r w = let l = r u in grows-with d k u _ (rw size w) (omega arith) (omega arith) r
  grows d k (Enable u) size r w = let l = r u in grows-with d k u _ (rw size w) (omega arith) (omega arith) r
  grows d k (Disable u) size r w = let l = r u in grows-with d k u _ (rw size w) (omega arith) (omega arith) r
  grows d k _ size r w = same-since d k r

  after-grows : (k : ℕ) (c : Option Command) → slice_get (commands job) k ≡ c → IsRecent (desk job k) k → (v : ℕ) → Grows (desk job k) (after job (desk job k) (suc k) c) k v
  after-grows k None e r v = same-since (desk job k) k r v
  after-grows k (Some c) e r v =
      elim (is_accepted (answer_on job (desk job k) c)) as (λ b. Grows (desk job k) (cond b (changed job (desk job k) (suc k) c) (desk job k)) k v) [
        | true ↦ grows (desk job k) k c (length-desk job k) r (named-at (IsNamed job) (commands job) k c e is.commands) v
        | false ↦ same-since (desk job k) k r v
      ]

  recent : (k u : ℕ) → since_at k u ≤ k
  unfolding desk
  recent zero u = rw (start-since (funcs job) job.users u) (omega arith)
  recent (suc k) u = (after-grows k (slice_get (commands job) k) refl (recent k) u).1

  since-step : (k u : ℕ) → since_at k u ≤ since_at (suc k) u
  unfolding desk
  since-step k u = (after-grows k (slice_get (commands job) k) refl (recent k) u).0

  -- a user's last registration is never of an earlier command on a later desk
  pub since-more : (j k u : ℕ) → j ≤ k → since_at j u ≤ since_at k u
  since-more j zero u le = let e : j ≡ 0 = omega arith in rw e (omega arith)
  since-more j (suc k) u le =
      elim (eqb_tells j (suc k)) [
        | inl t ↦ rw t.1 (omega arith)
        | inr f ↦ let ne = f.1 in let a = since-more j k u (below j k le ne) in let b = since-step k u in omega arith
      ]
    where
      below : (x y : ℕ) → x ≤ suc y → x ≢ suc y → x ≤ y
      below x y l ne =
          elim (nat_le x y) as (λ b. nat_le x y ≡ b → x ≤ y) [
            | true ↦ λ e. leb-true x y e
            | false ↦ λ e. let lt : y < x = leb-false x y e in absurd (ne (omega arith))
          ] refl

  -- a visit was read at some command that has begun, and so was of no later registration
  abbrev WasRead : ℕ → ℕ → ℕ → Visit → Type 0
  WasRead f d b m = (j : ℕ) × (j ≤ b) × (m.since ≡ since_at j m.user) × ((j ≤ d) ⊎ (is_on (desk job d) m.user f ≡ false))

  -- the next visit of a user that was visited is read no earlier
  pub once-by-order : (call : CallNo) (u : ℕ) (past : List Item) (ms : List Visit) → Each (WasRead (entry_of call past).func (done past) (begun past)) ms
      → Each (λ m. since_at (registration_at job call u past) u < m.since) ms → list_any (λ m. m.user == u) ms ≡ false
  once-by-order call u past [] h o = refl
  once-by-order call u past (m ∷ ms) h o =
      elim (m.user == u) as (λ b. (m.user == u) ≡ b → (b || list_any (λ x. x.user == u) ms) ≡ false) [
        | true ↦ λ e.
            let same : m.user ≡ u = eqb-true m.user u e in
            let lt = o.0 in
            let read : m.since ≡ since_at h.0.0 u = h.0.2 ∙ ap (λ v. since_at h.0.0 v) same in
            let off : (h.0.0 ≤ done past) ⊎ (is_on (desk job (done past)) u (entry_of call past).func ≡ false) = subst (λ v. (h.0.0 ≤ done past) ⊎ (is_on (desk job (done past)) v (entry_of call past).func ≡ false)) same h.0.3 in
            let le = since-more h.0.0 (registration_at job call u past) u (no_earlier h.0.0 h.0.1 off) in
            absurd (omega (arith, lt, read, le))
        | false ↦ λ e. once-by-order call u past ms h.1 o.1
      ] refl
    where
      no_earlier : (j : ℕ) → j ≤ begun past → (j ≤ done past) ⊎ (is_on (desk job (done past)) u (entry_of call past).func ≡ false) → j ≤ registration_at job call u past
      no_earlier j le (inr off) = rw off le
      no_earlier j le (inl early) = elim (is_on (desk job (done past)) u (entry_of call past).func) as (λ b. j ≤ cond b (done past) (begun past)) [ true ↦ early | false ↦ le ]

  -- ## in a legal past

  abbrev Reads : CallNo → List Item → Type 0
  Reads call past = Each (WasRead (entry_of call past).func (done past) (begun past)) (visits job call past)

  more-read : (f d b d' b' : ℕ) (ms : List Visit) → b ≤ b' → ((j : ℕ) (v : ℕ) → j ≤ b → (j ≤ d) ⊎ (is_on (desk job d) v f ≡ false) → (j ≤ d') ⊎ (is_on (desk job d') v f ≡ false))
      → Each (WasRead f d b) ms → Each (WasRead f d' b') ms
  more-read f d b d' b' ms le g h = Each-weaker (WasRead f d b) (WasRead f d' b') ms (λ m w. (w.0, (let l = w.1 in omega arith), w.2, g w.0 m.user w.1 w.3)) h

  read-now : (call : CallNo) (u : ℕ) (past : List Item) (back : Bool) → (done past ≤ begun past) → WasRead (entry_of call past).func (done past) (begun past) (visit job call u past (all_visits job past) back)
  read-now call u past back le = (
    registration_at job call u past,
    elim on as (λ b. cond b (done past) (begun past) ≤ begun past) [ true ↦ le | false ↦ omega arith ],
    refl,
    elim on as (λ b. on ≡ b → (cond b (done past) (begun past) ≤ done past) ⊎ (on ≡ false)) [ true ↦ λ e. inl (omega arith) | false ↦ λ e. inr e ] refl,
  )
    where
      on : Bool
      on = is_on (desk job (done past)) u (entry_of call past).func

  one-read : (call c : CallNo) (u : ℕ) (past : List Item) (back : Bool) → done past ≤ begun past → Reads call past
      → Each (WasRead (entry_of call past).func (done past) (begun past)) (cond (same_call c call) (visit job c u past (all_visits job past) back ∷ visits job call past) (visits job call past))
  one-read call c u past back le h =
      elim (same_call c call) as (λ b. same_call c call ≡ b → Each (WasRead (entry_of call past).func (done past) (begun past)) (cond b (visit job c u past (all_visits job past) back ∷ visits job call past) (visits job call past))) [
        | true ↦ λ e. (subst (λ z. WasRead (entry_of call past).func (done past) (begun past) (visit job z u past (all_visits job past) back)) (sym (same_call-eq c call e)) (read-now call u past back le), h)
        | false ↦ λ e. h
      ] refl

  pub visits-read : (call : CallNo) (past : List Item) → IsLegalPast job past → Reads call past
  unfolding IsLegalPast all_visits
  visits-read call [] l = tt
  visits-read call (Begin k ∷ past) l = more-read (entry_of call past).func (done past) (begun past) (done past) (suc (begun past)) (visits job call past) (omega arith) (λ j v a b. b) (visits-read call past l.1)
  visits-read call (Return k a ∷ past) l =
      let follows = l.0.commands.follows in
      more-read (entry_of call past).func (done past) (begun past) (suc (done past)) (begun past) (visits job call past) (omega arith) (λ j v x b. inl (omega arith)) (visits-read call past l.1)
  visits-read call (Enter c x f caller ∷ past) l =
      elim (same_call c call) as (λ b. same_call c call ≡ b → Reads call (Enter c x f caller ∷ past)) [
        | true ↦ λ e.
            let same : c ≡ call = same_call-eq c call e in
            rw (subst (λ z. visits job z past ≡ []) same (none-before job c x f caller past (l.0.run c.task.0))) tt
        | false ↦ λ e. rw (entry_of-more call (Enter c x f caller) past e) (visits-read call past l.1)
      ] refl
  visits-read call (Back c u ∷ past) l = one-read call c u.0 past true (legal-counts job past l.1).0 (visits-read call past l.1)
  visits-read call (Refuse c u reason ∷ past) l = one-read call c u.0 past false (legal-counts job past l.1).0 (visits-read call past l.1)
  visits-read call (_ ∷ past) l = visits-read call past l.1

  -- so on any machine: whoever is on at either desk, and was registered before all that were visited, may be visited
  pub may_visit-by-order : (call : CallNo) (u : ℕ) (past : List Item) → IsLegalPast job past
      → AtReturnedOrBegun past (λ k. is_on (desk job k) u (entry_of call past).func ≡ true)
      → Each (λ m. (user_at (desk job (registration_at job call u past)) u).since < m.since) (visits job call past)
      → MayVisit job past call u
  may_visit-by-order call u past legal on order = record { on = on; once = once-by-order call u past (visits job call past) (visits-read call past legal) order; order = order }

  -- ## users that replace, on two desks side by side

  abbrev modifies : Desk → ℕ → ℕ → Bool
  modifies d u f = (user_at d u).registered && is_some (spec_at job u).ipmodify && is_matching (user_at d u) f

  -- a command changes the state of one user at most
  changes-one : (d : Desk) (k : ℕ) (c : Command) → (w : ℕ) × ((v : ℕ) → v ≢ w → user_at (changed job d k c) v ≡ user_at d v)
  changes-one d k (Register u) = (u, λ v ne. user_at-other d u v (registered_as job d k (user_at d u)) ne)
  changes-one d k (Unregister u) = (u, λ v ne. user_at-other d u v (unregistered_as (user_at d u)) ne)
  changes-one d k (Filter u e) = (u, λ v ne. user_at-other d u v (record (user_at d u) { filter = edited (funcs job) (user_at d u).filter e }) ne)
  changes-one d k (Notrace u e) = (u, λ v ne. user_at-other d u v (record (user_at d u) { notrace = edited (funcs job) (user_at d u).notrace e }) ne)
  changes-one d k (Enable u) = (u, λ v ne. user_at-other d u v (record (user_at d u) { enabled = true }) ne)
  changes-one d k (Disable u) = (u, λ v ne. user_at-other d u v (record (user_at d u) { enabled = false }) ne)
  changes-one d k _ = (0, λ v ne. refl)

  after-one : (d : Desk) (k : ℕ) (c : Option Command) → (w : ℕ) × ((v : ℕ) → v ≢ w → user_at (after job d k c) v ≡ user_at d v)
  after-one d k None = (0, λ v ne. refl)
  after-one d k (Some c) = elim (is_accepted (answer_on job d c)) as (λ b. (w : ℕ) × ((v : ℕ) → v ≢ w → user_at (cond b (changed job d k c) d) v ≡ user_at d v)) [
    | true ↦ changes-one d k c
    | false ↦ (0, λ v ne. refl)
  ]

  step-one : (k : ℕ) → (w : ℕ) × ((v : ℕ) → v ≢ w → user_at (desk job (suc k)) v ≡ user_at (desk job k) v)
  unfolding desk
  step-one k = after-one (desk job k) (suc k) (slice_get (commands job) k)

  abbrev Either : ℕ → ℕ → ℕ → Type 0
  Either k u f = (modifies (desk job k) u f ≡ true) ⊎ (modifies (desk job (suc k)) u f ≡ true)

  -- two users that replace, each registered and matching on one of two desks side by side, are one
  pub lone-either : (k f u v : ℕ) → f < funcs job → Either k u f → Either k v f → u ≡ v
  lone-either k f u v lt a b =
      let s = step-one k in
      elim (eqb_tells u s.0) [
        | inr ne ↦ elim b [
          | inl y ↦ lone job is k f u v lt (back u ne.1 a) y
          | inr y ↦ lone job is (suc k) f u v lt (forth u ne.1 a) y
        ]
        | inl e ↦ elim (eqb_tells v s.0) [
          | inl e' ↦ e.1 ∙ sym e'.1
          | inr ne ↦ elim a [
            | inl y ↦ lone job is k f u v lt y (back v ne.1 b)
            | inr y ↦ lone job is (suc k) f u v lt y (forth v ne.1 b)
          ]
        ]
      ]
    where
      back : (x : ℕ) → x ≢ (step-one k).0 → Either k x f → modifies (desk job k) x f ≡ true
      back x ne (inl y) = y
      back x ne (inr y) = rw ((step-one k).1 x ne) at y

      forth : (x : ℕ) → x ≢ (step-one k).0 → Either k x f → modifies (desk job (suc k)) x f ≡ true
      forth x ne (inl y) = rw ((step-one k).1 x ne) y
      forth x ne (inr y) = y

  -- ## nobody is visited twice, so of those that replace there is one

  abbrev Distinct : List Visit → Type 0
  Distinct [] = Unit {0}
  Distinct (m ∷ ms) = (list_any (λ x. x.user == m.user) ms ≡ false) × Distinct ms

  distinct-one : (call c : CallNo) (u : ℕ) (past : List Item) (back : Bool) → IsUnvisited job c u past → Distinct (visits job call past)
      → Distinct (cond (same_call c call) (visit job c u past (all_visits job past) back ∷ visits job call past) (visits job call past))
  distinct-one call c u past back un h =
      elim (same_call c call) as (λ b. same_call c call ≡ b → Distinct (cond b (visit job c u past (all_visits job past) back ∷ visits job call past) (visits job call past))) [
        | true ↦ λ e. (subst (λ z. IsUnvisited job z u past) (same_call-eq c call e) un, h)
        | false ↦ λ e. h
      ] refl

  pub visits-distinct : (call : CallNo) (past : List Item) → IsLegalPast job past → Distinct (visits job call past)
  unfolding IsLegalPast all_visits
  visits-distinct call [] l = tt
  visits-distinct call (Back c u ∷ past) l = distinct-one call c u.0 past true l.0.callbacks.once (visits-distinct call past l.1)
  visits-distinct call (Refuse c u reason ∷ past) l = distinct-one call c u.0 past false l.0.callbacks.once (visits-distinct call past l.1)
  visits-distinct call (_ ∷ past) l = visits-distinct call past l.1

  abbrev replaces : Visit → Bool
  replaces m = m.back && is_some (spec_at job m.user).ipmodify

  one-of : (P : ℕ → Type 0) → ((u v : ℕ) → P u → P v → u ≡ v) → (ms : List Visit) → Each (λ m. replaces m ≡ true → P m.user) ms → Distinct ms → length (backs_with_replacement job ms) ≤ 1
  one-of P one [] h d = omega arith
  one-of P one (m ∷ ms) h d =
      elim (replaces m) as (λ b. replaces m ≡ b → length (cond b (m ∷ backs_with_replacement job ms) (backs_with_replacement job ms)) ≤ 1) [
        | true ↦ λ e. rw (none ms (h.0 e) h.1 d.0) (omega arith)
        | false ↦ λ e. one-of P one ms h.1 d.1
      ] refl
    where
      none : (xs : List Visit) → P m.user → Each (λ x. replaces x ≡ true → P x.user) xs → list_any (λ x. x.user == m.user) xs ≡ false → backs_with_replacement job xs ≡ []
      none [] p k no' = refl
      none (x ∷ xs) p k no' =
          let both = or-false_both (x.user == m.user) (list_any (λ y. y.user == m.user) xs) no' in
          elim (replaces x) as (λ b. replaces x ≡ b → cond b (x ∷ backs_with_replacement job xs) (backs_with_replacement job xs) ≡ []) [
            | true ↦ λ y.
                let same : x.user ≡ m.user = one x.user m.user (k.0 y) p in
                false_true (sym both.0 ∙ rw same (==-refl m.user))
            | false ↦ λ y. none xs p k.1 both.1
          ] refl

  -- at a Body: where each user that replaces and was called back is registered and matches at either command, there is one at most
  pub one-replaces : (call : CallNo) (f : ℕ) (past : List Item) → f < funcs job → IsLegalPast job past
      → Each (λ m. replaces m ≡ true → AtReturnedOrBegun past (λ k. modifies (desk job k) m.user f ≡ true)) (visits job call past)
      → OneReplaces (backs_with_replacement job (visits job call past))
  one-replaces call f past lt legal h = one-of (λ u. AtReturnedOrBegun past (λ k. modifies (desk job k) u f ≡ true)) same (visits job call past) h (visits-distinct call past legal)
    where
      counts : (done past ≤ begun past) × (begun past ≤ suc (done past))
      counts = legal-counts job past legal

      spread : (u : ℕ) → AtReturnedOrBegun past (λ k. modifies (desk job k) u f ≡ true) → Either (done past) u f
      spread u (inl x) = inl x
      spread u (inr x) =
          elim (eqb_tells (begun past) (done past)) [
            | inl e ↦ inl (subst (λ k. modifies (desk job k) u f ≡ true) e.1 x)
            | inr ne ↦ inr (subst (λ k. modifies (desk job k) u f ≡ true) (next ne.1) x)
          ]
        where
          next : (begun past) ≢ (done past) → begun past ≡ suc (done past)
          next ne =
              let a = counts.0 in
              let b = counts.1 in
              elim (nat_le (begun past) (done past)) as (λ c. nat_le (begun past) (done past) ≡ c → begun past ≡ suc (done past)) [
                | true ↦ λ e. let le : begun past ≤ done past = leb-true (begun past) (done past) e in absurd (ne (omega (arith, a, le)))
                | false ↦ λ e. let gt : done past < begun past = leb-false (begun past) (done past) e in omega (arith, b, gt)
              ] refl

      same : (u v : ℕ) → AtReturnedOrBegun past (λ k. modifies (desk job k) u f ≡ true) → AtReturnedOrBegun past (λ k. modifies (desk job k) v f ≡ true) → u ≡ v
      same u v x y = lone-either (done past) f u v lt (spread u x) (spread v y)
