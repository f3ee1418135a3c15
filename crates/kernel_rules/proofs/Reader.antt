-- Legal lines tell a legal history.
use Rattle.std.proofs.Common.{◌≡◌, ℕ, suc, ◌<◌, ◌≤◌, inl, inr, Bool, true, false, not, ◌==◌, List, [], ◌∷◌, ◌++◌, length, map, Option, Some, None, IfSome, IsSome, refl, sym, ap, ◌∙◌, subst, arith, eqb-true, ltb-false, ltb-true, nat_lt}
use Rattle.std.specs.List.{AllByRecursion as Each}
use Rattle.ft_base.specs.declared.number.CallNo.{CallNo}
use Rattle.ft_base.specs.declared.number.FuncNo.{FuncNo}
use Rattle.ft_base.specs.declared.item.Item.{Item}
use Rattle.ft_base.specs.declared.item.Item.TheVariants.{Body}
use Rattle.ft_base.specs.declared.item.Ran.{Ran}
use Rattle.ft_base.specs.declared.task.TaskAct.{TaskAct}
use Rattle.ft_base.specs.declared.item.Ran.TheVariants.{List as ByList}
use Rattle.ft_base.specs.Same.{same_call}
use Rattle.ft_base.specs.Job.{Job}
use Rattle.ft_base.specs.Desk.{desk, is_on, target}
use Rattle.ft_base.proofs.Small.{Each-filter, Each-weaker, ==-refl, false_true, or-false_both}
use Rattle.ft_hist.specs.Past.{Visit, done, entry_of, is_dispatched}
use Rattle.ft_hist.specs.Plain.{Frame, PlainTask, plain}
use Rattle.ft_hist.specs.Rules as strict
use Rattle.ft_hist.proofs.Steps.{same_call-eq}
use Rattle.ft_hist.specs.Rules.{KeepsPlainRun, OnlyThose}
use Rattle.kernel_rules.specs.declared.line.ExitOrder.{ExitOrder}
use Rattle.kernel_rules.specs.declared.line.Line.{Line}
use Rattle.kernel_rules.specs.declared.line.Line.TheVariants.{Seen, Unfetched}
use Rattle.kernel_rules.specs.Rules.{IsAtEnd, IsLegalPast}
use Rattle.kernel_rules.specs.Recorded.{AreTold, IsReading, Marked, Told}
use Rattle.kernel_rules.specs.Direct as direct
use Rattle.kernel_rules.specs.Direct.{AreLegal, IsSilent, item_of}
use Rattle.kernel_rules.proofs.Thinned.{alike, thinned}
use Rattle.kernel_rules.proofs.Runs.{run-alike, settled_frame, settled_run, settled_task}
use Rattle.kernel_rules.proofs.Merging.{lacks}
use Rattle.kernel_rules.proofs.Inserting.{tells, told_as}
use Rattle.kernel_rules.proofs.Filling.{Filled, put}
use Rattle.kernel_rules.proofs.Stepping.{Ready, due-of, fresh-of, follow-up, ready}
use Rattle.kernel_rules.proofs.Choosing.{Chosen, choose-body, choose-none}
use Rattle.kernel_rules.proofs.Told.{nothing}
use Rattle.kernel_rules.proofs.Lacks.{IsAfter, cut-length, each-pairs, visitor}
use Rattle.kernel_rules.proofs.Wanted.{AreInOrder, AreWanted, IsLater, IsOf, IsOpen, Wanted, after-less, at, could-less, dispatched-less, each-append, each-parts, each-split, now, now-later, of-append, of-each, of-parts, order-append, order-filter, passes, sooner}

-- ## one more line

module _ (by : ExitOrder) (job : Job) (lines : List Line) (d : AreLegal by job lines) (line : Line) (w : List Wanted) where
  -- the items of the lines
  abbrev xs : List Item
  xs = map item_of lines

  -- the item of the line
  abbrev x : Item
  x = item_of line

  module _ (may : direct.MayFollow by job xs line) (wanted : AreWanted job (x ∷ xs) w) (fewer : Each (λ r. at r ≤ length xs) w) (ran : Ran) (ch : Chosen by job lines d x (λ past. told_as past ran line) w (Unit {0}) (Unit {0})) (filled : (v : List Wanted) → AreWanted job xs v → Filled by job lines v) where
    -- what is wanted before the line
    abbrev more : List Wanted
    more = ch.new ++ w

    -- what later lines want could be told before it
    less : Each (IsOpen job xs) w
    less = each-pairs (IsOpen job (x ∷ xs)) (λ r. at r ≤ length xs) (IsOpen job xs) w (λ r h le. (could-less job r.call x xs r.lacked le h.0, dispatched-less job r.call x xs h.1)) wanted.each fewer

    -- what the line wants comes later
    across : Each (λ r. Each (IsLater job r) w) ch.new
    across = Each-weaker (λ r. is_dispatched r.call (x ∷ xs) ≡ true) _ ch.new (λ r over. Each-weaker (IsOpen job (x ∷ xs)) (IsLater job r) w (λ s h same. absurd (false_true (sym h.1 ∙ clash r s over same))) wanted.each) ch.over
      where
        clash : (r s : Wanted) → is_dispatched r.call (x ∷ xs) ≡ true → same_call s.call r.call ≡ true → is_dispatched s.call (x ∷ xs) ≡ true
        clash r s over same = subst (λ (c : CallNo). is_dispatched c (x ∷ xs) ≡ true) (sym (same_call-eq s.call r.call same)) over

    -- all of it is wanted before the line
    all-wanted : AreWanted job xs more
    all-wanted = record { each = each-append (IsOpen job xs) ch.new w ch.open' less; order = order-append job ch.new w ch.order wanted.order across }

    -- a history that is ready for the line
    r : Ready by job lines d more x
    r = ready by job lines d more (filled more all-wanted) x

    -- whom the line visits comes after all that is wanted
    after : Each (λ s. Each (IsAfter job s.call xs s.lacked) (visitor s.call x)) more
    after =
        each-append _ ch.new w
        (Each-weaker (λ s. visitor s.call x ≡ []) _ ch.new (λ s e. subst (λ (us : List ℕ). Each (IsAfter job s.call xs s.lacked) us) (sym e) tt) ch.apart)
        (each-pairs (IsOpen job (x ∷ xs)) (λ s. at s ≤ length xs) _ w (λ s h le. after-less job s.call x xs s.lacked le h.0) wanted.each fewer)

    -- the history with the line
    pub step : Filled by job (line ∷ lines) w
    unfolding AreTold IsLegalPast
    step = record {
      past = Told (told_as r.past ran line) ∷ r.past;
      told' = (tells r.past ran line, r.told');
      legal = (follow-up by job lines d more line r ran may after (ch.silence tt r) (ch.fetches tt r), r.legal);
      only = λ c none. Each-weaker (λ m. IsOf job c m more) (λ m. IsOf job c m w) (lacks job c r.past) (λ m is. of c none m is) (r.only c (dispatched-less job c x xs none));
      all = (each-split _ ch.new w r.all).1;
      due = λ t m e. due-of by job lines d more line r ran t m e;
      fresh = λ t c u e. fresh-of by job lines d more line r ran t c u e;
    }
      where
        of : (c : CallNo) → is_dispatched c (x ∷ xs) ≡ false → (m : Visit) → IsOf job c m more → IsOf job c m w
        of c none m is = elim (of-append job c m ch.new w is) [
          | inl h ↦ let o = of-each job c m (λ s. is_dispatched s.call (x ∷ xs) ≡ true) ch.new ch.over h in
              absurd (false_true (sym none ∙ subst (λ (e : CallNo). is_dispatched e (x ∷ xs) ≡ true) (same_call-eq o.0.call c o.2) o.1))
          | inr h ↦ h
        ]

module _ (by : ExitOrder) (job : Job) where
  module _ (lines : List Line) (d : AreLegal by job lines) where
    -- the items of the lines
    abbrev items : List Item
    items = map item_of lines

    -- the wanted refusals are of other calls than one whose dispatch ends
    others : (c : CallNo) (g : FuncNo) (ran : Ran) (w : List Wanted) → AreWanted job (Body c g ran ∷ items) w → Each (λ r. same_call c r.call ≡ false) w
    others c g ran w wanted = Each-weaker (IsOpen job (Body c g ran ∷ items)) _ w (λ r h. (or-false_both (same_call c r.call) (is_dispatched r.call items) h.1).0) wanted.each

    -- what a legal line wants, and what its body ran
    choose : (line : Line) → direct.MayFollow by job items line → (w : List Wanted) → AreWanted job (item_of line ∷ items) w
        → (ran : Ran) × Chosen by job lines d (item_of line) (λ past. told_as past ran line) w (Unit {0}) (Unit {0})
    choose (Unfetched c g) may w wanted =
        let k = may.fetches.only in
        let f = (entry_of c items).func in (
          target (desk job k.0) f,
          choose-body by job lines d c g ByList (target (desk job k.0) f) w (others c g ByList w wanted) may.run may.silence (λ u. is_on (desk job k.0) u f) (λ u e. (k.0, k.1, k.2, e)) (Unit {0}) (Unit {0})
              (λ _. record { command = k.0; low = k.1; high = k.2; is = refl; on = λ u e. e; only = k.3; one = may.fetches.one; runs = may.fetches.runs }),
        )
    choose (Seen (Body c g ran)) may w wanted =
        let k = may.fetches.fetched in
        let f = (entry_of c items).func in (
          ran,
          choose-body by job lines d c g ran ran w (others c g ran w wanted) may.run may.silence (λ u. is_on (desk job k.0) u f) (λ u e. (k.0, k.1, k.2, e)) (Unit {0}) (Unit {0})
              (λ _. record { command = k.0; low = k.1; high = k.2; is = k.3; on = λ u e. e; only = may.fetches.only; one = may.fetches.one; runs = may.fetches.runs }),
        )
    choose (Seen item) may w wanted = (ByList, choose-none by job lines d item (λ past. told_as past ByList (Seen item)) w (Unit {0}) (Unit {0}) (λ _ r. tt) (λ _ r. tt))

    -- ## refusals at one place

    -- a part of a list that is as long is the list
    cut-all : (since before past : List Item) → since ++ before ≡ past → length before ≡ length past → before ≡ past
    cut-all [] before past e n = e
    cut-all (y ∷ since) before past e n =
        let h = cut-length since before (since ++ before) refl in
        let m : suc (length (since ++ before)) ≡ length past = ap length e in
        absurd (omega (arith, h, m, n))

    -- all refusals at the place of the next line
    put-all : (w v : List Wanted) → Each (IsOpen job items) v → Each (λ r. (at r == length items) ≡ true) v → AreInOrder job v → Each (λ r. Each (IsLater job r) w) v → Filled by job lines w → Filled by job lines (v ++ w)
    put-all w [] open' here order later f = f
    put-all w (r ∷ v) open' here order later f =
        put by job lines d r (v ++ w) (cut-all open'.0.0.cut.0 r.lacked.before items open'.0.0.cut.1 (eqb-true (at r) (length items) here.0)) open'.0 (each-append (IsLater job r) v w order.0 later.0)
        (put-all w v open'.1 here.1 order.1 later.1 f)

    -- no refusal stands beyond the lines
    within : (w : List Wanted) → AreWanted job items w → Each (λ r. at r ≤ length items) w
    within w wanted = Each-weaker (IsOpen job items) _ w (λ r h. cut-length h.0.cut.0 r.lacked.before items h.0.cut.1) wanted.each

    -- those at the place of the next line come on top of the history with the sooner ones
    complete : (w : List Wanted) → AreWanted job items w → Filled by job lines (sooner job (length items) w) → Filled by job lines w
    complete w wanted f =
        let n = length items in
        let g = put-all (sooner job n w) (now job n w) (Each-filter (IsOpen job items) (λ r. at r == n) w wanted.each) (passes (λ r. at r == n) w) (order-filter job (λ r. at r == n) w wanted.order) (now-later job n w wanted.order (within w wanted)) f in
        record {
          past = g.past;
          told' = g.told';
          legal = g.legal;
          only = λ c none. Each-weaker (λ m. IsOf job c m (now job n w ++ sooner job n w)) (λ m. IsOf job c m w) (lacks job c g.past) (λ m is. of-parts job c m n w is) (g.only c none);
          all = each-parts job _ n w g.all;
          due = g.due;
          fresh = g.fresh;
        }

  -- those that stand before the place
  sooner-than : (n : ℕ) (w : List Wanted) → Each (λ r. at r ≤ n) w → Each (λ r. at r < n) (sooner job n w)
  sooner-than n w le =
      each-pairs (λ r. at r ≤ n) (λ r. not (at r == n) ≡ true) _ (sooner job n w) less (Each-filter (λ r. at r ≤ n) (λ r. not (at r == n)) w le) (passes (λ r. not (at r == n)) w)
    where
      less : (r : Wanted) → at r ≤ n → not (at r == n) ≡ true → at r < n
      less r le other = of (nat_lt (at r) n) refl
        where
          of : (b : Bool) → nat_lt (at r) n ≡ b → at r < n
          of true is = ltb-true (at r) n is
          of false is =
              let high = ltb-false (at r) n is in
              let here : at r ≡ n = omega (arith, le, high) in
              false_true ((let no : not (at r == n) ≡ false = rw here (rw (==-refl n) refl) in sym no ∙ other))

  -- with any refusals that later lines want to lack
  pub fill : (lines : List Line) → AreLegal by job lines → (w : List Wanted) → AreWanted job (map item_of lines) w → Filled by job lines w
  unfolding AreLegal IsLegalPast AreTold
  fill [] d w wanted = complete [] d w wanted (subst (λ (v : List Wanted). Filled by job [] v) (sym (nothing (sooner job 0 w) (Each-weaker _ (λ r. ⊥) (sooner job 0 w) (λ r lt. omega (arith, lt)) (sooner-than 0 w (within [] d w wanted))))) start)
    where
      start : Filled by job [] []
      start = record { past = []; told' = refl; legal = tt; only = λ c none. tt; all = tt; due = λ t m e. e; fresh = λ t c u e. e }
  fill (line ∷ lines) d w wanted =
      let n = length (map item_of (line ∷ lines)) in
      let v = sooner job n w in
      let fewer = sooner-than n w (within (line ∷ lines) d w wanted) in
      let those : AreWanted job (map item_of (line ∷ lines)) v = record { each = Each-filter _ (λ r. not (at r == n)) w wanted.each; order = order-filter job (λ r. not (at r == n)) w wanted.order } in
      let ch = choose lines d.1 line d.0 v those in
      complete (line ∷ lines) d w wanted
      (step by job lines d.1 line v d.0 those (Each-weaker _ _ v (λ r lt. omega (arith, lt)) fewer) ch.0 ch.1 (λ u h. fill lines d.1 u h))

  -- legal lines have a reading
  pub lines-read : (lines : List Line) → AreLegal by job lines → (past : List Marked) × IsReading by job lines past
  lines-read lines d = let f = fill lines d [] (record { each = tt; order = tt }) in (f.past, record { told' = f.told'; legal = f.legal })

-- ## the end

module _ (job : Job) where
  -- no calls but for misses are no calls
  no-frames : (fs : List Frame) → map settled_frame fs ≡ [] → fs ≡ []
  no-frames [] e = refl
  no-frames (f ∷ fs) e = absurd cc

  -- a task is at the end of its run
  ended-alike : (n : ℕ) (o o' : Option PlainTask) → settled_run o ≡ settled_run o' → IfSome o (strict.HasEnded n) → IfSome o' (strict.HasEnded n)
  ended-alike n None None e h = h
  ended-alike n None (Some s') e h = absurd cc
  ended-alike n (Some s) None e h = absurd cc
  ended-alike n (Some s) (Some s') e h =
      let is : settled_task s ≡ settled_task s' = cc in (
        subst (λ (acts : List TaskAct). strict.GiveNoItems n acts) (ap (λ u. u.acts) is) h.0,
        no-frames s'.stack (sym (ap (λ u. u.stack) is) ∙ ap (λ (fs : List Frame). map settled_frame fs) h.1),
      )

  -- the end of one past is the end of another that is the same but for refusals and misses
  pub end-alike : (past past' : List Item) → thinned past ≡ thinned past' → ((t : ℕ) → IsSome (plain job t past)) → ((t : ℕ) → IsSome (plain job t past')) → IsAtEnd job past → IsAtEnd job past'
  end-alike past past' same runs runs' h =
      let a = alike job past past' same in
      record {
        returned = sym a.done' ∙ h.returned;
        tasks = λ t lt. subst (λ (n : ℕ). IfSome (plain job t past') (strict.HasEnded n)) a.done' (ended-alike (done past) (plain job t past) (plain job t past') (run-alike job t past past' same (runs t) (runs' t)) (h.tasks t lt));
      }
