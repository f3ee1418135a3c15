-- What a line can keep it keeps by the lines alone.
use Rattle.std.proofs.Common.{◌≡◌, ℕ, zero, suc, ◌<◌, Bool, true, false, List, [], ◌++◌, map, IsSome, refl, sym, subst, arith, ltb-false, ltb-true, nat_lt}
use Rattle.std.specs.List.{AllByRecursion as Each}
use Rattle.ft_base.specs.declared.item.Item.{Item}
use Rattle.ft_base.specs.declared.item.Item.TheVariants.{Body}
use Rattle.ft_base.specs.declared.item.Ran.{Ran}
use Rattle.ft_base.specs.declared.item.Ran.TheVariants.{List as ByList}
use Rattle.ft_base.specs.Job.{Job}
use Rattle.ft_base.specs.Desk.{desk, is_on, target}
use Rattle.ft_base.proofs.Small.{Each-weaker, false_true}
use Rattle.ft_hist.specs.Past.{entry_of}
use Rattle.ft_hist.specs.Plain.{plain}
use Rattle.ft_hist.specs.Rules.{KeepsCommands, KeepsRefusals}
use Rattle.kernel_rules.specs.declared.line.ExitOrder.{ExitOrder}
use Rattle.kernel_rules.specs.declared.line.Line.{Line}
use Rattle.kernel_rules.specs.declared.line.Line.TheVariants.{Seen, Unfetched}
use Rattle.kernel_rules.specs.Rules.{KeepsCallbacks}
use Rattle.kernel_rules.specs.Recorded.{history}
use Rattle.kernel_rules.specs.Direct.{AreLegal, item_of}
use Rattle.kernel_rules.specs.Parts.{CanKeep, KeepsFirst, LinePart, Part}
use Rattle.kernel_rules.proofs.Places.{drawn, thin-told}
use Rattle.kernel_rules.proofs.Parts.{commands-alike, refusals-alike}
use Rattle.kernel_rules.proofs.Removing.{callbacks-down, exits-down, fetches-down, history-runs, line-runs, run-down}
use Rattle.kernel_rules.proofs.Lines.{as-line, run-line, silence}
use Rattle.kernel_rules.proofs.Lacks.{IsAfter, visitor}
use Rattle.kernel_rules.proofs.Inserting.{tells, told_as}
use Rattle.kernel_rules.proofs.Stepping.{Ready, callbacks-of, commands-of, exits-up, ready, refusals-of, run-up}
use Rattle.kernel_rules.proofs.Choosing.{Chosen, choose-body, choose-none}
use Rattle.kernel_rules.proofs.Reader.{fill}
use Rattle.kernel_rules.proofs.Wanted.{IsLater, IsOpen, Wanted, each-append, order-append}

module _ (by : ExitOrder) (job : Job) (lines : List Line) (d : AreLegal by job lines) (line : Line) where
  -- the items of the lines
  abbrev xs : List Item
  xs = map item_of lines

  -- ## a part of the item is one of the line

  module _ (k : CanKeep zero by job lines line) where
    -- the items of the history
    abbrev hs : List Item
    hs = history k.past

    -- each task has a run after the lines
    runs : (v : ℕ) → IsSome (plain job v xs)
    runs v = line-runs by job lines d v

    -- and after the history
    hruns : (v : ℕ) → IsSome (plain job v hs)
    hruns v = history-runs by job hs k.reading.legal v

    -- each part
    pub part-down : (i : ℕ) → Part i by job hs k.item → LinePart i by job xs line
    part-down zero h = λ v. subst (λ o. IsSome o) (sym (run-line job xs k.past (item_of line) k.item v (drawn k.past line k.item k.tells))) (run-down by job lines k.past k.reading.told' k.reading.legal runs k.item h v)
    part-down (suc zero) h =
        as-line (λ i. KeepsCallbacks job xs i) (λ c u e. tt) (λ c g ran. tt) k.past (item_of line) k.item (drawn k.past line k.item k.tells) (callbacks-down by job lines k.past k.reading.told' k.reading.legal runs k.item h)
    part-down (suc (suc zero)) h = silence by job lines k.past k.reading.told' k.reading.legal d (item_of line) k.item (drawn k.past line k.item k.tells) h
    part-down (suc (suc (suc zero))) h =
        as-line (λ i. KeepsRefusals job xs i) (λ c u e. tt) (λ c g ran. tt) k.past (item_of line) k.item (drawn k.past line k.item k.tells)
        (refusals-alike job hs xs (sym (thin-told lines k.past k.reading.told')) hruns runs k.item h)
    part-down (suc (suc (suc (suc zero)))) h = exits-down by job lines k.past k.reading.told' k.reading.legal runs line k.item k.tells h
    part-down (suc (suc (suc (suc (suc zero))))) h = fetches-down by job lines k.past k.reading.told' k.reading.legal runs line k.item k.tells h
    part-down (suc (suc (suc (suc (suc (suc zero)))))) h =
        as-line (λ i. KeepsCommands job xs i) (λ c u e. tt) (λ c g ran. tt) k.past (item_of line) k.item (drawn k.past line k.item k.tells)
        (commands-alike job hs xs (sym (thin-told lines k.past k.reading.told')) hruns runs k.item h)
    part-down (suc (suc (suc (suc (suc (suc (suc i))))))) h = tt

  -- the first parts
  pub kept-down : (n : ℕ) → CanKeep n by job lines line → KeepsFirst n by job xs line
  kept-down n k i lt = part-down (record { past = k.past; item = k.item; reading = k.reading; tells = k.tells; kept = λ j none. absurd (omega (arith, none)) }) i (k.kept i lt)

module _ (by : ExitOrder) (job : Job) (lines : List Line) (d : AreLegal by job lines) where
  -- the items of the lines
  abbrev items : List Item
  items = map item_of lines

  -- ## parts of a line are some of an item

  -- what is chosen for as many parts
  abbrev Picked : ℕ → Line → Ran → Type 0
  Picked n line ran = Chosen by job lines d (item_of line) (λ past. told_as past ran line) [] (2 < n) (5 < n)

  -- which refusals the line wants to lack, by how many parts it keeps
  pick : (n : ℕ) (line : Line) → KeepsFirst n by job items line → (ran : Ran) × Picked n line ran
  pick n (Unfetched c g) kept = of (nat_lt 5 n) (nat_lt 2 n) refl refl
    where
      func : ℕ
      func = (entry_of c items).func

      of : (a b : Bool) → nat_lt 5 n ≡ a → nat_lt 2 n ≡ b → (ran : Ran) × Picked n (Unfetched c g) ran
      of true b e f =
          let six : 5 < n = ltb-true 5 n e in
          let h = kept 5 six in
          let k = h.only in (
            target (desk job k.0) func,
            choose-body by job lines d c g ByList (target (desk job k.0) func) [] tt (kept 0 (omega (arith, six))) (kept 2 (omega (arith, six))) (λ u. is_on (desk job k.0) u func) (λ u o. (k.0, k.1, k.2, o)) (2 < n) (5 < n)
                (λ _. record { command = k.0; low = k.1; high = k.2; is = refl; on = λ u o. o; only = k.3; one = h.one; runs = h.runs }),
          )
      of false true e f =
          let three : 2 < n = ltb-true 2 n f in
          let few = ltb-false 5 n e in
          (ByList, choose-body by job lines d c g ByList ByList [] tt (kept 0 (omega (arith, three))) (kept 2 three) (λ u. true) (λ u o. false_true (sym o)) (2 < n) (5 < n) (λ six. absurd (omega (arith, six, few))))
      of false false e f =
          let few = ltb-false 5 n e in
          let fewer = ltb-false 2 n f in
          (ByList, choose-none by job lines d (Body c g ByList) (λ past. Body c g ByList) [] (2 < n) (5 < n) (λ three. absurd (omega (arith, three, fewer))) (λ six. absurd (omega (arith, six, few))))
  pick n (Seen (Body c g ran)) kept = of (nat_lt 5 n) (nat_lt 2 n) refl refl
    where
      func : ℕ
      func = (entry_of c items).func

      of : (a b : Bool) → nat_lt 5 n ≡ a → nat_lt 2 n ≡ b → (ran' : Ran) × Picked n (Seen (Body c g ran)) ran'
      of true b e f =
          let six : 5 < n = ltb-true 5 n e in
          let h = kept 5 six in
          let k = h.fetched in (
            ran,
            choose-body by job lines d c g ran ran [] tt (kept 0 (omega (arith, six))) (kept 2 (omega (arith, six))) (λ u. is_on (desk job k.0) u func) (λ u o. (k.0, k.1, k.2, o)) (2 < n) (5 < n)
                (λ _. record { command = k.0; low = k.1; high = k.2; is = k.3; on = λ u o. o; only = h.only; one = h.one; runs = h.runs }),
          )
      of false true e f =
          let three : 2 < n = ltb-true 2 n f in
          let few = ltb-false 5 n e in
          (ran, choose-body by job lines d c g ran ran [] tt (kept 0 (omega (arith, three))) (kept 2 three) (λ u. true) (λ u o. false_true (sym o)) (2 < n) (5 < n) (λ six. absurd (omega (arith, six, few))))
      of false false e f =
          let few = ltb-false 5 n e in
          let fewer = ltb-false 2 n f in
          (ran, choose-none by job lines d (Body c g ran) (λ past. Body c g ran) [] (2 < n) (5 < n) (λ three. absurd (omega (arith, three, fewer))) (λ six. absurd (omega (arith, six, few))))
  pick n (Seen item) kept = (ByList, choose-none by job lines d item (λ past. told_as past ByList (Seen item)) [] (2 < n) (5 < n) (λ _ r. tt) (λ _ r. tt))

  module _ (n : ℕ) (line : Line) (kept : KeepsFirst n by job items line) (ran : Ran) (ch : Picked n line ran) where
    -- the refusals that are wanted
    abbrev wants : List Wanted
    wants = ch.new ++ []

    -- a history with them
    r : Ready by job lines d wants (item_of line)
    r = ready by job lines d wants
        (fill by job lines d wants (record { each = each-append (IsOpen job items) ch.new [] ch.open' tt; order = order-append job ch.new [] ch.order tt (Each-weaker _ (λ s. Each (IsLater job s) []) ch.new (λ s h. tt) ch.open') })) (item_of line)

    -- nobody whom the line visits is among them
    after : Each (λ s. Each (IsAfter job s.call items s.lacked) (visitor s.call (item_of line))) wants
    after = each-append _ ch.new [] (Each-weaker (λ s. visitor s.call (item_of line) ≡ []) _ ch.new (λ s e. subst (λ (us : List ℕ). Each (IsAfter job s.call items s.lacked) us) (sym e) tt) ch.apart) tt

    -- each part
    part-up : (i : ℕ) → i < n → Part i by job (history r.past) (told_as r.past ran line)
    part-up zero lt = run-up by job lines d wants line r ran (kept 0 lt)
    part-up (suc zero) lt = callbacks-of by job lines d wants line r ran (kept 0 (omega (arith, lt))) after (kept 1 lt)
    part-up (suc (suc zero)) lt = ch.silence lt r
    part-up (suc (suc (suc zero))) lt = refusals-of by job lines d wants line r ran (kept 3 lt)
    part-up (suc (suc (suc (suc zero)))) lt = exits-up by job lines d wants line r ran (kept 4 lt)
    part-up (suc (suc (suc (suc (suc zero))))) lt = ch.fetches lt r
    part-up (suc (suc (suc (suc (suc (suc zero)))))) lt = commands-of by job lines d wants line r ran (kept 6 lt)
    part-up (suc (suc (suc (suc (suc (suc (suc i))))))) lt = tt

    -- so the line can keep them
    can-keep : CanKeep n by job lines line
    can-keep = record { past = r.past; item = told_as r.past ran line; reading = record { told' = r.told'; legal = r.legal }; tells = tells r.past ran line; kept = part-up }

  -- the first parts
  pub kept-up : (n : ℕ) (line : Line) → KeepsFirst n by job items line → CanKeep n by job lines line
  kept-up n line kept = let ch = pick n line kept in can-keep n line kept ch.0 ch.1
