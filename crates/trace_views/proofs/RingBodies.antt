-- The view rings before the first item, what it counts, and its lines.
use Rattle.std.proofs.Common.{◌≡◌, ℕ, suc, ◌<◌, ◌≤◌, List, [], ◌∷◌, ◌++◌, length, map, reverse, refl, sym, ap, ◌∙◌, subst, arith, ⊎_elim}
use Rattle.std.specs.Prelude.{replicate, slice_index, slice_index_or}
use Rattle.std.specs.List.{AllByRecursion as Each}
use Rattle.std.proofs.lemmas.List.{get_or_past, length-map, length-reverse}
use Rattle.ft_base.specs.declared.item.Item.{Item}
use Rattle.ft_base.specs.Job.{Job}
use Rattle.ft_base.proofs.Small.{Each-weaker}
use Rattle.ring_rules.specs.Plan.{TracePlan, plan_of}
use Rattle.ring_rules.specs.Hits.{quota, trigger}
use Rattle.ring_rules.specs.Fold.{at_start, fold, no_ring}
use Rattle.ring_rules.proofs.FoldLegal.{fold-hits, fold-legal, fold-lengths}
use Rattle.ring_rules.proofs.FoldSteps.{fold-few}
use Rattle.ring_rules.proofs.Numbers.{lt-or-le}
use Rattle.trace_views.specs.declared.function.FunctionLine.{FunctionLine}
use Rattle.trace_views.specs.declared.ring_view.RingsView.{RingsView}
use Rattle.trace_views.specs.OpenCalls.{IsFollowed, function_line_text}
use Rattle.trace_views.specs.RingLines.{IsLineAt}
use Rattle.trace_views.specs.LineRings.{LineBox, empty_lines, kept_text, ring_of}
use Rattle.trace_views.specs.RingViews.{HasRings, IsFiredBy, IsRingAfter, IsSwitchOf}
use Rattle.trace_views.specs.RingsText.{cpu_line, cpu_text, entry_text, rings_body, trigger_text}
use Rattle.trace_views.specs.Words.{lines_text, numbered_texts}
use Rattle.trace_views.proofs.FunctionLines.{entry-shown}
use Rattle.trace_views.proofs.RingTakes.{each-at, each-same, rings-empty}

-- before the first item
pub has-none : (job : Job) (view : RingsView) (n most : ℕ) → view.plan ≡ plan_of job → IsFollowed job [] view.stacks → view.place ≡ 0
    → IsSwitchOf (at_start view.plan) view.switch → view.rings.items ≡ replicate n (empty_lines most) → n ≡ view.plan.cpus → most ≡ view.plan.ring
    → HasRings job [] view
has-none job view n most plan calls place switch rings count ring = record {
  plan' = plan;
  calls = calls;
  place' = place;
  switch' = subst (λ (p : TracePlan). IsSwitchOf (at_start p) view.switch) plan switch;
  rings' = ap (map ring_of) rings ∙ rings-empty n most ∙ ap (λ (k : ℕ). replicate k no_ring) (count ∙ ap (λ (p : TracePlan). p.cpus) plan);
  each = subst (Each (IsRingAfter job [])) (sym rings)
      (each-same (IsRingAfter job []) n (empty_lines most) (record { most' = ring ∙ ap (λ (p : TracePlan). p.ring) plan; few = omega arith; lines' = tt }));
}

module _ (job : Job) (items : List Item) where
  -- the entries of a ring
  entries-shown : (ls : List FunctionLine) → Each (λ line. IsLineAt job items line.place line) ls
      → lines_text (function_line_text job) ls ≡ lines_text (entry_text job items) (map (λ (line : FunctionLine). line.place) ls)
  entries-shown [] all = refl
  entries-shown (line ∷ ls) all = λ j. entry-shown job items line.place line all.0 j ++ entries-shown ls all.1 j

  -- the rings of all CPUs
  rings-shown-from : (bs : List LineBox) (n : ℕ) → Each (λ b. Each (λ line. IsLineAt job items line.place line) b.lines) bs
      → numbered_texts (kept_text job) n bs ≡ numbered_texts (cpu_text job items) n (map ring_of bs)
  rings-shown-from [] n all = refl
  rings-shown-from (b ∷ bs) n all =
      λ j. (cpu_line n (sym (length-map b.lines (λ (line : FunctionLine). line.place)) j) b.written ++ entries-shown b.lines all.0 j)
      ++ rings-shown-from bs (suc n) all.1 j

module _ (job : Job) (past : List Item) (view : RingsView) (told : HasRings job past view) where
  same-plan : (plan_of job) ≡ view.plan
  same-plan = sym told.plan'

  pub hits-count : length view.switch.hits.items ≡ length view.plan.triggers
  hits-count = ap length told.switch'.hits' ∙ (fold-lengths (plan_of job) (reverse past)).0 ∙ ap (λ (p : TracePlan). length p.triggers) same-plan

  pub rings-count : length view.rings.items ≡ view.plan.cpus
  rings-count =
      sym (length-map view.rings.items ring_of) ∙ ap length told.rings' ∙ (fold-lengths (plan_of job) (reverse past)).2
      ∙ ap (λ (p : TracePlan). p.cpus) same-plan

  pub hits-few : (i : ℕ) → slice_index view.switch.hits.items i ≤ length past
  hits-few i =
      let same = ap (λ (hits : List ℕ). slice_index hits i) told.switch'.hits' in
      let few = fold-few (plan_of job) (reverse past) i in
      let long = length-reverse past in
      omega (arith, same, few, long)

  pub written-few : (c : ℕ) → (slice_index_or view.rings.items c (empty_lines 0)).written ≤ length past
  written-few c =
      ⊎_elim
      (λ (lt : c < length view.rings.items). (each-at (IsRingAfter job past) view.rings.items c (empty_lines 0) lt told.each).few)
      (λ (le : length view.rings.items ≤ c).
      let none = ap (λ (b : LineBox). b.written) (get_or_past view.rings.items c (empty_lines 0) le) in
      omega (arith, none))
      (lt-or-le c (length view.rings.items))

  rings-shown : numbered_texts (kept_text job) 0 view.rings.items
      ≡ numbered_texts (cpu_text job (reverse past)) 0 (fold (plan_of job) (reverse past)).cpus
  rings-shown =
      rings-shown-from job (reverse past) view.rings.items 0
      (Each-weaker (IsRingAfter job past) (λ b. Each (λ line. IsLineAt job (reverse past) line.place line) b.lines) view.rings.items (λ b is. is.lines') told.each)
      ∙ ap (numbered_texts (cpu_text job (reverse past)) 0) told.rings'

  pub fired-shown : IsFiredBy view.plan view.switch.hits.items (fold (plan_of job) (reverse past)).fired
  fired-shown =
      let legal = fold-legal (plan_of job) (reverse past) in
      subst (λ (p : TracePlan). IsFiredBy p view.switch.hits.items (fold (plan_of job) (reverse past)).fired) same-plan (
        legal.triggers,
        λ i lt. (legal.fired i lt).times
            ∙ ap (quota (trigger (plan_of job) i).limit) (sym (ap (λ (hits : List ℕ). slice_index hits i) told.switch'.hits' ∙ fold-hits (plan_of job) (reverse past) i lt)),
      )

  -- the lines have the text of the rings
  pub body-shown : (before after : List ℕ) → before ≡ [] ++ numbered_texts (kept_text job) 0 view.rings.items
      → after ≡ before ++ numbered_texts trigger_text 0 (fold (plan_of job) (reverse past)).fired
      → after ≡ rings_body job (reverse past) (fold (plan_of job) (reverse past))
  body-shown before after first then' =
      then' ∙ ap (λ (t : List ℕ). t ++ numbered_texts trigger_text 0 (fold (plan_of job) (reverse past)).fired) (first ∙ rings-shown)
