-- The switch and the hits, hit by hit.
use Rattle.std.proofs.Common.{◌≡◌, ℕ, suc, ◌+◌, Bool, true, false, List, [], ◌∷◌, ◌++◌, length, set, cond, sym, ap, ◌∙◌, subst, arith, add-one}
use Rattle.std.specs.Prelude.{slice_index, slice_index_or}
use Rattle.ft_base.specs.declared.item.Item.{Item}
use Rattle.ring_rules.specs.Plan.{TracePlan}
use Rattle.ring_rules.specs.Hits.{fires, is_hit, trigger}
use Rattle.ring_rules.specs.Fold.{Tracing, hit, hit_all}
use Rattle.ring_rules.proofs.FoldSteps.{all-alike, all-later}
use Rattle.trace_views.specs.declared.switch.Switch.{Switch}
use Rattle.trace_views.specs.RingViews.{IsSwitchOf}

module _ (plan : TracePlan) (p i : ℕ) (s : Tracing) where
  abbrev fired_then : Tracing
  fired_then = record {
    on = (trigger plan i).on;
    hits = set s.hits i (suc (slice_index s.hits i));
    rings = record { cpus = s.rings.cpus; fired = set s.rings.fired i (slice_index_or s.rings.fired i [] ++ p ∷ []) };
  }

  abbrev hit_alone : Tracing
  hit_alone = record { on = s.on; hits = set s.hits i (suc (slice_index s.hits i)); rings = s.rings }

  module _ (old switch : Switch) (is : IsSwitchOf s old) (counted : switch.hits.items ≡ set old.hits.items i (slice_index old.hits.items i + 1)) where
    counts : switch.hits.items ≡ set s.hits i (suc (slice_index s.hits i))
    counts = counted ∙ ap (set old.hits.items i) (add-one (slice_index old.hits.items i)) ∙ ap (λ (hits : List ℕ). set hits i (suc (slice_index hits i))) is.hits'

    same-test : fires (trigger plan i).limit (slice_index s.hits i) ≡ fires (trigger plan i).limit (slice_index old.hits.items i)
    same-test = ap (λ (hits : List ℕ). fires (trigger plan i).limit (slice_index hits i)) (sym is.hits')

    -- the hit fires
    pub hit-fires : fires (trigger plan i).limit (slice_index old.hits.items i) ≡ true → switch.on ≡ (trigger plan i).on → IsSwitchOf (hit plan p i s) switch
    hit-fires e on =
        subst (λ (b : Bool). IsSwitchOf (cond b fired_then hit_alone) switch) (sym (same-test ∙ e)) (record { on' = on; hits' = counts })

    -- it doesn't
    pub hit-counts : fires (trigger plan i).limit (slice_index old.hits.items i) ≡ false → switch.on ≡ old.on → IsSwitchOf (hit plan p i s) switch
    hit-counts e on =
        subst (λ (b : Bool). IsSwitchOf (cond b fired_then hit_alone) switch) (sym (same-test ∙ e)) (record { on' = on ∙ is.on'; hits' = counts })

-- one more trigger, which the item hits or doesn't
module _ (plan : TracePlan) (p : ℕ) (item : Item) (m : ℕ) (s : Tracing) (switch : Switch) where
  pub all-hit : is_hit (trigger plan m) item ≡ true → IsSwitchOf (hit plan p m (hit_all plan p item m s)) switch → IsSwitchOf (hit_all plan p item (m + 1) s) switch
  all-hit e is =
      subst (λ (n : ℕ). IsSwitchOf (hit_all plan p item n s) switch) (sym (add-one m))
      (subst (λ (b : Bool). IsSwitchOf (cond b (hit plan p m (hit_all plan p item m s)) (hit_all plan p item m s)) switch) (sym e) is)

  pub all-missed : is_hit (trigger plan m) item ≡ false → IsSwitchOf (hit_all plan p item m s) switch → IsSwitchOf (hit_all plan p item (m + 1) s) switch
  all-missed e is =
      subst (λ (n : ℕ). IsSwitchOf (hit_all plan p item n s) switch) (sym (add-one m))
      (subst (λ (b : Bool). IsSwitchOf (cond b (hit plan p m (hit_all plan p item m s)) (hit_all plan p item m s)) switch) (sym e) is)

-- a fold with this switch and these hits
abbrev pub fold_with : Switch → Tracing
fold_with switch = record { on = switch.on; hits = switch.hits.items; rings = record { cpus = []; fired = [] } }

-- after the first triggers there are as many hits, and those of the others are as they were
module _ (plan : TracePlan) (item : Item) (m : ℕ) (old switch : Switch) (is : IsSwitchOf (hit_all plan 0 item m (fold_with old)) switch) where
  pub hits-stay : length switch.hits.items ≡ length old.hits.items
  hits-stay = ap length is.hits' ∙ (all-alike plan 0 item m (fold_with old)).hits

  pub hit-not-yet : slice_index switch.hits.items m ≡ slice_index old.hits.items m
  hit-not-yet = ap (λ (hits : List ℕ). slice_index hits m) is.hits' ∙ all-later plan 0 item m m (fold_with old) (omega arith)
