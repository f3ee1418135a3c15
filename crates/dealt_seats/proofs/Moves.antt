-- What a rule says of its views holds of the first seat alone; and it stays while an actor does more, a CPU gets its seat, and a seat joins another.
use Rattle.std.proofs.Common.{◌≡◌, ◌≢◌, ℕ, ◌+◌, ◌<◌, ◌≤◌, List, [], ◌∷◌, ◌++◌, length, set, ⊎_elim, refl, sym, ap, ◌∙◌, subst, arith}
use mathlib.Core.Option.{some, some-ne-none, some-injective}
use lib.ListN.{get_elem?}
use Rattle.atomic_table.proofs.Lists.{at_last, at_longer, at_set, at_snoc, set_else}
use Rattle.ft_base.specs.declared.turn.Actor.{Actor}
use Rattle.ft_base.specs.declared.turn.Actor.TheVariants.{Control as ByFirst, Cpu as ByCpu}
use Rattle.dealt_seats.specs.declared.view.Part.{Part}
use Rattle.dealt_seats.specs.declared.view.View.{View}
use Rattle.dealt_seats.specs.Covers.{Covers, Fits, HasSeat, StandsAt, StandsIn}
use Rattle.dealt_seats.specs.Views.{cpu, cpu_view, first_view, joined, part, spent_view, view}
use Rattle.dealt_seats.proofs.Actors.{at_cpu, at_cpu-else, at_cpu-kept, at_cpu-same, one-or, still-seated}
use Rattle.dealt_seats.proofs.Parts.{PartsFit, each-added, each-set, only-one, only-there, put-here, stands-last, stands-longer, stands-set}

-- ## the first seat

-- it alone is there
first-stands : {J L K : Type 0} (job : J) (led : L) (nothing : K) (a : Actor) → HasSeat 0 a → StandsIn (first_view job led 0 nothing ∷ []) 0 a
first-stands job led nothing ByFirst has = (first_view job led 0 nothing, refl, (0, part ByFirst nothing, refl, refl))
first-stands job led nothing (ByCpu c) has = absurd (omega (arith, has))

pub covers-first : {J L K : Type 0} (job : J) (cpus : ℕ) (nothing : K) (led : L)
    → Covers job cpus nothing led (first_view job led 0 nothing ∷ []) (λ a. nothing) (λ a. 0) 0
covers-first job cpus nothing led = record {
  fits = only-one (PartsFit job led (λ a. nothing) (λ a. 0) 0) (first_view job led 0 nothing)
      (only-one (λ k x. Fits job led (λ a. nothing) (λ a. 0) 0 0 (first_view job led 0 nothing) x) (part ByFirst nothing)
      record { job' = refl; seated = refl; has = refl; stands = (refl, refl) });
  stood = first-stands job led nothing;
  unsplit = λ c low. refl;
  within = omega arith;
}

-- ## an actor does more

-- an actor stands where it stood, if it is not the first, or if the job is led as far as before
abbrev pub Stays : {L : Type 0} → L → L → ℕ → Actor → Type 0
Stays {L} led led' split a = (own : L) (here : ℕ) (x : Actor) → (x ≡ a → ⊥) → StandsAt led split own here x → StandsAt led' split own here x

pub others-stay : {L : Type 0} (led led' : L) (split : ℕ) → Stays led led' split ByFirst
others-stay led led' split own here ByFirst ne at = absurd (ne refl)
others-stay led led' split own here (ByCpu c) ne at = at

module _ {J L K : Type 0} (job : J) (cpus : ℕ) (nothing : K) (led : L) (views : List (View J L K)) (knows : Actor → K) (seat : Actor → ℕ) (split : ℕ)
    (covers : Covers job cpus nothing led views knows seat split) where
  -- the actor of a seat has done more, and the job may be led further
  module _ (id here : ℕ) (own : L) (a : Actor) (k : K) (at : get_elem? views id ≡ some (view job own here (part a k ∷ []))) where
    mine : Fits job led knows seat split id (view job own here (part a k ∷ [])) (part a k)
    mine = covers.fits id (view job own here (part a k ∷ [])) at 0 (part a k) refl

    pub covers-more : (led' own' : L) (knows' : Actor → K) (more : K) → knows' a ≡ more → ((x : Actor) → (x ≡ a → ⊥) → knows' x ≡ knows x)
        → Stays led led' split a → StandsAt led' split own' here a
        → Covers job cpus nothing led' (set views id (view job own' here (part a more ∷ []))) knows' seat split
    covers-more led' own' knows' more taken others stay there = record {
      fits = each-set (PartsFit job led' knows' seat split) views id (view job own' here (part a more ∷ []))
          (λ j u ne e n x has.
          let f = covers.fits j u e n x has in
          let other : x.actor ≡ a → ⊥ = λ same. ne (sym f.seated ∙ ap seat same ∙ mine.seated) in
          record { job' = f.job'; seated = f.seated; has = f.has ∙ sym (others x.actor other); stands = stay u.led u.split x.actor other f.stands })
          (only-one (λ n x. Fits job led' knows' seat split id (view job own' here (part a more ∷ [])) x) (part a more)
          record { job' = refl; seated = mine.seated; has = sym taken; stands = there });
      stood = λ x has.
          stands-set views id (seat x) (view job own' here (part a more ∷ [])) x (covers.stood x has)
          (λ v e had. (0, part a more, refl, only-there job own here (part a k) views id at x v e had));
      unsplit = λ c le. others (cpu c) (apart c le) ∙ covers.unsplit c le;
      within = covers.within;
    }
      where
        -- it was split off
        apart : (c : ℕ) → split ≤ c → cpu c ≡ a → ⊥
        apart c le e = let lt : c < split = subst (λ (x : Actor). StandsAt led' split own' here x) (sym e) there in omega (arith, le, lt)

  -- ## the next CPU gets its seat

  -- a CPU that was split off is not the next one
  not-next : (own : L) (here : ℕ) (a : Actor) → StandsAt led split own here a → a ≡ cpu split → ⊥
  not-next own here a at e = let lt : split < split = subst (λ (x : Actor). StandsAt led split own here x) e at in omega (arith, lt)

  raised : (own : L) (here : ℕ) (a : Actor) → (a ≡ ByFirst → ⊥) → StandsAt led split own here a → StandsAt led (split + 1) own here a
  raised own here ByFirst apart at = absurd (apart refl)
  raised own here (ByCpu d) apart at = omega (arith, at)

  module _ (id here : ℕ) (own whole : L) (k : K) (room : here < cpus) (at : get_elem? views id ≡ some (first_view job own here k)) where
    abbrev left : View J L K
    left = first_view job own (here + 1) k

    abbrev right : View J L K
    right = cpu_view job whole here nothing

    -- where each actor sits then
    abbrev pub dealt_at : Actor → ℕ
    dealt_at = at_cpu seat here (length (set views id left))

    first : Fits job led knows seat split id (first_view job own here k) (part ByFirst k)
    first = covers.fits id (first_view job own here k) at 0 (part ByFirst k) refl

    seated : (j : ℕ) (v : View J L K) → get_elem? views j ≡ some v → (n : ℕ) (x : Part K) → get_elem? v.parts n ≡ some x → dealt_at x.actor ≡ j
    seated j v e n x has =
        let f = covers.fits j v e n x has in
        at_cpu-else seat here (length (set views id left)) x.actor (λ same. not-next v.led v.split x.actor f.stands (same ∙ ap cpu first.stands.1)) ∙ f.seated

    stood : (a : Actor) → HasSeat (here + 1) a → StandsIn (set views id left ++ right ∷ []) (dealt_at a) a
    stood a has =
        ⊎_elim
        (λ (same : cpu here ≡ a). subst (λ (x : Actor). StandsIn (set views id left ++ right ∷ []) (dealt_at x) x) same
        (subst (λ j. StandsIn (set views id left ++ right ∷ []) j (cpu here)) (sym (at_cpu-same seat here (length (set views id left))))
        (stands-last (set views id left) right (cpu here) (0, part (cpu here) nothing, refl, refl))))
        (λ (other : a ≡ cpu here → ⊥). subst (λ j. StandsIn (set views id left ++ right ∷ []) j a)
        (sym (at_cpu-else seat here (length (set views id left)) a other))
        (stands-longer (set views id left) (right ∷ []) (seat a) a
        (stands-set views id (seat a) left a (covers.stood a (subst (λ z. HasSeat z a) first.stands.1 (still-seated here a other has)))
        (λ v e had. (0, part ByFirst k, refl, only-there job own here (part ByFirst k) views id at a v e had)))))
        (one-or here a)

    pub covers-dealt : Covers job cpus nothing led (set views id left ++ right ∷ []) knows dealt_at (here + 1)
    covers-dealt = record {
      fits = each-added (PartsFit job led knows dealt_at (here + 1)) (set views id left) right
          (each-set (PartsFit job led knows dealt_at (here + 1)) views id left
          (λ j u apart e n x has.
          let f = covers.fits j u e n x has in
          record {
            job' = f.job';
            seated = seated j u e n x has;
            has = f.has;
            stands = subst (λ z. StandsAt led (z + 1) u.led u.split x.actor) (sym first.stands.1)
                (raised u.led u.split x.actor (λ same. apart (sym f.seated ∙ ap seat same ∙ first.seated)) f.stands);
          })
          (only-one (λ n x. Fits job led knows dealt_at (here + 1) id left x) (part ByFirst k)
          record { job' = refl; seated = seated id (first_view job own here k) at 0 (part ByFirst k) refl; has = first.has; stands = (first.stands.0, refl) }))
          (only-one (λ n x. Fits job led knows dealt_at (here + 1) (length (set views id left)) right x) (part (cpu here) nothing)
          record {
            job' = refl;
            seated = at_cpu-same seat here (length (set views id left));
            has = sym (covers.unsplit here (let e = first.stands.1 in omega (arith, e)));
            stands = omega arith;
          });
      stood = stood;
      unsplit = λ c low. covers.unsplit c (let e = first.stands.1 in omega (arith, e, low));
      within = omega (arith, room);
    }

  -- ## a seat joins another

  -- the seat id, which has a part of its own, takes in that of CPU c
  module _ (id : ℕ) (v : View J L K) (x0 : Part K) (own : get_elem? v.parts 0 ≡ some x0) (other c : ℕ) (whole : L) (k : K)
      (at : get_elem? views id ≡ some v) (apart : other ≡ id → ⊥)
      (at2 : get_elem? (set views id (joined v (cpu_view job whole c k))) other ≡ some (cpu_view job whole c k)) where
    abbrev both : View J L K
    both = joined v (cpu_view job whole c k)

    theirs : Fits job led knows seat split other (cpu_view job whole c k) (part (cpu c) k)
    theirs =
        let old : get_elem? views other ≡ some (cpu_view job whole c k) =
        ⊎_elim (λ (z : (other ≡ id) × (both ≡ cpu_view job whole c k)). absurd (apart z.0))
        (λ (z : (other ≢ id) × (get_elem? views other ≡ some (cpu_view job whole c k))). z.1)
        (at_set views id other both (cpu_view job whole c k) at2) in
        covers.fits other (cpu_view job whole c k) old 0 (part (cpu c) k) refl

    all-mine : PartsFit job led knows (at_cpu seat c id) split id both
    all-mine n x has =
        ⊎_elim
        (λ old. let f = covers.fits id v at n x old in
        record { job' = f.job'; seated = at_cpu-kept seat c id x.actor f.seated; has = f.has; stands = f.stands })
        (λ (new : part (cpu c) k ≡ x). subst (Fits job led knows (at_cpu seat c id) split id both) new
        record { job' = (covers.fits id v at 0 x0 own).job'; seated = at_cpu-same seat c id; has = theirs.has; stands = theirs.stands })
        (at_snoc v.parts (part (cpu c) k) x n has)

    module _ (gone : J) (nowhere : L) where
      abbrev ends : List (View J L K)
      ends = set (set views id both) other (spent_view gone nowhere)

      taken-in : StandsIn ends id (cpu c)
      taken-in = (
        both,
        set_else (set views id both) other id (spent_view gone nowhere) (λ e. apart (sym e)) ∙ put-here views id v both at,
        (length v.parts, part (cpu c) k, at_last v.parts (part (cpu c) k) (length v.parts) refl, refl),
      )

      stood-in : (a : Actor) → HasSeat split a → StandsIn ends (at_cpu seat c id a) a
      stood-in a has =
          ⊎_elim
          (λ (same : cpu c ≡ a). subst (λ (x : Actor). StandsIn ends (at_cpu seat c id x) x) same
          (subst (λ j. StandsIn ends j (cpu c)) (sym (at_cpu-same seat c id)) taken-in))
          (λ (ne : a ≡ cpu c → ⊥). subst (λ j. StandsIn ends j a) (sym (at_cpu-else seat c id a ne))
          (stands-set (set views id both) other (seat a) (spent_view gone nowhere) a
          (stands-set views id (seat a) both a (covers.stood a has)
          (λ u e had. (
            had.0,
            had.1,
            at_longer v.parts (part (cpu c) k ∷ []) had.0 had.1
                (ap (λ (z : View J L K). get_elem? z.parts had.0) (some-injective v u (sym at ∙ e)) ∙ had.2),
            had.3,
          )))
          (λ u e had. absurd (ne (sym (only-there job whole 0 (part (cpu c) k) (set views id both) other at2 a u e had))))))
          (one-or c a)

      pub covers-joined : Covers job cpus nothing led ends knows (at_cpu seat c id) split
      covers-joined = record {
        fits = each-set (PartsFit job led knows (at_cpu seat c id) split) (set views id both) other (spent_view gone nowhere)
            (λ j u not-other e.
            each-set (λ i z. i ≢ other → PartsFit job led knows (at_cpu seat c id) split i z) views id both
            (λ i z ne e' not n x has.
            let f = covers.fits i z e' n x has in
            record {
              job' = f.job';
              seated = at_cpu-else seat c id x.actor (λ same. not (sym f.seated ∙ ap seat same ∙ theirs.seated)) ∙ f.seated;
              has = f.has;
              stands = f.stands;
            })
            (λ not. all-mine) j u e not-other)
            (λ n x has. absurd (some-ne-none x (sym has)));
        stood = stood-in;
        unsplit = covers.unsplit;
        within = covers.within;
      }
