-- One more seat has joined the first one.
use Rattle.std.proofs.Common.{◌≡◌, ℕ, List, [], ◌∷◌, ◌++◌, length, sym, ap, ◌∙◌, subst}
use Rattle.std.specs.Prelude.{slice_get}
use Rattle.std.proofs.lemmas.List.{map-append}
use Rattle.atomic_table.specs.Seated.{TableId}
use Rattle.atomic_table.specs.Table.{Me}
use Rattle.ring_rules.specs.Plan.{TracePlan}
use Rattle.ring_rules.specs.Fold.{Ring, Rings}
use Rattle.ring_rules.specs.Gathered.{all_fired}
use Rattle.ring_table.specs.declared.view.Known.{Known}
use Rattle.ring_table.specs.Views.{Part, View, cpu_view, view}
use Rattle.ring_table.specs.Seats.{AreAt, AreCounted, IsCounted, SeatPlace, Shares, parts_of, shares_of}
use Rattle.dealt_seats.specs.Views.{cpu, joined, part}
use Rattle.ring_table.proofs.Closing.{made_by}
use Rattle.dealt_seats.proofs.Parts.{get-middle}
use Rattle.dealt_seats.proofs.Parts as seats
use Rattle.ft_base.proofs.Small.{each-pushed}

-- the present seat is one of the table's
pub next-at : (table : TableId) (plan : TracePlan) (done left all : List SeatPlace) (s : SeatPlace) → AreAt table plan all → done ++ s ∷ left ≡ all
    → (s.table_id ≡ table) × (s.plan ≡ plan)
next-at table plan done left all s at is =
    at (length done) s (ap (λ (l : List SeatPlace). slice_get l (length done)) (sym is) ∙ get-middle done s left)

-- what the first seat knows then
pub joined-more : {S : Type 0} (me me' : Me S View) (other : Me S View) (plan q : TracePlan) (split c : ℕ) (x0 : Part) (ss : List SeatPlace)
    (k : Known) (s : SeatPlace)
    → me ≡ (view plan split (x0 ∷ parts_of ss), []) → other ≡ (cpu_view q c k, []) → part (cpu c) k ≡ part (cpu s.number) s.known
    → me' ≡ (joined me.0 other.0, me.1) → me' ≡ (view plan split (x0 ∷ parts_of (ss ++ s ∷ [])), [])
joined-more me me' other plan q split c x0 ss k s is theirs same new =
    let v = seats.joined-more (λ (u : SeatPlace). u.number) (λ u. u.known) me.0 other.0 plan tt split x0 ss q tt c k s (ap (λ m. m.0) is)
    (ap (λ m. m.0) theirs) same in
    new ∙ (λ j. (v j, (is j).1))

-- its fired places are counted too
pub counted-more : (plan q : TracePlan) (ss : List SeatPlace) (s0 s : SeatPlace) → AreCounted plan ss → IsCounted q s0 → s0 ≡ s → q ≡ plan
    → AreCounted plan (ss ++ s ∷ [])
counted-more plan q ss s0 s all own is same =
    each-pushed (λ c u. IsCounted plan u) ss s all (subst (λ (z : TracePlan × SeatPlace). IsCounted z.0 z.1) (λ j. (same j, is j)) own)

-- what the last seat knew first, it knows first then too
abbrev first_in : Part → List Part → Part
first_in d [] = d
first_in d (x ∷ xs) = x

pub last-parts : {S : Type 0} (me : Me S View) (key : TracePlan) (c d : ℕ) (k l : Known) (s : SeatPlace) (v : View) (rest : List SeatPlace)
    → me ≡ (cpu_view key c k, []) → me ≡ (cpu_view key d l, []) → part (cpu d) l ≡ part (cpu s.number) s.known
    → v ≡ view key 0 (part (cpu c) k ∷ parts_of rest) → v ≡ view key 0 (part (cpu s.number) s.known ∷ parts_of rest)
last-parts me key c d k l s v rest is also same at =
    at
    ∙ ap (λ (x : Part). view key 0 (x ∷ parts_of rest))
    (ap (λ m. first_in (part (cpu c) k) m.0.parts) (sym is) ∙ ap (λ m. first_in (part (cpu c) k) m.0.parts) also ∙ same)

-- its ring and fired places are collected too
pub shares-more : (done : List SeatPlace) (s : SeatPlace) (room : ℕ) (old new : Shares) (ring : Ring) (fired : List (List ℕ))
    → old ≡ shares_of done room → ring ≡ s.ring
    → fired ≡ s.fired → new ≡ record { rings = old.rings ++ ring ∷ []; fired = old.fired ++ fired ∷ []; room = old.room }
    → new ≡ shares_of (done ++ s ∷ []) room
shares-more done s room old new ring fired was rings places is =
    is
    ∙ (λ j. record { rings = (was j).rings ++ rings j ∷ []; fired = (was j).fired ++ places j ∷ []; room = (was j).room })
    ∙ (λ j. record {
      rings = sym (map-append (λ (u : SeatPlace). u.ring) done (s ∷ [])) j;
      fired = sym (map-append (λ (u : SeatPlace). u.fired) done (s ∷ [])) j;
      room = room;
    })

-- the rings that are made of what was collected
pub made-as : (n room : ℕ) (seats : List SeatPlace) (c : Shares) (r : Rings) → r ≡ record { cpus = c.rings; fired = all_fired n c.fired }
    → c ≡ shares_of seats room
    → r ≡ made_by n seats
made-as n room seats c r is was = is ∙ ap (λ (x : Shares). record { cpus = x.rings; fired = all_fired n x.fired }) was
