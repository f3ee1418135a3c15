-- Orders of three lines, of which the first and the last are of one lane: one that merges the lanes, and some that don't.
use Rattle.std.proofs.Common.{◌≡◌, ℕ, ◌<◌, List, [], ◌∷◌, refl, sym, ap, arith}
use Rattle.std.specs.Prelude.{slice_get}
use Rattle.std.specs.List.{IsDistinct}
use Rattle.std.proofs.lemmas.Option.{same_Some}
use Rattle.ft_base.proofs.Small.{false_true}
use Rattle.word_machine_laws.specs.Orders.{AreAllLed, IsLaneOrder, in_lane}

abbrev lanes : List ℕ
lanes = 0 ∷ 1 ∷ 0 ∷ []

-- the other lane's line may come first
first_lane : in_lane lanes 0 (1 ∷ 0 ∷ 2 ∷ []) ≡ 0 ∷ 2 ∷ []
first_lane = refl

other_lane : in_lane lanes 1 (1 ∷ 0 ∷ 2 ∷ []) ≡ 1 ∷ []
other_lane = refl

-- those of one lane keep their order
turned : IsLaneOrder lanes (2 ∷ 1 ∷ 0 ∷ []) → ⊥
turned o = let e : 2 ≡ 0 = same_Some 2 0 (ap (λ l. slice_get l 0) (o.lanes' 0)) in absurd (omega (arith, e))

-- none is left out
left_out : IsLaneOrder lanes (0 ∷ 2 ∷ []) → ⊥
left_out o = let e : 2 ≡ 3 = o.each.all in absurd (omega (arith, e))

-- none comes twice
twice : AreAllLed 3 (0 ∷ 0 ∷ 1 ∷ []) → ⊥
unfolding IsDistinct
twice a = false_true (sym a.led.once.0.0)

-- and each is one of the three
no_line : AreAllLed 3 (0 ∷ 1 ∷ 3 ∷ []) → ⊥
no_line a = let lt : 3 < 3 = a.led.within 3 refl in absurd (omega (arith, lt))
