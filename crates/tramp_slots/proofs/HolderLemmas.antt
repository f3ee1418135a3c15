-- A change of one holder, among the slots that there are.
use Rattle.std.proofs.Common.{◌≡◌, ℕ, zero, suc, ◌<◌, false, [], ◌∷◌, length, take, set, Option, sym, ap, ◌∙◌, arith}
use Rattle.std.proofs.Math.Seq.{take-set-lt}
use Rattle.std.proofs.lemmas.Bool.{false≢true}
use Rattle.std.proofs.lemmas.List.{length-take}
use Rattle.ft_base.specs.declared.number.UserNo.{UserNo}
use Rattle.tramp_slots.specs.Holders.{Holders, is_free_slot}

-- a slot that is held is there
pub held-within : (holders : Holders) (slot : ℕ) → is_free_slot holders slot ≡ false → slot < length holders
held-within [] slot held = absurd (false≢true (sym held))
held-within (h ∷ hs) zero held = omega arith
held-within (h ∷ hs) (suc slot) held = let within = held-within hs slot held in omega arith

-- the holders that contracts see, after a change of one that the array keeps
pub take-changed : (size slot : ℕ) (all seen : Holders) (holder : Option UserNo) → take size all ≡ seen → slot < length seen
    → take size (set all slot holder) ≡ set seen slot holder
take-changed size slot all seen holder view within =
    take-set-lt size all slot holder (omega (arith, ap length view, length-take size all))
    ∙ ap (λ (holders : Holders). set holders slot holder) view
