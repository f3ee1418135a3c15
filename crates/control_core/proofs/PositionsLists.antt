-- The list of users: the stores of a plan's change of the list are the word machine's.
use Rattle.std.proofs.Common.{cond, ◌≡◌, ℕ, true, false, ◌==◌, List, [], ◌∷◌, Option, Some, None, refl, ap, ap₂}
use Rattle.ft_base.specs.declared.number.UserNo.{UserNo}
use Rattle.word_map.specs.Words.{Word, Link}
use Rattle.word_map.specs.Ops.{Store}
use Rattle.ft_desk.specs.Plans.{first_of, user_after, user_before, user_no}
use Rattle.ops_list.specs.declared.linker.LinkPhase.TheVariants.{Linking, Unlinking}
use Rattle.word_map.specs.Contents.{name_of as option_name}
use Rattle.ops_list.specs.Names.{namer}
use Rattle.ops_list.specs.Links.{link_op}
use Rattle.word_machine.specs.Commands.{Removes}
use Rattle.word_machine.specs.Control.{follower, name_of, namer_from, relink_op}

-- the name of the first user
pub name-first : (order : List ℕ) → option_name (first_of order) ≡ name_of order
name-first [] = refl
name-first (v ∷ vs) = refl

module _ (u : ℕ) where
  -- the name of the user after this one
  pub name-after : (order : List ℕ) → option_name (user_after u order) ≡ follower u order
  name-after [] = refl
  name-after (v ∷ vs) =
      elim (v == u) as (λ b. option_name (cond b (first_of vs) (user_after u vs)) ≡ cond b (name_of vs) (follower u vs)) [
        | true ↦ name-first vs
        | false ↦ name-after vs
      ]

  -- the word that names this user
  pub namer-before : (order : List ℕ) (before : Option UserNo) → namer (user_before before u order) ≡ namer_from (namer before) u order
  namer-before [] before = refl
  namer-before (v ∷ vs) before =
      elim (v == u) as (λ b.
      namer (cond b before (user_before (Some (user_no v)) u vs)) ≡ cond b (namer before) (namer_from (Link v) u vs)) [
        | true ↦ refl
        | false ↦ namer-before vs (Some (user_no v))
      ]

  module _ (order : List ℕ) where
    -- a user is taken off
    pub unlink-is : link_op (Unlinking (user_before None u order) (user_after u order)) ≡ Some (relink_op Removes u order)
    unlink-is = ap₂ (λ (w : Word) (x : ℕ). Some (Store w x)) (namer-before order None) (name-after order)

    -- a user is linked, and then put at the head
    pub link-is : link_op (Linking (user_no u) (first_of order)) ≡ Some (Store (Link u) (name_of order))
    link-is = ap (λ x. Some (Store (Link u) x)) (name-first order)
