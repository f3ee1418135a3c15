-- The list of users that words have, and what the stores of a change and the loads of a walk make of it.
use Rattle.std.specs.Prelude.{ℕ, zero, suc, List, [], ◌∷◌, Option, Some, None, slice_get}
use Rattle.std.specs.Option.{option_map}
use Rattle.ft_base.specs.declared.number.UserNo.{UserNo}
use Rattle.word_map.specs.Words.{Words, put, read}
use Rattle.word_map.specs.Chains.{Leads}
use Rattle.word_map.specs.Ops.{WordOp, Load, Store}
use Rattle.ops_list.specs.declared.linker.LinkPhase.{LinkPhase}
use Rattle.ops_list.specs.declared.walker.WalkPhase.{WalkPhase}
use Rattle.ops_list.specs.Links.{link_op, link_after}
use Rattle.ops_list.specs.Walks.{walk_op, walk_after}

-- ## what words say

-- the words have this list of users, the one at the head first
abbrev pub IsList : Words → List ℕ → Type 0
IsList ws users = Leads ws.link ws.first users

-- ## users of a list

-- the user at a place of a list, the first at 0; none after its end
abbrev pub nth_user : List ℕ → ℕ → Option UserNo
nth_user users i = option_map (λ u. record { 0 = u }) (slice_get users i)

-- the last of a user and those after it
abbrev pub last_from : ℕ → List ℕ → ℕ
last_from u [] = u
last_from u (v ∷ vs) = last_from v vs

-- the last user of a list; none if it has none
abbrev pub last_user : List ℕ → Option UserNo
last_user [] = None
last_user (u ∷ us) = Some (record { 0 = last_from u us })

-- ## changes and walks

-- the words after an operation
abbrev pub stored : Option WordOp → Words → Words
stored (Some (Store w x)) ws = put w x ws
stored _ ws = ws

-- the words after so many operations of a change
abbrev pub after_stores : ℕ → LinkPhase → Words → Words
after_stores zero phase ws = ws
after_stores (suc n) phase ws = after_stores n (link_after phase) (stored (link_op phase) ws)

-- what an operation gives
abbrev pub loaded : Option WordOp → Words → ℕ
loaded (Some (Load w)) ws = read w ws
loaded _ ws = 0

-- what the next operation of a walk gives
abbrev pub next_load : WalkPhase → Words → ℕ
next_load phase ws = loaded (walk_op phase) ws

-- where a walk stands after so many operations, while the words stay as they are
abbrev pub after_loads : ℕ → WalkPhase → Words → WalkPhase
after_loads zero phase ws = phase
after_loads (suc n) phase ws = after_loads n (walk_after phase (next_load phase ws)) ws
