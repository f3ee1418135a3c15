-- How a desk keeps what contracts see of it.
use Rattle.std.specs.Prelude.{◌≡◌, ℕ, ◌≤◌, ◌<◌, true, ◌==◌, List, length, map, filter, Some, vec_capacity}
use Rattle.ft_base.specs.declared.number.UserNo.{UserNo}
use Rattle.tramp_slots.specs.Holders.{Holders, holder_of}
use Rattle.ft_desk.specs.declared.user.User.{User}
use Rattle.ft_desk.specs.declared.desk.Desk.TheInside.{Inside}
use Rattle.word_map.specs.Contents.{digit}
use Rattle.ft_desk.specs.Plans.{plain_plan, user_no}
use Rattle.ft_desk.specs.DeskView.{DeskView}
use Rattle.ft_desk.specs.Users.{spec_by, state_of, user_of}

-- what contracts see
abbrev pub desk_view : Inside → DeskView
desk_view d = record {
  declared = record {
    specs = map spec_by d.roster.users;
    funcs = d.roster.funcs;
    tasks = length d.pids.pids;
    tramps = length d.slots;
  };
  state = record { users = map state_of d.roster.users; pids = d.pids.pids; nopids = d.pids.nopids; depth = d.depth };
  copies = map (λ x. digit x.second) d.roster.users;
  order = map (λ v. v.0) d.order.items;
  commands = d.commands;
  plan = plain_plan d.plan;
}

-- each slot is held by the registered user that has it
pub record AreSlots (users : List User) (slots : Holders) : Type 0 where
  pub held : (u s : ℕ) → u < length users → (user_of users u).registered ≡ true → (user_of users u).slot ≡ Some s → holder_of slots s ≡ Some (user_no u)
  pub holds : (v : UserNo) (s : ℕ) → holder_of slots s ≡ Some v
      → (v.0 < length users) × ((user_of users v.0).registered ≡ true) × ((user_of users v.0).slot ≡ Some s)

-- how often a user is in the list
abbrev pub times : ℕ → List UserNo → ℕ
times u order = length (filter (λ v. v.0 == u) order)

-- the list has each registered user once, and no others
pub record IsListed (users : List User) (order : List UserNo) : Type 0 where
  pub once : (u : ℕ) → u < length users → times u order ≡ digit (user_of users u).registered
  pub size : length order ≡ length (filter (λ (x : User). x.registered) users)

-- the parts fit together, and there is room for each plan
pub record DeskInvariant (d : Inside) : Type 0 where
  pub slots : AreSlots d.roster.users d.slots
  pub listed : IsListed d.roster.users d.order.items
  pub list_room : length d.roster.users ≤ vec_capacity d.order
  pub site_room : d.roster.funcs ≤ vec_capacity d.plan.sites
  pub lists : length d.pids.nopids ≡ length d.pids.pids
  pub numbers : (u : ℕ) → u < length d.roster.users → (user_of d.roster.users u).reg ≤ d.commands
