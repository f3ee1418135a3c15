-- The users of a desk as they are kept, and what they mean.
use Rattle.std.specs.Prelude.{ℕ, zero, suc, ◌+◌, ◌-◌, Bool, true, false, not, ◌&&◌, List, [], ◌∷◌, get_or, map, Option, None, is_some, if◌then◌else◌}
use Rattle.ft_base.specs.declared.item.Ran.{Ran}
use Rattle.ft_base.specs.declared.item.Ran.TheVariants.{Nop as RanNop, List as RanList, Own as RanOwn}
use Rattle.ft_base.specs.declared.number.FuncNo.{FuncNo}
use Rattle.ft_base.specs.declared.user.Kind.{Kind}
use Rattle.ft_base.specs.declared.user.Kind.TheVariants.{Function}
use Rattle.ft_base.specs.declared.user.Half.{Half}
use Rattle.ft_base.specs.Job.{Spec as PlainSpec, Edit}
use Rattle.user_specs.specs.declared.spec.Spec.{Spec}
use Rattle.ft_base.specs.Desk.{Desk, UserState, plain_spec, matches_by, edited}
use Rattle.filter_hash.specs.Pair.{Pair, empty_pair, size_of, set_of, with_set}
use Rattle.site_bytes.specs.declared.insn.Insn.{Insn}
use Rattle.site_bytes.specs.declared.insn.Insn.TheVariants.{Nop, List as CallList}
use Rattle.site_counts.specs.declared.rows.Row.{Row}
use Rattle.site_counts.specs.Rows.{one_if}
use Rattle.ft_desk.specs.declared.user.User.{User}
use Rattle.word_map.specs.Instructions.{insn_of_slot}

-- a user that was never registered, of this kind and with these flags
abbrev pub declared_user : ℕ → Kind → Bool → Option FuncNo → User
declared_user funcs kind regs ipmodify = record {
  kind = kind;
  regs = regs;
  ipmodify = ipmodify;
  registered = false;
  reg = 0;
  since = 0;
  enabled = false;
  pair = empty_pair funcs;
  slot = None;
  second = false;
}

-- the user of a declaration
abbrev pub declared_as : ℕ → Spec → User
declared_as funcs s = declared_user funcs s.kind s.regs s.ipmodify

-- what stands for the number of a user that there isn't
abbrev pub no_user : User
no_user = declared_user 0 Function false None

-- the user of a number
abbrev pub user_of : List User → ℕ → User
user_of users u = get_or users u no_user

-- its state on the desk
abbrev pub state_of : User → UserState
state_of x = record {
  registered = x.registered;
  reg = x.reg;
  since = x.since;
  enabled = x.enabled;
  filter = x.pair.filter;
  notrace = x.pair.notrace;
  slot = x.slot;
}

-- its declaration, as far as the desk needs it
abbrev pub spec_by : User → PlainSpec
spec_by x = record plain_spec { kind = x.kind; regs = x.regs; ipmodify = x.ipmodify }

-- the desk of these users, without lists and depth
abbrev pub desk_by : List User → Desk
desk_by users = record { users = map state_of users; pids = []; nopids = []; depth = 0 }

-- ## what commands make of a user

-- it is registered by a command of this number, with this slot, and its sets are in the other copy
abbrev pub enrolled : ℕ → Option ℕ → User → User
enrolled since slot x =
    record x { registered = true; reg = suc x.reg; since = since; enabled = true; slot = slot; second = not x.second }

-- it is unregistered
abbrev pub retired : User → User
retired x = record x { registered = false; slot = None }

-- the pair after an edit of one half
abbrev pub edited_pair : Half → Edit → Pair → Pair
edited_pair half edit pair = with_set pair half (edited (size_of pair) (set_of pair half) edit)

-- one of its sets is edited; if it is registered, its sets are in the other copy then
abbrev pub edited_user : Half → Edit → User → User
edited_user half edit x = record x {
  pair = edited_pair half edit x.pair;
  second = if x.registered then not x.second else x.second;
}

-- it is enabled, or disabled
abbrev pub switched : Bool → User → User
switched enabled x = record x { enabled = enabled }

-- ## the users at a function

-- the user is sited at the function: it is registered and matches it
abbrev pub is_at : ℕ → User → Bool
is_at f x = x.registered && matches_by x.pair.filter x.pair.notrace f

-- the sum over users, numbered from a first one on, of what each counts
abbrev pub sum_over : (ℕ → User → ℕ) → ℕ → List User → ℕ
sum_over counted from [] = 0
sum_over counted from (x ∷ rest) = counted from x + sum_over counted (suc from) rest

-- what a user counts at a function: 1, 1 if it gets the registers, 1 if it replaces the function, and its number from 1
abbrev pub one_at : ℕ → ℕ → User → ℕ
one_at f u x = one_if (is_at f x)

-- 1 for a user at the function that gets the registers
abbrev pub regs_at : ℕ → ℕ → User → ℕ
regs_at f u x = one_if (is_at f x && x.regs)

-- 1 for a user at the function that replaces functions
abbrev pub modifier_at : ℕ → ℕ → User → ℕ
modifier_at f u x = one_if (is_at f x && is_some x.ipmodify)

-- its number from 1 for a user at the function
abbrev pub number_at : ℕ → ℕ → User → ℕ
number_at f u x = if is_at f x then suc u else 0

-- the row of a function
abbrev pub row_by : List User → ℕ → Row
row_by users f = record {
  count = sum_over (one_at f) 0 users;
  regs = sum_over (regs_at f) 0 users;
  ipmodify = sum_over (modifier_at f) 0 users;
}

-- the total of the numbers, from 1, of the users that are sited at a function
abbrev pub total_by : List User → ℕ → ℕ
total_by users f = sum_over (number_at f) 0 users

-- the instruction of a site at which this many users are sited, with this total. If there is one, the total says which
abbrev pub insn_by : List User → ℕ → ℕ → Insn
insn_by users zero total = Nop
insn_by users (suc zero) total = insn_of_slot (user_of users (total - 1)).slot
insn_by users (suc (suc n)) total = CallList

-- what a call of a function runs at which this many users are sited, with this total. If there is one, the total says which
abbrev pub ran_by : List User → ℕ → ℕ → Ran
ran_by users zero total = RanNop
ran_by users (suc zero) total = if is_some (user_of users (total - 1)).slot then RanOwn (record { 0 = total - 1 }) else RanList
ran_by users (suc (suc n)) total = RanList
