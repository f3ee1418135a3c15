-- The profile of a user: how often it was called back in calls of each function, and the time of those calls (ftrace.rst, The File
-- System: function_profile_enabled). What is told at a place takes the items before it, the latest first: its past.
use Rattle.std.specs.Prelude.{ℕ, ◌≡◌, ◌+◌, ◌-◌, ◌<◌, Bool, ◌&&◌, ◌==◌, nat_lt, List, [], ◌∷◌, ◌++◌, map, length, reverse, filter, if◌then◌else◌, IsSomeAnd}
use Rattle.std.specs.List.{range_with_len}
use Rattle.ft_base.specs.declared.number.CallNo.{CallNo}
use Rattle.ft_base.specs.declared.number.UserNo.{UserNo}
use Rattle.ft_base.specs.declared.item.Item.{Item}
use Rattle.ft_base.specs.declared.item.Item.TheVariants.{Back, Exit}
use Rattle.ft_hist.specs.Past.{entered, entry_of}
use Rattle.func_profile.specs.declared.profile.ProfileRow.{ProfileRow}

-- whether a callback of user `v` in the call is one of user `u` in a call of function `f`
abbrev pub is_counted : ℕ → ℕ → ℕ → CallNo → List Item → Bool
is_counted u f v call past = (v == u) && ((entry_of call past).func == f)

-- how often the user was called back in calls of the function
abbrev pub hits_of : ℕ → List Item → ℕ → ℕ
hits_of u [] f = 0
hits_of u (Back call v ∷ past) f = (if is_counted u f v.0 call past then 1 else 0) + hits_of u past f
hits_of u (_ ∷ past) f = hits_of u past f

-- the time between its callbacks at the entry of those calls and at their exit, with the calls within them; an item's time is its place
abbrev pub time_of : ℕ → List Item → ℕ → ℕ
time_of u [] f = 0
time_of u (Exit call v entry ∷ past) f = (if is_counted u f v.0 call past then length past - entry else 0) + time_of u past f
time_of u (_ ∷ past) f = time_of u past f

-- the row of a function
abbrev pub row_of : ℕ → List Item → ℕ → ProfileRow
row_of u past f = record { func = record { 0 = f }; hits = hits_of u past f; time = time_of u past f }

-- whether a row has a hit
abbrev pub has_hit : ProfileRow → Bool
has_hit row = nat_lt 0 row.hits

-- the rows of the functions with a hit, by number
abbrev pub rows_of : List Item → ℕ → ℕ → List ProfileRow
rows_of items u funcs = filter has_hit (map (row_of u (reverse items)) (range_with_len 0 funcs))

-- the call was entered, in one of the first functions
abbrev pub IsEntered : ℕ → CallNo → List Item → Type 0
IsEntered funcs call past = IsSomeAnd (entered call past) (λ e. e.func < funcs)

-- each callback is in a call that was entered before, in one of the first functions, and an exit comes after its entry callback
pub record HasRows (funcs : ℕ) (items : List Item) : Type 0 where
  pub backs : (before after : List Item) (call : CallNo) (user : UserNo) → items ≡ before ++ Back call user ∷ after → IsEntered funcs call (reverse before)
  pub exits : (before after : List Item) (call : CallNo) (user : UserNo) (entry : ℕ) → items ≡ before ++ Exit call user entry ∷ after
      → IsEntered funcs call (reverse before) × (entry < length before)
