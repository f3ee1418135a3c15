-- What is open after some items: calls, and exits that are to come.
use Rattle.std.specs.Prelude.{◌≡◌, ◌<◌, ◌==◌, ◌&&◌, Bool, not, List, [], ◌∷◌, ◌++◌, length, if◌then◌else◌, vec_capacity}
use Rattle.std.specs.List.{filter}
use Rattle.ft_base.specs.declared.number.CallNo.{CallNo}
use Rattle.ft_base.specs.declared.number.UserNo.{UserNo}
use Rattle.ft_base.specs.declared.user.Kind.{Kind}
use Rattle.ft_base.specs.declared.item.Item.{Item}
use Rattle.ft_base.specs.declared.item.Item.TheVariants.{Enter, Back, Miss, Exit, Ret}
use Rattle.ft_base.specs.Desk.{spec_at}
use Rattle.ft_base.specs.Job.{Job}
use Rattle.ft_base.specs.Kinds.{cancels, wants_frame}
use Rattle.ft_base.specs.Same.{same_call}
use Rattle.told_items.specs.declared.told.Opened.{Opened}
use Rattle.told_items.specs.declared.told.Owed.{Owed}
use Rattle.told_items.specs.declared.told.Told.{Told}

-- an open call is this one
abbrev pub is_call : CallNo → Opened → Bool
is_call call opened = same_call opened.call call

-- an exit is owed to this call
abbrev pub is_owed_to : CallNo → Owed → Bool
is_owed_to call owed = same_call owed.call call

-- an exit of this user is owed to this call
abbrev pub is_owed_of : CallNo → UserNo → Owed → Bool
is_owed_of call u owed = same_call owed.call call && (owed.user.0 == u.0)

-- the calls that are open, the latest last
abbrev pub opened : List Item → List Opened
opened [] = []
opened (Enter call ctx f caller ∷ past) = opened past ++ (record { call = call; ctx = ctx; func = f } ∷ [])
opened (Ret call to ∷ past) = filter (λ o. not (is_call call o)) (opened past)
opened (_ ∷ past) = opened past

-- an entry callback of this kind sets up an exit that comes, if there is room
abbrev pub owes : Kind → Bool
owes kind = wants_frame kind && not (cancels kind)

-- The exits that are to come, the latest last: a user's entry callback owes one, until it misses it, or it comes, or its call returns
abbrev pub owed : Job → List Item → List Owed
owed job [] = []
owed job (Back call u ∷ past) = if owes (spec_at job u.0).kind then owed job past ++ (record { call = call; user = u; place = length past } ∷ []) else owed job past
owed job (Miss call u ∷ past) = filter (λ o. not (is_owed_of call u o)) (owed job past)
owed job (Exit call u entry ∷ past) = filter (λ o. not (is_owed_of call u o)) (owed job past)
owed job (Ret call to ∷ past) = filter (λ o. not (is_owed_to call o)) (owed job past)
owed job (_ ∷ past) = owed job past

-- what is open after these items of a job, the latest first
pub record IsTold (job : Job) (past : List Item) (told : Told) : Type 0 where
  pub calls : told.calls.items ≡ opened past
  pub exits : told.exits.items ≡ owed job past
  pub place' : told.place ≡ length past

-- there is room for what one more item may open
pub record HasRoom (told : Told) : Type 0 where
  pub calls : length told.calls.items < vec_capacity told.calls
  pub exits : length told.exits.items < vec_capacity told.exits
