-- What the fields of a plan tell of the effect of its command.
use Rattle.std.proofs.Common.{◌≡◌, ◌≢◌, ℕ, suc, Bool, true, false, List, Option, Some, None, refl, ap, ◌∙◌}
use Rattle.ft_base.specs.declared.number.UserNo.{UserNo}
use Rattle.ft_base.specs.Job.{Job}
use Rattle.patch_core.specs.Moves.{Done, batch_next}
use Rattle.ft_desk.specs.declared.plan.TrampChange.TheVariants.{Keep as KeepTramp, Set, Clear}
use Rattle.ft_desk.specs.declared.plan.ListChange.TheVariants.{Push, Unlink}
use Rattle.ft_desk.specs.Plans.{given_by, taken_by, user_no}
use Rattle.word_machine.specs.Commands.{Effect, Adds, Removes, Lists, Levels, Nothing, changed, state_of, subject}
use Rattle.control_core.specs.Followed.{is_of_user, patches, plan_followed, sites_followed}
use Rattle.control_core.proofs.ChangedSites.{sites-found}

-- a slot that is given back is not taken, and the other way round
not-taken : (slot : Option ℕ) (reg s : ℕ) → taken_by slot reg KeepTramp ≡ Clear s → ⊥
not-taken None reg s e = cc
not-taken (Some t) reg s e = cc

not-given : (slot : Option ℕ) (s reg : ℕ) → given_by slot KeepTramp ≡ Set s reg → ⊥
not-given None s reg e = cc
not-given (Some t) s reg e = cc

module _ (job : Job) (d : ℕ) (copies : ℕ → ℕ) (order : List ℕ) where
  -- a trampoline is taken by a user that is added alone, and given back by one that is removed
  pub set-adds : (e : Effect) (slot reg : ℕ) → (plan_followed job d copies order e).tramp ≡ Set slot reg → e ≡ Adds
  set-adds Adds slot reg is = refl
  set-adds Removes slot reg is = absurd (not-given (state_of job d (subject job d)).slot slot reg is)
  set-adds _ slot reg is = absurd cc

  pub clear-removes : (e : Effect) (slot : ℕ) → (plan_followed job d copies order e).tramp ≡ Clear slot → e ≡ Removes
  clear-removes Adds slot is =
      let new = state_of job (suc d) (subject job d) in absurd (not-taken new.slot new.reg slot is)
  clear-removes Removes slot is = refl
  clear-removes _ slot is = absurd cc

  -- a user is put on the list if it is added, and taken off if it is removed
  pub push-adds : (e : Effect) (first : Option UserNo) → (plan_followed job d copies order e).list ≡ Push first → e ≡ Adds
  push-adds Adds first is = refl
  push-adds _ first is = absurd cc

  pub unlink-removes : (e : Effect) (before after : Option UserNo) → (plan_followed job d copies order e).list ≡ Unlink before after
      → e ≡ Removes
  unlink-removes Removes before after is = refl
  unlink-removes _ before after is = absurd cc

  -- the traced tasks and the graph depth are stored by commands for them
  pub pids-lists : (e : Effect) (x : ℕ) → (plan_followed job d copies order e).pids ≡ Some x → e ≡ Lists
  pids-lists Lists x is = refl
  pids-lists _ x is = absurd cc

  pub depth-levels : (e : Effect) (x : ℕ) → (plan_followed job d copies order e).depth ≡ Some x → e ≡ Levels
  depth-levels Levels x is = refl
  depth-levels _ x is = absurd cc

  -- a user's state is stored by a command of a user
  pub sel-of_user : (e : Effect) (x : ℕ) → (plan_followed job d copies order e).sel ≡ Some x → is_of_user e ≡ true
  sel-of_user Lists x is = absurd cc
  sel-of_user Levels x is = absurd cc
  sel-of_user Nothing x is = absurd cc
  sel-of_user _ x is = refl

  -- a plan with a move is of a command that may change sites
  patched-by : (b : Bool) (i : ℕ) → batch_next (sites_followed job d b) i ≢ Done → b ≡ true
  patched-by true i some = refl
  patched-by false i some = absurd (some refl)

  pub sites-patch : (e : Effect) (i : ℕ) → batch_next (plan_followed job d copies order e).sites i ≢ Done → patches e ≡ true
  sites-patch e i some = patched-by (patches e) i some

  -- and those are the machine's
  pub sites-are : (e : Effect) → patches e ≡ true → (plan_followed job d copies order e).sites ≡ changed job d
  sites-are e is = ap (λ (b : Bool). sites_followed job d b) is ∙ sites-found job d

  -- ## which fields come together

  -- a user, and its state
  pub user-there : (e : Effect) → is_of_user e ≡ true → (plan_followed job d copies order e).user ≡ Some (user_no (subject job d))
  user-there e is = rw is refl

  pub sel-user : (e : Effect) (x : ℕ) → (plan_followed job d copies order e).sel ≡ Some x
      → (plan_followed job d copies order e).user ≡ Some (user_no (subject job d))
  sel-user e x is = user-there e (sel-of_user e x is)

  pub set-user : (e : Effect) (slot reg : ℕ) → (plan_followed job d copies order e).tramp ≡ Set slot reg
      → (plan_followed job d copies order e).user ≡ Some (user_no (subject job d))
  set-user e slot reg is = user-there e (ap is_of_user (set-adds e slot reg is))

  pub push-user : (e : Effect) (first : Option UserNo) → (plan_followed job d copies order e).list ≡ Push first
      → (plan_followed job d copies order e).user ≡ Some (user_no (subject job d))
  push-user e first is = user-there e (ap is_of_user (push-adds e first is))

  -- without a user there is no state, and without a state no sets
  pub no-sel : (e : Effect) → (plan_followed job d copies order e).user ≡ None → (plan_followed job d copies order e).sel ≡ None
  no-sel Lists none = refl
  no-sel Levels none = refl
  no-sel Nothing none = refl
  no-sel _ none = absurd cc

  pub no-pair : (e : Effect) → (plan_followed job d copies order e).sel ≡ None → (plan_followed job d copies order e).pair ≡ false
  no-pair Lists none = refl
  no-pair Levels none = refl
  no-pair Nothing none = refl
  no-pair _ none = absurd cc
