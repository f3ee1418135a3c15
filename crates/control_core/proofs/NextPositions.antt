-- Where control goes on by the plan of the command under way: for each step the machine's next position, by the plan alone.
use Rattle.std.proofs.Common.{◌≡◌, ℕ, true, List, Option, Some, None, refl, sym, ap}
use Rattle.ft_base.specs.declared.number.UserNo.{UserNo}
use Rattle.ft_base.specs.Job.{Job}
use Rattle.word_map.specs.Words.{at_put}
use Rattle.ft_desk.specs.declared.plan.TrampChange.TheVariants.{Set}
use Rattle.ft_desk.specs.declared.plan.ListChange.TheVariants.{Keep, Push, Unlink}
use Rattle.word_machine.specs.Commands.{Effect, Adds, Removes, Edits, Lists, Levels, Nothing, effect, subject}
use Rattle.word_machine.specs.Control.{Ask, Tasks, batch_first, copy_after, copy_from, relinked, selected_in}
use Rattle.control_core.specs.Followed.{is_of_user, order_followed, patches, plan_followed}
use Rattle.control_core.specs.Positions.{listed_by, moving_by, plan_at, quiet_by, stored_by}
use Rattle.control_core.proofs.Copies.{put-own}
use Rattle.control_core.proofs.PositionsBatch.{batch-goes}
use Rattle.control_core.proofs.PositionsEffects.{depth-levels, pids-lists, push-adds, sel-of_user, set-adds, unlink-removes}

module _ (job : Job) (d : ℕ) (copies : ℕ → ℕ) (order : List ℕ) where
  -- after the trampoline is taken
  pub take-goes : (slot reg : ℕ) → (plan_at job d copies order).tramp ≡ Set slot reg
      → copy_from job 0 0 ≡ stored_by job (plan_at job d copies order)
  take-goes slot reg is =
      let adds = set-adds job d copies order (effect job d) slot reg is in
      ap (λ (e : Effect). stored_by job (plan_followed job d copies order e)) (sym adds)

  -- after the user's state
  select-goes_by : (e : Effect) → effect job d ≡ e → is_of_user e ≡ true → selected_in job d e ≡ listed_by (plan_followed job d copies order e)
  select-goes_by Edits is may = batch-goes job d copies order Edits is refl
  select-goes_by Lists is may = absurd cc
  select-goes_by Levels is may = absurd cc
  select-goes_by Nothing is may = absurd cc
  select-goes_by _ is may = refl

  pub select-goes : (x : ℕ) → (plan_at job d copies order).sel ≡ Some x
      → selected_in job d (effect job d) ≡ listed_by (plan_at job d copies order)
  select-goes x is = select-goes_by (effect job d) refl (sel-of_user job d copies order (effect job d) x is)

  -- after a change of the list
  pub push-goes : (first : Option UserNo) → (plan_at job d copies order).list ≡ Push first
      → batch_first job d ≡ moving_by (plan_at job d copies order) 0
  push-goes first is =
      let adds = push-adds job d copies order (effect job d) first is in
      batch-goes job d copies order (effect job d) refl (ap patches adds)

  pub unlink-goes : (before after : Option UserNo) → (plan_at job d copies order).list ≡ Unlink before after
      → batch_first job d ≡ moving_by (plan_at job d copies order) 0
  unlink-goes before after is =
      let removes = unlink-removes job d copies order (effect job d) before after is in
      batch-goes job d copies order (effect job d) refl (ap patches removes)

  -- after the traced tasks, and after the graph depth
  pub pids-goes : (x : ℕ) → (plan_at job d copies order).pids ≡ Some x
      → Ask Tasks ≡ quiet_by (plan_at job d copies order)
  pids-goes x is =
      let lists = pids-lists job d copies order (effect job d) x is in
      ap (λ (e : Effect). quiet_by (plan_followed job d copies order e)) (sym lists)

  pub depth-goes : (x : ℕ) → (plan_at job d copies order).depth ≡ Some x
      → Ask Tasks ≡ quiet_by (plan_at job d copies order)
  depth-goes x is =
      let levels = depth-levels job d copies order (effect job d) x is in
      ap (λ (e : Effect). quiet_by (plan_followed job d copies order e)) (sym levels)

  -- ## the list of users

  -- it is stored as it is after the command
  pub push-order : (first : Option UserNo) (users : List ℕ) → (plan_at job d copies order).list ≡ Push first
      → relinked (effect job d) (subject job d) users ≡ order_followed (subject job d) users (effect job d)
  push-order first users is =
      let adds = push-adds job d copies order (effect job d) first is in rw adds refl

  pub unlink-order : (before after : Option UserNo) (users : List ℕ)
      → (plan_at job d copies order).list ≡ Unlink before after
      → relinked (effect job d) (subject job d) users ≡ order_followed (subject job d) users (effect job d)
  unlink-order before after users is =
      let removes = unlink-removes job d copies order (effect job d) before after is in rw removes refl

  -- and a command without a change of it keeps it
  order-kept_by : (e : Effect) (users : List ℕ) → (plan_followed job d copies order e).list ≡ Keep
      → order_followed (subject job d) users e ≡ users
  order-kept_by Adds users is = absurd cc
  order-kept_by Removes users is = absurd cc
  order-kept_by _ users is = refl

  pub order-kept : (users : List ℕ) → (plan_at job d copies order).list ≡ Keep
      → order_followed (subject job d) users (effect job d) ≡ users
  order-kept users is = order-kept_by (effect job d) users is

  -- ## the copies of sets

  -- a command that stores no user's state keeps those that are in use
  copies-kept_by : (e : Effect) (u : ℕ) (uses : ℕ → ℕ) → (plan_followed job d copies order e).sel ≡ None
      → uses ≡ at_put uses u (copy_after e (uses u))
  copies-kept_by Lists u uses is = put-own uses u
  copies-kept_by Levels u uses is = put-own uses u
  copies-kept_by Nothing u uses is = put-own uses u
  copies-kept_by _ u uses is = absurd cc

  pub copies-kept : (uses : ℕ → ℕ) → (plan_at job d copies order).sel ≡ None
      → uses ≡ at_put uses (subject job d) (copy_after (effect job d) (uses (subject job d)))
  copies-kept uses is = copies-kept_by (effect job d) (subject job d) uses is
