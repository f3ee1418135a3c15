-- The stores of a plan that no stepper makes, and those of its page and its list: they are the word machine's.
use Rattle.std.proofs.Common.{◌≡◌, ℕ, suc, ◌<◌, Bool, true, false, List, Option, Some, None, refl, sym, ap, ap₂, ◌∙◌, arith}
use Rattle.ft_base.specs.declared.number.UserNo.{UserNo}
use Rattle.ft_base.specs.Job.{Job}
use Rattle.word_map.specs.Words.{Pids, Depth, Tramp, Sel}
use Rattle.word_map.specs.Contents.{other_copy, sel_copy, sel_of, sel_word, tramp_word}
use Rattle.word_map.specs.Ops.{Store}
use Rattle.ops_list.specs.declared.linker.LinkPhase.TheVariants.{Linking, Heading, Unlinking}
use Rattle.ops_list.specs.Links.{link_op}
use Rattle.ft_desk.specs.declared.plan.TrampChange.TheVariants.{Keep as KeepTramp, Set, Clear}
use Rattle.ft_desk.specs.declared.plan.ListChange.TheVariants.{Push, Unlink}
use Rattle.ft_desk.specs.Plans.{first_of, given_by, taken_by, user_after, user_before, user_no}
use Rattle.word_machine.specs.Commands.{Effect, Adds, Removes, Edits, effect, state_of, subject}
use Rattle.word_machine.specs.Control.{Control, Take, Select, Push as PushAt, Relink, StorePids, StoreDepth, Release, copy_after, next_in, relink_op, slot_of}
use Rattle.control_core.specs.Followed.{depth_followed, is_of_user, list_followed, pids_followed, stored_if, tramp_followed, writes_sets}
use Rattle.control_core.specs.Positions.{plan_at}
use Rattle.control_core.proofs.PositionsEffects.{clear-removes, depth-levels, pids-lists, push-adds, set-adds, unlink-removes}
use Rattle.control_core.proofs.PositionsLists.{link-is, unlink-is}

-- ## what a change says

-- something that is stored is what was to be stored
stored-is : {A : Type 0} (b : Bool) (x y : A) → stored_if b x ≡ Some y → x ≡ y
stored-is true x y e = cc
stored-is false x y e = absurd cc

slot-taken : (o : Option ℕ) (r slot reg : ℕ) → taken_by o r KeepTramp ≡ Set slot reg → (slot_of o ≡ slot) × (r ≡ reg)
slot-taken None r slot reg e = absurd cc
slot-taken (Some s) r slot reg e = (cc, cc)

slot-given : (o : Option ℕ) (slot : ℕ) → given_by o KeepTramp ≡ Clear slot → slot_of o ≡ slot
slot-given None slot e = absurd cc
slot-given (Some s) slot e = cc

first-pushed : (a b : Option UserNo) → Push a ≡ Push b → a ≡ b
first-pushed a b e = cc

ends-unlinked : (a b c d : Option UserNo) → Unlink a b ≡ Unlink c d → (a ≡ c) × (b ≡ d)
ends-unlinked a b c d e = (cc, cc)

-- the copy that a user's state names
pub sel_copy-is : (reg copy : ℕ) (r e b : Bool) → copy < 2 → sel_copy (sel_word reg r e copy b) ≡ copy
sel_copy-is reg copy true true true h = omega arith
sel_copy-is reg copy true true false h = omega arith
sel_copy-is reg copy true false true h = omega arith
sel_copy-is reg copy true false false h = omega arith
sel_copy-is reg copy false true true h = omega arith
sel_copy-is reg copy false true false h = omega arith
sel_copy-is reg copy false false true h = omega arith
sel_copy-is reg copy false false false h = omega arith

-- a plan that writes sets writes them into the copy that is not in use
copy-written : (e : Effect) (copy : ℕ) → writes_sets e ≡ true → copy_after e copy ≡ other_copy copy
copy-written Adds copy is = refl
copy-written Edits copy is = refl
copy-written Removes copy is = absurd cc
copy-written _ copy is = absurd cc

-- ## by the plan of a command

module _ (job : Job) (d : ℕ) (copies : ℕ → ℕ) (order : List ℕ) where
  -- the user of a plan, and its state
  pub user-is : (user : UserNo) → (plan_at job d copies order).user ≡ Some user → user_no (subject job d) ≡ user
  user-is user e = stored-is (is_of_user (effect job d)) (user_no (subject job d)) user e

  pub sel-is : (x : ℕ) → (plan_at job d copies order).sel ≡ Some x
      → sel_of (state_of job (suc d) (subject job d)) (copy_after (effect job d) (copies (subject job d))) ≡ x
  sel-is x e = stored-is (is_of_user (effect job d)) _ x e

  -- the copy that the new state names is not in use
  pub copy-is : (x : ℕ) → (plan_at job d copies order).sel ≡ Some x
      → (plan_at job d copies order).pair ≡ true → sel_copy x ≡ other_copy (copies (subject job d))
  copy-is x e pair =
      let is = copy-written (effect job d) (copies (subject job d)) pair in
      ap sel_copy (sym (sel-is x e))
      ∙ sel_copy-is _ (copy_after (effect job d) (copies (subject job d))) _ _ _ (omega (arith, is))
      ∙ is

module _ (job : Job) (s : Control) where
  module _ (copies : ℕ → ℕ) (order : List ℕ) where
    -- the trampoline's word
    pub take-op : (slot reg : ℕ) → (plan_at job s.commands_done copies order).tramp ≡ Set slot reg
        → next_in job s Take ≡ Some (Store (Tramp slot) (tramp_word reg (subject job s.commands_done)))
    take-op slot reg is =
        let adds = set-adds job s.commands_done copies order (effect job s.commands_done) slot reg is in
        let new = state_of job (suc s.commands_done) (subject job s.commands_done) in
        let said = slot-taken new.slot new.reg slot reg (sym (ap (tramp_followed job s.commands_done) adds) ∙ is) in
        ap₂ (λ t r. Some (Store (Tramp t) (tramp_word r (subject job s.commands_done)))) said.0 said.1

    pub release-op : (slot : ℕ) → (plan_at job s.commands_done copies order).tramp ≡ Clear slot
        → next_in job s Release ≡ Some (Store (Tramp slot) 0)
    release-op slot is =
        let removes = clear-removes job s.commands_done copies order (effect job s.commands_done) slot is in
        let old = state_of job s.commands_done (subject job s.commands_done) in
        ap (λ t. Some (Store (Tramp t) 0)) (slot-given old.slot slot (sym (ap (tramp_followed job s.commands_done) removes) ∙ is))

    -- the traced tasks, and the graph depth
    pub pids-op : (x : ℕ) → (plan_at job s.commands_done copies order).pids ≡ Some x
        → next_in job s StorePids ≡ Some (Store Pids x)
    pids-op x is =
        let lists = pids-lists job s.commands_done copies order (effect job s.commands_done) x is in
        ap (λ v. Some (Store Pids v)) (stored-is true _ x (sym (ap (pids_followed job s.commands_done) lists) ∙ is))

    pub depth-op : (x : ℕ) → (plan_at job s.commands_done copies order).depth ≡ Some x
        → next_in job s StoreDepth ≡ Some (Store Depth x)
    depth-op x is =
        let levels = depth-levels job s.commands_done copies order (effect job s.commands_done) x is in
        ap (λ v. Some (Store Depth v)) (stored-is true _ x (sym (ap (depth_followed job s.commands_done) levels) ∙ is))

    -- the head of the list, after the link of a new user
    pub head-op : (first : Option UserNo) → (plan_at job s.commands_done copies order).list ≡ Push first
        → next_in job s Relink ≡ link_op (Heading (user_no (subject job s.commands_done)))
    head-op first is =
        let adds = push-adds job s.commands_done copies order (effect job s.commands_done) first is in
        ap (λ (e : Effect). Some (relink_op e (subject job s.commands_done) s.order)) adds

  -- the user's state, if the plan is of the copies that are in use
  pub select-op : (order : List ℕ) (x : ℕ) → (plan_at job s.commands_done s.copies order).sel ≡ Some x
      → next_in job s Select ≡ Some (Store (Sel (subject job s.commands_done)) x)
  select-op order x is = ap (λ v. Some (Store (Sel (subject job s.commands_done)) v)) (sel-is job s.commands_done s.copies order x is)

  -- the list, if the plan is of the users that are on it
  module _ (copies : ℕ → ℕ) where
    pub push-op : (first : Option UserNo)
        → (plan_at job s.commands_done copies s.order).list ≡ Push first
        → next_in job s PushAt ≡ link_op (Linking (user_no (subject job s.commands_done)) first)
    push-op first is =
        let u = subject job s.commands_done in
        let adds = push-adds job s.commands_done copies s.order (effect job s.commands_done) first is in
        let said = first-pushed (first_of s.order) first (sym (ap (list_followed u s.order) adds) ∙ is) in
        sym (link-is u s.order) ∙ ap (λ (o : Option UserNo). link_op (Linking (user_no u) o)) said

    pub unlink-op : (before after : Option UserNo)
        → (plan_at job s.commands_done copies s.order).list ≡ Unlink before after
        → next_in job s Relink ≡ link_op (Unlinking before after)
    unlink-op before after is =
        let u = subject job s.commands_done in
        let removes = unlink-removes job s.commands_done copies s.order (effect job s.commands_done) before after is in
        let said = ends-unlinked (user_before None u s.order) (user_after u s.order) before after
        (sym (ap (list_followed u s.order) removes) ∙ is) in
        ap (λ (e : Effect). Some (relink_op e u s.order)) removes
        ∙ sym (unlink-is u s.order)
        ∙ ap₂ (λ (a b : Option UserNo). link_op (Unlinking a b)) said.0 said.1
