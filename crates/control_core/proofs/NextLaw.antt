-- Control's next operation is the word machine's.
use Rattle.std.proofs.Common.{◌≡◌, ℕ, suc, Some, refl, sym, ap, ap₂, ◌∙◌, arith}
use Rattle.ft_base.specs.declared.item.Answer.{Answer}
use Rattle.ft_base.specs.declared.item.Item.TheVariants.{Return}
use Rattle.ft_base.specs.declared.number.UserNo.{UserNo}
use Rattle.ft_base.specs.Job.{Job, funcs}
use Rattle.ft_base.specs.Desk.{desk, user_at}
use Rattle.word_map.specs.declared.shape.Shape.{Shape}
use Rattle.word_map.specs.Places.{words_for}
use Rattle.word_map.specs.Words.{Word}
use Rattle.word_map.specs.Ops.{Mark}
use Rattle.hash_pages.specs.Pages.{Page}
use Rattle.ops_list.specs.Links.{Linked, link_op}
use Rattle.ops_list.specs.declared.linker.LinkPhase.{LinkPhase}
use Rattle.ops_list.specs.declared.linker.LinkPhase.TheVariants.{Linking as LinkingUser, Heading, Unlinking, Ended as LinkEnded}
use Rattle.patch_core.specs.Moves.{Move, Put, batch_next}
use Rattle.ft_desk.specs.declared.plan.TrampChange.TheVariants.{Set, Clear}
use Rattle.ft_desk.specs.Plans.{PlainPlan, user_no}
use Rattle.word_machine.specs.Commands.{effect, set_words, subject}
use Rattle.word_machine.specs.Control.{Cpus, Tasks, control_next, next_in}
use Rattle.word_machine.specs.Values.{copies_in}
use Rattle.control_core.specs.declared.phase.Phase.{Phase}
use Rattle.control_core.specs.declared.phase.Phase.TheVariants as phase
use Rattle.control_core.specs.Positions.{linking_at, moves_left, moving_to, plan_at, writing_at}
use Rattle.control_core.specs.Seated.{Seated, Fits, IsDeskOf, IsFor, IsLinkOf, IsPageOf, IsUnder, control_in, control_of, position_of}
use Rattle.control_core.specs.ControlInvariant.{HasLeft, IsSafe}
use Rattle.control_core.specs.Steps.{depth_next, op_in, op_of, pair_at, patch_next, pids_next, release_next, select_next, take_next, write_next}
use Rattle.control_core.proofs.PositionsEffects.{sel-user, set-user}
use Rattle.control_core.proofs.PositionsStores.{copy-is, depth-op, head-op, pids-op, push-op, release-op, sel-is, select-op, take-op, unlink-op, user-is}
use Rattle.control_core.proofs.PositionsWriting.{page-is-next}
use Rattle.control_core.proofs.Under.{answer-is, base-of, line-next, plan-is, state-is}
use Rattle.control_core.proofs.WaitLaw.{wait-op}

module _ (job : Job) (c : Seated) (safe : IsSafe c) (is : IsFor job c) where
  -- the plan of the job's command
  abbrev plan : PlainPlan
  plan = plan_at job c.commands_done (copies_in c.before.copies) c.before.order

  module _ (u : IsUnder job c) where
    at-plan : c.desk.plan ≡ plan
    at-plan = plan-is job c (base-of job c safe is) u

    taking : (slot reg : ℕ) → c.desk.plan.tramp ≡ Set slot reg → op_in c phase.Taking ≡ next_in job (control_in c phase.Taking) (position_of c phase.Taking)
    taking slot reg e =
        let set : plan.tramp ≡ Set slot reg = sym (ap (λ (p : PlainPlan). p.tramp) at-plan) ∙ e in
        ap₂ take_next
        (ap (λ (p : PlainPlan). p.user) at-plan
        ∙ set-user job c.commands_done (copies_in c.before.copies) c.before.order (effect job c.commands_done) slot reg set) e
        ∙ sym (take-op job (control_in c phase.Taking) (copies_in c.before.copies) c.before.order slot reg set)

    funcs-is : c.shape.funcs ≡ funcs job
    funcs-is = ap (λ (s : Shape). s.funcs) is.shape

    writing : (page : Page) → HasLeft c (phase.Writing page) → IsPageOf c page
        → op_in c (phase.Writing page) ≡ next_in job (control_in c (phase.Writing page)) (position_of c (phase.Writing page))
    writing page left of =
        let copies = copies_in c.before.copies in
        let user : plan.user ≡ Some (user_no page.user) = sym (ap (λ (p : PlainPlan). p.user) at-plan) ∙ of.user in
        let sel : plan.sel ≡ Some page.sel = sym (ap (λ (p : PlainPlan). p.sel) at-plan) ∙ of.sel in
        let number : page.user ≡ subject job c.commands_done =
        ap (λ (n : UserNo). n.0) (sym (user-is job c.commands_done copies c.before.order (user_no page.user) user)) in
        let sets : user_at c.desk.state page.user ≡ user_at (desk job (suc c.commands_done)) (subject job c.commands_done) =
        ap₂ user_at (state-is job c (base-of job c safe is) u) number in
        let many : words_for c.shape.funcs ≡ set_words job = ap words_for funcs-is in
        let words : words_for page.shape.funcs ≡ set_words job = ap (λ (s : Shape). words_for s.funcs) left.0 ∙ many in
        ap (write_next c.desk.state page) of.user
        ∙ page-is-next job page (pair_at c.desk.state page.user) (ap (λ (s : Shape). s.funcs) left.0 ∙ funcs-is)
        (control_in c (phase.Writing page)) (subject job c.commands_done) refl number
        (of.copy ∙ copy-is job c.commands_done copies c.before.order page.sel sel (sym (ap (λ (p : PlainPlan). p.pair) at-plan) ∙ of.pair))
        (sym (sel-is job c.commands_done copies c.before.order page.sel sel))
        (ap (λ s. s.filter) sets) (ap (λ s. s.notrace) sets) (let h = left.1 in omega (arith, h, words))
        ∙ ap (λ n. next_in job (control_in c (phase.Writing page)) (writing_at n page.stored)) (sym many)

    selecting : (x : ℕ) → c.desk.plan.sel ≡ Some x → op_in c phase.Selecting ≡ next_in job (control_in c phase.Selecting) (position_of c phase.Selecting)
    selecting x e =
        let sel : plan.sel ≡ Some x = sym (ap (λ (p : PlainPlan). p.sel) at-plan) ∙ e in
        ap₂ select_next
        (ap (λ (p : PlainPlan). p.user) at-plan
        ∙ sel-user job c.commands_done (copies_in c.before.copies) c.before.order (effect job c.commands_done) x sel) e
        ∙ sym (select-op job (control_in c phase.Selecting) c.before.order x sel)

    linking : (linker : Linked) (p : LinkPhase) → linker.phase ≡ p → IsLinkOf c.desk.plan p
        → link_op p ≡ next_in job (control_in c (phase.Linking linker)) (linking_at p)
    linking linker (LinkingUser v first) e of =
        let user = user-is job c.commands_done (copies_in c.before.copies) c.before.order v (sym (ap (λ (p : PlainPlan). p.user) at-plan) ∙ of.1) in
        ap (λ (w : UserNo). link_op (LinkingUser w first)) (sym user)
        ∙ sym (push-op job (control_in c (phase.Linking linker)) (copies_in c.before.copies) first
        (sym (ap (λ (p : PlainPlan). p.list) at-plan) ∙ of.0))
    linking linker (Heading v) e of =
        let user = user-is job c.commands_done (copies_in c.before.copies) c.before.order v (sym (ap (λ (p : PlainPlan). p.user) at-plan) ∙ of.2) in
        ap (λ (w : UserNo). link_op (Heading w)) (sym user)
        ∙ sym (head-op job (control_in c (phase.Linking linker)) (copies_in c.before.copies) c.before.order of.0
        (sym (ap (λ (p : PlainPlan). p.list) at-plan) ∙ of.1))
    linking linker (Unlinking before after) e of =
        sym (unlink-op job (control_in c (phase.Linking linker)) (copies_in c.before.copies) before after
        (sym (ap (λ (p : PlainPlan). p.list) at-plan) ∙ of))
    linking linker LinkEnded e of = absurd of

    pids : (x : ℕ) → c.desk.plan.pids ≡ Some x → op_in c phase.StoringPids ≡ next_in job (control_in c phase.StoringPids) (position_of c phase.StoringPids)
    pids x e =
        ap pids_next e
        ∙ sym (pids-op job (control_in c phase.StoringPids) (copies_in c.before.copies) c.before.order x (sym (ap (λ (p : PlainPlan). p.pids) at-plan) ∙ e))

    depth : (x : ℕ) → c.desk.plan.depth ≡ Some x
        → op_in c phase.StoringDepth ≡ next_in job (control_in c phase.StoringDepth) (position_of c phase.StoringDepth)
    depth x e =
        ap depth_next e
        ∙ sym (depth-op job (control_in c phase.StoringDepth) (copies_in c.before.copies) c.before.order x (sym (ap (λ (p : PlainPlan). p.depth) at-plan) ∙ e))

    patching : (w : Word) (x : ℕ) → batch_next c.desk.plan.sites c.made ≡ Put w x
        → op_in c phase.Patching ≡ next_in job (control_in c phase.Patching) (position_of c phase.Patching)
    patching w x e =
        ap patch_next e
        ∙ ap (λ (m : Move). next_in job (control_in c phase.Patching) (moving_to c.desk.plan (moves_left c.desk.plan (suc c.made)) m)) (sym e)

    releasing : (slot : ℕ) → c.desk.plan.tramp ≡ Clear slot
        → op_in c phase.Releasing ≡ next_in job (control_in c phase.Releasing) (position_of c phase.Releasing)
    releasing slot e =
        ap release_next e
        ∙ sym (release-op job (control_in c phase.Releasing) (copies_in c.before.copies) c.before.order slot
        (sym (ap (λ (p : PlainPlan). p.tramp) at-plan) ∙ e))

  -- in each phase
  next-in : (p : Phase) → IsDeskOf job c p → Fits c p → HasLeft c p → op_in c p ≡ next_in job (control_in c p) (position_of c p)
  next-in phase.Line u f h = line-next c.commands_done c.lines c.line
  next-in phase.Taking u f h = taking u f.1.0 f.1.1 f.1.2
  next-in (phase.Writing page) u f h = writing u page h f.1
  next-in phase.Selecting u f h = selecting u f.1.0 f.1.1
  next-in (phase.Linking linker) u f h = linking u linker linker.phase refl f.1
  next-in phase.StoringPids u f h = pids u f.0 f.1
  next-in phase.StoringDepth u f h = depth u f.0 f.1
  next-in phase.Patching u f h = patching u f.0 f.1 f.2
  next-in (phase.Syncing w) u f h = wait-op job c is (Cpus (moves_left c.desk.plan (suc c.made))) w f.1
  next-in (phase.Quieting w) u f h = wait-op job c is Tasks w f.1
  next-in phase.Releasing u f h = releasing u f.0 f.1
  next-in phase.Closing u f h = ap (λ (a : Answer). Some (Mark (Return (suc c.commands_done) a))) (answer-is job c (base-of job c safe is) u)

  -- the next operation
  pub next-law : op_of c ≡ control_next job (control_of c)
  unfolding control_next
  next-law = next-in c.phase is.now is.fits safe.left
