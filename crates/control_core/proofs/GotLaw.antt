-- Control after its operation is the word machine's: from the user's state on.
use Rattle.std.proofs.Common.{cond, ◌≡◌, ℕ, suc, ◌+◌, ◌*◌, ◌<◌, ◌≤◌, true, false, List, Some, refl, sym, ap, ap₂, ◌∙◌, subst, arith, inl, inr}
use Rattle.std.specs.Prelude.{is_some}
use Rattle.std.proofs.lemmas.Bool.{cases_lt}
use Rattle.std.proofs.lemmas.Option.{slice_get-get_or}
use Rattle.ft_base.specs.declared.number.UserNo.{UserNo}
use Rattle.ft_base.specs.Job.{Job}
use Rattle.ft_base.specs.Desk.{Desk}
use Rattle.control_core.specs.Phases.{quiet_to}
use Rattle.word_map.specs.declared.shape.Shape.{Shape}
use Rattle.word_map.specs.Words.{Word, Clock}
use Rattle.word_map.specs.Places.{words_for}
use Rattle.word_map.specs.Ops.{Load}
use Rattle.hash_pages.specs.Pages.{Page, page_stores}
use Rattle.hash_pages.proofs.PageLaws.{count-stores, none_after}
use Rattle.ops_list.specs.Links.{Linked, link_after}
use Rattle.ops_list.specs.declared.linker.LinkPhase.{LinkPhase}
use Rattle.ops_list.specs.declared.linker.LinkPhase.TheVariants.{Linking as LinkingUser, Heading, Unlinking, Ended as LinkEnded}
use Rattle.patch_core.specs.Moves.{Move, Put, batch_next}
use Rattle.ft_desk.specs.declared.plan.TrampChange.TheVariants.{Set}
use Rattle.ft_desk.specs.Plans.{PlainPlan}
use Rattle.word_machine.specs.Commands.{effect, set_words, subject}
use Rattle.word_machine.specs.Control.{Control, Ask, Tasks, Position, Relink, Select, batch_first, got_in, relinked}
use Rattle.word_machine.specs.Values.{copies_in}
use Rattle.control_core.specs.declared.phase.Phase.{Phase}
use Rattle.control_core.specs.declared.phase.Phase.TheVariants as phase
use Rattle.control_core.specs.Positions.{linking_at, listed_by, moves_left, moving_by, moving_to, plan_at, quiet_by, stored_by, writing_at}
use Rattle.control_core.specs.Seated.{Seated, IsFor, IsLinkOf, IsPageOf, IsUnder, control_in, position_of}
use Rattle.control_core.specs.ControlInvariant.{HasLeft, IsSafe}
use Rattle.control_core.specs.Steps.{at_phase, linked, listed, moved, page_after, pair_at, stepped_in, write_next, wrote}
use Rattle.control_core.proofs.Leads.{Leads, Went, batch-leads, lead-to, list-leads, machine_at, quiet-leads, store-leads}
use Rattle.control_core.proofs.PositionsBatch.{batch-goes_on}
use Rattle.control_core.proofs.NextPositions.{push-goes, push-order, select-goes, take-goes, unlink-goes, unlink-order}
use Rattle.control_core.proofs.PositionsWriting.{writing-got, writing-state}
use Rattle.control_core.proofs.Under.{base-of, copies-is, order-is, plan-is}

-- the same control of the word machine
pub went : (job : Job) (c : Seated) (s t : Control) → Went job c s → s ≡ t → Went job c t
went job c s t w e = record { is_for = w.is_for; control = w.control ∙ e }

-- the control that another one is
pub same-seat : (job : Job) (c d : Seated) (s : Control) → c ≡ d → Went job c s → Went job d s
same-seat job c d s e w = subst (λ x. Went job x s) e w

-- a page has a store where there is one left
has-store : (page : Page) (state : Desk) (u : UserNo) → page.stored ≤ 2 * words_for page.shape.funcs
    → is_some (write_next state page (Some u)) ≡ true
has-store page state u le =
    let pair = pair_at state u.0 in
    let count = count-stores page pair in
    ap is_some (slice_get-get_or (page_stores page pair) page.stored (Load Clock) (omega (arith, count, le)))

no-store : (page : Page) (state : Desk) (u : UserNo) → 2 * words_for page.shape.funcs < page.stored
    → is_some (write_next state page (Some u)) ≡ false
no-store page state u lt = ap is_some (none_after page (pair_at state u.0) page.stored lt)

module _ (job : Job) (c : Seated) (safe : IsSafe c) (is : IsFor job c) (u : IsUnder job c) (v : ℕ) where
  abbrev plan : PlainPlan
  plan = plan_at job c.commands_done (copies_in c.before.copies) c.before.order

  pub at-plan : c.desk.plan ≡ plan
  at-plan = plan-is job c (base-of job c safe is) u

  -- the machine's control in a phase goes on here
  abbrev pub Goes : Phase → Type 0
  Goes p = Went job (stepped_in c p v) (got_in job (control_in c p) (position_of c p) v)

  -- the user takes its trampoline
  pub taking : (slot reg : ℕ) → c.made ≡ 0 → c.desk.plan.tramp ≡ Set slot reg → Goes phase.Taking
  taking slot reg none e =
      went job _ _ _ (lead-to job c c.made c.request _ _ _ _ is u (store-leads job c (base-of job c safe is) u none))
      (ap (λ (at' : Position). machine_at c at' (copies_in c.before.copies) c.before.order)
      (ap (stored_by job) at-plan
      ∙ sym (take-goes job c.commands_done (copies_in c.before.copies) c.before.order slot reg (sym (ap (λ (p : PlainPlan). p.tramp) at-plan) ∙ e))))

  -- the user's state is stored
  pub listing : (x : ℕ) → c.made ≡ 0 → c.desk.plan.sel ≡ Some x
      → Went job (listed c) (got_in job (machine_at c Select (copies_in c.before.copies) c.before.order) Select v)
  listing x none e =
      went job _ _ _ (lead-to job c c.made c.request _ _ _ _ is u (list-leads job c (base-of job c safe is) u none))
      (ap₂ (λ (at' : Position) (copies : ℕ → ℕ). machine_at c at' copies c.before.order)
      (ap listed_by at-plan
      ∙ sym (select-goes job c.commands_done (copies_in c.before.copies) c.before.order x (sym (ap (λ (p : PlainPlan). p.sel) at-plan) ∙ e)))
      (copies-is job c (base-of job c safe is) u))

  -- a word of the user's sets is stored, or its state
  pub writing : (page : Page) → HasLeft c (phase.Writing page) → c.made ≡ 0 → IsPageOf c page → Goes (phase.Writing page)
  writing page left none of =
      let words : words_for page.shape.funcs ≡ words_for c.shape.funcs = ap (λ (s : Shape). words_for s.funcs) left.0 in
      let many : words_for c.shape.funcs ≡ set_words job = ap (λ (s : Shape). words_for s.funcs) is.shape in
      let bound = left.1 in
      elim (cases_lt page.stored (set_words job + set_words job)) [
        | inl lt ↦ (
            let store = ap (λ o. is_some (write_next c.desk.state (page_after page) o)) of.user
            ∙ has-store (page_after page) c.desk.state _ (omega (arith, lt, words, many)) in
            let seat : at_phase c (phase.Writing (page_after page)) ≡ wrote c (page_after page) =
            ap (λ b. cond b (at_phase c (phase.Writing (page_after page))) (listed c)) (sym store) in
            let l : Leads job c (phase.Writing (page_after page)) (writing_at (words_for c.shape.funcs) (suc page.stored)) (copies_in c.before.copies) c.before.order =
            record {
              stands = refl;
              copies_are = refl;
              order_is = refl;
              fits = (none, record { user = of.user; sel = of.sel; pair = of.pair; copy = of.copy });
              under = λ u. u;
            } in
            same-seat job _ _ _ seat
            (went job _ _ _ (lead-to job c c.made c.request _ _ _ _ is u l)
            (ap (λ n. machine_at c (writing_at n (suc page.stored)) (copies_in c.before.copies) c.before.order) many
            ∙ sym (writing-got job (control_in c (phase.Writing page)) v page.stored lt)
            ∙ ap (λ n. got_in job (control_in c (phase.Writing page)) (writing_at n page.stored) v) (sym many)))
            )
        | inr le ↦ (
            let store = ap (λ o. is_some (write_next c.desk.state (page_after page) o)) of.user
            ∙ no-store (page_after page) c.desk.state _ (omega (arith, le, words, many)) in
            let seat : listed c ≡ wrote c (page_after page) =
            ap (λ b. cond b (at_phase c (phase.Writing (page_after page))) (listed c)) (sym store) in
            let at-end : writing_at (words_for c.shape.funcs) page.stored ≡ Select = writing-state (words_for c.shape.funcs) page.stored (omega (arith, le, many)) in
            same-seat job _ _ _ seat
            (went job _ _ _ (listing page.sel none of.sel)
            (ap (λ (at' : Position). got_in job (machine_at c at' (copies_in c.before.copies) c.before.order) at' v) (sym at-end)))
            )
      ]

  -- a word of the list is stored
  relinking : (linker : Linked) → c.made ≡ 0
      → batch_first job c.commands_done ≡ moving_by plan 0
      → relinked (effect job c.commands_done) (subject job c.commands_done) c.before.order ≡ c.desk.order
      → Went job (moved c c.made) (record (control_in c (phase.Linking linker)) {
        order = relinked (effect job c.commands_done) (subject job c.commands_done) c.before.order;
        position = batch_first job c.commands_done;
      })
  relinking linker none goes order =
      went job _ _ _ (lead-to job c c.made c.request _ _ _ _ is u (batch-leads job c))
      (ap₂ (λ (at' : Position) (users : List ℕ). machine_at c at' (copies_in c.desk.copies) users)
      (ap₂ moving_by at-plan none ∙ sym goes) (sym order))

  pub linking-by : (linker : Linked) (p : LinkPhase) → c.made ≡ 0 → IsLinkOf c.desk.plan p
      → Went job (linked c (record linker { phase = link_after p })) (got_in job (control_in c (phase.Linking linker)) (linking_at p) v)
  linking-by linker (LinkingUser w first) none of =
      let l : Leads job c (phase.Linking (record linker { phase = Heading w })) Relink (copies_in c.desk.copies) c.before.order =
      record { stands = refl; copies_are = refl; order_is = refl; fits = (none, (first, of.0, of.1)); under = λ u. u } in
      lead-to job c c.made c.request _ _ _ _ is u l
  linking-by linker (Heading w) none of =
      let push = sym (ap (λ (p : PlainPlan). p.list) at-plan) ∙ of.1 in
      relinking linker none
      (push-goes job c.commands_done (copies_in c.before.copies) c.before.order of.0 push)
      (push-order job c.commands_done (copies_in c.before.copies) c.before.order of.0 c.before.order push ∙ sym (order-is job c (base-of job c safe is) u))
  linking-by linker (Unlinking before after) none of =
      let unlink = sym (ap (λ (p : PlainPlan). p.list) at-plan) ∙ of in
      relinking linker none
      (unlink-goes job c.commands_done (copies_in c.before.copies) c.before.order before after unlink)
      (unlink-order job c.commands_done (copies_in c.before.copies) c.before.order before after c.before.order unlink
      ∙ sym (order-is job c (base-of job c safe is) u))
  linking-by linker LinkEnded none of = absurd of

  -- the traced tasks or the graph depth are stored
  pub quieting : Ask Tasks ≡ quiet_by plan
      → Went job (at_phase c (quiet_to c.shape c.desk.plan c.request)) (machine_at c (Ask Tasks) (copies_in c.desk.copies) c.desk.order)
  quieting goes =
      went job _ _ _ (lead-to job c c.made c.request _ _ _ _ is u (quiet-leads job c))
      (ap (λ (at' : Position). machine_at c at' (copies_in c.desk.copies) c.desk.order) (ap quiet_by at-plan ∙ sym goes))

  -- a store of the batch
  pub patching : (w : Word) (x : ℕ) → batch_next c.desk.plan.sites c.made ≡ Put w x → Goes phase.Patching
  patching w x e =
      let goes = batch-goes_on job c.commands_done (copies_in c.before.copies) c.before.order c.desk.plan at-plan c.made (λ none. cc) (suc c.made) in
      went job _ _ _ (lead-to job c (suc c.made) c.request _ _ _ _ is u (batch-leads job (record c { made = suc c.made })))
      (ap (λ (at' : Position). machine_at c at' (copies_in c.desk.copies) c.desk.order) (sym goes)
      ∙ ap (λ (m : Move). got_in job (control_in c phase.Patching) (moving_to c.desk.plan (moves_left c.desk.plan (suc c.made)) m) v) (sym e))

  pub releasing : Goes phase.Releasing
  releasing = lead-to job c c.made c.request _ _ _ _ is u (record { stands = refl; copies_are = refl; order_is = refl; fits = tt; under = λ u. u })
