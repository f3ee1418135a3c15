-- The next operation as its parts give it.
use Rattle.std.proofs.Common.{◌≡◌, ℕ, List, Option, Some, sym, ap, ◌∙◌, subst}
use Rattle.std.specs.Prelude.{option_map, slice_get}
use Rattle.std.proofs.lemmas.Option.{slice_get-map}
use Rattle.ft_base.specs.declared.number.UserNo.{UserNo}
use Rattle.ft_base.specs.Desk.{user_at}
use Rattle.filter_hash.specs.Pair.{Pair}
use Rattle.word_map.specs.Ops.{placed}
use Rattle.hash_pages.specs.Pages.{Page, page_next}
use Rattle.ft_desk.specs.declared.command.Ctl.{Ctl}
use Rattle.ft_desk.specs.Commands.{ctl_of}
use Rattle.ft_desk.specs.DeskView.{DeskView}
use Rattle.word_machine_laws.specs.Orders.{picked}
use Rattle.control_core.specs.declared.phase.Phase.{Phase}
use Rattle.control_core.specs.declared.phase.Phase.TheVariants as phase
use Rattle.control_core.specs.declared.control.Control.TheInside.{Inside}
use Rattle.control_core.specs.Seated.{Seated}
use Rattle.control_core.specs.ControlInvariant.{HasLeft, ControlInvariant, seated_of}
use Rattle.control_core.specs.Steps.{line_next, op_in, op_of, pair_at, write_next}

-- what a phase has
pub left-at : (d : Inside) (p : Phase) → ControlInvariant d → d.phase ≡ p → HasLeft (seated_of d) p
left-at d p k e = subst (HasLeft (seated_of d)) e k.safe.left

-- the operation of the phase is the next one
pub next-of : (d : Inside) (s : Seated) (p : Phase) → seated_of d ≡ s → d.phase ≡ p
    → option_map (placed d.map) (op_in (seated_of d) p) ≡ option_map (placed s.shape) (op_of s)
next-of d s p v e =
    ap (λ (q : Phase). option_map (placed d.map) (op_in (seated_of d) q)) (sym e)
    ∙ ap (λ (c : Seated). option_map (placed c.shape) (op_of c)) v

-- the present line
pub line-is : (d : Inside) (xs : List Ctl) (ks : List ℕ) → xs ≡ d.lines.items → ks ≡ d.order.items
    → option_map (placed d.map) (line_next d.commands_done (option_map (ctl_of d.map.tasks) (slice_get (picked xs ks) d.line)))
    ≡ option_map (placed d.map) (op_in (seated_of d) phase.Line)
line-is d xs ks lines order =
    ap (λ o. option_map (placed d.map) (line_next d.commands_done o))
    ((λ i. option_map (ctl_of d.map.tasks) (slice_get (picked (lines i) (order i)) d.line))
    ∙ sym (slice_get-map (ctl_of d.map.tasks) (picked d.lines.items d.order.items) d.line))

-- the page of the plan's user
pub write-is : (s : DeskView) (page : Page) (u : UserNo) (pair : Pair) (user : Option UserNo) → user ≡ s.plan.user → user ≡ Some u
    → pair.filter ≡ (user_at s.state u.0).filter → pair.notrace ≡ (user_at s.state u.0).notrace
    → page_next page pair ≡ write_next s.state page s.plan.user
write-is s page u pair user same some filter notrace =
    let pair-is : pair ≡ pair_at s.state u.0 = λ i. record { filter = filter i; notrace = notrace i } in
    ap (page_next page) pair-is ∙ ap (write_next s.state page) (sym some ∙ same)
