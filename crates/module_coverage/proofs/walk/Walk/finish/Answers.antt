use Rattle.std.proofs.Common.{◌≡◌, ◌∙◌, ◌++◌, ℕ, List, [], map, sym, ap, subst, arith}
use Rattle.std.specs.Prelude.{◌↔◌, Contains}
use Rattle.module_coverage.specs.declared.span.Span.{Span}
use Rattle.module_coverage.specs.declared.span.Entered.{Entered}
use Rattle.module_coverage.specs.Spans.{waits_in, commands_to}
use Rattle.module_coverage.specs.Walks.{span_to, Finds}
use Rattle.module_coverage.proofs.Steps.{end-step}
use Rattle.module_coverage.proofs.walk.Walk.finish.Goals as goal

pub returns : goal.returns
returns c = λ leads s.
    let control = c.args.control.now in
    let task = c.args.task in
    let number = c.args.number in
    let walk = c.args.self in
    let place = c.until-place.ensures in
    let end : commands_to task number 0 (waits_in control) ≡ c.until-place.result.commands = leads number (omega arith) ∙ place.passes number (omega arith) ∙ place.stops in
    let all : c.extend_from_slice.new.self.items ≡ walk.spans.items ++ map (span_to (commands_to task number 0 (waits_in control))) walk.entered.items =
    c.in_ok-extend_from_slice.ensures.items
    ∙ ap (λ (xs : List Span). walk.spans.items ++ xs) (c.as_slice-2.ensures.value ∙ c.in_ok-entered.ensures ∙ ap (λ (xs : List Entered). map (span_to c.until-place.result.commands) xs) c.as_slice.ensures.value ∙ ap (λ (n : ℕ). map (span_to n) walk.entered.items) (sym end)) in
    subst (λ (spans : List Span). Contains spans s ↔ Finds control task number walk [] s) (sym all)
    (end-step control task number walk.from walk.entered.items s walk.spans.items)
