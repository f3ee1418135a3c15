use Rattle.std.proofs.Common.{List, ℕ, subst, sym, ◌∙◌}
use Rattle.judge_app.specs.Cut.{IsCut, IsUncut}
use Rattle.fttell.specs.ToldText.{IsToldOf}
use Rattle.fttell.proofs.items.tell_items.Goals as goal

pub returns-in-Ok-cut_input : goal.returns-in-Ok-cut_input
returns-in-Ok-cut_input g c = λ answered.
    let parts = c.in-Ok-cut_input.parts in
    let cut = subst (λ (input : List ℕ). IsCut input parts.script.now parts.log.now parts.first) c.deref.ensures.value c.in-Ok-cut_input.ensures.some in
    let told = c.tell_parts.ensures c.in-Ok.input.items cut answered in
    (c.in-Ok.input.items, told.0, c.in-Ok.ensures.read.0, c.in-Ok.ensures.read.1, told.1, told.2)

pub returns : goal.returns
returns g c = λ answered.
    let next = c.in-Err-cut_input.field-0 in
    let uncut = subst (λ (input : List ℕ). IsUncut input next) (c.deref.ensures.value ∙ sym c.deref-in-Err-cut_input.ensures.value) c.in-Err-cut_input.ensures.none in
    let told = c.tell_replay.ensures next uncut answered in
    let is = subst (λ (input : List ℕ). IsToldOf input c.tell_replay.result.0 told.0) c.deref-in-Err-cut_input.ensures.value told.1 in
    (c.in-Ok.input.items, told.0, c.in-Ok.ensures.read.0, c.in-Ok.ensures.read.1, is, told.2)
