use Rattle.std.proofs.Common.{cond, ◌≡◌, true, set, ap, ap₂, sym, subst, ◌∙◌}
use Rattle.ft_base.specs.declared.item.Answer.TheVariants.{Already}
use Rattle.ft_base.specs.Desk.{is_accepted}
use Rattle.module_table.specs.Lines.{Between, Load, answer_to, hidden, clash}
use Rattle.module_table.specs.Made.{Appends}
use Rattle.module_table.specs.Reached.{IsReached, IsSafe, moved, moving}
use Rattle.module_table.proofs.MovedLaws.{safe-load}
use Rattle.module_table.proofs.BetweenLaws.{after-load, commands-load}
use Rattle.module_table.proofs.modules.Modules.load.Goals as goal

pub move_to-requires-clause-safe : goal.move_to-requires-clause-safe
move_to-requires-clause-safe c =
    let s = c.args.self.now in
    let is : IsReached s = subst IsReached c.self.view_is c.self.invariant.reached in
    let loaded : c.in_ok-loaded.loaded.items ≡ set s.loaded c.args.number true = c.in_ok-loaded.ensures ∙ ap (λ (x : Between). set x.loaded c.args.number true) c.self.view_is in
    let functions : c.in_ok-hidden.hidden ≡ hidden s.owners (set s.loaded c.args.number true) =
    c.in_ok-hidden.ensures ∙ ap₂ hidden (c.as_slice.ensures.value ∙ ap (λ (x : Between). x.owners) c.self.view_is) (c.as_slice-2.ensures.value ∙ loaded) in
    let free : is_accepted (clash s (hidden s.owners (set s.loaded c.args.number true))) ≡ true =
    sym (ap is_accepted (c.clash-answer.ensures ∙ ap (clash s) functions)) ∙ sym c.is_accepted.ensures ∙ c.if-not-is_accepted.false in
    subst (IsSafe s) (sym loaded) (safe-load s is c.args.number c.requires.number free)

pub returns-clause-added : goal.returns-clause-added
returns-clause-added c =
    let s = c.args.self.now in
    let is : IsReached s = subst IsReached c.self.view_is c.self.invariant.reached in
    let loaded : c.in_ok-loaded.loaded.items ≡ set s.loaded c.args.number true = c.in_ok-loaded.ensures ∙ ap (λ (x : Between). set x.loaded c.args.number true) c.self.view_is in
    let functions : c.in_ok-hidden.hidden ≡ hidden s.owners (set s.loaded c.args.number true) =
    c.in_ok-hidden.ensures ∙ ap₂ hidden (c.as_slice.ensures.value ∙ ap (λ (x : Between). x.owners) c.self.view_is) (c.as_slice-2.ensures.value ∙ loaded) in
    let free : is_accepted (clash s (hidden s.owners (set s.loaded c.args.number true))) ≡ true =
    sym (ap is_accepted (c.clash-answer.ensures ∙ ap (clash s) functions)) ∙ sym c.is_accepted.ensures ∙ c.if-not-is_accepted.false in
    let accepted : is_accepted (answer_to s (Load c.args.number)) ≡ true =
    ap (λ x. is_accepted (cond x Already (clash s (hidden s.owners (set s.loaded c.args.number true))))) (sym c.is_loaded.ensures ∙ c.if-is_loaded.false) ∙ free in
    subst (λ cs. Appends s.declared c.args.out.now.items c.move_to.new.out.items cs) (sym (commands-load s c.args.number true accepted))
    (subst (λ xs. Appends s.declared c.args.out.now.items c.move_to.new.out.items (moving s xs)) loaded c.in_ok-move_to.ensures.added)

pub returns-clause-after : goal.returns-clause-after
returns-clause-after c =
    let s = c.args.self.now in
    let is : IsReached s = subst IsReached c.self.view_is c.self.invariant.reached in
    let loaded : c.in_ok-loaded.loaded.items ≡ set s.loaded c.args.number true = c.in_ok-loaded.ensures ∙ ap (λ (x : Between). set x.loaded c.args.number true) c.self.view_is in
    let functions : c.in_ok-hidden.hidden ≡ hidden s.owners (set s.loaded c.args.number true) =
    c.in_ok-hidden.ensures ∙ ap₂ hidden (c.as_slice.ensures.value ∙ ap (λ (x : Between). x.owners) c.self.view_is) (c.as_slice-2.ensures.value ∙ loaded) in
    let free : is_accepted (clash s (hidden s.owners (set s.loaded c.args.number true))) ≡ true =
    sym (ap is_accepted (c.clash-answer.ensures ∙ ap (clash s) functions)) ∙ sym c.is_accepted.ensures ∙ c.if-not-is_accepted.false in
    let accepted : is_accepted (answer_to s (Load c.args.number)) ≡ true =
    ap (λ x. is_accepted (cond x Already (clash s (hidden s.owners (set s.loaded c.args.number true))))) (sym c.is_loaded.ensures ∙ c.if-is_loaded.false) ∙ free in
    c.in_ok-move_to.ensures.after ∙ ap (moved s) loaded ∙ sym (after-load s c.args.number true accepted)
