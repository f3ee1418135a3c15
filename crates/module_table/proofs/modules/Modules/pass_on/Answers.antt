use Rattle.std.proofs.Common.{◌≡◌, ◌∷◌, [], ap, refl, sym, subst, ◌∙◌}
use Rattle.ft_desk.specs.Commands.{command_of, IsInShape}
use Rattle.ft_desk.specs.Declarations.{job_of}
use Rattle.module_table.specs.Lines.{Between, desk_after}
use Rattle.module_table.specs.Made.{depth_after}
use Rattle.module_table.specs.ModulesInvariant.{between}
use Rattle.module_table.proofs.BetweenLaws.{reached-unmasked, depth-unmasked, kept-by}
use Rattle.module_table.proofs.modules.Modules.pass_on.Goals as goal

pub invariant_of-self-2 : goal.invariant_of-self-2
invariant_of-self-2 c =
    let m = c.self.inside in
    let b = between m in
    let named : IsInShape m.desk.declared c.args.command.now = subst (λ (x : Between). IsInShape x.declared c.args.command.now) (sym c.self.view_is) c.requires.line in
    let state : c.run_one.new.desk.state ≡ desk_after (job_of m.desk.declared) m.desk.state m.desk.commands (command_of m.desk.declared.tasks c.args.command.now ∷ []) =
    c.in_ok-answer.ensures.state ∙ ap (λ x. desk_after (job_of m.desk.declared) m.desk.state m.desk.commands (command_of m.desk.declared.tasks x ∷ [])) c.in_ok-copy.ensures in
    kept-by m _ c.self.invariant
    (reached-unmasked b m.desk.declared.tasks c.args.command.now c.requires.plain c.run_one.new.desk.declared c.run_one.new.desk.state c.run_one.new.desk.commands
    c.in_ok-answer.ensures.declared state c.in_ok-answer.ensures.count c.self.invariant.reached named.0)
    refl c.in_ok-answer.ensures.declared refl
    (c.depth_after-self-inside.ensures ∙ ap (λ n. depth_after n c.args.command.now) c.self.invariant.depth
    ∙ sym (depth-unmasked b m.desk.declared.tasks c.args.command.now c.requires.plain c.run_one.new.desk.declared c.run_one.new.desk.state c.run_one.new.desk.commands
    c.in_ok-answer.ensures.declared state c.in_ok-answer.ensures.count))
