use Rattle.std.proofs.Common.{rules, ◌≡◌, ◌+◌, ◌<◌, ◌^◌, ◌++◌, ◌∷◌, [], length, ap, sym, subst, ◌∙◌}
use Rattle.ft_desk.specs.Commands.{command_of, IsInShape}
use Rattle.module_table.specs.Lines.{Between, Plain, after_line}
use Rattle.ft_script.proofs.Later.{known-more, numbers-more, room-more}
use Rattle.ft_script.proofs.late.LateModules.keep.Goals as goal

pub invariant_of-self-2 : goal.invariant_of-self-2
invariant_of-self-2 c =
    let m = c.self.inside in
    let command = c.args.command.now in
    let is : c.push-2.new.self.items ≡ m.later.items ++ command ∷ [] = search rules in
    record {
      numbers = numbers-more m c.self.invariant command c.push-2.new.self.items is (subst (λ (b : Between). IsInShape b.declared command) (sym c.self.view_is) c.requires.line);
      room = room-more m c.self.invariant command c.push-2.new.self.items is (subst (λ (b : Between). b.commands + length b.declared.specs + 1 < 2 ^ 32) (sym c.self.view_is) c.requires.room);
    }

pub returns-clause-after : goal.returns-clause-after
returns-clause-after c =
    let m = c.self.inside in
    let command = c.args.command.now in
    let is : c.push-2.new.self.items ≡ m.later.items ++ command ∷ [] = search rules in
    known-more m c.self.invariant command c.push-2.new.self.items is
    ∙ ap (λ (b : Between). after_line b (Plain (command_of b.declared.tasks command))) c.self.view_is
