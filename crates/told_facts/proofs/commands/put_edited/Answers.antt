use Rattle.std.proofs.Common.{◌≡◌, ℕ, ◌⊎◌, inl, inr, None, codes, sym, ap, length}
use Rattle.std.specs.Prelude.{Option}
use Rattle.ft_base.specs.Marks.{Marks}
use Rattle.ft_desk.specs.declared.command.Command.{Command}
use Rattle.ft_desk.specs.Commands.{command_of}
use Rattle.ft_io.proofs.PieceLaws.{puts-equal}
use Rattle.told_items.specs.Fields.{field_text}
use Rattle.told_facts.specs.Commands.{member, set_after}
use Rattle.told_facts.specs.Values.{list_of, optional}
use Rattle.told_facts.proofs.commands.put_edited.Goals as goal

pub returns-in-Register : goal.returns-in-Register
returns-in-Register g c = λ tasks.
    let set = λ (x : Command). set_after c.args.now.now.state (command_of tasks x) in
    let none : set c.args.command.now ≡ None = elim c.in-Register.is [
      | inl w ↦ ap set w.1
      | inr a ↦ elim a [
        | inl w ↦ ap set w.1
        | inr b ↦ elim b [
          | inl w ↦ ap set w.1
          | inr d ↦ elim d [
            | inl w ↦ ap set w.1
            | inr e ↦ elim e [
              | inl w ↦ ap set w.1
              | inr f ↦ elim f [ inl w ↦ ap set w.1 | inr w ↦ ap set w.1 ]
            ]
          ]
        ]
      ]
    ] in
    puts-equal (ap (λ (o : Option Marks). field_text (optional (λ s. list_of (member s) (length s)) (codes "set") o)) (sym none)) c.put.ensures
