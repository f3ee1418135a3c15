use Rattle.std.proofs.Common.{◌≡◌, sym, ap, ◌∙◌}
use Rattle.ft_desk.specs.Declarations.{Declared}
use Rattle.ft_desk.specs.DeskView.{opened}
use Rattle.told_facts.proofs.facts.Facts.new.Goals as goal

pub returns-clause-new : goal.returns-clause-new
returns-clause-new c =
    let one = c.in_ok-before.ensures in
    let other = c.in_ok-after.ensures in
    let alike : c.in_ok-after.after.declared ≡ c.in_ok-before.before.declared = λ i. record {
      specs = (other.declared.specs ∙ sym one.declared.specs) i;
      funcs = (other.declared.funcs ∙ sym one.declared.funcs) i;
      tasks = (other.declared.tasks ∙ sym one.declared.tasks) i;
      tramps = (other.declared.tramps ∙ sym one.declared.tramps) i;
    } in record {
      opened = one.opened;
      same = other.opened ∙ ap opened alike ∙ sym one.opened;
      declared = rw c.in_ok-names.ensures one.declared;
      named = one.named;
      ctls = rw c.in_ok-names.ensures one.lines;
    }
