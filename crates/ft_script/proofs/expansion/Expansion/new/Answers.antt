use Rattle.std.proofs.Common.{rules, ◌≡◌, ℕ, ap, sym, subst}
use Rattle.ft_desk.specs.Lines.{lines_of}
use Rattle.ft_desk.specs.Declarations.{declared_by}
use Rattle.module_table.specs.Lines.{Between, at_first, opening_of}
use Rattle.ft_script.specs.Expansion.{runs_of}
use Rattle.ft_script.proofs.expansion.Expansion.new.Goals as goal

pub returns-clause-ctls : goal.returns-clause-ctls
returns-clause-ctls c =
    let m : Between = c.in_ok-modules.modules in
    let made : m ≡ at_first (declared_by c.args.specs.now c.args.shape) c.args.table.now.functions c.args.absent.now = search rules in
    subst (λ (b : Between). lines_of c.args.shape.tasks c.in_ok-ctls.ctls.items ≡ runs_of (opening_of b.declared b.first)) (sym c.new-2.ensures)
    (subst (λ (tasks : ℕ). lines_of tasks c.in_ok-ctls.ctls.items ≡ runs_of (opening_of m.declared m.first))
    (ap (λ (b : Between). b.declared.tasks) made) c.in_ok-ctls.ensures)
