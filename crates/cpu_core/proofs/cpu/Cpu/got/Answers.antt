use Rattle.std.proofs.Common.{◌≡◌, ◌∙◌, ap, sym, subst}
use Rattle.cpu_core.specs.declared.parts.Parts.{Parts}
use Rattle.cpu_core.specs.CpuNeeds.{CpuFits, HasNext}
use Rattle.cpu_core.specs.CpuSteps.{stepped}
use Rattle.cpu_core.specs.Cpus.{IsFor, cpu_of}
use Rattle.cpu_core.proofs.CpuNext.{cpu-op-there}
use Rattle.cpu_core.proofs.CpuTaken.{left-kept, room-kept, taken-fits, taken-for, taken-is, taken-items}
use Rattle.cpu_core.proofs.cpu.Cpu.got.Goals as goal

pub step-requires : goal.step-requires
step-requires c = subst (λ d. CpuFits d c.args.value) (sym c.self.view_is) (taken-fits c.args.self.now c.args.value c.requires)

module _ (c : goal.After-step) where
  now : c.step.new.self ≡ stepped c.args.self.now c.args.value
  now = c.step.ensures ∙ ap (λ d. stepped d c.args.value) c.self.view_is

pub invariant_of-self : goal.invariant_of-self
invariant_of-self c =
    subst (λ d. HasNext d) (sym (now c))
    (cpu-op-there c.requires.job (stepped c.args.self.now c.args.value) (taken-for c.args.self.now c.args.value c.requires c.requires.job c.requires.limited c.requires.is_for c.requires.takes))

pub returns-clause-of : goal.returns-clause-of
returns-clause-of c = λ job limited is takes.
    subst (λ d. IsFor job d) (sym (now c)) (taken-for c.args.self.now c.args.value c.requires job limited is takes)

pub returns-clause-cpu : goal.returns-clause-cpu
returns-clause-cpu c = λ job limited is takes. ap (λ d. cpu_of job d) (now c) ∙ taken-is c.args.self.now c.args.value c.requires job limited is takes

pub returns-clause-items : goal.returns-clause-items
returns-clause-items c = λ job limited is takes.
    ap (λ (d : Parts). d.marked.items) (now c) ∙ taken-items c.args.self.now c.args.value c.requires job limited is takes

pub returns-clause-room : goal.returns-clause-room
returns-clause-room c = ap (λ (d : Parts). d.marked.room) (now c) ∙ room-kept c.args.self.now c.args.value

pub returns-clause-left : goal.returns-clause-left
returns-clause-left c = ap (λ (d : Parts). d.marked.left) (now c) ∙ left-kept c.args.self.now c.args.value
