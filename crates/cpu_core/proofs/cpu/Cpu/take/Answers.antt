use Rattle.std.proofs.Common.{◌≡◌, ◌++◌, IsSome, ◌∙◌, ap, sym, subst}
use Rattle.ft_base.specs.Job.{Job}
use Rattle.word_machine.specs.Cpu.{cpu_next}
use Rattle.word_machine.specs.Laws.{CpuTakes}
use Rattle.word_machine.specs.Limits.{IsLimited}
use Rattle.cpu_core.specs.declared.parts.Parts.{Parts}
use Rattle.cpu_core.specs.CpuNeeds.{CpuFits, HasNext}
use Rattle.cpu_core.specs.CpuOps.{cpu_op}
use Rattle.cpu_core.specs.CpuSteps.{stamped, stepped, unmarked}
use Rattle.cpu_core.specs.Cpus.{IsFor, cpu_of}
use Rattle.cpu_core.specs.Marks.{HasRoom, handed_on}
use Rattle.task_core.specs.TaskOps.{item_in}
use Rattle.cpu_core.proofs.CpuNext.{cpu-op-is, cpu-op-there}
use Rattle.cpu_core.proofs.CpuTaken.{taken-fits, taken-for, taken-is}
use Rattle.cpu_core.proofs.Handed.{handed-for, stepped-marked}
use Rattle.cpu_core.proofs.cpu.Cpu.take.Goals as goal

pub take-item-requires : goal.take-item-requires
take-item-requires c = subst (λ d. CpuFits d c.args.value) (sym c.self.view_is) (taken-fits c.args.self.now c.args.value c.requires.taken)

pub hand_on-requires : goal.hand_on-requires
hand_on-requires c = λ some.
    let t = c.requires.taken in
    let item : c.take-item.result ≡ item_in (cpu_next t.job (cpu_of t.job c.args.self.now)) =
    c.take-item.ensures.item ∙ ap (λ d. item_in (cpu_op d)) c.self.view_is ∙ ap item_in (cpu-op-is t.job c.args.self.now t.is_for) in
    subst (λ m. HasRoom m) (sym (ap (λ (d : Parts). d.marked) (c.take-item.ensures.parts ∙ ap (λ d. unmarked d (stepped d c.args.value)) c.self.view_is)))
    (t.room (subst (λ o. IsSome o) item some))

module _ (c : goal.After-hand_on) where
  taken : c.take-item.new.self ≡ unmarked c.args.self.now (stepped c.args.self.now c.args.value)
  taken = c.take-item.ensures.parts ∙ ap (λ d. unmarked d (stepped d c.args.value)) c.self.view_is

  item : c.take-item.result ≡ item_in (cpu_op c.args.self.now)
  item = c.take-item.ensures.item ∙ ap (λ d. item_in (cpu_op d)) c.self.view_is

  -- the CPU then
  abbrev after : Parts
  after = record (stepped c.args.self.now c.args.value) { marked = handed_on c.take-item.result c.args.self.now.marked }

  is : record c.take-item.new.self { marked = c.hand_on.new.self } ≡ after
  is = λ i. record (taken i) { marked = (c.hand_on.ensures ∙ ap (λ (d : Parts). handed_on c.take-item.result d.marked) taken) i }

  is-for : (job : Job) → IsLimited job → IsFor job c.args.self.now → CpuTakes job (cpu_of job c.args.self.now) c.args.value → IsFor job after
  is-for job limited k takes =
      let d = c.args.self.now in
      handed-for job (stepped d c.args.value) d.marked c.args.value c.requires.none c.take-item.result
      (stepped-marked d c.args.value ∙ λ i. record d.marked { items = d.marked.items ++ stamped c.args.value (sym item i) })
      (taken-for d c.args.value c.requires.taken job limited k takes)

pub invariant_of-self : goal.invariant_of-self
invariant_of-self c =
    let t = c.requires.taken in
    subst (λ d. HasNext d) (sym (is c)) (cpu-op-there t.job (after c) (is-for c t.job t.limited t.is_for t.takes))

pub returns-clause-of : goal.returns-clause-of
returns-clause-of c = λ job limited k takes. subst (λ d. IsFor job d) (sym (is c)) (is-for c job limited k takes)

pub returns-clause-cpu : goal.returns-clause-cpu
returns-clause-cpu c = λ job limited k takes.
    ap (λ d. cpu_of job d) (is c) ∙ taken-is c.args.self.now c.args.value c.requires.taken job limited k takes

pub returns-clause-item : goal.returns-clause-item
returns-clause-item c = λ job k. item c ∙ ap item_in (cpu-op-is job c.args.self.now k)
