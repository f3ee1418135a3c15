-- What a job declares for its machine.
use Rattle.std.proofs.Common.{◌≡◌, ℕ, ◌≤◌, List, length, map, refl, sym, ap, ◌∙◌}
use Rattle.std.specs.List.{AllByRecursion as Each}
use Rattle.std.proofs.lemmas.List.{length-map}
use Rattle.ft_base.specs.declared.limits.TheConstants.{QUANTUM}
use Rattle.ft_base.specs.Job.{Job, Spec as PlainSpec}
use Rattle.user_specs.specs.declared.plan.CpuPlan.{CpuPlan}
use Rattle.user_specs.specs.declared.spec.Spec.{Spec}
use Rattle.user_specs.specs.Plain.{DeclaredCpu, cpu_of, spec_of}
use Rattle.word_map.specs.Shapes.{shape_of}
use Rattle.ft_desk.specs.declared.command.Ctl.{Ctl}
use Rattle.ft_desk.specs.Declarations.{Declared, IsOf, bare}
use Rattle.ft_desk.specs.Lines.{lines_of}
use Rattle.ft_desk.specs.DeskView.{DeskView, opened}
use Rattle.word_machine.specs.Limits.{IsLimited}
use Rattle.control_core.specs.Plans.{IsDeclaredIn}
use Rattle.ft_machine.specs.declared.cpus.TaskLimits.{TaskLimits}
use Rattle.ft_machine.specs.Worlds.{Declares}
use Rattle.ft_job.specs.Parts.{quanta_of, cpus_from}
use Rattle.ft_machine.proofs.OnCpu.{own-quantum, own-numbers, own-acts, quick}

-- a desk that declares what the job does has the job's shape
pub declared-in : (j : Job) (d : Declared) → IsOf j d → IsDeclaredIn (shape_of j) d
declared-in j d is = record {
  users = ap (λ (ss : List PlainSpec). length ss) is.specs ∙ length-map j.users bare;
  funcs = is.funcs;
  tasks = is.tasks;
  tramps = is.tramps;
}

module _ (j : Job) (d : DeskView) (ctls : List Ctl) (cpus : List CpuPlan) (specs : List Spec) (limits : TaskLimits) where
  pub declares : IsLimited j → d ≡ opened d.declared → IsOf j d.declared → lines_of d.declared.tasks ctls ≡ j.ctls
      → quanta_of (map cpu_of cpus) ≡ j.quanta → map cpu_of cpus ≡ cpus_from 0 j.quanta j.tasks → Each (λ q. q ≤ QUANTUM) j.quanta
      → map spec_of specs ≡ j.users → limits.frames ≡ j.frames → limits.version ≡ j.version
      → Declares j d ctls cpus specs limits (shape_of j)
  declares limited new is lines quanta all within users frames version = record {
    limited = limited;
    desk' = new;
    of' = is;
    shape' = refl;
    lines = ap (λ (n : ℕ). lines_of n ctls) (sym is.tasks) ∙ lines;
    cpus = sym (length-map cpus cpu_of) ∙ sym (length-map (map cpu_of cpus) (λ (x : DeclaredCpu). x.quantum)) ∙ ap (λ (qs : List ℕ). length qs) quanta;
    each = λ c x at. (
      record {
        shape' = refl;
        users = users;
        frames' = frames;
        version' = version;
        quantum = own-quantum cpus j quanta all c x at;
        numbers = own-numbers cpus j quanta all c x at;
        acts = own-acts cpus j quanta all c x at;
      },
      quick cpus j quanta all c x at within,
    );
  }
