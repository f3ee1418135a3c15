-- The machine before its first step.
use Rattle.std.proofs.Common.{◌≡◌, ℕ, ◌+◌, ◌<◌, ◌≤◌, List, [], ◌∷◌, length, slice_get, sum_by, Option, Some, None, refl, sym, ap, ◌∙◌, subst, arith}
use Rattle.std.proofs.lemmas.List.{length-map}
use Rattle.std.proofs.lemmas.Option.{slice_get_within}
use Rattle.ft_base.specs.declared.limits.TheConstants.{COMMANDS, UNTILS}
use Rattle.ft_base.specs.Desk.{desk}
use Rattle.ft_base.specs.Job.{Job}
use Rattle.user_specs.specs.declared.plan.CpuPlan.{CpuPlan}
use Rattle.user_specs.specs.declared.spec.Spec.{Spec}
use Rattle.word_map.specs.declared.shape.Shape.{Shape}
use Rattle.word_map.specs.Shapes.{shape_of}
use Rattle.word_map.specs.Places.{IsOpening}
use Rattle.word_map.specs.Contents.{mask_of}
use Rattle.word_map.proofs.PlaceLaws.{opening_is}
use Rattle.ft_desk.specs.declared.command.Ctl.{Ctl}
use Rattle.ft_desk.specs.Commands.{ctl_of}
use Rattle.ft_desk.specs.Declarations.{IsOf}
use Rattle.ft_desk.specs.DeskView.{DeskView}
use Rattle.word_machine.specs.Control.{control_start}
use Rattle.word_machine.specs.Cpu.{Cpu, cpu_start}
use Rattle.word_machine.specs.Laws.{Runs, items_on, room_on, tasks_on}
use Rattle.word_machine.specs.Machine.{start}
use Rattle.word_machine_laws.proofs.WordsFit.{start-runs}
use Rattle.ft_desk.specs.Lines.{lines_of}
use Rattle.control_core.specs.Seated.{control_of}
use Rattle.control_core.specs.Seated as control
use Rattle.control_core.proofs.StartLaw.{starts}
use Rattle.cpu_core.specs.declared.parts.Parts.{Parts as CpuParts}
use Rattle.cpu_core.specs.Marks.{Marks}
use Rattle.ft_machine.specs.Worlds.{Declares, IsCpuAt, IsFor, IsRunning, Parts, cpu_or, world_of}
use Rattle.ft_machine.specs.declared.cpus.TaskLimits.{TaskLimits}
use Rattle.ft_machine.specs.declared.cpus.CpuRoom.{CpuRoom}
use Rattle.ft_machine.specs.declared.cpus.CpuRoom.TheVariants.{ForOne, ForAll}
use Rattle.ft_machine.specs.Starts.{AreFirst, AreListsOf, ArePlansOf, own_room}

-- ## what is declared

module _ (job : Job) (d : DeskView) (ctls : List Ctl) (plans : List CpuPlan) (specs : List Spec) (limits : TaskLimits) (shape : Shape)
    (h : Declares job d ctls plans specs limits shape) where
  pub declared-plans : ArePlansOf job plans specs limits shape
  declared-plans = record {
    shape' = h.shape';
    count = h.cpus;
    each = λ c p e. let within = slice_get_within plans c p e in let is = h.each c p e in
        record { limited = h.limited; inside = omega (arith, within, h.cpus); of' = is.0; quick = is.1 };
  }

  as-many : length ctls ≡ length job.ctls
  as-many = sym (length-map ctls (ctl_of shape.tasks)) ∙ ap length h.lines

  pub declared-lists : AreListsOf job ctls plans specs limits
  declared-lists = record { limited = h.limited; lines = as-many; shape = shape; declared = declared-plans }

  pub few-lines : length ctls ≤ COMMANDS + UNTILS
  few-lines = let e = as-many in omega (arith, e, h.limited.ctls)

-- ## no items

none-summed : (xs : List ℕ) → sum_by (λ (t : ℕ). 0) xs ≡ 0
none-summed [] = refl
none-summed (x ∷ xs) = none-summed xs

-- nor of a CPU's tasks
pub none-on : (job : Job) (c : ℕ) → items_on job c [] ≡ 0
none-on job c = none-summed (tasks_on job c)

-- a CPU has room for an item, if its tasks can mark any
has-room : (rooms : CpuRoom) (job : Job) (c : ℕ) → 0 < room_on job c → 0 < own_room rooms job c
has-room ForOne job c some = omega arith
has-room ForAll job c some = some

-- ## the machine

-- what each part is before its first step
module _ (w : Parts) (pids : ℕ) (d : DeskView) (ctls : List Ctl) (plans : List CpuPlan) (specs : List Spec) (limits : TaskLimits) (rooms : CpuRoom)
    (traced : (job : Job) → length job.tasks ≡ w.shape.tasks → pids ≡ mask_of (desk job 0) (length job.tasks))
    (words : IsOpening w.shape pids w.words)
    (seated-shape : w.control.shape ≡ w.shape) (seated-desk : w.control.desk ≡ d) (seated-lines : w.control.lines ≡ lines_of w.shape.tasks ctls)
    (seated : control.IsOpening w.control)
    (first : (job : Job) → ArePlansOf job plans specs limits w.shape → AreFirst rooms job w.cpus) where
  module _ (job : Job) (h : Declares job d ctls plans specs limits w.shape) where
    own : AreFirst rooms job w.cpus
    own = first job (declared-plans job d ctls plans specs limits w.shape h)

    pids-is : pids ≡ mask_of (desk job 0) (length job.tasks)
    pids-is = traced job (sym (ap (λ (s : Shape). s.tasks) h.shape'))

    words-open : IsOpening (shape_of job) (mask_of (desk job 0) (length job.tasks)) w.words
    words-open = subst (λ s. IsOpening s (mask_of (desk job 0) (length job.tasks)) w.words) h.shape' (subst (λ m. IsOpening w.shape m w.words) pids-is words)

    control-is : control.IsFor job w.control × (control_of w.control ≡ control_start job)
    control-is = starts job w.control (seated-shape ∙ h.shape') (seated-lines ∙ h.lines) (subst (λ (s : DeskView). IsOf job s.declared) (sym seated-desk) h.of') seated

    cpu-is : (c : ℕ) (o : Option CpuParts) → slice_get w.cpus c ≡ o → cpu_or job (cpu_start job c) o ≡ cpu_start job c
    cpu-is c None e = refl
    cpu-is c (Some x) e = (own.each c x e).same

    world-is : world_of job [] w ≡ start job
    unfolding start
    world-is = λ i. record {
      words = opening_is (shape_of job) (mask_of (desk job 0) (length job.tasks)) w.words words-open i;
      control = control-is.1 i;
      cpus = λ c. (cpu-is c (slice_get w.cpus c) refl i);
      past = [];
    }

    at : (c : ℕ) (x : CpuParts) → slice_get w.cpus c ≡ Some x → IsCpuAt job [] c x
    at c x e = let is = own.each c x e in record {
      is_for = is.is_for;
      number = ap (λ (y : Cpu). y.number) is.same;
      none = ap (λ (m : Marks). m.items) is.marked;
      left = let none = none-on job c in let left = ap (λ (m : Marks). m.left) is.marked in omega (arith, none, left);
      room = λ some. subst (λ (m : Marks). 0 < m.room) (sym is.marked) (has-room rooms job c some);
    }

    is-for : IsFor job [] w
    is-for = record {
      shape' = h.shape';
      count = words-open.count;
      control' = control-is.0;
      none = seated.items;
      cpus' = own.count;
      each = at;
    }

    pub opens : IsFor job [] w × (world_of job [] w ≡ start job)
    opens = (is-for, world-is)

    pub opens-running : IsRunning w
    opens-running = record { job = job; past = []; limited = h.limited; is_for = is-for; runs = subst (Runs job) (sym world-is) (start-runs job h.limited) }
