use Rattle.std.proofs.Common.{List, refl, ap, ◌∙◌}
use Rattle.ft_base.specs.Job.{ModuleRow}
use Rattle.ft_desk.specs.Lines.{lines_of}
use Rattle.script_waits.specs.Tasks.{lined_task}
use Rattle.ft_script.proofs.ControlLines.{ctls-in-job, rows-in-job}
use Rattle.ft_script.proofs.LookUps.{mapped_length}
use Rattle.ft_script.proofs.reader.Reader.into_parts.Goals as goal

pub returns : goal.returns
returns c =
    let r = c.args.self in
    let course = c.in_ok-ctls.field-0 in
    let is = c.in_ok-ctls.ensures in
    record {
      version = refl;
      functions = refl;
      users = refl;
      frames = c.unwrap_or.ensures;
      tramps = c.slots.ensures;
      cpus = c.requires.plans;
      ctls = ap (λ n. lines_of n course.ctls.items) (mapped_length lined_task r.tasks.items)
          ∙ ctls-in-job r c.requires.open course.ctls.items course.modules.items is.some is.none;
      schedule = is.schedule;
      lines = ap (λ (rows : List ModuleRow). record { lanes = r.lanes.items; absent = r.absent.items; modules = rows })
          (rows-in-job r c.requires.open course.ctls.items course.modules.items is.some is.none);
      rings = rw c.unwrap_or-2.ensures refl;
    }
