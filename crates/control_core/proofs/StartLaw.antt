-- Control before the first line of a job is the word machine's at its start.
use Rattle.std.proofs.Common.{◌≡◌, List, [], drop, length, take, refl, sym, ap, ◌∙◌, subst}
use Rattle.ft_base.specs.Job.{Job, Ctl, commands_in}
use Rattle.ft_base.specs.Desk.{desk}
use Rattle.word_machine_laws.proofs.ValueLaws.{copy-start}
use Rattle.word_map.specs.Shapes.{shape_of}
use Rattle.ft_desk.specs.Declarations.{Declared, IsOf}
use Rattle.ft_desk.specs.DeskView.{DeskView, opened}
use Rattle.ft_desk.proofs.JobLaws.{opening-is}
use Rattle.word_machine.specs.Control.{Line, control_start}
use Rattle.word_machine.specs.Values.{copies_in}
use Rattle.control_core.specs.Seated.{Seated, Fits, IsDeskOf, IsFor, IsOpening, control_in, control_of}

-- the desk of a job before its first command
start-desk : (job : Job) (d : Declared) → IsOf job d → (opened d).state ≡ desk job 0
unfolding desk
start-desk job d is = opening-is job d is

no-line : (xs : List Ctl) → take 0 xs ≡ []
no-line xs = refl

all-lines : (xs : List Ctl) → drop 0 xs ≡ xs
all-lines xs = refl

module _ (job : Job) (c : Seated) (shape : c.shape ≡ shape_of job) (lines : c.lines ≡ job.ctls) (of : IsOf job c.desk.declared) (o : IsOpening c) where
  before-is : c.before ≡ opened c.desk.declared
  before-is = o.before ∙ o.desk

  is-for : IsFor job c
  is-for = record {
    shape = shape;
    lines = lines;
    declared = subst (λ (s : DeskView). IsOf job s.declared) (sym o.before) of;
    before = ap (λ (s : DeskView). s.state) before-is ∙ start-desk job c.desk.declared of ∙ ap (desk job) (sym o.commands_done);
    numbered = ap (λ (s : DeskView). s.commands) before-is ∙ sym o.commands_done;
    counted = o.commands_done ∙ ap (λ n. length (commands_in (take n c.lines))) (sym o.line);
    now = subst (IsDeskOf job c) (sym o.phase) (sym o.before);
    fits = subst (Fits c) (sym o.phase) o.made;
  }

  control-is : control_of c ≡ control_start job
  control-is =
      ap (control_in c) o.phase
      ∙ (λ i. record {
        commands_done = o.commands_done i;
        remaining = drop (o.line i) (lines i);
        request = o.request i;
        copies = λ u. ((ap (λ (s : DeskView). copies_in s.copies u) o.desk ∙ copy-start (length c.desk.declared.specs) u) i);
        order = ap (λ (s : DeskView). s.order) o.desk i;
        position = Line;
      })

  pub starts : IsFor job c × (control_of c ≡ control_start job)
  starts = (is-for, control-is)
