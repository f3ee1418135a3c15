-- What an actor has marked with one more value.
use Rattle.std.proofs.Common.{◌≡◌, ℕ, List, [], ◌∷◌, ◌++◌, sym, ap, ◌∙◌, append_assoc}
use Rattle.std.proofs.lemmas.List.{append-nil}
use Rattle.ft_base.specs.Job.{Job}
use Rattle.word_machine.specs.Control.{Control, control_got, control_next}
use Rattle.word_machine.specs.Cpu.{Cpu, cpu_got, cpu_next}
use Rattle.control_core.specs.Steps.{marks_in as control_marks_in}
use Rattle.cpu_core.specs.CpuSteps.{marks_in}
use Rattle.ft_machine.specs.Fed.{control_after, control_marks, cpu_after, cpu_marks}

pub control_marks-snoc : (job : Job) (s : Control) (vs : List ℕ) (v : ℕ)
    → control_marks job s (vs ++ v ∷ []) ≡ control_marks job s vs ++ control_marks_in (control_next job (control_after job s vs)) v
control_marks-snoc job s [] v = append-nil (control_marks_in (control_next job s) v)
control_marks-snoc job s (w ∷ ws) v =
    ap (λ l. control_marks_in (control_next job s) w ++ l) (control_marks-snoc job (control_got job s w) ws v)
    ∙ sym (append_assoc (control_marks_in (control_next job s) w) (control_marks job (control_got job s w) ws)
    (control_marks_in (control_next job (control_after job (control_got job s w) ws)) v))

pub cpu_marks-snoc : (job : Job) (me : Cpu) (vs : List ℕ) (v : ℕ)
    → cpu_marks job me (vs ++ v ∷ []) ≡ cpu_marks job me vs ++ marks_in (cpu_next job (cpu_after job me vs)) v
cpu_marks-snoc job me [] v = append-nil (marks_in (cpu_next job me) v)
cpu_marks-snoc job me (w ∷ ws) v =
    ap (λ l. marks_in (cpu_next job me) w ++ l) (cpu_marks-snoc job (cpu_got job me w) ws v)
    ∙ sym (append_assoc (marks_in (cpu_next job me) w) (cpu_marks job (cpu_got job me w) ws)
    (marks_in (cpu_next job (cpu_after job (cpu_got job me w) ws)) v))
