-- When nobody can go any more, whoever isn't at an end is at a wait.
use Rattle.std.proofs.Common.{◌≡◌, ℕ, ◌<◌, false, true≢false, List, get_or, Some, refl, ap, ◌∙◌, sym}
use Rattle.std.proofs.lemmas.Bool.{leb-false}
use Rattle.ft_base.specs.declared.number.TaskNo.{TaskNo}
use Rattle.ft_base.specs.declared.task.TaskAct.{TaskAct}
use Rattle.ft_base.specs.declared.task.TaskAct.TheVariants.{Call, Ret, Raise, Lower, After}
use Rattle.script_waits.specs.declared.script.Wait.{Wait}
use Rattle.script_waits.specs.declared.script.Wait.TheVariants.{Command, Until}
use Rattle.script_waits.specs.declared.script.LinedAct.{LinedAct}
use Rattle.script_waits.specs.declared.script.ControlLine.{ControlLine}
use Rattle.script_waits.specs.Greedy.{Passed, IsGreatest, commands_in, may_pass_act, may_pass_wait, passes_act, passes_line, next_act, next_line}

held-act : (act : TaskAct) (commands : ℕ) → may_pass_act commands act ≡ false → (n : ℕ) × (act ≡ After n) × (commands < n)
held-act (After n) commands e = (n, refl, leb-false n commands e)
held-act (Call f) commands e = absurd (true≢false e)
held-act Ret commands e = absurd (true≢false e)
held-act (Raise c) commands e = absurd (true≢false e)
held-act Lower commands e = absurd (true≢false e)

held-line : (wait : Wait) (acts : List ℕ) → may_pass_wait acts wait ≡ false → (task : TaskNo) × (n : ℕ) × (wait ≡ Until task n) × (get_or acts task.0 0 < n)
held-line (Until t n) acts e = (t, n, refl, leb-false n (get_or acts t.0 0) e)
held-line Command acts e = absurd (true≢false e)

pub task-held : (tracks : List (List LinedAct)) (lines : List ControlLine) (p : Passed) (t : ℕ) (act : LinedAct)
    → IsGreatest tracks lines p → next_act tracks lines p t ≡ Some act → (n : ℕ) × (act.act ≡ After n) × (commands_in lines p.lines < n)
task-held tracks lines p t act g e = held-act act.act (commands_in lines p.lines) (sym (ap (passes_act (commands_in lines p.lines)) e) ∙ g.tasks t)

pub control-held : (tracks : List (List LinedAct)) (lines : List ControlLine) (p : Passed) (next : ControlLine)
    → IsGreatest tracks lines p → next_line tracks lines p ≡ Some next → (task : TaskNo) × (n : ℕ) × (next.wait ≡ Until task n) × (get_or p.acts task.0 0 < n)
control-held tracks lines p next g e = held-line next.wait p.acts (sym (ap (passes_line p.acts) e) ∙ g.control)
