use Rattle.std.proofs.Common.{List, ℕ, ◌++◌, ap, refl, ◌∙◌, append_assoc}
use Rattle.ft_base.specs.Desk.{desk}
use Rattle.ft_base.specs.Job.{ModuleRow, funcs}
use Rattle.trace_views.specs.Words.{last_line, numbered_texts, lines_text}
use Rattle.trace_views.specs.LogText.{log_text}
use Rattle.trace_views.specs.FunctionText.{function_text}
use Rattle.trace_views.specs.GraphText.{graph_text}
use Rattle.trace_views.specs.ProfileText.{profile_text, user_profile, fprobe_line}
use Rattle.trace_views.specs.EnabledText.{enabled_lines, enabled_text}
use Rattle.trace_views.specs.ModulesText.{row_of_line, module_line, modules_text}
use Rattle.trace_views.proofs.LineTexts.{lines-read}
use Rattle.trace_print.proofs.forms.lines_of.Goals as goal

pub returns-in-Log : goal.returns-in-Log
unfolding log_text
returns-in-Log c = rw c.in-Log.is (λ ended. refl)

pub returns-in_ok-function_lines-in-Function : goal.returns-in_ok-function_lines-in-Function
unfolding function_text
returns-in_ok-function_lines-in-Function c =
    rw c.in-Function.is (λ ended. ap (λ (t : List ℕ). t ++ last_line ended) c.in_ok-function_lines-in-Function.ensures)

pub returns-in_ok-graph_lines-in-Graph : goal.returns-in_ok-graph_lines-in-Graph
unfolding graph_text
returns-in_ok-graph_lines-in-Graph c =
    rw c.in-Graph.is (λ ended. ap (λ (t : List ℕ). t ++ last_line ended) c.in_ok-graph_lines-in-Graph.ensures)

pub returns-in_ok-profile_lines-in-Profile : goal.returns-in_ok-profile_lines-in-Profile
unfolding profile_text
returns-in_ok-profile_lines-in-Profile c =
    rw c.in-Profile.is (λ ended. ap (λ (t : List ℕ). t ++ last_line ended) c.in_ok-profile_lines-in-Profile.ensures
    ∙ append_assoc (numbered_texts (user_profile c.args.names.now c.args.history.now.items) 0 c.args.names.now.users) (numbered_texts (fprobe_line c.args.history.now.items) 0 c.args.names.now.users) (last_line ended))

pub returns-in_ok-lines_of_desk-in-Enabled : goal.returns-in_ok-lines_of_desk-in-Enabled
unfolding enabled_text
returns-in_ok-lines_of_desk-in-Enabled c =
    rw c.in-Enabled.is (λ ended. ap (λ (t : List ℕ). t ++ last_line ended) (c.in_ok-lines_of_desk-in-Enabled.ensures
    ∙ ap (λ n. enabled_lines c.args.names.now (desk c.args.names.now n) 0 (funcs c.args.names.now)) c.returned.ensures))

pub returns-in_ok-lines_of_modules-in-Modules : goal.returns-in_ok-lines_of_modules-in-Modules
unfolding modules_text
returns-in_ok-lines_of_modules-in-Modules c =
    rw c.in-Modules.is (λ ended. ap (λ (t : List ℕ). t ++ last_line ended)
    (lines-read (module_line c.args.names.now) row_of_line _
    ∙ ap (λ (rows : List ModuleRow). lines_text (module_line c.args.names.now) rows) c.in_ok-lines_of_modules-in-Modules.ensures))
