use Rattle.std.proofs.Common.{◌≡◌, List, [], reverse, refl, sym, ap, ◌∙◌, subst}
use Rattle.ft_base.specs.Desk.{desk}
use Rattle.ft_base.specs.Job.{Job, ModuleRow, funcs}
use Rattle.ft_words.specs.declared.order.Form.TheVariants as forms
use Rattle.trace_views.specs.EnabledText.{enabled_line_text, enabled_lines}
use Rattle.trace_views.specs.FunctionViews.{HasFunction}
use Rattle.trace_views.specs.GraphLines.{graph_line_text}
use Rattle.trace_views.specs.OpenCalls.{function_line_text}
use Rattle.trace_views.specs.ModulesText.{module_line, module_line_text, row_of_line}
use Rattle.trace_views.specs.ProfileText.{profile_line_text}
use Rattle.trace_views.specs.ProfileViews.{HasProfile}
use Rattle.trace_views.specs.RingLines.{rings_line_text}
use Rattle.trace_views.specs.RingViews.{HasRings}
use Rattle.trace_views.specs.Words.{lines_text}
use Rattle.trace_views.proofs.LineTexts.{lines-read}
use Rattle.trace_print.specs.declared.kept.Kept.{Kept}
use Rattle.trace_print.specs.Kept.{HasNoGraph, IsEnoughFor, IsKeptOf}
use Rattle.trace_print.proofs.KeptLaws.{as-sent, enabled-is, function-is, graph-is, modules-is, profile-is, rings-is}
use Rattle.trace_print.proofs.forms.write_kept.Goals as goal

-- ## the form function

pub returns-in-Function-clause-all : goal.returns-in-Function-clause-all
returns-in-Function-clause-all g c = λ items kept.
    (let job = c.args.job.now in
    let has : HasFunction job (reverse items) c.in-Function.view = subst (λ (k : Kept). IsKeptOf job items k) c.in-Function.is kept in
    let form : c.args.form ≡ forms.Function = subst (λ (k : Kept). IsEnoughFor c.args.form k) c.in-Function.is c.requires.enough in
    let same = as-sent function_line_text c.in-Ok.names job c.lines.result.now c.lines.result.now c.args.ended c.in-Ok.ensures refl
    ∙ function-is job c.args.form items c.args.ended form _ (c.lines.ensures job (reverse items) has) in
    rw (← same) c.send_lines.ensures.all)

pub returns-in-Function-clause-front : goal.returns-in-Function-clause-front
returns-in-Function-clause-front g c = λ items kept.
    (let job = c.args.job.now in
    let has : HasFunction job (reverse items) c.in-Function.view = subst (λ (k : Kept). IsKeptOf job items k) c.in-Function.is kept in
    let form : c.args.form ≡ forms.Function = subst (λ (k : Kept). IsEnoughFor c.args.form k) c.in-Function.is c.requires.enough in
    let same = as-sent function_line_text c.in-Ok.names job c.lines.result.now c.lines.result.now c.args.ended c.in-Ok.ensures refl
    ∙ function-is job c.args.form items c.args.ended form _ (c.lines.ensures job (reverse items) has) in
    rw (← same) c.send_lines.ensures.front)

-- ## the form profile

pub returns-in-Profile-clause-all : goal.returns-in-Profile-clause-all
returns-in-Profile-clause-all g c = λ items kept.
    (let job = c.args.job.now in
    let own = c.in-Ok.ensures in
    let has : HasProfile job (reverse items) c.in-Profile.view = subst (λ (k : Kept). IsKeptOf job items k) c.in-Profile.is kept in
    let form : c.args.form ≡ forms.Profile = subst (λ (k : Kept). IsEnoughFor c.args.form k) c.in-Profile.is c.requires.enough in
    let told = c.in-Ok-lines.ensures (reverse items) (subst (λ (j : Job). HasProfile j (reverse items) c.in-Profile.view) (sym own) has) in
    let same = as-sent profile_line_text c.in-Ok.names job c.as_slice.result.now c.in-Ok-lines.lines.items c.args.ended own c.as_slice.ensures.value
    ∙ profile-is job c.args.form items c.args.ended form _ (rw own at told) in
    rw (← same) c.send_lines-in-Profile.ensures.all)

pub returns-in-Profile-clause-front : goal.returns-in-Profile-clause-front
returns-in-Profile-clause-front g c = λ items kept.
    (let job = c.args.job.now in
    let own = c.in-Ok.ensures in
    let has : HasProfile job (reverse items) c.in-Profile.view = subst (λ (k : Kept). IsKeptOf job items k) c.in-Profile.is kept in
    let form : c.args.form ≡ forms.Profile = subst (λ (k : Kept). IsEnoughFor c.args.form k) c.in-Profile.is c.requires.enough in
    let told = c.in-Ok-lines.ensures (reverse items) (subst (λ (j : Job). HasProfile j (reverse items) c.in-Profile.view) (sym own) has) in
    let same = as-sent profile_line_text c.in-Ok.names job c.as_slice.result.now c.in-Ok-lines.lines.items c.args.ended own c.as_slice.ensures.value
    ∙ profile-is job c.args.form items c.args.ended form _ (rw own at told) in
    rw (← same) c.send_lines-in-Profile.ensures.front)

-- ## the form enabled

pub returns-in-Returned-clause-all : goal.returns-in-Returned-clause-all
returns-in-Returned-clause-all g c = λ items kept.
    (let job = c.args.job.now in
    let own = c.in-Ok.ensures in
    let lines = c.in-Ok-lines_of_desk.lines.items in
    let count = subst (λ (k : Kept). IsKeptOf job items k) c.in-Returned.is kept in
    let form : c.args.form ≡ forms.Enabled = subst (λ (k : Kept). IsEnoughFor c.args.form k) c.in-Returned.is c.requires.enough in
    let told = subst (λ (j : Job). lines_text (enabled_line_text j) lines ≡ enabled_lines j (desk j c.in-Returned.returned) 0 (funcs j)) own c.in-Ok-lines_of_desk.ensures in
    let same = as-sent enabled_line_text c.in-Ok.names job c.as_slice-in-Returned.result.now lines c.args.ended own c.as_slice-in-Returned.ensures.value
    ∙ enabled-is job c.args.form items c.args.ended form c.in-Returned.returned count _ told in
    rw (← same) c.send_lines-in-Returned.ensures.all)

pub returns-in-Returned-clause-front : goal.returns-in-Returned-clause-front
returns-in-Returned-clause-front g c = λ items kept.
    (let job = c.args.job.now in
    let own = c.in-Ok.ensures in
    let lines = c.in-Ok-lines_of_desk.lines.items in
    let count = subst (λ (k : Kept). IsKeptOf job items k) c.in-Returned.is kept in
    let form : c.args.form ≡ forms.Enabled = subst (λ (k : Kept). IsEnoughFor c.args.form k) c.in-Returned.is c.requires.enough in
    let told = subst (λ (j : Job). lines_text (enabled_line_text j) lines ≡ enabled_lines j (desk j c.in-Returned.returned) 0 (funcs j)) own c.in-Ok-lines_of_desk.ensures in
    let same = as-sent enabled_line_text c.in-Ok.names job c.as_slice-in-Returned.result.now lines c.args.ended own c.as_slice-in-Returned.ensures.value
    ∙ enabled-is job c.args.form items c.args.ended form c.in-Returned.returned count _ told in
    rw (← same) c.send_lines-in-Returned.ensures.front)

-- ## the form modules

pub returns-in-Nothing-clause-all : goal.returns-in-Nothing-clause-all
returns-in-Nothing-clause-all g c = λ items kept.
    (let job = c.args.job.now in
    let own = c.in-Ok.ensures in
    let lines = c.in-Ok-lines_of_modules.lines.items in
    let form : c.args.form ≡ forms.Modules = subst (λ (k : Kept). IsEnoughFor c.args.form k) c.in-Nothing.is c.requires.enough in
    let rows = c.in-Ok-lines_of_modules.ensures ∙ ap (λ (j : Job). j.lines.modules) own in
    let told = lines-read (module_line job) row_of_line lines ∙ ap (λ (rs : List ModuleRow). lines_text (module_line job) rs) rows in
    let same = as-sent module_line_text c.in-Ok.names job c.as_slice-in-Nothing.result.now lines c.args.ended own c.as_slice-in-Nothing.ensures.value
    ∙ modules-is job c.args.form items c.args.ended form _ told in
    rw (← same) c.send_lines-in-Nothing.ensures.all)

pub returns-in-Nothing-clause-front : goal.returns-in-Nothing-clause-front
returns-in-Nothing-clause-front g c = λ items kept.
    (let job = c.args.job.now in
    let own = c.in-Ok.ensures in
    let lines = c.in-Ok-lines_of_modules.lines.items in
    let form : c.args.form ≡ forms.Modules = subst (λ (k : Kept). IsEnoughFor c.args.form k) c.in-Nothing.is c.requires.enough in
    let rows = c.in-Ok-lines_of_modules.ensures ∙ ap (λ (j : Job). j.lines.modules) own in
    let told = lines-read (module_line job) row_of_line lines ∙ ap (λ (rs : List ModuleRow). lines_text (module_line job) rs) rows in
    let same = as-sent module_line_text c.in-Ok.names job c.as_slice-in-Nothing.result.now lines c.args.ended own c.as_slice-in-Nothing.ensures.value
    ∙ modules-is job c.args.form items c.args.ended form _ told in
    rw (← same) c.send_lines-in-Nothing.ensures.front)

-- ## the form rings

pub lines-requires-in-Rings : goal.lines-requires-in-Rings
lines-requires-in-Rings g c =
    let legal = c.requires.legal in
    (c.args.job.now, reverse legal.0, subst (λ (k : Kept). IsKeptOf c.args.job.now legal.0 k) c.in-Rings.is legal.1)

pub returns-in-Rings-clause-all : goal.returns-in-Rings-clause-all
returns-in-Rings-clause-all g c = λ items kept.
    (let job = c.args.job.now in
    let own = c.in-Ok.ensures in
    let has : HasRings job (reverse items) c.in-Rings.view = subst (λ (k : Kept). IsKeptOf job items k) c.in-Rings.is kept in
    let form : c.args.form ≡ forms.Rings = subst (λ (k : Kept). IsEnoughFor c.args.form k) c.in-Rings.is c.requires.enough in
    let told = c.in-Ok-lines-2.ensures job (reverse items) has in
    let same = as-sent rings_line_text c.in-Ok.names job c.as_slice-in-Rings.result.now c.in-Ok-lines-2.lines.items c.args.ended own c.as_slice-in-Rings.ensures.value
    ∙ rings-is job c.args.form items c.args.ended form _ told in
    rw (← same) c.send_lines-in-Rings.ensures.all)

pub returns-in-Rings-clause-front : goal.returns-in-Rings-clause-front
returns-in-Rings-clause-front g c = λ items kept.
    (let job = c.args.job.now in
    let own = c.in-Ok.ensures in
    let has : HasRings job (reverse items) c.in-Rings.view = subst (λ (k : Kept). IsKeptOf job items k) c.in-Rings.is kept in
    let form : c.args.form ≡ forms.Rings = subst (λ (k : Kept). IsEnoughFor c.args.form k) c.in-Rings.is c.requires.enough in
    let told = c.in-Ok-lines-2.ensures job (reverse items) has in
    let same = as-sent rings_line_text c.in-Ok.names job c.as_slice-in-Rings.result.now c.in-Ok-lines-2.lines.items c.args.ended own c.as_slice-in-Rings.ensures.value
    ∙ rings-is job c.args.form items c.args.ended form _ told in
    rw (← same) c.send_lines-in-Rings.ensures.front)

-- ## the form graph, if no user is a graph user

pub returns-in-NoGraph-clause-all : goal.returns-in-NoGraph-clause-all
returns-in-NoGraph-clause-all g c = λ items kept.
    (let job = c.args.job.now in
    let none : HasNoGraph job = subst (λ (k : Kept). IsKeptOf job items k) c.in-NoGraph.is kept in
    let form : c.args.form ≡ forms.Graph = subst (λ (k : Kept). IsEnoughFor c.args.form k) c.in-NoGraph.is c.requires.enough in
    let same = as-sent graph_line_text c.in-Ok.names job c.as_slice-in-NoGraph.result.now [] c.args.ended c.in-Ok.ensures (c.as_slice-in-NoGraph.ensures.value ∙ c.new-lines.ensures.items)
    ∙ graph-is job c.args.form items c.args.ended form none in
    rw (← same) c.send_lines-in-NoGraph.ensures.all)

pub returns-in-NoGraph-clause-front : goal.returns-in-NoGraph-clause-front
returns-in-NoGraph-clause-front g c = λ items kept.
    (let job = c.args.job.now in
    let none : HasNoGraph job = subst (λ (k : Kept). IsKeptOf job items k) c.in-NoGraph.is kept in
    let form : c.args.form ≡ forms.Graph = subst (λ (k : Kept). IsEnoughFor c.args.form k) c.in-NoGraph.is c.requires.enough in
    let same = as-sent graph_line_text c.in-Ok.names job c.as_slice-in-NoGraph.result.now [] c.args.ended c.in-Ok.ensures (c.as_slice-in-NoGraph.ensures.value ∙ c.new-lines.ensures.items)
    ∙ graph-is job c.args.form items c.args.ended form none in
    rw (← same) c.send_lines-in-NoGraph.ensures.front)
