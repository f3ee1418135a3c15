use Rattle.std.proofs.Common.{◌≡◌, ◌<◌, ◌∷◌, [], length, refl, ap, ap₂, sym, subst, ◌∙◌}
use Rattle.ft_base.specs.Marks.{Marks}
use Rattle.ft_base.specs.Job.{Notrace}
use Rattle.ft_base.specs.Desk.{Desk, answer_on, is_accepted}
use Rattle.module_table.proofs.OpeningLaws.{masks-depth}
use Rattle.site_set.specs.Edits.{plain_edit}
use Rattle.site_set.proofs.MarksLemmas.{length-union}
use Rattle.ft_desk.specs.Commands.{command_of, IsInShape}
use Rattle.ft_desk.specs.Declarations.{job_of}
use Rattle.module_table.specs.Lines.{Between, Plain, hidden, hidden_now, mask, desk_after, command_for, commands_for, answer_to, after_line}
use Rattle.module_table.specs.Made.{Appends}
use Rattle.module_table.specs.ModulesInvariant.{between}
use Rattle.module_table.proofs.MadeLaws.{appends-one}
use Rattle.module_table.proofs.BetweenLaws.{own-edits, own-sized, hidden-sized, command-masks, after-edit, reached-edit, kept-by}
use Rattle.module_table.proofs.modules.Modules.edit_own.Goals as goal

pub mask-requires : goal.mask-requires
mask-requires c =
    let b = between c.self.inside in
    let is = c.self.invariant.reached in
    let l : c.args.user.0 < length b.declared.specs = subst (λ (x : Between). c.args.user.0 < length x.declared.specs) (sym c.self.view_is) c.requires.user in
    own-sized b is c.args.user.0 l (plain_edit c.args.edit.now) c.index.result.now c.in_ok-own.own c.index.ensures c.in_ok-own.ensures
    ∙ sym (ap length (c.in_ok-hidden.ensures ∙ ap₂ hidden c.as_slice.ensures.value c.as_slice-2.ensures.value) ∙ hidden-sized b is)

pub run_one-requires-clause-numbers : goal.run_one-requires-clause-numbers
run_one-requires-clause-numbers c =
    let b = between c.self.inside in
    let is = c.self.invariant.reached in
    let l : c.args.user.0 < length b.declared.specs = subst (λ (x : Between). c.args.user.0 < length x.declared.specs) (sym c.self.view_is) c.requires.user in
    subst (IsInShape b.declared) (sym c.in_ok-command.ensures)
    (l, length-union c.in_ok-own.own c.in_ok-hidden.hidden ∙ own-sized b is c.args.user.0 l (plain_edit c.args.edit.now) c.index.result.now c.in_ok-own.own c.index.ensures c.in_ok-own.ensures)

pub invariant_of-self-2 : goal.invariant_of-self-2
invariant_of-self-2 c =
    let m = c.self.inside in
    let b = between m in
    let is = c.self.invariant.reached in
    let u = c.args.user.0 in
    let e = plain_edit c.args.edit.now in
    let own = c.in_ok-own.own in
    let l : u < length b.declared.specs = subst (λ (x : Between). u < length x.declared.specs) (sym c.self.view_is) c.requires.user in
    let functions : c.in_ok-hidden.hidden ≡ hidden_now b = c.in_ok-hidden.ensures ∙ ap₂ hidden c.as_slice.ensures.value c.as_slice-2.ensures.value in
    let plain : command_of b.declared.tasks c.in_ok-command.command ≡ mask u own (hidden_now b) = ap (command_of b.declared.tasks) c.in_ok-command.ensures ∙ ap (λ (h : Marks). mask u own h) functions in
    let a : is_accepted (answer_on (job_of b.declared) b.desk (mask u own (hidden_now b))) ≡ c.is_accepted.result =
    ap (λ p. is_accepted (answer_on (job_of b.declared) b.desk p)) (sym plain) ∙ sym (ap is_accepted c.in_ok-answer.ensures.answer) ∙ sym c.is_accepted.ensures in
    let state : c.run_one.new.desk.state ≡ desk_after (job_of b.declared) b.desk b.commands (mask u own (hidden_now b) ∷ []) =
    c.in_ok-answer.ensures.state ∙ ap (λ p. desk_after (job_of b.declared) b.desk b.commands (p ∷ [])) plain in
    let edits = own-edits b is u l e c.index.result.now own c.index.ensures c.in_ok-own.ensures in
    kept-by m _ c.self.invariant
    (reached-edit b u e c.requires.selects own edits c.is_accepted.result a
    c.run_one.new.desk.declared c.keep_if.new.sets.items c.run_one.new.desk.state c.run_one.new.desk.commands c.in_ok-answer.ensures.declared c.keep_if.ensures state c.in_ok-answer.ensures.count is l)
    refl c.in_ok-answer.ensures.declared refl
    (c.self.invariant.depth ∙ sym (masks-depth (job_of b.declared) b.desk b.commands u (own ∷ []) (hidden_now b)) ∙ sym (ap (λ (d : Desk). d.depth) state))

pub returns-clause-answer : goal.returns-clause-answer
returns-clause-answer c =
    let m = c.self.inside in
    let b = between m in
    let is = c.self.invariant.reached in
    let u = c.args.user.0 in
    let e = plain_edit c.args.edit.now in
    let own = c.in_ok-own.own in
    let l : u < length b.declared.specs = subst (λ (x : Between). u < length x.declared.specs) (sym c.self.view_is) c.requires.user in
    let functions : c.in_ok-hidden.hidden ≡ hidden_now b = c.in_ok-hidden.ensures ∙ ap₂ hidden c.as_slice.ensures.value c.as_slice-2.ensures.value in
    let plain : command_of b.declared.tasks c.in_ok-command.command ≡ mask u own (hidden_now b) = ap (command_of b.declared.tasks) c.in_ok-command.ensures ∙ ap (λ (h : Marks). mask u own h) functions in
    let a : is_accepted (answer_on (job_of b.declared) b.desk (mask u own (hidden_now b))) ≡ c.is_accepted.result =
    ap (λ p. is_accepted (answer_on (job_of b.declared) b.desk p)) (sym plain) ∙ sym (ap is_accepted c.in_ok-answer.ensures.answer) ∙ sym c.is_accepted.ensures in
    let state : c.run_one.new.desk.state ≡ desk_after (job_of b.declared) b.desk b.commands (mask u own (hidden_now b) ∷ []) =
    c.in_ok-answer.ensures.state ∙ ap (λ p. desk_after (job_of b.declared) b.desk b.commands (p ∷ [])) plain in
    let edits = own-edits b is u l e c.index.result.now own c.index.ensures c.in_ok-own.ensures in
    c.in_ok-answer.ensures.answer ∙ ap (answer_on (job_of b.declared) b.desk) (plain ∙ sym (command-masks b u e c.requires.selects own edits))
    ∙ ap (λ (x : Between). answer_to x (Plain (Notrace u e))) c.self.view_is

pub returns-clause-added : goal.returns-clause-added
returns-clause-added c =
    let m = c.self.inside in
    let b = between m in
    let is = c.self.invariant.reached in
    let u = c.args.user.0 in
    let e = plain_edit c.args.edit.now in
    let own = c.in_ok-own.own in
    let l : u < length b.declared.specs = subst (λ (x : Between). u < length x.declared.specs) (sym c.self.view_is) c.requires.user in
    let functions : c.in_ok-hidden.hidden ≡ hidden_now b = c.in_ok-hidden.ensures ∙ ap₂ hidden c.as_slice.ensures.value c.as_slice-2.ensures.value in
    let plain : command_of b.declared.tasks c.in_ok-command.command ≡ mask u own (hidden_now b) = ap (command_of b.declared.tasks) c.in_ok-command.ensures ∙ ap (λ (h : Marks). mask u own h) functions in
    let a : is_accepted (answer_on (job_of b.declared) b.desk (mask u own (hidden_now b))) ≡ c.is_accepted.result =
    ap (λ p. is_accepted (answer_on (job_of b.declared) b.desk p)) (sym plain) ∙ sym (ap is_accepted c.in_ok-answer.ensures.answer) ∙ sym c.is_accepted.ensures in
    let state : c.run_one.new.desk.state ≡ desk_after (job_of b.declared) b.desk b.commands (mask u own (hidden_now b) ∷ []) =
    c.in_ok-answer.ensures.state ∙ ap (λ p. desk_after (job_of b.declared) b.desk b.commands (p ∷ [])) plain in
    let edits = own-edits b is u l e c.index.result.now own c.index.ensures c.in_ok-own.ensures in
    let shape : IsInShape b.declared c.in_ok-command.command = subst (IsInShape b.declared) (sym c.in_ok-command.ensures)
    (l, length-union own c.in_ok-hidden.hidden ∙ own-sized b is u l e c.index.result.now own c.index.ensures c.in_ok-own.ensures) in
    subst (λ (x : Between). Appends x.declared c.args.out.now.items c.run_one.new.out.items (commands_for x (Plain (Notrace u e)))) c.self.view_is
    (appends-one b.declared c.args.out.now.items c.run_one.new.out.items c.in_ok-command.command (command_for b (Notrace u e)) c.in_ok-answer.ensures.added
    (plain ∙ sym (command-masks b u e c.requires.selects own edits)) shape)

pub returns-clause-after : goal.returns-clause-after
returns-clause-after c =
    let m = c.self.inside in
    let b = between m in
    let is = c.self.invariant.reached in
    let u = c.args.user.0 in
    let e = plain_edit c.args.edit.now in
    let own = c.in_ok-own.own in
    let l : u < length b.declared.specs = subst (λ (x : Between). u < length x.declared.specs) (sym c.self.view_is) c.requires.user in
    let functions : c.in_ok-hidden.hidden ≡ hidden_now b = c.in_ok-hidden.ensures ∙ ap₂ hidden c.as_slice.ensures.value c.as_slice-2.ensures.value in
    let plain : command_of b.declared.tasks c.in_ok-command.command ≡ mask u own (hidden_now b) = ap (command_of b.declared.tasks) c.in_ok-command.ensures ∙ ap (λ (h : Marks). mask u own h) functions in
    let a : is_accepted (answer_on (job_of b.declared) b.desk (mask u own (hidden_now b))) ≡ c.is_accepted.result =
    ap (λ p. is_accepted (answer_on (job_of b.declared) b.desk p)) (sym plain) ∙ sym (ap is_accepted c.in_ok-answer.ensures.answer) ∙ sym c.is_accepted.ensures in
    let state : c.run_one.new.desk.state ≡ desk_after (job_of b.declared) b.desk b.commands (mask u own (hidden_now b) ∷ []) =
    c.in_ok-answer.ensures.state ∙ ap (λ p. desk_after (job_of b.declared) b.desk b.commands (p ∷ [])) plain in
    let edits = own-edits b is u l e c.index.result.now own c.index.ensures c.in_ok-own.ensures in
    after-edit b u e c.requires.selects own edits c.is_accepted.result a
    c.run_one.new.desk.declared c.keep_if.new.sets.items c.run_one.new.desk.state c.run_one.new.desk.commands c.in_ok-answer.ensures.declared c.keep_if.ensures state c.in_ok-answer.ensures.count
    ∙ ap (λ (x : Between). after_line x (Plain (Notrace u e))) c.self.view_is
