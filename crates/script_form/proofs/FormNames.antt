-- The names that a line holds are names.
use Rattle.std.proofs.Common.{◌≡◌, true, List, Option, Some, None, Result, Ok, Err, refl, sym}
use Rattle.std.specs.Prelude.{option_map, IfOk, IfSome}
use Rattle.ft_base.specs.declared.user.Kind.{Kind}
use Rattle.ft_base.specs.declared.user.Kind.TheVariants.{Function, Graph, Profile, Fprobe}
use Rattle.script_text.specs.Lines.{Word}
use Rattle.script_form.specs.declared.form.LineForm.{LineForm as FormRead}
use Rattle.script_form.specs.Forms.{LineForm}
use Rattle.script_form.specs.Lines.{form_of}
use Rattle.script_form.specs.Read.{form_read}
use Rattle.script_form.specs.Names.{is_name_or_none, IsWellNamed}
use Rattle.script_form.specs.Grammar.{is_ipmodify, HasForm, nothing, first_version, second_version, third_version, a_function, a_module_function, a_depth, some_tramps, an_absent, a_ring, tracing_is_off, a_trigger, a_user, a_cpu, a_task, a_lane, a_call, a_ret, a_softirq, an_irq, an_nmi, an_iret, an_after, a_register, an_unregister, a_write, an_append, a_clear, only_pids, other_pids, an_enable, a_disable, a_max_depth, an_until, a_load, an_unload, a_schedule}
use Rattle.script_form.proofs.GrammarRules.{form_of-rule}

replaces : (kind : Kind) (ipmodify : Option Word) → is_ipmodify kind ipmodify ≡ true → is_name_or_none ipmodify ≡ true
replaces kind None is = refl
replaces Function (Some function) is = is
replaces Graph (Some function) is = absurd (cc)
replaces Profile (Some function) is = absurd (cc)
replaces (Fprobe exit cancel) (Some function) is = absurd (cc)

-- so by each rule of the grammar
well-named : {words : List Word} {form : LineForm} → HasForm words form → IsWellNamed form
well-named nothing = tt
well-named first_version = tt
well-named second_version = tt
well-named third_version = tt
well-named (a_function name is) = (is, refl)
well-named (a_module_function name owner is are) = (is, are)
well-named (a_depth word n is) = tt
well-named (some_tramps word n is) = tt
well-named (an_absent owner is) = is
well-named (a_ring word n is) = tt
well-named tracing_is_off = tt
well-named (a_trigger text) = tt
well-named (a_user u can) = (can.name, replaces u.kind u.ipmodify can.ipmodify, can.act)
well-named (a_cpu first second cpu quantum is are) = tt
well-named (a_task first second pid cpu is are) = tt
well-named (a_lane word n is) = tt
well-named (a_call function is) = is
well-named a_ret = tt
well-named a_softirq = tt
well-named an_irq = tt
well-named an_nmi = tt
well-named an_iret = tt
well-named (an_after word n is) = tt
well-named (a_register name is) = is
well-named (an_unregister name is) = is
well-named (a_write half name text is) = is
well-named (an_append half name text is) = is
well-named (a_clear half name is) = is
well-named (only_pids words list are) = tt
well-named (other_pids words list are) = tt
well-named (an_enable name is) = is
well-named (a_disable name is) = is
well-named (a_max_depth word n is) = tt
well-named (an_until first second pid acts is are) = tt
well-named (a_load owner is) = is
well-named (an_unload owner is) = is
well-named (a_schedule words items are) = tt

-- what was read from words is well named
pub read-well-named : {E : Type 0} (words : List Word) (r : Result (Option FormRead) E) → IfOk r (λ o. option_map form_read o ≡ form_of words) → IfOk r (λ o. IfSome o (λ form. IsWellNamed (form_read form)))
read-well-named words (Ok None) e = tt
read-well-named words (Ok (Some form)) e = well-named (form_of-rule (form_read form) words (sym e))
read-well-named words (Err x) e = tt
