-- What the grammar writes for a form is read as that form.
use Rattle.std.proofs.Common.{◌≡◌, Bool, true, false, List, [], ◌++◌, codes, Option, Some, None, refl, ap, ap₂, ◌∙◌, if◌then◌else◌}
use Rattle.std.specs.Prelude.{option_map}
use Rattle.ft_base.specs.declared.user.Half.TheVariants.{Filter, Notrace}
use Rattle.ft_base.specs.declared.user.Kind.{Kind}
use Rattle.ft_base.specs.declared.user.Kind.TheVariants.{Function, Graph, Profile, Fprobe}
use Rattle.script_text.specs.Lines.{Word}
use Rattle.script_text.specs.Words.{both}
use Rattle.script_text.specs.Names.{is_name}
use Rattle.script_form.specs.Forms.{UserAct, calls, irqs, UserLine, LineForm, func, depth, tramps, absent, ring, user, new_cpu, new_task, new_lane, call, after, register, unregister, write, pids, enable, disable, max_depth, until, load, unload, sched}
use Rattle.script_form.specs.Users.{flag, cancel_kind, exit_kind, kind_of, ipmodify_of, act_of, user_of, options_form, user_with, user_form}
use Rattle.script_form.specs.Lines.{form_of}
use Rattle.script_form.specs.Names.{is_act}
use Rattle.script_form.specs.Grammar.{kind_words, act_words, option_words, user_words, is_kind, is_ipmodify, IsUser, HasForm, nothing, first_version, second_version, third_version, a_function, a_module_function, a_depth, some_tramps, an_absent, a_ring, tracing_is_off, a_trigger, a_user, a_cpu, a_task, a_lane, a_call, a_ret, a_softirq, an_irq, an_nmi, an_iret, an_after, a_register, an_unregister, a_write, an_append, a_clear, only_pids, other_pids, an_enable, a_disable, a_max_depth, an_until, a_load, an_unload, a_schedule}

-- ---- users

name-is : (word : Word) → is_name word ≡ true → (if is_name word then Some word else None) ≡ Some word
name-is word named = ap (λ b. if b then Some word else None) named

ipmodify-is : (kind : Kind) (ipmodify : Option Word) → is_ipmodify kind ipmodify ≡ true → ipmodify_of kind ipmodify ≡ Some ipmodify
ipmodify-is kind None named = refl
ipmodify-is Function (Some function) named = ap (option_map Some) (name-is function named)
ipmodify-is Graph (Some function) named = absurd (cc)
ipmodify-is Profile (Some function) named = absurd (cc)
ipmodify-is (Fprobe exit cancel) (Some function) named = absurd (cc)

act-is : (act : Option UserAct) → is_act act ≡ true → act_of (act_words act) ≡ Some act
act-is None named = refl
act-is (Some (calls function)) named = ap (λ o. option_map Some (option_map calls o)) (name-is function named)
act-is (Some (irqs function)) named = ap (λ o. option_map Some (option_map irqs o)) (name-is function named)

options-are : (name : Word) (kind : Kind) (regs : Bool) (ipmodify : Option Word) (pid : Bool) (act : Option UserAct) → ipmodify_of kind ipmodify ≡ Some ipmodify → act_of (act_words act) ≡ Some act
    → options_form name kind (option_words regs ipmodify pid act) ≡ Some (user (record { name = name; kind = kind; regs = regs; ipmodify = ipmodify; pid = pid; act = act }))
options-are name kind true (Some function) true None replaces acts = ap₂ (λ m a. user_of name kind true m true a) replaces acts
options-are name kind true (Some function) true (Some (calls other)) replaces acts = ap₂ (λ m a. user_of name kind true m true a) replaces acts
options-are name kind true (Some function) true (Some (irqs other)) replaces acts = ap₂ (λ m a. user_of name kind true m true a) replaces acts
options-are name kind true (Some function) false None replaces acts = ap₂ (λ m a. user_of name kind true m false a) replaces acts
options-are name kind true (Some function) false (Some (calls other)) replaces acts = ap₂ (λ m a. user_of name kind true m false a) replaces acts
options-are name kind true (Some function) false (Some (irqs other)) replaces acts = ap₂ (λ m a. user_of name kind true m false a) replaces acts
options-are name kind true None true None replaces acts = ap₂ (λ m a. user_of name kind true m true a) replaces acts
options-are name kind true None true (Some (calls other)) replaces acts = ap₂ (λ m a. user_of name kind true m true a) replaces acts
options-are name kind true None true (Some (irqs other)) replaces acts = ap₂ (λ m a. user_of name kind true m true a) replaces acts
options-are name kind true None false None replaces acts = ap₂ (λ m a. user_of name kind true m false a) replaces acts
options-are name kind true None false (Some (calls other)) replaces acts = ap₂ (λ m a. user_of name kind true m false a) replaces acts
options-are name kind true None false (Some (irqs other)) replaces acts = ap₂ (λ m a. user_of name kind true m false a) replaces acts
options-are name kind false (Some function) true None replaces acts = ap₂ (λ m a. user_of name kind false m true a) replaces acts
options-are name kind false (Some function) true (Some (calls other)) replaces acts = ap₂ (λ m a. user_of name kind false m true a) replaces acts
options-are name kind false (Some function) true (Some (irqs other)) replaces acts = ap₂ (λ m a. user_of name kind false m true a) replaces acts
options-are name kind false (Some function) false None replaces acts = ap₂ (λ m a. user_of name kind false m false a) replaces acts
options-are name kind false (Some function) false (Some (calls other)) replaces acts = ap₂ (λ m a. user_of name kind false m false a) replaces acts
options-are name kind false (Some function) false (Some (irqs other)) replaces acts = ap₂ (λ m a. user_of name kind false m false a) replaces acts
options-are name kind false None true None replaces acts = ap₂ (λ m a. user_of name kind false m true a) replaces acts
options-are name kind false None true (Some (calls other)) replaces acts = ap₂ (λ m a. user_of name kind false m true a) replaces acts
options-are name kind false None true (Some (irqs other)) replaces acts = ap₂ (λ m a. user_of name kind false m true a) replaces acts
options-are name kind false None false None replaces acts = ap₂ (λ m a. user_of name kind false m false a) replaces acts
options-are name kind false None false (Some (calls other)) replaces acts = ap₂ (λ m a. user_of name kind false m false a) replaces acts
options-are name kind false None false (Some (irqs other)) replaces acts = ap₂ (λ m a. user_of name kind false m false a) replaces acts

-- no option is one of an fprobe
no_exit : (regs : Bool) (ipmodify : Option Word) (pid : Bool) (act : Option UserAct) → flag (codes "exit") (option_words regs ipmodify pid act) ≡ (false, option_words regs ipmodify pid act)
no_exit true ipmodify pid act = refl
no_exit false (Some function) pid act = refl
no_exit false None true act = refl
no_exit false None false None = refl
no_exit false None false (Some (calls function)) = refl
no_exit false None false (Some (irqs function)) = refl

no_cancel : (regs : Bool) (ipmodify : Option Word) (pid : Bool) (act : Option UserAct) → flag (codes "cancel") (option_words regs ipmodify pid act) ≡ (false, option_words regs ipmodify pid act)
no_cancel true ipmodify pid act = refl
no_cancel false (Some function) pid act = refl
no_cancel false None true act = refl
no_cancel false None false None = refl
no_cancel false None false (Some (calls function)) = refl
no_cancel false None false (Some (irqs function)) = refl

kind-is : (kind : Kind) (options : List Word) → is_kind kind ≡ true → flag (codes "exit") options ≡ (false, options) → flag (codes "cancel") options ≡ (false, options) → kind_of (kind_words kind ++ options) ≡ Some (kind, options)
kind-is Function options can exit cancel = refl
kind-is Graph options can exit cancel = refl
kind-is Profile options can exit cancel = refl
kind-is (Fprobe false false) options can exit cancel = ap (λ r. Some (exit_kind r)) exit
kind-is (Fprobe false true) options can exit cancel = absurd (cc)
kind-is (Fprobe true false) options can exit cancel = ap (λ r. Some (cancel_kind r)) cancel
kind-is (Fprobe true true) options can exit cancel = refl

user-is : (u : UserLine) → IsUser u → user_form (user_words u) ≡ Some (user u)
user-is u can =
    let kind = kind-is u.kind (option_words u.regs u.ipmodify u.pid u.act) can.kind (no_exit u.regs u.ipmodify u.pid u.act) (no_cancel u.regs u.ipmodify u.pid u.act) in
    ap₂ user_with (name-is u.name can.name) kind ∙ options-are u.name u.kind u.regs u.ipmodify u.pid u.act (ipmodify-is u.kind u.ipmodify can.ipmodify) (act-is u.act can.act)

-- ---- lines

pub form_of-written : (words : List Word) (form : LineForm) → HasForm words form → form_of words ≡ Some form
form_of-written _ _ nothing = refl
form_of-written _ _ first_version = refl
form_of-written _ _ second_version = refl
form_of-written _ _ third_version = refl
form_of-written _ _ (a_function name named) = ap (option_map (λ n. func n None)) (name-is name named)
form_of-written _ _ (a_module_function name owner named owned) = ap₂ (both (λ n o. func n (Some o))) (name-is name named) (name-is owner owned)
form_of-written _ _ (a_depth word n is) = ap (option_map depth) is
form_of-written _ _ (some_tramps word n is) = ap (option_map tramps) is
form_of-written _ _ (an_absent owner named) = ap (option_map absent) (name-is _ named)
form_of-written _ _ (a_ring word n is) = ap (option_map ring) is
form_of-written _ _ tracing_is_off = refl
form_of-written _ _ (a_trigger text) = refl
form_of-written _ _ (a_user u can) = user-is u can
form_of-written _ _ (a_cpu first second cpu quantum is are) = ap₂ (both new_cpu) is are
form_of-written _ _ (a_task first second pid cpu is are) = ap₂ (both new_task) is are
form_of-written _ _ (a_lane word n is) = ap (option_map new_lane) is
form_of-written _ _ (a_call function named) = ap (option_map call) (name-is _ named)
form_of-written _ _ a_ret = refl
form_of-written _ _ a_softirq = refl
form_of-written _ _ an_irq = refl
form_of-written _ _ an_nmi = refl
form_of-written _ _ an_iret = refl
form_of-written _ _ (an_after word n is) = ap (option_map after) is
form_of-written _ _ (a_register name named) = ap (option_map register) (name-is _ named)
form_of-written _ _ (an_unregister name named) = ap (option_map unregister) (name-is _ named)
form_of-written _ _ (a_write Filter name text named) = ap (λ o. both (λ n append. write Filter append n text) o (Some false)) (name-is name named)
form_of-written _ _ (a_write Notrace name text named) = ap (λ o. both (λ n append. write Notrace append n text) o (Some false)) (name-is name named)
form_of-written _ _ (an_append Filter name text named) = ap (λ o. both (λ n append. write Filter append n text) o (Some true)) (name-is name named)
form_of-written _ _ (an_append Notrace name text named) = ap (λ o. both (λ n append. write Notrace append n text) o (Some true)) (name-is name named)
form_of-written _ _ (a_clear Filter name named) = ap (option_map (λ n. write Filter false n [])) (name-is name named)
form_of-written _ _ (a_clear Notrace name named) = ap (option_map (λ n. write Notrace false n [])) (name-is name named)
form_of-written _ _ (only_pids words list are) = ap (option_map (pids false)) are
form_of-written _ _ (other_pids words list are) = ap (option_map (pids true)) are
form_of-written _ _ (an_enable name named) = ap (option_map enable) (name-is _ named)
form_of-written _ _ (a_disable name named) = ap (option_map disable) (name-is _ named)
form_of-written _ _ (a_max_depth word n is) = ap (option_map max_depth) is
form_of-written _ _ (an_until first second pid acts is are) = ap₂ (both until) is are
form_of-written _ _ (a_load owner named) = ap (option_map load) (name-is _ named)
form_of-written _ _ (an_unload owner named) = ap (option_map unload) (name-is _ named)
form_of-written _ _ (a_schedule words items are) = ap (option_map sched) are
