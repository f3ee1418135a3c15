-- The grammar of lines: what it is that words say this, by one rule for each way to write it.
use Rattle.std.specs.Prelude.{◌≡◌, ℕ, ◌||◌, not, Bool, true, false, List, [], ◌∷◌, ◌++◌, codes, Option, Some, None, if◌then◌else◌}
use Rattle.ft_base.specs.declared.context.Ctx.TheVariants.{Softirq, Irq, Nmi}
use Rattle.ft_base.specs.declared.user.Half.{Half}
use Rattle.ft_base.specs.declared.user.Half.TheVariants.{Filter, Notrace}
use Rattle.ft_base.specs.declared.user.Kind.{Kind}
use Rattle.ft_base.specs.declared.user.Kind.TheVariants.{Function, Graph, Profile, Fprobe}
use Rattle.script_text.specs.Lines.{Word}
use Rattle.script_text.specs.Words.{all_read}
use Rattle.script_text.specs.Names.{is_name, number_of}
use Rattle.ft_schedule.specs.declared.item.SchedItem.{SchedItem}
use Rattle.ft_schedule.specs.Items.{some_items_of}
use Rattle.script_form.specs.Names.{is_act}
use Rattle.script_form.specs.Forms.{UserAct, calls, irqs, UserLine, LineForm, skip, version, func, depth, tramps, absent, ring, tracing_off, trigger, user, new_cpu, new_task, new_lane, call, ret, raise, lower, after, register, unregister, write, pids, enable, disable, max_depth, until, load, unload, sched}

-- ---- the words of a user's line

-- this word, or none
abbrev pub word_if : Bool → Word → List Word
word_if is word = if is then word ∷ [] else []

-- this word and its argument, if there is one
abbrev pub argument_words : Word → Option Word → List Word
argument_words word None = []
argument_words word (Some argument) = word ∷ argument ∷ []

-- a kind
abbrev pub kind_words : Kind → List Word
kind_words Function = codes "function" ∷ []
kind_words Graph = codes "graph" ∷ []
kind_words Profile = codes "profile" ∷ []
kind_words (Fprobe exit cancel) = codes "fprobe" ∷ (word_if exit (codes "exit") ++ word_if cancel (codes "cancel"))

-- an act
abbrev pub act_words : Option UserAct → List Word
act_words None = []
act_words (Some (calls function)) = codes "call" ∷ function ∷ []
act_words (Some (irqs function)) = codes "irq" ∷ function ∷ []

-- the options: `regs`, `ipmodify FUNC`, `pid` and an act, in this order
abbrev pub option_words : Bool → Option Word → Bool → Option UserAct → List Word
option_words regs ipmodify pid act = word_if regs (codes "regs") ++ (argument_words (codes "ipmodify") ipmodify ++ (word_if pid (codes "pid") ++ act_words act))

-- the line after `user`
abbrev pub user_words : UserLine → List Word
user_words u = u.name ∷ (kind_words u.kind ++ option_words u.regs u.ipmodify u.pid u.act)

-- an entry handler cancels an exit handler only if there is one
abbrev pub is_kind : Kind → Bool
is_kind (Fprobe exit cancel) = exit || not cancel
is_kind _ = true

-- the function that runs in place of others is a name, and only a user of kind `function` has one
abbrev pub is_ipmodify : Kind → Option Word → Bool
is_ipmodify kind None = true
is_ipmodify Function (Some function) = is_name function
is_ipmodify _ (Some function) = false

-- a user that a line can declare
pub record IsUser (u : UserLine) : Type 0 where
  pub name : is_name u.name ≡ true
  pub kind : is_kind u.kind ≡ true
  pub ipmodify : is_ipmodify u.kind u.ipmodify ≡ true
  pub act : is_act u.act ≡ true

-- ---- lines

-- the key of a write
abbrev pub half_word : Half → Word
half_word Filter = codes "filter"
half_word Notrace = codes "notrace"

-- the words say this
pub data HasForm : List Word → LineForm → Type 0 where
  nothing : HasForm [] skip
  first_version : HasForm (codes "ftrace" ∷ codes "1" ∷ []) (version 1)
  second_version : HasForm (codes "ftrace" ∷ codes "2" ∷ []) (version 2)
  third_version : HasForm (codes "ftrace" ∷ codes "3" ∷ []) (version 3)
  a_function : (name : Word) → is_name name ≡ true → HasForm (codes "func" ∷ name ∷ []) (func name None)
  a_module_function : (name owner : Word) → is_name name ≡ true → is_name owner ≡ true → HasForm (codes "func" ∷ name ∷ owner ∷ []) (func name (Some owner))
  a_depth : (word : Word) (n : ℕ) → number_of word ≡ Some n → HasForm (codes "depth" ∷ word ∷ []) (depth n)
  some_tramps : (word : Word) (n : ℕ) → number_of word ≡ Some n → HasForm (codes "tramps" ∷ word ∷ []) (tramps n)
  an_absent : (owner : Word) → is_name owner ≡ true → HasForm (codes "absent" ∷ owner ∷ []) (absent owner)
  a_ring : (word : Word) (n : ℕ) → number_of word ≡ Some n → HasForm (codes "ring" ∷ word ∷ []) (ring n)
  tracing_is_off : HasForm (codes "tracing" ∷ codes "off" ∷ []) tracing_off
  a_trigger : (text : Word) → HasForm (codes "trigger" ∷ text ∷ []) (trigger text)
  a_user : (u : UserLine) → IsUser u → HasForm (codes "user" ∷ user_words u) (user u)
  a_cpu : (first second : Word) (cpu quantum : ℕ) → number_of first ≡ Some cpu → number_of second ≡ Some quantum → HasForm (codes "cpu" ∷ first ∷ codes "quantum" ∷ second ∷ []) (new_cpu cpu quantum)
  a_task : (first second : Word) (pid cpu : ℕ) → number_of first ≡ Some pid → number_of second ≡ Some cpu → HasForm (codes "task" ∷ first ∷ codes "cpu" ∷ second ∷ []) (new_task pid cpu)
  a_lane : (word : Word) (n : ℕ) → number_of word ≡ Some n → HasForm (codes "lane" ∷ word ∷ []) (new_lane n)
  a_call : (function : Word) → is_name function ≡ true → HasForm (codes "call" ∷ function ∷ []) (call function)
  a_ret : HasForm (codes "ret" ∷ []) ret
  a_softirq : HasForm (codes "softirq" ∷ []) (raise Softirq)
  an_irq : HasForm (codes "irq" ∷ []) (raise Irq)
  an_nmi : HasForm (codes "nmi" ∷ []) (raise Nmi)
  an_iret : HasForm (codes "iret" ∷ []) lower
  an_after : (word : Word) (n : ℕ) → number_of word ≡ Some n → HasForm (codes "after" ∷ word ∷ []) (after n)
  a_register : (name : Word) → is_name name ≡ true → HasForm (codes "ctl" ∷ codes "register" ∷ name ∷ []) (register name)
  an_unregister : (name : Word) → is_name name ≡ true → HasForm (codes "ctl" ∷ codes "unregister" ∷ name ∷ []) (unregister name)
  a_write : (half : Half) (name text : Word) → is_name name ≡ true → HasForm (codes "ctl" ∷ half_word half ∷ name ∷ codes ">" ∷ text ∷ []) (write half false name text)
  an_append : (half : Half) (name text : Word) → is_name name ≡ true → HasForm (codes "ctl" ∷ half_word half ∷ name ∷ codes ">>" ∷ text ∷ []) (write half true name text)
  a_clear : (half : Half) (name : Word) → is_name name ≡ true → HasForm (codes "ctl" ∷ half_word half ∷ name ∷ codes ">" ∷ []) (write half false name [])
  only_pids : (words : List Word) (list : List ℕ) → all_read number_of words ≡ Some list → HasForm (codes "ctl" ∷ codes "pid" ∷ words) (pids false list)
  other_pids : (words : List Word) (list : List ℕ) → all_read number_of words ≡ Some list → HasForm (codes "ctl" ∷ codes "nopid" ∷ words) (pids true list)
  an_enable : (name : Word) → is_name name ≡ true → HasForm (codes "ctl" ∷ codes "enable" ∷ name ∷ []) (enable name)
  a_disable : (name : Word) → is_name name ≡ true → HasForm (codes "ctl" ∷ codes "disable" ∷ name ∷ []) (disable name)
  a_max_depth : (word : Word) (n : ℕ) → number_of word ≡ Some n → HasForm (codes "ctl" ∷ codes "maxdepth" ∷ word ∷ []) (max_depth n)
  an_until : (first second : Word) (pid acts : ℕ) → number_of first ≡ Some pid → number_of second ≡ Some acts → HasForm (codes "ctl" ∷ codes "until" ∷ first ∷ second ∷ []) (until pid acts)
  a_load : (owner : Word) → is_name owner ≡ true → HasForm (codes "ctl" ∷ codes "load" ∷ owner ∷ []) (load owner)
  an_unload : (owner : Word) → is_name owner ≡ true → HasForm (codes "ctl" ∷ codes "unload" ∷ owner ∷ []) (unload owner)
  a_schedule : (words : List Word) (items : List SchedItem) → some_items_of words ≡ Some items → HasForm (codes "sched" ∷ words) (sched items)
