-- `user NAME KIND OPTIONS`: the words are read by place, so that the word after `ipmodify`, `call` or `irq` is a function
-- however it is spelled.
use Rattle.std.specs.Prelude.{Bool, true, false, List, [], ◌∷◌, codes, Option, Some, None, option_map, if◌then◌else◌}
use Rattle.std.specs.Str.{bytes_eq}
use Rattle.ft_base.specs.declared.user.Kind.{Kind}
use Rattle.ft_base.specs.declared.user.Kind.TheVariants.{Function, Graph, Profile, Fprobe}
use Rattle.script_text.specs.Lines.{Word}
use Rattle.script_text.specs.Names.{name_of}
use Rattle.script_form.specs.Forms.{UserAct, calls, irqs, LineForm, user}

-- whether the next word is this one, and the words after it
abbrev pub flag : Word → List Word → Bool × List Word
flag key [] = (false, [])
flag key (word ∷ words) = if bytes_eq word key then (true, words) else (false, word ∷ words)

-- the word after this one, if this one is the next, and the words after both
abbrev pub argument : Word → List Word → Option Word × List Word
argument key [] = (None, [])
argument key (word ∷ []) = (None, word ∷ [])
argument key (word ∷ said ∷ words) = if bytes_eq word key then (Some said, words) else (None, word ∷ said ∷ words)

-- `fprobe exit` or `fprobe exit cancel`, and the words after it
abbrev pub cancel_kind : Bool × List Word → Kind × List Word
cancel_kind r = (Fprobe true r.0, r.1)

-- `fprobe`, `fprobe exit` or `fprobe exit cancel`, and the words after it
abbrev pub exit_kind : Bool × List Word → Kind × List Word
exit_kind r = if r.0 then cancel_kind (flag (codes "cancel") r.1) else (Fprobe false false, r.1)

-- the kind, and the words after it
abbrev pub kind_of : List Word → Option (Kind × List Word)
kind_of [] = None
kind_of (word ∷ words) =
    if bytes_eq word (codes "function") then Some (Function, words)
    else (if bytes_eq word (codes "graph") then Some (Graph, words)
    else (if bytes_eq word (codes "profile") then Some (Profile, words)
    else (if bytes_eq word (codes "fprobe") then Some (exit_kind (flag (codes "exit") words))
    else None)))

-- the function of `ipmodify`, if there is one: it is a name, and only a user of kind `function` has one
abbrev pub ipmodify_of : Kind → Option Word → Option (Option Word)
ipmodify_of kind None = Some None
ipmodify_of Function (Some said) = option_map Some (name_of said)
ipmodify_of kind (Some said) = None

-- `call FUNC` or `irq FUNC`
abbrev pub act_with : Word → Word → Option UserAct
act_with key function =
    if bytes_eq key (codes "call") then option_map calls (name_of function)
    else (if bytes_eq key (codes "irq") then option_map irqs (name_of function)
    else None)

-- what comes last: nothing, or an act
abbrev pub act_of : List Word → Option (Option UserAct)
act_of [] = Some None
act_of (key ∷ function ∷ []) = option_map Some (act_with key function)
act_of _ = None

-- the user of these parts, if all were read
abbrev pub user_of : Word → Kind → Bool → Option (Option Word) → Bool → Option (Option UserAct) → Option LineForm
user_of name kind regs None pid act = None
user_of name kind regs (Some ipmodify) pid None = None
user_of name kind regs (Some ipmodify) pid (Some act) = Some (user (record { name = name; kind = kind; regs = regs; ipmodify = ipmodify; pid = pid; act = act }))

-- the options: `regs`, `ipmodify FUNC`, `pid`, and one of `call FUNC` and `irq FUNC`
abbrev pub options_form : Word → Kind → List Word → Option LineForm
options_form name kind words =
    let regs = flag (codes "regs") words in
    let modifies = argument (codes "ipmodify") regs.1 in
    let pid = flag (codes "pid") modifies.1 in
    user_of name kind regs.0 (ipmodify_of kind modifies.0) pid.0 (act_of pid.1)

-- a user of this name, of this kind and with these options, if there are a name and a kind
abbrev pub user_with : Option Word → Option (Kind × List Word) → Option LineForm
user_with None kind = None
user_with (Some name) None = None
user_with (Some name) (Some kind) = options_form name kind.0 kind.1

-- `user NAME KIND OPTIONS`
abbrev pub user_form : List Word → Option LineForm
user_form [] = None
user_form (name ∷ words) = user_with (name_of name) (kind_of words)
