-- The line of a user is one that the grammar writes.
use Rattle.std.proofs.Common.{◌≡◌, Bool, true, false, List, [], ◌∷◌, ◌++◌, codes, Option, Some, None, refl, sym, ap, ◌∙◌, subst, if◌then◌else◌}
use Rattle.std.specs.Prelude.{option_map}
use Rattle.std.specs.Str.{bytes_eq}
use Rattle.ft_base.specs.declared.user.Kind.{Kind}
use Rattle.ft_base.specs.declared.user.Kind.TheVariants.{Function, Graph, Profile, Fprobe}
use Rattle.script_text.specs.Lines.{Word}
use Rattle.script_text.specs.Names.{is_name, name_of}
use Rattle.script_form.specs.Forms.{UserAct, calls, irqs, LineForm, user}
use Rattle.script_form.specs.Users.{flag, argument, exit_kind, kind_of, ipmodify_of, act_with, act_of, user_of, options_form, user_with, user_form}
use Rattle.script_form.specs.Names.{is_act}
use Rattle.script_form.specs.Grammar.{word_if, argument_words, kind_words, act_words, option_words, is_kind, is_ipmodify, HasForm, a_user}
use Rattle.script_text.proofs.KeyLemmas.{is_key, at_key, named}

-- ---- options

-- the words begin with the flag, if it was read
abbrev IsFlag : Word → List Word → Bool × List Word → Type 0
IsFlag key words read = words ≡ word_if read.0 key ++ read.1

flag-words : (key : Word) (words : List Word) → IsFlag key words (flag key words)
flag-words key [] = refl
flag-words key (word ∷ words) = by (bytes_eq word key) refl
  where
    by : (b : Bool) → bytes_eq word key ≡ b → IsFlag key (word ∷ words) (if b then (true, words) else (false, word ∷ words))
    by true is = ap (λ w. w ∷ words) (is_key word key is)
    by false is = refl

-- the words begin with the key and its argument, if they were read
abbrev IsArgument : Word → List Word → Option Word × List Word → Type 0
IsArgument key words read = words ≡ argument_words key read.0 ++ read.1

argument-words : (key : Word) (words : List Word) → IsArgument key words (argument key words)
argument-words key [] = refl
argument-words key (word ∷ []) = refl
argument-words key (word ∷ said ∷ words) = by (bytes_eq word key) refl
  where
    by : (b : Bool) → bytes_eq word key ≡ b → IsArgument key (word ∷ said ∷ words) (if b then (Some said, words) else (None, word ∷ said ∷ words))
    by true is = ap (λ w. w ∷ said ∷ words) (is_key word key is)
    by false is = refl

-- ---- kinds

-- the kind's words come first, and there can be such a kind
abbrev IsKindOf : Kind × List Word → List Word → Type 0
IsKindOf kind words = (words ≡ kind_words kind.0 ++ kind.1) × (is_kind kind.0 ≡ true)

fprobe-words : (words : List Word) (exit : Bool × List Word) → words ≡ word_if exit.0 (codes "exit") ++ exit.1 → IsKindOf (exit_kind exit) (codes "fprobe" ∷ words)
fprobe-words words (false, rest) whole = (ap (λ ws. codes "fprobe" ∷ ws) whole, refl)
fprobe-words words (true, rest) whole = (ap (λ ws. codes "fprobe" ∷ ws) whole ∙ ap (λ ws. codes "fprobe" ∷ codes "exit" ∷ ws) (flag-words (codes "cancel") rest), refl)

kind-words : (words : List Word) (kind : Kind × List Word) → kind_of words ≡ Some kind → IsKindOf kind words
kind-words [] kind e = absurd (cc)
kind-words (word ∷ words) kind e =
    at_key (Some kind) K word (codes "function") words (one (Function, words) (refl, refl))
    (at_key (Some kind) K word (codes "graph") words (one (Graph, words) (refl, refl))
    (at_key (Some kind) K word (codes "profile") words (one (Profile, words) (refl, refl))
    (at_key (Some kind) K word (codes "fprobe") words (one (exit_kind (flag (codes "exit") words)) (fprobe-words words (flag (codes "exit") words) (flag-words (codes "exit") words)))
    (λ none. absurd (cc))))) e
  where
    K : List Word → Type 0
    K = IsKindOf kind

    one : {ws : List Word} (found : Kind × List Word) → IsKindOf found ws → Some found ≡ Some kind → IsKindOf kind ws
    one {ws} found is e = let same : found ≡ kind = cc in subst (λ k. IsKindOf k ws) same is

-- ---- what is replaced, and acts

ipmodify-words : (kind : Kind) (said ipmodify : Option Word) → ipmodify_of kind said ≡ Some ipmodify → (said ≡ ipmodify) × (is_ipmodify kind ipmodify ≡ true)
ipmodify-words kind None ipmodify e = let same : None ≡ ipmodify = cc in (same, subst (λ m. is_ipmodify kind m ≡ true) same refl)
ipmodify-words Function (Some word) ipmodify e = by (name_of word) refl e
  where
    by : (o : Option Word) → name_of word ≡ o → option_map Some o ≡ Some ipmodify → (Some word ≡ ipmodify) × (is_ipmodify Function ipmodify ≡ true)
    by None is e = absurd (cc)
    by (Some name) is e =
        let n = named word name is in
        let same : Some word ≡ ipmodify = ap Some n.1 ∙ (let s : Some name ≡ ipmodify = cc in s) in
        (same, subst (λ m. is_ipmodify Function m ≡ true) same n.0)
ipmodify-words Graph (Some word) ipmodify e = absurd (cc)
ipmodify-words Profile (Some word) ipmodify e = absurd (cc)
ipmodify-words (Fprobe exit cancel) (Some word) ipmodify e = absurd (cc)

-- the act's words are these, and it names a function
abbrev IsActOf : Option UserAct → List Word → Type 0
IsActOf act words = (words ≡ act_words act) × (is_act act ≡ true)

act-with : (key function : Word) (act : UserAct) → act_with key function ≡ Some act → IsActOf (Some act) (key ∷ function ∷ [])
act-with key function act e =
    at_key (Some act) (IsActOf (Some act)) key (codes "call") (function ∷ []) (calling (name_of function) refl)
    (at_key (Some act) (IsActOf (Some act)) key (codes "irq") (function ∷ []) (raising (name_of function) refl)
    (λ none. absurd (cc))) e
  where
    calling : (o : Option Word) → name_of function ≡ o → option_map calls o ≡ Some act → IsActOf (Some act) (codes "call" ∷ function ∷ [])
    calling None is e = absurd (cc)
    calling (Some name) is e =
        let n = named function name is in
        let same : calls function ≡ act = ap calls n.1 ∙ (let s : calls name ≡ act = cc in s) in
        subst (λ a. IsActOf (Some a) (codes "call" ∷ function ∷ [])) same (refl, n.0)

    raising : (o : Option Word) → name_of function ≡ o → option_map irqs o ≡ Some act → IsActOf (Some act) (codes "irq" ∷ function ∷ [])
    raising None is e = absurd (cc)
    raising (Some name) is e =
        let n = named function name is in
        let same : irqs function ≡ act = ap irqs n.1 ∙ (let s : irqs name ≡ act = cc in s) in
        subst (λ a. IsActOf (Some a) (codes "irq" ∷ function ∷ [])) same (refl, n.0)

act-words : (words : List Word) (act : Option UserAct) → act_of words ≡ Some act → IsActOf act words
act-words [] act e = let same : None ≡ act = cc in subst (λ a. IsActOf a []) same (refl, refl)
act-words (key ∷ []) act e = absurd (cc)
act-words (key ∷ function ∷ []) act e = by (act_with key function) refl e
  where
    by : (o : Option UserAct) → act_with key function ≡ o → option_map Some o ≡ Some act → IsActOf act (key ∷ function ∷ [])
    by None is e = absurd (cc)
    by (Some a) is e = let same : Some a ≡ act = cc in subst (λ o. IsActOf o (key ∷ function ∷ [])) same (act-with key function a is)
act-words (_ ∷ _ ∷ _ ∷ _) act e = absurd (cc)

-- ---- the line

module _ (form : LineForm) (name : Word) (is : is_name name ≡ true) (kind : Kind) (can : is_kind kind ≡ true) where
  -- the user of these parts, if all were read
  parts : (regs : Bool) (said : Option Word) (m : Option (Option Word)) (pid : Bool) (last : List Word) (a : Option (Option UserAct)) → ipmodify_of kind said ≡ m → act_of last ≡ a
      → user_of name kind regs m pid a ≡ Some form → HasForm (codes "user" ∷ name ∷ (kind_words kind ++ (word_if regs (codes "regs") ++ (argument_words (codes "ipmodify") said ++ (word_if pid (codes "pid") ++ last))))) form
  parts regs said None pid last a replaces acts e = absurd (cc)
  parts regs said (Some m) pid last None replaces acts e = absurd (cc)
  parts regs said (Some m) pid last (Some act) replaces acts e =
      let r = ipmodify-words kind said m replaces in
      let l = act-words last act acts in
      let same : user (record { name = name; kind = kind; regs = regs; ipmodify = m; pid = pid; act = act }) ≡ form = cc in
      let rule = a_user (record { name = name; kind = kind; regs = regs; ipmodify = m; pid = pid; act = act }) (record { name = is; kind = can; ipmodify = r.1; act = l.1 }) in
      subst (λ s. HasForm (codes "user" ∷ name ∷ (kind_words kind ++ (word_if regs (codes "regs") ++ (argument_words (codes "ipmodify") s ++ (word_if pid (codes "pid") ++ last))))) form) (sym r.0)
      (subst (λ w. HasForm (codes "user" ∷ name ∷ (kind_words kind ++ (word_if regs (codes "regs") ++ (argument_words (codes "ipmodify") m ++ (word_if pid (codes "pid") ++ w))))) form) (sym l.0)
      (subst (HasForm (codes "user" ∷ name ∷ (kind_words kind ++ option_words regs m pid act))) same rule))

  options : (words : List Word) → options_form name kind words ≡ Some form → HasForm (codes "user" ∷ name ∷ (kind_words kind ++ words)) form
  options words e =
      let regs = flag (codes "regs") words in
      let modifies = argument (codes "ipmodify") regs.1 in
      let pid = flag (codes "pid") modifies.1 in
      let whole : words ≡ word_if regs.0 (codes "regs") ++ (argument_words (codes "ipmodify") modifies.0 ++ (word_if pid.0 (codes "pid") ++ pid.1)) =
      flag-words (codes "regs") words
      ∙ ap (λ ws. word_if regs.0 (codes "regs") ++ ws) (argument-words (codes "ipmodify") regs.1)
      ∙ ap (λ ws. word_if regs.0 (codes "regs") ++ (argument_words (codes "ipmodify") modifies.0 ++ ws)) (flag-words (codes "pid") modifies.1) in
      subst (λ ws. HasForm (codes "user" ∷ name ∷ (kind_words kind ++ ws)) form) (sym whole) (parts regs.0 modifies.0 _ pid.0 pid.1 _ refl refl e)

pub user-rule : (form : LineForm) (args : List Word) → user_form args ≡ Some form → HasForm (codes "user" ∷ args) form
user-rule form [] e = absurd (cc)
user-rule form (name ∷ words) e = by (name_of name) (kind_of words) refl refl e
  where
    by : (o : Option Word) (k : Option (Kind × List Word)) → name_of name ≡ o → kind_of words ≡ k → user_with o k ≡ Some form → HasForm (codes "user" ∷ name ∷ words) form
    by None k is are e = absurd (cc)
    by (Some n) None is are e = absurd (cc)
    by (Some n) (Some kind) is are e =
        let m = named name n is in
        let k = kind-words words kind are in
        subst (λ ws. HasForm (codes "user" ∷ name ∷ ws) form) (sym k.0) (options form name m.0 kind.0 k.1 kind.1 (ap (λ x. options_form x kind.0 kind.1) m.1 ∙ e))
