-- What is known between lines, part by part, and what is kept after each step.
use Rattle.std.proofs.Common.{cond, ◌≡◌, ℕ, suc, ◌+◌, ◌<◌, ◌≤◌, Bool, true, false, List, [], ◌∷◌, ◌++◌, length, map, is_some, get_or, set, Option, refl, sym, ap, ap₂, ◌∙◌, subst, arith}
use Rattle.ft_base.specs.Marks.{Marks}
use Rattle.std.proofs.lemmas.List.{map_push, length-map, get_or_read}
use Rattle.filter_hash.proofs.EditLaws.{length-edited}
use Rattle.module_table.proofs.HiddenLaws.{length-hidden}
use Rattle.ft_base.specs.Job.{Command as PlainCommand, MaxDepth as PlainMaxDepth, Notrace as PlainNotrace, Edit, Spec as PlainSpec, funcs}
use Rattle.ft_base.specs.Desk.{Desk, answer_on, is_accepted, edited, user_at}
use Rattle.ft_base.specs.WellFormed.{IsNamedIn}
use Rattle.ft_base.proofs.Small.{false_true}
use Rattle.site_set.specs.Edits.{plain_edit}
use Rattle.ft_desk.specs.declared.command.Command.{Command}
use Rattle.ft_desk.specs.declared.command.Command.TheVariants.{Register, Unregister, Filter, Notrace, Pid, NoPid, Enable, Disable, MaxDepth}
use Rattle.ft_desk.specs.Commands.{command_of}
use Rattle.ft_desk.specs.Declarations.{Declared, bare, job_of}
use Rattle.user_specs.specs.declared.spec.Spec.{Spec}
use Rattle.user_specs.specs.Plain.{spec_of}
use Rattle.ft_base.specs.declared.limits.TheConstants.{FUNCS, USERS}
use Rattle.module_table.specs.declared.modules.Modules.TheInside.{Inside}
use Rattle.module_table.specs.ModulesInvariant.{between, ModulesInvariant}
use Rattle.module_table.specs.Lines.{Between, Plain, Load, Unload, hidden, masks_for, commands_for, own_of, own_by, hidden_now, command_for, desk_after, after_line, answer_to, mask, selects}
use Rattle.module_table.specs.Made.{is_masking, depth_after, mask_commands}
use Rattle.module_table.specs.Reached.{IsReached, moved, moving, kept_back}
use Rattle.module_table.proofs.MadeLaws.{unmasked, depth-is, mask-commands}
use Rattle.module_table.proofs.CommandLaws.{reached-command, edit-selects}

-- what is known, by its parts
abbrev pub made : Declared → List (Option ℕ) → Option Marks → List Bool → List Marks → Desk → ℕ → Between
made d owners first loaded own desk commands = record { declared = d; owners = owners; first = first; loaded = loaded; own = own; desk = desk; commands = commands }

pub made-same : (owners : List (Option ℕ)) (first : Option Marks) (d d' : Declared) (loaded loaded' : List Bool) (own own' : List Marks) (desk desk' : Desk) (n n' : ℕ)
    → d ≡ d' → loaded ≡ loaded' → own ≡ own' → desk ≡ desk' → n ≡ n' → made d owners first loaded own desk n ≡ made d' owners first loaded' own' desk' n'
made-same owners first d d' loaded loaded' own own' desk desk' n n' e1 e2 e3 e4 e5 =
    ap (λ x. made x owners first loaded own desk n) e1 ∙ ap (λ x. made d' owners first x own desk n) e2 ∙ ap (λ x. made d' owners first loaded' x desk n) e3
    ∙ ap (λ x. made d' owners first loaded' own' x n) e4 ∙ ap (λ x. made d' owners first loaded' own' desk' x) e5

-- ## after a command that is carried out as it is

own-unmasked : (b : Between) (tasks : ℕ) (c : Command) → is_masking c ≡ false
    → own_by b (is_accepted (answer_on (job_of b.declared) b.desk (command_of tasks c))) (command_of tasks c) ≡ b.own
own-unmasked b tasks c e = by c (is_accepted (answer_on (job_of b.declared) b.desk (command_of tasks c))) refl e
  where
    by : (c : Command) (a : Bool) → is_accepted (answer_on (job_of b.declared) b.desk (command_of tasks c)) ≡ a → is_masking c ≡ false → own_by b a (command_of tasks c) ≡ b.own
    by (Register u) true h e = refl
    by (Register u) false h e = refl
    by (Unregister u) true h e = refl
    by (Unregister u) false h e = refl
    by (Filter u x) true h e = refl
    by (Filter u x) false h e = refl
    by (Notrace u x) true h e = false_true (sym (edit-selects (job_of b.declared) b.desk u.0 (plain_edit x) (user_at b.desk u.0).filter (edited (funcs (job_of b.declared)) (user_at b.desk u.0).notrace (plain_edit x)) e) ∙ h)
    by (Notrace u x) false h e = refl
    by (Pid m) true h e = refl
    by (Pid m) false h e = refl
    by (NoPid m) true h e = refl
    by (NoPid m) false h e = refl
    by (Enable u) true h e = refl
    by (Enable u) false h e = refl
    by (Disable u) true h e = refl
    by (Disable u) false h e = refl
    by (MaxDepth n) true h e = refl
    by (MaxDepth n) false h e = refl

module _ (b : Between) (tasks : ℕ) (c : Command) (plain : is_masking c ≡ false) (d : Declared) (desk : Desk) (n : ℕ)
    (same : d ≡ b.declared) (state : desk ≡ desk_after (job_of b.declared) b.desk b.commands (command_of tasks c ∷ [])) (count : n ≡ b.commands + 1) where
  -- what is known is what the definition says
  pub after-unmasked : made d b.owners b.first b.loaded b.own desk n ≡ after_line b (Plain (command_of tasks c))
  after-unmasked = made-same b.owners b.first d b.declared b.loaded b.loaded b.own (own_by b (is_accepted (answer_to b (Plain (command_of tasks c)))) (command_of tasks c))
      desk (desk_after (job_of b.declared) b.desk b.commands (command_for b (command_of tasks c) ∷ [])) n (b.commands + 1) same refl
      (sym (ap (λ p. own_by b (is_accepted (answer_on (job_of b.declared) b.desk p)) (command_of tasks c)) (unmasked b tasks c plain) ∙ own-unmasked b tasks c plain))
      (state ∙ sym (ap (λ p. desk_after (job_of b.declared) b.desk b.commands (p ∷ [])) (unmasked b tasks c plain))) count

  pub reached-unmasked : IsReached b → IsNamedIn (length b.declared.specs) (command_of tasks c) → IsReached (made d b.owners b.first b.loaded b.own desk n)
  reached-unmasked is named = subst IsReached (sym after-unmasked) (reached-command b is (command_of tasks c) named)

  pub depth-unmasked : desk.depth ≡ depth_after b.desk.depth c
  depth-unmasked = ap (λ (x : Desk). x.depth) state ∙ depth-is (job_of b.declared) b.desk (suc b.commands) tasks c

-- ## after an edit of an own set

module _ (b : Between) (u : ℕ) (e : Edit) (some : selects e ≡ true) (own : Marks) (edits : own ≡ edited b.declared.funcs (own_of b u) e) where
  pub command-masks : command_for b (PlainNotrace u e) ≡ mask u own (hidden_now b)
  command-masks = rw some (ap (λ o. mask u o (hidden_now b)) (sym edits))

  own-by : (a : Bool) → own_by b a (PlainNotrace u e) ≡ cond a (set b.own u own) b.own
  own-by true = ap (set b.own u) (sym edits)
  own-by false = refl

  module _ (a : Bool) (accepted : is_accepted (answer_on (job_of b.declared) b.desk (mask u own (hidden_now b))) ≡ a) (d : Declared) (owns : List Marks) (desk : Desk) (n : ℕ)
      (same : d ≡ b.declared) (changed : owns ≡ cond a (set b.own u own) b.own)
      (state : desk ≡ desk_after (job_of b.declared) b.desk b.commands (mask u own (hidden_now b) ∷ [])) (count : n ≡ b.commands + 1) where
    pub after-edit : made d b.owners b.first b.loaded owns desk n ≡ after_line b (Plain (PlainNotrace u e))
    after-edit = made-same b.owners b.first d b.declared b.loaded b.loaded owns (own_by b (is_accepted (answer_to b (Plain (PlainNotrace u e)))) (PlainNotrace u e))
        desk (desk_after (job_of b.declared) b.desk b.commands (command_for b (PlainNotrace u e) ∷ [])) n (b.commands + 1) same refl
        (changed ∙ sym (own-by a) ∙ sym (ap (λ x. own_by b x (PlainNotrace u e)) (ap (λ p. is_accepted (answer_on (job_of b.declared) b.desk p)) command-masks ∙ accepted)))
        (state ∙ sym (ap (λ p. desk_after (job_of b.declared) b.desk b.commands (p ∷ [])) command-masks)) count

    pub reached-edit : IsReached b → u < length b.declared.specs → IsReached (made d b.owners b.first b.loaded owns desk n)
    reached-edit is l = subst IsReached (sym after-edit) (reached-command b is (PlainNotrace u e) l)

-- ## loads and unloads

abbrev changed_by : Between → List Bool → Bool → Between
changed_by b loaded a = record b {
  loaded = cond a loaded b.loaded;
  own = b.own;
  desk = desk_after (job_of b.declared) b.desk b.commands (masks_for b a (cond a loaded b.loaded) ++ PlainMaxDepth b.desk.depth ∷ []);
  commands = b.commands + length (masks_for b a (cond a loaded b.loaded) ++ PlainMaxDepth b.desk.depth ∷ []);
}

by-answer : (b : Between) (loaded : List Bool) (a : Bool) → changed_by b loaded a ≡ cond a (moved b loaded) (kept_back b)
by-answer b loaded true = refl
by-answer b loaded false = refl

abbrev commands_by : Between → List Bool → Bool → List PlainCommand
commands_by b loaded a = masks_for b a (cond a loaded b.loaded) ++ PlainMaxDepth b.desk.depth ∷ []

commands-by-answer : (b : Between) (loaded : List Bool) (a : Bool) → commands_by b loaded a ≡ cond a (moving b loaded) (PlainMaxDepth b.desk.depth ∷ [])
commands-by-answer b loaded true = refl
commands-by-answer b loaded false = refl

module _ (b : Between) (m : ℕ) (a : Bool) where
  pub after-load : is_accepted (answer_to b (Load m)) ≡ a → after_line b (Load m) ≡ cond a (moved b (set b.loaded m true)) (kept_back b)
  after-load e = ap (changed_by b (set b.loaded m true)) e ∙ by-answer b (set b.loaded m true) a

  pub commands-load : is_accepted (answer_to b (Load m)) ≡ a → commands_for b (Load m) ≡ cond a (moving b (set b.loaded m true)) (PlainMaxDepth b.desk.depth ∷ [])
  commands-load e = ap (commands_by b (set b.loaded m true)) e ∙ commands-by-answer b (set b.loaded m true) a

  pub after-unload : is_accepted (answer_to b (Unload m)) ≡ a → after_line b (Unload m) ≡ cond a (moved b (set b.loaded m false)) (kept_back b)
  after-unload e = ap (changed_by b (set b.loaded m false)) e ∙ by-answer b (set b.loaded m false) a

  pub commands-unload : is_accepted (answer_to b (Unload m)) ≡ a → commands_for b (Unload m) ≡ cond a (moving b (set b.loaded m false)) (PlainMaxDepth b.desk.depth ∷ [])
  commands-unload e = ap (commands_by b (set b.loaded m false)) e ∙ commands-by-answer b (set b.loaded m false) a

-- the commands of a load or unload, as they are made
pub moving-is : (b : Between) (loaded : List Bool) (depth : ℕ) → depth ≡ b.desk.depth
    → map (command_of b.declared.tasks) (mask_commands 0 b.own (hidden b.owners loaded) ++ MaxDepth depth ∷ []) ≡ moving b loaded
moving-is b loaded depth e = map_push (command_of b.declared.tasks) (mask_commands 0 b.own (hidden b.owners loaded)) (MaxDepth depth)
    ∙ ap₂ (λ cs n. cs ++ PlainMaxDepth n ∷ []) (mask-commands b.declared.tasks 0 b.own (hidden b.owners loaded)) e

module _ (b : Between) (loaded : List Bool) (cs : List Command) (depth : ℕ) (same-depth : depth ≡ b.desk.depth)
    (are : cs ≡ mask_commands 0 b.own (hidden b.owners loaded) ++ MaxDepth depth ∷ []) (d : Declared) (desk : Desk) (n : ℕ)
    (same : d ≡ b.declared) (state : desk ≡ desk_after (job_of b.declared) b.desk b.commands (map (command_of b.declared.tasks) cs)) (count : n ≡ b.commands + length cs) where
  plain-is : map (command_of b.declared.tasks) cs ≡ moving b loaded
  plain-is = ap (map (command_of b.declared.tasks)) are ∙ moving-is b loaded depth same-depth

  pub after-move : made d b.owners b.first loaded b.own desk n ≡ moved b loaded
  after-move = made-same b.owners b.first d b.declared loaded loaded b.own b.own desk (desk_after (job_of b.declared) b.desk b.commands (moving b loaded)) n (b.commands + length (moving b loaded))
      same refl refl (state ∙ ap (desk_after (job_of b.declared) b.desk b.commands) plain-is)
      (count ∙ ap (λ k. b.commands + k) (sym (length-map cs (command_of b.declared.tasks)) ∙ ap length plain-is))

-- ## what is declared

pub modifiers-declared : (specs : List Spec) → map (λ (s : Spec). is_some s.ipmodify) specs ≡ map (λ (s : PlainSpec). is_some s.ipmodify) (map (λ s. bare (spec_of s)) specs)
modifiers-declared [] = refl
modifiers-declared (s ∷ specs) = ap (λ (bs : List Bool). is_some s.ipmodify ∷ bs) (modifiers-declared specs)

-- ## what is kept

-- one step later
pub kept-by : (m m' : Inside) → ModulesInvariant m → IsReached (between m') → m'.modifiers.items ≡ m.modifiers.items → m'.desk.declared ≡ m.desk.declared → length m'.loaded.items ≡ length m.loaded.items
    → m'.depth ≡ m'.desk.state.depth → ModulesInvariant m'
kept-by m m' kept reached modifiers declared modules depth = record {
  reached = reached;
  modifiers = modifiers ∙ kept.modifiers ∙ ap (λ (d : Declared). map (λ (s : PlainSpec). is_some s.ipmodify) d.specs) (sym declared);
  few = subst (λ (d : Declared). length d.specs ≤ USERS) (sym declared) kept.few;
  modules = subst (λ n. n ≤ FUNCS) (sym modules) kept.modules;
  small = subst (λ (d : Declared). d.funcs ≤ FUNCS) (sym declared) kept.small;
  depth = depth;
}

-- ## a user's own set after an edit

module _ (b : Between) (is : IsReached b) (u : ℕ) (l : u < length b.declared.specs) (e : Edit) (old own : Marks) (here : old ≡ get_or b.own u old) (new : own ≡ edited (length old) old e) where
  old-is : old ≡ own_of b u
  old-is = get_or_read b.own u old (let s = is.own in omega arith) here []

  pub own-edits : own ≡ edited b.declared.funcs (own_of b u) e
  own-edits = new ∙ ap (λ (o : Marks). edited (length o) o e) old-is ∙ ap (λ n. edited n (own_of b u) e) (is.sets u l)

  pub own-sized : length own ≡ b.declared.funcs
  own-sized = ap length own-edits ∙ length-edited b.declared.funcs (own_of b u) e (is.sets u l)

pub hidden-sized : (b : Between) → IsReached b → length (hidden_now b) ≡ b.declared.funcs
hidden-sized b is = length-hidden b.owners b.loaded ∙ is.owners
