-- Commands as they are made, against those of the definitions.
use Rattle.std.proofs.Common.{cond, ◌≡◌, ℕ, suc, ◌+◌, ◌<◌, ◌≤◌, Bool, true, false, List, [], ◌∷◌, ◌++◌, length, map, get_or, replicate, Option, Some, None, refl, sym, ap, ap₂, ◌∙◌, subst, arith}
use Rattle.std.specs.List.{AllByRecursion as Each}
use Rattle.std.proofs.lemmas.List.{map_push, length_push, get_or-replicate, length-replicate}
use Rattle.ft_base.specs.Marks.{Marks, empty}
use Rattle.ft_base.specs.Job.{Job, Command as PlainCommand, MaxDepth as PlainMaxDepth}
use Rattle.ft_base.specs.Desk.{Desk, after, answer_on, changed, is_accepted}
use Rattle.ft_base.proofs.Small.{Each-snoc, false_true}
use Rattle.site_set.proofs.MarksLemmas.{length-empty, length-union}
use Rattle.ft_desk.specs.declared.command.Command.{Command}
use Rattle.ft_desk.specs.declared.command.Command.TheVariants.{Register, Unregister, Filter, Notrace, Pid, NoPid, Enable, Disable, MaxDepth}
use Rattle.ft_desk.specs.Commands.{command_of, IsInShape}
use Rattle.ft_desk.specs.Declarations.{Declared}
use Rattle.module_table.specs.Lines.{Between, masks_from, command_for, mask, opening_of}
use Rattle.module_table.specs.Made.{Appends, mask_commands, opening_commands, is_masking, depth_after}

-- ## masks

pub mask-commands : (tasks u : ℕ) (owns : List Marks) (h : Marks) → map (command_of tasks) (mask_commands u owns h) ≡ masks_from u owns h
mask-commands tasks u [] h = refl
mask-commands tasks u (o ∷ os) h = ap (λ (cs : List PlainCommand). mask u o h ∷ cs) (mask-commands tasks (suc u) os h)

pub length-masks : (u : ℕ) (owns : List Marks) (h : Marks) → length (mask_commands u owns h) ≡ length owns
length-masks u [] h = refl
length-masks u (o ∷ os) h = ap suc (length-masks (suc u) os h)

-- their users and sets are declared
pub masks-declared : (d : Declared) (h : Marks) (u : ℕ) (owns : List Marks) → u + length owns ≡ length d.specs
    → ((i : ℕ) → i < length owns → length (get_or owns i []) ≡ d.funcs) → Each (IsInShape d) (mask_commands u owns h)
masks-declared d h u [] same sizes = tt
masks-declared d h u (o ∷ os) same sizes = (
  (omega arith, length-union o h ∙ sizes 0 (omega arith)),
  masks-declared d h (suc u) os (omega arith) (λ i l. sizes (suc i) (omega arith)),
)

-- one command was added
pub appends-one : (d : Declared) (old new : List Command) (c : Command) (plain : PlainCommand) → new ≡ old ++ c ∷ [] → command_of d.tasks c ≡ plain → IsInShape d c → Appends d old new (plain ∷ [])
appends-one d old new c plain e same is = record { added = c ∷ []; items = e; commands = ap (λ p. p ∷ []) same; declared = (is, tt) }

-- the masks and the command that sets the depth
pub moving-declared : (d : Declared) (owns : List Marks) (h : Marks) (depth : ℕ) → length owns ≡ length d.specs
    → ((u : ℕ) → u < length d.specs → length (get_or owns u []) ≡ d.funcs) → Each (IsInShape d) (mask_commands 0 owns h ++ MaxDepth depth ∷ [])
moving-declared d owns h depth count sizes = Each-snoc (IsInShape d) (mask_commands 0 owns h) (MaxDepth depth)
    (masks-declared d h 0 owns (omega arith) (λ i l. sizes i (omega arith))) (tt, tt)

pub length-moving : (owns : List Marks) (h : Marks) (depth : ℕ) → length (mask_commands 0 owns h ++ MaxDepth depth ∷ []) ≡ length owns + 1
length-moving owns h depth = let a = length_push (mask_commands 0 owns h) (MaxDepth depth) in let b = length-masks 0 owns h in omega arith

-- the masks were added, and the command that sets the depth
pub appends-masks : (d : Declared) (old new : List Command) (owns : List Marks) (h : Marks) (depth depth' : ℕ) → length owns ≡ length d.specs
    → ((u : ℕ) → u < length d.specs → length (get_or owns u []) ≡ d.funcs) → depth ≡ depth'
    → new ≡ old ++ (mask_commands 0 owns h ++ MaxDepth depth ∷ []) → Appends d old new (masks_from 0 owns h ++ PlainMaxDepth depth' ∷ [])
appends-masks d old new owns h depth depth' count sizes same e = record {
  added = mask_commands 0 owns h ++ MaxDepth depth ∷ [];
  items = e;
  commands = map_push (command_of d.tasks) (mask_commands 0 owns h) (MaxDepth depth)
      ∙ ap₂ (λ cs n. cs ++ PlainMaxDepth n ∷ []) (mask-commands d.tasks 0 owns h) same;
  declared = moving-declared d owns h depth count sizes;
}

-- ## plain commands

-- a command that isn't masked is carried out as it is
pub unmasked : (b : Between) (tasks : ℕ) (c : Command) → is_masking c ≡ false → command_for b (command_of tasks c) ≡ command_of tasks c
unmasked b tasks (Register u) e = refl
unmasked b tasks (Unregister u) e = refl
unmasked b tasks (Filter u x) e = refl
unmasked b tasks (Notrace u x) e = rw e refl
unmasked b tasks (Pid m) e = refl
unmasked b tasks (NoPid m) e = refl
unmasked b tasks (Enable u) e = refl
unmasked b tasks (Disable u) e = refl
unmasked b tasks (MaxDepth n) e = refl

-- the graph depth after a command
pub depth-is : (job : Job) (desk : Desk) (k tasks : ℕ) (c : Command) → (after job desk k (Some (command_of tasks c))).depth ≡ depth_after desk.depth c
depth-is job desk k tasks c = by c (is_accepted (answer_on job desk (command_of tasks c))) refl
  where
    by : (c : Command) (a : Bool) → is_accepted (answer_on job desk (command_of tasks c)) ≡ a → (cond a (changed job desk k (command_of tasks c)) desk).depth ≡ depth_after desk.depth c
    by (Register u) true e = refl
    by (Register u) false e = refl
    by (Unregister u) true e = refl
    by (Unregister u) false e = refl
    by (Filter u x) true e = refl
    by (Filter u x) false e = refl
    by (Notrace u x) true e = refl
    by (Notrace u x) false e = refl
    by (Pid m) true e = refl
    by (Pid m) false e = refl
    by (NoPid m) true e = refl
    by (NoPid m) false e = refl
    by (Enable u) true e = refl
    by (Enable u) false e = refl
    by (Disable u) true e = refl
    by (Disable u) false e = refl
    by (MaxDepth n) true e = refl
    by (MaxDepth n) false e = false_true (sym e)

-- ## the opening

pub opening-is : (d : Declared) (tasks : ℕ) (first : Option Marks) → map (command_of tasks) (opening_commands (length d.specs) d.funcs first) ≡ opening_of d first
opening-is d tasks None = refl
opening-is d tasks (Some h) = mask-commands tasks 0 (replicate (length d.specs) (empty d.funcs)) h

pub opening-declared : (d : Declared) (first : Option Marks) → Each (IsInShape d) (opening_commands (length d.specs) d.funcs first)
opening-declared d None = tt
opening-declared d (Some h) = masks-declared d h 0 (replicate (length d.specs) (empty d.funcs)) (omega (arith, length-replicate {A = Marks} (length d.specs) (empty d.funcs)))
    (λ i l. ap length (get_or-replicate (length d.specs) i (empty d.funcs) [] (omega (arith, length-replicate {A = Marks} (length d.specs) (empty d.funcs)))) ∙ length-empty d.funcs)

pub opening-few : (users funcs : ℕ) (first : Option Marks) → length (opening_commands users funcs first) ≤ users
opening-few users funcs None = omega arith
opening-few users funcs (Some h) = omega (arith, length-masks 0 (replicate users (empty funcs)) h, length-replicate {A = Marks} users (empty funcs))

pub appends-opening : (d : Declared) (first : Option Marks) (new : List Command) → new ≡ opening_commands (length d.specs) d.funcs first → Appends d [] new (opening_of d first)
appends-opening d first new e = record {
  added = new;
  items = refl;
  commands = ap (map (command_of d.tasks)) e ∙ opening-is d d.tasks first;
  declared = subst (Each (IsInShape d)) (sym e) (opening-declared d first);
}
