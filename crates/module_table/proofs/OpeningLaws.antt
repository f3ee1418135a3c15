-- The desk after the opening, as it is made.
use Rattle.std.proofs.Common.{cond, Bool, true, false, is_some, ap₂, ◌≡◌, ℕ, suc, ◌≤◌, List, [], ◌∷◌, length, map, replicate, Option, Some, None, refl, sym, ap, ◌∙◌, subst, arith}
use Rattle.std.specs.Prelude.{IfSome}
use Rattle.std.specs.List.{AllByRecursion as Each}
use Rattle.std.proofs.lemmas.List.{length-map}
use Rattle.ft_base.specs.Marks.{Marks, empty}
use Rattle.ft_base.specs.Job.{Job, Func, Spec as PlainSpec}
use Rattle.ft_base.specs.Desk.{Desk, opening, after, changed, answer_on, is_accepted}
use Rattle.user_specs.specs.declared.spec.Spec.{Spec}
use Rattle.user_specs.specs.Plain.{spec_of}
use Rattle.word_map.specs.declared.shape.Shape.{Shape}
use Rattle.ft_desk.specs.declared.command.Command.{Command}
use Rattle.ft_desk.specs.Commands.{command_of, IsInShape}
use Rattle.ft_desk.specs.Declarations.{Declared, bare, declared_by, job_of}
use Rattle.ft_desk.specs.DeskView.{DeskView, opened}
use Rattle.module_table.specs.Lines.{desk_after, opening_of, opened_with, at_first, owners_of, loaded_at_first, first_hidden, mask, masks_from}
use Rattle.func_table.specs.Modules.{modules_in, number_among}
use Rattle.module_table.specs.Reached.{IsReached}
use Rattle.module_table.proofs.HiddenLaws.{length-hidden}
use Rattle.module_table.proofs.ListLaws.{length-loaded}
use Rattle.module_table.proofs.OpenedLaws.{reached-first}
use Rattle.module_table.proofs.BetweenLaws.{made, made-same, modifiers-declared}
use Rattle.module_table.specs.Made.{opening_commands}
use Rattle.module_table.proofs.MadeLaws.{opening-is, opening-declared, opening-few}

module _ (specs : List Spec) (shape : Shape) (users : length specs ≡ shape.users) (first : Option Marks) (cs : List Command)
    (are : cs ≡ opening_commands shape.users shape.funcs first) (s : DeskView) (fresh : s ≡ opened (declared_by specs shape)) where
  abbrev d : Declared
  d = declared_by specs shape

  count : length d.specs ≡ shape.users
  count = length-map specs (λ (x : Spec). bare (spec_of x)) ∙ users

  here : cs ≡ opening_commands (length d.specs) d.funcs first
  here = are ∙ ap (λ n. opening_commands n shape.funcs first) (sym count)

  pub opening-in-shape : Each (IsInShape s.declared) cs
  opening-in-shape = subst (λ (x : DeskView). Each (IsInShape x.declared) cs) (sym fresh) (subst (Each (IsInShape d)) (sym here) (opening-declared d first))

  pub opening-count : s.commands ≡ 0
  opening-count = ap (λ (x : DeskView). x.commands) fresh

  pub opening-size : length cs ≡ length (opening_of (declared_by specs shape) first)
  opening-size = ap length here ∙ sym (length-map (opening_commands (length d.specs) d.funcs first) (command_of d.tasks)) ∙ ap length (opening-is d d.tasks first)

  pub opening-small : length cs ≤ shape.users
  opening-small = let a = ap length are in let b = opening-few shape.users shape.funcs first in omega arith

  pub opening-state : (new : DeskView) → new.state ≡ desk_after (job_of s.declared) s.state s.commands (map (command_of s.declared.tasks) cs)
      → new.state ≡ desk_after (job_of (declared_by specs shape)) (opening (job_of (declared_by specs shape))) 0 (opening_of (declared_by specs shape) first)
  opening-state new e = e ∙ ap (λ (x : DeskView). desk_after (job_of x.declared) x.state x.commands (map (command_of x.declared.tasks) cs)) fresh
      ∙ ap (λ (xs : List Command). desk_after (job_of d) (opening (job_of d)) 0 (map (command_of d.tasks) xs)) here
      ∙ ap (desk_after (job_of d) (opening (job_of d)) 0) (opening-is d d.tasks first)

-- masks leave the graph depth
pub masks-depth : (job : Job) (desk : Desk) (k u : ℕ) (owns : List Marks) (h : Marks) → (desk_after job desk k (masks_from u owns h)).depth ≡ desk.depth
masks-depth job desk k u [] h = refl
masks-depth job desk k u (o ∷ os) h = masks-depth job (after job desk (suc k) (Some (mask u o h))) (suc k) (suc u) os h ∙ by (is_accepted (answer_on job desk (mask u o h)))
  where
    by : (a : Bool) → (cond a (changed job desk (suc k) (mask u o h)) desk).depth ≡ desk.depth
    by true = refl
    by false = refl

opening-depth : (d : Declared) (first : Option Marks) → (desk_after (job_of d) (opening (job_of d)) 0 (opening_of d first)).depth ≡ 0
opening-depth d None = refl
opening-depth d (Some h) = masks-depth (job_of d) (opening (job_of d)) 0 0 (replicate (length d.specs) (empty d.funcs)) h

pub first-sized : (owners : List (Option ℕ)) (loaded : List Bool) (absent : List ℕ) (n : ℕ) → length owners ≡ n → IfSome (first_hidden owners loaded absent) (λ (h : Marks). length h ≡ n)
first-sized owners loaded [] n e = tt
first-sized owners loaded (m ∷ ms) n e = length-hidden owners loaded ∙ e

-- what is known at first, as it is made
module _ (specs : List Spec) (shape : Shape) (users : length specs ≡ shape.users) (functions : List Func) (same : length functions ≡ shape.funcs) (absent : List ℕ)
    (names : List (List ℕ)) (count : ℕ) (owners : List (Option ℕ)) (loaded : List Bool) (first : Option Marks) (own : List Marks) (s : DeskView)
    (named : names ≡ modules_in functions) (counted : count ≡ length names) (owned : owners ≡ map (λ f. number_among names f.owner) functions) (loads : loaded ≡ loaded_at_first count absent)
    (hides : first ≡ first_hidden owners loaded absent) (owns : own ≡ replicate shape.users (empty shape.funcs)) (declared : s.declared ≡ declared_by specs shape)
    (state : s.state ≡ desk_after (job_of (declared_by specs shape)) (opening (job_of (declared_by specs shape))) 0 (opening_of (declared_by specs shape) first))
    (commands : s.commands ≡ length (opening_of (declared_by specs shape) first)) where
  abbrev e : Declared
  e = declared_by specs shape

  abbrev all : List Bool
  all = loaded_at_first (length (modules_in functions)) absent

  owners-is : owners ≡ owners_of functions
  owners-is = owned ∙ ap (λ (ns : List (List ℕ)). map (λ (f : Func). number_among ns f.owner) functions) named

  loaded-is : loaded ≡ all
  loaded-is = loads ∙ ap (λ k. loaded_at_first k absent) (counted ∙ ap length named)

  first-is : first ≡ first_hidden (owners_of functions) all absent
  first-is = hides ∙ ap₂ (λ o l. first_hidden o l absent) owners-is loaded-is

  own-is : own ≡ replicate (length e.specs) (empty e.funcs)
  own-is = owns ∙ ap (λ k. replicate k (empty shape.funcs)) (sym (length-map specs (λ (x : Spec). bare (spec_of x)) ∙ users))

  pub made-first : made s.declared owners first loaded own s.state s.commands ≡ at_first (declared_by specs shape) functions absent
  made-first = made-same owners first s.declared e loaded all own (replicate (length e.specs) (empty e.funcs)) s.state (desk_after (job_of e) (opening (job_of e)) 0 (opening_of e first)) s.commands
      (length (opening_of e first)) declared loaded-is own-is state commands
      ∙ ap (λ (o : List (Option ℕ)). made e o first all (replicate (length e.specs) (empty e.funcs)) (desk_after (job_of e) (opening (job_of e)) 0 (opening_of e first)) (length (opening_of e first))) owners-is
      ∙ ap (λ (f : Option Marks). opened_with e (owners_of functions) f all) first-is

  pub reached-made : IsReached (made s.declared owners first loaded own s.state s.commands)
  reached-made = subst IsReached (sym made-first) (reached-first e functions same absent)

  pub depth-made : 0 ≡ s.state.depth
  depth-made = sym (ap (λ (x : Desk). x.depth) state ∙ opening-depth e first)

  pub users-made : length s.declared.specs ≡ shape.users
  users-made = ap (λ (x : Declared). length x.specs) declared ∙ length-map specs (λ (x : Spec). bare (spec_of x)) ∙ users

  pub funcs-made : s.declared.funcs ≡ shape.funcs
  funcs-made = ap (λ (x : Declared). x.funcs) declared

  pub loaded-made : length loaded ≡ length names
  loaded-made = ap length loads ∙ length-loaded count absent ∙ counted

  pub modifiers-made : map (λ (x : Spec). is_some x.ipmodify) specs ≡ map (λ (x : PlainSpec). is_some x.ipmodify) s.declared.specs
  modifiers-made = modifiers-declared specs ∙ ap (λ (x : Declared). map (λ (y : PlainSpec). is_some y.ipmodify) x.specs) (sym declared)
