-- A call of a function of a module, by the module's history.
use Rattle.std.proofs.Common.{◌≡◌, ℕ, ◌≤◌, ◌<◌, true, false, List, [], length, get_or, Option, Some, sym, ap, ◌∙◌, subst, arith}
use Rattle.std.specs.Prelude.{Vec}
use Rattle.std.specs.List.Sorted.{IsNonDecreasingBy}
use Rattle.std.proofs.lemmas.List.{get_or-map, length-map}
use Rattle.std.proofs.lemmas.Option.{same_Some}
use Rattle.module_coverage.specs.declared.change.Change.{Change}
use Rattle.module_coverage.specs.declared.span.Span.{Span}
use Rattle.module_coverage.specs.Plan.{ModulePlan, owner_in, loaded_by, is_loaded_in}
use Rattle.module_coverage.specs.Histories.{lists, Keeps}
use Rattle.module_coverage.specs.Uncovered.{IsUncovered}
use Rattle.module_coverage.proofs.Away.{kept-loaded, kept-ordered}

module _ {Z : Type 0} (plan : ModulePlan) (owners : List (Option ℕ)) (histories : List (Vec Change Z)) (keeps : Keeps plan owners (lists histories)) (s : Span) (owner : ℕ) (v : Vec Change Z)
    (inside : owner < length histories) (here : v ≡ get_or histories owner v) (lies : owner_in owners s.func.0 ≡ Some owner) where
  same : v.items ≡ get_or (lists histories) owner []
  same = ap (λ (x : Vec Change Z). x.items) here ∙ sym (get_or-map (λ (x : Vec Change Z). x.items) histories owner v [] inside)

  within : owner < length (lists histories)
  within = let long = length-map histories (λ (x : Vec Change Z). x.items) in omega (arith, long, inside)

  loaded : (k : ℕ) → loaded_by k true v.items ≡ is_loaded_in plan owner k
  loaded k = ap (λ (cs : List Change). loaded_by k true cs) same ∙ kept-loaded plan owners (lists histories) keeps owner within k

  pub history-ordered : IsNonDecreasingBy (λ (x : Change). x.at) v.items
  history-ordered = subst (λ (cs : List Change). IsNonDecreasingBy (λ (x : Change). x.at) cs) (sym same) (kept-ordered plan owners (lists histories) keeps owner within)

  lies-there : owner_in plan.owners s.func.0 ≡ Some owner
  lies-there = ap (λ (os : List (Option ℕ)). owner_in os s.func.0) keeps.same ∙ lies

  pub call-uncovered : (k : ℕ) × (s.from ≤ k) × (k ≤ s.to) × (loaded_by k true v.items ≡ false) → IsUncovered plan s
  call-uncovered w = record { owner = owner; lies = lies-there; commands = w.0; begun = w.1; returned = w.2; away = sym (loaded w.0) ∙ w.3 }

  pub uncovered-call : IsUncovered plan s → (k : ℕ) × (s.from ≤ k) × (k ≤ s.to) × (loaded_by k true v.items ≡ false)
  uncovered-call u =
      let its : u.owner ≡ owner = same_Some u.owner owner (sym u.lies ∙ lies-there) in
      (u.commands, u.begun, u.returned, loaded u.commands ∙ subst (λ m. is_loaded_in plan m u.commands ≡ false) its u.away)
