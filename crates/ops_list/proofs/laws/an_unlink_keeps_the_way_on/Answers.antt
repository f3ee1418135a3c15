use Rattle.std.proofs.Common.{◌≡◌, ℕ, List, [], ◌∷◌, ◌++◌, refl, sym, subst}
use Rattle.word_map.specs.Words.{Words}
use Rattle.ops_list.specs.declared.linker.LinkPhase.TheVariants.{Unlinking}
use Rattle.word_map.specs.Contents.{name_of}
use Rattle.word_map.specs.Chains.{Leads}
use Rattle.ops_list.specs.Lists.{IsList, nth_user, last_user, after_stores}
use Rattle.ops_list.proofs.Lists.{leads-name, leads-unlink, unlinked-link, unlinked-leads}
use Rattle.ops_list.proofs.Walks.{visits}
use Rattle.ops_list.proofs.laws.an_unlink_keeps_the_way_on.Goals as goal

-- the words without the user
abbrev after : Words → List ℕ → List ℕ → Words
after ws front back = after_stores 1 (Unlinking (last_user front) (nth_user back 0)) ws

list : (ws : Words) (front back : List ℕ) (u : ℕ) → IsList ws (front ++ u ∷ back) → IsList (after ws front back) (front ++ back)
list ws [] back u r = subst (λ y. Leads ws.link y back) (leads-name ws.link (ws.link u) back r.1) r.1
list ws (v ∷ vs) back u r = leads-unlink ws.link ws.first v vs back u r

link : (ws : Words) (front back : List ℕ) (u : ℕ) → IsList ws (front ++ u ∷ back) → (after ws front back).link u ≡ ws.link u
link ws [] back u r = refl
link ws (v ∷ vs) back u r = unlinked-link ws.link ws.first v vs back u (name_of (nth_user back 0)) r

way : (ws : Words) (front back : List ℕ) (u : ℕ) → IsList ws (front ++ u ∷ back) → Leads (after ws front back).link (ws.link u) back
way ws [] back u r = r.1
way ws (v ∷ vs) back u r = unlinked-leads ws.link ws.first v vs back u (name_of (nth_user back 0)) r

pub returns-clause-list : goal.returns-clause-list
returns-clause-list c = λ ws front back u r. list ws front back u r

pub returns-clause-link : goal.returns-clause-link
returns-clause-link c = λ ws front back u r. link ws front back u r

pub returns-clause-walk : goal.returns-clause-walk
returns-clause-walk c = λ ws front back u i r.
    visits (after ws front back) ((after ws front back).link u.0) back i
    (subst (λ y. Leads (after ws front back).link y back) (sym (link ws front back u.0 r)) (way ws front back u.0 r))
