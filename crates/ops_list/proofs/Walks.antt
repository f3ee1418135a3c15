-- A walk goes where the words lead.
use Rattle.std.proofs.Common.{◌≡◌, ℕ, zero, suc, ◌<◌, ◌≤◌, List, [], ◌∷◌, refl, sym, subst, arith}
use Rattle.std.specs.Prelude.{All}
use Rattle.word_map.specs.declared.shape.Shape.{Shape}
use Rattle.word_map.specs.Words.{Words}
use Rattle.ops_list.specs.declared.walker.WalkPhase.{WalkPhase}
use Rattle.ops_list.specs.declared.walker.WalkPhase.TheVariants.{Starting, At, Ended}
use Rattle.word_map.specs.Contents.{named}
use Rattle.ops_list.specs.Walks.{walk_to, WalkFits}
use Rattle.word_map.specs.Chains.{Leads}
use Rattle.ops_list.specs.Lists.{nth_user, next_load, after_loads}

after-end : (ws : Words) (n : ℕ) → after_loads n Ended ws ≡ Ended
after-end ws zero = refl
after-end ws (suc n) = after-end ws n

-- a walk to the user that a word names goes on to the users to which the word leads
pub visits : (ws : Words) (w : ℕ) (l : List ℕ) (i : ℕ) → Leads ws.link w l
    → after_loads i (walk_to (named w)) ws ≡ walk_to (nth_user l i)
visits ws w [] i r = subst (λ y. after_loads i (walk_to (named y)) ws ≡ Ended) (sym r) (after-end ws i)
visits ws w (u ∷ us) zero r = subst (λ y. walk_to (named y) ≡ At (record { 0 = u })) (sym r.0) refl
visits ws w (u ∷ us) (suc i) r =
    subst (λ y. after_loads (suc i) (walk_to (named y)) ws ≡ walk_to (nth_user us i)) (sym r.0) (visits ws (ws.link u) us i r.1)

-- what the next load gives fits
abbrev Fits : Shape → Words → WalkPhase → Type 0
Fits shape ws phase = WalkFits shape phase (next_load phase ws)

name-fits : (shape : Shape) (link : ℕ → ℕ) (w : ℕ) (l : List ℕ) → All (λ u. u < shape.users) l → Leads link w l → w ≤ shape.users
name-fits shape link w [] a r = omega (arith, r)
name-fits shape link w (u ∷ us) a r = let b : u < shape.users = a 0 u (omega arith) in let e = r.0 in omega (arith, b, e)

rest-all : (shape : Shape) (u : ℕ) (us : List ℕ) → All (λ u. u < shape.users) (u ∷ us) → All (λ u. u < shape.users) us
rest-all shape u us a k d less = a (suc k) d (omega (arith, less))

to-fits : (shape : Shape) (ws : Words) (w : ℕ) (l : List ℕ) (i : ℕ) → All (λ u. u < shape.users) l → Leads ws.link w l
    → Fits shape ws (after_loads i (walk_to (named w)) ws)
to-fits shape ws w [] i a r =
    subst (λ y. Fits shape ws (after_loads i (walk_to (named y)) ws)) (sym r)
    (subst (λ p. Fits shape ws p) (sym (after-end ws i)) tt)
to-fits shape ws w (u ∷ us) zero a r =
    subst (λ y. Fits shape ws (walk_to (named y))) (sym r.0) (name-fits shape ws.link (ws.link u) us (rest-all shape u us a) r.1)
to-fits shape ws w (u ∷ us) (suc i) a r =
    subst (λ y. Fits shape ws (after_loads (suc i) (walk_to (named y)) ws)) (sym r.0)
    (to-fits shape ws (ws.link u) us i (rest-all shape u us a) r.1)

-- of a walk from the head on
pub loads-fit : (shape : Shape) (ws : Words) (users : List ℕ) (n : ℕ) → Leads ws.link ws.first users → All (λ u. u < shape.users) users
    → Fits shape ws (after_loads n Starting ws)
loads-fit shape ws users zero r a = name-fits shape ws.link ws.first users a r
loads-fit shape ws users (suc n) r a = to-fits shape ws ws.first users n a r
