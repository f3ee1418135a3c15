-- What stands in the way of a load, as it is looked for.
use Rattle.std.proofs.Common.{◌≡◌, ℕ, zero, suc, ◌+◌, ◌-◌, ◌<◌, ◌≤◌, Bool, true, false, not, ◌&&◌, ◌||◌, List, [], ◌∷◌, length, map, get_or, Option, Some, None, is_some, refl, sym, ap, ◌∙◌, arith}
use Rattle.std.proofs.lemmas.List.{get_or_read}
use Rattle.ft_base.specs.declared.item.Answer.TheVariants.{Accepted, Busy}
use Rattle.ft_base.specs.Marks.{Marks, holds, is_empty, union}
use Rattle.ft_base.specs.Job.{Spec}
use Rattle.ft_base.specs.Desk.{user_at, spec_at, plain_spec, matches_by, lowest, busy_or}
use Rattle.ft_desk.specs.Declarations.{job_of}
use Rattle.module_table.specs.Lines.{Between, own_of, replaces, holder_of, holder_at, clash}
use Rattle.module_table.specs.Reached.{IsReached}
use Rattle.module_table.proofs.LowestLaws.{lowest-is_some, lowest-is_none, two-found, two-alone, two-none}
use Rattle.module_table.proofs.HiddenLaws.{matches-union}

-- ## one user

module _ (b : Between) (h : Marks) (f u : ℕ) where
  pub replaces-off : (user_at b.desk u).registered ≡ false → false ≡ replaces b h f u
  replaces-off e = rw e refl

  pub replaces-plain : is_some (spec_at (job_of b.declared) u).ipmodify ≡ false → false ≡ replaces b h f u
  replaces-plain e = rw e (by (user_at b.desk u).registered)
    where
      by : (r : Bool) → false ≡ ((r && false) && matches_by (user_at b.desk u).filter (union (own_of b u) h) f)
      by true = refl
      by false = refl

  pub replaces-is : length h ≡ length (own_of b u) → (user_at b.desk u).registered ≡ true → is_some (spec_at (job_of b.declared) u).ipmodify ≡ true
      → (x y z : Bool) → x ≡ (is_empty (user_at b.desk u).filter || holds (user_at b.desk u).filter f) → y ≡ holds (own_of b u) f → z ≡ holds h f
      → ((x && not y) && not z) ≡ replaces b h f u
  replaces-is same r m x y z ex ey ez = rw (r, m, ex, ey, ez) (sym (matches-union (user_at b.desk u).filter (own_of b u) h f same))

-- the declaration of a user tells whether it replaces functions
pub modifier-at : (specs : List Spec) (u : ℕ) (d : Bool) → u < length specs → get_or (map (λ s. is_some s.ipmodify) specs) u d ≡ is_some (get_or specs u plain_spec).ipmodify
modifier-at [] u d l = absurd (omega arith)
modifier-at (s ∷ specs) zero d l = refl
modifier-at (s ∷ specs) (suc u) d l = modifier-at specs u d (omega arith)

-- ## the lowest users

module _ (b : Between) (h : Marks) (f : ℕ) where
  pub next-found : (from n u : ℕ) → from ≤ u → u < n → ((k : ℕ) → from ≤ k → k < u → replaces b h f k ≡ false) → replaces b h f u ≡ true
      → Some u ≡ lowest (replaces b h f) from (n - from)
  next-found from n u l r none e = sym (lowest-is_some (replaces b h f) from (n - from) u (record { passes = e; low = l; high = omega arith; least = none }))

  pub next-none : (from n : ℕ) → ((k : ℕ) → from ≤ k → k < n → replaces b h f k ≡ false) → None ≡ lowest (replaces b h f) from (n - from)
  next-none from n none = sym (lowest-is_none (replaces b h f) from (n - from) (λ i l r. none i l (omega arith)))

  whole : (n : ℕ) → n - 0 ≡ n
  whole n = omega arith

  first-is : (o : Option ℕ) → o ≡ lowest (replaces b h f) 0 (length b.declared.specs - 0) → lowest (replaces b h f) 0 (length b.declared.specs) ≡ o
  first-is o e = ap (lowest (replaces b h f) 0) (sym (whole (length b.declared.specs))) ∙ sym e

  pub holder-found : (u v : ℕ) → Some u ≡ lowest (replaces b h f) 0 (length b.declared.specs - 0) → Some v ≡ lowest (replaces b h f) (u + 1) (length b.declared.specs - (u + 1))
      → Some u ≡ holder_of b h f
  holder-found u v first second = two-found (replaces b h f) (length b.declared.specs) u (first-is (Some u) first) v
      (ap (λ k. lowest (replaces b h f) k (length b.declared.specs - k)) (let e : suc u ≡ u + 1 = omega arith in e) ∙ sym second)

  pub holder-alone : (u : ℕ) → Some u ≡ lowest (replaces b h f) 0 (length b.declared.specs - 0) → None ≡ lowest (replaces b h f) (u + 1) (length b.declared.specs - (u + 1))
      → None ≡ holder_of b h f
  holder-alone u first second = two-alone (replaces b h f) (length b.declared.specs) u (first-is (Some u) first)
      (ap (λ k. lowest (replaces b h f) k (length b.declared.specs - k)) (let e : suc u ≡ u + 1 = omega arith in e) ∙ sym second)

  pub holder-none : None ≡ lowest (replaces b h f) 0 (length b.declared.specs - 0) → None ≡ holder_of b h f
  holder-none first = two-none (replaces b h f) (length b.declared.specs) (first-is None first)

-- ## the lowest function

module _ (b : Between) (h : Marks) where
  pub clash-busy : (f u : ℕ) → f < b.declared.funcs → ((k : ℕ) → k < f → is_some (holder_of b h k) ≡ false) → Some u ≡ holder_of b h f
      → Busy (record { 0 = f }) (record { 0 = u }) ≡ clash b h
  clash-busy f u l none e = sym (ap (λ o. busy_or o (holder_at b h o) Accepted) found ∙ ap (λ o. busy_or (Some f) o Accepted) (sym e))
    where
      found : lowest (λ g. is_some (holder_of b h g)) 0 b.declared.funcs ≡ Some f
      found = lowest-is_some (λ g. is_some (holder_of b h g)) 0 b.declared.funcs f
          (record { passes = ap is_some (sym e); low = omega arith; high = omega arith; least = λ i l r. none i r })

  pub clash-none : ((k : ℕ) → k < b.declared.funcs → is_some (holder_of b h k) ≡ false) → Accepted ≡ clash b h
  clash-none none = sym (ap (λ o. busy_or o (holder_at b h o) Accepted)
      (lowest-is_none (λ g. is_some (holder_of b h g)) 0 b.declared.funcs (λ i l r. none i (omega arith))))

-- ## a user as it is kept

module _ (b : Between) (is : IsReached b) (h : Marks) (size : length h ≡ b.declared.funcs) (u : ℕ) (l : u < length b.declared.specs) (own : Marks) (here : own ≡ get_or b.own u own) where
  pub own-here : own ≡ own_of b u
  own-here = get_or_read b.own u own (let e = is.own in omega arith) here []

  pub own-size : length own ≡ b.declared.funcs
  own-size = ap length own-here ∙ is.sets u l

  pub filter-size : length (user_at b.desk u).filter ≡ length own
  filter-size = is.sizes u l ∙ sym own-size

  pub hidden-size : length h ≡ length own
  hidden-size = size ∙ sym own-size

  pub is-replaced : (f : ℕ) → (user_at b.desk u).registered ≡ true → is_some (spec_at (job_of b.declared) u).ipmodify ≡ true
      → (((is_empty (user_at b.desk u).filter || holds (user_at b.desk u).filter f) && not (holds own f)) && not (holds h f)) ≡ replaces b h f u
  is-replaced f r m = replaces-is b h f u (size ∙ sym (is.sets u l)) r m _ _ _ refl (ap (λ (s : Marks). holds s f) own-here) refl
