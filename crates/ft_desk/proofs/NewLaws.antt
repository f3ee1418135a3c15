-- A roster on which nobody was ever registered.
use Rattle.std.proofs.Common.{◌≡◌, ℕ, zero, suc, ◌<◌, ◌≤◌, Bool, false, ◌&&◌, nat_lt, List, [], ◌∷◌, length, map, get_or, is_some, refl, sym, ap, ◌∙◌, subst, arith}
use Rattle.std.proofs.lemmas.List.{length-map}
use Rattle.ft_base.specs.declared.limits.TheConstants.{USERS}
use Rattle.ft_base.specs.Marks.{holds, empty}
use Rattle.ft_base.specs.Desk.{matches_by}
use Rattle.ft_base.proofs.Small.{and-false}
use Rattle.site_set.proofs.MarksLemmas.{holds-empty, length-empty}
use Rattle.filter_hash.specs.Pair.{Pair, empty_pair}
use Rattle.user_specs.specs.declared.spec.Spec.{Spec}
use Rattle.ipmodify.specs.declared.conflicts.Holder.{Holder}
use Rattle.site_counts.specs.Rows.{row_of, no_users}
use Rattle.ft_desk.specs.declared.user.User.{User}
use Rattle.ft_desk.specs.declared.roster.Roster.TheInside.{Inside}
use Rattle.ft_desk.specs.Users.{declared_as, is_at, modifier_at, number_at, one_at, regs_at, row_by, sum_over, total_by, user_of}
use Rattle.ft_desk.specs.RosterInvariant.{RosterInvariant, IsRoom, no_holder}

module _ (n : ℕ) where
  sum-none : (g : ℕ → User → ℕ) (from : ℕ) (specs : List Spec) → ((u : ℕ) (s : Spec) → g u (declared_as n s) ≡ 0)
      → sum_over g from (map (declared_as n) specs) ≡ 0
  sum-none g from [] h = refl
  sum-none g from (s ∷ specs) h = let a = h from s in let b = sum-none g (suc from) specs h in omega (arith, a, b)

  row-none : (specs : List Spec) (f : ℕ) → row_by (map (declared_as n) specs) f ≡ no_users
  row-none specs f =
      let a = sum-none (one_at f) 0 specs (λ u s. refl) in
      let b = sum-none (regs_at f) 0 specs (λ u s. refl) in
      let c = sum-none (modifier_at f) 0 specs (λ u s. refl) in
      rw (a, b, c) refl

  pub new-at : (specs : List Spec) (u : ℕ) → u < length specs → ((user_of (map (declared_as n) specs) u).registered ≡ false) × ((user_of (map (declared_as n) specs) u).pair ≡ empty_pair n)
  new-at [] u h = absurd (omega arith)
  new-at (s ∷ specs) zero h = (refl, refl)
  new-at (s ∷ specs) (suc u) h = new-at specs u (omega arith)

  pub new-kept : (r : Inside) (specs : List Spec) → length specs ≤ USERS → r.users.items ≡ map (declared_as n) specs → length r.counts ≡ n
      → ((f : ℕ) → row_of r.counts f ≡ no_users) → length r.totals.items ≡ n → ((f : ℕ) → f < n → get_or r.totals.items f 0 ≡ 0)
      → length r.holders.items ≡ length specs → ((u : ℕ) → u < length specs → get_or r.holders.items u no_holder ≡ record { user = record { 0 = u }; on = empty n })
      → IsRoom n r.room → RosterInvariant r
  new-kept r specs few eu ec rows et totals eh holders room =
      let size : length r.users.items ≡ length specs = ap length eu ∙ length-map specs (declared_as n) in
      record {
        few = omega (arith, size, few);
        pairs = λ u small. (let p = (new-at specs u (omega (arith, size, small))).1 in let q : (user_of r.users.items u).pair ≡ empty_pair n = ap (λ (us : List User). (user_of us u).pair) eu ∙ p in
            record {
              filter = ap (λ (z : Pair). length z.filter) q ∙ length-empty n ∙ sym ec;
              notrace = ap (λ (z : Pair). length z.notrace) q ∙ length-empty n ∙ sym ec;
            });
        rows = λ f small. rows f ∙ sym (ap (λ (us : List User). row_by us f) eu ∙ row-none specs f);
        totals = λ f small. totals f (omega (arith, ec, small)) ∙ sym (ap (λ (us : List User). total_by us f) eu ∙ sum-none (number_at f) 0 specs (λ u s. refl));
        numbered = et ∙ sym ec;
        holders = eh ∙ sym size;
        held = λ u small. (let h = holders u (omega (arith, size, small)) in record {
          user = ap (λ (g : Holder). g.user.0) h;
          size = ap (λ (g : Holder). length g.on) h ∙ length-empty n ∙ sym ec;
          on = λ f. ap (λ (g : Holder). holds g.on f) h ∙ holds-empty n f ∙ sym (off r u f (ap (λ (us : List User). (user_of us u).registered) eu ∙ (new-at specs u (omega (arith, size, small))).0));
        });
        room = subst (λ m. IsRoom m r.room) (sym ec) room;
      }
    where
      ands : (a b c : Bool) → c ≡ false → (a && (b && c)) ≡ false
      ands a b c e = ap (λ x. a && (b && x)) e ∙ ap (λ x. a && x) (and-false b) ∙ and-false a

      off : (r : Inside) (u f : ℕ) → (user_of r.users.items u).registered ≡ false
          → (is_some (user_of r.users.items u).ipmodify && (nat_lt f (length r.counts) && is_at f (user_of r.users.items u))) ≡ false
      off r u f e = ands _ _ _ (ap (λ b. b && matches_by (user_of r.users.items u).pair.filter (user_of r.users.items u).pair.notrace f) e)
