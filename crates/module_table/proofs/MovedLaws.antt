-- What holds between lines holds after a load or an unload.
use Rattle.std.proofs.Common.{◌≡◌, ℕ, suc, ◌+◌, ◌<◌, Bool, true, false, ◌&&◌, List, [], ◌∷◌, ◌++◌, length, get_or, set, Option, Some, None, is_some, refl, sym, ap, ◌∙◌, subst, arith}
use Rattle.ft_base.specs.declared.item.Answer.TheVariants.{Accepted}
use Rattle.ft_base.specs.Marks.{Marks, holds, is_empty, union}
use Rattle.ft_base.specs.Job.{Job, Command, MaxDepth}
use Rattle.ft_base.specs.Desk.{Desk, UserState, user_at, spec_at, is_matching, matches_by, is_accepted, lowest, busy_or, after}
use Rattle.ft_base.proofs.Small.{false_true, and_both}
use Rattle.ft_base.proofs.Modifiers.{registered-within}
use Rattle.ft_desk.specs.Declarations.{job_of}
use Rattle.module_table.specs.Lines.{Between, own_of, hidden, hidden_now, masks_from, desk_after, replaces, clash, holder_of, holder_at}
use Rattle.module_table.specs.Reached.{IsReached, IsSafe, is_replaced, moving, moved, kept_back}
use Rattle.module_table.proofs.LowestLaws.{lowest-some, lowest-none, two-apart}
use Rattle.module_table.proofs.HiddenLaws.{holds-hidden, length-hidden, hidden-load, hidden-unload, matches-fewer, union-fewer}
use Rattle.module_table.proofs.MaskLaws.{IsUnderway, IsMasked, masks-run, with_notrace}

-- setting the depth is the last that is done
pub depth-last : (job : Job) (desk : Desk) (k x : ℕ) (cs : List Command) → desk_after job desk k (cs ++ MaxDepth x ∷ []) ≡ record (desk_after job desk k cs) { depth = x }
depth-last job desk k x [] = refl
depth-last job desk k x (c ∷ cs) = depth-last job (after job desk (suc k) (Some c)) (suc k) x cs

-- setting it to what it is changes nothing
pub depth-same : (desk : Desk) (x : ℕ) → desk.depth ≡ x → record desk { depth = x } ≡ desk
depth-same desk x e = ap (λ n. record desk { depth = n }) (sym e)

module _ (b : Between) (is : IsReached b) (loaded : List Bool) (safe : IsSafe b loaded) where
  abbrev new : Marks
  new = hidden b.owners loaded

  abbrev now : Desk
  now = desk_after (job_of b.declared) b.desk b.commands (masks_from 0 b.own new)

  new_size : length new ≡ b.declared.funcs
  new_size = length-hidden b.owners loaded ∙ is.owners

  old_size : length (hidden_now b) ≡ b.declared.funcs
  old_size = length-hidden b.owners b.loaded ∙ is.owners

  underway : IsUnderway b.declared b.own safe.low new b.desk
  underway = record {
    users = is.users;
    sets = is.sets;
    low_size = safe.size;
    new_size = new_size;
    fewer = safe.now;
    more = λ u f l e. ap (λ s. holds s f) (is.masked u l)
        ∙ union-fewer (own_of b u) (hidden_now b) safe.low f (old_size ∙ sym (is.sets u l)) (safe.size ∙ sym (is.sets u l)) (safe.before f) e;
    filters = is.filters;
    apart = safe.apart;
  }

  run : IsMasked b.declared b.own safe.low new b.desk now 0 b.own
  run = masks-run b.declared b.own safe.low new b.own 0 b.commands b.desk underway (let e = is.own in omega arith) (λ i l. ap (λ k. get_or b.own k []) (let e : i ≡ 0 + i = omega arith in e))

  user-now : (u : ℕ) → u < length b.declared.specs → user_at now u ≡ with_notrace (user_at b.desk u) (union (own_of b u) new)
  user-now u l = run.masked u u (omega arith) (let e = is.own in omega arith)

  -- the desk after the line
  moved-desk : desk_after (job_of b.declared) b.desk b.commands (moving b loaded) ≡ now
  moved-desk = depth-last (job_of b.declared) b.desk b.commands b.desk.depth (masks_from 0 b.own new) ∙ depth-same now b.desk.depth run.depth

  pub moved-depth : (moved b loaded).desk.depth ≡ b.desk.depth
  moved-depth = ap (λ (d : Desk). d.depth) moved-desk ∙ run.depth

  bound-within : (u : ℕ) → ((user_at now u).registered && is_some (spec_at (job_of b.declared) u).ipmodify) ≡ true → u < length b.declared.specs
  bound-within u e =
      let r = and_both (user_at now u).registered (is_some (spec_at (job_of b.declared) u).ipmodify) e in
      let l = registered-within now.users u r.0 in
      let s = run.users in
      let t = is.users in
      omega arith

  lower : (f u : ℕ) → is_replaced (job_of b.declared) now u f ≡ true → replaces b safe.low f u ≡ true
  lower f u e =
      let a = and_both ((user_at now u).registered && is_some (spec_at (job_of b.declared) u).ipmodify) (is_matching (user_at now u) f) e in
      let l = bound-within u a.0 in
      let bound : ((user_at b.desk u).registered && is_some (spec_at (job_of b.declared) u).ipmodify) ≡ true =
      ap (λ (s : UserState). s.registered && is_some (spec_at (job_of b.declared) u).ipmodify) (sym (user-now u l)) ∙ a.0 in
      let m : matches_by (user_at b.desk u).filter (union (own_of b u) new) f ≡ true = ap (λ (s : UserState). is_matching s f) (sym (user-now u l)) ∙ a.1 in
      rw bound (matches-fewer (user_at b.desk u).filter (union (own_of b u) new) (union (own_of b u) safe.low) f
      (union-fewer (own_of b u) new safe.low f (new_size ∙ sym (is.sets u l)) (safe.size ∙ sym (is.sets u l)) (safe.now f)) m)

  abbrev at_desk : Desk → Between
  at_desk desk = record b { loaded = loaded; desk = desk; commands = b.commands + length (moving b loaded) }

  reached-now : IsReached (at_desk now)
  reached-now = record {
    owners = is.owners;
    own = is.own;
    sets = is.sets;
    first = is.first;
    users = run.users ∙ is.users;
    sizes = λ u l. ap (λ (s : UserState). length s.filter) (user-now u l) ∙ is.sizes u l;
    masked = λ u l. ap (λ (s : UserState). s.notrace) (user-now u l);
    filters = λ u e.
        let l = bound-within u e in
        ap (λ (s : UserState). is_empty s.filter) (user-now u l)
        ∙ is.filters u (ap (λ (s : UserState). s.registered && is_some (spec_at (job_of b.declared) u).ipmodify) (sym (user-now u l)) ∙ e);
    alone = λ f u v l x y. safe.apart f u v l (lower f u x) (lower f v y);
  }

  pub reached-moved : IsReached (moved b loaded)
  reached-moved = subst (λ d. IsReached (at_desk d)) (sym moved-desk) reached-now

-- ## what is safe

module _ (b : Between) (is : IsReached b) where
  replaces-within : (h : Marks) (f u : ℕ) → replaces b h f u ≡ true → u < length b.declared.specs
  replaces-within h f u e =
      let a = and_both ((user_at b.desk u).registered && is_some (spec_at (job_of b.declared) u).ipmodify) (matches_by (user_at b.desk u).filter (union (own_of b u) h) f) e in
      let r = and_both (user_at b.desk u).registered (is_some (spec_at (job_of b.declared) u).ipmodify) a.0 in
      let l = registered-within b.desk.users u r.0 in
      let s = is.users in
      omega arith

  -- where a load isn't refused no two users would replace one function
  clash-apart : (h : Marks) → is_accepted (clash b h) ≡ true → (f u v : ℕ) → f < b.declared.funcs → replaces b h f u ≡ true → replaces b h f v ≡ true → u ≡ v
  clash-apart h e f u v l x y = by (lowest (λ g. is_some (holder_of b h g)) 0 b.declared.funcs) refl e
    where
      none : is_some (holder_of b h f) ≡ false → u ≡ v
      none w = go (holder_of b h f) refl w
        where
          go : (o : Option ℕ) → holder_of b h f ≡ o → is_some o ≡ false → u ≡ v
          go None q w = two-apart (replaces b h f) (length b.declared.specs) q u v (replaces-within h f u x) (replaces-within h f v y) x y
          go (Some i) q w = false_true (sym w)

      busy : (g : ℕ) (o : Option ℕ) → is_some o ≡ true → is_accepted (busy_or (Some g) o Accepted) ≡ true → u ≡ v
      busy g None s w = false_true s
      busy g (Some i) s w = false_true w

      by : (o : Option ℕ) → lowest (λ g. is_some (holder_of b h g)) 0 b.declared.funcs ≡ o → is_accepted (busy_or o (holder_at b h o) Accepted) ≡ true → u ≡ v
      by None q w = none (lowest-none (λ g. is_some (holder_of b h g)) 0 b.declared.funcs q f (omega arith) (omega arith))
      by (Some g) q w = busy g (holder_of b h g) (lowest-some (λ g. is_some (holder_of b h g)) 0 b.declared.funcs g q).passes w

  pub safe-load : (m : ℕ) → m < length b.loaded → is_accepted (clash b (hidden b.owners (set b.loaded m true))) ≡ true → IsSafe b (set b.loaded m true)
  safe-load m l e = record {
    low = hidden b.owners (set b.loaded m true);
    size = length-hidden b.owners (set b.loaded m true) ∙ is.owners;
    before = λ f h. holds-hidden b.owners b.loaded f ∙ hidden-load b.loaded m (get_or b.owners f None) l (sym (holds-hidden b.owners (set b.loaded m true) f) ∙ h);
    now = λ f h. h;
    apart = clash-apart (hidden b.owners (set b.loaded m true)) e;
  }

  replaced : (f u : ℕ) → replaces b (hidden_now b) f u ≡ true → is_replaced (job_of b.declared) b.desk u f ≡ true
  replaced f u e = ap (λ n. (user_at b.desk u).registered && is_some (spec_at (job_of b.declared) u).ipmodify && matches_by (user_at b.desk u).filter n f)
      (is.masked u (replaces-within (hidden_now b) f u e)) ∙ e

  pub safe-unload : (m : ℕ) → m < length b.loaded → IsSafe b (set b.loaded m false)
  safe-unload m l = record {
    low = hidden_now b;
    size = length-hidden b.owners b.loaded ∙ is.owners;
    before = λ f h. h;
    now = λ f h. holds-hidden b.owners (set b.loaded m false) f ∙ hidden-unload b.loaded m (get_or b.owners f None) l (sym (holds-hidden b.owners b.loaded f) ∙ h);
    apart = λ f u v w x y. is.alone f u v w (replaced f u x) (replaced f v y);
  }

  -- a load or unload that is refused changes nothing
  pub kept-desk : (kept_back b).desk ≡ b.desk
  kept-desk = refl

  pub reached-kept : IsReached (kept_back b)
  reached-kept = record {
    owners = is.owners;
    own = is.own;
    sets = is.sets;
    first = is.first;
    users = is.users;
    sizes = is.sizes;
    masked = is.masked;
    filters = is.filters;
    alone = is.alone;
  }
