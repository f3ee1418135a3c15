-- What holds between lines holds after the opening, and so after any lines. What the desk of such a state sites.
use Rattle.std.proofs.Common.{cond, ◌≡◌, ℕ, zero, suc, ◌+◌, ◌<◌, Bool, true, false, not, ◌&&◌, ◌||◌, ◌==◌, List, [], ◌∷◌, ◌++◌, length, map, get_or, set, replicate, Option, Some, None, is_some, refl, sym, ap, ap₂, ◌∙◌, subst, arith}
use Rattle.std.specs.List.{list_any, range_with_len, AllByRecursion as Each}
use Rattle.std.proofs.lemmas.List.FromFn.{length-range_with_len}
use Rattle.std.proofs.lemmas.List.{length-map, length-replicate, length-set}
use Rattle.ft_base.specs.declared.item.Answer.TheVariants.{Already}
use Rattle.ft_base.specs.Marks.{Marks, holds, union, empty}
use Rattle.ft_base.specs.Job.{Spec, Func, MaxDepth, funcs}
use Rattle.ft_base.specs.Desk.{Desk, UserState, unseen, user_at, spec_at, is_matching, matches_by, is_accepted, opening}
use Rattle.ft_base.proofs.Small.{false_true, and_both}
use Rattle.ft_base.proofs.Modifiers.{registered-within}
use Rattle.ft_desk.specs.Declarations.{Declared, job_of}
use Rattle.ft_desk.proofs.ClaimLaws.{funcs-is}
use Rattle.site_set.proofs.MarksLemmas.{length-empty, holds-empty, length-union, holds-union, same_members}
use Rattle.func_table.specs.Modules.{modules_in}
use Rattle.module_table.specs.Lines.{Between, Line, Plain, Load, Unload, own_of, hidden, hidden_now, masks_from, desk_after, opened_with, at_first, owners_of, loaded_at_first, masks_for, clash, answer_to, after_line, after_lines}
use Rattle.module_table.specs.Reached.{IsReached, IsLineIn, HidesFunctions}
use Rattle.module_table.proofs.HiddenLaws.{holds-hidden, length-hidden, matches-union}
use Rattle.module_table.proofs.MaskLaws.{IsUnderway, IsMasked, masks-run, with_notrace}
use Rattle.module_table.proofs.MovedLaws.{safe-load, safe-unload, reached-moved, reached-kept}
use Rattle.module_table.proofs.CommandLaws.{reached-command}

-- ## the opening

module _ (d : Declared) where
  abbrev n : ℕ
  n = length d.specs

  abbrev fresh : Desk
  fresh = opening (job_of d)

  fresh-unseen : (specs : List Spec) (u : ℕ) → u < length specs → get_or (map (λ s. unseen (funcs (job_of d))) specs) u (unseen 0) ≡ unseen (funcs (job_of d))
  fresh-unseen [] u l = absurd (omega arith)
  fresh-unseen (s ∷ specs) zero l = refl
  fresh-unseen (s ∷ specs) (suc u) l = fresh-unseen specs u (omega arith)

  fresh-off : (specs : List Spec) (u : ℕ) → (get_or (map (λ s. unseen (funcs (job_of d))) specs) u (unseen 0)).registered ≡ false
  fresh-off [] u = refl
  fresh-off (s ∷ specs) zero = refl
  fresh-off (s ∷ specs) (suc u) = fresh-off specs u

  at : (u : ℕ) → u < n → user_at fresh u ≡ unseen d.funcs
  at u l = fresh-unseen d.specs u l ∙ ap unseen (funcs-is d.funcs)

  abbrev owns : List Marks
  owns = replicate n (empty d.funcs)

  own-at : (k u : ℕ) → u < k → get_or (replicate k (empty d.funcs)) u [] ≡ empty d.funcs
  own-at zero u l = absurd (omega arith)
  own-at (suc k) zero l = refl
  own-at (suc k) (suc u) l = own-at k u (omega arith)

  union-none : (f : ℕ) → holds (union (empty d.funcs) (empty d.funcs)) f ≡ false
  union-none f = holds-union (empty d.funcs) (empty d.funcs) (omega arith) f ∙ ap (λ b. b || b) (holds-empty d.funcs f)

  off : {A : Type 0} (u : ℕ) (x : Bool) → ((user_at fresh u).registered && x) ≡ true → A
  off {A} u x e = false_true (sym (fresh-off d.specs u) ∙ (and_both (user_at fresh u).registered x e).0)

  module _ (new : Marks) (size : length new ≡ d.funcs) where
    underway : IsUnderway d owns (empty d.funcs) new fresh
    underway = record {
      users = length-map d.specs (λ s. unseen (funcs (job_of d)));
      sets = λ u l. ap length (own-at n u l) ∙ length-empty d.funcs;
      low_size = length-empty d.funcs;
      new_size = size;
      fewer = λ f e. false_true (sym (holds-empty d.funcs f) ∙ e);
      more = λ u f l e. false_true (sym (ap (λ o. holds (union o (empty d.funcs)) f) (own-at n u l) ∙ union-none f) ∙ e);
      filters = λ u e. off u (is_some (spec_at (job_of d) u).ipmodify) e;
      apart = λ f u v l x y. off u (is_some (spec_at (job_of d) u).ipmodify) (and_both ((user_at fresh u).registered && is_some (spec_at (job_of d) u).ipmodify) (matches_by (user_at fresh u).filter (union (get_or owns u []) (empty d.funcs)) f) x).0;
    }

    abbrev now : Desk
    now = desk_after (job_of d) fresh 0 (masks_from 0 owns new)

    run : IsMasked d owns (empty d.funcs) new fresh now 0 owns
    run = masks-run d owns (empty d.funcs) new owns 0 0 fresh underway (omega (arith, length-replicate {A = Marks} n (empty d.funcs))) (λ i l. ap (λ k. get_or owns k []) (let e : i ≡ 0 + i = omega arith in e))

    user-now : (u : ℕ) → u < n → user_at now u ≡ with_notrace (unseen d.funcs) (union (empty d.funcs) new)
    user-now u l = run.masked u u (omega arith) (omega (arith, length-replicate {A = Marks} n (empty d.funcs)))
        ∙ ap₂ (λ s o. with_notrace s (union o new)) (at u l) (own-at n u l)

    now-off : (u : ℕ) → (user_at now u).registered ≡ true → {A : Type 0} → A
    now-off u e {A} =
        let l = registered-within now.users u e in
        let s = run.users in
        let t : length fresh.users ≡ n = length-map d.specs (λ s. unseen (funcs (job_of d))) in
        false_true (ap (λ (s : UserState). s.registered) (sym (user-now u (omega arith))) ∙ e)

    pub opened-some : (owners : List (Option ℕ)) (loaded : List Bool) → length owners ≡ d.funcs → new ≡ hidden owners loaded → IsReached (opened_with d owners (Some new) loaded)
    opened-some owners loaded os is = record {
      owners = os;
      own = length-replicate {A = Marks} n (empty d.funcs);
      sets = λ u l. ap length (own-at n u l) ∙ length-empty d.funcs;
      first = size;
      users = run.users ∙ length-map d.specs (λ s. unseen (funcs (job_of d)));
      sizes = λ u l. ap (λ (s : UserState). length s.filter) (user-now u l) ∙ length-empty d.funcs;
      masked = λ u l. ap (λ (s : UserState). s.notrace) (user-now u l) ∙ ap₂ union (sym (own-at n u l)) is;
      filters = λ u e. now-off u (and_both (user_at now u).registered (is_some (spec_at (job_of d) u).ipmodify) e).0;
      alone = λ f u v l x y. now-off u (and_both (user_at now u).registered (is_some (spec_at (job_of d) u).ipmodify) (and_both ((user_at now u).registered && is_some (spec_at (job_of d) u).ipmodify) (is_matching (user_at now u) f) x).0).0;
    }

  pub opened-none : (owners : List (Option ℕ)) (loaded : List Bool) → length owners ≡ d.funcs → hidden owners loaded ≡ empty d.funcs → IsReached (opened_with d owners None loaded)
  opened-none owners loaded os is = record {
    owners = os;
    own = length-replicate {A = Marks} n (empty d.funcs);
    sets = λ u l. ap length (own-at n u l) ∙ length-empty d.funcs;
    first = tt;
    users = length-map d.specs (λ s. unseen (funcs (job_of d)));
    sizes = λ u l. ap (λ (s : UserState). length s.filter) (at u l) ∙ length-empty d.funcs;
    masked = λ u l. ap (λ (s : UserState). s.notrace) (at u l)
        ∙ same_members (empty d.funcs) (union (empty d.funcs) (empty d.funcs)) (sym (length-union (empty d.funcs) (empty d.funcs)))
        (λ f w. holds-empty d.funcs f ∙ sym (union-none f))
        ∙ ap₂ union (sym (own-at n u l)) (sym is);
    filters = λ u e. off u (is_some (spec_at (job_of d) u).ipmodify) e;
    alone = λ f u v l x y. off u (is_some (spec_at (job_of d) u).ipmodify) (and_both ((user_at fresh u).registered && is_some (spec_at (job_of d) u).ipmodify) (is_matching (user_at fresh u) f) x).0;
  }

-- if no module is absent, nothing is hidden
all-loaded : (ns : List ℕ) (m : ℕ) → get_or (map (λ m. not (list_any (λ a. a == m) [])) ns) m true ≡ true
all-loaded [] m = refl
all-loaded (k ∷ ns) zero = refl
all-loaded (k ∷ ns) (suc m) = all-loaded ns m

hidden-none : (owners : List (Option ℕ)) (loaded : List Bool) → ((m : ℕ) → get_or loaded m true ≡ true) → hidden owners loaded ≡ empty (length owners)
hidden-none [] loaded all = refl
hidden-none (None ∷ os) loaded all = ap (λ (s : Marks). false ∷ s) (hidden-none os loaded all)
hidden-none (Some m ∷ os) loaded all = ap₂ (λ b (s : Marks). not b ∷ s) (all m) (hidden-none os loaded all)

module _ (d : Declared) (functions : List Func) (same : length functions ≡ d.funcs) where
  owners-size : length (owners_of functions) ≡ d.funcs
  owners-size = length-map functions _ ∙ same

  pub reached-first : (absent : List ℕ) → IsReached (at_first d functions absent)
  reached-first [] = opened-none d (owners_of functions) (loaded_at_first (length (modules_in functions)) []) owners-size
      (hidden-none (owners_of functions) (loaded_at_first (length (modules_in functions)) []) (all-loaded (range_with_len 0 (length (modules_in functions)))) ∙ ap empty owners-size)
  reached-first (m ∷ ms) =
      let loaded = loaded_at_first (length (modules_in functions)) (m ∷ ms) in
      opened-some d (hidden (owners_of functions) loaded) (length-hidden (owners_of functions) loaded ∙ owners-size) (owners_of functions) loaded owners-size refl

-- ## after lines

module _ (b : Between) (is : IsReached b) where
  load-by : (m : ℕ) → m < length b.loaded → (a : Bool) → is_accepted (answer_to b (Load m)) ≡ a → IsReached (record b {
    loaded = cond a (set b.loaded m true) b.loaded;
    desk = desk_after (job_of b.declared) b.desk b.commands (masks_for b a (cond a (set b.loaded m true) b.loaded) ++ MaxDepth b.desk.depth ∷ []);
    commands = b.commands + length (masks_for b a (cond a (set b.loaded m true) b.loaded) ++ MaxDepth b.desk.depth ∷ []);
  })
  load-by m l true e = reached-moved b is (set b.loaded m true) (safe-load b is m l (free (get_or b.loaded m true) e))
    where
      free : (x : Bool) → is_accepted (cond x Already (clash b (hidden b.owners (set b.loaded m true)))) ≡ true → is_accepted (clash b (hidden b.owners (set b.loaded m true))) ≡ true
      free true h = false_true h
      free false h = h
  load-by m l false e = reached-kept b is

  unload-by : (m : ℕ) → m < length b.loaded → (a : Bool) → IsReached (record b {
    loaded = cond a (set b.loaded m false) b.loaded;
    desk = desk_after (job_of b.declared) b.desk b.commands (masks_for b a (cond a (set b.loaded m false) b.loaded) ++ MaxDepth b.desk.depth ∷ []);
    commands = b.commands + length (masks_for b a (cond a (set b.loaded m false) b.loaded) ++ MaxDepth b.desk.depth ∷ []);
  })
  unload-by m l true = reached-moved b is (set b.loaded m false) (safe-unload b is m l)
  unload-by m l false = reached-kept b is

  pub reached-line : (line : Line) → IsLineIn b.declared (length b.loaded) line → IsReached (after_line b line)
  reached-line (Plain c) l = reached-command b is c l.0
  reached-line (Load m) l = load-by m l (is_accepted (answer_to b (Load m))) refl
  reached-line (Unload m) l = unload-by m l (is_accepted (answer_to b (Unload m)))

  -- what is sited
  pub hides-functions : HidesFunctions b
  hides-functions u f l w =
      ap (λ n. (user_at b.desk u).registered && matches_by (user_at b.desk u).filter n f) (is.masked u l)
      ∙ ap (λ m. (user_at b.desk u).registered && m) (matches-union (user_at b.desk u).filter (own_of b u) (hidden_now b) f (length-hidden b.owners b.loaded ∙ is.owners ∙ sym (is.sets u l)))
      ∙ grouped (user_at b.desk u).registered (matches_by (user_at b.desk u).filter (own_of b u) f) (not (holds (hidden_now b) f))
      ∙ ap (λ h. (user_at b.desk u).registered && matches_by (user_at b.desk u).filter (own_of b u) f && not h) (holds-hidden b.owners b.loaded f)
    where
      grouped : (x y z : Bool) → (x && (y && z)) ≡ ((x && y) && z)
      grouped true y z = refl
      grouped false y z = refl

-- as many modules as before
pub loaded-size : (b : Between) (line : Line) → length (after_line b line).loaded ≡ length b.loaded
loaded-size b (Plain c) = refl
loaded-size b (Load m) = by (is_accepted (answer_to b (Load m)))
  where
    by : (a : Bool) → length (cond a (set b.loaded m true) b.loaded) ≡ length b.loaded
    by true = length-set b.loaded m true
    by false = refl
loaded-size b (Unload m) = by (is_accepted (answer_to b (Unload m)))
  where
    by : (a : Bool) → length (cond a (set b.loaded m false) b.loaded) ≡ length b.loaded
    by true = length-set b.loaded m false
    by false = refl

pub reached-lines : (lines : List Line) (b : Between) (n : ℕ) → IsReached b → n ≡ length b.loaded → Each (IsLineIn b.declared n) lines → IsReached (after_lines b lines)
reached-lines [] b n is same in_range = is
reached-lines (line ∷ rest) b n is same in_range = reached-lines rest (after_line b line) n
    (reached-line b is line (subst (λ k. IsLineIn b.declared k line) same in_range.0)) (same ∙ sym (loaded-size b line)) in_range.1

pub always-hides : (d : Declared) (functions : List Func) (absent : List ℕ) (lines : List Line)
    → length functions ≡ d.funcs → Each (IsLineIn d (length (modules_in functions))) lines
    → HidesFunctions (after_lines (at_first d functions absent) lines)
always-hides d functions absent lines same in_range = hides-functions (after_lines (at_first d functions absent) lines)
    (reached-lines lines (at_first d functions absent) (length (modules_in functions)) (reached-first d functions same absent)
    (sym (length-map (range_with_len 0 (length (modules_in functions))) _ ∙ length-range_with_len 0 (length (modules_in functions)))) in_range)
