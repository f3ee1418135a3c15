-- At the end of a dispatch: which of the refusals that the log could lack a history gets, so that the fetch lets them in.
use Rattle.std.proofs.Common.{cond, ◌≡◌, ℕ, ◌≤◌, ◌⊎◌, inl, inr, Bool, true, false, ◌||◌, ◌==◌, List, [], ◌∷◌, ◌++◌, map, refl, sym, ◌∙◌, subst, eqb-true}
use Rattle.std.specs.List.{list_any, filter, AllByRecursion as Each}
use Rattle.ft_base.specs.declared.number.CallNo.{CallNo}
use Rattle.ft_base.specs.declared.number.FuncNo.{FuncNo}
use Rattle.ft_base.specs.declared.item.Item.{Item}
use Rattle.ft_base.specs.declared.item.Item.TheVariants.{Body}
use Rattle.ft_base.specs.declared.item.Ran.{Ran}
use Rattle.ft_base.specs.Same.{same_call}
use Rattle.ft_base.specs.Job.{Job}
use Rattle.ft_base.specs.Desk.{desk, is_on, target}
use Rattle.ft_base.proofs.Small.{Each-filter, Each-weaker, each-all, false_true}
use Rattle.ft_hist.proofs.Laws.{same_call-refl}
use Rattle.ft_hist.specs.Past.{Visit, begun, entry_of, is_dispatched, visits}
use Rattle.ft_hist.specs.Rules as strict
use Rattle.ft_hist.specs.Rules.{InWindow, IsFetched, KeepsPlainRun, OnlyThose}
use Rattle.kernel_rules.specs.declared.line.ExitOrder.{ExitOrder}
use Rattle.kernel_rules.specs.declared.line.Line.{Line}
use Rattle.kernel_rules.specs.Recorded.{Marked, history}
use Rattle.kernel_rules.specs.Direct.{AreLegal, AreSilent, ComesFirst, CouldLack, CouldRefuse, IsSilent, Lacked, item_of}
use Rattle.kernel_rules.proofs.Merging.{lacks}
use Rattle.kernel_rules.proofs.Told.{each-map}
use Rattle.kernel_rules.proofs.Removing.{line-runs}
use Rattle.kernel_rules.proofs.Inserting.{fetched-up, silent-up}
use Rattle.kernel_rules.proofs.Lacks.{all-could, visitor}
use Rattle.kernel_rules.proofs.Stepping.{Ready}
use Rattle.kernel_rules.proofs.Wanted.{AreInOrder, IsOf, IsOpen, Wanted, each-split, of-append, of-each, order-filter, passes, same-sym, undispatched}

-- the refusal as one of a call
abbrev pub want : CallNo → Lacked → Wanted
want c r = record { call = c; lacked = r }

-- refusals that could lack in a call are in order
lack-order : (job : Job) (c : CallNo) (past : List Item) (rs : List Lacked) → CouldLack job past c rs → AreInOrder job (map (want c) rs)
lack-order job c past [] h = tt
lack-order job c past (r ∷ rs) h = (each-map (want c) _ rs (Each-weaker (λ s. ComesFirst job c r s) _ rs (λ s k same. k) h.1), lack-order job c past rs h.2)

-- what a fetch asks for: the command of its target, after which whoever is picked was on
pub record IsFetch (job : Job) (xs : List Item) (c : CallNo) (g : ℕ) (ran : Ran) (p : ℕ → Bool) : Type 0 where
  pub command : ℕ
  pub low : (entry_of c xs).from ≤ command
  pub high : command ≤ begun xs
  pub is : ran ≡ target (desk job command) (entry_of c xs).func
  pub on : (u : ℕ) → p u ≡ true → is_on (desk job command) u (entry_of c xs).func ≡ true
  pub only : OnlyThose ran (visits job c xs)
  pub one : strict.OneReplaces (strict.backs_with_replacement job (visits job c xs))
  pub runs : g ≡ strict.replacement job (entry_of c xs).func (strict.backs_with_replacement job (visits job c xs))

module _ (by : ExitOrder) (job : Job) (lines : List Line) (direct : AreLegal by job lines) (c : CallNo) (rs : List Lacked) (p : ℕ → Bool) where
  -- the items of the lines
  abbrev xs : List Item
  xs = map item_of lines

  -- the function of the call
  abbrev func : ℕ
  func = (entry_of c xs).func

  -- the user of a refusal is picked
  abbrev fits : Wanted → Bool
  fits r = p r.lacked.user.0

  -- the refusals of the users that are picked
  abbrev pub chosen : List Wanted
  chosen = filter fits (map (want c) rs)

  -- what holds of each refusal holds of those that are chosen
  each-chosen : (P : Wanted → Type 0) → Each (λ r. P (want c r)) rs → Each P chosen
  each-chosen P h = Each-filter P fits (map (want c) rs) (each-map (want c) P rs h)

  -- they could be told
  pub chosen-open : CouldLack job xs c rs → is_dispatched c xs ≡ false → Each (IsOpen job xs) chosen
  chosen-open could undone = each-chosen (IsOpen job xs) (Each-weaker (λ r. CouldRefuse job xs c r) _ rs (λ r h. (h, undone)) (all-could job c xs rs could))

  -- they are in order
  pub chosen-order : CouldLack job xs c rs → AreInOrder job chosen
  chosen-order could = order-filter job fits (map (want c) rs) (lack-order job c xs rs could)

  -- they are of the call
  pub chosen-of : Each (λ r. r.call ≡ c) chosen
  chosen-of = each-chosen (λ r. r.call ≡ c) (each-all _ rs (λ r. refl))

  -- a history that has these, and those of other calls
  module _ (w : List Wanted) (others : Each (λ r. same_call c r.call ≡ false) w) (undone : is_dispatched c xs ≡ false) (x : Item) (r : Ready by job lines direct (chosen ++ w) x) where
    -- the refusals of the call that the history lacks
    abbrev lack : List Visit
    lack = lacks job c r.past

    -- a user that is picked is among them
    there : (us : List Lacked) (u : ℕ) → p u ≡ true → list_any (λ s. s.user.0 == u) us ≡ true
        → Each (λ s. list_any (λ m. m.user == s.lacked.user.0) (lacks job s.call r.past) ≡ true) (filter fits (map (want c) us)) → list_any (λ m. m.user == u) lack ≡ true
    there [] u on is h = false_true is
    there (s ∷ us) u on is h = of (s.user.0 == u) refl (fits (want c s)) refl is h (there us u on)
      where
        of : (a : Bool) → (s.user.0 == u) ≡ a → (b : Bool) → fits (want c s) ≡ b → (a || list_any (λ s. s.user.0 == u) us) ≡ true
            → Each (λ s. list_any (λ m. m.user == s.lacked.user.0) (lacks job s.call r.past) ≡ true) (cond b (want c s ∷ filter fits (map (want c) us)) (filter fits (map (want c) us)))
            → (list_any (λ s. s.user.0 == u) us ≡ true → Each (λ s. list_any (λ m. m.user == s.lacked.user.0) (lacks job s.call r.past) ≡ true) (filter fits (map (want c) us)) → list_any (λ m. m.user == u) lack ≡ true)
            → list_any (λ m. m.user == u) lack ≡ true
        of true a true b is h more = subst (λ (n : ℕ). list_any (λ m. m.user == n) lack ≡ true) (eqb-true s.user.0 u a) h.0
        of true a false b is h more = false_true (sym b ∙ subst (λ (n : ℕ). p n ≡ true) (sym (eqb-true s.user.0 u a)) on)
        of false a true b is h more = more is h.1
        of false a false b is h more = more is h

    -- so the history keeps silence, if whoever is not picked was off
    pub chosen-silent : ((u : ℕ) → p u ≡ false → InWindow c xs (λ k. is_on (desk job k) u func ≡ false)) → AreSilent job xs c rs → strict.IsSilent job (history r.past) c
    chosen-silent off silent =
        silent-up by job lines r.past r.told' r.legal (λ v. line-runs by job lines direct v) (chosen ++ w) r.only c rs silent (λ u is. of u (p u) refl is)
      where
        of : (u : ℕ) (b : Bool) → p u ≡ b → list_any (λ s. s.user.0 == u) rs ≡ true → InWindow c xs (λ j. is_on (desk job j) u func ≡ false) ⊎ (list_any (λ m. m.user == u) lack ≡ true)
        of u true here is = inr (there rs u here is (each-split _ chosen w r.all).0)
        of u false none is = inl (off u none)

    -- who is lacking is picked
    lacking : Each (λ m. p m.user ≡ true) lack
    lacking = Each-weaker (λ m. IsOf job c m (chosen ++ w)) _ lack of (r.only c undone)
      where
        of : (m : Visit) → IsOf job c m (chosen ++ w) → p m.user ≡ true
        of m is = elim (of-append job c m chosen w is) [
          | inl h ↦ let o = of-each job c m (λ s. fits s ≡ true) chosen (passes fits (map (want c) rs)) h in
              subst (λ (n : ℕ). p n ≡ true) (sym o.3.0) o.1
          | inr h ↦ let o = of-each job c m (λ s. same_call c s.call ≡ false) w others h in
              false_true (sym o.1 ∙ same-sym job o.0.call c o.2)
        ]

    -- so the history keeps the fetch
    pub chosen-fetched : (g : ℕ) (ran : Ran) → IsFetch job xs c g ran p → IsFetched job (history r.past) c g ran
    chosen-fetched g ran f =
        fetched-up by job lines r.past r.told' r.legal (λ v. line-runs by job lines direct v) c g ran f.command f.low f.high f.is f.only (Each-weaker (λ m. p m.user ≡ true) _ lack (λ m h. f.on m.user h) lacking) f.one f.runs

-- ## a line

module _ (by : ExitOrder) (job : Job) (lines : List Line) (direct : AreLegal by job lines) where
  -- the items of the lines
  abbrev items : List Item
  items = map item_of lines

  -- the refusals that the line of this item wants to lack, with which the item of the history keeps silence if it is to, and fetches if it is to
  pub record Chosen (x : Item) (item : List Marked → Item) (w : List Wanted) (Silent Fetched : Type 0) : Type 0 where
    pub new : List Wanted
    pub open' : Each (IsOpen job items) new
    pub order : AreInOrder job new
    pub over : Each (λ r. is_dispatched r.call (x ∷ items) ≡ true) new
    pub apart : Each (λ r. visitor r.call x ≡ []) new
    pub silence : Silent → (r : Ready by job lines direct (new ++ w) x) → strict.KeepsSilence job (history r.past) (item r.past)
    pub fetches : Fetched → (r : Ready by job lines direct (new ++ w) x) → strict.KeepsFetches job (history r.past) (item r.past)

  -- at the end of a dispatch
  pub choose-body : (c : CallNo) (g : FuncNo) (seen ran : Ran) (w : List Wanted) → Each (λ r. same_call c r.call ≡ false) w → KeepsPlainRun job items (Body c g seen) → (s : IsSilent job items c)
      → (p : ℕ → Bool) → ((u : ℕ) → p u ≡ false → InWindow c items (λ k. is_on (desk job k) u (entry_of c items).func ≡ false))
      → (Silent Fetched : Type 0) → (Fetched → IsFetch job items c g.0 ran p) → Chosen (Body c g seen) (λ past. Body c g ran) w Silent Fetched
  choose-body c g seen ran w others run s p off Silent Fetched fetch =
      let undone = undispatched job c items (Body c g seen) (same_call-refl c) (run c.task.0) in
      record {
        new = chosen by job lines direct c s.0 p;
        open' = chosen-open by job lines direct c s.0 p s.1 undone;
        order = chosen-order by job lines direct c s.0 p s.1;
        over = Each-weaker (λ r. r.call ≡ c) _ (chosen by job lines direct c s.0 p)
            (λ r e. subst (λ (a : CallNo). is_dispatched a (Body c g seen ∷ items) ≡ true) (sym e) (rw (same_call-refl c) refl)) (chosen-of by job lines direct c s.0 p);
        apart = each-all _ (chosen by job lines direct c s.0 p) (λ r. refl);
        silence = λ _ r. chosen-silent by job lines direct c s.0 p w others undone (Body c g seen) r off s.2;
        fetches = λ f r. chosen-fetched by job lines direct c s.0 p w others undone (Body c g seen) r g.0 ran (fetch f);
      }

  -- a line that wants none
  pub choose-none : (x : Item) (item : List Marked → Item) (w : List Wanted) (Silent Fetched : Type 0)
      → (Silent → (r : Ready by job lines direct w x) → strict.KeepsSilence job (history r.past) (item r.past)) → (Fetched → (r : Ready by job lines direct w x) → strict.KeepsFetches job (history r.past) (item r.past))
      → Chosen x item w Silent Fetched
  choose-none x item w Silent Fetched s f = record { new = []; open' = tt; order = tt; over = tt; apart = tt; silence = s; fetches = f }
