-- The calls of a task are numbered as they are entered, so each is entered once, and what its Enter tells stays.
use Rattle.std.proofs.Common.{◌≡◌, ℕ, ◌<◌, ◌≤◌, Bool, true, false, ◌==◌, List, [], ◌∷◌, ◌++◌, Option, Some, None, refl, sym, ◌∙◌, subst, arith}
use Rattle.std.specs.Prelude.{IsSome}
use Rattle.std.specs.List.{list_any}
use Rattle.ft_base.specs.declared.number.CallNo.{CallNo}
use Rattle.ft_base.specs.declared.number.FuncNo.{FuncNo}
use Rattle.ft_base.specs.declared.context.Ctx.{Ctx}
use Rattle.ft_base.specs.declared.item.Item.{Item}
use Rattle.ft_base.specs.declared.item.Item.TheVariants.{Begin, Return, Enter, Ret}
use Rattle.ft_base.specs.Same.{same_call}
use Rattle.ft_base.specs.Job.{Job}
use Rattle.ft_base.proofs.Small.{false_true, ==-refl, or-false_both}
use Rattle.ft_hist.specs.Past.{is_of, done, entry_of, all_visits, visits}
use Rattle.ft_hist.specs.Plain.{plain, PlainTask, at_start}
use Rattle.ft_hist.specs.Rules.{IsLegalPast}
use Rattle.ft_hist.proofs.Laws.{entry_of-enter}
use Rattle.ft_hist.proofs.Lists.{none_visited}
use Rattle.ft_hist.proofs.RunLaws.{some_inj, same_call-eq, Moves, step-moves, sound}
pub use Rattle.ft_hist.proofs.Steps.{unmoved}
use Rattle.ft_hist.proofs.Steps.{own-step}
use Rattle.ft_hist.proofs.WindowLaws.{entry_of-more, is_enter}

pub none-any : (items : List Item) → list_any (λ (x : Item). false) items ≡ false
none-any [] = refl
none-any (x ∷ items) = none-any items

module _ (job : Job) where
  -- an own item of a task moves its run from where it was
  pub moved : (t : ℕ) (item : Item) (past : List Item) (s : PlainTask) → is_of t item ≡ true → plain job t (item ∷ past) ≡ Some s
      → (p : PlainTask) × (plain job t past ≡ Some p) × Moves p s item
  moved t item past s own e = let w = own-step job t item past s own e in (w.0, w.1, step-moves job (done past) w.0 s item w.2)

  -- a legal past has a plain run of each task
  pub some-run : (t : ℕ) (past : List Item) → IsLegalPast job past → (s : PlainTask) × (plain job t past ≡ Some s)
  unfolding IsLegalPast plain
  some-run t [] l = (at_start job t, refl)
  some-run t (item ∷ past) l = of (plain job t (item ∷ past)) refl (l.0.run t)
    where
      of : (o : Option PlainTask) → plain job t (item ∷ past) ≡ o → IsSome o → (s : PlainTask) × (plain job t (item ∷ past) ≡ Some s)
      of None e h = false_true h
      of (Some s) e h = (s, e)

  -- a property of a task's run holds at a past
  pub record HoldsAt (t : ℕ) (P : PlainTask → Type 0) (past : List Item) : Type 0 where
    pub run : PlainTask
    pub is : plain job t past ≡ Some run
    pub holds : P run

  -- so it does after more items, if the task's moves keep it
  pub holds-through : (t : ℕ) (P : PlainTask → Type 0) (ends : Item → Bool) → ((p s : PlainTask) (item : Item) → Moves p s item → is_of t item ≡ true → ends item ≡ false → P p → P s)
      → (newer past : List Item) → IsLegalPast job (newer ++ past) → list_any ends newer ≡ false → HoldsAt t P past → HoldsAt t P (newer ++ past)
  unfolding IsLegalPast
  holds-through t P ends keeps [] past l none h = h
  holds-through t P ends keeps (x ∷ newer) past l none h =
      let both = or-false_both (ends x) (list_any ends newer) none in
      by (is_of t x) refl (some-run t (x ∷ (newer ++ past)) l) both.0 (holds-through t P ends keeps newer past l.1 both.1 h)
    where
      by : (b : Bool) → is_of t x ≡ b → (s : PlainTask) × (plain job t (x ∷ (newer ++ past)) ≡ Some s) → ends x ≡ false → HoldsAt t P (newer ++ past) → HoldsAt t P (x ∷ (newer ++ past))
      by true own r one h =
          let m = moved t x (newer ++ past) r.0 own r.1 in
          record { run = r.0; is = r.1; holds = keeps m.0 r.0 x m.2 own one (subst P (some_inj h.run m.0 (sym h.is ∙ m.1)) h.holds) }
      by false other r one h = record { run = r.0; is = r.1; holds = subst P (some_inj h.run r.0 (sym h.is ∙ unmoved job t x (newer ++ past) r.0 other r.1)) h.holds }

  pub next-moved : (p s : PlainTask) (item : Item) → Moves p s item → (t : ℕ) → is_of t item ≡ true → p.next ≤ s.next
  next-moved p s (Begin k) m t own = false_true own
  next-moved p s (Return k a) m t own = false_true own
  next-moved p s (Enter call x f caller) m t own = let e = m.next in omega (arith, e)
  next-moved p s (Ret call to) m t own = let e = m.next in omega (arith, e)
  next-moved p s _ m t own = let e = m.next in omega (arith, e)

  -- the number of a task's next call never falls, and is above that of a call that was entered
  abbrev pub IsPast : CallNo → List Item → Type 0
  IsPast call past = (s : PlainTask) × (plain job call.task.0 past ≡ Some s) × (call.n < s.next)

  pub past-enter : (call : CallNo) (ctx : Ctx) (f : FuncNo) (caller : Option CallNo) (past : List Item) → IsLegalPast job (Enter call ctx f caller ∷ past) → IsPast call (Enter call ctx f caller ∷ past)
  past-enter call ctx f caller past l =
      let r = some-run call.task.0 (Enter call ctx f caller ∷ past) l in
      let m = moved call.task.0 (Enter call ctx f caller) past r.0 (==-refl call.task.0) r.1 in
      let k = m.2 in
      (r.0, r.1, (let a = k.number in let b = k.next in omega (arith, a, b)))

  -- a call that was entered isn't entered again
  pub enters-fresh : (call : CallNo) (item : Item) (past : List Item) → IsLegalPast job (item ∷ past) → IsPast call past → is_enter call item ≡ false
  enters-fresh call (Enter c x f caller) past l h = by (same_call c call) refl
    where
      by : (b : Bool) → same_call c call ≡ b → same_call c call ≡ false
      by false e = e
      by true e =
          let is : c ≡ call = same_call-eq c call e in
          let r = some-run call.task.0 (Enter c x f caller ∷ past) l in
          let own : (c.task.0 == call.task.0) ≡ true = subst (λ (d : CallNo). (d.task.0 == call.task.0) ≡ true) (sym is) (==-refl call.task.0) in
          let m = moved call.task.0 (Enter c x f caller) past r.0 own r.1 in
          let same : h.0 ≡ m.0 = some_inj h.0 m.0 (sym h.1 ∙ m.1) in
          let lt : c.n < m.0.next = subst (λ (d : CallNo). d.n < m.0.next) (sym is) (subst (λ (p : PlainTask). call.n < p.next) same h.2) in
          let k = m.2 in
          let n = k.number in
          absurd (omega (arith, lt, n))
  enters-fresh call _ past l h = refl

  pub past-through : (call : CallNo) (newer past : List Item) → IsLegalPast job (newer ++ past) → IsPast call past → IsPast call (newer ++ past)
  past-through call newer past l h =
      let r = holds-through call.task.0 (λ s. call.n < s.next) (λ x. false) (λ p s item m own one lt. let le = next-moved p s item m call.task.0 own in omega (arith, lt, le)) newer past l (none-any newer)
      (record { run = h.0; is = h.1; holds = h.2 }) in
      (r.run, r.is, r.holds)

  -- so what the Enter of a call tells stays
  pub entry-through : (call : CallNo) (newer past : List Item) → IsLegalPast job (newer ++ past) → IsPast call past → entry_of call (newer ++ past) ≡ entry_of call past
  unfolding IsLegalPast
  entry-through call [] past l h = refl
  entry-through call (x ∷ newer) past l h =
      entry_of-more call x (newer ++ past) (enters-fresh call x (newer ++ past) l (past-through call newer past l.1 h)) ∙ entry-through call newer past l.1 h

  pub entry-since : (call : CallNo) (ctx : Ctx) (f : FuncNo) (caller : Option CallNo) (newer past : List Item) → IsLegalPast job (newer ++ Enter call ctx f caller ∷ past)
      → entry_of call (newer ++ Enter call ctx f caller ∷ past) ≡ record { ctx = ctx; func = f.0; caller = caller; from = done past }
  unfolding IsLegalPast
  entry-since call ctx f caller newer past l = entry-through call newer (Enter call ctx f caller ∷ past) l (past-enter call ctx f caller past (older newer l)) ∙ entry_of-enter call ctx f caller past
    where
      older : (xs : List Item) → IsLegalPast job (xs ++ Enter call ctx f caller ∷ past) → IsLegalPast job (Enter call ctx f caller ∷ past)
      older [] k = k
      older (x ∷ xs) k = older xs k.1

  -- a call that is entered now has visited nobody
  pub none-before : (call : CallNo) (x : Ctx) (f : FuncNo) (caller : Option CallNo) (past : List Item) → IsSome (plain job call.task.0 (Enter call x f caller ∷ past)) → visits job call past ≡ []
  none-before call x f caller past some = of (plain job call.task.0 (Enter call x f caller ∷ past)) refl some
    where
      of : (o : Option PlainTask) → plain job call.task.0 (Enter call x f caller ∷ past) ≡ o → IsSome o → visits job call past ≡ []
      of None e h = false_true h
      of (Some s) e h =
          let m = moved call.task.0 (Enter call x f caller) past s (==-refl call.task.0) e in
          let k = m.2 in
          none_visited call (all_visits job past) (rw k.number (sound job call.task.0 past m.0 m.1).visits)
