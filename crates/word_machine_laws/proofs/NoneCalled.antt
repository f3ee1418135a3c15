-- No callback of a user is open if no call of the task knows the user to be on: so none is when an unregistration returns.
use Rattle.std.proofs.Common.{◌≡◌, ℕ, true, false, ◌&&◌, ◌==◌, List, [], ◌∷◌, inl, inr, refl, ◌∙◌, arith}
use Rattle.std.proofs.lemmas.Bool.{cases_eq}
use Rattle.std.proofs.lemmas.Bool.Decides.{nat_tests}
use Rattle.ft_base.specs.declared.number.CallNo.{CallNo}
use Rattle.ft_base.specs.declared.item.Item.{Item}
use Rattle.ft_base.specs.Same.{same_call}
use Rattle.ft_base.specs.Job.{Job}
use Rattle.ft_base.proofs.Small.{==-refl, or-true}
use Rattle.ft_hist.specs.Past.{Callback, callbacks, Visit, visits}
use Rattle.ft_hist.proofs.Laws.{same_call-refl}
use Rattle.word_machine.specs.Task.{OpenCall, Moment, Missing, Acting, Ending, EndingExit}
use Rattle.word_machine.specs.Verdicts.{Here, SeenVisit, SeenLive, Dispatches}
use Rattle.word_machine.specs.Calls.{Calls, under_call}
use Rattle.word_machine.specs.Tasks.{callback_at, callbacks_at, with_callback}
use Rattle.ft_hist.proofs.OpenCallbacks.{called, called_visited, each_any, of_user}

-- of a task's callbacks none is of a user that nobody has found on
module _ (job : Job) (h : Here) (past : List Item) (ack q t u : ℕ) (none_visited : (m : Visit) (f : ℕ) → SeenVisit job h q m f → m.user ≡ u
    → ⊥) (no_live : (v reg : ℕ) → SeenLive job h q v reg → v ≡ u → ⊥) where
  abbrev There : List Callback → Type 0
  There bs = (c : CallNo) (v : ℕ) → called c v bs ≡ true → called c v (callbacks past) ≡ true

  below_too : (c : OpenCall) (m : Moment) (rest : List Callback) (call : CallNo) (v : ℕ) → called call v rest ≡ true
      → called call v (callback_at c m rest) ≡ true
  below_too c (Missing w) rest call v e = rw e (or-true (same_call c.call call && (w == v)))
  below_too c (Acting w o) rest call v e = rw e (or-true (same_call c.call call && (w == v)))
  below_too c (Ending w) rest call v e = rw e (or-true (same_call c.call call && (w == v)))
  below_too c (EndingExit m rest') rest call v e = rw e (or-true (same_call c.call call && (m.user == v)))
  below_too c _ rest call v e = e

  -- the callback of a dispatch
  not_visited : (c : OpenCall) (below : List OpenCall) (m : Moment) (v : ℕ) (rest : List Callback) → Dispatches job h past ack q c below m
      → There (with_callback c v rest) → (v == u) ≡ false
  not_visited c below m v rest x there = elim (cases_eq v u) [
    | inr ne ↦ grind (arith, nat_tests)
    | inl e ↦ absurd
        (let own : called c.call v (with_callback c v rest) ≡ true = (let s : same_call c.call c.call ≡ true = same_call-refl c.call in
        let z : (v == v) ≡ true = ==-refl v in rw (s, z) refl) in
        let y = each_any (λ m. SeenVisit job h q m c.func) v (visits job c.call past) x.on
        (called_visited job c.call v past x.so.unexited (there c.call v own)) in
        none_visited y.0 c.func y.1 (y.2 ∙ e))
  ]

  none_here : (c : OpenCall) (below : List OpenCall) (m : Moment) (rest : List Callback) → Calls job h past ack q t m (c ∷ below)
      → There (callback_at c m rest) → of_user u rest ≡ false → of_user u (callback_at c m rest) ≡ false
  none_here c below (Missing v) rest x there none = (let e = not_visited c below (Missing v) v rest x.1 there in rw (e, none) refl)
  none_here c below (Acting v o) rest x there none = (let e = not_visited c below (Acting v o) v rest x.1 there in rw (e, none) refl)
  none_here c below (Ending v) rest x there none = (let e = not_visited c below (Ending v) v rest x.1 there in rw (e, none) refl)
  none_here c below (EndingExit m rest') rest x there none =
      let e : (m.user == u) ≡ false = elim (cases_eq m.user u) [ inr ne ↦ grind (arith, nat_tests) | inl s ↦ absurd (no_live m.user m.reg x.1.1 s) ] in
      rw (e, none) refl
  none_here c below _ rest x there none = none

  pub none_called : (m : Moment) (stack : List OpenCall) → Calls job h past ack q t m stack → There (callbacks_at m stack)
      → of_user u (callbacks_at m stack) ≡ false
  none_called m [] x there = refl
  none_called m (c ∷ below) x there =
      none_here c below m (callbacks_at (under_call c below) below) x there
      (none_called (under_call c below) below x.2 (λ call v e. there call v (below_too c m (callbacks_at (under_call c below) below) call v e)))
