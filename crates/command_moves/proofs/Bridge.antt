-- The stepper of a command's moves is the word machine's control within a command.
use Rattle.std.proofs.Common.{◌≡◌, ℕ, zero, suc, Bool, true, false, List, [], ◌∷◌, ◌++◌, map, length, cond, Some, None, refl, sym, ap, ◌∙◌, subst, arith, append_assoc}
use Rattle.std.specs.Prelude.{slice_get, nat_lt, nat_le}
use Rattle.std.specs.Option.{option_map}
use Rattle.ft_base.specs.Job.{Job}
use Rattle.ft_base.proofs.Small.{false_true}
use Rattle.word_map.specs.Words.{Word}
use Rattle.word_map.specs.Shapes.{shape_of}
use Rattle.word_map.specs.Ops.{Store, placed}
use Rattle.grace_core.specs.Waits.{Wait, wait_start, wait_next, wait_got, wait_after, awaited, reached}
use Rattle.grace_core.specs.declared.waiter.WaitPhase.{WaitPhase}
use Rattle.grace_core.specs.declared.waiter.WaitPhase.TheVariants.{Asking, Waiting, Ended}
use Rattle.word_machine.specs.Commands.{effect, moves}
use Rattle.word_machine.specs.Control.{Control, Position, Take, Copy, Select, Push, Relink, StorePids, StoreDepth, Patch, Ask, Await, Awaited, Cpus, Tasks, Release, wait_for, in_wait, next_in, got_in, control_next, control_got}
use Rattle.command_moves.specs.declared.underway.Move.{Move as CodeMove}
use Rattle.command_moves.specs.Program.{Move, Put}
use Rattle.command_moves.specs.Left.{InCommand, left_in, idle, wait_move, behind, patch_left}
use Rattle.command_moves.specs.Steps.{Underway, move_op, op_in, op_of, waited, moved, stepped_in, stepped}
use Rattle.command_moves.specs.Stepper.{coded, IsLeft, IsFor, wait_of}
use Rattle.command_moves.proofs.MovesLeft.{Leads, before, waited-on, copies, one-copy, select-goes, relinks}

module _ (job : Job) where
  idle-wait : (request : ℕ) (p : Position) → idle p ≡ true → wait_of job request p ≡ None
  idle-wait request (Await whom n) e = false_true e
  idle-wait request _ e = refl

  get-at : (made : List CodeMove) (m : CodeMove) (rest : List CodeMove) (n : ℕ) → n ≡ length made → slice_get (made ++ m ∷ rest) n ≡ Some m
  get-at [] m rest zero e = refl
  get-at [] m rest (suc n) e = absurd (omega (arith, e))
  get-at (b ∷ made) m rest zero e = absurd (omega (arith, e))
  get-at (b ∷ made) m rest (suc n) e = get-at made m rest n (omega (arith, e))

  present : (c : Underway) (m : Move) (rest : List Move) → IsLeft job c (m ∷ rest) → slice_get c.moves c.made ≡ Some (coded (shape_of job) m)
  present c m rest l = ap (λ (ms : List CodeMove). slice_get ms c.made) l.1 ∙ get-at l.0 (coded (shape_of job) m) (map (coded (shape_of job)) rest) c.made l.2

  on : (c : Underway) (m : Move) (rest : List Move) → IsLeft job c (m ∷ rest) → IsLeft job (record c { made = suc c.made; wait = None }) rest
  on c m rest l = (l.0 ++ coded (shape_of job) m ∷ [], l.1 ∙ sym (append_assoc l.0 (coded (shape_of job) m ∷ []) (map (coded (shape_of job)) rest)), more l.0 c.made l.2)
    where
      more : (made : List CodeMove) (n : ℕ) → n ≡ length made → suc n ≡ length (made ++ coded (shape_of job) m ∷ [])
      more [] n e = ap suc e
      more (b ∷ made) zero e = absurd (omega (arith, e))
      more (b ∷ made) (suc n) e = ap suc (more made n (omega (arith, e)))

  module _ (m : Control) (c : Underway) (v : ℕ) where
    -- what a step within a command owes: its operation, and where it leads
    pub record Row (p : Position) : Type 0 where
      pub next : op_in c c.wait ≡ option_map (placed (shape_of job)) (next_in job m p)
      pub got : IsFor job (got_in job m p v) (got_in job m p v).position (stepped_in c c.wait v)

    -- a store
    put : (p : Position) (w : Word) (x : ℕ) (rest : List Move) → wait_of job c.request p ≡ None → left_in job m p ≡ Put w x ∷ rest → next_in job m p ≡ Some (Store w x)
        → (got_in job m p v).request ≡ m.request → Leads job m (got_in job m p v) (got_in job m p v).position rest → IsFor job m p c → Row p
    put p w x rest none first op same leads k =
        let none' : c.wait ≡ None = k.wait ∙ none in
        let l : IsLeft job c (Put w x ∷ rest) = subst (λ (ms : List Move). IsLeft job c ms) first k.left in record {
          next = ap (λ o. op_in c o) none' ∙ ap (λ o. move_op c.shape c.request o) (present c (Put w x) rest l) ∙ (λ i. option_map (placed (shape_of job)) (sym op i));
          got = subst (λ o. IsFor job (got_in job m p v) (got_in job m p v).position (stepped_in c o v)) (sym none')
              (subst (λ o. IsFor job (got_in job m p v) (got_in job m p v).position (moved c o v)) (sym (present c (Put w x) rest l)) (record {
                shape = k.shape;
                request = k.request ∙ sym same;
                left = subst (λ (ms : List Move). IsLeft job (record c { made = suc c.made }) ms) (sym leads.0) (on c (Put w x) rest l);
                wait = none' ∙ sym (idle-wait c.request (got_in job m p v).position leads.1);
              }));
        }

    never-asks : (w : Wait) (ph : WaitPhase) → wait_after w ph v ≡ Asking → ⊥
    never-asks w Asking e = for (nat_lt 0 (awaited w)) e
      where
        for : (b : Bool) → cond b (Waiting 0) Ended ≡ Asking → ⊥
        for true e = absurd cc
        for false e = absurd cc
    never-asks w (Waiting n) e = for (nat_le w.request (reached w.quiet v)) (nat_lt (suc n) (awaited w)) e
      where
        for : (a b : Bool) → cond a (cond b (Waiting (suc n)) Ended) (Waiting n) ≡ Asking → ⊥
        for true true e = absurd cc
        for true false e = absurd cc
        for false b e = absurd cc
    never-asks w Ended e = absurd cc

  -- a wait goes on, or is over
  after-wait : (m : Control) (c : Underway) (whom : Awaited) (ph : WaitPhase) (t : Control) → t ≡ record m { position = in_wait job m.commands_done whom ph }
      → (ph ≡ Asking → ⊥) → c.shape ≡ shape_of job → c.request ≡ m.request
      → IsLeft job c (wait_move whom ∷ behind job m.commands_done whom) → IsFor job t (in_wait job m.commands_done whom ph) (waited c (wait_for job whom c.request ph))
  after-wait m c whom Asking t e un shape request l = absurd (un refl)
  after-wait m c whom (Waiting n) t e un shape request l = record {
    shape = shape;
    request = request ∙ ap (λ (t : Control). t.request) (sym e);
    left = subst (λ (t : Control). IsLeft job c (left_in job t (Await whom n))) (sym e) l;
    wait = refl;
  }
  after-wait m c whom Ended t e un shape request l =
      let o = waited-on job m t (ap (λ (t : Control). t.commands_done) e) whom in record {
        shape = shape;
        request = request ∙ ap (λ (t : Control). t.request) (sym e);
        left = subst (λ (ms : List Move). IsLeft job (record c { made = suc c.made; wait = None }) ms) (sym o.0) (on c (wait_move whom) (behind job m.commands_done whom) l);
        wait = sym (idle-wait c.request (in_wait job m.commands_done whom Ended) o.1);
      }

  module _ (m : Control) (c : Underway) (v : ℕ) where
    pub ask : (whom : Awaited) → IsFor job m (Ask whom) c → Row m c v (Ask whom)
    ask whom k = record {
      next = ap (λ o. op_in c o) k.wait ∙ ap (λ o. move_op c.shape c.request o) (present c (wait_move whom) (behind job m.commands_done whom) k.left) ∙ op whom;
      got = subst (λ o. IsFor job (got_in job m (Ask whom) v) (got_in job m (Ask whom) v).position (stepped_in c o v)) (sym k.wait)
          (subst (λ o. IsFor job (got_in job m (Ask whom) v) (got_in job m (Ask whom) v).position (moved c o v)) (sym (present c (wait_move whom) (behind job m.commands_done whom) k.left))
          (goes whom k));
    }
      where
        op : (whom : Awaited) → move_op c.shape c.request (Some (coded (shape_of job) (wait_move whom))) ≡ option_map (placed (shape_of job)) (next_in job m (Ask whom))
        op (Cpus rest) = λ i. option_map (placed (k.shape i)) (wait_next (wait_start (k.shape i) false (suc (k.request i))))
        op Tasks = λ i. option_map (placed (k.shape i)) (wait_next (wait_start (k.shape i) true (suc (k.request i))))

        over : (whom : Awaited) → IsFor job m (Ask whom) c → IsFor job (got_in job m (Ask whom) v) (got_in job m (Ask whom) v).position
            (waited (record c { request = suc c.request }) (wait_got (wait_for job whom (suc c.request) Asking) v))
        over whom k = subst (λ r. IsFor job (got_in job m (Ask whom) v) (got_in job m (Ask whom) v).position (waited (record c { request = suc c.request }) (wait_got (wait_for job whom (suc c.request) Asking) v))) k.request
            (after-wait (record m { request = suc m.request }) (record c { request = suc c.request }) whom (wait_got (wait_for job whom (suc m.request) Asking) v).phase
            (got_in job m (Ask whom) v) refl (never-asks m c v (wait_for job whom (suc m.request) Asking) Asking) k.shape (ap suc k.request) k.left)

        goes : (whom : Awaited) → IsFor job m (Ask whom) c → IsFor job (got_in job m (Ask whom) v) (got_in job m (Ask whom) v).position (moved c (Some (coded (shape_of job) (wait_move whom))) v)
        goes (Cpus rest) k = subst (λ sh. IsFor job (got_in job m (Ask (Cpus rest)) v) (got_in job m (Ask (Cpus rest)) v).position
            (waited (record c { request = suc c.request }) (wait_got (wait_start sh false (suc c.request)) v))) (sym k.shape) (over (Cpus rest) k)
        goes Tasks k = subst (λ sh. IsFor job (got_in job m (Ask Tasks) v) (got_in job m (Ask Tasks) v).position
            (waited (record c { request = suc c.request }) (wait_got (wait_start sh true (suc c.request)) v))) (sym k.shape) (over Tasks k)

    pub await : (whom : Awaited) (n : ℕ) → IsFor job m (Await whom n) c → Row m c v (Await whom n)
    await whom n k = record {
      next = ap (λ o. op_in c o) k.wait ∙ (λ i. option_map (placed (k.shape i)) (wait_next (wait_for job whom (k.request i) (Waiting n))));
      got = subst (λ o. IsFor job (got_in job m (Await whom n) v) (got_in job m (Await whom n) v).position (stepped_in c o v)) (sym k.wait)
          (subst (λ r. IsFor job (record m { position = in_wait job m.commands_done whom (wait_got (wait_for job whom r (Waiting n)) v).phase })
          (in_wait job m.commands_done whom (wait_got (wait_for job whom r (Waiting n)) v).phase) (waited c (wait_got (wait_for job whom c.request (Waiting n)) v))) k.request
          (after-wait m c whom (wait_got (wait_for job whom c.request (Waiting n)) v).phase
          (record m { position = in_wait job m.commands_done whom (wait_got (wait_for job whom c.request (Waiting n)) v).phase }) refl
          (never-asks m c v (wait_for job whom c.request (Waiting n)) (Waiting n)) k.shape k.request k.left));
    }

    -- each position within a command
    pub row : (p : Position) → InCommand job p → IsFor job m p c → Row m c v p
    row Take is k = put m c v Take _ _ _ refl refl refl refl (copies job m 0 0 (omega arith)) k
    row (Copy h w) is k = put m c v (Copy h w) _ _ _ refl (one-copy job m h w is.0 is.1) refl refl (copies job m h (suc w) is.0) k
    row Select is k = put m c v Select _ _ _ refl refl refl refl (select-goes job m v) k
    row Push is k = put m c v Push _ _ _ refl refl refl refl (refl, refl) k
    row Relink is k = let r = relinks job m (effect job m.commands_done) in
        put m c v Relink r.0 r.1 (patch_left job m.commands_done (moves job m.commands_done)) refl (ap (λ (x : Move). x ∷ patch_left job m.commands_done (moves job m.commands_done)) r.2)
        (ap (λ o. Some o) r.3) refl (before job m (got_in job m Relink v) refl (moves job m.commands_done)) k
    row StorePids is k = put m c v StorePids _ _ _ refl refl refl refl (refl, refl) k
    row StoreDepth is k = put m c v StoreDepth _ _ _ refl refl refl refl (refl, refl) k
    row (Patch w x rest) is k = put m c v (Patch w x rest) w x (patch_left job m.commands_done rest) refl refl refl refl (before job m (got_in job m (Patch w x rest) v) refl rest) k
    row (Ask whom) is k = ask whom k
    row (Await whom n) is k = await whom n k
    row Release is k = put m c v Release _ _ _ refl refl refl refl (refl, refl) k
    row _ is k = absurd is

  -- ## at control's own position

  module _ (s : Control) (c : Underway) (is : InCommand job s.position) (k : IsFor job s s.position c) where
    pub next-law : op_of c ≡ option_map (placed (shape_of job)) (control_next job s)
    unfolding control_next
    next-law = (row s c 0 s.position is k).next

    pub got-law : (v : ℕ) → IsFor job (control_got job s v) (control_got job s v).position (stepped c v)
    unfolding control_got
    got-law v = (row s c v s.position is k).got
