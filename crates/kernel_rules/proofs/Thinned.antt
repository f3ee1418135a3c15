-- What a past tells without its refusals and its misses, whatever its exits name and its bodies ran: nearly all that the rules ask for.
use Rattle.std.proofs.Common.{◌≡◌, ℕ, Bool, true, not, ◌&&◌, ◌||◌, ◌==◌, List, [], ◌∷◌, length, map, refl, sym, ap, ap₂, ◌∙◌, nat_lt}
use Rattle.std.specs.List.{filter}
use Rattle.ft_base.specs.declared.number.CallNo.{CallNo}
use Rattle.ft_base.specs.declared.item.Item.{Item}
use Rattle.ft_base.specs.declared.item.Item.TheVariants.{Begin, Return, Enter, Back, BackEnd, Refuse, Miss, Body, Leave, Exit, ExitEnd, Ret}
use Rattle.ft_base.specs.declared.item.Ran.TheVariants.{List as ByList}
use Rattle.ft_base.specs.Same.{same_call}
use Rattle.ft_base.specs.Job.{Job}
use Rattle.ft_base.specs.Desk.{spec_at}
use Rattle.ft_base.specs.Kinds.{has_depth, has_exit, cancels}
use Rattle.ft_base.proofs.Small.{and-false, each-all, filter-ext}
use Rattle.ft_hist.specs.Past.{done, begun, entered, callbacks, ctx_of, is_open, is_dispatched, calls, done_at_leave, Visit, all_visits, has_frame_user, holds_frame, held, user_now}

-- an item without the place that an exit names and without what a body ran
abbrev pub bare : Item → Item
bare (Body call g ran) = Body call g ByList
bare (Exit call u entry) = Exit call u 0
bare item = item

-- a past without refusals and misses
abbrev pub thinned : List Item → List Item
thinned [] = []
thinned (Refuse call u reason ∷ past) = thinned past
thinned (Miss call u ∷ past) = thinned past
thinned (item ∷ past) = bare item ∷ thinned past

-- ## what stays

-- the commands that have returned
pub done-thin : (past : List Item) → done (thinned past) ≡ done past
done-thin [] = refl
done-thin (Return k a ∷ past) = rw (done-thin past) refl
done-thin (_ ∷ past) = done-thin past

-- those that have begun
pub begun-thin : (past : List Item) → begun (thinned past) ≡ begun past
begun-thin [] = refl
begun-thin (Begin k ∷ past) = rw (begun-thin past) refl
begun-thin (_ ∷ past) = begun-thin past

-- the calls that were entered
calls-thin : (past : List Item) → calls (thinned past) ≡ calls past
calls-thin [] = refl
calls-thin (Enter c x f caller ∷ past) = rw (calls-thin past) refl
calls-thin (_ ∷ past) = calls-thin past

-- the Enter of a call
pub entered-thin : (call : CallNo) (past : List Item) → entered call (thinned past) ≡ entered call past
entered-thin call [] = refl
entered-thin call (Enter c x f caller ∷ past) = rw (done-thin past, entered-thin call past) refl
entered-thin call (_ ∷ past) = entered-thin call past

-- whether it is open
open-thin : (call : CallNo) (past : List Item) → is_open call (thinned past) ≡ is_open call past
open-thin call [] = refl
open-thin call (Enter c x f caller ∷ past) = rw (open-thin call past) refl
open-thin call (Ret c to ∷ past) = rw (open-thin call past) refl
open-thin call (_ ∷ past) = open-thin call past

-- whether its dispatch is over
dispatched-thin : (call : CallNo) (past : List Item) → is_dispatched call (thinned past) ≡ is_dispatched call past
dispatched-thin call [] = refl
dispatched-thin call (Body c g ran ∷ past) = rw (dispatched-thin call past) refl
dispatched-thin call (_ ∷ past) = dispatched-thin call past

-- how many commands had returned at its Leave
pub left-thin : (call : CallNo) (past : List Item) → done_at_leave call (thinned past) ≡ done_at_leave call past
left-thin call [] = refl
left-thin call (Leave c ∷ past) = rw (done-thin past, left-thin call past) refl
left-thin call (_ ∷ past) = left-thin call past

-- its context
ctx-thin : (call : CallNo) (past : List Item) → ctx_of call (thinned past) ≡ ctx_of call past
ctx-thin call past = rw (entered-thin call past) refl

-- the callbacks that are open
pub callbacks-thin : (past : List Item) → callbacks (thinned past) ≡ callbacks past
callbacks-thin [] = refl
callbacks-thin (Back c u ∷ past) = rw (ctx-thin c past, callbacks-thin past) refl
callbacks-thin (BackEnd c u ∷ past) = rw (callbacks-thin past) refl
callbacks-thin (Exit c u p ∷ past) = rw (ctx-thin c past, callbacks-thin past) refl
callbacks-thin (ExitEnd c u ∷ past) = rw (callbacks-thin past) refl
callbacks-thin (_ ∷ past) = callbacks-thin past

-- ## entry callbacks, and the frames that they hold

-- the entry callbacks among visits, wherever they stand
abbrev pub unplaced : Visit → Visit
unplaced m = record m { place = 0 }

-- the list of them
abbrev pub backs : List Visit → List Visit
backs ms = map unplaced (filter (λ m. m.back) ms)

module _ (job : Job) where
  -- what a visit reads of its user
  user-thin : (c : CallNo) (u : ℕ) (past : List Item) → user_now job c u (thinned past) ≡ user_now job c u past
  user-thin c u past = rw (entered-thin c past, done-thin past, begun-thin past) refl

  -- only entry callbacks get frames
  frames-of-backs : (c : CallNo) (q : ℕ → Bool) (past : List Item) → has_frame_user c (λ m. q m.user) (all_visits job past) ≡ has_frame_user c (λ m. q m.user) (backs (all_visits job past))
  unfolding all_visits
  frames-of-backs c q [] = refl
  frames-of-backs c q (Back d u ∷ past) = rw (frames-of-backs c q past) refl
  frames-of-backs c q (Refuse d u reason ∷ past) = rw (and-false (same_call d c)) (frames-of-backs c q past)
  frames-of-backs c q (_ ∷ past) = frames-of-backs c q past

  -- the entry callbacks are the same
  abbrev SameBacks : List Item → Type 0
  SameBacks past = backs (all_visits job (thinned past)) ≡ backs (all_visits job past)

  -- so the same calls hold frames
  holds-thin : (past : List Item) → SameBacks past → (c : CallNo) → holds_frame job c (thinned past) (all_visits job (thinned past)) ≡ holds_frame job c past (all_visits job past)
  holds-thin past same c =
      rw (open-thin c past, dispatched-thin c past, frames (λ u. not (cancels (spec_at job u).kind)), frames (λ u. true)) refl
    where
      frames : (q : ℕ → Bool) → has_frame_user c (λ m. q m.user) (all_visits job (thinned past)) ≡ has_frame_user c (λ m. q m.user) (all_visits job past)
      frames q = frames-of-backs c q (thinned past) ∙ ap (λ (ms : List Visit). has_frame_user c (λ m. q m.user) ms) same ∙ sym (frames-of-backs c q past)

  -- and as many
  held-by-backs : (past : List Item) → SameBacks past → (c : CallNo) → held job c (thinned past) ≡ held job c past
  held-by-backs past same c =
      ap (λ (cs : List CallNo). length (filter (λ d. (d.task.0 == c.task.0) && not (same_call d c) && holds_frame job d (thinned past) (all_visits job (thinned past))) cs)) (calls-thin past)
      ∙ ap (λ (cs : List CallNo). length cs)
      (filter-ext _ _ (calls past) (each-all _ (calls past) (λ d. ap (λ b. (d.task.0 == c.task.0) && not (same_call d c) && b) (holds-thin past same d))))

  -- a visit by what it reads
  abbrev pub visit_as : CallNo → ℕ → Bool → ℕ → ℕ → ℕ → ℕ → Visit
  visit_as c u back reg since place level = record {
    call = c;
    user = u;
    reg = reg;
    since = since;
    place = place;
    back = back;
    framed = back && (has_depth (spec_at job u).kind || (has_exit (spec_at job u).kind && nat_lt level job.frames));
  }

  -- so they are in each past
  backs-thin : (past : List Item) → SameBacks past
  unfolding all_visits
  backs-thin [] = refl
  backs-thin (Back d u ∷ past) =
      let same = backs-thin past in
      ap₂ (λ (m : Visit) (ms : List Visit). m ∷ ms)
      (ap₂ (λ (r s : ℕ). visit_as d u.0 true r s 0 (held job d (thinned past))) (ap (λ s. s.reg) (user-thin d u.0 past)) (ap (λ s. s.since) (user-thin d u.0 past))
      ∙ ap (λ (n : ℕ). visit_as d u.0 true (user_now job d u.0 past).reg (user_now job d u.0 past).since 0 n) (held-by-backs past same d))
      same
  backs-thin (_ ∷ past) = backs-thin past

  -- and so are the frames that are held
  held-thin : (c : CallNo) (past : List Item) → held job c (thinned past) ≡ held job c past
  held-thin c past = held-by-backs past (backs-thin past) c

  -- two pasts that are the same but for refusals and misses
  pub record Alike (past past' : List Item) : Type 0 where
    pub done' : done past ≡ done past'
    pub begun' : begun past ≡ begun past'
    pub entered' : (c : CallNo) → entered c past ≡ entered c past'
    pub open' : callbacks past ≡ callbacks past'
    pub left : (c : CallNo) → done_at_leave c past ≡ done_at_leave c past'
    pub held' : (c : CallNo) → held job c past ≡ held job c past'
    pub backs' : backs (all_visits job past) ≡ backs (all_visits job past')
    pub bodies : (c : CallNo) → is_dispatched c past ≡ is_dispatched c past'

  -- so it is if nothing else stands in them
  pub alike : (past past' : List Item) → thinned past ≡ thinned past' → Alike past past'
  alike past past' e = record {
    done' = sym (done-thin past) ∙ ap done e ∙ done-thin past';
    begun' = sym (begun-thin past) ∙ ap begun e ∙ begun-thin past';
    entered' = λ c. sym (entered-thin c past) ∙ ap (entered c) e ∙ entered-thin c past';
    open' = sym (callbacks-thin past) ∙ ap callbacks e ∙ callbacks-thin past';
    left = λ c. sym (left-thin c past) ∙ ap (done_at_leave c) e ∙ left-thin c past';
    held' = λ c. sym (held-thin c past) ∙ ap (held job c) e ∙ held-thin c past';
    backs' = sym (backs-thin past) ∙ ap (λ (p : List Item). backs (all_visits job p)) e ∙ backs-thin past';
    bodies = λ c. sym (dispatched-thin c past) ∙ ap (is_dispatched c) e ∙ dispatched-thin c past';
  }
