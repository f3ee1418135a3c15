-- A machine that goes on is its job's, and its history is legal.
use Rattle.std.proofs.Common.{◌≡◌, ◌+◌, ◌<◌, ◌≤◌, Bool, true, List, [], ◌∷◌, ◌++◌, length, reverse, Option, Some, refl, sym, ap, ◌∙◌, subst, arith}
use Rattle.std.proofs.lemmas.List.{length-append, length-reverse, reverse-append, reverse-reverse}
use Rattle.ft_base.specs.declared.item.Item.{Item}
use Rattle.ft_base.specs.declared.turn.Actor.{Actor}
use Rattle.ft_base.specs.Job.{Job}
use Rattle.ft_hist.specs.Rules.{IsLegal, IsLegalPast, IsWhole}
use Rattle.ft_hist.specs.Shown.{Shown}
use Rattle.history_laws.proofs.Bounded.{history-most}
use Rattle.word_machine.specs.Laws.{Runs}
use Rattle.word_machine.specs.Limits.{IsLimited}
use Rattle.word_machine.specs.Machine.{World, all_end, start, step}
use Rattle.word_machine_laws.proofs.Ends as ends
use Rattle.word_machine_laws.proofs.Limited.{limited}
use Rattle.word_machine_laws.proofs.Room.{legal-turned}
use Rattle.word_machine_laws.proofs.WordsFit.{start-runs, step-runs}
use Rattle.ft_machine.specs.Worlds.{IsFor, Parts, marked_on, world_of}
use Rattle.ft_machine.specs.declared.machine.Machine.{Machine}
use Rattle.ft_machine.specs.MachineStates.{HasPast, IsAt, IsMachineOf, most_items, past_in}
use Rattle.ft_machine.specs.Machines.{state_of}

-- ## room

-- a legal history has at most the items for which there was room, so there is room for one more
pub has-room : (job : Job) (past : List Item) (h : Shown) → HasPast job past h → (item : Item) → IsLegalPast job (item ∷ past) → 0 < h.spare
has-room job past h has item legal =
    let most = history-most job (item ∷ past) legal in
    let many = sym (length-reverse h.items) ∙ ap (λ (xs : List Item). length xs) has.items in
    let room = has.room in
    omega (arith, most, many, room)

-- one more item
pub past-next : (past : List Item) (h h' : Shown) (item : Item) → past_in h ≡ past → h'.items ≡ h.items ++ item ∷ [] → past_in h' ≡ item ∷ past
past-next past h h' item is added =
    ap (λ (xs : List Item). reverse xs) added ∙ reverse-append h.items (item ∷ []) ∙ ap (λ (xs : List Item). item ∷ xs) is

pub takes : (job : Job) (past : List Item) (h h' : Shown) (item : Item) → HasPast job past h → h'.items ≡ h.items ++ item ∷ [] → h.spare ≤ h'.spare + 1
    → HasPast job (item ∷ past) h'
takes job past h h' item has added spare = record {
  items = past-next past h h' item has.items added;
  room = (let e = ap (λ (xs : List Item). length xs) added ∙ length-append h.items (item ∷ []) in let room = has.room in omega (arith, e, spare, room));
}

-- none so far
pub takes-none : (job : Job) (h : Shown) → h.items ≡ [] → most_items job ≤ h.spare → HasPast job [] h
takes-none job h none room = record {
  items = ap (λ (xs : List Item). reverse xs) none;
  room = (let n = ap (λ (xs : List Item). length xs) none in omega (arith, n, room));
}

-- ## a world

-- before the first step
pub starts-at : (job : Job) (w : Parts) → IsLimited job → IsFor job [] w → world_of job [] w ≡ start job → IsAt job (start job) w
starts-at job w l f e =
    let past : [] ≡ (start job).past = ap (λ (s : World). s.past) e in
    record {
      limited = l;
      is_for = subst (λ items. IsFor job items w) past f;
      is = ap (λ items. world_of job items w) (sym past) ∙ e;
      runs = start-runs job l;
    }

-- after a step
module _ (job : Job) (s : World) (w w' : Parts) (a : Actor) (o : Option Item) (at : IsAt job s w)
    (moved : IsFor job (marked_on o s.past) w' × (world_of job (marked_on o s.past) w' ≡ step job a (world_of job s.past w))) where
  step-is : world_of job (marked_on o s.past) w' ≡ step job a s
  step-is = moved.1 ∙ ap (λ t. step job a t) at.is

  pub step-past : marked_on o s.past ≡ (step job a s).past
  step-past = ap (λ (t : World). t.past) step-is

  pub steps-at : IsAt job (step job a s) w'
  steps-at = record {
    limited = at.limited;
    is_for = subst (λ items. IsFor job items w') step-past moved.0;
    is = ap (λ items. world_of job items w') (sym step-past) ∙ step-is;
    runs = step-runs job at.limited a s at.runs;
  }

  -- what it has marked is legal
  pub step-legal : IsLegalPast job (marked_on o s.past)
  step-legal = subst (λ items. IsLegalPast job items) (sym step-past) (step-runs job at.limited a s at.runs).kept.legal

-- whether every actor is at its end, as code tells it
pub at-ends : (job : Job) (s : World) (w : Parts) (b : Bool) → IsAt job s w
    → ((j : Job) (past : List Item) → IsLimited j → IsFor j past w → Runs j (world_of j past w) → b ≡ all_end j (world_of j past w)) → b ≡ all_end job s
at-ends job s w b at told =
    told job s.past at.limited at.is_for (subst (Runs job) (sym at.is) at.runs) ∙ ap (λ (t : World). all_end job t) at.is

-- ## a machine

-- a machine is a world after the items of its history
module _ (job : Job) (w : Parts) (h : Shown) where
  pub machine-at : IsMachineOf job w h → IsAt job (world_of job (past_in h) w) w
  machine-at m = record { limited = m.limited; is_for = m.is_for; is = refl; runs = m.runs }

  pub machine-has : IsMachineOf job w h → HasPast job (past_in h) h
  machine-has m = record { items = refl; room = m.room }

  module _ (s : World) (at : IsAt job s w) (has : HasPast job s.past h) where
    pub machine-state : world_of job (past_in h) w ≡ s
    machine-state = ap (λ items. world_of job items w) has.items ∙ at.is

    pub machine-is : IsMachineOf job w h
    machine-is = record {
      limited = at.limited;
      is_for = subst (λ items. IsFor job items w) (sym has.items) at.is_for;
      runs = subst (Runs job) (sym machine-state) at.runs;
      room = has.room;
    }

-- at the start
module _ (job : Job) (w : Parts) (h : Shown) (l : IsLimited job) (f : IsFor job [] w) (e : world_of job [] w ≡ start job)
    (none : h.items ≡ []) (room : most_items job ≤ h.spare) where
  first-has : HasPast job (start job).past h
  first-has = subst (λ items. HasPast job items h) (ap (λ (s : World). s.past) e) (takes-none job h none room)

  pub started : IsMachineOf job w h
  started = machine-is job w h (start job) (starts-at job w l f e) first-has

  pub started-state : world_of job (past_in h) w ≡ start job
  started-state = machine-state job w h (start job) (starts-at job w l f e) first-has

-- after a step that has marked this item or none
module _ (job : Job) (w w' : Parts) (h h' : Shown) (a : Actor) (o : Option Item) (m : IsMachineOf job w h)
    (moved : IsFor job (marked_on o (past_in h)) w' × (world_of job (marked_on o (past_in h)) w' ≡ step job a (world_of job (past_in h) w))) where
  at-step : IsAt job (step job a (world_of job (past_in h) w)) w'
  at-step = steps-at job (world_of job (past_in h) w) w w' a o (machine-at job w h m) moved

  module _ (has : HasPast job (marked_on o (past_in h)) h') where
    has-step : HasPast job (step job a (world_of job (past_in h) w)).past h'
    has-step = subst (λ items. HasPast job items h') (step-past job (world_of job (past_in h) w) w w' a o (machine-at job w h m) moved) has

    pub stepped : IsMachineOf job w' h'
    stepped = machine-is job w' h' (step job a (world_of job (past_in h) w)) at-step has-step

    pub stepped-state : world_of job (past_in h') w' ≡ step job a (world_of job (past_in h) w)
    stepped-state = machine-state job w' h' (step job a (world_of job (past_in h) w)) at-step has-step

-- with room for what it marks
pub push-room : (job : Job) (w w' : Parts) (h : Shown) (a : Actor) (item : Item) → IsMachineOf job w h
    → IsFor job (item ∷ past_in h) w' × (world_of job (item ∷ past_in h) w' ≡ step job a (world_of job (past_in h) w)) → 0 < h.spare
push-room job w w' h a item m moved =
    has-room job (past_in h) h (machine-has job w h m) item
    (step-legal job (world_of job (past_in h) w) w w' a (Some item) (machine-at job w h m) moved)

-- ## histories

-- the history that it keeps has the items of its state, in order
pub items-are : (job : Job) (m : Machine) (h : Shown) → h ≡ m.history → h.items ≡ reverse (state_of job m).past
items-are job m h e = ap (λ (x : Shown). x.items) e ∙ sym (reverse-reverse m.history.items)

pub has-items : (past : List Item) (h : Shown) → past_in h ≡ past → h.items ≡ reverse past
has-items past h is = sym (reverse-reverse h.items) ∙ ap (λ (xs : List Item). reverse xs) is

module _ (job : Job) (s : World) (l : IsLimited job) (r : Runs job s) (items : List Item) (e : items ≡ reverse s.past) where
  pub legal : IsLegal job items
  legal = subst (λ (xs : List Item). IsLegal job xs) (sym e) (legal-turned job s.past r.kept.legal)

  pub whole : all_end job s ≡ true → IsWhole job items
  whole over = subst (λ (xs : List Item). IsWhole job xs) (sym e) (ends.whole job (limited job l) s r.kept over)
