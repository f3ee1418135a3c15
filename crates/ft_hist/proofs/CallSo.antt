-- How what is known of a call in its dispatch goes on over one more visit and over items that don't touch the call.
use Rattle.std.proofs.Common.{cond, ◌≡◌, ℕ, suc, ◌<◌, ◌≤◌, Bool, true, false, not, ◌&&◌, ◌||◌, ◌==◌, List, [], ◌∷◌, ◌++◌, length, Some, refl, ap, ◌∙◌, subst, arith, inl, inr}
use Rattle.std.specs.List.{list_any, AllByRecursion as Each}
use Rattle.ft_base.specs.declared.number.CallNo.{CallNo}
use Rattle.ft_base.specs.declared.item.Reason.{Reason}
use Rattle.ft_base.specs.declared.item.Item.{Item}
use Rattle.ft_base.specs.declared.item.Item.TheVariants.{Back, Refuse}
use Rattle.ft_base.specs.Job.{Job}
use Rattle.ft_base.specs.Desk.{spec_at}
use Rattle.ft_base.proofs.Small.{Each-weaker, Each-snoc, or-false_both}
use Rattle.ft_base.specs.Kinds.{cancels}
use Rattle.ft_hist.specs.Past.{Entered, begun, entered, entry_of, all_visits, visit, Visit, visits, held}
use Rattle.ft_hist.proofs.Laws.{same_call-refl}
use Rattle.ft_hist.specs.Known.{Watches}
use Rattle.ft_hist.specs.Frames.{FrameUser, runs_after, keeps_frame, FrameOf}
use Rattle.ft_hist.proofs.Since.{Untouched, watches-untouched}
use Rattle.ft_hist.proofs.Visiting.{runs-back, runs-refuse, frame-none, frame-joined}
use Rattle.ft_hist.specs.Dispatch.{Walk, Around, CallSo, takes_frame, joined}

-- how it goes on: nothing here speaks of one desk
module _ (job : Job) (a : Around) (call : CallNo) (e : Entered) where
  pub so-untouched : (w : Walk) (todo : ℕ → Bool) (past past' : List Item) → Untouched job call past past' → begun past ≤ begun past' → length past ≤ length past'
      → CallSo job a call e w todo past → CallSo job a call e w todo past'
  so-untouched w todo past past' u le longer h = record {
    known = u.entered ∙ h.known;
    opened = u.open' ∙ h.opened;
    undone = u.dispatched ∙ h.undone;
    unexited = u.exits ∙ h.unexited;
    sinks = rw u.visits h.sinks;
    watch = watches-untouched job call e.func past past' todo u le h.watch;
    runs = rw u.visits h.runs;
    framed = rw u.visits h.framed;
    frame = rw u.visits h.frame;
    places = Each-weaker (λ x. x.entry < length past) (λ x. x.entry < length past') w.users (λ x lt. omega arith) h.places;
    room = h.room;
  }

  pub entry-is : (past : List Item) → entered call past ≡ Some e → entry_of call past ≡ e
  entry-is past h = rw h refl

  abbrev pub met_now : ℕ → List Item → Bool → Visit
  met_now u past back = visit job call u past (all_visits job past) back

  pub visits-back : (u : ℕ) (past : List Item) → visits job call (Back call (record { 0 = u }) ∷ past) ≡ met_now u past true ∷ visits job call past
  unfolding all_visits
  visits-back u past = rw (same_call-refl call) refl

  pub visits-refuse : (u : ℕ) (past : List Item) (r : Reason) → visits job call (Refuse call (record { 0 = u }) r ∷ past) ≡ met_now u past false ∷ visits job call past
  unfolding all_visits
  visits-refuse u past r = rw (same_call-refl call) refl

  or-swap : (x y : Bool) → ((x && true) || y) ≡ (y || x)
  or-swap true true = refl
  or-swap true false = refl
  or-swap false true = refl
  or-swap false false = refl

  -- one more visit: the user was registered before those visited, and is taken off those to come
  module _ (w : Walk) (u : ℕ) (todo todo' : ℕ → Bool) (past : List Item)
      (order : Each (λ m. (met_now u past true).since < m.since) (visits job call past))
      (takes_off : (v : ℕ) → (u == v) ≡ false → todo v ≡ true → todo' v ≡ true) (h : CallSo job a call e w todo past) where
    watch : (item : Item) (back : Bool) → visits job call (item ∷ past) ≡ met_now u past back ∷ visits job call past
        → entry_of call (item ∷ past) ≡ entry_of call past → begun past ≤ begun (item ∷ past)
        → Watches job call e.func (item ∷ past) todo'
    watch item back m same le v un =
        let both = or-false_both (u == v) (list_any (λ x. x.user == v) (visits job call past)) (rw m at un) in
        elim (h.watch v both.1) [
          | inl there ↦ inl (takes_off v both.0 there)
          | inr x ↦ inr (x.0, rw same x.1, (let c = x.2 in omega (arith, c, le)), x.3)
        ]

    places-more : Each (λ x. x.entry < suc (length past)) w.users
    places-more = Each-weaker (λ x. x.entry < length past) (λ x. x.entry < suc (length past)) w.users (λ x lt. omega arith) h.places

    pub so-refused : (r : Reason) → CallSo job a call e w todo' (Refuse call (record { 0 = u }) r ∷ past)
    so-refused r = record {
      known = h.known;
      opened = h.opened;
      undone = h.undone;
      unexited = h.unexited;
      sinks = rw (visits-refuse u past r) (order, h.sinks);
      watch = watch (Refuse call (record { 0 = u }) r) false (visits-refuse u past r) refl (omega arith);
      runs = rw (visits-refuse u past r) (runs-refuse job e.func w.runs (met_now u past false) (visits job call past) refl h.runs);
      framed = rw (visits-refuse u past r) h.framed;
      frame = rw (visits-refuse u past r) (frame-none job (met_now u past false) (visits job call past) w.users refl h.frame);
      places = places-more;
      room = h.room;
    }

    module _ (level : held job call past ≡ a.level) (has_room : takes_frame job a u ≡ true → a.level < job.frames) (reg : ℕ) (of_reg : (met_now u past true).reg ≡ reg) where
      wants : (met_now u past true).framed ≡ takes_frame job a u
      wants = rw level refl

      room : (w.framed || takes_frame job a u) ≡ true → a.level < job.frames
      room t = elim w.framed as (λ x. w.framed ≡ x → (x || takes_frame job a u) ≡ true → a.level < job.frames) [
        | true ↦ λ y z. h.room y
        | false ↦ λ y z. has_room z
      ] refl t

      abbrev joins : Bool
      joins = takes_frame job a u && not (cancels (spec_at job u).kind)

      keeps : keeps_frame job (met_now u past true) ≡ joins
      keeps = ap (λ x. x && not (cancels (spec_at job u).kind)) wants

      abbrev new_user : ℕ → FrameUser
      new_user r = record { user = u; reg = r; entry = length past }

      abbrev users_by : Bool → List FrameUser
      users_by x = cond x (w.users ++ new_user reg ∷ []) w.users

      frame : FrameOf job (met_now u past true ∷ visits job call past) (joined job a u reg (length past) w.users)
      frame = elim joins as (λ x. joins ≡ x → FrameOf job (met_now u past true ∷ visits job call past) (users_by x)) [
        | true ↦ λ x. subst (λ y. FrameOf job (met_now u past true ∷ visits job call past) (w.users ++ new_user y ∷ [])) of_reg
            (frame-joined job (met_now u past true) (visits job call past) w.users refl (keeps ∙ x) h.places h.frame)
        | false ↦ λ x. frame-none job (met_now u past true) (visits job call past) w.users (keeps ∙ x) h.frame
      ] refl

      places : Each (λ x. x.entry < suc (length past)) (joined job a u reg (length past) w.users)
      places = elim joins as (λ x. Each (λ y. y.entry < suc (length past)) (users_by x)) [
        | true ↦ Each-snoc (λ y. y.entry < suc (length past)) w.users (new_user reg) places-more (omega arith)
        | false ↦ places-more
      ]

      pub so-called : (made : Walk) → made.runs ≡ runs_after w.runs (spec_at job u).ipmodify → made.framed ≡ (w.framed || takes_frame job a u)
          → made.users ≡ joined job a u reg (length past) w.users
          → CallSo job a call e made todo' (Back call (record { 0 = u }) ∷ past)
      so-called made r f us' = record {
        known = h.known;
        opened = h.opened;
        undone = h.undone;
        unexited = h.unexited;
        sinks = rw (visits-back u past) (order, h.sinks);
        watch = watch (Back call (record { 0 = u })) true (visits-back u past) refl (omega arith);
        runs = rw (visits-back u past, r) (runs-back job e.func w.runs (met_now u past true) (visits job call past) refl h.runs);
        framed = rw (visits-back u past, f, wants, h.framed) (or-swap (takes_frame job a u) w.framed);
        frame = rw (visits-back u past, us') frame;
        places = rw us' places;
        room = rw f room;
      }
