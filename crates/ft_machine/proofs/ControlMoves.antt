-- A step of control: the word machine's row.
use Rattle.std.proofs.Common.{◌≡◌, ℕ, ◌+◌, option_map, List, [], length, Option, Some, None, refl, sym, ap, ◌∙◌, subst}
use Rattle.ft_base.specs.declared.item.Item.{Item}
use Rattle.ft_base.specs.declared.turn.Actor.TheVariants as actor
use Rattle.ft_base.specs.Desk.{desk}
use Rattle.ft_base.specs.Job.{Job}
use Rattle.word_map.specs.declared.op.Op.{Op}
use Rattle.word_map.specs.declared.shape.Shape.{Shape}
use Rattle.word_map.specs.Contents.{mask_of}
use Rattle.word_map.specs.Ops.{WordOp, Load, Store, Mark, placed}
use Rattle.word_map.specs.Shapes.{shape_of}
use Rattle.word_machine.specs.Control.{control_got, control_next}
use Rattle.word_machine.specs.Laws.{IsOnWord, Runs, items_on}
use Rattle.word_machine.specs.Limits.{IsLimited}
use Rattle.word_machine.specs.Machine.{World, control_moved, control_row, past_after, step}
use Rattle.word_machine_laws.proofs.Limited.{limited as word-job}
use Rattle.word_machine_laws.proofs.Marked.{control-mark}
use Rattle.word_machine_laws.proofs.There.{control-there}
use Rattle.word_machine_laws.proofs.WordsFit.{control-row-runs}
use Rattle.control_core.specs.Seated.{IsFor as IsControlFor, Seated, control_of}
use Rattle.control_core.specs.Steps.{marks_in}
use Rattle.ft_machine.specs.Tables.{HasRoomAt, IsOn, gives, made}
use Rattle.ft_machine.specs.Worlds.{IsFor, Parts, marked_on, world_of}
use Rattle.ft_machine.proofs.Chosen.{Chosen, chosen, none-next}
use Rattle.ft_machine.proofs.Made.{IsOpThere, gives-is, made-is, made-length, of-job, on-is, room-is}
use Rattle.ft_machine.proofs.Moved.{HasMoved}
use Rattle.ft_machine.proofs.Recording.{IsMarkOf, first-told, first_in, told-past}

-- the words, control and CPUs after a step of control
abbrev pub controlled : Parts → List ℕ → Seated → Parts
controlled w words d = record { shape = w.shape; words = words; control = d; cpus = w.cpus }

module _ (job : Job) (past : List Item) (limited : IsLimited job) (w : Parts) (k : IsFor job past w) (r : Runs job (world_of job past w)) where
  -- with no operation nothing happens
  pub control-rests : control_next job (control_of w.control) ≡ None → world_of job past w ≡ step job actor.Control (world_of job past w)
  unfolding step
  control-rests e = sym (ap (λ o. control_moved job (world_of job past w) o) e)

  module _ (op : WordOp) (next : control_next job (control_of w.control) ≡ Some op) where
    abbrev row : World
    row = control_row job (world_of job past w) op

    runs-on : Runs job row
    runs-on = control-row-runs job limited (world_of job past w) op r next

    there : IsOpThere (shape_of job) op
    there = of-job job op (subst (λ o. IsOnWord job o) next (control-there job (word-job job limited) (world_of job past w) r.kept r.waits))

    on : IsOn (length w.words) (placed (shape_of job) op)
    on = on-is (shape_of job) (mask_of (desk job 0) (length job.tasks)) w.words k.count op there

    room : HasRoomAt w.words (placed (shape_of job) op)
    room = room-is (shape_of job) (mask_of (desk job 0) (length job.tasks)) w.words k.count op runs-on.fits

    module _ (d : Seated) (is_for : IsControlFor job d) (none : d.items ≡ [])
        (is : control_of d ≡ control_got job (control_of w.control) (gives (placed (shape_of job) op) w.words))
        (o : Option Item) (is-told : IsMarkOf op o) where
      abbrev told : List Item
      told = marked_on o past

      abbrev after : Parts
      after = controlled w (made (placed (shape_of job) op) w.words) d

      control-moves : world_of job told after ≡ row
      control-moves = λ i. record {
        words = made-is (shape_of job) (mask_of (desk job 0) (length job.tasks)) w.words k.count op there i;
        control = (is ∙ ap (λ v. control_got job (control_of w.control) v) (gives-is (shape_of job) (mask_of (desk job 0) (length job.tasks)) w.words k.count op there)) i;
        cpus = (world_of job past w).cpus;
        past = told-past op o is-told past i;
      }

      -- no CPU has marked anything
      same-items : (c : ℕ) (o : WordOp) → control_next job (control_of w.control) ≡ Some o → items_on job c (past_after o past) ≡ items_on job c past
      same-items c (Load x) e = refl
      same-items c (Store x y) e = refl
      same-items c (Mark item) e = control-mark job (world_of job past w) c item e

      control-keeps : IsFor job told after
      control-keeps = record {
        shape' = k.shape';
        count = made-length (shape_of job) op w.words ∙ k.count;
        control' = is_for;
        none = none;
        cpus' = k.cpus';
        each = λ c x at. (let own = k.each c x at in record {
          is_for = own.is_for;
          number = own.number;
          none = own.none;
          left = ap (λ n. x.marked.left + n) (ap (λ (items : List Item). items_on job c items) (told-past op o is-told past) ∙ same-items c op next) ∙ own.left;
          room = own.room;
        });
      }

-- ## as code has the operation

module _ (job : Job) (past : List Item) (limited : IsLimited job) (w : Parts) (k : IsFor job past w) (r : Runs job (world_of job past w))
    (code : Op) (x : Chosen (shape_of job) (control_next job (control_of w.control)) code) where
  pub control-on : IsOn (length w.words) code
  control-on = subst (λ o. IsOn (length w.words) o) x.placed' (on job past limited w k r x.op x.is)

  pub control-room : HasRoomAt w.words code
  control-room = subst (λ o. HasRoomAt w.words o) x.placed' (room job past limited w k r x.op x.is)

  -- what it hands over
  pub control-told : (v : ℕ) (o : Option Item) → o ≡ first_in (marks_in (control_next job (control_of w.control)) v) → IsMarkOf x.op o
  control-told v o e = first-told x.op v o (e ∙ ap (λ next. first_in (marks_in next v)) x.is)

  stepped : control_row job (world_of job past w) x.op ≡ step job actor.Control (world_of job past w)
  unfolding step
  stepped = sym (ap (λ o. control_moved job (world_of job past w) o) x.is)

  pub control-moved : (words : List ℕ) → words ≡ made code w.words → (v : ℕ) → v ≡ gives code w.words → (d : Seated) → IsControlFor job d → d.items ≡ []
      → control_of d ≡ control_got job (control_of w.control) v → (o : Option Item) → IsMarkOf x.op o
      → HasMoved job (marked_on o past) (controlled w words d) (step job actor.Control (world_of job past w))
  control-moved words words-are v value d is_for none is o is-told =
      let is' : control_of d ≡ control_got job (control_of w.control) (gives (placed (shape_of job) x.op) w.words) =
      is ∙ ap (λ n. control_got job (control_of w.control) n) (value ∙ ap (λ o. gives o w.words) (sym x.placed')) in
      let same : made (placed (shape_of job) x.op) w.words ≡ words = ap (λ o. made o w.words) x.placed' ∙ sym words-are in
      let goes = control-moves job past limited w k r x.op x.is d is_for none is' o is-told in
      subst (λ ws. HasMoved job (marked_on o past) (controlled w ws d) (step job actor.Control (world_of job past w))) same
      (record {
        is_for = control-keeps job past limited w k r x.op x.is d is_for none is' o is-told;
        is = goes ∙ stepped;
        runs = subst (λ s. Runs job s) (sym goes) (runs-on job past limited w k r x.op x.is);
      })

-- ## from the code's answers

module _ (w : Parts) (o : Option Op)
    (answer : (job : Job) → IsControlFor job w.control → o ≡ option_map (placed w.control.shape) (control_next job (control_of w.control))) where
  same-next : (job : Job) (past : List Item) (k : IsFor job past w) → option_map (placed (shape_of job)) (control_next job (control_of w.control)) ≡ o
  same-next job past k =
      ap (λ (shape : Shape). option_map (placed shape) (control_next job (control_of w.control))) (sym k.control'.shape) ∙ sym (answer job k.control')

  pub control-chosen : (job : Job) (past : List Item) → IsFor job past w → (code : Op) → o ≡ Some code → Chosen (shape_of job) (control_next job (control_of w.control)) code
  control-chosen job past k code e = chosen (shape_of job) (control_next job (control_of w.control)) code (same-next job past k ∙ e)

  pub control-none : (job : Job) (past : List Item) → IsFor job past w → o ≡ None → control_next job (control_of w.control) ≡ None
  control-none job past k e = none-next (shape_of job) (control_next job (control_of w.control)) (same-next job past k ∙ e)
