-- An operation of control keeps the state's rule: on the list of words, on the values that actors have taken, and on what they have marked.
use Rattle.std.proofs.Common.{◌≡◌, ℕ, List, [], ◌∷◌, ◌++◌, length, Some, refl, sym, ap, ◌∙◌, subst}
use Rattle.std.proofs.lemmas.Option.{same_Some}
use Rattle.ft_base.specs.declared.item.Item.{Item}
use Rattle.ft_base.specs.declared.turn.Actor.{Actor}
use Rattle.ft_base.specs.declared.turn.Actor.TheVariants.{Control as ByControl}
use Rattle.ft_base.specs.Job.{Job}
use Rattle.ft_hist.specs.Placing.{AreCounted}
use Rattle.word_map.specs.Contents.{low}
use Rattle.word_map.specs.Ops.{WordOp, Load, Store, Mark, placed}
use Rattle.word_map.specs.Places.{len}
use Rattle.word_map.specs.Shapes.{shape_of}
use Rattle.word_machine.specs.Control.{control_got, control_next, control_start}
use Rattle.word_machine.specs.Laws.{IsOnWord, Runs, items_on}
use Rattle.word_machine.specs.Limits.{IsLimited}
use Rattle.word_machine.specs.Machine.{World, control_moved, control_row, past_after, step, taken}
use Rattle.word_machine_laws.proofs.Limited.{limited as word-job}
use Rattle.word_machine_laws.proofs.Marked.{control-mark}
use Rattle.word_machine_laws.proofs.There.{control-there}
use Rattle.word_machine_laws.proofs.WordsFit.{control-row-runs}
use Rattle.control_core.specs.Steps.{marks_in as control_marks_in}
use Rattle.ft_machine.proofs.Made.{IsOpThere, of-job}
use Rattle.ft_machine.specs.Fed.{control_fed, control_items}
use Rattle.ft_machine.proofs.FedLaws.{control_after-append}
use Rattle.live_table.specs.Recorded.{IsRecorded, lists}
use Rattle.live_table.specs.Rule.{world_with}
use Rattle.live_table.specs.Views.{ControlFacts}
use Rattle.live_table.proofs.Recording.{Tells, control-follows, items-on, placed-on, tells}
use Rattle.live_table.proofs.Tables.{changed, changed-named, gave, gave-named}
use Rattle.live_table.proofs.Values.{control_marks-snoc}
use Rattle.dealt_seats.proofs.Actors.{at_first}

module _ (job : Job) (limited : IsLimited job) (words : List ℕ) (values : Actor → List ℕ) (past : List Item)
    (count : length words ≡ len (shape_of job)) (runs : Runs job (world_with job words values past)) where
  abbrev s : World
  s = world_with job words values past

  -- what an operation gives here
  abbrev value : WordOp → ℕ
  value op = gave words (placed (shape_of job) op)

  -- the words after it
  abbrev words' : WordOp → List ℕ
  words' op = changed words (placed (shape_of job) op)

  module _ (op : WordOp) (next : control_next job (control_fed job (values ByControl)) ≡ Some op) where
    abbrev more : List ℕ
    more = values ByControl ++ value op ∷ []

    -- what all have taken then, and the state
    abbrev values' : Actor → List ℕ
    values' = at_first values more

    abbrev after : World
    after = world_with job (words' op) values' (past_after op past)

    row : Runs job (control_row job s op)
    row = control-row-runs job limited s op runs next

    there : IsOpThere (shape_of job) op
    there = of-job job op (subst (λ o. IsOnWord job o) next (control-there job (word-job job limited) s runs.kept runs.waits))

    value-is : value op ≡ taken op s.words
    value-is = gave-named job words count op there

    same : after ≡ control_row job s op
    same = λ i. record {
      words = changed-named job words count op there row.fits i;
      control = (control_after-append job (control_start job) (values ByControl) (value op ∷ []) ∙ ap (control_got job s.control) value-is) i;
      cpus = s.cpus;
      past = past_after op past;
    }

    step-is : step job ByControl s ≡ control_row job s op
    unfolding step
    step-is = ap (control_moved job s) next

    -- it is the machine's after a step of control
    pub control-row : after ≡ step job ByControl s
    control-row = same ∙ sym step-is

    -- the machine's rule holds of it
    pub control-runs : Runs job after
    control-runs = subst (Runs job) (sym same) row

    -- what control has marked then
    marked : control_items job more ≡ control_items job (values ByControl) ++ control_marks_in (Some op) (value op)
    marked =
        control_marks-snoc job (control_start job) (values ByControl) (value op)
        ∙ ap (λ o. control_items job (values ByControl) ++ control_marks_in o (value op)) next

    at : Tells op (value op) (length past)
    at = subst (λ v. Tells op v (length past)) (sym value-is) (tells job s runs.kept op)

    none-count : (d : ℕ) (o : WordOp) → control_next job s.control ≡ Some o → items_on job d (past_after o past) ≡ items_on job d past
    none-count d (Load w) e = refl
    none-count d (Store w x) e = refl
    none-count d (Mark item) e = control-mark job s d item e

    module _ (recorded : IsRecorded job values past) where
      -- so is it of the items
      pub control-recorded : IsRecorded job values' (past_after op past)
      control-recorded =
          let follows = control-follows job values values' op (value op) (λ d. refl) marked in
          record {
            placed = placed-on (lists job values) (lists job values') past op (value op) at follows recorded.placed;
            items = items-on (lists job values) (lists job values') past op (value op) at follows recorded.placed.below recorded.items;
            own = λ d within. recorded.own d within ∙ sym (none-count d op next);
          }

      rising : (item : Item) → Some op ≡ Some (Mark item) → AreCounted (low (value op)) (control_items job (values ByControl))
      rising item e =
          let told : low (value op) ≡ length past = subst (λ o. Tells o (value op) (length past)) (same_Some op (Mark item) e) at in
          subst (λ n. AreCounted n (control_items job (values ByControl))) (sym told) recorded.placed.below.0

      -- what the operation tells
      pub control-told : ControlFacts job (value op) (values ByControl)
      control-told = record {
        rising = λ item e. rising item (sym next ∙ e);
        next' = control-there job (word-job job limited) after control-runs.kept control-runs.waits;
      }
