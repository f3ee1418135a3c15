-- An operation that is the next one of a seat's actor keeps the rule of the table, and so does a line that is led.
use Rattle.std.proofs.Common.{◌≡◌, ℕ, suc, ◌<◌, ◌^◌, true, List, [], ◌∷◌, ◌++◌, length, get_or, slice_get, Option, Some, None, refl, sym, ap, ◌∙◌, subst, arith, length-set}
use mathlib.Core.Option.{some}
use lib.ListN.{get_elem?}
use Rattle.atomic_table.specs.Table.{State, Act, keeps, Valid, Allows, carried_after, stepped}
use Rattle.ft_base.specs.declared.item.Item.TheVariants.{Begin}
use Rattle.ft_base.specs.declared.turn.Actor.{Actor}
use Rattle.ft_base.specs.declared.turn.Actor.TheVariants.{Control as ByControl}
use Rattle.ft_base.specs.Job.{Job, Command, Ctl, LinePlan, Run}
use Rattle.word_machine_laws.specs.Led.{later, more_to_come, with_lines, with_next}
use Rattle.word_machine_laws.specs.Orders.{before_all, picked}
use Rattle.word_machine_laws.proofs.LedControls.{begins}
use Rattle.word_map.specs.declared.op.Op.{Op}
use Rattle.word_map.specs.declared.op.Op.TheVariants.{Mark as MarkOp}
use Rattle.word_map.specs.Ops.{WordOp, Mark, placed}
use Rattle.word_map.specs.Shapes.{shape_of}
use Rattle.word_machine.specs.Control.{Control, control_next}
use Rattle.word_machine.specs.Cpu.{cpu_next}
use Rattle.word_machine.specs.Limits.{IsLimited}
use Rattle.word_machine.specs.Machine.{past_after, step}
use Rattle.ft_machine.specs.Fed.{control_fed, cpu_fed}
use Rattle.live_table.specs.Views.{View, FactsAt, control_view, cpu_view, led_on}
use Rattle.live_table.specs.AtomicSteps.{MakesOp}
use Rattle.live_table.specs.Operations.{op_after, op_word}
use Rattle.dealt_seats.specs.Views.{cpu, part, view}
use Rattle.live_table.specs.Rule.{LiveRule, RunsOn, led_at, state_for, world_with}
use Rattle.dealt_seats.specs.Covers.{StandsAt}
use Rattle.dealt_seats.proofs.Moves.{Stays, covers-more, others-stay}
use Rattle.live_table.proofs.Later.{control-goes-on, control-is-row, control-tells, cpu-goes-on, cpu-is-row, cpu-tells, lines-go-on}
use Rattle.live_table.proofs.Lines.{cpu-next-same, cpu-told-same}
use Rattle.live_table.proofs.Tables.{changed, gave}
use Rattle.dealt_seats.proofs.Actors.{at_first, at_first-else, at_cpu, at_cpu-else, at_cpu-same}

-- ## one step

module _ (job : Job) (line : Option ℕ) (id here : ℕ) (own : Job) (a : Actor) (op : WordOp) (t : State (Unit {0}) View) (r : LiveRule job t) where
  abbrev code : Op
  code = placed (shape_of job) op

  -- what a step comes to of an actor that had taken these
  abbrev pub Comes : List ℕ → Type 0
  Comes vs =
      (w : View) × (act : Act (Unit {0})) × Valid t.homes [] act
      × LiveRule job (stepped t (op_word code) (op_after code (get_or t.words (op_word code) 0)) id [] w act)
      × MakesOp line code (get_or t.words (op_word code) 0) (view job own here (part a vs ∷ []), []) (w, carried_after [] act)

  module _ (ctls' : List Ctl) (plan' : LinePlan) (values' : Actor → List ℕ)
      (at : get_elem? t.views id ≡ some (view job own here (part a (r.values a) ∷ []))) (small : get_or t.words (op_word code) 0 < 2 ^ 64)
      (taken : values' a ≡ r.values a ++ gave t.words code ∷ []) (others : (x : Actor) → (x ≡ a → ⊥) → values' x ≡ r.values x)
      (limited' : IsLimited (with_lines job ctls' plan')) (led' : with_lines job ctls' plan' ≡ led_on job (led_at r) line)
      (row : world_with (with_lines job ctls' plan') (changed t.words code) values' (past_after op r.past)
      ≡ step (with_lines job ctls' plan') a (state_for (with_lines job ctls' plan') r))
      (runs : RunsOn (with_lines job ctls' plan') (changed t.words code) values' (past_after op r.past))
      (stay : Stays (led_at r) (with_lines job ctls' plan') r.split a)
      (there : StandsAt (with_lines job ctls' plan') r.split (led_on job own line) here a) where
    abbrev knows : View
    knows = view job (led_on job own line) here (part a (r.values a ++ gave t.words code ∷ []) ∷ [])

    kept : LiveRule job (stepped t (op_word code) (op_after code (get_or t.words (op_word code) 0)) id [] knows keeps)
    kept = record {
      limited = r.limited;
      ctls = ctls';
      plan = plan';
      led = limited';
      values = values';
      seat = r.seat;
      split = r.split;
      past = past_after op r.past;
      count = length-set t.words (op_word code) (op_after code (get_or t.words (op_word code) 0)) ∙ r.count;
      runs = runs;
      covers = covers-more job (length job.quanta) [] (led_at r) t.views r.values r.seat r.split r.covers id here own a (r.values a) at
          (with_lines job ctls' plan') (led_on job own line) values' (r.values a ++ gave t.words code ∷ []) taken others stay there;
    }

    pub comes : FactsAt (led_on job own line) (gave t.words code) (r.values a) a → Comes (r.values a)
    unfolding kept
    comes told = (
      knows,
      keeps,
      tt,
      kept,
      (
        (refl, told),
        record { table = t; rule = r; id = id; sits = at; found' = refl; fits = small; rule' = kept; led = led'; row = row },
      ),
    )

-- a step of a CPU
pub cpu_allowed : (job : Job) (slots id c : ℕ) (vs : List ℕ) (op : WordOp) → cpu_next job (cpu_fed job c vs) ≡ Some op
    → Allows {S = Unit {0}} (LiveRule job) slots id (cpu_view job c vs, []) (op_word (placed (shape_of job) op)) (op_after (placed (shape_of job) op))
    (λ n m. MakesOp None (placed (shape_of job) op) n (cpu_view job c vs, []) m)
cpu_allowed job slots id c vs op is t r homes at small =
    let led : Job = led_at r in
    let mine = r.covers.fits id (cpu_view job c vs) at 0 (part (cpu c) vs) refl in
    let has : vs ≡ r.values (cpu c) = mine.has in
    let inside : c < length job.quanta = (let lt = mine.stands in let most = r.covers.within in omega (arith, lt, most)) in
    let own : cpu_next job (cpu_fed job c (r.values (cpu c))) ≡ Some op = ap (λ l. cpu_next job (cpu_fed job c l)) (sym has) ∙ is in
    let next : cpu_next led (cpu_fed led c (r.values (cpu c))) ≡ Some op = cpu-next-same job r.ctls r.plan c (r.values (cpu c)) ∙ own in
    let more : List ℕ = r.values (cpu c) ++ gave t.words (placed (shape_of job) op) ∷ [] in
    subst (Comes job None id 0 job (cpu c) op t r) (sym has)
    (comes job None id 0 job (cpu c) op t r r.ctls r.plan (at_cpu r.values c more) (at ∙ ap (λ l. some (cpu_view job c l)) has) small
    (at_cpu-same r.values c more) (at_cpu-else r.values c more) r.led refl
    (cpu-is-row led r.led t.words r.values r.past r.count r.runs c inside op next)
    (cpu-goes-on led r.led t.words r.values r.past r.count r.runs c inside op next)
    (λ o h x ne at'. at') mine.stands
    (cpu-told-same job r.ctls r.plan c (gave t.words (placed (shape_of job) op)) (r.values (cpu c))
    (cpu-tells led r.led t.words r.values r.past r.count r.runs c inside op next)))

-- a step of control
pub control_allowed : (job led : Job) (slots id split : ℕ) (vs : List ℕ) (op : WordOp) → control_next led (control_fed led vs) ≡ Some op
    → Allows {S = Unit {0}} (LiveRule job) slots id (control_view job led split vs, []) (op_word (placed (shape_of job) op)) (op_after (placed (shape_of job) op))
    (λ n m. MakesOp None (placed (shape_of job) op) n (control_view job led split vs, []) m)
control_allowed job led slots id split vs op is t r homes at small =
    let now : Job = led_at r in
    let mine = r.covers.fits id (control_view job led split vs) at 0 (part ByControl vs) refl in
    let has : vs ≡ r.values ByControl = mine.has in
    let knew : led ≡ now = mine.stands.0 in
    let next : control_next now (control_fed now (r.values ByControl)) ≡ Some op = (λ i. control_next (sym knew i) (control_fed (sym knew i) (sym has i))) ∙ is in
    let more : List ℕ = r.values ByControl ++ gave t.words (placed (shape_of job) op) ∷ [] in
    subst (λ (u : Job × List ℕ). Comes job None id split u.0 ByControl op t r u.1) (λ i. (sym knew i, sym has i))
    (comes job None id split now ByControl op t r r.ctls r.plan (at_first r.values more)
    (at ∙ (λ i. some (control_view job (knew i) split (has i)))) small refl (at_first-else r.values more) r.led refl
    (control-is-row now r.led t.words r.values r.past r.count r.runs op next)
    (control-goes-on now r.led t.words r.values r.past r.count r.runs op next)
    (λ o h x ne at'. at') (refl, mine.stands.1)
    (control-tells now r.led t.words r.values r.past r.count r.runs op next))

-- ## a line that is led

-- the mark of the Begin of the command after these
abbrev pub begin_after : Control → WordOp
begin_after s = Mark (Begin (suc s.commands_done))

-- where the lines come from after one more
abbrev pub plan-with : Job → LinePlan → ℕ → LinePlan
plan-with job plan k = record plan { lanes = plan.lanes ++ picked job.lines.lanes (k ∷ []) }

-- with the command at line k to come, its Begin is the next operation
pub next-begins : (job led : Job) (vs : List ℕ) (k : ℕ) (c : Command) → slice_get job.ctls k ≡ Some (Run c) → control_next led (control_fed led vs) ≡ None
    → control_fed (with_next job led k) vs ≡ more_to_come (picked job.ctls (k ∷ [])) (control_fed led vs)
    → control_next (with_next job led k) (control_fed (with_next job led k) vs) ≡ Some (begin_after (control_fed led vs))
next-begins job led vs k c is over same =
    let plan' : LinePlan = plan-with job led.lines k in
    let s : Control = control_fed led vs in
    let one : picked job.ctls (k ∷ []) ≡ Run c ∷ [] = ap (λ (x : Option Ctl). before_all x []) is in
    ap (control_next (with_next job led k)) same
    ∙ (λ i. control_next (later led (one i) plan') (more_to_come (one i) s))
    ∙ begins led [] plan' c s over

pub line_allowed : (job led : Job) (slots id split : ℕ) (vs : List ℕ) (k : ℕ) (c : Command) → slice_get job.ctls k ≡ Some (Run c)
    → control_next led (control_fed led vs) ≡ None → IsLimited (with_next job led k)
    → Allows {S = Unit {0}} (LiveRule job) slots id (control_view job led split vs, []) 0 (op_after (MarkOp true))
    (λ n m. MakesOp (Some k) (MarkOp true) n (control_view job led split vs, []) m)
line_allowed job led slots id split vs k c is over limited t r homes at small =
    let now : Job = led_at r in
    let mine = r.covers.fits id (control_view job led split vs) at 0 (part ByControl vs) refl in
    let has : vs ≡ r.values ByControl = mine.has in
    let knew : led ≡ now = mine.stands.0 in
    let ended : control_next now (control_fed now (r.values ByControl)) ≡ None = (λ i. control_next (sym knew i) (control_fed (sym knew i) (sym has i))) ∙ over in
    let op : WordOp = begin_after (control_fed now (r.values ByControl)) in
    let led' : Job = with_next job now k in
    let limited' : IsLimited led' = subst (λ (j : Job). IsLimited (with_next job j k)) knew limited in
    let on : RunsOn led' t.words r.values r.past = lines-go-on now t.words r.values r.past r.runs (picked job.ctls (k ∷ [])) (plan-with job r.plan k) in
    let next : control_next led' (control_fed led' (r.values ByControl)) ≡ Some op =
    next-begins job now (r.values ByControl) k c is ended (r.runs.control (picked job.ctls (k ∷ [])) (plan-with job r.plan k)) in
    let more : List ℕ = r.values ByControl ++ gave t.words (MarkOp true) ∷ [] in
    subst (λ (u : Job × List ℕ). Comes job (Some k) id split u.0 ByControl op t r u.1) (λ i. (sym knew i, sym has i))
    (comes job (Some k) id split now ByControl op t r (r.ctls ++ picked job.ctls (k ∷ [])) (plan-with job r.plan k) (at_first r.values more)
    (at ∙ (λ i. some (control_view job (knew i) split (has i)))) small refl (at_first-else r.values more) limited' refl
    (control-is-row led' limited' t.words r.values r.past r.count on op next)
    (control-goes-on led' limited' t.words r.values r.past r.count on op next)
    (others-stay now led' r.split) (refl, mine.stands.1)
    (control-tells led' limited' t.words r.values r.past r.count on op next))
