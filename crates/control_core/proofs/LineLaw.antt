-- Control after its operation at a line, and after the Return, is the word machine's.
use Rattle.std.proofs.Common.{cond, ◌≡◌, ℕ, suc, Bool, true, false, List, [], ◌∷◌, drop, Option, Some, None, refl, sym, ap, ap₂, ◌∙◌, subst}
use Rattle.std.specs.Prelude.{nat_le, slice_get}
use Rattle.ft_base.specs.Job.{Job, Command, Ctl, Run, Until, commands_in}
use Rattle.word_map.specs.Contents.{high}
use Rattle.ft_desk.specs.Declarations.{IsOf}
use Rattle.ft_desk.specs.DeskView.{DeskView, after_command, answer}
use Rattle.word_machine.specs.Commands.{command, effect}
use Rattle.word_machine.specs.Control.{Control, Position, begin_in, got_in, line_got, rest_lines, Close, Line}
use Rattle.word_machine.specs.Values.{copies_in}
use Rattle.control_core.specs.declared.phase.Phase.TheVariants as phase
use Rattle.control_core.specs.Positions.{begun_by}
use Rattle.control_core.specs.Seated.{Seated, Fits, IsDeskOf, IsFor, IsUnder, control_in}
use Rattle.control_core.specs.ControlInvariant.{IsSafe}
use Rattle.control_core.specs.Steps.{begun, closed, line_after, stepped_in}
use Rattle.ft_desk.proofs.LineLaws.{commands-after, declared-after}
use Rattle.control_core.proofs.GotLaw.{went}
use Rattle.control_core.proofs.Leads.{On, Went, begin-leads, lead-on, machine_at}
use Rattle.control_core.proofs.PositionsPlans.{begin-is}
use Rattle.ft_desk.proofs.LineLaws.{command-at, count-run, count-until}
use Rattle.control_core.proofs.Under.{Base, base-of, drop-at, drop-past, plan-is, state-is}

-- ## after the Return

module _ (job : Job) (c : Seated) (safe : IsSafe c) (is : IsFor job c) (u : IsUnder job c) (v : ℕ) where
  pub closing : Went job (closed c v) (got_in job (control_in c phase.Closing) Close v)
  closing =
      let rest : drop (suc c.line) c.lines ≡ rest_lines (drop c.line c.lines) = sym (ap rest_lines (drop-at c.lines c.line (Run u.0) u.2)) in
      record {
        is_for = record {
          shape = is.shape;
          lines = is.lines;
          declared = subst (IsOf job) (sym (ap (λ (t : DeskView). t.declared) u.4 ∙ declared-after c.before u.0)) is.declared;
          before = state-is job c (base-of job c safe is) u;
          numbered = ap (λ (t : DeskView). t.commands) u.4 ∙ commands-after c.before u.0 ∙ ap suc is.numbered;
          counted = ap suc is.counted ∙ sym (count-run c.lines c.line u.0 u.2);
          now = refl;
          fits = refl;
        };
        control = λ i. record {
          commands_done = suc c.commands_done;
          remaining = rest i;
          request = c.request;
          copies = copies_in c.desk.copies;
          order = c.desk.order;
          position = Line;
        };
      }

-- ## at a line

module _ (job : Job) (c : Seated) (safe : IsSafe c) (is : IsFor job c) (at-line : c.phase ≡ phase.Line) (same : c.desk ≡ c.before) (none : c.made ≡ 0)
    (v : ℕ) where
  abbrev now : Control
  now = control_in c phase.Line

  -- the machine goes by its first remaining line
  goes-by : (l : List Ctl) → drop c.line c.lines ≡ l → line_got job now l v ≡ line_got job now (drop c.line c.lines) v
  goes-by l e = ap (λ ls. line_got job now ls v) (sym e)

  ended : slice_get c.lines c.line ≡ None → Went job c (line_got job now (drop c.line c.lines) v)
  ended e = record {
    is_for = is;
    control = ap (control_in c) at-line ∙ goes-by [] (drop-past c.lines c.line e);
  }

  -- a wait
  abbrev next : Seated
  next = record c { line = suc c.line }

  waited-by : (b : Bool) (t n : ℕ) → slice_get c.lines c.line ≡ Some (Until t n)
      → Went job (cond b next c) (record now { remaining = cond b (drop (suc c.line) c.lines) (Until t n ∷ drop (suc c.line) c.lines) })
  waited-by true t n e = record {
    is_for = record {
      shape = is.shape;
      lines = is.lines;
      declared = is.declared;
      before = is.before;
      numbered = is.numbered;
      counted = is.counted ∙ sym (count-until c.lines c.line t n e);
      now = subst (IsDeskOf job next) (sym at-line) same;
      fits = subst (Fits next) (sym at-line) none;
    };
    control = ap (control_in next) at-line;
  }
  waited-by false t n e = record {
    is_for = is;
    control = ap (control_in c) at-line ∙ ap (λ ls. record now { remaining = ls }) (drop-at c.lines c.line (Until t n) e);
  }

  -- a command begins
  module _ (x : Command) (e : slice_get c.lines c.line ≡ Some (Run x)) where
    abbrev begins : Seated
    begins = record c { desk = after_command c.desk x; answer = answer c.desk x; items = (begun c x v).items }

    given : command job c.commands_done ≡ Some x
    given =
        ap₂ (λ (ls : List Ctl) d. slice_get (commands_in ls) d) (sym is.lines) is.counted ∙ command-at c.lines c.line x e

    under : IsUnder job begins
    under = (x, given, e, ap (λ (t : DeskView). answer t x) same, ap (λ (t : DeskView). after_command t x) same)

    base : Base job begins
    base = record { shape = is.shape; declared = is.declared; before = is.before; numbered = is.numbered; named = safe.named; copied = safe.copied }

    on : On job begins
    on = record { shape = is.shape; lines = is.lines; declared = is.declared; before = is.before; numbered = is.numbered; counted = is.counted }

    started : Went job (begun c x v) (line_got job now (Run x ∷ drop (suc c.line) c.lines) v)
    started =
        went job _ _ _ (lead-on job begins c.made c.request _ _ _ _ on under (begin-leads job begins base under none))
        (ap (λ (at' : Position). machine_at c at' (copies_in c.before.copies) c.before.order)
        (ap (begun_by job) (plan-is job begins base under)
        ∙ sym (begin-is job c.commands_done (copies_in c.before.copies) c.before.order (effect job c.commands_done)))
        ∙ ap (λ (t : DeskView). machine_at c (begin_in job c.commands_done (effect job c.commands_done)) (copies_in t.copies) t.order) (sym same))

  line-by : (o : Option Ctl) → slice_get c.lines c.line ≡ o → Went job (line_after c o v) (line_got job now (drop c.line c.lines) v)
  line-by None e = ended e
  line-by (Some (Until t n)) e =
      went job _ _ _ (waited-by (nat_le n (high v)) t n e) (goes-by (Until t n ∷ drop (suc c.line) c.lines) (drop-at c.lines c.line (Until t n) e))
  line-by (Some (Run x)) e =
      went job _ _ _ (started x e) (goes-by (Run x ∷ drop (suc c.line) c.lines) (drop-at c.lines c.line (Run x) e))

  pub at-a-line : Went job (stepped_in c phase.Line v) (got_in job now Line v)
  at-a-line = line-by (slice_get c.lines c.line) refl
