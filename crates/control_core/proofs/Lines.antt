-- A line of control: nothing is left, a wait goes on or is over, or a command begins.
use Rattle.std.proofs.Common.{cond, ◌≡◌, ℕ, suc, ◌+◌, ◌*◌, ◌<◌, ◌≤◌, List, [], ◌∷◌, ◌++◌, length, Option, Some, None, refl, sym, ap, ◌∙◌, subst, arith, vec_len, vec_capacity}
use Rattle.std.specs.Prelude.{All, option_map, slice_get}
use Rattle.std.proofs.lemmas.Option.{slice_get-map, slice_get_within}
use Rattle.std.proofs.lemmas.Bool.{le-leb, lt-leb}
use Rattle.std.specs.Global.{Vec}
use Rattle.ft_base.specs.declared.item.Answer.{Answer}
use Rattle.ft_base.specs.declared.item.Item.TheVariants.{Begin}
use Rattle.ft_base.specs.declared.number.TaskNo.{TaskNo}
use Rattle.ft_base.specs.declared.item.Stamped.{Stamped}
use Rattle.ft_base.specs.WellFormed.{IsNamed}
use Rattle.word_map.specs.Contents.{high, low}
use Rattle.ft_desk.specs.declared.command.Command.{Command as Code}
use Rattle.ft_desk.specs.declared.command.Ctl.{Ctl}
use Rattle.ft_desk.specs.declared.command.Ctl.TheVariants.{Run, Until}
use Rattle.ft_desk.specs.Commands.{IsInShape, command_of, ctl_of}
use Rattle.ft_desk.specs.Declarations.{Declared, job_of}
use Rattle.ft_desk.specs.Plans.{PlainPlan}
use Rattle.ft_desk.specs.DeskView.{DeskView, after_command, answer}
use Rattle.word_machine_laws.specs.Orders.{picked}
use Rattle.control_core.specs.declared.phase.Phase.{Phase}
use Rattle.control_core.specs.declared.phase.Phase.TheVariants as phase
use Rattle.control_core.specs.declared.control.Control.TheInside.{Inside}
use Rattle.ft_desk.specs.Lines.{IsLineIn}
use Rattle.control_core.specs.Plans.{IsDeskIn, IsPlanIn}
use Rattle.control_core.specs.Phases.{begin_to}
use Rattle.control_core.specs.Seated.{Seated}
use Rattle.control_core.specs.ControlInvariant.{ControlInvariant, asked, busy, seated_of, requests_of_line}
use Rattle.control_core.specs.Steps.{line_after, marked}
use Rattle.control_core.proofs.Picked.{picked-count, picked-each}
use Rattle.ft_desk.proofs.LineLaws.{commands-after, declared-after}
use Rattle.control_core.proofs.DeskIn.{desk-after, plan-after}
use Rattle.control_core.proofs.Safe.{Goes, begin-goes}

-- ## the present line

-- the line that is led there
pub present-is : (xs items : List Ctl) (ks order : List ℕ) (i : ℕ) (o : Option Ctl) → xs ≡ items → ks ≡ order → o ≡ slice_get (picked xs ks) i
    → slice_get (picked items order) i ≡ o
present-is xs items ks order i o lines numbers is = (λ j. slice_get (picked (sym lines j) (sym numbers j)) i) ∙ sym is

pub present-at : (xs items : List Ctl) (ks order : List ℕ) (i : ℕ) (x y : Ctl) → xs ≡ items → ks ≡ order → Some x ≡ slice_get (picked xs ks) i → x ≡ y
    → slice_get (picked items order) i ≡ Some y
present-at xs items ks order i x y lines numbers at' is = present-is xs items ks order i (Some y) lines numbers (ap Some (sym is) ∙ at')

module _ (d : Inside) (k : ControlInvariant d) where
  abbrev lines : List Ctl
  lines = picked d.lines.items d.order.items

  -- the command of the present line is in the shape
  pub run-in : (x : Code) → slice_get lines d.line ≡ Some (Run x) → IsInShape d.desk.declared x
  run-in x e = picked-each (IsLineIn d.desk.declared) d.lines.items d.order.items d.line (Run x) k.lines e

  -- the desk after it, and its plan
  module _ (x : Code) (e : slice_get lines d.line ≡ Some (Run x)) where
    tasks-same : d.desk.declared.tasks ≡ d.map.tasks
    tasks-same = k.safe.desk.declared.tasks

    named : IsNamed (job_of d.desk.declared) (command_of d.desk.declared.tasks x)
    named = (run-in x e).0

    pub run-plan : (next : DeskView) (plan : PlainPlan) → next ≡ after_command d.desk (command_of d.desk.declared.tasks x) → plan ≡ next.plan
        → IsPlanIn d.map plan
    run-plan next plan n p =
        subst (IsPlanIn d.map) (sym (p ∙ ap (λ (t : DeskView). t.plan) n))
        (plan-after d.map d.desk k.safe.desk k.safe.shape.counts.few_functions (command_of d.desk.declared.tasks x) named)

    pub run-kept : (next : DeskView) (a : Answer) (p : Phase) (plan : PlainPlan) (items : Vec Stamped) → d.phase ≡ phase.Line
        → next ≡ after_command d.desk (command_of d.desk.declared.tasks x) → plan ≡ next.plan → p ≡ begin_to d.map plan
        → vec_len items ≡ vec_len d.items + 1 → vec_capacity items ≡ vec_capacity d.items
        → ControlInvariant (record d { desk = next; answer = a; phase = p; items = items })
    run-kept next a p plan items line n pl ph len cap =
        let goes : (c : Seated) → c.shape ≡ d.map → Goes c p = λ c es. subst (Goes c) (sym (ph ∙ ap (λ sh. begin_to sh plan) (sym es))) (begin-goes c plan) in
        let c : Seated = seated_of (record d { desk = next; answer = a; phase = p; items = items }) in
        let g : Goes c p = goes c refl in
        let idle : busy d.phase ≡ 0 = ap busy line in
        let none : asked d.phase ≡ 0 = ap asked line in
        let count : length lines ≡ length d.order.items = picked-count d.lines.items d.order.items k.led.within in
        let within : d.line < length lines = slice_get_within lines d.line (Run x) e in
        let numbered : next.commands ≡ suc d.desk.commands = ap (λ (t : DeskView). t.commands) n ∙ commands-after d.desk (command_of d.desk.declared.tasks x) in
        let old-numbered : d.desk.commands ≡ d.commands_done + busy d.phase = k.safe.numbered in
        let few : d.request ≤ requests_of_line * d.line + d.batch.made + asked d.phase = k.safe.requests in
        let room : vec_len d.items + 2 * vec_len d.lines ≤ vec_capacity d.items + 2 * d.line + busy d.phase = k.room in
        let begun : busy p ≡ 1 = g.begun in
        record {
          safe = record {
            shape = k.safe.shape;
            desk = subst (IsDeskIn d.map) (sym n) (desk-after d.map d.desk k.safe.desk k.safe.shape.counts.few_functions (command_of d.desk.declared.tasks x) named);
            plan = subst (IsPlanIn d.map) pl (run-plan next plan n pl);
            copied = k.safe.copied;
            numbered = omega arith;
            counted = k.safe.counted;
            within = omega arith;
            led = k.safe.led;
            few = k.safe.few;
            named = k.safe.named;
            moved = k.safe.moved;
            requests = omega arith;
            left = g.left;
          };
          lines = subst (λ (t : Declared). All (IsLineIn t) d.lines.items)
              (sym (ap (λ (t : DeskView). t.declared) n ∙ declared-after d.desk (command_of d.desk.declared.tasks x))) k.lines;
          led = k.led;
          space = k.space;
          batch = k.batch;
          room = omega arith;
        }

-- ## what is seen after the line

module _ (d : Inside) (s : Seated) (v : seated_of d ≡ s) (w : ℕ) where
  abbrev present : Option Ctl
  present = slice_get (picked d.lines.items d.order.items) d.line

  -- the line that is seen
  line-seen : (o : Option Ctl) → present ≡ o → slice_get s.lines s.line ≡ option_map (ctl_of d.map.tasks) o
  line-seen o e =
      ap (λ (c : Seated). slice_get c.lines c.line) (sym v) ∙ slice_get-map (ctl_of d.map.tasks) (picked d.lines.items d.order.items) d.line
      ∙ ap (option_map (ctl_of d.map.tasks)) e

  pub line-none : present ≡ None → s ≡ line_after s (slice_get s.lines s.line) w
  line-none e = sym (ap (λ o. line_after s o w) (line-seen None e))

  pub line-waits : (t : TaskNo) (n : ℕ) → present ≡ Some (Until t n) → high w < n
      → s ≡ line_after s (slice_get s.lines s.line) w
  line-waits t n e lt =
      ap (λ b. cond b (record s { line = suc s.line }) s) (sym (lt-leb n (high w) lt))
      ∙ sym (ap (λ o. line_after s o w) (line-seen (Some (Until t n)) e))

  pub line-over : (t : TaskNo) (n : ℕ) → present ≡ Some (Until t n) → n ≤ high w
      → seated_of (record d { line = d.line + 1 }) ≡ line_after s (slice_get s.lines s.line) w
  line-over t n e le =
      let one : d.line + 1 ≡ suc d.line = omega arith in
      (λ i. record (seated_of d) { line = one i })
      ∙ ap (λ (c : Seated). record c { line = suc c.line }) v
      ∙ ap (λ b. cond b (record s { line = suc s.line }) s) (sym (le-leb n (high w) le))
      ∙ sym (ap (λ o. line_after s o w) (line-seen (Some (Until t n)) e))

  pub line-run : (x : Code) → present ≡ Some (Run x) → ControlInvariant d
      → (next : DeskView) (a : Answer) (p : Phase) (plan : PlainPlan) (items : Vec Stamped) (k place : ℕ)
      → next ≡ after_command d.desk (command_of d.desk.declared.tasks x) → a ≡ answer d.desk (command_of d.desk.declared.tasks x)
      → plan ≡ next.plan → p ≡ begin_to d.map plan → k ≡ suc d.commands_done → place ≡ low w
      → items.items ≡ d.items.items ++ record { place = place; item = Begin k } ∷ []
      → seated_of (record d { desk = next; answer = a; phase = p; items = items }) ≡ line_after s (slice_get s.lines s.line) w
  line-run x e kept next a p plan items k place n ea pl ph ek ep ei =
      let tasks : d.desk.declared.tasks ≡ d.map.tasks = kept.safe.desk.declared.tasks in
      let n' : next ≡ after_command d.desk (command_of d.map.tasks x) = n ∙ ap (λ t. after_command d.desk (command_of t x)) tasks in
      let a' : a ≡ answer d.desk (command_of d.map.tasks x) = ea ∙ ap (λ t. answer d.desk (command_of t x)) tasks in
      let p' : p ≡ begin_to d.map (after_command d.desk (command_of d.map.tasks x)).plan =
      ph ∙ ap (begin_to d.map) (pl ∙ ap (λ (t : DeskView). t.plan) n') in
      let i' : items.items ≡ d.items.items ++ marked w (Begin (suc d.commands_done)) ∷ [] =
      ei ∙ (λ i. d.items.items ++ record { place = ep i; item = Begin (ek i) } ∷ []) in
      (λ i. record (seated_of d) { desk = n' i; answer = a' i; phase = p' i; items = i' i })
      ∙ ap (λ (c : Seated). line_after c (Some (ctl_of d.map.tasks (Run x))) w) v
      ∙ sym (ap (λ o. line_after s o w) (line-seen (Some (Run x)) e))
