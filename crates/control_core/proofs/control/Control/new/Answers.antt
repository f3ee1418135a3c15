use Rattle.std.proofs.Common.{◌≡◌, ◌≤◌, arith, refl, ap, sym, ◌∙◌, length, rules, subst, vec_capacity, vec_len}
use Rattle.std.specs.List.{range_with_len}
use Rattle.std.proofs.lemmas.List.{length-map}
use Rattle.std.proofs.lemmas.List.FromFn.{length-range_with_len}
use Rattle.word_map.specs.Shapes.{IsShape}
use Rattle.ft_base.specs.declared.item.Answer.TheVariants.{Accepted}
use Rattle.ft_desk.specs.Commands.{ctl_of}
use Rattle.ft_desk.specs.Lines.{lines_of}
use Rattle.control_core.specs.declared.phase.Phase.TheVariants as phase
use Rattle.control_core.proofs.Opening.{opening-kept, opening-lines}
use Rattle.control_core.proofs.StartLaw.{starts}
use Rattle.control_core.proofs.control.Control.new.Goals as goal

pub invariant_of-result : goal.invariant_of-result
invariant_of-result c =
    let made = c.in_ok-items.ensures {u = tt} in
    let lines = c.in_ok-lines.ensures {u = tt} in
    let order = c.in_ok-order.ensures {u = tt} in
    let long : length c.in_ok-order.order.items ≡ length c.args.ctls.now = ap length order ∙ length-range_with_len 0 (length c.args.ctls.now) in
    let space : length c.args.ctls.now ≤ vec_capacity c.in_ok-order.order = omega (arith, long, c.in_ok-order.order.ok.0, c.in_ok-order.order.ok.1) in
    let count : length c.in_ok-lines.lines.items ≡ vec_len c.in_ok-lines.lines = search rules in
    opening-kept (record {
      map = c.args.map;
      desk = c.args.desk;
      before = c.of.result;
      lines = c.in_ok-lines.lines;
      order = c.in_ok-order.order;
      line = 0;
      commands_done = 0;
      request = 0;
      answer = Accepted;
      batch = c.new.result;
      phase = phase.Line;
      items = c.in_ok-items.items;
    }) c.args.ctls.now (subst IsShape c.shape-shape.ensures.shape c.shape-shape.ensures.within) c.requires.desk c.requires.declared
    c.of.ensures lines (sym count ∙ ap length lines) c.requires.lines c.requires.few
    order space refl refl refl c.new.ensures refl
    made.none made.room

pub returns-clause-lines : goal.returns-clause-lines
returns-clause-lines c =
    opening-lines c.args.map.tasks c.in_ok-lines.lines.items c.args.ctls.now c.in_ok-order.order.items (c.in_ok-lines.ensures {u = tt}) (c.in_ok-order.ensures {u = tt})

pub returns-clause-all : goal.returns-clause-all
returns-clause-all c =
    let lines = c.in_ok-lines.ensures {u = tt} in
    let order = c.in_ok-order.ensures {u = tt} in
    record {
      order = order ∙ ap (range_with_len 0) (ap length (sym lines) ∙ sym (length-map c.in_ok-lines.lines.items (ctl_of c.args.map.tasks)));
      lines = opening-lines c.args.map.tasks c.in_ok-lines.lines.items c.args.ctls.now c.in_ok-order.order.items lines order
          ∙ ap (lines_of c.args.map.tasks) (sym lines);
    }

pub returns-clause-starts : goal.returns-clause-starts
returns-clause-starts c = λ job shape lines of. starts job _ shape
    (opening-lines c.args.map.tasks c.in_ok-lines.lines.items c.args.ctls.now c.in_ok-order.order.items (c.in_ok-lines.ensures {u = tt}) (c.in_ok-order.ensures {u = tt})
    ∙ lines)
    of (search rules)
