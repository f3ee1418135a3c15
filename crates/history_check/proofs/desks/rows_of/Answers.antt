use Rattle.std.proofs.Common.{suc, Some, refl, sym, ap, ◌∙◌, subst, arith}
use Rattle.std.specs.Prelude.{option_map}
use Rattle.std.specs.Global.{Vec}
use Rattle.std.proofs.lemmas.List.{length_push}
use Rattle.ft_base.specs.declared.number.UserNo.{UserNo}
use Rattle.ft_desk.specs.declared.command.Ctl.TheVariants.{Run, Until}
use Rattle.ft_desk.specs.Commands.{command_of}
use Rattle.ft_desk.specs.Declarations.{Declared, IsOf}
use Rattle.ft_base.specs.Desk.{Desk, answer_on}
use Rattle.ft_base.proofs.Small.{each-pushed}
use Rattle.ft_desk.proofs.JobLaws.{answer-is}
use Rattle.ft_desk.proofs.LineLaws.{line-at, planned}
use Rattle.history_check.specs.declared.desks.Row.{Row}
use Rattle.history_check.specs.DeskRows.{IsRowOf}
use Rattle.history_check.specs.DeskNumbers.{AreNumbersOf}
use Rattle.ft_job.proofs.DeskLaws.{command-next, commands-next, counted-next, counted-over, counted-wait, declared-next, few-planned, new-commands, new-state, state-next}
use Rattle.history_check.proofs.DeskRowLaws.{first-made, next-made}
use Rattle.history_check.proofs.DeskNumberLaws.{numbers-after}
use Rattle.history_check.proofs.desks.rows_of.Goals as goal
use Rattle.history_check.proofs.desks.rows_of.Goals.{in-Run+in_ok-next+in_ok-map_err-2, in_default}

pub loop-line-init : goal.loop-line-init
loop-line-init c =
    let s = c.args.present in
    let new = c.requires.opened in
    let made = c.in_ok-first.ensures in
    let none = new-commands s new in
    let items = (rw (sym c.in_ok-map_err.ensures.variant) at c.push.ensures.items) in
    rw (items, c.new-rows.ensures.items) (record {
      declared = refl;
      counted = none;
      state = λ job is lines. new-state s new job is;
      size = omega (arith, none);
      told' = subst (λ n. AreNumbersOf s.declared.tasks s.state n c.args.told) (sym none) c.requires.told;
      each = λ job is lines. first-made job s is new c.in_ok-first.first made.row made.answer made.off;
    })

pub plan-answer-requires-clause-room : goal.plan-answer-requires-clause-room
plan-answer-requires-clause-room c =
    let h = c.loop-line.invariant in
    let few = few-planned c.args.present.declared c.args.lines.now c.loop-line.line-index c.loop-line.present h.declared h.counted in
    let room = c.requires.few in
    omega (arith, few, room)

pub note-requires : goal.note-requires
note-requires c =
    let h = c.loop-line.invariant in
    let few = few-planned c.args.present.declared c.args.lines.now c.loop-line.line-index c.loop-line.present h.declared h.counted in
    let room = c.requires.few in
    let lt = c.loop-line-test.true in
    record { few = λ u. (let le = h.told'.few u in omega (arith, le, few, room, lt)) }

pub new-requires-in-Run : goal.new-requires-in-Run
new-requires-in-Run c =
    let h = c.loop-line.invariant in
    let was = c.loop-line.present in
    let next = c.plan-answer.new.self in
    let then = planned c.plan-answer.result was next _ c.plan-answer.ensures.answer c.plan-answer.ensures.accepted c.plan-answer.ensures.refused in
    let at = line-at c.args.lines.now c.args.lines.now c.loop-line.line-index c.line-item.result (Run c.in-Run.command) refl c.loop-line-test.true c.line-item.is c.in-Run.is in
    let kept = declared-next c.args.present.declared c.args.lines.now c.loop-line.line-index was h.declared h.counted c.in-Run.command at next then in (
      next.commands,
      subst (λ n. AreNumbersOf n next.state next.commands c.note.new.self) (ap (λ (d : Declared). d.tasks) (sym kept))
          (numbers-after was next c.args.present.declared.tasks c.in-Run.command c.plan-answer.result c.loop-line.told c.note.new.self (ap (λ (d : Declared). d.tasks) h.declared)
          c.plan-answer.ensures.answer then h.told' c.note.ensures),
    )

pub loop-line-preserved : goal.loop-line-preserved
loop-line-preserved c =
    let old = c.args.present.declared in
    let xs = c.args.lines.now in
    let i = c.loop-line.line-index in
    let was = c.loop-line.present in
    let rows = c.loop-line.rows.items in
    let h = c.loop-line.invariant in
    elim c.match-line.branch [
      | in-Run+in_ok-next+in_ok-map_err-2 w ↦
          let x = w.in-Run.command in
          let at = line-at xs xs i c.line-item.result (Run x) refl c.loop-line-test.true c.line-item.is w.in-Run.is in
          let next = w.plan-answer.new.self in
          let then = planned w.plan-answer.result was next _ w.plan-answer.ensures.answer w.plan-answer.ensures.accepted w.plan-answer.ensures.refused in
          let kept = declared-next old xs i was h.declared h.counted x at next then in
          let more = commands-next old xs i was h.declared h.counted x at next then in
          let made = w.in_ok-next.ensures in
          let row = w.in_ok-next.next in
          let items = ap (λ (v : Vec Row). v.items) w.rows-is ∙ (rw (sym w.in_ok-map_err-2.ensures.variant) at w.push-in-Run.ensures.items) in
          let size = length_push rows row in
          let before = h.size in
          rw (w.present-is, w.told-is, items) (record {
            told' =
                numbers-after was next old.tasks x w.plan-answer.result c.loop-line.told w.note.new.self (ap (λ (d : Declared). d.tasks) h.declared)
                w.plan-answer.ensures.answer then h.told' w.note.ensures;
            declared = kept;
            counted = counted-next old xs i was h.declared h.counted x at next then;
            state = λ job is lines. state-next old xs i was h.declared h.counted x at next then job is lines (h.state job is lines);
            size = omega (arith, size, before, more);
            each = λ job is lines.
                each-pushed (IsRowOf job) rows row (h.each job is lines)
                (subst (λ n. IsRowOf job n row) (sym before)
                (next-made job next (subst (IsOf job) (sym kept) is) was.commands more (command_of was.declared.tasks x)
                (command-next old xs i was h.declared h.counted x at next then job lines)
                row (state-next old xs i was h.declared h.counted x at next then job is lines (h.state job is lines)) made.row (made.answer ∙ ap Some (w.plan-answer.ensures.answer
                ∙ answer-is job was.declared (subst (IsOf job) (sym h.declared) is) was.state (command_of was.declared.tasks x)
                ∙ ap (λ (d : Desk). answer_on job d (command_of was.declared.tasks x)) (h.state job is lines)))
                (ap (option_map (λ (u : UserNo). u.0)) made.off ∙ w.takes_off.ensures was.declared.tasks)));
          })
      | in_default w ↦
          let at = line-at xs xs i c.line-item.result (Until w.in_default.field-0 w.in_default.field-1) refl c.loop-line-test.true c.line-item.is w.in_default.is in
          rw (w.present-is, w.told-is, w.rows-is) (record {
            told' = h.told';
            declared = h.declared;
            counted = counted-wait old xs i was h.declared h.counted w.in_default.field-0 w.in_default.field-1 at;
            state = h.state;
            size = h.size;
            each = h.each;
          })
    ]

pub returns : goal.returns
returns c = λ job is lines.
    let h = c.loop-line.invariant in
    record {
      size = h.size ∙ ap suc (counted-over c.args.present.declared c.args.lines.now c.loop-line.line-index c.loop-line.present h.declared h.counted job lines c.loop-line-test.false);
      each = h.each job is lines;
    }
