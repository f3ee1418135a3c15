use Rattle.std.proofs.Common.{◌≡◌, ℕ, suc, ◌+◌, ◌<◌, ◌^◌, List, [], ◌++◌, drop, length, take, Some, refl, sym, ap, ap₂, subst, ◌∙◌, add-one, arith}
use Rattle.std.specs.Prelude.{option_map, slice_get}
use Rattle.std.proofs.lemmas.List.{length-map}
use Rattle.std.proofs.lemmas.Option.{slice_get-map}
use Rattle.ft_base.specs.Desk.{answer_at, desk}
use Rattle.ft_base.specs.Job.{Job, Ctl as PlainCtl, Run as PlainRun, commands_in}
use Rattle.ft_desk.specs.declared.command.Ctl.{Ctl}
use Rattle.ft_desk.specs.declared.command.Ctl.TheVariants.{Run, Until}
use Rattle.ft_desk.specs.Commands.{command_of, ctl_of}
use Rattle.ft_desk.specs.Declarations.{Declared, IsOf}
use Rattle.ft_desk.specs.DeskView.{DeskView, after_command, answer}
use Rattle.ft_desk.specs.Lines.{lines_of}
use Rattle.ft_desk.proofs.LineLaws.{line-at, planned}
use Rattle.ft_desk.proofs.NextDesk.{answers}
use Rattle.ft_job.proofs.DeskLaws.{commands-next, counted-next, counted-wait, declared-next, few-planned, new-commands, new-state, state-next}
use Rattle.ft_io.proofs.PieceLaws.{puts-none, puts-then, puts-equal}
use Rattle.word_machine.specs.Limits.{IsLimited}
use Rattle.told_facts.specs.Commands.{command_text, controls_from, wait_text}
use Rattle.told_facts.specs.Lines.{line_in}
use Rattle.told_facts.proofs.Controls.{controls-all, run-more, wait-more}
use Rattle.told_facts.proofs.commands.put_controls.Goals as goal
use Rattle.told_facts.proofs.commands.put_controls.Goals.{in-Run, in-Until}

pub loop-ctl-init : goal.loop-ctl-init
loop-ctl-init g c =
    let job = c.args.names.now in
    let before = c.args.before.now in record {
      declared = refl;
      counted = new-commands before c.requires.opened;
      state = new-state before c.requires.opened job c.requires.declared;
      same = c.requires.same;
      put = ([], puts-none _ _, ap₂ (λ (n : ℕ) (ls : List PlainCtl). controls_from job (line_in c.args.lines.now) n ls) (new-commands before c.requires.opened) c.requires.lines);
    }

-- no more commands were planned than there are lines, which are few
few : (job : Job) → IsLimited job → (old : Declared) (xs : List Ctl) (i : ℕ) (s : DeskView) → s.declared ≡ old
    → s.commands ≡ length (commands_in (take i (lines_of old.tasks xs))) → lines_of old.tasks xs ≡ job.ctls → i < length xs → s.commands + 1 < 2 ^ 32
few job limited old xs i s kept counted lines within =
    let a = few-planned old xs i s kept counted in
    let b = length-map xs (ctl_of old.tasks) in
    let c = ap length lines in
    let d = limited.ctls in omega (arith, a, b, c, d, within)

pub plan-requires-clause-room : goal.plan-requires-clause-room
plan-requires-clause-room g c =
    let h = c.loop-ctl.invariant in
    few c.args.names.now (subst IsLimited c.job.ensures c.shape-shape.ensures.limited) c.args.before.now.declared c.args.ctls.now c.loop-ctl.ctl-index c.loop-ctl.before
    h.declared h.counted c.requires.lines c.loop-ctl-test.true

pub put_command-requires-clause-number : goal.put_command-requires-clause-number
put_command-requires-clause-number g c =
    let h = c.loop-ctl.invariant in
    rw c.commands-k.ensures (few c.args.names.now (subst IsLimited c.job.ensures c.shape-shape.ensures.limited) c.args.before.now.declared c.args.ctls.now c.loop-ctl.ctl-index c.loop-ctl.before
    h.declared h.counted c.requires.lines c.loop-ctl-test.true)

pub plan-answer-requires-clause-room : goal.plan-answer-requires-clause-room
plan-answer-requires-clause-room g c =
    let h = c.loop-ctl.invariant in
    rw h.same (few c.args.names.now (subst IsLimited c.job.ensures c.shape-shape.ensures.limited) c.args.before.now.declared c.args.ctls.now c.loop-ctl.ctl-index c.loop-ctl.before
    h.declared h.counted c.requires.lines c.loop-ctl-test.true)

pub loop-ctl-preserved : goal.loop-ctl-preserved
loop-ctl-preserved g c =
    let job = c.args.names.now in
    let line = line_in c.args.lines.now in
    let old = c.args.before.now.declared in
    let xs = c.args.ctls.now in
    let ls = lines_of old.tasks xs in
    let i = c.loop-ctl.ctl-index in
    let was = c.loop-ctl.before in
    let n = was.commands in
    let h = c.loop-ctl.invariant in
    let so_far = h.put in
    elim c.match-ctl.branch [
      | in-Run w ↦
          let cmd = w.in-Run.command in
          let x = command_of was.declared.tasks cmd in
          let next = w.plan.new.self in
          let at = line-at xs xs i c.ctl-item.result (Run cmd) refl c.loop-ctl-test.true c.ctl-item.is w.in-Run.is in
          let then : next ≡ after_command was x = planned w.plan.result was next x w.plan.ensures.answer w.plan.ensures.accepted w.plan.ensures.refused in
          let answered = w.plan-answer.ensures in
          let ahead : w.plan-answer.new.self ≡ after_command was x =
          planned w.plan-answer.result c.loop-ctl.after w.plan-answer.new.self (command_of c.loop-ctl.after.declared.tasks cmd) answered.answer answered.accepted answered.refused
          ∙ ap (λ (s : DeskView). after_command s (command_of s.declared.tasks cmd)) h.same in
          let more = commands-next old xs i was h.declared h.counted cmd at next then in
          let is : IsOf job was.declared = subst (IsOf job) (sym h.declared) c.requires.declared in
          let state = state-next old xs i was h.declared h.counted cmd at next then job c.requires.declared c.requires.lines h.state in
          let ek : w.commands-k.result ≡ n = w.commands-k.ensures in
          let ea : w.plan-answer.result ≡ answer_at job n x = answered.answer ∙ ap (λ (s : DeskView). answer s (command_of s.declared.tasks cmd)) h.same ∙ answers job was n x is h.state in
          let et : w.plan-answer.new.self.state ≡ desk job (suc n) = ap (λ (s : DeskView). s.state) (ahead ∙ sym then) ∙ state ∙ ap (desk job) more in
          let plain : slice_get ls i ≡ Some (PlainRun x) =
          slice_get-map (ctl_of old.tasks) xs i ∙ ap (option_map (ctl_of old.tasks)) at ∙ ap (λ (d : Declared). Some (PlainRun (command_of d.tasks cmd))) (sym h.declared) in
          let told = command_text job n x (line n) (answer_at job n x) (desk job n) (desk job (suc n)) in
          rw (w.pieces-is, w.sink-is, w.before-is, w.after-is) (record {
            declared = declared-next old xs i was h.declared h.counted cmd at next then;
            counted = counted-next old xs i was h.declared h.counted cmd at next then;
            state = state;
            same = ahead ∙ sym then;
            put = (
              so_far.0 ++ told,
              puts-then so_far.1 (puts-equal (λ j. command_text job (ek j) x (line (ek j)) (ea j) (h.state j) (et j)) (w.put_command.ensures was.declared.tasks)),
              ap₂ (λ (m l : ℕ). (so_far.0 ++ told) ++ controls_from job line m (drop l ls)) more (add-one i) ∙ run-more job line n ls i so_far.0 _ x plain so_far.2,
            );
          })
      | in-Until w ↦
          let at = line-at xs xs i c.ctl-item.result (Until w.in-Until.task w.in-Until.acts) refl c.loop-ctl-test.true c.ctl-item.is w.in-Until.is in
          let plain : slice_get ls i ≡ Some (ctl_of old.tasks (Until w.in-Until.task w.in-Until.acts)) = slice_get-map (ctl_of old.tasks) xs i ∙ ap (option_map (ctl_of old.tasks)) at in
          rw (w.pieces-is, w.sink-is, w.before-is, w.after-is) (record {
            declared = h.declared;
            counted = counted-wait old xs i was h.declared h.counted w.in-Until.task w.in-Until.acts at;
            state = h.state;
            same = h.same;
            put = (
              so_far.0 ++ wait_text job w.in-Until.task.0 w.in-Until.acts,
              puts-then so_far.1 w.put_wait.ensures,
              ap (λ (l : ℕ). (so_far.0 ++ wait_text job w.in-Until.task.0 w.in-Until.acts) ++ controls_from job line n (drop l ls)) (add-one i)
                  ∙ wait-more job line n ls i so_far.0 _ w.in-Until.task.0 w.in-Until.acts plain so_far.2,
            );
          })
    ]

pub returns : goal.returns
returns g c =
    let so_far = c.loop-ctl.invariant.put in
    let m = length-map c.args.ctls.now (ctl_of c.args.before.now.declared.tasks) in
    puts-equal (controls-all c.args.names.now (line_in c.args.lines.now) c.loop-ctl.before.commands (lines_of c.args.before.now.declared.tasks c.args.ctls.now) c.loop-ctl.ctl-index so_far.0 _
    (omega (arith, m, c.loop-ctl-test.false)) so_far.2) so_far.1
