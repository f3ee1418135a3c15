use Rattle.std.proofs.Common.{◌≡◌, ◌+◌, ◌==◌, false, get_or, sym, ap, ◌∙◌, subst, arith}
use Rattle.std.specs.List.{list_any}
use Rattle.ft_base.specs.Marks.{Marks}
use Rattle.script_waits.specs.declared.script.LinedTask.{LinedTask as KeptTask}
use Rattle.ft_script.proofs.Masks.{IsMaskOf, listed_marks, mark-is, mask-set, mask-unset, mask-all}
use Rattle.ft_script.proofs.reader.find.pid_mask.Goals as goal
use Rattle.ft_script.proofs.reader.find.pid_mask.Goals.{then-is_listed, else-is_listed}

pub loop-i-preserved : goal.loop-i-preserved
loop-i-preserved c =
    let marks : Marks = listed_marks c.args.list.now c.args.tasks.now in
    let task : KeptTask = c.index-tasks-i.result in
    let heard : c.is_listed.result ≡ list_any (λ p. p == task.pid) c.args.list.now = c.is_listed.ensures in
    let mark : get_or marks c.loop-i.i false ≡ c.is_listed.result
    = mark-is c.args.list.now c.args.tasks.now c.loop-i.i task c.loop-i-test.true
    ∙ ap (λ (t : KeptTask). list_any (λ p. p == t.pid) c.args.list.now) (sym c.index-tasks-i.is) ∙ sym heard in
    elim c.if-is_listed.branch [
      | then-is_listed w ↦ subst (IsMaskOf marks (c.loop-i.i + 1)) (sym w.mask-is)
          (mask-set marks c.loop-i.i c.loop-i.mask c.loop-i.invariant (omega (arith, c.requires, c.loop-i-test.true)) (mark ∙ w.if-is_listed.true))
      | else-is_listed w ↦ subst (IsMaskOf marks (c.loop-i.i + 1)) (sym w.mask-is)
          (mask-unset marks c.loop-i.i c.loop-i.mask c.loop-i.invariant (mark ∙ w.if-is_listed.false))
    ]

pub returns : goal.returns
returns c = mask-all c.args.list.now c.args.tasks.now c.loop-i.i c.loop-i.mask (omega (arith, c.loop-i-test.false, c.loop-i.auto.i-end)) c.loop-i.invariant
