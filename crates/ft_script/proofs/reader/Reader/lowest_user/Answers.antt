use Rattle.std.proofs.Common.{◌≡◌, ◌+◌, Some, length, slice_get, refl, sym, ap, ◌∙◌, subst, arith}
use Rattle.std.specs.Prelude.{option_map}
use Rattle.std.proofs.lemmas.List.{length-map}
use Rattle.std.proofs.lemmas.Option.{slice_get-map, slice_get_read}
use Rattle.script_waits.specs.Greedy.{IsLeast}
use Rattle.user_specs.specs.Plain.{spec_of}
use Rattle.ft_script.specs.Above.{Above}
use Rattle.ft_script.specs.ReaderInvariant.{above_of}
use Rattle.ft_script.proofs.Coverage.{IsAmong, IsNeedOf, least-next, least-past, least-needed, least-unneeded, least-of_users}
use Rattle.ft_script.proofs.reader.Reader.lowest_user.Goals as goal
use Rattle.ft_script.proofs.reader.Reader.lowest_user.Goals.{then-are_needed_by, else-are_needed_by}

pub loop-u-preserved : goal.loop-u-preserved
loop-u-preserved c = λ job are.
    let r = c.args.self.now in
    let above : Above = above_of r in
    let u = c.loop-u.u in
    let user : slice_get above.users u ≡ Some (spec_of c.index.result.now) =
    slice_get-map spec_of r.users.items u
    ∙ ap (option_map spec_of) (slice_get_read r.users.items (length r.users.items) u c.index.result.now refl (omega (arith, c.loop-u-test.true, c.loop-u.auto.u-end)) c.index.ensures) in
    let needs = c.are_needed_by.ensures job are in
    elim c.if-are_needed_by.branch [
      | then-are_needed_by w ↦
          let line : slice_get above.user_lines u ≡ Some w.index-then-are_needed_by.result.now =
          slice_get_read r.user_lines.items (length r.user_lines.items) u w.index-then-are_needed_by.result.now refl (omega (arith, c.requires, c.loop-u-test.true, c.loop-u.auto.u-end)) w.index-then-are_needed_by.ensures in
          subst (IsLeast (IsAmong (IsNeedOf job above) (u + 1))) (sym (w.low-is ∙ w.lower-low.ensures))
          (least-next (IsNeedOf job above) u c.loop-u.low (Some w.index-then-are_needed_by.result.now) (c.loop-u.invariant job are)
          (least-needed job above u (spec_of c.index.result.now) w.index-then-are_needed_by.result.now user line (sym needs ∙ w.if-are_needed_by.true)))
      | else-are_needed_by w ↦
          subst (IsLeast (IsAmong (IsNeedOf job above) (u + 1))) (sym w.low-is)
          (least-past job above u c.loop-u.low (c.loop-u.invariant job are) (least-unneeded job above u (spec_of c.index.result.now) user (sym needs ∙ w.if-are_needed_by.false)))
    ]

pub returns : goal.returns
returns c = λ job are.
    let users = c.args.self.now.users.items in
    let count = length-map users spec_of in
    least-of_users job (above_of c.args.self.now) c.loop-u.u c.loop-u.low (omega (arith, count, c.loop-u-test.false, c.loop-u.auto.u-end, c.len-u-end.ensures)) (c.loop-u.invariant job are)
