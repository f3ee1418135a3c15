-- The items so far keep the rules; one that doesn't tells against the whole history.
use Rattle.std.proofs.Common.{refl, sym, ◌∙◌, subst, arith}
use Rattle.history_check.specs.Backs.{AreBacksLegalPast}
use Rattle.ft_hist.specs.Telling.{past_at}
use Rattle.history_check.specs.CallbackCheck.{IsCheck}
use Rattle.ft_hist.proofs.Splitting.{past-more}
use Rattle.history_check.proofs.PastLaws.{all-keep, begun-room, done-room, item-keeps, more-keeps, none-breaks}
use Rattle.history_check.proofs.backs.backs_legal.Goals as goal

pub note-requires-clause-done : goal.note-requires-clause-done
note-requires-clause-done c =
    let lt = c.loop-place-test.true in
    let n = c.len-place-end.ensures in
    let fits = c.len-place-end.type_inv in
    done-room c.args.history.now.items c.loop-place.place c.loop-place.check.done c.loop-place.invariant.kept.done' (omega (arith, lt, n)) (omega (arith, n, fits))

pub note-requires-clause-begun : goal.note-requires-clause-begun
note-requires-clause-begun c =
    let lt = c.loop-place-test.true in
    let n = c.len-place-end.ensures in
    let fits = c.len-place-end.type_inv in
    begun-room c.args.history.now.items c.loop-place.place c.loop-place.check.begun c.loop-place.invariant.kept.begun' (omega (arith, lt, n)) (omega (arith, n, fits))

pub loop-place-init : goal.loop-place-init
loop-place-init c = record { so_far = none-breaks c.args.job.now; kept = c.in_ok-check.ensures }

pub returns-then-not-branch : goal.returns-then-not-branch
returns-then-not-branch c =
    let noted = c.in_ok-note.ensures c.args.job.now (past_at c.loop-place.place c.args.history.now.items) c.loop-place.invariant.kept in
    (λ t. absurd cc, λ all. sym c.if-not-branch.true ∙ noted.told.1 (item-keeps c.args.job.now c.args.history.now.items c.loop-place.place c.item.result.now c.item.ensures all))

pub loop-place-preserved : goal.loop-place-preserved
loop-place-preserved c =
    let job = c.args.job.now in
    let items = c.args.history.now.items in
    let past = past_at c.loop-place.place items in
    let noted = c.in_ok-note.ensures job past c.loop-place.invariant.kept in
    let next = sym (past-more items c.loop-place.place c.item.result.now c.item.ensures) in
    record {
      so_far = subst (AreBacksLegalPast job) next (more-keeps job c.item.result.now past (noted.told.0 c.if-not-branch.false) c.loop-place.invariant.so_far);
      kept = subst (λ xs. IsCheck job xs c.note.new.self) next (noted.kept c.if-not-branch.false);
    }

pub returns : goal.returns
returns c =
    let over = c.loop-place-test.false in
    let n = c.len-place-end.ensures in (
      λ t. all-keep c.args.job.now c.args.history.now.items c.loop-place.place (omega (arith, over, n)) c.loop-place.invariant.so_far,
      λ all. refl,
    )
