use Rattle.std.proofs.Common.{sym, ◌∙◌, subst, arith}
use Rattle.std.proofs.lemmas.Option.{slice_get-get_or}
use Rattle.std.proofs.lemmas.Bool.{iff_false}
use Rattle.ft_hist.specs.Rules.{IsLegalPast}
use Rattle.ft_hist.specs.Telling.{past_at}
use Rattle.ft_hist.proofs.Laws.{none-legal}
use Rattle.ft_hist.proofs.Splitting.{past-more}
use Rattle.history_check.specs.JudgePast.{IsPast}
use Rattle.history_check.specs.Verdicts.{IsBroken}
use Rattle.history_check.proofs.JudgeVerdicts.{all-legal, all-whole, at-end, broken-there, more-legal}
use Rattle.history_check.proofs.PastLaws.{length-past}
use Rattle.history_check.proofs.judging.judge.Goals as goal

pub loop-item-init : goal.loop-item-init
loop-item-init c = record { so_far = none-legal c.args.job.now; kept = c.in_ok-past.ensures }

pub note-requires : goal.note-requires
note-requires c =
    let items = c.args.items.now in
    let i = c.loop-item.item-index in
    let lt = c.loop-item-test.true in
    let n = length-past items i (omega (arith, lt)) in
    let room = c.requires in
    (c.args.job.now, past_at i items, c.loop-item.invariant.kept, omega (arith, n, lt, room))

pub returns-in-Some : goal.returns-in-Some
returns-in-Some c =
    let job = c.args.job.now in
    let items = c.args.items.now in
    let i = c.loop-item.item-index in
    let lt = c.loop-item-test.true in
    let past = past_at i items in
    let kept = c.loop-item.invariant.kept in
    let next = c.in_ok-rule.ensures job past kept in
    let told = (rw c.in-Some.is at next.told') in
    let place = kept.place ∙ length-past items i (omega (arith, lt)) in
    subst (λ n. IsBroken job items n c.in-Some.rule) (sym place)
    (broken-there job items i _ c.in-Some.rule (slice_get-get_or items i _ lt) c.loop-item.invariant.so_far told)

pub loop-item-preserved : goal.loop-item-preserved
loop-item-preserved c =
    let job = c.args.job.now in
    let items = c.args.items.now in
    let i = c.loop-item.item-index in
    let lt = c.loop-item-test.true in
    let past = past_at i items in
    let next = c.in_ok-rule.ensures job past c.loop-item.invariant.kept in
    let told = (rw c.in_default.is at next.told') in
    record {
      so_far = subst (λ xs. IsLegalPast job xs) (sym (past-more items i _ (slice_get-get_or items i _ lt))) (more-legal job _ past told c.loop-item.invariant.so_far);
      kept = subst (λ xs. IsPast job xs c.note.new.self) (sym (past-more items i _ (slice_get-get_or items i _ lt))) (next.kept c.in_default.is);
    }

pub returns-then-is_at_end : goal.returns-then-is_at_end
returns-then-is_at_end c =
    let job = c.args.job.now in
    let items = c.args.items.now in
    let i = c.loop-item.item-index in
    let so = c.is_at_end.ensures job (past_at i items) c.loop-item.invariant.kept in
    all-whole job items i c.loop-item-test.false c.loop-item.invariant.so_far (so.0 c.if-is_at_end.true)

pub returns : goal.returns
returns c =
    let job = c.args.job.now in
    let items = c.args.items.now in
    let i = c.loop-item.item-index in
    let over = c.loop-item-test.false in
    let so = c.is_at_end.ensures job (past_at i items) c.loop-item.invariant.kept in
    (all-legal job items i over c.loop-item.invariant.so_far, λ whole. iff_false so c.if-is_at_end.false (at-end job items i over whole))
