use Rattle.std.proofs.Common.{◌≡◌, suc, sym, ap, ◌∙◌, subst, arith}
use Rattle.std.proofs.lemmas.Result.{err_from_is_err_and}
use Rattle.script_text.specs.Lines.{Line, lines_of}
use Rattle.ft_script.specs.Above.{Above}
use Rattle.ft_script.specs.Script.{refusal_below, declared_after}
use Rattle.ft_script.specs.ReaderInvariant.{above_of}
use Rattle.ft_script.proofs.Ends.{no_lines, refused-more, refused-here, declared-more, lines-more}
use Rattle.ft_script.proofs.Lines.{HoldsAbove, line-holds, none-holds, closed-at_end}
use Rattle.ft_script.proofs.script.read_lines.Goals as goal

pub read-requires-clause-small : goal.read-requires-clause-small
read-requires-clause-small c =
    let inv = c.loop-rest.invariant in
    record { numbered = omega (arith, inv.few, c.first_line-ended.ensures.shorter); within = inv.holds.holds.within; order = inv.holds.holds.order }

pub loop-rest-init : goal.loop-rest-init
loop-rest-init c =
    let new = c.requires.none in
    let none : c.args.reader.now.lines ≡ 0 = ap (λ (a : Above). a.lines) new in
    record {
      few = omega (arith, none, c.requires.few);
      holds = subst (λ (a : Above). HoldsAbove a (lines_of c.args.text.now)) (sym new) (none-holds (lines_of c.args.text.now));
      kept = c.requires.kept;
      refused = ap (λ (a : Above). refusal_below a (lines_of c.args.text.now)) new;
      declared = ap (λ (a : Above). declared_after a (lines_of c.args.text.now)) new;
    }

pub loop-rest-preserved : goal.loop-rest-preserved
loop-rest-preserved c =
    let old : Above = above_of c.loop-rest.reader in
    let new : Above = above_of c.read.new.self in
    let line : Line = record { bytes = c.first_line-ended.result.0.now; ended = c.first_line-ended.result.1 } in
    let inv = c.loop-rest.invariant in
    let cut = c.first_line-ended.ensures.cut in
    let read = c.in_ok-read.ensures in
    let count : c.read.new.self.lines ≡ suc c.loop-rest.reader.lines = lines-more old new line read.declared in
    let here : HoldsAbove old (lines_of c.loop-rest.rest.now) = inv.holds in
    record {
      few = omega (arith, count, inv.few, c.first_line-ended.ensures.shorter);
      holds = subst (λ (a : Above). HoldsAbove a (lines_of c.first_line-ended.result.2.now)) (sym read.declared) (line-holds old line (lines_of c.first_line-ended.result.2.now) (rw cut at here) read.clear);
      kept = read.kept;
      refused = refused-more old new line c.loop-rest.rest.now c.first_line-ended.result.2.now cut read.declared read.clear ∙ inv.refused;
      declared = declared-more old new line c.loop-rest.rest.now c.first_line-ended.result.2.now cut read.declared ∙ inv.declared;
    }

pub returns-clause-clear : goal.returns-clause-clear
returns-clause-clear c = sym c.loop-rest.invariant.refused ∙ ap (refusal_below (above_of c.loop-rest.reader)) (no_lines c.loop-rest.rest.now c.loop-rest-test.ensures)

pub returns-clause-declared : goal.returns-clause-declared
returns-clause-declared c = sym (ap (declared_after (above_of c.loop-rest.reader)) (no_lines c.loop-rest.rest.now c.loop-rest-test.ensures)) ∙ c.loop-rest.invariant.declared

-- what an accepted text declares can be run
pub returns-clause-runs : goal.returns-clause-runs
returns-clause-runs c =
    let above : Above = above_of c.loop-rest.reader in
    let last : HoldsAbove above (lines_of c.loop-rest.rest.now) = c.loop-rest.invariant.holds in
    let ended = rw (no_lines c.loop-rest.rest.now c.loop-rest-test.ensures) at last in
    record { holds = ended.holds; closed = closed-at_end above ended }

pub returns-in_err-read-clause-refused : goal.returns-in_err-read-clause-refused
returns-in_err-read-clause-refused c =
    let p = err_from_is_err_and c.from_residual.result c.from_residual.ensures.1 in
    let line : Line = record { bytes = c.first_line-ended.result.0.now; ended = c.first_line-ended.result.1 } in
    rw (p.1, p.2) (refused-here (above_of c.loop-rest.reader) line c.loop-rest.rest.now c.first_line-ended.result.2.now c.args.text.now
    c.first_line-ended.ensures.cut c.loop-rest.invariant.refused c.in_err-read.field-0.0 c.in_err-read.ensures.err)
