use Rattle.std.proofs.Common.{◌≡◌, length, OnOk, sym, ap, ◌∙◌, subst}
use Rattle.std.specs.Prelude.{option_map}
use Rattle.script_text.specs.Lines.{lines_of}
use Rattle.script_form.specs.Read.{form_read}
use Rattle.ft_script.specs.Above.{Resolved, declared}
use Rattle.ft_script.specs.Script.{said}
use Rattle.ft_script.specs.ReaderInvariant.{above_of, resolved_of}
use Rattle.ft_script.proofs.Fitting.{read_accepted}
use Rattle.ft_script.proofs.reader.Reader.read_form.Goals as goal

pub declare-requires-clause-fits : goal.declare-requires-clause-fits
declare-requires-clause-fits c =
    (read_accepted (above_of c.args.self.now) c.requires.small.order c.args.ended c.requires.line.0 (option_map form_read c.args.form.now) (lines_of c.args.below.now)
    (resolved_of (length c.args.self.now.tasks.items) c.in_ok-resolved.resolved) c.requires.line.1 c.in_ok-resolved.ensures.ok).fits

pub returns-clause-declared : goal.returns-clause-declared
returns-clause-declared c =
    let above = above_of c.args.self.now in
    let accepted =
    read_accepted above c.requires.small.order c.args.ended c.requires.line.0 (option_map form_read c.args.form.now) (lines_of c.args.below.now)
    (resolved_of (length c.args.self.now.tasks.items) c.in_ok-resolved.resolved) c.requires.line.1 c.in_ok-resolved.ensures.ok in
    subst (λ (line : Resolved). OnOk c.declare.result (above_of c.declare.new.self ≡ declared above line))
    (sym accepted.meaning ∙ sym (ap (said above) c.requires.line.1)) c.declare.ensures.ok
