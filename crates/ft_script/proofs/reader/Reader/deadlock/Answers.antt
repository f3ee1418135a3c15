use Rattle.std.proofs.Common.{◌≡◌, List, length, map, ap, ◌∙◌}
use Rattle.ft_script.specs.declared.reader.LinedCtl.{LinedCtl as KeptLine}
use Rattle.ft_script.specs.Script.{control_of}
use Rattle.ft_script.specs.ReaderInvariant.{above_of, control_line}
use Rattle.ft_script.proofs.ControlLines.{control-kept}
use Rattle.ft_script.proofs.reader.Reader.deadlock.Goals as goal

pub returns : goal.returns
returns c =
    let kept : c.in_ok-control.control.items ≡ control_of (above_of c.args.self.now) = c.in_ok-control.ensures ∙ ap (λ (cs : List KeptLine). map control_line cs) c.as_slice.ensures.value ∙ control-kept (length c.args.self.now.tasks.items) c.args.self.now.ctls.items in
    let control : c.as_slice-3.result.now ≡ control_of (above_of c.args.self.now) = c.as_slice-3.ensures.value ∙ kept in
    rw (c.as_slice-2.ensures.value, control) at c.deadlock.ensures
