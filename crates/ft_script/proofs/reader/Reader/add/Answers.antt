use Rattle.std.proofs.Common.{length}
use Rattle.ft_script.specs.ReaderInvariant.{above_of, declaration_of}
use Rattle.ft_script.proofs.ReaderParts.{kept-other, other-few, is-other}
use Rattle.ft_script.proofs.reader.Reader.add.Goals as goal

pub returns-in_ok-add_other-in_default : goal.returns-in_ok-add_other-in_default
returns-in_ok-add_other-in_default c =
    let r = c.args.self.now in
    let what = declaration_of (length r.tasks.items) c.args.what in
    let other = is-other (length r.tasks.items) c.args.what c.in_default.not-Ctl in
    let e = c.in_ok-add_other-in_default.ensures in
    record {
      ok = e.ok;
      few = other-few (above_of r) what other;
      kept = kept-other r c.add_other.new.self c.requires.kept c.requires.small.order what c.requires.fits other e.ok e.names e.expansion;
      err = tt;
    }
