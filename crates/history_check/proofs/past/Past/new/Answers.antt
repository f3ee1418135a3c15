use Rattle.std.proofs.Common.{◌∙◌, refl, ap}
use Rattle.ft_base.specs.declared.limits.Limits.{Limits}
use Rattle.ft_base.specs.Versions.{limits_of}
use Rattle.ft_hist.specs.Plain.{plain}
use Rattle.history_check.specs.JudgePast.{lines_after}
use Rattle.history_check.proofs.past.Past.new.Goals as goal

pub returns : goal.returns
unfolding lines_after plain
returns c =
    let made = c.in_ok-tasks.ensures in
    record {
      desks = c.in_ok-desks.ensures;
      specs = c.specs.ensures;
      frames = c.frames.ensures;
      levels' = ap (λ (l : Limits). l.levels) (c.of-limits.ensures ∙ ap limits_of c.version.ensures);
      lines = c.ctls.ensures;
      waited = tt;
      size = made.0;
      each = made.1;
      others = λ t out. refl;
      callbacks' = c.new-callbacks.ensures;
      done' = refl;
      begun' = refl;
      place = refl;
    }
