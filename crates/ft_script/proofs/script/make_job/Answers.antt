use Rattle.std.proofs.Common.{◌∙◌}
use Rattle.ft_job.specs.Parts.{parts_of}
use Rattle.ft_script.specs.ReaderInvariant.{above_of}
use Rattle.ft_script.proofs.JobLaws.{job-is, is_within}
use Rattle.ft_script.proofs.script.make_job.Goals as goal

pub new-requires : goal.new-requires
new-requires c = is_within (above_of c.args.reader) c.requires.runs (parts_of c.in_ok-into_parts.field-0) c.in_ok-into_parts.ensures

pub returns : goal.returns
returns c = c.new.ensures ∙ job-is (above_of c.args.reader) c.requires.runs (parts_of c.in_ok-into_parts.field-0) c.in_ok-into_parts.ensures
