use Rattle.ft_script.proofs.OtherVersions.{same_job}
use Rattle.ft_script.proofs.laws.a_version_changes_no_more_than_limits.Goals as goal

pub returns : goal.returns
returns c = same_job
