use Rattle.std.proofs.Common.{rules}
use Rattle.ft_script.proofs.reader.Reader.is_full_of_calls.Goals as goal

pub returns-else-open_calls-from : goal.returns-else-open_calls-from
returns-else-open_calls-from c = search rules
