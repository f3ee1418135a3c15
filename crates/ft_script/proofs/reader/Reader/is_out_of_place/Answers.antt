use Rattle.std.proofs.Common.{rules}
use Rattle.ft_script.proofs.reader.Reader.is_out_of_place.Goals as goal

pub returns-in-Depth : goal.returns-in-Depth
returns-in-Depth c = search rules
