use Rattle.ft_script.proofs.Answered.{clean_script}
use Rattle.ft_script.proofs.laws.a_clean_text_is_a_script.Goals as goal

pub returns : goal.returns
returns c = clean_script
