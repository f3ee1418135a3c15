use Rattle.judge_app.proofs.ScriptCuts.{cut-off}
use Rattle.judge_app.proofs.laws.inputs_are_cut_below_their_scripts.Goals as goal

pub returns : goal.returns
returns c = cut-off
