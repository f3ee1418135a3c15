use Rattle.ft_hist.proofs.FrameLimit.{never-exceeded}
use Rattle.ft_hist.proofs.theorems.frames_are_never_exceeded.Goals as goal

pub returns : goal.returns
returns c = λ job items call legal. never-exceeded job items call legal
