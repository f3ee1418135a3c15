-- At the start nothing is kept, for as many functions as are asked for.
use Rattle.std.proofs.Common.{[]}
use Rattle.func_profile.proofs.TallyLemmas.{length-rows}
use Rattle.func_profile.proofs.profile.rows.Goals as goal

pub loop-place-init : goal.loop-place-init
loop-place-init c =
    let is = c.in_ok-tally.ensures c.args.user.0 in
    record { functions = length-rows c.args.user.0 c.args.funcs [] c.in_ok-tally.tally is; so_far = is }
