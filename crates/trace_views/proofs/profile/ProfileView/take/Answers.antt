use Rattle.std.proofs.Common.{arith}
use Rattle.trace_views.proofs.profile.ProfileView.take.Goals as goal

pub returns : goal.returns
returns c = λ job past told legal small. record {
  calls = c.follow.ensures job past (rw c.count.ensures.rest.0 told.calls) legal;
  place' = (let p = told.place' in let e = c.count.ensures.rest.1 in omega (arith, e, p));
  users = c.count.ensures.users job past told legal small;
}
