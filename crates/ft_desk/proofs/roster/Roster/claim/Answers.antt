use Rattle.std.proofs.Common.{◌≡◌, ◌<◌, ap, ◌∙◌, arith, length}
use Rattle.std.proofs.lemmas.List.{get_or_read}
use Rattle.ft_base.specs.Desk.{claim}
use Rattle.filter_hash.specs.Pair.{size_of}
use Rattle.ft_desk.specs.declared.user.User.{User}
use Rattle.ft_desk.specs.Users.{desk_by, no_user, user_of}
use Rattle.ft_desk.specs.Rosters.{Users, job_by}
use Rattle.ft_desk.specs.RosterInvariant.{users_of}
use Rattle.ft_desk.proofs.ClaimLaws.{claim-here}
use Rattle.ft_desk.proofs.roster.Roster.claim.Goals as goal

pub returns-clause-answer : goal.returns-clause-answer
returns-clause-answer c =
    let e : length c.self.inside.users.items ≡ length c.args.self.now.users = ap (λ (s : Users). length s.users) c.self.view_is in
    let within : c.args.user.0 < length c.self.inside.users.items = (let h = c.requires in omega (arith, e, h)) in
    let x : c.index.result.now ≡ user_of c.self.inside.users.items c.args.user.0 = get_or_read c.self.inside.users.items c.args.user.0 c.index.result.now within c.index.ensures no_user in
    let size : size_of c.index.result.now.pair ≡ length c.self.inside.counts = ap (λ (w : User). size_of w.pair) x ∙ (c.self.invariant.pairs c.args.user.0 within).filter in
    c.answer_to_claim.ensures
    ∙ claim-here c.self.inside c.self.invariant c.args.user.0 c.index.result.now.pair c.matched_into.new.out c.as_slice.result.now
    (c.matched_into.ensures.size ∙ c.self.invariant.room.reach) size c.matched_into.ensures.members c.as_slice.ensures.value
    ∙ ap (λ (w : User). claim (job_by (users_of c.self.inside)) (desk_by c.self.inside.users.items) c.args.user.0 w.pair.filter w.pair.notrace) x
    ∙ ap (λ (s : Users). claim (job_by s) (desk_by s.users) c.args.user.0 (user_of s.users c.args.user.0).pair.filter (user_of s.users c.args.user.0).pair.notrace) c.self.view_is
