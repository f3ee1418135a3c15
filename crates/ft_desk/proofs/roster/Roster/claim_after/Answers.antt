use Rattle.std.proofs.Common.{◌≡◌, ◌<◌, sym, ap, ◌∙◌, subst, arith, length, cond, false}
use Rattle.std.proofs.lemmas.List.{get_or_read}
use Rattle.ft_base.specs.declared.item.Answer.TheVariants.{Invalid}
use Rattle.ft_base.specs.Marks.{is_empty}
use Rattle.ft_base.specs.Desk.{claim}
use Rattle.site_set.specs.Edits.{plain_edit}
use Rattle.filter_hash.specs.Pair.{Pair, size_of}
use Rattle.ft_desk.specs.declared.user.User.{User}
use Rattle.ft_desk.specs.Users.{desk_by, edited_pair, no_user, user_of}
use Rattle.ft_desk.specs.Rosters.{Users, claim_of, job_by}
use Rattle.ft_desk.specs.RosterInvariant.{users_of, IsSized}
use Rattle.ft_desk.proofs.ClaimLaws.{claim-here}
use Rattle.ft_desk.proofs.EditLaws.{sized-edited}
use Rattle.ft_desk.proofs.roster.Roster.claim_after.Goals as goal

pub invariant_of-self : goal.invariant_of-self
invariant_of-self c =
    let k = c.self.invariant in
    let e : length c.self.inside.users.items ≡ length c.args.self.now.users = ap (λ (s : Users). length s.users) c.self.view_is in
    let within : c.args.user.0 < length c.self.inside.users.items = (let h = c.requires.user in omega (arith, e, h)) in
    let x : c.index.result.now ≡ user_of c.self.inside.users.items c.args.user.0 = get_or_read c.self.inside.users.items c.args.user.0 c.index.result.now within c.index.ensures no_user in
    let pair : c.copy_from.new.self ≡ (user_of c.self.inside.users.items c.args.user.0).pair = c.copy_from.ensures ∙ ap (λ (w : User). w.pair) x in
    let trial : IsSized (length c.self.inside.counts) c.edit.new.self = subst (λ (p : Pair). IsSized (length c.self.inside.counts) p)
    (sym (c.edit.ensures.pair ∙ ap (edited_pair c.args.half (plain_edit c.args.edit.now)) pair))
    (sized-edited (length c.self.inside.counts) c.args.half (plain_edit c.args.edit.now) (user_of c.self.inside.users.items c.args.user.0).pair (k.pairs c.args.user.0 within)) in
    record {
      few = k.few;
      pairs = k.pairs;
      rows = k.rows;
      totals = k.totals;
      numbered = k.numbered;
      holders = k.holders;
      held = k.held;
      room = record { trial = trial; came = k.room.came; left = k.room.left; reach = k.room.reach };
    }

pub invariant_of-self-2 : goal.invariant_of-self-2
invariant_of-self-2 c =
    let k = c.self.invariant in
    let e : length c.self.inside.users.items ≡ length c.args.self.now.users = ap (λ (s : Users). length s.users) c.self.view_is in
    let within : c.args.user.0 < length c.self.inside.users.items = (let h = c.requires.user in omega (arith, e, h)) in
    let x : c.index.result.now ≡ user_of c.self.inside.users.items c.args.user.0 = get_or_read c.self.inside.users.items c.args.user.0 c.index.result.now within c.index.ensures no_user in
    let pair : c.copy_from.new.self ≡ (user_of c.self.inside.users.items c.args.user.0).pair = c.copy_from.ensures ∙ ap (λ (w : User). w.pair) x in
    let trial : IsSized (length c.self.inside.counts) c.edit.new.self = subst (λ (p : Pair). IsSized (length c.self.inside.counts) p)
    (sym (c.edit.ensures.pair ∙ ap (edited_pair c.args.half (plain_edit c.args.edit.now)) pair))
    (sized-edited (length c.self.inside.counts) c.args.half (plain_edit c.args.edit.now) (user_of c.self.inside.users.items c.args.user.0).pair (k.pairs c.args.user.0 within)) in
    record {
      few = k.few;
      pairs = k.pairs;
      rows = k.rows;
      totals = k.totals;
      numbered = k.numbered;
      holders = k.holders;
      held = k.held;
      room = record { trial = trial; came = k.room.came; left = k.room.left; reach = c.matched_into.ensures.size ∙ k.room.reach };
    }

pub returns-clause-answer : goal.returns-clause-answer
returns-clause-answer c =
    let k = c.self.invariant in
    let e : length c.self.inside.users.items ≡ length c.args.self.now.users = ap (λ (s : Users). length s.users) c.self.view_is in
    let within : c.args.user.0 < length c.self.inside.users.items = (let h = c.requires.user in omega (arith, e, h)) in
    let x : c.index.result.now ≡ user_of c.self.inside.users.items c.args.user.0 = get_or_read c.self.inside.users.items c.args.user.0 c.index.result.now within c.index.ensures no_user in
    let pair : c.copy_from.new.self ≡ (user_of c.self.inside.users.items c.args.user.0).pair = c.copy_from.ensures ∙ ap (λ (w : User). w.pair) x in
    let edited : c.edit.new.self ≡ edited_pair c.args.half (plain_edit c.args.edit.now) (user_of c.self.inside.users.items c.args.user.0).pair =
    c.edit.ensures.pair ∙ ap (edited_pair c.args.half (plain_edit c.args.edit.now)) pair in
    let size : size_of c.edit.new.self ≡ length c.self.inside.counts = c.edit.ensures.size ∙ ap size_of pair ∙ (k.pairs c.args.user.0 within).filter in
    let shut : is_empty c.edit.new.self.filter ≡ false = sym c.is_open.ensures ∙ c.if-is_open.false in
    c.answer_to_claim.ensures
    ∙ claim-here c.self.inside k c.args.user.0 c.edit.new.self c.matched_into.new.out c.as_slice.result.now
    (c.matched_into.ensures.size ∙ k.room.reach) size c.matched_into.ensures.members c.as_slice.ensures.value
    ∙ sym (ap (λ b. cond b Invalid (claim (job_by (users_of c.self.inside)) (desk_by c.self.inside.users.items) c.args.user.0 c.edit.new.self.filter c.edit.new.self.notrace)) shut)
    ∙ ap (λ (p : Pair). claim_of (job_by (users_of c.self.inside)) (desk_by c.self.inside.users.items) c.args.user.0 p) edited
    ∙ ap (λ (s : Users). claim_of (job_by s) (desk_by s.users) c.args.user.0 (edited_pair c.args.half (plain_edit c.args.edit.now) (user_of s.users c.args.user.0).pair)) c.self.view_is
