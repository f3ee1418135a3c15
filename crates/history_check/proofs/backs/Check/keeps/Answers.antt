-- What each kind of item tells of calls and visits.
use Rattle.std.proofs.Common.{ap, refl}
use Rattle.ft_base.specs.declared.item.Item.TheVariants.{Return, Body}
use Rattle.history_check.specs.declared.backs.Check.{Check}
use Rattle.history_check.proofs.BacksLaws.{after-back, after-enter, after-other, after-refuse, is-passed, passed-keeps, passed-other, visit-kept}
use Rattle.history_check.proofs.backs.Check.keeps.Goals as goal

pub returns-in-Return-clause-kept : goal.returns-in-Return-clause-kept
returns-in-Return-clause-kept c = λ job past k t.
    let a = c.in-Return in
    rw a.is (after-other job past c.args.self.now c.args.self.now k (Return a.k a.answer) tt)

pub returns-in_ok-enter-in-Enter-clause-kept : goal.returns-in_ok-enter-in-Enter-clause-kept
returns-in_ok-enter-in-Enter-clause-kept c = λ job past k t.
    let a = c.in-Enter in
    rw a.is (after-enter job past c.args.self.now c.enter.new.self k a.call a.ctx a.func a.caller c.in_ok-enter-in-Enter.ensures.entered (ap (λ (x : Check). x.visited) c.enter.ensures.rest))

pub returns-in-Back-clause-kept : goal.returns-in-Back-clause-kept
returns-in-Back-clause-kept c = λ job past k.
    let a = c.in-Back in
    let old = c.args.self.now in
    let new = c.visit.new.self in
    rw a.is (visit-kept job past old new k a.call a.user.0 c.visit.result (after-back job past old new k a.call a.user) (c.visit.ensures.may job past k) (c.visit.ensures.kept job past k))

pub returns-in-Refuse-clause-kept : goal.returns-in-Refuse-clause-kept
returns-in-Refuse-clause-kept c = λ job past k.
    let a = c.in-Refuse in
    let old = c.args.self.now in
    let new = c.visit-in-Refuse.new.self in
    rw a.is (visit-kept job past old new k a.call a.user.0 c.visit-in-Refuse.result (after-refuse job past old new k a.call a.user a.reason) (c.visit-in-Refuse.ensures.may job past k) (c.visit-in-Refuse.ensures.kept job past k))

pub returns-in-Body-clause-kept : goal.returns-in-Body-clause-kept
returns-in-Body-clause-kept c = λ job past k t.
    let a = c.in-Body in
    rw a.is (after-other job past c.args.self.now c.args.self.now k (Body a.call a.func a.ran) tt)

pub returns-in_default : goal.returns-in_default
returns-in_default c =
    let item = c.args.item.now in
    let self = c.args.self.now in
    let passed = is-passed item c.in_default.not-Return c.in_default.not-Enter c.in_default.not-Back c.in_default.not-Refuse c.in_default.not-Body in
    record {
      told = λ job past k. passed-keeps job past item passed;
      kept = λ job past k t. after-other job past self self k item (passed-other item passed);
      rest = refl;
    }
