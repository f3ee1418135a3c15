use Rattle.std.proofs.Common.{◌+◌, ◌==◌, ◌∙◌, drop, get_or, ap, sym, subst, arith}
use Rattle.std.proofs.lemmas.List.{drop_more, drop_all}
use Rattle.glob_filter.proofs.PlaceLemmas.{IsDecidedBy, IsDecidedBy-start, IsDecidedBy-step, decided-none, decided-end}
use Rattle.glob_filter.proofs.WordLemmas.{has_place-none, lowest_bit}
use Rattle.glob_filter.proofs.places.search.Goals as goal

pub loop-byte-init : goal.loop-byte-init
loop-byte-init c =
    IsDecidedBy-start c.args.takes.now c.args.stars.now c.args.start c.args.name.now c.args.state.now c.set_place.new.words c.requires.none c.set_place.ensures.places

pub loop-byte-preserved : goal.loop-byte-preserved
loop-byte-preserved c =
    let i = c.loop-byte.byte-index in
    let name = c.args.name.now in
    IsDecidedBy-step c.args.takes.now c.args.stars.now c.loop-byte.state c.step.new.state (get_or name i 0) (drop (i + 1) name) c.step.ensures.places c.args.start name
    (subst (IsDecidedBy c.args.takes.now c.args.stars.now c.args.start name c.loop-byte.state) (drop_more name i 0 (omega arith)) c.loop-byte.invariant)

pub returns-then-has_none : goal.returns-then-has_none
returns-then-has_none c =
    let i = c.loop-byte.byte-index in
    let name = c.args.name.now in
    decided-none c.args.takes.now c.args.stars.now c.args.start name c.step.new.state (drop (i + 1) name)
    (has_place-none c.step.new.state (sym c.has_none.ensures ∙ c.if-has_none.true))
    (IsDecidedBy-step c.args.takes.now c.args.stars.now c.loop-byte.state c.step.new.state (get_or name i 0) (drop (i + 1) name) c.step.ensures.places c.args.start name
    (subst (IsDecidedBy c.args.takes.now c.args.stars.now c.args.start name c.loop-byte.state) (drop_more name i 0 (omega arith)) c.loop-byte.invariant))

pub returns : goal.returns
returns c =
    let name = c.args.name.now in
    ap (λ n. n == 1) (lowest_bit (get_or c.loop-byte.state 0 0))
    ∙ decided-end c.args.takes.now c.args.stars.now c.args.start name c.loop-byte.state
    (subst (IsDecidedBy c.args.takes.now c.args.stars.now c.args.start name c.loop-byte.state) (drop_all c.loop-byte.byte-index name (omega arith)) c.loop-byte.invariant)
