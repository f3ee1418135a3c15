use Rattle.std.proofs.Common.{rules, tests, true, false, ◌<◌, length, refl, sym, ap, ◌∙◌, subst}
use Rattle.std.specs.Bool.{MatchBool}
use Rattle.std.specs.List.{AllWithin, HoldsAt}
use Rattle.std.proofs.lemmas.Iterator.{cases_from_all, YieldsList-from_slice}
use Rattle.word_machine.specs.Laws.{Runs}
use Rattle.word_machine.specs.Machine.{all_end}
use Rattle.ft_machine.specs.WorldInvariant.{parts_of}
use Rattle.ft_machine.specs.Worlds.{IsFor, Parts, world_of}
use Rattle.ft_machine.proofs.Ends.{Ended, all-answer, all-at-end, control-told}
use Rattle.ft_machine.proofs.world.World.all_end.Goals as goal

pub returns-then-is_none : goal.returns-then-is_none
returns-then-is_none c = λ job past limited k r.
    (let w : Parts = parts_of c.self.inside in
    let own : IsFor job past w = subst (λ p. IsFor job past p) (sym c.self.view_is) k in
    let told : MatchBool c.all.result (AllWithin (Ended job true) w.cpus 0 (length w.cpus)) _ =
    subst (λ xs. MatchBool c.all.result (AllWithin (Ended job true) xs 0 (length xs)) ((i : _) × (i < length xs) × HoldsAt (Ended job false) xs i)) c.deref.ensures.value
    (cases_from_all _ _ _ (Ended job true) (Ended job false) c.all.ensures.ran (YieldsList-from_slice c.deref.result.now cc)
    (λ x q e. search (rules, tests)) (λ x q e. search (rules, tests))) in
    let control = control-told job past w own c.next.result c.is_none.result c.next.ensures c.is_none.ensures in
    all-at-end job past w true c.all.result (sym c.if-is_none.true ∙ control)
    (all-answer job past limited w own (subst (λ p. Runs job (world_of job past p)) (sym c.self.view_is) r) c.all.result told)
    ∙ ap (λ p. all_end job (world_of job past p)) c.self.view_is)

pub returns-else-is_none : goal.returns-else-is_none
returns-else-is_none c = λ job past limited k r.
    (let w : Parts = parts_of c.self.inside in
    let own : IsFor job past w = subst (λ p. IsFor job past p) (sym c.self.view_is) k in
    let control = control-told job past w own c.next.result c.is_none.result c.next.ensures c.is_none.ensures in
    c.if-is_none.false
    ∙ all-at-end job past w false _ (sym c.if-is_none.false ∙ control) refl
    ∙ ap (λ p. all_end job (world_of job past p)) c.self.view_is)
