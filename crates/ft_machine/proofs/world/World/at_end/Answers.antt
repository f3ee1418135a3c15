use Rattle.std.proofs.Common.{◌≡◌, Some, None, length, slice_get, refl, sym, ◌∙◌, subst}
use Rattle.std.proofs.lemmas.Option.{slice_get_past, slice_get_read}
use Rattle.word_machine.specs.Laws.{Runs}
use Rattle.word_machine.specs.Machine.{is_at_end}
use Rattle.ft_machine.specs.WorldInvariant.{parts_of}
use Rattle.ft_machine.specs.Worlds.{IsFor, Parts, world_of}
use Rattle.ft_machine.proofs.Ends.{control-at-end, control-told, cpu-at-end, no-cpu-at-end}
use Rattle.ft_machine.proofs.world.World.at_end.Goals as goal

pub returns-in-Control : goal.returns-in-Control
returns-in-Control c = λ job past limited k r.
    (let w : Parts = parts_of c.self.inside in
    let own : IsFor job past w = subst (λ p. IsFor job past p) (sym c.self.view_is) k in
    control-at-end job past w c.is_none.result (control-told job past w own c.next.result c.is_none.result c.next.ensures c.is_none.ensures)
    ∙ (λ i. is_at_end job (sym c.in-Control.is i) (world_of job past (c.self.view_is i))))

pub returns-in-Some : goal.returns-in-Some
returns-in-Some c = λ job past limited k r.
    (let w : Parts = parts_of c.self.inside in
    let own : IsFor job past w = subst (λ p. IsFor job past p) (sym c.self.view_is) k in
    let found = c.in-Some.ensures.lookup in
    let at : slice_get w.cpus c.in-Cpu.cpu.0 ≡ Some c.in-Some.own.now =
    subst (λ xs. slice_get xs c.in-Cpu.cpu.0 ≡ Some c.in-Some.own.now) c.deref.ensures.value
    (slice_get_read c.deref.result.now (length c.deref.result.now) c.in-Cpu.cpu.0 c.in-Some.own.now refl found.3.0 found.1) in
    c.has_ended.ensures job limited (own.each c.in-Cpu.cpu.0 c.in-Some.own.now at).is_for
    ∙ cpu-at-end job past limited w own (subst (λ p. Runs job (world_of job past p)) (sym c.self.view_is) r) c.in-Cpu.cpu c.in-Some.own.now at
    ∙ (λ i. is_at_end job (sym c.in-Cpu.is i) (world_of job past (c.self.view_is i))))

pub returns-in-None : goal.returns-in-None
returns-in-None c = λ job past limited k r.
    (let w : Parts = parts_of c.self.inside in
    let none : slice_get w.cpus c.in-Cpu.cpu.0 ≡ None =
    subst (λ xs. slice_get xs c.in-Cpu.cpu.0 ≡ None) c.deref.ensures.value
    (slice_get_past c.deref.result.now c.in-Cpu.cpu.0 c.in-None.ensures.lookup.3) in
    no-cpu-at-end job past w c.in-Cpu.cpu none
    ∙ (λ i. is_at_end job (sym c.in-Cpu.is i) (world_of job past (c.self.view_is i))))
