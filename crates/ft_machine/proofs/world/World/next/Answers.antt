use Rattle.std.proofs.Common.{◌≡◌, ◌≤◌, Some, length, slice_get, option_map, refl, sym, ◌∙◌, subst}
use Rattle.std.proofs.lemmas.Option.{slice_get_read}
use Rattle.word_map.specs.Ops.{placed}
use Rattle.word_map.specs.Shapes.{shape_of}
use Rattle.ft_machine.specs.WorldInvariant.{parts_of}
use Rattle.ft_machine.specs.Nexts.{next_op}
use Rattle.ft_machine.specs.Worlds.{IsFor, Parts, world_of}
use Rattle.ft_machine.proofs.Nexts.{control-next, cpu-next, no-cpu-next}
use Rattle.ft_machine.proofs.world.World.next.Goals as goal

pub returns-in-Control : goal.returns-in-Control
returns-in-Control c = λ job past limited k r.
    (let w : Parts = parts_of c.self.inside in
    let own : IsFor job past w = subst (λ p. IsFor job past p) (sym c.self.view_is) k in
    control-next job past w own c.next.result c.next.ensures
    ∙ (λ i. option_map (placed (shape_of job)) (next_op job (sym c.in-Control.is i) (world_of job past (c.self.view_is i)))))

pub returns-in-Some : goal.returns-in-Some
returns-in-Some c = λ job past limited k r.
    (let w : Parts = parts_of c.self.inside in
    let own : IsFor job past w = subst (λ p. IsFor job past p) (sym c.self.view_is) k in
    let found = c.in-Some.ensures.lookup in
    let at : slice_get w.cpus c.in-Cpu.cpu.0 ≡ Some c.in-Some.own.now =
    subst (λ xs. slice_get xs c.in-Cpu.cpu.0 ≡ Some c.in-Some.own.now) c.deref.ensures.value
    (slice_get_read c.deref.result.now (length c.deref.result.now) c.in-Cpu.cpu.0 c.in-Some.own.now refl found.3.0 found.1) in
    cpu-next job past w own c.in-Cpu.cpu c.in-Some.own.now at c.next-in-Some.result
    (c.next-in-Some.ensures job limited (own.each c.in-Cpu.cpu.0 c.in-Some.own.now at).is_for)
    ∙ (λ i. option_map (placed (shape_of job)) (next_op job (sym c.in-Cpu.is i) (world_of job past (c.self.view_is i)))))

pub returns-in-None : goal.returns-in-None
returns-in-None c = λ job past limited k r.
    (let w : Parts = parts_of c.self.inside in
    let own : IsFor job past w = subst (λ p. IsFor job past p) (sym c.self.view_is) k in
    let above : length w.cpus ≤ c.in-Cpu.cpu.0 = subst (λ xs. length xs ≤ c.in-Cpu.cpu.0) c.deref.ensures.value c.in-None.ensures.lookup.3 in
    no-cpu-next job past w own c.in-Cpu.cpu above
    ∙ (λ i. option_map (placed (shape_of job)) (next_op job (sym c.in-Cpu.is i) (world_of job past (c.self.view_is i)))))
