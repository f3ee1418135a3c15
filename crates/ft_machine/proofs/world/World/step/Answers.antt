use Rattle.std.proofs.Common.{◌≡◌, ◌∙◌, ◌≤◌, length, sym, ap, subst, arith}
use Rattle.ft_base.specs.declared.turn.Actor.TheVariants as actor
use Rattle.word_machine.specs.Machine.{step}
use Rattle.ft_machine.specs.WorldInvariant.{parts_of}
use Rattle.ft_machine.specs.Worlds.{IsFor, Parts, world_of}
use Rattle.ft_machine.proofs.Moved.{no-cpu}
use Rattle.ft_machine.proofs.world.World.step.Goals as goal

pub returns-else-cpu-len : goal.returns-else-cpu-len
returns-else-cpu-len c = λ job past limited k r.
    (let w : Parts = parts_of c.self.inside in
    let none = c.if-cpu-len.false in
    let many = c.len.ensures in
    let above : length w.cpus ≤ c.in-Cpu.cpu.0 = omega (arith, none, many) in
    let own : IsFor job past w = subst (λ p. IsFor job past p) (sym c.self.view_is) k in
    let rests = no-cpu job past w own c.in-Cpu.cpu above in (
      k,
      subst (λ p. world_of job past p ≡ step job (actor.Cpu c.in-Cpu.cpu) (world_of job past p)) c.self.view_is rests
          ∙ ap (λ a. step job a (world_of job past c.args.self.now)) (sym c.in-Cpu.is),
    ))
