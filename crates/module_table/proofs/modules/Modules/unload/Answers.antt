use Rattle.std.proofs.Common.{◌≡◌, false, set, ap, sym, subst, ◌∙◌}
use Rattle.module_table.specs.Lines.{Between}
use Rattle.module_table.specs.Reached.{IsReached, IsSafe}
use Rattle.module_table.proofs.MovedLaws.{safe-unload}
use Rattle.module_table.proofs.modules.Modules.unload.Goals as goal

pub move_to-requires-clause-safe : goal.move_to-requires-clause-safe
move_to-requires-clause-safe c =
    let s = c.args.self.now in
    let is : IsReached s = subst IsReached c.self.view_is c.self.invariant.reached in
    let loaded : c.in_ok-loaded.loaded.items ≡ set s.loaded c.args.number false = c.in_ok-loaded.ensures ∙ ap (λ (x : Between). set x.loaded c.args.number false) c.self.view_is in
    subst (IsSafe s) (sym loaded) (safe-unload s is c.args.number c.requires.number)
