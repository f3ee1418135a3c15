use Rattle.std.proofs.Common.{◌≡◌, ◌<◌, ◌+◌, ◌^◌, ◌++◌, ◌∷◌, [], List, length, refl, ap, sym, subst, ◌∙◌, arith}
use Rattle.std.specs.List.{AllByRecursion as Each}
use Rattle.ft_base.specs.Marks.{Marks}
use Rattle.ft_desk.specs.declared.command.Command.{Command}
use Rattle.ft_desk.specs.declared.command.Command.TheVariants.{MaxDepth}
use Rattle.ft_desk.specs.Commands.{IsInShape}
use Rattle.module_table.specs.Lines.{Between, hidden}
use Rattle.module_table.specs.Made.{Appends, mask_commands}
use Rattle.module_table.specs.ModulesInvariant.{between}
use Rattle.module_table.specs.Reached.{IsReached, IsSafe, moved, moving}
use Rattle.module_table.proofs.MadeLaws.{appends-masks, moving-declared, length-moving}
use Rattle.module_table.proofs.MovedLaws.{reached-moved, moved-depth}
use Rattle.module_table.proofs.BetweenLaws.{made, after-move, kept-by}
use Rattle.module_table.proofs.modules.Modules.move_to.Goals as goal

pub run_all-requires-clause-numbers : goal.run_all-requires-clause-numbers
run_all-requires-clause-numbers c =
    let m = c.self.inside in
    subst (Each (IsInShape m.desk.declared)) (sym (c.in_ok-commands.ensures ∙ ap (λ (os : List Marks). mask_commands 0 os c.args.functions.now ++ MaxDepth m.depth ∷ []) c.as_slice.ensures.value))
    (moving-declared m.desk.declared m.own.items c.args.functions.now m.depth c.self.invariant.reached.own c.self.invariant.reached.sets)

pub run_all-requires-clause-room : goal.run_all-requires-clause-room
run_all-requires-clause-room c =
    let m = c.self.inside in
    let room : m.desk.commands + length m.desk.declared.specs + 1 < 2 ^ 32 = subst (λ (x : Between). x.commands + length x.declared.specs + 1 < 2 ^ 32) (sym c.self.view_is) c.requires.room in
    let size = ap (λ (cs : List Command). length cs) (c.in_ok-commands.ensures ∙ ap (λ (os : List Marks). mask_commands 0 os c.args.functions.now ++ MaxDepth m.depth ∷ []) c.as_slice.ensures.value) ∙ length-moving m.own.items c.args.functions.now m.depth in
    let count = c.self.invariant.reached.own in
    omega (arith, room, size, count)

pub invariant_of-self-2 : goal.invariant_of-self-2
invariant_of-self-2 c =
    let m = c.self.inside in
    let b = between m in
    let loaded = c.args.loaded.items in
    let safe : IsSafe b loaded = subst (λ (x : Between). IsSafe x loaded) (sym c.self.view_is) c.requires.safe in
    let are : c.in_ok-commands.commands.items ≡ mask_commands 0 m.own.items (hidden m.owners.items loaded) ++ MaxDepth m.depth ∷ [] =
    c.in_ok-commands.ensures ∙ ap (λ (os : List Marks). mask_commands 0 os c.args.functions.now ++ MaxDepth m.depth ∷ []) c.as_slice.ensures.value ∙ ap (λ (h : Marks). mask_commands 0 m.own.items h ++ MaxDepth m.depth ∷ []) (c.requires.functions ∙ ap (λ (x : Between). hidden x.owners loaded) (sym c.self.view_is)) in
    let moves : made c.run_all.new.desk.declared m.owners.items m.first loaded m.own.items c.run_all.new.desk.state c.run_all.new.desk.commands ≡ moved b loaded =
    after-move b loaded c.in_ok-commands.commands.items m.depth c.self.invariant.depth are c.run_all.new.desk.declared c.run_all.new.desk.state c.run_all.new.desk.commands
    c.in_ok-run_all.ensures.declared c.in_ok-run_all.ensures.state c.in_ok-run_all.ensures.count in
    kept-by m _ c.self.invariant (subst IsReached (sym moves) (reached-moved b c.self.invariant.reached loaded safe)) refl c.in_ok-run_all.ensures.declared
    (c.requires.modules ∙ ap (λ (x : Between). length x.loaded) (sym c.self.view_is))
    (c.self.invariant.depth ∙ sym (moved-depth b c.self.invariant.reached loaded safe) ∙ sym (ap (λ (x : Between). x.desk.depth) moves))

pub returns-clause-added : goal.returns-clause-added
returns-clause-added c =
    let m = c.self.inside in
    let loaded = c.args.loaded.items in
    let are : c.in_ok-commands.commands.items ≡ mask_commands 0 m.own.items (hidden m.owners.items loaded) ++ MaxDepth m.depth ∷ [] =
    c.in_ok-commands.ensures ∙ ap (λ (os : List Marks). mask_commands 0 os c.args.functions.now ++ MaxDepth m.depth ∷ []) c.as_slice.ensures.value ∙ ap (λ (h : Marks). mask_commands 0 m.own.items h ++ MaxDepth m.depth ∷ []) (c.requires.functions ∙ ap (λ (x : Between). hidden x.owners loaded) (sym c.self.view_is)) in
    subst (λ (x : Between). Appends x.declared c.args.out.now.items c.run_all.new.out.items (moving x loaded)) c.self.view_is
    (appends-masks m.desk.declared c.args.out.now.items c.run_all.new.out.items m.own.items (hidden m.owners.items loaded) m.depth m.desk.state.depth c.self.invariant.reached.own c.self.invariant.reached.sets
    c.self.invariant.depth (c.in_ok-run_all.ensures.added ∙ ap (λ (xs : List Command). c.args.out.now.items ++ xs) are))

pub returns-clause-after : goal.returns-clause-after
returns-clause-after c =
    let m = c.self.inside in
    let b = between m in
    let loaded = c.args.loaded.items in
    let are : c.in_ok-commands.commands.items ≡ mask_commands 0 m.own.items (hidden m.owners.items loaded) ++ MaxDepth m.depth ∷ [] =
    c.in_ok-commands.ensures ∙ ap (λ (os : List Marks). mask_commands 0 os c.args.functions.now ++ MaxDepth m.depth ∷ []) c.as_slice.ensures.value ∙ ap (λ (h : Marks). mask_commands 0 m.own.items h ++ MaxDepth m.depth ∷ []) (c.requires.functions ∙ ap (λ (x : Between). hidden x.owners loaded) (sym c.self.view_is)) in
    after-move b loaded c.in_ok-commands.commands.items m.depth c.self.invariant.depth are c.run_all.new.desk.declared c.run_all.new.desk.state c.run_all.new.desk.commands
    c.in_ok-run_all.ensures.declared c.in_ok-run_all.ensures.state c.in_ok-run_all.ensures.count
    ∙ ap (λ (x : Between). moved x loaded) c.self.view_is
