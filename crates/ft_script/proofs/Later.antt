-- Commands that are planned late come to the same.
use Rattle.std.proofs.Common.{◌≡◌, ℕ, ◌+◌, ◌<◌, ◌^◌, List, [], ◌∷◌, ◌++◌, length, refl, sym, ap, ◌∙◌, subst, arith}
use Rattle.std.specs.List.{AllByRecursion as Each}
use Rattle.std.proofs.lemmas.List.{map_push, length_push}
use Rattle.ft_base.proofs.Small.{Each-snoc}
use Rattle.ft_desk.specs.Declarations.{Declared}
use Rattle.ft_desk.specs.declared.command.Command.{Command}
use Rattle.ft_desk.specs.Commands.{command_of, IsInShape}
use Rattle.module_table.specs.Lines.{Between, Line, Plain, after_line, after_lines}
use Rattle.ft_script.specs.declared.late.LateModules.TheInside.{Inside}
use Rattle.ft_script.specs.Late.{lines_with, known, HasRoom, LateInvariant}

-- one line more
after-push : (b : Between) (lines : List Line) (line : Line) → after_lines b (lines ++ line ∷ []) ≡ after_line (after_lines b lines) line
after-push b [] line = refl
after-push b (l ∷ lines) line = after-push (after_line b l) lines line

-- what is declared stays
pub declared-after : (b : Between) (lines : List Line) → (after_lines b lines).declared ≡ b.declared
declared-after b [] = refl
declared-after b (line ∷ lines) = declared-after (after_line b line) lines

-- each line that is a command is one command
pub commands-after : (b : Between) (tasks : ℕ) (cs : List Command) → (after_lines b (lines_with tasks cs)).commands ≡ b.commands + length cs
commands-after b tasks [] = omega arith
commands-after b tasks (c ∷ cs) = let e = commands-after (after_line b (Plain (command_of tasks c))) tasks cs in omega (arith, e)

-- ## one command more is kept

module _ (m : Inside) (kept : LateInvariant m) (c : Command) (more : List Command) (is : more ≡ m.later.items ++ c ∷ []) where
  pub known-more : after_lines m.modules (lines_with m.modules.declared.tasks more) ≡ after_line (known m) (Plain (command_of (known m).declared.tasks c))
  known-more =
      let d : Declared = m.modules.declared in
      ap (λ (cs : List Command). after_lines m.modules (lines_with d.tasks cs)) is
      ∙ ap (after_lines m.modules) (map_push (λ (c : Command). Plain (command_of d.tasks c)) m.later.items c)
      ∙ after-push m.modules (lines_with d.tasks m.later.items) (Plain (command_of d.tasks c))
      ∙ ap (λ (x : Declared). after_line (known m) (Plain (command_of x.tasks c))) (sym (declared-after m.modules (lines_with d.tasks m.later.items)))

  pub numbers-more : IsInShape (known m).declared c → Each (IsInShape m.modules.declared) more
  numbers-more shape = subst (Each (IsInShape m.modules.declared)) (sym is)
      (Each-snoc (IsInShape m.modules.declared) m.later.items c kept.numbers
      (subst (λ (d : Declared). IsInShape d c) (declared-after m.modules (lines_with m.modules.declared.tasks m.later.items)) shape))

  pub room-more : (known m).commands + length (known m).declared.specs + 1 < 2 ^ 32 → HasRoom m.modules (length more)
  room-more room i l =
      let d = declared-after m.modules (lines_with m.modules.declared.tasks m.later.items) in
      let specs = ap (λ (x : Declared). length x.specs) d in
      let count = commands-after m.modules m.modules.declared.tasks m.later.items in
      let size = ap length is in
      let one = length_push m.later.items c in
      omega (arith, l, room, specs, count, size, one)
