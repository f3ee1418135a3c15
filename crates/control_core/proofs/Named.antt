-- The users of lines in the shape.
use Rattle.std.proofs.Common.{ℕ, List, length, get_or, subst}
use Rattle.std.specs.Prelude.{All}
use Rattle.std.proofs.lemmas.List.Elements.{All-map}
use Rattle.word_map.specs.declared.shape.Shape.{Shape}
use Rattle.ft_desk.specs.declared.command.Ctl.{Ctl}
use Rattle.ft_desk.specs.declared.command.Ctl.TheVariants.{Run, Until}
use Rattle.ft_desk.specs.Commands.{ctl_of}
use Rattle.ft_desk.specs.Declarations.{Declared}
use Rattle.word_machine_laws.specs.Orders.{picked}
use Rattle.ft_desk.specs.Lines.{IsLineIn, lines_of}
use Rattle.control_core.specs.Lines.{IsNamedLine}
use Rattle.control_core.specs.Plans.{IsDeclaredIn}
use Rattle.control_core.proofs.Picked.{picked-all}

named-line : (d : Declared) (l : Ctl) → IsLineIn d l → IsNamedLine (length d.specs) (ctl_of d.tasks l)
named-line d (Run x) h = h.0
named-line d (Until t n) h = tt

named-lines : (d : Declared) (xs : List Ctl) → All (IsLineIn d) xs → All (IsNamedLine (length d.specs)) (lines_of d.tasks xs)
named-lines d xs all =
    All-map (IsNamedLine (length d.specs)) (ctl_of d.tasks) xs (λ k y lt. named-line d (get_or xs k y) (all k y lt))

-- those of the lines that are led
pub named-picked : (shape : Shape) (d : Declared) → IsDeclaredIn shape d → (xs : List Ctl) (order : List ℕ) → All (IsLineIn d) xs
    → All (IsNamedLine shape.users) (lines_of shape.tasks (picked xs order))
named-picked shape d is xs order all =
    subst (λ n. All (IsNamedLine n) (lines_of shape.tasks (picked xs order))) is.users
    (subst (λ n. All (IsNamedLine (length d.specs)) (lines_of n (picked xs order))) is.tasks
    (named-lines d (picked xs order) (picked-all (IsLineIn d) xs order all)))
