use Rattle.std.proofs.Common.{◌≡◌, ℕ, List, refl, sym, ap, ap₂, ◌∙◌, arith}
use Rattle.user_specs.specs.declared.spec.Spec.{Spec}
use Rattle.word_map.specs.declared.shape.Shape.{Shape}
use Rattle.ft_desk.specs.Declarations.{declared_by}
use Rattle.ft_desk.specs.Lines.{lines_of}
use Rattle.module_table.specs.Lines.{at_first}
use Rattle.ft_script.specs.declared.reader.Reader.{Reader}
use Rattle.ft_script.specs.ReaderInvariant.{above_of}
use Rattle.ft_script.proofs.ReaderParts.{without, shape_in, opened-as, opened-has, kept-open}
use Rattle.ft_script.proofs.reader.Reader.open.Goals as goal
use Rattle.ft_script.proofs.reader.Reader.open.Goals.{then-self-gt0-via-then-self-gt0, then-self-gt0-via-else-self-gt0+then-is_some}

pub returns-then-self-gt0-clause-open : goal.returns-then-self-gt0-clause-open
returns-then-self-gt0-clause-open c =
    let r = c.args.self.now in
    let s = c.then-self-gt0.self in
    elim c.then-self-gt0.branch [
      | then-self-gt0-via-then-self-gt0 w ↦ kept-open r s c.requires.kept (ap above_of w.self-is) (ap (λ (x : Reader). x.expansion) w.self-is) (λ e. absurd (omega (arith, e, w.if-self-gt0.true)))
      | then-self-gt0-via-else-self-gt0+then-is_some w ↦ kept-open r s c.requires.kept (ap above_of w.self-is) (ap (λ (x : Reader). x.expansion) w.self-is) (λ e. cc (w.is_some.ensures, w.if-is_some.true))
    ]

pub returns-clause-open : goal.returns-clause-open
returns-clause-open c =
    let r = c.args.self.now in
    let x = c.in_ok-expansion.expansion in
    let shape : c.shape-shape.result ≡ shape_in r = c.shape-shape.ensures in
    let known = c.in_ok-expansion.ensures.known
    ∙ ap₂ (λ (us : List Spec) (s : Shape). at_first (declared_by us s) r.functions.functions c.as_slice-2.result.now) c.as_slice.ensures.value shape
    ∙ ap (λ (ms : List ℕ). at_first (declared_by r.users.items (shape_in r)) r.functions.functions ms) c.as_slice-2.ensures.value in
    let ctls = ap (λ (s : Shape). lines_of s.tasks x.ctls.items) (sym shape) ∙ c.in_ok-expansion.ensures.ctls in
    opened-has r _ c.requires.kept refl (omega (arith, c.if-self-gt0.false)) (without r.expansion (cc (c.is_some.ensures, c.if-is_some.false))) x refl
    (opened-as r x known ctls c.in_ok-expansion.ensures.rows c.in_ok-expansion.ensures.ends)
