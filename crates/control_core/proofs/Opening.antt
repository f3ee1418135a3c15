-- Control before its first line keeps what it should.
use Rattle.std.proofs.Common.{◌≡◌, ℕ, zero, suc, ◌+◌, ◌*◌, ◌<◌, ◌≤◌, List, [], ◌∷◌, length, map, get_or, Some, sym, ap, ◌∙◌, subst, arith, vec_len, vec_capacity}
use Rattle.std.specs.Prelude.{All}
use Rattle.std.specs.List.{range_with_len}
use Rattle.std.proofs.lemmas.List.{get_or-map, length-map, length-replicate}
use Rattle.std.proofs.lemmas.List.FromFn.{length-range_with_len}
use Rattle.std.proofs.lemmas.List.Elements.{All-nil}
use Rattle.ft_base.specs.declared.limits.TheConstants.{COMMANDS, UNTILS}
use Rattle.ft_base.specs.Job.{Spec, funcs}
use Rattle.ft_base.specs.Desk.{UserState, plain_spec, unseen}
use Rattle.site_set.proofs.MarksLemmas.{length-empty}
use Rattle.word_map.specs.declared.shape.Shape.{Shape}
use Rattle.word_map.specs.Shapes.{IsShape}
use Rattle.patch_core.specs.Moves.{Batched}
use Rattle.ft_desk.specs.declared.command.Ctl.{Ctl}
use Rattle.ft_desk.specs.Commands.{ctl_of}
use Rattle.ft_desk.specs.Declarations.{Declared, job_of}
use Rattle.ft_desk.specs.DeskView.{DeskView, opened}
use Rattle.ft_desk.proofs.ClaimLaws.{funcs-is}
use Rattle.control_core.specs.declared.phase.Phase.TheVariants as phase
use Rattle.control_core.specs.declared.control.Control.TheInside.{Inside}
use Rattle.word_machine_laws.specs.Orders.{AreLed, picked}
use Rattle.word_machine_laws.proofs.LedLists.{picked_all as picked-whole}
use Rattle.ft_desk.specs.Lines.{IsLineIn, lines_of}
use Rattle.control_core.specs.Plans.{IsDeclaredIn, IsDeskIn, IsPlanIn}
use Rattle.control_core.specs.ControlInvariant.{HasLeft, ControlInvariant, asked, busy, seated_of}
use Rattle.control_core.proofs.DeskIn.{none-in}
use Rattle.control_core.proofs.Named.{named-picked}
use Rattle.control_core.proofs.Leading.{all-led}

-- nobody has a slot
no-slot : (n : ℕ) (xs : List Spec) (u slot : ℕ) → (get_or (map (λ (s : Spec). unseen n) xs) u (unseen 0)).slot ≡ Some slot → slot < 0
no-slot n [] u slot e = absurd cc
no-slot n (x ∷ xs) zero slot e = absurd cc
no-slot n (x ∷ xs) (suc u) slot e = no-slot n xs u slot e

-- a desk on which nobody is registered
opened-in : (shape : Shape) (d : Declared) → IsDeclaredIn shape d → IsDeskIn shape (opened d)
opened-in shape d is = record {
  declared = is;
  users = length-map d.specs (λ s. unseen (funcs (job_of d))) ∙ is.users;
  copies = length-replicate {A = ℕ} (length d.specs) 0 ∙ is.users;
  filters = λ u h. (let lt : u < length d.specs = (let e = is.users in omega (arith, h, e)) in
      ap (λ (s : UserState). length s.filter) (get_or-map (λ (s : Spec). unseen (funcs (job_of d))) d.specs u plain_spec (unseen 0) lt)
      ∙ length-empty (funcs (job_of d)) ∙ funcs-is d.funcs ∙ is.funcs);
  slots = λ u slot e. (let no = no-slot (funcs (job_of d)) d.specs u slot e in omega (arith, no));
  order = All-nil (λ u. u < shape.users);
}

-- all lines as they stand are the lines
pub opening-lines : (tasks : ℕ) (lines xs : List Ctl) (order : List ℕ) → lines ≡ xs → order ≡ range_with_len 0 (length xs)
    → lines_of tasks (picked lines order) ≡ lines_of tasks xs
opening-lines tasks lines xs order same all =
    ap (lines_of tasks) ((λ i. picked (same i) (all i)) ∙ picked-whole xs (length xs) (omega arith))

-- before the first line
pub opening-kept : (d : Inside) (xs : List Ctl) → IsShape d.map → d.desk ≡ opened d.desk.declared → IsDeclaredIn d.map d.desk.declared
    → d.before.value ≡ d.desk → d.lines.items ≡ xs → vec_len d.lines ≡ length xs → All (IsLineIn d.desk.declared) xs → length xs ≤ COMMANDS + UNTILS
    → d.order.items ≡ range_with_len 0 (length xs) → length xs ≤ vec_capacity d.order
    → d.line ≡ 0 → d.commands_done ≡ 0 → d.request ≡ 0 → d.batch ≡ record { shape = d.map; made = 0 } → d.phase ≡ phase.Line
    → vec_len d.items ≡ 0 → 2 * length xs ≤ vec_capacity d.items → ControlInvariant d
opening-kept d xs shape dk dc bf ls len all few order space line done req batch ph none room =
    let desk : IsDeskIn d.map d.desk = subst (IsDeskIn d.map) (sym dk) (opened-in d.map d.desk.declared dc) in
    let commands : d.desk.commands ≡ 0 = ap (λ (s : DeskView). s.commands) dk in
    let idle : busy d.phase ≡ 0 = ap busy ph in
    let quiet : asked d.phase ≡ 0 = ap asked ph in
    let made : d.batch.made ≡ 0 = ap (λ (b : Batched). b.made) batch in
    let all' : All (IsLineIn d.desk.declared) d.lines.items = subst (All (IsLineIn d.desk.declared)) (sym ls) all in
    let count : length (lines_of d.map.tasks d.lines.items) ≡ length xs = length-map d.lines.items (ctl_of d.map.tasks) ∙ ap length ls in
    let led : length d.order.items ≡ length xs = ap length order ∙ length-range_with_len 0 (length xs) in
    record {
      safe = record {
        shape = shape;
        desk = desk;
        plan = subst (IsPlanIn d.map) (sym (ap (λ (s : DeskView). s.plan) dk)) (none-in d.map);
        copied = ap (λ (s : DeskView). length s.copies) bf ∙ desk.copies;
        numbered = omega arith;
        counted = omega arith;
        within = omega arith;
        led = omega arith;
        few = omega arith;
        named = named-picked d.map d.desk.declared dc d.lines.items d.order.items all';
        moved = omega arith;
        requests = omega arith;
        left = subst (HasLeft (seated_of d)) (sym ph) tt;
      };
      lines = all';
      led = subst (AreLed (length d.lines.items)) (sym order) (subst (λ n. AreLed n (range_with_len 0 (length xs))) (sym (ap length ls)) (all-led (length xs)));
      space = omega arith;
      batch = ap (λ (b : Batched). b.shape) batch;
      room = omega arith;
    }
