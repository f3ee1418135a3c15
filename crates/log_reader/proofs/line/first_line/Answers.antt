use Rattle.std.proofs.Common.{◌≡◌, ℕ, List, length, take, Option, Some, None, sym, ap, ◌∙◌, subst, arith}
use Rattle.std.specs.Str.{IsUtf8}
use Rattle.std.proofs.lemmas.Grind.{common_steps}
use Rattle.log_reader.proofs.line.first_line.Goals as goal

pub returns-in_err-end : goal.returns-in_err-end
returns-in_err-end c = λ line is.
    let no_end : ◌≡◌ {A = Option ℕ} None (Some (length line)) = c.in_err-end.ensures ∙ is.place in
    absurd cc

pub returns : goal.returns
returns c = λ line is.
    let place : ◌≡◌ {A = Option ℕ} (Some c.in_ok-end.end) (Some (length line)) = c.in_ok-end.ensures ∙ is.place in
    let end : c.in_ok-end.end ≡ length line = cc in
    let bytes : take c.in_ok-end.end c.args.text.now ≡ line = ap (λ (n : ℕ). take n c.args.text.now) end ∙ is.bytes in
    let utf8 : IsUtf8 (take c.in_ok-end.end c.args.text.now) = subst (λ (t : List ℕ). IsUtf8 t) (sym bytes) is.utf8 in
    grind (arith, common_steps)
