use Rattle.std.proofs.Common.{◌≡◌, ℕ, ◌<◌, ◌-◌, ◌^◌, length, map, bit_and, ap, sym, ◌∙◌, arith, ext_get_or}
use Rattle.std.specs.List.{zip}
use Rattle.std.proofs.lemmas.List.{length-map, get_or-map}
use Rattle.std.proofs.lemmas.Slice.Zip.{length-zip, get_or-zip}
use Rattle.site_set.proofs.words.and_not_words.Goals as goal

pub returns-clause-merged : goal.returns-clause-merged
returns-clause-merged c =
    let ws = c.args.words.now in
    let vs = c.args.others.now in
    let n : length (zip ws vs) ≡ length ws = length-zip ws vs ∙ omega arith in
    ext_get_or 0 c.loop-w.words (map (λ (p : ℕ × ℕ). bit_and p.0 (2 ^ 64 - 1 - p.1)) (zip ws vs)) (c.loop-w.auto.words ∙ sym (length-map (zip ws vs) (λ (p : ℕ × ℕ). bit_and p.0 (2 ^ 64 - 1 - p.1)) ∙ n))
    (λ k h. let l : k < length ws = omega (arith, c.loop-w.auto.words) in
    c.loop-w.invariant.done k (omega arith) ∙ sym (get_or-map (λ (p : ℕ × ℕ). bit_and p.0 (2 ^ 64 - 1 - p.1)) (zip ws vs) k (0, 0) 0 (omega arith) ∙ ap (λ (p : ℕ × ℕ). bit_and p.0 (2 ^ 64 - 1 - p.1)) (get_or-zip ws vs k (0, 0) l (omega arith))))
