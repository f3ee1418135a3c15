-- A line that is put into an empty sink, and then what was put is written.
use Rattle.std.proofs.Common.{◌≡◌, ℕ, false, List, [], ◌++◌, Option, sym, ap, ◌∙◌, subst, append-nil}
use Rattle.std.specs.Io.KnownBytes.{Appends}
use Rattle.ft_io.specs.Pieces.{OnTheWay, nothing, Puts}
use Rattle.ft_io.proofs.PieceLaws.{starts}

pub line-written : {K : Type 0} {holds : K → Option (List ℕ)} {faults : K → ℕ} {line : List ℕ} {k l m : K} {p q r : OnTheWay} → p ≡ nothing
    → Puts holds faults line k p l q → Puts holds faults [] l q m r → r.held ≡ [] → r.failed ≡ false → Appends (holds k) (holds m) line
line-written {holds = holds} {faults = faults} {line = line} {k = k} {m = m} {r = r} none puts sends empty well =
    let sent = (sends.adds line (holds k) (faults k) (puts.adds [] (holds k) (faults k) (rw none (starts k)))).sent well in
    let all : line ≡ sent.0 = sym (append-nil line) ∙ sent.2 ∙ ap (λ (t : List ℕ). sent.0 ++ t) empty ∙ append-nil sent.0 in
    subst (λ (t : List ℕ). Appends (holds k) (holds m) t) (sym all) sent.1
