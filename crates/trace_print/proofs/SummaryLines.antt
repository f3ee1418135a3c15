-- The lines of the summary, one after the other.
use Rattle.std.proofs.Common.{◌≡◌, ℕ, Bool, List, [], ◌++◌, length, codes, append_assoc}
use Rattle.ft_base.specs.declared.item.Item.{Item}
use Rattle.trace_views.specs.declared.counts.Counts.{Counts}
use Rattle.trace_views.specs.Words.{last_line}
use Rattle.trace_views.specs.Counted.{IsCounted}
use Rattle.trace_print.specs.SummaryText.{number_line, summary_text}

in-order : (a1 a2 a3 a4 a5 a6 a7 z t0 t1 t2 t3 t4 t5 t6 t7 all : List ℕ) → t0 ≡ [] → t1 ≡ t0 ++ a1 → t2 ≡ t1 ++ a2 → t3 ≡ t2 ++ a3 → t4 ≡ t3 ++ a4 → t5 ≡ t4 ++ a5
    → t6 ≡ t5 ++ a6 → t7 ≡ t6 ++ a7 → all ≡ t7 ++ z → all ≡ a1 ++ (a2 ++ (a3 ++ (a4 ++ (a5 ++ (a6 ++ (a7 ++ z))))))
in-order a1 a2 a3 a4 a5 a6 a7 z t0 t1 t2 t3 t4 t5 t6 t7 all e0 e1 e2 e3 e4 e5 e6 e7 e = rw (e, e7, e6, e5, e4, e3, e2, e1, e0) (simp append_assoc)

-- the lines, written one after the other
pub summary-is : (n : ℕ) (items : List Item) (ended : Bool) (c : Counts) → IsCounted items c → (t0 t1 t2 t3 t4 t5 t6 t7 all : List ℕ) → t0 ≡ []
    → t1 ≡ t0 ++ number_line (codes "seed") n
    → t2 ≡ t1 ++ number_line (codes "items") (length items)
    → t3 ≡ t2 ++ number_line (codes "calls") c.calls
    → t4 ≡ t3 ++ number_line (codes "backs") c.backs
    → t5 ≡ t4 ++ number_line (codes "refused") c.refused
    → t6 ≡ t5 ++ number_line (codes "exits") c.exits
    → t7 ≡ t6 ++ number_line (codes "missed") c.missed
    → all ≡ t7 ++ last_line ended → all ≡ summary_text n items ended
unfolding summary_text
summary-is n items ended c is t0 t1 t2 t3 t4 t5 t6 t7 all e0 e1 e2 e3 e4 e5 e6 e7 e =
    in-order _ _ _ _ _ _ _ _ t0 t1 t2 t3 t4 t5 t6 t7 all e0 e1 e2 (rw is.calls at e3) (rw is.backs at e4) (rw is.refused at e5) (rw is.exits at e6) (rw is.missed at e7) e
