-- CPUs' seats that join control's one after the other: what control's seat knows then, and the lists of what all have marked.
use Rattle.std.proofs.Common.{◌≡◌, ℕ, ◌<◌, List, [], ◌∷◌, ◌++◌, length, map, slice_get, refl, sym, ap, ◌∙◌, arith}
use Rattle.std.specs.Global.{Vec}
use Rattle.ft_base.specs.declared.item.Stamped.{Stamped}
use Rattle.ft_base.specs.Job.{Job}
use Rattle.ft_hist.specs.Placing.{items_of}
use Rattle.word_map.specs.declared.shape.Shape.{Shape}
use Rattle.word_map.specs.Places.{len}
use Rattle.word_map.specs.Words.{Clock}
use Rattle.word_map.proofs.PlaceLaws.{is_map}
use Rattle.live_table.specs.Views.{Part, View, cpu_view}
use Rattle.dealt_seats.specs.Views.{cpu, joined, part, view}
use Rattle.live_table.specs.Seats.{AreSeats, Board, ControlPlace, CpuPlace, SitsAt, control_items_at, items_at, lists_at, parts_of}
use Rattle.dealt_seats.proofs.Parts.{get-middle}
use Rattle.dealt_seats.proofs.Parts as seats

-- there is a clock
pub has-clock : (shape : Shape) → 0 < len shape
has-clock shape = let i = (is_map shape).inside Clock tt in omega (arith, i)

-- ## the present seat

-- it is one of the table's
pub next-sits : (b : Board) (done left all : List CpuPlace) (s : CpuPlace) → AreSeats b all → done ++ s ∷ left ≡ all → SitsAt b s
next-sits b done left all s seats is =
    (seats.each (length done) s (ap (λ (l : List CpuPlace). slice_get l (length done)) (sym is) ∙ get-middle done s left)).0

-- ## parts

-- what control's seat knows after one more has joined it
pub joined-more : (v w : View) (job led : Job) (split : ℕ) (x0 : Part) (ss : List CpuPlace) (q : Job) (c : ℕ) (values : List ℕ) (s : CpuPlace)
    → v ≡ view job led split (x0 ∷ parts_of ss) → w ≡ cpu_view q c values → part (cpu c) values ≡ part (cpu s.number) s.values
    → joined v w ≡ view job led split (x0 ∷ parts_of (ss ++ s ∷ []))
joined-more v w job led split x0 ss q c values s is other same =
    seats.joined-more (λ (u : CpuPlace). u.number) (λ u. u.values) v w job led split x0 ss q q c values s is other same

-- ## lists

items-snoc : (ls : List (Vec Stamped)) (v : Vec Stamped) → items_of (ls ++ v ∷ []) ≡ items_of ls ++ v.items ∷ []
items-snoc [] v = refl
items-snoc (x ∷ xs) v = ap (λ (l : List (List Stamped)). x.items ∷ l) (items-snoc xs v)

marked-snoc : (ss : List CpuPlace) (s : CpuPlace) → map items_at (ss ++ s ∷ []) ≡ map items_at ss ++ items_at s ∷ []
marked-snoc [] s = refl
marked-snoc (x ∷ xs) s = ap (λ (l : List (List Stamped)). items_at x ∷ l) (marked-snoc xs s)

-- control's list alone
pub listed-first : (ls ls' : List (Vec Stamped)) (v : Vec Stamped) (control : ControlPlace) → ls ≡ [] → ls' ≡ ls ++ v ∷ []
    → v.items ≡ control_items_at control → items_of ls' ≡ lists_at control []
listed-first ls ls' v control none is own =
    ap items_of (is ∙ ap (λ (l : List (Vec Stamped)). l ++ v ∷ []) none) ∙ ap (λ (l : List Stamped). l ∷ []) own

-- and that of one more CPU
pub listed-more : (ls ls' : List (Vec Stamped)) (v : Vec Stamped) (control : ControlPlace) (ss : List CpuPlace) (s : CpuPlace)
    → items_of ls ≡ lists_at control ss → ls' ≡ ls ++ v ∷ [] → v.items ≡ items_at s → items_of ls' ≡ lists_at control (ss ++ s ∷ [])
listed-more ls ls' v control ss s had is own =
    ap items_of is
    ∙ items-snoc ls v
    ∙ (λ i. had i ++ own i ∷ [])
    ∙ ap (λ (l : List (List Stamped)). control_items_at control ∷ l) (sym (marked-snoc ss s))
