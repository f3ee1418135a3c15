-- What control keeps from one phase of a command to the next.
use Rattle.std.proofs.Common.{◌≡◌, ◌≢◌, ℕ, ◌+◌, ◌*◌, ◌<◌, ◌≤◌, Bool, true, false, List, [], ◌∷◌, length, Option, Some, None, refl, sym, ap, ◌∙◌, arith, inl, inr}
use Rattle.std.proofs.lemmas.Bool.{cases_lt}
use Rattle.ft_base.specs.declared.limits.TheConstants.{FUNCS}
use Rattle.ft_base.specs.declared.number.UserNo.{UserNo}
use Rattle.site_bytes.specs.declared.insn.SiteChange.{SiteChange}
use Rattle.patch_core.specs.Moves.{Move, Put, Sync, Done, batch_next}
use Rattle.patch_core.proofs.MoveLaws.{done_at}
use Rattle.ft_desk.specs.declared.plan.TrampChange.{TrampChange}
use Rattle.ft_desk.specs.declared.plan.TrampChange.TheVariants.{Keep as KeepTramp, Set, Clear}
use Rattle.ft_desk.specs.declared.plan.ListChange.{ListChange}
use Rattle.ft_desk.specs.declared.plan.ListChange.TheVariants.{Keep as KeepList, Push, Unlink}
use Rattle.ft_desk.specs.Plans.{PlainPlan}
use Rattle.control_core.specs.declared.phase.Phase.{Phase}
use Rattle.control_core.specs.Phases.{batch_to, begin_in, begin_to, list_in, list_to, move_to, number_to, quiet_to, store_in, store_to, write_to}
use Rattle.control_core.specs.Seated.{Seated}
use Rattle.control_core.specs.ControlInvariant.{HasLeft, IsSafe, asked, busy, moves, requests_of_line}
use Rattle.control_core.specs.Steps.{at_phase}

-- a batch that is not done has a move left
pub move-left : (sites : List SiteChange) (i : ℕ) → length sites ≤ FUNCS → batch_next sites i ≢ Done → i < moves
move-left [] i few ne = absurd (ne refl)
move-left (c ∷ cs) i few ne =
    let some : 0 < length (c ∷ cs) = omega arith in
    elim (cases_lt i moves) [
      | inl lt ↦ lt
      | inr le ↦ (let past : 4 * length (c ∷ cs) + 3 ≤ i = omega arith in absurd (ne (done_at (c ∷ cs) i some past)))
    ]

-- a phase of a command, in which so many more requests may be stored, and that has a move left
pub record Goes (c : Seated) (p : Phase) : Type 0 where
  pub begun : busy p ≡ 1
  pub left : HasLeft c p

-- after so many moves
abbrev pub with_made : Seated → ℕ → Seated
with_made c made = record c { made = made }

-- in another phase, after so many moves
pub in-phase : (c : Seated) (made : ℕ) (p : Phase) → IsSafe c → busy c.phase ≡ 1 → made ≤ moves → Goes (with_made c made) p
    → c.request ≤ requests_of_line * c.line + made + asked p → IsSafe (at_phase (with_made c made) p)
in-phase c made p s b m g r = record {
  shape = s.shape;
  desk = s.desk;
  plan = s.plan;
  copied = s.copied;
  numbered = (let e : busy p ≡ busy c.phase = g.begun ∙ sym b in s.numbered ∙ ap (λ k. c.commands_done + k) (sym e));
  counted = s.counted;
  within = (let e : busy p ≡ busy c.phase = g.begun ∙ sym b in rw e s.within);
  led = s.led;
  few = s.few;
  named = s.named;
  moved = m;
  requests = r;
  left = g.left;
}

-- ## each phase of a command

quiet-by : (c : Seated) (request : ℕ) (b : Bool) → c.desk.plan.quiet ≡ b → Goes c (quiet_to c.shape c.desk.plan request)
quiet-by c request true e = rw e (record { begun = refl; left = refl })
quiet-by c request false e = rw e (record { begun = refl; left = tt })

pub quiet-goes : (c : Seated) (request : ℕ) → Goes c (quiet_to c.shape c.desk.plan request)
quiet-goes c request = quiet-by c request c.desk.plan.quiet refl

batch-by : (c : Seated) (request : ℕ) (m : Move) → batch_next c.desk.plan.sites c.made ≡ m → length c.desk.plan.sites ≤ FUNCS
    → Goes c (move_to c.shape c.desk.plan request m)
batch-by c request (Put w x) e few = record { begun = refl; left = move-left c.desk.plan.sites c.made few (λ d. cc) }
batch-by c request Sync e few = record { begun = refl; left = (refl, move-left c.desk.plan.sites c.made few (λ d. cc)) }
batch-by c request Done e few = quiet-goes c request

pub batch-goes : (c : Seated) (request : ℕ) → length c.desk.plan.sites ≤ FUNCS → Goes c (batch_to c.shape c.desk.plan c.made request)
batch-goes c request few = batch-by c request (batch_next c.desk.plan.sites c.made) refl few

list-by : (c : Seated) (request : ℕ) (l : ListChange) (u : Option UserNo) → length c.desk.plan.sites ≤ FUNCS
    → Goes c (list_in c.shape c.desk.plan c.made request l u)
list-by c request (Push first) (Some u) few = record { begun = refl; left = refl }
list-by c request (Push first) None few = batch-goes c request few
list-by c request (Unlink before after) u few = record { begun = refl; left = refl }
list-by c request KeepList u few = batch-goes c request few

pub list-goes : (c : Seated) (request : ℕ) → length c.desk.plan.sites ≤ FUNCS → Goes c (list_to c.shape c.desk.plan c.made request)
list-goes c request few = list-by c request c.desk.plan.list c.desk.plan.user few

number-goes : (c : Seated) (pids depth : Option ℕ) → Goes c (number_to pids depth)
number-goes c (Some x) depth = record { begun = refl; left = tt }
number-goes c None (Some x) = record { begun = refl; left = tt }
number-goes c None None = record { begun = refl; left = tt }

write-goes : (c : Seated) (b : Bool) (u sel : ℕ) → Goes c (write_to c.shape b u sel)
write-goes c true u sel = record { begun = refl; left = (refl, omega arith) }
write-goes c false u sel = record { begun = refl; left = tt }

store-by : (c : Seated) (p : PlainPlan) (u : Option UserNo) (sel : Option ℕ) → Goes c (store_in c.shape p u sel)
store-by c p (Some u) (Some sel) = write-goes c p.pair u.0 sel
store-by c p (Some u) None = number-goes c p.pids p.depth
store-by c p None sel = number-goes c p.pids p.depth

pub store-goes : (c : Seated) (p : PlainPlan) → Goes c (store_to c.shape p)
store-goes c p = store-by c p p.user p.sel

begin-by : (c : Seated) (p : PlainPlan) (t : TrampChange) → Goes c (begin_in t (store_to c.shape p))
begin-by c p (Set slot reg) = record { begun = refl; left = tt }
begin-by c p KeepTramp = store-goes c p
begin-by c p (Clear slot) = store-goes c p

pub begin-goes : (c : Seated) (p : PlainPlan) → Goes c (begin_to c.shape p)
begin-goes c p = begin-by c p p.tramp
