-- Seats after one more CPU was split off from control's.
use Rattle.std.proofs.Common.{◌≡◌, ℕ, ◌+◌, ◌<◌, false, List, [], ◌∷◌, ◌++◌, length, slice_get, refl, sym, ap, ◌∙◌, subst}
use Rattle.atomic_table.specs.Table.{Me}
use Rattle.ft_base.specs.Job.{Job}
use Rattle.word_machine.specs.Limits.{IsLimited}
use Rattle.control_core.specs.Seated.{Seated}
use Rattle.cpu_core.specs.declared.parts.Parts.{Parts as CpuParts}
use Rattle.ft_machine.specs.declared.cpus.CpuRoom.TheVariants.{ForAll}
use Rattle.ft_machine.specs.Starts.{AreFirst, IsFirst}
use Rattle.live_table.specs.Views.{View, cpu_view, dealt}
use Rattle.live_table.specs.Seats.{ControlSits, CpuSits}
use Rattle.dealt_seats.specs.Views.{dealer, view}
use Rattle.live_table.proofs.AtStart.{cpu-first}
use Rattle.dealt_seats.proofs.Parts.{get-middle}

-- ## the next CPU

-- it has not stepped
pub next-first : (job q : Job) (done left all : List CpuParts) (x : CpuParts) (n : ℕ) → AreFirst ForAll job all → done ++ x ∷ left ≡ all → q ≡ job → n ≡ length done
    → IsFirst ForAll q n x
next-first job q done left all x n first is same here =
    subst (λ (u : Job × ℕ). IsFirst ForAll u.0 u.1 x) (λ i. (sym same i, sym here i))
    (first.each (length done) x (ap (λ (l : List CpuParts). slice_get l (length done)) (sym is) ∙ get-middle done x left))

-- ## seats

-- control is as it was
pub control-deals : {S : Type 0} (me m : Me S View) (x : Seated) → ControlSits me x → m ≡ (dealer me.0, me.1) → ControlSits {S = S} m x
control-deals {S} me m x sits is =
    subst (λ (u : Me S View). ControlSits {S = S} u x) (sym (is ∙ ap (λ (u : Me S View). (view me.0.job me.0.led (me.0.split + 1) u.0.parts, u.1)) sits.view'))
    record {
      view' = refl;
      lines = sits.lines;
      once = sits.once;
      led = sits.led;
      limited = sits.limited;
      is_for = sits.is_for;
      fed = sits.fed;
      marked = sits.marked;
      rising = sits.rising;
      next = sits.next;
    }

-- the CPU is as it was before its first step
pub cpu-deals : {S : Type 0} (v : View) (m : Me S View) (job : Job) (c : ℕ) (x : CpuParts) → IsLimited job → v.job ≡ job → v.split ≡ c
    → c < length job.quanta → m ≡ (dealt v, []) → IsFirst ForAll job c x → CpuSits {S = S} m c x false
cpu-deals v m job c x l same number inside is first =
    cpu-first m job c x l inside (is ∙ (λ i. (cpu_view (same i) (number i) [], []))) first
