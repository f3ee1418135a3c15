-- Jobs that have other lines of control: what CPUs and control make of the same values.
use Rattle.std.proofs.Common.{◌≡◌, ℕ, zero, suc, ◌<◌, List, [], ◌∷◌, ◌++◌, length, IsSome, refl, sym, ap, ◌∙◌, subst, append_assoc}
use Rattle.std.proofs.lemmas.List.{append-nil}
use Rattle.ft_base.specs.declared.item.Stamped.{Stamped}
use Rattle.ft_base.specs.declared.turn.Actor.{Actor}
use Rattle.ft_base.specs.Job.{Job, Ctl, LinePlan}
use Rattle.ft_hist.specs.Placing.{AreCounted}
use Rattle.word_machine_laws.specs.Led.{later, more_to_come, with_lines}
use Rattle.word_machine_laws.proofs.LedCpus.{same_got, same_next}
use Rattle.word_map.specs.Contents.{low}
use Rattle.word_machine.specs.Control.{Control}
use Rattle.word_machine.specs.Cpu.{Cpu, cpu_got, cpu_next, cpu_start}
use Rattle.word_machine.specs.Laws.{CpuTakes, IsOnWord, room_on}
use Rattle.cpu_core.specs.CpuSteps.{marks_in}
use Rattle.task_core.specs.TaskOps.{item_in}
use Rattle.ft_machine.specs.Fed.{cpu_after, cpu_fed, cpu_items, cpu_marks}
use Rattle.live_table.specs.Recorded.{cpu_lists}
use Rattle.dealt_seats.specs.Views.{cpu}
use Rattle.live_table.specs.Views.{CpuFacts}

-- ## a CPU reads no line

module _ (job : Job) (ctls : List Ctl) (plan : LinePlan) where
  abbrev other : Job
  other = with_lines job ctls plan

  after-same : (me : Cpu) (vs : List ℕ) → cpu_after other me vs ≡ cpu_after job me vs
  after-same me [] = refl
  after-same me (v ∷ vs) = ap (λ (s : Cpu). cpu_after other s vs) (same_got job ctls plan me v) ∙ after-same (cpu_got job me v) vs

  marks-same : (me : Cpu) (vs : List ℕ) → cpu_marks other me vs ≡ cpu_marks job me vs
  marks-same me [] = refl
  marks-same me (v ∷ vs) =
      (λ i. marks_in (same_next job ctls plan me i) v ++ cpu_marks other (same_got job ctls plan me v i) vs)
      ∙ ap (λ (l : List Stamped). marks_in (cpu_next job me) v ++ l) (marks-same (cpu_got job me v) vs)

  -- so it is the same after these values
  pub cpu-fed-same : (c : ℕ) (vs : List ℕ) → cpu_fed other c vs ≡ cpu_fed job c vs
  cpu-fed-same c vs = after-same (cpu_start job c) vs

  -- has marked the same
  pub cpu-items-same : (c : ℕ) (vs : List ℕ) → cpu_items other c vs ≡ cpu_items job c vs
  cpu-items-same c vs = marks-same (cpu_start job c) vs

  pub cpu-lists-same : (values : Actor → List ℕ) (c n : ℕ) → cpu_lists other values c n ≡ cpu_lists job values c n
  cpu-lists-same values c zero = refl
  cpu-lists-same values c (suc n) = λ i. cpu-items-same c (values (cpu c)) i ∷ cpu-lists-same values (suc c) n i

  -- has the same next operation
  pub cpu-next-same : (c : ℕ) (vs : List ℕ) → cpu_next other (cpu_fed other c vs) ≡ cpu_next job (cpu_fed job c vs)
  cpu-next-same c vs = ap (cpu_next other) (cpu-fed-same c vs) ∙ same_next job ctls plan (cpu_fed job c vs)

  -- and that tells the same
  pub cpu-told-same : (c v : ℕ) (vs : List ℕ) → CpuFacts other c v vs → CpuFacts job c v vs
  cpu-told-same c v vs told = record {
    fits = subst (λ (s : Cpu). CpuTakes job s v) (cpu-fed-same c vs) told.fits;
    room = λ some.
        subst (λ (items : List Stamped). length items < room_on job c) (cpu-items-same c vs)
        (told.room (subst (λ o. IsSome (item_in o)) (sym (cpu-next-same c vs)) some));
    told = record {
      rising = λ item e. subst (AreCounted (low v)) (cpu-items-same c vs) (told.told.rising item (cpu-next-same c vs ∙ e));
      next' = subst (λ o. IsOnWord job o) (cpu-next-same c (vs ++ v ∷ [])) told.told.next';
    };
  }

-- ## lines to come

pub more-more : (xs ys : List Ctl) (s : Control) → more_to_come ys (more_to_come xs s) ≡ more_to_come (xs ++ ys) s
more-more xs ys s = ap (λ (l : List Ctl). record s { remaining = l }) (append_assoc s.remaining xs ys)

-- with none to come the job is as it was
pub none-later : (led : Job) → later led [] led.lines ≡ led
none-later led = ap (λ (l : List Ctl). with_lines led l led.lines) (append-nil led.ctls)
