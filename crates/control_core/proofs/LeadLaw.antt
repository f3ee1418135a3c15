-- Control to which one more line is led is control of the job with that line as well.
use Rattle.std.proofs.Common.{◌≡◌, ℕ, zero, suc, ◌≤◌, List, [], ◌∷◌, ◌++◌, length, take, refl, sym, ap, ◌∙◌, arith}
use Rattle.std.proofs.lemmas.List.{drop-append-le, take-append-le}
use Rattle.std.proofs.lemmas.Option.{slice_get_within}
use Rattle.ft_base.specs.Job.{Job, Ctl, LinePlan, Run, Until, commands, commands_in}
use Rattle.ft_desk.specs.Declarations.{Declared, IsOf}
use Rattle.word_machine_laws.specs.Led.{later, more_to_come, with_lines}
use Rattle.word_machine_laws.proofs.LedDesks.{same_command, same_desk}
use Rattle.word_machine_laws.proofs.LedLists.{get_front}
use Rattle.control_core.specs.declared.phase.Phase.{Phase}
use Rattle.control_core.specs.declared.phase.Phase.TheVariants as phase
use Rattle.control_core.specs.Seated.{Seated, Fits, IsDeskOf, IsFor, IsUnder, control_of, position_of}

-- ## what the lines say, before there are more

-- no more commands among the first lines than among all
commands-few : (n : ℕ) (xs : List Ctl) → length (commands_in (take n xs)) ≤ length (commands_in xs)
commands-few zero xs = omega arith
commands-few (suc n) [] = omega arith
commands-few (suc n) (Run c ∷ xs) = let few = commands-few n xs in omega (arith, few)
commands-few (suc n) (Until t k ∷ xs) = commands-few n xs

-- what a desk declares is of the job, whatever its lines
pub of-lines : (job : Job) (ctls : List Ctl) (plan : LinePlan) (d : Declared) → IsOf job d → IsOf (with_lines job ctls plan) d
of-lines job ctls plan d is = record { specs = is.specs; funcs = is.funcs; tasks = is.tasks; tramps = is.tramps }

-- ## with other lines, control that isn't in a command is as it was

module _ (c : Seated) (lines : List Ctl) (order : List ℕ) where
  abbrev other : Seated
  other = record c { lines = lines; order = order }

  fits-still : (p : Phase) → Fits c p → Fits other p
  fits-still (phase.Writing page) h = (h.0, record { user = h.1.user; sel = h.1.sel; pair = h.1.pair; copy = h.1.copy })
  fits-still _ h = h

  position-still : (p : Phase) → position_of other p ≡ position_of c p
  position-still phase.Line = refl
  position-still _ = refl

-- ## with lines that come after those that were led

module _ (c : Seated) (more : List Ctl) (order : List ℕ) (within : c.line ≤ length c.lines) where
  abbrev longer : Seated
  longer = other c (c.lines ++ more) order

  pub control-longer : control_of longer ≡ more_to_come more (control_of c)
  control-longer = λ i. record (control_of c) {
    remaining = drop-append-le c.line c.lines more within i;
    position = position-still c (c.lines ++ more) order c.phase i;
  }

  module _ (job : Job) (plan : LinePlan) (is : IsFor job c) where
    counted-in : c.commands_done ≤ length (commands job)
    counted-in =
        let few = commands-few c.line c.lines in
        let all : length (commands_in c.lines) ≡ length (commands job) = ap (λ ls. length (commands_in ls)) is.lines in
        let done = is.counted in
        omega (arith, few, all, done)

    under-still : IsUnder job c → IsUnder (later job more plan) longer
    under-still u = (
      u.0,
      same_command job more plan c.commands_done (slice_get_within (commands job) c.commands_done u.0 u.1) ∙ u.1,
      get_front c.lines more c.line (slice_get_within c.lines c.line (Run u.0) u.2) ∙ u.2,
      u.3,
      u.4,
    )

    desk-still : (p : Phase) → IsDeskOf job c p → IsDeskOf (later job more plan) longer p
    desk-still phase.Line h = h
    desk-still phase.Taking h = under-still h
    desk-still (phase.Writing page) h = under-still h
    desk-still phase.Selecting h = under-still h
    desk-still (phase.Linking linker) h = under-still h
    desk-still phase.StoringPids h = under-still h
    desk-still phase.StoringDepth h = under-still h
    desk-still phase.Patching h = under-still h
    desk-still (phase.Syncing wait) h = under-still h
    desk-still (phase.Quieting wait) h = under-still h
    desk-still phase.Releasing h = under-still h
    desk-still phase.Closing h = under-still h

    pub for-longer : IsFor (later job more plan) longer
    for-longer = record {
      shape = is.shape;
      lines = ap (λ ls. ls ++ more) is.lines;
      declared = of-lines job (job.ctls ++ more) plan c.before.declared is.declared;
      before = is.before ∙ sym (same_desk job more plan c.commands_done counted-in);
      numbered = is.numbered;
      counted = is.counted ∙ ap (λ ls. length (commands_in ls)) (sym (take-append-le c.line c.lines more within));
      now = desk-still c.phase is.now;
      fits = fits-still c (c.lines ++ more) order c.phase is.fits;
    }
