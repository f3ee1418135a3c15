-- The desk of a script's job after the commands of the first lines of control is the desk that is known between the lines.
use Rattle.std.proofs.Common.{cond, ◌≡◌, ℕ, zero, suc, ◌+◌, List, [], ◌∷◌, ◌++◌, length, take, drop, slice_get, Some, refl, sym, ap, ap₂, ◌∙◌, arith, append_assoc, append-nil, take-append-drop}
use Rattle.std.proofs.lemmas.List.{length-map}
use Rattle.ft_base.specs.declared.item.Answer.{Answer}
use Rattle.ft_base.specs.Job.{Job, Command, Ctl, Until as UntilActs, commands, commands_in}
use Rattle.ft_base.specs.Desk.{Desk, desk, opening, after, is_accepted}
use Rattle.ft_base.proofs.DeskLaws.{desk-suc}
use Rattle.ft_desk.specs.Declarations.{Declared, IsOf, job_of as bare_job}
use Rattle.ft_desk.proofs.JobLaws.{answer-is, next-is, opening-is}
use Rattle.module_table.specs.Lines.{commands_for, desk_after, opening_of}
use Rattle.ft_script.specs.Above.{Above, ScriptCtl, Run, Until, LinedCtl}
use Rattle.ft_script.specs.Expansion.{Expansion, declarations_of, runs_of, opened, expanded, expanded_all, expansion_of}
use Rattle.ft_script.specs.Script.{task_of, task_in_job, job_tasks_of, job_of}
use Rattle.ft_script.proofs.Expanding.{expanded-append, expansion-plain, declared-still, commands-append, commands-runs, counted-all, counted-first}

-- ## commands of a desk

-- some commands and then some more
desk-more : (job : Job) (now : Desk) (k : ℕ) (cs more : List Command)
    → desk_after job now k (cs ++ more) ≡ desk_after job (desk_after job now k cs) (k + length cs) more
desk-more job now k [] more = ap (λ n. desk_after job now n more) (let e : k ≡ k + 0 = omega arith in e)
desk-more job now k (c ∷ cs) more = desk-more job (after job now (suc k) (Some c)) (suc k) cs more
    ∙ ap (λ n. desk_after job (desk_after job (after job now (suc k) (Some c)) (suc k) cs) n more) (let e : suc k + length cs ≡ k + suc (length cs) = omega arith in e)

-- the desk of a job that declares the same, whatever its commands
desk-same : (job : Job) (d : Declared) → IsOf job d → (now : Desk) (k : ℕ) (cs : List Command) → desk_after (bare_job d) now k cs ≡ desk_after job now k cs
desk-same job d is now k [] = refl
desk-same job d is now k (c ∷ cs) = ap (λ (x : Desk). desk_after (bare_job d) x (suc k) cs) step ∙ desk-same job d is (after job now (suc k) (Some c)) (suc k) cs
  where
    step : after (bare_job d) now (suc k) (Some c) ≡ after job now (suc k) (Some c)
    step = ap₂ (λ (a : Answer) (x : Desk). cond (is_accepted a) x now) (answer-is job d is now c) (next-is job d is now (suc k) c)

-- the first of those that are left
left-first : {X : Type 0} (xs : List X) (k : ℕ) (x : X) (rest : List X) → drop k xs ≡ x ∷ rest → (slice_get xs k ≡ Some x) × (drop (suc k) xs ≡ rest)
left-first [] zero x rest e = absurd cc
left-first [] (suc k) x rest e = absurd cc
left-first (y ∷ xs) zero x rest e = let same : y ≡ x = cc in let others : xs ≡ rest = cc in (ap Some same, others)
left-first (y ∷ xs) (suc k) x rest e = left-first xs k x rest e

-- the job's desk after these commands, if those that are left begin with them
desk-runs : (job : Job) (k : ℕ) (cs rest : List Command) → drop k (commands job) ≡ cs ++ rest → desk_after job (desk job k) k cs ≡ desk job (k + length cs)
desk-runs job k [] rest e = ap (desk job) (let s : k ≡ k + 0 = omega arith in s)
desk-runs job k (c ∷ cs) rest e =
    let first = left-first (commands job) k c (cs ++ rest) e in
    ap (λ (x : Desk). desk_after job x (suc k) cs) (sym (desk-suc job k ∙ ap (after job (desk job k) (suc k)) first.0))
    ∙ desk-runs job (suc k) cs rest first.1
    ∙ ap (desk job) (let s : suc k + length cs ≡ k + suc (length cs) = omega arith in s)

-- the same from the start
desk-begins : (job : Job) (cs rest : List Command) → commands job ≡ cs ++ rest → desk_after job (opening job) 0 cs ≡ desk job (length cs)
unfolding desk
desk-begins job cs rest e = desk-runs job 0 cs rest e ∙ ap (desk job) (let s : 0 + length cs ≡ length cs = omega arith in s)

-- ## what lines of control come to

-- with the lines of these commands there are so many more
commands-more : (ctls : List Ctl) (cs : List Command) → commands_in (ctls ++ runs_of cs) ≡ commands_in ctls ++ cs
commands-more ctls cs = commands-append ctls (runs_of cs) ∙ ap (λ (xs : List Command). commands_in ctls ++ xs) (commands-runs cs)

-- with a wait they are as before
commands-wait : (ctls : List Ctl) (t n : ℕ) → commands_in (ctls ++ UntilActs t n ∷ []) ≡ commands_in ctls
commands-wait ctls t n = commands-append ctls (UntilActs t n ∷ []) ∙ append-nil (commands_in ctls)

-- the desk that is known is that after the commands so far
abbrev HasDesk : Expansion → Type 0
HasDesk x = x.known.desk ≡ desk_after (bare_job x.known.declared) (opening (bare_job x.known.declared)) 0 (commands_in x.ctls)

desk-one : (x : Expansion) (ctl : ScriptCtl) → x.known.commands ≡ length (commands_in x.ctls) → HasDesk x → HasDesk (expanded x ctl)
desk-one x (Run line) count has =
    let job = bare_job x.known.declared in
    let cs = commands_for x.known line in
    let so_far = commands_in x.ctls in
    ap₂ (λ (now : Desk) k. desk_after job now k cs) has (count ∙ (let s : length so_far ≡ 0 + length so_far = omega arith in s))
    ∙ sym (desk-more job (opening job) 0 so_far cs)
    ∙ sym (ap (desk_after job (opening job) 0) (commands-more x.ctls cs))
desk-one x (Until t n) count has = has ∙ sym (ap (desk_after (bare_job x.known.declared) (opening (bare_job x.known.declared)) 0) (commands-wait x.ctls t n))

desk-all : (x : Expansion) (ctls : List LinedCtl) → x.known.commands ≡ length (commands_in x.ctls) → HasDesk x → HasDesk (expanded_all x ctls)
desk-all x [] count has = has
desk-all x (c ∷ ctls) count has = desk-all (expanded x c.ctl) ctls (counted-all x (c ∷ []) count) (desk-one x c.ctl count has)

desk-opened : (above : Above) → HasDesk (opened above)
desk-opened above =
    let known = (opened above).known in
    sym (ap (desk_after (bare_job known.declared) (opening (bare_job known.declared)) 0) (commands-runs (opening_of known.declared known.first)))

-- what more lines come to begins with what there is
commands-begin : (x : Expansion) (ctls : List LinedCtl) → (more : List Command) × (commands_in (expanded_all x ctls).ctls ≡ commands_in x.ctls ++ more)
commands-begin x [] = ([], sym (append-nil (commands_in x.ctls)))
commands-begin x (c ∷ ctls) =
    let one = by c.ctl in
    let rest = commands-begin (expanded x c.ctl) ctls in
    (one.0 ++ rest.0, rest.1 ∙ ap (λ (cs : List Command). cs ++ rest.0) one.1 ∙ append_assoc (commands_in x.ctls) one.0 rest.0)
  where
    by : (ctl : ScriptCtl) → (more : List Command) × (commands_in (expanded x ctl).ctls ≡ commands_in x.ctls ++ more)
    by (Run line) = (commands_for x.known line, commands-more x.ctls (commands_for x.known line))
    by (Until t n) = ([], commands-wait x.ctls t n ∙ sym (append-nil (commands_in x.ctls)))

-- ## the job

-- its desk keeps what the lines above declare
job-declares : (above : Above) → IsOf (job_of above) (declarations_of above)
unfolding job_of
job-declares above = record {
  specs = refl;
  funcs = refl;
  tasks = sym (length-map (job_tasks_of above) task_of ∙ length-map above.tasks (task_in_job (expansion_of above).ends));
  tramps = refl;
}

module _ (above : Above) (lanes : above.lane_count ≡ 0) (n : ℕ) where
  -- what the first lines come to
  abbrev pub first_lines : Expansion
  first_lines = expanded_all (opened above) (take n above.ctls)

  -- all lines come to this and what the others come to
  pub all-lines : expansion_of above ≡ expanded_all first_lines (drop n above.ctls)
  all-lines = expansion-plain above lanes ∙ ap (expanded_all (opened above)) (sym (take-append-drop n above.ctls))
      ∙ expanded-append (opened above) (take n above.ctls) (drop n above.ctls)

  -- the desk after their commands
  pub desk-known : desk (job_of above) first_lines.known.commands ≡ first_lines.known.desk
  unfolding job_of
  desk-known =
      let job = job_of above in
      let d = declarations_of above in
      let cs = commands_in first_lines.ctls in
      let more = commands-begin first_lines (drop n above.ctls) in
      ap (desk job) (counted-all (opened above) (take n above.ctls) (counted-first above))
      ∙ sym (desk-begins job cs more.0 (ap (λ (x : Expansion). commands_in x.ctls) all-lines ∙ more.1))
      ∙ ap (λ (x : Desk). desk_after job x 0 cs) (sym (opening-is job d (job-declares above)))
      ∙ sym (desk-same job d (job-declares above) (opening (bare_job d)) 0 cs)
      ∙ ap (λ (x : Declared). desk_after (bare_job x) (opening (bare_job x)) 0 cs) (sym (declared-still (opened above) (take n above.ctls)))
      ∙ sym (desk-all (opened above) (take n above.ctls) (counted-first above) (desk-opened above))
