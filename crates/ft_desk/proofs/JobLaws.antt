-- Each job that declares the same has the same desks and answers.
use Rattle.std.proofs.Common.{cond, ◌≡◌, ℕ, zero, suc, ◌==◌, true, not, ◌&&◌, ◌||◌, List, [], ◌∷◌, length, map, get_or, Option, Some, None, is_some, refl, ap, ap₂, ◌∙◌}
use Rattle.std.specs.Prelude.{replicate}
use Rattle.std.proofs.lemmas.List.{length-map, length-replicate}
use Rattle.ft_base.specs.declared.item.Answer.TheVariants.{Accepted, Already, NotThere, Invalid, NoMatch}
use Rattle.ft_base.specs.Marks.{Marks, empty, is_empty}
use Rattle.ft_base.specs.Job.{Job, Spec, Task, Edit, Command, Register, Unregister, Filter, Notrace, Pid, NoPid, Enable, Disable, MaxDepth, funcs, no_func, no_task}
use Rattle.ft_base.specs.Kinds.{is_fprobe}
use Rattle.ft_base.specs.Desk.{Desk, UserState, answer_on, busy_or, changed, claim, edited, edit_answer, is_free, is_matching, lowest, matches_by, opening, other_modifier, plain_spec, register_answer, spec_at, switch_answer, unseen, user_at, with_user}
use Rattle.ft_base.proofs.Modifiers.{conflicts, holder_at}
use Rattle.ipmodify.proofs.LowestLemmas.{lowest-same}
use Rattle.ft_desk.specs.Declarations.{Declared, IsOf, bare, job_of}
use Rattle.ft_desk.proofs.ClaimLaws.{funcs-is}

pub bare-at : (specs : List Spec) (u : ℕ) → get_or (map bare specs) u plain_spec ≡ bare (get_or specs u plain_spec)
bare-at [] u = refl
bare-at (s ∷ specs) zero = refl
bare-at (s ∷ specs) (suc u) = bare-at specs u

unseen-each : (n : ℕ) (specs : List Spec) → map (λ s. unseen n) (map bare specs) ≡ map (λ s. unseen n) specs
unseen-each n [] = refl
unseen-each n (s ∷ specs) = ap (λ zs. unseen n ∷ zs) (unseen-each n specs)

module _ (job : Job) (d : Declared) (is : IsOf job d) (desk : Desk) where
  spec-is : (u : ℕ) → get_or d.specs u plain_spec ≡ bare (spec_at job u)
  spec-is u = ap (λ (ss : List Spec). get_or ss u plain_spec) is.specs ∙ bare-at job.users u

  users-is : length d.specs ≡ length job.users
  users-is = ap length is.specs ∙ length-map job.users bare

  size-is : length (replicate d.funcs no_func) ≡ funcs job
  size-is = funcs-is d.funcs ∙ is.funcs

  modifier-is : (u f v : ℕ) → other_modifier (job_of d) desk u f v ≡ other_modifier job desk u f v
  modifier-is u f v = ap (λ (p : Spec). not (v == u) && (user_at desk v).registered && is_some p.ipmodify && is_matching (user_at desk v) f) (spec-is v)

  lowest-is : (u f : ℕ) → lowest (other_modifier (job_of d) desk u f) 0 (length d.specs) ≡ lowest (other_modifier job desk u f) 0 (length job.users)
  lowest-is u f = ap (lowest (other_modifier (job_of d) desk u f) 0) users-is
      ∙ lowest-same (other_modifier (job_of d) desk u f) (other_modifier job desk u f) 0 (length job.users) (λ v h. modifier-is u f v)

  holder-is : (u : ℕ) (o : Option ℕ) → holder_at (job_of d) desk u o ≡ holder_at job desk u o
  holder-is u None = refl
  holder-is u (Some f) = lowest-is u f

  conflict-is : (u : ℕ) (filter notrace : Marks) → lowest (conflicts (job_of d) desk u filter notrace) 0 (length (replicate d.funcs no_func)) ≡ lowest (conflicts job desk u filter notrace) 0 (funcs job)
  conflict-is u filter notrace = ap (lowest (conflicts (job_of d) desk u filter notrace) 0) size-is
      ∙ lowest-same (conflicts (job_of d) desk u filter notrace) (conflicts job desk u filter notrace) 0 (funcs job)
      (λ f h. ap (λ o. matches_by filter notrace f && is_some o) (lowest-is u f))

  claim-is-of : (u : ℕ) (filter notrace : Marks) → claim (job_of d) desk u filter notrace ≡ claim job desk u filter notrace
  claim-is-of u filter notrace = ap (λ o. busy_or o (holder_at (job_of d) desk u o) Accepted) (conflict-is u filter notrace)
      ∙ ap (λ h. busy_or (lowest (conflicts job desk u filter notrace) 0 (funcs job)) h Accepted) (holder-is u (lowest (conflicts job desk u filter notrace) 0 (funcs job)))

  register-is : (u : ℕ) → register_answer (job_of d) desk u ≡ register_answer job desk u
  register-is u = ap₂ (λ (p : Spec) claimed. cond (user_at desk u).registered Already (cond (is_some p.ipmodify && (not p.regs || is_empty (user_at desk u).filter)) Invalid (cond (is_some p.ipmodify) claimed Accepted)))
      (spec-is u) (claim-is-of u (user_at desk u).filter (user_at desk u).notrace)

  edit-answer-is : (u : ℕ) (e : Edit) (filter notrace : Marks) → edit_answer (job_of d) desk u e filter notrace ≡ edit_answer job desk u e filter notrace
  edit-answer-is u e filter notrace = ap₂ (λ (p : Spec) claimed.
      cond (((user_at desk u).registered && is_some p.ipmodify) && (e.clear || not (is_empty e.set)) && is_empty filter) Invalid
      (cond (not (e.clear || not (is_empty e.set))) NoMatch (cond ((user_at desk u).registered && is_some p.ipmodify) claimed Accepted)))
      (spec-is u) (claim-is-of u filter notrace)

  switch-is : (u : ℕ) → switch_answer (job_of d) desk u ≡ switch_answer job desk u
  switch-is u = ap (λ (p : Spec). cond (not (user_at desk u).registered) NotThere (cond (not (is_fprobe p.kind)) Invalid Accepted)) (spec-is u)

  pub answer-is : (c : Command) → answer_on (job_of d) desk c ≡ answer_on job desk c
  answer-is (Register u) = register-is u
  answer-is (Unregister u) = refl
  answer-is (Filter u e) = edit-answer-is u e (edited (length (replicate d.funcs no_func)) (user_at desk u).filter e) (user_at desk u).notrace ∙ ap (λ n. edit_answer job desk u e (edited n (user_at desk u).filter e) (user_at desk u).notrace) size-is
  answer-is (Notrace u e) = edit-answer-is u e (user_at desk u).filter (edited (length (replicate d.funcs no_func)) (user_at desk u).notrace e) ∙ ap (λ n. edit_answer job desk u e (user_at desk u).filter (edited n (user_at desk u).notrace e)) size-is
  answer-is (Pid pids) = refl
  answer-is (NoPid nopids) = refl
  answer-is (Enable u) = switch-is u
  answer-is (Disable u) = switch-is u
  answer-is (MaxDepth depth) = refl

  pub next-is : (k : ℕ) (c : Command) → changed (job_of d) desk k c ≡ changed job desk k c
  next-is k (Register u) = ap (λ t. with_user desk u (record (user_at desk u) { registered = true; reg = suc (user_at desk u).reg; since = k; enabled = true; slot = lowest (is_free desk) 0 t })) is.tramps
  next-is k (Unregister u) = refl
  next-is k (Filter u e) = ap (λ n. with_user desk u (record (user_at desk u) { filter = edited n (user_at desk u).filter e })) size-is
  next-is k (Notrace u e) = ap (λ n. with_user desk u (record (user_at desk u) { notrace = edited n (user_at desk u).notrace e })) size-is
  next-is k (Pid pids) = refl
  next-is k (NoPid nopids) = refl
  next-is k (Enable u) = refl
  next-is k (Disable u) = refl
  next-is k (MaxDepth depth) = refl

abbrev opened_by : List UserState → ℕ → Desk
opened_by users tasks = record { users = users; pids = empty tasks; nopids = empty tasks; depth = 0 }

pub opening-is : (job : Job) (d : Declared) → IsOf job d → opening (job_of d) ≡ opening job
opening-is job d is = ap₂ opened_by
    (ap₂ (λ n (ss : List Spec). map (λ s. unseen n) ss) (funcs-is d.funcs ∙ is.funcs) is.specs ∙ unseen-each (funcs job) job.users)
    (length-replicate {A = Task} d.tasks no_task ∙ is.tasks)
