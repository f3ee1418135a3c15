-- The acts of a script's tasks in the job, where waits are for other numbers of commands. They lead to the same open calls and the same
-- contexts, and there are as many of them and of calls.
use Rattle.std.proofs.Common.{◌≡◌, ℕ, zero, suc, ◌<◌, List, [], ◌∷◌, length, map, sum_by, refl, sym, ap, ◌∙◌, subst, arith}
use Rattle.std.specs.List.{AllByRecursion as Each}
use Rattle.std.proofs.lemmas.List.{length-map}
use Rattle.std.proofs.lemmas.List.Sums.{sum_by-cons}
use Rattle.ft_base.specs.declared.context.Ctx.{Ctx}
use Rattle.ft_base.specs.declared.task.TaskAct.{TaskAct}
use Rattle.ft_base.specs.declared.task.TaskAct.TheVariants.{Call, Ret, Raise, Lower, After}
use Rattle.ft_base.specs.Acts.{Leads, Raises}
use Rattle.history_laws.specs.Bound.{calls_in}
use Rattle.script_waits.specs.declared.script.LinedAct.{LinedAct}
use Rattle.script_waits.specs.Tasks.{LinedTask}
use Rattle.ft_script.specs.Expansion.{act_in_job}
use Rattle.ft_script.specs.Script.{task_in_job}
use Rattle.ft_script.specs.Holds.{acts_of}

-- ## acts

module _ (ends : List ℕ) where
  -- these acts in the job
  abbrev pub in_job : List TaskAct → List TaskAct
  in_job acts = map (act_in_job ends) acts

  pub acts-in_job : (acts : List LinedAct) → map (λ (a : LinedAct). a.act) (map (λ (a : LinedAct). record a { act = act_in_job ends a.act }) acts)
      ≡ in_job (map (λ (a : LinedAct). a.act) acts)
  acts-in_job [] = refl
  acts-in_job (a ∷ acts) = ap (λ (rest : List TaskAct). act_in_job ends a.act ∷ rest) (acts-in_job acts)

  pub leads-in_job : (size n m : ℕ) (acts : List TaskAct) → Leads size n acts m → Leads size n (in_job acts) m
  leads-in_job size n m [] h = h
  leads-in_job size n m (Call f ∷ rest) h = (h.0, leads-in_job size (suc n) m rest h.1)
  leads-in_job size zero m (Ret ∷ rest) h = h
  leads-in_job size (suc n) m (Ret ∷ rest) h = leads-in_job size n m rest h
  leads-in_job size n m (Raise c ∷ rest) h = leads-in_job size n m rest h
  leads-in_job size n m (Lower ∷ rest) h = leads-in_job size n m rest h
  leads-in_job size n m (After k ∷ rest) h = leads-in_job size n m rest h

  pub raises-in_job : (ends' : List Ctx → Type 0) (cs : List Ctx) (acts : List TaskAct) → Raises ends' cs acts → Raises ends' cs (in_job acts)
  raises-in_job ends' cs [] h = h
  raises-in_job ends' cs (Call f ∷ rest) h = raises-in_job ends' cs rest h
  raises-in_job ends' cs (Ret ∷ rest) h = raises-in_job ends' cs rest h
  raises-in_job ends' cs (Raise c ∷ rest) h = (h.0, raises-in_job ends' (c ∷ cs) rest h.1)
  raises-in_job ends' [] (Lower ∷ rest) h = h
  raises-in_job ends' (c ∷ cs) (Lower ∷ rest) h = raises-in_job ends' cs rest h
  raises-in_job ends' cs (After n ∷ rest) h = raises-in_job ends' cs rest h

  pub calls-in_job : (acts : List TaskAct) → calls_in (in_job acts) ≡ calls_in acts
  calls-in_job [] = refl
  calls-in_job (Call f ∷ rest) = ap suc (calls-in_job rest)
  calls-in_job (Ret ∷ rest) = calls-in_job rest
  calls-in_job (Raise c ∷ rest) = calls-in_job rest
  calls-in_job (Lower ∷ rest) = calls-in_job rest
  calls-in_job (After n ∷ rest) = calls-in_job rest

  -- ## tasks

  -- what holds of the acts of each task holds of them in the job, if it doesn't look at the numbers of waits
  pub each-in_job : (P : List TaskAct → Type 0) → ((acts : List TaskAct) → P acts → P (in_job acts)) → (ps : List LinedTask)
      → Each (λ p. P (acts_of p)) ps → Each (λ p. P (acts_of p)) (map (task_in_job ends) ps)
  each-in_job P kept [] h = tt
  each-in_job P kept (p ∷ ps) h = (subst P (sym (acts-in_job p.acts)) (kept (acts_of p) h.0), each-in_job P kept ps h.1)

  -- each task is on its CPU
  pub placed-in_job : (cpus : ℕ) (ps : List LinedTask) → Each (λ p. p.cpu < cpus) ps → Each (λ p. p.cpu < cpus) (map (task_in_job ends) ps)
  placed-in_job cpus [] h = tt
  placed-in_job cpus (p ∷ ps) h = (h.0, placed-in_job cpus ps h.1)

  -- what is counted of each task is counted over all
  sums : (f : LinedTask → ℕ) → ((p : LinedTask) → f (task_in_job ends p) ≡ f p) → (ps : List LinedTask) → sum_by f (map (task_in_job ends) ps) ≡ sum_by f ps
  sums f same [] = refl
  sums f same (p ∷ ps) =
      let rest = sums f same ps in
      let here = same p in
      let one = sum_by-cons f (task_in_job ends p) (map (task_in_job ends) ps) in
      let all = sum_by-cons f p ps in
      omega (arith, rest, here, one, all)

  pub all_acts-in_job : (ps : List LinedTask) → sum_by (λ (p : LinedTask). length p.acts) (map (task_in_job ends) ps) ≡ sum_by (λ (p : LinedTask). length p.acts) ps
  all_acts-in_job = sums (λ (p : LinedTask). length p.acts) (λ p. length-map p.acts (λ (a : LinedAct). record a { act = act_in_job ends a.act }))

  pub all_calls-in_job : (ps : List LinedTask)
      → sum_by (λ (p : LinedTask). calls_in (acts_of p)) (map (task_in_job ends) ps) ≡ sum_by (λ (p : LinedTask). calls_in (acts_of p)) ps
  all_calls-in_job = sums (λ (p : LinedTask). calls_in (acts_of p)) (λ p. ap calls_in (acts-in_job p.acts) ∙ calls-in_job (acts_of p))
