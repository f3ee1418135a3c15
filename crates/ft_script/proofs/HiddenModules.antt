-- What a script that can run says of its modules holds on each desk of its job between whole lines: those that aren't loaded are hidden.
use Rattle.std.proofs.Common.{◌≡◌, ℕ, zero, suc, ◌<◌, Bool, true, false, not, ◌&&◌, List, [], ◌∷◌, length, get_or, take, Option, Some, None, refl, sym, ap, ◌∙◌, subst}
use Rattle.std.specs.List.{AllByRecursion as Each}
use Rattle.std.specs.Str.{bytes_eq}
use Rattle.std.proofs.Math.ListN.{get_or-map}
use Rattle.std.proofs.lemmas.List.{length-map}
use Rattle.std.proofs.lemmas.List.Quantifiers.{position-Some}
use Rattle.ft_base.specs.Job.{Func, no_func}
use Rattle.ft_base.specs.Desk.{Desk, desk, user_at, is_sited}
use Rattle.ft_desk.specs.Declarations.{Declared, bare}
use Rattle.func_table.specs.Modules.{modules_in, number_among, module_of}
use Rattle.module_table.specs.Lines.{Between, owners_of, is_hidden}
use Rattle.module_table.specs.Reached.{IsReached, is_open}
use Rattle.module_table.proofs.OpenedLaws.{hides-functions}
use Rattle.ft_script.specs.Above.{Above, ScriptCtl, Run, Until, LinedCtl}
use Rattle.ft_script.specs.Expansion.{Expansion, opened, expanded, expanded_all}
use Rattle.ft_script.specs.Script.{job_of}
use Rattle.ft_script.specs.Holds.{IsLine, CanRun}
use Rattle.ft_script.specs.Hidden.{known_after, is_loaded_or_none, is_there, matches_by_own, HidesModules}
use Rattle.ft_script.proofs.Expanding.{declared-still}
use Rattle.ft_script.proofs.JobLines.{known-reached}
use Rattle.ft_script.proofs.DeskOfJob.{first_lines, desk-known}
use Rattle.ft_script.proofs.LoadedLaws.{loaded-known}

-- what holds of each line holds of the first ones
each-first : {X : Type 0} (P : X → Type 0) (n : ℕ) (xs : List X) → Each P xs → Each P (take n xs)
each-first P zero xs all = tt
each-first P (suc n) [] all = tt
each-first P (suc n) (x ∷ xs) all = (all.0, each-first P n xs all.1)

-- ## the module of a function

-- whatever lines come, each function stays in its module
owners-still : (x : Expansion) (ctls : List LinedCtl) → (expanded_all x ctls).known.owners ≡ x.known.owners
owners-still x [] = refl
owners-still x (c ∷ ctls) = owners-still (expanded x c.ctl) ctls ∙ by c.ctl
  where
    by : (ctl : ScriptCtl) → (expanded x ctl).known.owners ≡ x.known.owners
    by (Run line) = refl
    by (Until t n) = refl

owner-is : (functions : List Func) (f : ℕ) → get_or (owners_of functions) f None ≡ module_of functions f
owner-is functions f = get_or-map (λ (g : Func). number_among (modules_in functions) g.owner) functions f no_func

module-within : (names : List (List ℕ)) (owner : Option (List ℕ)) (m : ℕ) → number_among names owner ≡ Some m → m < length names
module-within names None m e = absurd cc
module-within names (Some name) m e = (position-Some (bytes_eq name) names m [] e).0

module _ (above : Above) (lanes : above.lane_count ≡ 0) (n : ℕ) where
  abbrev known : Between
  known = (first_lines above lanes n).known

  -- a function that isn't hidden is there, by what the job says
  there-by : (owner : Option ℕ) (f : ℕ) → module_of above.functions f ≡ owner
      → not (is_hidden known.loaded owner) ≡ is_loaded_or_none (job_of above) known.commands owner
  there-by None f e = refl
  there-by (Some m) f e = twice (get_or known.loaded m true)
      ∙ sym (loaded-known above lanes n m (module-within (modules_in above.functions) (get_or above.functions f no_func).owner m e))
    where
      twice : (b : Bool) → not (not b) ≡ b
      twice true = refl
      twice false = refl

  open-there : (f : ℕ) → is_open known f ≡ is_there (job_of above) known.commands f
  unfolding job_of
  open-there f =
      ap (λ (owners : List (Option ℕ)). not (is_hidden known.loaded (get_or owners f None))) (owners-still (opened above) (take n above.ctls))
      ∙ ap (λ (owner : Option ℕ). not (is_hidden known.loaded owner)) (owner-is above.functions f)
      ∙ there-by (module_of above.functions f) f refl

  -- which sites are patched on the desk that is known
  module _ (run : CanRun above) where
    reached : IsReached known
    reached = known-reached above run.holds lanes (take n above.ctls) (each-first (λ c. IsLine above c.ctl) n above.ctls run.holds.lines.named)

    declared : known.declared ≡ (opened above).known.declared
    declared = declared-still (opened above) (take n above.ctls)

    sited-known : (u f : ℕ) → u < length above.users → f < length above.functions
        → is_sited known.desk u f ≡ (matches_by_own known.desk known u f && is_there (job_of above) known.commands f)
    sited-known u f user function =
        hides-functions known reached u f
        (subst (λ k. u < k) (sym (ap (λ (d : Declared). length d.specs) declared ∙ length-map above.users bare)) user)
        (subst (λ k. f < k) (sym (ap (λ (d : Declared). d.funcs) declared)) function)
        ∙ ap (λ there. matches_by_own known.desk known u f && there) (open-there f)

    sited-job : (u f : ℕ) → u < length above.users → f < length above.functions
        → is_sited (desk (job_of above) known.commands) u f
        ≡ (matches_by_own (desk (job_of above) known.commands) known u f && is_there (job_of above) known.commands f)
    sited-job u f user function =
        subst (λ (d : Desk). is_sited d u f ≡ (matches_by_own d known u f && is_there (job_of above) known.commands f)) (sym (desk-known above lanes n))
        (sited-known u f user function)

-- on each desk of the job between whole lines the functions of modules that aren't loaded are hidden
pub hides : (above : Above) → CanRun above → above.lane_count ≡ 0 → (n : ℕ) → HidesModules above (job_of above) n
hides above run lanes n = record {
  sited = sited-job above lanes n run;
  on = λ u f user function.
      ap (λ s. s && (user_at (desk (job_of above) (known_after above n).commands) u).enabled) (sited-job above lanes n run u f user function);
}
