-- What a job declares for its desk.
use Rattle.std.proofs.Common.{◌≡◌, List, length, map, All, refl, sym, ap, ◌∙◌, arith}
use Rattle.std.proofs.lemmas.List.{length-map}
use Rattle.std.proofs.lemmas.List.Elements.{All-from_recursion}
use Rattle.std.proofs.lemmas.Simd.{map-map}
use Rattle.ft_base.specs.Job.{Job, Spec as PlainSpec}
use Rattle.ft_base.proofs.Versions.{few-largest}
use Rattle.user_specs.specs.Plain.{spec_of, cpu_of}
use Rattle.word_map.specs.Shapes.{IsShape, shape_of}
use Rattle.ft_desk.specs.Declarations.{Declared, IsOf, bare, declared_by}
use Rattle.ft_desk.specs.Lines.{IsLineIn}
use Rattle.ft_job.specs.declared.parts.JobParts.{JobParts}
use Rattle.ft_job.specs.Parts.{parts_of, declared_of, IsWithin, job_of}
use Rattle.ft_job.proofs.JobLaws.{seen-functions, seen-users, seen-tramps, seen-count, users-count, cpus-count, seen-limited}

-- what a desk keeps of a job
abbrev pub kept : JobParts → Job → Declared
kept p j = declared_by p.specs.items (shape_of j)

module _ (p : JobParts) (j : Job) (e : job_of (parts_of p) ≡ j) where
  -- its shape
  pub shape-is : shape_of j
      ≡ record { funcs = length p.table.functions; users = length p.specs.items; cpus = length p.cpus.items; tasks = length j.tasks; tramps = p.tramps }
  shape-is = λ i. record {
    funcs = length (sym (seen-functions p j e) i);
    users = sym (users-count p j e) i;
    cpus = sym (cpus-count p j e) i;
    tasks = length j.tasks;
    tramps = sym (seen-tramps p j e) i;
  }

  kept-specs : (kept p j).specs ≡ map bare j.users
  kept-specs = sym (map-map bare spec_of p.specs.items) ∙ ap (λ (us : List PlainSpec). map bare us) (seen-users p j e)

  kept-is : declared_of (parts_of p) ≡ kept p j
  kept-is = λ i. record {
    specs = map-map bare spec_of p.specs.items i;
    funcs = length (seen-functions p j e i);
    tasks = seen-count p j e i;
    tramps = seen-tramps p j e i;
  }

  pub is-of : IsOf j (kept p j)
  is-of = record { specs = kept-specs; funcs = refl; tasks = refl; tramps = refl }

  module _ (w : IsWithin (parts_of p)) where
    pub shape-within : IsShape (shape_of j)
    shape-within =
        record {
          counts = few-largest j.version (seen-limited p j e w).counts;
          few_cpus = let few = w.cpus in let same = cpus-count p j e in let n = length-map p.cpus.items cpu_of in omega (arith, few, same, n);
        }

    pub lines-in : All (IsLineIn (kept p j)) p.ctls.items
    lines-in = All-from_recursion (IsLineIn (kept p j)) p.ctls.items (rw (← kept-is) w.lines)
