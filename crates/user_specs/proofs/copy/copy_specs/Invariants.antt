use Rattle.std.proofs.Common.{◌≡◌, ◌++◌, map, drop}
use Rattle.user_specs.specs.Plain.{spec_of}
use Rattle.user_specs.proofs.copy.copy_specs.Given as goal

abbrev pub invariant-loop-spec : goal.invariant-loop-spec
invariant-loop-spec l = map spec_of l.copies.items ++ map spec_of (drop l.spec-index l.specs) ≡ map spec_of l.specs
