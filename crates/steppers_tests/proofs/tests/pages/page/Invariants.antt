use Rattle.std.proofs.Common.{◌≡◌}
use Rattle.filter_hash.specs.Pair.{size_of}
use Rattle.steppers_tests.proofs.tests.pages.page.Given as goal

abbrev pub invariant-loop-word : goal.invariant-loop-word
invariant-loop-word g l = size_of l.pair ≡ l.writer.shape.funcs
