use Rattle.std.proofs.Common.{ℕ, ◌+◌, ◌-◌, List, Option, length, take, drop, sym, arith, take-append-drop, length-take, length-drop}
use Rattle.std.proofs.Math.Seq.{take-add}
use Rattle.std.proofs.lemmas.List.{take_rest}
use Rattle.std.proofs.KnownBytes.{Appends-trans, Appends-kept}
use Rattle.std.specs.Io.KnownBytes.{Appends}
use Rattle.ft_io.proofs.sink.write_all.Goals as goal

-- one more piece was taken
more : (a b c : Option (List ℕ)) (xs : List ℕ) (at n : ℕ) → Appends a b (take at xs) → Appends b c (take n (take (length xs - at) (drop at xs))) → Appends a c (take (at + n) xs)
more a b c xs at n given then' = rw (take-add at n xs) (Appends-trans a b c _ _ given (rw (take_rest xs at) at then'))

pub returns-in_default-clause-front : goal.returns-in_default-clause-front
returns-in_default-clause-front g c = (
  take c.loop-at.at c.args.bytes.now,
  drop c.loop-at.at c.args.bytes.now,
  sym (take-append-drop c.loop-at.at c.args.bytes.now),
  Appends-kept _ _ _ _ c.loop-at.invariant.given c.in_default.ensures.bytes,
)

pub returns-then-n-eq0-clause-front : goal.returns-then-n-eq0-clause-front
returns-then-n-eq0-clause-front g c = (
  take (c.loop-at.at + c.in-Ok.n) c.args.bytes.now,
  drop (c.loop-at.at + c.in-Ok.n) c.args.bytes.now,
  sym (take-append-drop (c.loop-at.at + c.in-Ok.n) c.args.bytes.now),
  more _ _ _ c.args.bytes.now c.loop-at.at c.in-Ok.n c.loop-at.invariant.given c.in-Ok.ensures.bytes,
)

pub loop-at-preserved : goal.loop-at-preserved
loop-at-preserved g c = record {
  given = more _ _ _ c.args.bytes.now c.loop-at.at c.in-Ok.n c.loop-at.invariant.given c.in-Ok.ensures.bytes;
  faults = omega (arith, c.in-Ok.ensures.cause.later);
  within = omega (arith, c.in-Ok.ensures.bound, length-take {A = ℕ}, length-drop {A = ℕ});
}
