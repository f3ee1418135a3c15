use Rattle.std.proofs.Common.{◌≡◌, sym, ap, arith}
use Rattle.patch_core.specs.Moves.{Batched}
use Rattle.patch_core.proofs.MoveLaws.{store-is}
use Rattle.patch_core.proofs.batch.Batch.is_at_store.Goals as goal

pub returns : goal.returns
returns c =
    let same : c.self.inside.made ≡ c.args.self.now.made = ap (λ (b : Batched). b.made) c.self.view_is in
    sym (store-is c.args.sites.now c.args.self.now.made (omega (arith, same)) (λ q. omega (arith, same, q)) (λ q. omega (arith, same, q)) (λ q. omega (arith, same, q)))
