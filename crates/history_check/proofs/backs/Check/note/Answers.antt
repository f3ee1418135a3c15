-- Calls and visits follow the item, then the open callbacks, then the counts.
use Rattle.std.proofs.Common.{◌∙◌, ◌∷◌, ap}
use Rattle.history_check.specs.declared.backs.Check.{Check}
use Rattle.history_check.specs.CallbackList.{callbacks_of}
use Rattle.history_check.proofs.BacksLaws.{same-calls}
use Rattle.history_check.proofs.backs.Check.note.Goals as goal

pub returns : goal.returns
returns c = λ job past k.
    let item = c.args.item.now in
    let kept = c.keeps.ensures.rest in
    let counted = c.count.ensures.rest in
    record {
      told = c.in_ok-keeps.ensures.told job past k;
      kept = λ t. record {
        desks = rw (ap (λ (x : Check). x.desks) counted, ap (λ (x : Check). x.desks) kept) k.desks;
        calls = same-calls job (item ∷ past) c.keeps.new.self c.count.new.self (ap (λ (x : Check). x.entries) counted) (ap (λ (x : Check). x.visited) counted) (c.in_ok-keeps.ensures.kept job past k t);
        callbacks' = ap (λ (x : Check). callbacks_of x.callbacks) counted ∙ c.in_ok-follow.ensures past (ap (λ (x : Check). callbacks_of x.callbacks) kept ∙ k.callbacks') (c.context_of-ctx.ensures job past k);
        done' = c.count.ensures.done past (ap (λ (x : Check). x.done) kept ∙ k.done');
        begun' = c.count.ensures.begun past (ap (λ (x : Check). x.begun) kept ∙ k.begun');
      };
    }
