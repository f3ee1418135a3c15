use Rattle.std.proofs.Common.{◌+◌, length, refl, arith, rules}
use Rattle.std.proofs.lemmas.Option.{slice_get_read}
use Rattle.patch_core.proofs.MoveLaws.{break_at, first_sync_at}
use Rattle.patch_core.proofs.batch.Batch.put_breakpoint.Goals as goal

pub returns-in-Some : goal.returns-in-Some
returns-in-Some c =
    let found = c.in-Some.ensures.lookup in
    let is = slice_get_read c.args.sites.now _ c.args.moved c.in-Some.change.now refl found.3.0 found.1 in
    rw (break_at c.args.sites.now c.args.moved c.in-Some.change.now is _ refl) (search rules)

pub returns-in-None : goal.returns-in-None
returns-in-None c =
    let past = c.in-None.ensures.lookup.3 in
    rw (first_sync_at c.args.sites.now (length c.args.sites.now + c.args.moved) c.requires.some (omega arith)) refl
