use Rattle.std.proofs.Common.{codes}
use Rattle.script_text.proofs.KeyLemmas.{is_no_key}
use Rattle.script_form.proofs.keyed.read_keyed.Goals as goal

pub returns-in_default : goal.returns-in_default
returns-in_default c =
    let a = is_no_key c.args.key.now (codes "ctl") c.in_default.not-ctl in
    let b = is_no_key c.args.key.now (codes "sched") c.in_default.not-sched in
    rw (a, b) c.read_unlisted.ensures
