use Rattle.std.proofs.Common.{◌≡◌, replicate, true, false, get_or, set, take, refl, ap, sym, ◌∙◌, rules}
use Rattle.module_table.specs.Lines.{loaded_at_first}
use Rattle.module_table.proofs.ListLaws.{loaded-none, loaded-step, take-left}
use Rattle.module_table.proofs.owners.loaded_at_first.Goals as goal

pub loop-m-init : goal.loop-m-init
loop-m-init c =
    let all : c.in_ok-loaded.loaded.items ≡ replicate c.args.modules true = search rules in
    all ∙ loaded-none c.args.modules

pub loop-m-preserved : goal.loop-m-preserved
loop-m-preserved c =
    let i = c.loop-m.m-index in
    let a = get_or c.args.absent.now i 0 in
    let lt = c.loop-m-test.true in
    ap (λ xs. set xs a false) c.loop-m.invariant ∙ loaded-step c.args.modules (take i c.args.absent.now) a (c.requires i 0 lt)
    ∙ ap (loaded_at_first c.args.modules) (sym (take-left c.args.absent.now i a 0 lt refl))
