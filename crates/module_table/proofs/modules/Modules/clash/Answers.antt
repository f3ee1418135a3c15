use Rattle.std.proofs.Common.{ap, sym, ◌∙◌, arith}
use Rattle.module_table.specs.Lines.{Between}
use Rattle.module_table.proofs.ClashLaws.{clash-busy, clash-none}
use Rattle.module_table.proofs.modules.Modules.clash.Goals as goal

pub returns-in-Some : goal.returns-in-Some
returns-in-Some c =
    let under = c.loop-f-test.true in
    let all = c.functions-f-end.ensures in
    let same = ap (λ (b : Between). b.declared.funcs) c.self.view_is in
    clash-busy c.args.self.now c.args.hidden.now c.loop-f.f c.in-Some.holder (omega (arith, under, all, same)) c.loop-f.invariant (sym c.in-Some.is ∙ c.holder.ensures)

pub returns : goal.returns
returns c =
    let past = c.loop-f-test.false in
    let all = c.functions-f-end.ensures in
    let same = ap (λ (b : Between). b.declared.funcs) c.self.view_is in
    clash-none c.args.self.now c.args.hidden.now (λ k l. c.loop-f.invariant k (omega (arith, past, all, same, l)))
