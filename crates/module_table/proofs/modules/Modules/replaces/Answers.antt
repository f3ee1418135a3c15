use Rattle.std.proofs.Common.{◌≡◌, ◌<◌, ◌&&◌, ◌||◌, not, true, length, get_or, is_some, ap, sym, subst, ◌∙◌, arith}
use Rattle.ft_base.specs.Marks.{Marks, holds, is_empty}
use Rattle.ft_base.specs.Desk.{spec_at}
use Rattle.ft_desk.specs.Declarations.{job_of}
use Rattle.module_table.specs.Lines.{Between, replaces}
use Rattle.module_table.specs.ModulesInvariant.{between}
use Rattle.module_table.proofs.ClashLaws.{modifier-at, own-size, filter-size, hidden-size, is-replaced}
use Rattle.module_table.proofs.modules.Modules.replaces.Goals as goal

pub is_matched-requires-clause-function : goal.is_matched-requires-clause-function
is_matched-requires-clause-function c =
    let b = between c.self.inside in
    let u = c.args.user.0 in
    let l : u < length b.declared.specs = subst (λ (x : Between). u < length x.declared.specs) (sym c.self.view_is) c.requires.user in
    let size : length c.args.hidden.now ≡ b.declared.funcs = c.requires.size ∙ ap (λ (x : Between). x.declared.funcs) (sym c.self.view_is) in
    let own = own-size b c.self.invariant.reached c.args.hidden.now size u l c.index-own.result.now c.index-own.ensures in
    let same = ap (λ (x : Between). x.declared.funcs) c.self.view_is in
    let lt = c.requires.function in
    omega (arith, own, same, lt)

pub is_matched-requires-clause-filter : goal.is_matched-requires-clause-filter
is_matched-requires-clause-filter c =
    let b = between c.self.inside in
    let u = c.args.user.0 in
    let l : u < length b.declared.specs = subst (λ (x : Between). u < length x.declared.specs) (sym c.self.view_is) c.requires.user in
    let size : length c.args.hidden.now ≡ b.declared.funcs = c.requires.size ∙ ap (λ (x : Between). x.declared.funcs) (sym c.self.view_is) in
    ap length c.pair.ensures.filter ∙ filter-size b c.self.invariant.reached c.args.hidden.now size u l c.index-own.result.now c.index-own.ensures

pub is_matched-requires-clause-hidden : goal.is_matched-requires-clause-hidden
is_matched-requires-clause-hidden c =
    let b = between c.self.inside in
    let u = c.args.user.0 in
    let l : u < length b.declared.specs = subst (λ (x : Between). u < length x.declared.specs) (sym c.self.view_is) c.requires.user in
    let size : length c.args.hidden.now ≡ b.declared.funcs = c.requires.size ∙ ap (λ (x : Between). x.declared.funcs) (sym c.self.view_is) in
    hidden-size b c.self.invariant.reached c.args.hidden.now size u l c.index-own.result.now c.index-own.ensures

pub returns : goal.returns
returns c =
    let b = between c.self.inside in
    let u = c.args.user.0 in
    let l : u < length b.declared.specs = subst (λ (x : Between). u < length x.declared.specs) (sym c.self.view_is) c.requires.user in
    let size : length c.args.hidden.now ≡ b.declared.funcs = c.requires.size ∙ ap (λ (x : Between). x.declared.funcs) (sym c.self.view_is) in
    let m : is_some (spec_at (job_of b.declared) u).ipmodify ≡ true =
    sym (modifier-at b.declared.specs u c.index.result.now l) ∙ ap (λ xs. get_or xs u c.index.result.now) (sym c.self.invariant.modifiers) ∙ sym c.index.ensures ∙ c.if-not-index.false in
    c.is_matched.ensures
    ∙ ap (λ (s : Marks). ((is_empty s || holds s c.args.f) && not (holds c.index-own.result.now c.args.f)) && not (holds c.args.hidden.now c.args.f)) c.pair.ensures.filter
    ∙ is-replaced b c.self.invariant.reached c.args.hidden.now size u l c.index-own.result.now c.index-own.ensures c.args.f (sym c.is_registered.ensures ∙ c.if-not-is_registered.false) m
    ∙ ap (λ (x : Between). replaces x c.args.hidden.now c.args.f u) c.self.view_is
