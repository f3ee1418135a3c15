use Rattle.std.proofs.Common.{◌≡◌, ℕ, List, ◌++◌, Option, Some, None, sym, ap, ◌∙◌, arith}
use Rattle.std.proofs.lemmas.Bool.Decides.{Decides-eqb}
use Rattle.std.proofs.lemmas.Slice.Eq.{strip_prefix_is}
use Rattle.ft_base.specs.declared.item.Item.{Item}
use Rattle.trace_views.specs.LogText.{log_line}
use Rattle.log_reader.proofs.line.first_item.Goals as goal

pub returns-in-Some-strip_prefix-clause-taken : goal.returns-in-Some-strip_prefix-clause-taken
returns-in-Some-strip_prefix-clause-taken g c =
    let job = g.N.Named.job c.args.names.now in
    let written = c.line.ensures ∙ c.in_ok-write.ensures.line in
    let begins = strip_prefix_is Decides-eqb c.args.text.now c.line.result.now (Some c.in-Some-strip_prefix.rest) c.in-Some-strip_prefix.ensures.cases in
    (c.in-Some.ensures.numbered job c.requires.found, begins ∙ ap (λ (t : List ℕ). t ++ c.in-Some-strip_prefix.rest.now) written)

pub returns-in-None-clause-refused : goal.returns-in-None-clause-refused
returns-in-None-clause-refused g c = λ _ apart item more numbered e.
    let job = g.N.Named.job c.args.names.now in
    let found : ◌≡◌ {A = Option Item} (Some c.in-Some.item) (Some item) = c.in-Some.ensures.found job c.args.place item more c.requires.found apart (omega arith) numbered e in
    let same : item ≡ c.in-Some.item = cc in
    let written = c.line.ensures ∙ c.in_ok-write.ensures.line in
    let line : log_line job c.args.place item ≡ c.line.result.now = ap (λ (x : Item). log_line job c.args.place x) same ∙ sym written in
    let other = strip_prefix_is Decides-eqb c.args.text.now c.line.result.now None c.in-None.ensures.cases in
    other more (e ∙ ap (λ (t : List ℕ). t ++ more) line)
