use Rattle.std.proofs.Common.{◌≢◌, [], length, vec_len, sym, ap, ◌∙◌, arith}
use Rattle.std.proofs.lemmas.Bool.{eqb-false}
use Rattle.ft_script.proofs.CommandCounts.{lanes-counted, users-counted}
use Rattle.ft_script.proofs.reader.Reader.unexpanded_count.Goals as goal

pub overflow_cast-result : goal.overflow_cast-result
overflow_cast-result c =
    let r = c.args.self.now in
    let n = lanes-counted r c.requires.kept (λ e. omega (arith, e, c.if-self-gt0.true)) in
    omega (arith, n, c.requires.few, c.len.ensures, r.ctls.ok.0)

pub returns-then-self-gt0 : goal.returns-then-self-gt0
returns-then-self-gt0 c =
    let r = c.args.self.now in
    let n = lanes-counted r c.requires.kept (λ e. omega (arith, e, c.if-self-gt0.true)) in
    omega (arith, n, c.len.ensures, r.ctls.ok.0)

pub overflow_cast-result-else-is_empty : goal.overflow_cast-result-else-is_empty
overflow_cast-result-else-is_empty c =
    let r = c.args.self.now in
    let away : r.absent.items ≢ [] = λ e. eqb-false (vec_len r.absent) 0 (sym c.is_empty.ensures ∙ c.if-is_empty.false) (omega (arith, ap length e, r.absent.ok.0)) in
    let n = users-counted r c.requires.kept (omega (arith, c.if-self-gt0.false)) c.requires.none away in
    omega (arith, n, c.requires.few, c.len-else-is_empty.ensures, r.users.ok.0)

pub returns-else-is_empty : goal.returns-else-is_empty
returns-else-is_empty c =
    let r = c.args.self.now in
    let away : r.absent.items ≢ [] = λ e. eqb-false (vec_len r.absent) 0 (sym c.is_empty.ensures ∙ c.if-is_empty.false) (omega (arith, ap length e, r.absent.ok.0)) in
    let n = users-counted r c.requires.kept (omega (arith, c.if-self-gt0.false)) c.requires.none away in
    omega (arith, n, c.len-else-is_empty.ensures, r.users.ok.0)
