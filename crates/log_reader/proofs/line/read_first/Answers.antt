use Rattle.std.proofs.Common.{◌≡◌, List, ℕ, Option, Some, None, ap, ◌∙◌}
use Rattle.log_reader.specs.Found.{lookups}
use Rattle.log_reader.specs.Reading.{item_in}
use Rattle.log_reader.proofs.FirstLines.{bare_line, first-line}
use Rattle.log_reader.proofs.ReadAgain.{item-again}
use Rattle.log_reader.proofs.ReadNumbers.{item-numbered}
use Rattle.log_reader.proofs.line.read_first.Goals as goal

pub returns-in_err-first_line-clause-found : goal.returns-in_err-first_line-clause-found
returns-in_err-first_line-clause-found c = λ job place item more known apart lt numbered e.
    let line = bare_line job place item in
    let no_line : ◌≡◌ {A = Option (List ℕ)} None (Some line) = c.in_err-first_line.ensures line (first-line job apart place item c.args.text.now more lt numbered.of_job e) in
    absurd cc

pub returns-clause-numbered : goal.returns-clause-numbered
returns-clause-numbered c = λ job known. rw c.read_item.ensures (item-numbered job (lookups c.args.numbers.now) known c.in_ok-first_line.field-0.now)

pub returns-clause-found : goal.returns-clause-found
returns-clause-found c = λ job place item more known apart lt numbered e.
    let line = bare_line job place item in
    let found : ◌≡◌ {A = Option (List ℕ)} (Some c.in_ok-first_line.field-0.now) (Some line) =
    c.in_ok-first_line.ensures line (first-line job apart place item c.args.text.now more lt numbered.of_job e) in
    let same : c.in_ok-first_line.field-0.now ≡ line = cc in
    c.read_item.ensures ∙ ap (λ (t : List ℕ). item_in (lookups c.args.numbers.now) t) same ∙ item-again job (lookups c.args.numbers.now) known apart place item lt numbered
