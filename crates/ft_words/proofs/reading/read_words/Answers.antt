use Rattle.std.proofs.Common.{rules, ◌≡◌, ap, sym, ◌∙◌, Err}
use Rattle.std.specs.Option.{option_copied}
use Rattle.std.proofs.lemmas.Result.{err_from_is_err_and}
use Rattle.ft_words.specs.declared.order.WordsFault.{WordsFault}
use Rattle.ft_words.specs.declared.order.WordsFault.TheVariants.{Language}
use Rattle.ft_words.proofs.Found.{none-not_taken, none-no_mode, none-other_mode, none-no_form, none-no_seed, replay≢bulk, run≢bulk}
use Rattle.ft_words.proofs.reading.read_words.Goals as goal

pub returns-in_err-found-clause-language : goal.returns-in_err-found-clause-language
returns-in_err-found-clause-language c = λ e.
    let p = err_from_is_err_and c.from_residual-in_err-found.result c.from_residual-in_err-found.ensures.1 in
    let same : c.in_err-found.field-0.0 ≡ Language = cc in
    none-not_taken _ (c.in_err-found.ensures.language (ap (λ (f : WordsFault). Err f) same))

pub returns-in_default-clause-language : goal.returns-in_default-clause-language
returns-in_default-clause-language c = λ _. none-no_mode _ (sym (ap option_copied c.in_default.is) ∙ c.in_ok-found.ensures.mode)

pub returns-in_err-read_form-in-replay-clause-language : goal.returns-in_err-read_form-in-replay-clause-language
returns-in_err-read_form-in-replay-clause-language c = λ e.
    let p = err_from_is_err_and c.from_residual-in_err-read_form-in-replay.result c.from_residual-in_err-read_form-in-replay.ensures.1 in
    let same : c.in_err-read_form-in-replay.field-0.0 ≡ Language = cc in
    none-no_form _ c.in-Some.mode.now (option_copied c.in_ok-found.found.print)
    (sym (ap option_copied c.in-Some.is) ∙ c.in_ok-found.ensures.mode) (λ is. replay≢bulk (sym c.in-replay.is ∙ is)) c.in_ok-found.ensures.print
    (c.in_err-read_form-in-replay.ensures.language (ap (λ (f : WordsFault). Err f) same))

pub returns-in_err-read_form-in-run-clause-language : goal.returns-in_err-read_form-in-run-clause-language
returns-in_err-read_form-in-run-clause-language c = λ e.
    let p = err_from_is_err_and c.from_residual-in_err-read_form-in-run.result c.from_residual-in_err-read_form-in-run.ensures.1 in
    let same : c.in_err-read_form-in-run.field-0.0 ≡ Language = cc in
    none-no_form _ c.in-Some.mode.now (option_copied c.in_ok-found.found.print)
    (sym (ap option_copied c.in-Some.is) ∙ c.in_ok-found.ensures.mode) (λ is. run≢bulk (sym c.in-run.is ∙ is)) c.in_ok-found.ensures.print
    (c.in_err-read_form-in-run.ensures.language (ap (λ (f : WordsFault). Err f) same))

pub returns-in_err-read_seed-in-bulk-clause-language : goal.returns-in_err-read_seed-in-bulk-clause-language
returns-in_err-read_seed-in-bulk-clause-language c = λ e.
    let p = err_from_is_err_and c.from_residual-in_err-read_seed-in-bulk.result c.from_residual-in_err-read_seed-in-bulk.ensures.1 in
    let same : c.in_err-read_seed-in-bulk.field-0.0 ≡ Language = cc in
    none-no_seed _ c.in-Some.mode.now (option_copied c.in_ok-found.found.seed)
    (sym (ap option_copied c.in-Some.is) ∙ c.in_ok-found.ensures.mode) c.in-bulk.is c.in_ok-found.ensures.seed
    (c.in_err-read_seed-in-bulk.ensures.language (ap (λ (f : WordsFault). Err f) same))

pub returns-in_default-mode-clause-language : goal.returns-in_default-mode-clause-language
returns-in_default-mode-clause-language c = λ _.
    none-other_mode _ c.in-Some.mode.now (sym (ap option_copied c.in-Some.is) ∙ c.in_ok-found.ensures.mode)
    c.in_default-mode.not-replay c.in_default-mode.not-run c.in_default-mode.not-bulk

pub returns-in_err-command-clause-language : goal.returns-in_err-command-clause-language
returns-in_err-command-clause-language c = search rules

pub returns-in_ok-read_form-in-run-clause-gives : goal.returns-in_ok-read_form-in-run-clause-gives
returns-in_ok-read_form-in-run-clause-gives c = search rules
