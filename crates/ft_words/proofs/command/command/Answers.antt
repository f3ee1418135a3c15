use Rattle.std.proofs.Common.{rules, ◌≡◌, ap, ap₂, ◌∙◌, true}
use Rattle.std.proofs.lemmas.Result.{IfOk-weaker}
use Rattle.clap.specs.Simple.{app_of_fields}
use Rattle.clap.specs.Words.{App, app_of, rule_of, with_rule}
use Rattle.clap.specs.declared.builder.command.Command.{Command}
use Rattle.clap.specs.declared.builder.command.Command.TheOpen.{Command-F}
use Rattle.ft_words.specs.Command.{app, empty_app, mode_rule, print_rule, seed_rule}
use Rattle.ft_words.proofs.command.command.Goals as goal

pub returns : goal.returns
unfolding app
returns c =
    let mode_is : rule_of c.required-mode.result ≡ mode_rule = search rules in
    let print_is : rule_of c.long-print.result ≡ print_rule = search rules in
    let seed_is : rule_of c.long-seed.result ≡ seed_rule = search rules in
    let empty_is : app_of c.disable_help_flag.result ≡ empty_app =
    ap app_of_fields c.disable_help_flag.ensures
    ∙ ap (λ (f : Command-F Command). app_of_fields (record f { disable_help_flag = true })) c.no_binary_name.ensures
    ∙ ap (λ (a : App). record a { top = record a.top { no_binary_name = true; disable_help_flag = true } }) c.new-4.ensures.app in
    IfOk-weaker c.arg-3.result _ _ (λ r h. h.shape (search rules)
    ∙ ap₂ with_rule (c.in_ok-arg-2.ensures.shape (search rules)
    ∙ ap₂ with_rule (c.in_ok-arg.ensures.shape (search rules) ∙ ap₂ with_rule empty_is mode_is) print_is) seed_is) c.arg-3.ensures
