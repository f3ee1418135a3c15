use Rattle.std.proofs.Common.{length, is_some, ap, ◌∙◌}
use Rattle.ft_script.specs.ReaderInvariant.{above_of, script_ctl_of}
use Rattle.ft_script.proofs.ReaderParts.{pushed-as, added-kept, few-commands}
use Rattle.ft_script.proofs.CommandCounts.{ctl-few}
use Rattle.ft_script.proofs.reader.Reader.add_ctl.Goals as goal

pub command_count-requires-clause-few : goal.command_count-requires-clause-few
command_count-requires-clause-few c =
    let r = c.args.self.now in
    let e = c.in_ok-expand.ensures in
    let p = c.in_ok-push_ctl.ensures in
    ctl-few r c.push_ctl.new.self c.requires.kept (added-kept r c.expand.new.self c.push_ctl.new.self c.requires.kept e.above c.args.ctl p.above p.rest c.requires.fits.2 e.names e.expansion e.open)
    (script_ctl_of (length r.tasks.items) c.args.ctl) (pushed-as r c.expand.new.self c.push_ctl.new.self c.requires.kept e.above c.args.ctl p.above p.rest)
    (λ l. ap is_some p.rest.expansion ∙ e.open l) c.requires.small.within.few_commands

pub command_count-requires-clause-kept : goal.command_count-requires-clause-kept
command_count-requires-clause-kept c =
    let e = c.in_ok-expand.ensures in
    let p = c.in_ok-push_ctl.ensures in
    added-kept c.args.self.now c.expand.new.self c.push_ctl.new.self c.requires.kept e.above c.args.ctl p.above p.rest c.requires.fits.2 e.names e.expansion e.open

pub returns-clause-kept : goal.returns-clause-kept
returns-clause-kept c =
    let e = c.in_ok-expand.ensures in
    let p = c.in_ok-push_ctl.ensures in
    added-kept c.args.self.now c.expand.new.self c.push_ctl.new.self c.requires.kept e.above c.args.ctl p.above p.rest c.requires.fits.2 e.names e.expansion e.open

pub returns-clause-few : goal.returns-clause-few
returns-clause-few c =
    let r = c.args.self.now in
    let e = c.in_ok-expand.ensures in
    let p = c.in_ok-push_ctl.ensures in
    few-commands (above_of r) (above_of c.push_ctl.new.self) (script_ctl_of (length r.tasks.items) c.args.ctl) c.command_count.result c.command_count.ensures
    (pushed-as r c.expand.new.self c.push_ctl.new.self c.requires.kept e.above c.args.ctl p.above p.rest) c.if-command_count-gt-COMMANDS.false
