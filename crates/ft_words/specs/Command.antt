-- The command line as the parser is told it: a mode word, and two options with a value each.
use Rattle.std.specs.Prelude.{List, Option, Some, codes, true, Bool}
use Rattle.clap.specs.Words.{App, Rule, Text, new_app, new_rule, with_rule, takes, matches_of, first_of}

-- the mode, a word that must be there
abbrev pub mode_rule : Rule
mode_rule = record (new_rule (codes "mode")) { required = true }

-- the option `--print`
abbrev pub print_rule : Rule
print_rule = record (new_rule (codes "print")) { long = Some (codes "print") }

-- the option `--seed`
abbrev pub seed_rule : Rule
seed_rule = record (new_rule (codes "seed")) { long = Some (codes "seed") }

-- a command with no argument yet: its words don't hold the program's name, and it has no option for help
abbrev pub empty_app : App
empty_app = record (new_app (codes "ftcore")) { top = record (new_app (codes "ftcore")).top { no_binary_name = true; disable_help_flag = true } }

-- all that the parser is told
unfoldable pub app : App
app = with_rule (with_rule (with_rule empty_app mode_rule) print_rule) seed_rule

-- whether the parser takes the words, so that it can fail only if memory is out
unfoldable pub is_taken : List Text → Bool
is_taken words = takes app words

-- the value that the parser finds for an argument
unfoldable pub value_in : Text → List Text → Option Text
value_in id words = first_of id (matches_of app words)
