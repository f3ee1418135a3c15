use Rattle.std.proofs.Common.{◌≡◌, List, map, ap, ◌∙◌, codes, true}
use Rattle.clap.specs.Words.{App, Text, HasMatchesOf, app_of, first_of, first_value, found_of, is_simple, matches_of, takes}
use Rattle.clap.specs.declared.parser.matches.ArgMatches.{ArgMatches}
use Rattle.clap.proofs.WalkLemmas.{first_value-rows}
use Rattle.ft_words.specs.Command.{app, is_taken, value_in}
use Rattle.std.proofs.lemmas.Bool.{false_from_ne_true}
use Rattle.ft_words.proofs.OnWords.{simple}
use Rattle.ft_words.proofs.command.find.Goals as goal

read : (a : App) (words : List Text) (m : ArgMatches) (id : Text) → a ≡ app → HasMatchesOf a words m → first_value (found_of m) id ≡ value_in id words
unfolding value_in
read a words m id e h = first_value-rows (found_of m) id ∙ ap (first_of id) ((h (ap is_simple e ∙ simple)).0 ∙ ap (λ b. matches_of b words) e)

pub returns-in-Ok-clause-mode : goal.returns-in-Ok-clause-mode
returns-in-Ok-clause-mode c = c.found_in.ensures.mode ∙ read (app_of c.args.command) (map (λ w. w.now) c.args.words.now) c.in-Ok.matches (codes "mode") c.requires c.in-Ok.ensures.matches

pub returns-in-Ok-clause-print : goal.returns-in-Ok-clause-print
returns-in-Ok-clause-print c = c.found_in.ensures.print ∙ read (app_of c.args.command) (map (λ w. w.now) c.args.words.now) c.in-Ok.matches (codes "print") c.requires c.in-Ok.ensures.matches

pub returns-in-Ok-clause-seed : goal.returns-in-Ok-clause-seed
returns-in-Ok-clause-seed c = c.found_in.ensures.seed ∙ read (app_of c.args.command) (map (λ w. w.now) c.args.words.now) c.in-Ok.matches (codes "seed") c.requires c.in-Ok.ensures.matches

taken_by : (a : App) (words : List Text) → a ≡ app → is_taken words ≡ true → takes a words ≡ true
unfolding is_taken
taken_by a words e h = ap (λ b. takes b words) e ∙ h

pub returns : goal.returns
returns c = record {
  mode = tt;
  print = tt;
  seed = tt;
  language = λ _. false_from_ne_true _ (λ taken. c.in_default.not-OutOfMemory (c.kind.ensures
      ∙ c.in-Err.ensures.passes (taken_by (app_of c.args.command) (map (λ w. w.now) c.args.words.now) c.requires taken)));
}
