-- What a seat's operation is: one atomic step, at a moment at which the rule of the table holds.
use Rattle.std.specs.Prelude.{ℕ, ◌≡◌, ◌<◌, ◌^◌, List, [], ◌∷◌, Option, slice_index}
use mathlib.Core.Option.{some}
use lib.ListN.{get_elem?}
use Rattle.atomic_table.specs.Table.{Me, State, keeps, stepped}
use Rattle.ft_base.specs.declared.turn.Actor.{Actor}
use Rattle.ft_base.specs.declared.turn.Actor.TheVariants.{Control as ByControl}
use Rattle.ft_base.specs.Job.{Job}
use Rattle.word_map.specs.declared.op.Op.{Op}
use Rattle.word_machine.specs.Machine.{step}
use Rattle.live_table.specs.Views.{Part, View, TakesOne, leading, led_on}
use Rattle.live_table.specs.Operations.{op_after, op_gives, op_word}
use Rattle.live_table.specs.Rule.{LiveRule, led_at, state_at, state_for}

-- the seat's own actor
abbrev pub actor_of : List Part → Actor
actor_of [] = ByControl
actor_of (x ∷ xs) = x.actor

-- An atomic step on a word that held `found` and holds `left` after it, by a seat that knew `known` and knows `knows` after it. If it leads a
-- line, `line` is its number.
--   table      the table at the moment of the step
--   rule       its rule held
--   id, sits   the seat stood in it, with what it knew
--   found'     the word held this
--   fits       a number of 64 bits
--   rule'      the rule held after the step: the word's content and the seat's view are new, and nothing else is
--   led        the lines that are led then: one more, if the step leads one
--   row        with these lines, the word machine's state after it is that after a step of the seat's own actor
pub record AtomicStep (job : Job) (line : Option ℕ) (word found left : ℕ) (known knows : View) : Type 0 where
  pub table : State (Unit {0}) View
  pub rule : LiveRule job table
  pub id : ℕ
  pub sits : get_elem? table.views id ≡ some known
  pub found' : slice_index table.words word ≡ found
  pub fits : found < 2 ^ 64
  pub rule' : LiveRule job (stepped table word left id [] knows keeps)
  pub led : led_at rule' ≡ led_on job (led_at rule) line
  pub row : state_at rule' ≡ step (led_at rule') (actor_of known.parts) (state_for (led_at rule') rule)

-- it gave v, which the seat's own actor took, after it had led the line, if there is one
abbrev pub MakesStep : Option ℕ → ℕ → ℕ → ℕ → ℕ → Me (Unit {0}) View → Me (Unit {0}) View → Type 0
MakesStep line word found left v m n = TakesOne (leading line m.0, m.1) v n × AtomicStep m.0.job line word found left m.0 n.0

-- the step of an operation whose word held n
abbrev pub MakesOp : Option ℕ → Op → ℕ → Me (Unit {0}) View → Me (Unit {0}) View → Type 0
MakesOp line op n me m = MakesStep line (op_word op) n (op_after op n) (op_gives op n) me m
