-- The lines of a script that say something, and those of its commands.
use Rattle.std.specs.Prelude.{ℕ, zero, suc, Bool, true, false, not, ◌&&◌, ◌-◌, ◌==◌, nat_le, List, [], ◌∷◌, filter, length, map, codes, Option, Some, None, option_map, slice_get, unwrap_or, if◌then◌else◌}
use Rattle.std.specs.List.{list_any}
use Rattle.std.specs.Option.{option_and_then}
use Rattle.std.specs.Str.{bytes_eq}
use Rattle.ft_base.specs.Job.{Job, ModuleRow}
use Rattle.script_text.specs.Lines.{Line, Word, lines_of, words_of, is_skipped, is_plain}
use Rattle.trace_views.specs.Words.{lane_at}
use Rattle.told_facts.specs.declared.lines.CommandLines.{CommandLines}
use Rattle.told_facts.specs.declared.lines.ScriptLine.{ScriptLine}

-- a line that says something: its number in the script, from 1, the lane whose commands stand there, 0 if there is none, and its words
pub record SaidLine : Type 0 where
  pub number : ℕ
  pub lane : ℕ
  pub words : List Word

-- a line as the program holds it
abbrev pub said_of : ScriptLine → SaidLine
said_of line = record { number = line.number; lane = line.lane; words = map (λ w. w.now) line.words.items }

-- the words of a line that says something; of any other line none
abbrev pub words_said : List ℕ → List Word
words_said bytes = if is_skipped (words_of bytes) then [] else (if is_plain bytes then words_of bytes else [])

-- a line of these words begins a lane
abbrev pub is_lane : List Word → Bool
is_lane [] = false
is_lane (key ∷ words) = bytes_eq key (codes "lane")

-- a line of these words is one of control that isn't a wait
abbrev pub is_command : List Word → Bool
is_command [] = false
is_command (key ∷ []) = false
is_command (key ∷ next ∷ words) = bytes_eq key (codes "ctl") && not (bytes_eq next (codes "until"))

-- how many lanes there are after a line of these words
abbrev pub lanes_after : ℕ → List Word → ℕ
lanes_after lanes words = if is_lane words then suc lanes else lanes

-- a line of these words before others, if it says something
abbrev pub said_before : ℕ → ℕ → List Word → List SaidLine → List SaidLine
said_before number lanes [] below = below
said_before number lanes (word ∷ words) below = record { number = number; lane = lanes - 1; words = word ∷ words } ∷ below

-- what these lines say, below so many lines and so many lanes
abbrev pub said_below : ℕ → ℕ → List Line → List SaidLine
said_below number lanes [] = []
said_below number lanes (line ∷ below) =
    let words = words_said line.bytes in
    said_before (suc number) (lanes_after lanes words) words (said_below (suc number) (lanes_after lanes words) below)

-- the lines of a script that say something
abbrev pub said_in : List ℕ → List SaidLine
said_in script = said_below 0 0 (lines_of script)

-- ## the lines of commands

-- a command is one of a line that loads or unloads a module, and not the first of them
abbrev pub is_later : ℕ → ModuleRow → Bool
is_later k row = not (nat_le k row.first) && nat_le k row.last

-- how many commands hide modules before the first line: one for each user, if a module isn't loaded at first
abbrev pub hides : Job → ℕ
hides job = if length job.lines.absent == 0 then 0 else length job.users

-- the command of this number, from 1, is the first of a line of control
abbrev pub begins_line : Job → ℕ → Bool
begins_line job k = not (nat_le k (hides job)) && not (list_any (is_later k) job.lines.modules)

-- a line that was found behind this one, and the others
abbrev pub found_behind : SaidLine → Option (SaidLine × List SaidLine) → Option (SaidLine × List SaidLine)
found_behind line None = None
found_behind line (Some found) = Some (found.0, line ∷ found.1)

-- the first line of a lane, and the others
abbrev pub first_of : ℕ → List SaidLine → Option (SaidLine × List SaidLine)
first_of lane [] = None
first_of lane (line ∷ lines) = if line.lane == lane then Some (line, lines) else found_behind line (first_of lane lines)

-- the line of a command, if it has one, and the lines whose commands are still to come
pub record LinesAt : Type 0 where
  pub at : Option SaidLine
  pub left : List SaidLine

-- the line that was found is the command's; if none was, all stays
abbrev pub going_on : LinesAt → Option (SaidLine × List SaidLine) → LinesAt
going_on lines None = lines
going_on lines (Some found) = record { at = Some found.0; left = found.1 }

-- the same at the command of this number, from 1, by that at the command before it: the first command of a line takes the next one of its lane
abbrev pub lines_after : Job → ℕ → LinesAt → LinesAt
lines_after job k lines = if begins_line job k then going_on lines (first_of (unwrap_or (lane_at job k) 0) lines.left) else lines

-- the same at the command of this number; before the first command none has been taken
abbrev pub lines_at : Job → List SaidLine → ℕ → LinesAt
lines_at job lines zero = record { at = None; left = filter (λ (l : SaidLine). is_command l.words) lines }
lines_at job lines (suc k) = lines_after job (suc k) (lines_at job lines k)

-- the line of the command of this number, from 0
abbrev pub line_of : Job → List SaidLine → ℕ → Option SaidLine
line_of job lines k = (lines_at job lines (suc k)).at

-- a place that there may be
abbrev pub place_in : Option (Option ℕ) → Option ℕ
place_in None = None
place_in (Some place) = place

-- the same as the program holds it
abbrev pub line_in : CommandLines → ℕ → Option SaidLine
line_in c k = option_map said_of (option_and_then (λ place. slice_get c.lines.items place) (place_in (slice_get c.places.items k)))
