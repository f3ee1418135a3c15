-- The lanes that the lines of a log name.
use Rattle.std.specs.Prelude.{ℕ, ◌==◌, List, [], ◌∷◌, codes, Option, Some, None, if◌then◌else◌}
use Rattle.std.specs.List.{slice_split}
use Rattle.std.specs.Str.{bytes_eq, is_utf8}
use Rattle.ft_base.specs.declared.item.Item.{Item}
use Rattle.ft_base.specs.declared.item.Item.TheVariants.{Begin}
use Rattle.ft_base.specs.Job.{Job}
use Rattle.trace_views.specs.Words.{lane_at}
use Rattle.log_reader.specs.Reading.{before, after, number_in}

-- the lane that a line names which is cut so: its place, its kind, a number, a word and the rest
abbrev pub lane_by : List ℕ → List ℕ → List ℕ → Option ℕ
lane_by kind word rest = if bytes_eq kind (codes "begin") then (if bytes_eq word (codes "lane") then number_in rest else None) else None

-- the lane that a line names, if it is the line of a command that begins
unfoldable pub lane_in : List ℕ → Option ℕ
lane_in line = lane_by (before 32 (after 32 line)) (before 32 (after 32 (after 32 (after 32 line)))) (after 32 (after 32 (after 32 (after 32 line))))

-- the lane that the bytes of a line name; a line that isn't UTF-8 names none
abbrev pub named_in : List ℕ → Option ℕ
named_in line = if is_utf8 line then lane_in line else None

-- a lane, if there is one, before others
abbrev pub with_lane : Option ℕ → List ℕ → List ℕ
with_lane None lanes = lanes
with_lane (Some lane) lanes = lane ∷ lanes

-- the lanes that lines name, in order: the parts of a text between its line feeds, of which the last is no line
abbrev pub lanes_among : List (List ℕ) → List ℕ
lanes_among [] = []
lanes_among (part ∷ []) = []
lanes_among (part ∷ next ∷ parts) = with_lane (named_in part) (lanes_among (next ∷ parts))

-- the lanes that the lines of a text name, in order
unfoldable pub lanes_named : List ℕ → List ℕ
lanes_named text = lanes_among (slice_split (λ b. b == 10) text)

-- the lane of a command that begins by this item
abbrev pub begun_lane : Job → Item → Option ℕ
begun_lane job (Begin k) = lane_at job k
begun_lane job _ = None

-- the lanes of the commands that begin among these items, in order
abbrev pub lanes_begun : Job → List Item → List ℕ
lanes_begun job [] = []
lanes_begun job (item ∷ rest) = with_lane (begun_lane job item) (lanes_begun job rest)
