-- The text of a history, form profile: for each profile user a line a function in whose calls it was called back, and for each fprobe how
-- often it was called back, and how often it missed (ftrace.rst, function_profile_enabled; fprobe.rst, The missed counter).
use Rattle.std.specs.Prelude.{ℕ, Bool, List, [], ◌++◌, codes, if◌then◌else◌}
use Rattle.std.specs.Fmt.{decimal}
use Rattle.ft_base.specs.declared.item.Item.{Item}
use Rattle.ft_base.specs.Job.{Job, Spec, funcs}
use Rattle.ft_base.specs.Kinds.{is_fprobe}
use Rattle.ft_hist.specs.Counts.{backs_of, missed_by}
use Rattle.func_profile.specs.declared.profile.ProfileRow.{ProfileRow}
use Rattle.func_profile.specs.Rows.{rows_of}
use Rattle.trace_views.specs.declared.profile.ProfileLine.{ProfileLine}
use Rattle.trace_views.specs.declared.profile.ProfileLine.TheVariants.{User, Row, Fprobe}
use Rattle.trace_views.specs.Words.{Word, function_word, user_word, user_line, last_line, lines_text, numbered_texts, is_profile}

-- the line of a row: the function, its hits and its time
unfoldable pub row_line : Job → ProfileRow → List ℕ
row_line job row = function_word job row.func.0 ++ (codes " " ++ (decimal row.hits ++ (codes " " ++ (decimal row.time ++ codes "\n"))))

-- the line of an fprobe: its name, how often it was called back, and how often it missed
unfoldable pub counts_line : Word → ℕ → ℕ → List ℕ
counts_line name hits missed = codes "# fprobe " ++ (name ++ (codes " hits " ++ (decimal hits ++ (codes " missed " ++ (decimal missed ++ codes "\n")))))

-- the text of a line
abbrev pub profile_line_text : Job → ProfileLine → List ℕ
profile_line_text job (User u) = user_line (user_word job u.0)
profile_line_text job (Row row) = row_line job row
profile_line_text job (Fprobe u hits missed) = counts_line (user_word job u.0) hits missed

-- what a user prints if it is a profile user
abbrev pub user_profile : Job → List Item → ℕ → Spec → List ℕ
user_profile job items u spec = if is_profile spec.kind then user_line spec.name ++ lines_text (row_line job) (rows_of items u (funcs job)) else []

-- what a user prints if it is an fprobe
abbrev pub fprobe_line : List Item → ℕ → Spec → List ℕ
fprobe_line items u spec = if is_fprobe spec.kind then counts_line spec.name (backs_of u items) (missed_by u items) else []

-- the text: the profile users in order, then the fprobes
unfoldable pub profile_text : Job → List Item → Bool → List ℕ
profile_text job items ended = numbered_texts (user_profile job items) 0 job.users ++ (numbered_texts (fprobe_line items) 0 job.users ++ last_line ended)
