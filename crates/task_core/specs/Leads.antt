-- Where a task stands in code, and where loaded words and an act lead.
use Rattle.std.specs.Prelude.{ℕ, zero, suc, ◌+◌, ◌≡◌, ◌<◌, Bool, true, false, ◌==◌, Option, Some, None, if◌then◌else◌}
use Rattle.ft_base.specs.declared.limits.TheConstants.{TRAMPS}
use Rattle.ft_base.specs.declared.item.Ran.{Ran}
use Rattle.ft_base.specs.declared.item.Ran.TheVariants.{List as ByList}
use Rattle.ft_base.specs.declared.number.UserNo.{UserNo}
use Rattle.ft_hist.specs.Plain.{Owed}
use Rattle.site_bytes.specs.Bytes.{breakpoint}
use Rattle.word_map.specs.Instructions.{head_of, tail_of}
use Rattle.task_core.specs.declared.moment.Moment.{Moment}
use Rattle.task_core.specs.declared.moment.Moment.TheVariants.{Polling, First, Load, Mark}
use Rattle.task_core.specs.declared.moment.ToLoad.TheVariants.{GotHead, GotBreak, InTramp, Walking}
use Rattle.task_core.specs.declared.moment.ToMark.TheVariants.{Acting, Ending, Closing}

-- between two acts
abbrev pub is_quiet : Moment → Bool
is_quiet Polling = true
is_quiet First = true
is_quiet _ = false

-- between the two loads of a fetch
abbrev pub is_fetching : Moment → Bool
is_fetching (Load (GotHead byte)) = true
is_fetching (Load GotBreak) = true
is_fetching _ = false

-- a loaded first byte
abbrev pub head_to : ℕ → Moment
head_to v = if v == breakpoint then Load GotBreak else Load (GotHead v)

-- both loads of a fetch are of one instruction
abbrev pub IsFetched : ℕ → ℕ → ℕ → Type 0
IsFetched f byte v = (i : ℕ) × (i < 2 + TRAMPS) × (byte ≡ head_of i) × (v ≡ tail_of f i)

-- what the number of an instruction leads to
abbrev pub fetched_to : ℕ → Moment
fetched_to zero = Mark Closing
fetched_to (suc zero) = Load Walking
fetched_to (suc (suc s)) = Load (InTramp s)

-- after a user: the next one of the list; a trampoline has one alone
abbrev pub after_user_to : Ran → Moment
after_user_to ByList = Load Walking
after_user_to _ = Mark Closing

-- in a callback: the call of the user's act, or the end
abbrev pub act_to : UserNo → Option Owed → Moment
act_to u None = Mark (Ending u)
act_to u (Some o) = Mark (Acting u (record { 0 = o.func }) o.ctx)
