-- What is read of a line, leniently: from the line of an item, this item.
use Rattle.std.specs.Prelude.{ℕ, ◌==◌, ◌^◌, ◌&&◌, nat_lt, List, length, codes, Option, Some, None, option_and_then, if◌then◌else◌}
use Rattle.std.specs.List.{before_first, after_first}
use Rattle.std.specs.Str.{bytes_eq, all_ascii_digits}
use Rattle.std.specs.Str.Parse.{digits_value, without_leading_plus}
use Rattle.ft_base.specs.declared.number.CallNo.{CallNo}
use Rattle.ft_base.specs.declared.context.Ctx.{Ctx}
use Rattle.ft_base.specs.declared.context.Ctx.TheVariants.{Normal, Softirq, Irq, Nmi}
use Rattle.ft_base.specs.declared.item.Item.{Item}
use Rattle.ft_base.specs.declared.item.Item.TheVariants.{Begin, Return, Enter, Back, BackEnd, Refuse, Miss, Body, Leave, Exit, ExitEnd, Ret}
use Rattle.ft_base.specs.declared.item.Ran.{Ran}
use Rattle.ft_base.specs.declared.item.Ran.TheVariants.{Nop, List as ByList, Own}
use Rattle.ft_base.specs.declared.item.Reason.{Reason}
use Rattle.ft_base.specs.declared.item.Reason.TheVariants.{Pid, Recursion, Depth}
use Rattle.ft_base.specs.declared.item.Answer.{Answer}
use Rattle.ft_base.specs.declared.item.Answer.TheVariants.{Accepted, Already, NotThere, Invalid, NoMatch, Busy}
use Rattle.trace_views.specs.Words.{Word}
use Rattle.log_reader.specs.Lookups.{Lookups}

infixl 10 ◌>>=◌
-- what is made of a value, if there is one
abbrev pub ◌>>=◌ : {A B : Type 0} → Option A → (A → Option B) → Option B
o >>= f = option_and_then f o

-- what stands before the first such byte, which is all if there is none
unfoldable pub before : ℕ → List ℕ → List ℕ
before b text = before_first (λ c. c == b) text

-- what comes after it
unfoldable pub after : ℕ → List ℕ → List ℕ
after b text = after_first (λ c. c == b) text

-- the number of 32 bits that these digits write
abbrev pub digits_in : List ℕ → Option ℕ
digits_in digits = if (nat_lt 0 (length digits) && all_ascii_digits digits) && nat_lt (digits_value 10 digits) (2 ^ 32) then Some (digits_value 10 digits) else None

-- the number that a word writes
unfoldable pub number_in : Word → Option ℕ
number_in word = digits_in (without_leading_plus word)

-- the context that it names
unfoldable pub context_in : Word → Option Ctx
context_in word =
    if bytes_eq word (codes "normal") then Some Normal
    else (if bytes_eq word (codes "softirq") then Some Softirq
    else (if bytes_eq word (codes "irq") then Some Irq
    else (if bytes_eq word (codes "nmi") then Some Nmi
    else None)))

-- the reason that it names
unfoldable pub reason_in : Word → Option Reason
reason_in word =
    if bytes_eq word (codes "pid") then Some Pid
    else (if bytes_eq word (codes "recursion") then Some Recursion
    else (if bytes_eq word (codes "depth") then Some Depth
    else None))

-- the call that it names
unfoldable pub call_in : Lookups → Word → Option CallNo
call_in find word = do
  pid ← number_in (before 46 word)
  task ← find.task pid
  n ← number_in (after 46 word)
  Some (record { task = task; n = n })

-- the enclosing call, if there is one
unfoldable pub caller_in : Lookups → Word → Option (Option CallNo)
caller_in find word = if bytes_eq word (codes "-") then Some None else (do
  call ← call_in find word
  Some (Some call))

-- what was fetched, by a word and a user's name
unfoldable pub ran_in : Lookups → Word → Word → Option Ran
ran_in find word user =
    if bytes_eq word (codes "nop") then Some Nop
    else (if bytes_eq word (codes "list") then Some ByList
    else (if bytes_eq word (codes "own") then (do
      u ← find.user user
      Some (Own u))
    else None))

-- an answer, by a word and the names of a function and a user
unfoldable pub answer_in : Lookups → Word → Word → Word → Option Answer
answer_in find word function user =
    if bytes_eq word (codes "ok") then Some Accepted
    else (if bytes_eq word (codes "already") then Some Already
    else (if bytes_eq word (codes "not-there") then Some NotThere
    else (if bytes_eq word (codes "invalid") then Some Invalid
    else (if bytes_eq word (codes "no-match") then Some NoMatch
    else (if bytes_eq word (codes "busy") then (do
      f ← find.function function
      u ← find.user user
      Some (Busy f u))
    else None)))))

-- the item of a call, by its kind and the words after the call
unfoldable pub call_item : Lookups → Word → CallNo → Word → Word → Word → Option Item
call_item find kind call second third fourth =
    if bytes_eq kind (codes "enter") then (do
      ctx ← context_in second
      f ← find.function third
      caller ← caller_in find fourth
      Some (Enter call ctx f caller))
    else (if bytes_eq kind (codes "back") then (do
      u ← find.user second
      Some (Back call u))
    else (if bytes_eq kind (codes "back-end") then (do
      u ← find.user second
      Some (BackEnd call u))
    else (if bytes_eq kind (codes "refuse") then (do
      u ← find.user second
      reason ← reason_in third
      Some (Refuse call u reason))
    else (if bytes_eq kind (codes "miss") then (do
      u ← find.user second
      Some (Miss call u))
    else (if bytes_eq kind (codes "body") then (do
      g ← find.function second
      ran ← ran_in find third fourth
      Some (Body call g ran))
    else (if bytes_eq kind (codes "leave") then Some (Leave call)
    else (if bytes_eq kind (codes "exit") then (do
      u ← find.user second
      entry ← number_in third
      Some (Exit call u entry))
    else (if bytes_eq kind (codes "exit-end") then (do
      u ← find.user second
      Some (ExitEnd call u))
    else (if bytes_eq kind (codes "ret") then (do
      to ← caller_in find second
      Some (Ret call to))
    else None)))))))))

-- the item of a kind, by the words after it
unfoldable pub words_item : Lookups → Word → Word → Word → Word → Word → Option Item
words_item find kind first second third fourth =
    if bytes_eq kind (codes "begin") then (do
      k ← number_in first
      Some (Begin k))
    else (if bytes_eq kind (codes "return") then (do
      k ← number_in first
      answer ← answer_in find second third fourth
      Some (Return k answer))
    else (do
      call ← call_in find first
      call_item find kind call second third fourth))

-- the item of a kind, which a text begins with
abbrev pub kind_item : Lookups → Word → List ℕ → Option Item
kind_item find kind rest =
    words_item find kind (before 32 rest) (before 32 (after 32 rest)) (before 32 (after 32 (after 32 rest))) (after 32 (after 32 (after 32 rest)))

-- the item of a line, whose first word is its place
unfoldable pub item_in : Lookups → List ℕ → Option Item
item_in find line = kind_item find (before 32 (after 32 line)) (after 32 (after 32 line))
