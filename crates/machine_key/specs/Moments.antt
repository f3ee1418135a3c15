-- Where a task stands, as numbers: a number for the moment, and what it holds.
use Rattle.std.specs.Prelude.{ℕ, zero, suc, ◌≡◌, List, [], ◌∷◌, length, get_or, drop}
use mathlib.Core.Path.{refl, ap}
use Rattle.ft_base.specs.declared.context.Ctx.{Ctx}
use Rattle.ft_base.specs.declared.context.Ctx.TheVariants.{Normal, Softirq, Irq, Nmi}
use Rattle.ft_base.specs.declared.item.Reason.{Reason}
use Rattle.ft_base.specs.declared.item.Reason.TheVariants.{Pid, Recursion, Depth}
use Rattle.ft_hist.specs.Frames.{FrameUser}
use Rattle.word_machine.specs.Task.{Moment, Polling, First, Fetch, GotHead, GotBreak, InTramp, OwnSel, AtFirst, TestSel, TestFilter, TestNotrace, AtPids, AtDepth, Refusing, Calling, Missing, Acting, Ending, AtLink, Closing, Leaving, AtExit, Exiting, EndingExit, Returning}

abbrev pub ctx_no : Ctx → ℕ
ctx_no Normal = 0
ctx_no Softirq = 1
ctx_no Irq = 2
ctx_no Nmi = 3

abbrev pub ctx_at : ℕ → Ctx
ctx_at n = get_or (Normal ∷ Softirq ∷ Irq ∷ Nmi ∷ []) n Normal

abbrev pub reason_no : Reason → ℕ
reason_no Pid = 0
reason_no Recursion = 1
reason_no Depth = 2

abbrev pub reason_at : ℕ → Reason
reason_at n = get_or (Pid ∷ Recursion ∷ Depth ∷ []) n Pid

-- users of a frame, one after the other
abbrev pub users_as : List FrameUser → List ℕ
users_as [] = []
users_as (m ∷ ms) = m.user ∷ m.reg ∷ m.entry ∷ users_as ms

abbrev pub users_of : ℕ → List ℕ → List FrameUser
users_of zero l = []
users_of (suc n) (u ∷ r ∷ e ∷ l) = record { user = u; reg = r; entry = e } ∷ users_of n l
users_of (suc n) _ = []

abbrev pub exit_as : FrameUser → List FrameUser → List ℕ
exit_as m rest = m.user ∷ m.reg ∷ m.entry ∷ length rest ∷ users_as rest

-- the number of a moment
abbrev pub moment_no : Moment → ℕ
moment_no Polling = 0
moment_no First = 1
moment_no Fetch = 2
moment_no (GotHead byte) = 3
moment_no GotBreak = 4
moment_no (InTramp s) = 5
moment_no (OwnSel u reg) = 6
moment_no AtFirst = 7
moment_no (TestSel u) = 8
moment_no (TestFilter u copy reg) = 9
moment_no (TestNotrace u copy reg) = 10
moment_no (AtPids u reg) = 11
moment_no (AtDepth u reg) = 12
moment_no (Refusing u reg reason) = 13
moment_no (Calling u reg) = 14
moment_no (Missing u) = 15
moment_no (Acting u o) = 16
moment_no (Ending u) = 17
moment_no (AtLink u) = 18
moment_no Closing = 19
moment_no Leaving = 20
moment_no (AtExit m rest) = 21
moment_no (Exiting m rest) = 22
moment_no (EndingExit m rest) = 23
moment_no Returning = 24

-- what it holds
abbrev pub moment_as : Moment → List ℕ
moment_as (GotHead byte) = byte ∷ []
moment_as (InTramp s) = s ∷ []
moment_as (OwnSel u reg) = u ∷ reg ∷ []
moment_as (TestSel u) = u ∷ []
moment_as (TestFilter u copy reg) = u ∷ copy ∷ reg ∷ []
moment_as (TestNotrace u copy reg) = u ∷ copy ∷ reg ∷ []
moment_as (AtPids u reg) = u ∷ reg ∷ []
moment_as (AtDepth u reg) = u ∷ reg ∷ []
moment_as (Refusing u reg reason) = u ∷ reg ∷ reason_no reason ∷ []
moment_as (Calling u reg) = u ∷ reg ∷ []
moment_as (Missing u) = u ∷ []
moment_as (Acting u o) = u ∷ ctx_no o.ctx ∷ o.func ∷ []
moment_as (Ending u) = u ∷ []
moment_as (AtLink u) = u ∷ []
moment_as (AtExit m rest) = exit_as m rest
moment_as (Exiting m rest) = exit_as m rest
moment_as (EndingExit m rest) = exit_as m rest
moment_as _ = []

-- the user of an exit, and those after it
abbrev pub exit_user : List ℕ → FrameUser
exit_user l = record { user = get_or l 0 0; reg = get_or l 1 0; entry = get_or l 2 0 }

abbrev pub exit_rest : List ℕ → List FrameUser
exit_rest l = users_of (get_or l 3 0) (drop 4 l)

-- the moment of this number that holds these. A numeral can't stand in a pattern: the moments are a list
abbrev pub moment_at : ℕ → List ℕ → Moment
moment_at n l = get_or (
    Polling ∷ First ∷ Fetch ∷ GotHead (get_or l 0 0) ∷ GotBreak ∷ InTramp (get_or l 0 0) ∷ OwnSel (get_or l 0 0) (get_or l 1 0) ∷ AtFirst ∷ TestSel (get_or l 0 0)
    ∷ TestFilter (get_or l 0 0) (get_or l 1 0) (get_or l 2 0) ∷ TestNotrace (get_or l 0 0) (get_or l 1 0) (get_or l 2 0) ∷ AtPids (get_or l 0 0) (get_or l 1 0) ∷ AtDepth (get_or l 0 0) (get_or l 1 0)
    ∷ Refusing (get_or l 0 0) (get_or l 1 0) (reason_at (get_or l 2 0)) ∷ Calling (get_or l 0 0) (get_or l 1 0) ∷ Missing (get_or l 0 0)
    ∷ Acting (get_or l 0 0) (record { ctx = ctx_at (get_or l 1 0); func = get_or l 2 0 }) ∷ Ending (get_or l 0 0) ∷ AtLink (get_or l 0 0) ∷ Closing ∷ Leaving
    ∷ AtExit (exit_user l) (exit_rest l) ∷ Exiting (exit_user l) (exit_rest l) ∷ EndingExit (exit_user l) (exit_rest l) ∷ Returning ∷ []) n Polling

-- ## and back

pub ctx-back : (c : Ctx) → ctx_at (ctx_no c) ≡ c
ctx-back Normal = refl
ctx-back Softirq = refl
ctx-back Irq = refl
ctx-back Nmi = refl

pub reason-back : (r : Reason) → reason_at (reason_no r) ≡ r
reason-back Pid = refl
reason-back Recursion = refl
reason-back Depth = refl

pub users-back : (ms : List FrameUser) → users_of (length ms) (users_as ms) ≡ ms
users-back [] = refl
users-back (m ∷ ms) = ap (λ (l : List FrameUser). m ∷ l) (users-back ms)

pub moment-back : (m : Moment) → moment_at (moment_no m) (moment_as m) ≡ m
moment-back Polling = refl
moment-back First = refl
moment-back Fetch = refl
moment-back (GotHead byte) = refl
moment-back GotBreak = refl
moment-back (InTramp s) = refl
moment-back (OwnSel u reg) = refl
moment-back AtFirst = refl
moment-back (TestSel u) = refl
moment-back (TestFilter u copy reg) = refl
moment-back (TestNotrace u copy reg) = refl
moment-back (AtPids u reg) = refl
moment-back (AtDepth u reg) = refl
moment-back (Refusing u reg reason) = ap (λ (r : Reason). Refusing u reg r) (reason-back reason)
moment-back (Calling u reg) = refl
moment-back (Missing u) = refl
moment-back (Acting u o) = ap (λ (c : Ctx). Acting u (record { ctx = c; func = o.func })) (ctx-back o.ctx)
moment-back (Ending u) = refl
moment-back (AtLink u) = refl
moment-back Closing = refl
moment-back Leaving = refl
moment-back (AtExit m rest) = ap (λ (l : List FrameUser). AtExit m l) (users-back rest)
moment-back (Exiting m rest) = ap (λ (l : List FrameUser). Exiting m l) (users-back rest)
moment-back (EndingExit m rest) = ap (λ (l : List FrameUser). EndingExit m l) (users-back rest)
moment-back Returning = refl
