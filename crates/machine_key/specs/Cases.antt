-- The cases of data types as numbers, and the way back: a case is its number in the order of the cases, and what it holds. A numeral can't stand in a
-- pattern: the cases are a list, read by the number.
use Rattle.std.specs.Prelude.{ℕ, ◌≡◌, List, [], ◌∷◌, get_or}
use mathlib.Core.Path.{refl, ap}
use Rattle.ft_base.specs.declared.item.Answer.{Answer}
use Rattle.ft_base.specs.declared.item.Answer.TheVariants.{Accepted, Already, NotThere, Invalid, NoMatch, Busy}
use Rattle.ft_base.specs.declared.item.Ran.{Ran}
use Rattle.ft_base.specs.declared.item.Ran.TheVariants.{Nop, List as ByList, Own}
use Rattle.word_map.specs.Words.{Word, Clock, Want, First, Pids, Depth, Head, Tail, Next, Ack, Quiet, Tramp, Link, Sel, Bits}
use Rattle.patch_core.specs.Moves.{Move, Put, Sync, Done}
use Rattle.word_machine.specs.Control.{Cpus, Tasks, Position, Line, Take, Copy, Select, Push, Relink, StorePids, StoreDepth, Patch, Ask, Await, Release, Close}
use Rattle.word_machine.specs.Cpu.{Phase, Going, Looked, Answering, StoringAck, StoringQuiet, Over}
use Rattle.job_outcomes.specs.Outcomes.{Happening, CalledBack, Missed, Refused, BodyRan, Exited}
use Rattle.machine_key.specs.Moments.{reason_no, reason_at, reason-back}

-- a case, and the numbers that it holds
abbrev pub Case : Type 0
Case = ℕ × List ℕ

-- a number that a case holds
abbrev pub held : Case → ℕ → ℕ
held x i = get_or x.1 i 0

abbrev pub ran_case : Ran → Case
ran_case Nop = (0, [])
ran_case ByList = (1, [])
ran_case (Own u) = (2, u.0 ∷ [])

abbrev pub ran_at : Case → Ran
ran_at x = get_or (Nop ∷ ByList ∷ Own (record { 0 = held x 0 }) ∷ []) x.0 Nop

pub ran-same : (r : Ran) → ran_at (ran_case r) ≡ r
ran-same Nop = refl
ran-same ByList = refl
ran-same (Own u) = refl

abbrev pub word_case : Word → Case
word_case Clock = (0, [])
word_case Want = (1, [])
word_case First = (2, [])
word_case Pids = (3, [])
word_case Depth = (4, [])
word_case (Head f) = (5, f ∷ [])
word_case (Tail f) = (6, f ∷ [])
word_case (Next f) = (7, f ∷ [])
word_case (Ack c) = (8, c ∷ [])
word_case (Quiet t) = (9, t ∷ [])
word_case (Tramp s) = (10, s ∷ [])
word_case (Link u) = (11, u ∷ [])
word_case (Sel u) = (12, u ∷ [])
word_case (Bits u copy half w) = (13, u ∷ copy ∷ half ∷ w ∷ [])

abbrev pub word_at : Case → Word
word_at x = get_or (
    Clock ∷ Want ∷ First ∷ Pids ∷ Depth ∷ Head (held x 0) ∷ Tail (held x 0) ∷ Next (held x 0) ∷ Ack (held x 0) ∷ Quiet (held x 0) ∷ Tramp (held x 0) ∷ Link (held x 0) ∷ Sel (held x 0)
    ∷ Bits (held x 0) (held x 1) (held x 2) (held x 3) ∷ []) x.0 Clock

pub word-same : (w : Word) → word_at (word_case w) ≡ w
word-same Clock = refl
word-same Want = refl
word-same First = refl
word-same Pids = refl
word-same Depth = refl
word-same (Head f) = refl
word-same (Tail f) = refl
word-same (Next f) = refl
word-same (Ack c) = refl
word-same (Quiet t) = refl
word-same (Tramp s) = refl
word-same (Link u) = refl
word-same (Sel u) = refl
word-same (Bits u copy half w) = refl

-- a move as its number, its word and what is stored there
abbrev pub move_parts : Move → ℕ × (Word × ℕ)
move_parts (Put w x) = (0, (w, x))
move_parts Sync = (1, (Clock, 0))
move_parts Done = (2, (Clock, 0))

abbrev pub move_at : ℕ × (Word × ℕ) → Move
move_at x = get_or (Put x.1.0 x.1.1 ∷ Sync ∷ Done ∷ []) x.0 Sync

pub move-same : (m : Move) → move_at (move_parts m) ≡ m
move-same (Put w x) = refl
move-same Sync = refl
move-same Done = refl

-- a position as its case and moves; a store that a batch makes is the first of its moves
abbrev pub position_parts : Position → Case × List Move
position_parts Line = ((0, []), [])
position_parts Take = ((1, []), [])
position_parts (Copy half w) = ((2, half ∷ w ∷ []), [])
position_parts Select = ((3, []), [])
position_parts Push = ((4, []), [])
position_parts Relink = ((5, []), [])
position_parts StorePids = ((6, []), [])
position_parts StoreDepth = ((7, []), [])
position_parts (Patch w x rest) = ((8, []), Put w x ∷ rest)
position_parts (Ask (Cpus rest)) = ((9, []), rest)
position_parts (Ask Tasks) = ((10, []), [])
position_parts (Await (Cpus rest) n) = ((11, n ∷ []), rest)
position_parts (Await Tasks n) = ((12, n ∷ []), [])
position_parts Release = ((13, []), [])
position_parts Close = ((14, []), [])

abbrev pub patch_of : List Move → Position
patch_of (Put w x ∷ rest) = Patch w x rest
patch_of _ = Line

abbrev pub position_at : Case × List Move → Position
position_at x = get_or (
    Line ∷ Take ∷ Copy (held x.0 0) (held x.0 1) ∷ Select ∷ Push ∷ Relink ∷ StorePids ∷ StoreDepth ∷ patch_of x.1 ∷ Ask (Cpus x.1) ∷ Ask Tasks ∷ Await (Cpus x.1) (held x.0 0) ∷ Await Tasks (held x.0 0)
    ∷ Release ∷ Close ∷ []) x.0.0 Line

pub position-same : (p : Position) → position_at (position_parts p) ≡ p
position-same Line = refl
position-same Take = refl
position-same (Copy half w) = refl
position-same Select = refl
position-same Push = refl
position-same Relink = refl
position-same StorePids = refl
position-same StoreDepth = refl
position-same (Patch w x rest) = refl
position-same (Ask (Cpus rest)) = refl
position-same (Ask Tasks) = refl
position-same (Await (Cpus rest) n) = refl
position-same (Await Tasks n) = refl
position-same Release = refl
position-same Close = refl

abbrev pub phase_case : Phase → Case
phase_case Going = (0, [])
phase_case Looked = (1, [])
phase_case (Answering r) = (2, r ∷ [])
phase_case (StoringAck r) = (3, r ∷ [])
phase_case (StoringQuiet r t) = (4, r ∷ t ∷ [])
phase_case Over = (5, [])

abbrev pub phase_at : Case → Phase
phase_at x = get_or (Going ∷ Looked ∷ Answering (held x 0) ∷ StoringAck (held x 0) ∷ StoringQuiet (held x 0) (held x 1) ∷ Over ∷ []) x.0 Going

pub phase-same : (p : Phase) → phase_at (phase_case p) ≡ p
phase-same Going = refl
phase-same Looked = refl
phase-same (Answering r) = refl
phase-same (StoringAck r) = refl
phase-same (StoringQuiet r t) = refl
phase-same Over = refl

abbrev pub answer_case : Answer → Case
answer_case Accepted = (0, [])
answer_case Already = (1, [])
answer_case NotThere = (2, [])
answer_case Invalid = (3, [])
answer_case NoMatch = (4, [])
answer_case (Busy func holder) = (5, func.0 ∷ holder.0 ∷ [])

abbrev pub answer_at : Case → Answer
answer_at x = get_or (Accepted ∷ Already ∷ NotThere ∷ Invalid ∷ NoMatch ∷ Busy (record { 0 = held x 0 }) (record { 0 = held x 1 }) ∷ []) x.0 Accepted

pub answer-same : (a : Answer) → answer_at (answer_case a) ≡ a
answer-same Accepted = refl
answer-same Already = refl
answer-same NotThere = refl
answer-same Invalid = refl
answer-same NoMatch = refl
answer-same (Busy func holder) = refl

abbrev pub happening_case : Happening → Case
happening_case (CalledBack u) = (0, u.0 ∷ [])
happening_case (Missed u) = (1, u.0 ∷ [])
happening_case (Refused u reason) = (2, u.0 ∷ reason_no reason ∷ [])
happening_case (BodyRan f Nop) = (3, f.0 ∷ [])
happening_case (BodyRan f ByList) = (4, f.0 ∷ [])
happening_case (BodyRan f (Own u)) = (5, f.0 ∷ u.0 ∷ [])
happening_case (Exited u) = (6, u.0 ∷ [])

abbrev pub happening_at : Case → Happening
happening_at x = get_or (
    CalledBack (record { 0 = held x 0 }) ∷ Missed (record { 0 = held x 0 }) ∷ Refused (record { 0 = held x 0 }) (reason_at (held x 1)) ∷ BodyRan (record { 0 = held x 0 }) Nop ∷ BodyRan (record { 0 = held x 0 }) ByList
    ∷ BodyRan (record { 0 = held x 0 }) (Own (record { 0 = held x 1 })) ∷ Exited (record { 0 = held x 0 }) ∷ []) x.0 (Missed (record { 0 = 0 }))

pub happening-same : (h : Happening) → happening_at (happening_case h) ≡ h
happening-same (CalledBack u) = refl
happening-same (Missed u) = refl
happening-same (Refused u reason) = ap (Refused u) (reason-back reason)
happening-same (BodyRan f Nop) = refl
happening-same (BodyRan f ByList) = refl
happening-same (BodyRan f (Own u)) = refl
happening-same (Exited u) = refl
