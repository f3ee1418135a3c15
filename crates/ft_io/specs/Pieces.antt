-- Bytes on their way to a sink, which gets them in pieces.
use Rattle.std.specs.Prelude.{ℕ, ◌≤◌, ◌≡◌, Bool, true, false, List, [], ◌++◌, Option, Result, OnOk, OnErr}
use Rattle.std.specs.Io.KnownBytes.{Appends}
use Rattle.ft_io.specs.Causes.{Rose, AppendsFront}

-- the bytes that are held for the next piece, and whether the sink has failed, so that what comes is dropped
pub record OnTheWay : Type 0 where
  pub held : List ℕ
  pub failed : Bool

-- no bytes yet
abbrev pub nothing : OnTheWay
nothing = record { held = []; failed = false }

-- a sink of which is told what it holds and how many faults there were
module _ {K : Type 0} (holds : K → Option (List ℕ)) (faults : K → ℕ) where
  -- of this text, which was given to a sink that held `begin` and counted `before` faults, all but what is held was
  -- appended; or the sink failed, and a beginning of the text was appended
  pub record IsUnderWay (text : List ℕ) (begin : Option (List ℕ)) (before : ℕ) (sink : K) (way : OnTheWay) : Type 0 where
    pub sent : way.failed ≡ false → (front : List ℕ) × Appends begin (holds sink) front × (text ≡ front ++ way.held)
    pub front : way.failed ≡ true → AppendsFront begin (holds sink) text
    pub fault : way.failed ≡ true → Rose before (faults sink)
    pub later : before ≤ faults sink

  -- these bytes were put after the text that was under way, whatever it was
  pub record Puts (bytes : List ℕ) (old : K) (held : OnTheWay) (new : K) (now : OnTheWay) : Type 0 where
    pub adds : (text : List ℕ) (begin : Option (List ℕ)) (before : ℕ) → IsUnderWay text begin before old held → IsUnderWay (text ++ bytes) begin before new now

  -- the text that was under way, whatever it was, was appended whole; or the sink failed, and a beginning of it was
  pub record Ends {T E : Type 0} (old : K) (held : OnTheWay) (new : K) (result : Result T E) : Type 0 where
    pub all : (text : List ℕ) (begin : Option (List ℕ)) (before : ℕ) → IsUnderWay text begin before old held → OnOk result (Appends begin (holds new) text)
    pub front : (text : List ℕ) (begin : Option (List ℕ)) (before : ℕ) → IsUnderWay text begin before old held → OnErr result (AppendsFront begin (holds new) text)
    pub fault : (text : List ℕ) (begin : Option (List ℕ)) (before : ℕ) → IsUnderWay text begin before old held → OnErr result (Rose before (faults new))
