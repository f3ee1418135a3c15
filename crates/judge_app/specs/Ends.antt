-- What the call promises, status by status.
use Rattle.std.specs.Prelude.{ℕ, ◌≡◌, ◌≢◌, ◌≤◌, ◌⊎◌, List, Option, Some, length}
use Rattle.std.specs.Io.KnownBytes.{Appends, Consumes, IsAtEnd}
use Rattle.ft_io.specs.Causes.{AppendsFront, GaveAtMost, GaveMore, Rose}
use Rattle.judge_app.specs.declared.app.TheConstants.{JUDGED_BYTES}
use Rattle.ft_io.specs.declared.status.Status.{Status}
use Rattle.ft_io.specs.declared.status.Status.TheVariants.{Done, Broken, Language, Refused, ReadFault, WriteFault, NoMemory, TooLong}
use Rattle.judge_app.specs.Reply.{IsLong, IsReplyTo}
use Rattle.ft_io.specs.Status.{code_of}

-- a source was read to its end, and gave this input, which isn't too long
pub record ReadWhole (remaining remaining' : Option (List ℕ)) (input : List ℕ) : Type 0 where
  pub all : Consumes remaining remaining' input
  pub end : IsAtEnd remaining'
  pub short : length input ≤ JUDGED_BYTES

-- the reply to the input, whose script isn't too long, was written, and this is its status
pub record HasReplied (status : Status) (remaining remaining' holds holds' : Option (List ℕ)) : Type 0 where
  pub input : List ℕ
  pub read : ReadWhole remaining remaining' input
  pub fits : ¬ IsLong input
  pub text : List ℕ
  pub is_reply : IsReplyTo input status text
  pub written : Appends holds holds' text

-- a beginning of the reply was written
pub record HasBegun (remaining remaining' holds holds' : Option (List ℕ)) : Type 0 where
  pub input : List ℕ
  pub read : ReadWhole remaining remaining' input
  pub fits : ¬ IsLong input
  pub status : Status
  pub text : List ℕ
  pub is_reply : IsReplyTo input status text
  pub front : AppendsFront holds holds' text

-- a source of which is told what is left and how many faults there were, and a sink of which is told what it holds and how many there were
module _ {S K : Type 0} (remaining : S → Option (List ℕ)) (read_faults : S → ℕ) (holds : K → Option (List ℕ)) (write_faults : K → ℕ) where
  -- What a status says of how many words were given, and of the source and the sink before and after.
  --   0, 1, 3   the reply to the input, which has this status, was written
  --   2         there was a word; nothing was read, and nothing written
  --   4         the source failed; nothing was written
  --   5         the sink failed; a beginning of the reply was written
  --   6         out of memory; nothing was written
  --   7         the source gave one byte more than an input may have, at least, or the script has more than one may have; nothing was written
  abbrev pub Says : ℕ → Status → S → S → K → K → Type 0
  Says words Done source source' sink sink' = HasReplied Done (remaining source) (remaining source') (holds sink) (holds sink')
  Says words Broken source source' sink sink' = HasReplied Broken (remaining source) (remaining source') (holds sink) (holds sink')
  Says words Refused source source' sink sink' = HasReplied Refused (remaining source) (remaining source') (holds sink) (holds sink')
  Says words Language source source' sink sink' = (words ≢ 0) × (source' ≡ source) × (sink' ≡ sink)
  Says words ReadFault source source' sink sink' = Rose (read_faults source) (read_faults source') × (sink' ≡ sink)
  Says words WriteFault source source' sink sink' =
      Rose (write_faults sink) (write_faults sink') × HasBegun (remaining source) (remaining source') (holds sink) (holds sink')
  Says words NoMemory source source' sink sink' = sink' ≡ sink
  Says words TooLong source source' sink sink' =
      (GaveMore JUDGED_BYTES (remaining source) (remaining source')
      ⊎ ((input : List ℕ) × ReadWhole (remaining source) (remaining source') input × IsLong input)) × (sink' ≡ sink)

  -- How a call ends that was given so many words.
  --   says       the above holds of its status
  --   unspoken   status 2 comes if there is a word
  --   within     status 7 comes if one byte more was given than an input may have
  --   complete   if there is no word and nothing outside goes wrong, an input that isn't too long gets its reply, or status 7 if its script is
  --              too long, unless memory is out
  pub record Ends (words : ℕ) (status : Status) (source source' : S) (sink sink' : K) : Type 0 where
    pub says : Says words status source source' sink sink'
    pub unspoken : words ≢ 0 → status ≡ Language
    pub within : status ≢ TooLong → GaveAtMost JUDGED_BYTES (remaining source) (remaining source')
    pub complete : words ≡ 0 → ¬ Rose (read_faults source) (read_faults source') → ¬ Rose (write_faults sink) (write_faults sink')
        → (input : List ℕ) → remaining source ≡ Some input → length input ≤ JUDGED_BYTES
        → HasReplied status (remaining source) (remaining source') (holds sink) (holds sink') ⊎ (((status ≡ TooLong) × IsLong input) ⊎ (status ≡ NoMemory))

  -- the number of a status with which a call ends so
  pub record EndsWith (words result : ℕ) (source source' : S) (sink sink' : K) : Type 0 where
    pub status : Status
    pub known : result ≡ code_of status
    pub ends : Ends words status source source' sink sink'
