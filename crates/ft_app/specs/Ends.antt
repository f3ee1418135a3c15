-- What the top call promises, status by status.
use Rattle.std.specs.Prelude.{ℕ, ◌≡◌, ◌≢◌, ◌⊎◌, List, Option}
use Rattle.ft_base.specs.declared.limits.TheConstants.{INPUT_BYTES}
use Rattle.ft_io.specs.Causes.{GaveAtMost, GaveMore, Rose}
use Rattle.ft_words.specs.declared.order.Order.{Order}
use Rattle.ft_words.specs.declared.order.Order.TheVariants.{Bulk}
use Rattle.ft_io.specs.declared.status.Status.{Status}
use Rattle.ft_io.specs.declared.status.Status.TheVariants.{Done, Broken, Language, Refused, ReadFault, WriteFault, NoMemory, TooLong}
use Rattle.ft_io.specs.Status.{code_of}
use Rattle.ft_app.specs.Main.{Answers, HasBegun, HasRefused, HasRun, IsToGet}

-- this order, and no other
abbrev pub Only : Order → Order → Type 0
Only order other = other ≡ order

-- no order is given: the words aren't in the language
abbrev pub IsNone : (Order → Type 0) → Type 0
IsNone gives = (order : Order) → gives order → ⊥

-- a source of which is told what is left and how many faults there were, and a sink of which is told what it holds and how many there were
module _ {S K : Type 0} (remaining : S → Option (List ℕ)) (read_faults : S → ℕ) (holds : K → Option (List ℕ)) (write_faults : K → ℕ) where
  -- What a status says of the order that is given, and of the source and the sink before and after.
  --   0   what the order prints of a history of its script's job was written: of its replay, or of running threads, which lead the commands
  --       of lanes in an order of these
  --   1   it is no status of these orders
  --   2   no order is given; nothing was read, and nothing written
  --   3   the line was written that says where and why the order's script is refused
  --   4   the source failed; nothing was written
  --   5   the sink failed; a beginning of the text or of the line was written
  --   6   out of memory; nothing was written
  --   7   the source gave one byte more than the limit, at least; nothing was written
  abbrev pub Says : (Order → Type 0) → Status → S → S → K → K → Type 0
  Says gives Done source source' sink sink' =
      (order : Order) × gives order × HasRun order (remaining source) (remaining source') (holds sink) (holds sink')
  Says gives Broken source source' sink sink' = ⊥
  Says gives Language source source' sink sink' = IsNone gives × (source' ≡ source) × (sink' ≡ sink)
  Says gives Refused source source' sink sink' =
      (order : Order) × gives order × HasRefused order (remaining source) (remaining source') (holds sink) (holds sink')
  Says gives ReadFault source source' sink sink' = Rose (read_faults source) (read_faults source') × (sink' ≡ sink)
  Says gives WriteFault source source' sink sink' =
      Rose (write_faults sink) (write_faults sink')
      × ((order : Order) × gives order × HasBegun order (remaining source) (remaining source') (holds sink) (holds sink'))
  Says gives NoMemory source source' sink sink' = sink' ≡ sink
  Says gives TooLong source source' sink sink' = GaveMore INPUT_BYTES (remaining source) (remaining source') × (sink' ≡ sink)

  -- How a call ends that carries out the order that is given, if one is.
  --   status, known   it gives the number of a status
  --   says            of which the above holds
  --   unspoken        status 2 comes for words outside the language, unless memory is out
  --   within          status 7 comes exactly if one byte more than the limit was given
  --   generated       a generated script isn't read
  --   complete        if nothing outside goes wrong, a script is carried out and any other text is refused, unless memory is out. A call
  --                   that waits, as it may with running threads, keeps this if it returns
  pub record Ends (gives : Order → Type 0) (result : ℕ) (source source' : S) (sink sink' : K) : Type 0 where
    pub status : Status
    pub known : result ≡ code_of status
    pub says : Says gives status source source' sink sink'
    pub unspoken : IsNone gives → (status ≡ Language) ⊎ (status ≡ NoMemory)
    pub within : status ≢ TooLong → GaveAtMost INPUT_BYTES (remaining source) (remaining source')
    pub generated : (n : ℕ) → gives (Bulk n) → source' ≡ source
    pub complete : (order : Order) → gives order → ¬ Rose (read_faults source) (read_faults source') → ¬ Rose (write_faults sink) (write_faults sink')
        → (script : List ℕ) → IsToGet order (remaining source) script → Answers order script result (holds sink) (holds sink')
