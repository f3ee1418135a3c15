-- How a call ends, from what it came to.
use Rattle.std.proofs.Common.{◌≡◌, ◌≢◌, ◌≤◌, ◌<◌, ℕ, Bool, true, false, List, [], Option, Some, None, length, refl, sym, ap, ◌∙◌, subst, inl, inr, length-append, arith}
use Rattle.std.specs.Prelude.{IfSome}
use Rattle.std.specs.Io.KnownBytes.{Appends}
use Rattle.std.proofs.KnownBytes.{Consumes-nil, Consumes-whole}
use Rattle.ft_io.specs.Causes.{AppendsFront, GaveAtMost, GaveMore, Rose}
use Rattle.history_check.specs.declared.verdict.Verdict.{Verdict}
use Rattle.history_check.specs.declared.verdict.Verdict.TheVariants.{Whole, Legal, Broken as BrokenAt}
use Rattle.ft_io.specs.declared.status.Status.{Status}
use Rattle.ft_io.specs.declared.status.Status.TheVariants.{Language, ReadFault, WriteFault, NoMemory, TooLong}
use Rattle.judge_app.specs.declared.app.TheConstants.{JUDGED_BYTES}
use Rattle.judge_app.specs.Ends.{Ends, HasReplied, ReadWhole, Says}
use Rattle.judge_app.specs.Reply.{IsLong, IsReplyTo, of_log, of_missing, of_refusal, of_verdict, status_of}

-- a source that tells a short input gives no more than it tells
not-more : (remaining remaining' : Option (List ℕ)) (input : List ℕ) → remaining ≡ Some input → length input ≤ JUDGED_BYTES → GaveMore JUDGED_BYTES remaining remaining' → ⊥
not-more None remaining' input e short more = absurd cc
not-more (Some xs) None input e short more = absurd more.1
not-more (Some xs) (Some ys) input e short more =
    let same : xs ≡ input = cc in
    let long = ap (λ (zs : List ℕ). length zs) (sym same ∙ more.1) ∙ length-append more.0 ys in
    let over = more.2 in
    absurd (omega (arith, short, long, over))

-- one that was read to its end gave what it told
read-told : (remaining remaining' : Option (List ℕ)) (told input : List ℕ) → remaining ≡ Some told → ReadWhole remaining remaining' input → input ≡ told
read-told remaining remaining' told input is_told whole =
    subst (λ o. IfSome o (λ xs. input ≡ xs)) is_told (Consumes-whole remaining remaining' input (λ xs. input ≡ xs) whole.all whole.end refl)

module _ {S K : Type 0} (remaining : S → Option (List ℕ)) (read_faults : S → ℕ) (holds : K → Option (List ℕ)) (write_faults : K → ℕ)
    (source source' : S) (sink sink' : K) where
  abbrev E : Status → Type 0
  E status = Ends {S = S} {K = K} remaining read_faults holds write_faults 0 status source source' sink sink'

  abbrev Has : Status → Type 0
  Has status = HasReplied status (remaining source) (remaining source') (holds sink) (holds sink')

  -- no word was given
  no-word : (status : Status) → ◌≢◌ {A = ℕ} 0 0 → status ≡ Language
  no-word status some = absurd (some refl)

  -- ## there is no input

  pub read-failed : Rose (read_faults source) (read_faults source') → GaveAtMost JUDGED_BYTES (remaining source) (remaining source') → sink' ≡ sink → E ReadFault
  read-failed rose few same = record {
    says = (rose, same);
    unspoken = no-word ReadFault;
    within = λ other. few;
    complete = λ none no_read. absurd (no_read rose);
  }

  pub gave-more : GaveMore JUDGED_BYTES (remaining source) (remaining source') → sink' ≡ sink → E TooLong
  gave-more more same = record {
    says = (inl more, same);
    unspoken = no-word TooLong;
    within = λ other. absurd (other refl);
    complete = λ none no_read no_write input told short. absurd (not-more (remaining source) (remaining source') input told short more);
  }

  pub no-memory : GaveAtMost JUDGED_BYTES (remaining source) (remaining source') → sink' ≡ sink → E NoMemory
  no-memory few same = record {
    says = same;
    unspoken = no-word NoMemory;
    within = λ other. few;
    complete = λ none no_read no_write input told short. inr (inr refl);
  }

  -- ## the input was read

  module _ (input : List ℕ) (read : ReadWhole (remaining source) (remaining source') input) where
    few : GaveAtMost JUDGED_BYTES (remaining source) (remaining source')
    few = (input, read.all, read.short)

    -- out of memory
    pub no-memory-for-it : sink' ≡ sink → E NoMemory
    no-memory-for-it same = no-memory few same

    -- its script is too long
    pub long-script : IsLong input → sink' ≡ sink → E TooLong
    long-script long same = record {
      says = (inr (input, read, long), same);
      unspoken = no-word TooLong;
      within = λ other. absurd (other refl);
      complete = λ none no_read no_write told is_told short.
          inr (inl (refl, subst (λ xs. IsLong xs) (read-told (remaining source) (remaining source') told input is_told read) long));
    }

    module _ (fits : IsLong input → ⊥) (status : Status) (text : List ℕ) (reply : IsReplyTo input status text) where
      -- the sink failed
      pub write-failed : Rose (write_faults sink) (write_faults sink') → AppendsFront (holds sink) (holds sink') text → E WriteFault
      write-failed rose front = record {
        says = (rose, record { input = input; read = read; fits = fits; status = status; text = text; is_reply = reply; front = front });
        unspoken = no-word WriteFault;
        within = λ other. few;
        complete = λ none no_read no_write. absurd (no_write rose);
      }

      -- the reply was written
      pub replied : Appends (holds sink) (holds sink') text → E status
      replied written = record {
        says = says-reply status text reply has;
        unspoken = no-word status;
        within = λ other. few;
        complete = λ none no_read no_write told is_told short. inl has;
      }
        where
          has : Has status
          has = record { input = input; read = read; fits = fits; text = text; is_reply = reply; written = written }

          by-verdict : (ended : Bool) (v : Verdict) → Has (status_of ended v)
              → Says {S = S} {K = K} remaining read_faults holds write_faults 0 (status_of ended v) source source' sink sink'
          by-verdict ended Whole h = h
          by-verdict true Legal h = h
          by-verdict false Legal h = h
          by-verdict ended (BrokenAt place rule) h = h

          says-reply : (status : Status) (text : List ℕ) → IsReplyTo input status text → Has status
              → Says {S = S} {K = K} remaining read_faults holds write_faults 0 status source source' sink sink'
          says-reply _ _ (of_verdict script log first cut job accepted items ended numbered told verdict is) h = by-verdict ended verdict h
          says-reply _ _ (of_refusal script log first cut fault refused) h = h
          says-reply _ _ (of_log script log first cut job accepted n refused) h = h
          says-reply _ _ (of_missing next uncut) h = h

  -- it never says that there was a word
  pub spoken : (status : Status) → E status → status ≢ Language
  spoken status ends e = (subst (λ s. Says {S = S} {K = K} remaining read_faults holds write_faults 0 s source source' sink sink') e ends.says).0 refl

-- ## words

module _ {S K : Type 0} (remaining : S → Option (List ℕ)) (read_faults : S → ℕ) (holds : K → Option (List ℕ)) (write_faults : K → ℕ)
    (source : S) (sink : K) (words : ℕ) where
  abbrev Unread : Status → Type 0
  Unread status = Ends {S = S} {K = K} remaining read_faults holds write_faults words status source source sink sink

  nothing-given : GaveAtMost JUDGED_BYTES (remaining source) (remaining source)
  nothing-given = ([], Consumes-nil (remaining source), (let z : 0 ≤ JUDGED_BYTES = omega arith in z))

  -- there is a word
  pub word-given : 0 < words → Unread Language
  word-given some = record {
    says = ((λ none. absurd (omega (arith, some, none))), refl, refl);
    unspoken = λ other. refl;
    within = λ other. nothing-given;
    complete = λ none. absurd (omega (arith, some, none));
  }

-- memory ran out before the words were counted
module _ {S K : Type 0} (remaining : S → Option (List ℕ)) (read_faults : S → ℕ) (holds : K → Option (List ℕ)) (write_faults : K → ℕ) (source : S) (sink : K) where
  pub no-memory-for-words : Ends {S = S} {K = K} remaining read_faults holds write_faults 0 NoMemory source source sink sink
  no-memory-for-words = no-memory remaining read_faults holds write_faults source source sink sink (nothing-given remaining read_faults holds write_faults source sink 0) refl
