-- How a call ends that carries an order out, from what it came to.
use Rattle.std.proofs.Common.{◌≡◌, ◌≢◌, ℕ, List, [], ◌∷◌, ◌++◌, Option, Some, None, codes, inl, inr, refl, sym, subst, ◌∙◌}
use Rattle.std.specs.Io.KnownBytes.{Appends}
use Rattle.ft_base.specs.declared.limits.TheConstants.{INPUT_BYTES}
use Rattle.ft_io.specs.Causes.{GaveAtMost, GaveMore, Rose}
use Rattle.ft_words.specs.declared.order.Order.{Order}
use Rattle.ft_words.specs.declared.order.Order.TheVariants.{Bulk}
use Rattle.ft_words.specs.Language.{Gives, IsOneOf, Spells, Text, spellings_of, spellings_with}
use Rattle.ft_words.proofs.Found.{one_order}
use Rattle.ft_io.specs.declared.status.Status.{Status}
use Rattle.ft_io.specs.declared.status.Status.TheVariants.{Done, Broken, Language, Refused, ReadFault, WriteFault, NoMemory, TooLong}
use Rattle.ft_io.specs.Status.{code_of}
use Rattle.ft_app.specs.Reply.{IsReplyTo, of_history, of_refusal}
use Rattle.ft_app.specs.Ends.{Ends, IsNone, Only, Says}
use Rattle.ft_app.specs.Main.{Answers, Gets, IsBegun, IsReplied, IsToGet}
use Rattle.ft_app.proofs.Orders.{answers, gets-within, not-too-long, unread-within}
use Rattle.ft_app.proofs.Replies.{has_printed}

-- ## no words

-- each of these lists has a word
abbrev HaveWords : List (List Text) → Type 0
HaveWords [] = Unit {0}
HaveWords ([] ∷ rest) = ⊥
HaveWords ((word ∷ words) ∷ rest) = HaveWords rest

is-none-of : (rest : List (List Text)) → HaveWords rest → IsOneOf [] rest → ⊥
is-none-of [] have one = one
is-none-of ([] ∷ rest) have one = have
is-none-of ((word ∷ words) ∷ rest) have (inl e) = absurd (cc)
is-none-of ((word ∷ words) ∷ rest) have (inr one) = is-none-of rest have one

-- they give no order
pub no-words : IsNone (Gives [])
no-words order g = by g.value g.spelt
  where
    by : (value : Option Text) → Spells [] g.mode g.name value → ⊥
    by None spelt = is-none-of (spellings_of g.mode) tt spelt
    by (Some text) (inl spelt) = is-none-of (spellings_with g.mode (g.name ∷ text ∷ [])) tt spelt
    by (Some text) (inr spelt) = is-none-of (spellings_with g.mode ((g.name ++ codes "=" ++ text) ∷ [])) tt spelt

-- ## how a call ends

-- out of memory answers every script
no-answer : (order : Order) (script : List ℕ) (code : ℕ) (holds holds' : Option (List ℕ)) → code ≡ code_of NoMemory → Answers order script code holds holds'
no-answer order script code holds holds' e = record { accepted = λ job a. inr e; refused = λ fault r. inr e }

module _ {S K : Type 0} (remaining : S → Option (List ℕ)) (read_faults : S → ℕ) (holds : K → Option (List ℕ)) (write_faults : K → ℕ) where
  abbrev E : (Order → Type 0) → ℕ → S → S → K → K → Type 0
  E gives code source source' sink sink' = Ends {S = S} {K = K} remaining read_faults holds write_faults gives code source source' sink sink'

  -- ## an order that is known

  -- the reply tells what its status says
  module _ (source source' : S) (sink sink' : K) (order : Order) (got : List ℕ) (gets : Gets order (remaining source) (remaining source') got) where
    says-reply : (status : Status) (text : List ℕ) → IsReplyTo order got status text → Appends (holds sink) (holds sink') text
        → Says {S = S} {K = K} remaining read_faults holds write_faults (Only order) status source source' sink sink'
    says-reply _ _ (of_history job accepted led items kept ended carried_out there) written = (
      order,
      refl,
      record {
        script = got;
        read = gets;
        played = record {
          job = job;
          accepted = accepted;
          written = has_printed order (holds sink) (holds sink') job led items kept ended carried_out there written;
        };
      },
    )
    says-reply _ _ (of_refusal fault refused) written =
        (order, refl, record { script = got; read = gets; refused = record { fault = fault; refused = refused; written = written } })

  module _ (order : Order) (source source' : S) (sink sink' : K) (code : ℕ) (generated : (n : ℕ) → order ≡ Bulk n → source' ≡ source) where
    abbrev Ending : Type 0
    Ending = E (Only order) code source source' sink sink'

    -- the source failed
    pub read-failed : code ≡ code_of ReadFault → Rose (read_faults source) (read_faults source')
        → GaveAtMost INPUT_BYTES (remaining source) (remaining source') → sink' ≡ sink → Ending
    read-failed e rose few same = record {
      status = ReadFault;
      known = e;
      says = (rose, same);
      unspoken = λ none. absurd (none order refl);
      within = λ ne. few;
      generated = λ n o. generated n (sym o);
      complete = λ other o read. absurd (read rose);
    }

    -- it gave too much
    pub gave-more : code ≡ code_of TooLong → GaveMore INPUT_BYTES (remaining source) (remaining source')
        → ((n : ℕ) → order ≡ Bulk n → ⊥) → sink' ≡ sink → Ending
    gave-more e more read same = record {
      status = TooLong;
      known = e;
      says = (more, same);
      unspoken = λ none. absurd (none order refl);
      within = λ ne. absurd (ne refl);
      generated = λ n o. generated n (sym o);
      complete = λ other o no_read no_write script is_to_get.
          absurd (not-too-long order (remaining source) (remaining source') script (subst (λ q. IsToGet q (remaining source) script) o is_to_get) more read);
    }

    -- memory ran out
    pub no-memory : code ≡ code_of NoMemory → GaveAtMost INPUT_BYTES (remaining source) (remaining source') → sink' ≡ sink → Ending
    no-memory e few same = record {
      status = NoMemory;
      known = e;
      says = same;
      unspoken = λ none. absurd (none order refl);
      within = λ ne. few;
      generated = λ n o. generated n (sym o);
      complete = λ other o no_read no_write script is_to_get. no-answer other script code (holds sink) (holds sink') e;
    }

    module _ (script got : List ℕ) (gets : Gets order (remaining source) (remaining source') got) (is_script : script ≡ got) where
      -- the sink failed
      pub write-failed : code ≡ code_of WriteFault → Rose (write_faults sink) (write_faults sink') → IsBegun order script (holds sink) (holds sink') → Ending
      write-failed e rose begun = record {
        status = WriteFault;
        known = e;
        says = (
          rose,
          (order, refl, record { script = got; read = gets; begun = subst (λ s. IsBegun order s (holds sink) (holds sink')) is_script begun }),
        );
        unspoken = λ none. absurd (none order refl);
        within = λ ne. gets-within order (remaining source) (remaining source') got gets;
        generated = λ n o. generated n (sym o);
        complete = λ other o no_read no_write. absurd (no_write rose);
      }

      -- out of memory once the script was got
      pub no-memory-for-it : code ≡ code_of NoMemory → sink' ≡ sink → Ending
      no-memory-for-it e same = no-memory e (gets-within order (remaining source) (remaining source') got gets) same

      -- the reply was written in full
      pub replied : (status : Status) → code ≡ code_of status → IsReplied order script status (holds sink) (holds sink') → Ending
      replied status e reply =
          let here : IsReplied order got status (holds sink) (holds sink') = subst (λ s. IsReplied order s status (holds sink) (holds sink')) is_script reply in
          record {
            status = status;
            known = e;
            says = says-reply source source' sink sink' order got gets status here.text here.is_reply here.written;
            unspoken = λ none. absurd (none order refl);
            within = λ ne. gets-within order (remaining source) (remaining source') got gets;
            generated = λ n o. generated n (sym o);
            complete = λ other o no_read no_write told is_told.
                subst (λ q. Answers q told code (holds sink) (holds sink')) (sym o)
                (answers order (remaining source) (remaining source') (holds sink) (holds sink') got script status code gets is_script reply e
                told (subst (λ q. IsToGet q (remaining source) told) o is_told));
          }

  -- a call that gives the number of a status ends as with that status
  pub by-number : (gives : Order → Type 0) (source source' : S) (sink sink' : K) (code number : ℕ) → code ≡ number
      → E gives number source source' sink sink' → E gives code source source' sink sink'
  by-number gives source source' sink sink' code number same ends = subst (λ n. E gives n source source' sink sink') (sym same) ends

  -- ## the order that words give

  module _ (words : List (List ℕ)) (source source' : S) (sink sink' : K) (code : ℕ) where
    -- it is the one that was carried out
    says-given : (order : Order) → Gives words order → (status : Status)
        → Says {S = S} {K = K} remaining read_faults holds write_faults (Only order) status source source' sink sink'
        → Says {S = S} {K = K} remaining read_faults holds write_faults (Gives words) status source source' sink sink'
    says-given order gives Done says = (says.0, subst (Gives words) (sym says.1) gives, says.2)
    says-given order gives Broken says = absurd says
    says-given order gives Language says = absurd (says.0 order refl)
    says-given order gives Refused says = (says.0, subst (Gives words) (sym says.1) gives, says.2)
    says-given order gives ReadFault says = says
    says-given order gives WriteFault says = (says.0, (says.1.0, subst (Gives words) (sym says.1.1) gives, says.1.2))
    says-given order gives NoMemory says = says
    says-given order gives TooLong says = says

    pub given : (order : Order) → Gives words order → E (Only order) code source source' sink sink' → E (Gives words) code source source' sink sink'
    given order gives ends = record {
      status = ends.status;
      known = ends.known;
      says = says-given order gives ends.status ends.says;
      unspoken = λ none. absurd (none order gives);
      within = ends.within;
      generated = λ n other. ends.generated n (one_order words (Bulk n) order other gives);
      complete = λ other gives'. ends.complete other (one_order words other order gives' gives);
    }

  -- ## nothing was carried out

  module _ (words : List (List ℕ)) (source : S) (sink : K) (code : ℕ) where
    -- the words give no order
    pub no-order : code ≡ code_of Language → IsNone (Gives words) → E (Gives words) code source source sink sink
    no-order e none = record {
      status = Language;
      known = e;
      says = (none, refl, refl);
      unspoken = λ n. inl refl;
      within = λ ne. unread-within (remaining source) (remaining source) refl;
      generated = λ n gives. refl;
      complete = λ order gives. absurd (none order gives);
    }

    -- memory ran out while the words were read
    pub no-memory-for-words : code ≡ code_of NoMemory → E (Gives words) code source source sink sink
    no-memory-for-words e = record {
      status = NoMemory;
      known = e;
      says = refl;
      unspoken = λ n. inr refl;
      within = λ ne. unread-within (remaining source) (remaining source) refl;
      generated = λ n gives. refl;
      complete = λ order gives no_read no_write script is_to_get. no-answer order script code (holds sink) (holds sink) e;
    }

  -- an order alone is never answered with status 2
  pub spoken : (order : Order) (source source' : S) (sink sink' : K) (code : ℕ) → E (Only order) code source source' sink sink' → code ≢ code_of Language
  spoken order source source' sink sink' code ends two = by ends.status ends.says (sym ends.known ∙ two)
    where
      by : (status : Status) → Says {S = S} {K = K} remaining read_faults holds write_faults (Only order) status source source' sink sink'
          → code_of status ≡ 2 → ⊥
      by Done says e = absurd (cc)
      by Broken says e = absurd says
      by Language says e = says.0 order refl
      by Refused says e = absurd (cc)
      by ReadFault says e = absurd (cc)
      by WriteFault says e = absurd (cc)
      by NoMemory says e = absurd (cc)
      by TooLong says e = absurd (cc)
