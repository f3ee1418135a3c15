-- What is written for a script, and what the statuses say of it.
use Rattle.std.proofs.Common.{◌≢◌, ℕ, Bool, List, Option, inl, inr, refl, subst}
use Rattle.std.specs.Io.KnownBytes.{Appends}
use Rattle.ft_base.specs.declared.item.Item.{Item}
use Rattle.ft_base.specs.Job.{Job}
use Rattle.ft_words.specs.declared.order.Order.{Order}
use Rattle.ft_io.specs.Causes.{AppendsFront}
use Rattle.ring_rules.specs.Fold.{Rings}
use Rattle.ft_script.specs.declared.faults.ScriptFault.{ScriptFault}
use Rattle.ft_script.specs.Script.{IsJobOf, IsRefusalOf, IsFaultOf, no_memory}
use Rattle.ft_script.proofs.Answered.{not_both, one_job, one_fault}
use Rattle.ft_io.specs.declared.status.Status.{Status}
use Rattle.ft_io.specs.declared.status.Status.TheVariants.{Done, Refused}
use Rattle.ft_io.specs.Status.{code_of}
use Rattle.ft_app.specs.Reply.{IsReplyTo, of_history, of_refusal, IsCarriedOut, FindsModules, printed, refusal_text}
use Rattle.ft_app.proofs.Histories.{finds-modules}
use Rattle.ft_app.specs.Main.{HasPrinted, IsReplied, IsBegun, Answers}

-- a fault that isn't out of memory is a refusal
pub real-refusal : (script : List ℕ) (fault : ScriptFault) → IsFaultOf script fault → fault ≢ no_memory → IsRefusalOf script fault
real-refusal script fault (inl e) real = absurd (real e)
real-refusal script fault (inr refused) real = refused

module _ (order : Order) where
  -- ## a reply that was written in full

  module _ (holds holds' : Option (List ℕ)) where
    pub history-replied : (script : List ℕ) (job led : Job) (items : List Item) (kept : Option Rings) (ended : Bool) → IsJobOf script job → IsCarriedOut order job led items kept ended
        → Appends holds holds' (printed order led items kept ended) → IsReplied order script Done holds holds'
    history-replied script job led items kept ended accepted carried_out written =
        record { text = printed order led items kept ended; is_reply = of_history job accepted led items kept ended carried_out (finds-modules order script job led items kept ended accepted carried_out); written = written }

    pub refusal-replied : (script : List ℕ) (fault : ScriptFault) → IsRefusalOf script fault → Appends holds holds' (refusal_text fault) → IsReplied order script Refused holds holds'
    refusal-replied script fault refused written = record { text = refusal_text fault; is_reply = of_refusal fault refused; written = written }

    pub has_printed : (job led : Job) (items : List Item) (kept : Option Rings) (ended : Bool) → IsCarriedOut order job led items kept ended
        → FindsModules led items → Appends holds holds' (printed order led items kept ended) → HasPrinted order job holds holds'
    has_printed job led items kept ended carried_out there written = record {
      led = led;
      items = items;
      kept = kept;
      ended = ended;
      carried_out = carried_out;
      there = there;
      written = written;
    }

    -- the reply is the answer to the script
    pub reply-answers : (script : List ℕ) (status : Status) (text : List ℕ) → IsReplyTo order script status text → Appends holds holds' text → Answers order script (code_of status) holds holds'
    reply-answers script _ _ (of_history job accepted led items kept ended carried_out there) written = record {
      accepted = λ job' a. inl (refl, subst (λ j. HasPrinted order j holds holds') (one_job script job job' accepted a) (has_printed job led items kept ended carried_out there written));
      refused = λ fault r. absurd (not_both script job fault accepted r);
    }
    reply-answers script _ _ (of_refusal fault refused) written = record {
      accepted = λ job a. absurd (not_both script job fault a refused);
      refused = λ fault' r. inl (refl, subst (λ f. Appends holds holds' (refusal_text f)) (one_fault script fault fault' refused r) written);
    }

    -- ## a reply that was begun

    pub history-begun : (script : List ℕ) (job led : Job) (items : List Item) (kept : Option Rings) (ended : Bool) → IsJobOf script job → IsCarriedOut order job led items kept ended
        → AppendsFront holds holds' (printed order led items kept ended) → IsBegun order script holds holds'
    history-begun script job led items kept ended accepted carried_out front =
        record { status = Done; text = printed order led items kept ended; is_reply = of_history job accepted led items kept ended carried_out (finds-modules order script job led items kept ended accepted carried_out); front = front }

    pub refusal-begun : (script : List ℕ) (fault : ScriptFault) → IsRefusalOf script fault → AppendsFront holds holds' (refusal_text fault) → IsBegun order script holds holds'
    refusal-begun script fault refused front = record { status = Refused; text = refusal_text fault; is_reply = of_refusal fault refused; front = front }
