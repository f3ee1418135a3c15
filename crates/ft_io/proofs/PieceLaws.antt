-- Bytes on their way to a sink.
use Rattle.std.proofs.Common.{◌≡◌, ◌≤◌, ℕ, true, false, List, [], ◌++◌, Option, Result, Ok, Err, refl, sym, ap, ◌∙◌, subst, arith, append_assoc, append-nil}
use Rattle.std.specs.Prelude.{OnOk, OnErr}
use Rattle.std.specs.Result.{is_err}
use Rattle.std.specs.Io.KnownBytes.{Appends}
use Rattle.std.proofs.KnownBytes.{Appends-nil, Appends-trans}
use Rattle.std.proofs.lemmas.Result.{on_ok_weaker, on_err_weaker}
use Rattle.ft_io.specs.Causes.{Rose, AppendsFront}
use Rattle.ft_io.specs.Pieces.{OnTheWay, nothing, IsUnderWay, Puts, Ends}

-- a beginning of some bytes is one of more bytes
pub front-more : (a b : Option (List ℕ)) (text bytes : List ℕ) → AppendsFront a b text → AppendsFront a b (text ++ bytes)
front-more a b text bytes f = (f.0, f.1 ++ bytes, ap (λ (t : List ℕ). t ++ bytes) f.2 ∙ append_assoc f.0 f.1 bytes, f.3)

-- some bytes, and then a beginning of others
pub front-after : (a b c : Option (List ℕ)) (text bytes : List ℕ) → Appends a b text → AppendsFront b c bytes → AppendsFront a c (text ++ bytes)
front-after a b c text bytes given f =
    (text ++ f.0, f.1, ap (λ (t : List ℕ). text ++ t) f.2 ∙ sym (append_assoc text f.0 f.1), Appends-trans a b c text f.0 given f.3)

module _ {K : Type 0} {holds : K → Option (List ℕ)} {faults : K → ℕ} where
  -- before the first byte nothing is under way
  pub starts : (sink : K) → IsUnderWay holds faults [] (holds sink) (faults sink) sink nothing
  starts sink = record {
    sent = λ _. ([], Appends-nil (holds sink), refl);
    front = λ failed. absurd cc;
    fault = λ failed. absurd cc;
    later = omega arith;
  }

  -- no bytes
  pub puts-none : (sink : K) (way : OnTheWay) → Puts holds faults [] sink way sink way
  puts-none sink way = record { adds = λ text begin before u. subst (λ (t : List ℕ). IsUnderWay holds faults t begin before sink way) (sym (append-nil text)) u }

  -- some bytes and then others
  pub puts-then : {a b : List ℕ} {k l m : K} {p q r : OnTheWay} → Puts holds faults a k p l q → Puts holds faults b l q m r → Puts holds faults (a ++ b) k p m r
  puts-then {a} {b} {k} {l} {m} {p} {q} {r} first second = record {
    adds = λ text begin before u. subst (λ (t : List ℕ). IsUnderWay holds faults t begin before m r) (append_assoc text a b)
        (second.adds (text ++ a) begin before (first.adds text begin before u));
  }

  -- the same bytes, said in another way
  pub puts-equal : {a b : List ℕ} {k l : K} {p q : OnTheWay} → a ≡ b → Puts holds faults a k p l q → Puts holds faults b k p l q
  puts-equal {a} {b} {k} {l} {p} {q} e puts = subst (λ (t : List ℕ). Puts holds faults t k p l q) e puts

  -- the bytes are held; if the sink has failed, what is held is dropped
  pub puts-held : (bytes : List ℕ) (sink : K) (p q : OnTheWay) → q.failed ≡ p.failed → q.held ≡ p.held ++ bytes → Puts holds faults bytes sink p sink q
  puts-held bytes sink p q still held = record {
    adds = λ text begin before u. record {
      sent = λ well. let s = u.sent (sym still ∙ well) in (
        s.0,
        s.1,
        ap (λ (t : List ℕ). t ++ bytes) s.2 ∙ append_assoc s.0 p.held bytes ∙ ap (λ (t : List ℕ). s.0 ++ t) (sym held),
      );
      front = λ failed. front-more begin (holds sink) text bytes (u.front (sym still ∙ failed));
      fault = λ failed. u.fault (sym still ∙ failed);
      later = u.later;
    };
  }

  -- the bytes are dropped
  pub puts-dropped : (bytes : List ℕ) (sink : K) (p q : OnTheWay) → p.failed ≡ true → q.failed ≡ true → Puts holds faults bytes sink p sink q
  puts-dropped bytes sink p q failed still = record {
    adds = λ text begin before u. record {
      sent = λ well. absurd cc;
      front = λ _. front-more begin (holds sink) text bytes (u.front failed);
      fault = λ _. u.fault failed;
      later = u.later;
    };
  }

  -- what was held and the bytes are written
  pub puts-written : {T E : Type 0} (result : Result T E) (bytes piece : List ℕ) (k l : K) (p q : OnTheWay)
      → p.failed ≡ false → q.failed ≡ is_err result → q.held ≡ [] → p.held ++ bytes ≡ piece
      → OnOk result (Appends (holds k) (holds l) piece) → OnErr result (AppendsFront (holds k) (holds l) piece) → OnErr result (Rose (faults k) (faults l)) → faults k ≤ faults l
      → Puts holds faults bytes k p l q
  puts-written {T} {E} result bytes piece k l p q well is none both all front fault later = record {
    adds = λ text begin before u.
        let s = u.sent well in
        let whole : text ++ bytes ≡ s.0 ++ piece = ap (λ (t : List ℕ). t ++ bytes) s.2 ∙ append_assoc s.0 p.held bytes ∙ ap (λ (t : List ℕ). s.0 ++ t) both in
        goes result text begin before s.0 whole s.1 u.later is all front fault;
  } where
    goes : (r : Result T E) (text : List ℕ) (begin : Option (List ℕ)) (before : ℕ) (sent : List ℕ) → text ++ bytes ≡ sent ++ piece → Appends begin (holds k) sent → before ≤ faults k
        → q.failed ≡ is_err r → OnOk r (Appends (holds k) (holds l) piece) → OnErr r (AppendsFront (holds k) (holds l) piece) → OnErr r (Rose (faults k) (faults l))
        → IsUnderWay holds faults (text ++ bytes) begin before l q
    goes (Ok x) text begin before sent whole given sooner is all front fault = record {
      sent = λ _. (sent ++ piece, Appends-trans begin (holds k) (holds l) sent piece given all, whole ∙ rw none (sym (append-nil (sent ++ piece))));
      front = λ failed. absurd cc;
      fault = λ failed. absurd cc;
      later = omega (arith, later, sooner);
    }
    goes (Err x) text begin before sent whole given sooner is all front fault = record {
      sent = λ well. absurd cc;
      front = λ _. subst (λ (t : List ℕ). AppendsFront begin (holds l) t) (sym whole) (front-after begin (holds k) (holds l) sent piece given front);
      fault = λ _. omega (arith, fault, sooner);
      later = omega (arith, later, sooner);
    }

  -- what was held is written, and that is all
  pub ends-written : {T E : Type 0} (result : Result T E) (k l : K) (p : OnTheWay) → p.failed ≡ false
      → OnOk result (Appends (holds k) (holds l) p.held) → OnErr result (AppendsFront (holds k) (holds l) p.held) → OnErr result (Rose (faults k) (faults l))
      → Ends holds faults k p l result
  ends-written result k l p well all front fault = record {
    all = λ text begin before u. on_ok_weaker result
        (λ a. subst (λ (t : List ℕ). Appends begin (holds l) t) (sym (u.sent well).2) (Appends-trans begin (holds k) (holds l) (u.sent well).0 p.held (u.sent well).1 a)) all;
    front = λ text begin before u. on_err_weaker result
        (λ f. subst (λ (t : List ℕ). AppendsFront begin (holds l) t) (sym (u.sent well).2) (front-after begin (holds k) (holds l) (u.sent well).0 p.held (u.sent well).1 f)) front;
    fault = λ text begin before u. on_err_weaker result (λ (rose : Rose (faults k) (faults l)). omega (arith, rose, u.later)) fault;
  }
