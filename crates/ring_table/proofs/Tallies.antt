-- The steps keep the tie between the words and what the CPUs have done.
use Rattle.std.proofs.Common.{◌≡◌, ◌≢◌, ◌⊎◌, ℕ, suc, ◌+◌, ◌^◌, ◌<◌, ◌≤◌, Bool, true, false, List, length, set, get_or, inl, inr, ⊎_elim, refl, sym, ap, ◌∙◌, subst, arith, get_or-set_same, get_or-set_other, length-set}
use Rattle.std.specs.Prelude.{◌==◌, not, ◌||◌, ◌&&◌, if◌then◌else◌}
use Rattle.ft_base.proofs.Small.{false_true}
use Rattle.ft_base.specs.declared.limits.TheConstants.{ITEMS}
use Rattle.ring_rules.specs.Plan.{IsPlan, TracePlan}
use Rattle.ring_rules.specs.Hits.{fires, quota, trigger}
use Rattle.ring_rules.specs.RingInvariant.{total}
use Rattle.ring_rules.proofs.Numbers.{num, plus-none, plus-one, quota-next}
use Rattle.ring_rules.proofs.Totals.{same-or, total-below, total-more, total-part, total-same}
use Rattle.ring_table.specs.declared.view.Known.{Known}
use Rattle.ring_table.specs.Tally.{IsTally, Others, bit, drawn, fired_of, hits_of, looked, saw, switched_to}

-- ## one CPU knows more

-- what is said of it, and of each other CPU before, is said of each after
pub at-each : (P : ℕ → Known → Type 0) (knows knows' : ℕ → Known) (c : ℕ) → P c (knows' c) → ((d : ℕ) → d ≢ c → knows' d ≡ knows d)
    → ((d : ℕ) → d ≢ c → P d (knows d)) → (d : ℕ) → P d (knows' d)
at-each P knows knows' c own else' others d =
    ⊎_elim (λ (e : d ≡ c). subst (λ m. P m (knows' m)) (sym e) own)
    (λ (ne : d ≢ c). subst (P d) (sym (else' d ne)) (others d ne))
    (same-or d c)

-- another's fired hit stays
pub others-more : (plan : TracePlan) (knows knows' : ℕ → Known) → ((d i : ℕ) → fired_of (knows d) i ≤ fired_of (knows' d) i)
    → (c : ℕ) (b : Bool) → Others plan knows c b → Others plan knows' c b
others-more plan knows knows' more c b o = record {
  cpu = o.cpu;
  apart = o.apart;
  inside = o.inside;
  trigger' = o.trigger';
  within = o.within;
  switches = o.switches;
  fired = (let m = more o.cpu o.trigger' in let f = o.fired in omega (arith, m, f));
}

-- ## a ticket

module _ (plan : TracePlan) (is : IsPlan plan) (words : List ℕ) (knows : ℕ → Known) (t : IsTally plan words knows)
    (count : length words ≡ suc (length plan.triggers)) (c i : ℕ) (inside : c < plan.cpus) (within : i < length plan.triggers)
    (room : hits_of (knows c) i < ITEMS) (knows' : ℕ → Known) (own : knows' c ≡ drawn plan i (get_or words (suc i) 0) (knows c))
    (else' : (d : ℕ) → d ≢ c → knows' d ≡ knows d) where
  abbrev n : ℕ
  n = get_or words (suc i) 0

  abbrev fires-now : Bool
  fires-now = fires (trigger plan i).limit n

  abbrev words' : List ℕ
  words' = set words (suc i) (suc n)

  same-word : (j : ℕ) → j ≢ suc i → get_or words' j 0 ≡ get_or words j 0
  same-word j ne = get_or-set_other words (suc i) j (suc n) 0 ne

  own-word : get_or words' (suc i) 0 ≡ suc n
  own-word = get_or-set_same words (suc i) (suc n) 0 (omega (arith, count, within))

  own-hits : hits_of (drawn plan i n (knows c)) i ≡ hits_of (knows c) i + 1
  own-hits = get_or-set_same (knows c).hits i (suc (hits_of (knows c) i)) 0 (let l = (t.lengths c).0 in omega (arith, l, within)) ∙ omega arith

  other-hits : (j : ℕ) → j ≢ i → hits_of (drawn plan i n (knows c)) j ≡ hits_of (knows c) j
  other-hits j ne = get_or-set_other (knows c).hits i j (suc (hits_of (knows c) i)) 0 ne

  own-fired : fired_of (drawn plan i n (knows c)) i ≡ fired_of (knows c) i + num fires-now
  own-fired = by fires-now
    where
      by : (b : Bool) → get_or (if b then set (knows c).fired i (suc (fired_of (knows c) i)) else (knows c).fired) i 0 ≡ fired_of (knows c) i + num b
      by true = get_or-set_same (knows c).fired i (suc (fired_of (knows c) i)) 0 (let l = (t.lengths c).1 in omega (arith, l, within))
          ∙ plus-one (fired_of (knows c) i)
      by false = plus-none (fired_of (knows c) i)

  other-fired : (j : ℕ) → j ≢ i → fired_of (drawn plan i n (knows c)) j ≡ fired_of (knows c) j
  other-fired j ne = by fires-now
    where
      by : (b : Bool) → get_or (if b then set (knows c).fired i (suc (fired_of (knows c) i)) else (knows c).fired) j 0 ≡ fired_of (knows c) j
      by true = get_or-set_other (knows c).fired i j (suc (fired_of (knows c) i)) 0 ne
      by false = refl

  fired-length : length (drawn plan i n (knows c)).fired ≡ length (knows c).fired
  fired-length = by fires-now
    where
      by : (b : Bool) → length (if b then set (knows c).fired i (suc (fired_of (knows c) i)) else (knows c).fired) ≡ length (knows c).fired
      by true = length-set (knows c).fired i (suc (fired_of (knows c) i))
      by false = refl

  -- no fewer fired hits
  more-at : (j : ℕ) → fired_of (knows c) j ≤ fired_of (drawn plan i n (knows c)) j
  more-at j =
      ⊎_elim (λ (e : j ≡ i). subst (λ m. fired_of (knows c) m ≤ fired_of (drawn plan i n (knows c)) m) (sym e)
      (let f = own-fired in omega (arith, f)))
      (λ (ne : j ≢ i). let f = other-fired j ne in omega (arith, f))
      (same-or j i)

  more : (d j : ℕ) → fired_of (knows d) j ≤ fired_of (knows' d) j
  more d =
      at-each (λ d k. (j : ℕ) → fired_of (knows d) j ≤ fired_of k j) knows knows' c
      (subst (λ k. (j : ℕ) → fired_of (knows c) j ≤ fired_of k j) (sym own) more-at) else' (λ d ne j. omega arith) d

  -- what a list of a CPU's numbers sums to
  hits-else : (j d : ℕ) → d ≢ c → hits_of (knows' d) j ≡ hits_of (knows d) j
  hits-else j d ne = ap (λ k. hits_of k j) (else' d ne)

  fired-else : (j d : ℕ) → d ≢ c → fired_of (knows' d) j ≡ fired_of (knows d) j
  fired-else j d ne = ap (λ k. fired_of k j) (else' d ne)

  -- of another trigger all stays
  hits-apart : (j : ℕ) → j ≢ i → total plan.cpus (λ d. hits_of (knows' d) j) ≡ total plan.cpus (λ d. hits_of (knows d) j)
  hits-apart j ne =
      total-same plan.cpus (λ d. hits_of (knows' d) j) (λ d. hits_of (knows d) j)
      (λ d lt. at-each (λ d k. hits_of k j ≡ hits_of (knows d) j) knows knows' c (ap (λ k. hits_of k j) own ∙ other-hits j ne) else'
      (λ d ne'. refl) d)

  fired-apart : (j : ℕ) → j ≢ i → total plan.cpus (λ d. fired_of (knows' d) j) ≡ total plan.cpus (λ d. fired_of (knows d) j)
  fired-apart j ne =
      total-same plan.cpus (λ d. fired_of (knows' d) j) (λ d. fired_of (knows d) j)
      (λ d lt. at-each (λ d k. fired_of k j ≡ fired_of (knows d) j) knows knows' c (ap (λ k. fired_of k j) own ∙ other-fired j ne) else'
      (λ d ne'. refl) d)

  hits-here : total plan.cpus (λ d. hits_of (knows' d) i) ≡ total plan.cpus (λ d. hits_of (knows d) i) + 1
  hits-here =
      total-more plan.cpus c 1 (λ d. hits_of (knows d) i) (λ d. hits_of (knows' d) i) inside (ap (λ k. hits_of k i) own ∙ own-hits) (hits-else i)

  fired-here : total plan.cpus (λ d. fired_of (knows' d) i) ≡ total plan.cpus (λ d. fired_of (knows d) i) + num fires-now
  fired-here =
      total-more plan.cpus c (num fires-now) (λ d. fired_of (knows d) i) (λ d. fired_of (knows' d) i) inside
      (ap (λ k. fired_of k i) own ∙ own-fired) (fired-else i)

  -- a word that counts cannot wrap
  pub drawn-small : n + 1 < 2 ^ 64
  drawn-small =
      let most = total-below plan.cpus ITEMS (λ d. hits_of (knows d) i) (λ d. t.few d i) in
      let is-total = t.tickets i within in
      let cpus = is.cpus in
      omega (arith, most, is-total, cpus)

  -- the CPU's own tickets are among those that were drawn
  pub own-below : hits_of (knows c) i ≤ n
  own-below =
      let part = total-part plan.cpus c (λ d. hits_of (knows d) i) inside in
      let is-total = t.tickets i within in
      omega (arith, part, is-total)

  pub drawn-keeps : IsTally plan words' knows'
  drawn-keeps = record {
    on = t.on;
    switch = same-word 0 (λ e. absurd (omega (arith, e))) ∙ t.switch;
    lengths = λ d.
        at-each (λ d k. (length k.hits ≡ length plan.triggers) × (length k.fired ≡ length plan.triggers)) knows knows' c
        (subst (λ k. (length k.hits ≡ length plan.triggers) × (length k.fired ≡ length plan.triggers)) (sym own)
        (length-set (knows c).hits i (suc (hits_of (knows c) i)) ∙ (t.lengths c).0, fired-length ∙ (t.lengths c).1))
        else' (λ d ne. t.lengths d) d;
    few = λ d.
        at-each (λ d k. (j : ℕ) → hits_of k j ≤ ITEMS) knows knows' c
        (subst (λ k. (j : ℕ) → hits_of k j ≤ ITEMS) (sym own)
        (λ j. ⊎_elim (λ (e : j ≡ i). subst (λ m. hits_of (drawn plan i n (knows c)) m ≤ ITEMS) (sym e) (let h = own-hits in omega (arith, h, room)))
        (λ (ne : j ≢ i). let h = other-hits j ne in let f = t.few c j in omega (arith, h, f)) (same-or j i)))
        else' (λ d ne. t.few d) d;
    tickets = λ j lt.
        ⊎_elim
        (λ (e : j ≡ i). subst (λ m. get_or words' (suc m) 0 ≡ total plan.cpus (λ d. hits_of (knows' d) m)) (sym e)
        (let w = own-word in let old = t.tickets i within in let new = hits-here in omega (arith, w, old, new)))
        (λ (ne : j ≢ i). same-word (suc j) (λ e. ne (omega (arith, e))) ∙ t.tickets j lt ∙ sym (hits-apart j ne))
        (same-or j i);
    fired = λ j lt.
        ⊎_elim
        (λ (e : j ≡ i). subst (λ m. total plan.cpus (λ d. fired_of (knows' d) m) ≡ quota (trigger plan m).limit (get_or words' (suc m) 0)) (sym e)
        (fired-here ∙ ap (λ x. x + num fires-now) (t.fired i within) ∙ sym (quota-next (trigger plan i).limit n)
        ∙ ap (quota (trigger plan i).limit) (sym own-word)))
        (λ (ne : j ≢ i). fired-apart j ne ∙ t.fired j lt ∙ ap (quota (trigger plan j).limit) (sym (same-word (suc j) (λ e. ne (omega (arith, e))))))
        (same-or j i);
    agrees = λ d.
        at-each (λ d k. (t.on ≡ k.own) ⊎ Others plan knows' d t.on) knows knows' c
        (subst (λ k. (t.on ≡ k.own) ⊎ Others plan knows' c t.on) (sym own)
        (⊎_elim (λ e. inl e) (λ o. inr (others-more plan knows knows' more c t.on o)) (t.agrees c)))
        else' (λ d ne. ⊎_elim (λ e. inl e) (λ o. inr (others-more plan knows knows' more d t.on o)) (t.agrees d)) d;
    saw' = λ d.
        at-each (λ d k. (b : Bool) → saw k b ≡ true → Others plan knows' d b) knows knows' c
        (subst (λ k. (b : Bool) → saw k b ≡ true → Others plan knows' c b) (sym own) (λ b. saw-kept b))
        else' (λ d ne b e. others-more plan knows knows' more d b (t.saw' d b e)) d;
  }
    where
      saw-kept : (b : Bool) → saw (drawn plan i n (knows c)) b ≡ true → Others plan knows' c b
      saw-kept true e = others-more plan knows knows' more c true (t.saw' c true e)
      saw-kept false e = others-more plan knows knows' more c false (t.saw' c false e)

-- ## tracing is switched

module _ (plan : TracePlan) (words : List ℕ) (knows : ℕ → Known) (t : IsTally plan words knows) (count : length words ≡ suc (length plan.triggers))
    (c i : ℕ) (inside : c < plan.cpus) (within : i < length plan.triggers) (fired-one : 0 < fired_of (knows c) i)
    (on : Bool) (switches : (trigger plan i).on ≡ on) (knows' : ℕ → Known) (own : knows' c ≡ switched_to on (knows c))
    (else' : (d : ℕ) → d ≢ c → knows' d ≡ knows d) where
  same-fired : (d : ℕ) → (knows' d).fired ≡ (knows d).fired
  same-fired d = at-each (λ d k. k.fired ≡ (knows d).fired) knows knows' c (ap (λ (k : Known). k.fired) own) else' (λ d ne. refl) d

  same-hits : (d : ℕ) → (knows' d).hits ≡ (knows d).hits
  same-hits d = at-each (λ d k. k.hits ≡ (knows d).hits) knows knows' c (ap (λ (k : Known). k.hits) own) else' (λ d ne. refl) d

  more-fired : (d j : ℕ) → fired_of (knows d) j ≤ fired_of (knows' d) j
  more-fired d j = let e = ap (λ l. get_or l j 0) (same-fired d) in omega (arith, e)

  -- what c has fired is another's for each other CPU
  here : (d : ℕ) → d ≢ c → Others plan knows' d on
  here d ne = record {
    cpu = c;
    apart = λ e. ne (sym e);
    inside = inside;
    trigger' = i;
    within = within;
    switches = switches;
    fired = (let m = more-fired c i in omega (arith, m, fired-one));
  }

  pub switch-keeps : (x : ℕ) → x ≡ bit on → IsTally plan (set words 0 x) knows'
  switch-keeps x is = record {
    on = on;
    switch = get_or-set_same words 0 x 0 (omega (arith, count)) ∙ is;
    lengths = λ d. (ap length (same-hits d) ∙ (t.lengths d).0, ap length (same-fired d) ∙ (t.lengths d).1);
    few = λ d j. (let e = ap (λ l. get_or l j 0) (same-hits d) in let f = t.few d j in omega (arith, e, f));
    tickets = λ j lt.
        get_or-set_other words 0 (suc j) x 0 (λ e. absurd (omega (arith, e))) ∙ t.tickets j lt
        ∙ total-same plan.cpus (λ d. hits_of (knows d) j) (λ d. hits_of (knows' d) j) (λ d small. sym (ap (λ l. get_or l j 0) (same-hits d)));
    fired = λ j lt.
        total-same plan.cpus (λ d. fired_of (knows' d) j) (λ d. fired_of (knows d) j) (λ d small. ap (λ l. get_or l j 0) (same-fired d))
        ∙ t.fired j lt ∙ ap (quota (trigger plan j).limit) (sym (get_or-set_other words 0 (suc j) x 0 (λ e. absurd (omega (arith, e)))));
    agrees = λ d. ⊎_elim (λ (e : d ≡ c). inl (subst (λ m. on ≡ (knows' m).own) (sym e) (sym (ap (λ (k : Known). k.own) own))))
        (λ (ne : d ≢ c). inr (here d ne)) (same-or d c);
    saw' = λ d.
        at-each (λ d k. (b : Bool) → saw k b ≡ true → Others plan knows' d b) knows knows' c
        (subst (λ k. (b : Bool) → saw k b ≡ true → Others plan knows' c b) (sym own) (λ b. saw-kept b))
        else' (λ d ne b e. others-more plan knows knows' more-fired d b (t.saw' d b e)) d;
  }
    where
      saw-kept : (b : Bool) → saw (switched_to on (knows c)) b ≡ true → Others plan knows' c b
      saw-kept true e = others-more plan knows knows' more-fired c true (t.saw' c true e)
      saw-kept false e = others-more plan knows knows' more-fired c false (t.saw' c false e)

-- ## tracing is looked at

pub is-bit : (b : Bool) → (bit b == 1) ≡ b
is-bit true = refl
is-bit false = refl

module _ (plan : TracePlan) (words : List ℕ) (knows : ℕ → Known) (t : IsTally plan words knows) (c : ℕ) (knows' : ℕ → Known)
    (own : knows' c ≡ looked (get_or words 0 0 == 1) (knows c)) (else' : (d : ℕ) → d ≢ c → knows' d ≡ knows d) where
  found : (get_or words 0 0 == 1) ≡ t.on
  found = ap (λ n. n == 1) t.switch ∙ is-bit t.on

  now : knows' c ≡ looked t.on (knows c)
  now = own ∙ ap (λ b. looked b (knows c)) found

  unfired : (d : ℕ) → (knows' d).fired ≡ (knows d).fired
  unfired d = at-each (λ d k. k.fired ≡ (knows d).fired) knows knows' c (ap (λ (k : Known). k.fired) own) else' (λ d ne. refl) d

  unhit : (d : ℕ) → (knows' d).hits ≡ (knows d).hits
  unhit d = at-each (λ d k. k.hits ≡ (knows d).hits) knows knows' c (ap (λ (k : Known). k.hits) own) else' (λ d ne. refl) d

  unswitched : (d : ℕ) → (knows' d).own ≡ (knows d).own
  unswitched d = at-each (λ d k. k.own ≡ (knows d).own) knows knows' c (ap (λ (k : Known). k.own) own) else' (λ d ne. refl) d

  not-fewer : (d j : ℕ) → fired_of (knows d) j ≤ fired_of (knows' d) j
  not-fewer d j = let e = ap (λ l. get_or l j 0) (unfired d) in omega (arith, e)

  -- if it finds tracing against its own switch, another has switched it so
  found-on : (on mine : Bool) → (on ≡ mine) ⊎ Others plan knows c on → (not mine && on) ≡ true → Others plan knows c true
  found-on true true a e = false_true e
  found-on true false a e = ⊎_elim (λ q. false_true (sym q)) (λ o. o) a
  found-on false true a e = false_true e
  found-on false false a e = false_true e

  found-off : (on mine : Bool) → (on ≡ mine) ⊎ Others plan knows c on → (mine && not on) ≡ true → Others plan knows c false
  found-off true true a e = false_true e
  found-off true false a e = false_true e
  found-off false true a e = ⊎_elim (λ q. false_true q) (λ o. o) a
  found-off false false a e = false_true e

  either : (a b : Bool) (P : Type 0) → (a ≡ true → P) → (b ≡ true → P) → (a || b) ≡ true → P
  either true b P l r e = l refl
  either false b P l r e = r e

  saw-now : (b : Bool) → saw (looked t.on (knows c)) b ≡ true → Others plan knows c b
  saw-now true e =
      either (knows c).saw_on (not (knows c).own && t.on) (Others plan knows c true) (λ q. t.saw' c true q) (found-on t.on (knows c).own (t.agrees c))
      e
  saw-now false e =
      either (knows c).saw_off ((knows c).own && not t.on) (Others plan knows c false) (λ q. t.saw' c false q)
      (found-off t.on (knows c).own (t.agrees c)) e

  pub look-keeps : IsTally plan words knows'
  look-keeps = record {
    on = t.on;
    switch = t.switch;
    lengths = λ d. (ap length (unhit d) ∙ (t.lengths d).0, ap length (unfired d) ∙ (t.lengths d).1);
    few = λ d j. (let e = ap (λ l. get_or l j 0) (unhit d) in let f = t.few d j in omega (arith, e, f));
    tickets = λ j lt.
        t.tickets j lt
        ∙ total-same plan.cpus (λ d. hits_of (knows d) j) (λ d. hits_of (knows' d) j) (λ d small. sym (ap (λ l. get_or l j 0) (unhit d)));
    fired = λ j lt.
        total-same plan.cpus (λ d. fired_of (knows' d) j) (λ d. fired_of (knows d) j) (λ d small. ap (λ l. get_or l j 0) (unfired d)) ∙ t.fired j lt;
    agrees = λ d. ⊎_elim (λ e. inl (e ∙ sym (unswitched d))) (λ o. inr (others-more plan knows knows' not-fewer d t.on o)) (t.agrees d);
    saw' = λ d.
        at-each (λ d k. (b : Bool) → saw k b ≡ true → Others plan knows' d b) knows knows' c
        (subst (λ k. (b : Bool) → saw k b ≡ true → Others plan knows' c b) (sym now)
        (λ b e. others-more plan knows knows' not-fewer c b (saw-now b e)))
        else' (λ d ne b e. others-more plan knows knows' not-fewer d b (t.saw' d b e)) d;
  }
