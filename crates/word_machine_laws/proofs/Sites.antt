-- A call site goes on by a stage, and so does what a fetch has loaded of it.
use Rattle.std.proofs.Common.{◌≡◌, ◌≢◌, ◌⊎◌, ℕ, suc, ◌+◌, ◌*◌, ◌-◌, ◌<◌, ◌≤◌, Bool, true, false, cond, List, [], ◌∷◌, inl, inr, refl, sym, ap, ◌∙◌, subst, arith, length}
use Rattle.std.proofs.lemmas.Bool.{cases_lt, cases_eq}
use Rattle.ft_base.specs.Job.{Job, funcs}
use Rattle.ft_base.proofs.Small.{false_true}
use Rattle.word_map.specs.Words.{Word, Words}
use Rattle.word_map.specs.Instructions.{head_of, tail_of}
use Rattle.patch_core.specs.Moves.{Move, Put, Sync, Done}
use Rattle.word_machine.specs.Commands.{insn, changes, effect, Effect, Adds, Removes, Edits}
use Rattle.word_machine.specs.Control.{Position, Patch, Ask, Tasks, Close, before_moves, after_batch_in}
use Rattle.word_machine.specs.Task.{Moment, GotHead, GotBreak}
use Rattle.word_machine.specs.Machine.{words_after}
use Rattle.word_machine.specs.Progress.{comes_to, asked_in, syncs_in, patches, waits}
use Rattle.word_machine.specs.Sites.{SiteAt, FetchAt, SitesInPatching, PositionAt, stage, stage_in, stages_by, stages_left, asks, reached, synced}
use Rattle.word_machine.proofs.Small.{put_same, put_other}
use Rattle.word_machine_laws.proofs.Batches.{Sweep, Nexts, Breaks, Tails, Heads, store_at, stage_from, StoreAt, AreLeft, own-stage, other-stage, is-move, left-cons, syncs-cons, syncs-put, asked_before, asked-more, sweep-syncs}
use Rattle.word_machine_laws.proofs.DeskNumbers.{unchanged}

-- ## one site

-- no word is stored: from 2 to 3, 3 to 4, 5 to 6, 6 to 7, 8 to 9 and 9 to 10
pub site_still : (n f old new head tail next : ℕ) → n ≢ 0 → n ≢ 1 → n ≢ 4 → n ≢ 7 → SiteAt n f old new head tail next → SiteAt (suc n) f old new head tail next
site_still n f old new head tail next n0 n1 n4 n7 a = record {
  before = λ h. absurd (omega arith);
  broken = λ h k. a.broken (omega arith) (omega arith);
  after = λ h. a.after (omega arith);
  tail_old = λ h. a.tail_old (omega arith);
  tail_new = λ h. a.tail_new (omega arith);
  next_new = λ h. a.next_new (omega arith);
}

-- the whole site has its new words, which are the old ones of the desk that is then the last returned
pub site_settled : (f old new newer head tail next : ℕ) → SiteAt 10 f old new head tail next → SiteAt 0 f new newer head tail next
site_settled f old new newer head tail next a = record {
  before = λ h. a.after (omega arith);
  broken = λ h k. absurd (omega arith);
  after = λ h. absurd (omega arith);
  tail_old = λ h. a.tail_new (omega arith);
  tail_new = λ h. absurd (omega arith);
  next_new = λ h. absurd (omega arith);
}

-- a fetch under a site that goes on by one stage
pub fetch_on : (n old new base ack : ℕ) (m : Moment) → (n ≡ 1 → ack < base + 1) → (n ≡ 3 → base + 1 ≤ ack) → (n ≡ 9 → base + 3 ≤ ack)
    → FetchAt n old new base ack m → FetchAt (suc n) old new base ack m
fetch_on n old new base ack (GotHead byte) one three nine (inl x) = elim x.1 [
  | inl y ↦ inl (x.0, elim (cases_lt n 1) [ inl h ↦ inl (omega arith) | inr h ↦ inr ((omega arith), one (omega arith)) ])
  | inr y ↦ inl (
    x.0,
    inr (
      (elim (cases_lt n 3) [
        | inl h ↦ (omega arith)
        | inr h ↦ absurd (let t = three (let z = y.0 in omega (arith, z)) in let z = y.1 in
            omega (arith, t, z))
      ]),
      y.1,
    ),
  )
]
fetch_on n old new base ack (GotHead byte) one three nine (inr x) = inr ((let z = x.0 in omega (arith, z)), x.1)
fetch_on n old new base ack GotBreak one three nine x = (
  (let z = x.0 in omega (arith, z)),
  (elim (cases_lt n 9) [
    | inl h ↦ (omega arith)
    | inr h ↦ absurd (let z = x.1 in let y = x.2 in let t = nine (omega (arith, z)) in
        omega (arith, t, y))
  ]),
  x.2,
)
fetch_on n old new base ack _ one three nine x = tt

-- if nothing of the batch is stored, or all of it is over, the number of its first request does not matter
pub fetch_base : (n old new base base' ack : ℕ) (m : Moment) → (n ≡ 0) ⊎ (n ≡ 10) → FetchAt n old new base ack m → FetchAt n old new base' ack m
fetch_base n old new base base' ack (GotHead byte) at' (inl x) = inl (
  x.0,
  elim x.1 [ inl y ↦ inl y | inr y ↦ elim at' [ inl e ↦ inl (omega arith) | inr e ↦ absurd (let b = y.0 in omega (arith, b, e)) ] ],
)
fetch_base n old new base base' ack (GotHead byte) at' (inr x) = inr x
fetch_base n old new base base' ack GotBreak at' x = absurd (let a = x.0 in let b = x.1 in
    elim at' [ inl e ↦ omega (arith, a, e) | inr e ↦ omega (arith, b, e) ])
fetch_base n old new base base' ack _ at' x = tt

-- ## all sites

-- what a row does to the fetches of a CPU
abbrev pub Fetches : Job → ℕ → ℕ → Position → ℕ → ℕ → Position → ℕ → Type 0
Fetches job ack d p base d' p' base' = (f : ℕ) (m : Moment) → f < funcs job
    → FetchAt (stage job d p f) (insn job d f) (insn job (suc d) f) base ack m → FetchAt (stage job d' p' f) (insn job d' f) (insn job (suc d') f) base' ack m

-- what a row makes of the sites, of the acknowledgements that control knows of, and of the fetches
pub record Passed (job : Job) (ack : ℕ → ℕ) (d : ℕ) (p : Position) (base request d' : ℕ) (p' : Position) (base' request' wanted : ℕ) (head : ℕ → ℕ) (tail : ℕ
    → ℕ) (next : ℕ → ℕ) : Type 0 where
  pub sites : SitesInPatching job d' p' base' request' wanted head tail next
  pub reach : (c : ℕ) → c < length job.quanta → reached base p c ≤ ack c → reached base' p' c ≤ ack c
  pub fetch : (c : ℕ) → c < length job.quanta → reached base p c ≤ ack c → ack c ≤ request → Fetches job (ack c) d p base d' p' base'

-- a row, site by site
module _ (job : Job) (d : ℕ) (ack : ℕ → ℕ) (p p' : Position) (base base' request request' wanted wanted' : ℕ) (head tail next head' tail' next' : ℕ → ℕ) where
  -- what it makes of a site, and of a fetch under way there, from one stage to another
  abbrev SiteGoes : ℕ → ℕ → ℕ → Type 0
  SiteGoes f n n' =
      (SiteAt n f (insn job d f) (insn job (suc d) f) (head f) (tail f) (next f)
      → SiteAt n' f (insn job d f) (insn job (suc d) f) (head' f) (tail' f) (next' f))
      × ((c : ℕ) (m : Moment) → c < length job.quanta → reached base p c ≤ ack c → ack c ≤ request
      → FetchAt n (insn job d f) (insn job (suc d) f) base (ack c) m → FetchAt n' (insn job d f) (insn job (suc d) f) base' (ack c) m)

  -- from the stage at one position to that at the other
  abbrev Staged : ℕ → Type 0
  Staged f = (n : ℕ) × (n' : ℕ) × (stage_in p f ≡ n) × (stage_in p' f ≡ n') × SiteGoes f n n'

  passed_on : ((f : ℕ) → f < funcs job → changes job d f ≡ true → Staged f) → ((f : ℕ) → changes job d f ≡ false → SiteGoes f 0 0)
      → request' ≡ base' + asks p' → request' ≤ 4 * d + asked_in p' → wanted' ≡ request' → PositionAt job d p' → comes_to (effect job d) p' ≡ true
      → ((c : ℕ) → c < length job.quanta → reached base p c ≤ ack c → reached base' p' c ≤ ack c)
      → SitesInPatching job d p base request wanted head tail next → Passed job ack d p base request d p' base' request' wanted' head' tail' next'
  passed_on goes stays asked few want position fit reach k = record {
    sites = record { asked = asked; few = few; want = want; position = position; fit = fit; sites = λ f inside. (each f inside).0 (k.sites f inside) };
    reach = reach;
    fetch = λ c within r le f m inside. (each f inside).1 c m within r le;
  }
    where
      each : (f : ℕ) → f < funcs job → SiteGoes f (stage job d p f) (stage job d p' f)
      each f inside = by_change (changes job d f) refl
        where
          by_change : (b : Bool) → changes job d f ≡ b → SiteGoes f (cond b (stage_in p f) 0) (cond b (stage_in p' f) 0)
          by_change false e = stays f e
          by_change true e = let x = goes f inside e in subst (λ (q : ℕ × ℕ). SiteGoes f q.0 q.1) (λ j. (sym x.2 j, sym x.3 j)) x.4

-- Control before the first of these moves of the batch, or after the batch, by what is left of it.
--   stages            each site that changes is as far as it was after the move before
--   position, fit     the next move is one of the batch, and its command comes to it
--   few, asked, reaches   requests are counted on, and what the CPUs have acknowledged stays; after the batch its requests are none any more
pub record Before (job : Job) (d : ℕ) (rest : List Move) (p : Position) : Type 0 where
  pub stages : (f : ℕ) → stage_in p f ≡ 10 - stages_left f rest
  pub position : PositionAt job d p
  pub fit : comes_to (effect job d) p ≡ true
  pub few : 3 - syncs_in rest ≤ asked_in p
  pub asked : asks p ≡ asked_before rest
  pub reaches : (base c : ℕ) → reached base p c ≡ synced base (asked_before rest)

module _ (job : Job) (d : ℕ) where
  pub before_rest : (rest : List Move) → AreLeft job d rest → patches (effect job d) ≡ true → Before job d rest (before_moves job d rest)
  before_rest (Put w x ∷ rest) left fit = record {
    stages = λ f. ap (λ n. 10 - n) (sym (left-cons f (Put w x) rest));
    position = left;
    fit = fit;
    few = (let e = syncs-put w x rest in omega (arith, e));
    asked = ap (λ n. 3 - n) (sym (syncs-put w x rest));
    reaches = λ base c. ap (λ n. synced base (3 - n)) (sym (syncs-put w x rest));
  }
  before_rest (Sync ∷ rest) left fit = record {
    stages = λ f. (let e = left-cons f Sync rest in omega (arith, e));
    position = left;
    fit = fit;
    few = (let e = syncs-cons Sync rest in omega (arith, e));
    asked = one_less;
    reaches = λ base c. ap (λ n. synced base n) one_less;
  }
    where
      one_less : 2 - syncs_in rest ≡ 3 - syncs_in (Sync ∷ rest)
      one_less = let e = syncs-cons Sync rest in omega (arith, e)
  before_rest (Done ∷ rest) left fit = absurd (is-move job d Done rest left)
  before_rest [] left fit = by_effect (effect job d) refl fit
    where
      quiet : waits (effect job d) ≡ true → Before job d [] (Ask Tasks)
      quiet w = record { stages = λ f. refl; position = tt; fit = w; few = omega arith; asked = refl; reaches = λ base c. refl }

      by_effect : (z : Effect) → effect job d ≡ z → patches z ≡ true → Before job d [] (after_batch_in z)
      by_effect Removes e t = quiet (ap waits e)
      by_effect Edits e t = quiet (ap waits e)
      by_effect Adds e t = record { stages = λ f. refl; position = tt; fit = refl; few = omega arith; asked = refl; reaches = λ base c. refl }
      by_effect _ e t = false_true t

  -- the words after a store of the batch: those of other sites stay, its own site goes on by a stage
  other_site : (z : Sweep) (i f n old new : ℕ) (ws : Words) → f ≢ i → SiteAt n f old new (ws.head f) (ws.tail f) (ws.next f)
      → SiteAt n f old new ((words_after (store_at job d z i) ws).head f) ((words_after (store_at job d z i) ws).tail f)
      ((words_after (store_at job d z i) ws).next f)
  other_site Nexts i f n old new ws ne s = subst (λ y. SiteAt n f old new (ws.head f) (ws.tail f) y) (sym (put_other ws.next i _ f ne)) s
  other_site Breaks i f n old new ws ne s = subst (λ y. SiteAt n f old new y (ws.tail f) (ws.next f)) (sym (put_other ws.head i _ f ne)) s
  other_site Tails i f n old new ws ne s = subst (λ y. SiteAt n f old new (ws.head f) y (ws.next f)) (sym (put_other ws.tail i _ f ne)) s
  other_site Heads i f n old new ws ne s = subst (λ y. SiteAt n f old new y (ws.tail f) (ws.next f)) (sym (put_other ws.head i _ f ne)) s

  own_site : (z : Sweep) (i old : ℕ) (ws : Words) → SiteAt (stage_from z) i old (insn job (suc d) i) (ws.head i) (ws.tail i) (ws.next i)
      → SiteAt (suc (stage_from z)) i old (insn job (suc d) i) ((words_after (store_at job d z i) ws).head i)
      ((words_after (store_at job d z i) ws).tail i) ((words_after (store_at job d z i) ws).next i)
  own_site Nexts i old ws s =
      subst (λ y. SiteAt 1 i old (insn job (suc d) i) (ws.head i) (ws.tail i) y) (sym (put_same ws.next i _)) (grind arith)
  own_site Breaks i old ws s =
      subst (λ y. SiteAt 2 i old (insn job (suc d) i) y (ws.tail i) (ws.next i)) (sym (put_same ws.head i _)) (grind arith)
  own_site Tails i old ws s =
      subst (λ y. SiteAt 5 i old (insn job (suc d) i) (ws.head i) y (ws.next i)) (sym (put_same ws.tail i _)) (grind arith)
  own_site Heads i old ws s =
      subst (λ y. SiteAt 8 i old (insn job (suc d) i) y (ws.tail i) (ws.next i)) (sym (put_same ws.head i _)) (grind arith)

  -- a store of the batch: its own site goes on by a stage, the others stay
  module _ (w : Word) (x : ℕ) (rest : List Move) (s : StoreAt job d w x rest) (p' : Position) (b : Before job d rest p') where
    from : stage_in (Patch w x rest) s.site ≡ stage_from s.sweep
    from = let o = ap (λ v. stages_by s.site (Put v x)) s.word ∙ own-stage job d s.sweep s.site x in let l = s.left in omega (arith, o, l)

    to : stage_in p' s.site ≡ suc (stage_from s.sweep)
    to = let e = b.stages s.site in let l = s.left in omega (arith, e, l)

    still : (f : ℕ) → f ≢ s.site → stage_in p' f ≡ stage_in (Patch w x rest) f
    still f ne =
        let e = b.stages f in let o = ap (λ v. stages_by f (Put v x)) s.word ∙ other-stage job d s.sweep s.site x f ne in
        omega (arith, e, o)

    more : asked_before rest ≡ 3 - syncs_in rest
    more = asked-more rest (let k = (sweep-syncs s.sweep).0 in let y = s.syncs in omega (arith, k, y))

    module _ (ack : ℕ → ℕ) (base request wanted : ℕ) (ws : Words)
        (k : SitesInPatching job d (Patch w x rest) base request wanted ws.head ws.tail ws.next) where
      abbrev ws' : Words
      ws' = words_after (store_at job d s.sweep s.site) ws

      abbrev Goes : ℕ → ℕ → ℕ → Type 0
      Goes = SiteGoes job d ack (Patch w x rest) p' base base request request wanted wanted ws.head ws.tail ws.next ws'.head ws'.tail ws'.next

      own : Goes s.site (stage_from s.sweep) (suc (stage_from s.sweep))
      own = (
        own_site s.sweep s.site (insn job d s.site) ws,
        λ c m within r le. fetch_on (stage_from s.sweep) (insn job d s.site) (insn job (suc d) s.site) base (ack c) m
            (λ one. (let a = k.asked in let n = (sweep-syncs s.sweep).1 one in let y = s.syncs in omega (arith, a, n, y, le)))
            (λ t. absurd ((sweep-syncs s.sweep).2 t)) (λ t. absurd ((sweep-syncs s.sweep).3 t)),
      )

      other : (f n : ℕ) → f ≢ s.site → Goes f n n
      other f n ne = (other_site s.sweep s.site f n (insn job d f) (insn job (suc d) f) ws ne, λ c m within r le x. x)

      pub passed_store : Passed job ack d (Patch w x rest) base request d p' base request wanted ws'.head ws'.tail ws'.next
      passed_store =
          passed_on job d ack (Patch w x rest) p' base base request request wanted wanted ws.head ws.tail ws.next ws'.head ws'.tail ws'.next
          (λ f inside ch. elim (cases_eq f s.site) [
            | inl same ↦ subst (λ g. (n : ℕ) × (n' : ℕ) × (stage_in (Patch w x rest) g ≡ n) × (stage_in p' g ≡ n') × Goes g n n') (sym same)
                (stage_from s.sweep, suc (stage_from s.sweep), from, to, own)
            | inr ne ↦ (stage_in (Patch w x rest) f, stage_in (Patch w x rest) f, refl, still f ne, other f (stage_in (Patch w x rest) f) ne)
          ])
          (λ f e. other f 0 (λ same. false_true (sym e ∙ ap (changes job d) same ∙ s.changed')))
          (let a = k.asked in let e = b.asked in let m = more in omega (arith, a, e, m)) (let a = k.few in let e = b.few in omega (arith, a, e))
          k.want b.position b.fit (λ c within r. subst (λ n. n ≤ ack c) (sym (b.reaches base c ∙ ap (λ n. synced base n) more)) r) k

  -- all changed sites go on by one stage, and nothing of them is stored
  pub passed_lifts : (ack : ℕ → ℕ) (p p' : Position) (n base base' request request' wanted wanted' : ℕ) (head tail next : ℕ → ℕ)
      → ((f : ℕ) → f < funcs job → changes job d f ≡ true → (stage_in p f ≡ n) × (stage_in p' f ≡ suc n))
      → n ≢ 0 → n ≢ 1 → n ≢ 4 → n ≢ 7
      → request' ≡ base' + asks p' → request' ≤ 4 * d + asked_in p' → wanted' ≡ request' → PositionAt job d p' → comes_to (effect job d) p' ≡ true
      → (base' ≡ base) ⊎ (n ≡ 9)
      → ((c : ℕ) → c < length job.quanta → reached base p c ≤ ack c → (reached base' p' c ≤ ack c) × (n ≡ 3 → base + 1 ≤ ack c) × (n ≡ 9 → base + 3 ≤ ack c))
      → SitesInPatching job d p base request wanted head tail next → Passed job ack d p base request d p' base' request' wanted' head tail next
  passed_lifts ack p p' n base base' request request' wanted wanted' head tail next lift n0 n1 n4 n7 asked few want position fit bases reach k =
      passed_on job d ack p p' base base' request request' wanted wanted' head tail next head tail next
      (λ f inside ch. let l = lift f inside ch in (
        n,
        suc n,
        l.0,
        l.1,
        (
          site_still n f (insn job d f) (insn job (suc d) f) (head f) (tail f) (next f) n0 n1 n4 n7,
          λ c m within r le x. rebased f c m
              (fetch_on n (insn job d f) (insn job (suc d) f) base (ack c) m (λ e. absurd (n1 e)) (reach c within r).1 (reach c within r).2 x),
        ),
      ))
      (λ f e. (λ x. x, λ c m within r le x. fetch_base 0 (insn job d f) (insn job (suc d) f) base base' (ack c) m (inl refl) x))
      asked few want position fit (λ c within r. (reach c within r).0) k
    where
      rebased : (f c : ℕ) (m : Moment) → FetchAt (suc n) (insn job d f) (insn job (suc d) f) base (ack c) m
          → FetchAt (suc n) (insn job d f) (insn job (suc d) f) base' (ack c) m
      rebased f c m x = elim bases [
        | inl e ↦ subst (λ v. FetchAt (suc n) (insn job d f) (insn job (suc d) f) v (ack c) m) (sym e) x
        | inr e ↦ fetch_base (suc n) (insn job d f) (insn job (suc d) f) base base' (ack c) m (inr (omega arith)) x
      ]

  -- no stage changes; the first request of the batch matters only within a batch
  pub passed_same : (ack : ℕ → ℕ) (p p' : Position) (base base' request request' wanted wanted' : ℕ) (head tail next : ℕ → ℕ)
      → ((f : ℕ) → f < funcs job → changes job d f ≡ true → stage_in p' f ≡ stage_in p f)
      → request' ≡ base' + asks p' → request' ≤ 4 * d + asked_in p' → wanted' ≡ request' → PositionAt job d p' → comes_to (effect job d) p' ≡ true
      → (base' ≡ base) ⊎ ((f : ℕ) → (stage_in p f ≡ 0) ⊎ (stage_in p f ≡ 10))
      → ((c : ℕ) → c < length job.quanta → reached base p c ≤ ack c → reached base' p' c ≤ ack c)
      → SitesInPatching job d p base request wanted head tail next → Passed job ack d p base request d p' base' request' wanted' head tail next
  passed_same ack p p' base base' request request' wanted wanted' head tail next same asked few want position fit bases reach k =
      passed_on job d ack p p' base base' request request' wanted wanted' head tail next head tail next
      (λ f inside ch. (stage_in p f, stage_in p f, refl, same f inside ch, (λ x. x, λ c m within r le x. rebased f c m x)))
      (λ f e. (λ x. x, λ c m within r le x. fetch_base 0 (insn job d f) (insn job (suc d) f) base base' (ack c) m (inl refl) x))
      asked few want position fit reach k
    where
      rebased : (f c : ℕ) (m : Moment) → FetchAt (stage_in p f) (insn job d f) (insn job (suc d) f) base (ack c) m
          → FetchAt (stage_in p f) (insn job d f) (insn job (suc d) f) base' (ack c) m
      rebased f c m x = elim bases [
        | inl e ↦ subst (λ v. FetchAt (stage_in p f) (insn job d f) (insn job (suc d) f) v (ack c) m) (sym e) x
        | inr e ↦ fetch_base (stage_in p f) (insn job d f) (insn job (suc d) f) base base' (ack c) m (e f) x
      ]

-- the return: the desk that was begun is the desk that has returned
pub passed_close : (job : Job) (d : ℕ) (ack : ℕ → ℕ) (p' : Position) (base request wanted : ℕ) (head tail next : ℕ → ℕ) → ((f : ℕ) → stage_in p' f ≡ 0)
    → asks p' ≡ 0 → ((b c : ℕ) → reached b p' c ≡ 0) → PositionAt job (suc d) p' → comes_to (effect job (suc d)) p' ≡ true
    → SitesInPatching job d Close base request wanted head tail next → Passed job ack d Close base request (suc d) p' request request wanted head tail next
passed_close job d ack p' base request wanted head tail next stages asks_none reaches position fit k = record {
  sites = record {
    asked = omega (arith, asks_none);
    few = (let z = k.few in omega (arith, z));
    want = k.want;
    position = position;
    fit = fit;
    sites = λ f inside. subst (λ n. SiteAt n f (insn job (suc d) f) (insn job (suc (suc d)) f) (head f) (tail f) (next f)) (none f)
        (settle f (k.sites f inside));
  };
  reach = λ c within s. rw (reaches request c) (omega arith);
  fetch = λ c within r le f m inside s. subst (λ n. FetchAt n (insn job (suc d) f) (insn job (suc (suc d)) f) request (ack c) m) (none f)
      (fetches f (ack c) m s);
}
  where
    none : (f : ℕ) → 0 ≡ stage job (suc d) p' f
    none f = by_change (changes job (suc d) f)
      where
        by_change : (b : Bool) → 0 ≡ cond b (stage_in p' f) 0
        by_change false = refl
        by_change true = sym (stages f)

    settle : (f : ℕ) → SiteAt (stage job d Close f) f (insn job d f) (insn job (suc d) f) (head f) (tail f) (next f)
        → SiteAt 0 f (insn job (suc d) f) (insn job (suc (suc d)) f) (head f) (tail f) (next f)
    settle f = by_change (changes job d f) refl
      where
        by_change : (b : Bool) → changes job d f ≡ b → SiteAt (cond b 10 0) f (insn job d f) (insn job (suc d) f) (head f) (tail f) (next f)
            → SiteAt 0 f (insn job (suc d) f) (insn job (suc (suc d)) f) (head f) (tail f) (next f)
        by_change true e s = site_settled f (insn job d f) (insn job (suc d) f) (insn job (suc (suc d)) f) (head f) (tail f) (next f) s
        by_change false e s = record {
          before = λ h. s.before h ∙ ap head_of (unchanged job d f e);
          broken = λ h j. absurd (omega arith);
          after = λ h. absurd (omega arith);
          tail_old = λ h. s.tail_old h ∙ ap (tail_of f) (unchanged job d f e);
          tail_new = λ h. absurd (omega arith);
          next_new = λ h. absurd (omega arith);
        }

    fetches : (f x : ℕ) (m : Moment) → FetchAt (stage job d Close f) (insn job d f) (insn job (suc d) f) base x m
        → FetchAt 0 (insn job (suc d) f) (insn job (suc (suc d)) f) request x m
    fetches f x m s = by_change m (changes job d f) refl s
      where
        by_change : (m : Moment) (b : Bool) → changes job d f ≡ b → FetchAt (cond b 10 0) (insn job d f) (insn job (suc d) f) base x m
            → FetchAt 0 (insn job (suc d) f) (insn job (suc (suc d)) f) request x m
        by_change (GotHead byte) true e (inl s) = absurd (elim s.1 [ inl y ↦ omega (arith, y) | inr y ↦ (let z = y.0 in omega (arith, z)) ])
        by_change (GotHead byte) true e (inr s) = inl (s.1, inl (omega arith))
        by_change (GotHead byte) false e (inl s) = inl (s.0 ∙ ap head_of (unchanged job d f e), inl (omega arith))
        by_change (GotHead byte) false e (inr s) = absurd (let z = s.0 in omega (arith, z))
        by_change GotBreak true e s = absurd (let z = s.1 in omega (arith, z))
        by_change GotBreak false e s = absurd (let z = s.0 in omega (arith, z))
        by_change _ b e s = tt
