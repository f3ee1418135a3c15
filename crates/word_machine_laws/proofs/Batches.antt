-- A batch, move by move: which store or sync each move is, and what is left of the batch after it.
use Rattle.std.proofs.Common.{◌≡◌, ◌≢◌, ℕ, zero, suc, ◌+◌, ◌*◌, ◌-◌, ◌<◌, ◌≤◌, true, false, cond, List, [], ◌∷◌, ◌++◌, map, inl, inr, refl, sym, ap, ap₂, ◌∙◌, subst, arith, append_assoc}
use Rattle.std.specs.Prelude.{◌==◌}
use Rattle.std.proofs.lemmas.Bool.{cases_eq}
use Rattle.std.proofs.lemmas.Bool.Decides.{nat_tests}
use Rattle.std.proofs.lemmas.List.Sums.{sum_by-cons}
use Rattle.ft_base.specs.Job.{Job, funcs}
use Rattle.ft_base.proofs.Small.{false_true}
use Rattle.site_bytes.specs.Bytes.{breakpoint}
use Rattle.site_bytes.specs.declared.insn.SiteChange.{SiteChange}
use Rattle.word_map.specs.Words.{Word, Head, Tail, Next}
use Rattle.word_map.specs.Instructions.{head_of, tail_of, number_of, insn_numbered}
use Rattle.word_map.specs.Ops.{WordOp, Store}
use Rattle.patch_core.specs.Moves.{Move, Put, Sync, Done, batch, next_store, break_store, tail_store, head_store}
use Rattle.word_machine.specs.Commands.{insn, changes, site_change, changed_from, changed, moves}
use Rattle.word_machine.specs.Progress.{syncs_by, syncs_in}
use Rattle.word_machine.specs.Sites.{stages_by, stages_left, IsMove}
use Rattle.word_machine.proofs.Small.{if_case}

-- ## what is left before a move and after it

pub left-cons : (f : ℕ) (m : Move) (rest : List Move) → stages_left f (m ∷ rest) ≡ stages_by f m + stages_left f rest
left-cons f m rest = sum_by-cons (stages_by f) m rest

pub syncs-cons : (m : Move) (rest : List Move) → syncs_in (m ∷ rest) ≡ syncs_by m + syncs_in rest
syncs-cons m rest = sum_by-cons syncs_by m rest

pub syncs-put : (w : Word) (x : ℕ) (rest : List Move) → syncs_in (Put w x ∷ rest) ≡ syncs_in rest
syncs-put w x rest = (let e = syncs-cons (Put w x) rest in omega (arith, e))

-- how many requests of the batch control counts before these moves: none any more once it is over
abbrev pub asked_before : List Move → ℕ
asked_before [] = 0
asked_before rest = 3 - syncs_in rest

-- ## the four sweeps over the sites

-- the word that a sweep stores at each site: the third, the breakpoint, the tail, the new first byte
pub data Sweep : Type 0 where
  Nexts : Sweep
  Breaks : Sweep
  Tails : Sweep
  Heads : Sweep

-- its move at a site
abbrev pub move_of : Sweep → SiteChange → Move
move_of Nexts = next_store
move_of Breaks = break_store
move_of Tails = tail_store
move_of Heads = head_store

-- the word of a site that it stores
abbrev pub word_at : Sweep → ℕ → Word
word_at Nexts i = Next i
word_at Breaks i = Head i
word_at Tails i = Tail i
word_at Heads i = Head i

-- what it stores there if the command changes the site
abbrev pub value_at : Job → ℕ → Sweep → ℕ → ℕ
value_at job d Nexts i = insn job (suc d) i
value_at job d Breaks i = breakpoint
value_at job d Tails i = tail_of i (insn job (suc d) i)
value_at job d Heads i = head_of (insn job (suc d) i)

-- that store, as a move and as an operation
abbrev put_at : Job → ℕ → Sweep → ℕ → Move
put_at job d z i = Put (word_at z i) (value_at job d z i)

abbrev pub store_at : Job → ℕ → Sweep → ℕ → WordOp
store_at job d z i = Store (word_at z i) (value_at job d z i)

-- the stage from which it takes a site to the next one
abbrev pub stage_from : Sweep → ℕ
stage_from Nexts = 0
stage_from Breaks = 1
stage_from Tails = 4
stage_from Heads = 7

-- how many syncs are after it
abbrev pub syncs_after : Sweep → ℕ
syncs_after Nexts = 3
syncs_after Breaks = 3
syncs_after Tails = 2
syncs_after Heads = 1

-- the number that a batch stores
number-numbered : (n : ℕ) → number_of (insn_numbered n) ≡ n
number-numbered zero = refl
number-numbered (suc zero) = refl
number-numbered (suc (suc s)) = omega arith

if-same : (i : ℕ) → ◌≡◌ {A = ℕ} (cond (i == i) 1 0) 1
if-same i = (let e : (i == i) ≡ true = grind (arith, nat_tests) in rw e refl)

if-other : (i f : ℕ) → f ≢ i → ◌≡◌ {A = ℕ} (cond (i == f) 1 0) 0
if-other i f ne = (let e : (i == f) ≡ false = grind (arith, nat_tests) in rw e refl)

module _ (job : Job) (d : ℕ) where
  move-is : (z : Sweep) (i : ℕ) → move_of z (site_change job d i) ≡ put_at job d z i
  move-is Nexts i = ap (Put (Next i)) (number-numbered (insn job (suc d) i))
  move-is _ i = refl

  -- a store takes its own site on by a stage, and no other
  pub own-stage : (z : Sweep) (i x : ℕ) → stages_by i (Put (word_at z i) x) ≡ 1
  own-stage Nexts i x = if-same i
  own-stage _ i x = if-same i

  pub other-stage : (z : Sweep) (i x f : ℕ) → f ≢ i → stages_by f (Put (word_at z i) x) ≡ 0
  other-stage Nexts i x f ne = if-other i f ne
  other-stage _ i x f ne = if-other i f ne

  -- ## what each move is

  -- A store of the batch.
  --   sweep, site    which store it is, at a site that the command changes, by its word and value. Any other would tear a site that stays
  --   left           its site goes on from the stage of the sweep. A site with two stores of a sweep would run ahead of the syncs
  --   syncs          so many syncs come after it
  pub record StoreAt (w : Word) (x : ℕ) (rest : List Move) : Type 0 where
    pub sweep : Sweep
    pub site : ℕ
    pub changed' : changes job d site ≡ true
    pub inside : site < funcs job
    pub word : w ≡ word_at sweep site
    pub value : x ≡ value_at job d sweep site
    pub left : stage_from sweep + suc (stages_left site rest) ≡ 10
    pub syncs : syncs_in rest ≡ syncs_after sweep

  -- a sync of the batch: the sites that change are all at one stage, by how many syncs are left. One that was not would get its next
  -- word while a CPU that nobody waited for is between its two loads
  pub record SyncAt (rest : List Move) : Type 0 where
    pub few : syncs_in rest ≤ 2
    pub left : (f : ℕ) → f < funcs job → changes job d f ≡ true → stages_left f rest ≡ 3 * syncs_in rest

  -- a move of the batch, before these
  abbrev pub MoveAt : Move → List Move → Type 0
  MoveAt (Put w x) rest = StoreAt w x rest
  MoveAt Sync rest = SyncAt rest
  MoveAt Done rest = ⊥

  -- so is each of these moves
  abbrev pub Are : List Move → Type 0
  Are [] = Unit {0}
  Are (m ∷ rest) = MoveAt m rest × Are rest

  are-at : (before : List Move) (m : Move) (rest : List Move) → Are (before ++ m ∷ rest) → MoveAt m rest
  are-at [] m rest a = a.0
  are-at (x ∷ before) m rest a = are-at before m rest a.1

  -- so many stages and syncs are left
  record Left (rest : List Move) (n k : ℕ) : Type 0 where
    are : Are rest
    stages : (f : ℕ) → f < funcs job → changes job d f ≡ true → stages_left f rest ≡ n
    syncs : syncs_in rest ≡ k

  -- ## a sweep before other moves

  left-own : (z : Sweep) (i : ℕ) (rest : List Move) → stages_left i (put_at job d z i ∷ rest) ≡ suc (stages_left i rest)
  left-own z i rest = (let a = left-cons i (put_at job d z i) rest in let b = own-stage z i (value_at job d z i) in omega (arith, a, b))

  left-other : (z : Sweep) (i f : ℕ) (rest : List Move) → f ≢ i → stages_left f (put_at job d z i ∷ rest) ≡ stages_left f rest
  left-other z i f rest ne = (let a = left-cons f (put_at job d z i) rest in let b = other-stage z i (value_at job d z i) f ne in omega (arith, a, b))

  module _ (z : Sweep) (rest : List Move) (k : ℕ) (l : Left rest k (syncs_after z)) (stages : stage_from z + suc k ≡ 10) where
    abbrev swept : ℕ → ℕ → List Move
    swept from n = map (move_of z) (changed_from job d from n) ++ rest

    -- of the sweep from this site on: the sites below have no store in it, each of the others that changes has one
    record Swept (from : ℕ) (sweep : List Move) : Type 0 where
      are : Are sweep
      below : (f : ℕ) → f < from → changes job d f ≡ true → stages_left f sweep ≡ k
      above : (f : ℕ) → from ≤ f → f < funcs job → changes job d f ≡ true → stages_left f sweep ≡ suc k
      syncs : syncs_in sweep ≡ syncs_after z

    swept-from : (from n : ℕ) → from + n ≡ funcs job → Swept from (swept from n)
    swept-from from zero e = record {
      are = l.are;
      below = λ f lt ch. l.stages f (omega (arith, e, lt)) ch;
      above = λ f le lt ch. absurd (omega (arith, e, le, lt));
      syncs = l.syncs;
    }
    swept-from from (suc n) e =
        let h = swept-from (suc from) n (omega (arith, e)) in
        if_case (λ (cs : List SiteChange). Swept from (map (move_of z) cs ++ rest)) (changes job d from)
        (site_change job d from ∷ changed_from job d (suc from) n) (changed_from job d (suc from) n)
        (λ is. subst (λ m. Swept from (m ∷ swept (suc from) n)) (sym (move-is z from)) (record {
          are = (
            record {
              sweep = z;
              site = from;
              changed' = is;
              inside = omega (arith, e);
              word = refl;
              value = refl;
              left = (let a = h.below from (omega arith) is in omega (arith, a, stages));
              syncs = h.syncs;
            },
            h.are,
          );
          below = λ f lt ch. left-other z from f (swept (suc from) n) (omega (arith, lt)) ∙ h.below f (omega (arith, lt)) ch;
          above = λ f le lt ch. elim (cases_eq f from) [
            | inl same ↦ ap (λ i. stages_left i (put_at job d z from ∷ swept (suc from) n)) same ∙ left-own z from (swept (suc from) n)
                ∙ ap suc (h.below from (omega arith) is)
            | inr ne ↦ left-other z from f (swept (suc from) n) ne ∙ h.above f (omega (arith, le, ne)) lt ch
          ];
          syncs = syncs-put (word_at z from) (value_at job d z from) (swept (suc from) n) ∙ h.syncs;
        }))
        (λ is. record {
          are = h.are;
          below = λ f lt ch. h.below f (omega (arith, lt)) ch;
          above = λ f le lt ch. elim (cases_eq f from) [
            | inl same ↦ false_true (sym is ∙ ap (changes job d) (sym same) ∙ ch)
            | inr ne ↦ h.above f (omega (arith, le, ne)) lt ch
          ];
          syncs = h.syncs;
        })

    all-swept : Left (map (move_of z) (changed job d) ++ rest) (suc k) (syncs_after z)
    all-swept = let h = swept-from 0 (funcs job) (omega arith) in
        record { are = h.are; stages = λ f inside ch. h.above f (omega arith) inside ch; syncs = h.syncs }

  -- ## the whole batch

  synced-left : (rest : List Move) (k : ℕ) → k ≤ 2 → Left rest (3 * k) k → Left (Sync ∷ rest) (2 + 3 * k) (suc k)
  synced-left rest k few l = record {
    are = (
      record {
        few = (let a = l.syncs in omega (arith, a, few));
        left = λ f inside ch. (let a = l.syncs in let b = l.stages f inside ch in omega (arith, a, b));
      },
      l.are,
    );
    stages = λ f inside ch. (let a = left-cons f Sync rest in let b = l.stages f inside ch in omega (arith, a, b));
    syncs = (let a = syncs-cons Sync rest in let b = l.syncs in omega (arith, a, b));
  }

  -- the moves of a batch of some sites
  abbrev whole : List SiteChange → List Move
  whole cs = map next_store cs ++ (map break_store cs ++ (Sync ∷ (map tail_store cs ++ (Sync ∷ (map head_store cs ++ Sync ∷ [])))))

  whole-left : Left (whole (changed job d)) 10 3
  whole-left =
      let heads = all-swept Heads _ 2 (synced-left [] 0 (omega arith) (record { are = tt; stages = λ f inside ch. refl; syncs = refl })) refl in
      let tails = all-swept Tails _ 5 (synced-left _ 1 (omega arith) heads) refl in
      all-swept Nexts _ 9 (all-swept Breaks _ 8 (synced-left _ 2 (omega arith) tails) refl) refl

  -- before the first move: each site that changes has ten stages before it, and nothing is asked
  pub record Whole (rest : List Move) : Type 0 where
    pub are : Are rest
    pub stages : (f : ℕ) → f < funcs job → changes job d f ≡ true → stages_left f rest ≡ 10
    pub asked : asked_before rest ≡ 0

  pub moves-whole : Whole (moves job d)
  unfolding moves
  moves-whole = by_sites (changed job d) whole-left
    where
      by_sites : (cs : List SiteChange) → Left (whole cs) 10 3 → Whole (batch cs)
      by_sites [] l = record { are = tt; stages = λ f inside ch. absurd (let h = l.stages f inside ch in omega (arith, h)); asked = refl }
      by_sites (c ∷ cs) l =
          let joined : batch (c ∷ cs) ≡ whole (c ∷ cs) = simp append_assoc in
          subst Whole (sym joined) (record { are = l.are; stages = l.stages; asked = (let e = l.syncs in omega (arith, e)) })

  pub is-move : (m : Move) (rest : List Move) → IsMove job d m rest → MoveAt m rest
  is-move m rest is = are-at is.0 m rest (subst Are is.1 moves-whole.are)

  -- what holds of each store at a site holds of a store of the batch
  pub store_case : (P : WordOp → Type 0) (w : Word) (x : ℕ) (rest : List Move) → IsMove job d (Put w x) rest
      → ((z : Sweep) (i : ℕ) → i < funcs job → P (store_at job d z i)) → P (Store w x)
  store_case P w x rest is all =
      let s = is-move (Put w x) rest is in subst P (sym (ap₂ Store s.word s.value)) (all s.sweep s.site s.inside)

  -- these moves are left of the batch
  abbrev pub AreLeft : List Move → Type 0
  AreLeft rest = (before : List Move) × (moves job d ≡ before ++ rest)

  pub after-move : (m : Move) (rest : List Move) → IsMove job d m rest → AreLeft rest
  after-move m rest is = (is.0 ++ m ∷ [], is.1 ∙ sym (append_assoc is.0 (m ∷ []) rest))

-- after a store of the batch some sync is left, and after the breakpoints the first one
pub sweep-syncs : (z : Sweep) → (0 < syncs_after z) × (stage_from z ≡ 1 → syncs_after z ≡ 3) × (stage_from z ≢ 3) × (stage_from z ≢ 9)
sweep-syncs Nexts = (omega arith, (λ e. omega arith), (λ e. omega (arith, e)), (λ e. omega (arith, e)))
sweep-syncs _ = (omega arith, (λ e. omega (arith, e)), (λ e. omega (arith, e)), (λ e. omega (arith, e)))

pub asked-more : (rest : List Move) → 0 < syncs_in rest → asked_before rest ≡ 3 - syncs_in rest
asked-more [] some = absurd (omega (arith, some))
asked-more (m ∷ rest) some = refl
