-- Where each move of a batch stands.
use Rattle.std.proofs.Common.{◌≡◌, ℕ, true, false, zero, suc, ◌-◌, ◌+◌, ◌*◌, ◌<◌, ◌≤◌, ◌≢◌, ◌↔◌, List, [], ◌∷◌, ◌++◌, map, length, get_or, refl, ap, ◌∙◌, arith, append_assoc, inl, inr}
use Rattle.std.proofs.Math.ListN.{get_or-append}
use Rattle.std.proofs.lemmas.List.{get_or-append-add, get_or-map, length-map}
use Rattle.std.proofs.lemmas.Option.{slice_get_within, get_or_from_slice_get}
use Rattle.std.proofs.lemmas.Bool.{cases_lt, cases_eq}
use Rattle.std.specs.Prelude.{slice_get, Some}
use Rattle.site_bytes.specs.Bytes.{breakpoint, head_byte, tail_number}
use Rattle.site_bytes.specs.declared.insn.SiteChange.{SiteChange}
use Rattle.word_map.specs.Words.{Word, Head, Tail, Next}
use Rattle.word_map.specs.Instructions.{number_of}
use Rattle.patch_core.specs.Moves.{Move, Put, Sync, Done, is_store, batch, batch_next, next_store, break_store, tail_store, head_store}

-- ## a batch of parts

-- two parts, a sync, a part, a sync, a part and a sync
abbrev joined : List Move → List Move → List Move → List Move → List Move
joined a b t h = a ++ (b ++ (Sync ∷ (t ++ (Sync ∷ (h ++ Sync ∷ [])))))

-- what stands past the first list is in the second
past : (a b : List Move) (i j : ℕ) → i ≡ length a + j → get_or (a ++ b) i Done ≡ get_or b j Done
past a b i j e = rw e (get_or-append-add a b j Done)

-- the parts, and what stands between them
module _ (a b t h : List Move) where
  in_first : (k : ℕ) → k < length a → get_or (joined a b t h) k Done ≡ get_or a k Done
  in_first k lt = get_or-append a _ Done k lt

  in_second : (i k : ℕ) → i ≡ length a + k → k < length b → get_or (joined a b t h) i Done ≡ get_or b k Done
  in_second i k e lt = past a _ i k e ∙ get_or-append b _ Done k lt

  at_first_sync : (i : ℕ) → i ≡ length a + length b → get_or (joined a b t h) i Done ≡ Sync
  at_first_sync i e = past a _ i (length b) e ∙ past b _ (length b) 0 (omega arith)

  in_third : (i k : ℕ) → i ≡ length a + (length b + suc k) → k < length t → get_or (joined a b t h) i Done ≡ get_or t k Done
  in_third i k e lt = past a _ i (length b + suc k) e ∙ past b _ (length b + suc k) (suc k) refl ∙ get_or-append t _ Done k lt

  at_second_sync : (i : ℕ) → i ≡ length a + (length b + suc (length t)) → get_or (joined a b t h) i Done ≡ Sync
  at_second_sync i e =
      past a _ i (length b + suc (length t)) e ∙ past b _ (length b + suc (length t)) (suc (length t)) refl
      ∙ past t _ (length t) 0 (omega arith)

  -- past the second sync
  at_end : (i k : ℕ) → i ≡ length a + (length b + suc (length t + suc k)) → get_or (joined a b t h) i Done ≡ get_or (h ++ Sync ∷ []) k Done
  at_end i k e =
      past a _ i (length b + suc (length t + suc k)) e ∙ past b _ (length b + suc (length t + suc k)) (suc (length t + suc k)) refl
      ∙ past t _ (length t + suc k) (suc k) refl

  in_fourth : (i k : ℕ) → i ≡ length a + (length b + suc (length t + suc k)) → k < length h
      → get_or (joined a b t h) i Done ≡ get_or h k Done
  in_fourth i k e lt = at_end i k e ∙ get_or-append h _ Done k lt

  at_third_sync : (i : ℕ) → i ≡ length a + (length b + suc (length t + suc (length h))) → get_or (joined a b t h) i Done ≡ Sync
  at_third_sync i e = at_end i (length h) e ∙ past h _ (length h) 0 (omega arith)

  after_all : (i k : ℕ) → i ≡ length a + (length b + suc (length t + suc (length h + suc k))) → get_or (joined a b t h) i Done ≡ Done
  after_all i k e = at_end i (length h + suc k) e ∙ past h _ (length h + suc k) (suc k) refl

-- ## the batch of sites, by the numbers of its moves

-- the batch of one site or more, as joined parts
parts : (sites : List SiteChange) → 0 < length sites
    → batch sites ≡ joined (map next_store sites) (map break_store sites) (map tail_store sites) (map head_store sites)
parts [] h = absurd (omega arith)
parts (c ∷ cs) h = simp append_assoc

-- the store of a site
of_site : (f : SiteChange → Move) (sites : List SiteChange) (k : ℕ) (c : SiteChange) → slice_get sites k ≡ Some c
    → get_or (map f sites) k Done ≡ f c
of_site f sites k c e =
    get_or-map f sites k c Done (slice_get_within sites k c e) ∙ ap f (get_or_from_slice_get sites k c c e)

-- each place within has a site
site : (sites : List SiteChange) (k : ℕ) → k < length sites → (c : SiteChange) × (slice_get sites k ≡ Some c)
site [] k h = absurd (omega arith)
site (c ∷ cs) zero h = (c, refl)
site (c ∷ cs) (suc k) h = site cs k (omega arith)

module _ (sites : List SiteChange) where
  -- the move of this number, from the joined parts
  from_parts : (i : ℕ) (m : Move) → 0 < length sites
      → get_or (joined (map next_store sites) (map break_store sites) (map tail_store sites) (map head_store sites)) i Done ≡ m
      → batch_next sites i ≡ m
  from_parts i m some e = ap (λ (moves : List Move). get_or moves i Done) (parts sites some) ∙ e

  -- the stores of site k
  module _ (k : ℕ) (c : SiteChange) (is : slice_get sites k ≡ Some c) where
    pub next_at : (i : ℕ) → i ≡ k → batch_next sites i ≡ next_store c
    next_at i e =
        let within = slice_get_within sites k c is in
        from_parts i (next_store c) (omega arith)
        (in_first _ _ _ _ i (omega (arith, length-map sites next_store)) ∙ rw e (of_site next_store sites k c is))

    pub break_at : (i : ℕ) → i ≡ length sites + k → batch_next sites i ≡ break_store c
    break_at i e =
        let within = slice_get_within sites k c is in
        from_parts i (break_store c) (omega arith)
        (in_second _ _ _ _ i k (omega (arith, length-map sites next_store)) (omega (arith, length-map sites break_store))
        ∙ of_site break_store sites k c is)

    pub tail_at : (i : ℕ) → i ≡ 2 * length sites + 1 + k → batch_next sites i ≡ tail_store c
    tail_at i e =
        let within = slice_get_within sites k c is in
        from_parts i (tail_store c) (omega arith)
        (in_third _ _ _ _ i k (omega (arith, length-map sites next_store, length-map sites break_store))
        (omega (arith, length-map sites tail_store)) ∙ of_site tail_store sites k c is)

    pub head_at : (i : ℕ) → i ≡ 3 * length sites + 2 + k → batch_next sites i ≡ head_store c
    head_at i e =
        let within = slice_get_within sites k c is in
        from_parts i (head_store c) (omega arith)
        (in_fourth _ _ _ _ i k
        (omega (arith, length-map sites next_store, length-map sites break_store, length-map sites tail_store))
        (omega (arith, length-map sites head_store)) ∙ of_site head_store sites k c is)

  -- the syncs, and the end
  pub first_sync_at : (i : ℕ) → 0 < length sites → i ≡ 2 * length sites → batch_next sites i ≡ Sync
  first_sync_at i some e =
      from_parts i Sync some
      (at_first_sync _ _ _ _ i (omega (arith, length-map sites next_store, length-map sites break_store)))

  pub second_sync_at : (i : ℕ) → 0 < length sites → i ≡ 3 * length sites + 1 → batch_next sites i ≡ Sync
  second_sync_at i some e =
      from_parts i Sync some
      (at_second_sync _ _ _ _ i (omega (arith, length-map sites next_store, length-map sites break_store, length-map sites tail_store)))

  pub third_sync_at : (i : ℕ) → 0 < length sites → i ≡ 4 * length sites + 2 → batch_next sites i ≡ Sync
  third_sync_at i some e =
      from_parts i Sync some
      (at_third_sync _ _ _ _ i
      (omega (arith, length-map sites next_store, length-map sites break_store, length-map sites tail_store, length-map sites head_store)))

  pub done_at : (i : ℕ) → 0 < length sites → 4 * length sites + 3 ≤ i → batch_next sites i ≡ Done
  done_at i some le =
      from_parts i Done some
      (after_all _ _ _ _ i (i - (4 * length sites + 3))
      (omega (arith, length-map sites next_store, length-map sites break_store, length-map sites tail_store, length-map sites head_store)))

  -- ## which moves are stores

  -- the move of this number is a store
  abbrev pub IsStoreAt : ℕ → Type 0
  IsStoreAt i = (w : Word) × (x : ℕ) × (batch_next sites i ≡ Put w x)

  next_store_at : (i k : ℕ) → k < length sites → i ≡ k → IsStoreAt i
  next_store_at i k h e =
      let s = site sites k h in (Next s.0.func.0, number_of s.0.insn, next_at k s.0 s.1 i e)

  break_store_at : (i k : ℕ) → k < length sites → i ≡ length sites + k → IsStoreAt i
  break_store_at i k h e =
      let s = site sites k h in (Head s.0.func.0, breakpoint, break_at k s.0 s.1 i e)

  tail_store_at : (i k : ℕ) → k < length sites → i ≡ 2 * length sites + 1 + k → IsStoreAt i
  tail_store_at i k h e =
      let s = site sites k h in (Tail s.0.func.0, tail_number s.0.func.0 s.0.insn, tail_at k s.0 s.1 i e)

  head_store_at : (i k : ℕ) → k < length sites → i ≡ 3 * length sites + 2 + k → IsStoreAt i
  head_store_at i k h e =
      let s = site sites k h in (Head s.0.func.0, head_byte s.0.insn, head_at k s.0 s.1 i e)

  -- a number that is none of the syncs' is that of a store
  pub store_at : (i : ℕ) → i < 4 * length sites + 3 → i ≢ 2 * length sites → i ≢ 3 * length sites + 1 → i ≢ 4 * length sites + 2
      → IsStoreAt i
  store_at i lt n1 n2 n3 =
      elim (cases_lt i (length sites)) [
        | inl h ↦ next_store_at i i h refl
        | inr g1 ↦ elim (cases_lt i (2 * length sites)) [
          | inl h ↦ break_store_at i (i - length sites) (omega arith) (omega arith)
          | inr g2 ↦ elim (cases_lt i (3 * length sites + 1)) [
            | inl h ↦ tail_store_at i (i - (2 * length sites + 1)) (omega arith) (omega arith)
            | inr g3 ↦ head_store_at i (i - (3 * length sites + 2)) (omega arith) (omega arith)
          ]
        ]
      ]

  -- a number below that of all moves is not done
  pub not_done_at : (i : ℕ) → 0 < length sites → i < 4 * length sites + 3 → batch_next sites i ≢ Done
  not_done_at i some lt done =
      elim (cases_eq i (2 * length sites)) [
        | inl e ↦ (let sync = first_sync_at i some e in cc)
        | inr n1 ↦ elim (cases_eq i (3 * length sites + 1)) [
          | inl e ↦ (let sync = second_sync_at i some e in cc)
          | inr n2 ↦ elim (cases_eq i (4 * length sites + 2)) [
            | inl e ↦ (let sync = third_sync_at i some e in cc)
            | inr n3 ↦ (let s = store_at i lt n1 n2 n3 in cc s.2)
          ]
        ]
      ]

  -- a batch is done after so many moves, and not before
  pub done_exactly : (i : ℕ) → 0 < length sites → (batch_next sites i ≡ Done) ↔ (4 * length sites + 3 ≤ i)
  done_exactly i some = (
    λ done. elim (cases_lt i (4 * length sites + 3)) [ inl lt ↦ absurd (not_done_at i some lt done) | inr le ↦ le ],
    λ le. done_at i some le,
  )

  -- ## which moves are stores, by numbers

  pub store-is : (i : ℕ) → i < 4 * length sites + 3 → i ≢ 2 * length sites → i ≢ 3 * length sites + 1 → i ≢ 4 * length sites + 2
      → is_store (batch_next sites i) ≡ true
  store-is i lt n1 n2 n3 = let s = store_at i lt n1 n2 n3 in ap is_store s.2

  -- without sites there is no move
  none_at : (i : ℕ) → length sites ≡ 0 → is_store (batch_next sites i) ≡ false
  none_at i e = by sites e
    where
      by : (xs : List SiteChange) → length xs ≡ 0 → is_store (batch_next xs i) ≡ false
      by [] h = refl
      by (x ∷ xs) h = absurd (omega (arith, h))

  some_or_none : (i : ℕ) → (0 < length sites → is_store (batch_next sites i) ≡ false) → is_store (batch_next sites i) ≡ false
  some_or_none i some = elim (cases_lt 0 (length sites)) [ inl h ↦ some h | inr h ↦ none_at i (omega arith) ]

  pub done-is : (i : ℕ) → 4 * length sites + 3 ≤ i → is_store (batch_next sites i) ≡ false
  done-is i le = some_or_none i (λ some. ap is_store (done_at i some le))

  pub first_sync-is : (i : ℕ) → i ≡ 2 * length sites → is_store (batch_next sites i) ≡ false
  first_sync-is i e = some_or_none i (λ some. ap is_store (first_sync_at i some e))

  pub second_sync-is : (i : ℕ) → i ≡ 3 * length sites + 1 → is_store (batch_next sites i) ≡ false
  second_sync-is i e = some_or_none i (λ some. ap is_store (second_sync_at i some e))

  pub third_sync-is : (i : ℕ) → i ≡ 4 * length sites + 2 → is_store (batch_next sites i) ≡ false
  third_sync-is i e = some_or_none i (λ some. ap is_store (third_sync_at i some e))

  pub past_stores-is : (i : ℕ) → 4 * length sites + 2 ≤ i → is_store (batch_next sites i) ≡ false
  past_stores-is i le = elim (cases_eq i (4 * length sites + 2)) [
    | inl q ↦ third_sync-is i q
    | inr ne ↦ done-is i (omega (arith, le, ne))
  ]
