-- What the stores of a page leave, and what they make.
use Rattle.std.proofs.Common.{◌≡◌, ◌≢◌, ℕ, zero, suc, ◌+◌, ◌*◌, ◌<◌, ◌≤◌, ◌&&◌, false, refl, ap, sym, ◌∙◌, inl, inr, arith, eq-eqb}
use Rattle.std.specs.Prelude.{◌==◌}
use Rattle.std.proofs.lemmas.Bool.{cases_eq}
use Rattle.std.proofs.lemmas.Bool.Decides.{nat_tests}
use Rattle.ft_base.proofs.Small.{and-false}
use Rattle.site_set.specs.Marks.{word_of}
use Rattle.filter_hash.specs.Pair.{Pair, size_of}
use Rattle.word_map.specs.Words.{Words, bits_put, at_put}
use Rattle.word_map.specs.Places.{words_for}
use Rattle.word_map.specs.Contents.{other_copy}
use Rattle.hash_pages.specs.Pages.{Page}
use Rattle.hash_pages.specs.Found.{HasPair}
use Rattle.hash_pages.specs.Written.{after_op, written}
use Rattle.hash_pages.proofs.PageLaws.{store_case}

-- ## one word

abbrev Copies : Type 0
Copies = ℕ → ℕ → ℕ → ℕ → ℕ

-- a store into a copy leaves the words of another one
other_copy_kept : (g : Copies) (u c h w x d i k : ℕ) → d ≢ c → bits_put g u c h w x u d i k ≡ g u d i k
other_copy_kept g u c h w x d i k ne =
    let e : (d == c) ≡ false = grind (arith, nat_tests) in rw (e, and-false (u == u)) refl

-- a store into one set leaves the words of the other
other_set_kept : (g : Copies) (u c h w x i k : ℕ) → i ≢ h → bits_put g u c h w x u c i k ≡ g u c i k
other_set_kept g u c h w x i k ne =
    let e : (i == h) ≡ false = grind (arith, nat_tests) in rw (e, and-false ((u == u) && (c == c))) refl

-- a store into a word leaves the others
other_word_kept : (g : Copies) (u c h w x k : ℕ) → k ≢ w → bits_put g u c h w x u c h k ≡ g u c h k
other_word_kept g u c h w x k ne =
    let e : (k == w) ≡ false = grind (arith, nat_tests) in rw (e, and-false ((u == u) && (c == c) && (h == h))) refl

-- and puts its value there
word_put : (g : Copies) (u c h w x : ℕ) → bits_put g u c h w x u c h w ≡ x
word_put g u c h w x = rw (eq-eqb u u refl, eq-eqb c c refl, eq-eqb h h refl, eq-eqb w w refl) refl

state_put : (g : ℕ → ℕ) (u x : ℕ) → at_put g u x u ≡ x
state_put g u x = rw (eq-eqb u u refl) refl

-- ## what is left

module _ (p : Page) (pair : Pair) (ws : Words) where
  pub copy_kept : (n half w : ℕ) → p.copy < 2
      → (written p pair n ws).bits p.user (other_copy p.copy) half w ≡ ws.bits p.user (other_copy p.copy) half w
  copy_kept zero half w small = refl
  copy_kept (suc n) half w small =
      let before : Words = written p pair n ws in
      let ne : other_copy p.copy ≢ p.copy = λ e. omega (arith, e) in
      let kept = copy_kept n half w small in
      store_case p pair (λ o. (after_op o before).bits p.user (other_copy p.copy) half w ≡ ws.bits p.user (other_copy p.copy) half w) n
      (λ h. other_copy_kept before.bits p.user p.copy 0 n _ (other_copy p.copy) half w ne ∙ kept)
      (λ v at h. other_copy_kept before.bits p.user p.copy 1 v _ (other_copy p.copy) half w ne ∙ kept)
      (λ h. kept) (λ h. kept)

  pub state_kept : (n : ℕ) → n ≤ 2 * words_for p.shape.funcs → (written p pair n ws).sel p.user ≡ ws.sel p.user
  state_kept zero h = refl
  state_kept (suc n) h =
      let before : Words = written p pair n ws in
      let kept : before.sel p.user ≡ ws.sel p.user = state_kept n (omega arith) in
      store_case p pair (λ o. (after_op o before).sel p.user ≡ ws.sel p.user) n
      (λ k. kept) (λ v at k. kept) (λ e. absurd (omega arith)) (λ k. kept)

  -- ## what is made

  -- the words of the sets that the first n stores have stored
  record HasFirst (n : ℕ) (after : Words) : Type 0 where
    filter : (w : ℕ) → w < words_for p.shape.funcs → w < n → after.bits p.user p.copy 0 w ≡ word_of pair.filter w
    notrace : (w : ℕ) → w < words_for p.shape.funcs → words_for p.shape.funcs + w < n
        → after.bits p.user p.copy 1 w ≡ word_of pair.notrace w

  has_first : (n : ℕ) → HasFirst n (written p pair n ws)
  has_first zero = record { filter = λ w h k. absurd (omega arith); notrace = λ w h k. absurd (omega arith) }
  has_first (suc n) =
      let before : Words = written p pair n ws in
      let had : HasFirst n before = has_first n in
      store_case p pair (λ o. HasFirst (suc n) (after_op o before)) n
      (λ h. record {
        filter = λ w l k. elim (cases_eq w n) [
          | inl e ↦ ap (λ v. bits_put before.bits p.user p.copy 0 n (word_of pair.filter n) p.user p.copy 0 v) e
              ∙ word_put before.bits p.user p.copy 0 n (word_of pair.filter n) ∙ ap (word_of pair.filter) (sym e)
          | inr d ↦ other_word_kept before.bits p.user p.copy 0 n (word_of pair.filter n) w d ∙ had.filter w l (omega arith)
        ];
        notrace = λ w l k. absurd (omega arith);
      })
      (λ v at h. record {
        filter = λ w l k.
            other_set_kept before.bits p.user p.copy 1 v (word_of pair.notrace v) 0 w (λ e. cc) ∙ had.filter w l (omega arith);
        notrace = λ w l k. elim (cases_eq w v) [
          | inl e ↦ ap (λ y. bits_put before.bits p.user p.copy 1 v (word_of pair.notrace v) p.user p.copy 1 y) e
              ∙ word_put before.bits p.user p.copy 1 v (word_of pair.notrace v) ∙ ap (word_of pair.notrace) (sym e)
          | inr d ↦ other_word_kept before.bits p.user p.copy 1 v (word_of pair.notrace v) w d ∙ had.notrace w l (omega arith)
        ];
      })
      (λ e. record { filter = λ w l k. had.filter w l (omega arith); notrace = λ w l k. had.notrace w l (omega arith) })
      (λ h. record { filter = λ w l k. had.filter w l (omega arith); notrace = λ w l k. had.notrace w l (omega arith) })

  pub has_pair : (n : ℕ) → size_of pair ≡ p.shape.funcs → 2 * words_for p.shape.funcs < n → HasPair (written p pair n ws) p.user p.copy pair
  has_pair n size all =
      let had : HasFirst n (written p pair n ws) = has_first n in
      let same : words_for (size_of pair) ≡ words_for p.shape.funcs = ap words_for size in record {
        filter = λ w h. had.filter w (omega arith) (omega arith);
        notrace = λ w h. had.notrace w (omega arith) (omega arith);
      }

  pub has_state : (n : ℕ) → 2 * words_for p.shape.funcs < n → (written p pair n ws).sel p.user ≡ p.sel
  has_state zero h = absurd (omega arith)
  has_state (suc n) h =
      let before : Words = written p pair n ws in
      store_case p pair (λ o. (after_op o before).sel p.user ≡ p.sel) n
      (λ k. absurd (omega arith)) (λ v at k. absurd (omega arith))
      (λ e. state_put before.sel p.user p.sel)
      (λ k. has_state n k)
