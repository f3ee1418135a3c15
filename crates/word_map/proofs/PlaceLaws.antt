-- Each word of a shape has its own place, and a store into the list is a store by name.
use Rattle.std.proofs.Common.{◌≡◌, ℕ, zero, suc, ◌+◌, ◌*◌, ◌/◌, ◌%◌, ◌<◌, ◌≤◌, Bool, true, false, ◌&&◌, ◌==◌, nat_lt, List, [], ◌∷◌, length, eqb-true, get_or, set, cond, inl, inr, refl, sym, ap, ◌∙◌, arith, get_or-set_same, get_or-set_other}
use Rattle.std.proofs.lemmas.Bool.{cases_lt, eq-eqb}
use Rattle.std.proofs.lemmas.Bool.Decides.{nat_tests}
use Rattle.std.proofs.lemmas.Nat.{div-mul-add, mod-mul-add, row_fits}
use Rattle.ft_base.proofs.Small.{false_true}
use Rattle.word_map.specs.declared.shape.Shape.{Shape}
use Rattle.word_map.specs.Words.{Word, Clock, Want, First, Pids, Depth, Head, Tail, Next, Ack, Quiet, Tramp, Link, Sel, Bits, read, put, opening}
use Rattle.word_map.specs.Places.{kind_of, counts, count_of, start_in, start_of, index_of, place, len, IsThere, is_there, IsMap, by_name, words_in, words_for, IsOpening}

-- ## the same word

-- whether two words are the same
abbrev pub same_word : Word → Word → Bool
same_word Clock Clock = true
same_word Want Want = true
same_word First First = true
same_word Pids Pids = true
same_word Depth Depth = true
same_word (Head f) (Head g) = f == g
same_word (Tail f) (Tail g) = f == g
same_word (Next f) (Next g) = f == g
same_word (Ack c) (Ack d) = c == d
same_word (Quiet t) (Quiet s) = t == s
same_word (Tramp s) (Tramp t) = s == t
same_word (Link u) (Link v) = u == v
same_word (Sel u) (Sel v) = u == v
same_word (Bits u c h k) (Bits v d i l) = (u == v) && (c == d) && (h == i) && (k == l)
same_word _ _ = false

pub same_refl : (w : Word) → same_word w w ≡ true
same_refl Clock = refl
same_refl Want = refl
same_refl First = refl
same_refl Pids = refl
same_refl Depth = refl
same_refl (Head f) = eq-eqb f f refl
same_refl (Tail f) = eq-eqb f f refl
same_refl (Next f) = eq-eqb f f refl
same_refl (Ack f) = eq-eqb f f refl
same_refl (Quiet f) = eq-eqb f f refl
same_refl (Tramp f) = eq-eqb f f refl
same_refl (Link f) = eq-eqb f f refl
same_refl (Sel f) = eq-eqb f f refl
same_refl (Bits u d h k) = rw (eq-eqb u u refl, eq-eqb d d refl, eq-eqb h h refl, eq-eqb k k refl) refl

-- the same word is one word
pub same_is : (v w : Word) → same_word v w ≡ true → v ≡ w
same_is Clock Clock e = refl
same_is Want Want e = refl
same_is First First e = refl
same_is Pids Pids e = refl
same_is Depth Depth e = refl
same_is (Head f) (Head g) e = ap (λ i. Head i) (eqb-true f g e)
same_is (Tail f) (Tail g) e = ap (λ i. Tail i) (eqb-true f g e)
same_is (Next f) (Next g) e = ap (λ i. Next i) (eqb-true f g e)
same_is (Ack f) (Ack g) e = ap (λ i. Ack i) (eqb-true f g e)
same_is (Quiet f) (Quiet g) e = ap (λ i. Quiet i) (eqb-true f g e)
same_is (Tramp f) (Tramp g) e = ap (λ i. Tramp i) (eqb-true f g e)
same_is (Link f) (Link g) e = ap (λ i. Link i) (eqb-true f g e)
same_is (Sel f) (Sel g) e = ap (λ i. Sel i) (eqb-true f g e)
same_is (Bits v d h k) (Bits u c i f) e =
    let a : v ≡ u = grind (arith, nat_tests) in let b : d ≡ c = grind (arith, nat_tests) in let x : h ≡ i = grind (arith, nat_tests) in let y : k ≡ f = grind (arith, nat_tests) in
    λ j. Bits (a j) (b j) (x j) (y j)
same_is _ _ e = false_true e

-- ## words by name

read_by_name : (w : Word) (r : Word → ℕ) → read w (by_name r) ≡ r w
read_by_name Clock r = refl
read_by_name Want r = refl
read_by_name First r = refl
read_by_name Pids r = refl
read_by_name Depth r = refl
read_by_name (Head f) r = refl
read_by_name (Tail f) r = refl
read_by_name (Next f) r = refl
read_by_name (Ack c) r = refl
read_by_name (Quiet c) r = refl
read_by_name (Tramp s) r = refl
read_by_name (Link u) r = refl
read_by_name (Sel u) r = refl
read_by_name (Bits u d h f) r = refl

put_by_name : (w : Word) (x : ℕ) (r : Word → ℕ) → put w x (by_name r) ≡ by_name (λ v. cond (same_word v w) x (r v))
put_by_name Clock x r = refl
put_by_name Want x r = refl
put_by_name First x r = refl
put_by_name Pids x r = refl
put_by_name Depth x r = refl
put_by_name (Head f) x r = refl
put_by_name (Tail f) x r = refl
put_by_name (Next f) x r = refl
put_by_name (Ack c) x r = refl
put_by_name (Quiet c) x r = refl
put_by_name (Tramp s) x r = refl
put_by_name (Link u) x r = refl
put_by_name (Sel u) x r = refl
put_by_name (Bits u d h f) x r = refl

-- ## the map

-- the words of a kind end where those of later ones begin
ends : (cs : List ℕ) (a b : ℕ) → a < b → start_in cs a + get_or cs a 0 ≤ start_in cs b
ends [] zero zero lt = omega arith
ends [] zero (suc b) lt = omega arith
ends [] (suc a) zero lt = omega arith
ends [] (suc a) (suc b) lt = omega arith
ends (c ∷ cs) a zero lt = absurd (omega arith)
ends (c ∷ cs) zero (suc b) lt = omega arith
ends (c ∷ cs) (suc a) (suc b) lt = let h = ends cs a b (omega arith) in omega (arith, h)

module _ (shape : Shape) where
  abbrev bits_of : ℕ → ℕ → Word
  bits_of q k = Bits (q / 4) (q % 4 / 2) (q % 2) k

  -- the word of a kind and of a number
  abbrev word_at : ℕ → ℕ → Word
  word_at k i = get_or (Clock ∷ Want ∷ First ∷ Pids ∷ Depth ∷ Head i ∷ Tail i ∷ Next i ∷ Ack i ∷ Quiet i ∷ Tramp i ∷ Link i ∷ Sel i ∷ bits_of (i / words_for shape.funcs) (i % words_for shape.funcs) ∷ []) k Clock

  bits_at : (u d h k : ℕ) → d < 2 → h < 2 → k < words_for shape.funcs
      → bits_of (((u * 4 + d * 2 + h) * words_for shape.funcs + k) / words_for shape.funcs) (((u * 4 + d * 2 + h) * words_for shape.funcs + k) % words_for shape.funcs) ≡ Bits u d h k
  bits_at u d h k dl hl kl =
      let q = u * 4 + d * 2 + h in
      let a : (q * words_for shape.funcs + k) / words_for shape.funcs ≡ q = div-mul-add q (words_for shape.funcs) k kl in
      let b : (q * words_for shape.funcs + k) % words_for shape.funcs ≡ k = mod-mul-add q (words_for shape.funcs) k kl in
      let eu : q / 4 ≡ u = omega arith in
      let ed : q % 4 / 2 ≡ d = omega arith in
      let eh : q % 2 ≡ h = omega arith in
      (λ i. bits_of (a i) (b i)) ∙ (λ i. Bits (eu i) (ed i) (eh i) k)

  told_again : (w : Word) → IsThere shape w → word_at (kind_of w) (index_of shape w) ≡ w
  told_again Clock t = refl
  told_again Want t = refl
  told_again First t = refl
  told_again Pids t = refl
  told_again Depth t = refl
  told_again (Head f) t = refl
  told_again (Tail f) t = refl
  told_again (Next f) t = refl
  told_again (Ack f) t = refl
  told_again (Quiet f) t = refl
  told_again (Tramp f) t = refl
  told_again (Link f) t = refl
  told_again (Sel f) t = refl
  told_again (Bits u d h k) t = bits_at u d h k t.1 t.2 t.3

  bits_below : (u d h k : ℕ) → u < shape.users → d < 2 → h < 2 → k < words_for shape.funcs
      → (u * 4 + d * 2 + h) * words_for shape.funcs + k < shape.users * 4 * words_for shape.funcs
  bits_below u d h k ul dl hl kl =
      let r = row_fits (u * 4 + d * 2 + h) (words_for shape.funcs) (shape.users * 4) (words_for shape.funcs) (omega arith) (omega arith) in omega (arith, r, kl)

  pub below : (w : Word) → IsThere shape w → index_of shape w < count_of shape (kind_of w)
  below Clock t = omega arith
  below Want t = omega arith
  below First t = omega arith
  below Pids t = omega arith
  below Depth t = omega arith
  below (Head f) t = t
  below (Tail f) t = t
  below (Next f) t = t
  below (Ack f) t = t
  below (Quiet f) t = t
  below (Tramp f) t = t
  below (Link f) t = t
  below (Sel f) t = t
  below (Bits u d h k) t = bits_below u d h k t.0 t.1 t.2 t.3

  kinds : (w : Word) → kind_of w < 14
  kinds Clock = omega arith
  kinds Want = omega arith
  kinds First = omega arith
  kinds Pids = omega arith
  kinds Depth = omega arith
  kinds (Head f) = omega arith
  kinds (Tail f) = omega arith
  kinds (Next f) = omega arith
  kinds (Ack f) = omega arith
  kinds (Quiet f) = omega arith
  kinds (Tramp f) = omega arith
  kinds (Link f) = omega arith
  kinds (Sel f) = omega arith
  kinds (Bits u d h k) = omega arith

  -- words of one place are the same
  pub one_word : (v w : Word) → IsThere shape v → IsThere shape w → place shape v ≡ place shape w → v ≡ w
  one_word v w tv tw e =
      let a = below v tv in let b = below w tw in
      elim (cases_lt (kind_of v) (kind_of w)) [
        | inl lt ↦ (let s = ends (counts shape) (kind_of v) (kind_of w) lt in absurd (omega (arith, s, e, a, b)))
        | inr ge ↦ elim (cases_lt (kind_of w) (kind_of v)) [
          | inl lt ↦ (let s = ends (counts shape) (kind_of w) (kind_of v) lt in absurd (omega (arith, s, e, a, b)))
          | inr ge' ↦ (let k : kind_of v ≡ kind_of w = omega (arith, ge, ge') in
              let same : start_of shape (kind_of v) ≡ start_of shape (kind_of w) = ap (start_of shape) k in
              let i : index_of shape v ≡ index_of shape w = omega (arith, e, same) in
              sym (told_again v tv) ∙ (λ j. word_at (k j) (i j)) ∙ told_again w tw)
        ]
      ]

  pub is_map : IsMap shape (place shape) (len shape)
  is_map = record {
    clock = refl;
    inside = λ w t. (let a = below w t in let s = ends (counts shape) (kind_of w) 14 (kinds w) in omega (arith, a, s));
    apart = λ v w tv tw ne e. ne (one_word v w tv tw e);
  }

  -- the test says which words are there
  there_tested : (w : Word) → is_there shape w ≡ true → IsThere shape w
  there_tested Clock t = record {}
  there_tested Want t = record {}
  there_tested First t = record {}
  there_tested Pids t = record {}
  there_tested Depth t = record {}
  there_tested (Head f) t = grind (arith, nat_tests)
  there_tested (Tail f) t = grind (arith, nat_tests)
  there_tested (Next f) t = grind (arith, nat_tests)
  there_tested (Ack f) t = grind (arith, nat_tests)
  there_tested (Quiet f) t = grind (arith, nat_tests)
  there_tested (Tramp f) t = grind (arith, nat_tests)
  there_tested (Link f) t = grind (arith, nat_tests)
  there_tested (Sel f) t = grind (arith, nat_tests)
  there_tested (Bits u d h k) t = (grind (arith, nat_tests), grind (arith, nat_tests), grind (arith, nat_tests), grind (arith, nat_tests))

  there_passes : (w : Word) → IsThere shape w → is_there shape w ≡ true
  there_passes Clock t = refl
  there_passes Want t = refl
  there_passes First t = refl
  there_passes Pids t = refl
  there_passes Depth t = refl
  there_passes (Head f) t = grind (arith, nat_tests)
  there_passes (Tail f) t = grind (arith, nat_tests)
  there_passes (Next f) t = grind (arith, nat_tests)
  there_passes (Ack f) t = grind (arith, nat_tests)
  there_passes (Quiet f) t = grind (arith, nat_tests)
  there_passes (Tramp f) t = grind (arith, nat_tests)
  there_passes (Link f) t = grind (arith, nat_tests)
  there_passes (Sel f) t = grind (arith, nat_tests)
  there_passes (Bits u d h k) t =
      let a : nat_lt u shape.users ≡ true = grind (arith, nat_tests, t.0) in
      let b : nat_lt d 2 ≡ true = grind (arith, nat_tests, t.1) in
      let c : nat_lt h 2 ≡ true = grind (arith, nat_tests, t.2) in
      let e : nat_lt k (words_for shape.funcs) ≡ true = grind (arith, nat_tests, t.3) in
      rw (a, b, c, e) refl

  -- ## the words in the list

  module _ (pids : ℕ) where
    -- what the list or the opening says of a word
    abbrev said : List ℕ → Word → ℕ
    said list w = cond (is_there shape w) (get_or list (place shape w) 0) (read w (opening pids))

    pub read_there : (w : Word) (list : List ℕ) → IsThere shape w → read w (words_in shape pids list) ≡ get_or list (place shape w) 0
    read_there w list t = read_by_name w (said list) ∙ ap (λ b. cond b (get_or list (place shape w) 0) (read w (opening pids))) (there_passes w t)

    -- a store into the list is a store by name
    pub put_flat : (list : List ℕ) (w : Word) (x : ℕ) → length list ≡ len shape → IsThere shape w
        → words_in shape pids (set list (place shape w) x) ≡ put w x (words_in shape pids list)
    put_flat list w x many is = ap by_name (λ i v. each v (same_word v w) (is_there shape v) refl refl i) ∙ sym (put_by_name w x (said list))
      where
        each : (v : Word) (b t : Bool) → same_word v w ≡ b → is_there shape v ≡ t
            → cond t (get_or (set list (place shape w) x) (place shape v) 0) (read v (opening pids))
            ≡ cond b x (cond t (get_or list (place shape v) 0) (read v (opening pids)))
        each v true t e f =
            let s : v ≡ w = same_is v w e in
            let t1 : t ≡ true = sym f ∙ ap (is_there shape) s ∙ there_passes w is in
            ap (λ b. cond b (get_or (set list (place shape w) x) (place shape v) 0) (read v (opening pids))) t1
            ∙ ap (λ y. get_or (set list (place shape w) x) (place shape y) 0) s ∙ get_or-set_same list (place shape w) x 0 (let i = is_map.inside w is in omega (arith, i, many))
        each v false false e f = refl
        each v false true e f =
            get_or-set_other list (place shape w) (place shape v) x 0
            (λ h. is_map.apart v w (there_tested v f) is (λ same. false_true (sym e ∙ ap (λ y. same_word y w) same ∙ same_refl w)) h)

    pub opening_is : (list : List ℕ) → IsOpening shape pids list → words_in shape pids list ≡ opening pids
    opening_is list o = ap by_name (λ i w. each w (is_there shape w) refl i)
      where
        each : (w : Word) (b : Bool) → is_there shape w ≡ b → cond b (get_or list (place shape w) 0) (read w (opening pids)) ≡ read w (opening pids)
        each w true e = o.each w (there_tested w e)
        each w false e = refl
