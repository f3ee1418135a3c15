-- Writing a user's sets: where control stands after so many stores of a page, and which store is the next.
use Rattle.std.proofs.Common.{◌≡◌, ℕ, suc, ◌+◌, ◌-◌, ◌<◌, ◌≤◌, Some, refl, sym, ap, ◌∙◌, arith, inl, inr, lt-ltb, le-ltb}
use Rattle.std.proofs.lemmas.Bool.{cases_lt}
use Rattle.ft_base.specs.Job.{Job, funcs}
use Rattle.site_set.specs.Marks.{word_of}
use Rattle.filter_hash.specs.Pair.{Pair}
use Rattle.word_map.specs.Words.{Sel, Bits}
use Rattle.word_map.specs.Contents.{sel_of, other_copy}
use Rattle.word_map.specs.Places.{words_for}
use Rattle.word_map.specs.Ops.{Store}
use Rattle.hash_pages.specs.Pages.{Page, page_next}
use Rattle.hash_pages.proofs.PageLaws.{filter_at, notrace_at, state_at}
use Rattle.word_machine.specs.Commands.{set_words, subject, state_of, effect}
use Rattle.word_machine.specs.Control.{Control, Copy, Select, at_position, copy_after, copy_from, got_in, next_in}
use Rattle.control_core.specs.Positions.{writing_at}

-- ## where it stands

-- before a word of the filter, before one of the notrace set, and before the state
module _ (words : ℕ) where
  pub writing-filter : (k : ℕ) → k < words → writing_at words k ≡ Copy 0 k
  writing-filter k h = rw (lt-ltb k words h) refl

  pub writing-notrace : (k : ℕ) → k < words → writing_at words (words + k) ≡ Copy 1 k
  writing-notrace k h =
      let at : (words + k) - words ≡ k = omega arith in
      rw (le-ltb (words + k) words (omega arith), lt-ltb (words + k) (words + words) (omega arith), at) refl

  pub writing-state : (k : ℕ) → words + words ≤ k → writing_at words k ≡ Select
  writing-state k h = rw (le-ltb k words (omega arith), le-ltb k (words + words) h) refl

module _ (job : Job) where
  -- before the first word; without words before the state
  pub copy-first : copy_from job 0 0 ≡ writing_at (set_words job) 0
  copy-first = elim (cases_lt 0 (set_words job)) [
    | inl h ↦ rw (lt-ltb 0 (set_words job) h) refl
    | inr h ↦ rw (le-ltb 0 (set_words job) h, le-ltb 0 (set_words job + set_words job) (omega arith)) refl
  ]

  module _ (w : ℕ) (h : w < set_words job) where
    -- after a word of the filter
    pub copy-filter : copy_from job 0 (suc w) ≡ writing_at (set_words job) (suc w)
    copy-filter = elim (cases_lt (suc w) (set_words job)) [
      | inl l ↦ rw (lt-ltb (suc w) (set_words job) l) refl
      | inr l ↦ (let at : suc w - set_words job ≡ 0 = omega arith in
          rw (
            le-ltb (suc w) (set_words job) l,
            lt-ltb 0 (set_words job) (omega arith),
            lt-ltb (suc w) (set_words job + set_words job) (omega arith),
            at,
          ) refl)
    ]

    -- after a word of the notrace set
    pub copy-notrace : copy_from job 1 (suc w) ≡ writing_at (set_words job) (set_words job + suc w)
    copy-notrace = elim (cases_lt (suc w) (set_words job)) [
      | inl l ↦ rw (lt-ltb (suc w) (set_words job) l) (sym (writing-notrace (set_words job) (suc w) l))
      | inr l ↦ rw (le-ltb (suc w) (set_words job) l)
          (sym (writing-state (set_words job) (set_words job + suc w) (omega arith)))
    ]

  -- a store of a word leads to the next word, and that of the last word to the state
  module _ (s : Control) (v : ℕ) where
    pub writing-got : (k : ℕ) → k < set_words job + set_words job
        → got_in job s (writing_at (set_words job) k) v ≡ at_position s (writing_at (set_words job) (suc k))
    writing-got k h = elim (cases_lt k (set_words job)) [
      | inl l ↦ rw (writing-filter (set_words job) k l) (ap (at_position s) (copy-filter k l))
      | inr l ↦ (let w : set_words job + (k - set_words job) ≡ k = omega arith in
          let n : set_words job + suc (k - set_words job) ≡ suc k = omega arith in
          let m : k - set_words job < set_words job = omega arith in
          ap (λ i. got_in job s (writing_at (set_words job) i) v) (sym w)
          ∙ rw (writing-notrace (set_words job) (k - set_words job) m) (ap (at_position s) (copy-notrace (k - set_words job) m))
          ∙ ap (λ i. at_position s (writing_at (set_words job) i)) n)
    ]

-- ## the stores of a page

module _ (job : Job) (p : Page) (pair : Pair) (shape : p.shape.funcs ≡ funcs job) where
  -- how many words the page has for a set
  many : words_for p.shape.funcs ≡ set_words job
  many = ap words_for shape

  pub page-filter : p.stored < set_words job
      → page_next p pair ≡ Some (Store (Bits p.user p.copy 0 p.stored) (word_of pair.filter p.stored))
  page-filter h = filter_at p pair p.stored (omega (arith, many))

  pub page-notrace : (k : ℕ) → p.stored ≡ set_words job + k → k < set_words job
      → page_next p pair ≡ Some (Store (Bits p.user p.copy 1 k) (word_of pair.notrace k))
  page-notrace k e h = notrace_at p pair p.stored k (omega (arith, many, e)) (omega (arith, many))

  pub page-state : p.stored ≡ set_words job + set_words job → page_next p pair ≡ Some (Store (Sel p.user) p.sel)
  page-state e = state_at p pair p.stored (omega (arith, many, e))

  -- they are the machine's stores of the new state of the user, if the page and the pair have that
  module _ (s : Control) (u : ℕ) (is : u ≡ subject job s.commands_done) (user : p.user ≡ u) (copy : p.copy ≡ other_copy (s.copies u))
      (sel : p.sel ≡ sel_of (state_of job (suc s.commands_done) u) (copy_after (effect job s.commands_done) (s.copies u)))
      (filter : pair.filter ≡ (state_of job (suc s.commands_done) u).filter)
      (notrace : pair.notrace ≡ (state_of job (suc s.commands_done) u).notrace) where
    pub page-is-next : p.stored ≤ set_words job + set_words job → page_next p pair ≡ next_in job s (writing_at (set_words job) p.stored)
    page-is-next h = elim (cases_lt p.stored (set_words job)) [
      | inl l ↦ page-filter l ∙ rw (writing-filter (set_words job) p.stored l, user, copy, filter, is) refl
      | inr l ↦ elim (cases_lt p.stored (set_words job + set_words job)) [
        | inl m ↦ (let e : p.stored ≡ set_words job + (p.stored - set_words job) = omega arith in
            let n : p.stored - set_words job < set_words job = omega arith in
            page-notrace (p.stored - set_words job) e n
            ∙ rw (user, copy, notrace, is) refl
            ∙ ap (next_in job s) (sym (ap (writing_at (set_words job)) e ∙ writing-notrace (set_words job) (p.stored - set_words job) n)))
        | inr m ↦ (let e : p.stored ≡ set_words job + set_words job = omega arith in
            page-state e ∙ rw (writing-state (set_words job) p.stored m, user, sel, is) refl)
      ]
    ]
