-- The text of items of the job is refused at no line, and any other at one line alone, whose number tells how many lines stand above it.
use Rattle.std.proofs.Common.{cond, codes, ◌==◌, length-append, ◌≡◌, ◌≢◌, ◌<◌, ◌≤◌, ◌^◌, ℕ, suc, ◌+◌, Bool, true, false, List, [], ◌∷◌, ◌++◌, length, get_or, take, drop, Option, Some, refl, sym, ap, ◌∙◌, append_assoc, arith}
use Rattle.std.proofs.Math.Seq.{drop-append_seam}
use Rattle.std.specs.Fmt.{decimal}
use Rattle.std.specs.List.{AllByRecursion as Each, count_by}
use Rattle.std.proofs.lemmas.List.Sums.{sum_by-append, sum_by-cons}
use Rattle.ft_base.specs.declared.item.Item.{Item}
use Rattle.ft_base.specs.Job.{Job}
use Rattle.trace_views.specs.Words.{Word, last_line}
use Rattle.trace_views.specs.LogText.{item_words, joined, log_line, log_lines, log_text}
use Rattle.trace_lines.specs.LogItems.{IsNamedApart, IsItemOf}
use Rattle.trace_lines.proofs.LogWords.{Free, decimal-first}
use Rattle.ft_base.proofs.Small.{or-false_both}
use Rattle.log_reader.specs.Refused.{IsNumbered, IsRefusedAt}
use Rattle.log_reader.proofs.FirstLines.{bare_line, line-then, first-line}
use Rattle.log_reader.proofs.ItemWords.{line-graphic}
use Rattle.log_reader.proofs.LineBytes.{line-no_feed}
use Rattle.log_reader.proofs.ReadLines.{lines-long}

-- a line begins with a digit
line-digit : (place : ℕ) (words : List Word) (rest : List ℕ) → place < 2 ^ 64 → get_or (joined (decimal place ∷ words) ++ rest) 0 0 ≤ 57
line-digit place [] rest lt = let f = decimal-first place lt in rw f.2 f.4
line-digit place (w ∷ words) rest lt = let f = decimal-first place lt in rw f.2 f.4

-- and the last line doesn't
not-last : (place : ℕ) (words : List Word) (rest : List ℕ) (ended : Bool) → place < 2 ^ 64 → joined (decimal place ∷ words) ++ rest ≡ last_line ended → ⊥
not-last place words rest true lt e =
    let low = line-digit place words rest lt in
    let is : get_or (joined (decimal place ∷ words) ++ rest) 0 0 ≡ 101 = ap (λ (t : List ℕ). get_or t 0 0) e in
    absurd (omega (arith, low, is))
not-last place words rest false lt e =
    let low = line-digit place words rest lt in
    let is : get_or (joined (decimal place ∷ words) ++ rest) 0 0 ≡ 115 = ap (λ (t : List ℕ). get_or t 0 0) e in
    absurd (omega (arith, low, is))

after-same : (line rest more : List ℕ) → line ++ rest ≡ line ++ more → rest ≡ more
after-same line rest more e = sym (drop-append_seam line rest) ∙ ap (λ (t : List ℕ). drop (length line) t) e ∙ drop-append_seam line more

abbrev is_feed : ℕ → Bool
is_feed b = b == 10

no-feeds : (line : List ℕ) → Free 10 line → count_by is_feed line ≡ 0
no-feeds [] free = refl
no-feeds (b ∷ line) free =
    let both = or-false_both (is_feed b) _ free in
    let more = no-feeds line both.1 in
    let parts : count_by is_feed (b ∷ line) ≡ cond (is_feed b) 1 0 + count_by is_feed line = sum_by-cons (λ c. cond (is_feed c) 1 0) b line in
    let none : ◌≡◌ {A = ℕ} (cond (is_feed b) 1 0) 0 = ap (λ (t : Bool). cond {A = ℕ} t 1 0) both.0 in
    omega (arith, parts, none, more)

module _ (job : Job) (apart : IsNamedApart job) where
  -- after two lines of one place that a text begins with, the same is left
  same-rest : (place : ℕ) (x y : Item) (rest more : List ℕ) → place < 2 ^ 64 → IsNumbered job x → IsNumbered job y
      → log_line job place x ++ rest ≡ log_line job place y ++ more → rest ≡ more
  same-rest place x y rest more lt ox oy e =
      let text = log_line job place x ++ rest in
      let f = first-line job apart place x text rest lt ox.of_job refl in
      let g = first-line job apart place y text more lt oy.of_job e in
      let ends : ◌≡◌ {A = Option ℕ} (Some (length (bare_line job place x))) (Some (length (bare_line job place y))) = sym f.place ∙ g.place in
      let long : length (bare_line job place x) ≡ length (bare_line job place y) = cc in
      let line : bare_line job place x ≡ bare_line job place y = sym f.bytes ∙ ap (λ (n : ℕ). take n text) long ∙ g.bytes in
      let all : bare_line job place x ++ 10 ∷ rest ≡ bare_line job place x ++ 10 ∷ more =
      sym (line-then job place x rest) ∙ e ∙ line-then job place y more ∙ ap (λ (t : List ℕ). t ++ 10 ∷ more) (sym line) in
      let left : 10 ∷ rest ≡ 10 ∷ more = after-same (bare_line job place x) (10 ∷ rest) (10 ∷ more) all in
      ap (λ (t : List ℕ). drop 1 t) left

  never : (a b : List Item) (place at : ℕ) (rest : List ℕ) (ended : Bool) → at ≡ place + length a → Each (IsNumbered job) a → Each (IsNumbered job) b → place + length b < 2 ^ 64
      → ((item : Item) (more : List ℕ) → IsNumbered job item → rest ≢ log_line job at item ++ more) → ((last : Bool) → rest ≢ last_line last)
      → log_lines job place a ++ rest ≡ log_lines job place b ++ last_line ended → ⊥
  never [] [] place at rest ended is oa ob lt no_item no_end e = no_end ended e
  never [] (y ∷ b) place at rest ended is oa ob lt no_item no_end e =
      let more = log_lines job (suc place) b ++ last_line ended in
      let here : place ≡ at = omega arith in
      no_item y more ob.0 (e ∙ append_assoc (log_line job place y) (log_lines job (suc place) b) (last_line ended) ∙ ap (λ (n : ℕ). log_line job n y ++ more) here)
  never (x ∷ a) [] place at rest ended is oa ob lt no_item no_end e =
      let more = log_lines job (suc place) a ++ rest in
      not-last place (item_words job x) (10 ∷ more) ended (omega arith)
      (sym (line-then job place x more) ∙ sym (append_assoc (log_line job place x) (log_lines job (suc place) a) rest) ∙ e)
  never (x ∷ a) (y ∷ b) place at rest ended is oa ob lt no_item no_end e =
      let left = same-rest place x y (log_lines job (suc place) a ++ rest) (log_lines job (suc place) b ++ last_line ended) (omega arith) oa.0 ob.0
      (sym (append_assoc (log_line job place x) (log_lines job (suc place) a) rest) ∙ e ∙ append_assoc (log_line job place y) (log_lines job (suc place) b) (last_line ended)) in
      never a b (suc place) at rest ended (omega arith) oa.1 ob.1 (omega arith) no_item no_end left

  -- of a text of which no further line can be read no more were read in another way
  at-most : (a b : List Item) (place at : ℕ) (rest other : List ℕ) → at ≡ place + length a → Each (IsNumbered job) a → Each (IsNumbered job) b → place + length b < 2 ^ 64
      → ((item : Item) (more : List ℕ) → IsNumbered job item → rest ≢ log_line job at item ++ more)
      → log_lines job place a ++ rest ≡ log_lines job place b ++ other → length b ≤ length a
  at-most a [] place at rest other is oa ob lt no_item e = omega arith
  at-most [] (y ∷ b) place at rest other is oa ob lt no_item e =
      let more = log_lines job (suc place) b ++ other in
      let here : place ≡ at = omega (arith, is) in
      absurd (no_item y more ob.0 (e ∙ append_assoc (log_line job place y) (log_lines job (suc place) b) other ∙ ap (λ (n : ℕ). log_line job n y ++ more) here))
  at-most (x ∷ a) (y ∷ b) place at rest other is oa ob lt no_item e =
      let left = same-rest place x y (log_lines job (suc place) a ++ rest) (log_lines job (suc place) b ++ other) (omega (arith, lt)) oa.0 ob.0
      (sym (append_assoc (log_line job place x) (log_lines job (suc place) a) rest) ∙ e ∙ append_assoc (log_line job place y) (log_lines job (suc place) b) other) in
      let more = at-most a b (suc place) at rest other (omega (arith, is)) oa.1 ob.1 (omega (arith, lt)) no_item left in
      omega (arith, more)

  few-lines : (text : List ℕ) (n : ℕ) (r : IsRefusedAt job text n) → length text < 2 ^ 64 → 0 + length r.items < 2 ^ 64
  few-lines text n r lt =
      let size = ap (λ (t : List ℕ). length t) r.begins ∙ length-append (log_lines job 0 r.items) r.rest in
      omega (arith, lt, size, lines-long job 0 r.items)

  -- a text is refused at one line alone
  pub one-refused : (text : List ℕ) (n m : ℕ) → length text < 2 ^ 64 → IsRefusedAt job text n → IsRefusedAt job text m → n ≡ m
  one-refused text n m lt r s =
      let le = at-most s.items r.items 0 (length s.items) s.rest r.rest (omega arith) s.numbered r.numbered (few-lines text n r lt) s.no_item (sym s.begins ∙ r.begins) in
      let ge = at-most r.items s.items 0 (length r.items) r.rest s.rest (omega arith) r.numbered s.numbered (few-lines text m s lt) r.no_item (sym r.begins ∙ s.begins) in
      let n' = r.count in
      let m' = s.count in
      omega (arith, le, ge, n', m')

  -- the line of an item ends with its one line feed
  one-feed : (place : ℕ) (item : Item) → place < 2 ^ 64 → IsItemOf job item → count_by is_feed (log_line job place item) ≡ 1
  unfolding log_line
  one-feed place item lt of =
      let line = bare_line job place item in
      let none = no-feeds line (line-no_feed (decimal place ∷ item_words job item) (line-graphic job apart place item lt of)) in
      let one : count_by is_feed (codes "\n") ≡ 1 = refl in
      sum_by-append (λ b. cond (is_feed b) 1 0) line (codes "\n") ∙ omega (arith, none, one)

  feeds-counted : (place : ℕ) (items : List Item) → place + length items < 2 ^ 64 → Each (IsNumbered job) items → count_by is_feed (log_lines job place items) ≡ length items
  feeds-counted place [] lt numbered = refl
  feeds-counted place (x ∷ xs) lt numbered =
      let one = one-feed place x (omega (arith, lt)) numbered.0.of_job in
      let more = feeds-counted (suc place) xs (omega (arith, lt)) numbered.1 in
      sum_by-append (λ b. cond (is_feed b) 1 0) (log_line job place x) (log_lines job (suc place) xs) ∙ omega (arith, one, more)

  -- the lines above the one at which a text is refused have so many line feeds
  pub refused-below : (text : List ℕ) (n : ℕ) (r : IsRefusedAt job text n) → length text < 2 ^ 64 → suc (count_by is_feed (log_lines job 0 r.items)) ≡ n
  refused-below text n r lt = ap (λ (k : ℕ). suc k) (feeds-counted 0 r.items (few-lines text n r lt) r.numbered) ∙ r.count

pub never-refused : (job : Job) (items : List Item) (ended : Bool) (n : ℕ) → IsNamedApart job → Each (IsNumbered job) items → length items < 2 ^ 64
    → IsRefusedAt job (log_text job items ended) n → ⊥
unfolding log_text
never-refused job items ended n apart numbered lt r =
    never job apart r.items items 0 (length r.items) r.rest ended (omega arith) r.numbered numbered (omega arith) r.no_item r.no_end (sym r.begins)
