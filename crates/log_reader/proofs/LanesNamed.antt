-- The lanes that a text names, line by line; those of a log are the lanes of the commands that begin.
use Rattle.std.proofs.Common.{cond, ◌≡◌, ◌<◌, ◌≤◌, ◌^◌, ℕ, zero, suc, ◌+◌, ◌-◌, ◌==◌, Bool, true, false, List, [], ◌∷◌, ◌++◌, codes, length, take, drop, position, Option, Some, None, refl, ap, ◌∙◌, append_assoc, append-nil, arith}
use Rattle.std.proofs.Math.Seq.{drop-append-add}
use Rattle.std.proofs.lemmas.List.{length-drop, take_all}
use Rattle.std.proofs.lemmas.List.Splits.{slice_split_first, slice_split_none, length-slice_split}
use Rattle.std.proofs.lemmas.List.Sums.{fails_before_first}
use Rattle.std.proofs.lemmas.Str.{IsUtf8-from_is_utf8, is_utf8-from_IsUtf8}
use Rattle.std.specs.Prelude.{IfSome, slice_get, nat_lt}
use Rattle.std.specs.Fmt.{decimal}
use Rattle.std.specs.List.{AllByRecursion as Each, position_or_len, slice_split}
use Rattle.std.specs.Str.{IsUtf8, is_utf8}
use Rattle.ft_base.specs.declared.item.Item.{Item}
use Rattle.ft_base.specs.declared.item.Item.TheVariants.{Begin, Return, Enter, Back, BackEnd, Refuse, Miss, Body, Leave, Exit, ExitEnd, Ret}
use Rattle.ft_base.specs.Job.{Job}
use Rattle.trace_views.specs.Words.{Word, function_word, user_word, lane_at, last_line}
use Rattle.trace_views.specs.LogText.{call_word, caller_word, context_word, reason_word, ran_words, answer_words, lane_words, item_words, joined, log_line, log_lines, log_text}
use Rattle.trace_lines.specs.LogItems.{IsNamedApart}
use Rattle.log_reader.specs.Lanes.{lane_by, lane_in, named_in, with_lane, lanes_among, lanes_named, begun_lane, lanes_begun}
use Rattle.log_reader.specs.Reading.{before, after}
use Rattle.log_reader.specs.Refused.{IsNumbered}
use Rattle.log_reader.proofs.FirstLines.{bare_line, line-then, first-line}
use Rattle.log_reader.proofs.ItemWords.{line-graphic}
use Rattle.log_reader.proofs.LineBytes.{IsGraphic}
use Rattle.log_reader.proofs.NumberWords.{number-again}
use Rattle.log_reader.proofs.ReadAgain.{first-word, later-words, no-words_before}

-- ## the lane in a line

-- a line of three words and more
three-more : (place kind a : Word) (ws : List Word) → IsGraphic place → IsGraphic kind → IsGraphic a
    → lane_in (joined (place ∷ kind ∷ a ∷ ws)) ≡ lane_by kind (before 32 (joined ws)) (after 32 (joined ws))
unfolding lane_in
three-more place kind a ws p k h = rw (later-words place (kind ∷ a ∷ ws) p, later-words kind (a ∷ ws) k, first-word kind (a ∷ ws) k, later-words a ws h) refl

lane-again : (lane : Option ℕ) → IfSome lane (λ n. n < 2 ^ 32) → lane_by (codes "begin") (before 32 (joined (lane_words lane))) (after 32 (joined (lane_words lane))) ≡ lane
lane-again None small = rw no-words_before refl
lane-again (Some n) small =
    rw (first-word (codes "lane") (decimal n ∷ []) refl, later-words (codes "lane") (decimal n ∷ []) refl) (number-again n small)

short-lane : (lanes : List ℕ) (n : ℕ) → Each (λ lane. lane < 2 ^ 32) lanes → IfSome (slice_get lanes n) (λ lane. lane < 2 ^ 32)
short-lane [] n h = tt
short-lane (lane ∷ rest) zero h = h.0
short-lane (lane ∷ rest) (suc n) h = short-lane rest n h.1

lane-short : (job : Job) → Each (λ lane. lane < 2 ^ 32) job.lines.lanes → (k : ℕ) → IfSome (lane_at job k) (λ lane. lane < 2 ^ 32)
lane-short job h zero = tt
lane-short job h (suc n) = short-lane job.lines.lanes n h

lane-in : (job : Job) → IsNamedApart job → Each (λ lane. lane < 2 ^ 32) job.lines.lanes → (place : ℕ) (item : Item) → place < 2 ^ 64 → IsNumbered job item
    → lane_in (bare_line job place item) ≡ begun_lane job item
lane-in job apart small place item lt numbered = by item (line-graphic job apart place item lt numbered.of_job)
  where
    p : Word
    p = decimal place

    by : (x : Item) → Each IsGraphic (p ∷ item_words job x) → lane_in (bare_line job place x) ≡ begun_lane job x
    by (Begin k) g = three-more p (codes "begin") (decimal k) (lane_words (lane_at job k)) g.0 g.1.0 g.1.1.0 ∙ lane-again (lane_at job k) (lane-short job small k)
    by (Return k answer) g = three-more p (codes "return") (decimal k) (answer_words job answer) g.0 g.1.0 g.1.1.0
    by (Enter call ctx f caller) g = three-more p (codes "enter") (call_word job call) (context_word ctx ∷ function_word job f.0 ∷ caller_word job caller ∷ []) g.0 g.1.0 g.1.1.0
    by (Back call u) g = three-more p (codes "back") (call_word job call) (user_word job u.0 ∷ []) g.0 g.1.0 g.1.1.0
    by (BackEnd call u) g = three-more p (codes "back-end") (call_word job call) (user_word job u.0 ∷ []) g.0 g.1.0 g.1.1.0
    by (Refuse call u reason) g = three-more p (codes "refuse") (call_word job call) (user_word job u.0 ∷ reason_word reason ∷ []) g.0 g.1.0 g.1.1.0
    by (Miss call u) g = three-more p (codes "miss") (call_word job call) (user_word job u.0 ∷ []) g.0 g.1.0 g.1.1.0
    by (Body call h ran) g = three-more p (codes "body") (call_word job call) (function_word job h.0 ∷ ran_words job ran) g.0 g.1.0 g.1.1.0
    by (Leave call) g = three-more p (codes "leave") (call_word job call) [] g.0 g.1.0 g.1.1.0
    by (Exit call u entry) g = three-more p (codes "exit") (call_word job call) (user_word job u.0 ∷ decimal entry ∷ []) g.0 g.1.0 g.1.1.0
    by (ExitEnd call u) g = three-more p (codes "exit-end") (call_word job call) (user_word job u.0 ∷ []) g.0 g.1.0 g.1.1.0
    by (Ret call to) g = three-more p (codes "ret") (call_word job call) (caller_word job to ∷ []) g.0 g.1.0 g.1.1.0

-- ## line by line

-- a line that is UTF-8 names what its text does, and any other names none
pub named-text : (line : List ℕ) → IsUtf8 line → named_in line ≡ lane_in line
named-text line utf8 = ap (λ (b : Bool). cond b (lane_in line) None) (is_utf8-from_IsUtf8 line utf8)

pub named-bytes : (line : List ℕ) → (IsUtf8 line → ⊥) → named_in line ≡ None
named-bytes line other = by (is_utf8 line) refl
  where
    by : (b : Bool) → is_utf8 line ≡ b → cond b (lane_in line) None ≡ None
    by true e = absurd (other (IsUtf8-from_is_utf8 line e))
    by false e = refl

some-part : (line : List ℕ) (parts : List (List ℕ)) → 0 < length parts → lanes_among (line ∷ parts) ≡ with_lane (named_in line) (lanes_among parts)
some-part line [] lt = absurd (omega (arith, lt))
some-part line (part ∷ parts) lt = refl

module _ (text : List ℕ) where
  abbrev is_feed : ℕ → Bool
  is_feed b = b == 10

  abbrev feed : ℕ
  feed = position_or_len is_feed text

  -- a text names what its first line names, and what the lines below it do
  pub named-line : (end : ℕ) → position is_feed text ≡ Some end → lanes_named text ≡ with_lane (named_in (take end text)) (lanes_named (drop (end + 1) text))
  unfolding lanes_named
  named-line end e = by (nat_lt feed (length text)) refl e
    where
      by : (b : Bool) → nat_lt feed (length text) ≡ b → cond b (Some feed) None ≡ Some end
          → lanes_named text ≡ with_lane (named_in (take end text)) (lanes_named (drop (end + 1) text))
      by false t none = absurd cc
      by true t some =
          let low : feed < length text = grind arith in
          let same : feed ≡ end = cc in
          let below = slice_split is_feed (drop (feed + 1) text) in
          ap (λ (parts : List (List ℕ)). lanes_among parts) (slice_split_first is_feed text 0 low)
          ∙ some-part (take feed text) below (omega (arith, length-slice_split is_feed (drop (feed + 1) text)))
          ∙ ap (λ (n : ℕ). with_lane (named_in (take n text)) (lanes_among (slice_split is_feed (drop (n + 1) text)))) same

  -- without a line it names none
  pub no-line : position is_feed text ≡ None → lanes_named text ≡ []
  unfolding lanes_named
  no-line e = by (nat_lt feed (length text)) refl e
    where
      by : (b : Bool) → nat_lt feed (length text) ≡ b → cond b (Some feed) None ≡ None → lanes_named text ≡ []
      by true t some = absurd cc
      by false t none =
          let long : length text ≤ feed = grind arith in
          ap (λ (parts : List (List ℕ)). lanes_among parts) (slice_split_none is_feed text (λ k d lt. fails_before_first is_feed text k d (omega (arith, lt, long))))

pub with-append : (lane : Option ℕ) (xs ys : List ℕ) → with_lane lane (xs ++ ys) ≡ with_lane lane xs ++ ys
with-append None xs ys = refl
with-append (Some n) xs ys = refl

-- ## the lanes of a log

-- the lines of items name the lanes of the commands that begin, and what stands below them names the rest
pub lines-name : (job : Job) → IsNamedApart job → Each (λ lane. lane < 2 ^ 32) job.lines.lanes → (place : ℕ) (items : List Item) (rest : List ℕ)
    → place + length items < 2 ^ 64 → Each (IsNumbered job) items → lanes_named (log_lines job place items ++ rest) ≡ lanes_begun job items ++ lanes_named rest
lines-name job apart small place [] rest lt numbered = refl
lines-name job apart small place (x ∷ items) rest lt numbered =
    let after = log_lines job (suc place) items ++ rest in
    let line = bare_line job place x in
    let text = log_lines job place (x ∷ items) ++ rest in
    let low : place < 2 ^ 64 = omega (arith, lt) in
    let begins : text ≡ log_line job place x ++ after = append_assoc (log_line job place x) (log_lines job (suc place) items) rest in
    let first = first-line job apart place x text after low numbered.0.of_job begins in
    let read : named_in line ≡ begun_lane job x = named-text line first.utf8 ∙ lane-in job apart small place x low numbered.0 in
    let left : drop (length line + 1) text ≡ after =
    ap (λ (t : List ℕ). drop (length line + 1) t) (begins ∙ line-then job place x after) ∙ drop-append-add line (10 ∷ after) 1 in
    named-line text (length line) first.place
    ∙ ap (λ (l : List ℕ). with_lane (named_in l) (lanes_named (drop (length line + 1) text))) first.bytes
    ∙ ap (λ (o : Option ℕ). with_lane o (lanes_named (drop (length line + 1) text))) read
    ∙ ap (λ (t : List ℕ). with_lane (begun_lane job x) (lanes_named t)) left
    ∙ ap (λ (ls : List ℕ). with_lane (begun_lane job x) ls) (lines-name job apart small (suc place) items rest (omega (arith, lt)) numbered.1)
    ∙ with-append (begun_lane job x) (lanes_begun job items) (lanes_named rest)

-- the last line names none
no-lane : (b : Bool) → ◌≡◌ {A = Option ℕ} (cond b None None) None
no-lane true = refl
no-lane false = refl

last-names-none : (ended : Bool) → lanes_named (last_line ended) ≡ []
unfolding lanes_named lane_in before after
last-names-none true = ap (λ (o : Option ℕ). with_lane o []) (no-lane (is_utf8 (codes "end")))
last-names-none false = ap (λ (o : Option ℕ). with_lane o []) (no-lane (is_utf8 (codes "stopped")))

pub log-names : (job : Job) (items : List Item) (ended : Bool) → IsNamedApart job → Each (λ lane. lane < 2 ^ 32) job.lines.lanes → Each (IsNumbered job) items
    → length items < 2 ^ 64 → lanes_named (log_text job items ended) ≡ lanes_begun job items
unfolding log_text
log-names job items ended apart small numbered lt =
    lines-name job apart small 0 items (last_line ended) (omega (arith, lt)) numbered
    ∙ ap (λ (ls : List ℕ). lanes_begun job items ++ ls) (last-names-none ended)
    ∙ append-nil (lanes_begun job items)

pub begun-snoc : (job : Job) (items : List Item) (x : Item) → lanes_begun job (items ++ x ∷ []) ≡ lanes_begun job items ++ with_lane (begun_lane job x) []
begun-snoc job [] x = refl
begun-snoc job (y ∷ ys) x = by (begun_lane job y) (begun-snoc job ys x)
  where
    by : (lane : Option ℕ) → lanes_begun job (ys ++ x ∷ []) ≡ lanes_begun job ys ++ with_lane (begun_lane job x) []
        → with_lane lane (lanes_begun job (ys ++ x ∷ [])) ≡ with_lane lane (lanes_begun job ys) ++ with_lane (begun_lane job x) []
    by None e = e
    by (Some n) e = ap (λ (t : List ℕ). n ∷ t) e

-- what is left of a text from a place on
pub left-is : (xs : List ℕ) (n : ℕ) → take (length xs - n) (drop n xs) ≡ drop n xs
left-is xs n = let long = length-drop n xs in take_all (length xs - n) (drop n xs) (omega (arith, long))

pub left-short : (xs : List ℕ) (n : ℕ) → length (drop n xs) ≤ length xs
left-short xs n = let long = length-drop n xs in omega (arith, long)
