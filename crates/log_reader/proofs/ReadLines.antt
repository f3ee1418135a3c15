-- A text that is read line by line.
use Rattle.std.proofs.Common.{if◌then◌else◌, ◌≡◌, ◌≢◌, ◌<◌, ◌≤◌, ℕ, suc, ◌+◌, Bool, List, [], ◌∷◌, ◌++◌, length, codes, false, Result, Ok, Err, refl, sym, ap, ◌∙◌, append_assoc, append-nil, arith, length-append}
use Rattle.std.specs.List.{AllByRecursion as Each}
use Rattle.std.specs.Result.{is_ok, is_err}
use Rattle.ft_base.specs.declared.item.Item.{Item}
use Rattle.ft_base.specs.Job.{Job}
use Rattle.ft_base.proofs.Small.{false_true, Each-snoc}
use Rattle.trace_views.specs.Words.{last_line}
use Rattle.trace_views.specs.LogText.{log_line, log_lines, log_text}
use Rattle.log_reader.specs.Refused.{IsNumbered, IsRefusedAt}
use Rattle.log_reader.proofs.FirstLines.{bare_line}

lines-snoc : (job : Job) (items : List Item) (p q : ℕ) (x : Item) → q ≡ p + length items → log_lines job p (items ++ x ∷ []) ≡ log_lines job p items ++ log_line job q x
lines-snoc job [] p q x e = let is : p ≡ q = omega arith in append-nil (log_line job p x) ∙ ap (λ (n : ℕ). log_line job n x) is
lines-snoc job (y ∷ ys) p q x e =
    ap (λ (t : List ℕ). log_line job p y ++ t) (lines-snoc job ys (suc p) q x (omega arith))
    ∙ sym (append_assoc (log_line job p y) (log_lines job (suc p) ys) (log_line job q x))

line-long : (job : Job) (place : ℕ) (item : Item) → 0 < length (log_line job place item)
unfolding log_line
line-long job place item = omega (arith, length-append (bare_line job place item) (codes "\n"))

-- there are no more items than bytes
pub lines-long : (job : Job) (place : ℕ) (items : List Item) → length items ≤ length (log_lines job place items)
lines-long job place [] = omega arith
lines-long job place (x ∷ xs) =
    let more = lines-long job (suc place) xs in
    omega (arith, more, length-append (log_line job place x) (log_lines job (suc place) xs), line-long job place x)

-- what a list is after one was put at its end
pub pushed : {T E A : Type 0} (r : Result T E) (xs more : List A) (now : List A) → now ≡ (if is_ok r then more else xs) → is_err r ≡ false → now ≡ more
pushed (Ok x) xs more now h e = h
pushed (Err x) xs more now h e = false_true (sym e)

-- these items were read of a text, and this is left
pub record IsReadTo (job : Job) (text : List ℕ) (items : List Item) (rest : List ℕ) : Type 0 where
  pub begins : text ≡ log_lines job 0 items ++ rest
  pub numbered : Each (IsNumbered job) items
  pub size : length items + length rest ≤ length text

pub read-none : (job : Job) (text : List ℕ) → IsReadTo job text [] text
read-none job text = record { begins = refl; numbered = tt; size = omega arith }

-- one more item was read
pub read-more : (job : Job) (text : List ℕ) (items : List Item) (rest : List ℕ) (x : Item) (left : List ℕ) → IsReadTo job text items rest
    → rest ≡ log_line job (length items) x ++ left → IsNumbered job x → IsReadTo job text (items ++ x ∷ []) left
read-more job text items rest x left so_far e numbered = record {
  begins =
      so_far.begins
      ∙ ap (λ (t : List ℕ). log_lines job 0 items ++ t) e
      ∙ sym (append_assoc (log_lines job 0 items) (log_line job (length items) x) left)
      ∙ ap (λ (t : List ℕ). t ++ left) (sym (lines-snoc job items 0 (length items) x (omega arith)));
  numbered = Each-snoc (IsNumbered job) items x so_far.numbered numbered;
  size =
      let size = so_far.size in
      let is = ap (λ (t : List ℕ). length t) e in
      omega (arith, length-append (log_line job (length items) x) left, length-append items (x ∷ []), line-long job (length items) x);
}

pub read-shorter : (job : Job) (place : ℕ) (x : Item) (rest left : List ℕ) → rest ≡ log_line job place x ++ left → length left < length rest
read-shorter job place x rest left e =
    let is = ap (λ (t : List ℕ). length t) e in
    omega (arith, length-append (log_line job place x) left, line-long job place x)

-- all of it was read
pub read-all : (job : Job) (text : List ℕ) (items : List Item) (rest : List ℕ) (ended : Bool) → IsReadTo job text items rest → rest ≡ last_line ended → log_text job items ended ≡ text
unfolding log_text
read-all job text items rest ended so_far e = ap (λ (t : List ℕ). log_lines job 0 items ++ t) (sym e) ∙ sym so_far.begins

-- no more of it can be read
pub read-stops : (job : Job) (text : List ℕ) (items : List Item) (rest : List ℕ) (n : ℕ) → IsReadTo job text items rest → suc (length items) ≡ n
    → ((item : Item) (more : List ℕ) → IsNumbered job item → rest ≢ log_line job (length items) item ++ more) → ((ended : Bool) → rest ≢ last_line ended)
    → IsRefusedAt job text n
read-stops job text items rest n so_far is no_item no_end = record {
  items = items;
  rest = rest;
  count = is;
  numbered = so_far.numbered;
  begins = so_far.begins;
  no_item = no_item;
  no_end = no_end;
}
