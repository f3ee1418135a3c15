-- The text of a history, line by line.
use Rattle.std.proofs.Common.{◌≡◌, ℕ, suc, ◌+◌, ◌≤◌, List, [], ◌∷◌, ◌++◌, codes, Some, length, drop, refl, sym, ◌∙◌, append_assoc, append-nil, add-one}
use Rattle.std.specs.Prelude.{slice_get}
use Rattle.std.specs.Fmt.{decimal}
use Rattle.std.proofs.lemmas.List.{drop_all}
use Rattle.ft_base.specs.declared.item.Item.{Item}
use Rattle.ft_base.specs.declared.item.Item.TheVariants.{Begin}
use Rattle.ft_base.specs.declared.item.Ran.{Ran}
use Rattle.ft_base.specs.declared.item.Ran.TheVariants.{Nop, List as ByList, Own}
use Rattle.ft_base.specs.declared.item.Answer.{Answer}
use Rattle.ft_base.specs.declared.item.Answer.TheVariants.{Accepted, Already, NotThere, Invalid, NoMatch, Busy}
use Rattle.ft_base.specs.Job.{Job}
use Rattle.trace_views.specs.Words.{Word}
use Rattle.trace_views.proofs.ItemTexts.{drop_at_get}
use Rattle.trace_views.specs.LogText.{joined, ran_words, answer_words, item_words, log_line, log_lines}

joined-place : (job : Job) (p : ℕ) (item : Item) → joined (decimal p ∷ item_words job item) ≡ decimal p ++ (codes " " ++ joined (item_words job item))
joined-place job p (Begin k) = refl
joined-place job p _ = refl

-- the place, the item and the line feed, one after the other
pub log_line-said : (job : Job) (p : ℕ) (item : Item) → decimal p ++ (codes " " ++ (joined (item_words job item) ++ codes "\n")) ≡ log_line job p item
unfolding log_line
log_line-said job p item = rw (joined-place job p item) (simp append_assoc)

-- what was fetched, and the answer, after another word
pub joined-ran : (job : Job) (word : Word) (ran : Ran) → word ++ (codes " " ++ joined (ran_words job ran)) ≡ joined (word ∷ ran_words job ran)
joined-ran job word Nop = refl
joined-ran job word ByList = refl
joined-ran job word (Own u) = refl

pub joined-answer : (job : Job) (word : Word) (answer : Answer) → word ++ (codes " " ++ joined (answer_words job answer)) ≡ joined (word ∷ answer_words job answer)
joined-answer job word Accepted = refl
joined-answer job word Already = refl
joined-answer job word NotThere = refl
joined-answer job word Invalid = refl
joined-answer job word NoMatch = refl
joined-answer job word (Busy f u) = refl

-- a context between its spaces, and more after them
pub context-more : (context more : List ℕ) → (codes " " ++ (context ++ codes " ")) ++ more ≡ codes " " ++ (context ++ (codes " " ++ more))
context-more context more = simp append_assoc

-- a word, a call and a user, and more after them
pub visit-more : (word call user more : List ℕ) → (word ++ (call ++ (codes " " ++ user))) ++ more ≡ word ++ (call ++ (codes " " ++ (user ++ more)))
visit-more word call user more = simp append_assoc

-- one more line
pub log_lines-more : (job : Job) (items : List Item) (p : ℕ) (x : Item) (t t' all : List ℕ) → slice_get items p ≡ Some x → t' ≡ t ++ log_line job p x
    → t ++ log_lines job p (drop p items) ≡ all → t' ++ log_lines job (p + 1) (drop (p + 1) items) ≡ all
log_lines-more job items p x t t' all here grown so_far =
    let a : t ++ (log_line job p x ++ log_lines job (suc p) (drop (suc p) items)) ≡ all = rw (drop_at_get items p x here) at so_far in
    rw (grown, add-one p) (append_assoc t (log_line job p x) _ ∙ a)

-- all lines
pub log_lines-all : (job : Job) (items : List Item) (p : ℕ) (t : List ℕ) → length items ≤ p → t ++ log_lines job p (drop p items) ≡ log_lines job 0 items → t ≡ log_lines job 0 items
log_lines-all job items p t past so_far = let a : t ++ [] ≡ log_lines job 0 items = rw (drop_all p items past) at so_far in sym (append-nil t) ∙ a
