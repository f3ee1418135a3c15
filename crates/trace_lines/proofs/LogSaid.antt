-- What the log says of items, given the lanes of commands: jobs with the same functions, users and tasks say the same but for these.
use Rattle.std.proofs.Common.{◌≡◌, ◌<◌, ◌^◌, ℕ, zero, suc, Bool, List, [], ◌∷◌, ◌++◌, codes, Option, Some, None, refl, sym, ap, ap₂, ◌∙◌}
use Rattle.std.specs.Prelude.{IfSome, slice_get}
use Rattle.std.specs.Fmt.{decimal}
use Rattle.std.specs.List.{AllByRecursion as Each}
use Rattle.ft_base.specs.declared.item.Ran.TheVariants.{Nop, List as ByList, Own}
use Rattle.ft_base.specs.declared.item.Answer.TheVariants.{Accepted, Already, NotThere, Invalid, NoMatch, Busy}
use Rattle.ft_base.specs.declared.item.Item.{Item}
use Rattle.ft_base.specs.declared.item.Item.TheVariants.{Begin, Return, Enter, Back, BackEnd, Refuse, Miss, Body, Leave, Exit, ExitEnd, Ret}
use Rattle.ft_base.specs.Job.{Job}
use Rattle.trace_views.specs.Words.{Word, last_line, lane_at}
use Rattle.trace_views.specs.LogText.{lane_words, item_words, joined, log_line, log_lines, log_text}
use Rattle.trace_lines.specs.LogItems.{AreNamedAlike}

-- the words of an item, after its place
abbrev pub said : Job → (ℕ → Option ℕ) → Item → List Word
said job lanes (Begin k) = codes "begin" ∷ decimal k ∷ lane_words (lanes k)
said job lanes item = item_words job item

-- the line of an item at a place
abbrev pub line_said : Job → (ℕ → Option ℕ) → ℕ → Item → List ℕ
line_said job lanes p item = joined (decimal p ∷ said job lanes item) ++ codes "\n"

-- the lines of items, the first of which has this place
abbrev pub lines_said : Job → (ℕ → Option ℕ) → ℕ → List Item → List ℕ
lines_said job lanes p [] = []
lines_said job lanes p (item ∷ rest) = line_said job lanes p item ++ lines_said job lanes (suc p) rest

-- lanes have numbers of 64 bits
abbrev pub AreSmall : (ℕ → Option ℕ) → Type 0
AreSmall lanes = (k : ℕ) → IfSome (lanes k) (λ lane. lane < 2 ^ 64)

-- the command that begins has the same lane in both
abbrev pub IsInLaneAlike : (ℕ → Option ℕ) → (ℕ → Option ℕ) → Item → Type 0
IsInLaneAlike ls ms (Begin k) = ls k ≡ ms k
IsInLaneAlike ls ms _ = Unit {0}

lanes-small : (ns : List ℕ) (n : ℕ) → Each (λ lane. lane < 2 ^ 64) ns → IfSome (slice_get ns n) (λ lane. lane < 2 ^ 64)
lanes-small [] n h = tt
lanes-small (lane ∷ rest) zero h = h.0
lanes-small (lane ∷ rest) (suc n) h = lanes-small rest n h.1

pub lanes-of : (job : Job) → Each (λ lane. lane < 2 ^ 64) job.lines.lanes → AreSmall (lane_at job)
lanes-of job h zero = tt
lanes-of job h (suc n) = lanes-small job.lines.lanes n h

-- a job with the names of another
abbrev pub named : Job → Job → Job
named job other = record other { functions = job.functions; users = job.users; tasks = job.tasks }

pub named-is : (job other : Job) → AreNamedAlike job other → other ≡ named job other
named-is job other alike =
    ap (λ fs. record other { functions = fs }) (sym alike.functions)
    ∙ ap (λ us. record other { functions = job.functions; users = us }) (sym alike.users)
    ∙ ap (λ ts. record other { functions = job.functions; users = job.users; tasks = ts }) (sym alike.tasks)

module _ (job other : Job) where
  named-lane : (k : ℕ) → lane_at (named job other) k ≡ lane_at other k
  named-lane zero = refl
  named-lane (suc n) = refl

  named-words : (item : Item) → item_words (named job other) item ≡ said job (lane_at other) item
  named-words (Begin k) = ap (λ (lane : Option ℕ). codes "begin" ∷ decimal k ∷ lane_words lane) (named-lane k)
  named-words (Return k Accepted) = refl
  named-words (Return k Already) = refl
  named-words (Return k NotThere) = refl
  named-words (Return k Invalid) = refl
  named-words (Return k NoMatch) = refl
  named-words (Return k (Busy f u)) = refl
  named-words (Enter call ctx f None) = refl
  named-words (Enter call ctx f (Some caller)) = refl
  named-words (Back call u) = refl
  named-words (BackEnd call u) = refl
  named-words (Refuse call u reason) = refl
  named-words (Miss call u) = refl
  named-words (Body call g Nop) = refl
  named-words (Body call g ByList) = refl
  named-words (Body call g (Own u)) = refl
  named-words (Leave call) = refl
  named-words (Exit call u entry) = refl
  named-words (ExitEnd call u) = refl
  named-words (Ret call None) = refl
  named-words (Ret call (Some to)) = refl

  named-line : (p : ℕ) (item : Item) → log_line (named job other) p item ≡ line_said job (lane_at other) p item
  unfolding log_line
  named-line p item = ap (λ (ws : List Word). joined (decimal p ∷ ws) ++ codes "\n") (named-words item)

  named-lines : (p : ℕ) (items : List Item) → log_lines (named job other) p items ≡ lines_said job (lane_at other) p items
  named-lines p [] = refl
  named-lines p (item ∷ rest) = ap₂ (λ (xs ys : List ℕ). xs ++ ys) (named-line p item) (named-lines (suc p) rest)

  -- the log of the other, in the words of the one
  pub log-said : AreNamedAlike job other → (items : List Item) (ended : Bool) → log_text other items ended ≡ lines_said job (lane_at other) 0 items ++ last_line ended
  unfolding log_text
  log-said alike items ended = ap (λ (j : Job). log_lines j 0 items ++ last_line ended) (named-is job other alike) ∙ ap (λ (xs : List ℕ). xs ++ last_line ended) (named-lines 0 items)
