-- The line of a module that is loaded or unloaded, word by word.
use Rattle.std.proofs.Common.{◌≡◌, ℕ, List, [], ◌∷◌, ◌++◌, codes, refl, ap, ◌∙◌, append_assoc}
use Rattle.std.specs.Fmt.{decimal}
use Rattle.ft_base.specs.declared.item.Answer.{Answer}
use Rattle.ft_base.specs.declared.item.Answer.TheVariants.{Accepted, Already, NotThere, Invalid, NoMatch, Busy}
use Rattle.ft_base.specs.Job.{Job, ModuleRow}
use Rattle.trace_views.specs.Words.{Word}
use Rattle.trace_views.specs.LogText.{answer_words, joined}
use Rattle.trace_views.specs.ModulesText.{load_word, module_word, module_line}

-- two words, an answer and two more words
joined-around : (job : Job) (a b d e : Word) (answer : Answer)
    → a ++ (codes " " ++ (b ++ (codes " " ++ (joined (answer_words job answer) ++ (codes " " ++ (d ++ (codes " " ++ e))))))) ≡ joined (a ∷ b ∷ (answer_words job answer ++ d ∷ e ∷ []))
joined-around job a b d e Accepted = refl
joined-around job a b d e Already = refl
joined-around job a b d e NotThere = refl
joined-around job a b d e Invalid = refl
joined-around job a b d e NoMatch = refl
joined-around job a b d e (Busy f u) = simp append_assoc

-- the line feed is put after them all
line-end : (a b c d e : List ℕ) → a ++ (codes " " ++ (b ++ (codes " " ++ (c ++ (codes " " ++ (d ++ (codes " " ++ (e ++ codes "\n")))))))) ≡ (a ++ (codes " " ++ (b ++ (codes " " ++ (c ++ (codes " " ++ (d ++ (codes " " ++ e)))))))) ++ codes "\n"
line-end a b c d e = simp append_assoc

-- what is loaded or unloaded, its answer and the numbers of its commands, one after the other
pub module_line-said : (job : Job) (row : ModuleRow)
    → load_word row.load ++ (codes " " ++ (module_word job row.owner ++ (codes " " ++ (joined (answer_words job row.answer) ++ (codes " " ++ (decimal row.first ++ (codes " " ++ (decimal row.last ++ codes "\n")))))))) ≡ module_line job row
unfolding module_line
module_line-said job row =
    line-end (load_word row.load) (module_word job row.owner) (joined (answer_words job row.answer)) (decimal row.first) (decimal row.last)
    ∙ ap (λ (t : List ℕ). t ++ codes "\n") (joined-around job (load_word row.load) (module_word job row.owner) (decimal row.first) (decimal row.last) row.answer)
