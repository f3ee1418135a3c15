-- The facts of commands and waits, one after the other.
use Rattle.std.proofs.Common.{◌≡◌, ℕ, suc, ◌+◌, ◌<◌, ◌≤◌, List, [], ◌∷◌, ◌++◌, length, codes, drop, get_or, map, Some, None, refl, sym, ap, ◌∙◌, append_assoc, append-nil, subst, arith}
use Rattle.std.specs.Prelude.{Option, ◌==◌, option_map, slice_get}
use Rattle.std.specs.List.{find}
use Rattle.std.proofs.lemmas.List.{drop_all, drop_more}
use Rattle.ft_base.specs.declared.item.Answer.{Answer}
use Rattle.ft_base.specs.Desk.{answer_at, desk}
use Rattle.ft_base.specs.Job.{Job, Command, Ctl, ModuleRow, Run, Until}
use Rattle.ft_job.specs.Plans.{row_of}
use Rattle.ft_job.specs.declared.parts.ModRow.{ModRow}
use Rattle.trace_views.proofs.ItemTexts.{drop_at_get}
use Rattle.trace_views.specs.ModulesText.{module_word}
use Rattle.told_facts.specs.Commands.{answer_text, command_text, controls_from, line_answer, modules_after, wait_text}
use Rattle.told_facts.specs.Lines.{SaidLine}
use Rattle.told_facts.proofs.Texts.{find-map}

-- the answer at the last command of a load or an unload
pub line-answer-is : (job : Job) (k : ℕ) (rows : List ModRow) (a : Option Answer) → map row_of rows ≡ job.lines.modules
    → a ≡ option_map (λ (r : ModRow). r.answer) (find (λ (r : ModRow). r.last == k) rows) → option_map (answer_text job) a ≡ line_answer job k
line-answer-is job k rows a same is =
    ap (option_map (answer_text job)) is ∙ by (find (λ (r : ModRow). r.last == k) rows)
    ∙ ap (option_map (λ (r : ModuleRow). answer_text job r.answer)) (find-map (λ (r : ModuleRow). r.last == k) row_of rows ∙ ap (find (λ (r : ModuleRow). r.last == k)) same)
  where
    by : (o : Option ModRow) → option_map (answer_text job) (option_map (λ (r : ModRow). r.answer) o) ≡ option_map (λ (r : ModuleRow). answer_text job r.answer) (option_map row_of o)
    by None = refl
    by (Some r) = refl

module _ (job : Job) (modules : List ℕ) (i : ℕ) (t all : List ℕ) where
  -- the next module
  pub modules-more : i < length modules → t ++ modules_after job (drop i modules) ≡ all
      → (t ++ (codes " " ++ module_word job (get_or modules i 0))) ++ modules_after job (drop (i + 1) modules) ≡ all
  modules-more within so_far =
      let w = module_word job (get_or modules i 0) in
      let rest = modules_after job (drop (i + 1) modules) in
      let a : t ++ (codes " " ++ (w ++ rest)) ≡ all = rw (drop_more modules i 0 within) at so_far in
      append_assoc t (codes " " ++ w) rest ∙ a

  -- all modules
  pub modules-all : length modules ≤ i → t ++ modules_after job (drop i modules) ≡ all → t ≡ all
  modules-all past so_far = let a : t ++ [] ≡ all = rw (drop_all i modules past) at so_far in sym (append-nil t) ∙ a

module _ (job : Job) (line : ℕ → Option SaidLine) (k : ℕ) (ctls : List Ctl) (i : ℕ) (t all : List ℕ) where
  -- the next command
  pub run-more : (c : Command) → slice_get ctls i ≡ Some (Run c) → t ++ controls_from job line k (drop i ctls) ≡ all
      → (t ++ command_text job k c (line k) (answer_at job k c) (desk job k) (desk job (suc k))) ++ controls_from job line (suc k) (drop (suc i) ctls) ≡ all
  run-more c at so_far =
      let told = command_text job k c (line k) (answer_at job k c) (desk job k) (desk job (suc k)) in
      let a : t ++ (told ++ controls_from job line (suc k) (drop (suc i) ctls)) ≡ all = rw (drop_at_get ctls i (Run c) at) at so_far in
      append_assoc t told (controls_from job line (suc k) (drop (suc i) ctls)) ∙ a

  -- the next wait
  pub wait-more : (u n : ℕ) → slice_get ctls i ≡ Some (Until u n) → t ++ controls_from job line k (drop i ctls) ≡ all
      → (t ++ wait_text job u n) ++ controls_from job line k (drop (suc i) ctls) ≡ all
  wait-more u n at so_far =
      let a : t ++ (wait_text job u n ++ controls_from job line k (drop (suc i) ctls)) ≡ all = rw (drop_at_get ctls i (Until u n) at) at so_far in
      append_assoc t (wait_text job u n) (controls_from job line k (drop (suc i) ctls)) ∙ a

  -- all of them
  pub controls-all : length ctls ≤ i → t ++ controls_from job line k (drop i ctls) ≡ all → t ≡ all
  controls-all past so_far = let a : t ++ [] ≡ all = rw (drop_all i ctls past) at so_far in sym (append-nil t) ∙ a
