-- Parts of a generated script, one after the other.
use Rattle.std.proofs.Common.{◌≡◌, ℕ, ◌+◌, List, [], ◌++◌, refl, sym, append_assoc, append-nil, add-one}
use Rattle.std.specs.Prelude.{codes}
use Rattle.ft_schedule.specs.declared.bulk.TheConstants.{BULK_FUNCTIONS, BULK_CPUS, BULK_TASKS, BULK_COMMANDS}
use Rattle.ft_schedule.specs.Bulk.{Part, several, function_lines, function_line, user_lines, cpu_part, task_part, command_part, bulk_text}

-- no parts
pub several-none : (part : ℕ → ℕ → Part) (s : ℕ) → several part 0 s ≡ record { text = []; state = s }
unfolding several
several-none part s = refl

-- one part more
pub several-more : (part : ℕ → ℕ → Part) (n s : ℕ) → several part (n + 1) s ≡ record {
  text = (several part n s).text ++ (part n (several part n s).state).text;
  state = (part n (several part n s).state).state;
}
unfolding several
several-more part n s = rw (add-one n) refl

-- the text that was there is that with no functions after it
pub lines-none : (old : List ℕ) → old ≡ old ++ function_lines 0
unfolding function_lines
lines-none old = sym (append-nil old)

-- the text that was there, with the functions so far after it, and then one function more
pub lines-more : (n : ℕ) (old so_far new : List ℕ) → so_far ≡ old ++ function_lines n → new ≡ so_far ++ function_line n → new ≡ old ++ function_lines (n + 1)
unfolding function_lines
lines-more n old so_far new before added = rw (added, before, add-one n) (append_assoc old (function_lines n) (function_line n))

-- the text that was there is that with no parts after it
pub text-none : (part : ℕ → ℕ → Part) (s : ℕ) (old : List ℕ) → old ≡ old ++ (several part 0 s).text
text-none part s old = rw (several-none part s) (sym (append-nil old))

-- the state with no parts
pub state-none : (part : ℕ → ℕ → Part) (s : ℕ) → s ≡ (several part 0 s).state
state-none part s = rw (several-none part s) refl

-- the text that was there, with the parts so far after it, and then one part more
pub text-more : (part : ℕ → ℕ → Part) (n s now : ℕ) (old so_far new : List ℕ) → so_far ≡ old ++ (several part n s).text → now ≡ (several part n s).state → new ≡ so_far ++ (part n now).text
    → new ≡ old ++ (several part (n + 1) s).text
text-more part n s now old so_far new before at added = rw (added, before, at, several-more part n s) (append_assoc old _ _)

-- the state after one part more
pub state-more : (part : ℕ → ℕ → Part) (n s now later : ℕ) → now ≡ (several part n s).state → later ≡ (part n now).state
    → later ≡ (several part (n + 1) s).state
state-more part n s now later at drawn = rw (drawn, at, several-more part n s) refl

-- a text of six pieces, put one after the other
pub pieces-after : (a b c d e f t1 t2 t3 t4 t5 t6 : List ℕ) → t1 ≡ a → t2 ≡ t1 ++ b → t3 ≡ t2 ++ c → t4 ≡ t3 ++ d → t5 ≡ t4 ++ e → t6 ≡ t5 ++ f
    → t6 ≡ a ++ (b ++ (c ++ (d ++ (e ++ f))))
pieces-after a b c d e f t1 t2 t3 t4 t5 t6 e1 e2 e3 e4 e5 e6 = rw (e6, e5, e4, e3, e2, e1) (simp append_assoc)

-- a script: its first line, the functions, the users, and the parts that are drawn
pub script-whole : (n s1 s2 : ℕ) (t1 t2 t3 t4 t5 t6 : List ℕ) → t1 ≡ codes "ftrace 1\n" → t2 ≡ t1 ++ function_lines BULK_FUNCTIONS → t3 ≡ t2 ++ user_lines
    → t4 ≡ t3 ++ (several cpu_part BULK_CPUS n).text → s1 ≡ (several cpu_part BULK_CPUS n).state
    → t5 ≡ t4 ++ (several task_part BULK_TASKS s1).text → s2 ≡ (several task_part BULK_TASKS s1).state
    → t6 ≡ t5 ++ (several (λ _. command_part) BULK_COMMANDS s2).text → t6 ≡ bulk_text n
unfolding bulk_text
script-whole n s1 s2 t1 t2 t3 t4 t5 t6 e1 e2 e3 e4 at1 e5 at2 e6 =
    let tasks : t5 ≡ t4 ++ (several task_part BULK_TASKS (several cpu_part BULK_CPUS n).state).text = rw at1 at e5 in
    let at : s2 ≡ (several task_part BULK_TASKS (several cpu_part BULK_CPUS n).state).state = rw at1 at at2 in
    let commands : t6 ≡ t5 ++ (several (λ _. command_part) BULK_COMMANDS (several task_part BULK_TASKS (several cpu_part BULK_CPUS n).state).state).text = rw at at e6 in
    pieces-after _ _ _ _ _ _ _ _ _ _ _ _ e1 e2 e3 e4 tasks commands
