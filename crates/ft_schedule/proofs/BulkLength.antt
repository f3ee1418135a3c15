-- A generated script is within the limit of scripts. The bounds are generous: 64 bytes for each line.
use Rattle.std.proofs.Common.{◌≡◌, ℕ, zero, suc, ◌+◌, ◌*◌, ◌%◌, ◌<◌, ◌≤◌, ◌==◌, nat_lt, Bool, true, false, if◌then◌else◌, arith, List, ◌++◌, codes, length, length-append}
use Rattle.std.specs.Fmt.{decimal}
use Rattle.std.proofs.lemmas.Fmt.{length-decimal-le}
use Rattle.ft_base.specs.declared.limits.TheConstants.{INPUT_BYTES}
use Rattle.ft_schedule.specs.declared.bulk.TheConstants.{BULK_FUNCTIONS, BULK_MODULES, BULK_USERS, BULK_CPUS, LEAST_QUANTUM, QUANTA, BULK_TASKS, FIRST_PID, BULK_GROUPS, BULK_COMMANDS, COMMAND_KINDS, PREFIXES}
use Rattle.ft_schedule.specs.Bulk.{Part, next_state, drawn, several, function_line, function_lines, user_lines, cpu_part, call_line, ret_line, group_part, task_line, task_part, command_of, command_part, bulk_text}

-- ---- parts

-- each of this many parts has, from any state, at most as many bytes: so many together
several-short : (part : ℕ → ℕ → Part) (n k s : ℕ) → ((i t : ℕ) → i < n → length (part i t).text ≤ k) → length (several part n s).text ≤ n * k
unfolding several
several-short part zero k s each = omega arith
several-short part (suc n) k s each =
    let before = several part n s in
    let shorter : length before.text ≤ n * k = several-short part n k s (λ i t below. each i t (omega arith)) in
    let last : length (part n before.state).text ≤ k = each n before.state (omega arith) in
    omega (arith, length-append before.text (part n before.state).text)

-- the functions, if the line of each has at most as many bytes
functions-short : (n k : ℕ) → ((i : ℕ) → i < n → length (function_line i) ≤ k) → length (function_lines n) ≤ n * k
unfolding function_lines
functions-short zero k each = omega arith
functions-short (suc n) k each =
    let shorter : length (function_lines n) ≤ n * k = functions-short n k (λ i below. each i (omega arith)) in
    let last : length (function_line n) ≤ k = each n (omega arith) in
    omega (arith, length-append (function_lines n) (function_line n))

-- ---- lines

-- a number below 1,000 has at most three digits
three-digits : (n : ℕ) → n < 1000 → length (decimal n) ≤ 3
three-digits n small = length-decimal-le 3 n (omega arith) (omega arith) (omega arith)

-- a line with one number
one-number : (xs ys : List ℕ) (n : ℕ) → n < 1000 → length xs + length ys ≤ 32 → length (xs ++ (decimal n ++ ys)) ≤ 64
one-number xs ys n small few = omega (arith, three-digits n small, length-append xs (decimal n ++ ys), length-append (decimal n) ys)

-- a line with two numbers
two-numbers : (xs ys zs : List ℕ) (m n : ℕ) → m < 1000 → n < 1000 → length xs + length ys + length zs ≤ 32 → length (xs ++ (decimal m ++ (ys ++ (decimal n ++ zs)))) ≤ 64
two-numbers xs ys zs m n small small' few =
    let rest : length (ys ++ (decimal n ++ zs)) ≤ length ys + 3 + length zs = omega (arith, three-digits n small', length-append ys (decimal n ++ zs), length-append (decimal n) zs) in
    omega (arith, three-digits m small, length-append xs (decimal m ++ (ys ++ (decimal n ++ zs))), length-append (decimal m) (ys ++ (decimal n ++ zs)))

-- one of two texts
either-text : (b : Bool) (xs ys : List ℕ) (k : ℕ) → length xs ≤ k → length ys ≤ k → length (if b then xs else ys) ≤ k
either-text true xs ys k short other = short
either-text false xs ys k short other = other

-- one of two parts
either-part : (b : Bool) (p q : Part) (k : ℕ) → length p.text ≤ k → length q.text ≤ k → length (if b then p else q).text ≤ k
either-part true p q k short other = short
either-part false p q k short other = other

function-short : (i : ℕ) → i < BULK_FUNCTIONS → length (function_line i) ≤ 64
function-short i below =
    either-text (i % BULK_MODULES == 0) _ _ 64
    (one-number (codes "func f") (codes "\n") i (omega arith) (omega arith))
    (two-numbers (codes "func f") (codes " m") (codes "\n") i (i % BULK_MODULES) (omega arith) (omega arith) (omega arith))

cpu-short : (c s : ℕ) → c < BULK_CPUS → length (cpu_part c s).text ≤ 64
cpu-short c s below =
    two-numbers (codes "cpu ") (codes " quantum ") (codes "\n") c (LEAST_QUANTUM + drawn QUANTA (next_state s)) (omega arith) (omega arith) (omega arith)

call-short : (f : ℕ) → f < BULK_FUNCTIONS → length (call_line f) ≤ 64
call-short f below = one-number (codes "call f") (codes "\n") f (omega arith) (omega arith)

task-line-short : (t : ℕ) → t < BULK_TASKS → length (task_line t) ≤ 64
task-line-short t below = two-numbers (codes "task ") (codes " cpu ") (codes "\n") (FIRST_PID + t) (t % BULK_CPUS) (omega arith) (omega arith) (omega arith)

-- ---- groups, tasks and commands

-- the bytes of six texts, one after the other
six-texts : (a b c d e f : List ℕ) → length (a ++ (b ++ (c ++ (d ++ (e ++ f))))) ≡ length a + length b + length c + length d + length e + length f
six-texts a b c d e f =
    omega (arith, length-append a (b ++ (c ++ (d ++ (e ++ f)))), length-append b (c ++ (d ++ (e ++ f))), length-append c (d ++ (e ++ f)), length-append d (e ++ f), length-append e f)

group-short : (s : ℕ) → length (group_part s).text ≤ 384
group-short s =
    let first = next_state s in
    let second = next_state first in
    let third = next_state second in
    let x = drawn BULK_FUNCTIONS first in
    let y = drawn BULK_FUNCTIONS second in
    let z = drawn BULK_FUNCTIONS third in
    let ret : length ret_line ≤ 64 = omega arith in
    omega (arith, six-texts (call_line x) (call_line y) ret_line (call_line z) ret_line ret_line, call-short x (omega arith), call-short y (omega arith), call-short z (omega arith), ret)

task-short : (t s : ℕ) → t < BULK_TASKS → length (task_part t s).text ≤ 64 + BULK_GROUPS * 384
task-short t s below =
    let groups = several (λ _. group_part) BULK_GROUPS s in
    let within : length groups.text ≤ BULK_GROUPS * 384 = several-short (λ _. group_part) BULK_GROUPS 384 s (λ i u lower. group-short u) in
    omega (arith, within, task-line-short t below, length-append (task_line t) groups.text)

command-of-short : (kind user s : ℕ) → user < BULK_USERS → length (command_of kind user s).text ≤ 64
command-of-short kind user s below =
    let first = next_state s in
    either-part (nat_lt kind 3) _ _ 64 (one-number (codes "ctl register u") (codes "\n") user (omega arith) (omega arith))
    (either-part (kind == 3) _ _ 64 (one-number (codes "ctl unregister u") (codes "\n") user (omega arith) (omega arith))
    (either-part (kind == 4) _ _ 64 (two-numbers (codes "ctl filter u") (codes " > f") (codes "*\n") user (drawn PREFIXES first) (omega arith) (omega arith) (omega arith))
    (either-part (kind == 5) _ _ 64 (two-numbers (codes "ctl notrace u") (codes " > f") (codes "*\n") user (drawn PREFIXES first) (omega arith) (omega arith) (omega arith))
    (either-part (kind == 6) _ _ 64 (one-number (codes "ctl filter u") (codes " >\n") user (omega arith) (omega arith))
    (one-number (codes "ctl pid ") (codes "\n") (FIRST_PID + drawn BULK_TASKS first) (omega arith) (omega arith))))))

command-short : (s : ℕ) → length (command_part s).text ≤ 64
command-short s =
    let first = next_state s in
    let second = next_state first in
    command-of-short (drawn COMMAND_KINDS first) (drawn BULK_USERS second) second (omega arith)

-- ---- the script

pub bulk-short : (n : ℕ) → length (bulk_text n) ≤ INPUT_BYTES
unfolding bulk_text
bulk-short n =
    let cpus = several cpu_part BULK_CPUS n in
    let tasks = several task_part BULK_TASKS cpus.state in
    let commands = several (λ _. command_part) BULK_COMMANDS tasks.state in
    omega (
      arith,
      six-texts (codes "ftrace 1\n") (function_lines BULK_FUNCTIONS) user_lines cpus.text tasks.text commands.text,
      functions-short BULK_FUNCTIONS 64 function-short,
      several-short cpu_part BULK_CPUS 64 n cpu-short,
      several-short task_part BULK_TASKS (64 + BULK_GROUPS * 384) cpus.state task-short,
      several-short (λ _. command_part) BULK_COMMANDS 64 tasks.state (λ i u below. command-short u),
    )
