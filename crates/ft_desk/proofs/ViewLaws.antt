-- What contracts see of a desk, by its roster.
use Rattle.std.proofs.Common.{cond, ◌≡◌, ℕ, zero, suc, ◌+◌, ◌<◌, Bool, true, false, not, ◌&&◌, ◌||◌, List, [], ◌∷◌, length, map, get_or, set, is_some, refl, sym, ap, ap₂, ◌∙◌, subst, arith}
use Rattle.std.specs.Prelude.{replicate}
use Rattle.std.specs.List.{filter}
use Rattle.ft_base.specs.declared.item.Answer.{Answer}
use Rattle.ft_base.specs.declared.item.Answer.TheVariants.{Accepted, Already, Invalid, NoMatch}
use Rattle.ft_base.specs.declared.user.Half.{Half}
use Rattle.ft_base.specs.declared.user.Half.TheVariants.{Filter as FilterHalf, Notrace as NotraceHalf}
use Rattle.ft_base.specs.Marks.{Marks, is_empty}
use Rattle.ft_base.specs.Job.{Job, Spec, Edit, no_func, funcs as func_count}
use Rattle.ft_base.specs.Desk.{Desk, UserState, sited, sited_from, target, target_by, claim, register_answer, plain_spec, spec_at, user_at, answer_on, edited}
use Rattle.site_counts.specs.Rows.{one_if}
use Rattle.ft_desk.specs.declared.user.User.{User}
use Rattle.ft_desk.specs.Declarations.{Declared, job_of}
use Rattle.word_map.specs.Instructions.{insn_at, insn_of}
use Rattle.ft_desk.specs.Sites.{row_at}
use Rattle.ft_desk.specs.Commands.{edit_command}
use Rattle.ft_desk.specs.RosterInvariant.{IsSized}
use Rattle.ft_desk.specs.Users.{desk_by, edited_pair, is_at, row_by, spec_by, state_of, sum_over, user_of}
use Rattle.ft_desk.specs.Rosters.{claim_of, job_by}
use Rattle.ft_desk.proofs.SumLaws.{user_at-is, sited-count}
use Rattle.ft_desk.proofs.ClaimLaws.{spec_at-is, funcs-is}
use Rattle.ft_desk.proofs.RosterLaws.{row3-same}

-- a desk of these users
abbrev pub desk_with : List User → Marks → Marks → ℕ → Desk
desk_with users pids nopids depth = record { users = map state_of users; pids = pids; nopids = nopids; depth = depth }

-- what is declared
abbrev pub declared_with : List User → ℕ → ℕ → ℕ → Declared
declared_with users funcs tasks tramps = record { specs = map spec_by users; funcs = funcs; tasks = tasks; tramps = tramps }

sited-same : (d e : Desk) (f from : ℕ) (states : List UserState) → sited_from d f from states ≡ sited_from e f from states
sited-same d e f from [] = refl
sited-same d e f from (s ∷ states) = rw (sited-same d e f (suc from) states) refl

insn-list : (users : List User) (pids nopids : Marks) (depth : ℕ) (us : List ℕ)
    → insn_of (desk_by users) (target_by (desk_by users) us) ≡ insn_of (desk_with users pids nopids depth) (target_by (desk_with users pids nopids depth) us)
insn-list users pids nopids depth [] = refl
insn-list users pids nopids depth (u ∷ []) = refl
insn-list users pids nopids depth (u ∷ v ∷ rest) = refl

-- an instruction depends on the users alone
pub insn-with : (users : List User) (pids nopids : Marks) (depth f : ℕ) → insn_at (desk_by users) f ≡ insn_at (desk_with users pids nopids depth) f
unfolding insn_at
insn-with users pids nopids depth f =
    insn-list users pids nopids depth (sited (desk_by users) f)
    ∙ ap (λ us. insn_of (desk_with users pids nopids depth) (target_by (desk_with users pids nopids depth) us))
    (sited-same (desk_by users) (desk_with users pids nopids depth) f 0 (map state_of users))

target-list : (users : List User) (pids nopids : Marks) (depth : ℕ) (us : List ℕ) → target_by (desk_by users) us ≡ target_by (desk_with users pids nopids depth) us
target-list users pids nopids depth [] = refl
target-list users pids nopids depth (u ∷ []) = refl
target-list users pids nopids depth (u ∷ v ∷ rest) = refl

-- and so does what a call runs
pub target-with : (users : List User) (pids nopids : Marks) (depth f : ℕ) → target (desk_by users) f ≡ target (desk_with users pids nopids depth) f
target-with users pids nopids depth f =
    target-list users pids nopids depth (sited (desk_by users) f)
    ∙ ap (target_by (desk_with users pids nopids depth)) (sited-same (desk_by users) (desk_with users pids nopids depth) f 0 (map state_of users))

-- of those sited, how many pass a test
sited-filter : (d : Desk) (f from : ℕ) (users : List User) (q : ℕ → Bool) (p : User → Bool)
    → ((i : ℕ) → i < length users → q (from + i) ≡ p (user_of users i))
    → length (filter q (sited_from d f from (map state_of users))) ≡ sum_over (λ u x. one_if (is_at f x && p x)) from users
sited-filter d f from [] q p h = refl
sited-filter d f from (x ∷ users) q p h =
    let zero-at : from + 0 ≡ from = omega arith in
    let here : q from ≡ p x = subst (λ k. q k ≡ p x) zero-at (h 0 (omega arith)) in
    let rest = sited-filter d f (suc from) users q p (λ i small. let e : suc from + i ≡ from + suc i = omega arith in rw e (h (suc i) (omega arith))) in
    by (is_at f x) (p x) here rest
  where
    by : (a b : Bool) → q from ≡ b → length (filter q (sited_from d f (suc from) (map state_of users))) ≡ sum_over (λ u x. one_if (is_at f x && p x)) (suc from) users
        → length (filter q (cond a (from ∷ sited_from d f (suc from) (map state_of users)) (sited_from d f (suc from) (map state_of users))))
        ≡ one_if (a && b) + sum_over (λ u x. one_if (is_at f x && p x)) (suc from) users
    by false b e r = omega (arith, r)
    by true true e r = rw e (omega (arith, r))
    by true false e r = rw e (omega (arith, r))

-- the row is that of the definition
pub row-with : (users : List User) (funcs tasks tramps : ℕ) (pids nopids : Marks) (depth f : ℕ)
    → row_by users f ≡ row_at (job_of (declared_with users funcs tasks tramps)) (desk_with users pids nopids depth) f
unfolding row_at
row-with users funcs tasks tramps pids nopids depth f =
    row3-same _ _ _ _ _ _ (sym (sited-count (desk_with users pids nopids depth) f 0 users))
    (sym (sited-filter (desk_with users pids nopids depth) f 0 users (λ u. (get_or (map spec_by users) u plain_spec).regs) (λ x. x.regs)
    (λ i small. let e : 0 + i ≡ i = omega arith in rw e (ap (λ (s : Spec). s.regs) (spec_at-is users i)))))
    (sym (sited-filter (desk_with users pids nopids depth) f 0 users (λ u. is_some (get_or (map spec_by users) u plain_spec).ipmodify) (λ x. is_some x.ipmodify)
    (λ i small. let e : 0 + i ≡ i = omega arith in rw e (ap (λ (s : Spec). is_some s.ipmodify) (spec_at-is users i)))))

-- ## answers

claim-with : (users : List User) (funcs tasks tramps : ℕ) (pids nopids : Marks) (depth u : ℕ) (filter notrace : Marks)
    → claim (job_by (record { users = users; funcs = funcs })) (desk_by users) u filter notrace
    ≡ claim (job_of (declared_with users funcs tasks tramps)) (desk_with users pids nopids depth) u filter notrace
claim-with users funcs tasks tramps pids nopids depth u filter notrace = refl

-- the answer to register, by the user's state and declaration
abbrev pub register_by : UserState → Spec → Answer → Answer
register_by s p claimed =
    cond s.registered Already (cond (is_some p.ipmodify && (not p.regs || is_empty s.filter)) Invalid (cond (is_some p.ipmodify) claimed Accepted))

register-tests : (a b c d : Bool) (claimed : Answer) → a ≡ false → b ≡ true → c ≡ true → d ≡ false
    → cond a Already (cond (b && (not c || d)) Invalid (cond b claimed Accepted)) ≡ claimed
register-tests a b c d claimed ea eb ec ed = rw (ea, eb, ec, ed) refl

-- a user that is not registered, replaces functions, gets the registers and has a filter that is not empty
pub register-claims : (users : List User) (funcs tasks tramps : ℕ) (pids nopids : Marks) (depth u : ℕ)
    → (user_of users u).registered ≡ false → is_some (user_of users u).ipmodify ≡ true
    → (user_of users u).regs ≡ true → is_empty (user_of users u).pair.filter ≡ false
    → claim (job_by (record { users = users; funcs = funcs })) (desk_by users) u (user_of users u).pair.filter (user_of users u).pair.notrace
    ≡ register_answer (job_of (declared_with users funcs tasks tramps)) (desk_with users pids nopids depth) u
register-claims users funcs tasks tramps pids nopids depth u er ei eg ee =
    claim-with users funcs tasks tramps pids nopids depth u (user_of users u).pair.filter (user_of users u).pair.notrace
    ∙ sym (ap₂ (λ s (p : Spec). register_by s p (claim (job_of (declared_with users funcs tasks tramps)) (desk_with users pids nopids depth) u s.filter s.notrace))
    (user_at-is users u) (spec_at-is users u)
    ∙ register-tests (user_of users u).registered (is_some (user_of users u).ipmodify) (user_of users u).regs (is_empty (user_of users u).pair.filter) _ er ei eg ee)

-- the answer to an edit, by the user's state and declaration, and the sets after it
edit-tests : (a b : Bool) (e : Edit) (shut : Bool) (claimed : Answer) → a ≡ true → b ≡ true → (e.clear || not (is_empty e.set)) ≡ true
    → cond shut Invalid claimed
    ≡ cond ((a && b) && (e.clear || not (is_empty e.set)) && shut) Invalid (cond (not (e.clear || not (is_empty e.set))) NoMatch (cond (a && b) claimed Accepted))
edit-tests a b e shut claimed ea eb es = rw (ea, eb, es) refl

abbrev pub edit_by : UserState → Spec → Edit → Answer → Marks → Answer
edit_by s p e claimed filter =
    cond ((s.registered && is_some p.ipmodify) && (e.clear || not (is_empty e.set)) && is_empty filter) Invalid
    (cond (not (e.clear || not (is_empty e.set))) NoMatch (cond (s.registered && is_some p.ipmodify) claimed Accepted))

pub edit-claims : (users : List User) (funcs tasks tramps : ℕ) (pids nopids : Marks) (depth u : ℕ) (half : Half) (e : Edit)
    → IsSized funcs (user_of users u).pair → (user_of users u).registered ≡ true → is_some (user_of users u).ipmodify ≡ true
    → (e.clear || not (is_empty e.set)) ≡ true
    → claim_of (job_by (record { users = users; funcs = funcs })) (desk_by users) u (edited_pair half e (user_of users u).pair)
    ≡ answer_on (job_of (declared_with users funcs tasks tramps)) (desk_with users pids nopids depth) (edit_command u half e)
edit-claims users funcs tasks tramps pids nopids depth u FilterHalf e sized er ei es =
    edit-tests (user_of users u).registered (is_some (user_of users u).ipmodify) e _ _ er ei es
    ∙ ap (λ n. edit_by (state_of (user_of users u)) (spec_by (user_of users u)) e
    (claim (job_of (declared_with users funcs tasks tramps)) (desk_with users pids nopids depth) u (edited n (user_of users u).pair.filter e) (user_of users u).pair.notrace)
    (edited n (user_of users u).pair.filter e)) (sized.filter ∙ sym (funcs-is funcs))
    ∙ sym (ap₂ (λ s (p : Spec). edit_by s p e
    (claim (job_of (declared_with users funcs tasks tramps)) (desk_with users pids nopids depth) u (edited (length (replicate funcs no_func)) s.filter e) s.notrace)
    (edited (length (replicate funcs no_func)) s.filter e)) (user_at-is users u) (spec_at-is users u))
edit-claims users funcs tasks tramps pids nopids depth u NotraceHalf e sized er ei es =
    edit-tests (user_of users u).registered (is_some (user_of users u).ipmodify) e _ _ er ei es
    ∙ ap (λ n. edit_by (state_of (user_of users u)) (spec_by (user_of users u)) e
    (claim (job_of (declared_with users funcs tasks tramps)) (desk_with users pids nopids depth) u (user_of users u).pair.filter (edited n (user_of users u).pair.notrace e))
    (user_of users u).pair.filter) (sized.filter ∙ sym (funcs-is funcs))
    ∙ sym (ap₂ (λ s (p : Spec). edit_by s p e
    (claim (job_of (declared_with users funcs tasks tramps)) (desk_with users pids nopids depth) u s.filter (edited (length (replicate funcs no_func)) s.notrace e))
    s.filter) (user_at-is users u) (spec_at-is users u))

-- an edit that selects nothing
unmatched-tests : (a b : Bool) (e : Edit) (shut : Bool) (claimed : Answer) → (e.clear || not (is_empty e.set)) ≡ false
    → NoMatch
    ≡ cond ((a && b) && (e.clear || not (is_empty e.set)) && shut) Invalid (cond (not (e.clear || not (is_empty e.set))) NoMatch (cond (a && b) claimed Accepted))
unmatched-tests true true e shut claimed es = rw es refl
unmatched-tests true false e shut claimed es = rw es refl
unmatched-tests false b e shut claimed es = rw es refl

pub edit-unmatched : (job : Job) (desk : Desk) (u : ℕ) (half : Half) (e : Edit) → (e.clear || not (is_empty e.set)) ≡ false
    → NoMatch ≡ answer_on job desk (edit_command u half e)
edit-unmatched job desk u FilterHalf e es =
    let s = user_at desk u in
    let next = edited (func_count job) s.filter e in
    unmatched-tests s.registered (is_some (spec_at job u).ipmodify) e (is_empty next) (claim job desk u next s.notrace) es
edit-unmatched job desk u NotraceHalf e es =
    let s = user_at desk u in
    unmatched-tests s.registered (is_some (spec_at job u).ipmodify) e (is_empty s.filter) (claim job desk u s.filter (edited (func_count job) s.notrace e)) es

-- an edit of a user that is not registered, or replaces nothing
unbound-tests : (a b : Bool) (e : Edit) (shut : Bool) (claimed : Answer) → (a && b) ≡ false → (e.clear || not (is_empty e.set)) ≡ true
    → Accepted
    ≡ cond ((a && b) && (e.clear || not (is_empty e.set)) && shut) Invalid (cond (not (e.clear || not (is_empty e.set))) NoMatch (cond (a && b) claimed Accepted))
unbound-tests a b e shut claimed eb es = rw (eb, es) refl

pub edit-unbound : (users : List User) (funcs tasks tramps : ℕ) (pids nopids : Marks) (depth u : ℕ) (half : Half) (e : Edit)
    → ((user_of users u).registered && is_some (user_of users u).ipmodify) ≡ false → (e.clear || not (is_empty e.set)) ≡ true
    → Accepted ≡ answer_on (job_of (declared_with users funcs tasks tramps)) (desk_with users pids nopids depth) (edit_command u half e)
edit-unbound users funcs tasks tramps pids nopids depth u FilterHalf e eb es =
    let job = job_of (declared_with users funcs tasks tramps) in
    let desk = desk_with users pids nopids depth in
    let s = user_at desk u in
    let next = edited (func_count job) s.filter e in
    unbound-tests s.registered (is_some (spec_at job u).ipmodify) e (is_empty next) (claim job desk u next s.notrace)
    (ap₂ (λ (t : UserState) (p : Spec). t.registered && is_some p.ipmodify) (user_at-is users u) (spec_at-is users u) ∙ eb) es
edit-unbound users funcs tasks tramps pids nopids depth u NotraceHalf e eb es =
    let job = job_of (declared_with users funcs tasks tramps) in
    let desk = desk_with users pids nopids depth in
    let s = user_at desk u in
    unbound-tests s.registered (is_some (spec_at job u).ipmodify) e (is_empty s.filter) (claim job desk u s.filter (edited (func_count job) s.notrace e))
    (ap₂ (λ (t : UserState) (p : Spec). t.registered && is_some p.ipmodify) (user_at-is users u) (spec_at-is users u) ∙ eb) es

pub clear-not : (a b : Bool) → a ≡ true → (a || not b) ≡ true
clear-not a b e = rw e refl

pub clear-nothing : (a b : Bool) → a ≡ false → b ≡ true → (a || not b) ≡ false
clear-nothing a b ea eb = rw (ea, eb) refl

pub empty-not : (a b : Bool) → b ≡ false → (a || not b) ≡ true
empty-not true b e = refl
empty-not false b e = rw e refl

-- ## one user changes

pub map-set : {X Y : Type 0} (g : X → Y) (xs : List X) (u : ℕ) (y : X) → map g (set xs u y) ≡ set (map g xs) u (g y)
map-set g [] u y = refl
map-set g (x ∷ xs) zero y = refl
map-set g (x ∷ xs) (suc u) y = ap (λ zs. g x ∷ zs) (map-set g xs u y)

-- a list whose element is put back
pub set-back : {X Y : Type 0} (g : X → Y) (xs : List X) (u : ℕ) (y d : X) → u < length xs → g y ≡ g (get_or xs u d) → map g (set xs u y) ≡ map g xs
set-back g [] u y d h e = absurd (omega arith)
set-back g (x ∷ xs) zero y d h e = ap (λ z. z ∷ map g xs) e
set-back g (x ∷ xs) (suc u) y d h e = ap (λ zs. g x ∷ zs) (set-back g xs u y d (omega arith) e)
