-- What contracts see of a desk after each command.
use Rattle.std.proofs.Common.{cond, ◌≡◌, ℕ, zero, suc, ◌<◌, ◌≤◌, ◌==◌, Bool, true, false, not, List, [], ◌∷◌, length, map, get_or, set, Some, refl, sym, ap, ap₂, ◌∙◌, arith, inl, inr, eqb-true, get_or-set_same}
use Rattle.std.specs.List.{range_with_len}
use Rattle.std.specs.Int.{bit_at}
use Rattle.std.proofs.lemmas.Bool.{cases_lt}
use Rattle.std.proofs.lemmas.List.{get_or_past, length-map}
use Rattle.std.proofs.lemmas.List.FromFn.{get_or-map-range_with_len, length-range_with_len}
use Rattle.std.proofs.lemmas.Bool.Decides.{nat_tests}
use Rattle.std.proofs.lemmas.Nat.Bits.{bit_at-lt, same_from_bits}
use Rattle.ft_base.specs.Marks.{Marks, holds}
use Rattle.ft_base.specs.Desk.{Desk, UserState, unseen, is_allowed}
use Rattle.ft_base.specs.Job.{Spec, Pid, NoPid}
use Rattle.site_set.specs.Marks.{number_with_bits}
use Rattle.site_set.proofs.MarksLemmas.{bit_at-number_with_bits}
use Rattle.ft_desk.specs.declared.user.User.{User}
use Rattle.ft_desk.specs.Declarations.{Declared}
use Rattle.ft_desk.specs.Commands.{switch_command}
use Rattle.word_map.specs.Contents.{digit, sel_of}
use Rattle.ft_desk.specs.Plans.{PlainPlan, no_plan, user_no}
use Rattle.ft_desk.specs.DeskView.{DeskView, carried_out}
use Rattle.ft_desk.specs.Users.{no_user, spec_by, state_of, switched, user_of}
use Rattle.ft_desk.proofs.SumLaws.{user_at-is}
use Rattle.ft_desk.proofs.ViewLaws.{declared_with, desk_with, map-set, set-back}

abbrev pub seen : Declared → Desk → List ℕ → List ℕ → ℕ → PlainPlan → DeskView
seen d s c o n p = record { declared = d; state = s; copies = c; order = o; commands = n; plan = p }

pub seen-same : (d d' : Declared) (s s' : Desk) (c c' o o' : List ℕ) (n n' : ℕ) (p p' : PlainPlan) → d ≡ d' → s ≡ s' → c ≡ c' → o ≡ o' → n ≡ n' → p ≡ p'
    → seen d s c o n p ≡ seen d' s' c' o' n' p'
seen-same d d' s s' c c' o o' n n' p p' ed es ec eo en ep = rw (ed, es, ec, eo, en, ep) refl

-- ## the mask of the allowed tasks

mask-bits : (n : ℕ) (p : ℕ → Bool) (t : ℕ) → t < n → holds (map p (range_with_len 0 n)) t ≡ p t
mask-bits n p t h = get_or-map-range_with_len p 0 n t t false h (omega arith)

digit-is : (b : ℕ) (x : Bool) → b < 2 → (b == 1) ≡ x → b ≡ cond x 1 0
digit-is b true small e = eqb-true b 1 e
digit-is b false small e = grind (arith, nat_tests)

length-range : (n : ℕ) (p : ℕ → Bool) → length (map p (range_with_len 0 n)) ≡ n
length-range n p = length-map (range_with_len 0 n) p ∙ length-range_with_len 0 n

pub mask-is : (n m : ℕ) (p : ℕ → Bool) → ((t : ℕ) → t < n → (bit_at m t == 1) ≡ p t) → ((t : ℕ) → n ≤ t → bit_at m t ≡ 0)
    → m ≡ number_with_bits (map p (range_with_len 0 n))
mask-is n m p inside outside = same_from_bits m _ (λ t. elim (cases_lt t n) [
  | inl h ↦ digit-is (bit_at m t) (p t) (bit_at-lt m t) (inside t h)
      ∙ sym (bit_at-number_with_bits (map p (range_with_len 0 n)) t ∙ ap (λ b. cond b 1 0) (mask-bits n p t h))
  | inr h ↦ outside t h
      ∙ sym (bit_at-number_with_bits (map p (range_with_len 0 n)) t ∙ ap (λ b. cond b 1 0) (get_or_past (map p (range_with_len 0 n)) t false (let l = length-range n p in omega (arith, l, h))))
])

-- ## enable and disable

pub copy-at : (users : List User) (u : ℕ) → get_or (map (λ (x : User). digit x.second) users) u 0 ≡ digit (user_of users u).second
copy-at [] u = refl
copy-at (x ∷ users) zero = refl
copy-at (x ∷ users) (suc u) = copy-at users u

pub state-set : (users : List User) (u : ℕ) (y : User) → u < length users → get_or (map state_of (set users u y)) u (unseen 0) ≡ state_of y
state-set users u y h = user_at-is (set users u y) u ∙ ap state_of (get_or-set_same users u y no_user h)

abbrev declare : List Spec → ℕ → ℕ → ℕ → Declared
declare specs funcs tasks tramps = record { specs = specs; funcs = funcs; tasks = tasks; tramps = tramps }

-- the parts of what is seen, after one user has become y
module _ (users : List User) (u : ℕ) (y : User) (within : u < length users) (same : spec_by y ≡ spec_by (user_of users u)) where
  pub declared-still : (users' : List User) (funcs funcs' tasks tramps : ℕ) → users' ≡ set users u y → funcs' ≡ funcs
      → declared_with users' funcs' tasks tramps ≡ declared_with users funcs tasks tramps
  declared-still users' funcs funcs' tasks tramps eu ef =
      ap (λ (us : List User). declared_with us funcs' tasks tramps) eu
      ∙ parts (map spec_by (set users u y)) (map spec_by users) (set-back spec_by users u y no_user within same) ef
    where
      parts : (a b : List Spec) → a ≡ b → funcs' ≡ funcs → declare a funcs' tasks tramps ≡ declare b funcs tasks tramps
      parts a b e f = rw (e, f) refl

  pub state-now : (s : UserState) → state_of y ≡ s → map state_of (set users u y) ≡ set (map state_of users) u s
  state-now s e = map-set state_of users u y ∙ ap (set (map state_of users) u) e

  pub next-at : (s : UserState) → get_or (set (map state_of users) u s) u (unseen 0) ≡ s
  next-at s = get_or-set_same (map state_of users) u s (unseen 0) (let n = length-map users state_of in omega (arith, n, within))

  pub sel-now : (users' : List User) (sel : ℕ) → users' ≡ set users u y → sel ≡ sel_of (state_of (user_of users' u)) (digit (user_of users' u).second)
      → sel ≡ sel_of (state_of y) (digit y.second)
  sel-now users' sel eu es = es ∙ ap (λ (x : User). sel_of (state_of x) (digit x.second)) (ap (λ (us : List User). user_of us u) eu ∙ get_or-set_same users u y no_user within)

abbrev with_sel : PlainPlan → ℕ → ℕ → Bool → PlainPlan
with_sel p u sel quiet = record p { user = Some (user_no u); sel = Some sel; quiet = quiet }

plan-sel : (before : PlainPlan) (u sel sel' : ℕ) (quiet : Bool) → before ≡ no_plan → sel ≡ sel'
    → with_sel before u sel quiet ≡ with_sel no_plan u sel' quiet
plan-sel before u sel sel' quiet eb es = rw (eb, es) refl

-- what is seen after a user was enabled or disabled
pub switch-seen : (users : List User) (funcs funcs' tasks tramps : ℕ) (pids nopids : Marks) (depth : ℕ) (order : List ℕ) (commands commands' : ℕ) (plan : PlainPlan)
    (before : PlainPlan) (u : ℕ) (enabled : Bool) (users' : List User) (sel : ℕ) → u < length users → users' ≡ set users u (switched enabled (user_of users u)) → funcs' ≡ funcs
    → commands' ≡ suc commands → before ≡ no_plan → sel ≡ sel_of (state_of (user_of users' u)) (digit (user_of users' u).second)
    → seen (declared_with users' funcs' tasks tramps) (desk_with users' pids nopids depth) (map (λ (x : User). digit x.second) users') order commands'
    (record before { user = Some (user_no u); sel = Some sel; quiet = not enabled })
    ≡ carried_out (seen (declared_with users funcs tasks tramps) (desk_with users pids nopids depth) (map (λ (x : User). digit x.second) users) order commands plan)
    (switch_command u enabled)
switch-seen users funcs funcs' tasks tramps pids nopids depth order commands commands' plan before u enabled users' sel within eu ef en eb es =
    rest enabled eu
  where
    x : User
    x = user_of users u

    rest : (b : Bool) → users' ≡ set users u (switched b (user_of users u))
        → seen (declared_with users' funcs' tasks tramps) (desk_with users' pids nopids depth) (map (λ (x : User). digit x.second) users') order commands'
        (record before { user = Some (user_no u); sel = Some sel; quiet = not b })
        ≡ carried_out (seen (declared_with users funcs tasks tramps) (desk_with users pids nopids depth) (map (λ (x : User). digit x.second) users) order commands plan)
        (switch_command u b)
    rest true e = seen-same _ _ _ _ _ _ _ _ _ _ _ _
        (declared-still users u (switched true (user_of users u)) within refl users' funcs funcs' tasks tramps e ef)
        (ap (λ (us : List User). desk_with us pids nopids depth) e ∙ ap (λ ss. record { users = ss; pids = pids; nopids = nopids; depth = depth })
        (state-now users u (switched true (user_of users u)) within refl (record (get_or (map state_of users) u (unseen 0)) { enabled = true }) (ap (λ (s : UserState). record s { enabled = true }) (sym (user_at-is users u)))))
        (ap (λ (us : List User). map (λ (x : User). digit x.second) us) e ∙ set-back (λ (x : User). digit x.second) users u (switched true (user_of users u)) no_user within refl)
        refl en
        (plan-sel before u sel _ false eb (sel-now users u (switched true (user_of users u)) within refl users' sel e es
        ∙ sym (ap₂ sel_of (next-at users u (switched true (user_of users u)) within refl _ ∙ ap (λ (s : UserState). record s { enabled = true }) (user_at-is users u)) (copy-at users u))))
    rest false e = seen-same _ _ _ _ _ _ _ _ _ _ _ _
        (declared-still users u (switched false (user_of users u)) within refl users' funcs funcs' tasks tramps e ef)
        (ap (λ (us : List User). desk_with us pids nopids depth) e ∙ ap (λ ss. record { users = ss; pids = pids; nopids = nopids; depth = depth })
        (state-now users u (switched false (user_of users u)) within refl (record (get_or (map state_of users) u (unseen 0)) { enabled = false }) (ap (λ (s : UserState). record s { enabled = false }) (sym (user_at-is users u)))))
        (ap (λ (us : List User). map (λ (x : User). digit x.second) us) e ∙ set-back (λ (x : User). digit x.second) users u (switched false (user_of users u)) no_user within refl)
        refl en
        (plan-sel before u sel _ true eb (sel-now users u (switched false (user_of users u)) within refl users' sel e es
        ∙ sym (ap₂ sel_of (next-at users u (switched false (user_of users u)) within refl _ ∙ ap (λ (s : UserState). record s { enabled = false }) (user_at-is users u)) (copy-at users u))))

-- ## the lists of tasks

abbrev allowed_by : Marks → Marks → ℕ → Bool
allowed_by pids nopids t = is_allowed (record { users = []; pids = pids; nopids = nopids; depth = 0 }) t

abbrev with_pids : PlainPlan → ℕ → PlainPlan
with_pids p m = record p { pids = Some m; quiet = true }

with_pids-same : (p : PlainPlan) (m m' : ℕ) → p ≡ no_plan → m ≡ m' → with_pids p m ≡ with_pids no_plan m'
with_pids-same p m m' ep em = rw (ep, em) refl

module _ (users : List User) (funcs tramps : ℕ) (pids nopids pids' nopids' : Marks) (depth : ℕ) (copies order : List ℕ) (commands commands' : ℕ) (plan before : PlainPlan) (m : ℕ)
    (size : length pids' ≡ length pids) (en : commands' ≡ suc commands) (eb : before ≡ no_plan)
    (inside : (t : ℕ) → t < length pids' → (bit_at m t == 1) ≡ allowed_by pids' nopids' t) (outside : (t : ℕ) → length pids' ≤ t → bit_at m t ≡ 0) where
  tasks-same : declared_with users funcs (length pids') tramps ≡ declared_with users funcs (length pids) tramps
  tasks-same = ap (λ n. declared_with users funcs n tramps) size

  mask-same : m ≡ number_with_bits (map (allowed_by pids' nopids') (range_with_len 0 (length pids)))
  mask-same = mask-is (length pids') m (allowed_by pids' nopids') inside outside ∙ ap (λ n. number_with_bits (map (allowed_by pids' nopids') (range_with_len 0 n))) size

  pub pids-seen : nopids' ≡ nopids
      → seen (declared_with users funcs (length pids') tramps) (desk_with users pids' nopids' depth) copies order commands' (with_pids before m)
      ≡ carried_out (seen (declared_with users funcs (length pids) tramps) (desk_with users pids nopids depth) copies order commands plan) (Pid pids')
  pids-seen e = seen-same _ _ _ _ _ _ _ _ _ _ _ _ tasks-same (ap (λ n. desk_with users pids' n depth) e) refl refl en
      (with_pids-same before m _ eb (mask-same ∙ ap (λ n. number_with_bits (map (allowed_by pids' n) (range_with_len 0 (length pids)))) e))

  pub nopids-seen : pids' ≡ pids
      → seen (declared_with users funcs (length pids') tramps) (desk_with users pids' nopids' depth) copies order commands' (with_pids before m)
      ≡ carried_out (seen (declared_with users funcs (length pids) tramps) (desk_with users pids nopids depth) copies order commands plan) (NoPid nopids')
  nopids-seen e = seen-same _ _ _ _ _ _ _ _ _ _ _ _ tasks-same (ap (λ p. desk_with users p nopids' depth) e) refl refl en
      (with_pids-same before m _ eb (mask-same ∙ ap (λ p. number_with_bits (map (allowed_by p nopids') (range_with_len 0 (length pids)))) e))
