-- The rule of users' states and of the two copies of their sets: which copy has the sets, and what a reader of a copy has found.
use Rattle.std.specs.Prelude.{ℕ, zero, suc, ◌≡◌, ◌<◌, ◌⊎◌, true, false, ◌||◌, ◌&&◌, ◌==◌, ◌%◌, if◌then◌else◌}
use Rattle.ft_base.specs.Marks.{holds, is_empty}
use Rattle.ft_base.specs.Job.{Job}
use Rattle.ft_base.specs.Desk.{UserState}
use Rattle.word_map.specs.Contents.{high, sel_of, set_word, other_copy}
use Rattle.word_machine.specs.Commands.{Effect, Removes, effect, subject, state_of, set_words}
use Rattle.word_machine.specs.Control.{Position, Copy, Select}
use Rattle.word_machine.specs.Progress.{selected, desk_by, selects, SeenAt, writes_copy}

-- a copy has the user's sets
abbrev pub HasSets : Job → UserState → (ℕ → ℕ → ℕ) → Type 0
HasSets job s copy = (h w : ℕ) → h < 2 → w < set_words job → copy h w ≡ set_word s h w

-- The word of a user's state: a registered user's names a copy that has its sets; any other has its number, and says that the user is
-- not registered. Otherwise somebody would be called back who is off, or by another's sets
abbrev pub SelIs : Job → UserState → ℕ → ℕ → (ℕ → ℕ → ℕ → ℕ) → Type 0
SelIs job s v copy bits =
    (s.registered ≡ true → (v ≡ sel_of s copy) × HasSets job s (bits copy)) × (s.registered ≡ false → (high v ≡ s.reg) × (v % 2 ≡ 0))

-- the state of a user as control stored it last in the first k commands, with this copy in use: 0 before its first store
abbrev pub stored_last : Job → (u copy k : ℕ) → ℕ
stored_last job u copy zero = 0
stored_last job u copy (suc k) = if selects (effect job k) && (u == subject job k) then sel_of (state_of job (suc k) u) copy else stored_last job u copy k

-- how far the copy that is being written is; it has all of the new sets before the state that names it is stored. Otherwise a reader
-- would find half of a filter
abbrev pub WrittenAt : Job → UserState → (ℕ → ℕ → ℕ) → Effect → Position → Type 0
WrittenAt job s copy z (Copy h w) = (i v : ℕ) → i < 2 → v < set_words job → (i < h) ⊎ ((i ≡ h) × (v < w)) → copy i v ≡ set_word s i v
WrittenAt job s copy z Select = writes_copy z ≡ true → HasSets job s copy
WrittenAt job s copy z _ = Unit {0}

-- The state of a user that the command takes off, from its store to the Return: the word still names the copy that has the sets of before,
-- and says alone that the user isn't registered. Otherwise a walker that comes to a plain user would read another filter, or half of one
abbrev pub LeftAt : Job → (d u v copy : ℕ) → (ℕ → ℕ → ℕ) → Type 0
LeftAt job d u v copy sets = (v ≡ sel_of (state_of job (suc d) u) copy) × HasSets job (state_of job d u) sets

-- The states and the copies.
--   small     there are two copies
--   sels      each state is that of the desk, and names a copy that has the user's sets
--   last      each is what control stored last; so that of a user that is off still has the other bits of the command that took it off
--   written   the other copy is written in its order
--   left      a user that is being taken off can still be read
pub record HashCopies (job : Job) (d : ℕ) (p : Position) (copies : ℕ → ℕ) (sel : ℕ → ℕ) (bits : ℕ → ℕ → ℕ → ℕ → ℕ) : Type 0 where
  pub small : (u : ℕ) → copies u < 2
  pub sels : (u : ℕ) → SelIs job (state_of job (desk_by (selected p) d) u) (sel u) (copies u) (bits u)
  pub last : (u : ℕ) → sel u ≡ stored_last job u (copies u) (desk_by (selected p) d)
  pub written : WrittenAt job (state_of job (suc d) (subject job d)) (bits (subject job d) (other_copy (copies (subject job d)))) (effect job d) p
  pub left : effect job d ≡ Removes → selected p ≡ true → LeftAt job d (subject job d) (sel (subject job d)) (copies (subject job d)) (bits (subject job d) (copies (subject job d)))

-- what a reader has found in a user's state: registered, enabled, its number; and the copy that is read has the sets
pub record Reader (job : Job) (s : UserState) (copy : ℕ → ℕ → ℕ) (reg : ℕ) : Type 0 where
  pub registered : s.registered ≡ true
  pub enabled : s.enabled ≡ true
  pub number : s.reg ≡ reg
  pub copied : HasSets job s copy

-- before the load of the filter, which is not empty
abbrev pub InFilter : Job → ℕ → UserState → (ℕ → ℕ → ℕ) → Type 0
InFilter job reg s copy = Reader job s copy reg × (is_empty s.filter ≡ false)

-- before the load of the notrace set: the filter lets the function pass
abbrev pub InNotrace : Job → ℕ → ℕ → UserState → (ℕ → ℕ → ℕ) → Type 0
InNotrace job reg f s copy = Reader job s copy reg × ((is_empty s.filter || holds s.filter f) ≡ true)

-- A fact of a user and of the copy that a reader reads. Before the store of the state it is the copy that the state names, which control
-- does not write; afterwards it is the new one, or the old one for a task that holds the command, which control writes only in a later
-- command. Otherwise a copy would be written while somebody reads it
abbrev pub ReaderAt : Job → ℕ → Position → ℕ → ℕ → (ℕ → ℕ) → (ℕ → ℕ → ℕ → ℕ → ℕ) → ℕ → ℕ → (UserState → (ℕ → ℕ → ℕ) → Type 0) → Type 0
ReaderAt job d p request q copies bits u copy R =
    SeenAt (selected p) (effect job d) p request q
    ((selected p ≡ false → copy ≡ copies u) × R (state_of job d u) (bits u copy))
    ((copy ≡ copies u) × R (state_of job (suc d) u) (bits u copy))
