-- The words in one list: which place each has, and what the list says of the words.
use Rattle.std.specs.Prelude.{ℕ, zero, suc, ◌≡◌, ◌≢◌, ◌+◌, ◌*◌, ◌/◌, ◌<◌, Bool, true, ◌&&◌, nat_lt, List, [], ◌∷◌, get_or, length, cond}
use Rattle.ft_base.specs.declared.user.Half.{Half}
use Rattle.ft_base.specs.declared.user.Half.TheVariants.{Filter, Notrace}
use Rattle.word_map.specs.Words.{Word, Words, Clock, Want, First, Pids, Depth, Head, Tail, Next, Ack, Quiet, Tramp, Link, Sel, Bits, read, opening}
use Rattle.word_map.specs.declared.shape.Shape.{Shape}

-- how many words a set of functions has
abbrev pub words_for : ℕ → ℕ
words_for funcs = (funcs + 63) / 64

-- the kinds of words, in the order in which they stand in the list
abbrev pub kind_of : Word → ℕ
kind_of Clock = 0
kind_of Want = 1
kind_of First = 2
kind_of Pids = 3
kind_of Depth = 4
kind_of (Head f) = 5
kind_of (Tail f) = 6
kind_of (Next f) = 7
kind_of (Ack c) = 8
kind_of (Quiet t) = 9
kind_of (Tramp s) = 10
kind_of (Link u) = 11
kind_of (Sel u) = 12
kind_of (Bits u copy half w) = 13

-- how many words of each kind there are
abbrev pub counts : Shape → List ℕ
counts shape =
    1 ∷ 1 ∷ 1 ∷ 1 ∷ 1 ∷ shape.funcs ∷ shape.funcs ∷ shape.funcs ∷ shape.cpus ∷ shape.tasks ∷ shape.tramps ∷ shape.users ∷ shape.users
    ∷ shape.users * 4 * words_for shape.funcs ∷ []

-- how many words of a kind there are
abbrev pub count_of : Shape → ℕ → ℕ
count_of shape k = get_or (counts shape) k 0

-- where the words of a kind begin, by such counts
abbrev pub start_in : List ℕ → ℕ → ℕ
start_in cs zero = 0
start_in [] (suc k) = 0
start_in (c ∷ cs) (suc k) = c + start_in cs k

-- where the words of a kind begin
abbrev pub start_of : Shape → ℕ → ℕ
start_of shape k = start_in (counts shape) k

-- the number of a word among those of its kind
abbrev pub index_of : Shape → Word → ℕ
index_of shape (Head f) = f
index_of shape (Tail f) = f
index_of shape (Next f) = f
index_of shape (Ack c) = c
index_of shape (Quiet t) = t
index_of shape (Tramp s) = s
index_of shape (Link u) = u
index_of shape (Sel u) = u
index_of shape (Bits u copy half w) = (u * 4 + copy * 2 + half) * words_for shape.funcs + w
index_of shape _ = 0

-- the place of a word
abbrev pub place : Shape → Word → ℕ
place shape w = start_of shape (kind_of w) + index_of shape w

-- how many words there are
abbrev pub len : Shape → ℕ
len shape = start_of shape 14

-- the number of a half of a user's sets
abbrev pub half_number : Half → ℕ
half_number Filter = 0
half_number Notrace = 1

-- there is such a word: its function, CPU, task, trampoline or user is in the shape
abbrev pub IsThere : Shape → Word → Type 0
IsThere shape (Head f) = f < shape.funcs
IsThere shape (Tail f) = f < shape.funcs
IsThere shape (Next f) = f < shape.funcs
IsThere shape (Ack c) = c < shape.cpus
IsThere shape (Quiet t) = t < shape.tasks
IsThere shape (Tramp s) = s < shape.tramps
IsThere shape (Link u) = u < shape.users
IsThere shape (Sel u) = u < shape.users
IsThere shape (Bits u copy half w) = (u < shape.users) × (copy < 2) × (half < 2) × (w < words_for shape.funcs)
IsThere shape _ = Unit {0}

-- the same, as a test
abbrev pub is_there : Shape → Word → Bool
is_there shape (Head f) = nat_lt f shape.funcs
is_there shape (Tail f) = nat_lt f shape.funcs
is_there shape (Next f) = nat_lt f shape.funcs
is_there shape (Ack c) = nat_lt c shape.cpus
is_there shape (Quiet t) = nat_lt t shape.tasks
is_there shape (Tramp s) = nat_lt s shape.tramps
is_there shape (Link u) = nat_lt u shape.users
is_there shape (Sel u) = nat_lt u shape.users
is_there shape (Bits u copy half w) = nat_lt u shape.users && nat_lt copy 2 && nat_lt half 2 && nat_lt w (words_for shape.funcs)
is_there shape _ = true

-- the words that are there have places of their own, the clock the first
pub record IsMap (shape : Shape) (at : Word → ℕ) (many : ℕ) : Type 0 where
  pub clock : at Clock ≡ 0
  pub inside : (w : Word) → IsThere shape w → at w < many
  pub apart : (v w : Word) → IsThere shape v → IsThere shape w → v ≢ w → at v ≢ at w

-- words by name
abbrev pub by_name : (Word → ℕ) → Words
by_name r = record {
  clock = r Clock;
  want = r Want;
  first = r First;
  pids = r Pids;
  depth = r Depth;
  head = λ f. r (Head f);
  tail = λ f. r (Tail f);
  next = λ f. r (Next f);
  ack = λ c. r (Ack c);
  quiet = λ t. r (Quiet t);
  tramp = λ s. r (Tramp s);
  link = λ u. r (Link u);
  sel = λ u. r (Sel u);
  bits = λ u copy half w. r (Bits u copy half w);
}

-- the words of a list; one that isn't there is what it was at the start, when these tasks were traced
abbrev pub words_in : Shape → ℕ → List ℕ → Words
words_in shape pids list = by_name (λ w. cond (is_there shape w) (get_or list (place shape w) 0) (read w (opening pids)))

-- the list of the words at the start
pub record IsOpening (shape : Shape) (pids : ℕ) (list : List ℕ) : Type 0 where
  pub count : length list ≡ len shape
  pub each : (w : Word) → IsThere shape w → get_or list (place shape w) 0 ≡ read w (opening pids)
