-- The words that control and the CPUs share, by name. A store changes one field of the record, and every other field computes to
-- what it was. What each word holds is in `Contents` and `Instructions`.
use Rattle.std.specs.Prelude.{ℕ, ◌==◌, ◌&&◌, if◌then◌else◌}
use Rattle.word_map.specs.Instructions.{head_of, tail_of}

-- A word, with who stores into it:
--   Clock                   marks alone: how many items and how many command items there are
--   Want                    control: the number of its last request
--   Ack c                   CPU c: the last request that it has seen
--   Quiet t                 the CPU of task t: how many acts t has finished, and the last request at which t was between acts
--   Head f, Tail f, Next f  control: of call site f the first byte, the other four, and the instruction that is to come
--   First, Link u           control: the list of registered users, the latest first
--   Sel u                   control: the state of user u, which names the copy of its sets that is in use
--   Bits u copy half w      control: a word of the filter (half 0) or of the notrace set (half 1) of user u, in one of two copies
--   Tramp s                 control: the user of trampoline s
--   Pids, Depth             control: the tasks that are traced, and the graph depth
pub data Word : Type 0 where
  Clock : Word
  Want : Word
  First : Word
  Pids : Word
  Depth : Word
  Head : (f : ℕ) → Word
  Tail : (f : ℕ) → Word
  Next : (f : ℕ) → Word
  Ack : (c : ℕ) → Word
  Quiet : (t : ℕ) → Word
  Tramp : (s : ℕ) → Word
  Link : (u : ℕ) → Word
  Sel : (u : ℕ) → Word
  Bits : (u copy half w : ℕ) → Word

-- the contents of all words
pub record Words : Type 0 where
  pub clock : ℕ
  pub want : ℕ
  pub first : ℕ
  pub pids : ℕ
  pub depth : ℕ
  pub head : ℕ → ℕ
  pub tail : ℕ → ℕ
  pub next : ℕ → ℕ
  pub ack : ℕ → ℕ
  pub quiet : ℕ → ℕ
  pub tramp : ℕ → ℕ
  pub link : ℕ → ℕ
  pub sel : ℕ → ℕ
  pub bits : ℕ → ℕ → ℕ → ℕ → ℕ

-- a function that is changed at one number
abbrev pub at_put : {A : Type 0} → (ℕ → A) → ℕ → A → ℕ → A
at_put g i x k = if k == i then x else g k

-- the copies with one word changed
abbrev pub bits_put : (ℕ → ℕ → ℕ → ℕ → ℕ) → ℕ → ℕ → ℕ → ℕ → ℕ → ℕ → ℕ → ℕ → ℕ → ℕ
bits_put g u copy half w x v d h k = if (v == u) && (d == copy) && (h == half) && (k == w) then x else g v d h k

-- what a word holds
abbrev pub read : Word → Words → ℕ
read Clock ws = ws.clock
read Want ws = ws.want
read First ws = ws.first
read Pids ws = ws.pids
read Depth ws = ws.depth
read (Head f) ws = ws.head f
read (Tail f) ws = ws.tail f
read (Next f) ws = ws.next f
read (Ack c) ws = ws.ack c
read (Quiet t) ws = ws.quiet t
read (Tramp s) ws = ws.tramp s
read (Link u) ws = ws.link u
read (Sel u) ws = ws.sel u
read (Bits u copy half w) ws = ws.bits u copy half w

-- the words after a store
abbrev pub put : Word → ℕ → Words → Words
put Clock x ws = record ws { clock = x }
put Want x ws = record ws { want = x }
put First x ws = record ws { first = x }
put Pids x ws = record ws { pids = x }
put Depth x ws = record ws { depth = x }
put (Head f) x ws = record ws { head = at_put ws.head f x }
put (Tail f) x ws = record ws { tail = at_put ws.tail f x }
put (Next f) x ws = record ws { next = at_put ws.next f x }
put (Ack c) x ws = record ws { ack = at_put ws.ack c x }
put (Quiet t) x ws = record ws { quiet = at_put ws.quiet t x }
put (Tramp s) x ws = record ws { tramp = at_put ws.tramp s x }
put (Link u) x ws = record ws { link = at_put ws.link u x }
put (Sel u) x ws = record ws { sel = at_put ws.sel u x }
put (Bits u copy half w) x ws = record ws { bits = bits_put ws.bits u copy half w x }

-- the words at the start, when these tasks are traced (`pids` has a bit for each): every site is the nop, and nobody is registered
abbrev pub opening : ℕ → Words
opening pids = record {
  clock = 0;
  want = 0;
  first = 0;
  pids = pids;
  depth = 0;
  head = λ f. head_of 0;
  tail = λ f. tail_of f 0;
  next = λ f. 0;
  ack = λ c. 0;
  quiet = λ t. 0;
  tramp = λ s. 0;
  link = λ u. 0;
  sel = λ u. 0;
  bits = λ u copy half w. 0;
}
