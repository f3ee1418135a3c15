-- The program of each kind of command, in a script whose stores `fttell steps` lists one by one: function a; tr, of kind function and with a pid
-- filter; p, an fprobe; task 10.
use Rattle.std.proofs.Common.{◌≡◌, ℕ, true, false, List, [], ◌∷◌, None, codes, refl}
use Rattle.ft_base.specs.declared.user.Kind.TheVariants.{Function, Fprobe}
use Rattle.ft_base.specs.Job.{usual_lines, usual_rings, Job, Register, Unregister, Filter, Pid, Enable, Disable, MaxDepth, Run}
use Rattle.ft_base.specs.Desk.{desk}
use Rattle.word_map.specs.Words.{First, Pids, Depth, Head, Tail, Next, Tramp, Link, Sel, Bits}
use Rattle.word_machine.specs.Commands.{insn, moves}
use Rattle.word_machine.specs.Control.{Line}
use Rattle.word_machine.specs.Values.{copies_in}
use Rattle.command_moves.specs.Program.{Move, Put, Sync, Quiet, program}

abbrev script : Job
script = record { version = 1; functions = record { name = codes "a"; owner = None } ∷ []; users = record { name = codes "tr"; kind = Function; regs = false; ipmodify = None; pid = true; act = None } ∷ record { name = codes "p"; kind = Fprobe false false; regs = false; ipmodify = None; pid = false; act = None } ∷ []; frames = 50; tramps = 16; quanta = 100 ∷ []; tasks = record { pid = 10; cpu = 0; acts = [] } ∷ []; ctls = Run (Register 0) ∷ Run (Filter 0 (record { append = false; remove = false; clear = false; set = true ∷ [] })) ∷ Run (Pid (true ∷ [])) ∷ Run (MaxDepth 3) ∷ Run (Register 1) ∷ Run (Disable 1) ∷ Run (Enable 1) ∷ Run (Register 1) ∷ Run (Unregister 0) ∷ []; lines = usual_lines; rings = usual_rings; schedule = [] }

-- the command after so many, where these copies are in use and these users registered
abbrev of-command : ℕ → List ℕ → List ℕ → List Move
of-command d copies order = program script (record { commands_done = d; remaining = []; request = 0; copies = copies_in copies; order = order; position = Line })

register : of-command 0 (0 ∷ 0 ∷ []) [] ≡ Put (Tramp 0) 4294967297 ∷ Put (Bits 0 1 0 0) 0 ∷ Put (Bits 0 1 1 0) 0 ∷ Put (Sel 0) 4294967311 ∷ Put (Link 0) 0 ∷ Put First 1
    ∷ Put (Next 0) 2 ∷ Put (Head 0) 204 ∷ Sync ∷ Put (Tail 0) 1044475 ∷ Sync ∷ Put (Head 0) 232 ∷ Sync ∷ []
unfolding desk insn moves
register = refl

filter : of-command 1 (1 ∷ 0 ∷ []) (0 ∷ []) ≡ Put (Bits 0 0 0 0) 1 ∷ Put (Bits 0 0 1 0) 0 ∷ Put (Sel 0) 4294967299 ∷ Quiet ∷ []
unfolding desk insn moves
filter = refl

pid : of-command 2 (0 ∷ 0 ∷ []) (0 ∷ []) ≡ Put Pids 1 ∷ Quiet ∷ []
unfolding desk insn moves
pid = refl

maxdepth : of-command 3 (0 ∷ 0 ∷ []) (0 ∷ []) ≡ Put Depth 3 ∷ Quiet ∷ []
unfolding desk insn moves
maxdepth = refl

-- the second user on the list
register_again : of-command 4 (0 ∷ 0 ∷ []) (0 ∷ []) ≡ Put (Tramp 1) 4294967298 ∷ Put (Bits 1 1 0 0) 0 ∷ Put (Bits 1 1 1 0) 0 ∷ Put (Sel 1) 4294967311 ∷ Put (Link 1) 1
    ∷ Put First 2 ∷ Put (Next 0) 1 ∷ Put (Head 0) 204 ∷ Sync ∷ Put (Tail 0) 978939 ∷ Sync ∷ Put (Head 0) 232 ∷ Sync ∷ []
unfolding desk insn moves
register_again = refl

disable : of-command 5 (0 ∷ 1 ∷ []) (1 ∷ 0 ∷ []) ≡ Put (Sel 1) 4294967309 ∷ Quiet ∷ []
unfolding desk insn moves
disable = refl

enable : of-command 6 (0 ∷ 1 ∷ []) (1 ∷ 0 ∷ []) ≡ Put (Sel 1) 4294967311 ∷ []
unfolding desk insn moves
enable = refl

-- p is registered
refused : of-command 7 (0 ∷ 1 ∷ []) (1 ∷ 0 ∷ []) ≡ []
unfolding desk insn moves
refused = refl

-- the link of the user before it names the next one
unregister : of-command 8 (0 ∷ 1 ∷ []) (1 ∷ 0 ∷ []) ≡ Put (Sel 0) 4294967298 ∷ Put (Link 1) 0 ∷ Put (Next 0) 3 ∷ Put (Head 0) 204 ∷ Sync ∷ Put (Tail 0) 1044731 ∷ Sync ∷ Put (Head 0) 232
    ∷ Sync ∷ Quiet ∷ Put (Tramp 0) 0 ∷ []
unfolding desk insn moves
unregister = refl
