-- One law for the rows of control within a command, and what those that change no word of users have in common.
use Rattle.std.proofs.Common.{cond, ◌≡◌, ℕ, suc, ◌<◌, ◌≤◌, Bool, true, false, List, length, inl, inr, sym, ap, ◌∙◌, subst, arith}
use Rattle.ft_base.specs.declared.item.Item.{Item}
use Rattle.ft_base.specs.Job.{Job, Ctl}
use Rattle.ft_base.specs.Desk.{UserState, desk, is_allowed}
use Rattle.ft_base.specs.Order.{IsOrder}
use Rattle.ft_base.proofs.Small.{false_true}
use Rattle.ft_hist.specs.Past.{begun}
use Rattle.word_map.specs.Words.{Words}
use Rattle.word_map.specs.Contents.{low, mask_of, other_copy}
use Rattle.word_machine.specs.Commands.{Effect, effect, subject, state_of}
use Rattle.word_machine.specs.Control.{Position, Line, Close}
use Rattle.word_machine.specs.Cpu.{Cpu}
use Rattle.word_machine.specs.Machine.{World}
use Rattle.word_machine.specs.Progress.{SeenAt, HoldsAt, selected, listed, took, gave, pids_stored, depth_stored, desk_by, underway, quiet_reached}
use Rattle.word_machine.specs.UserList.{since_of, list_desk, PushedAt, UserList, ListWalk, Unlinked}
use Rattle.word_machine.specs.HashCopies.{ReaderAt, SelIs, stored_last, WrittenAt, HashCopies}
use Rattle.word_machine.specs.Trampolines.{TrampolinesHeld, PidsAndDepth}
use Rattle.word_machine.specs.Verdicts.{Here}
use Rattle.word_machine.specs.Rule.{MachineRule, UnderAt, Counts, ControlLines}
use Rattle.word_machine_laws.proofs.Effects.{closes, none_gave}
use Rattle.word_machine_laws.proofs.VerdictLaws.{seen_still}
use Rattle.word_machine_laws.proofs.Sites.{Fetches, Passed}
use Rattle.word_machine_laws.proofs.ControlEffects.{ControlEffect, cpu_goes}

-- a state, with control at a position
abbrev pub world : Words → ℕ → List Ctl → ℕ → (ℕ → ℕ) → List ℕ → (ℕ → Cpu) → List Item → Position → World
world ws d remaining request copies order cpus past p =
    record {
      words = ws;
      control = record { commands_done = d; remaining = remaining; request = request; copies = copies; order = order; position = p };
      cpus = cpus;
      past = past;
    }

-- what the facts on tasks read
abbrev pub hereby : ℕ → Position → ℕ → ℕ → List ℕ → (ℕ → ℕ) → (ℕ → ℕ) → (ℕ → ℕ → ℕ → ℕ → ℕ) → Here
hereby d p base request order copies link bits = record {
  d = d;
  p = p;
  base = base;
  request = request;
  order = order;
  copies = copies;
  link = link;
  bits = bits;
}

-- control goes from one position to another, and no switch flips
pub record Flags (job : Job) (d : ℕ) (p p' : Position) (request request' : ℕ) : Type 0 where
  pub list : listed p' ≡ listed p
  pub select : selected p' ≡ selected p
  pub pids : pids_stored p' ≡ pids_stored p
  pub depth : depth_stored p' ≡ depth_stored p
  pub hold : (q : ℕ) → q ≤ request → HoldsAt (effect job d) p request q → HoldsAt (effect job d) p' request' q
  pub grows : request ≤ request'

-- and what it says of the parts that no CPU reads
pub record Stays (job : Job) (d : ℕ) (p p' : Position) : Type 0 where
  pub tramps : (tramp : ℕ → ℕ) → TrampolinesHeld job d p tramp → TrampolinesHeld job d p' tramp
  pub pushed : (link : ℕ → ℕ) (order : List ℕ) → PushedAt job d link order p'
  pub written : (s : UserState) (copy : ℕ → ℕ → ℕ) → WrittenAt job s copy (effect job d) p'
  pub begun : underway p' ≡ underway p

pub tramps_on : (job : Job) (d : ℕ) (p p' : Position) → took p' ≡ took p → gave (effect job d) p' ≡ gave (effect job d) p → (tramp : ℕ → ℕ)
    → TrampolinesHeld job d p tramp → TrampolinesHeld job d p' tramp
tramps_on job d p p' take give tramp k = record {
  before = λ u t h free. k.before u t h (λ g. free (give ∙ g));
  after = λ t. k.after (sym take ∙ t);
  free = λ t within old new. k.free t within (λ u h. (sym give ∙ (old u h).0, (old u h).1)) (λ e. new (take ∙ e));
}

-- the same before the Return
pub tramps_before : (job : Job) (d : ℕ) (p p' : Position) → closes p ≡ false → closes p' ≡ false → took p' ≡ took p → (tramp : ℕ → ℕ)
    → TrampolinesHeld job d p tramp → TrampolinesHeld job d p' tramp
tramps_before job d p p' before before' take = tramps_on job d p p' take (none_gave (effect job d) p' before' ∙ sym (none_gave (effect job d) p before))

-- ## tasks

pub seen_on : (z : Effect) (p p' : Position) (request request' q : ℕ) (a b : Bool) (old new : Type 0) → b ≡ a
    → (HoldsAt z p request q → HoldsAt z p' request' q) → SeenAt a z p request q old new → SeenAt b z p' request' q old new
seen_on z p p' request request' q a b old new same hold s = subst (λ x. SeenAt x z p' request' q old new) (sym same)
    (seen_still a z p p' request request' q old new hold s)

module _ (job : Job) (d : ℕ) (p p' : Position) (request request' q : ℕ) (hold : HoldsAt (effect job d) p request q → HoldsAt (effect job d) p' request' q) where
  pub read_still : (copies : ℕ → ℕ) (bits : ℕ → ℕ → ℕ → ℕ → ℕ) (u copy : ℕ) (R : UserState → (ℕ → ℕ → ℕ) → Type 0) → selected p' ≡ selected p
      → ReaderAt job d p request q copies bits u copy R → ReaderAt job d p' request' q copies bits u copy R
  read_still copies bits u copy R same s =
      subst (λ b. SeenAt b (effect job d) p' request' q ((b ≡ false → copy ≡ copies u) × R (state_of job d u) (bits u copy))
      ((copy ≡ copies u) × R (state_of job (suc d) u) (bits u copy))) (sym same)
      (seen_still (selected p) (effect job d) p p' request request' q ((selected p ≡ false → copy ≡ copies u) × R (state_of job d u) (bits u copy))
      ((copy ≡ copies u) × R (state_of job (suc d) u) (bits u copy)) hold s)

  pub walk_still : (order : List ℕ) (link : ℕ → ℕ) (u : ℕ) → listed p' ≡ listed p
      → ListWalk link (since_of job (list_desk p d)) order (Unlinked job d p request q u) u
      → ListWalk link (since_of job (list_desk p' d)) order (Unlinked job d p' request' q u) u
  walk_still order link u same w =
      subst (λ b. ListWalk link (since_of job (desk_by b d)) order (Unlinked job d p' request' q u) u) (sym same)
      (elim w [ inl a ↦ inl a | inr g ↦ inr ((same ∙ g.0.0, g.0.1, g.0.2, hold g.0.3), g.1) ])

module _ (job : Job) (d : ℕ) (p p' : Position) (base base' request request' : ℕ) (flags : Flags job d p p' request request') (order : List ℕ) (copies : ℕ
    → ℕ) (link : ℕ → ℕ) (bits : ℕ → ℕ → ℕ → ℕ → ℕ) where
  pub goes_still : (ack q : ℕ) → q ≤ request → Fetches job ack d p base d p' base'
      → ControlEffect job (hereby d p base request order copies link bits) (hereby d p' base' request' order copies link bits) ack q
  goes_still ack q small fetch = record {
    later = omega arith;
    fetch = fetch;
    user = λ u R reg s. seen_on (effect job d) p p' request request' q (selected p) (selected p') (R (state_of job d u))
        (R (state_of job (suc d) u)) flags.select (flags.hold q small) s;
    reads = λ u copy R steady s. read_still job d p p' request request' q (flags.hold q small) copies bits u copy R flags.select s;
    walks = λ u w. walk_still job d p p' request request' q (flags.hold q small) order link u flags.list w;
    walked = λ u w. ap (λ b. since_of job (desk_by b d) u) flags.list;
    since = λ u. inl (ap (λ b. since_of job (desk_by b d) u) flags.list);
    pids = λ t b s. seen_on (effect job d) p p' request request' q (pids_stored p) (pids_stored p') (is_allowed (desk job d) t ≡ b)
        (is_allowed (desk job (suc d)) t ≡ b) flags.pids (flags.hold q small) s;
    depth = λ Q s. seen_on (effect job d) p p' request request' q (depth_stored p) (depth_stored p') (Q (desk job d).depth)
        (Q (desk job (suc d)).depth) flags.depth (flags.hold q small) s;
  }

-- ## the parts

pub listed_on : (job : Job) (d : ℕ) (p p' : Position) (order : List ℕ) (first : ℕ) (link : ℕ → ℕ) → listed p' ≡ listed p → PushedAt job d link order p'
    → UserList job d p order first link → UserList job d p' order first link
listed_on job d p p' order first link same pushed k = record {
  order' = subst (λ b. IsOrder (desk job (desk_by b d)) (desk_by b d) order) (sym same) k.order';
  leads = k.leads;
  pushed = pushed;
}

pub sets_on : (job : Job) (d : ℕ) (p p' : Position) (copies sel : ℕ → ℕ) (bits : ℕ → ℕ → ℕ → ℕ → ℕ) → selected p' ≡ selected p
    → WrittenAt job (state_of job (suc d) (subject job d)) (bits (subject job d) (other_copy (copies (subject job d)))) (effect job d) p'
    → HashCopies job d p copies sel bits → HashCopies job d p' copies sel bits
sets_on job d p p' copies sel bits same written k = record {
  small = k.small;
  sels = λ u. subst (λ b. SelIs job (state_of job (desk_by b d) u) (sel u) (copies u) (bits u)) (sym same) (k.sels u);
  last = λ u. k.last u ∙ ap (λ b. stored_last job u (copies u) (desk_by b d)) (sym same);
  written = written;
  left = λ e out. k.left e (sym same ∙ out);
}

pub limits_on : (job : Job) (d : ℕ) (p p' : Position) (pids depth : ℕ) → pids_stored p' ≡ pids_stored p → depth_stored p' ≡ depth_stored p
    → PidsAndDepth job d p pids depth → PidsAndDepth job d p' pids depth
limits_on job d p p' pids depth same_pids same_depth k = record {
  tasks = subst (λ b. pids ≡ mask_of (desk job (desk_by b d)) (length job.tasks)) (sym same_pids) k.tasks;
  level = subst (λ b. depth ≡ (desk job (desk_by b d)).depth) (sym same_depth) k.level;
}

counts_on : (d : ℕ) (p p' : Position) (clock : ℕ) (past : List Item) → underway p' ≡ underway p → Counts d p clock past → Counts d p' clock past
counts_on d p p' clock past same k = record {
  returned = k.returned;
  started = subst (λ b. begun past ≡ cond b (suc d) d) (sym same) k.started;
  clock' = k.clock';
  room = k.room;
}

pub lines_on : (job : Job) (d : ℕ) (p p' : Position) (remaining : List Ctl) (gone : ℕ → ℕ) → (UnderAt p remaining → UnderAt p' remaining)
    → ControlLines job d p remaining gone → ControlLines job d p' remaining gone
lines_on job d p p' remaining gone f k = record { waits = k.waits; met = k.met; before = k.before; within = k.within; commands = k.commands; under = f k.under }

-- a command under way is that of the present line, wherever control stands in it
under_from : (p : Position) (remaining : List Ctl) → true ≡ underway p → UnderAt p remaining → UnderAt Close remaining
under_from Line remaining begins u = false_true (sym begins)
under_from _ remaining begins u = u

pub under_on : (p p' : Position) (remaining : List Ctl) → underway p' ≡ underway p → UnderAt p remaining → UnderAt p' remaining
under_on p Line remaining begins u = tt
under_on p _ remaining begins u = under_from p remaining begins u

-- the command that has returned last has begun
begun_more : (d : ℕ) (p : Position) (clock : ℕ) (past : List Item) → Counts d p clock past → d ≤ begun past
begun_more d p clock past k = by_under (underway p) k.started
  where
    by_under : (b : Bool) → begun past ≡ cond b (suc d) d → d ≤ begun past
    by_under true e = omega (arith, e)
    by_under false e = omega (arith, e)

-- ## the law

module _ (job : Job) (ws : Words) (d : ℕ) (remaining : List Ctl) (request : ℕ) (copies : ℕ → ℕ) (order : List ℕ) (cpus : ℕ → Cpu) (past : List Item) where
  -- a row within a command, by what it makes of each part, and of what tasks know
  pub row_kept : {want first pids depth : ℕ} {head tail next tramp link sel : ℕ → ℕ} {bits : ℕ → ℕ → ℕ → ℕ → ℕ} (p p' : Position) (base' request' : ℕ)
      (copies' : ℕ → ℕ) (order' : List ℕ) → (k : MachineRule job (world ws d remaining request copies order cpus past p)) → underway p' ≡ underway p
      → request ≤ request' → Passed job ws.ack d p k.base request d p' base' request' want head tail next → UserList job d p' order' first link
      → HashCopies job d p' copies' sel bits → TrampolinesHeld job d p' tramp → PidsAndDepth job d p' pids depth
      → ((t : ℕ) → t < length job.tasks → quiet_reached (effect job d) p request t ≤ low (ws.quiet t)
      → quiet_reached (effect job d) p' request' t ≤ low (ws.quiet t))
      → ((ack q : ℕ) → q ≤ request → Fetches job ack d p k.base d p' base'
      → ControlEffect job (hereby d p k.base request order copies ws.link ws.bits) (hereby d p' base' request' order' copies' link bits) ack q)
      → MachineRule job (world (record ws {
        want = want;
        first = first;
        pids = pids;
        depth = depth;
        head = head;
        tail = tail;
        next = next;
        tramp = tramp;
        link = link;
        sel = sel;
        bits = bits;
      }) d remaining request' copies' order' cpus past p')
  row_kept {link = link} {bits = bits} p p' base' request' copies' order' k begun later pass list sets tramps limits quiets goes = record {
    base = base';
    counts = counts_on d p p' ws.clock past begun k.counts;
    legal = k.legal;
    runs = k.runs;
    lines = lines_on job d p p' remaining _ (under_on p p' remaining begun) k.lines;
    sites = pass.sites;
    list = list;
    sets = sets;
    tramps = tramps;
    limits = limits;
    cpus = λ c within.
        cpu_goes job past (hereby d p k.base request order copies ws.link ws.bits) (hereby d p' base' request' order' copies' link bits) (ws.ack c) ws.quiet c
        (cpus c) (begun_more d p ws.clock past k.counts) later (pass.reach c within) quiets
        (λ t there r a qr small. goes (ws.ack c) (low (ws.quiet t)) small (pass.fetch c within r a)) (k.cpus c within);
  }

  -- one that changes no word of users
  pub kept_on : (p p' : Position) (base' request' wanted : ℕ) (head tail next : ℕ → ℕ) → Flags job d p p' request request' → Stays job d p p'
      → (k : MachineRule job (world ws d remaining request copies order cpus past p))
      → Passed job ws.ack d p k.base request d p' base' request' wanted head tail next
      → ((t : ℕ) → t < length job.tasks → quiet_reached (effect job d) p request t ≤ low (ws.quiet t)
      → quiet_reached (effect job d) p' request' t ≤ low (ws.quiet t))
      → MachineRule job (world (record ws { want = wanted; head = head; tail = tail; next = next }) d remaining request' copies order cpus past p')
  kept_on p p' base' request' wanted head tail next flags stays k pass quiets =
      row_kept p p' base' request' copies order k stays.begun flags.grows pass
      (listed_on job d p p' order ws.first ws.link flags.list (stays.pushed ws.link order) k.list)
      (sets_on job d p p' copies ws.sel ws.bits flags.select
      (stays.written (state_of job (suc d) (subject job d)) (ws.bits (subject job d) (other_copy (copies (subject job d))))) k.sets)
      (stays.tramps ws.tramp k.tramps) (limits_on job d p p' ws.pids ws.depth flags.pids flags.depth k.limits) quiets
      (goes_still job d p p' k.base base' request request' flags order copies ws.link ws.bits)
