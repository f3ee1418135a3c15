-- The rows that store the traced tasks and the graph depth.
use Rattle.std.proofs.Common.{◌≡◌, ℕ, suc, true, List, length, inl, inr, refl, sym, ◌∙◌, arith}
use Rattle.ft_base.specs.declared.item.Item.{Item}
use Rattle.ft_base.specs.Job.{Job, Ctl}
use Rattle.ft_base.specs.Desk.{desk, is_allowed}
use Rattle.ft_base.specs.WellFormed.{IsWellFormed}
use Rattle.ft_base.proofs.Small.{false_true}
use Rattle.word_map.specs.Words.{Words, Pids, Depth}
use Rattle.word_map.specs.Contents.{mask_of}
use Rattle.word_machine.specs.Commands.{effect, state_of}
use Rattle.word_map.specs.Ops.{Store}
use Rattle.word_machine.specs.Control.{StorePids, StoreDepth, Ask, Tasks, control_got}
use Rattle.word_machine.specs.Cpu.{Cpu}
use Rattle.word_machine.specs.Machine.{control_row}
use Rattle.word_machine.specs.Progress.{is_lists, is_levels}
use Rattle.word_machine.specs.Trampolines.{PidsAndDepth}
use Rattle.word_machine.specs.Rule.{MachineRule}
use Rattle.word_machine_laws.proofs.Sites.{Fetches, passed_same}
use Rattle.word_machine_laws.proofs.ControlEffects.{ControlEffect}
use Rattle.word_machine_laws.proofs.NoSwitch.{world, hereby, seen_on, read_still, walk_still, tramps_before, listed_on, sets_on, row_kept}
use Rattle.word_machine_laws.proofs.CommandDesks.{none_changes}
use Rattle.word_machine_laws.proofs.Effects.{what_waits_pids, what_waits_depth}

goes_pids : (job : Job) (d base request : ℕ) (order : List ℕ) (copies link : ℕ → ℕ) (bits : ℕ → ℕ → ℕ → ℕ → ℕ) → is_lists (effect job d) ≡ true → (ack q : ℕ)
    → Fetches job ack d StorePids base d (Ask Tasks) base
    → ControlEffect job (hereby d StorePids base request order copies link bits) (hereby d (Ask Tasks) base request order copies link bits) ack q
goes_pids job d base request order copies link bits fit ack q fetch = record {
  later = omega arith;
  fetch = fetch;
  user = λ u R steady s. seen_on (effect job d) StorePids (Ask Tasks) request request q true true (R (state_of job d u)) (R (state_of job (suc d) u)) refl
      (λ h. tt) s;
  reads = λ u copy R steady s. read_still job d StorePids (Ask Tasks) request request q (λ h. tt) copies bits u copy R refl s;
  walks = λ u w. walk_still job d StorePids (Ask Tasks) request request q (λ h. tt) order link u refl w;
  walked = λ u w. refl;
  since = λ u. inl refl;
  pids = λ t x s. inr ((what_waits_pids (effect job d) fit).0, tt, s);
  depth = λ Q s. seen_on (effect job d) StorePids (Ask Tasks) request request q true true (Q (desk job d).depth) (Q (desk job (suc d)).depth) refl (λ h. tt) s;
}

pub pids_keeps : (job : Job) → IsWellFormed job → (ws : Words) (d : ℕ) (remaining : List Ctl) (request : ℕ) (copies : ℕ → ℕ) (order : List ℕ) (cpus : ℕ
    → Cpu) (past : List Item) → MachineRule job (world ws d remaining request copies order cpus past StorePids)
    → MachineRule job (control_row job (world ws d remaining request copies order cpus past StorePids)
    (Store Pids (mask_of (desk job (suc d)) (length job.tasks))))
unfolding control_got
pids_keeps job ok ws d remaining request copies order cpus past k =
    let z = what_waits_pids (effect job d) k.sites.fit in
    let limits : PidsAndDepth job d (Ask Tasks) (mask_of (desk job (suc d)) (length job.tasks)) ws.depth = record { tasks = refl; level = k.limits.level } in
    row_kept job ws d remaining request copies order cpus past StorePids (Ask Tasks) k.base request copies order k refl (omega arith)
    (passed_same job d ws.ack StorePids (Ask Tasks) k.base k.base request request ws.want ws.want ws.head ws.tail ws.next
    (λ f inside ch. false_true (sym (none_changes job ok d z.1 f) ∙ ch)) k.sites.asked (let few = k.sites.few in omega (arith, few)) k.sites.want tt z.0
    (inl refl) (λ c within s. omega arith) k.sites)
    (listed_on job d StorePids (Ask Tasks) order ws.first ws.link refl tt k.list) (sets_on job d StorePids (Ask Tasks) copies ws.sel ws.bits refl tt k.sets)
    (tramps_before job d StorePids (Ask Tasks) refl refl refl ws.tramp k.tramps) limits (λ t there r. omega arith)
    (λ ack q small fetch. goes_pids job d k.base request order copies ws.link ws.bits k.sites.fit ack q fetch)

goes_depth : (job : Job) (d base request : ℕ) (order : List ℕ) (copies link : ℕ → ℕ) (bits : ℕ → ℕ → ℕ → ℕ → ℕ) → is_levels (effect job d) ≡ true
    → (ack q : ℕ) → Fetches job ack d StoreDepth base d (Ask Tasks) base
    → ControlEffect job (hereby d StoreDepth base request order copies link bits) (hereby d (Ask Tasks) base request order copies link bits) ack q
goes_depth job d base request order copies link bits fit ack q fetch = record {
  later = omega arith;
  fetch = fetch;
  user = λ u R steady s. seen_on (effect job d) StoreDepth (Ask Tasks) request request q true true (R (state_of job d u)) (R (state_of job (suc d) u)) refl
      (λ h. tt) s;
  reads = λ u copy R steady s. read_still job d StoreDepth (Ask Tasks) request request q (λ h. tt) copies bits u copy R refl s;
  walks = λ u w. walk_still job d StoreDepth (Ask Tasks) request request q (λ h. tt) order link u refl w;
  walked = λ u w. refl;
  since = λ u. inl refl;
  pids = λ t x s. seen_on (effect job d) StoreDepth (Ask Tasks) request request q true true (is_allowed (desk job d) t ≡ x) (is_allowed (desk job (suc d)) t
      ≡ x) refl (λ h. tt) s;
  depth = λ Q s. inr ((what_waits_depth (effect job d) fit).0, tt, s);
}

pub depth_keeps : (job : Job) → IsWellFormed job → (ws : Words) (d : ℕ) (remaining : List Ctl) (request : ℕ) (copies : ℕ → ℕ) (order : List ℕ) (cpus : ℕ
    → Cpu) (past : List Item) → MachineRule job (world ws d remaining request copies order cpus past StoreDepth)
    → MachineRule job (control_row job (world ws d remaining request copies order cpus past StoreDepth) (Store Depth (desk job (suc d)).depth))
unfolding control_got
depth_keeps job ok ws d remaining request copies order cpus past k =
    let z = what_waits_depth (effect job d) k.sites.fit in
    let limits : PidsAndDepth job d (Ask Tasks) ws.pids (desk job (suc d)).depth = record { tasks = k.limits.tasks; level = refl } in
    row_kept job ws d remaining request copies order cpus past StoreDepth (Ask Tasks) k.base request copies order k refl (omega arith)
    (passed_same job d ws.ack StoreDepth (Ask Tasks) k.base k.base request request ws.want ws.want ws.head ws.tail ws.next
    (λ f inside ch. false_true (sym (none_changes job ok d z.1 f) ∙ ch)) k.sites.asked (let few = k.sites.few in omega (arith, few)) k.sites.want tt z.0
    (inl refl) (λ c within s. omega arith) k.sites)
    (listed_on job d StoreDepth (Ask Tasks) order ws.first ws.link refl tt k.list) (sets_on job d StoreDepth (Ask Tasks) copies ws.sel ws.bits refl tt k.sets)
    (tramps_before job d StoreDepth (Ask Tasks) refl refl refl ws.tramp k.tramps) limits (λ t there r. omega arith)
    (λ ack q small fetch. goes_depth job d k.base request order copies ws.link ws.bits k.sites.fit ack q fetch)
