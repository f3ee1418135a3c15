-- Each row of control keeps the rule.
use Rattle.std.proofs.Common.{◌≡◌, ℕ, suc, ◌<◌, ◌≤◌, List, [], ◌∷◌, length, get_or, Some, refl, sym, subst}
use Rattle.std.specs.Prelude.{Option, IfSome}
use Rattle.std.proofs.lemmas.Option.{same_Some}
use Rattle.ft_base.specs.declared.item.Item.{Item}
use Rattle.ft_base.specs.declared.item.Item.TheVariants.{Begin, Return}
use Rattle.ft_base.specs.Job.{Job, no_task, Ctl, Run, Until}
use Rattle.ft_base.specs.Desk.{desk}
use Rattle.ft_hist.specs.Plain.{plain, PlainTask}
use Rattle.ft_hist.specs.Rules.{acts_passed}
use Rattle.word_map.specs.Words.{Words, Want, Pids, Depth, Quiet, Tramp, Link, Sel, Bits}
use Rattle.word_map.specs.Contents.{sel_of, tramp_word, set_word, mask_of, other_copy}
use Rattle.grace_core.specs.Waits.{awaited_word}
use Rattle.word_machine.specs.Commands.{effect, subject, state_of, command}
use Rattle.word_map.specs.Ops.{WordOp, Load, Store, Mark}
use Rattle.word_machine.specs.Control.{Position, Line, Take, Copy, Select, Push, Relink, StorePids, StoreDepth, Patch, Ask, Await, Release, Close, copy_after, slot_of, name_of, relink_op, answer_in, line_op, is_for_tasks, next_in, control_next}
use Rattle.word_machine.specs.Cpu.{Cpu}
use Rattle.word_machine.specs.Machine.{World, control_row}
use Rattle.word_machine.specs.Tasks.{TaskRule}
use Rattle.word_machine.specs.Rule.{MachineRule, IsWordJob, task_in}
use Rattle.word_machine_laws.proofs.NoSwitch.{world, hereby}
use Rattle.word_machine_laws.proofs.SiteRows.{patch_keeps}
use Rattle.word_machine_laws.proofs.WaitRows.{ask_keeps, await_keeps}
use Rattle.word_machine_laws.proofs.SetCopy.{copy_keeps}
use Rattle.word_machine_laws.proofs.SetSelect.{select_keeps}
use Rattle.word_machine_laws.proofs.ListRows.{push_keeps, relink_keeps}
use Rattle.word_machine_laws.proofs.LimitRows.{pids_keeps, depth_keeps}
use Rattle.word_machine_laws.proofs.TrampRows.{take_keeps, release_keeps}
use Rattle.word_machine_laws.proofs.ControlClose.{close_keeps}
use Rattle.word_machine_laws.proofs.ControlBegin.{begin_keeps}
use Rattle.word_machine_laws.proofs.ControlLine.{until_keeps, has_waited, task_passed}
use Rattle.word_machine_laws.proofs.Room.{has-room}

module _ (job : Job) (ok : IsWordJob job) (ws : Words) (d : ℕ) (request : ℕ) (copies : ℕ → ℕ) (order : List ℕ) (cpus : ℕ → Cpu) (past : List Item) where
  abbrev at : List Ctl → Position → World
  at remaining p = world ws d remaining request copies order cpus past p

  passes : (remaining : List Ctl) (p : Position) → MachineRule job (at remaining p) → (t : ℕ) → t < length job.tasks
      → IfSome (plain job t past) (λ s. (task_in job cpus t).gone ≤ acts_passed s)
  passes remaining p k t there =
      let c = (get_or job.tasks t no_task).cpu in
      let kt : TaskRule job (hereby d p k.base request order copies ws.link ws.bits) past (ws.ack c) (ws.quiet t) t (task_in job cpus t) =
      (k.cpus c (ok.placed t there)).tasks t (there, refl) in
      subst (λ (o : Option PlainTask). IfSome o (λ s. (task_in job cpus t).gone ≤ acts_passed s)) (sym kt.run.is)
      (task_passed job (hereby d p k.base request order copies ws.link ws.bits) past (ws.ack c) (ws.quiet t) t (task_in job cpus t) kt)

  by_line : (remaining : List Ctl) (op : WordOp) → MachineRule job (at remaining Line) → line_op d remaining ≡ Some op
      → MachineRule job (control_row job (at remaining Line) op)
  by_line [] op k is = absurd (cc)
  by_line (Until t n ∷ rest) op k is = subst (λ o. MachineRule job (control_row job (at (Until t n ∷ rest) Line) o)) (same_Some (Load (Quiet t)) op is)
      (until_keeps job ok ws d request copies order cpus past t n rest k)
  by_line (Run c ∷ rest) op k is =
      subst (λ o. MachineRule job (control_row job (at (Run c ∷ rest) Line) o)) (same_Some (Mark (Begin (suc d))) op is)
      (begin_keeps job ok.job' ws d c rest request copies order cpus past
      (has-room job ok)
      (has_waited job ok ws d request copies order cpus past c rest (passes (Run c ∷ rest) Line k) k) k)

  module _ (remaining : List Ctl) where
    abbrev Row : Position → WordOp → Type 0
    Row p op = MachineRule job (control_row job (world ws d remaining request copies order cpus past p) op)

    row : (p : Position) (x op : WordOp) → Some x ≡ Some op → Row p x → Row p op
    row p x op is r = subst (λ o. Row p o) (same_Some x op is) r

    by_place : (p : Position) (op : WordOp) → MachineRule job (at remaining p)
        → next_in job (at remaining p).control p ≡ Some op → Row p op
    by_place Line op k is = by_line remaining op k is
    by_place Take op k is = row Take
        (Store (Tramp (slot_of (state_of job (suc d) (subject job d)).slot)) (tramp_word (state_of job (suc d) (subject job d)).reg (subject job d))) op is
        (take_keeps job ok.job' ws d remaining request copies order cpus past k)
    by_place (Copy h w) op k is = row (Copy h w) (Store (Bits (subject job d) (other_copy (copies (subject job d))) h w)
        (set_word (state_of job (suc d) (subject job d)) h w)) op is (copy_keeps job ws d remaining request copies order cpus past h w k)
    by_place Select op k is = row Select
        (Store (Sel (subject job d)) (sel_of (state_of job (suc d) (subject job d)) (copy_after (effect job d) (copies (subject job d))))) op is
        (select_keeps job ok.job' ws d remaining request copies order cpus past k)
    by_place Push op k is = row Push (Store (Link (subject job d)) (name_of order)) op is
        (push_keeps job ok.job' ws d remaining request copies cpus past order k)
    by_place Relink op k is = row Relink (relink_op (effect job d) (subject job d) order) op is
        (relink_keeps job ok.job' ws d remaining request copies cpus past order k)
    by_place StorePids op k is = row StorePids (Store Pids (mask_of (desk job (suc d)) (length job.tasks))) op is
        (pids_keeps job ok.job' ws d remaining request copies order cpus past k)
    by_place StoreDepth op k is = row StoreDepth (Store Depth (desk job (suc d)).depth) op is
        (depth_keeps job ok.job' ws d remaining request copies order cpus past k)
    by_place (Patch w x rest) op k is = row (Patch w x rest) (Store w x) op is (patch_keeps job d remaining copies order cpus past ws request w x rest k)
    by_place (Ask whom) op k is = row (Ask whom) (Store Want (suc request)) op is (ask_keeps job d remaining copies order cpus past ws request whom k)
    by_place (Await whom n) op k is = row (Await whom n) (Load (awaited_word (is_for_tasks whom) n)) op is
        (await_keeps job d remaining copies order cpus past ws request whom n k)
    by_place Release op k is = row Release (Store (Tramp (slot_of (state_of job d (subject job d)).slot)) 0) op is
        (release_keeps job ok.job' ws d remaining request copies order cpus past k)
    by_place Close op k is = row Close (Mark (Return (suc d) (answer_in job d (command job d)))) op is
        (close_keeps job ok ws d remaining request copies order cpus past
        (has-room job ok) k)

-- any row of control
pub control_keeps : (job : Job) → IsWordJob job → (s : World) (op : WordOp) → MachineRule job s
    → control_next job s.control ≡ Some op → MachineRule job (control_row job s op)
unfolding control_next
control_keeps job ok s op k is =
    by_place job ok s.words s.control.commands_done s.control.request s.control.copies s.control.order s.cpus s.past s.control.remaining s.control.position op k is
