-- Each value that a CPU's next operation gives fits it.
use Rattle.std.proofs.Common.{cond, ◌≡◌, ◌⊎◌, ℕ, zero, suc, ◌<◌, ◌≤◌, Bool, true, false, List, [], ◌∷◌, length, Some, inl, inr, refl, sym, subst, arith}
use Rattle.std.proofs.lemmas.Option.{same_Some}
use Rattle.ft_base.specs.Job.{Job}
use Rattle.ft_hist.specs.Past.{done, begun}
use Rattle.site_bytes.specs.Bytes.{breakpoint}
use Rattle.word_map.specs.Words.{Want}
use Rattle.word_map.specs.Contents.{greatest_half, low}
use Rattle.word_map.specs.Instructions.{head_of}
use Rattle.word_machine.specs.Commands.{insn}
use Rattle.word_map.specs.Ops.{WordOp, Load}
use Rattle.word_machine.specs.Task.{OpenCall, TaskState, Moment, Polling, First, Fetch, GotHead, GotBreak, InTramp, AtFirst, Calling, AtLink, call_op, stack_op}
use Rattle.word_machine.specs.Cpu.{Phase, Going, Looked, Answering, StoringAck, StoringQuiet, Over, any_has_more, looks, present_op, going_op, phase_op, cpu_next}
use Rattle.word_machine.specs.Machine.{World, taken}
use Rattle.word_machine.specs.Rule.{MachineRule, here, IsWordJob}
use Rattle.word_machine.specs.Laws.{HasTarget, OpenAt, IsAt, Names, CallTakes, StackTakes, PresentTakes, GoingTakes, LookTakes, PhaseTakes, CpuTakes}
use Rattle.word_machine_laws.proofs.Settled.{settled}
use Rattle.word_machine_laws.proofs.OpenCalls.{call-rule}
use Rattle.word_machine_laws.proofs.PollRows.{request-small}
use Rattle.word_machine_laws.proofs.Takes.{takes}
use Rattle.word_machine_laws.proofs.FrameRoom.{call-room}

head-small : (i : ℕ) → head_of i < 256
head-small zero = omega arith
head-small (suc zero) = omega arith
head-small (suc (suc s)) = omega arith

module _ (job : Job) (ok : IsWordJob job) (s : World) (k : MachineRule job s) (c t : ℕ) (top : OpenCall) (below : List OpenCall) where
  -- a site's first byte is a byte
  byte-small : (f d b : ℕ) → (s.words.head f ≡ breakpoint) ⊎ (HasTarget job s.words f d ⊎ HasTarget job s.words f b) → s.words.head f < 256
  byte-small f d b (inl e) = omega (arith, e)
  byte-small f d b (inr (inl x)) = (let e = x.0 in let h = head-small (insn job d f) in omega (arith, e, h))
  byte-small f d b (inr (inr x)) = (let e = x.0 in let h = head-small (insn job b f) in omega (arith, e, h))

  named : (w : ℕ) → Names job s top w → w ≤ length job.users
  named w (inl e) = omega (arith, e)
  named w (inr x) = (let e = x.1 in let lt = x.2 in omega (arith, e, lt))

  call-takes : (x : TaskState) (m : Moment) → IsAt job s c t top below m → (op : WordOp) → call_op x top below m ≡ Some op → CallTakes job top m (taken op s.words)
  call-takes x Fetch at' op is =
      let inside = (call-rule job s k c t top below Fetch at').0.inside in
      subst (λ o. taken o s.words < 256) (same_Some _ op is) (byte-small top.func (done s.past) (begun s.past) (settled job s k top.func inside).whole)
  call-takes x (GotHead byte) at' op is =
      let y = takes job ok s k c t top below (GotHead byte) at' in
      subst (λ o. CallTakes job top (GotHead byte) (taken o s.words)) (same_Some _ op is) (y.0, y.1.1, y.2, y.3)
  call-takes x GotBreak at' op is =
      subst (λ o. CallTakes job top GotBreak (taken o s.words)) (same_Some _ op is) (takes job ok s k c t top below GotBreak at').1
  call-takes x (InTramp slot) at' op is =
      subst (λ o. CallTakes job top (InTramp slot) (taken o s.words)) (same_Some _ op is) (takes job ok s k c t top below (InTramp slot) at')
  call-takes x AtFirst at' op is =
      subst (λ o. CallTakes job top AtFirst (taken o s.words)) (same_Some _ op is) (named s.words.first (takes job ok s k c t top below AtFirst at'))
  call-takes x (Calling u reg) at' op is =
      call-room job ok (here s k.base) s.past s.words.clock k.counts k.legal k.list.order' (s.words.ack c) (low (s.words.quiet t)) top below u reg
      (call-rule job s k c t top below (Calling u reg) at').1
  call-takes x (AtLink u) at' op is =
      subst (λ o. CallTakes job top (AtLink u) (taken o s.words)) (same_Some _ op is) (named (s.words.link u) (takes job ok s k c t top below (AtLink u) at'))
  call-takes x _ at' op is = tt

module _ (job : Job) (ok : IsWordJob job) (s : World) (k : MachineRule job s) (c : ℕ) (inside : c < length job.quanta) where
  want-small : s.words.want < greatest_half
  want-small = let a = request-small job ok s k in let b = k.sites.want in omega (arith, a, b)

  stack-takes : (x : TaskState) (stack : List OpenCall) (m : Moment) → (any_has_more job (s.cpus c) ≡ true)
      → ((s.cpus c).tasks (s.cpus c).present).moment ≡ m → ((s.cpus c).tasks (s.cpus c).present).stack ≡ stack
      → (op : WordOp) → stack_op x stack m ≡ Some op → StackTakes job stack m (taken op s.words)
  stack-takes x [] m goes at' st op is = tt
  stack-takes x (top ∷ below) m goes at' st op is =
      call-takes job ok s k c (s.cpus c).present top below x m (record {
        inside = inside;
        on = ((k.cpus c inside).present goes).0;
        call = subst (λ (y : Moment × List OpenCall). OpenAt y.0 y.1 m top below) (λ i. (sym at' i, sym st i)) (inl (refl, refl, refl));
      }) op is

  present-takes : (m : Moment) → any_has_more job (s.cpus c) ≡ true → ((s.cpus c).tasks (s.cpus c).present).moment ≡ m → (op : WordOp)
      → present_op (s.cpus c) m ≡ Some op → PresentTakes job ((s.cpus c).tasks (s.cpus c).present) m (taken op s.words)
  present-takes Polling goes at' op is = subst (λ o. taken o s.words < greatest_half) (same_Some _ op is) want-small
  present-takes First goes at' op is = tt
  present-takes m goes at' op is =
      let x = (s.cpus c).tasks (s.cpus c).present in stack-takes x x.stack m goes at' refl op is

  going-takes : (op : WordOp) → going_op job (s.cpus c) ≡ Some op → GoingTakes job (s.cpus c) (any_has_more job (s.cpus c)) (taken op s.words)
  going-takes op is = by (any_has_more job (s.cpus c)) refl is
    where
      by : (b : Bool) → any_has_more job (s.cpus c) ≡ b
          → cond b (present_op (s.cpus c) ((s.cpus c).tasks (s.cpus c).present).moment) (Some (Load Want)) ≡ Some op
          → GoingTakes job (s.cpus c) b (taken op s.words)
      by true goes is = present-takes ((s.cpus c).tasks (s.cpus c).present).moment goes refl op is
      by false goes is = subst (λ o. taken o s.words < greatest_half) (same_Some _ op is) want-small

  phase-takes : (p : Phase) (op : WordOp) → phase_op job (s.cpus c) p ≡ Some op → PhaseTakes job (s.cpus c) p (taken op s.words)
  phase-takes Going op is = by (looks job (s.cpus c)) is
    where
      by : (b : Bool) → cond b (Some (Load Want)) (going_op job (s.cpus c)) ≡ Some op → LookTakes job (s.cpus c) b (taken op s.words)
      by true is = subst (λ o. taken o s.words < greatest_half) (same_Some _ op is) want-small
      by false is = going-takes op is
  phase-takes Looked op is = going-takes op is
  phase-takes (Answering r) op is = tt
  phase-takes (StoringAck r) op is = tt
  phase-takes (StoringQuiet r t) op is = tt
  phase-takes Over op is = tt

  pub cpu-takes : (op : WordOp) → cpu_next job (s.cpus c) ≡ Some op → CpuTakes job (s.cpus c) (taken op s.words)
  unfolding cpu_next
  cpu-takes op is = phase-takes (s.cpus c).phase op is
