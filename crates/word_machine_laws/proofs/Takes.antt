-- Each value that a task would load next fits its step, as the code that makes the steps asks it.
use Rattle.std.proofs.Common.{◌≡◌, ◌⊎◌, ℕ, suc, ◌<◌, ◌≤◌, List, sym, subst, arith, inl, inr}
use Rattle.ft_base.specs.Job.{Job, funcs}
use Rattle.ft_hist.specs.Past.{done, begun}
use Rattle.word_map.specs.Contents.{low}
use Rattle.word_map.specs.Instructions.{decode}
use Rattle.word_machine.specs.Commands.{insn}
use Rattle.word_machine.specs.Task.{OpenCall, Moment, GotHead, GotBreak, InTramp, AtFirst, AtLink}
use Rattle.word_machine.specs.Machine.{World}
use Rattle.word_machine.specs.Sites.{stage}
use Rattle.word_machine.specs.Rule.{MachineRule, here, IsWordJob}
use Rattle.word_machine.specs.Laws.{IsAt, Takes}
use Rattle.word_machine_laws.proofs.Contents.{decode_own}
use Rattle.word_machine_laws.proofs.DispatchValues.{tail_fits, next_fits, tramp_fits, first_fits, link_fits}
use Rattle.word_machine_laws.proofs.Settled.{has_begun}
use Rattle.word_machine_laws.proofs.OpenCalls.{task-rule, call-rule}

module _ (job : Job) (ok : IsWordJob job) (s : World) (kept : MachineRule job s) (c t : ℕ) (top : OpenCall) (below : List OpenCall) where
  -- the targets, in control's words and in the history's
  in_past : (i : ℕ) → top.func < funcs job
      → (i ≡ insn job s.control.commands_done top.func)
      ⊎ ((8 ≤ stage job s.control.commands_done s.control.position top.func) × (i ≡ insn job (suc s.control.commands_done) top.func))
      → (i ≡ insn job (done s.past) top.func) ⊎ (i ≡ insn job (begun s.past) top.func)
  in_past i inside (inl e) = inl (subst (λ d. i ≡ insn job d top.func) (sym kept.counts.returned) e)
  in_past i inside (inr x) =
      let le = x.0 in inr (subst (λ d. i ≡ insn job d top.func) (sym (has_begun job s kept top.func inside (omega (arith, le)))) x.1)

  pub takes : (m : Moment) → IsAt job s c t top below m → Takes job s top m
  takes (GotHead byte) at' =
      let k = call-rule job s kept c t top below (GotHead byte) at' in
      let inside = k.0.inside in
      let few = ok.sites in
      let x = tail_fits job ok (here s kept.base) s.past s.words.clock kept.counts kept.legal (s.words.ack c) (low (s.words.quiet t)) top below s.words.want
      s.words.head s.words.tail s.words.next kept.sites k.0.inside byte k.1 in (
        x.0,
        (in_past x.0 inside x.1, x.4),
        x.2,
        x.3,
        subst (λ (q : ℕ × ℕ). decode top.func q.0 q.1 ≡ x.0) (λ j. (sym x.2 j, sym x.3 j)) (decode_own top.func x.0 (omega (arith, inside, few))),
      )
  takes GotBreak at' =
      let k = call-rule job s kept c t top below GotBreak at' in
      let x = next_fits job ok (here s kept.base) s.past s.words.clock kept.counts kept.legal (s.words.ack c) (low (s.words.quiet t)) top below s.words.want
      s.words.head s.words.tail s.words.next kept.sites k.0.inside k.1 in
      let inside = k.0.inside in
      let at-site = k.1.at.1.0 in (
        inr (subst (λ d. s.words.next top.func ≡ insn job d top.func) (sym (has_begun job s kept top.func inside (omega (arith, at-site)))) x.0),
        x.1,
      )
  takes (InTramp slot) at' =
      let k = call-rule job s kept c t top below (InTramp slot) at' in
      tramp_fits job ok (here s kept.base) s.past s.words.clock kept.counts kept.legal (s.words.ack c) (low (s.words.quiet t)) top below slot t s.words.tramp
      kept.tramps (task-rule job s kept c t top below (InTramp slot) at').reached k.1
  takes AtFirst at' =
      let k = call-rule job s kept c t top below AtFirst at' in
      first_fits job ok (here s kept.base) s.past s.words.clock kept.counts kept.legal (s.words.ack c)
      (low (s.words.quiet t)) top below s.words.first kept.list k.1
  takes (AtLink u) at' =
      let k = call-rule job s kept c t top below (AtLink u) at' in
      link_fits job ok (here s kept.base) s.past s.words.clock kept.counts kept.legal (s.words.ack c)
      (low (s.words.quiet t)) top below u s.words.first kept.list k.1
  takes _ at' = tt
