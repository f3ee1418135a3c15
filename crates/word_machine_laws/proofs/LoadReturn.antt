-- The load of a user's state at a return.
use Rattle.std.proofs.Common.{◌≡◌, ℕ, suc, ◌≤◌, Bool, true, false, List, [], ◌∷◌, refl, sym, ◌∙◌, arith}
use Rattle.ft_base.specs.declared.item.Item.{Item}
use Rattle.ft_base.specs.Job.{Job}
use Rattle.ft_base.specs.Desk.{desk, is_live}
use Rattle.ft_hist.specs.Past.{begun, done_at_leave}
use Rattle.ft_hist.specs.Frames.{FrameUser}
use Rattle.ft_hist.proofs.Exits.{exits-dead}
use Rattle.word_map.specs.Contents.{stands}
use Rattle.word_machine.specs.Commands.{state_of}
use Rattle.word_machine.specs.Task.{OpenCall, exit_in, next_exit}
use Rattle.word_machine.specs.Progress.{selected, desk_by}
use Rattle.word_machine.specs.HashCopies.{HashCopies}
use Rattle.word_machine.specs.Verdicts.{Here}
use Rattle.word_machine.specs.Calls.{CallAt, Leaves}
use Rattle.word_machine.specs.Rule.{Counts, IsWordJob}
use Rattle.word_machine_laws.proofs.VerdictLaws.{selected-underway}
use Rattle.word_machine.proofs.Small.{if_case}
use Rattle.word_machine_laws.proofs.Contents.{stands-live}
use Rattle.word_machine_laws.proofs.LoadFetch.{begun-low, begun-high}
use Rattle.word_machine_laws.proofs.LoadTests.{seen-desk}

module _ (job : Job) (ok : IsWordJob job) (h : Here) (past : List Item) (clock : ℕ) (counts : Counts h.d h.p clock past) where
  module _ (ack q : ℕ) (c : OpenCall) (below : List OpenCall) where
    next_kept : (rest : List FrameUser) → Leaves job past h.d c rest → CallAt job h past ack q c below (next_exit rest)
    next_kept [] x = x
    next_kept (m ∷ rest) x = x

    -- the exit comes next, or its registration is not live
    pub exit_kept : (m : FrameUser) (rest : List FrameUser) (sel : ℕ → ℕ) → HashCopies job h.d h.p h.copies sel h.bits → Leaves job past h.d c (m ∷ rest)
        → CallAt job h past ack q c below (exit_in (stands (sel m.user) m.reg) m rest)
    exit_kept m rest sel sets x = by (stands (sel m.user) m.reg) refl
      where
        k : ℕ
        k = desk_by (selected h.p) h.d

        is : stands (sel m.user) m.reg ≡ is_live (desk job (desk_by (selected h.p) h.d)) m.user m.reg
        is = stands-live job (state_of job (desk_by (selected h.p) h.d) m.user) (sel m.user) (h.copies m.user) m.reg (h.bits m.user) (sets.small m.user)
            (sets.sels m.user)

        low : done_at_leave c.call past ≤ desk_by (selected h.p) h.d
        low = (let l = x.leave in if_case (λ n. done_at_leave c.call past ≤ n) (selected h.p) (suc h.d) h.d (λ e. omega (arith, l)) (λ e. l))

        up : desk_by (selected h.p) h.d ≤ begun past
        up = if_case (λ n. n ≤ begun past) (selected h.p) (suc h.d) h.d (λ e. begun-high job ok h past clock counts (selected-underway h.p e))
            (λ e. begun-low job ok h past clock counts)

        by : (b : Bool) → stands (sel m.user) m.reg ≡ b → CallAt job h past ack q c below (exit_in b m rest)
        by true e = (x, seen-desk job ok h past clock counts ack q c below (selected h.p) (λ n. is_live (desk job n) m.user m.reg ≡ true) (sym is ∙ e))
        by false e = next_kept rest record {
          dispatched = x.dispatched;
          ms = x.ms;
          so = exits-dead job c.call x.ms m rest past (
            desk_by (selected h.p) h.d,
            low,
            up,
            sym is ∙ e,
          ) x.so;
          leave = x.leave;
        }
