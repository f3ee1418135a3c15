-- The job of an accepted text is within the limits of scripts, since what holds above its first line goes on holding over each line that has
-- no cause.
use Rattle.std.proofs.Common.{◌≡◌, ℕ, zero, suc, ◌<◌, ◌^◌, List, [], ◌∷◌, None, refl, sym, subst, arith}
use Rattle.std.specs.Prelude.{◌⊎◌}
use Rattle.std.specs.List.{AllByRecursion as Each}
use Rattle.ft_base.proofs.Small.{Each-weaker}
use Rattle.ft_base.specs.declared.limits.TheConstants.{LANES}
use Rattle.ft_base.specs.Job.{Job}
use Rattle.ft_job.specs.Plans.{HasLanes}
use Rattle.script_text.specs.Lines.{Line, lines_of}
use Rattle.word_machine.specs.Limits.{IsLimited}
use Rattle.ft_script.specs.Above.{Above, none_above}
use Rattle.ft_script.specs.Causes.{cause_of}
use Rattle.ft_script.specs.Script.{with_line, refusal_below, refusal_of, declared_after, declared_in, job_of, IsJobOf}
use Rattle.ft_script.specs.Holds.{CanRun, LanesHold}
use Rattle.ft_script.proofs.Ends.{neither, none-refused}
use Rattle.ft_script.proofs.Lines.{HoldsAbove, line-holds, closed-at_end, none-holds}
use Rattle.ft_script.proofs.JobLaws.{limited, lanes-planned}

lines-hold : (lines : List Line) (above : Above) → refusal_below above lines ≡ None → HoldsAbove above lines → HoldsAbove (declared_after above lines) []
lines-hold [] above e h = h
lines-hold (line ∷ below) above e h =
    let c = neither above (cause_of above line below) (refusal_below (with_line above line) below) e in
    lines-hold below (with_line above line) c.1 (line-holds above line below h c.0)

pub can_run : (text : List ℕ) → refusal_of text ≡ None → CanRun (declared_in text)
can_run text accepted =
    let s = lines-hold (lines_of text) none_above (none-refused text accepted) (none-holds (lines_of text)) in
    record { holds = s.holds; closed = closed-at_end (declared_in text) s }

-- an accepted script's job
pub accepted_limited : (text : List ℕ) (job : Job) → IsJobOf text job → IsLimited job
accepted_limited text job is = subst IsLimited (sym is.meaning) (limited (declared_in text) (can_run text is.accepted))

-- its lanes have numbers of 64 bits
lanes-small : (above : Above) (count : ℕ) → LanesHold above count → Each (λ lane. lane < 2 ^ 64) (job_of above).lines.lanes
unfolding job_of
lanes-small above zero none = subst (λ (lanes : List ℕ). Each (λ lane. lane < 2 ^ 64) lanes) (sym none) tt
lanes-small above (suc last) all = Each-weaker (λ lane. lane < LANES) (λ lane. lane < 2 ^ 64) above.lanes (λ lane lt. omega (arith, lt)) all.numbers

pub accepted_lanes : (text : List ℕ) (job : Job) → IsJobOf text job → Each (λ lane. lane < 2 ^ 64) job.lines.lanes
accepted_lanes text job is =
    subst (λ (j : Job). Each (λ lane. lane < 2 ^ 64) j.lines.lanes) (sym is.meaning)
    (lanes-small (declared_in text) (declared_in text).lane_count (can_run text is.accepted).holds.lanes)

-- it has no lanes, or each line of control is a command and has one
in-lanes : (above : Above) → CanRun above → ((job_of above).lines.lanes ≡ []) ⊎ HasLanes (job_of above)
unfolding job_of
in-lanes above run = lanes-planned above run above.lane_count refl run.holds.lanes

pub accepted_in_lanes : (text : List ℕ) (job : Job) → IsJobOf text job → (job.lines.lanes ≡ []) ⊎ HasLanes job
accepted_in_lanes text job is = subst (λ (j : Job). (j.lines.lanes ≡ []) ⊎ HasLanes j) (sym is.meaning) (in-lanes (declared_in text) (can_run text is.accepted))
