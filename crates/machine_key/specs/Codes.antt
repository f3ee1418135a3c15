-- Codes of what a state of the word machine is made of, and of outcomes.
use mathlib.Core.Path.{refl}
use Rattle.ft_base.specs.declared.number.CallNo.{CallNo}
use Rattle.ft_base.specs.declared.context.Ctx.{Ctx}
use Rattle.ft_base.specs.declared.item.Ran.{Ran}
use Rattle.ft_hist.specs.Frames.{FrameUser}
use Rattle.patch_core.specs.Moves.{Move}
use Rattle.word_machine.specs.Task.{OpenCall, Moment}
use Rattle.word_machine.specs.Control.{Position}
use Rattle.word_machine.specs.Cpu.{Phase}
use Rattle.job_outcomes.specs.Outcomes.{CallTold, Outcome}
use Rattle.machine_key.specs.Codings.{Coding, number, pair, list, made_of, flag}
use Rattle.machine_key.specs.Moments.{ctx_no, ctx_at, ctx-back, moment_no, moment_as, moment_at, moment-back}
use Rattle.machine_key.specs.Cases.{Case, ran_case, ran_at, ran-same, word_case, word_at, word-same, move_parts, move_at, move-same, position_parts, position_at, position-same, phase_case, phase_at, phase-same, answer_case, answer_at, answer-same, happening_case, happening_at, happening-same}

abbrev pub case : Coding Case
case = pair number (list number)

-- ## tasks

abbrev pub ctx : Coding Ctx
ctx = made_of number ctx_no ctx_at ctx-back

abbrev pub call_no : Coding CallNo
call_no = made_of (pair number number) (λ c. (c.task.0, c.n)) (λ x. record { task = record { 0 = x.0 }; n = x.1 }) (λ c. refl)

abbrev pub ran : Coding Ran
ran = made_of case ran_case ran_at ran-same

abbrev pub frame_user : Coding FrameUser
frame_user = made_of (pair number (pair number number)) (λ m. (m.user, (m.reg, m.entry))) (λ x. record { user = x.0; reg = x.1.0; entry = x.1.1 }) (λ m. refl)

abbrev pub open_call : Coding OpenCall
open_call =
    made_of (pair call_no (pair ctx (pair number (pair flag (pair ran (pair number (pair flag (pair (list frame_user) number))))))))
    (λ c. (c.call, (c.ctx, (c.func, (c.scripted, (c.ran, (c.runs.0, (c.framed, (c.users, c.user)))))))))
    (λ x. record { call = x.0; ctx = x.1.0; func = x.1.1.0; scripted = x.1.1.1.0; ran = x.1.1.1.1.0; runs = record { 0 = x.1.1.1.1.1.0 }; framed = x.1.1.1.1.1.1.0; users = x.1.1.1.1.1.1.1.0; user = x.1.1.1.1.1.1.1.1 })
    (λ c. refl)

abbrev pub moment : Coding Moment
moment = made_of case (λ m. (moment_no m, moment_as m)) (λ x. moment_at x.0 x.1) moment-back

-- ## control

abbrev pub move : Coding Move
move = made_of (pair number (pair (made_of case word_case word_at word-same) number)) move_parts move_at move-same

abbrev pub position : Coding Position
position = made_of (pair case (list move)) position_parts position_at position-same

-- ## CPUs

abbrev pub phase : Coding Phase
phase = made_of case phase_case phase_at phase-same

-- ## outcomes

abbrev pub call_told : Coding CallTold
call_told =
    made_of (pair call_no (pair number (list (made_of case happening_case happening_at happening-same))))
    (λ c. (c.call, (c.func.0, c.happened))) (λ x. record { call = x.0; func = record { 0 = x.1.0 }; happened = x.1.1 }) (λ c. refl)

abbrev pub outcome_code : Coding Outcome
outcome_code =
    made_of (pair (list (list call_told)) (list (pair number (made_of case answer_case answer_at answer-same))))
    (λ o. (o.calls, o.refused)) (λ x. record { calls = x.0; refused = x.1 }) (λ o. refl)
