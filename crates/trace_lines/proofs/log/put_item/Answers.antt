use Rattle.std.proofs.Common.{◌∷◌, ◌++◌, ◌∙◌, ap, codes}
use Rattle.std.specs.Fmt.{decimal}
use Rattle.ft_io.proofs.PieceLaws.{puts-then, puts-equal}
use Rattle.trace_views.specs.Words.{function_word, user_word}
use Rattle.trace_views.specs.LogText.{call_word, caller_word, context_word, lane_words, joined, reason_word}
use Rattle.trace_lines.proofs.LogLines.{context-more, joined-ran, joined-answer, visit-more}
use Rattle.trace_lines.proofs.log.put_item.Goals as goal

pub returns-in-Begin : goal.returns-in-Begin
returns-in-Begin g c = rw c.in-Begin.is (puts-equal (ap (λ lane. codes " " ++ joined (codes "begin" ∷ decimal c.in-Begin.k ∷ lane_words lane)) c.lane.ensures) c.put_begin.ensures)

pub returns-in-Return : goal.returns-in-Return
returns-in-Return g c = rw c.in-Return.is (puts-then c.put.ensures
    (puts-equal (joined-answer (g.N.Named.job c.args.names.now) (decimal c.in-Return.k) c.in-Return.answer)
    (puts-then c.put_number.ensures (puts-then c.put-in-Return.ensures c.put_answer.ensures))))

pub returns-in-Enter : goal.returns-in-Enter
returns-in-Enter g c = rw c.in-Enter.is (puts-then c.put-in-Enter.ensures (puts-then c.put_known.ensures
    (puts-equal (context-more (context_word c.in-Enter.ctx) (function_word (g.N.Named.job c.args.names.now) c.in-Enter.func.0 ++ (codes " " ++ caller_word (g.N.Named.job c.args.names.now) c.in-Enter.caller)))
    (puts-then c.put_context.ensures (puts-then (puts-equal (c.as_bytes.ensures.value ∙ c.function.ensures) c.put-in-Enter-2.ensures)
    (puts-then c.put-in-Enter-3.ensures c.put_caller.ensures))))))

pub returns-in-Refuse : goal.returns-in-Refuse
returns-in-Refuse g c = rw c.in-Refuse.is (puts-equal (visit-more (codes " refuse ") (call_word (g.N.Named.job c.args.names.now) c.in-Refuse.call) (user_word (g.N.Named.job c.args.names.now) c.in-Refuse.user.0) (codes " " ++ reason_word c.in-Refuse.reason))
    (puts-then c.put_visit-in-Refuse.ensures (puts-then c.put-in-Refuse.ensures (puts-equal (c.as_bytes-in-Refuse.ensures.value ∙ c.reason_name.ensures) c.put-in-Refuse-2.ensures))))

pub returns-in-Body : goal.returns-in-Body
returns-in-Body g c = rw c.in-Body.is (puts-then c.put-in-Body.ensures (puts-then c.put_known-in-Body.ensures (puts-then c.put-in-Body-2.ensures
    (puts-equal (joined-ran (g.N.Named.job c.args.names.now) (function_word (g.N.Named.job c.args.names.now) c.in-Body.func.0) c.in-Body.ran)
    (puts-then (puts-equal (c.as_bytes-in-Body.ensures.value ∙ c.function-in-Body.ensures) c.put-in-Body-3.ensures) (puts-then c.put-in-Body-4.ensures
    (puts-equal c.ran_parts.ensures (puts-then (puts-equal c.as_bytes-in-Body-2.ensures.value c.put-in-Body-5.ensures) (puts-equal c.as_bytes-in-Body-3.ensures.value c.put-in-Body-6.ensures)))))))))

pub returns-in-Leave : goal.returns-in-Leave
returns-in-Leave g c = rw c.in-Leave.is (puts-then c.put-in-Leave.ensures c.put_known-in-Leave.ensures)

pub returns-in-Exit : goal.returns-in-Exit
returns-in-Exit g c = rw c.in-Exit.is (puts-equal (visit-more (codes " exit ") (call_word (g.N.Named.job c.args.names.now) c.in-Exit.call) (user_word (g.N.Named.job c.args.names.now) c.in-Exit.user.0) (codes " " ++ decimal c.in-Exit.entry))
    (puts-then c.put_visit-in-Exit.ensures (puts-then c.put-in-Exit.ensures c.put_number-in-Exit.ensures)))

pub returns-in-Ret : goal.returns-in-Ret
returns-in-Ret g c = rw c.in-Ret.is (puts-then c.put-in-Ret.ensures (puts-then c.put_known-in-Ret.ensures (puts-then c.put-in-Ret-2.ensures c.put_caller-in-Ret.ensures)))
