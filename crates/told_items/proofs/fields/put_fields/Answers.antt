use Rattle.std.proofs.Common.{List, ℕ, [], ◌∷◌, ◌++◌, ap, ◌∙◌, codes}
use Rattle.std.specs.Prelude.{Option}
use Rattle.std.specs.Fmt.{decimal}
use Rattle.ft_io.proofs.PieceLaws.{puts-none, puts-then, puts-equal}
use Rattle.trace_views.specs.LogText.{reason_word}
use Rattle.trace_views.specs.Words.{function_word}
use Rattle.told_items.specs.Fields.{fields_text, number, text}
use Rattle.told_items.specs.ItemText.{answer_fields, call_fields, call_with, caller_field, entered_fields, lane_fields, lost_fields, ran_fields, visit_with}
use Rattle.told_items.proofs.FieldTexts.{after, fields-then, text-is, three}
use Rattle.told_items.proofs.fields.put_fields.Goals as goal

pub returns-in-Begin : goal.returns-in-Begin
returns-in-Begin g c = rw c.in-Begin.is (puts-equal (ap (λ (lane : Option ℕ). (codes ", \"item\": \"begin\", \"command\": " ++ decimal c.in-Begin.k) ++ fields_text (lane_fields lane)) c.lane.ensures)
    (puts-then c.put_named.ensures c.put_lane.ensures))

pub returns-in-Return : goal.returns-in-Return
returns-in-Return g c =
    let job = g.N.Named.job c.args.names.now in
    rw c.in-Return.is (puts-equal (ap (λ (lane : Option ℕ). (codes ", \"item\": \"return\", \"command\": " ++ decimal c.in-Return.k) ++ (fields_text (lane_fields lane) ++ fields_text (answer_fields job c.in-Return.answer))) c.lane-in-Return.ensures
    ∙ ap (λ (t : List ℕ). (codes ", \"item\": \"return\", \"command\": " ++ decimal c.in-Return.k) ++ t) (fields-then _ (answer_fields job c.in-Return.answer)))
    (puts-then c.put_named-in-Return.ensures (puts-then c.put_lane-in-Return.ensures c.put_answer.ensures)))

pub returns-in-Enter : goal.returns-in-Enter
returns-in-Enter g c =
    let job = g.N.Named.job c.args.names.now in
    rw c.in-Enter.is (puts-equal (three (codes ", \"item\": \"enter\"") (call_fields job c.in-Enter.call) (entered_fields job c.in-Enter.ctx c.in-Enter.func.0) (caller_field job c.in-Enter.caller ∷ []))
    (puts-then c.put.ensures (puts-then c.put_called.ensures (puts-then c.put_opened.ensures (puts-then c.put_caller.ensures (puts-none _ _))))))

pub returns-in-Refuse : goal.returns-in-Refuse
returns-in-Refuse g c =
    let job = g.N.Named.job c.args.names.now in
    rw c.in-Refuse.is (puts-equal (after (codes ", \"item\": \"refuse\"") (visit_with job c.args.told.now.calls.items c.in-Refuse.call c.in-Refuse.user.0) (text (codes "reason") (reason_word c.in-Refuse.reason) ∷ []))
    (puts-then c.put_visit-in-Refuse.ensures (puts-then (puts-equal (text-is (codes ", \"reason\": \"") c.reason_name.ensures) c.put_text.ensures) (puts-none _ _))))

pub returns-in-Body : goal.returns-in-Body
returns-in-Body g c =
    let job = g.N.Named.job c.args.names.now in
    rw c.in-Body.is (puts-equal (after (codes ", \"item\": \"body\"") (call_with job c.args.told.now.calls.items c.in-Body.call) (text (codes "body") (function_word job c.in-Body.func.0) ∷ ran_fields job c.in-Body.ran))
    (puts-then c.put_told_call.ensures (puts-then (puts-equal (text-is (codes ", \"body\": \"") c.function.ensures) c.put_text-in-Body.ensures) c.put_ran.ensures)))

pub returns-in-Exit : goal.returns-in-Exit
returns-in-Exit g c =
    let job = g.N.Named.job c.args.names.now in
    rw c.in-Exit.is (puts-equal (after (codes ", \"item\": \"exit\"") (visit_with job c.args.told.now.calls.items c.in-Exit.call c.in-Exit.user.0) (number (codes "entry") c.in-Exit.entry ∷ []))
    (puts-then c.put_visit-in-Exit.ensures (puts-then c.put_named-in-Exit.ensures (puts-none _ _))))

pub returns-in-Ret : goal.returns-in-Ret
returns-in-Ret g c =
    let job = g.N.Named.job c.args.names.now in
    rw c.in-Ret.is (puts-equal (after (codes ", \"item\": \"ret\"") (call_with job c.args.told.now.calls.items c.in-Ret.call) (caller_field job c.in-Ret.to ∷ lost_fields c.in-Ret.call c.args.told.now.exits.items))
    (puts-then c.put_told_call-in-Ret.ensures (puts-then c.put_caller-in-Ret.ensures c.put_lost.ensures)))

pub returns-in-Back : goal.returns-in-Back
returns-in-Back g c = rw c.in-Back.is c.put_visit.ensures

pub returns-in-BackEnd : goal.returns-in-BackEnd
returns-in-BackEnd g c = rw c.in-BackEnd.is c.put_visit-in-BackEnd.ensures

pub returns-in-Miss : goal.returns-in-Miss
returns-in-Miss g c = rw c.in-Miss.is c.put_visit-in-Miss.ensures

pub returns-in-Leave : goal.returns-in-Leave
returns-in-Leave g c = rw c.in-Leave.is c.put_told_call-in-Leave.ensures

pub returns-in-ExitEnd : goal.returns-in-ExitEnd
returns-in-ExitEnd g c = rw c.in-ExitEnd.is c.put_visit-in-ExitEnd.ensures
