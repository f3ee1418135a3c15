use Rattle.std.proofs.lemmas.Bool.{iff_false}
use Rattle.history_check.proofs.past.Past.first_broken.Goals as goal

pub returns-then-not-keeps_callbacks : goal.returns-then-not-keeps_callbacks
returns-then-not-keeps_callbacks c = λ job past is run.
    let at = c.top-top.ensures job past past is run in
    record { kept = (run, tt); broken = iff_false (c.keeps_callbacks.ensures job past is at) c.if-not-keeps_callbacks.true }

pub returns-then-not-keeps_silence : goal.returns-then-not-keeps_silence
returns-then-not-keeps_silence c = λ job past is run.
    let at = c.top-top.ensures job past past is run in
    let callbacks = (c.keeps_callbacks.ensures job past is at).0 c.if-not-keeps_callbacks.false in
    record { kept = (run, (callbacks, tt)); broken = iff_false (c.keeps_silence.ensures job past is at) c.if-not-keeps_silence.true }

pub returns-then-not-keeps_refusals : goal.returns-then-not-keeps_refusals
returns-then-not-keeps_refusals c = λ job past is run.
    let at = c.top-top.ensures job past past is run in
    let callbacks = (c.keeps_callbacks.ensures job past is at).0 c.if-not-keeps_callbacks.false in
    let silence = (c.keeps_silence.ensures job past is at).0 c.if-not-keeps_silence.false in
    record { kept = (run, (callbacks, (silence, tt))); broken = iff_false (c.keeps_refusals.ensures job past is at) c.if-not-keeps_refusals.true }

pub returns-then-not-keeps_exits : goal.returns-then-not-keeps_exits
returns-then-not-keeps_exits c = λ job past is run.
    let at = c.top-top.ensures job past past is run in
    let callbacks = (c.keeps_callbacks.ensures job past is at).0 c.if-not-keeps_callbacks.false in
    let silence = (c.keeps_silence.ensures job past is at).0 c.if-not-keeps_silence.false in
    let refusals = (c.keeps_refusals.ensures job past is at).0 c.if-not-keeps_refusals.false in
    record { kept = (run, (callbacks, (silence, (refusals, tt)))); broken = iff_false (c.keeps_exits.ensures job past is at) c.if-not-keeps_exits.true }

pub returns-then-not-keeps_fetches : goal.returns-then-not-keeps_fetches
returns-then-not-keeps_fetches c = λ job past is run.
    let at = c.top-top.ensures job past past is run in
    let callbacks = (c.keeps_callbacks.ensures job past is at).0 c.if-not-keeps_callbacks.false in
    let silence = (c.keeps_silence.ensures job past is at).0 c.if-not-keeps_silence.false in
    let refusals = (c.keeps_refusals.ensures job past is at).0 c.if-not-keeps_refusals.false in
    let exits = (c.keeps_exits.ensures job past is at).0 c.if-not-keeps_exits.false in
    record { kept = (run, (callbacks, (silence, (refusals, (exits, tt))))); broken = iff_false (c.keeps_fetches.ensures job past is at) c.if-not-keeps_fetches.true }

pub returns-then-not-keeps_commands : goal.returns-then-not-keeps_commands
returns-then-not-keeps_commands c = λ job past is run.
    let at = c.top-top.ensures job past past is run in
    let callbacks = (c.keeps_callbacks.ensures job past is at).0 c.if-not-keeps_callbacks.false in
    let silence = (c.keeps_silence.ensures job past is at).0 c.if-not-keeps_silence.false in
    let refusals = (c.keeps_refusals.ensures job past is at).0 c.if-not-keeps_refusals.false in
    let exits = (c.keeps_exits.ensures job past is at).0 c.if-not-keeps_exits.false in
    let fetches = (c.keeps_fetches.ensures job past is at).0 c.if-not-keeps_fetches.false in
    record { kept = (run, (callbacks, (silence, (refusals, (exits, (fetches, tt)))))); broken = iff_false (c.keeps_commands.ensures job past is) c.if-not-keeps_commands.true }

pub returns : goal.returns
returns c = λ job past is run.
    let at = c.top-top.ensures job past past is run in
    let callbacks = (c.keeps_callbacks.ensures job past is at).0 c.if-not-keeps_callbacks.false in
    let silence = (c.keeps_silence.ensures job past is at).0 c.if-not-keeps_silence.false in
    let refusals = (c.keeps_refusals.ensures job past is at).0 c.if-not-keeps_refusals.false in
    let exits = (c.keeps_exits.ensures job past is at).0 c.if-not-keeps_exits.false in
    let fetches = (c.keeps_fetches.ensures job past is at).0 c.if-not-keeps_fetches.false in
    let commands = (c.keeps_commands.ensures job past is).0 c.if-not-keeps_commands.false in
    record { run = run; callbacks = callbacks; silence = silence; refusals = refusals; exits = exits; fetches = fetches; commands = commands }
