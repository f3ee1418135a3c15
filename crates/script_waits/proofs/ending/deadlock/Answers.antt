use Rattle.std.proofs.Common.{◌≡◌, ◌≤◌, ◌<◌, ◌∙◌, refl, ℕ, [], List, length, map, get_or, sym, ap, subst, arith, replicate, rules, true, false, slice_get}
use Rattle.std.specs.Vec.{with_items}
use Rattle.std.proofs.lemmas.List.{with_items_is}
use Rattle.std.proofs.Math.ListN.{length-replicate}
use Rattle.script_waits.specs.declared.script.ControlLine.{ControlLine}
use Rattle.script_waits.specs.Tasks.{lined_task, tracks_of}
use Rattle.script_waits.specs.Greedy.{Reaches, Waits, IsLeast, start, passes_act, passes_line}
use Rattle.script_waits.proofs.Runs.{control-to, zeros-at, length-tracks}
use Rattle.script_waits.proofs.ending.deadlock.Goals as goal

pub loop-place-init : goal.loop-place-init
loop-place-init c =
    let tracks = tracks_of (map lined_task c.args.tasks.now) in
    let zeros : c.in_ok-at.at.items ≡ replicate (length c.args.tasks.now) 0 = c.in_ok-at.ensures.items_if_clones_equal (search rules) in
    let count : length tracks ≡ length c.args.tasks.now = length-tracks c.args.tasks.now in
    record {
      lengths = ap length zeros ∙ length-replicate {A = ℕ} (length c.args.tasks.now) 0;
      within = λ k. subst (λ xs. get_or xs k 0 ≤ length (get_or tracks k [])) (sym zeros) (rw (zeros-at (length c.args.tasks.now) k) (omega arith));
      inside = omega arith;
      few = omega arith;
      counted = refl;
      reached = subst (λ xs. Reaches tracks c.args.control.now (record { acts = xs; lines = 0 })) (ap (λ n. replicate n 0) count ∙ sym zeros) start;
    }

pub loop-place-preserved : goal.loop-place-preserved
loop-place-preserved c =
    let tracks = tracks_of (map lined_task c.args.tasks.now) in
    let lines : List ControlLine = c.args.control.now in
    let inv = c.loop-place.invariant in
    let go = c.go_control-next.ensures in
    let items : (with_items c.loop-place.at c.go_tasks.new.at).items ≡ c.go_tasks.new.at = with_items_is c.loop-place.at c.go_tasks.new.at (omega (arith, c.go_tasks.auto.at, c.as_mut_slice.ensures.len, c.loop-place.at.ok.0)) in
    let before = subst (λ xs. Reaches tracks lines (record { acts = xs; lines = c.loop-place.place.lines })) (sym c.as_mut_slice.ensures.value) inv.reached in
    let tasks_done = c.go_tasks.ensures.reached lines c.loop-place.place.lines inv.counted before in
    let passed = subst (λ xs. (k : ℕ) → c.loop-place.place.lines ≤ k → k < c.go_control-next.result.lines → passes_line xs (slice_get lines k) ≡ true) (c.as_slice.ensures.value ∙ items) go.passed in
    let reached = control-to tracks lines c.go_tasks.new.at c.loop-place.place.lines c.go_control-next.result.lines go.up passed tasks_done in
    record {
      lengths = ap length items ∙ (omega (arith, c.go_tasks.auto.at, c.as_mut_slice.ensures.len, c.loop-place.at.ok.0, inv.lengths));
      within = subst (λ xs. (k : ℕ) → get_or xs k 0 ≤ length (get_or tracks k [])) (sym items) c.go_tasks.ensures.within;
      inside = go.within;
      few = go.few;
      counted = go.counted;
      reached = subst (λ xs. Reaches tracks lines (record { acts = xs; lines = c.go_control-next.result.lines })) (sym items) reached;
    }

pub returns : goal.returns
returns c =
    let tracks = tracks_of (map lined_task c.args.tasks.now) in
    let lines : List ControlLine = c.args.control.now in
    let inv = c.loop-place.invariant in
    let go = c.go_control-next.ensures in
    let items : (with_items c.loop-place.at c.go_tasks.new.at).items ≡ c.go_tasks.new.at = with_items_is c.loop-place.at c.go_tasks.new.at (omega (arith, c.go_tasks.auto.at, c.as_mut_slice.ensures.len, c.loop-place.at.ok.0)) in
    let at : List ℕ = c.go_tasks.new.at in
    let before = subst (λ xs. Reaches tracks lines (record { acts = xs; lines = c.loop-place.place.lines })) (sym c.as_mut_slice.ensures.value) inv.reached in
    let acts = c.as_slice.ensures.value ∙ items in
    record {
      passed = record { acts = at; lines = c.loop-place.place.lines };
      greatest = record {
        reached = c.go_tasks.ensures.reached lines c.loop-place.place.lines inv.counted before;
        tasks = λ t. subst (λ n. passes_act n (slice_get (get_or tracks t []) (get_or at t 0)) ≡ false) inv.counted (c.go_tasks.ensures.stops t);
        control = subst (λ n. passes_line at (slice_get lines n) ≡ false) c.if-next-place.true (subst (λ xs. passes_line xs (slice_get lines c.go_control-next.result.lines) ≡ false) acts go.stops);
      };
      least = subst (λ xs. IsLeast (Waits tracks lines (record { acts = xs; lines = c.loop-place.place.lines })) c.lowest.result) (c.as_slice-2.ensures.value ∙ items) c.lowest.ensures;
    }
