use Rattle.std.proofs.Common.{◌≡◌, ℕ, ◌+◌, ◌-◌, ◌≤◌, ◌<◌, min, List, [], ◌++◌, length, take, drop, refl, sym, ap, ◌∙◌, arith, length-take, length-drop, length-append, take-append-drop}
use Rattle.std.proofs.lemmas.List.{drop-drop, take_at, take_rest, nil_from_length}
use Rattle.ft_io.proofs.memory_source.MemSourceSource.read.Goals as goal

-- the bytes at a buffer's front were taken, and none only if none remain
gave : (remaining all buffer front : List ℕ) (at n give : ℕ) → drop at all ≡ remaining → 1 ≤ give → n ≡ min (min give (length buffer)) (length remaining) → front ≡ take n remaining
    → (remaining ≡ take n (front ++ drop n buffer) ++ drop (at + n) all) × (n ≡ 0 → 0 < length (front ++ drop n buffer) → drop (at + n) all ≡ [])
gave remaining all buffer front at n give is_remaining some count is_front =
    let long : length front ≡ n = omega (arith, ap length is_front, length-take n remaining) in
    let rest : drop (at + n) all ≡ drop n remaining = sym (drop-drop n at all) ∙ ap (drop n) is_remaining in (
      rw (take_at front (drop n buffer) n long, rest, is_front) (sym (take-append-drop n remaining)),
      λ none room.
          let fits : length (front ++ drop n buffer) ≡ length front + (length buffer - n) = rw (length-append front (drop n buffer), length-drop n buffer) refl in
          rest ∙ nil_from_length (drop n remaining) (omega (arith, length-drop n remaining)),
    )

-- the same if the bytes that remain were read as a slice
gave_of : (remaining all now buffer front : List ℕ) (at n give few : ℕ) → now ≡ all → drop at all ≡ remaining → 1 ≤ give → few ≡ min give (length buffer)
    → n ≡ min few (length (take (length now - at) (drop at now))) → front ≡ take n (take (length now - at) (drop at now))
    → (remaining ≡ take n (front ++ drop n buffer) ++ drop (at + n) all) × (n ≡ 0 → 0 < length (front ++ drop n buffer) → drop (at + n) all ≡ [])
gave_of remaining all now buffer front at n give few same is_remaining some is_few count is_front =
    let slice : take (length now - at) (drop at now) ≡ remaining = take_rest now at ∙ ap (drop at) same ∙ is_remaining in
    gave remaining all buffer front at n give is_remaining some (count ∙ rw (slice, is_few) refl) (is_front ∙ ap (take n) slice)

pub returns-clause-bytes : goal.returns-clause-bytes
returns-clause-bytes c =
    gave_of c.args.self.now.remaining c.self.inside.bytes.items c.deref.result.now c.args.buf.now c.copy_from_slice.new.self c.self.inside.given c.min-n.result c.self.inside.give c.min.result
    c.deref.ensures.value (ap (λ s. s.remaining) c.self.view_is) c.self.invariant.1 c.min.ensures c.min-n.ensures c.copy_from_slice.ensures.after
