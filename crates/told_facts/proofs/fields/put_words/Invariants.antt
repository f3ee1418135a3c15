use Rattle.std.proofs.Common.{◌≡◌, ℕ, true, List, ◌++◌, drop, map}
use Rattle.ft_io.specs.Pieces.{Puts}
use Rattle.told_facts.specs.Values.{words_after}
use Rattle.told_facts.proofs.fields.put_words.Given as goal

-- the words so far were put, and those to come make them all
abbrev pub invariant-loop-word : goal.invariant-loop-word
invariant-loop-word g l = (text : List ℕ)
    × Puts g.K.Sink.holds g.K.Sink.faults text l.fn.sink l.fn.pieces l.sink l.pieces
    × (text ++ words_after l.is_first (map (λ w. w.now) (drop l.word-index l.words)) ≡ words_after true (map (λ w. w.now) l.words))
