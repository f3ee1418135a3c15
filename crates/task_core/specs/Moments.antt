-- Where a task of the word machine stands, by its walk of the list and by what it has read of a user.
use Rattle.std.specs.Prelude.{ℕ}
use Rattle.ops_list.specs.declared.walker.WalkPhase.{WalkPhase}
use Rattle.ops_list.specs.declared.walker.WalkPhase.TheVariants.{Starting, At, Ended as WalkEnded}
use Rattle.hash_pages.specs.declared.reader.ReadPhase.{ReadPhase}
use Rattle.hash_pages.specs.declared.reader.ReadPhase.TheVariants.{AtSel, AtFilter, AtNotrace, Ended as ReadEnded}
use Rattle.hash_pages.specs.declared.reader.Verdict.{Verdict}
use Rattle.hash_pages.specs.declared.reader.Verdict.TheVariants.{On}
use Rattle.word_machine.specs.Task.{Moment, AtFirst, AtLink, TestSel, TestFilter, TestNotrace, Closing}

-- before the next load of a walk: of the head, or of the link of the user where it stands; at its end the dispatch is over
abbrev pub walking_at : WalkPhase → Moment
walking_at Starting = AtFirst
walking_at (At u) = AtLink u.0
walking_at WalkEnded = Closing

-- a user that isn't on is passed by; of one that is on the tests follow, which begin at the moment that its registration number gives
abbrev pub judged : ℕ → (ℕ → Moment) → Verdict → Moment
judged u on (On reg) = on reg
judged u on _ = AtLink u

-- before the next load of a read of user u, or after its verdict
abbrev pub reading_at : ℕ → (ℕ → Moment) → ReadPhase → Moment
reading_at u on AtSel = TestSel u
reading_at u on (AtFilter copy reg) = TestFilter u copy reg
reading_at u on (AtNotrace copy reg) = TestNotrace u copy reg
reading_at u on (ReadEnded verdict) = judged u on verdict
