use Rattle.std.proofs.Common.{map, reverse, sym}
use Rattle.kernel_rules.specs.Direct.{item_of}
use Rattle.kernel_rules.specs.Recorded.{history}
use Rattle.kernel_rules.proofs.Keeping.{kept-down, kept-up}
use Rattle.kernel_rules.proofs.Lines.{lines-legal}
use Rattle.kernel_rules.proofs.Places.{thin-told}
use Rattle.kernel_rules.proofs.Reader.{end-alike, lines-read}
use Rattle.kernel_rules.proofs.Removing.{history-runs, line-runs}
use Rattle.kernel_rules.proofs.laws.a_log_is_legal_by_its_lines.Goals as goal

pub returns-clause-legal : goal.returns-clause-legal
returns-clause-legal c = λ by job log. (λ r. lines-legal by job (reverse log) r.0 r.1.told' r.1.legal, λ d. lines-read by job (reverse log) d)

pub returns-clause-whole : goal.returns-clause-whole
returns-clause-whole c = λ by job log. (
  λ r.
      let d = lines-legal by job (reverse log) r.0 r.1.told' r.1.legal in
      (d, end-alike job (history r.0) (map item_of (reverse log)) (sym (thin-told (reverse log) r.0 r.1.told')) (history-runs by job (history r.0) r.1.legal) (line-runs by job (reverse log) d) r.2),
  λ d.
      let r = lines-read by job (reverse log) d.0 in
      (r.0, r.1, end-alike job (map item_of (reverse log)) (history r.0) (thin-told (reverse log) r.0 r.1.told') (line-runs by job (reverse log) d.0) (history-runs by job (history r.0) r.1.legal) d.1),
)

pub returns-clause-parts : goal.returns-clause-parts
returns-clause-parts c = λ n by job lines line d. (λ k. kept-down by job lines d line n k, λ k. kept-up by job lines d n line k)
