use Rattle.std.proofs.Common.{◌≡◌, [], refl, sym, ap, ◌∙◌}
use Rattle.ft_io.specs.Pieces.{OnTheWay}
use Rattle.ft_io.proofs.PieceLaws.{puts-then, puts-written, puts-held, puts-dropped}
use Rattle.ft_io.proofs.pieces.Pieces.put_after_piece.Goals as goal

pub returns-then-self : goal.returns-then-self
returns-then-self g c = puts-then c.flush.ensures.puts (rw (← c.self.view_is) (puts-dropped c.args.bytes.now c.flush.new.sink _ _ c.if-self.true c.if-self.true))

pub returns-then-bytes-gt-PIECE_BYTES : goal.returns-then-bytes-gt-PIECE_BYTES
returns-then-bytes-gt-PIECE_BYTES g c =
    let none : c.self.inside.held.items ≡ [] = ap (λ (p : OnTheWay). p.held) c.self.view_is ∙ c.flush.ensures.empty in
    puts-then c.flush.ensures.puts (rw (← c.self.view_is) (puts-written c.write_all.result c.args.bytes.now c.args.bytes.now c.flush.new.sink c.write_all.new.sink _ _ c.if-self.false
    c.is_err-self-inside.ensures.value none (rw none refl)
    c.write_all.ensures.all c.write_all.ensures.front c.write_all.ensures.fault c.write_all.ensures.faults))

pub returns-else-bytes-gt-PIECE_BYTES : goal.returns-else-bytes-gt-PIECE_BYTES
returns-else-bytes-gt-PIECE_BYTES g c =
    puts-then c.flush.ensures.puts (rw (← c.self.view_is) (puts-held c.args.bytes.now c.flush.new.sink _ _ (c.if-self.false ∙ sym c.if-self.false) c.extend_reserved.ensures.items))
