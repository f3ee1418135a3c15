-- A seat of either kind may go to another thread, and so may one that is stepped here.
use denote.Param.Send.{IsSend, sendable}
use Rattle.live_table.proofs.seats.CpuSeat.TheSendSync as cpu_seat
use Rattle.live_table.proofs.Sent.{control-seat-send}
use Rattle.ring_table.proofs.seats.RingSeat.TheSendSync as ring_seat
use Rattle.live_seats.specs.contracts.here.HereSeat as here_seat
use Rattle.live_seats.specs.contracts.seat.AnySeat as any_seat

pub seat_send : IsSend (any_seat.the_field).row
seat_send = search (sendable, control-seat-send, cpu_seat.the_send, ring_seat.the_send) depth 14

pub here_send : IsSend here_seat.the_row
here_send = search (sendable, seat_send) depth 12

pub here_field_send : IsSend (here_seat.the_field).row
here_field_send = search (sendable, seat_send) depth 12
