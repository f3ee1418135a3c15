use denote.Param.Send.{sendable}
use Rattle.std.proofs.Crossing.{crosses}
use Rattle.ring_table.proofs.ring.RingTable.TheSendSync as table
use Rattle.ring_table.proofs.seats.RingSeat.TheSendSync as seat
use Rattle.threads_tests.proofs.tests.threads.offer_both.Goals as goal

pub join_mut-requires-send-F : goal.join_mut-requires-send-F
join_mut-requires-send-F g c κs within = search (sendable, crosses, table.the_sync, seat.the_send) depth 14
