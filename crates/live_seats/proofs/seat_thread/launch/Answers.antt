use denote.Param.Send.{sendable}
use Rattle.std.proofs.Crossing.{crosses}
use Rattle.std.proofs.option.Option.TheSendSync as option
use Rattle.std.proofs.sync.atomic.AtomicBool.TheSendSync as flag
use Rattle.live_table.proofs.live.Live.TheSendSync as live
use Rattle.ring_table.proofs.ring.RingTable.TheSendSync as rings
use Rattle.live_seats.proofs.Sent.{seat_send}
use Rattle.live_seats.proofs.seat_thread.launch.Goals as goal

pub spawn_with-requires-send-F : goal.spawn_with-requires-send-F
spawn_with-requires-send-F g c κs within = search (sendable, crosses, seat_send, live.the_sync, rings.the_sync, option.the_field_sync, flag.the_sync) depth 14

pub spawn_with-requires-send-T : goal.spawn_with-requires-send-T
spawn_with-requires-send-T g c κs within = search (sendable, seat_send) depth 12
