-- What lies under the lock of lanes may go to another thread.
use denote.Param.Send.{IsSend, IsSync, recorded_send, sendable, struct_send}
use denote.Struct.Declared.{shape}
use denote.RattleType.{RattleType}
use denote.Ref.{NamedLft}
use Rattle.std.proofs.Crossing.{crosses}
use Rattle.desk_lock.specs.declared.served.LaneNames as lane_names
use Rattle.live_table.proofs.live.Live.TheSendSync as live
use Rattle.live_table.proofs.Sent.{control-seat-send}
use Rattle.live_seats.proofs.Sent.{here_send, here_field_send}
use Rattle.live_lanes.specs.contracts.conductor.Conductor as conductor
use Rattle.live_lanes.specs.contracts.conductor.Conductor.TheInside as inside
use Rattle.live_lanes.specs.contracts.control.LedControl as led_control
use Rattle.live_lanes.specs.declared.conductor.TableNames as table_names

led_send : IsSend (led_control.the_field).row
led_send = search (sendable, control-seat-send) depth 12

-- the fields of what lies under the lock, one after the other
fields_send : (κ : NamedLft) (G N : RattleType) (t : table_names.Ghosts N.Denot) (l : lane_names.Ghosts N.Denot) → IsSync G → IsSend N → IsSend (inside.the_row κ G N t l)
fields_send κ G N t l shared sent =
    recorded_send (inside.the_field κ G N t l).row _ _ (inside.the_type κ G N t l).to_one (struct_send (shape (inside.the_type κ G N t l)) (
      search (sendable, live.the_sync) depth 6,
      (search sendable depth 6, (search sendable depth 6, (led_send, (search (sendable, crosses, here_send, here_field_send) depth 6, (search sendable depth 6, tt))))),
    ))

pub conductor_send : (κ : NamedLft) (G N : RattleType) (t : table_names.Ghosts N.Denot) (l : lane_names.Ghosts N.Denot) → IsSync G → IsSend N → IsSend (conductor.the_row κ G N t l)
conductor_send κ G N t l shared sent = search (sendable, fields_send κ G N t l shared sent) depth 6
