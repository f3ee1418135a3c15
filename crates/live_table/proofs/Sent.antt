-- Control's seat may go to another thread. Control has many parts, so this is put together from theirs.
use denote.Param.Send.{IsSend, recorded_send, sendable, struct_send}
use denote.Struct.Declared.{shape}
use Rattle.std.proofs.Crossing.{crosses}
use Rattle.atomic_table.proofs.shared.Seat.TheSendSync as table_seat
use Rattle.ft_base.proofs.item.Answer.TheSendSync as answer
use Rattle.ft_base.proofs.item.Stamped.TheSendSync as stamped
use Rattle.word_map.proofs.map.WordMap.TheSendSync as map
use Rattle.ft_desk.proofs.command.Ctl.TheSendSync as ctl
use Rattle.ft_desk.proofs.desk.Desk.TheSendSync as desk
use Rattle.patch_core.proofs.batch.Batch.TheSendSync as batch
use Rattle.control_core.proofs.phase.Phase.TheSendSync as phase
use Rattle.control_core.specs.contracts.control.Control as control
use Rattle.control_core.specs.contracts.control.Control.TheInside as inside
use Rattle.live_table.specs.contracts.seats.ControlSeat as control_seat

-- the fields of control, one after the other
fields-send : IsSend inside.the_row
fields-send =
    recorded_send inside.the_field.row _ _ inside.the_type.to_one (struct_send (shape inside.the_type) (
      map.the_send,
      (
        desk.the_send,
        (
          search (sendable, crosses) depth 10,
          (
            search (sendable, crosses, ctl.the_send) depth 10,
            (
              search (sendable, crosses) depth 10,
              (
                search sendable,
                (
                  search sendable,
                  (
                    search sendable,
                    (
                      answer.the_field_send,
                      (
                        batch.the_send,
                        (
                          phase.the_field_send,
                          (
                            search (sendable, crosses, stamped.the_send) depth 10,
                            tt,
                          ),
                        ),
                      ),
                    ),
                  ),
                ),
              ),
            ),
          ),
        ),
      ),
    ))

control-send : IsSend control.the_row
control-send = search (sendable, fields-send)

pub control-seat-send : IsSend control_seat.the_row
control-seat-send = search (sendable, control-send, table_seat.the_send) depth 12
