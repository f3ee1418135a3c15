use Rattle.ft_machine.proofs.cpus.own_room.Goals as goal

pub room_of-requires : goal.room_of-requires
room_of-requires c = c.requires
