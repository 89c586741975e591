use Rattle.put.proofs.Room.{room_length}
use Rattle.bench_walk.proofs.dump_room.Goals as goal

pub returns : goal.returns
returns c = room_length 1048576 0
