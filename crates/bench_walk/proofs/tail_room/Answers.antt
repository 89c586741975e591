use Rattle.put.proofs.Room.{room_length}
use Rattle.bench_walk.proofs.tail_room.Goals as goal

pub returns : goal.returns
returns c = room_length 65542 0
