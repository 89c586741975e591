use Rattle.put.proofs.Room.{room_length}
use Rattle.bench_kernel.proofs.text_room.Goals as goal

pub returns : goal.returns
returns c = room_length 850000 0
