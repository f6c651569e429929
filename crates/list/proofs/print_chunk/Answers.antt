-- `print_chunk` prints only rows that decode has written.
use Rattle.list.proofs.Inside.{rows_inside}
use Rattle.list.proofs.print_chunk.Goals as goal

pub print_accepted-requires : goal.print_accepted-requires
print_accepted-requires g c = rows_inside c.decode.ensures c.in-Ok.is
