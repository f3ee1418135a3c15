use Rattle.history_order.proofs.Moves.{change-tasks}
use Rattle.history_order.proofs.places.neighbours_of_two_tasks_change_places.Goals as goal

pub returns : goal.returns
returns c = λ job before after x y a b of_x of_y ne. change-tasks job before after x y a b of_x of_y ne
