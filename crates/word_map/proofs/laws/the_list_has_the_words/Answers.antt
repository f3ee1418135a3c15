use Rattle.word_map.proofs.PlaceLaws.{read_there, put_flat}
use Rattle.word_map.proofs.laws.the_list_has_the_words.Goals as goal

pub returns-clause-read : goal.returns-clause-read
returns-clause-read c = λ shape pids list w t. read_there shape pids w list t

pub returns-clause-store : goal.returns-clause-store
returns-clause-store c = λ shape pids list w x many t. put_flat shape pids list w x many t
