use Rattle.uss_law_book.proofs.Room as Room
use Rattle.uss_law_book.proofs.Fits.{legal_fits}
use Rattle.uss_law_book.proofs.legal_books_keep_room.Goals as goal

pub returns-clause-covered : goal.returns-clause-covered
returns-clause-covered c = Room.covered

pub returns-clause-fits : goal.returns-clause-fits
returns-clause-fits c = legal_fits

pub returns-clause-room : goal.returns-clause-room
returns-clause-room c = Room.legal_books_keep_room

pub returns-clause-exact : goal.returns-clause-exact
returns-clause-exact c = λ book e l. (Room.follower_is_next book e l, Room.next_follows book e l)

pub returns-clause-beside_all : goal.returns-clause-beside_all
returns-clause-beside_all c = Room.spared_beside_all
