use Rattle.uss_book_index.proofs.Places.{on_ok}
use Rattle.uss_book_index.proofs.index.Index.make_room.Goals as goal

pub returns-in_err-make_room-2-clause-kept : goal.returns-in_err-make_room-2-clause-kept
returns-in_err-make_room-2-clause-kept c = λ es is.
    record { jobs = is.jobs; tags = is.tags; firsts = c.make_room.ensures.kept es is.firsts; tallies = c.make_room-2.ensures.kept es is.tallies; flights = is.flights; ordinals = is.ordinals; records = is.records }

pub returns-in_err-make_room-3-clause-kept : goal.returns-in_err-make_room-3-clause-kept
returns-in_err-make_room-3-clause-kept c = λ es is.
    record {
      jobs = is.jobs;
      tags = is.tags;
      firsts = c.make_room.ensures.kept es is.firsts;
      tallies = c.make_room-2.ensures.kept es is.tallies;
      flights = c.make_room-3.ensures.kept es is.flights;
      ordinals = is.ordinals;
      records = is.records;
    }

pub returns-in_err-make_room-4-clause-kept : goal.returns-in_err-make_room-4-clause-kept
returns-in_err-make_room-4-clause-kept c = λ es is.
    record {
      jobs = is.jobs;
      tags = is.tags;
      firsts = c.make_room.ensures.kept es is.firsts;
      tallies = c.make_room-2.ensures.kept es is.tallies;
      flights = c.make_room-3.ensures.kept es is.flights;
      ordinals = c.make_room-4.ensures.kept es is.ordinals;
      records = is.records;
    }

pub returns-clause-kept : goal.returns-clause-kept
returns-clause-kept c = λ es is.
    record {
      jobs = is.jobs;
      tags = is.tags;
      firsts = c.make_room.ensures.kept es is.firsts;
      tallies = c.make_room-2.ensures.kept es is.tallies;
      flights = c.make_room-3.ensures.kept es is.flights;
      ordinals = c.make_room-4.ensures.kept es is.ordinals;
      records = c.make_room-5.ensures.kept es is.records;
    }

pub returns-clause-room : goal.returns-clause-room
returns-clause-room c =
    on_ok c.make_room-5.result c.make_room-5.ensures.room
    (λ row. record { mark = c.in_ok-make_room.ensures.room; job = c.in_ok-make_room-2.ensures.room; flight = c.in_ok-make_room-3.ensures.room; ordinal = c.in_ok-make_room-4.ensures.room; record_of = row })
