-- The index over the entries of a book. This project's own.
use Rattle.std.specs.Prelude.{ℕ, ◌≡◌, IsTrue, List, length}
use Rattle.uss_event.specs.declared.entries.Entry.{Entry}
use Rattle.uss_event.specs.declared.entries.Entry.TheVariants.{Opened, Pending}
use Rattle.uss_law_book.specs.Lists.{openings, trials}
use Rattle.uss_book_rules.specs.Speaks.{job_of}
use Rattle.uss_book_index.specs.declared.index.Index.{Index}
use Rattle.uss_book_index.specs.declared.room.Room.{Room}
use Rattle.uss_book_index.specs.Marks.{mark_of}
use Rattle.uss_book_index.specs.Firsts.{AreFirsts, has_place}
use Rattle.uss_book_index.specs.Tallies.{AreTallies, has_tally}
use Rattle.uss_book_index.specs.Flights.{AreFlights, has_row_for, flight_in}
use Rattle.uss_book_index.specs.Ordinals.{AreOrdinals, has_ordinal_room, ordinal_for}
use Rattle.uss_book_index.specs.Records.{AreRecords, has_pair_room, pair_for}

-- the last job and the last tag, which are how many there are
abbrev pub job_after : ℕ → Entry → ℕ
job_after n (Opened o) = o.job
job_after n _ = n

abbrev pub tag_after : ℕ → Entry → ℕ
tag_after n (Pending t) = t.tag
tag_after n _ = n

-- the index tells of these entries
pub record IsIndex (index : Index) (es : List Entry) : Type 0 where
  pub jobs : index.jobs ≡ length (openings es)
  pub tags : index.tags ≡ length (trials es)
  pub firsts : AreFirsts index.firsts.places es
  pub tallies : AreTallies index.tallies.tallies es
  pub flights : AreFlights index.flights.flights es
  pub ordinals : AreOrdinals index.ordinals.places es
  pub records : AreRecords index.records.pairs es

-- what an entry after these needs room for, and what it records
abbrev pub room_for : List Entry → Entry → Room
room_for es e = record { mark = mark_of e; job = job_of e; flight = flight_in es e; ordinal = ordinal_for es e; pair = pair_for es e }

-- there is room for it
pub record HasRoom (index : Index) (room : Room) : Type 0 where
  pub mark : IsTrue (has_place index.firsts.places room.mark)
  pub job : IsTrue (has_tally index.tallies.tallies room.job)
  pub flight : IsTrue (has_row_for index.flights.flights room.flight)
  pub ordinal : IsTrue (has_ordinal_room index.ordinals.places room.ordinal)
  pub record_of : IsTrue (has_pair_room index.records.pairs room.flight)
