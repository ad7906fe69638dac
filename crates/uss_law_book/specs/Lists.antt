-- What the entries of a book say, kind by kind, oldest first. A supplier's book is this project's own.
use Rattle.std.specs.Prelude.{ℕ, List, [], ◌∷◌, Option, Some, None}
use Rattle.uss_event.specs.declared.entries.Owner.{Owner}
use Rattle.uss_event.specs.declared.entries.Opening.{Opening}
use Rattle.uss_event.specs.declared.entries.Trial.{Trial}
use Rattle.uss_event.specs.declared.entries.Holding.{Holding}
use Rattle.uss_event.specs.declared.entries.Closing.{Closing}
use Rattle.uss_event.specs.declared.entries.Sending.{Sending}
use Rattle.uss_event.specs.declared.entries.Entry.{Entry}
use Rattle.uss_event.specs.declared.entries.Entry.TheVariants.{Opened, TicketOpen, Pending, Held, Deciding, Done, TicketGone, Sent}
use Rattle.uss_event.specs.declared.entries.Entry.TheVariants as Enters

-- whose book it is
abbrev pub owner_of : List Entry → Option Owner
owner_of [] = None
owner_of (Enters.Owner owner ∷ es) = Some owner
owner_of (_ ∷ es) = None

-- the jobs
abbrev pub openings : List Entry → List Opening
openings [] = []
openings (Opened o ∷ es) = o ∷ openings es
openings (_ ∷ es) = openings es

-- the jobs whose ticket was heard to be there
abbrev pub tickets_opened : List Entry → List ℕ
tickets_opened [] = []
tickets_opened (TicketOpen job ∷ es) = job ∷ tickets_opened es
tickets_opened (_ ∷ es) = tickets_opened es

-- the attempts
abbrev pub trials : List Entry → List Trial
trials [] = []
trials (Pending t ∷ es) = t ∷ trials es
trials (_ ∷ es) = trials es

-- what was recorded
abbrev pub holdings : List Entry → List Holding
holdings [] = []
holdings (Held h ∷ es) = h ∷ holdings es
holdings (_ ∷ es) = holdings es

-- the jobs that make no further attempt
abbrev pub decisions : List Entry → List Closing
decisions [] = []
decisions (Deciding d ∷ es) = d ∷ decisions es
decisions (_ ∷ es) = decisions es

-- the jobs that ended without recording anything
abbrev pub endings : List Entry → List Closing
endings [] = []
endings (Done d ∷ es) = d ∷ endings es
endings (_ ∷ es) = endings es

-- the closed jobs whose ticket was heard as gone
abbrev pub tickets_gone : List Entry → List ℕ
tickets_gone [] = []
tickets_gone (TicketGone job ∷ es) = job ∷ tickets_gone es
tickets_gone (_ ∷ es) = tickets_gone es

-- the notifications that were answered
abbrev pub sendings : List Entry → List Sending
sendings [] = []
sendings (Sent n ∷ es) = n ∷ sendings es
sendings (_ ∷ es) = sendings es
