-- Legal books keep their room.
use Rattle.std.proofs.Common.{ℕ, ℤ, ◌≤◌, ◌+◌, Bool, true, false, not, ◌&&◌, List, [], ◌∷◌, ◌++◌, ◌≡◌, length, refl, ap, arith, Some, is_some}
use Rattle.std.proofs.lemmas.List.Filters.{sum_by-filter_both}
use Rattle.uss_event.specs.declared.asks.FlightAsk.{FlightAsk}
use Rattle.uss_event.specs.declared.entries.Owner.{Owner}
use Rattle.uss_event.specs.declared.entries.Entry.{Entry}
use Rattle.uss_event.specs.declared.entries.Entry.TheVariants.{Opened, TicketOpen, Pending, Held, Deciding, Done, TicketGone, Sent}
use Rattle.uss_event.specs.declared.entries.Entry.TheVariants as Enters
use Rattle.uss_event.specs.declared.entries.Opening.{Opening}
use Rattle.uss_law_book.specs.Contents.{opening_of, is_closed, is_ticket_open, decision_of, trials_of}
use Rattle.uss_law_book.specs.Coding.{IsOwner, HasCoding, record_length, journal_length}
use Rattle.uss_law_book.specs.Reserve.{journal_limit, need, is_reserved, settled, reserved, ReserveCovers}
use Rattle.uss_law_book.specs.Legal.{MayOpen, IsDue, is_owner, is_new, MayFollow, IsLegal}
use Rattle.uss_law_book.proofs.Kept.{opening_has, open_parts}
use Rattle.uss_law_book.specs.Room.{IsSpared, IsNext, LegalBooksKeepRoom}
use Rattle.uss_law_book.proofs.EachLegal.{each_legal}
use Rattle.uss_law_book.proofs.Known.{legal_known}
use Rattle.uss_law_book.proofs.Counts.{few_rounds}
use Rattle.uss_law_book.specs.Changes.{bytes_of}
use Rattle.uss_law_book.specs.Changes as Changes
use Rattle.uss_law_book.specs.Changes.{settled_by, taken, released}
use Rattle.uss_law_book.proofs.Needed.{need_grows}
use Rattle.uss_law_book.proofs.Settled.{settled_grows}
use Rattle.uss_law_book.proofs.Lengths.{owner_length, held_length, done_length}
use Rattle.uss_law_book.proofs.Bytes.{for_ticket, for_decision, bytes_are_few}

-- the settled entries are among all
settled_less : (es : List Entry) → journal_length (settled es) ≤ journal_length es
unfolding journal_length
settled_less es =
    let split = sum_by-filter_both (is_reserved es) (λ (e : Entry). not (is_reserved es e)) (λ e. refl) record_length es in
    omega (arith, split)

-- an open job has few bytes
few_tickets : (b : Bool) → for_ticket b ≤ 14
few_tickets true = omega arith
few_tickets false = omega arith

few_decisions : (b : Bool) → for_decision b ≤ 66000
few_decisions true = omega arith
few_decisions false = omega arith

pub open_bytes : (es : List Entry) (job : ℕ) (o : Opening) → IsLegal es → opening_of job es ≡ Some o → is_closed job es ≡ false → bytes_of job es ≤ 2242014
open_bytes es job o l e u =
    let k = legal_known es l in
    let i = opening_has es job o e in
    let b = bytes_are_few es l job u in
    let n = k.few o i.0 in
    let r = few_rounds o.ask.wish (k.firm o i.0) in
    let same : length (trials_of o.job es) ≡ length (trials_of job es) = ap (λ j. length (trials_of j es)) i.1 in
    let t = few_tickets (is_ticket_open job es) in
    let d = few_decisions (is_some (decision_of job es)) in
    omega (arith, b, n, r, same, t, d)

few_kept : (b : Bool) → Changes.for_ticket b ≤ 64
few_kept true = omega arith
few_kept false = omega arith

-- a legal book is covered
pub covered : (es : List Entry) → IsLegal es → ReserveCovers es
unfolding reserved need journal_length
covered es l = each_legal ReserveCovers (omega arith) (λ book e h m was. m.room_after) es l

-- the sum of what changes
covered_by : (es : List Entry) (e : Entry) → IsLegal es → IsDue es e → settled_by es e + taken es e ≤ released e → ReserveCovers (es ++ e ∷ [])
unfolding reserved
covered_by es e l d h =
    let r = covered es l in
    let g = need_grows es e l d in
    let s = settled_grows es e l d in
    omega (arith, r, g, s, h)

-- whose book it is, is entered at first
owner_room : (es : List Entry) (o : Owner) → IsOwner o → true ≡ is_new es → ReserveCovers (es ++ Enters.Owner o ∷ [])
unfolding reserved need journal_length
owner_room [] o c h = let n = owner_length o c in omega (arith, n)
owner_room (e ∷ es) o c h = cc

-- a job's record and what is kept free for it
opened_room : (es : List Entry) (job : ℕ) (moment : ℤ) (ask : FlightAsk) → IsLegal es → MayOpen es job ask → reserved (es ++ Opened (record { job = job; moment = moment; ask = ask }) ∷ []) ≡ reserved es + 8388608 + record_length (Opened (record { job = job; moment = moment; ask = ask }))
unfolding reserved
opened_room es job moment ask l d =
    let g = need_grows es (Opened (record { job = job; moment = moment; ask = ask })) l d in
    let s = settled_grows es (Opened (record { job = job; moment = moment; ask = ask })) l d in
    omega (arith, g, s)

room_of : (es : List Entry) (e : Entry) → IsLegal es → is_owner e ≡ is_new es → IsDue es e → HasCoding e → IsSpared es e → ReserveCovers (es ++ e ∷ [])
room_of es (Enters.Owner owner) l first d c f = owner_room es owner c first
room_of es (Opened o) l first d c f = let r = opened_room es o.job o.moment o.ask l d in omega (arith, r, f)
room_of es (TicketOpen job) l first d c f = covered_by es (TicketOpen job) l d (omega arith)
room_of es (Pending t) l first d c f = covered_by es (Pending t) l d (omega arith)
room_of es (Held h) l first d c f =
    let p = open_parts es h.job d.unfinished in
    let b = open_bytes es h.job p.0 l p.1 p.2 in
    let n = held_length h.job h.tag h.ovn h.version h.owed c in
    let k = few_kept (is_ticket_open h.job es) in
    covered_by es (Held h) l d (omega (arith, b, n, k))
room_of es (Deciding decision) l first d c f = covered_by es (Deciding decision) l d (omega arith)
room_of es (Done ending) l first d c f =
    let b = open_bytes es ending.job d.opening l d.opened d.unclosed in
    let n = done_length ending.job ending.end c.1 in
    let k = few_kept (is_ticket_open ending.job es && not (is_some (decision_of ending.job es))) in
    covered_by es (Done ending) l d (omega (arith, b, n, k))
room_of es (TicketGone job) l first d c f = covered_by es (TicketGone job) l d (omega arith)
room_of es (Sent n) l first d c f = covered_by es (Sent n) l d (omega arith)

pub legal_books_keep_room : LegalBooksKeepRoom
legal_books_keep_room book e l n = room_of book e l n.first n.due n.coding n.spared

pub next_follows : (book : List Entry) (e : Entry) → IsLegal book → IsNext book e → MayFollow book e
next_follows book e l n = record { first = n.first; coding = n.coding; due = n.due; room_before = covered book l; room_after = legal_books_keep_room book e l n }

spared_then : (book : List Entry) (e : Entry) → IsLegal book → IsDue book e → ReserveCovers (book ++ e ∷ []) → IsSpared book e
spared_then book (Opened o) l d r = let s = opened_room book o.job o.moment o.ask l d in omega (arith, s, r)
spared_then book _ l d r = tt

pub follower_is_next : (book : List Entry) (e : Entry) → IsLegal book → MayFollow book e → IsNext book e
follower_is_next book e l m = record { first = m.first; coding = m.coding; due = m.due; spared = spared_then book e l m.due m.room_after }

-- a job that has room beside all records has it beside those that are settled
pub spared_beside_all : (book : List Entry) (job : ℕ) (moment : ℤ) (ask : FlightAsk) → journal_length book + need book + 8388608 + record_length (Opened (record { job = job; moment = moment; ask = ask })) ≤ journal_limit → IsSpared book (Opened (record { job = job; moment = moment; ask = ask }))
unfolding reserved
spared_beside_all book job moment ask h = let l = settled_less book in omega (arith, h, l)
