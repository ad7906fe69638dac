-- A reply that is written is read again as the same by its client.
use Rattle.std.proofs.Common.{◌≡◌, ℕ, ◌≤◌, Bool, true, false, List, Option, Some, None, Ok, refl, sym, ap, ◌∙◌, ◌⊎◌, inl, inr, subst, arith}
use Rattle.std.specs.Prelude.{◌==◌, ◌&&◌, nat_le, is_some, length, option_map, if◌then◌else◌}
use Rattle.std.proofs.lemmas.Bool.{and_parts}
use Rattle.std.proofs.lemmas.Bool.Decides.{nat_tests}
use Rattle.uss_vol4.specs.Volume.{Volume4D}
use Rattle.uss_intent.specs.Limits.{most_references, most_tickets}
use Rattle.uss_intent.specs.declared.records.Reference.{Reference}
use Rattle.uss_intent.specs.declared.records.Subscriber.{Subscriber}
use Rattle.uss_intent.specs.declared.records.Ticket.{Ticket}
use Rattle.uss_intent.specs.declared.calls.DssAsk.{DssAsk}
use Rattle.uss_intent.specs.declared.calls.DssAsk.TheVariants.{Query, Get, Put, Remove, TicketPut, TicketGet, TicketRemove}
use Rattle.uss_intent.specs.declared.calls.DssReply.{DssReply}
use Rattle.uss_intent.specs.declared.calls.DssReply.TheVariants.{Found, Got, Landed, Removed, TicketMade, TicketGot, TicketRemoved, Refused}
use Rattle.uss_intent.specs.declared.calls.DssRefusal.{DssRefusal}
use Rattle.uss_intent.specs.declared.calls.DssRefusal.TheVariants.{BadCall, NotYours, Exists, Retired, Absent, StaleOvn, NoTicket, NotCovered, MissingKey, TicketInUse, Full}
use Rattle.uss_intent.specs.Same.{same_text}
use Rattle.uss_intent.specs.States.{same_state}
use Rattle.uss_law_dss.specs.Fits.{fits, refusal_fits, ascend, is_list, are_few}
use Rattle.uss_http_response.specs.declared.response.Response.{Response}
use Rattle.uss_wire_base.specs.Names.{name}
use Rattle.uss_wire_base.specs.declared.refusal.Member.TheVariants.{Whole}
use Rattle.uss_wire_base.specs.Reading.{message_of}
use Rattle.uss_wire_base.specs.Writing.{IsTextOf, AllOf}
use Rattle.uss_wire_base.proofs.Again.{message_again}
use Rattle.uss_wire_dss.specs.Replies.{query_answer_at, get_answer_at, subscription_answer_at}
use Rattle.uss_wire_dss.specs.ChangesAndErrors.{change_answer_at}
use Rattle.uss_wire_dss.specs.ReplyWriting.{query_answer_json, get_answer_json, change_answer_json, subscription_answer_json, IsReadable, IsReadableSubscriber}
use Rattle.uss_wire_dss.proofs.RepliesAgain.{reference_again, references_again, change_again}
use Rattle.uss_wire_dss.proofs.CallsAgain.{subscription_answer_again}
use Rattle.uss_rest.specs.DssRefusals.{status_of, as_sent, refusal_in}
use Rattle.uss_rest.specs.Replies.{ok_status, IsResponseTo, as_reply, answer_in, reply_read, if_fits, reply_in, reply_sent, IsShown, IsKnown}
use Rattle.uss_rest.proofs.Pairs.{again}

found_again : (client : List ℕ) (rs : List Reference) → AllOf (IsReadable client) rs → length rs ≤ most_references → query_answer_at client Whole (query_answer_json rs) ≡ Ok rs
unfolding query_answer_at query_answer_json name
found_again client rs all few = references_again client _ rs all few

got_again : (client : List ℕ) (r : Reference) → IsReadable client r → get_answer_at client Whole (get_answer_json r) ≡ Ok r
unfolding get_answer_at get_answer_json name
got_again client r h = reference_again client _ r h

ticket_read : (client : List ℕ) (area : Volume4D) (t : Ticket) (body : List ℕ) → IsKnown client area t → IsTextOf (subscription_answer_json t) body
    → message_of (subscription_answer_at client area) body ≡ Ok t
ticket_read client area t body known is =
    rw (sym known.manager, sym known.area_is) (message_again (subscription_answer_at t.manager t.area) (subscription_answer_json t) body is ∙ subscription_answer_again t known.readable)

ticket_again : (client : List ℕ) (area : Volume4D) (t : Ticket) (body : List ℕ) → IsKnown client area t → IsTextOf (subscription_answer_json t) body
    → (f : Ticket → DssReply) → as_reply f (message_of (subscription_answer_at client area) body) ≡ Some (f t)
ticket_again client area t body known is f = ap (as_reply f) (ticket_read client area t body known is)

-- a refusal has no status of an answer
not_ok : (r : DssRefusal) (n : ℕ) → (n ≡ 200) ⊎ (n ≡ 201) → (status_of r == n) ≡ false
not_ok BadCall n h = grind (arith, nat_tests)
not_ok NotYours n h = grind (arith, nat_tests)
not_ok Exists n h = grind (arith, nat_tests)
not_ok Retired n h = grind (arith, nat_tests)
not_ok Absent n h = grind (arith, nat_tests)
not_ok StaleOvn n h = grind (arith, nat_tests)
not_ok NoTicket n h = grind (arith, nat_tests)
not_ok NotCovered n h = grind (arith, nat_tests)
not_ok (MissingKey references) n h = grind (arith, nat_tests)
not_ok TicketInUse n h = grind (arith, nat_tests)
not_ok (Full limit) n h = grind (arith, nat_tests)

ok_is : (ask : DssAsk) → (ok_status ask ≡ 200) ⊎ (ok_status ask ≡ 201)
ok_is (Query area) = inl refl
ok_is (Get flight) = inl refl
ok_is (Put flight None extents key state base ticket) = inr refl
ok_is (Put flight (Some ovn) extents key state base ticket) = inl refl
ok_is (Remove flight ovn) = inl refl
ok_is (TicketPut ticket area base) = inl refl
ok_is (TicketGet ticket) = inl refl
ok_is (TicketRemove ticket version) = inl refl

refused_again : (client : List ℕ) (given : Volume4D) (ask : DssAsk) (r : DssRefusal) (response : Response) → IsShown client given ask (Refused r) → IsResponseTo ask (Refused r) response
    → reply_read client given ask response.status response.body ≡ Some (Refused (as_sent r))
refused_again client given ask r response shown is =
    ap (λ (b : Bool). if b then answer_in client given ask response.body else option_map Refused (refusal_in client response.status response.body))
    (ap (λ s. s == ok_status ask) is.status ∙ not_ok r (ok_status ask) (ok_is ask))
    ∙ ap (option_map Refused) (again client r response shown is)

-- the answer to a call that isn't refused
same_status : (n m : ℕ) → n ≡ m → (n == m) ≡ true
same_status n m h = grind (arith, nat_tests, h)

answered : (client : List ℕ) (given : Volume4D) (ask : DssAsk) (response : Response) → response.status ≡ ok_status ask
    → reply_read client given ask response.status response.body ≡ answer_in client given ask response.body
answered client given ask response is =
    ap (λ (b : Bool). if b then answer_in client given ask response.body else option_map Refused (refusal_in client response.status response.body))
    (same_status response.status (ok_status ask) is)

few_found : (rs : List Reference) → is_list rs ≡ true → length rs ≤ most_references
few_found rs h = let both = and_parts (nat_le (length rs) most_references) (ascend rs) h in let few = both.0 in grind (arith, nat_tests)

few_told : (ss : List Subscriber) → are_few ss ≡ true → length ss ≤ most_tickets
few_told ss h = grind (arith, nat_tests)

landed_few : (a b c d e : Bool) → (a && (b && (c && (d && e)))) ≡ true → e ≡ true
landed_few a b c d e h = (and_parts d e (and_parts c (d && e) (and_parts b (c && (d && e)) (and_parts a (b && (c && (d && e))) h).1).1).1).1

landed_again : (client : List ℕ) (r : Reference) (ss : List Subscriber) (body : List ℕ) → IsReadable client r → AllOf IsReadableSubscriber ss → are_few ss ≡ true
    → IsTextOf (change_answer_json r ss) body → (f : (Reference × List Subscriber) → DssReply) → as_reply f (message_of (change_answer_at client) body) ≡ Some (f (r, ss))
landed_again client r ss body readable all few is f =
    ap (as_reply f) (message_again (change_answer_at client) (change_answer_json r ss) body is ∙ change_again client r ss readable all (few_told ss few))

read_again : (client : List ℕ) (given : Volume4D) (ask : DssAsk) (reply : DssReply) (response : Response) → fits ask reply ≡ true → IsShown client given ask reply → IsResponseTo ask reply response
    → reply_read client given ask response.status response.body ≡ Some (reply_sent reply)
read_again client given (Query area) (Found rs) response f shown is =
    answered client given (Query area) response is.0
    ∙ ap (as_reply Found) (message_again (query_answer_at client) (query_answer_json rs) response.body is.1 ∙ found_again client rs shown (few_found rs f))
read_again client given (Get flight) (Got r) response f shown is =
    answered client given (Get flight) response is.0
    ∙ ap (as_reply Got) (message_again (get_answer_at client) (get_answer_json r) response.body is.1 ∙ got_again client r shown)
read_again client given (Put flight ovn extents key state base ticket) (Landed r ss) response f shown is =
    let ask = Put flight ovn extents key state base ticket in
    answered client given ask response is.0
    ∙ landed_again client r ss response.body shown.0 shown.1 (landed_few (r.flight == flight) (same_state r.state state) (same_text r.base base) (is_some r.ovn) (are_few ss) f) is.1 (λ x. Landed x.0 x.1)
read_again client given (Remove flight ovn) (Removed r ss) response f shown is =
    answered client given (Remove flight ovn) response is.0
    ∙ landed_again client r ss response.body shown.0 shown.1 (and_parts (r.flight == flight) (are_few ss) f).1 is.1 (λ x. Removed x.0 x.1)
read_again client given (TicketPut ticket area base) (TicketMade t) response f shown is =
    answered client given (TicketPut ticket area base) response is.0 ∙ ticket_again client area t response.body shown is.1 TicketMade
read_again client given (TicketGet ticket) (TicketGot t) response f shown is =
    answered client given (TicketGet ticket) response is.0 ∙ ticket_again client given t response.body shown is.1 TicketGot
read_again client given (TicketRemove ticket version) (TicketRemoved t) response f shown is =
    answered client given (TicketRemove ticket version) response is.0 ∙ ticket_again client given t response.body shown is.1 TicketRemoved
read_again client given ask (Refused r) response f shown is = refused_again client given ask r response shown is
read_again client given ask reply response f shown is = cc

sent_refusal_fits : (r : DssRefusal) → refusal_fits r ≡ true → refusal_fits (as_sent r) ≡ true
sent_refusal_fits BadCall h = refl
sent_refusal_fits NotYours h = refl
sent_refusal_fits Exists h = refl
sent_refusal_fits Retired h = refl
sent_refusal_fits Absent h = refl
sent_refusal_fits StaleOvn h = refl
sent_refusal_fits NoTicket h = refl
sent_refusal_fits NotCovered h = refl
sent_refusal_fits (MissingKey references) h = h
sent_refusal_fits TicketInUse h = refl
sent_refusal_fits (Full limit) h = refl

sent_fits : (ask : DssAsk) (reply : DssReply) → fits ask reply ≡ true → fits ask (reply_sent reply) ≡ true
sent_fits (Query area) (Refused r) h = cc
sent_fits (Get flight) (Refused r) h = sent_refusal_fits r h
sent_fits (Put flight ovn extents key state base ticket) (Refused r) h = sent_refusal_fits r h
sent_fits (Remove flight ovn) (Refused r) h = sent_refusal_fits r h
sent_fits (TicketPut ticket area base) (Refused r) h = sent_refusal_fits r h
sent_fits (TicketGet ticket) (Refused r) h = sent_refusal_fits r h
sent_fits (TicketRemove ticket version) (Refused r) h = sent_refusal_fits r h
sent_fits ask (Found references) h = h
sent_fits ask (Got reference) h = h
sent_fits ask (Landed reference subscribers) h = h
sent_fits ask (Removed reference subscribers) h = h
sent_fits ask (TicketMade ticket) h = h
sent_fits ask (TicketGot ticket) h = h
sent_fits ask (TicketRemoved ticket) h = h

pub reply_again : (client : List ℕ) (given : Volume4D) (ask : DssAsk) (reply : DssReply) (response : Response) → fits ask reply ≡ true → IsShown client given ask reply → IsResponseTo ask reply response
    → reply_in client given ask response.status response.body ≡ Some (reply_sent reply)
reply_again client given ask reply response f shown is =
    ap (if_fits ask) (read_again client given ask reply response f shown is)
    ∙ ap (λ (b : Bool). if b then Some (reply_sent reply) else None) (sent_fits ask reply f)

-- what is read fits, so a reply that doesn't is never given
pub read_fits : (client : List ℕ) (given : Volume4D) (ask : DssAsk) (status : ℕ) (body : List ℕ) (reply : DssReply) → reply_in client given ask status body ≡ Some reply → fits ask reply ≡ true
read_fits client given ask status body reply h = go (reply_read client given ask status body) h
  where
    test : (b : Bool) (x : DssReply) → fits ask x ≡ b → (if b then Some x else None) ≡ Some reply → fits ask reply ≡ true
    test true x e same = let q : x ≡ reply = cc in subst (λ z. fits ask z ≡ true) q e
    test false x e same = cc

    go : (found : Option DssReply) → if_fits ask found ≡ Some reply → fits ask reply ≡ true
    go None same = cc
    go (Some x) same = test (fits ask x) x refl same
