-- What `uss discover` writes of the reply of the discovery service to a call. This project's own.
use Rattle.std.specs.Prelude.{ℕ, List, [], ◌∷◌, ◌++◌, length, Option, Some, None, codes}
use Rattle.std.specs.Fmt.{decimal, signed_decimal}
use Rattle.std.specs.List.{flat_map}
use Rattle.uss_intent.specs.declared.records.Reference.{Reference}
use Rattle.uss_intent.specs.declared.records.Subscriber.{Subscriber}
use Rattle.uss_intent.specs.declared.records.Ticket.{Ticket}
use Rattle.uss_intent.specs.declared.calls.DssRefusal.{DssRefusal}
use Rattle.uss_intent.specs.declared.calls.DssRefusal.TheVariants.{MissingKey}
use Rattle.uss_intent.specs.declared.calls.DssReply.{DssReply}
use Rattle.uss_intent.specs.declared.calls.DssReply.TheVariants.{Found, Got, Landed, Removed, TicketMade, TicketGot, TicketRemoved, Refused}
use Rattle.uss_intent.specs.Refusals.{refusal_number}
use Rattle.uss_intent.specs.States.{state_text}
use Rattle.uss_intent.specs.Identifiers.{identifier_text}

-- the words with a space between them, and an LF
abbrev pub line : List (List ℕ) → List ℕ
line [] = codes "\n"
line (word ∷ []) = word ++ codes "\n"
line (word ∷ next ∷ words) = word ++ (codes " " ++ line (next ∷ words))

-- the words with a space after each
abbrev pub spaced : List (List ℕ) → List ℕ
spaced [] = []
spaced (word ∷ words) = word ++ (codes " " ++ spaced words)

-- `-` for an OVN that isn't shown
abbrev pub ovn_text : Option (List ℕ) → List ℕ
ovn_text None = codes "-"
ovn_text (Some ovn) = ovn

-- `ref FLIGHT MANAGER VERSION STATE OVN START END BASE TICKET`
unfoldable pub reference_line : Reference → List ℕ
reference_line r = line
    (codes "ref" ∷ identifier_text r.flight ∷ r.manager ∷ decimal r.version ∷ state_text r.state ∷ ovn_text r.ovn
    ∷ signed_decimal r.start ∷ signed_decimal r.end ∷ r.base ∷ identifier_text r.ticket ∷ [])

-- the same in parts: what stands before the OVN of a reference, and after it
abbrev pub reference_front : Reference → List ℕ
reference_front r = spaced (codes "ref" ∷ identifier_text r.flight ∷ r.manager ∷ decimal r.version ∷ state_text r.state ∷ [])

abbrev pub reference_back : Reference → List ℕ
reference_back r = codes " " ++ line (signed_decimal r.start ∷ signed_decimal r.end ∷ r.base ∷ identifier_text r.ticket ∷ [])

-- `sub TICKET INDEX BASE`
unfoldable pub subscriber_line : Subscriber → List ℕ
subscriber_line s = line (codes "sub" ∷ identifier_text s.ticket ∷ decimal s.index ∷ s.base ∷ [])

-- the word and the count of the references, and a line for each
unfoldable pub references_text : List ℕ → List Reference → List ℕ
references_text word rs = line (word ∷ decimal (length rs) ∷ []) ++ flat_map reference_line rs

unfoldable pub subscribers_text : List Subscriber → List ℕ
subscribers_text ss = line (codes "subscribers" ∷ decimal (length ss) ∷ []) ++ flat_map subscriber_line ss

-- the reference, and who is to be notified of its change
unfoldable pub change_text : List ℕ → Reference → List Subscriber → List ℕ
change_text word r ss = line (word ∷ []) ++ (reference_line r ++ subscribers_text ss)

-- `ticket TICKET MANAGER 1 INDEX`
unfoldable pub ticket_line : Ticket → List ℕ
ticket_line t = line (codes "ticket" ∷ identifier_text t.id ∷ t.manager ∷ codes "1" ∷ decimal t.index ∷ [])

-- `tremoved TICKET`
abbrev pub removed_ticket_line : Ticket → List ℕ
removed_ticket_line t = line (codes "tremoved" ∷ identifier_text t.id ∷ [])

-- what a key lacks, after the line of the refusal
abbrev pub missing_text : DssRefusal → List ℕ
missing_text (MissingKey rs) = references_text (codes "missing") rs
missing_text refusal = []

unfoldable pub refused_text : DssRefusal → List ℕ
refused_text refusal = line (codes "refused" ∷ decimal (refusal_number refusal) ∷ []) ++ missing_text refusal

unfoldable pub reply_text : DssReply → List ℕ
reply_text (Found rs) = references_text (codes "found") rs
reply_text (Got r) = reference_line r
reply_text (Landed r ss) = change_text (codes "landed") r ss
reply_text (Removed r ss) = change_text (codes "removed") r ss
reply_text (TicketMade t) = ticket_line t
reply_text (TicketGot t) = ticket_line t
reply_text (TicketRemoved t) = removed_ticket_line t
reply_text (Refused refusal) = refused_text refusal
