-- When `==` says that two values are the same: in each of their fields, and calls in their kind too.
use Rattle.std.specs.Prelude.{ℕ, Bool, false, ◌&&◌, ◌==◌, nat_eq, List}
use Rattle.std.specs.Cmp.Lexicographic.{pointwise}
use Rattle.std.specs.Option.{option_eq}
use Rattle.std.specs.Ordering.{int_eq}
use Rattle.uss_vol4.specs.Same.{same_volume}
use Rattle.uss_intent.specs.declared.records.Reference.{Reference}
use Rattle.uss_intent.specs.declared.records.Recorded.{Recorded}
use Rattle.uss_intent.specs.declared.records.Ticket.{Ticket}
use Rattle.uss_intent.specs.declared.calls.DssAsk.{DssAsk}
use Rattle.uss_intent.specs.declared.calls.DssAsk.TheVariants.{Query, Get, Put, Remove, TicketPut, TicketGet, TicketRemove}
use Rattle.uss_intent.specs.States.{same_state}

abbrev pub same_text : List ℕ → List ℕ → Bool
same_text = pointwise nat_eq

abbrev pub same_reference : Reference → Reference → Bool
same_reference a b =
    (a.flight == b.flight) && (same_text a.manager b.manager && ((a.version == b.version) && (same_state a.state b.state && (option_eq same_text a.ovn b.ovn
    && (int_eq a.start b.start && (int_eq a.end b.end && (same_text a.base b.base && (a.ticket == b.ticket))))))))

abbrev pub same_recorded : Recorded → Recorded → Bool
same_recorded a b = same_reference a.reference b.reference && pointwise same_volume a.extents b.extents

abbrev pub same_ticket : Ticket → Ticket → Bool
same_ticket a b = (a.id == b.id) && (same_text a.manager b.manager && (same_volume a.area b.area && (same_text a.base b.base && (a.index == b.index))))

abbrev pub same_ask : DssAsk → DssAsk → Bool
same_ask (Query a) (Query b) = same_volume a b
same_ask (Get f) (Get g) = f == g
same_ask (Put f o e k s b t) (Put f' o' e' k' s' b' t') =
    (f == f') && (option_eq same_text o o' && (pointwise same_volume e e' && (pointwise same_text k k' && (same_state s s' && (same_text b b' && (t == t'))))))
same_ask (Remove f o) (Remove f' o') = (f == f') && same_text o o'
same_ask (TicketPut t a b) (TicketPut t' a' b') = (t == t') && (same_volume a a' && same_text b b')
same_ask (TicketGet t) (TicketGet t') = t == t'
same_ask (TicketRemove t v) (TicketRemove t' v') = (t == t') && (v == v')
same_ask _ _ = false
