-- What a job learns of the airspace, and how it chooses among its alternatives: it asks what is recorded in its ticket's area, asks other
-- suppliers for the details that it hasn't heard, and chooses against those pairs. That a plan is held against the intents that share its
-- area, and that the key has their OVNs, is after ASTM F3548-21 (strategic conflict detection); the rest is this project's own.
use Rattle.std.specs.Prelude.{ℕ, Bool, false, not, ◌&&◌, ◌==◌, List, filter_map, find, Option, Some, None, option_and_then, is_some, if◌then◌else◌}
use Rattle.uss_intent.specs.Same.{same_text}
use Rattle.uss_intent.specs.declared.records.Reference.{Reference}
use Rattle.uss_intent.specs.Numbers.{is_one_of}
use Rattle.uss_event.specs.Pairs.{OperationalIntent}
use Rattle.uss_event.specs.declared.asks.Wish.{Wish}
use Rattle.uss_event.specs.declared.asks.Wish.TheVariants.{Put, End}
use Rattle.uss_event.specs.declared.entries.Owner.{Owner}
use Rattle.uss_event.specs.declared.entries.Entry.{Entry}
use Rattle.uss_plan.specs.declared.choice.Choice.{Choice}
use Rattle.uss_plan.specs.declared.choice.Choice.TheVariants.{Chosen}
use Rattle.uss_plan.specs.Choice.{wanted, choice}
use Rattle.uss_event.specs.declared.entries.Opening.{Opening}
use Rattle.uss_law_book.specs.Lists.{openings}
use Rattle.uss_law_book.specs.Attempts.{held}
use Rattle.uss_event.specs.Heard.{News, kept_pair}
use Rattle.uss_law_duty.specs.Answers.{flight_of}
use Rattle.uss_law_supplier.specs.Values.{Round}
use Rattle.uss_law_supplier.specs.Turns.{Standing}

-- what is held of the owner's flight with an identifier
abbrev pub flight_found : Owner → ℕ → List Entry → Option Opening
flight_found owner id book = find (λ o. flight_of owner o == id) (openings book)

unfoldable pub held_as : Owner → ℕ → List Entry → Option OperationalIntent
held_as owner id book = option_and_then (λ (o : Opening). held o.ask.flight book) (flight_found owner id book)

-- the owner manages the reference, whatever its identifier says
abbrev pub is_own : Owner → Reference → Bool
is_own owner r = same_text r.manager owner.name

-- the pair is of the reference's version
abbrev pub is_of_version : ℕ → Option OperationalIntent → Bool
is_of_version version None = false
is_of_version version (Some p) = p.reference.version == version

-- another supplier manages the reference, no pair of its version is kept of its flight, and this round hasn't asked for it
unfoldable pub is_unheard : Owner → List News → Round → Reference → Bool
is_unheard owner heard round r =
    not (is_own owner r) && (not (is_one_of r.flight round.asked) && not (is_of_version r.version (kept_pair r.flight heard)))

-- the next reference whose details are to be asked for: the first that was found and is unheard
abbrev pub next_unheard : Owner → List News → Round → Option Reference
next_unheard owner heard round = find (is_unheard owner heard round) round.found

abbrev pub is_left : Owner → List News → Round → Bool
is_left owner heard round = is_some (next_unheard owner heard round)

-- the pair that a plan is held against for a reference: what is held of an own flight; of another, the kept pair, unless its manager holds
-- nothing of it
unfoldable pub pair_of : Standing → Round → Reference → Option OperationalIntent
pair_of s round r =
    if is_own s.owner r then held_as s.owner r.flight s.book
    else if is_one_of r.flight round.gone then None
    else kept_pair r.flight s.values.heard

-- the pairs of the choice, ascending by flight as the references are; a reference without a pair is left out
unfoldable pub pairs_in : Standing → Round → List OperationalIntent
pairs_in s round = filter_map (pair_of s round) round.found

abbrev pub ovn_of : OperationalIntent → Option (List ℕ)
ovn_of p = p.reference.ovn

-- the key of an attempt: the OVNs of the pairs of the choice, in their order
unfoldable pub key_of : List OperationalIntent → List (List ℕ)
key_of pairs = filter_map ovn_of pairs

-- the choice of a job, held against these pairs; what is held of its own flight is what it changes
abbrev pub choice_by : Standing → Opening → List OperationalIntent → Wish → Choice
choice_by s o pairs (Put to priority rounds proposals) =
    choice (wanted s.owner.table (flight_of s.owner o) to priority (held o.ask.flight s.book)) proposals pairs
choice_by s o pairs End = Chosen 0

abbrev pub choice_of : Standing → Opening → List OperationalIntent → Choice
choice_of s o pairs = choice_by s o pairs o.ask.wish
