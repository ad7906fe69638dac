-- The world: one discovery service, suppliers, and every message that was ever sent between them. This project's own.
use Rattle.std.specs.Prelude.{ℕ, zero, suc, ℤ, pos, ◌==◌, List, [], ◌∷◌, map, find, slice_get, Option, Some, None}
use Rattle.std.specs.Option.{option_map}
use Rattle.uss_vol4.specs.Volume.{earliest}
use Rattle.uss_intent.specs.Same.{same_text}
use Rattle.uss_intent.specs.declared.calls.DssReply.{DssReply}
use Rattle.uss_event.specs.declared.entries.Owner.{Owner}
use Rattle.uss_event.specs.declared.entries.Entry.{Entry}
use Rattle.uss_event.specs.declared.entries.Entry.TheVariants as Enters
use Rattle.uss_event.specs.declared.calls.DssCall.{DssCall}
use Rattle.uss_event.specs.declared.calls.PeerCall.{PeerCall}
use Rattle.uss_event.specs.declared.calls.PeerCall.TheVariants as Calls
use Rattle.uss_event.specs.declared.calls.PeerReply.{PeerReply}
use Rattle.uss_event.specs.declared.calls.Outgoing.{Outgoing}
use Rattle.uss_event.specs.declared.calls.Outgoing.TheVariants as Goes
use Rattle.uss_event.specs.declared.events.Said.{Said}
use Rattle.uss_law_dss.specs.Service.{Service, empty}
use Rattle.uss_event.specs.Heard.{News}

-- a supplier: whose it is, its book, and what it heard since it last started
pub record Supplier : Type 0 where
  pub owner : Owner
  pub book : List Entry
  pub heard : List News

-- a message; a reply stands beside the call that it answers, and the number of that message
pub data Post : Type 0 where
  -- a supplier calls the discovery service
  Called : (from : ℕ) (call : DssCall) → Post
  Replied : (to answered : ℕ) (call : DssCall) (reply : DssReply) → Post
  -- a supplier calls another, which may not exist
  Asked : (from : ℕ) (to : Option ℕ) (call : PeerCall) → Post
  Answered : (to answered : ℕ) (call : PeerCall) (reply : PeerReply) → Post

-- what a step of a supplier said, with the request that it is about: of a flight, by its number; 0 where there is none
pub record Saying : Type 0 where
  pub supplier : ℕ
  pub flight : ℕ
  pub number : ℕ
  pub said : Said

pub record World : Type 0 where
  pub service : Service
  pub suppliers : List Supplier
  -- every message, oldest first: they are numbered from 1 as they are sent, and never forgotten
  pub posts : List Post
  -- the numbers of those that were delivered, and of those that are passed over
  pub delivered : List ℕ
  pub lost : List ℕ
  -- what the suppliers said, oldest first
  pub sayings : List Saying
  -- in ns since 1970-01-01T00:00:00Z
  pub moment : ℤ

-- the supplier with a number: the first that has it
unfoldable pub supplier_in : ℕ → List Supplier → Option Supplier
supplier_in s suppliers = find (λ (x : Supplier). x.owner.number == s) suppliers

abbrev pub book_in : Option Supplier → List Entry
book_in None = []
book_in (Some x) = x.book

abbrev pub heard_in : Option Supplier → List News
heard_in None = []
heard_in (Some x) = x.heard

abbrev pub name_in : Option Supplier → List ℕ
name_in None = []
name_in (Some x) = x.owner.name

abbrev pub book_of : ℕ → World → List Entry
book_of s w = book_in (supplier_in s w.suppliers)

abbrev pub heard_of : ℕ → World → List News
heard_of s w = heard_in (supplier_in s w.suppliers)

-- the name by which the discovery service knows a supplier
abbrev pub name_of : ℕ → World → List ℕ
name_of s w = name_in (supplier_in s w.suppliers)

-- the message with a number, from 1 on
abbrev pub post_at : ℕ → World → Option Post
post_at zero w = None
post_at (suc k) w = slice_get w.posts k

abbrev pub number_of : Supplier → ℕ
number_of x = x.owner.number

-- whom a call of another supplier goes to: a question for details to the flight's manager, a notification to the supplier whose
-- base URL it names
abbrev pub addressee : List Supplier → PeerCall → Option ℕ
addressee suppliers (Calls.Details job flight manager base) = option_map number_of (find (λ (x : Supplier). same_text x.owner.name manager) suppliers)
addressee suppliers (Calls.Notify job index base note) = option_map number_of (find (λ (x : Supplier). same_text x.owner.base base) suppliers)

-- a call that a supplier hands out, as a message
abbrev pub post_of : List Supplier → ℕ → Outgoing → Post
post_of suppliers s (Goes.Dss call) = Called s call
post_of suppliers s (Goes.Peer call) = Asked s (addressee suppliers call) call

-- a supplier at first: its book says whose it is
abbrev pub new_supplier : Owner → Supplier
new_supplier owner = record { owner = owner; book = Enters.Owner owner ∷ []; heard = [] }

-- the world at first, on 2000-01-01: a new discovery service, these suppliers, and nothing sent
abbrev pub start : List Owner → World
start owners =
    record { service = empty; suppliers = map new_supplier owners; posts = []; delivered = []; lost = []; sayings = []; moment = earliest }
