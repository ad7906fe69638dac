-- Which messages come of what a supplier sends and says.
use Rattle.std.proofs.Common.{ℕ, ◌≡◌, inl, inr, List, refl, ap, Option, Some, None}
use Rattle.uss_intent.specs.declared.calls.DssReply.{DssReply}
use Rattle.uss_event.specs.Pairs.{OperationalIntent}
use Rattle.uss_event.specs.declared.calls.DssCall.{DssCall}
use Rattle.uss_event.specs.declared.calls.PeerCall.{PeerCall}
use Rattle.uss_event.specs.declared.calls.PeerReply.{PeerReply}
use Rattle.uss_event.specs.declared.calls.PeerReply.TheVariants as Peers
use Rattle.uss_event.specs.declared.calls.Outgoing.{Outgoing}
use Rattle.uss_event.specs.declared.calls.Outgoing.TheVariants as Goes
use Rattle.uss_event.specs.declared.events.Said.{Said}
use Rattle.uss_event.specs.declared.events.Said.TheVariants as Says
use Rattle.uss_law_dss.specs.Lists.{Has}
use Rattle.uss_law_dss.proofs.Tests.{some_same}
use Rattle.uss_law_world.specs.World.{Supplier, Post, post_of}
use Rattle.uss_law_world.specs.World.Post.{Called, Replied, Asked, Answered}
use Rattle.uss_law_world.specs.Moves.{Asker, pair_reply, reply_by, answer_with, answer_to}

-- which sends give which messages
pub sent_call : (xs : List Supplier) (s : ℕ) (x : Outgoing) (k : ℕ) (call : DssCall) → post_of xs s x ≡ Called k call → (s ≡ k) × (x ≡ Goes.Dss call)
sent_call xs s (Goes.Dss c) k call e = (cc, cc)
sent_call xs s (Goes.Peer c) k call e = cc

pub sent_reply : {P : Type 0} (xs : List Supplier) (s : ℕ) (x : Outgoing) (k n : ℕ) (call : DssCall) (reply : DssReply) → post_of xs s x ≡ Replied k n call reply → P
sent_reply xs s (Goes.Dss c) k n call reply e = cc
sent_reply xs s (Goes.Peer c) k n call reply e = cc

pub sent_answer : {P : Type 0} (xs : List Supplier) (s : ℕ) (x : Outgoing) (k n : ℕ) (call : PeerCall) (reply : PeerReply) → post_of xs s x ≡ Answered k n call reply → P
sent_answer xs s (Goes.Dss c) k n call reply e = cc
sent_answer xs s (Goes.Peer c) k n call reply e = cc

pub sent_peer : (xs : List Supplier) (s : ℕ) (x : Outgoing) (k : ℕ) (to : Option ℕ) (call : PeerCall) → post_of xs s x ≡ Asked k to call → (s ≡ k) × (x ≡ Goes.Peer call)
sent_peer xs s (Goes.Dss c) k to call e = cc
sent_peer xs s (Goes.Peer c) k to call e = (cc, cc)

-- an answer is a reply to a call of another supplier
answers_with : (asker : Asker) (x : Option PeerReply) (p : Post) → Has (answer_with asker x) p → (reply : PeerReply) × (x ≡ Some reply) × (Answered asker.from asker.number asker.call reply ≡ p)
answers_with asker None p h = absurd h
answers_with asker (Some reply) p (inl e) = (reply, refl, e)
answers_with asker (Some reply) p (inr n) = absurd n

pub answered : (asker : Option Asker) (said : Said) (p : Post) → Has (answer_to asker said) p → (a : Asker) × (reply : PeerReply) × (reply_by said ≡ Some reply) × (Answered a.from a.number a.call reply ≡ p)
answered None said p h = absurd h
answered (Some a) said p h = let x = answers_with a (reply_by said) p h in (a, x.0, x.1, x.2)

served_reply : (x : Option OperationalIntent) (p : OperationalIntent) → pair_reply x ≡ Peers.Served p → x ≡ Some p
served_reply None p e = cc
served_reply (Some q) p e = cc

pub served_said : (said : Said) (p : OperationalIntent) → reply_by said ≡ Some (Peers.Served p) → said ≡ Says.Pair (Some p)
served_said (Says.Pair pair) p e = ap Says.Pair (served_reply pair p (some_same (pair_reply pair) (Peers.Served p) e))
served_said Says.Noted p e = cc
served_said Says.NotManager p e = cc
served_said _ p e = cc
