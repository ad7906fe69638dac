-- A refusal of the discovery service is known by its status and its number.
use Rattle.std.proofs.Common.{◌≡◌, ℕ, ◌<◌, ◌^◌, Bool, true, false, List, [], ◌∷◌, Option, Some, None, Err, refl, ap, ◌∙◌, cond, subst, arith}
use Rattle.std.specs.Prelude.{find, ◌==◌}
use Rattle.std.proofs.lemmas.Bool.Decides.{nat_tests}
use Rattle.uss_intent.specs.Refusals.{refusal_number}
use Rattle.uss_intent.specs.declared.calls.DssRefusal.{DssRefusal}
use Rattle.uss_intent.specs.declared.calls.DssRefusal.TheVariants.{BadCall, NotYours, Exists, Retired, Absent, StaleOvn, NoTicket, NotCovered, MissingKey, TicketInUse, Full}
use Rattle.uss_intent.specs.declared.records.Reference.{Reference}
use Rattle.uss_http_response.specs.declared.response.Response.{Response}
use Rattle.uss_wire_base.proofs.Again.{message_again}
use Rattle.uss_wire_dss.specs.declared.errors.ErrorBody.{ErrorBody}
use Rattle.uss_wire_dss.specs.ChangesAndErrors.{error_at}
use Rattle.uss_wire_dss.specs.ReplyWriting.{error_json, IsReadableError}
use Rattle.uss_wire_dss.proofs.RepliesAgain.{error_again}
use Rattle.uss_rest.specs.DssRefusals.{status_of, name_of, error_of, missing_of, refusals_with, refusal_numbered, with_status, refusal_from, refusal_read, refusal_in, as_sent, IsResponseOf}
use Rattle.uss_rest.specs.Errors.{error_with}

pub pair : (r : DssRefusal) → refusal_from (status_of r) (error_of r) ≡ Some (as_sent r)
pair BadCall = refl
pair NotYours = refl
pair Exists = refl
pair Retired = refl
pair Absent = refl
pair StaleOvn = refl
pair NoTicket = refl
pair NotCovered = refl
pair (MissingKey references) = refl
pair TicketInUse = refl
pair (Full limit) = refl

-- what is found has the number
found_passes : (p : DssRefusal → Bool) (rs : List DssRefusal) (r : DssRefusal) → find p rs ≡ Some r → p r ≡ true
found_passes p [] r h = cc
found_passes p (x ∷ xs) r h = go (p x) refl (found_passes p xs r) h
  where
    go : (b : Bool) → p x ≡ b → (find p xs ≡ Some r → p r ≡ true) → cond b (Some x) (find p xs) ≡ Some r → p r ≡ true
    go true e rec f = let q : x ≡ r = cc in subst (λ z. p z ≡ true) q e
    go false e rec f = rec f

-- and the status
has_status : (status : ℕ) (found : Option DssRefusal) (r : DssRefusal) → with_status status found ≡ Some r → (status_of r ≡ status) × (found ≡ Some r)
has_status status None r h = cc
has_status status (Some x) r h = go (status_of x == status) refl h
  where
    go : (b : Bool) → (status_of x == status) ≡ b → cond b (Some x) None ≡ Some r → (status_of r ≡ status) × (Some x ≡ Some r)
    go true e f = let q : x ≡ r = cc in (subst (λ z. status_of z ≡ status) q (grind (arith, nat_tests)), f)
    go false e f = cc

pub only : (status : ℕ) (e : ErrorBody) (r : DssRefusal) → refusal_from status e ≡ Some r → (status_of r ≡ status) × (refusal_number r ≡ e.refusal)
only status e r h =
    let s = has_status status (refusal_numbered e.refusal e.missing) r h in
    let n = found_passes (λ x. refusal_number x == e.refusal) (refusals_with e.missing) r s.1 in
    (s.0, grind (arith, nat_tests, n))

-- each of the refusals that an error body can stand for has its references
abbrev HasThem : List Reference → DssRefusal → Type 0
HasThem references (MissingKey others) = others ≡ references
HasThem references _ = Unit {0}

abbrev AllThem : List Reference → List DssRefusal → Type 0
AllThem references [] = Unit {0}
AllThem references (r ∷ rs) = HasThem references r × AllThem references rs

found_has_them : (references : List Reference) (p : DssRefusal → Bool) (rs : List DssRefusal) (r : DssRefusal) → AllThem references rs → find p rs ≡ Some r → HasThem references r
found_has_them references p [] r all h = cc
found_has_them references p (x ∷ xs) r all h = go (p x) (found_has_them references p xs r all.1) h
  where
    go : (b : Bool) → (find p xs ≡ Some r → HasThem references r) → cond b (Some x) (find p xs) ≡ Some r → HasThem references r
    go true rec f = let q : x ≡ r = cc in subst (HasThem references) q all.0
    go false rec f = rec f

pub missing : (status : ℕ) (e : ErrorBody) (references : List Reference) → refusal_from status e ≡ Some (MissingKey references) → references ≡ e.missing
missing status e references h =
    let s = has_status status (refusal_numbered e.refusal e.missing) (MissingKey references) h in
    found_has_them e.missing (λ x. refusal_number x == e.refusal) (refusals_with e.missing) (MissingKey references) (tt, (tt, (tt, (tt, (tt, (tt, (tt, (tt, (refl, (tt, (tt, tt))))))))))) s.1

-- ---- bytes
pub again : (client : List ℕ) (r : DssRefusal) (response : Response) → IsReadableError client (error_of r) → IsResponseOf r response
    → refusal_in client response.status response.body ≡ Some (as_sent r)
again client r response readable is =
    ap (refusal_read response.status) (message_again (error_at client) (error_json (error_of r)) response.body is.body ∙ error_again client (error_of r) readable)
    ∙ ap (λ s. refusal_from s (error_of r)) is.status ∙ pair r

-- ---- refusals without references
small : (r : DssRefusal) → refusal_number r < 2 ^ 16
small BadCall = omega arith
small NotYours = omega arith
small Exists = omega arith
small Retired = omega arith
small Absent = omega arith
small StaleOvn = omega arith
small NoTicket = omega arith
small NotCovered = omega arith
small (MissingKey references) = omega arith
small TicketInUse = omega arith
small (Full limit) = omega arith

pub readable : (client : List ℕ) (r : DssRefusal) → missing_of r ≡ [] → IsReadableError client (error_of r)
readable client r none = record { refusal = small r; each = rw none tt; few = rw none (omega arith); only = λ other. none }

pub plain : (r : DssRefusal) → missing_of r ≡ [] → error_of r ≡ error_with (name_of r) (refusal_number r)
plain r none = ap (λ m. record { message = name_of r; refusal = refusal_number r; missing = m }) none
