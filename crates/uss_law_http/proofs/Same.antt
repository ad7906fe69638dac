-- The same bytes have one answer.
use Rattle.std.proofs.Common.{◌≡◌, List, ℕ, refl, sym, ap, subst, inl, inr, Ok, Err}
use Rattle.std.specs.Prelude.{Result}
use Rattle.uss_http_request.specs.declared.fields.Framing.{Framing}
use Rattle.uss_http_request.specs.declared.fields.Framing.TheVariants.{Nothing, Length, Chunked}
use Rattle.uss_http_request.specs.declared.heads.Head.{Head}
use Rattle.uss_http_request.specs.declared.refusal.ReadRefusal.{ReadRefusal}
use Rattle.uss_http_request.specs.declared.refusal.ReadRefusal.TheVariants as refusal
use Rattle.uss_http_request.specs.declared.request.Request.{Request}
use Rattle.uss_http_request.specs.Bodies.{IsBody, IsRefusedBody}
use Rattle.uss_http_request.specs.Requests.{IsRequest, IsRefused, IsAnswerOf}
use Rattle.uss_law_http.specs.Found.{IsByTheBytes}
use Rattle.uss_law_http.proofs.One.{one_head, one_whole, no_refused_head, one_reason, one_length, one_sized_reason}
use Rattle.uss_law_http.proofs.Ends.{malformed, much, cut, whole, one_kind, comes_fault, comes_much, comes_cut, comes_whole}

pub body_or_refused : (framing : Framing) (bytes b : List ℕ) (e : ReadRefusal) → IsBody framing bytes b → IsRefusedBody framing bytes e → ⊥
body_or_refused Nothing bytes b e x y = y
body_or_refused (Length n) bytes b e x y = one_length n bytes b e x y
body_or_refused Chunked bytes b refusal.HeadTooLarge x y = y
body_or_refused Chunked bytes b refusal.BadHead x y = y
body_or_refused Chunked bytes b refusal.Truncated x y = let e : whole ≡ cut = one_kind bytes whole cut (comes_whole bytes b x) (comes_cut bytes y) (λ same. cc) (λ same. cc) in absurd (cc)
body_or_refused Chunked bytes b refusal.NoClient x y = y
body_or_refused Chunked bytes b refusal.BodyTooLarge x y = let e : whole ≡ much = one_kind bytes whole much (comes_whole bytes b x) (comes_much bytes y) (λ same. cc) (λ same. cc) in absurd (cc)
body_or_refused Chunked bytes b refusal.BadChunk x y = let e : whole ≡ malformed = one_kind bytes whole malformed (comes_whole bytes b x) (comes_fault bytes y) (λ same. cc) (λ same. cc) in absurd (cc)
body_or_refused Chunked bytes b refusal.Fault x y = y
body_or_refused Chunked bytes b refusal.Memory x y = y

pub one_body_reason : (framing : Framing) (bytes : List ℕ) (d e : ReadRefusal) → IsRefusedBody framing bytes d → IsRefusedBody framing bytes e → d ≡ e
one_body_reason Nothing bytes d e x y = absurd x
one_body_reason (Length n) bytes d e x y = one_sized_reason n bytes d e x y
one_body_reason Chunked bytes refusal.HeadTooLarge e x y = absurd x
one_body_reason Chunked bytes refusal.BadHead e x y = absurd x
one_body_reason Chunked bytes refusal.Truncated refusal.HeadTooLarge x y = absurd y
one_body_reason Chunked bytes refusal.Truncated refusal.BadHead x y = absurd y
one_body_reason Chunked bytes refusal.Truncated refusal.Truncated x y = refl
one_body_reason Chunked bytes refusal.Truncated refusal.NoClient x y = absurd y
one_body_reason Chunked bytes refusal.Truncated refusal.BodyTooLarge x y = let e : cut ≡ much = one_kind bytes cut much (comes_cut bytes x) (comes_much bytes y) (λ same. cc) (λ same. cc) in absurd (cc)
one_body_reason Chunked bytes refusal.Truncated refusal.BadChunk x y = let e : cut ≡ malformed = one_kind bytes cut malformed (comes_cut bytes x) (comes_fault bytes y) (λ same. cc) (λ same. cc) in absurd (cc)
one_body_reason Chunked bytes refusal.Truncated refusal.Fault x y = absurd y
one_body_reason Chunked bytes refusal.Truncated refusal.Memory x y = absurd y
one_body_reason Chunked bytes refusal.NoClient e x y = absurd x
one_body_reason Chunked bytes refusal.BodyTooLarge refusal.HeadTooLarge x y = absurd y
one_body_reason Chunked bytes refusal.BodyTooLarge refusal.BadHead x y = absurd y
one_body_reason Chunked bytes refusal.BodyTooLarge refusal.Truncated x y = let e : much ≡ cut = one_kind bytes much cut (comes_much bytes x) (comes_cut bytes y) (λ same. cc) (λ same. cc) in absurd (cc)
one_body_reason Chunked bytes refusal.BodyTooLarge refusal.NoClient x y = absurd y
one_body_reason Chunked bytes refusal.BodyTooLarge refusal.BodyTooLarge x y = refl
one_body_reason Chunked bytes refusal.BodyTooLarge refusal.BadChunk x y = let e : much ≡ malformed = one_kind bytes much malformed (comes_much bytes x) (comes_fault bytes y) (λ same. cc) (λ same. cc) in absurd (cc)
one_body_reason Chunked bytes refusal.BodyTooLarge refusal.Fault x y = absurd y
one_body_reason Chunked bytes refusal.BodyTooLarge refusal.Memory x y = absurd y
one_body_reason Chunked bytes refusal.BadChunk refusal.HeadTooLarge x y = absurd y
one_body_reason Chunked bytes refusal.BadChunk refusal.BadHead x y = absurd y
one_body_reason Chunked bytes refusal.BadChunk refusal.Truncated x y = let e : malformed ≡ cut = one_kind bytes malformed cut (comes_fault bytes x) (comes_cut bytes y) (λ same. cc) (λ same. cc) in absurd (cc)
one_body_reason Chunked bytes refusal.BadChunk refusal.NoClient x y = absurd y
one_body_reason Chunked bytes refusal.BadChunk refusal.BodyTooLarge x y = let e : malformed ≡ much = one_kind bytes malformed much (comes_fault bytes x) (comes_much bytes y) (λ same. cc) (λ same. cc) in absurd (cc)
one_body_reason Chunked bytes refusal.BadChunk refusal.BadChunk x y = refl
one_body_reason Chunked bytes refusal.BadChunk refusal.Fault x y = absurd y
one_body_reason Chunked bytes refusal.BadChunk refusal.Memory x y = absurd y
one_body_reason Chunked bytes refusal.Fault e x y = absurd x
one_body_reason Chunked bytes refusal.Memory e x y = absurd x

-- what is said of the body after one head is said of it after the other
moved : (bytes : List ℕ) (h k : Head) (r q : List ℕ) (e : ReadRefusal) → (h ≡ k) × (r ≡ q) → IsRefusedBody k.framing q e → IsRefusedBody h.framing r e
moved bytes h k r q e same x =
    let there : IsRefusedBody h.framing q e = subst (λ (head : Head). IsRefusedBody head.framing q e) (sym same.0) x in
    subst (λ (rest : List ℕ). IsRefusedBody h.framing rest e) (sym same.1) there

not_both : (bytes : List ℕ) (request : Request) (e : ReadRefusal) → IsRequest bytes request → IsRefused bytes e → ⊥
not_both bytes request e x (inl h) = no_refused_head bytes x.head x.rest e x.has_head h
not_both bytes request e x (inr b) =
    let same = one_head bytes x.head b.head x.rest b.rest x.has_head b.has_head in
    body_or_refused x.head.framing x.rest request.body e x.has_body (moved bytes x.head b.head x.rest b.rest e same b.refused)

one_refusal : (bytes : List ℕ) (d e : ReadRefusal) → IsRefused bytes d → IsRefused bytes e → d ≡ e
one_refusal bytes d e (inl x) (inl y) = one_reason bytes d e x y
one_refusal bytes d e (inl x) (inr y) = absurd (no_refused_head bytes y.head y.rest d y.has_head x)
one_refusal bytes d e (inr x) (inl y) = absurd (no_refused_head bytes x.head x.rest e x.has_head y)
one_refusal bytes d e (inr x) (inr y) =
    let same = one_head bytes x.head y.head x.rest y.rest x.has_head y.has_head in
    one_body_reason x.head.framing x.rest d e x.refused (moved bytes x.head y.head x.rest y.rest e same y.refused)

refused_for : (bytes : List ℕ) (e : ReadRefusal) → IsByTheBytes (Err e) → IsAnswerOf bytes (Err e) → IsRefused bytes e
refused_for bytes refusal.HeadTooLarge found x = x
refused_for bytes refusal.BadHead found x = x
refused_for bytes refusal.Truncated found x = x
refused_for bytes refusal.NoClient found x = x
refused_for bytes refusal.BodyTooLarge found x = x
refused_for bytes refusal.BadChunk found x = x
refused_for bytes refusal.Fault found x = absurd found
refused_for bytes refusal.Memory found x = absurd found

pub one_answer : (bytes : List ℕ) (a b : Result Request ReadRefusal) → IsByTheBytes a → IsByTheBytes b → IsAnswerOf bytes a → IsAnswerOf bytes b → a ≡ b
one_answer bytes (Ok r) (Ok q) f g x y = ap Ok (one_whole bytes r q x y)
one_answer bytes (Ok r) (Err e) f g x y = absurd (not_both bytes r e x (refused_for bytes e g y))
one_answer bytes (Err e) (Ok q) f g x y = absurd (not_both bytes q e y (refused_for bytes e f x))
one_answer bytes (Err d) (Err e) f g x y = ap Err (one_refusal bytes d e (refused_for bytes d f x) (refused_for bytes e g y))
