-- The same bytes up to the end of a stream have one answer as a response.
use Rattle.std.proofs.Math.Seq.{take-append-add}
use Rattle.std.proofs.Common.{◌≡◌, ℕ, ◌+◌, ◌-◌, ◌<◌, List, [], ◌++◌, length, take, Some, None, refl, sym, ap, ◌∙◌, subst, arith, Ok, Err, inl, inr, append-nil, take_all}
use Rattle.std.specs.Prelude.{map, option_map, Option, Result}
use Rattle.httparse.specs.Grammar.{ResponseHead, print_response, status_code, ReadsResponse, NeverHasResponse}
use Rattle.httparse.specs.Spans.{name_and_value}
use Rattle.httparse.proofs.GrammarLemmas.{response_unique}
use Rattle.uss_http_request.specs.declared.refusal.ReadRefusal.{ReadRefusal}
use Rattle.uss_http_request.specs.declared.refusal.ReadRefusal.TheVariants as refusal
use Rattle.uss_http_request.specs.Pieces.{piece_limit}
use Rattle.uss_http_request.specs.Fields.{framing_of}
use Rattle.uss_http_response.specs.declared.heads.BodyEnd.{BodyEnd}
use Rattle.uss_http_response.specs.declared.heads.BodyEnd.TheVariants.{Framed, AtTheEnd}
use Rattle.uss_http_response.specs.declared.heads.StatusHead.{StatusHead}
use Rattle.uss_http_response.specs.declared.response.Response.{Response}
use Rattle.uss_http_response.specs.Heads.{BeginsWith, IsOpenHead, end_by, HasHead, HasRefusedHead, IsRefusedHead}
use Rattle.uss_http_response.specs.Responses.{IsBodyAt, IsRefusedBodyAt, IsResponse, IsRefused, IsAnswerOf}
use Rattle.uss_law_http.specs.Found.{IsResponseByTheBytes}
use Rattle.uss_law_http.proofs.One.{one_body}
use Rattle.uss_law_http.proofs.Same.{body_or_refused, one_body_reason}

one_tree : (bytes : List ℕ) (h k : ResponseHead) (r q : List ℕ) → BeginsWith bytes h r → BeginsWith bytes k q → (h ≡ k) × (r ≡ q)
one_tree bytes h k r q x y = response_unique bytes h k r q (x.valid, x.spelled) (y.valid, y.spelled)

some_same : {A : Type 0} (x y : A) → Some x ≡ Some y → x ≡ y
some_same x y e = cc

pub one_status_head : (bytes : List ℕ) (h k : StatusHead) (r q : List ℕ) → HasHead bytes h r → HasHead bytes k q → (h ≡ k) × (r ≡ q)
one_status_head bytes h k r q x y =
    let t = one_tree bytes x.tree y.tree r q x.begins y.begins in
    let status : h.status ≡ k.status = x.says.status_is ∙ ap status_code t.0 ∙ sym y.says.status_is in
    let ends : Some h.body ≡ Some k.body = sym x.says.ends ∙ ap (λ (tree : ResponseHead). option_map (end_by (status_code tree)) (framing_of (map name_and_value tree.fields))) t.0 ∙ y.says.ends in
    let body : h.body ≡ k.body = some_same h.body k.body ends in
    ((λ i. record { status = status i; body = body i }), t.1)

-- the head stands in the first 16 KiB
reads_front : (bytes rest : List ℕ) (h : ResponseHead) → BeginsWith bytes h rest → (left : List ℕ) × ReadsResponse (take piece_limit bytes) h left
reads_front bytes rest h x =
    let text = print_response h in
    let k = piece_limit - length text in
    let within = x.within in
    let n : piece_limit ≡ length text + k = omega arith in
    (take k rest, (x.valid, ap (take piece_limit) x.spelled ∙ ap (λ (j : ℕ). take j (text ++ rest)) n ∙ take-append-add text rest k))

not_open : (bytes rest : List ℕ) (h : ResponseHead) → BeginsWith bytes h rest → IsOpenHead (take piece_limit bytes) → ⊥
not_open bytes rest h x open_end = let f = reads_front bytes rest h x in open_end.none h f.0 f.1

not_never : (bytes rest : List ℕ) (h : ResponseHead) → BeginsWith bytes h rest → NeverHasResponse (take piece_limit bytes) → ⊥
not_never bytes rest h x bad = let f = reads_front bytes rest h x in bad [] h f.0 (f.1.0, append-nil (take piece_limit bytes) ∙ f.1.1)

not_cut : (bytes rest : List ℕ) (h : ResponseHead) → BeginsWith bytes h rest → IsOpenHead bytes → ⊥
not_cut bytes rest h x open_end = open_end.none h rest (x.valid, x.spelled)

never_or_open : (front : List ℕ) → NeverHasResponse front → IsOpenHead front → ⊥
never_or_open front bad open_end = let may = open_end.may in bad may.0 may.1 [] may.2

short : (bytes : List ℕ) → length bytes < piece_limit → IsOpenHead bytes → IsOpenHead (take piece_limit bytes)
short bytes few open_end = subst IsOpenHead (sym (take_all piece_limit bytes (omega arith))) open_end

nothing_mapped : {A B : Type 0} (f : A → B) (o : Option A) (b : B) → o ≡ None → option_map f o ≡ Some b → ⊥
nothing_mapped f None b e is = absurd (cc)
nothing_mapped f (Some a) b e is = absurd (cc)

framed_or_not : (bytes rest : List ℕ) (head : StatusHead) → HasHead bytes head rest → HasRefusedHead bytes → ⊥
framed_or_not bytes rest head x y =
    let t = one_tree bytes x.tree y.tree rest y.rest x.begins y.begins in
    nothing_mapped (end_by (status_code x.tree)) (framing_of (map name_and_value x.tree.fields)) head.body (ap (λ (tree : ResponseHead). framing_of (map name_and_value tree.fields)) t.0 ∙ y.unframed) x.says.ends

head_or_refused : (bytes rest : List ℕ) (head : StatusHead) (e : ReadRefusal) → HasHead bytes head rest → IsRefusedHead bytes e → ⊥
head_or_refused bytes rest head refusal.HeadTooLarge x y = not_open bytes rest x.tree x.begins y.1
head_or_refused bytes rest head refusal.BadHead x (inl bad) = not_never bytes rest x.tree x.begins bad
head_or_refused bytes rest head refusal.BadHead x (inr bad) = framed_or_not bytes rest head x bad
head_or_refused bytes rest head refusal.Truncated x y = not_cut bytes rest x.tree x.begins y.1
head_or_refused bytes rest head refusal.NoClient x y = y
head_or_refused bytes rest head refusal.BodyTooLarge x y = y
head_or_refused bytes rest head refusal.BadChunk x y = y
head_or_refused bytes rest head refusal.Fault x y = y
head_or_refused bytes rest head refusal.Memory x y = y

one_head_reason : (bytes : List ℕ) (d e : ReadRefusal) → IsRefusedHead bytes d → IsRefusedHead bytes e → d ≡ e
one_head_reason bytes refusal.HeadTooLarge refusal.HeadTooLarge x y = refl
one_head_reason bytes refusal.HeadTooLarge refusal.BadHead x (inl bad) = absurd (never_or_open (take piece_limit bytes) bad x.1)
one_head_reason bytes refusal.HeadTooLarge refusal.BadHead x (inr bad) = absurd (not_open bytes bad.rest bad.tree bad.begins x.1)
one_head_reason bytes refusal.HeadTooLarge refusal.Truncated x y = let p = x.0 in let q = y.0 in absurd (omega arith)
one_head_reason bytes refusal.HeadTooLarge refusal.NoClient x y = absurd y
one_head_reason bytes refusal.HeadTooLarge refusal.BodyTooLarge x y = absurd y
one_head_reason bytes refusal.HeadTooLarge refusal.BadChunk x y = absurd y
one_head_reason bytes refusal.HeadTooLarge refusal.Fault x y = absurd y
one_head_reason bytes refusal.HeadTooLarge refusal.Memory x y = absurd y
one_head_reason bytes refusal.BadHead refusal.HeadTooLarge (inl bad) y = absurd (never_or_open (take piece_limit bytes) bad y.1)
one_head_reason bytes refusal.BadHead refusal.HeadTooLarge (inr bad) y = absurd (not_open bytes bad.rest bad.tree bad.begins y.1)
one_head_reason bytes refusal.BadHead refusal.BadHead x y = refl
one_head_reason bytes refusal.BadHead refusal.Truncated (inl bad) y = absurd (never_or_open (take piece_limit bytes) bad (short bytes y.0 y.1))
one_head_reason bytes refusal.BadHead refusal.Truncated (inr bad) y = absurd (not_cut bytes bad.rest bad.tree bad.begins y.1)
one_head_reason bytes refusal.BadHead refusal.NoClient x y = absurd y
one_head_reason bytes refusal.BadHead refusal.BodyTooLarge x y = absurd y
one_head_reason bytes refusal.BadHead refusal.BadChunk x y = absurd y
one_head_reason bytes refusal.BadHead refusal.Fault x y = absurd y
one_head_reason bytes refusal.BadHead refusal.Memory x y = absurd y
one_head_reason bytes refusal.Truncated refusal.HeadTooLarge x y = let p = x.0 in let q = y.0 in absurd (omega arith)
one_head_reason bytes refusal.Truncated refusal.BadHead x (inl bad) = absurd (never_or_open (take piece_limit bytes) bad (short bytes x.0 x.1))
one_head_reason bytes refusal.Truncated refusal.BadHead x (inr bad) = absurd (not_cut bytes bad.rest bad.tree bad.begins x.1)
one_head_reason bytes refusal.Truncated refusal.Truncated x y = refl
one_head_reason bytes refusal.Truncated refusal.NoClient x y = absurd y
one_head_reason bytes refusal.Truncated refusal.BodyTooLarge x y = absurd y
one_head_reason bytes refusal.Truncated refusal.BadChunk x y = absurd y
one_head_reason bytes refusal.Truncated refusal.Fault x y = absurd y
one_head_reason bytes refusal.Truncated refusal.Memory x y = absurd y
one_head_reason bytes refusal.NoClient e x y = absurd x
one_head_reason bytes refusal.BodyTooLarge e x y = absurd x
one_head_reason bytes refusal.BadChunk e x y = absurd x
one_head_reason bytes refusal.Fault e x y = absurd x
one_head_reason bytes refusal.Memory e x y = absurd x

one_body_at : (end : BodyEnd) (bytes b c : List ℕ) → IsBodyAt end bytes b → IsBodyAt end bytes c → b ≡ c
one_body_at (Framed framing) bytes b c x y = one_body framing bytes b c x y
one_body_at AtTheEnd bytes b c x y = x.1 ∙ sym y.1

body_at_or_refused : (end : BodyEnd) (bytes b : List ℕ) (e : ReadRefusal) → IsBodyAt end bytes b → IsRefusedBodyAt end bytes e → ⊥
body_at_or_refused (Framed framing) bytes b e x y = body_or_refused framing bytes b e x y
body_at_or_refused AtTheEnd bytes b refusal.BodyTooLarge x y = let few = x.0 in absurd (omega arith)
body_at_or_refused AtTheEnd bytes b refusal.BadChunk x y = y
body_at_or_refused AtTheEnd bytes b refusal.Truncated x y = y
body_at_or_refused AtTheEnd bytes b refusal.HeadTooLarge x y = y
body_at_or_refused AtTheEnd bytes b refusal.BadHead x y = y
body_at_or_refused AtTheEnd bytes b refusal.NoClient x y = y
body_at_or_refused AtTheEnd bytes b refusal.Fault x y = y
body_at_or_refused AtTheEnd bytes b refusal.Memory x y = y

at_end_too_large : (bytes : List ℕ) (e : ReadRefusal) → IsRefusedBodyAt AtTheEnd bytes e → e ≡ refusal.BodyTooLarge
at_end_too_large bytes refusal.BodyTooLarge x = refl
at_end_too_large bytes refusal.BadChunk x = absurd x
at_end_too_large bytes refusal.Truncated x = absurd x
at_end_too_large bytes refusal.HeadTooLarge x = absurd x
at_end_too_large bytes refusal.BadHead x = absurd x
at_end_too_large bytes refusal.NoClient x = absurd x
at_end_too_large bytes refusal.Fault x = absurd x
at_end_too_large bytes refusal.Memory x = absurd x

one_body_at_reason : (end : BodyEnd) (bytes : List ℕ) (d e : ReadRefusal) → IsRefusedBodyAt end bytes d → IsRefusedBodyAt end bytes e → d ≡ e
one_body_at_reason (Framed framing) bytes d e x y = one_body_reason framing bytes d e x y
one_body_at_reason AtTheEnd bytes d e x y = at_end_too_large bytes d x ∙ sym (at_end_too_large bytes e y)

-- what is said of what follows one head is said of what follows the other
moved_refusal : (h k : StatusHead) (r q : List ℕ) (e : ReadRefusal) → (h ≡ k) × (r ≡ q) → IsRefusedBodyAt k.body q e → IsRefusedBodyAt h.body r e
moved_refusal h k r q e same x =
    let there : IsRefusedBodyAt h.body q e = subst (λ (head : StatusHead). IsRefusedBodyAt head.body q e) (sym same.0) x in
    subst (λ (rest : List ℕ). IsRefusedBodyAt h.body rest e) (sym same.1) there

moved_body : (h k : StatusHead) (r q b : List ℕ) → (h ≡ k) × (r ≡ q) → IsBodyAt k.body q b → IsBodyAt h.body r b
moved_body h k r q b same x =
    let there : IsBodyAt h.body q b = subst (λ (head : StatusHead). IsBodyAt head.body q b) (sym same.0) x in
    subst (λ (rest : List ℕ). IsBodyAt h.body rest b) (sym same.1) there

one_whole : (bytes : List ℕ) (r q : Response) → IsResponse bytes r → IsResponse bytes q → r ≡ q
one_whole bytes r q x y =
    let same = one_status_head bytes x.head y.head x.rest y.rest x.has_head y.has_head in
    let status : r.status ≡ q.status = x.status_is ∙ ap (λ (head : StatusHead). head.status) same.0 ∙ sym y.status_is in
    let body : r.body ≡ q.body = one_body_at x.head.body x.rest r.body q.body x.has_body (moved_body x.head y.head x.rest y.rest q.body same y.has_body) in
    λ i. record { status = status i; body = body i }

not_both : (bytes : List ℕ) (response : Response) (e : ReadRefusal) → IsResponse bytes response → IsRefused bytes e → ⊥
not_both bytes response e x (inl h) = head_or_refused bytes x.rest x.head e x.has_head h
not_both bytes response e x (inr b) =
    let same = one_status_head bytes x.head b.head x.rest b.rest x.has_head b.has_head in
    body_at_or_refused x.head.body x.rest response.body e x.has_body (moved_refusal x.head b.head x.rest b.rest e same b.refused)

one_refusal : (bytes : List ℕ) (d e : ReadRefusal) → IsRefused bytes d → IsRefused bytes e → d ≡ e
one_refusal bytes d e (inl x) (inl y) = one_head_reason bytes d e x y
one_refusal bytes d e (inl x) (inr y) = absurd (head_or_refused bytes y.rest y.head d y.has_head x)
one_refusal bytes d e (inr x) (inl y) = absurd (head_or_refused bytes x.rest x.head e x.has_head y)
one_refusal bytes d e (inr x) (inr y) =
    let same = one_status_head bytes x.head y.head x.rest y.rest x.has_head y.has_head in
    one_body_at_reason x.head.body x.rest d e x.refused (moved_refusal x.head y.head x.rest y.rest e same y.refused)

refused_for : (bytes : List ℕ) (e : ReadRefusal) → IsResponseByTheBytes (Err e) → IsAnswerOf bytes (Err e) → IsRefused bytes e
refused_for bytes refusal.HeadTooLarge found x = x
refused_for bytes refusal.BadHead found x = x
refused_for bytes refusal.Truncated found x = x
refused_for bytes refusal.NoClient found x = absurd x
refused_for bytes refusal.BodyTooLarge found x = x
refused_for bytes refusal.BadChunk found x = x
refused_for bytes refusal.Fault found x = absurd found
refused_for bytes refusal.Memory found x = absurd found

pub one_response : (bytes : List ℕ) (a b : Result Response ReadRefusal) → IsResponseByTheBytes a → IsResponseByTheBytes b → IsAnswerOf bytes a → IsAnswerOf bytes b → a ≡ b
one_response bytes (Ok r) (Ok q) f g x y = ap Ok (one_whole bytes r q x y)
one_response bytes (Ok r) (Err e) f g x y = absurd (not_both bytes r e x (refused_for bytes e g y))
one_response bytes (Err e) (Ok q) f g x y = absurd (not_both bytes q e y (refused_for bytes e f x))
one_response bytes (Err d) (Err e) f g x y = ap Err (one_refusal bytes d e (refused_for bytes d f x) (refused_for bytes e g y))
