-- From what a look at the bytes shows to what they say of a head.
use Rattle.std.proofs.Common.{◌≡◌, ℕ, ◌<◌, ◌≤◌, List, ◌++◌, length, take, drop, refl, sym, ap, ◌∙◌, subst, arith, Err, inl, inr, append_assoc, length-append, length-take}
use Rattle.std.specs.Prelude.{map, Result, None}
use Rattle.std.proofs.lemmas.List.{take-append-drop}
use Rattle.httparse.specs.Grammar.{ResponseHead, print_response, status_code, NeverHasResponse}
use Rattle.httparse.specs.declared.spans.HeaderSpan.{HeaderSpan}
use Rattle.httparse.specs.declared.spans.ResponseSpans.{ResponseSpans}
use Rattle.httparse.specs.Spans.{IsResponseAt, header_bytes, name_and_value}
use Rattle.uss_http_request.specs.declared.halt.Halt.{Halt}
use Rattle.uss_http_request.specs.declared.halt.Halt.TheVariants as halt
use Rattle.uss_http_request.specs.declared.refusal.ReadRefusal.{ReadRefusal}
use Rattle.uss_http_request.specs.declared.refusal.ReadRefusal.TheVariants as refusal
use Rattle.uss_http_request.specs.Pieces.{piece_limit}
use Rattle.uss_http_request.specs.Fields.{framing_of}
use Rattle.uss_http_request.specs.HeadAnswers.{refusal_of_head}
use Rattle.uss_http_request.specs.Streams.{Passes, UnlessOutside}
use Rattle.uss_http_request.proofs.HeadSteps.{short_front, behind}
use Rattle.uss_http_response.specs.declared.heads.StatusHead.{StatusHead}
use Rattle.uss_http_response.specs.Heads.{BeginsWith, IsOpenHead}
use Rattle.uss_http_response.specs.Answers.{IsHeadAt, MissesHead}

pub halted_head : {X S : Type 0} (gave : S → S → List ℕ → Type 0) (ended : S → Type 0) (before : S) (kept : List ℕ) (after : S) (all : List ℕ) (h : Halt) → UnlessOutside {A = X} (Err h) (Passes gave before kept after all) → (◌≡◌ {A = Result X Halt} (Err h) (Err halt.Bad) → NeverHasResponse (take piece_limit all)) → (◌≡◌ {A = Result X Halt} (Err h) (Err halt.Long) → (piece_limit ≤ length all) × IsOpenHead (take piece_limit all)) → (◌≡◌ {A = Result X Halt} (Err h) (Err halt.Cut) → (length all < piece_limit) × IsOpenHead (take piece_limit all) × ended after) → MissesHead gave ended before kept after (refusal_of_head h)
halted_head gave ended before kept after all halt.Bad passes bad long cut = record { all = all; passes = passes; refused = inl (bad refl); end = λ e. absurd (cc) }
halted_head gave ended before kept after all halt.Long passes bad long cut = record { all = all; passes = passes; refused = long refl; end = λ e. absurd (cc) }
halted_head gave ended before kept after all halt.Cut passes bad long cut =
    let c = cut refl in
    record { all = all; passes = passes; refused = (c.0, subst IsOpenHead (short_front all c.0) c.1); end = λ e. c.2 }
halted_head gave ended before kept after all halt.Fault passes bad long cut = tt
halted_head gave ended before kept after all halt.Memory passes bad long cut = tt

-- the head that a look at the first 16 KiB shows is the one that the bytes begin with
pub begins_at : (all : List ℕ) (headers : List HeaderSpan) (spans : ResponseSpans) (h : ResponseHead) → IsResponseAt (take piece_limit all) headers spans h → BeginsWith all h (drop spans.len all)
begins_at all headers spans h at =
    let front = take piece_limit all in
    let rest = drop spans.len front ++ drop piece_limit all in
    let spelled : all ≡ print_response h ++ rest = sym (take-append-drop piece_limit all) ∙ ap (λ (f : List ℕ). f ++ drop piece_limit all) at.reads.1 ∙ append_assoc (print_response h) (drop spans.len front) (drop piece_limit all) in
    let left : drop spans.len all ≡ rest = ap (drop spans.len) spelled ∙ behind (print_response h) rest spans.len at.len in
    record {
      valid = at.reads.0;
      spelled = spelled ∙ ap (λ (r : List ℕ). print_response h ++ r) (sym left);
      within = omega (arith, ap length at.reads.1, length-append (print_response h) (drop spans.len front), length-take piece_limit all);
    }

pub says_at : (all front : List ℕ) (headers hs : List HeaderSpan) (spans : ResponseSpans) (h : ResponseHead) (answer : Result StatusHead ReadRefusal) → front ≡ take piece_limit all → hs ≡ headers → IsResponseAt (take piece_limit all) headers spans h → IsHeadAt spans.code (map (header_bytes front) (take spans.headers hs)) answer → IsHeadAt (status_code h) (map name_and_value h.fields) answer
says_at all front headers hs spans h answer is_front is_headers at shown =
    let one = subst (λ (f : List ℕ). IsHeadAt spans.code (map (header_bytes f) (take spans.headers hs)) answer) is_front shown in
    let two = subst (λ (l : List HeaderSpan). IsHeadAt spans.code (map (header_bytes (take piece_limit all)) (take spans.headers l)) answer) is_headers one in
    let three = subst (λ (n : ℕ). IsHeadAt n (map (header_bytes (take piece_limit all)) (take spans.headers headers)) answer) at.code two in
    subst (λ (fields : List (List ℕ × List ℕ)). IsHeadAt (status_code h) fields answer) at.fields three

pub refused_head : {S : Type 0} (gave : S → S → List ℕ → Type 0) (ended : S → Type 0) (before : S) (kept : List ℕ) (after : S) (all rest : List ℕ) (h : ResponseHead) (e : ReadRefusal) → Passes gave before kept after all → BeginsWith all h rest → (e ≡ refusal.BadHead) × (framing_of (map name_and_value h.fields) ≡ None) → MissesHead gave ended before kept after e
refused_head gave ended before kept after all rest h e passes begins are =
    subst (λ (r : ReadRefusal). MissesHead gave ended before kept after r) (sym are.0) (record { all = all; passes = passes; refused = inr (record { tree = h; rest = rest; begins = begins; unframed = are.1 }); end = λ e. absurd (cc) })
