-- From what a look at the bytes shows to what they say of a head.
use Rattle.std.proofs.Common.{◌≡◌, ℕ, ◌<◌, ◌≤◌, List, [], ◌∷◌, ◌++◌, length, take, drop, refl, sym, ap, ◌∙◌, subst, arith, Err, inl, inr, take_all, append_assoc, length-append, length-take}
use Rattle.std.specs.Prelude.{map, Result}
use Rattle.std.proofs.lemmas.List.{take-append-drop}
use Rattle.httparse.specs.Grammar.{RequestHead, print_request}
use Rattle.httparse.specs.declared.spans.HeaderSpan.{HeaderSpan}
use Rattle.httparse.specs.declared.spans.RequestSpans.{RequestSpans}
use Rattle.httparse.specs.Spans.{IsRequestAt, span_bytes, header_bytes, name_and_value}
use Rattle.uss_http_request.specs.declared.halt.Halt.{Halt}
use Rattle.uss_http_request.specs.declared.halt.Halt.TheVariants as halt
use Rattle.uss_http_request.specs.declared.heads.Head.{Head}
use Rattle.uss_http_request.specs.declared.refusal.ReadRefusal.{ReadRefusal}
use Rattle.uss_http_request.specs.declared.refusal.ReadRefusal.TheVariants as refusal
use Rattle.uss_http_request.specs.Pieces.{piece_limit}
use Rattle.uss_http_request.specs.Streams.{Passes, UnlessOutside}
use Rattle.uss_http_request.specs.Heads.{BeginsWith, IsOpenHead, BeginsNoHead}
use Rattle.uss_http_request.specs.HeadAnswers.{IsHeadAt, AreRefused, MissesHead, refusal_of_head}

-- short bytes are their own prefix
pub short_front : (all : List ℕ) → length all < piece_limit → take piece_limit all ≡ all
short_front all short = take_all piece_limit all (omega arith)

pub halted_head : {X S : Type 0} (gave : S → S → List ℕ → Type 0) (ended : S → Type 0) (before : S) (kept : List ℕ) (after : S) (all : List ℕ) (h : Halt) → UnlessOutside {A = X} (Err h) (Passes gave before kept after all) → (◌≡◌ {A = Result X Halt} (Err h) (Err halt.Bad) → BeginsNoHead (take piece_limit all)) → (◌≡◌ {A = Result X Halt} (Err h) (Err halt.Long) → (piece_limit ≤ length all) × IsOpenHead (take piece_limit all)) → (◌≡◌ {A = Result X Halt} (Err h) (Err halt.Cut) → (length all < piece_limit) × IsOpenHead (take piece_limit all) × ended after) → MissesHead gave ended before kept after (refusal_of_head h)
halted_head gave ended before kept after all halt.Bad passes bad long cut = record { all = all; passes = passes; refused = inl (bad refl); end = λ e. absurd (cc) }
halted_head gave ended before kept after all halt.Long passes bad long cut = record { all = all; passes = passes; refused = long refl; end = λ e. absurd (cc) }
halted_head gave ended before kept after all halt.Cut passes bad long cut =
    let c = cut refl in
    record { all = all; passes = passes; refused = (c.0, subst IsOpenHead (short_front all c.0) c.1); end = λ e. c.2 }
halted_head gave ended before kept after all halt.Fault passes bad long cut = tt
halted_head gave ended before kept after all halt.Memory passes bad long cut = tt

-- what stands after a prefix of that length
pub behind : (front rest : List ℕ) (n : ℕ) → n ≡ length front → drop n (front ++ rest) ≡ rest
behind [] rest n e = ap (λ (k : ℕ). drop k rest) e
behind (x ∷ front) rest n e = ap (λ (k : ℕ). drop k (x ∷ front ++ rest)) e ∙ behind front rest (length front) refl

-- the head that a look at the first 16 KiB shows is the one that the bytes begin with
pub begins_at : (all : List ℕ) (headers : List HeaderSpan) (spans : RequestSpans) (h : RequestHead) → IsRequestAt (take piece_limit all) headers spans h → BeginsWith all h (drop spans.len all)
begins_at all headers spans h at =
    let front = take piece_limit all in
    let rest = drop spans.len front ++ drop piece_limit all in
    let spelled : all ≡ print_request h ++ rest = sym (take-append-drop piece_limit all) ∙ ap (λ (f : List ℕ). f ++ drop piece_limit all) at.reads.1 ∙ append_assoc (print_request h) (drop spans.len front) (drop piece_limit all) in
    let left : drop spans.len all ≡ rest = ap (drop spans.len) spelled ∙ behind (print_request h) rest spans.len at.len in
    record {
      valid = at.reads.0;
      spelled = spelled ∙ ap (λ (r : List ℕ). print_request h ++ r) (sym left);
      within = omega (arith, ap length at.reads.1, length-append (print_request h) (drop spans.len front), length-take piece_limit all);
    }

pub says_at : (all front : List ℕ) (headers hs : List HeaderSpan) (spans : RequestSpans) (h : RequestHead) (answer : Result Head ReadRefusal) → front ≡ take piece_limit all → hs ≡ headers → IsRequestAt (take piece_limit all) headers spans h → IsHeadAt (span_bytes front spans.method) (span_bytes front spans.path) (map (header_bytes front) (take spans.headers hs)) answer → IsHeadAt h.method h.target (map name_and_value h.fields) answer
says_at all front headers hs spans h answer is_front is_headers at shown =
    let one = subst (λ (f : List ℕ). IsHeadAt (span_bytes f spans.method) (span_bytes f spans.path) (map (header_bytes f) (take spans.headers hs)) answer) is_front shown in
    let two = subst (λ (l : List HeaderSpan). IsHeadAt (span_bytes (take piece_limit all) spans.method) (span_bytes (take piece_limit all) spans.path) (map (header_bytes (take piece_limit all)) (take spans.headers l)) answer) is_headers one in
    let three = subst (λ (m : List ℕ). IsHeadAt m (span_bytes (take piece_limit all) spans.path) (map (header_bytes (take piece_limit all)) (take spans.headers headers)) answer) at.method two in
    let four = subst (λ (p : List ℕ). IsHeadAt h.method p (map (header_bytes (take piece_limit all)) (take spans.headers headers)) answer) at.path three in
    subst (λ (fields : List (List ℕ × List ℕ)). IsHeadAt h.method h.target fields answer) at.fields four

pub refused_head : {S : Type 0} (gave : S → S → List ℕ → Type 0) (ended : S → Type 0) (before : S) (kept : List ℕ) (after : S) (all rest : List ℕ) (h : RequestHead) (e : ReadRefusal) → Passes gave before kept after all → BeginsWith all h rest → AreRefused (map name_and_value h.fields) e → MissesHead gave ended before kept after e
refused_head gave ended before kept after all rest h refusal.BadHead passes begins are = record { all = all; passes = passes; refused = inr (record { tree = h; rest = rest; begins = begins; fields_are = are }); end = λ e. absurd (cc) }
refused_head gave ended before kept after all rest h refusal.NoClient passes begins are = record { all = all; passes = passes; refused = record { tree = h; rest = rest; begins = begins; fields_are = are }; end = λ e. absurd (cc) }
refused_head gave ended before kept after all rest h refusal.Memory passes begins are = tt
refused_head gave ended before kept after all rest h refusal.HeadTooLarge passes begins are = absurd are
refused_head gave ended before kept after all rest h refusal.BodyTooLarge passes begins are = absurd are
refused_head gave ended before kept after all rest h refusal.BadChunk passes begins are = absurd are
refused_head gave ended before kept after all rest h refusal.Truncated passes begins are = absurd are
refused_head gave ended before kept after all rest h refusal.Fault passes begins are = absurd are
