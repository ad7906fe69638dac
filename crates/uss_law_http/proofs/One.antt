-- The same bytes begin with one request.
use Rattle.std.proofs.Common.{◌≡◌, ℕ, ◌+◌, ◌-◌, ◌<◌, List, [], ◌∷◌, ◌++◌, length, take, All, Some, None, refl, sym, ap, ◌∙◌, subst, arith, inl, inr, ⊎_elim, take_all, append_assoc, append-nil}
use Rattle.std.specs.Prelude.{map, is_some, true}
use Rattle.std.proofs.lemmas.Bool.{true≢false}
use Rattle.std.proofs.Math.Seq.{take-append-add}
use Rattle.std.proofs.lemmas.List.Elements.{All-head, All-tail}
use Rattle.httparse.specs.Ascii.{crlf_bytes}
use Rattle.httparse.specs.Grammar.{RequestHead, print_request, ReadsRequest, ChunkLine, IsChunkLine, print_chunk_line, chunk_size}
use Rattle.httparse.specs.Spans.{name_and_value}
use Rattle.httparse.proofs.GrammarLemmas.{request_unique}
use Rattle.httparse.proofs.ChunkLemmas.{chunk_line_unique}
use Rattle.uss_http_request.specs.declared.fields.Framing.{Framing}
use Rattle.uss_http_request.specs.declared.fields.Framing.TheVariants.{Nothing, Length, Chunked}
use Rattle.uss_http_request.specs.declared.heads.Head.{Head}
use Rattle.uss_http_request.specs.declared.refusal.ReadRefusal.{ReadRefusal}
use Rattle.uss_http_request.specs.declared.refusal.ReadRefusal.TheVariants as refusal
use Rattle.uss_http_request.specs.declared.request.Request.{Request}
use Rattle.uss_http_request.specs.Pieces.{piece_limit}
use Rattle.uss_http_request.specs.Fields.{framing_of, client_of}
use Rattle.uss_http_request.specs.Heads.{BeginsWith, IsOpenHead, BeginsNoHead}
use Rattle.uss_http_request.specs.HeadAnswers.{IsHeadWith, HasHead, HasRefusedHead, IsRefusedHead}
use Rattle.uss_http_request.specs.Chunks.{Chunk, print_chunk, IsChunk, chunks_text, body_of, IsLastLine}
use Rattle.uss_http_request.specs.Bodies.{IsBody, IsRefusedBody}
use Rattle.uss_http_request.specs.Requests.{IsRequest}

one_tree : (bytes : List ℕ) (h k : RequestHead) (r q : List ℕ) → BeginsWith bytes h r → BeginsWith bytes k q → (h ≡ k) × (r ≡ q)
one_tree bytes h k r q x y = request_unique bytes h k r q (x.valid, x.spelled) (y.valid, y.spelled)

one_says : (method path : List ℕ) (fields : List (List ℕ × List ℕ)) (h k : Head) → IsHeadWith method path fields h → IsHeadWith method path fields k → h ≡ k
one_says method path fields h k x y =
    let m : h.method ≡ k.method = x.method_is ∙ sym y.method_is in
    let p : h.path ≡ k.path = x.path_is ∙ sym y.path_is in
    let some_framing : Some h.framing ≡ Some k.framing = sym x.framed ∙ y.framed in
    let some_client : Some h.client ≡ Some k.client = sym x.named ∙ y.named in
    let f : h.framing ≡ k.framing = cc in
    let c : h.client ≡ k.client = cc in
    λ i. record { method = m i; path = p i; client = c i; framing = f i }

pub one_head : (bytes : List ℕ) (h k : Head) (r q : List ℕ) → HasHead bytes h r → HasHead bytes k q → (h ≡ k) × (r ≡ q)
one_head bytes h k r q x y =
    let t = one_tree bytes x.tree y.tree r q x.begins y.begins in
    (one_says x.tree.method x.tree.target (map name_and_value x.tree.fields) h k x.says (subst (λ (tree : RequestHead). IsHeadWith tree.method tree.target (map name_and_value tree.fields) k) (sym t.0) y.says), t.1)

-- the head is at the start of the first 16 KiB too
reads_front : (bytes rest : List ℕ) (h : RequestHead) → BeginsWith bytes h rest → (more : List ℕ) × ReadsRequest (take piece_limit bytes) h more
reads_front bytes rest h x =
    let text = print_request h in
    let k = piece_limit - length text in
    let within = x.within in
    let n : piece_limit ≡ length text + k = omega arith in
    (take k rest, (x.valid, ap (take piece_limit) x.spelled ∙ ap (λ (j : ℕ). take j (text ++ rest)) n ∙ take-append-add text rest k))

pub no_refused_head : (bytes : List ℕ) (h : Head) (r : List ℕ) (e : ReadRefusal) → HasHead bytes h r → IsRefusedHead bytes e → ⊥
no_refused_head bytes h r refusal.HeadTooLarge x bad = let f = reads_front bytes r x.tree x.begins in bad.1.none x.tree f.0 f.1
no_refused_head bytes h r refusal.BadHead x (inl bad) =
    let f = reads_front bytes r x.tree x.begins in
    bad.never [] x.tree f.0 (f.1.0, append-nil (take piece_limit bytes) ∙ f.1.1)
no_refused_head bytes h r refusal.BadHead x (inr bad) =
    let t = one_tree bytes x.tree bad.tree r bad.rest x.begins bad.begins in
    let fields : framing_of (map name_and_value x.tree.fields) ≡ None = ap (λ (tree : RequestHead). framing_of (map name_and_value tree.fields)) t.0 ∙ bad.fields_are in
    let framed = x.says.framed in
    absurd (cc)
no_refused_head bytes h r refusal.Truncated x bad = bad.1.none x.tree r (x.begins.valid, x.begins.spelled)
no_refused_head bytes h r refusal.NoClient x bad =
    let t = one_tree bytes x.tree bad.tree r bad.rest x.begins bad.begins in
    let fields : client_of (map name_and_value x.tree.fields) ≡ None = ap (λ (tree : RequestHead). client_of (map name_and_value tree.fields)) t.0 ∙ bad.fields_are.1 in
    let named = x.says.named in
    absurd (cc)
no_refused_head bytes h r refusal.BodyTooLarge x bad = bad
no_refused_head bytes h r refusal.BadChunk x bad = bad
no_refused_head bytes h r refusal.Fault x bad = bad
no_refused_head bytes h r refusal.Memory x bad = bad

pub same_front : (xs ys us vs : List ℕ) → length xs ≡ length ys → xs ++ us ≡ ys ++ vs → (xs ≡ ys) × (us ≡ vs)
same_front [] [] us vs n e = (refl, e)
same_front [] (y ∷ ys) us vs n e = absurd (omega arith)
same_front (x ∷ xs) [] us vs n e = absurd (omega arith)
same_front (x ∷ xs) (y ∷ ys) us vs n e =
    let head : x ≡ y = cc in
    let tail : xs ++ us ≡ ys ++ vs = cc in
    let h = same_front xs ys us vs (omega arith) tail in
    ((λ i. head i ∷ h.0 i), h.1)

-- the line at the start, and what follows it
pub lines : (l m : ChunkLine) (r q : List ℕ) → IsChunkLine l → IsChunkLine m → print_chunk_line l ++ r ≡ print_chunk_line m ++ q → (l ≡ m) × (r ≡ q)
lines l m r q x y e = chunk_line_unique (print_chunk_line l ++ r) l m r q (x, refl) (y, e)

pub group : (c : Chunk) (cs : List Chunk) (tail : List ℕ) → (print_chunk c ++ chunks_text cs) ++ tail ≡ print_chunk_line c.line ++ (c.bytes ++ (crlf_bytes ++ (chunks_text cs ++ tail)))
group c cs tail = simp append_assoc

zero_size : (l m : ChunkLine) → l ≡ m → chunk_size l ≡ 0 → 0 < chunk_size m → ⊥
zero_size l m e n s = let z : chunk_size m ≡ 0 = ap chunk_size (sym e) ∙ n in absurd (omega arith)

one_split : (cs ds : List Chunk) (l m : ChunkLine) (r q : List ℕ) → All IsChunk cs → All IsChunk ds → IsLastLine l → IsLastLine m → chunks_text cs ++ (print_chunk_line l ++ r) ≡ chunks_text ds ++ (print_chunk_line m ++ q) → body_of cs ≡ body_of ds
one_split [] [] l m r q x y a b e = refl
one_split [] (d ∷ ds) l m r q x y a b e =
    let is = All-head IsChunk d ds y in
    let h = lines l d.line r _ a.line_is.valid is.line.valid (e ∙ group d ds (print_chunk_line m ++ q)) in
    absurd (zero_size l d.line h.0 a.none is.some)
one_split (c ∷ cs) [] l m r q x y a b e =
    let is = All-head IsChunk c cs x in
    let h = lines m c.line q _ b.line_is.valid is.line.valid (sym e ∙ group c cs (print_chunk_line l ++ r)) in
    absurd (zero_size m c.line h.0 b.none is.some)
one_split (c ∷ cs) (d ∷ ds) l m r q x y a b e =
    let is = All-head IsChunk c cs x in
    let that = All-head IsChunk d ds y in
    let h = lines c.line d.line _ _ is.line.valid that.line.valid (sym (group c cs (print_chunk_line l ++ r)) ∙ e ∙ group d ds (print_chunk_line m ++ q)) in
    let sizes : length c.bytes ≡ length d.bytes = is.size ∙ ap chunk_size h.0 ∙ sym that.size in
    let k = same_front c.bytes d.bytes _ _ sizes h.1 in
    let j = same_front crlf_bytes crlf_bytes (chunks_text cs ++ (print_chunk_line l ++ r)) (chunks_text ds ++ (print_chunk_line m ++ q)) refl k.1 in
    let i = one_split cs ds l m r q (All-tail IsChunk c cs x) (All-tail IsChunk d ds y) a b j.1 in
    ap (λ (t : List ℕ). t ++ body_of cs) k.0 ∙ ap (λ (t : List ℕ). d.bytes ++ t) i

pub one_body : (framing : Framing) (bytes b c : List ℕ) → IsBody framing bytes b → IsBody framing bytes c → b ≡ c
one_body Nothing bytes b c x y = x ∙ sym y
one_body (Length n) bytes b c x y = x.2 ∙ sym y.2
one_body Chunked bytes b c x y = x.carried ∙ one_split x.chunks y.chunks x.last y.last _ _ x.are_chunks y.are_chunks x.is_last y.is_last (sym x.spelled ∙ y.spelled) ∙ sym y.carried

pub one_whole : (bytes : List ℕ) (r q : Request) → IsRequest bytes r → IsRequest bytes q → r ≡ q
one_whole bytes r q x y =
    let h = one_head bytes x.head y.head x.rest y.rest x.has_head y.has_head in
    let moved : IsBody x.head.framing y.rest q.body = subst (λ (head : Head). IsBody head.framing y.rest q.body) (sym h.0) y.has_body in
    let body : r.body ≡ q.body = one_body x.head.framing x.rest r.body q.body x.has_body (subst (λ (rest : List ℕ). IsBody x.head.framing rest q.body) (sym h.1) moved) in
    let m : r.method ≡ q.method = x.method_is ∙ ap (λ (head : Head). head.method) h.0 ∙ sym y.method_is in
    let p : r.path ≡ q.path = x.path_is ∙ ap (λ (head : Head). head.path) h.0 ∙ sym y.path_is in
    let c : r.client ≡ q.client = x.client_is ∙ ap (λ (head : Head). head.client) h.0 ∙ sym y.client_is in
    λ i. record { method = m i; path = p i; client = c i; body = body i }

pub one_length : (n : ℕ) (bytes b : List ℕ) (e : ReadRefusal) → IsBody (Length n) bytes b → IsRefusedBody (Length n) bytes e → ⊥
one_length n bytes b refusal.BodyTooLarge x bad = let within = x.0 in absurd (omega arith)
one_length n bytes b refusal.Truncated x bad = let enough = x.1 in let few = bad.1 in absurd (omega arith)
one_length n bytes b refusal.BadChunk x bad = bad
one_length n bytes b refusal.HeadTooLarge x bad = bad
one_length n bytes b refusal.BadHead x bad = bad
one_length n bytes b refusal.NoClient x bad = bad
one_length n bytes b refusal.Fault x bad = bad
one_length n bytes b refusal.Memory x bad = bad

-- of heads that are refused for their fields there is one reason
no_both : (bytes : List ℕ) → HasRefusedHead bytes refusal.BadHead → HasRefusedHead bytes refusal.NoClient → ⊥
no_both bytes x y =
    let t = one_tree bytes x.tree y.tree x.rest y.rest x.begins y.begins in
    let none : framing_of (map name_and_value y.tree.fields) ≡ None = ap (λ (tree : RequestHead). framing_of (map name_and_value tree.fields)) (sym t.0) ∙ x.fields_are in
    let some : is_some (framing_of (map name_and_value y.tree.fields)) ≡ true = y.fields_are.0 in
    absurd (true≢false (sym some ∙ ap is_some none))

-- a whole head is there, whatever its fields say
not_open : (bytes rest : List ℕ) (h : RequestHead) → BeginsWith bytes h rest → IsOpenHead (take piece_limit bytes) → ⊥
not_open bytes rest h x open_end = let f = reads_front bytes rest h x in open_end.none h f.0 f.1

not_never : (bytes rest : List ℕ) (h : RequestHead) → BeginsWith bytes h rest → BeginsNoHead (take piece_limit bytes) → ⊥
not_never bytes rest h x bad = let f = reads_front bytes rest h x in bad.never [] h f.0 (f.1.0, append-nil (take piece_limit bytes) ∙ f.1.1)

not_cut : (bytes rest : List ℕ) (h : RequestHead) → BeginsWith bytes h rest → IsOpenHead bytes → ⊥
not_cut bytes rest h x open_end = open_end.none h rest (x.valid, x.spelled)

never_or_open : (front : List ℕ) → BeginsNoHead front → IsOpenHead front → ⊥
never_or_open front bad open_end = ⊎_elim (λ may. bad.never may.0 may.1 [] may.2) (λ target. bad.outside target) open_end.may

short : (bytes : List ℕ) → length bytes < piece_limit → IsOpenHead bytes → IsOpenHead (take piece_limit bytes)
short bytes few open_end = subst IsOpenHead (sym (take_all piece_limit bytes (omega arith))) open_end

pub one_reason : (bytes : List ℕ) (d e : ReadRefusal) → IsRefusedHead bytes d → IsRefusedHead bytes e → d ≡ e
one_reason bytes refusal.HeadTooLarge refusal.HeadTooLarge x y = refl
one_reason bytes refusal.HeadTooLarge refusal.BadHead x (inl bad) = absurd (never_or_open (take piece_limit bytes) bad x.1)
one_reason bytes refusal.HeadTooLarge refusal.BadHead x (inr bad) = absurd (not_open bytes bad.rest bad.tree bad.begins x.1)
one_reason bytes refusal.HeadTooLarge refusal.Truncated x y = let p = x.0 in let q = y.0 in absurd (omega arith)
one_reason bytes refusal.HeadTooLarge refusal.NoClient x y = absurd (not_open bytes y.rest y.tree y.begins x.1)
one_reason bytes refusal.HeadTooLarge refusal.BodyTooLarge x y = absurd y
one_reason bytes refusal.HeadTooLarge refusal.BadChunk x y = absurd y
one_reason bytes refusal.HeadTooLarge refusal.Fault x y = absurd y
one_reason bytes refusal.HeadTooLarge refusal.Memory x y = absurd y
one_reason bytes refusal.BadHead refusal.HeadTooLarge (inl bad) y = absurd (never_or_open (take piece_limit bytes) bad y.1)
one_reason bytes refusal.BadHead refusal.HeadTooLarge (inr bad) y = absurd (not_open bytes bad.rest bad.tree bad.begins y.1)
one_reason bytes refusal.BadHead refusal.BadHead x y = refl
one_reason bytes refusal.BadHead refusal.Truncated (inl bad) y = absurd (never_or_open (take piece_limit bytes) bad (short bytes y.0 y.1))
one_reason bytes refusal.BadHead refusal.Truncated (inr bad) y = absurd (not_cut bytes bad.rest bad.tree bad.begins y.1)
one_reason bytes refusal.BadHead refusal.NoClient (inl bad) y = absurd (not_never bytes y.rest y.tree y.begins bad)
one_reason bytes refusal.BadHead refusal.NoClient (inr bad) y = absurd (no_both bytes bad y)
one_reason bytes refusal.BadHead refusal.BodyTooLarge x y = absurd y
one_reason bytes refusal.BadHead refusal.BadChunk x y = absurd y
one_reason bytes refusal.BadHead refusal.Fault x y = absurd y
one_reason bytes refusal.BadHead refusal.Memory x y = absurd y
one_reason bytes refusal.Truncated refusal.HeadTooLarge x y = let p = x.0 in let q = y.0 in absurd (omega arith)
one_reason bytes refusal.Truncated refusal.BadHead x (inl bad) = absurd (never_or_open (take piece_limit bytes) bad (short bytes x.0 x.1))
one_reason bytes refusal.Truncated refusal.BadHead x (inr bad) = absurd (not_cut bytes bad.rest bad.tree bad.begins x.1)
one_reason bytes refusal.Truncated refusal.Truncated x y = refl
one_reason bytes refusal.Truncated refusal.NoClient x y = absurd (not_cut bytes y.rest y.tree y.begins x.1)
one_reason bytes refusal.Truncated refusal.BodyTooLarge x y = absurd y
one_reason bytes refusal.Truncated refusal.BadChunk x y = absurd y
one_reason bytes refusal.Truncated refusal.Fault x y = absurd y
one_reason bytes refusal.Truncated refusal.Memory x y = absurd y
one_reason bytes refusal.NoClient refusal.HeadTooLarge x y = absurd (not_open bytes x.rest x.tree x.begins y.1)
one_reason bytes refusal.NoClient refusal.BadHead x (inl bad) = absurd (not_never bytes x.rest x.tree x.begins bad)
one_reason bytes refusal.NoClient refusal.BadHead x (inr bad) = absurd (no_both bytes bad x)
one_reason bytes refusal.NoClient refusal.Truncated x y = absurd (not_cut bytes x.rest x.tree x.begins y.1)
one_reason bytes refusal.NoClient refusal.NoClient x y = refl
one_reason bytes refusal.NoClient refusal.BodyTooLarge x y = absurd y
one_reason bytes refusal.NoClient refusal.BadChunk x y = absurd y
one_reason bytes refusal.NoClient refusal.Fault x y = absurd y
one_reason bytes refusal.NoClient refusal.Memory x y = absurd y
one_reason bytes refusal.BodyTooLarge e x y = absurd x
one_reason bytes refusal.BadChunk e x y = absurd x
one_reason bytes refusal.Fault e x y = absurd x
one_reason bytes refusal.Memory e x y = absurd x

pub one_sized_reason : (n : ℕ) (bytes : List ℕ) (d e : ReadRefusal) → IsRefusedBody (Length n) bytes d → IsRefusedBody (Length n) bytes e → d ≡ e
one_sized_reason n bytes refusal.BodyTooLarge refusal.BodyTooLarge x y = refl
one_sized_reason n bytes refusal.BodyTooLarge refusal.Truncated x y = let q = y.0 in absurd (omega arith)
one_sized_reason n bytes refusal.Truncated refusal.BodyTooLarge x y = let p = x.0 in absurd (omega arith)
one_sized_reason n bytes refusal.Truncated refusal.Truncated x y = refl
one_sized_reason n bytes refusal.BodyTooLarge refusal.BadChunk x y = absurd y
one_sized_reason n bytes refusal.BodyTooLarge refusal.HeadTooLarge x y = absurd y
one_sized_reason n bytes refusal.BodyTooLarge refusal.BadHead x y = absurd y
one_sized_reason n bytes refusal.BodyTooLarge refusal.NoClient x y = absurd y
one_sized_reason n bytes refusal.BodyTooLarge refusal.Fault x y = absurd y
one_sized_reason n bytes refusal.BodyTooLarge refusal.Memory x y = absurd y
one_sized_reason n bytes refusal.Truncated refusal.BadChunk x y = absurd y
one_sized_reason n bytes refusal.Truncated refusal.HeadTooLarge x y = absurd y
one_sized_reason n bytes refusal.Truncated refusal.BadHead x y = absurd y
one_sized_reason n bytes refusal.Truncated refusal.NoClient x y = absurd y
one_sized_reason n bytes refusal.Truncated refusal.Fault x y = absurd y
one_sized_reason n bytes refusal.Truncated refusal.Memory x y = absurd y
one_sized_reason n bytes refusal.BadChunk e x y = absurd x
one_sized_reason n bytes refusal.HeadTooLarge e x y = absurd x
one_sized_reason n bytes refusal.BadHead e x y = absurd x
one_sized_reason n bytes refusal.NoClient e x y = absurd x
one_sized_reason n bytes refusal.Fault e x y = absurd x
one_sized_reason n bytes refusal.Memory e x y = absurd x
