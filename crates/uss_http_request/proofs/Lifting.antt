-- An answer for the bytes that came is the answer for more bytes too.
use Rattle.std.proofs.Common.{◌≡◌, ℕ, zero, suc, List, [], ◌∷◌, ◌++◌, take, Option, Some, refl, sym, ap, ◌∙◌, subst, arith, Ok, Err, inl, inr, append_assoc, append-nil, length-append}
use Rattle.std.specs.Prelude.{Result}
use Rattle.std.proofs.lemmas.List.{take-append-le}
use Rattle.httparse.specs.Grammar.{RequestHead, print_request, print_chunk_line, NeverHasChunkLine, NeverHasSection}
use Rattle.uss_http_request.specs.declared.fields.Framing.{Framing}
use Rattle.uss_http_request.specs.declared.fields.Framing.TheVariants.{Nothing, Length, Chunked}
use Rattle.uss_http_request.specs.declared.heads.Head.{Head}
use Rattle.uss_http_request.specs.declared.request.Request.{Request}
use Rattle.uss_http_request.specs.declared.refusal.ReadRefusal.{ReadRefusal}
use Rattle.uss_http_request.specs.declared.refusal.ReadRefusal.TheVariants as refusal
use Rattle.uss_http_request.specs.Pieces.{piece_limit}
use Rattle.uss_http_request.specs.Sources.{GaveFrom, HasEnded}
use Rattle.uss_http_request.specs.Heads.{BeginsWith, IsOpenHead, BeginsNoHead}
use Rattle.uss_http_request.specs.HeadAnswers.{HasHead, HasRefusedHead, IsRefusedHead}
use Rattle.uss_http_request.specs.Chunks.{chunks_text, StopsWhere, ChunkFault, no_line, long_line, no_line_end, bad_trailers, long_trailers, IsTooMuch, IsOpenLine, AreOpenTrailers}
use Rattle.uss_http_request.specs.Bodies.{IsBody, IsRefusedBody}
use Rattle.uss_http_request.specs.Requests.{IsRequest, IsRefused, IsAnswerOf, ShowsAnswer, AnswersStream}
use Rattle.uss_http_request.proofs.Fronts.{target_front}

-- the start of more bytes goes on from the start of these
pub front_more : (n : ℕ) (xs ys : List ℕ) → (w : List ℕ) × (take n (xs ++ ys) ≡ take n xs ++ w)
front_more zero xs ys = ([], refl)
front_more (suc n) [] ys = (take (suc n) ys, refl)
front_more (suc n) (x ∷ xs) ys = let r = front_more n xs ys in (r.0, ap (λ (l : List ℕ). x ∷ l) r.1)

begins_more : (all rest more : List ℕ) (tree : RequestHead) → BeginsWith all tree rest → BeginsWith (all ++ more) tree (rest ++ more)
begins_more all rest more tree b = record { valid = b.valid; spelled = ap (λ (l : List ℕ). l ++ more) b.spelled ∙ append_assoc (print_request tree) rest more; within = b.within }

head_more : (all rest more : List ℕ) (head : Head) → HasHead all head rest → HasHead (all ++ more) head (rest ++ more)
head_more all rest more head has = record { tree = has.tree; begins = begins_more all rest more has.tree has.begins; says = has.says }

pub body_more : (framing : Framing) (rest more body : List ℕ) → IsBody framing rest body → IsBody framing (rest ++ more) body
body_more Nothing rest more body is = is
body_more (Length n) rest more body is = (is.0, omega (arith, is.1, length-append rest more), is.2 ∙ sym (take-append-le n rest more is.1))
body_more Chunked rest more body is =
    record {
      chunks = is.chunks;
      last = is.last;
      fields = is.fields;
      end = is.end;
      rest = is.rest ++ more;
      are_chunks = is.are_chunks;
      is_last = is.is_last;
      are_trailers = is.are_trailers;
      spelled = ap (λ (l : List ℕ). l ++ more) is.spelled ∙ simp append_assoc;
      carried = is.carried;
      within = is.within;
    }

no_head_more : (front w : List ℕ) → BeginsNoHead front → BeginsNoHead (front ++ w)
no_head_more front w h = record { never = λ next. rw append_assoc (h.never (w ++ next)); outside = λ t. target_front front w t h.outside h.never }

refused_head_more : (all more : List ℕ) (e : ReadRefusal) → HasRefusedHead all e → HasRefusedHead (all ++ more) e
refused_head_more all more e h = record { tree = h.tree; rest = h.rest ++ more; begins = begins_more all h.rest more h.tree h.begins; fields_are = h.fields_are }

head_refusal_more : (all more : List ℕ) (e : ReadRefusal) → (e ≡ refusal.Truncated → ⊥) → IsRefusedHead all e → IsRefusedHead (all ++ more) e
head_refusal_more all more refusal.HeadTooLarge other h = (omega (arith, h.0, length-append all more), subst IsOpenHead (sym (take-append-le piece_limit all more h.0)) h.1)
head_refusal_more all more refusal.BadHead other (inl h) = let f = front_more piece_limit all more in inl (subst BeginsNoHead (sym f.1) (no_head_more (take piece_limit all) f.0 h))
head_refusal_more all more refusal.BadHead other (inr h) = inr (refused_head_more all more refusal.BadHead h)
head_refusal_more all more refusal.NoClient other h = refused_head_more all more refusal.NoClient h
head_refusal_more all more refusal.Truncated other h = absurd (other refl)
head_refusal_more all more refusal.BodyTooLarge other h = absurd h
head_refusal_more all more refusal.BadChunk other h = absurd h
head_refusal_more all more refusal.Fault other h = absurd h
head_refusal_more all more refusal.Memory other h = absurd h

never_line_more : (front w : List ℕ) → NeverHasChunkLine front → NeverHasChunkLine (front ++ w)
never_line_more front w never = λ next. rw append_assoc (never (w ++ next))

never_section_more : (front w : List ℕ) → NeverHasSection front → NeverHasSection (front ++ w)
never_section_more front w never = λ next. rw append_assoc (never (w ++ next))

spelled_more : (bytes text rest more : List ℕ) → bytes ≡ text ++ rest → bytes ++ more ≡ text ++ (rest ++ more)
spelled_more bytes text rest more is = ap (λ (l : List ℕ). l ++ more) is ∙ append_assoc text rest more

fault_more : (n : ℕ) (bytes more : List ℕ) → ChunkFault n bytes → ChunkFault n (bytes ++ more)
fault_more n bytes more (no_line never) = let f = front_more piece_limit bytes more in no_line (subst NeverHasChunkLine (sym f.1) (never_line_more (take piece_limit bytes) f.0 never))
fault_more n bytes more (long_line long line) = long_line (omega (arith, long, length-append bytes more)) (subst IsOpenLine (sym (take-append-le piece_limit bytes more long)) line)
fault_more n bytes more (no_line_end line rest has never) =
    no_line_end line (rest ++ more) (record { chunk_bytes = has.chunk_bytes; line_is = has.line_is; some = has.some; size = has.size; within = has.within; spelled = ap (λ (l : List ℕ). l ++ more) has.spelled ∙ simp append_assoc }) (λ next end. never (more ++ next) (end.0, sym (append_assoc rest more next) ∙ end.1))
fault_more n bytes more (bad_trailers line rest last spelled never) = let f = front_more piece_limit rest more in bad_trailers line (rest ++ more) last (spelled_more bytes (print_chunk_line line) rest more spelled) (subst NeverHasSection (sym f.1) (never_section_more (take piece_limit rest) f.0 never))
fault_more n bytes more (long_trailers line rest last spelled long open_end) = long_trailers line (rest ++ more) last (spelled_more bytes (print_chunk_line line) rest more spelled) (omega (arith, long, length-append rest more)) (subst AreOpenTrailers (sym (take-append-le piece_limit rest more long)) open_end)

too_much_more : (n : ℕ) (bytes more : List ℕ) → IsTooMuch n bytes → IsTooMuch n (bytes ++ more)
too_much_more n bytes more much = record { line = much.line; rest = much.rest ++ more; has = record { line_is = much.has.line_is; spelled = spelled_more bytes (print_chunk_line much.line) much.rest more much.has.spelled }; over = much.over }

stops_more : (stop : ℕ → List ℕ → Type 0) (bytes more : List ℕ) → ((n : ℕ) (rest : List ℕ) → stop n rest → stop n (rest ++ more)) → StopsWhere stop bytes → StopsWhere stop (bytes ++ more)
stops_more stop bytes more go s = record { chunks = s.chunks; rest = s.rest ++ more; are_chunks = s.are_chunks; within = s.within; spelled = spelled_more bytes (chunks_text s.chunks) s.rest more s.spelled; stops = go _ s.rest s.stops }

pub body_refusal_more : (framing : Framing) (rest more : List ℕ) (e : ReadRefusal) → (e ≡ refusal.Truncated → ⊥) → IsRefusedBody framing rest e → IsRefusedBody framing (rest ++ more) e
body_refusal_more Nothing rest more e other r = absurd r
body_refusal_more (Length n) rest more refusal.BodyTooLarge other r = r
body_refusal_more (Length n) rest more refusal.Truncated other r = absurd (other refl)
body_refusal_more (Length n) rest more refusal.BadChunk other r = absurd r
body_refusal_more (Length n) rest more refusal.HeadTooLarge other r = absurd r
body_refusal_more (Length n) rest more refusal.BadHead other r = absurd r
body_refusal_more (Length n) rest more refusal.NoClient other r = absurd r
body_refusal_more (Length n) rest more refusal.Fault other r = absurd r
body_refusal_more (Length n) rest more refusal.Memory other r = absurd r
body_refusal_more Chunked rest more refusal.BodyTooLarge other r = stops_more IsTooMuch rest more (λ n bytes. too_much_more n bytes more) r
body_refusal_more Chunked rest more refusal.BadChunk other r = stops_more ChunkFault rest more (λ n bytes. fault_more n bytes more) r
body_refusal_more Chunked rest more refusal.Truncated other r = absurd (other refl)
body_refusal_more Chunked rest more refusal.HeadTooLarge other r = absurd r
body_refusal_more Chunked rest more refusal.BadHead other r = absurd r
body_refusal_more Chunked rest more refusal.NoClient other r = absurd r
body_refusal_more Chunked rest more refusal.Fault other r = absurd r
body_refusal_more Chunked rest more refusal.Memory other r = absurd r

refused_more : (all more : List ℕ) (e : ReadRefusal) → (e ≡ refusal.Truncated → ⊥) → IsRefused all e → IsRefused (all ++ more) e
refused_more all more e other (inl h) = inl (head_refusal_more all more e other h)
refused_more all more e other (inr b) = inr (record { head = b.head; rest = b.rest ++ more; has_head = head_more all b.rest more b.head b.has_head; refused = body_refusal_more b.head.framing b.rest more e other b.refused })

request_more : (all more : List ℕ) (request : Request) → IsRequest all request → IsRequest (all ++ more) request
request_more all more request is = record { head = is.head; rest = is.rest ++ more; has_head = head_more all is.rest more is.head is.has_head; method_is = is.method_is; path_is = is.path_is; client_is = is.client_is; has_body = body_more is.head.framing is.rest more request.body is.has_body }

-- what a source told before, by the bytes that came of it
shown : {S : Type 0} (left : S → Option (List ℕ)) (s t : S) (bytes : List ℕ) (answer : Result Request ReadRefusal) → left s ≡ Some bytes → (shows : ShowsAnswer (λ (a b : S) (all : List ℕ). GaveFrom (left a) (left b) all) (λ (a : S). HasEnded (left a)) s t answer) → ((more : List ℕ) → IsAnswerOf shows.all answer → IsAnswerOf (shows.all ++ more) answer) → IsAnswerOf bytes answer
shown left s t bytes answer is shows go =
    let l = shows.given.told bytes is in
    subst (λ (b : List ℕ). IsAnswerOf b answer) (sym l.parts) (go l.rest shows.is_answer)

shown_at_end : {S : Type 0} (left : S → Option (List ℕ)) (s t : S) (bytes : List ℕ) (answer : Result Request ReadRefusal) → left s ≡ Some bytes → (shows : ShowsAnswer (λ (a b : S) (all : List ℕ). GaveFrom (left a) (left b) all) (λ (a : S). HasEnded (left a)) s t answer) → HasEnded (left t) → IsAnswerOf bytes answer
shown_at_end left s t bytes answer is shows end =
    let l = shows.given.told bytes is in
    let none : l.rest ≡ [] = end.told l.rest l.is_left in
    subst (λ (b : List ℕ). IsAnswerOf b answer) (sym (l.parts ∙ ap (λ (r : List ℕ). shows.all ++ r) none ∙ append-nil shows.all)) shows.is_answer

pub answer_is : {S : Type 0} (left : S → Option (List ℕ)) (s t : S) (bytes : List ℕ) (answer : Result Request ReadRefusal) → left s ≡ Some bytes → AnswersStream (λ (a b : S) (all : List ℕ). GaveFrom (left a) (left b) all) (λ (a : S). HasEnded (left a)) s t answer → IsAnswerOf bytes answer
answer_is left s t bytes (Ok request) is shows = shown left s t bytes (Ok request) is shows (λ more a. request_more shows.all more request a)
answer_is left s t bytes (Err refusal.HeadTooLarge) is shows = shown left s t bytes (Err refusal.HeadTooLarge) is shows (λ more a. refused_more shows.all more refusal.HeadTooLarge (λ same. cc) a)
answer_is left s t bytes (Err refusal.BadHead) is shows = shown left s t bytes (Err refusal.BadHead) is shows (λ more a. refused_more shows.all more refusal.BadHead (λ same. cc) a)
answer_is left s t bytes (Err refusal.NoClient) is shows = shown left s t bytes (Err refusal.NoClient) is shows (λ more a. refused_more shows.all more refusal.NoClient (λ same. cc) a)
answer_is left s t bytes (Err refusal.BodyTooLarge) is shows = shown left s t bytes (Err refusal.BodyTooLarge) is shows (λ more a. refused_more shows.all more refusal.BodyTooLarge (λ same. cc) a)
answer_is left s t bytes (Err refusal.BadChunk) is shows = shown left s t bytes (Err refusal.BadChunk) is shows (λ more a. refused_more shows.all more refusal.BadChunk (λ same. cc) a)
answer_is left s t bytes (Err refusal.Truncated) is shows = shown_at_end left s t bytes (Err refusal.Truncated) is shows (shows.end refl)
answer_is left s t bytes (Err refusal.Fault) is shows = tt
answer_is left s t bytes (Err refusal.Memory) is shows = tt
