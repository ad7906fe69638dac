-- From the chunks of a body to the body, and from a halt to the refusal of a body.
use Rattle.std.proofs.Common.{◌≡◌, ℕ, ◌<◌, ◌≤◌, List, [], ◌∷◌, ◌++◌, length, take, drop, refl, sym, ap, ◌∙◌, subst, arith, Err, All, append_assoc, append-nil, length-append, take_all}
use Rattle.std.specs.Prelude.{Result}
use Rattle.std.proofs.lemmas.Grind.{flat_map-append}
use Rattle.std.proofs.lemmas.List.{take-append-le}
use Rattle.std.proofs.lemmas.List.Elements.{All-nil, All-cons, All-append}
use Rattle.httparse.specs.Grammar.{print_chunk_line, print_section, LineEnd, Field, ReadsSection, NeverHasSection}
use Rattle.uss_http_request.specs.declared.fields.Framing.TheVariants.{Nothing, Length, Chunked}
use Rattle.uss_http_request.specs.declared.halt.Halt.{Halt}
use Rattle.uss_http_request.specs.declared.halt.Halt.TheVariants as halt
use Rattle.uss_http_request.specs.declared.refusal.ReadRefusal.{ReadRefusal}
use Rattle.uss_http_request.specs.declared.refusal.ReadRefusal.TheVariants as refusal
use Rattle.uss_http_request.specs.Pieces.{piece_limit}
use Rattle.uss_http_request.specs.Fields.{body_limit}
use Rattle.uss_http_request.specs.Streams.{Passes, UnlessOutside, Moves, Lacks, IsEndOrOutside}
use Rattle.uss_http_request.specs.Chunks.{Chunk, IsChunk, print_chunk, chunks_text, body_of, ChunkFault, bad_trailers, long_trailers, IsTooMuch, IsCutOff, in_trailers, StopsWhere, AreOpenTrailers}
use Rattle.uss_http_request.specs.ChunkAnswers.{MissesChunk, TakesChunk, TakesLast, TakesChunks, refusal_of_piece}
use Rattle.uss_http_request.specs.BodyAnswers.{TakesToLast, TakesTrailers, MissesTrailers}
use Rattle.uss_http_request.specs.Bodies.{IsRefusedBody, TakesBody, MissesBody}
use Rattle.uss_http_request.specs.Prompt.{IsPrompt}
use Rattle.uss_http_request.proofs.Prompting.{prompt_map, prompt_then}
use Rattle.uss_http_request.proofs.Passing.{passes_same, passes_then, passes_behind}
use Rattle.uss_http_request.proofs.HeadSteps.{short_front}
use Rattle.uss_http_request.proofs.ChunkSteps.{at_front}

pub chunks_none : {S : Type 0} (gave : S → S → List ℕ → Type 0) (s : S) (kept body : List ℕ) → body ≡ [] → TakesChunks gave s kept s kept body
chunks_none gave s kept body empty = record { chunks = []; are_chunks = All-nil IsChunk; carried = empty; within = omega (arith, ap length empty); passes = passes_same gave s kept }

more_text : (chunks : List Chunk) (chunk : Chunk) (left : List ℕ) → chunks_text chunks ++ (print_chunk chunk ++ left) ≡ chunks_text (chunks ++ chunk ∷ []) ++ left
more_text chunks chunk left =
    sym (append_assoc (chunks_text chunks) (print_chunk chunk) left)
    ∙ ap (λ (t : List ℕ). (chunks_text chunks ++ t) ++ left) (sym (append-nil (print_chunk chunk)))
    ∙ ap (λ (t : List ℕ). t ++ left) (sym (flat_map-append print_chunk chunks (chunk ∷ [])))

more_body : (chunks : List Chunk) (chunk : Chunk) → body_of chunks ++ chunk.bytes ≡ body_of (chunks ++ chunk ∷ [])
more_body chunks chunk =
    ap (λ (t : List ℕ). body_of chunks ++ t) (sym (append-nil chunk.bytes))
    ∙ sym (flat_map-append (λ (c : Chunk). c.bytes) chunks (chunk ∷ []))

pub chunks_more : {S : Type 0} (gave : S → S → List ℕ → Type 0) (a b c : S) (kept left rest old new : List ℕ) → TakesChunks gave a kept b left old → TakesChunk gave b left c rest old new → TakesChunks gave a kept c rest new
chunks_more gave a b c kept left rest old new had one =
    record {
      chunks = had.chunks ++ one.chunk ∷ [];
      are_chunks = All-append IsChunk had.chunks (one.chunk ∷ []) had.are_chunks (All-cons IsChunk one.chunk [] one.is_chunk (All-nil IsChunk));
      carried = one.added ∙ ap (λ (t : List ℕ). t ++ one.chunk.bytes) had.carried ∙ more_body had.chunks one.chunk;
      within = one.within;
      passes = subst (Passes gave a kept c) (more_text had.chunks one.chunk rest) (passes_then had.passes (passes_behind (chunks_text had.chunks) one.passes));
    }

pub chunks_end : {S : Type 0} (gave : S → S → List ℕ → Type 0) (a b c : S) (kept left rest old new : List ℕ) → TakesChunks gave a kept b left old → TakesLast gave b left c rest old new → TakesToLast gave a kept c rest new
chunks_end gave a b c kept left rest old new had last =
    record {
      chunks = had.chunks;
      line = last.line;
      are_chunks = had.are_chunks;
      is_last = last.is_last;
      carried = last.same ∙ had.carried;
      within = omega (arith, ap length last.same, had.within);
      passes = passes_then had.passes (passes_behind (chunks_text had.chunks) last.passes);
    }

-- a stop after the chunks read so far is one of the whole body
stops_behind : (chunks : List Chunk) (body all : List ℕ) (stop : ℕ → List ℕ → Type 0) → All IsChunk chunks → body ≡ body_of chunks → length body ≤ body_limit → stop (length body) all → StopsWhere stop (chunks_text chunks ++ all)
stops_behind chunks body all stop are carried within stops =
    record { chunks = chunks; rest = all; are_chunks = are; within = omega (arith, ap length carried); spelled = refl; stops = subst (λ (n : ℕ). stop n all) (ap length carried) stops }

pub chunk_missing : {S : Type 0} (gave : S → S → List ℕ → Type 0) (ended : S → Type 0) (a b c : S) (kept left body : List ℕ) (e : ReadRefusal) → TakesChunks gave a kept b left body → MissesChunk gave ended b left c (length body) e → MissesBody gave ended a kept c Chunked e
chunk_missing gave ended a b c kept left body refusal.BadChunk had misses = record { all = chunks_text had.chunks ++ misses.all; passes = passes_then had.passes (passes_behind (chunks_text had.chunks) misses.passes); refused = stops_behind had.chunks body misses.all ChunkFault had.are_chunks had.carried had.within misses.stops; end = λ same. absurd (cc) }
chunk_missing gave ended a b c kept left body refusal.BodyTooLarge had misses = record { all = chunks_text had.chunks ++ misses.all; passes = passes_then had.passes (passes_behind (chunks_text had.chunks) misses.passes); refused = stops_behind had.chunks body misses.all IsTooMuch had.are_chunks had.carried had.within misses.stops; end = λ same. absurd (cc) }
chunk_missing gave ended a b c kept left body refusal.Truncated had misses = record { all = chunks_text had.chunks ++ misses.0.all; passes = passes_then had.passes (passes_behind (chunks_text had.chunks) misses.0.passes); refused = stops_behind had.chunks body misses.0.all IsCutOff had.are_chunks had.carried had.within misses.0.stops; end = λ same. misses.1 }
chunk_missing gave ended a b c kept left body refusal.Fault had misses = tt
chunk_missing gave ended a b c kept left body refusal.Memory had misses = tt
chunk_missing gave ended a b c kept left body refusal.BadHead had misses = absurd misses
chunk_missing gave ended a b c kept left body refusal.HeadTooLarge had misses = absurd misses
chunk_missing gave ended a b c kept left body refusal.NoClient had misses = absurd misses

-- trailers at the start of the bytes taken
pub trailers_taken : {S : Type 0} (gave : S → S → List ℕ → Type 0) (before : S) (kept : List ℕ) (after : S) (all rest : List ℕ) (fields : List Field) (end : LineEnd) → Passes gave before kept after all → ReadsSection (take piece_limit all) fields end rest → TakesTrailers gave before kept after
trailers_taken gave before kept after all rest fields end passes reads =
    let n = length (print_section fields end) in
    let front = at_front all (print_section fields end) rest n reads.1 refl in
    record { fields = fields; end = end; rest = drop n all; are_trailers = record { valid = reads.0; within = front.within }; passes = subst (Passes gave before kept after) front.spelled passes }

pub halted_trailers : {X S : Type 0} (gave : S → S → List ℕ → Type 0) (ended : S → Type 0) (before : S) (kept : List ℕ) (after : S) (all : List ℕ) (h : Halt) → UnlessOutside {A = X} (Err h) (Passes gave before kept after all) → (◌≡◌ {A = Result X Halt} (Err h) (Err halt.Bad) → NeverHasSection (take piece_limit all)) → (◌≡◌ {A = Result X Halt} (Err h) (Err halt.Long) → (piece_limit ≤ length all) × AreOpenTrailers (take piece_limit all)) → (◌≡◌ {A = Result X Halt} (Err h) (Err halt.Cut) → (length all < piece_limit) × AreOpenTrailers (take piece_limit all) × ended after) → MissesTrailers gave ended before kept after h
halted_trailers gave ended before kept after all halt.Bad passes bad long cut = record { all = all; passes = passes; stops = bad refl }
halted_trailers gave ended before kept after all halt.Long passes bad long cut = let l = long refl in record { all = all; passes = passes; stops = record { long = l.0; open_end = l.1 } }
halted_trailers gave ended before kept after all halt.Cut passes bad long cut =
    let c = cut refl in
    (record { all = all; passes = passes; stops = record { short = c.0; open_end = subst AreOpenTrailers (short_front all c.0) c.1 } }, c.2)
halted_trailers gave ended before kept after all halt.Fault passes bad long cut = tt
halted_trailers gave ended before kept after all halt.Memory passes bad long cut = tt

pub chunked_taken : {S : Type 0} (gave : S → S → List ℕ → Type 0) (a b c : S) (kept left body : List ℕ) → TakesToLast gave a kept b left body → TakesTrailers gave b left c → TakesBody gave a kept c Chunked body
chunked_taken gave a b c kept left body had trailers =
    record {
      all = chunks_text had.chunks ++ (print_chunk_line had.line ++ (print_section trailers.fields trailers.end ++ trailers.rest));
      passes = passes_then had.passes (passes_behind (chunks_text had.chunks) (passes_behind (print_chunk_line had.line) trailers.passes));
      is_body = record { chunks = had.chunks; last = had.line; fields = trailers.fields; end = trailers.end; rest = trailers.rest; are_chunks = had.are_chunks; is_last = had.is_last; are_trailers = trailers.are_trailers; spelled = refl; carried = had.carried; within = had.within };
    }

pub trailers_missing : {S : Type 0} (gave : S → S → List ℕ → Type 0) (ended : S → Type 0) (a b c : S) (kept left body : List ℕ) (h : Halt) → TakesToLast gave a kept b left body → MissesTrailers gave ended b left c h → MissesBody gave ended a kept c Chunked (refusal_of_piece h)
trailers_missing gave ended a b c kept left body halt.Bad had misses = record { all = chunks_text had.chunks ++ (print_chunk_line had.line ++ misses.all); passes = passes_then had.passes (passes_behind (chunks_text had.chunks) (passes_behind (print_chunk_line had.line) misses.passes)); refused = stops_behind had.chunks body (print_chunk_line had.line ++ misses.all) ChunkFault had.are_chunks had.carried had.within (bad_trailers had.line misses.all had.is_last refl misses.stops); end = λ same. absurd (cc) }
trailers_missing gave ended a b c kept left body halt.Long had misses = record { all = chunks_text had.chunks ++ (print_chunk_line had.line ++ misses.all); passes = passes_then had.passes (passes_behind (chunks_text had.chunks) (passes_behind (print_chunk_line had.line) misses.passes)); refused = stops_behind had.chunks body (print_chunk_line had.line ++ misses.all) ChunkFault had.are_chunks had.carried had.within (long_trailers had.line misses.all had.is_last refl misses.stops.long misses.stops.open_end); end = λ same. absurd (cc) }
trailers_missing gave ended a b c kept left body halt.Cut had misses = record { all = chunks_text had.chunks ++ (print_chunk_line had.line ++ misses.0.all); passes = passes_then had.passes (passes_behind (chunks_text had.chunks) (passes_behind (print_chunk_line had.line) misses.0.passes)); refused = stops_behind had.chunks body (print_chunk_line had.line ++ misses.0.all) IsCutOff had.are_chunks had.carried had.within (in_trailers had.line misses.0.all had.is_last refl misses.0.stops.short misses.0.stops.open_end); end = λ same. misses.1 }
trailers_missing gave ended a b c kept left body halt.Fault had misses = tt
trailers_missing gave ended a b c kept left body halt.Memory had misses = tt

front_is : (moved left : List ℕ) (n : ℕ) → length moved ≡ n → moved ≡ take n (moved ++ left)
front_is moved left n count = sym (take_all n moved (omega arith)) ∙ sym (take-append-le n moved left (omega arith))

pub sized_taken : {S : Type 0} (gave : S → S → List ℕ → Type 0) (a b : S) (kept left old body : List ℕ) (n : ℕ) → old ≡ [] → n ≤ body_limit → Moves gave a kept b left old body n → TakesBody gave a kept b (Length n) body
sized_taken gave a b kept left old body n empty within moves =
    record {
      all = moves.moved ++ left;
      passes = moves.passes;
      is_body = (within, omega (arith, length-append moves.moved left, moves.count), moves.added ∙ ap (λ (o : List ℕ). o ++ moves.moved) empty ∙ front_is moves.moved left n moves.count);
    }

pub sized_missing : {S : Type 0} (gave : S → S → List ℕ → Type 0) (ended : S → Type 0) (a b : S) (kept : List ℕ) (n : ℕ) (h : Halt) → n ≤ body_limit → IsEndOrOutside h → (◌≡◌ {A = Result (Unit {0}) Halt} (Err h) (Err halt.Cut) → Lacks gave ended a kept b n) → MissesBody gave ended a kept b (Length n) (refusal_of_piece h)
sized_missing gave ended a b kept n halt.Cut within kinds cut = let lacks = cut refl in record { all = lacks.all; passes = lacks.passes; refused = (within, lacks.short); end = λ same. lacks.end }
sized_missing gave ended a b kept n halt.Bad within kinds cut = absurd kinds
sized_missing gave ended a b kept n halt.Long within kinds cut = absurd kinds
sized_missing gave ended a b kept n halt.Fault within kinds cut = tt
sized_missing gave ended a b kept n halt.Memory within kinds cut = tt

pub sized_too_large : {S : Type 0} (gave : S → S → List ℕ → Type 0) (ended : S → Type 0) (a : S) (kept : List ℕ) (n : ℕ) → body_limit < n → MissesBody gave ended a kept a (Length n) refusal.BodyTooLarge
sized_too_large gave ended a kept n over = record { all = kept; passes = passes_same gave a kept; refused = over; end = λ same. absurd (cc) }

pub nothing_taken : {S : Type 0} (gave : S → S → List ℕ → Type 0) (a : S) (kept body : List ℕ) → body ≡ [] → TakesBody gave a kept a Nothing body
nothing_taken gave a kept body empty = record { all = kept; passes = passes_same gave a kept; is_body = empty }

-- after the chunks read so far, reading stops soon
pub chunks_prompt : {S : Type 0} (gave : S → S → List ℕ → Type 0) (a b c : S) (kept left body : List ℕ) → TakesChunks gave a kept b left body → IsPrompt gave a kept b (StopsWhere IsCutOff) → IsPrompt gave b left c (IsCutOff (length body)) → IsPrompt gave a kept c (StopsWhere IsCutOff)
chunks_prompt gave a b c kept left body had one two =
    prompt_then gave a b c kept left (chunks_text had.chunks) (StopsWhere IsCutOff) (IsCutOff (length body)) had.passes one two (λ seen cut. stops_behind had.chunks body seen IsCutOff had.are_chunks had.carried had.within cut)

-- and in the trailers
pub trailers_prompt : {S : Type 0} (gave : S → S → List ℕ → Type 0) (a b c : S) (kept left body : List ℕ) → TakesToLast gave a kept b left body → IsPrompt gave a kept b (StopsWhere IsCutOff) → IsPrompt gave b left c (λ (seen : List ℕ). (length seen < piece_limit) × AreOpenTrailers seen) → IsPrompt gave a kept c (StopsWhere IsCutOff)
trailers_prompt gave a b c kept left body had one two =
    let text = chunks_text had.chunks in
    let line = print_chunk_line had.line in
    prompt_then gave a b c kept left (text ++ line) (StopsWhere IsCutOff) (λ (seen : List ℕ). (length seen < piece_limit) × AreOpenTrailers seen) (subst (Passes gave a kept b) (sym (append_assoc text line left)) had.passes) one two (λ seen is. subst (StopsWhere IsCutOff) (sym (append_assoc text line seen)) (stops_behind had.chunks body (line ++ seen) IsCutOff had.are_chunks had.carried had.within (in_trailers had.line seen had.is_last refl is.0 is.1)))

-- in a body by its length
pub sized_prompt : {S : Type 0} (gave : S → S → List ℕ → Type 0) (a b : S) (kept : List ℕ) (n : ℕ) → n ≤ body_limit → IsPrompt gave a kept b (λ (seen : List ℕ). length seen < n) → IsPrompt gave a kept b (λ (seen : List ℕ). IsRefusedBody (Length n) seen refusal.Truncated)
sized_prompt gave a b kept n within p = prompt_map gave a b kept (λ (seen : List ℕ). length seen < n) (λ (seen : List ℕ). IsRefusedBody (Length n) seen refusal.Truncated) (λ seen short. (within, short)) p
