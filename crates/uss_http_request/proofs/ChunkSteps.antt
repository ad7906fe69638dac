-- From what a look at the bytes shows to what they say of a chunk.
use Rattle.std.proofs.Common.{◌≡◌, ℕ, ◌+◌, ◌<◌, ◌≤◌, List, ◌++◌, length, take, drop, refl, sym, ap, ◌∙◌, subst, arith, Err, inl, inr, append_assoc, length-append, length-take}
use Rattle.std.specs.Prelude.{Result}
use Rattle.std.proofs.lemmas.List.{take-append-drop}
use Rattle.httparse.specs.Ascii.{crlf_bytes}
use Rattle.httparse.specs.Grammar.{ChunkLine, print_chunk_line, NeverHasChunkLine}
use Rattle.httparse.specs.Spans.{IsChunkLineAt}
use Rattle.uss_http_request.specs.declared.halt.Halt.{Halt}
use Rattle.uss_http_request.specs.declared.halt.Halt.TheVariants as halt
use Rattle.uss_http_request.specs.Pieces.{piece_limit}
use Rattle.uss_http_request.specs.Fields.{body_limit}
use Rattle.uss_http_request.specs.Streams.{Passes, UnlessOutside, Moves, Lacks, IsEndOrOutside}
use Rattle.uss_http_request.specs.Chunks.{IsOpenLine, HasData, no_line, long_line, no_line_end, IsTooMuch, IsCutOff, in_line, in_data, before_line_end, HasLineEnd, IsOpenLineEnd, NeverHasLineEnd}
use Rattle.uss_http_request.specs.ChunkAnswers.{TakesSize, ShowsStop, MissesChunk, MissesLineEnd, TakesChunk, TakesLast, refusal_of_piece}
use Rattle.uss_http_request.specs.Prompt.{IsPrompt}
use Rattle.uss_http_request.proofs.Passing.{passes_then, passes_behind}
use Rattle.uss_http_request.proofs.Prompting.{prompt_map, prompt_then}
use Rattle.uss_http_request.proofs.HeadSteps.{behind, short_front}

-- a text at the start of the first 16 KiB is at the start of the bytes
pub record AtFront (all text : List ℕ) (n : ℕ) : Type 0 where
  pub spelled : all ≡ text ++ drop n all
  pub within : length text ≤ piece_limit
  pub inside : n ≤ length all

pub at_front : (all text rest : List ℕ) (n : ℕ) → take piece_limit all ≡ text ++ rest → n ≡ length text → AtFront all text n
at_front all text rest n reads is_len =
    let more = rest ++ drop piece_limit all in
    let spelled : all ≡ text ++ more = sym (take-append-drop piece_limit all) ∙ ap (λ (f : List ℕ). f ++ drop piece_limit all) reads ∙ append_assoc text rest (drop piece_limit all) in
    let left : drop n all ≡ more = ap (drop n) spelled ∙ behind text more n is_len in
    record {
      spelled = spelled ∙ ap (λ (r : List ℕ). text ++ r) (sym left);
      within = omega (arith, ap length reads, length-append text rest, length-take piece_limit all);
      inside = omega (arith, ap length spelled, length-append text more);
    }

pub size_taken : {S : Type 0} (gave : S → S → List ℕ → Type 0) (before : S) (kept : List ℕ) (after : S) (all left : List ℕ) (len size : ℕ) (line : ChunkLine) → Passes gave before kept after all → IsChunkLineAt (take piece_limit all) len size line → left ≡ drop len all → TakesSize gave before kept after left size
size_taken gave before kept after all left len size line passes at is_left =
    let front = at_front all (print_chunk_line line) (drop len (take piece_limit all)) len at.reads.1 at.len_is in
    record {
      line = line;
      line_is = record { valid = at.reads.0; within = front.within };
      size_is = at.size_is;
      passes = subst (Passes gave before kept after) (front.spelled ∙ ap (λ (r : List ℕ). print_chunk_line line ++ r) (sym is_left)) passes;
    }

pub halted_line : {X S : Type 0} (gave : S → S → List ℕ → Type 0) (ended : S → Type 0) (before : S) (kept : List ℕ) (after : S) (all : List ℕ) (h : Halt) (so_far : ℕ) → UnlessOutside {A = X} (Err h) (Passes gave before kept after all) → (◌≡◌ {A = Result X Halt} (Err h) (Err halt.Bad) → NeverHasChunkLine (take piece_limit all)) → (◌≡◌ {A = Result X Halt} (Err h) (Err halt.Long) → (piece_limit ≤ length all) × IsOpenLine (take piece_limit all)) → (◌≡◌ {A = Result X Halt} (Err h) (Err halt.Cut) → (length all < piece_limit) × IsOpenLine (take piece_limit all) × ended after) → MissesChunk gave ended before kept after so_far (refusal_of_piece h)
halted_line gave ended before kept after all halt.Bad so_far passes bad long cut = record { all = all; passes = passes; stops = no_line (bad refl) }
halted_line gave ended before kept after all halt.Long so_far passes bad long cut = let l = long refl in record { all = all; passes = passes; stops = long_line l.0 l.1 }
halted_line gave ended before kept after all halt.Cut so_far passes bad long cut =
    let c = cut refl in
    (record { all = all; passes = passes; stops = in_line c.0 (subst IsOpenLine (short_front all c.0) c.1) }, c.2)
halted_line gave ended before kept after all halt.Fault so_far passes bad long cut = tt
halted_line gave ended before kept after all halt.Memory so_far passes bad long cut = tt

never_more : (all : List ℕ) → NeverHasLineEnd (take piece_limit all) → NeverHasLineEnd all
never_more all never = λ more has. never (drop piece_limit all ++ more) (has.0, sym (append_assoc (take piece_limit all) (drop piece_limit all) more) ∙ ap (λ (f : List ℕ). f ++ more) (take-append-drop piece_limit all) ∙ has.1)

few : (bytes : List ℕ) → IsOpenLineEnd bytes → length bytes ≤ 1
few bytes (inl none) = omega (arith, ap length none)
few bytes (inr cr) = omega (arith, ap length cr)

pub halted_end : {X S : Type 0} (gave : S → S → List ℕ → Type 0) (ended : S → Type 0) (before : S) (kept : List ℕ) (after : S) (all : List ℕ) (h : Halt) → UnlessOutside {A = X} (Err h) (Passes gave before kept after all) → (◌≡◌ {A = Result X Halt} (Err h) (Err halt.Bad) → NeverHasLineEnd (take piece_limit all)) → (◌≡◌ {A = Result X Halt} (Err h) (Err halt.Long) → (piece_limit ≤ length all) × IsOpenLineEnd (take piece_limit all)) → (◌≡◌ {A = Result X Halt} (Err h) (Err halt.Cut) → (length all < piece_limit) × IsOpenLineEnd (take piece_limit all) × ended after) → MissesLineEnd gave ended before kept after h
halted_end gave ended before kept after all halt.Bad passes bad long cut = record { all = all; passes = passes; stops = never_more all (bad refl) }
halted_end gave ended before kept after all halt.Long passes bad long cut = let l = long refl in absurd (omega (arith, l.0, few (take piece_limit all) l.1, length-take piece_limit all))
halted_end gave ended before kept after all halt.Cut passes bad long cut =
    let c = cut refl in
    (record { all = all; passes = passes; stops = subst IsOpenLineEnd (short_front all c.0) c.1 }, c.2)
halted_end gave ended before kept after all halt.Fault passes bad long cut = tt
halted_end gave ended before kept after all halt.Memory passes bad long cut = tt

pub end_taken : {S : Type 0} (gave : S → S → List ℕ → Type 0) (before : S) (kept : List ℕ) (after : S) (all left : List ℕ) → Passes gave before kept after all → HasLineEnd (take piece_limit all) → left ≡ drop 2 all → Passes gave before kept after (crlf_bytes ++ left)
end_taken gave before kept after all left passes has is_left =
    let front = at_front all crlf_bytes has.0 2 has.1 refl in
    subst (Passes gave before kept after) (front.spelled ∙ ap (λ (r : List ℕ). crlf_bytes ++ r) (sym is_left)) passes

pub end_inside : (all : List ℕ) → HasLineEnd (take piece_limit all) → 2 ≤ length all
end_inside all has = (at_front all crlf_bytes has.0 2 has.1 refl).inside

-- the size is more than the limit leaves room for
pub too_much : {S : Type 0} (gave : S → S → List ℕ → Type 0) (before : S) (kept : List ℕ) (after : S) (left : List ℕ) (size so_far : ℕ) → TakesSize gave before kept after left size → body_limit < so_far + size → ShowsStop gave before kept after (IsTooMuch so_far)
too_much gave before kept after left size so_far taken over =
    record {
      all = print_chunk_line taken.line ++ left;
      passes = taken.passes;
      stops = record { line = taken.line; rest = left; has = record { line_is = taken.line_is; spelled = refl }; over = omega (arith, taken.size_is) };
    }

pub last_taken : {S : Type 0} (gave : S → S → List ℕ → Type 0) (before : S) (kept : List ℕ) (after : S) (left body : List ℕ) (size : ℕ) → TakesSize gave before kept after left size → size ≡ 0 → TakesLast gave before kept after left body body
last_taken gave before kept after left body size taken none = record { line = taken.line; is_last = record { line_is = taken.line_is; none = sym taken.size_is ∙ none }; same = refl; passes = taken.passes }

-- the bytes of a chunk are missing
pub no_data : {S : Type 0} (gave : S → S → List ℕ → Type 0) (ended : S → Type 0) (before middle after : S) (kept left : List ℕ) (size so_far : ℕ) (h : Halt) → TakesSize gave before kept middle left size → 0 < size → so_far + size ≤ body_limit → IsEndOrOutside h → (◌≡◌ {A = Result (Unit {0}) Halt} (Err h) (Err halt.Cut) → Lacks gave ended middle left after size) → MissesChunk gave ended before kept after so_far (refusal_of_piece h)
no_data gave ended before middle after kept left size so_far halt.Cut taken some within kinds cut =
    let lacks = cut refl in (
      record {
        all = print_chunk_line taken.line ++ lacks.all;
        passes = passes_then taken.passes (passes_behind (print_chunk_line taken.line) lacks.passes);
        stops = in_data taken.line lacks.all (record { line_is = taken.line_is; spelled = refl }) (omega (arith, taken.size_is)) (omega (arith, taken.size_is)) (omega (arith, taken.size_is, lacks.short));
      },
      lacks.end,
    )
no_data gave ended before middle after kept left size so_far halt.Bad taken some within kinds cut = absurd kinds
no_data gave ended before middle after kept left size so_far halt.Long taken some within kinds cut = absurd kinds
no_data gave ended before middle after kept left size so_far halt.Fault taken some within kinds cut = tt
no_data gave ended before middle after kept left size so_far halt.Memory taken some within kinds cut = tt

-- the size line and the bytes of a chunk, up to its CR LF
data_of : {S : Type 0} (gave : S → S → List ℕ → Type 0) (before first second : S) (kept left rest old new behind_it : List ℕ) (size so_far : ℕ) (taken : TakesSize gave before kept first left size) (moves : Moves gave first left second rest old new size) → 0 < size → so_far + size ≤ body_limit → HasData so_far (print_chunk_line taken.line ++ (moves.moved ++ behind_it)) taken.line behind_it
data_of gave before first second kept left rest old new behind_it size so_far taken moves some within = record { chunk_bytes = moves.moved; line_is = taken.line_is; some = omega (arith, taken.size_is); size = moves.count ∙ taken.size_is; within = omega (arith, taken.size_is); spelled = refl }

data_passes : {S : Type 0} (gave : S → S → List ℕ → Type 0) (before first second third : S) (kept left rest old new behind_it : List ℕ) (size : ℕ) (taken : TakesSize gave before kept first left size) (moves : Moves gave first left second rest old new size) → Passes gave second rest third behind_it → Passes gave before kept third (print_chunk_line taken.line ++ (moves.moved ++ behind_it))
data_passes gave before first second third kept left rest old new behind_it size taken moves last = passes_then taken.passes (passes_behind (print_chunk_line taken.line) (passes_then moves.passes (passes_behind moves.moved last)))

pub no_end : {S : Type 0} (gave : S → S → List ℕ → Type 0) (ended : S → Type 0) (before first second third : S) (kept left rest old new : List ℕ) (size so_far : ℕ) (h : Halt) → TakesSize gave before kept first left size → Moves gave first left second rest old new size → 0 < size → so_far + size ≤ body_limit → MissesLineEnd gave ended second rest third h → MissesChunk gave ended before kept third so_far (refusal_of_piece h)
no_end gave ended before first second third kept left rest old new size so_far halt.Bad taken moves some within misses =
    record {
      all = print_chunk_line taken.line ++ (moves.moved ++ misses.all);
      passes = data_passes gave before first second third kept left rest old new misses.all size taken moves misses.passes;
      stops = no_line_end taken.line misses.all (data_of gave before first second kept left rest old new misses.all size so_far taken moves some within) misses.stops;
    }
no_end gave ended before first second third kept left rest old new size so_far halt.Cut taken moves some within misses = (
  record {
    all = print_chunk_line taken.line ++ (moves.moved ++ misses.0.all);
    passes = data_passes gave before first second third kept left rest old new misses.0.all size taken moves misses.0.passes;
    stops = before_line_end taken.line misses.0.all (data_of gave before first second kept left rest old new misses.0.all size so_far taken moves some within) misses.0.stops;
  },
  misses.1,
)
no_end gave ended before first second third kept left rest old new size so_far halt.Long taken moves some within misses = absurd misses
no_end gave ended before first second third kept left rest old new size so_far halt.Fault taken moves some within misses = tt
no_end gave ended before first second third kept left rest old new size so_far halt.Memory taken moves some within misses = tt

pub chunk_taken : {S : Type 0} (gave : S → S → List ℕ → Type 0) (before first second third : S) (kept left rest left_over old new : List ℕ) (size : ℕ) → TakesSize gave before kept first left size → Moves gave first left second rest old new size → 0 < size → length old + size ≤ body_limit → Passes gave second rest third (crlf_bytes ++ left_over) → TakesChunk gave before kept third left_over old new
chunk_taken gave before first second third kept left rest left_over old new size taken moves some within last =
    let text : print_chunk_line taken.line ++ (moves.moved ++ (crlf_bytes ++ left_over)) ≡ (print_chunk_line taken.line ++ (moves.moved ++ crlf_bytes)) ++ left_over = ap (λ (r : List ℕ). print_chunk_line taken.line ++ r) (sym (append_assoc moves.moved crlf_bytes left_over)) ∙ sym (append_assoc (print_chunk_line taken.line) (moves.moved ++ crlf_bytes) left_over) in
    record {
      chunk = record { line = taken.line; bytes = moves.moved };
      is_chunk = record { line = taken.line_is; some = omega (arith, taken.size_is); size = moves.count ∙ taken.size_is };
      added = moves.added;
      within = omega (arith, ap length moves.added, length-append old moves.moved, moves.count);
      passes = subst (Passes gave before kept third) text (data_passes gave before first second third kept left rest old new (crlf_bytes ++ left_over) size taken moves last);
    }

-- in the size line, reading stops soon
pub line_prompt : {S : Type 0} (gave : S → S → List ℕ → Type 0) (a b : S) (kept : List ℕ) (so_far : ℕ) → IsPrompt gave a kept b (λ (seen : List ℕ). (length seen < piece_limit) × IsOpenLine seen) → IsPrompt gave a kept b (IsCutOff so_far)
line_prompt gave a b kept so_far p = prompt_map gave a b kept (λ (seen : List ℕ). (length seen < piece_limit) × IsOpenLine seen) (IsCutOff so_far) (λ seen is. in_line is.0 is.1) p

data_cut : {S : Type 0} (gave : S → S → List ℕ → Type 0) (before middle : S) (kept left seen : List ℕ) (size so_far : ℕ) (taken : TakesSize gave before kept middle left size) → 0 < size → so_far + size ≤ body_limit → length seen < size → IsCutOff so_far (print_chunk_line taken.line ++ seen)
data_cut gave before middle kept left seen size so_far taken some within short = in_data taken.line seen (record { line_is = taken.line_is; spelled = refl }) (omega (arith, taken.size_is)) (omega (arith, taken.size_is)) (omega (arith, taken.size_is, short))

-- in the bytes of a chunk
pub data_prompt : {S : Type 0} (gave : S → S → List ℕ → Type 0) (a b c : S) (kept left : List ℕ) (size so_far : ℕ) → TakesSize gave a kept b left size → 0 < size → so_far + size ≤ body_limit → IsPrompt gave a kept b (λ (seen : List ℕ). (length seen < piece_limit) × IsOpenLine seen) → IsPrompt gave b left c (λ (seen : List ℕ). length seen < size) → IsPrompt gave a kept c (IsCutOff so_far)
data_prompt gave a b c kept left size so_far taken some within one two =
    prompt_then gave a b c kept left (print_chunk_line taken.line) (IsCutOff so_far) (λ (seen : List ℕ). length seen < size) taken.passes (line_prompt gave a b kept so_far one) two (λ seen short. data_cut gave a b kept left seen size so_far taken some within short)

-- before the CR LF after them
pub end_prompt : {S : Type 0} (gave : S → S → List ℕ → Type 0) (a b c d : S) (kept left rest old new : List ℕ) (size so_far : ℕ) → TakesSize gave a kept b left size → Moves gave b left c rest old new size → 0 < size → so_far + size ≤ body_limit → IsPrompt gave a kept b (λ (seen : List ℕ). (length seen < piece_limit) × IsOpenLine seen) → IsPrompt gave b left c (λ (seen : List ℕ). length seen < size) → IsPrompt gave c rest d (λ (seen : List ℕ). (length seen < piece_limit) × IsOpenLineEnd seen) → IsPrompt gave a kept d (IsCutOff so_far)
end_prompt gave a b c d kept left rest old new size so_far taken moves some within one two three =
    let Cut : List ℕ → Type 0 = λ (seen : List ℕ). IsCutOff so_far (print_chunk_line taken.line ++ seen) in
    let moved = prompt_map gave b c left (λ (seen : List ℕ). length seen < size) Cut (λ seen short. data_cut gave a b kept left seen size so_far taken some within short) two in
    let both = prompt_then gave b c d left rest moves.moved Cut (λ (seen : List ℕ). (length seen < piece_limit) × IsOpenLineEnd seen) moves.passes moved three (λ seen is. before_line_end taken.line seen (data_of gave a b c kept left rest old new seen size so_far taken moves some within) is.1) in
    prompt_then gave a b d kept left (print_chunk_line taken.line) (IsCutOff so_far) Cut taken.passes (line_prompt gave a b kept so_far one) both (λ seen is. is)
