-- How soon reading stops, from one stage to the next.
use Rattle.std.proofs.Common.{◌≡◌, ℕ, ◌+◌, ◌-◌, ◌<◌, ◌≤◌, List, [], ◌++◌, length, take, drop, sym, ap, ◌∙◌, subst, arith, Err, append_assoc, append-nil, length-append, take_all}
use Rattle.std.specs.Prelude.{Result}
use Rattle.std.proofs.lemmas.List.{drop-append-le}
use Rattle.uss_http_request.specs.declared.halt.Halt.{Halt}
use Rattle.uss_http_request.specs.declared.halt.Halt.TheVariants as halt
use Rattle.uss_http_request.specs.declared.refusal.ReadRefusal.{ReadRefusal}
use Rattle.uss_http_request.specs.declared.refusal.ReadRefusal.TheVariants as refusal
use Rattle.uss_http_request.specs.Pieces.{piece_limit}
use Rattle.uss_http_request.specs.Streams.{Passes, Adds, Moves, Lacks, UnlessOutside}
use Rattle.uss_http_request.specs.Prompt.{AreFew, call_limit, GrowsBy, IsPrompt, stays, soon, UnlessFault}
use Rattle.uss_http_request.specs.ChunkAnswers.{refusal_of_piece}
use Rattle.uss_http_request.specs.HeadAnswers.{refusal_of_head}
use Rattle.uss_http_request.proofs.Passing.{passes_then, passes_behind}

pub prompt_same : {S : Type 0} (gave : S → S → List ℕ → Type 0) (s : S) (kept : List ℕ) (open_by : List ℕ → Type 0) → IsPrompt gave s kept s open_by
prompt_same gave s kept open_by = stays (record { told = λ origin past had. had })

few_behind : (front seen late : List ℕ) → AreFew seen late → AreFew (front ++ seen) late
few_behind front seen late few = record { doubled = omega (arith, few.doubled, length-append front seen); within = few.within }

-- bytes that all leave it open
pub all_open : {S : Type 0} (gave : S → S → List ℕ → Type 0) (a b : S) (kept all : List ℕ) (open_by : List ℕ → Type 0) → Passes gave a kept b all → open_by all → IsPrompt gave a kept b open_by
all_open gave a b kept all open_by passes is_open =
    soon (record {
      seen = all;
      late = [];
      passes = subst (Passes gave a kept b) (sym (append-nil all)) passes;
      was_open = is_open;
      few = record { doubled = omega arith; within = omega arith };
    })

-- from bytes that leave it open to more
pub open_then : {S : Type 0} (gave : S → S → List ℕ → Type 0) (a b c : S) (kept seen more : List ℕ) (n : ℕ) (open_by : List ℕ → Type 0) → Passes gave a kept b seen → open_by seen → Passes gave b seen c more → GrowsBy seen more n → n ≤ length seen + call_limit → length more < length seen + (8192 + call_limit) → IsPrompt gave a kept c open_by
open_then gave a b c kept seen more n open_by first is_open second grows doubled within =
    soon (record {
      seen = seen;
      late = grows.late;
      passes = subst (Passes gave a kept c) grows.added (passes_then first second);
      was_open = is_open;
      few = record {
        doubled = omega (arith, grows.few, doubled);
        within = omega (arith, within, ap length grows.added, length-append seen grows.late);
      };
    })

pub prompt_map : {S : Type 0} (gave : S → S → List ℕ → Type 0) (a b : S) (kept : List ℕ) (P Q : List ℕ → Type 0) → ((seen : List ℕ) → P seen → Q seen) → IsPrompt gave a kept b P → IsPrompt gave a kept b Q
prompt_map gave a b kept P Q go (stays same) = stays same
prompt_map gave a b kept P Q go (soon s) = soon (record { seen = s.seen; late = s.late; passes = s.passes; was_open = go s.seen s.was_open; few = s.few })

-- one stage, and the next
pub prompt_then : {S : Type 0} (gave : S → S → List ℕ → Type 0) (a b c : S) (kept left front : List ℕ) (P Q : List ℕ → Type 0) → Passes gave a kept b (front ++ left) → IsPrompt gave a kept b P → IsPrompt gave b left c Q → ((seen : List ℕ) → Q seen → P (front ++ seen)) → IsPrompt gave a kept c P
prompt_then gave a b c kept left front P Q passes (stays one) (stays two) go = stays (record { told = λ origin past had. two.told origin past (one.told origin past had) })
prompt_then gave a b c kept left front P Q passes (soon one) (stays two) go =
    soon (record { seen = one.seen; late = one.late; passes = record { told = λ origin past had. two.told origin (past ++ (one.seen ++ one.late)) (one.passes.told origin past had) }; was_open = one.was_open; few = one.few })
prompt_then gave a b c kept left front P Q passes first (soon two) go =
    soon (record {
      seen = front ++ two.seen;
      late = two.late;
      passes = subst (Passes gave a kept c) (sym (append_assoc front two.seen two.late)) (passes_then passes (passes_behind front two.passes));
      was_open = go two.seen two.was_open;
      few = few_behind front two.seen two.late two.few;
    })

-- the fact, said of the refusal of a halt
piece_fault : (A : Type 0) (h : Halt) (P Q : Type 0) → (P → Q) → UnlessOutside {A = A} (Err h) P → UnlessFault (refusal_of_piece h) Q
piece_fault A halt.Bad P Q go p = go p
piece_fault A halt.Long P Q go p = go p
piece_fault A halt.Cut P Q go p = go p
piece_fault A halt.Fault P Q go p = tt
piece_fault A halt.Memory P Q go p = tt

pub piece_halted : {A : Type 0} (r : Result A Halt) (h : Halt) (P Q : Type 0) → r ≡ Err h → (P → Q) → UnlessOutside r P → UnlessFault (refusal_of_piece h) Q
piece_halted {A = A} r h P Q is go p = piece_fault A h P Q go (subst (λ (x : Result A Halt). UnlessOutside x P) is p)

head_fault : (A : Type 0) (h : Halt) (P : Type 0) → UnlessOutside {A = A} (Err h) P → UnlessFault (refusal_of_head h) P
head_fault A halt.Bad P p = p
head_fault A halt.Long P p = p
head_fault A halt.Cut P p = p
head_fault A halt.Fault P p = tt
head_fault A halt.Memory P p = tt

pub head_halted : {A : Type 0} (r : Result A Halt) (h : Halt) (P : Type 0) → r ≡ Err h → UnlessOutside r P → UnlessFault (refusal_of_head h) P
head_halted {A = A} r h P is p = head_fault A h P (subst (λ (x : Result A Halt). UnlessOutside x P) is p)

pub refused_map : (e : ReadRefusal) (P Q : Type 0) → (P → Q) → UnlessFault e P → UnlessFault e Q
refused_map refusal.Fault P Q go p = tt
refused_map refusal.Memory P Q go p = tt
refused_map refusal.HeadTooLarge P Q go p = go p
refused_map refusal.BadHead P Q go p = go p
refused_map refusal.BodyTooLarge P Q go p = go p
refused_map refusal.BadChunk P Q go p = go p
refused_map refusal.Truncated P Q go p = go p
refused_map refusal.NoClient P Q go p = go p

outside_fault : (A B : Type 0) (h : Halt) (P : Type 0) → UnlessOutside {A = A} (Err h) P → UnlessOutside {A = B} (Err h) P
outside_fault A B halt.Bad P p = p
outside_fault A B halt.Long P p = p
outside_fault A B halt.Cut P p = p
outside_fault A B halt.Fault P p = tt
outside_fault A B halt.Memory P p = tt

-- the fact, said of the halt of another answer
pub outside_again : {A : Type 0} (B : Type 0) (r : Result A Halt) (h : Halt) (P : Type 0) → r ≡ Err h → UnlessOutside r P → UnlessOutside {A = B} (Err h) P
outside_again {A = A} B r h P is p = outside_fault A B h P (subst (λ (x : Result A Halt). UnlessOutside x P) is p)

-- what came is added to what was kept
pub grows_from : (old new came : List ℕ) (start n : ℕ) → start ≤ length old → new ≡ old ++ came → length came ≤ n → GrowsBy (drop start old) (drop start new) n
grows_from old new came start n within added few =
    record { late = came; added = ap (drop start) added ∙ drop-append-le start old came within; few = few }

pub grows_none : (old new : List ℕ) (n : ℕ) → new ≡ old → GrowsBy old new n
grows_none old new n same = record { late = []; added = same ∙ sym (append-nil old); few = omega arith }

pub grows_then : (old now new : List ℕ) (m n k : ℕ) → GrowsBy old now m → GrowsBy now new n → length new ≤ length old + k → GrowsBy old new k
grows_then old now new m n k one two few =
    let added : new ≡ old ++ (one.late ++ two.late) = two.added ∙ ap (λ (l : List ℕ). l ++ two.late) one.added ∙ append_assoc old one.late two.late in
    record { late = one.late ++ two.late; added = added; few = omega (arith, few, ap length added, length-append old (one.late ++ two.late)) }

pub grows_length : (old new : List ℕ) (n : ℕ) → GrowsBy old new n → length new ≤ length old + n
grows_length old new n g = omega (arith, g.few, ap length g.added, length-append old g.late)

pub grows_more : (old new : List ℕ) (m n : ℕ) → m ≤ n → GrowsBy old new m → GrowsBy old new n
grows_more old new m n within g = record { late = g.late; added = g.added; few = omega (arith, g.few, within) }

-- one more call for bytes that go into a body
pub moved_open : {S : Type 0} (gave : S → S → List ℕ → Type 0) (a b c : S) (kept left old now new : List ℕ) (count missing n : ℕ) → Moves gave a kept b left old now (count - missing) → left ≡ [] → 0 < missing → missing ≤ count → Adds gave b c now new n → n ≤ call_limit → IsPrompt gave a kept c (λ (seen : List ℕ). length seen < count)
moved_open gave a b c kept left old now new count missing n moves empty some within adds few =
    soon (record {
      seen = moves.moved ++ left;
      late = adds.came;
      passes = passes_then moves.passes (adds.passes (moves.moved ++ left));
      was_open = omega (arith, moves.count, length-append moves.moved left, ap length empty);
      few = record { doubled = omega (arith, adds.count, few); within = omega (arith, adds.count, few) };
    })

pub lacks_open : {S : Type 0} (gave : S → S → List ℕ → Type 0) (ended : S → Type 0) (a b : S) (kept : List ℕ) (count : ℕ) → Lacks gave ended a kept b count → IsPrompt gave a kept b (λ (seen : List ℕ). length seen < count)
lacks_open gave ended a b kept count lacks = all_open gave a b kept lacks.all (λ (seen : List ℕ). length seen < count) lacks.passes lacks.short

-- a look at bytes left it open, and more of them came
pub look_then : {S : Type 0} (gave : S → S → List ℕ → Type 0) (a b c : S) (kept seen more front : List ℕ) (unfinished : List ℕ → Type 0) → Passes gave a kept b seen → front ≡ take piece_limit seen → unfinished front → length seen < piece_limit → Passes gave b seen c more → GrowsBy seen more (length seen + call_limit) → length more < piece_limit + call_limit → IsPrompt gave a kept c (λ (x : List ℕ). (length x < piece_limit) × unfinished x)
look_then gave a b c kept seen more front unfinished first is_front is_open short second doubled near =
    open_then gave a b c kept seen more (length seen + call_limit) (λ (x : List ℕ). (length x < piece_limit) × unfinished x) first (short, subst unfinished (is_front ∙ take_all piece_limit seen (omega (arith, short))) is_open) second doubled (omega arith) (omega (arith, near, grows_length seen more (length seen + call_limit) doubled))

-- a look at bytes left it open, and no more of them came
pub look_end : {S : Type 0} (gave : S → S → List ℕ → Type 0) (a c : S) (kept seen more front : List ℕ) (unfinished : List ℕ → Type 0) → Passes gave a kept c more → front ≡ take piece_limit seen → unfinished front → length seen < piece_limit → more ≡ seen → IsPrompt gave a kept c (λ (x : List ℕ). (length x < piece_limit) × unfinished x)
look_end gave a c kept seen more front unfinished passes is_front is_open short same =
    all_open gave a c kept more (λ (x : List ℕ). (length x < piece_limit) × unfinished x) passes (omega (arith, short, ap length same), subst unfinished (is_front ∙ take_all piece_limit seen (omega (arith, short)) ∙ sym same) is_open)

pub unless_fault : (e : ReadRefusal) (P : Type 0) → P → UnlessFault e P
unless_fault refusal.Fault P p = tt
unless_fault refusal.Memory P p = tt
unless_fault refusal.HeadTooLarge P p = p
unless_fault refusal.BadHead P p = p
unless_fault refusal.BodyTooLarge P p = p
unless_fault refusal.BadChunk P p = p
unless_fault refusal.Truncated P p = p
unless_fault refusal.NoClient P p = p
