-- How the bytes of a stream go on from one call to the next.
use Rattle.std.proofs.Common.{◌≡◌, ℕ, ◌+◌, ◌-◌, ◌<◌, ◌≤◌, ◌++◌, List, [], ◌∷◌, length, take, drop, refl, sym, ◌∙◌, ap, subst, arith, append_assoc, length-append, length-take, append-nil}
use Rattle.std.proofs.lemmas.List.{take-append-drop}
use Rattle.uss_http_request.specs.Streams.{Hears, Passes, Adds, Moves, Lacks}

pub passes_same : {S : Type 0} (gave : S → S → List ℕ → Type 0) (s : S) (bytes : List ℕ) → Passes gave s bytes s bytes
passes_same gave s bytes = record { told = λ origin past had. had }

pub passes_then : {S : Type 0} {gave : S → S → List ℕ → Type 0} {a b c : S} {x y z : List ℕ} → Passes gave a x b y → Passes gave b y c z → Passes gave a x c z
passes_then first second = record { told = λ origin past had. second.told origin past (first.told origin past had) }

-- a list without length
nothing : (bytes : List ℕ) → length bytes ≡ 0 → bytes ≡ []
nothing [] e = refl
nothing (b ∷ bytes) e = absurd (omega arith)

-- one call that gave bytes adds them
pub adds_from : {S : Type 0} (gave : S → S → List ℕ → Type 0) (s t : S) (old new filled : List ℕ) (n : ℕ) → n ≤ length filled → new ≡ old ++ take n filled → ((origin : S) (past : List ℕ) → gave origin s past → gave origin t (past ++ take n filled)) → Adds gave s t old new n
adds_from gave s t old new filled n within added gives =
    record {
      came = take n filled;
      count = simp length-take (omega arith);
      added = added;
      passes = λ kept. record { told = λ origin past had. subst (gave origin t) (append_assoc past kept (take n filled)) (gives origin (past ++ kept) had) };
    }

-- no bytes were added
pub adds_none : {S : Type 0} {gave : S → S → List ℕ → Type 0} {s t : S} {old new : List ℕ} {n : ℕ} → Adds gave s t old new n → n ≡ 0 → (kept : List ℕ) → Passes gave s kept t kept
adds_none {gave = gave} {s = s} {t = t} adds none kept =
    let empty : adds.came ≡ [] = nothing adds.came (adds.count ∙ none) in
    let went = adds.passes kept in
    record { told = λ origin past had. subst (gave origin t) (ap (λ (bytes : List ℕ). past ++ (kept ++ bytes)) empty ∙ ap (λ (bytes : List ℕ). past ++ bytes) (append-nil kept)) (went.told origin past had) }

-- the stream ended while some were missing
pub lacks_from : {S : Type 0} (gave : S → S → List ℕ → Type 0) (ended : S → Type 0) (a b c : S) (kept left old new : List ℕ) (body more : List ℕ) (count missing n : ℕ) → Moves gave a kept b left old new (count - missing) → left ≡ [] → 0 < missing → missing ≤ count → Adds gave b c body more n → n ≡ 0 → ended c → Lacks gave ended a kept c count
lacks_from gave ended a b c kept left old new body more count missing n moves empty some few adds none end =
    let all : moves.moved ++ left ≡ moves.moved = ap (λ (bytes : List ℕ). moves.moved ++ bytes) empty ∙ append-nil moves.moved in
    record {
      all = moves.moved;
      short = omega (arith, moves.count);
      passes = subst (λ (bytes : List ℕ). Passes gave a kept c bytes) all (passes_then moves.passes (adds_none adds none (moves.moved ++ left)));
      end = end;
    }

-- one more call moves more bytes to the body
pub moves_more : {S : Type 0} (gave : S → S → List ℕ → Type 0) (a b c : S) (kept left old now new : List ℕ) (m n : ℕ) → Moves gave a kept b left old now m → left ≡ [] → Adds gave b c now new n → Moves gave a kept c left old new (m + n)
moves_more gave a b c kept left old now new m n moves empty adds =
    let all : moves.moved ++ left ≡ moves.moved = ap (λ (bytes : List ℕ). moves.moved ++ bytes) empty ∙ append-nil moves.moved in
    let both : (moves.moved ++ adds.came) ++ left ≡ moves.moved ++ adds.came = ap (λ (bytes : List ℕ). (moves.moved ++ adds.came) ++ bytes) empty ∙ append-nil (moves.moved ++ adds.came) in
    let first : Passes gave a kept b moves.moved = subst (λ (bytes : List ℕ). Passes gave a kept b bytes) all moves.passes in
    record {
      moved = moves.moved ++ adds.came;
      count = omega (arith, length-append moves.moved adds.came, moves.count, adds.count);
      added = adds.added ∙ ap (λ (bytes : List ℕ). bytes ++ adds.came) moves.added ∙ append_assoc old moves.moved adds.came;
      passes = subst (λ (bytes : List ℕ). Passes gave a kept c bytes) (sym both) (passes_then first (adds.passes moves.moved));
    }

-- the bytes at the start were moved
pub moves_front : {S : Type 0} (gave : S → S → List ℕ → Type 0) (s : S) (kept old new : List ℕ) (n : ℕ) → n ≤ length kept → new ≡ old ++ take n kept → Moves gave s kept s (drop n kept) old new n
moves_front gave s kept old new n within added =
    record {
      moved = take n kept;
      count = simp length-take (omega arith);
      added = added;
      passes = subst (λ (bytes : List ℕ). Passes gave s kept s bytes) (sym (take-append-drop n kept)) (passes_same gave s kept);
    }

-- the same after bytes that were not used
pub passes_behind : {S : Type 0} {gave : S → S → List ℕ → Type 0} {a b : S} {x y : List ℕ} → (front : List ℕ) → Passes gave a x b y → Passes gave a (front ++ x) b (front ++ y)
passes_behind {gave = gave} {a = a} {b = b} {x = x} {y = y} front went =
    record { told = λ origin past had. subst (gave origin b) (append_assoc past front y) (went.told origin (past ++ front) (subst (gave origin a) (sym (append_assoc past front x)) had)) }

pub hears_same : {S : Type 0} (gave : S → S → List ℕ → Type 0) (s : S) → Hears gave s s
hears_same gave s = record { more = λ origin past had. ([], subst (gave origin s) (sym (append-nil past)) had) }

pub hears_then : {S : Type 0} {gave : S → S → List ℕ → Type 0} {a b c : S} → Hears gave a b → Hears gave b c → Hears gave a c
hears_then {gave = gave} {c = c} first second =
    record {
      more = λ origin past had.
          let one = first.more origin past had in
          let two = second.more origin (past ++ one.0) one.1 in
          (one.0 ++ two.0, subst (gave origin c) (append_assoc past one.0 two.0) two.1);
    }

-- what one call gave
pub hears_next : {S : Type 0} (gave : S → S → List ℕ → Type 0) (a b : S) (bytes : List ℕ) → ((origin : S) (past : List ℕ) → gave origin a past → gave origin b (past ++ bytes)) → Hears gave a b
hears_next gave a b bytes gives = record { more = λ origin past had. (bytes, gives origin past had) }
