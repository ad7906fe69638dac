-- How two pieces that are sent one after the other go on.
use Rattle.std.proofs.Common.{◌≡◌, ℕ, zero, suc, ◌+◌, ◌<◌, List, [], ◌∷◌, ◌++◌, length, take, drop, Option, Some, Ok, Err, refl, sym, ◌∙◌, subst, arith, length-append}
use Rattle.std.specs.Prelude.{Result, OnOk, OnErr}
use Rattle.std.proofs.lemmas.List.{take-append-le}
use Rattle.uss_link.specs.Talks.{Talk, with_sent, LastBecomes, Sends, SentFront}
use Rattle.uss_link.proofs.Sending.{SentSince, sent_more}

-- a prefix of the first of two pieces is a prefix of both
pub front_of_first : (talks : List Talk) (after : Option (List Talk)) (a b : List ℕ) (n : ℕ) → SentFront talks after a n → SentFront talks after (a ++ b) n
front_of_first talks after a b n f =
    record {
      within = omega (arith, f.within, length-append a b);
      none = f.none;
      some = λ more. subst (λ (x : List ℕ). LastBecomes (with_sent x) talks after) (sym (take-append-le n a b f.within)) (f.some more);
    }

-- the streams told after some bytes were sent
middle_at : (talks : List Talk) (now : Option (List Talk)) (bytes : List ℕ) (n : ℕ) → SentFront talks now bytes n → (middle : List Talk) × (now ≡ Some middle)
middle_at talks now bytes zero s = (talks, s.none refl)
middle_at talks now bytes (suc n) s = let l = s.some (omega arith) in (l.earlier ++ with_sent (take (suc n) bytes) l.last ∷ [], l.are)

behind : (a b : List ℕ) → b ≡ drop (length a) (a ++ b)
behind [] b = refl
behind (x ∷ a) b = behind a b

since : (talks : List Talk) (now : Option (List Talk)) (bytes : List ℕ) (n : ℕ) → SentFront talks now bytes n → SentSince (Some talks) now bytes n
since talks now bytes n f = record { told = λ t is. let e : talks ≡ t = cc in subst (λ (s : List Talk). SentFront s now bytes n) e f }

-- a prefix of the second, once the first was sent
front_behind : (talks middle : List Talk) (now after : Option (List Talk)) (a b : List ℕ) (n : ℕ) → SentFront talks now a (length a) → now ≡ Some middle → SentFront middle after b n → SentFront talks after (a ++ b) (length a + n)
front_behind talks middle now after a b zero first is second =
    let same : now ≡ after = is ∙ sym (second.none refl) in
    let all : SentFront talks after (a ++ b) (length a) = subst (λ (o : Option (List Talk)). SentFront talks o (a ++ b) (length a)) same (front_of_first talks now a b (length a) first) in
    let e : length a ≡ length a + 0 = omega arith in
    subst (λ (k : ℕ). SentFront talks after (a ++ b) k) e all
front_behind talks middle now after a b (suc n) first is second =
    let within = second.within in
    let room : length a < length (a ++ b) = omega (arith, length-append a b) in
    let call : Sends {E = Unit {0}} now after b (Ok (suc n)) = record {
      within = second.within;
      some = λ more. omega arith;
      told = λ t was. let e : middle ≡ t = cc in subst (λ (s : List Talk). LastBecomes (with_sent (take (suc n) b)) s after) e (second.some (omega arith));
    } in
    (sent_more (Some talks) now after (a ++ b) b (length a) (suc n) (since talks now (a ++ b) (length a) (front_of_first talks now a b (length a) first)) room (behind a b) call).told talks refl

-- both were sent where the second was, once the first was
pub both_sent : {E : Type 0} (talks : List Talk) (now after : Option (List Talk)) (a b : List ℕ) (r : Result (Unit {0}) E) → SentFront talks now a (length a) → ((middle : List Talk) → now ≡ Some middle → OnOk r (SentFront middle after b (length b))) → OnOk r (SentFront talks after (a ++ b) (length (a ++ b)))
both_sent talks now after a b (Err e) first second = tt
both_sent talks now after a b (Ok u) first second =
    let m = middle_at talks now a (length a) first in
    subst (λ (k : ℕ). SentFront talks after (a ++ b) k) (sym (length-append a b)) (front_behind talks m.0 now after a b (length b) first m.1 (second m.0 m.1))

-- and a prefix of both where a prefix of the second was
pub front_of_second : {E : Type 0} (talks : List Talk) (now after : Option (List Talk)) (a b : List ℕ) (r : Result (Unit {0}) E) → SentFront talks now a (length a) → ((middle : List Talk) → now ≡ Some middle → OnErr r ((n : ℕ) × SentFront middle after b n)) → OnErr r ((n : ℕ) × SentFront talks after (a ++ b) n)
front_of_second talks now after a b (Ok u) first second = tt
front_of_second talks now after a b (Err e) first second =
    let m = middle_at talks now a (length a) first in
    let f = second m.0 m.1 in
    (length a + f.0, front_behind talks m.0 now after a b f.0 first m.1 f.1)
