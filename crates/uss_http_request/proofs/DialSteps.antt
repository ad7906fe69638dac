-- A dial as a stream.
use Rattle.std.proofs.Common.{◌≡◌, ℕ, ◌<◌, Bool, true, false, List, [], ◌∷◌, ◌++◌, length, take, Option, Some, None, Ok, Err, refl, sym, ap, ◌∙◌, subst, arith, append_assoc, append-nil}
use Rattle.std.specs.Prelude.{◌==◌, ◌&&◌, ◌||◌, nat_lt, IsTrue}
use Rattle.std.proofs.lemmas.Bool.Decides.{nat_tests}
use Rattle.uss_link.specs.Talks.{Talk, with_received, Receives, Speaks}
use Rattle.uss_link.proofs.Sending.{stays_on}
use Rattle.uss_http_request.specs.Dials.{heard, is_over, HeardFrom, IsOver}

-- the last of the streams, after the earlier ones
heard_last : (bytes : List ℕ) (is_end : Bool) (earlier : List Talk) (last : Talk) → heard bytes is_end (earlier ++ last ∷ []) ≡ earlier ++ with_received bytes is_end last ∷ []
heard_last bytes is_end [] last = refl
heard_last bytes is_end (talk ∷ []) last = refl
heard_last bytes is_end (talk ∷ next ∷ earlier) last = ap (λ (ts : List Talk). talk ∷ ts) (heard_last bytes is_end (next ∷ earlier) last)

over_last : (earlier : List Talk) (last : Talk) → is_over (earlier ++ last ∷ []) ≡ last.ended
over_last [] last = refl
over_last (talk ∷ []) last = refl
over_last (talk ∷ next ∷ earlier) last = over_last (next ∷ earlier) last

or_assoc : (a b c : Bool) → ((a || b) || c) ≡ (a || (b || c))
or_assoc true b c = refl
or_assoc false b c = refl

twice_last : (x y : List ℕ) (d e : Bool) (talk : Talk) → with_received y e (with_received x d talk) ≡ with_received (x ++ y) (d || e) talk
twice_last x y d e talk i = record talk { received = append_assoc talk.received x y i; ended = or_assoc talk.ended d e i }

-- what was received, and then more
heard_twice : (x y : List ℕ) (d e : Bool) (talks : List Talk) → heard y e (heard x d talks) ≡ heard (x ++ y) (d || e) talks
heard_twice x y d e [] = refl
heard_twice x y d e (talk ∷ []) = ap (λ (t : Talk). t ∷ []) (twice_last x y d e talk)
heard_twice x y d e (talk ∷ next ∷ []) = ap (λ (ts : List Talk). talk ∷ ts) (heard_twice x y d e (next ∷ []))
heard_twice x y d e (talk ∷ next ∷ third ∷ talks) = ap (λ (ts : List Talk). talk ∷ ts) (heard_twice x y d e (next ∷ third ∷ talks))

-- one call that received
pub heard_more : {E : Type 0} (origin before after : Option (List Talk)) (first was is : Option Bool) (past buffer filled : List ℕ) (n : ℕ) → HeardFrom origin before first was past → Receives {E = E} before after buffer filled (Ok n) → Speaks {T = ℕ} {E = E} was is (Ok n) → HeardFrom origin after first is (past ++ take n filled)
heard_more origin before after first was is past buffer filled n had receives speaks =
    record {
      told = λ talks same.
          let h = had.told talks same in
          let g = receives.told (heard past h.is_end talks) h.told in
          let e = n == 0 && nat_lt 0 (length buffer) in
          record {
            is_end = h.is_end || e;
            told = g.are ∙ ap Some (sym (heard_last (take n filled) e g.earlier g.last) ∙ ap (heard (take n filled) e) (sym g.were) ∙ heard_twice past (take n filled) h.is_end e talks);
          };
      stays = stays_on first was is had.stays speaks.stays;
      over = λ had_one same some. speaks.over had_one (had.stays.told had_one same);
    }

-- one call that answered a fault
pub heard_same : {E : Type 0} (origin before after : Option (List Talk)) (first was is : Option Bool) (past buffer filled : List ℕ) (e : E) → HeardFrom origin before first was past → Receives {E = E} before after buffer filled (Err e) → Speaks {T = ℕ} {E = E} was is (Err e) → HeardFrom origin after first is (past ++ [])
heard_same origin before after first was is past buffer filled e had receives speaks =
    record {
      told = λ talks same.
          let h = had.told talks same in
          record { is_end = h.is_end; told = receives.told (heard past h.is_end talks) h.told ∙ ap (λ (bytes : List ℕ). Some (heard bytes h.is_end talks)) (sym (append-nil past)) };
      stays = stays_on first was is had.stays speaks.stays;
      over = λ had_one same some. had.over had_one same (subst (λ (bytes : List ℕ). 0 < length bytes) (append-nil past) some);
    }

end_given : (n : ℕ) (buffer : List ℕ) → n ≡ 0 → 0 < length buffer → (n == 0 && nat_lt 0 (length buffer)) ≡ true
end_given n buffer none some = grind (arith, nat_tests)

or_true : (a b : Bool) → b ≡ true → IsTrue (a || b)
or_true true b is = refl
or_true false b is = is

-- none in a buffer that isn't empty is the end
pub over_from : {E : Type 0} (before after : Option (List Talk)) (buffer filled : List ℕ) (n : ℕ) → Receives {E = E} before after buffer filled (Ok n) → n ≡ 0 → 0 < length buffer → IsOver after
over_from None after buffer filled n receives none some = record { told = λ talks is. absurd (let s = receives.untold refl in cc) }
over_from (Some before) after buffer filled n receives none some =
    let g = receives.told before refl in
    let e = n == 0 && nat_lt 0 (length buffer) in
    record {
      told = λ talks is.
          let same : Some talks ≡ Some (g.earlier ++ with_received (take n filled) e g.last ∷ []) = sym is ∙ g.are in
          let are : talks ≡ g.earlier ++ with_received (take n filled) e g.last ∷ [] = cc in
          subst (λ (ts : List Talk). IsTrue (is_over ts)) (sym are) (subst (λ (b : Bool). IsTrue b) (sym (over_last g.earlier (with_received (take n filled) e g.last))) (or_true g.last.ended e (end_given n buffer none some)));
    }
