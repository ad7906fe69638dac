-- What the loop over a dial keeps, and how one call goes on from it.
use Rattle.std.proofs.Common.{◌≡◌, ℕ, ◌+◌, ◌<◌, ◌≤◌, zero, suc, ◌++◌, List, [], ◌∷◌, length, take, drop, Option, Some, Bool, IsTrue, Ok, Err, refl, sym, ◌∙◌, ap, subst, arith, append_assoc, length-drop}
use Rattle.std.proofs.Math.Seq.{take-add}
use Rattle.uss_link.specs.Talks.{Talk, with_sent, LastBecomes, Sends, SentFront, Speaks, Stays}

-- since some moment the first n of these bytes were sent
pub record SentSince (before now : Option (List Talk)) (bytes : List ℕ) (n : ℕ) : Type 0 where
  pub told : (talks : List Talk) → before ≡ Some talks → SentFront talks now bytes n

pub sent_none : (now : Option (List Talk)) (bytes : List ℕ) → SentSince now now bytes 0
sent_none now bytes = record { told = λ talks is. record { within = omega arith; none = λ _. is; some = λ more. absurd (omega arith) } }

-- what comes before a last item, and the last item itself, are the same where the lists are
same_end : {A : Type 0} (xs ys : List A) (x y : A) → xs ++ x ∷ [] ≡ ys ++ y ∷ [] → (xs ≡ ys) × (x ≡ y)
same_end [] [] x y e = (refl, cc)
same_end [] (b ∷ []) x y e = absurd (cc)
same_end [] (b ∷ c ∷ ys) x y e = absurd (cc)
same_end (a ∷ []) [] x y e = absurd (cc)
same_end (a ∷ c ∷ xs) [] x y e = absurd (cc)
same_end (a ∷ xs) (b ∷ ys) x y e =
    let head : a ≡ b = cc in
    let tail : xs ++ x ∷ [] ≡ ys ++ y ∷ [] = cc in
    let rest = same_end xs ys x y tail in
    ((λ i. head i ∷ rest.0 i), rest.1)

-- two pieces sent one after the other
with_both : (a b : List ℕ) (talk : Talk) → with_sent b (with_sent a talk) ≡ with_sent (a ++ b) talk
with_both a b talk = ap (λ (sent : List ℕ). record talk { sent = sent }) (append_assoc talk.sent a b)

then_becomes : (a b : List ℕ) (talks : List Talk) (middle : List Talk) (after : Option (List Talk)) → LastBecomes (with_sent a) talks (Some middle) → LastBecomes (with_sent b) middle after → LastBecomes (with_sent (a ++ b)) talks after
then_becomes a b talks middle after first second =
    let is_middle : middle ≡ first.earlier ++ with_sent a first.last ∷ [] = cc in
    let same = same_end first.earlier second.earlier (with_sent a first.last) second.last (sym is_middle ∙ second.were) in
    record {
      earlier = first.earlier;
      last = first.last;
      were = first.were;
      are = second.are ∙ ap (λ (xs : List Talk). Some (xs ++ with_sent b second.last ∷ [])) (sym same.0) ∙ ap (λ (t : Talk). Some (first.earlier ++ with_sent b t ∷ [])) (sym same.1) ∙ ap (λ (t : Talk). Some (first.earlier ++ t ∷ [])) (with_both a b first.last);
    }

becomes_same : (a b : List ℕ) (talks : List Talk) (after : Option (List Talk)) → a ≡ b → LastBecomes (with_sent a) talks after → LastBecomes (with_sent b) talks after
becomes_same a b talks after e l = record { earlier = l.earlier; last = l.last; were = l.were; are = l.are ∙ ap (λ (x : List ℕ). Some (l.earlier ++ with_sent x l.last ∷ [])) e }

-- the streams told after some bytes were sent
middle_of : (talks : List Talk) (now : Option (List Talk)) (bytes : List ℕ) (n : ℕ) → SentFront talks now bytes n → (middle : List Talk) × (now ≡ Some middle)
middle_of talks now bytes zero s = (talks, s.none refl)
middle_of talks now bytes (suc n) s = let l = s.some (omega arith) in (l.earlier ++ with_sent (take (suc n) bytes) l.last ∷ [], l.are)

both : (talks : List Talk) (now after : Option (List Talk)) (bytes piece middle : List ℕ) (n k : ℕ) (streams : List Talk) → now ≡ Some streams → SentFront talks now bytes n → piece ≡ drop n bytes → LastBecomes (with_sent (take k piece)) streams after → LastBecomes (with_sent (take (n + k) bytes)) talks after
both talks now after bytes piece middle zero k streams is s is_piece l =
    let same : streams ≡ talks = (let e = s.none refl in cc) in
    becomes_same (take k piece) (take (0 + k) bytes) talks after (ap (take k) is_piece ∙ sym (take-add 0 k bytes)) (record { earlier = l.earlier; last = l.last; were = sym same ∙ l.were; are = l.are })
both talks now after bytes piece middle (suc n) k streams is s is_piece l =
    let first = s.some (omega arith) in
    let second : LastBecomes (with_sent (take (suc n) bytes)) talks (Some streams) = record { earlier = first.earlier; last = first.last; were = first.were; are = sym is ∙ first.are } in
    becomes_same (take (suc n) bytes ++ take k piece) (take (suc n + k) bytes) talks after (ap (λ (p : List ℕ). take (suc n) bytes ++ take k p) is_piece ∙ sym (take-add (suc n) k bytes)) (then_becomes (take (suc n) bytes) (take k piece) talks streams after second l)

-- one more call goes on from the bytes sent so far
pub sent_more : {E : Type 0} (before now after : Option (List Talk)) (bytes piece : List ℕ) (n k : ℕ) → SentSince before now bytes n → n < length bytes → piece ≡ drop n bytes → Sends {E = E} now after piece (Ok k) → SentSince before after bytes (n + k)
sent_more before now after bytes piece n k sent room is_piece call =
    record {
      told = λ talks is.
          let s = sent.told talks is in
          let m = middle_of talks now bytes n s in
          let long = ap length is_piece ∙ length-drop n bytes in
          record {
            within = omega (arith, call.within);
            none = λ zero_sent. absurd (omega (arith, call.some));
            some = λ more. both talks now after bytes piece [] n k m.0 m.1 s is_piece (call.told m.0 m.1);
          };
    }

-- a call that answers a fault sends nothing
pub sent_same : {E : Type 0} (before now after : Option (List Talk)) (bytes piece : List ℕ) (n : ℕ) (e : E) → SentSince before now bytes n → Sends {E = E} now after piece (Err e) → (talks : List Talk) → before ≡ Some talks → SentFront talks after bytes n
sent_same before now after bytes piece n e sent call talks is =
    let s = sent.told talks is in
    let m = middle_of talks now bytes n s in
    let same : after ≡ now = call.told m.0 m.1 ∙ sym m.1 in
    record {
      within = s.within;
      none = λ zero_sent. same ∙ s.none zero_sent;
      some = λ more. let l = s.some more in record { earlier = l.earlier; last = l.last; were = l.were; are = same ∙ l.are };
    }

-- all were sent where no more are left
pub sent_all : (before now : Option (List Talk)) (bytes : List ℕ) (n : ℕ) → SentSince before now bytes n → length bytes ≤ n → n ≤ length bytes → (talks : List Talk) → before ≡ Some talks → SentFront talks now bytes (length bytes)
sent_all before now bytes n sent low high talks is =
    let e : n ≡ length bytes = omega arith in
    subst (λ (k : ℕ). SentFront talks now bytes k) e (sent.told talks is)

-- since some moment a stream is open where one was, and so many bytes went only over an open one
pub record OverSince (before now : Option Bool) (n : ℕ) : Type 0 where
  pub stays : Stays before now
  pub over : (was : Bool) → before ≡ Some was → 0 < n → IsTrue was

pub stays_on : (before now after : Option Bool) → Stays before now → Stays now after → Stays before after
stays_on before now after first second = record { told = λ was is. second.told was (first.told was is) }

pub over_none : (now : Option Bool) → OverSince now now 0
over_none now = record { stays = record { told = λ was is. is }; over = λ was is more. absurd (omega arith) }

-- one more call goes on from there
pub over_more : {T E : Type 0} (before now after : Option Bool) (n m : ℕ) (value : T) → OverSince before now n → Speaks {T = T} {E = E} now after (Ok value) → OverSince before after m
over_more before now after n m value since call =
    record {
      stays = stays_on before now after since.stays call.stays;
      over = λ was is _. call.over was (since.stays.told was is);
    }

-- and stays where a call answers a fault
pub over_same : {T E : Type 0} (before now after : Option Bool) (n : ℕ) (e : E) → OverSince before now n → Speaks {T = T} {E = E} now after (Err e) → Stays before after
over_same before now after n e since call = stays_on before now after since.stays call.stays

-- where no more bytes are left, all of them went so
pub over_all : (before now : Option Bool) (bytes : List ℕ) (n : ℕ) → OverSince before now n → length bytes ≤ n → (was : Bool) → before ≡ Some was → 0 < length bytes → IsTrue was
over_all before now bytes n since low was is some = since.over was is (omega arith)
