-- How pieces that are written one after the other go on.
use Rattle.std.proofs.Common.{ℕ, ◌+◌, List, ◌++◌, length, take, Option, Some, sym, ap, ◌∙◌, arith, append_assoc, length-append}
use Rattle.std.proofs.lemmas.List.{take-append-le}
use Rattle.std.proofs.Math.Seq.{take-append-add}
use Rattle.std.specs.Prelude.{Result, OnErr, Ok, Err}
use Rattle.uss_link.specs.Bytes.{TookFront}

-- a prefix of the first of two texts is a prefix of both
pub front_of_first : (taken : List ℕ) (after : Option (List ℕ)) (a b : List ℕ) → TookFront taken after a → TookFront taken after (a ++ b)
front_of_first taken after a b f = record { count = f.count; within = omega (arith, f.within, length-append a b); is_taken = f.is_taken ∙ ap (λ (t : List ℕ). Some (taken ++ t)) (sym (take-append-le f.count a b f.within)) }

-- and so is a prefix of the second, once the first was taken
pub front_of_second : (taken : List ℕ) (after : Option (List ℕ)) (a b : List ℕ) → TookFront (taken ++ a) after b → TookFront taken after (a ++ b)
front_of_second taken after a b f =
    record {
      count = length a + f.count;
      within = omega (arith, f.within, length-append a b);
      is_taken = f.is_taken ∙ ap Some (append_assoc taken a (take f.count b) ∙ ap (λ (t : List ℕ). taken ++ t) (sym (take-append-add a b f.count)));
    }

pub map_err : {A E : Type 0} {P Q : Type 0} → (r : Result A E) → (P → Q) → OnErr r P → OnErr r Q
map_err (Ok x) f p = p
map_err (Err e) f p = f p
