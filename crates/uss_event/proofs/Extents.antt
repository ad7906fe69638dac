-- What a test says of two lists together.
use Rattle.std.proofs.Common.{◌≡◌, Bool, ◌&&◌, ◌||◌, List, ◌++◌}
use Rattle.std.specs.List.{list_all, list_any}
use Rattle.std.proofs.lemmas.List.Folds.{list_all-append, list_any-append}

pub all_of_both : {X : Type 0} (p : X → Bool) (xs ys : List X) → list_all p (xs ++ ys) ≡ (list_all p xs && list_all p ys)
all_of_both p xs ys = list_all-append p xs ys

pub any_of_both : {X : Type 0} (p : X → Bool) (xs ys : List X) → list_any p (xs ++ ys) ≡ (list_any p xs || list_any p ys)
any_of_both p xs ys = list_any-append p xs ys
