-- What `uss conflict` says of two lists of volumes. This project's own.
use Rattle.std.specs.Prelude.{◌≡◌, ℕ, ◌⊎◌, List, ◌++◌, codes}
use Rattle.std.specs.Fmt.{decimal}
use Rattle.uss_vol4.specs.Volume.{IsLeastShared, NoneShared}
use Rattle.uss_text.specs.Conflict.{Lists}

-- i and j are the least pair of indices, from 0, whose volumes share a point of airspace and time
pub record LeastPair (ls : Lists) (text : List ℕ) : Type 0 where
  pub i : ℕ
  pub j : ℕ
  pub least : IsLeastShared ls.a ls.b i j
  pub text_is : text ≡ codes "shares " ++ (decimal i ++ (codes " " ++ (decimal j ++ codes "\n")))

-- no pair shares one
pub record Clear (ls : Lists) (text : List ℕ) : Type 0 where
  pub none : NoneShared ls.a ls.b
  pub text_is : text ≡ codes "clear\n"

abbrev pub Compared : Lists → List ℕ → Type 0
Compared ls text = LeastPair ls text ⊎ Clear ls text
