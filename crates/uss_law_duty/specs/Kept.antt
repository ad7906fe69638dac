-- What holds of the pairs that a supplier keeps of what it heard. This project's own.
use Rattle.std.specs.Prelude.{ℕ, ◌<◌, ◌≤◌, ◌≡◌, ◌≢◌, List, [], ◌∷◌, ◌++◌, length}
use Rattle.uss_event.specs.Pairs.{OperationalIntent}
use Rattle.uss_law_dss.specs.Lists.{Has}
use Rattle.uss_event.specs.Heard.{News, most_kept}
use Rattle.uss_event.specs.Heard.News.{Heard, Forgotten}

-- the pair was heard; since then its flight wasn't forgotten, and each pair of the flight that was heard is older
pub record IsLastHeard (heard : List News) (p : OperationalIntent) : Type 0 where
  pub before : List News
  pub since : List News
  pub is : heard ≡ before ++ Heard p ∷ since
  pub remembered : Has since (Forgotten p.reference.flight) → ⊥
  pub newest : (q : OperationalIntent) → Has since (Heard q) → q.reference.flight ≡ p.reference.flight → q.reference.version < p.reference.version

-- no two are of one flight
abbrev pub AreApart : List OperationalIntent → Type 0
AreApart [] = Unit {0}
AreApart (p ∷ ps) = ((q : OperationalIntent) → Has ps q → q.reference.flight ≢ p.reference.flight) × AreApart ps

-- so many other flights were heard of that one is forgotten for them
pub record AreCrowding (since : List News) (flight : ℕ) : Type 0 where
  pub pairs : List OperationalIntent
  pub many : most_kept ≤ length pairs
  pub heard : (q : OperationalIntent) → Has pairs q → Has since (Heard q)
  pub apart : AreApart pairs
  pub others : (q : OperationalIntent) → Has pairs q → q.reference.flight ≢ flight
