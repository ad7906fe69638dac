-- Heads of requests: RFC 9112, sections 2 to 5, as the grammar of the crate `httparse` has it, and within 16 KiB.
use Rattle.std.specs.Prelude.{◌≡◌, ℕ, ◌≤◌, List, ◌++◌, length}
use Rattle.httparse.specs.Grammar.{RequestHead, IsRequestHead, print_request, HasNoRequest, NeverHasRequest, MayBecomeRequest, EndsInTarget}
use Rattle.uss_http_request.specs.Pieces.{piece_limit}

-- the bytes begin with this head, and the rest follows it
pub record BeginsWith (bytes : List ℕ) (head : RequestHead) (rest : List ℕ) : Type 0 where
  pub valid : IsRequestHead head
  pub spelled : bytes ≡ print_request head ++ rest
  pub within : length (print_request head) ≤ piece_limit

-- no head is at the start yet, and more bytes may make one
pub record IsOpenHead (bytes : List ℕ) : Type 0 where
  pub none : HasNoRequest bytes
  pub may : MayBecomeRequest bytes

-- whatever follows, no head is at the start. Bytes that end inside the target of a request count as the beginning
-- of a head.
pub record BeginsNoHead (bytes : List ℕ) : Type 0 where
  pub never : NeverHasRequest bytes
  pub outside : EndsInTarget bytes → ⊥
