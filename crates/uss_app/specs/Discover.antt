-- What `uss discover` says of the calls of its lines: each is one step of the discovery service, which begins empty.
-- This project's own.
use Rattle.std.specs.Prelude.{ℕ, List, [], ◌∷◌, ◌++◌}
use Rattle.uss_text.specs.declared.discover.DiscoverLine.{DiscoverLine}
use Rattle.uss_text.specs.Replies.{reply_text}
use Rattle.uss_law_dss.specs.Service.{Service, empty}
use Rattle.uss_law_dss.specs.Step.{service_step}

-- the texts of the replies, one after another, from a state of the service
abbrev pub replies_from : Service → List DiscoverLine → List ℕ
replies_from s [] = []
replies_from s (line ∷ lines) = let out = service_step s line.client line.ask in reply_text out.0 ++ replies_from out.1 lines

abbrev pub replies_of : List DiscoverLine → List ℕ
replies_of lines = replies_from empty lines
