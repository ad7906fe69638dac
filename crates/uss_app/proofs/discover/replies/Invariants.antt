use Rattle.std.proofs.Common.{string_bytes}
use Rattle.uss_law_dss.specs.Service.{empty}
use Rattle.uss_app.specs.Discover.{replies_from}
use Rattle.uss_app.proofs.Replies.{SoFar}
use Rattle.uss_app.proofs.discover.replies.Given as goal

abbrev pub invariant-loop-line : goal.invariant-loop-line
invariant-loop-line l = SoFar (replies_from empty l.lines) l.service l.lines l.line-index (string_bytes l.text)
