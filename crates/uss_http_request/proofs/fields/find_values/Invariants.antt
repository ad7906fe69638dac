use Rattle.std.proofs.Common.{◌≡◌, take}
use Rattle.std.specs.Prelude.{fold}
use Rattle.uss_http_request.specs.declared.fields.Values.TheVariants.{None}
use Rattle.uss_http_request.specs.Found.{after_field}
use Rattle.uss_http_request.proofs.fields.find_values.Given as goal

abbrev pub invariant-loop-header : goal.invariant-loop-header
invariant-loop-header l = l.found ≡ fold (after_field l.bytes l.name) None (take l.header-index l.headers)
