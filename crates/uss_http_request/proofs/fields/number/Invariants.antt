use Rattle.std.proofs.Common.{◌≡◌, true, take}
use Rattle.std.specs.List.{list_all}
use Rattle.std.specs.Char.{is_ascii_digit}
use Rattle.uss_http_request.specs.Fields.{capped_number}
use Rattle.uss_http_request.proofs.fields.number.Given as goal

abbrev pub invariant-loop-digit : goal.invariant-loop-digit
invariant-loop-digit l = (list_all is_ascii_digit (take l.digit-index l.text) ≡ true) × (l.value ≡ capped_number (take l.digit-index l.text))
