use Rattle.std.proofs.Common.{ap, ◌∙◌, Ok, None}
use Rattle.std.proofs.lemmas.Bool.{cond-true}
use Rattle.std.proofs.lemmas.Str.{is_utf8-from_IsUtf8}
use Rattle.serde_json.specs.Read.{read}
use Rattle.uss_wire_base.specs.Reading.{whole_of}
use Rattle.uss_wire_base.proofs.Lists.{not_read}
use Rattle.uss_wire_base.proofs.reading.data.Goals as goal

pub returns-in-Ok : goal.returns-in-Ok
returns-in-Ok c = ap (whole_of (λ _ d. Ok d)) (cond-true _ (read c.args.bytes.now) None (is_utf8-from_IsUtf8 c.args.bytes.now c.in-Ok.ensures.ok.0) ∙ c.in-Ok.ensures.ok.1)

pub returns-in_default : goal.returns-in_default
returns-in_default c = λ _. ap (whole_of (λ _ d. Ok d)) (not_read c.args.bytes.now (read c.args.bytes.now) (c.in-Err.ensures.err (λ memory. c.in_default.not-Memory (c.classify.ensures.memory.1 memory))))
