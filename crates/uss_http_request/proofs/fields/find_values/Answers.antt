use Rattle.std.proofs.Common.{◌≡◌, ◌∙◌, sym, ap, subst, arith, take, take_all}
use Rattle.std.specs.Prelude.{List, fold, map}
use Rattle.httparse.specs.declared.spans.HeaderSpan.{HeaderSpan}
use Rattle.httparse.specs.Spans.{header_bytes}
use Rattle.uss_http_request.specs.declared.fields.Values.{Values}
use Rattle.uss_http_request.specs.declared.fields.Values.TheVariants.{None}
use Rattle.uss_http_request.specs.Fields.{values_of}
use Rattle.uss_http_request.specs.Found.{Describes, after_field}
use Rattle.uss_http_request.proofs.Finding.{describes_all}
use Rattle.uss_http_request.proofs.fields.find_values.Goals as goal

pub returns : goal.returns
returns c =
    let bytes = c.args.bytes.now in
    let name = c.args.name.now in
    let headers = c.args.headers.now in
    let all : take c.loop-header.header-index headers ≡ headers = take_all c.loop-header.header-index headers (omega arith) in
    let found : c.loop-header.found ≡ fold (after_field bytes name) None headers = c.loop-header.invariant ∙ ap (λ (hs : List HeaderSpan). fold (after_field bytes name) None hs) all in
    subst (λ (v : Values). Describes bytes v (values_of name (map (header_bytes bytes) headers))) (sym found) (describes_all bytes name headers c.requires)
