use Rattle.std.specs.Prelude.{◌≡◌, ℕ, List, ◌++◌, Some, OnOk, OnErr}
use Rattle.std.proofs.Common.{subst}
use Rattle.uss_link.specs.Bytes.{TookFront}
use Rattle.uss_http.specs.Writing.{response_with, response_text}
use Rattle.uss_http.proofs.writing.write_response.Goals as goal

pub returns-clause-written : goal.returns-clause-written
returns-clause-written g c = λ taken is. subst (λ (body : List ℕ). OnOk c.write_lent_response.result (g.K.Sink.taken c.write_lent_response.new.output ≡ Some (taken ++ response_text (response_with c.args.response.now.status body)))) c.as_slice.ensures (c.write_lent_response.ensures.written taken is)

pub returns-clause-front : goal.returns-clause-front
returns-clause-front g c = λ taken is. subst (λ (body : List ℕ). OnErr c.write_lent_response.result (TookFront taken (g.K.Sink.taken c.write_lent_response.new.output) (response_text (response_with c.args.response.now.status body)))) c.as_slice.ensures (c.write_lent_response.ensures.front taken is)
