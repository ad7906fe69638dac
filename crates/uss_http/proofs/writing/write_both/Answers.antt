use Rattle.std.proofs.Common.{◌≡◌, ◌++◌, Some, subst, append_assoc}
use Rattle.std.specs.Prelude.{List, ℕ, OnOk}
use Rattle.uss_http.proofs.PieceSteps.{front_of_first, front_of_second, map_err}
use Rattle.uss_http.proofs.writing.write_both.Goals as goal

pub returns-in-Err-clause-front : goal.returns-in-Err-clause-front
returns-in-Err-clause-front g c = λ taken is. front_of_first taken (g.K.Sink.taken c.write_all.new.output) c.args.first.now c.args.second.now (c.in-Err.ensures.front taken is)

pub returns-clause-written : goal.returns-clause-written
returns-clause-written g c = λ taken is. subst (λ (t : List ℕ). OnOk c.write_all-2.result (g.K.Sink.taken c.write_all-2.new.output ≡ Some t)) (append_assoc taken c.args.first.now c.args.second.now) (c.write_all-2.ensures.written (taken ++ c.args.first.now) (c.in-Ok.ensures.written taken is))

pub returns-clause-front : goal.returns-clause-front
returns-clause-front g c = λ taken is. map_err c.write_all-2.result (front_of_second taken (g.K.Sink.taken c.write_all-2.new.output) c.args.first.now c.args.second.now) (c.write_all-2.ensures.front (taken ++ c.args.first.now) (c.in-Ok.ensures.written taken is))
