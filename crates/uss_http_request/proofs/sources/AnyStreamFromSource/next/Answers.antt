use Rattle.uss_http_request.proofs.SourceSteps.{gave_more, ended_from}
use Rattle.uss_http_request.proofs.sources.AnyStreamFromSource.next.Goals as goal

pub returns-in-Ok-clause-bytes : goal.returns-in-Ok-clause-bytes
returns-in-Ok-clause-bytes g c = λ origin past had. gave_more (g.S.Source.left origin) (g.S.Source.left c.args.self.now) (g.S.Source.left c.read.new.self) past c.args.buffer.now c.read.new.buffer c.in-Ok.count had c.in-Ok.ensures.bytes

pub returns-in-Ok-clause-end : goal.returns-in-Ok-clause-end
returns-in-Ok-clause-end g c = λ none some. ended_from (g.S.Source.left c.args.self.now) (g.S.Source.left c.read.new.self) c.args.buffer.now c.read.new.buffer c.in-Ok.count c.in-Ok.ensures.bytes none some
