use Rattle.uss_http_request.proofs.DialSteps.{heard_more, heard_same, over_from}
use Rattle.uss_http_request.proofs.dials.AnyStreamFromDial.next.Goals as goal

pub returns-in-Ok-clause-bytes : goal.returns-in-Ok-clause-bytes
returns-in-Ok-clause-bytes g c = λ origin past had. heard_more (g.G.Dial.talks origin) (g.G.Dial.talks c.args.self.now) (g.G.Dial.talks c.receive.new.self) (g.G.Dial.is_open origin) (g.G.Dial.is_open c.args.self.now) (g.G.Dial.is_open c.receive.new.self) past c.args.buffer.now c.receive.new.buffer c.in-Ok.count had c.in-Ok.ensures.bytes c.in-Ok.ensures.stream

pub returns-in-Err-clause-bytes : goal.returns-in-Err-clause-bytes
returns-in-Err-clause-bytes g c = λ origin past had. heard_same (g.G.Dial.talks origin) (g.G.Dial.talks c.args.self.now) (g.G.Dial.talks c.receive.new.self) (g.G.Dial.is_open origin) (g.G.Dial.is_open c.args.self.now) (g.G.Dial.is_open c.receive.new.self) past c.args.buffer.now c.receive.new.buffer _ had c.in-Err.ensures.bytes c.in-Err.ensures.stream

pub returns-in-Ok-clause-end : goal.returns-in-Ok-clause-end
returns-in-Ok-clause-end g c = λ none some. over_from (g.G.Dial.talks c.args.self.now) (g.G.Dial.talks c.receive.new.self) c.args.buffer.now c.receive.new.buffer c.in-Ok.count c.in-Ok.ensures.bytes none some
