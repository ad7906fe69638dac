use Rattle.uss_link.proofs.Sending.{stays_on}
use Rattle.uss_http.proofs.SendSteps.{front_of_first, both_sent, front_of_second}
use Rattle.uss_http.proofs.writing.send_both.Goals as goal

pub returns-in-Err-clause-front : goal.returns-in-Err-clause-front
returns-in-Err-clause-front g c = λ talks is.
    let f = c.in-Err.ensures.front talks is in
    (f.0, front_of_first talks (g.G.Dial.talks c.send_all.new.dial) c.args.first.now c.args.second.now f.0 f.1)

pub returns-clause-sent : goal.returns-clause-sent
returns-clause-sent g c = λ talks is. both_sent talks (g.G.Dial.talks c.send_all.new.dial) (g.G.Dial.talks c.send_all-2.new.dial) c.args.first.now c.args.second.now c.send_all-2.result (c.in-Ok.ensures.sent talks is) (λ middle at. c.send_all-2.ensures.sent middle at)

pub returns-clause-front : goal.returns-clause-front
returns-clause-front g c = λ talks is. front_of_second talks (g.G.Dial.talks c.send_all.new.dial) (g.G.Dial.talks c.send_all-2.new.dial) c.args.first.now c.args.second.now c.send_all-2.result (c.in-Ok.ensures.sent talks is) (λ middle at. c.send_all-2.ensures.front middle at)

pub returns-in-Err-clause-stream : goal.returns-in-Err-clause-stream
returns-in-Err-clause-stream g c = c.in-Err.ensures.stream

pub returns-clause-stream : goal.returns-clause-stream
returns-clause-stream g c = stays_on (g.G.Dial.is_open c.args.dial.now) (g.G.Dial.is_open c.send_all.new.dial) (g.G.Dial.is_open c.send_all-2.new.dial) c.in-Ok.ensures.stream c.send_all-2.ensures.stream
