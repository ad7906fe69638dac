-- Each call's judge, at the call that it is.
use Rattle.std.proofs.lemmas.Result.{IfOk-weaker}
use Rattle.std.proofs.Common.{◌∙◌}
use Rattle.uss_dss.specs.Parts.{put_refusal_is}
use Rattle.uss_dss.proofs.Dss.judge.Goals as goal

pub returns-in-Get : goal.returns-in-Get
returns-in-Get c = rw c.in-Get.is (c.judge_get.ensures c.args.client.now)

pub returns-in-TicketPut : goal.returns-in-TicketPut
returns-in-TicketPut c = rw c.in-TicketPut.is (c.judge_ticket_put.ensures c.in-TicketPut.area c.in-TicketPut.base)

pub returns-in-Put : goal.returns-in-Put
returns-in-Put c =
    rw c.in-Put.is (IfOk-weaker c.judge_put.result _ _
    (λ r h. h ∙ put_refusal_is c.args.self.now c.args.client.now c.in-Put.flight c.in-Put.ovn c.in-Put.extents c.in-Put.key c.in-Put.state c.in-Put.ticket)
    c.judge_put.ensures)
