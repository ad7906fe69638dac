use Rattle.std.proofs.Common.{◌≡◌, inr, subst, string_bytes}
use Rattle.uss_app.specs.declared.commands.Command.{Command}
use Rattle.uss_app.specs.Says.{WroteFront}
use Rattle.uss_app.proofs.command.Goals as goal

pub returns-in-Ok-clause-begun : goal.returns-in-Ok-clause-begun
returns-in-Ok-clause-begun g c = λ command left taken names is_left is_taken three.
    let same : c.in-Some.command ≡ command = cc in
    let P : Command → Type 0 = λ k. WroteFront k left taken (g.K.Sink.taken c.told.new.output) in
    inr (subst P same (record {
      status = c.in-Ok.answer.status;
      text = string_bytes c.in-Ok.answer.text;
      says = c.in-Ok.ensures.says left is_left;
      front = c.told.ensures.front taken is_taken three;
    }))
