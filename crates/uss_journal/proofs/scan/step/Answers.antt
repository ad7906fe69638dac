use Rattle.std.proofs.Common.{◌<◌, arith, subst, sym, List, ℕ, length}
use Rattle.uss_disk.specs.Disk.{bytes_of}
use Rattle.uss_journal.specs.Gates.{Leads}
use Rattle.uss_journal.proofs.Stands.{leads_more, refused_past}
use Rattle.uss_journal.proofs.scan.step.Goals as goal

pub returns-in_ok-push-in-Ok-clause-leads : goal.returns-in_ok-push-in-Ok-clause-leads
returns-in_ok-push-in-Ok-clause-leads g c =
    let old = c.args.known.now in
    let new = c.next.new.bytes.items in
    let low : c.in-Ok.gate < length new = omega (arith, c.in-Ok.ensures.reached, c.next.new.bytes.ok.0) in
    subst (λ (gs : List ℕ). Leads new gs c.in-Ok.gate) (sym c.in_ok-push-in-Ok.ensures.items)
    (leads_more old.bytes.items new old.gates.items old.last c.requires.leads c.next.ensures.kept c.in-Ok.gate c.requires.is_open c.in-Ok.ensures.found low)

pub returns-in-Err-clause-refused_by : goal.returns-in-Err-clause-refused_by
returns-in-Err-clause-refused_by g c = λ honest is_front.
    let old = c.args.known.now in
    refused_past old.bytes.items (bytes_of (g.D.Disk.reads c.args.disk.now)) old.gates.items old.last c.requires.leads is_front c.requires.is_open
    (omega (arith, c.requires.long, c.requires.measured honest)) c.in-Err.refusal (c.in-Err.ensures.past honest is_front)
