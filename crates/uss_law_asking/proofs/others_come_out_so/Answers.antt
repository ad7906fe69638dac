use Rattle.uss_law_asking.proofs.Worked as Worked
use Rattle.uss_law_asking.proofs.others_come_out_so.Goals as goal

pub returns-clause-resumed : goal.returns-clause-resumed
returns-clause-resumed c = Worked.resumed

pub returns-clause-overtaken : goal.returns-clause-overtaken
returns-clause-overtaken c = Worked.overtaken

pub returns-clause-too_late : goal.returns-clause-too_late
returns-clause-too_late c = Worked.too_late

pub returns-clause-cancelled : goal.returns-clause-cancelled
returns-clause-cancelled c = Worked.cancelled

pub returns-clause-steady : goal.returns-clause-steady
returns-clause-steady c = Worked.steady

pub returns-clause-strayed : goal.returns-clause-strayed
returns-clause-strayed c = Worked.strayed
