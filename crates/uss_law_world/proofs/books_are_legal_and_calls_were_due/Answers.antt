use Rattle.uss_law_world.proofs.Invariants.{legal_after, due_after}
use Rattle.uss_law_world.proofs.books_are_legal_and_calls_were_due.Goals as goal

pub returns : goal.returns
returns c = record { legal = λ table owners moves names free. legal_after table owners names moves free; due = λ table owners moves names free. due_after table owners names moves free }
