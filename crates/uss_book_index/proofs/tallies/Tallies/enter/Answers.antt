use Rattle.std.proofs.Common.{sym, ap, ◌∙◌, ◌+◌, arith, ◌≡◌, Some, None}
use Rattle.std.specs.BTreeMap as tree
use Rattle.std.specs.Ordering.{nat_cmp}
use Rattle.uss_book_index.specs.declared.tally.Tally.{Tally}
use Rattle.uss_book_index.proofs.Places.{done}
use Rattle.uss_book_index.proofs.Counted.{counted_at}
use Rattle.uss_book_index.proofs.tallies.Tallies.enter.Goals as goal

pub returns-in-Some : goal.returns-in-Some
returns-in-Some c =
    let t = c.in-Some.tally.now in
    let u : Tally = record { attempts = t.attempts + c.tried.result; bytes = t.bytes + c.added.result } in
    let here : tree.get nat_cmp c.args.self.now.tallies c.job_of-job.result ≡ Some t = sym c.in-Some.ensures.value in
    let put = done c.insert.result c.insert.ensures.updates c.insert.ensures.absent (λ none. let e : Some t ≡ None = sym here ∙ none in cc) in
    λ es are. counted_at c.args.self.now.tallies c.insert.new.self es c.args.e.now c.job_of-job.result t u c.job_of-job.ensures are here (ap (λ n. t.attempts + n) c.tried.ensures.value) (ap (λ n. t.bytes + n) c.added.ensures.value) (omega (arith, c.added.ensures.bound)) put.0
