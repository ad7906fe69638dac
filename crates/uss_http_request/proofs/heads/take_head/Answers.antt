use Rattle.std.proofs.Common.{arith, subst, sym, drop, length-take, Ok, Err}
use Rattle.std.specs.Prelude.{List, ℕ}
use Rattle.uss_http_request.specs.Pieces.{piece_limit}
use Rattle.uss_http_request.specs.Heads.{BeginsWith}
use Rattle.uss_http_request.proofs.HeadSteps.{halted_head, begins_at, says_at, refused_head}
use Rattle.uss_http_request.proofs.Prompting.{head_halted, unless_fault}
use Rattle.uss_http_request.proofs.heads.take_head.Goals as goal

pub returns-in-Err-clause-refused : goal.returns-in-Err-clause-refused
returns-in-Err-clause-refused g c =
    let e = c.in-Err.ensures in
    rw c.head_refusal.ensures (halted_head g.T.Stream.gave g.T.Stream.ended c.args.stream.now c.args.intake.now c.take_piece.new.stream c.take_piece.new.intake c.in-Err.halt e.passes e.bad e.long e.cut)

pub returns-in-Err-head_at-clause-refused : goal.returns-in-Err-head_at-clause-refused
returns-in-Err-head_at-clause-refused g c =
    let found = c.in-Ok.ensures.found.0 in
    let all = c.take_piece.new.intake in
    refused_head g.T.Stream.gave g.T.Stream.ended c.args.stream.now c.args.intake.now c.take_piece.new.stream all (drop c.in-Ok.spans.len all) found.0 c.in-Err-head_at.refusal c.in-Ok.ensures.passes (begins_at all _ _ found.0 found.1) (says_at all c.front.result.now _ c.headers.result.now c.in-Ok.spans found.0 (Err c.in-Err-head_at.refusal) c.front.ensures.value c.headers.ensures found.1 c.in-Err-head_at.ensures)

pub use_front-requires : goal.use_front-requires
use_front-requires g c = omega (arith, c.in-Ok.ensures.found.1.section.len_fits, length-take piece_limit c.take_piece.new.intake)

pub returns-clause-taken : goal.returns-clause-taken
returns-clause-taken g c =
    let found = c.in-Ok.ensures.found.0 in
    let all = c.take_piece.new.intake in
    record {
      all = all;
      passes = c.in-Ok.ensures.passes;
      has = record {
        tree = found.0;
        begins = subst (λ (rest : List ℕ). BeginsWith all found.0 rest) (sym c.use_front.ensures) (begins_at all _ _ found.0 found.1);
        says = says_at all c.front.result.now _ c.headers.result.now c.in-Ok.spans found.0 (Ok c.in-Ok-head_at.head) c.front.ensures.value c.headers.ensures found.1 c.in-Ok-head_at.ensures;
      };
    }

pub returns-in-Err-clause-prompt : goal.returns-in-Err-clause-prompt
returns-in-Err-clause-prompt g c = rw c.head_refusal.ensures (head_halted c.take_piece.result c.in-Err.halt _ c.in-Err.is c.take_piece.ensures.prompt)

pub returns-in-Err-head_at-clause-prompt : goal.returns-in-Err-head_at-clause-prompt
returns-in-Err-head_at-clause-prompt g c = unless_fault c.in-Err-head_at.refusal _ c.in-Ok.ensures.prompt
