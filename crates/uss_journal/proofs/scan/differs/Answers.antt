use Rattle.std.proofs.Common.{◌≡◌, ◌≢◌, ◌<◌, ◌+◌, Bool, [], ◌∷◌, Some, cond, get_or, drop, length, sym, ◌∙◌, ap, arith, eq-eqb}
use Rattle.std.proofs.lemmas.Bool.{ne_eqb}
use Rattle.std.proofs.lemmas.List.{get_or_append_left}
use Rattle.uss_journal.specs.Format.{mark, first_difference, new_journal}
use Rattle.uss_journal.proofs.Stands.{first_difference_more}
use Rattle.uss_journal.proofs.scan.differs.Goals as goal

pub returns-then-bytes-i : goal.returns-then-bytes-i
returns-then-bytes-i c =
    let i = c.loop-i.i in
    let low : i < 8 = omega (arith, c.loop-i-test.true) in
    let inside : i < length c.args.bytes.now = omega (arith, low, c.requires) in
    let front : get_or new_journal i 0 ≡ get_or mark i 0 = get_or_append_left mark (0 ∷ []) 0 i low in
    let other : get_or c.args.bytes.now i 0 ≢ get_or mark i 0 = λ same. c.if-bytes-i.true (same ∙ sym front) in
    sym (
    c.loop-i.invariant
    ∙ first_difference_more c.args.bytes.now i low inside
    ∙ ap (λ (b : Bool). cond b (first_difference (i + 1) (drop (i + 1) mark) (drop (i + 1) c.args.bytes.now)) (Some i)) (ne_eqb _ _ other)
    )

pub loop-i-preserved : goal.loop-i-preserved
loop-i-preserved c =
    let i = c.loop-i.i in
    let low : i < 8 = omega (arith, c.loop-i-test.true) in
    let inside : i < length c.args.bytes.now = omega (arith, low, c.requires) in
    let front : get_or new_journal i 0 ≡ get_or mark i 0 = get_or_append_left mark (0 ∷ []) 0 i low in
    c.loop-i.invariant
    ∙ first_difference_more c.args.bytes.now i low inside
    ∙ ap (λ (b : Bool). cond b (first_difference (i + 1) (drop (i + 1) mark) (drop (i + 1) c.args.bytes.now)) (Some i)) (eq-eqb _ _ (c.if-bytes-i.false ∙ front))
