use Rattle.std.proofs.Common.{◌≡◌, ◌∙◌, ◌+◌, ◌≤◌, ℕ, arith, rules, subst, sym, List, length, vec_len, take}
use Rattle.std.proofs.lemmas.List.{get_or_read, length-take-le}
use Rattle.uss_journal.specs.Gates.{Gated}
use Rattle.uss_journal.proofs.Stands.{leads_inside, gated_cut}
use Rattle.uss_journal.proofs.scan.scan.Goals as goal

pub index-requires : goal.index-requires
index-requires g c = omega (arith, leads_inside _ _ _ c.loop-disk.invariant.leads, c.loop-disk.known.bytes.ok.0)

pub step-requires-clause-is_open : goal.step-requires-clause-is_open
step-requires-clause-is_open g c =
    let inside = leads_inside c.loop-disk.known.bytes.items c.loop-disk.known.gates.items c.loop-disk.known.last c.loop-disk.invariant.leads in
    λ shut. c.loop-disk-test.true (get_or_read c.loop-disk.known.bytes.items c.loop-disk.known.last c.index.result.now inside c.index.ensures 0 ∙ shut)

pub loop-disk-smaller : goal.loop-disk-smaller
loop-disk-smaller g c =
    let inside = leads_inside c.step.new.known.bytes.items c.step.new.known.gates.items c.step.new.known.last c.in_ok-step.ensures.leads in
    omega (arith, inside, c.in_ok-step.ensures.further, c.in_ok-step.ensures.within, c.step.new.known.bytes.ok.0)

pub overflow_add-known : goal.overflow_add-known
overflow_add-known g c =
    let inside : c.loop-disk.known.last + 1 ≤ vec_len c.loop-disk.known.bytes = omega (arith, leads_inside _ _ _ c.loop-disk.invariant.leads, c.loop-disk.known.bytes.ok.0) in
    search rules

pub returns-clause-gated : goal.returns-clause-gated
returns-clause-gated g c =
    let known = c.loop-disk.known in
    let inside = leads_inside known.bytes.items known.gates.items known.last c.loop-disk.invariant.leads in
    let closed = sym (get_or_read known.bytes.items known.last c.index.result.now inside c.index.ensures 0) ∙ c.loop-disk-test.false in
    subst (λ (l : List ℕ). Gated l known.gates.items known.last) (sym c.truncate.ensures.items) (gated_cut known.bytes.items known.gates.items known.last c.loop-disk.invariant.leads closed)

pub returns-clause-whole : goal.returns-clause-whole
returns-clause-whole g c =
    let inside = leads_inside c.loop-disk.known.bytes.items c.loop-disk.known.gates.items c.loop-disk.known.last c.loop-disk.invariant.leads in
    let size : length (take (c.loop-disk.known.last + 1) c.loop-disk.known.bytes.items) ≡ c.loop-disk.known.last + 1 = length-take-le (c.loop-disk.known.last + 1) c.loop-disk.known.bytes.items (omega (arith, inside)) in
    subst (λ (l : List ℕ). length l ≡ c.loop-disk.known.last + 1) (sym c.truncate.ensures.items) size
