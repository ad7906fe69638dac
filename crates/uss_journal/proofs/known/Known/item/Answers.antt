use Rattle.std.proofs.Common.{◌≡◌, ◌∙◌, ◌+◌, ◌<◌, ◌≤◌, ℕ, sym, ap, arith, rules, Some, slice_range, get_or, List, ◌∷◌, length, vec_len}
use Rattle.std.proofs.lemmas.List.{get_or_read}
use Rattle.uss_journal.proofs.Chain.{Between, between_gates, no_record}
use Rattle.uss_journal.proofs.known.Known.item.Goals as goal

pub returns-then-n-len : goal.returns-then-n-len
returns-then-n-len c = sym (no_record _ _ 8 c.args.n (omega (arith, c.if-n-len.true, c.len.ensures, c.args.self.now.gates.ok.0)))

inside : (c : goal.After-gate-start) → c.args.n < length c.args.self.now.gates.items
inside c = omega (arith, c.if-n-len.false, c.len.ensures, c.args.self.now.gates.ok.0)

gates : (c : goal.After-gate-start) → Between c.args.self.now.bytes.items c.args.self.now.gates.items 8 c.args.n
gates c = between_gates c.args.self.now.bytes.items c.args.self.now.gates.items 8 c.args.n c.requires.reaches (inside c)

pub overflow_add-start : goal.overflow_add-start
overflow_add-start c =
    let b = gates c in
    let size : length c.args.self.now.bytes.items ≡ vec_len c.args.self.now.bytes = omega (arith, c.args.self.now.bytes.ok.0) in
    let start : c.gate-start.result + 5 ≤ vec_len c.args.self.now.bytes = omega (arith, b.start, b.end, c.gate-start.ensures) in
    search rules

pub slice_bounds-result-count : goal.slice_bounds-result-count
slice_bounds-result-count c =
    let low : c.args.n < length c.args.self.now.gates.items = omega (arith, c.if-n-len.false, c.len.ensures, c.args.self.now.gates.ok.0) in
    let b : Between c.args.self.now.bytes.items c.args.self.now.gates.items 8 c.args.n = between_gates c.args.self.now.bytes.items c.args.self.now.gates.items 8 c.args.n c.requires.reaches low in
    omega (arith, b.start, c.gate-start.ensures, get_or_read c.args.self.now.gates.items c.args.n c.index-end.result.now low c.index-end.ensures 0)

pub slice_bounds-result-start : goal.slice_bounds-result-start
slice_bounds-result-start c =
    let low : c.args.n < length c.args.self.now.gates.items = omega (arith, c.if-n-len.false, c.len.ensures, c.args.self.now.gates.ok.0) in
    let b : Between c.args.self.now.bytes.items c.args.self.now.gates.items 8 c.args.n = between_gates c.args.self.now.bytes.items c.args.self.now.gates.items 8 c.args.n c.requires.reaches low in
    let end : c.index-end.result.now ≡ get_or c.args.self.now.gates.items c.args.n 0 = get_or_read c.args.self.now.gates.items c.args.n c.index-end.result.now low c.index-end.ensures 0 in
    let order : c.gate-start.result + 5 ≤ c.index-end.result.now = omega (arith, b.start, c.gate-start.ensures, end) in
    search rules

pub slice_bounds-result-end : goal.slice_bounds-result-end
slice_bounds-result-end c =
    let low : c.args.n < length c.args.self.now.gates.items = omega (arith, c.if-n-len.false, c.len.ensures, c.args.self.now.gates.ok.0) in
    let b : Between c.args.self.now.bytes.items c.args.self.now.gates.items 8 c.args.n = between_gates c.args.self.now.bytes.items c.args.self.now.gates.items 8 c.args.n c.requires.reaches low in
    let end : c.index-end.result.now ≡ get_or c.args.self.now.gates.items c.args.n 0 = get_or_read c.args.self.now.gates.items c.args.n c.index-end.result.now low c.index-end.ensures 0 in
    let within : c.index-end.result.now ≤ length c.deref.result.now = omega (arith, b.end, end, ap length c.deref.ensures.value) in
    search rules

pub returns : goal.returns
returns c =
    let low : c.args.n < length c.args.self.now.gates.items = omega (arith, c.if-n-len.false, c.len.ensures, c.args.self.now.gates.ok.0) in
    let b : Between c.args.self.now.bytes.items c.args.self.now.gates.items 8 c.args.n = between_gates c.args.self.now.bytes.items c.args.self.now.gates.items 8 c.args.n c.requires.reaches low in
    let end : c.index-end.result.now ≡ get_or c.args.self.now.gates.items c.args.n 0 = get_or_read c.args.self.now.gates.items c.args.n c.index-end.result.now low c.index-end.ensures 0 in
    ap (λ (file : List ℕ). Some (slice_range file (c.gate-start.result + 5) c.index-end.result.now)) c.deref.ensures.value
    ∙ ap (λ (n : ℕ). Some (slice_range c.args.self.now.bytes.items (n + 5) c.index-end.result.now)) c.gate-start.ensures
    ∙ ap (λ (n : ℕ). Some (slice_range c.args.self.now.bytes.items (get_or (8 ∷ c.args.self.now.gates.items) c.args.n 0 + 5) n)) end
    ∙ sym b.found
