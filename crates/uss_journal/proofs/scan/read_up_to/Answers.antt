use Rattle.std.proofs.Common.{◌≡◌, ◌∙◌, ◌≤◌, ℕ, List, ◌++◌, length, take, drop, sym, ap, subst, arith, vec_len}
use Rattle.std.proofs.lemmas.List.{drop_all, append-nil, take_all, take_at}
use Rattle.uss_journal.specs.Sound.{IsFront}
use Rattle.uss_disk.specs.Disk.{bytes_of}
use Rattle.uss_journal.proofs.Bytes.{front_more}
use Rattle.uss_journal.proofs.scan.read_up_to.Goals as goal

-- what a Vec holds after all of it was written
written_whole : (n : ℕ) (new old : List ℕ) → length new ≡ n → length old ≡ n → take n (new ++ drop (length new) old) ≡ new
written_whole n new old size was =
    ap (λ (l : List ℕ). take n (new ++ l)) (drop_all (length new) old (omega arith)) ∙ ap (λ (l : List ℕ). take n l) (append-nil new) ∙ take_all n new (omega arith)

-- the start of what a Vec holds after it was made longer
grown_front : (old now more : List ℕ) (have n : ℕ) → have ≡ length old → have ≤ n → now ≡ take n old ++ more → take have now ≡ old
grown_front old now more have n had le is =
    ap (λ (l : List ℕ). take have l) (is ∙ ap (λ (l : List ℕ). l ++ more) (take_all n old (omega arith))) ∙ take_at old more have (sym had)

pub returns-clause-front : goal.returns-clause-front
returns-clause-front g c = λ honest is_front.
    let file = bytes_of (g.D.Disk.reads c.args.disk.now) in
    let old = c.args.bytes.now in
    let had : c.len-have.result ≡ length old.items = omega (arith, c.len-have.ensures, old.ok.0) in
    let grown : c.len-have.result ≤ vec_len c.resize.new.self = omega (arith, c.in_ok-resize.ensures.len, c.max.ensures, c.if-end-have.false) in
    let now_size : length c.deref_mut.result.now ≡ vec_len c.resize.new.self = omega (arith, c.deref_mut.ensures.len) in
    let size : length c.read_behind.new.bytes ≡ length c.deref_mut.result.now = omega (arith, c.read_behind.auto.bytes) in
    let whole = written_whole c.resize.new.self.len c.read_behind.new.bytes c.resize.new.self.items (omega (arith, size, now_size)) (omega (arith, c.resize.new.self.ok.0)) in
    let front : take c.len-have.result c.read_behind.new.bytes ≡ old.items = c.in_ok-read_behind.ensures.front ∙ grown_front old.items c.deref_mut.result.now _ c.len-have.result c.max.result had (omega (arith, c.max.ensures, c.if-end-have.false)) (c.deref_mut.ensures.value ∙ c.in_ok-resize.ensures.items) in
    subst (λ (l : List ℕ). IsFront l file) (sym whole)
    (front_more file old.items c.read_behind.new.bytes c.len-have.result (length c.deref_mut.result.now) (sym had) (omega (arith, now_size, grown)) size front (c.in_ok-read_behind.ensures.rest honest) is_front)
