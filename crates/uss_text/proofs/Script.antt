-- The script of `uss conflict`, line by line.
use Rattle.std.proofs.Common.{◌≡◌, ℕ, ◌+◌, ◌<◌, ◌≤◌, Bool, true, false, cond, List, [], ◌∷◌, ◌++◌, length, Result, Ok, Err, refl, sym, ap, subst, ◌∙◌, arith, append_assoc, append-nil}
use Rattle.std.specs.Prelude.{◌==◌}
use Rattle.uss_vol4.specs.Volume.{Volume4D}
use Rattle.uss_text.specs.declared.refusal.WordRefusal.{WordRefusal}
use Rattle.uss_text.specs.declared.refusal.ScriptRefusal.{ScriptRefusal}
use Rattle.uss_text.specs.declared.conflict.Placed.{Placed}
use Rattle.uss_text.specs.declared.conflict.Side.{Side}
use Rattle.uss_text.specs.declared.conflict.Side.TheVariants.{A, B}
use Rattle.uss_text.specs.declared.refusal.WordRefusal.TheVariants.{Memory as WordMemory}
use Rattle.uss_text.specs.declared.refusal.ScriptRefusal.TheVariants.{Memory as ScriptMemory, TextTooLarge}
use Rattle.uss_text.proofs.Made.{lt_true, lt_false}
use Rattle.uss_text.specs.Lines.{most_bytes, lines_of, onto_first}
use Rattle.uss_text.specs.Refusals.{at_line, refusal_at}
use Rattle.uss_text.specs.Reading.{◌>>=◌}
use Rattle.uss_text.specs.Conflict.{Lists, lists, onto_side, with_first, behind_side, with_last, conflict_line, lists_behind, conflict_script}

-- the lists before those that are read
abbrev pub in_front : Lists → Result Lists ScriptRefusal → Result Lists ScriptRefusal
in_front ls (Ok others) = Ok (lists (ls.a ++ others.a) (ls.b ++ others.b))
in_front ls (Err e) = Err e

pub record SoFar (all given : Result Lists ScriptRefusal) (ls : Lists) : Type 0 where
  pub is : all ≡ in_front ls given

pub none_so_far : (all : Result Lists ScriptRefusal) → SoFar all all (lists [] [])
none_so_far (Ok r) = record { is = refl }
none_so_far (Err e) = record { is = refl }

side_more : (ls others : Lists) (side : Side) (v : Volume4D) → in_front ls (Ok (onto_side side v others)) ≡ in_front (behind_side side v ls) (Ok others)
side_more ls others A v = ap (λ (a : List Volume4D). Ok (lists a (ls.b ++ others.b))) (sym (append_assoc ls.a (v ∷ []) others.a))
side_more ls others B v = ap (λ (b : List Volume4D). Ok (lists (ls.a ++ others.a) b)) (sym (append_assoc ls.b (v ∷ []) others.b))

front_more : (ls : Lists) (placed : Placed) (given : Result Lists ScriptRefusal) → in_front ls (given >>= λ others. Ok (with_first placed others)) ≡ in_front (with_last ls placed) given
front_more ls placed (Ok others) = side_more ls others placed.side placed.volume
front_more ls placed (Err e) = refl

-- one more line
pub go_on : (all : Result Lists ScriptRefusal) (n : ℕ) (line : List ℕ) (lines : List (List ℕ)) (ls : Lists) (placed : Placed) → SoFar all (lists_behind n (line ∷ lines)) ls → conflict_line line ≡ Ok placed → SoFar all (lists_behind (n + 1) lines) (with_last ls placed)
unfolding lists_behind
go_on all n line lines ls placed so_far first = record { is = so_far.is ∙ ap (λ (given : Result Placed WordRefusal). in_front ls (at_line (n + 1) given >>= λ (found : Placed). (lists_behind (n + 1) lines >>= λ (others : Lists). Ok (with_first found others)))) first ∙ front_more ls placed (lists_behind (n + 1) lines) }

-- a line that is refused
pub stop_at : (all : Result Lists ScriptRefusal) (n : ℕ) (line : List ℕ) (lines : List (List ℕ)) (ls : Lists) (e : WordRefusal) → SoFar all (lists_behind n (line ∷ lines)) ls → conflict_line line ≡ Err e → all ≡ Err (refusal_at (n + 1) e)
unfolding lists_behind
stop_at all n line lines ls e so_far first = so_far.is ∙ ap (λ (given : Result Placed WordRefusal). in_front ls (at_line (n + 1) given >>= λ (found : Placed). (lists_behind (n + 1) lines >>= λ (others : Lists). Ok (with_first found others)))) first

pub end_with : (all : Result Lists ScriptRefusal) (n : ℕ) (ls : Lists) → SoFar all (lists_behind n []) ls → all ≡ Ok ls
unfolding lists_behind
end_with all n ls so_far = so_far.is ∙ ap (λ (a : List Volume4D). Ok (lists a (ls.b ++ []))) (append-nil ls.a) ∙ ap (λ (b : List Volume4D). Ok (lists ls.a b)) (append-nil ls.b)

-- a text has no more lines than bytes
onto_first_length : (b : ℕ) (pieces : List (List ℕ)) → length (onto_first b pieces) ≤ length pieces + 1
onto_first_length b [] = omega arith
onto_first_length b (p ∷ ps) = omega arith

lines_few_by : (b : ℕ) (bs : List ℕ) (t : Bool) → length (lines_of bs) ≤ length bs → length (cond t ([] ∷ lines_of bs) (onto_first b (lines_of bs))) ≤ length bs + 1
lines_few_by b bs true few = omega arith
lines_few_by b bs false few = let h = onto_first_length b (lines_of bs) in omega arith

pub lines_few : (text : List ℕ) → length (lines_of text) ≤ length text
lines_few [] = omega arith
lines_few (b ∷ bs) = let h = lines_few_by b bs (b == 10) (lines_few bs) in omega arith

pub go_on_from : (all : Result Lists ScriptRefusal) (n : ℕ) (left : List (List ℕ)) (line : List ℕ) (lines : List (List ℕ)) (ls more : Lists) (placed : Placed) → SoFar all (lists_behind n left) ls → left ≡ line ∷ lines → conflict_line line ≡ Ok placed → more ≡ with_last ls placed → SoFar all (lists_behind (n + 1) lines) more
go_on_from all n left line lines ls more placed so_far parts first is_more =
    rw is_more (go_on all n line lines ls placed (let P : List (List ℕ) → Type 0 = λ ws. SoFar all (lists_behind n ws) ls in subst P parts so_far) first)

pub stop_from : (all : Result Lists ScriptRefusal) (n : ℕ) (left : List (List ℕ)) (line : List ℕ) (lines : List (List ℕ)) (ls : Lists) (e : WordRefusal) → SoFar all (lists_behind n left) ls → left ≡ line ∷ lines → conflict_line line ≡ Err e → all ≡ Err (refusal_at (n + 1) e)
stop_from all n left line lines ls e so_far parts first =
    stop_at all n line lines ls e (let P : List (List ℕ) → Type 0 = λ ws. SoFar all (lists_behind n ws) ls in subst P parts so_far) first

pub end_from : (all : Result Lists ScriptRefusal) (n : ℕ) (left : List (List ℕ)) (ls : Lists) → SoFar all (lists_behind n left) ls → left ≡ [] → all ≡ Ok ls
end_from all n left ls so_far none = end_with all n ls (let P : List (List ℕ) → Type 0 = λ ws. SoFar all (lists_behind n ws) ls in subst P none so_far)

-- a refusal that isn't out of memory isn't it as a word's either
pub word_real : (n : ℕ) (e : WordRefusal) (r : ScriptRefusal) → r ≡ refusal_at n e → (r ≡ ScriptMemory → ⊥) → e ≡ WordMemory → ⊥
word_real n e r is real memory = real (is ∙ ap (refusal_at n) memory)

pub too_large : (text : List ℕ) → most_bytes < length text → conflict_script text ≡ Err TextTooLarge
unfolding conflict_script
too_large text h = rw (lt_true most_bytes (length text) h) refl

pub small_enough : (text : List ℕ) → length text ≤ most_bytes → conflict_script text ≡ lists_behind 0 (lines_of text)
unfolding conflict_script
small_enough text h = rw (lt_false most_bytes (length text) h) refl
