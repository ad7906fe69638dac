-- A source as a stream.
use Rattle.std.proofs.Common.{◌≡◌, ℕ, ◌<◌, List, [], ◌++◌, length, take, drop, Option, Some, None, Ok, Err, refl, sym, ap, ◌∙◌, inl, inr, arith, append_assoc}
use Rattle.std.proofs.lemmas.List.{take-append-drop}
use Rattle.std.proofs.Math.Seq.{drop-nil}
use Rattle.uss_link.specs.Bytes.{Reads}
use Rattle.uss_http_request.specs.declared.refusal.ReadRefusal.TheVariants as refusal
use Rattle.uss_http_request.specs.Prompt.{IsPrompt, stays, soon, ButForFaults}
use Rattle.uss_http_request.specs.Requests.{IsRefused, ReadsPromptly}
use Rattle.uss_http_request.specs.Sources.{GaveFrom, HasEnded, gave_nothing}
use Rattle.std.specs.Prelude.{Result}
use Rattle.uss_http_request.specs.declared.refusal.ReadRefusal.{ReadRefusal}
use Rattle.uss_http_request.proofs.Prompting.{refused_map}

pub gave_more : {E : Type 0} (origin before after : Option (List ℕ)) (past buffer filled : List ℕ) (n : ℕ) → GaveFrom origin before past → Reads {E = E} before after buffer filled (Ok n) → GaveFrom origin after (past ++ take n filled)
gave_more origin before after past buffer filled n had reads =
    record {
      told = λ left is.
          let l = had.told left is in
          let t = reads.told l.rest l.is_left in
          record {
            rest = drop n l.rest;
            is_left = t.rest;
            parts = l.parts ∙ ap (λ (r : List ℕ). past ++ r) (sym (take-append-drop n l.rest)) ∙ ap (λ (r : List ℕ). past ++ (r ++ drop n l.rest)) (sym t.given) ∙ sym (append_assoc past (take n filled) (drop n l.rest));
          };
    }

pub ended_from : {E : Type 0} (before after : Option (List ℕ)) (buffer filled : List ℕ) (n : ℕ) → Reads {E = E} before after buffer filled (Ok n) → n ≡ 0 → 0 < length buffer → HasEnded after
ended_from None after buffer filled n reads none some = record { told = λ left is. absurd (let s = reads.untold refl in cc) }
ended_from (Some l) after buffer filled n reads none some =
    let t = reads.told l refl in
    let empty : l ≡ [] = t.ended none some in
    record { told = λ left is. let same : Some left ≡ Some (drop n l) = sym is ∙ t.rest in let e : left ≡ drop n l = cc in e ∙ ap (drop n) empty ∙ drop-nil n }

-- what was taken of a source that tells
pub reads_promptly : {S : Type 0} (left : S → Option (List ℕ)) (s t : S) (bytes : List ℕ) → left s ≡ Some bytes → IsPrompt (λ (a b : S) (all : List ℕ). GaveFrom (left a) (left b) all) s [] t (λ (seen : List ℕ). IsRefused seen refusal.Truncated) → ReadsPromptly bytes (left t)
reads_promptly left s t bytes is (stays same) =
    let l = (same.told s [] (gave_nothing (left s))).told bytes is in
    record { seen = []; late = []; rest = l.rest; parts = l.parts; is_left = l.is_left; was_open = inl refl; few = record { doubled = omega arith; within = omega arith } }
reads_promptly left s t bytes is (soon stops) =
    let l = (stops.passes.told s [] (gave_nothing (left s))).told bytes is in
    record { seen = stops.seen; late = stops.late; rest = l.rest; parts = l.parts; is_left = l.is_left; was_open = inr stops.was_open; few = stops.few }

pub source_prompt : {A S : Type 0} (left : S → Option (List ℕ)) (s t : S) (bytes : List ℕ) (answer : Result A ReadRefusal) → left s ≡ Some bytes → ButForFaults answer (IsPrompt (λ (a b : S) (all : List ℕ). GaveFrom (left a) (left b) all) s [] t (λ (seen : List ℕ). IsRefused seen refusal.Truncated)) → ButForFaults answer (ReadsPromptly bytes (left t))
source_prompt left s t bytes (Ok x) is p = reads_promptly left s t bytes is p
source_prompt left s t bytes (Err e) is p = refused_map e _ _ (λ q. reads_promptly left s t bytes is q) p
