-- How soon reading a response stops.
use Rattle.std.proofs.Common.{◌≡◌, ℕ, ◌≤◌, Bool, List, [], ◌++◌, length, refl, sym, subst, arith, Option, Some, Ok, Err, inl, inr}
use Rattle.std.specs.Prelude.{Result}
use Rattle.httparse.specs.Grammar.{print_response}
use Rattle.uss_link.specs.Talks.{Talk}
use Rattle.uss_http_request.specs.declared.refusal.ReadRefusal.{ReadRefusal}
use Rattle.uss_http_request.specs.declared.refusal.ReadRefusal.TheVariants as refusal
use Rattle.uss_http_request.specs.Fields.{body_limit}
use Rattle.uss_http_request.specs.Streams.{Passes, Adds}
use Rattle.uss_http_request.specs.Dials.{HeardFrom}
use Rattle.uss_http_request.specs.NothingHeard.{heard_nothing}
use Rattle.uss_http_request.specs.Prompt.{call_limit, IsPrompt, stays, soon, ButForFaults}
use Rattle.uss_http_request.proofs.Passing.{passes_then}
use Rattle.uss_http_request.proofs.Prompting.{prompt_map, prompt_then, refused_map}
use Rattle.uss_http_request.specs.declared.fields.Framing.{Framing}
use Rattle.uss_http_request.specs.Bodies.{IsRefusedBody}
use Rattle.uss_http_response.specs.declared.heads.BodyEnd.{BodyEnd}
use Rattle.uss_http_response.specs.declared.heads.BodyEnd.TheVariants.{Framed}
use Rattle.uss_http_response.specs.declared.heads.StatusHead.{StatusHead}
use Rattle.uss_http_response.specs.Heads.{IsRefusedHead}
use Rattle.uss_http_response.specs.Responses.{IsOpenBodyAt, IsOpen}
use Rattle.uss_http_response.specs.Answers.{TakesHead}
use Rattle.uss_http_response.specs.Dials.{ReceivesPromptly}
use Rattle.uss_http_response.proofs.ResponseSteps.{with_rest}

-- one more call for bytes up to the end of the stream
pub rest_open : {S : Type 0} (gave : S → S → List ℕ → Type 0) (a b c : S) (kept body new : List ℕ) (n : ℕ) → Passes gave a kept b body → length body ≤ body_limit → Adds gave b c body new n → n ≤ call_limit → IsPrompt gave a kept c (λ (seen : List ℕ). length seen ≤ body_limit)
rest_open gave a b c kept body new n passes within adds few =
    soon (record {
      seen = body;
      late = adds.came;
      passes = passes_then passes (adds.passes body);
      was_open = within;
      few = record { doubled = omega (arith, adds.count, few); within = omega (arith, adds.count, few) };
    })

but_map : {A : Type 0} (r : Result A ReadRefusal) (P Q : Type 0) → (P → Q) → ButForFaults r P → ButForFaults r Q
but_map (Ok x) P Q go p = go p
but_map (Err e) P Q go p = refused_map e P Q go p

-- a body whose end is found so
pub framed_prompt : {A S : Type 0} (gave : S → S → List ℕ → Type 0) (s t : S) (kept : List ℕ) (framing : Framing) (end : BodyEnd) (r : Result A ReadRefusal) → end ≡ Framed framing → ButForFaults r (IsPrompt gave s kept t (λ (seen : List ℕ). IsRefusedBody framing seen refusal.Truncated)) → ButForFaults r (IsPrompt gave s kept t (IsOpenBodyAt end))
framed_prompt gave s t kept framing end r is p =
    let Cut : List ℕ → Type 0 = λ (seen : List ℕ). IsRefusedBody framing seen refusal.Truncated in
    subst (λ (e : BodyEnd). ButForFaults r (IsPrompt gave s kept t (IsOpenBodyAt e))) (sym is) (but_map r (IsPrompt gave s kept t Cut) (IsPrompt gave s kept t (IsOpenBodyAt (Framed framing))) (λ q. prompt_map gave s t kept Cut (IsOpenBodyAt (Framed framing)) (λ seen cut. cut) q) p)

pub head_prompt : {S : Type 0} (gave : S → S → List ℕ → Type 0) (s t : S) (kept : List ℕ) → kept ≡ [] → IsPrompt gave s kept t (λ (seen : List ℕ). IsRefusedHead seen refusal.Truncated) → IsPrompt gave s [] t IsOpen
head_prompt gave s t kept empty p =
    subst (λ (k : List ℕ). IsPrompt gave s k t IsOpen) empty (prompt_map gave s t kept (λ (seen : List ℕ). IsRefusedHead seen refusal.Truncated) IsOpen (λ seen is. inl is) p)

pub body_prompt : {S : Type 0} (gave : S → S → List ℕ → Type 0) (s t u : S) (kept left : List ℕ) (head : StatusHead) → kept ≡ [] → TakesHead gave s kept t left head → IsPrompt gave s kept t (λ (seen : List ℕ). IsRefusedHead seen refusal.Truncated) → IsPrompt gave t left u (IsOpenBodyAt head.body) → IsPrompt gave s [] u IsOpen
body_prompt gave s t u kept left head empty taken one two =
    let passes : Passes gave s [] t (print_response taken.has.tree ++ left) = subst (λ (k : List ℕ). Passes gave s k t (print_response taken.has.tree ++ left)) empty (subst (Passes gave s kept t) taken.has.begins.spelled taken.passes) in
    prompt_then gave s t u [] left (print_response taken.has.tree) IsOpen (IsOpenBodyAt head.body) passes (head_prompt gave s t kept empty one) two (λ seen is. inr (record { head = head; rest = seen; has_head = with_rest taken.all left seen head taken.has; open_body = is }))

-- what was received over a dial that tells
receives_promptly : {S : Type 0} (talks_of : S → Option (List Talk)) (open_of : S → Option Bool) (s t : S) (talks : List Talk) → talks_of s ≡ Some talks → IsPrompt (λ (a b : S) (bytes : List ℕ). HeardFrom (talks_of a) (talks_of b) (open_of a) (open_of b) bytes) s [] t IsOpen → ReceivesPromptly talks (talks_of t)
receives_promptly talks_of open_of s t talks is (stays same) =
    let h = (same.told s [] (heard_nothing (talks_of s) (open_of s))).told talks is in
    record { seen = []; late = []; is_end = h.is_end; told = h.told; was_open = inl refl; few = record { doubled = omega arith; within = omega arith } }
receives_promptly talks_of open_of s t talks is (soon stops) =
    let h = (stops.passes.told s [] (heard_nothing (talks_of s) (open_of s))).told talks is in
    record { seen = stops.seen; late = stops.late; is_end = h.is_end; told = h.told; was_open = inr stops.was_open; few = stops.few }

pub dial_prompt : {A S : Type 0} (talks_of : S → Option (List Talk)) (open_of : S → Option Bool) (s t : S) (talks : List Talk) (answer : Result A ReadRefusal) → talks_of s ≡ Some talks → ButForFaults answer (IsPrompt (λ (a b : S) (bytes : List ℕ). HeardFrom (talks_of a) (talks_of b) (open_of a) (open_of b) bytes) s [] t IsOpen) → ButForFaults answer (ReceivesPromptly talks (talks_of t))
dial_prompt talks_of open_of s t talks (Ok x) is p = receives_promptly talks_of open_of s t talks is p
dial_prompt talks_of open_of s t talks (Err e) is p = refused_map e _ _ (λ q. receives_promptly talks_of open_of s t talks is q) p
