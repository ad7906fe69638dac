-- From a head and a body to a request.
use Rattle.std.proofs.Common.{◌≡◌, ℕ, List, [], ◌++◌, refl, sym, subst, Ok, Err, inl, inr}
use Rattle.httparse.specs.Grammar.{print_request}
use Rattle.uss_http_request.specs.declared.heads.Head.{Head}
use Rattle.uss_http_request.specs.declared.request.Request.{Request}
use Rattle.uss_http_request.specs.declared.refusal.ReadRefusal.{ReadRefusal}
use Rattle.uss_http_request.specs.declared.refusal.ReadRefusal.TheVariants as refusal
use Rattle.uss_http_request.specs.Streams.{Passes}
use Rattle.uss_http_request.specs.HeadAnswers.{HasHead, IsRefusedHead, TakesHead, ShowsNoHead, MissesHead}
use Rattle.uss_http_request.specs.Bodies.{IsBody, IsRefusedBody, TakesBody, ShowsNoBody, MissesBody}
use Rattle.uss_http_request.specs.Requests.{IsRefused, IsAnswerOf, ShowsAnswer, AnswersStream}
use Rattle.uss_http_request.specs.Prompt.{IsPrompt}
use Rattle.uss_http_request.proofs.Prompting.{prompt_map, prompt_then}
use Rattle.uss_http_request.proofs.Passing.{passes_then, passes_behind}

-- what came since a moment at which nothing was kept
given : {S : Type 0} (gave : S → S → List ℕ → Type 0) (s t : S) (kept all : List ℕ) → gave s s [] → kept ≡ [] → Passes gave s kept t all → gave s t all
given gave s t kept all nothing empty passes = passes.told s [] (subst (gave s s) (sym empty) nothing)

no_head : {S : Type 0} (gave : S → S → List ℕ → Type 0) (ended : S → Type 0) (s t : S) (kept : List ℕ) (e : ReadRefusal) → gave s s [] → kept ≡ [] → (shows : ShowsNoHead gave ended s kept t e) → ((bytes : List ℕ) → IsRefused bytes e → IsAnswerOf bytes (Err e)) → ShowsAnswer gave ended s t (Err e)
no_head gave ended s t kept e nothing empty shows is_answer =
    record { all = shows.all; given = given gave s t kept shows.all nothing empty shows.passes; is_answer = is_answer shows.all (inl shows.refused); end = λ same. shows.end (let inner : e ≡ refusal.Truncated = cc in inner) }

pub head_missing : {S : Type 0} (gave : S → S → List ℕ → Type 0) (ended : S → Type 0) (s t : S) (kept : List ℕ) (e : ReadRefusal) → gave s s [] → kept ≡ [] → MissesHead gave ended s kept t e → AnswersStream gave ended s t (Err e)
head_missing gave ended s t kept refusal.HeadTooLarge nothing empty m = no_head gave ended s t kept refusal.HeadTooLarge nothing empty m (λ bytes r. r)
head_missing gave ended s t kept refusal.BadHead nothing empty m = no_head gave ended s t kept refusal.BadHead nothing empty m (λ bytes r. r)
head_missing gave ended s t kept refusal.NoClient nothing empty m = no_head gave ended s t kept refusal.NoClient nothing empty m (λ bytes r. r)
head_missing gave ended s t kept refusal.Truncated nothing empty m = no_head gave ended s t kept refusal.Truncated nothing empty m (λ bytes r. r)
head_missing gave ended s t kept refusal.BodyTooLarge nothing empty m = absurd m
head_missing gave ended s t kept refusal.BadChunk nothing empty m = absurd m
head_missing gave ended s t kept refusal.Fault nothing empty m = tt
head_missing gave ended s t kept refusal.Memory nothing empty m = tt

-- the head before other bytes
with_rest : (all rest other : List ℕ) (head : Head) (has : HasHead all head rest) → HasHead (print_request has.tree ++ other) head other
with_rest all rest other head has = record { tree = has.tree; begins = record { valid = has.begins.valid; spelled = refl; within = has.begins.within }; says = has.says }

whole : {S : Type 0} (gave : S → S → List ℕ → Type 0) (s t u : S) (kept left other : List ℕ) (head : Head) → gave s s [] → kept ≡ [] → (taken : TakesHead gave s kept t left head) → Passes gave t left u other → gave s u (print_request taken.has.tree ++ other)
whole gave s t u kept left other head nothing empty taken passes =
    let first : Passes gave s kept t (print_request taken.has.tree ++ left) = subst (Passes gave s kept t) taken.has.begins.spelled taken.passes in
    given gave s u kept (print_request taken.has.tree ++ other) nothing empty (passes_then first (passes_behind (print_request taken.has.tree) passes))

no_body : {S : Type 0} (gave : S → S → List ℕ → Type 0) (ended : S → Type 0) (s t u : S) (kept left : List ℕ) (head : Head) (e : ReadRefusal) → gave s s [] → kept ≡ [] → (taken : TakesHead gave s kept t left head) → (shows : ShowsNoBody gave ended t left u head.framing e) → ((bytes : List ℕ) → IsRefused bytes e → IsAnswerOf bytes (Err e)) → ShowsAnswer gave ended s u (Err e)
no_body gave ended s t u kept left head e nothing empty taken shows is_answer =
    record {
      all = print_request taken.has.tree ++ shows.all;
      given = whole gave s t u kept left shows.all head nothing empty taken shows.passes;
      is_answer = is_answer (print_request taken.has.tree ++ shows.all) (inr (record { head = head; rest = shows.all; has_head = with_rest taken.all left shows.all head taken.has; refused = shows.refused }));
      end = λ same. shows.end (let inner : e ≡ refusal.Truncated = cc in inner);
    }

pub body_missing : {S : Type 0} (gave : S → S → List ℕ → Type 0) (ended : S → Type 0) (s t u : S) (kept left : List ℕ) (head : Head) (e : ReadRefusal) → gave s s [] → kept ≡ [] → TakesHead gave s kept t left head → MissesBody gave ended t left u head.framing e → AnswersStream gave ended s u (Err e)
body_missing gave ended s t u kept left head refusal.HeadTooLarge nothing empty taken m = no_body gave ended s t u kept left head refusal.HeadTooLarge nothing empty taken m (λ bytes r. r)
body_missing gave ended s t u kept left head refusal.BadHead nothing empty taken m = no_body gave ended s t u kept left head refusal.BadHead nothing empty taken m (λ bytes r. r)
body_missing gave ended s t u kept left head refusal.NoClient nothing empty taken m = no_body gave ended s t u kept left head refusal.NoClient nothing empty taken m (λ bytes r. r)
body_missing gave ended s t u kept left head refusal.Truncated nothing empty taken m = no_body gave ended s t u kept left head refusal.Truncated nothing empty taken m (λ bytes r. r)
body_missing gave ended s t u kept left head refusal.BodyTooLarge nothing empty taken m = no_body gave ended s t u kept left head refusal.BodyTooLarge nothing empty taken m (λ bytes r. r)
body_missing gave ended s t u kept left head refusal.BadChunk nothing empty taken m = no_body gave ended s t u kept left head refusal.BadChunk nothing empty taken m (λ bytes r. r)
body_missing gave ended s t u kept left head refusal.Fault nothing empty taken m = tt
body_missing gave ended s t u kept left head refusal.Memory nothing empty taken m = tt

pub request_taken : {S : Type 0} (gave : S → S → List ℕ → Type 0) (ended : S → Type 0) (s t u : S) (kept left body : List ℕ) (head : Head) (request : Request) → gave s s [] → kept ≡ [] → TakesHead gave s kept t left head → TakesBody gave t left u head.framing body → request.method ≡ head.method → request.path ≡ head.path → request.client ≡ head.client → request.body ≡ body → ShowsAnswer gave ended s u (Ok request)
request_taken gave ended s t u kept left body head request nothing empty taken had method path client same_body =
    record {
      all = print_request taken.has.tree ++ had.all;
      given = whole gave s t u kept left had.all head nothing empty taken had.passes;
      is_answer = record { head = head; rest = had.all; has_head = with_rest taken.all left had.all head taken.has; method_is = method; path_is = path; client_is = client; has_body = subst (IsBody head.framing had.all) (sym same_body) had.is_body };
      end = λ same. absurd (cc);
    }

-- in the head, reading stops soon
pub head_prompt : {S : Type 0} (gave : S → S → List ℕ → Type 0) (s t : S) (kept : List ℕ) → kept ≡ [] → IsPrompt gave s kept t (λ (seen : List ℕ). IsRefusedHead seen refusal.Truncated) → IsPrompt gave s [] t (λ (seen : List ℕ). IsRefused seen refusal.Truncated)
head_prompt gave s t kept empty p =
    subst (λ (k : List ℕ). IsPrompt gave s k t (λ (seen : List ℕ). IsRefused seen refusal.Truncated)) empty (prompt_map gave s t kept (λ (seen : List ℕ). IsRefusedHead seen refusal.Truncated) (λ (seen : List ℕ). IsRefused seen refusal.Truncated) (λ seen is. inl is) p)

-- and in the body
pub body_prompt : {S : Type 0} (gave : S → S → List ℕ → Type 0) (s t u : S) (kept left : List ℕ) (head : Head) → kept ≡ [] → TakesHead gave s kept t left head → IsPrompt gave s kept t (λ (seen : List ℕ). IsRefusedHead seen refusal.Truncated) → IsPrompt gave t left u (λ (seen : List ℕ). IsRefusedBody head.framing seen refusal.Truncated) → IsPrompt gave s [] u (λ (seen : List ℕ). IsRefused seen refusal.Truncated)
body_prompt gave s t u kept left head empty taken one two =
    let passes : Passes gave s [] t (print_request taken.has.tree ++ left) = subst (λ (k : List ℕ). Passes gave s k t (print_request taken.has.tree ++ left)) empty (subst (Passes gave s kept t) taken.has.begins.spelled taken.passes) in
    prompt_then gave s t u [] left (print_request taken.has.tree) (λ (seen : List ℕ). IsRefused seen refusal.Truncated) (λ (seen : List ℕ). IsRefusedBody head.framing seen refusal.Truncated) passes (head_prompt gave s t kept empty one) two (λ seen is. inr (record { head = head; rest = seen; has_head = with_rest taken.all left seen head taken.has; refused = is }))
