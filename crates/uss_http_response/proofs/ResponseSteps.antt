-- From a head and a body to a response.
use Rattle.std.proofs.Common.{◌≡◌, ℕ, ◌<◌, Bool, List, [], ◌++◌, length, take, refl, sym, ap, ◌∙◌, subst, arith, Option, Some, Ok, Err, inl, inr, append_assoc, append-nil, length-append}
use Rattle.std.specs.Prelude.{Result, OnOk, IsTrue}
use Rattle.std.proofs.lemmas.Grind.{common_steps}
use Rattle.std.proofs.lemmas.List.{take-append-le}
use Rattle.httparse.specs.Grammar.{ResponseHead, print_response, NeverHasResponse}
use Rattle.uss_http_request.specs.declared.fields.Framing.{Framing}
use Rattle.uss_http_request.specs.declared.fields.Framing.TheVariants.{Nothing, Length, Chunked}
use Rattle.uss_http_request.specs.declared.refusal.ReadRefusal.{ReadRefusal}
use Rattle.uss_http_request.specs.declared.refusal.ReadRefusal.TheVariants as refusal
use Rattle.uss_http_request.specs.Pieces.{piece_limit}
use Rattle.uss_http_request.specs.Streams.{Hears, Passes}
use Rattle.uss_http_request.specs.Bodies.{IsRefusedBody, ShowsNoBody}
use Rattle.uss_http_request.proofs.Passing.{passes_then, passes_behind}
use Rattle.uss_http_request.proofs.Lifting.{front_more, body_more, body_refusal_more}
use Rattle.uss_link.specs.Talks.{Talk}
use Rattle.uss_http_request.specs.Dials.{heard, HeardFrom, IsOver}
use Rattle.uss_http_response.specs.Dials.{IsReceived}
use Rattle.uss_http_response.specs.declared.heads.BodyEnd.{BodyEnd}
use Rattle.uss_http_response.specs.declared.heads.BodyEnd.TheVariants.{Framed, AtTheEnd}
use Rattle.uss_http_response.specs.declared.heads.StatusHead.{StatusHead}
use Rattle.uss_http_response.specs.declared.response.Response.{Response}
use Rattle.uss_http_response.specs.Heads.{BeginsWith, IsOpenHead, HasHead, IsRefusedHead}
use Rattle.uss_http_response.specs.Responses.{IsBodyAt, IsRefusedBodyAt, IsRefused, IsAnswerOf}
use Rattle.uss_http_response.specs.Answers.{TakesHead, ShowsNoHead, MissesHead, MissesRest, TakesBodyAt, MissesBodyAt, ShowsAnswer}

-- nothing more comes
abbrev NothingMore : {S : Type 0} (ended : S → Type 0) (now : S) (more : List ℕ) → Type 0
NothingMore ended now more = ended now → more ≡ []

-- what came since a moment at which nothing was kept
given : {S : Type 0} (gave : S → S → List ℕ → Type 0) (s t : S) (kept all : List ℕ) → gave s s [] → kept ≡ [] → Passes gave s kept t all → gave s t all
given gave s t kept all nothing empty passes = passes.told s [] (subst (gave s s) (sym empty) nothing)

-- a fault, or out of memory: some bytes came
pub faulted : {S : Type 0} (gave : S → S → List ℕ → Type 0) (ended : S → Type 0) (s t : S) → gave s s [] → Hears gave s t → ShowsAnswer gave ended s t (Err refusal.Fault)
faulted gave ended s t nothing hears = let came = hears.more s [] nothing in record { all = came.0; given = came.1; is_answer = λ more none. tt }

pub wanted : {S : Type 0} (gave : S → S → List ℕ → Type 0) (ended : S → Type 0) (s t : S) → gave s s [] → Hears gave s t → ShowsAnswer gave ended s t (Err refusal.Memory)
wanted gave ended s t nothing hears = let came = hears.more s [] nothing in record { all = came.0; given = came.1; is_answer = λ more none. tt }

-- a head is at the start of more bytes too
begins_more : (all rest more : List ℕ) (tree : ResponseHead) → BeginsWith all tree rest → BeginsWith (all ++ more) tree (rest ++ more)
begins_more all rest more tree b = record { valid = b.valid; spelled = ap (λ (l : List ℕ). l ++ more) b.spelled ∙ append_assoc (print_response tree) rest more; within = b.within }

never_more : (front w : List ℕ) → NeverHasResponse front → NeverHasResponse (front ++ w)
never_more front w never = λ next. rw append_assoc (never (w ++ next))

head_refusal_more : (all more : List ℕ) (e : ReadRefusal) → (e ≡ refusal.Truncated → ⊥) → IsRefusedHead all e → IsRefusedHead (all ++ more) e
head_refusal_more all more refusal.HeadTooLarge other h = (omega (arith, h.0, length-append all more), subst IsOpenHead (sym (take-append-le piece_limit all more h.0)) h.1)
head_refusal_more all more refusal.BadHead other (inl h) = let f = front_more piece_limit all more in inl (subst NeverHasResponse (sym f.1) (never_more (take piece_limit all) f.0 h))
head_refusal_more all more refusal.BadHead other (inr h) = inr (record { tree = h.tree; rest = h.rest ++ more; begins = begins_more all h.rest more h.tree h.begins; unframed = h.unframed })
head_refusal_more all more refusal.NoClient other h = absurd h
head_refusal_more all more refusal.Truncated other h = absurd (other refl)
head_refusal_more all more refusal.BodyTooLarge other h = absurd h
head_refusal_more all more refusal.BadChunk other h = absurd h
head_refusal_more all more refusal.Fault other h = absurd h
head_refusal_more all more refusal.Memory other h = absurd h

at_end : (P : List ℕ → Type 0) (all more : List ℕ) → more ≡ [] → P all → P (all ++ more)
at_end P all more none p = subst P (sym (ap (λ (m : List ℕ). all ++ m) none ∙ append-nil all)) p

no_head : {S : Type 0} (gave : S → S → List ℕ → Type 0) (ended : S → Type 0) (s t : S) (kept : List ℕ) (e : ReadRefusal) → gave s s [] → kept ≡ [] → ShowsNoHead gave ended s kept t e → (e ≡ refusal.Truncated → ⊥) → ((bytes : List ℕ) → IsRefused bytes e → IsAnswerOf bytes (Err e)) → ShowsAnswer gave ended s t (Err e)
no_head gave ended s t kept e nothing empty shows other go =
    record { all = shows.all; given = given gave s t kept shows.all nothing empty shows.passes; is_answer = λ more none. go (shows.all ++ more) (inl (head_refusal_more shows.all more e other shows.refused)) }

cut_head : {S : Type 0} (gave : S → S → List ℕ → Type 0) (ended : S → Type 0) (s t : S) (kept : List ℕ) → gave s s [] → kept ≡ [] → ShowsNoHead gave ended s kept t refusal.Truncated → ShowsAnswer gave ended s t (Err refusal.Truncated)
cut_head gave ended s t kept nothing empty shows =
    record { all = shows.all; given = given gave s t kept shows.all nothing empty shows.passes; is_answer = λ more none. inl (at_end (λ (b : List ℕ). IsRefusedHead b refusal.Truncated) shows.all more (none (shows.end refl)) shows.refused) }

pub head_missing : {S : Type 0} (gave : S → S → List ℕ → Type 0) (ended : S → Type 0) (s t : S) (kept : List ℕ) (e : ReadRefusal) → gave s s [] → kept ≡ [] → Hears gave s t → MissesHead gave ended s kept t e → ShowsAnswer gave ended s t (Err e)
head_missing gave ended s t kept refusal.HeadTooLarge nothing empty hears m = no_head gave ended s t kept refusal.HeadTooLarge nothing empty m (λ same. cc) (λ bytes r. r)
head_missing gave ended s t kept refusal.BadHead nothing empty hears m = no_head gave ended s t kept refusal.BadHead nothing empty m (λ same. cc) (λ bytes r. r)
head_missing gave ended s t kept refusal.Truncated nothing empty hears m = cut_head gave ended s t kept nothing empty m
head_missing gave ended s t kept refusal.NoClient nothing empty hears m = absurd m
head_missing gave ended s t kept refusal.BodyTooLarge nothing empty hears m = absurd m
head_missing gave ended s t kept refusal.BadChunk nothing empty hears m = absurd m
head_missing gave ended s t kept refusal.Fault nothing empty hears m = faulted gave ended s t nothing hears
head_missing gave ended s t kept refusal.Memory nothing empty hears m = wanted gave ended s t nothing hears

-- a body, whatever would have come after it
record HasBodyAt {S : Type 0} (gave : S → S → List ℕ → Type 0) (ended : S → Type 0) (before : S) (kept : List ℕ) (after : S) (end : BodyEnd) (body : List ℕ) : Type 0 where
  pub all : List ℕ
  pub passes : Passes gave before kept after all
  pub is_body : (more : List ℕ) → NothingMore ended after more → IsBodyAt end (all ++ more) body

record HasNoBodyAt {S : Type 0} (gave : S → S → List ℕ → Type 0) (ended : S → Type 0) (before : S) (kept : List ℕ) (after : S) (end : BodyEnd) (e : ReadRefusal) : Type 0 where
  pub all : List ℕ
  pub passes : Passes gave before kept after all
  pub refused : (more : List ℕ) → NothingMore ended after more → IsRefusedBodyAt end (all ++ more) e

body_at : {S : Type 0} (gave : S → S → List ℕ → Type 0) (ended : S → Type 0) (s t : S) (kept : List ℕ) (end : BodyEnd) (body : List ℕ) → TakesBodyAt gave ended s kept t end body → HasBodyAt gave ended s kept t end body
body_at gave ended s t kept (Framed framing) body takes = record { all = takes.all; passes = takes.passes; is_body = λ more none. body_more framing takes.all more body takes.is_body }
body_at gave ended s t kept AtTheEnd body takes = record { all = body; passes = takes.passes; is_body = λ more none. at_end (λ (b : List ℕ). IsBodyAt AtTheEnd b body) body more (none takes.end) (takes.within, refl) }

framed_refused : {S : Type 0} (gave : S → S → List ℕ → Type 0) (ended : S → Type 0) (s t : S) (kept : List ℕ) (framing : Framing) (e : ReadRefusal) → (e ≡ refusal.Truncated → ⊥) → ShowsNoBody gave ended s kept t framing e → HasNoBodyAt gave ended s kept t (Framed framing) e
framed_refused gave ended s t kept framing e other shows = record { all = shows.all; passes = shows.passes; refused = λ more none. body_refusal_more framing shows.all more e other shows.refused }

framed_cut : {S : Type 0} (gave : S → S → List ℕ → Type 0) (ended : S → Type 0) (s t : S) (kept : List ℕ) (framing : Framing) → ShowsNoBody gave ended s kept t framing refusal.Truncated → HasNoBodyAt gave ended s kept t (Framed framing) refusal.Truncated
framed_cut gave ended s t kept framing shows = record { all = shows.all; passes = shows.passes; refused = λ more none. at_end (λ (b : List ℕ). IsRefusedBody framing b refusal.Truncated) shows.all more (none (shows.end refl)) shows.refused }

-- no body lacks a client
no_client : (framing : Framing) (bytes : List ℕ) → IsRefusedBody framing bytes refusal.NoClient → ⊥
no_client Nothing bytes r = r
no_client (Length n) bytes r = r
no_client Chunked bytes r = r

too_much : {S : Type 0} (gave : S → S → List ℕ → Type 0) (ended : S → Type 0) (s t : S) (kept : List ℕ) → MissesRest gave s kept t refusal.BodyTooLarge → HasNoBodyAt gave ended s kept t AtTheEnd refusal.BodyTooLarge
too_much gave ended s t kept shows = record { all = shows.all; passes = shows.passes; refused = λ more none. omega (arith, shows.over, length-append shows.all more) }

-- the head before other bytes
pub with_rest : (all rest other : List ℕ) (head : StatusHead) (has : HasHead all head rest) → HasHead (print_response has.tree ++ other) head other
with_rest all rest other head has = record { tree = has.tree; begins = record { valid = has.begins.valid; spelled = refl; within = has.begins.within }; says = has.says }

with_more : (all rest other more : List ℕ) (head : StatusHead) (has : HasHead all head rest) → HasHead ((print_response has.tree ++ other) ++ more) head (other ++ more)
with_more all rest other more head has = subst (λ (b : List ℕ). HasHead b head (other ++ more)) (sym (append_assoc (print_response has.tree) other more)) (with_rest all rest (other ++ more) head has)

whole : {S : Type 0} (gave : S → S → List ℕ → Type 0) (s t u : S) (kept left other : List ℕ) (head : StatusHead) → gave s s [] → kept ≡ [] → (taken : TakesHead gave s kept t left head) → Passes gave t left u other → gave s u (print_response taken.has.tree ++ other)
whole gave s t u kept left other head nothing empty taken passes =
    let first : Passes gave s kept t (print_response taken.has.tree ++ left) = subst (Passes gave s kept t) taken.has.begins.spelled taken.passes in
    given gave s u kept (print_response taken.has.tree ++ other) nothing empty (passes_then first (passes_behind (print_response taken.has.tree) passes))

no_body : {S : Type 0} (gave : S → S → List ℕ → Type 0) (ended : S → Type 0) (s t u : S) (kept left : List ℕ) (head : StatusHead) (e : ReadRefusal) → gave s s [] → kept ≡ [] → TakesHead gave s kept t left head → HasNoBodyAt gave ended t left u head.body e → ((bytes : List ℕ) → IsRefused bytes e → IsAnswerOf bytes (Err e)) → ShowsAnswer gave ended s u (Err e)
no_body gave ended s t u kept left head e nothing empty taken shows go =
    record {
      all = print_response taken.has.tree ++ shows.all;
      given = whole gave s t u kept left shows.all head nothing empty taken shows.passes;
      is_answer = λ more none. go ((print_response taken.has.tree ++ shows.all) ++ more) (inr (record { head = head; rest = shows.all ++ more; has_head = with_more taken.all left shows.all more head taken.has; refused = shows.refused more none }));
    }

-- why no body was taken, apart from a fault and out of memory
missed : {S : Type 0} (gave : S → S → List ℕ → Type 0) (ended : S → Type 0) (s t : S) (kept : List ℕ) (end : BodyEnd) (e : ReadRefusal) → (e ≡ refusal.Fault → ⊥) → (e ≡ refusal.Memory → ⊥) → MissesBodyAt gave ended s kept t end e → HasNoBodyAt gave ended s kept t end e
missed gave ended s t kept (Framed framing) refusal.HeadTooLarge f w m = framed_refused gave ended s t kept framing refusal.HeadTooLarge (λ same. cc) m
missed gave ended s t kept (Framed framing) refusal.BadHead f w m = framed_refused gave ended s t kept framing refusal.BadHead (λ same. cc) m
missed gave ended s t kept (Framed framing) refusal.BodyTooLarge f w m = framed_refused gave ended s t kept framing refusal.BodyTooLarge (λ same. cc) m
missed gave ended s t kept (Framed framing) refusal.BadChunk f w m = framed_refused gave ended s t kept framing refusal.BadChunk (λ same. cc) m
missed gave ended s t kept (Framed framing) refusal.Truncated f w m = framed_cut gave ended s t kept framing m
missed gave ended s t kept (Framed framing) refusal.NoClient f w m = absurd (no_client framing m.all m.refused)
missed gave ended s t kept (Framed framing) refusal.Fault f w m = absurd (f refl)
missed gave ended s t kept (Framed framing) refusal.Memory f w m = absurd (w refl)
missed gave ended s t kept AtTheEnd refusal.BodyTooLarge f w m = too_much gave ended s t kept m
missed gave ended s t kept AtTheEnd refusal.HeadTooLarge f w m = absurd m
missed gave ended s t kept AtTheEnd refusal.BadHead f w m = absurd m
missed gave ended s t kept AtTheEnd refusal.BadChunk f w m = absurd m
missed gave ended s t kept AtTheEnd refusal.Truncated f w m = absurd m
missed gave ended s t kept AtTheEnd refusal.NoClient f w m = absurd m
missed gave ended s t kept AtTheEnd refusal.Fault f w m = absurd (f refl)
missed gave ended s t kept AtTheEnd refusal.Memory f w m = absurd (w refl)

lacks_client : {S : Type 0} (gave : S → S → List ℕ → Type 0) (ended : S → Type 0) (s t : S) (kept : List ℕ) (end : BodyEnd) → MissesBodyAt gave ended s kept t end refusal.NoClient → ⊥
lacks_client gave ended s t kept (Framed framing) m = no_client framing m.all m.refused
lacks_client gave ended s t kept AtTheEnd m = m

pub body_missing : {S : Type 0} (gave : S → S → List ℕ → Type 0) (ended : S → Type 0) (s t u : S) (kept left : List ℕ) (head : StatusHead) (e : ReadRefusal) → gave s s [] → kept ≡ [] → Hears gave s u → TakesHead gave s kept t left head → MissesBodyAt gave ended t left u head.body e → ShowsAnswer gave ended s u (Err e)
body_missing gave ended s t u kept left head refusal.HeadTooLarge nothing empty hears taken m = no_body gave ended s t u kept left head refusal.HeadTooLarge nothing empty taken (missed gave ended t u left head.body refusal.HeadTooLarge (λ same. cc) (λ same. cc) m) (λ bytes r. r)
body_missing gave ended s t u kept left head refusal.BadHead nothing empty hears taken m = no_body gave ended s t u kept left head refusal.BadHead nothing empty taken (missed gave ended t u left head.body refusal.BadHead (λ same. cc) (λ same. cc) m) (λ bytes r. r)
body_missing gave ended s t u kept left head refusal.BodyTooLarge nothing empty hears taken m = no_body gave ended s t u kept left head refusal.BodyTooLarge nothing empty taken (missed gave ended t u left head.body refusal.BodyTooLarge (λ same. cc) (λ same. cc) m) (λ bytes r. r)
body_missing gave ended s t u kept left head refusal.BadChunk nothing empty hears taken m = no_body gave ended s t u kept left head refusal.BadChunk nothing empty taken (missed gave ended t u left head.body refusal.BadChunk (λ same. cc) (λ same. cc) m) (λ bytes r. r)
body_missing gave ended s t u kept left head refusal.Truncated nothing empty hears taken m = no_body gave ended s t u kept left head refusal.Truncated nothing empty taken (missed gave ended t u left head.body refusal.Truncated (λ same. cc) (λ same. cc) m) (λ bytes r. r)
body_missing gave ended s t u kept left head refusal.NoClient nothing empty hears taken m = absurd (lacks_client gave ended t u left head.body m)
body_missing gave ended s t u kept left head refusal.Fault nothing empty hears taken m = faulted gave ended s u nothing hears
body_missing gave ended s t u kept left head refusal.Memory nothing empty hears taken m = wanted gave ended s u nothing hears

pub response_taken : {S : Type 0} (gave : S → S → List ℕ → Type 0) (ended : S → Type 0) (s t u : S) (kept left body : List ℕ) (head : StatusHead) (response : Response) → gave s s [] → kept ≡ [] → TakesHead gave s kept t left head → TakesBodyAt gave ended t left u head.body body → response.status ≡ head.status → response.body ≡ body → ShowsAnswer gave ended s u (Ok response)
response_taken gave ended s t u kept left body head response nothing empty taken takes status same_body =
    let had = body_at gave ended t u left head.body body takes in
    record {
      all = print_response taken.has.tree ++ had.all;
      given = whole gave s t u kept left had.all head nothing empty taken had.passes;
      is_answer = λ more none. record { head = head; rest = had.all ++ more; has_head = with_more taken.all left had.all more head taken.has; status_is = status; has_body = subst (IsBodyAt head.body (had.all ++ more)) (sym same_body) (had.is_body more none) };
    }

-- what was received over a dial that tells
pub received : {S : Type 0} (talks_of : S → Option (List Talk)) (open_of : S → Option Bool) (s t : S) (talks : List Talk) (answer : Result Response ReadRefusal) → talks_of s ≡ Some talks → ShowsAnswer (λ (a b : S) (bytes : List ℕ). HeardFrom (talks_of a) (talks_of b) (open_of a) (open_of b) bytes) (λ (a : S). IsOver (talks_of a)) s t answer → IsReceived talks (talks_of t) answer
received talks_of open_of s t talks answer is shows =
    let h = shows.given.told talks is in
    record { bytes = shows.all; is_end = h.is_end; told = h.told; is_answer = λ more none. shows.is_answer more (λ over. none (over.told (heard shows.all h.is_end talks) h.told)) }

-- bytes before others are some where they are
some_before : (front back : List ℕ) → 0 < length front → 0 < length (front ++ back)
some_before front back some = omega (arith, some, length-append front back)

-- a head has at least one byte
head_has_bytes : (h : ResponseHead) → 0 < length (print_response h)
unfolding print_response
head_has_bytes h = grind (arith, common_steps)

response_has_bytes : (all : List ℕ) (response : Response) → IsAnswerOf (all ++ []) (Ok response) → 0 < length all
response_has_bytes all response is =
    let head = is.has_head in
    let text : all ≡ print_response head.tree ++ is.rest = sym (append-nil all) ∙ head.begins.spelled in
    subst (λ (bytes : List ℕ). 0 < length bytes) (sym text) (some_before (print_response head.tree) is.rest (head_has_bytes head.tree))

-- a response came over a stream that was open
pub over_open : {S : Type 0} (talks_of : S → Option (List Talk)) (open_of : S → Option Bool) (s t : S) (was : Bool) (answer : Result Response ReadRefusal) → open_of s ≡ Some was → ShowsAnswer (λ (a b : S) (bytes : List ℕ). HeardFrom (talks_of a) (talks_of b) (open_of a) (open_of b) bytes) (λ (a : S). IsOver (talks_of a)) s t answer → OnOk answer (IsTrue was)
over_open talks_of open_of s t was (Ok response) is shows = shows.given.over was is (response_has_bytes shows.all response (shows.is_answer [] (λ over. refl)))
over_open talks_of open_of s t was (Err e) is shows = tt
