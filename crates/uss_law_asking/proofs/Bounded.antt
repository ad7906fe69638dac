-- That an ask makes no more calls than its rounds and what is found allow.
use Rattle.std.proofs.Common.{ℕ, suc, ℤ, ◌≤◌, ◌==◌, ◌≡◌, inl, inr, Bool, true, not, List, [], ◌∷◌, length, max, refl, ap, sym, subst, ◌∙◌, arith, Option, Some}
use Rattle.std.specs.Option.{option_and_then}
use Rattle.uss_intent.specs.Same.{same_text, same_ask}
use Rattle.uss_intent.specs.SameLaws.{ask_is_same}
use Rattle.uss_intent.specs.declared.records.Reference.{Reference}
use Rattle.uss_intent.specs.declared.calls.DssReply.{DssReply}
use Rattle.uss_intent.specs.declared.calls.DssReply.TheVariants as Replies
use Rattle.uss_intent.specs.Numbers.{is_one_of}
use Rattle.uss_event.specs.Fits.{peer_fits}
use Rattle.uss_event.specs.Same.{same_call}
use Rattle.uss_event.specs.declared.calls.DssCall.{DssCall}
use Rattle.uss_event.specs.declared.calls.PeerCall.{PeerCall}
use Rattle.uss_event.specs.declared.calls.PeerCall.TheVariants as Calls
use Rattle.uss_event.specs.declared.calls.PeerReply.{PeerReply}
use Rattle.uss_event.specs.declared.calls.PeerReply.TheVariants as Peers
use Rattle.uss_event.specs.declared.calls.Outgoing.{Outgoing}
use Rattle.uss_event.specs.declared.calls.Outgoing.TheVariants as Goes
use Rattle.uss_law_dss.specs.Fits.{fits}
use Rattle.uss_law_dss.proofs.Lists.{length-filter_le}
use Rattle.uss_law_dss.proofs.Tests.{equal_number, equal_bytes, and_true, some_same}
use Rattle.uss_event.specs.declared.entries.Opening.{Opening}
use Rattle.uss_law_book.specs.Contents.{opening_of, trials_of, rounds_of}
use Rattle.uss_law_duty.specs.Answers.{flight_of, job_of_call}
use Rattle.uss_law_duty.specs.Sayings.{others}
use Rattle.uss_law_supplier.specs.declared.duties.Awaited.{Awaited}
use Rattle.uss_law_supplier.specs.declared.duties.Awaited.TheVariants as Waits
use Rattle.uss_law_supplier.specs.Values.{Round, awaited_of, round_of, round_with, leaving_out, progress_of}
use Rattle.uss_law_supplier.specs.Table.{when_awaited}
use Rattle.uss_law_supplier.specs.Calls.{kind_of, is_it}
use Rattle.uss_law_supplier.specs.Turns.{Standing, Turn}
use Rattle.uss_law_supplier.specs.Jobs.{view_of, heard_of_dss, heard_of_peer, found_by, round_by_dss, round_by_peer, with_values, carry_out, carry_out_peer, acting_on_dss, acting_on_peer, open_by_dss, open_by_peer}
use Rattle.uss_law_supplier.specs.Replies.{of_job_by_dss, of_job_by_peer, replied_to, replied_to_peer, hearing_it}
use Rattle.uss_law_supplier.proofs.Waits.{round_own, round_awaited}
use Rattle.uss_law_asking.specs.Exchange.{Exchanged, call_in, event_in, turn_of, stands_then, IsBegun, calls_made, AllFit, most_found}
use Rattle.uss_law_asking.specs.Exchange.Exchanged.{OfDss, OfPeer}
use Rattle.uss_law_asking.proofs.Budget.{left, Allows, some_allowed, IsWaiting, IsWithin}
use Rattle.uss_law_asking.proofs.Acts.{by_dss, by_peer}

-- a call is the same as itself

pub same_dss : (call : DssCall) → same_call (Goes.Dss call) (Goes.Dss call) ≡ true
same_dss call = and_true (call.job == call.job) (same_ask call.ask call.ask) (equal_number call.job call.job refl) ((ask_is_same call.ask call.ask).1 refl)

pub same_details : (job flight : ℕ) (manager base : List ℕ) → same_call (Goes.Peer (Calls.Details job flight manager base)) (Goes.Peer (Calls.Details job flight manager base)) ≡ true
same_details job flight manager base =
    and_true (job == job) _ (equal_number job job refl)
    (and_true (flight == flight) _ (equal_number flight flight refl) (and_true (same_text manager manager) (same_text base base) (equal_bytes manager manager refl) (equal_bytes base base refl)))

-- a reply of the discovery service

pub left_found : (r : Round) → left r ≤ length r.found
left_found r = length-filter_le (λ (x : Reference). not (is_one_of x.flight r.asked)) r.found

few_left : (n : ℕ) (s : Standing) (o : Opening) (reply : DssReply) (rs : List Reference) → reply ≡ Replies.Found rs → length (found_by reply) ≤ n → left (round_of o.job (round_by_dss s o reply)) ≤ n
few_left n s o (Replies.Found qs) rs e h =
    let round = round_with (others (flight_of s.owner o) qs) in
    let l = left_found round in
    let f = length-filter_le (λ (r : Reference). not (r.flight == flight_of s.owner o)) qs in
    subst (λ (r : Round). left r ≤ n) (sym (round_own o.job round s.values)) (omega (arith, l, f, h))
few_left n s o _ rs e h = cc

pub round_waits : (s : Standing) (o : Opening) (reply : DssReply) → awaited_of o.job (round_by_dss s o reply) ≡ awaited_of o.job s.values
round_waits s o (Replies.Found rs) = round_awaited o.job (round_with (others (flight_of s.owner o) rs)) s.values
round_waits s o _ = refl

acts_on_dss : (n : ℕ) (s : Standing) (o : Opening) (call : DssCall) (reply : DssReply) (b : ℕ) → IsWaiting n s o (Goes.Dss call) b → fits call.ask reply ≡ true → length (found_by reply) ≤ n
    → IsWithin n s o (acting_on_dss (with_values s (round_by_dss s o reply)) o reply) b
unfolding view_of
acts_on_dss n s o call reply b w fit few =
    let v = round_by_dss s o reply in
    let t = with_values s v in
    let kind : option_and_then kind_of (awaited_of o.job v) ≡ Some w.kind = ap (option_and_then kind_of) (round_waits s o reply ∙ w.waits) ∙ w.is in
    subst (λ (x : Option Awaited). IsWithin n t o (carry_out t o reply (when_awaited (view_of t o) (heard_of_dss t o reply) x)) b) (sym kind)
    (by_dss n t o call.ask reply w.kind b w.is w.unfinished fit (λ rs e. few_left n s o reply rs e few) (left (round_of o.job s.values)) w.allows)

replied_within : (n : ℕ) (s : Standing) (o : Opening) (call : DssCall) (reply : DssReply) (b : ℕ) → IsWaiting n s o (Goes.Dss call) b → fits call.ask reply ≡ true → length (found_by reply) ≤ n
    → IsWithin n s o (replied_to s call reply (opening_of call.job s.book)) b
replied_within n s o call reply b w fit few =
    let opened : opening_of call.job s.book ≡ Some o = ap (λ j. opening_of j s.book) w.its_job ∙ w.unfinished.opened in
    let waits : is_it (Goes.Dss call) (awaited_of o.job s.values) ≡ true = ap (is_it (Goes.Dss call)) w.waits ∙ same_dss call in
    subst (λ (x : Option Opening). IsWithin n s o (replied_to s call reply x) b) (sym opened)
    (subst (λ (x : Bool). IsWithin n s o (of_job_by_dss s o call reply x) b) (sym w.unfinished.unclosed)
    (subst (λ (x : Bool). IsWithin n s o (open_by_dss s o reply x) b) (sym (and_true (fits call.ask reply) (is_it (Goes.Dss call) (awaited_of o.job s.values)) fit waits)) (acts_on_dss n s o call reply b w fit few)))

-- a reply of another supplier

peer_found : (s : Standing) (o : Opening) (call : PeerCall) (reply : PeerReply) → left (round_of o.job (round_by_peer s o call reply)) ≡ left (round_of o.job s.values)
peer_found s o (Calls.Details job flight manager base) Peers.Gone = ap left (round_own o.job (leaving_out flight (round_of o.job s.values)) s.values)
peer_found s o _ _ = refl

pub peer_waits : (s : Standing) (o : Opening) (call : PeerCall) (reply : PeerReply) → awaited_of o.job (round_by_peer s o call reply) ≡ awaited_of o.job s.values
peer_waits s o (Calls.Details job flight manager base) Peers.Gone = round_awaited o.job (leaving_out flight (round_of o.job s.values)) s.values
peer_waits s o _ _ = refl

acts_on_peer : (n : ℕ) (s : Standing) (o : Opening) (job flight : ℕ) (manager base : List ℕ) (reply : PeerReply) (b : ℕ) → IsWaiting n s o (Goes.Peer (Calls.Details job flight manager base)) b
    → peer_fits (Calls.Details job flight manager base) reply ≡ true
    → IsWithin n s o (acting_on_peer (with_values s (round_by_peer s o (Calls.Details job flight manager base) reply)) o (Calls.Details job flight manager base) reply) b
unfolding view_of
acts_on_peer n s o job flight manager base reply b w fit =
    let call = Calls.Details job flight manager base in
    let v = round_by_peer s o call reply in
    let t = with_values s v in
    let kind : option_and_then kind_of (awaited_of o.job v) ≡ Some Waits.Details = ap (option_and_then kind_of) (peer_waits s o call reply ∙ w.waits) in
    let same : Waits.Details ≡ w.kind = some_same Waits.Details w.kind w.is in
    let allows = subst (λ k. Allows n (left (round_of o.job s.values)) (length (trials_of o.job s.book)) (rounds_of o.ask.wish) k b) (sym same) w.allows in
    subst (λ (x : Option Awaited). IsWithin n t o (carry_out_peer t o call reply (when_awaited (view_of t o) (heard_of_peer t o reply) x)) b) (sym kind)
    (by_peer n t o job flight manager base reply b w.unfinished fit (subst (λ l. Allows n l (length (trials_of o.job s.book)) (rounds_of o.ask.wish) Waits.Details b) (sym (peer_found s o call reply)) allows))

-- what is heard leaves what is waited for
hears : (n : ℕ) (s : Standing) (o : Opening) (call : Outgoing) (b : ℕ) (c : PeerCall) (reply : PeerReply) → IsWaiting n s o call b → IsWaiting n (hearing_it s c reply) o call b
unfolding progress_of
hears n s o call b c reply w = record { unfinished = w.unfinished; waits = w.waits; its_job = w.its_job; kind = w.kind; is = w.is; allows = w.allows }

peer_within : (n : ℕ) (s : Standing) (o : Opening) (call : PeerCall) (reply : PeerReply) (b : ℕ) → IsWaiting n s o (Goes.Peer call) b → peer_fits call reply ≡ true
    → IsWithin n s o (replied_to_peer s call reply (opening_of (job_of_call call) s.book)) b
peer_within n s o (Calls.Notify job index base note) reply b w fit = let e = w.is in cc
peer_within n s o (Calls.Details job flight manager base) reply b w fit =
    let call = Calls.Details job flight manager base in
    let opened : opening_of job s.book ≡ Some o = ap (λ j. opening_of j s.book) w.its_job ∙ w.unfinished.opened in
    let waits : is_it (Goes.Peer call) (awaited_of o.job s.values) ≡ true = ap (is_it (Goes.Peer call)) w.waits ∙ same_details job flight manager base in
    subst (λ (x : Option Opening). IsWithin n s o (replied_to_peer s call reply x) b) (sym opened)
    (subst (λ (x : Bool). IsWithin n s o (of_job_by_peer s o call reply x) b) (sym w.unfinished.unclosed)
    (subst (λ (x : Bool). IsWithin n s o (open_by_peer s o call reply x) b) (sym (and_true (peer_fits call reply) (is_it (Goes.Peer call) (awaited_of o.job s.values)) fit waits))
    (acts_on_peer n s o job flight manager base reply b w fit)))

-- a reply

pub steps : (n : ℕ) (s : Standing) (moment : ℤ) (o : Opening) (x : Exchanged) (b : ℕ) → IsWaiting n s o (call_in x) b → AllFit (x ∷ []) → most_found (x ∷ []) ≤ n → IsWithin n s o (turn_of s moment (event_in x)) b
steps n s moment o (OfDss call reply) b w fit few = replied_within n s o call reply b w fit.0 (at_most (length (found_by reply)) few)
  where
    at_most : (a : ℕ) → max a 0 ≤ n → a ≤ n
    at_most a h = omega (arith, h)
steps n s moment o (OfPeer call reply) b w fit few =
    peer_within n (hearing_it s call reply) o call reply b (hears n s o (Goes.Peer call) b call reply w) fit.0

-- the replies after it

pub first_fits : (x : Exchanged) (xs : List Exchanged) → AllFit (x ∷ xs) → AllFit (x ∷ []) × AllFit xs
first_fits (OfDss call reply) xs h = ((h.0, tt), h.1)
first_fits (OfPeer call reply) xs h = ((h.0, tt), h.1)

pub first_few : (n : ℕ) (x : Exchanged) (xs : List Exchanged) → most_found (x ∷ xs) ≤ n → (most_found (x ∷ []) ≤ n) × (most_found xs ≤ n)
first_few n (OfDss call reply) xs h = go (length (found_by reply)) (most_found xs) h
  where
    go : (a m : ℕ) → max a m ≤ n → (max a 0 ≤ n) × (m ≤ n)
    go a m k = (omega (arith, k), omega (arith, k))
first_few n (OfPeer call reply) xs h = (omega arith, h)

some_call : (n : ℕ) (s : Standing) (o : Opening) (call : Outgoing) (b : ℕ) → IsWaiting n s o call b → 1 ≤ b
some_call n s o call b w = some_allowed n _ _ _ w.kind b w.allows

pub first_call : (x y : Outgoing) → x ∷ [] ≡ y ∷ [] → x ≡ y
first_call x y e = cc (e)

pub goes_within : (n : ℕ) (moment : ℤ) (s : Standing) (o : Opening) (t : Turn) (x : Exchanged) (xs : List Exchanged) (b : ℕ)
    → ((c : ℕ) → IsWaiting n (stands_then s t) o (call_in x) c → suc (calls_made (stands_then s t) moment (event_in x) xs) ≤ c)
    → IsWithin n s o t b → t.sends ≡ call_in x ∷ [] → suc (suc (calls_made (stands_then s t) moment (event_in x) xs)) ≤ b
goes_within n moment s o t x xs b next (inl e) h = none_called (call_in x) (sym e ∙ h)
  where
    none_called : {P : Type 0} (call : Outgoing) → [] ≡ call ∷ [] → P
    none_called call q = cc
goes_within n moment s o t x xs b next (inr (call, c, e, w, l)) h =
    let same : call ≡ call_in x = first_call call (call_in x) (sym e ∙ h) in
    let k = next c (subst (λ y. IsWaiting n (stands_then s t) o y c) same w) in
    omega (arith, k, l)

pub ends_within : (n : ℕ) (s : Standing) (o : Opening) (t : Turn) (b : ℕ) → 1 ≤ b → IsWithin n s o t b → suc (length t.sends) ≤ b
ends_within n s p t b o (inl e) = let l : length t.sends ≡ 0 = ap length e in omega (arith, l, o)
ends_within n s p t b o (inr (call, c, e, w, l)) =
    let m : length t.sends ≡ 1 = ap length e in
    let k = some_call n (stands_then s t) p call c w in
    omega (arith, m, k, l)

pub bounded : (n : ℕ) (moment : ℤ) (s : Standing) (o : Opening) (x : Exchanged) (xs : List Exchanged) (b : ℕ) → IsWaiting n s o (call_in x) b → IsBegun s moment (event_in x) xs → AllFit (x ∷ xs) → most_found (x ∷ xs) ≤ n
    → suc (calls_made s moment (event_in x) xs) ≤ b
bounded n moment s o x [] b w begun fit few =
    let l = ends_within n s o (turn_of s moment (event_in x)) b (some_call n s o (call_in x) b w) (steps n s moment o x b w fit few) in
    omega (arith, l)
bounded n moment s o x (y ∷ ys) b w begun fit few =
    let t = turn_of s moment (event_in x) in
    let f = first_fits x (y ∷ ys) fit in
    let g = first_few n x (y ∷ ys) few in
    let l = goes_within n moment s o t y ys b (λ c v. bounded n moment (stands_then s t) o y ys c v begun.2 f.1 g.1) (steps n s moment o x b w f.0 g.0) begun.1 in
    omega (arith, l)
