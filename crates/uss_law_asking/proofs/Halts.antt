-- That every exchange comes to an end, whoever replies.
use Rattle.std.proofs.Common.{ℕ, zero, suc, ℤ, ◌+◌, ◌≤◌, ◌<◌, ◌≡◌, ◌⊎◌, inl, inr, Bool, true, false, nat_le, List, [], ◌∷◌, ◌++◌, length, max, refl, ap, sym, subst, ◌∙◌, arith}
use Rattle.std.proofs.lemmas.Bool.Decides.{nat_tests}
use Rattle.uss_intent.specs.declared.calls.DssAsk.{DssAsk}
use Rattle.uss_intent.specs.declared.calls.DssAsk.TheVariants as Asks
use Rattle.uss_intent.specs.declared.calls.DssReply.{DssReply}
use Rattle.uss_intent.specs.declared.calls.DssReply.TheVariants as Replies
use Rattle.uss_event.specs.declared.calls.PeerCall.TheVariants as Calls
use Rattle.uss_event.specs.declared.calls.Outgoing.{Outgoing}
use Rattle.uss_event.specs.declared.calls.Outgoing.TheVariants as Goes
use Rattle.uss_event.specs.declared.events.Said.{Said}
use Rattle.uss_event.specs.declared.events.Said.TheVariants as Says
use Rattle.uss_event.specs.declared.events.Event.{Event}
use Rattle.uss_law_dss.specs.Fits.{fits, ascend}
use Rattle.uss_law_dss.proofs.Tests.{both, not_both}
use Rattle.uss_event.specs.declared.entries.Opening.{Opening}
use Rattle.uss_law_book.specs.Contents.{open_job_of}
use Rattle.uss_law_duty.specs.Duties.{says_something, clamped, is_prompting}
use Rattle.uss_law_supplier.specs.Turns.{Standing, Turn}
use Rattle.uss_law_supplier.specs.Jobs.{found_by}
use Rattle.uss_law_book.specs.Contents.{rounds_of}
use Rattle.uss_law_supplier.specs.Typed.{IsReply, IsEvent}
use Rattle.uss_law_asking.specs.Exchange.{Exchanged, call_in, event_in, turn_of, stands_then, IsExchange, AllFit, most_found, found_before, AlwaysReplies, AreRepliesOf, ExchangesEnd}
use Rattle.uss_law_asking.specs.Exchange.Exchanged.{OfDss, OfPeer}
use Rattle.uss_law_asking.specs.Worked.{finds_nothing, without_anything}
use Rattle.uss_law_asking.proofs.Budget.{cost, some_allowed, IsWaiting, IsWithin}
use Rattle.uss_law_asking.proofs.Bounded.{steps, first_call}
use Rattle.uss_law_asking.proofs.First.{FirstStep, first_step}
use Rattle.uss_law_asking.proofs.Outcomes.{refuses_none, steady_none, most}
use Rattle.uss_law_asking.proofs.Sound.{IsSoundAt, waits_for, prompts_so, operators_prompt, sound_then, may_step}

-- a fitting reply gives at most 4,096 references

le_is : (a b : ℕ) → nat_le a b ≡ true → a ≤ b
le_is a b h = grind (arith, nat_tests)

no_more : (n : ℕ) → 4096 ≤ n → max 0 0 ≤ n
no_more n h = omega arith

few_in : (ask : DssAsk) (reply : DssReply) (n : ℕ) → 4096 ≤ n → fits ask reply ≡ true → max (length (found_by reply)) 0 ≤ n
few_in (Asks.Query area) (Replies.Found rs) n h f = let l = le_is (length rs) 4096 (both (nat_le (length rs) 4096) (ascend rs) f).0 in omega (arith, l, h)
few_in (Asks.Query area) (Replies.Refused refusal) n h f = no_more n h
few_in ask (Replies.Found rs) n h f = let q = f in cc
few_in ask reply n h f = no_more n h

few_found : (x : Exchanged) (n : ℕ) → 4096 ≤ n → AllFit (x ∷ []) → most_found (x ∷ []) ≤ n
few_found (OfDss call reply) n h f = few_in call.ask reply n h f.0
few_found (OfPeer call reply) n h f = omega arith

-- a step either says something or makes its call

silent_is : (said : Said) → says_something said ≡ false → said ≡ Says.Nothing
silent_is Says.Nothing h = refl
silent_is (Says.Answer a) h = cc
silent_is (Says.Refused r) h = cc
silent_is (Says.Pair p) h = cc
silent_is Says.Noted h = cc
silent_is Says.NotManager h = cc
silent_is (Says.Left tags) h = cc

-- one call is sent
only_one : {X : Type 0} (xs : List X) → length xs ≡ 1 → (x : X) × (xs ≡ x ∷ [])
only_one [] e = absurd (omega (arith, e))
only_one (x ∷ []) e = (x, refl)
only_one (x ∷ y ∷ ys) e = absurd (omega (arith, e))

module _ (moment : ℤ) (reply_to : List Exchanged → Outgoing → Exchanged) (replies : AlwaysReplies reply_to) where
  -- the rest of an exchange from this event on, after these replies
  abbrev Rest : Standing → Event → List Exchanged → Type 0
  Rest s event before = (ys : List Exchanged) × IsExchange s moment event ys × AreRepliesOf reply_to before ys

  next_waits : (n : ℕ) (s : Standing) (o : Opening) (before : List Exchanged) (call : Outgoing) (b : ℕ) → IsWaiting n s o call b → IsWaiting n s o (call_in (reply_to before call)) b
  next_waits n s o before call b w = subst (λ (c : Outgoing). IsWaiting n s o c b) (sym (replies.its_call before call)) w

  -- where a step makes a call, the rest follows its reply
  joins : (s : Standing) (event : Event) (before : List Exchanged) (call : Outgoing) → (turn_of s moment event).said ≡ Says.Nothing → (turn_of s moment event).sends ≡ call ∷ []
      → Rest (stands_then s (turn_of s moment event)) (event_in (reply_to before call)) (before ++ reply_to before call ∷ []) → Rest s event before
  joins s event before call quiet sends (ys, ex, are) =
      let x = reply_to before call in
      let c = replies.its_call before call in
      (x ∷ ys, ((quiet, sends ∙ ap (λ (z : Outgoing). z ∷ []) (sym c), ex.0), ex.1), (ap (reply_to before) (sym c), are))

  comes_to_an_end : (fuel n : ℕ) (s : Standing) (o : Opening) (before : List Exchanged) (call : Outgoing) (b : ℕ) → 4096 ≤ n → b ≤ fuel → IsSoundAt s → IsWaiting n s o call b
      → Rest s (event_in (reply_to before call)) (before ++ reply_to before call ∷ [])
  comes_to_an_end zero n s o before call b many enough sound w = let l = some_allowed n _ _ _ w.kind b w.allows in absurd (omega (arith, l, enough))
  comes_to_an_end (suc fuel) n s o before call b many enough sound w =
      by_step (says_something t.said) refl (may_step s moment event sound typed).acts.goes_on (steps n s moment o x b v fit (few_found x n many fit))
      (λ c call2 l v2. comes_to_an_end fuel n (stands_then s t) o (before ++ x ∷ []) call2 c many (omega (arith, l, enough)) (sound_then s moment event sound typed) v2)
    where
      x : Exchanged
      x = reply_to before call

      event : Event
      event = event_in (reply_to before call)

      t : Turn
      t = turn_of s moment (event_in (reply_to before call))

      fit : AllFit (reply_to before call ∷ [])
      fit = replies.fits before call

      typed : IsEvent (event_in (reply_to before call))
      typed = replies.typed before call

      v : IsWaiting n s o (call_in (reply_to before call)) b
      v = next_waits n s o before call b w

      on : (call2 : Outgoing) → t.said ≡ Says.Nothing → t.sends ≡ call2 ∷ [] → IsWithin n s o t b
          → ((c : ℕ) (call2 : Outgoing) → c < b → IsWaiting n (stands_then s t) o call2 c → Rest (stands_then s t) (event_in (reply_to (before ++ x ∷ []) call2)) ((before ++ x ∷ []) ++ reply_to (before ++ x ∷ []) call2 ∷ []))
          → Rest s event (before ++ x ∷ [])
      on call2 quiet sends (inl e) rec = let q : [] ≡ call2 ∷ [] = sym e ∙ sends in cc (q)
      on call2 quiet sends (inr (call3, c, e, w3, l)) rec =
          let same : call3 ≡ call2 = first_call call3 call2 (sym e ∙ sends) in
          joins s event (before ++ x ∷ []) call2 quiet sends (rec c call2 l (subst (λ z. IsWaiting n (stands_then s t) o z c) same w3))

      by_step : (says : Bool) → says_something t.said ≡ says → ((is_prompting event s.book ≡ true) → (says_something t.said ≡ true) ⊎ (length t.sends ≡ 1)) → IsWithin n s o t b
          → ((c : ℕ) (call2 : Outgoing) → c < b → IsWaiting n (stands_then s t) o call2 c → Rest (stands_then s t) (event_in (reply_to (before ++ x ∷ []) call2)) ((before ++ x ∷ []) ++ reply_to (before ++ x ∷ []) call2 ∷ []))
          → Rest s event (before ++ x ∷ [])
      by_step true e go within rec = ([], (tt, e), tt)
      by_step false e go within rec = elim (go (prompts_so n s o x b v)) [
        | inl k ↦ not_both (says_something t.said) k e
        | inr k ↦ (let one = only_one t.sends k in on one.0 (silent_is t.said e) one.1 within rec)
      ]

pub exchanges_end : ExchangesEnd
exchanges_end s moment event reply_to operators sound typed replies = at_first (says_something t.said) refl (may_step s moment event sound typed).acts.goes_on (first_step s (clamped moment) event operators sound)
  where
    t : Turn
    t = turn_of s moment event

    on : (o : Opening) (call : Outgoing) (n b : ℕ) → 4096 ≤ n → t.said ≡ Says.Nothing → t.sends ≡ call ∷ [] → IsWithin n s o t b → (xs : List Exchanged) × IsExchange s moment event xs × AreRepliesOf reply_to [] xs
    on o call n b many quiet sends within =
        let w = waits_for n s o t call b within sends in
        joins moment reply_to replies s event [] call quiet sends (comes_to_an_end moment reply_to replies w.0 n (stands_then s t) o [] call w.0 many (omega arith) (sound_then s moment event sound typed) w.1)

    by_job : (call : Outgoing) → t.said ≡ Says.Nothing → t.sends ≡ call ∷ [] → FirstStep s (clamped moment) event t → (xs : List Exchanged) × IsExchange s moment event xs × AreRepliesOf reply_to [] xs
    by_job call quiet sends (inl (inl (r, e, q))) = refuses_none s r t q quiet
    by_job call quiet sends (inr (e, f, a, q, n)) = steady_none f t.said q quiet
    by_job call quiet sends (inl (inr (e, o, p, j))) =
        let found = found_before s.values (open_job_of o.ask.flight s.book) in
        let m = most found 4096 in
        on o call (max found 4096) (5 + cost (rounds_of o.ask.wish) (max found 4096)) m.1 quiet sends (j.within (max found 4096) m.0)

    at_first : (says : Bool) → says_something t.said ≡ says → ((is_prompting event s.book ≡ true) → (says_something t.said ≡ true) ⊎ (length t.sends ≡ 1)) → FirstStep s (clamped moment) event t
        → (xs : List Exchanged) × IsExchange s moment event xs × AreRepliesOf reply_to [] xs
    at_first true e go first = ([], (tt, e), tt)
    at_first false e go first = elim (go (operators_prompt event s.book operators)) [
      | inl k ↦ not_both (says_something t.said) k e
      | inr k ↦ (let one = only_one t.sends k in by_job one.0 (silent_is t.said e) one.1 first)
    ]

-- somebody does reply so

nothing_is : (before : List Exchanged) (call : Outgoing) → call_in (without_anything before call) ≡ call
nothing_is before (Goes.Dss call) = refl
nothing_is before (Goes.Peer call) = refl

nothing_fits : (before : List Exchanged) (call : Outgoing) → AllFit (without_anything before call ∷ [])
nothing_fits before (Goes.Dss call) = (by_ask call.ask, tt)
  where
    by_ask : (ask : DssAsk) → fits ask (finds_nothing ask) ≡ true
    by_ask (Asks.Query area) = refl
    by_ask (Asks.Get flight) = refl
    by_ask (Asks.Put flight ovn extents key state base ticket) = refl
    by_ask (Asks.Remove flight ovn) = refl
    by_ask (Asks.TicketPut ticket area base) = refl
    by_ask (Asks.TicketGet ticket) = refl
    by_ask (Asks.TicketRemove ticket version) = refl
nothing_fits before (Goes.Peer (Calls.Details job flight manager base)) = (refl, tt)
nothing_fits before (Goes.Peer (Calls.Notify job index base note)) = (refl, tt)

nothing_typed : (before : List Exchanged) (call : Outgoing) → IsEvent (event_in (without_anything before call))
nothing_typed before (Goes.Dss call) = by_ask call.ask
  where
    by_ask : (ask : DssAsk) → IsReply (finds_nothing ask)
    by_ask (Asks.Query area) = tt
    by_ask ask = tt
nothing_typed before (Goes.Peer (Calls.Details job flight manager base)) = tt
nothing_typed before (Goes.Peer (Calls.Notify job index base note)) = tt

pub always_replied : AlwaysReplies without_anything
always_replied = record { its_call = nothing_is; fits = nothing_fits; typed = nothing_typed }
