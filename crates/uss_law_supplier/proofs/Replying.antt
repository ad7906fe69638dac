-- That a supplier may do what a reply comes to.
use Rattle.std.proofs.Common.{ℤ, ◌==◌, Bool, true, false, ◌&&◌, List, [], ◌≡◌, refl, ap, sym, subst, ◌∙◌, Option, Some, None}
use Rattle.std.specs.Option.{option_and_then}
use Rattle.uss_intent.specs.Same.{same_ask}
use Rattle.uss_intent.specs.SameLaws.{ask_is_same}
use Rattle.uss_intent.specs.declared.records.Reference.{Reference}
use Rattle.uss_intent.specs.declared.calls.DssReply.{DssReply}
use Rattle.uss_intent.specs.declared.calls.DssReply.TheVariants as Replies
use Rattle.uss_event.specs.Same.{same_call}
use Rattle.uss_event.specs.declared.calls.DssCall.{DssCall}
use Rattle.uss_event.specs.declared.calls.Outgoing.{Outgoing}
use Rattle.uss_event.specs.declared.calls.Outgoing.TheVariants as Goes
use Rattle.uss_event.specs.declared.events.Event.{Event}
use Rattle.uss_event.specs.declared.events.Event.TheVariants as Comes
use Rattle.uss_law_dss.specs.Fits.{fits}
use Rattle.uss_law_dss.proofs.Tests.{same_number, both, some_same}
use Rattle.uss_event.specs.declared.entries.Opening.{Opening}
use Rattle.uss_law_book.specs.Contents.{opening_of}
use Rattle.uss_law_book.proofs.Kept.{opening_has}
use Rattle.uss_event.specs.Heard.{News}
use Rattle.uss_law_duty.specs.Answers.{flight_of}
use Rattle.uss_law_duty.specs.Duties.{HearsOnly}
use Rattle.uss_law_duty.specs.Sayings.{others}
use Rattle.uss_law_supplier.specs.Values.{Round, Values, awaited_of, round_of, in_round, round_with}
use Rattle.uss_law_supplier.specs.Table.{when_awaited}
use Rattle.uss_law_supplier.specs.Calls.{call_of, kind_of, is_it}
use Rattle.uss_law_supplier.specs.Turns.{Standing, Turn}
use Rattle.uss_law_supplier.specs.Jobs.{view_of, heard_of_dss, round_by_dss, with_values, carry_out, acting_on_dss, open_by_dss}
use Rattle.uss_law_supplier.specs.Typed.{IsReply, IsHeard}
use Rattle.uss_law_supplier.specs.Replies.{waits_for_dss}
use Rattle.uss_law_supplier.specs.Fitting.{IsPhase, IsDssAwaited, IsAwaited, IsFit}
use Rattle.uss_law_supplier.proofs.Waits.{round_own, round_awaited}
use Rattle.uss_law_supplier.proofs.Onward.{call_is_due}
use Rattle.uss_law_supplier.proofs.Fits.{fit_in_round, heard_in_round}
use Rattle.uss_law_supplier.proofs.Good.{Sound, IsGood}
use Rattle.uss_law_supplier.proofs.Jobs.{IsAt}
use Rattle.uss_law_supplier.proofs.Resuming.{good_resuming}
use Rattle.uss_law_supplier.proofs.Acting.{IsReplied, acted, good_acting}

-- a call that is the awaited one

same_dss_call : (a b : DssCall) → same_call (Goes.Dss a) (Goes.Dss b) ≡ true → a ≡ b
same_dss_call a b h =
    let p = both (a.job == b.job) (same_ask a.ask b.ask) h in
    let j = same_number a.job b.job p.0 in
    let k = (ask_is_same a.ask b.ask).0 p.1 in
    λ i. record { job = j i; ask = k i }

awaited_dss : (call : DssCall) (x : Option Outgoing) → is_it (Goes.Dss call) x ≡ true → x ≡ Some (Goes.Dss call)
awaited_dss call None h = cc
awaited_dss call (Some (Goes.Dss c)) h = ap (λ (d : DssCall). Some (Goes.Dss d)) (same_dss_call c call h)
awaited_dss call (Some (Goes.Peer c)) h = cc

-- other values, with the same hearing
pub sound_with : (s : Standing) (v : Values) → Sound s → IsFit s.owner s.book v → IsHeard v.heard → Sound (with_values s v)
sound_with s v d f h = record { owned = d.owned; legal = d.legal; orderly = d.orderly; known = d.known; room = d.room; fit = f; heard = h }

pub at_with : (s : Standing) (v : Values) (o : Opening) → IsAt s o → IsFit s.owner s.book v → v.heard ≡ s.values.heard → IsAt (with_values s v) o
at_with s v o a f e = record { sound = sound_with s v a.sound f (subst IsHeard (sym e) a.sound.heard); has = a.has; unfinished = a.unfinished }

pub moved_good : (s : Standing) (v : Values) (heard : List News) (moment : ℤ) (event : Event) (t : Turn) → v.heard ≡ s.values.heard → IsGood (with_values s v) heard moment event t → IsGood s heard moment event t
moved_good s v heard moment event t e g =
    record { entry = g.entry; sends = g.sends; pair = g.pair; final = g.final; fit = g.fit; heard_is = g.heard_is ∙ e; cause = g.cause; goes_on = g.goes_on }

-- the round that a reply leaves

round_fit : (s : Standing) (o : Opening) (call : DssCall) (reply : DssReply) → Sound s → awaited_of o.job s.values ≡ Some (Goes.Dss call) → IsFit s.owner s.book (round_by_dss s o reply)
round_fit s o call (Replies.Found rs) d w =
    fit_in_round s.owner s.book s.values o.job (round_with (others (flight_of s.owner o) rs)) d.fit
    (λ c e. (
    let q : Goes.Dss call ≡ c = some_same (Goes.Dss call) c (sym w ∙ e) in
    let v = in_round o.job (round_with (others (flight_of s.owner o) rs)) s.values in
    subst (λ (x : Outgoing). IsAwaited s.owner s.book v o.job x) q (d.fit o.job (Goes.Dss call) w)))
round_fit s o call _ d w = d.fit

round_heard : (s : Standing) (o : Opening) (reply : DssReply) → (round_by_dss s o reply).heard ≡ s.values.heard
round_heard s o (Replies.Found rs) = heard_in_round o.job (round_with (others (flight_of s.owner o) rs)) s.values
round_heard s o _ = refl

round_waits : (s : Standing) (o : Opening) (reply : DssReply) → awaited_of o.job (round_by_dss s o reply) ≡ awaited_of o.job s.values
round_waits s o (Replies.Found rs) = round_awaited o.job (round_with (others (flight_of s.owner o) rs)) s.values
round_waits s o _ = refl

found_in : DssReply → List Reference
found_in (Replies.Found rs) = rs
found_in _ = []

round_found : (s : Standing) (o : Opening) (reply : DssReply) (rs : List Reference) → reply ≡ Replies.Found rs → (round_of o.job (round_by_dss s o reply)).found ≡ others (flight_of s.owner o) rs
unfolding found_in
round_found s o (Replies.Found qs) rs e =
    let q : qs ≡ rs = ap found_in e in
    ap (λ (r : Round). r.found) (round_own o.job (round_with (others (flight_of s.owner o) qs)) s.values) ∙ ap (others (flight_of s.owner o)) q
round_found s o _ rs e = cc

-- a reply that is acted on
good_by_dss : (s : Standing) (heard : List News) (moment : ℤ) (o : Opening) (call : DssCall) (reply : DssReply) → IsAt s o → opening_of call.job s.book ≡ Some o → HearsOnly heard (Comes.Dss call reply) s.values.heard
    → fits call.ask reply ≡ true → IsReply reply → awaited_of o.job s.values ≡ Some (Goes.Dss call) → IsGood s heard moment (Comes.Dss call reply) (acting_on_dss (with_values s (round_by_dss s o reply)) o reply)
unfolding view_of
good_by_dss s heard moment o call reply a named hears fit typed waits =
    let v = round_by_dss s o reply in
    let t = with_values s v in
    let here = at_with s v o a (round_fit s o call reply a.sound waits) (round_heard s o reply) in
    let w : IsDssAwaited s.owner s.book o.job call = a.sound.fit o.job (Goes.Dss call) waits in
    let same : w.opening ≡ o = some_same w.opening o (sym w.opened ∙ a.unfinished.opened) in
    let is : call_of s.owner s.book o w.kind ≡ Some call.ask = subst (λ (x : Opening). call_of s.owner s.book x w.kind ≡ Some call.ask) same w.is in
    let phase : IsPhase s.book o w.kind = subst (λ (x : Opening). IsPhase s.book x w.kind) same w.phase in
    let replied : IsReplied t heard o call.job call.ask reply w.kind = record {
      here = here;
      its_job = (opening_has s.book call.job o named).1;
      fit = fit;
      is = is;
      due = call_is_due s.owner s.book o w.kind call.ask a.sound.orderly a.sound.known a.unfinished phase is;
      phase = phase;
      hears = subst (HearsOnly heard (Comes.Dss call reply)) (sym (round_heard s o reply)) hears;
      named = named;
      typed = typed;
      found = round_found s o reply;
    } in
    let kind : option_and_then kind_of (awaited_of o.job v) ≡ Some w.kind = ap (option_and_then kind_of) (round_waits s o reply ∙ waits) ∙ w.is_of_kind in
    let acts : acted t o reply w.kind ≡ acting_on_dss t o reply = ap (λ x. carry_out t o reply (when_awaited (view_of t o) (heard_of_dss t o reply) x)) (sym kind) in
    moved_good s v heard moment (Comes.Dss call reply) (acting_on_dss t o reply) (round_heard s o reply)
    (subst (λ (x : Turn). IsGood t heard moment (Comes.Dss call reply) x) acts
    (good_acting t heard moment o call.job call.ask reply w.kind w.is_of_kind replied))

pub good_open_by_dss : (s : Standing) (heard : List News) (moment : ℤ) (o : Opening) (call : DssCall) (reply : DssReply) → IsAt s o → opening_of call.job s.book ≡ Some o
    → HearsOnly heard (Comes.Dss call reply) s.values.heard → IsReply reply → (b : Bool) → (fits call.ask reply && waits_for_dss s o call) ≡ b → IsGood s heard moment (Comes.Dss call reply) (open_by_dss s o reply b)
good_open_by_dss s heard moment o call reply a named hears typed true e =
    let p = both (fits call.ask reply) (waits_for_dss s o call) e in
    good_by_dss s heard moment o call reply a named hears p.0 typed (awaited_dss call (awaited_of o.job s.values) p.1)
good_open_by_dss s heard moment o call reply a named hears typed false e = good_resuming s heard moment (Comes.Dss call reply) o a
