-- What a legal book knows of a job: its alternatives have extents, and its last attempt is made of its wish.
use Rattle.std.proofs.Common.{◌≡◌, ◌∙◌, ap, arith, ℕ, ◌<◌, ◌≤◌, true, List, [], ◌∷◌, ◌++◌, length, length-append, Option, Some, None}
use Rattle.std.specs.Prelude.{All, option_and_then}
use Rattle.std.specs.List.{last_or}
use Rattle.std.proofs.lemmas.List.Elements.{All-nil, All-head, All-tail, All-append}
use Rattle.uss_vol4.specs.Volume.{IsVolume}
use Rattle.uss_intent.specs.declared.records.State.{State}
use Rattle.uss_event.specs.declared.asks.Wish.{Wish}
use Rattle.uss_event.specs.declared.asks.Wish.TheVariants.{Put, End}
use Rattle.uss_event.specs.declared.details.Proposal.{Proposal}
use Rattle.uss_event.specs.declared.entries.Entry.{Entry}
use Rattle.uss_event.specs.declared.entries.Opening.{Opening}
use Rattle.uss_event.specs.declared.entries.Owner.{Owner}
use Rattle.uss_event.specs.declared.entries.Trial.{Trial}
use Rattle.uss_law_book.specs.Attempts.{attempt_of, by_opening, by_trial, by_wish}
use Rattle.uss_law_book.specs.Contents.{is_put, opening_of, trial_of, trials_of}
use Rattle.uss_law_book.specs.Legal.{IsLegal}
use Rattle.uss_law_book.specs.Lists.{owner_of}
use Rattle.uss_law_book.proofs.EachOrderly.{legal_is_orderly}
use Rattle.uss_law_book.proofs.Held.{trial_is_found}
use Rattle.uss_law_book.proofs.Kept.{opening_has}
use Rattle.uss_law_book.proofs.Known.{IsFirm, legal_known}
use Rattle.uss_law_duty.specs.Sends.{all_extents}
use Rattle.uss_law_supplier.specs.Calls.{last_attempt, last_trial, proposals_of}
use Rattle.uss_law_supplier.proofs.Onward.{last_is_tried}
use Rattle.uss_book_index.specs.Records.{ArePlanned, IsPlan, ask_of}
use Rattle.uss_book_index.proofs.Lasting.{plan_has_some}
use Rattle.uss_book_index.proofs.Planned.{asked_is_planned}
use Rattle.uss_job.specs.Area.{HasExtents}

-- ---- the alternatives have extents

all_volumes : (to : State) (priority : ℕ) (ps : List Proposal) → All (IsPlan to priority) ps → All IsVolume (all_extents ps)
all_volumes to priority [] a = All-nil IsVolume
all_volumes to priority (p ∷ ps) a =
    let h = All-head (IsPlan to priority) p ps a in
    All-append IsVolume (p.volumes ++ p.off_nominal) (all_extents ps) (All-append IsVolume p.volumes p.off_nominal h.volumes h.off_nominal)
    (all_volumes to priority ps (All-tail (IsPlan to priority) p ps a))

some_extents : (to : State) (priority : ℕ) (ps : List Proposal) → 1 ≤ length ps → All (IsPlan to priority) ps → 0 < length (all_extents ps)
some_extents to priority [] l a = absurd (omega arith)
some_extents to priority (p ∷ ps) l a =
    let h = All-head (IsPlan to priority) p ps a in
    let s = plan_has_some to p.volumes p.off_nominal priority h.plan in
    let n = length-append p.volumes p.off_nominal in
    let m = length-append (p.volumes ++ p.off_nominal) (all_extents ps) in
    omega (arith, s, n, m)

put_has_extents : (w : Wish) → IsFirm w → ArePlanned w → is_put w ≡ true → HasExtents (proposals_of w)
put_has_extents (Put to priority rounds proposals) f a h =
    record { some = some_extents to priority proposals f.some_proposals a; volumes = all_volumes to priority proposals a }
put_has_extents End f a h = cc

pub has_extents : (es : List Entry) (o : Opening) → IsLegal es → opening_of o.job es ≡ Some o → is_put o.ask.wish ≡ true → HasExtents (proposals_of o.ask.wish)
has_extents es o l e h =
    put_has_extents o.ask.wish ((legal_known es l).firm o (opening_has es o.job o e).0) (asked_is_planned es o.job o.ask l (ap ask_of e)) h

-- ---- the last attempt

pub last_is_made : (es : List Entry) (owner : Owner) (o : Opening) (t : Trial) → IsLegal es → owner_of es ≡ Some owner → opening_of o.job es ≡ Some o
    → last_or None (trials_of o.job es) ≡ Some t → last_attempt o.job es ≡ by_wish owner o t o.ask.wish
unfolding last_trial attempt_of
last_is_made es owner o t l whose opened last =
    let h = last_is_tried o.job es t last in
    let found : trial_of t.tag es ≡ Some t = trial_is_found es t (legal_is_orderly es l) h.0 in
    let its : opening_of t.job es ≡ Some o = ap (λ (j : ℕ). opening_of j es) h.1 ∙ opened in
    ap (option_and_then (λ (t : Trial). attempt_of t.tag es)) last
    ∙ ap (by_trial es) found
    ∙ ap (λ (w : Option Owner). by_opening w t (opening_of t.job es)) whose
    ∙ ap (by_opening (Some owner) t) its

pub none_is_made : (es : List Entry) (o : Opening) → last_or None (trials_of o.job es) ≡ None → last_attempt o.job es ≡ None
unfolding last_trial
none_is_made es o last = ap (option_and_then (λ (t : Trial). attempt_of t.tag es)) last
