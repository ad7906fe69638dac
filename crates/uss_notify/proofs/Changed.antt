-- What further changes add to what the changes tell.
use Rattle.std.proofs.Common.{ℕ, ◌||◌, List, [], ◌∷◌, ◌++◌, ◌≡◌, refl, ap, sym, ◌∙◌, append-nil, append_assoc, Option, Some, None}
use Rattle.std.specs.Option.{option_or, option_to_list}
use Rattle.std.proofs.lemmas.List.Folds.{list_any-append}
use Rattle.uss_event.specs.declared.entries.Entry.{Entry}
use Rattle.uss_notify.specs.declared.changes.NoticeChange.{NoticeChange}
use Rattle.uss_notify.specs.Changes.{change_of, changes_from, changes_of}
use Rattle.uss_notify.specs.After.{flight_in, flight_of, owed_in, owes, says_sent, is_sent, opens_ticket, has_ticket, takes_ticket, is_gone, ends, has_ended, landed_in, last_landed}

or_or : {X : Type 0} (a b c : Option X) → option_or a (option_or b c) ≡ option_or (option_or a b) c
or_or None b c = refl
or_or (Some x) b c = refl

or_none : {X : Type 0} (a : Option X) → option_or a None ≡ a
or_none None = refl
or_none (Some x) = refl

pub flight_append : (job : ℕ) (xs ys : List NoticeChange) → flight_of job (xs ++ ys) ≡ option_or (flight_of job xs) (flight_of job ys)
flight_append job [] ys = refl
flight_append job (x ∷ xs) ys = ap (option_or (flight_in job x)) (flight_append job xs ys) ∙ or_or (flight_in job x) (flight_of job xs) (flight_of job ys)

pub owes_append : (job : ℕ) (xs ys : List NoticeChange) → owes job (xs ++ ys) ≡ option_or (owes job xs) (owes job ys)
owes_append job [] ys = refl
owes_append job (x ∷ xs) ys = ap (option_or (owed_in job x)) (owes_append job xs ys) ∙ or_or (owed_in job x) (owes job xs) (owes job ys)

pub last_append : (flight : ℕ) (xs ys : List NoticeChange) → last_landed flight (xs ++ ys) ≡ option_or (last_landed flight ys) (last_landed flight xs)
last_append flight [] ys = sym (or_none (last_landed flight ys))
last_append flight (x ∷ xs) ys =
    ap (λ o. option_or o (landed_in flight x)) (last_append flight xs ys) ∙ sym (or_or (last_landed flight ys) (last_landed flight xs) (landed_in flight x))

pub sent_append : (job index : ℕ) (xs ys : List NoticeChange) → is_sent job index (xs ++ ys) ≡ (is_sent job index xs || is_sent job index ys)
sent_append job index xs ys = list_any-append (says_sent job index) xs ys

pub ticket_append : (job : ℕ) (xs ys : List NoticeChange) → has_ticket job (xs ++ ys) ≡ (has_ticket job xs || has_ticket job ys)
ticket_append job xs ys = list_any-append (opens_ticket job) xs ys

pub gone_append : (job : ℕ) (xs ys : List NoticeChange) → is_gone job (xs ++ ys) ≡ (is_gone job xs || is_gone job ys)
gone_append job xs ys = list_any-append (takes_ticket job) xs ys

pub ended_append : (flight : ℕ) (xs ys : List NoticeChange) → has_ended flight (xs ++ ys) ≡ (has_ended flight xs || has_ended flight ys)
ended_append flight xs ys = list_any-append (ends flight) xs ys

-- the changes of a book with one more entry
from_more : (before es : List Entry) (e : Entry) → changes_from before (es ++ e ∷ []) ≡ changes_from before es ++ option_to_list (change_of (before ++ es) e)
from_more before [] e = go (change_of before e) ∙ ap (λ b. option_to_list (change_of b e)) (sym (append-nil before))
  where
    go : (o : Option NoticeChange) → option_to_list o ++ [] ≡ option_to_list o
    go None = refl
    go (Some c) = refl
from_more before (x ∷ es) e =
    ap (λ (l : List NoticeChange). option_to_list (change_of before x) ++ l)
    (from_more (before ++ x ∷ []) es e ∙ ap (λ b. changes_from (before ++ x ∷ []) es ++ option_to_list (change_of b e)) (append_assoc before (x ∷ []) es))
    ∙ sym (append_assoc (option_to_list (change_of before x)) (changes_from (before ++ x ∷ []) es) (option_to_list (change_of (before ++ x ∷ es) e)))

pub one_more : (book : List Entry) (e : Entry) → changes_of (book ++ e ∷ []) ≡ changes_of book ++ option_to_list (change_of book e)
one_more book e = from_more [] book e
