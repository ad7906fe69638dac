-- The worked books are legal.
use Rattle.std.proofs.Common.{◌≤◌, ◌≡◌, true, [], ◌∷◌, ◌++◌, refl, arith}
use Rattle.url.proofs.OnLiterals.{url_on_literals}
use Rattle.uss_intent.specs.Texts.{is_base}
use Rattle.uss_event.specs.declared.entries.Entry.TheVariants as Enters
use Rattle.uss_law_book.specs.Coding.{IsOwner, journal_length}
use Rattle.uss_law_book.specs.Reserve.{need, reserved}
use Rattle.uss_law_book.specs.Legal.{MayFollow, IsLegal}
use Rattle.uss_law_duty.specs.Worked.{owner, done, end_done, keyed_book, cancelled_book, ending_book, owing_book, notified}
use Rattle.uss_law_duty.proofs.Worked.{opens, heard_open_follows, pending_follows, recorded_follows, cancelling_follows, done_follows, room_before}
use Rattle.uss_law_duty.proofs.Further.{keyed_follows, end_follows, end_done_follows}
use Rattle.uss_law_duty.proofs.Others.{owing_follows, notified_follows}

base_is : is_base owner.base ≡ true
unfolding url_on_literals
base_is = refl

valid_owner : IsOwner owner
valid_owner = record { number = omega arith; name = refl; base = base_is; short_base = omega arith; table = refl }

room_at_first : reserved [] ≤ 536870912
unfolding reserved need journal_length
room_at_first = omega arith

pub owner_follows : MayFollow [] (Enters.Owner owner)
owner_follows = record { first = refl; coding = valid_owner; due = tt; room_before = room_at_first; room_after = room_before }

pub cancelled_is_legal : IsLegal (cancelled_book ++ done ∷ [])
cancelled_is_legal = (owner_follows, (opens, (heard_open_follows, (pending_follows, (cancelling_follows, (done_follows, tt))))))

pub ended_is_legal : IsLegal (ending_book ++ end_done ∷ [])
ended_is_legal = (owner_follows, (opens, (heard_open_follows, (pending_follows, (recorded_follows, (end_follows, (end_done_follows, tt)))))))

pub keyed_is_legal : IsLegal keyed_book
keyed_is_legal = (owner_follows, (opens, (heard_open_follows, (keyed_follows, tt))))

pub notified_is_legal : IsLegal (owing_book ++ notified ∷ [])
notified_is_legal = (owner_follows, (opens, (heard_open_follows, (pending_follows, (owing_follows, (notified_follows, tt))))))
