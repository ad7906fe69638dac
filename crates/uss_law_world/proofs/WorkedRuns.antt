-- The worked runs are free, and compute.
use Rattle.std.proofs.Common.{◌≡◌, [], ◌∷◌, refl}
use Rattle.uss_shape.specs.Shape.{bounds_of}
use Rattle.uss_shape.specs.Overlap.{outlines_meet, region_holds_first, region_holds}
use Rattle.uss_vol4.specs.Bounding.{bounding_box}
use Rattle.uss_vol4.specs.Sharing.{shares, any_shares}
use Rattle.uss_intent.specs.Tags.{tag_of, number_of_digits, digits_at_end}
use Rattle.uss_law_duty.specs.Duties.{clamped}
use Rattle.uss_event.specs.declared.events.Answer.TheVariants as Answers
use Rattle.uss_event.specs.declared.events.Said.TheVariants as Says
use Rattle.uss_law_dss.specs.Service.{ovn_of, lies_in}
use Rattle.uss_law_book.specs.Contents.{opening_of}
use Rattle.uss_law_duty.specs.Worked as One
use Rattle.uss_law_duty.proofs.Worked as May
use Rattle.uss_law_world.specs.World.{supplier_in, start}
use Rattle.uss_law_world.specs.Moves.{run}
use Rattle.uss_law_world.specs.Free.{IsFree}
use Rattle.uss_law_world.specs.Worked.{said_in, replies_in, saying, found_again, found_again_replies, cancelled_early, cancelled_early_replies, second, both_put, both_put_replies}
use Rattle.uss_law_world.proofs.Second as Second

pub found_again_replied : replies_in (run (start (One.owner ∷ [])) found_again) ≡ found_again_replies
unfolding bounds_of bounding_box tag_of number_of_digits digits_at_end ovn_of lies_in supplier_in clamped opening_of
found_again_replied = refl

pub found_again_said : said_in (run (start (One.owner ∷ [])) found_again) ≡ saying One.planned ∷ []
unfolding bounds_of bounding_box tag_of number_of_digits digits_at_end ovn_of lies_in supplier_in clamped opening_of
found_again_said = refl

pub cancelled_early_replied : replies_in (run (start (One.owner ∷ [])) cancelled_early) ≡ cancelled_early_replies
unfolding bounds_of bounding_box tag_of number_of_digits digits_at_end ovn_of lies_in supplier_in clamped opening_of
cancelled_early_replied = refl

pub cancelled_early_said : said_in (run (start (One.owner ∷ [])) cancelled_early) ≡ saying (Says.Answer Answers.Cancelled) ∷ []
unfolding bounds_of bounding_box tag_of number_of_digits digits_at_end ovn_of lies_in supplier_in clamped opening_of
cancelled_early_said = refl

pub found_again_is_free : IsFree (start (One.owner ∷ [])) found_again
unfolding bounds_of bounding_box tag_of number_of_digits digits_at_end ovn_of lies_in supplier_in clamped opening_of
found_again_is_free = (tt, (May.asking, (tt, (May.ticket_made, (tt, (May.nothing_found, (May.resumed, (tt, (tt, (tt, (May.resumed, (tt, (May.asks_again, ((tt, (May.got, tt)), tt))))))))))))))

pub cancelled_early_is_free : IsFree (start (One.owner ∷ [])) cancelled_early
unfolding bounds_of bounding_box tag_of number_of_digits digits_at_end ovn_of lies_in supplier_in clamped opening_of
cancelled_early_is_free = (tt, (May.asking, (tt, (May.ticket_made, (tt, (May.nothing_found, (May.cancels, (tt, (May.cancelled, (tt, (tt, tt)))))))))))

pub both_put_replied : replies_in (run (start (One.owner ∷ second ∷ [])) both_put) ≡ both_put_replies
unfolding bounds_of outlines_meet region_holds_first region_holds bounding_box shares any_shares tag_of number_of_digits digits_at_end ovn_of lies_in supplier_in clamped opening_of
both_put_replied = refl

pub both_put_is_free : IsFree (start (One.owner ∷ second ∷ [])) both_put
unfolding bounds_of outlines_meet region_holds_first region_holds bounding_box shares any_shares tag_of number_of_digits digits_at_end ovn_of lies_in supplier_in clamped opening_of
both_put_is_free = (tt, (May.asking, (Second.asking, (tt, (tt, (May.ticket_made, (Second.ticket_made, (tt, (tt, (May.nothing_found, (Second.nothing_found, (tt, (tt, (Second.lacked, tt))))))))))))))
