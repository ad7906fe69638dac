-- The further worked runs are free, and compute.
use Rattle.std.proofs.Common.{◌≡◌, [], ◌∷◌, refl}
use Rattle.uss_shape.specs.Shape.{bounds_of}
use Rattle.uss_shape.specs.Overlap.{outlines_meet, region_holds_first, region_holds}
use Rattle.uss_vol4.specs.Bounding.{bounding_box}
use Rattle.uss_vol4.specs.Sharing.{shares, any_shares}
use Rattle.uss_intent.specs.Tags.{tag_of, number_of_digits, digits_at_end}
use Rattle.uss_law_dss.specs.Service.{ovn_of, lies_in}
use Rattle.uss_law_book.specs.Contents.{opening_of}
use Rattle.uss_law_duty.specs.Answers.{job_of_request}
use Rattle.uss_law_duty.specs.Duties.{clamped}
use Rattle.uss_law_duty.specs.Worked.{owner, planned}
use Rattle.uss_law_duty.proofs.Worked as May
use Rattle.uss_law_duty.proofs.Further as Further
use Rattle.uss_law_duty.proofs.Others as Others
use Rattle.uss_law_world.specs.World.{supplier_in, start}
use Rattle.uss_law_world.specs.Moves.{run}
use Rattle.uss_law_world.specs.Free.{IsFree}
use Rattle.uss_law_world.specs.Worked.{said_in, replies_in, saying, second, found_again_replies}
use Rattle.uss_law_world.specs.WorkedEnds.{planned_replies, watched, watched_sayings, ended, ended_replies, ended_sayings}
use Rattle.uss_law_world.specs.WorkedStops.{failed, failed_sayings, stopped_twice, answered_twice, answered_twice_sayings}
use Rattle.uss_law_world.specs.WorkedSweeps.{notifying, notifying_replies, notifying_sayings}
use Rattle.uss_law_world.proofs.WorkedSteps.{answers_again, retires, retired, rests_then, rests, notes}
use Rattle.uss_law_world.proofs.Second as Second
use Rattle.uss_law_world.proofs.Contested as Contested

pub watched_replied : replies_in (run (start (owner ∷ [])) watched) ≡ planned_replies
unfolding bounds_of bounding_box tag_of number_of_digits digits_at_end ovn_of lies_in supplier_in clamped opening_of
watched_replied = refl

pub watched_said : said_in (run (start (owner ∷ [])) watched) ≡ watched_sayings
unfolding bounds_of bounding_box tag_of number_of_digits digits_at_end ovn_of lies_in supplier_in clamped opening_of job_of_request
watched_said = refl

pub watched_is_free : IsFree (start (owner ∷ [])) watched
unfolding bounds_of bounding_box tag_of number_of_digits digits_at_end ovn_of lies_in supplier_in clamped opening_of
watched_is_free = (tt, (May.asking, (tt, (May.ticket_made, (tt, (May.nothing_found, (tt, (May.landed, (tt, (Others.conforms, (Others.strays, (tt, (Others.old, tt)))))))))))))

pub ended_replied : replies_in (run (start (owner ∷ [])) ended) ≡ ended_replies
unfolding bounds_of bounding_box tag_of number_of_digits digits_at_end ovn_of lies_in supplier_in clamped opening_of
ended_replied = refl

pub ended_said : said_in (run (start (owner ∷ [])) ended) ≡ ended_sayings
unfolding bounds_of bounding_box tag_of number_of_digits digits_at_end ovn_of lies_in supplier_in clamped opening_of job_of_request
ended_said = refl

pub ended_is_free : IsFree (start (owner ∷ [])) ended
unfolding bounds_of bounding_box tag_of number_of_digits digits_at_end ovn_of lies_in supplier_in clamped opening_of
ended_is_free = (tt, (May.asking, (tt, (May.ticket_made, (tt, (May.nothing_found, (tt, (May.landed, (Further.ends, (tt, (Further.ended, (retires, (tt, (retired, (rests_then, tt)))))))))))))))

pub failed_replied : replies_in (run (start (owner ∷ [])) failed) ≡ found_again_replies
unfolding bounds_of bounding_box tag_of number_of_digits digits_at_end ovn_of lies_in supplier_in clamped opening_of
failed_replied = refl

pub failed_said : said_in (run (start (owner ∷ [])) failed) ≡ failed_sayings
unfolding bounds_of bounding_box tag_of number_of_digits digits_at_end ovn_of lies_in supplier_in clamped opening_of job_of_request
failed_said = refl

pub failed_is_free : IsFree (start (owner ∷ [])) failed
unfolding bounds_of bounding_box tag_of number_of_digits digits_at_end ovn_of lies_in supplier_in clamped opening_of
failed_is_free = (tt, (May.asking, (tt, (May.ticket_made, (tt, (May.nothing_found, (Others.left, (tt, (May.resumed, (tt, (May.asks_again, (tt, (May.got, tt)))))))))))))

pub stopped_twice_replied : replies_in (run (start (owner ∷ [])) stopped_twice) ≡ found_again_replies
unfolding bounds_of bounding_box tag_of number_of_digits digits_at_end ovn_of lies_in supplier_in clamped opening_of
stopped_twice_replied = refl

pub stopped_twice_said : said_in (run (start (owner ∷ [])) stopped_twice) ≡ saying planned ∷ []
unfolding bounds_of bounding_box tag_of number_of_digits digits_at_end ovn_of lies_in supplier_in clamped opening_of job_of_request
stopped_twice_said = refl

pub stopped_twice_is_free : IsFree (start (owner ∷ [])) stopped_twice
unfolding bounds_of bounding_box tag_of number_of_digits digits_at_end ovn_of lies_in supplier_in clamped opening_of
stopped_twice_is_free = (tt, (May.asking, (tt, (May.ticket_made, (tt, (May.nothing_found, (tt, (tt, (May.resumed, (tt, (May.asks_again, (tt, (May.got, tt)))))))))))))

pub answered_twice_replied : replies_in (run (start (owner ∷ [])) answered_twice) ≡ planned_replies
unfolding bounds_of bounding_box tag_of number_of_digits digits_at_end ovn_of lies_in supplier_in clamped opening_of
answered_twice_replied = refl

pub answered_twice_said : said_in (run (start (owner ∷ [])) answered_twice) ≡ answered_twice_sayings
unfolding bounds_of bounding_box tag_of number_of_digits digits_at_end ovn_of lies_in supplier_in clamped opening_of job_of_request
answered_twice_said = refl

pub answered_twice_is_free : IsFree (start (owner ∷ [])) answered_twice
unfolding bounds_of bounding_box tag_of number_of_digits digits_at_end ovn_of lies_in supplier_in clamped opening_of
answered_twice_is_free = (tt, (May.asking, (tt, (May.ticket_made, (tt, (May.nothing_found, (tt, (May.landed, (answers_again, tt)))))))))

pub notifying_replied : replies_in (run (start (owner ∷ second ∷ [])) notifying) ≡ notifying_replies
unfolding bounds_of outlines_meet region_holds_first region_holds bounding_box shares any_shares tag_of number_of_digits digits_at_end ovn_of lies_in supplier_in clamped opening_of
notifying_replied = refl

pub notifying_said : said_in (run (start (owner ∷ second ∷ [])) notifying) ≡ notifying_sayings
unfolding bounds_of outlines_meet region_holds_first region_holds bounding_box shares any_shares tag_of number_of_digits digits_at_end ovn_of lies_in supplier_in clamped opening_of job_of_request
notifying_said = refl

pub notifying_is_free : IsFree (start (owner ∷ second ∷ [])) notifying
unfolding bounds_of outlines_meet region_holds_first region_holds bounding_box shares any_shares tag_of number_of_digits digits_at_end ovn_of lies_in supplier_in clamped opening_of
notifying_is_free = (tt, (Second.asking, (tt, (May.asking, (tt, (May.ticket_made, (tt, (May.nothing_found, (tt, (Contested.landed, (Others.tells, (notes, (Others.notifying, (rests, tt))))))))))))))
