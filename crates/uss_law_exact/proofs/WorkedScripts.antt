-- The scripts of the worked runs are typed, and their suppliers are suppliers.
use Rattle.std.specs.Fmt.{digits}
use Rattle.std.proofs.Common.{◌≡◌, [], ◌∷◌, refl, subst, arith}
use Rattle.std.proofs.lemmas.List.Elements.{All-from_recursion, All-weaker}
use Rattle.uss_shape.specs.Shape.{IsOutline}
use Rattle.uss_shape.specs.Plane.{InPlane}
use Rattle.uss_vol4.specs.Volume.{IsVolume}
use Rattle.uss_law_book.specs.Coding.{IsProposal, IsPutWish}
use Rattle.uss_law_duty.specs.Worked.{owner, ask, proposal, end_ask, inside, above_it}
use Rattle.uss_law_duty.proofs.Worked.{opens}
use Rattle.uss_law_supplier.specs.Typed.{IsRequest, IsPosition, IsAlternative, IsWished}
use Rattle.uss_law_world.specs.Free.{AreSuppliers}
use Rattle.uss_law_world.specs.Suppliers.{numbered_owners}
use Rattle.uss_law_world.specs.Worked.{found_again, cancelled_early, second, both_put}
use Rattle.uss_law_world.specs.WorkedEnds.{watched, ended}
use Rattle.uss_law_world.specs.WorkedStops.{failed, stopped_twice, answered_twice}
use Rattle.uss_law_world.specs.WorkedSweeps.{notifying}
use Rattle.uss_law_world.specs.Contested.{given_up}
use Rattle.uss_law_world.proofs.Product.{numbered_are_suppliers}
use Rattle.uss_law_exact.specs.Exact.{script_of, AreTyped}
use Rattle.uss_law_duty.specs.Flown.{flown_ask, around_it}
use Rattle.uss_law_supplier.specs.Flown.{strays}
use Rattle.uss_law_exact.specs.WorkedFlight.{ended_ask, whole_life}
use Rattle.uss_law_exact.specs.Worked.{later, later_proposal, later_ask, both_asked}

-- the suppliers

one_numbered : numbered_owners 1 (0 ∷ []) ≡ owner ∷ []
unfolding digits
one_numbered = refl

two_numbered : numbered_owners 2 (0 ∷ []) ≡ owner ∷ second ∷ []
unfolding digits
two_numbered = refl

pub one_alone : AreSuppliers (0 ∷ []) (owner ∷ [])
one_alone = subst (AreSuppliers (0 ∷ [])) one_numbered (numbered_are_suppliers (0 ∷ []) 1 (omega arith) refl)

pub two_together : AreSuppliers (0 ∷ []) (owner ∷ second ∷ [])
two_together = subst (AreSuppliers (0 ∷ [])) two_numbered (numbered_are_suppliers (0 ∷ []) 2 (omega arith) refl)

-- what is asked of them

asked : IsRequest ask
asked =
    let c = opens.coding.2 in
    let w : IsPutWish 0 4 (proposal ∷ []) = c.wish in
    record {
      flight = c.flight;
      number = c.number;
      wish = record {
        priority_fits = w.priority_fits;
        rounds_fit = w.rounds_fit;
        alternatives = All-weaker IsProposal IsAlternative (λ p i. record { volumes = i.volumes; off_nominal = i.off_nominal }) (proposal ∷ []) w.valid_proposals;
      };
    }

later_outline : IsOutline later.outline
later_outline =
    record {
      enough = omega arith;
      few = omega arith;
      in_plane = All-from_recursion InPlane later.outline (
        (omega arith, omega arith, omega arith, omega arith),
        (
          (omega arith, omega arith, omega arith, omega arith),
          ((omega arith, omega arith, omega arith, omega arith), ((omega arith, omega arith, omega arith, omega arith), tt)),
        ),
      );
    }

later_is_volume : IsVolume later
later_is_volume =
    record {
      outline = later_outline;
      altitudes = omega arith;
      times = omega arith;
      low = (omega arith, omega arith);
      high = (omega arith, omega arith);
      start = (omega arith, omega arith);
      end = (omega arith, omega arith);
    }

later_asked : IsRequest later_ask
later_asked =
    record {
      flight = omega arith;
      number = omega arith;
      wish = record {
        priority_fits = omega arith;
        rounds_fit = omega arith;
        alternatives = All-from_recursion IsAlternative (later_proposal ∷ []) (
          record { volumes = All-from_recursion IsVolume (later ∷ []) (later_is_volume, tt); off_nominal = All-from_recursion IsVolume [] tt },
          tt,
        );
      };
    }

end_asked : IsRequest end_ask
end_asked = record { flight = omega arith; number = omega arith; wish = tt }

inside_is_position : IsPosition inside
inside_is_position = record { flight = omega arith; number = omega arith; off_nominal = All-from_recursion IsVolume [] tt }

above_is_position : IsPosition above_it
above_is_position = record { flight = omega arith; number = omega arith; off_nominal = All-from_recursion IsVolume [] tt }

-- each script

pub found_again_is_typed : AreTyped (script_of found_again)
found_again_is_typed = (tt, (asked, (tt, (tt, (tt, (tt, (asked, (tt, (tt, (tt, (asked, (tt, (tt, (tt, tt))))))))))))))

pub cancelled_early_is_typed : AreTyped (script_of cancelled_early)
cancelled_early_is_typed = (tt, (asked, (tt, (tt, (tt, (tt, (tt, (tt, (tt, (tt, (tt, tt)))))))))))

pub watched_is_typed : AreTyped (script_of watched)
watched_is_typed = (tt, (asked, (tt, (tt, (tt, (tt, (tt, (tt, (tt, (inside_is_position, (above_is_position, (tt, (inside_is_position, tt)))))))))))))

pub ended_is_typed : AreTyped (script_of ended)
ended_is_typed = (tt, (asked, (tt, (tt, (tt, (tt, (tt, (tt, (end_asked, (tt, (tt, (tt, (tt, (tt, (tt, tt)))))))))))))))

pub failed_is_typed : AreTyped (script_of failed)
failed_is_typed = (tt, (asked, (tt, (tt, (tt, (tt, (tt, (tt, (asked, (tt, (tt, (tt, (tt, tt)))))))))))))

pub stopped_twice_is_typed : AreTyped (script_of stopped_twice)
stopped_twice_is_typed = (tt, (asked, (tt, (tt, (tt, (tt, (tt, (tt, (asked, (tt, (tt, (tt, (tt, tt)))))))))))))

pub answered_twice_is_typed : AreTyped (script_of answered_twice)
answered_twice_is_typed = (tt, (asked, (tt, (tt, (tt, (tt, (tt, (tt, (asked, tt)))))))))

pub both_put_is_typed : AreTyped (script_of both_put)
both_put_is_typed = (tt, (asked, (asked, (tt, (tt, (tt, (tt, (tt, (tt, (tt, (tt, (tt, (tt, (tt, tt))))))))))))))

pub given_up_is_typed : AreTyped (script_of given_up)
given_up_is_typed = (tt, (asked, (asked, (tt, (tt, (tt, (tt, (tt, (tt, (tt, (tt, (tt, (tt, (tt, (tt, (tt, (tt, (tt, (tt, (tt, (tt, tt)))))))))))))))))))))

pub notifying_is_typed : AreTyped (script_of notifying)
notifying_is_typed = (tt, (asked, (tt, (asked, (tt, (tt, (tt, (tt, (tt, (tt, (tt, (tt, (tt, (tt, tt))))))))))))))

pub both_asked_is_typed : AreTyped both_asked
both_asked_is_typed = (tt, (asked, (later_asked, (tt, (tt, tt)))))

-- what is asked in the life of a flight

flown_asked : IsRequest flown_ask
flown_asked =
    let w : IsWished 0 4 (proposal ∷ []) = asked.wish in
    record { flight = omega arith; number = omega arith; wish = record { priority_fits = w.priority_fits; rounds_fit = w.rounds_fit; alternatives = w.alternatives } }

around_outline : IsOutline around_it.outline
around_outline =
    record {
      enough = omega arith;
      few = omega arith;
      in_plane = All-from_recursion InPlane around_it.outline (
        (omega arith, omega arith, omega arith, omega arith),
        (
          (omega arith, omega arith, omega arith, omega arith),
          ((omega arith, omega arith, omega arith, omega arith), ((omega arith, omega arith, omega arith, omega arith), tt)),
        ),
      );
    }

around_is_volume : IsVolume around_it
around_is_volume =
    record {
      outline = around_outline;
      altitudes = omega arith;
      times = omega arith;
      low = (omega arith, omega arith);
      high = (omega arith, omega arith);
      start = (omega arith, omega arith);
      end = (omega arith, omega arith);
    }

strays_is_position : IsPosition (strays 3)
strays_is_position = record { flight = omega arith; number = omega arith; off_nominal = All-from_recursion IsVolume (around_it ∷ []) (around_is_volume, tt) }

ended_asked : IsRequest ended_ask
ended_asked = record { flight = omega arith; number = omega arith; wish = tt }

pub whole_life_is_typed : AreTyped whole_life
whole_life_is_typed = (tt, (asked, (tt, (flown_asked, (tt, (tt, (strays_is_position, (tt, (tt, (ended_asked, (tt, (tt, (tt, tt)))))))))))))
