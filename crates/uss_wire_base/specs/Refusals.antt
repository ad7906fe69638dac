-- The numbers under which refusals are printed, and their members. This project's own.
use Rattle.std.specs.Prelude.{ℕ, Option, Some, None}
use Rattle.uss_wire_base.specs.declared.refusal.Member.{Member}
use Rattle.uss_wire_base.specs.declared.refusal.Member.TheVariants.{Whole}
use Rattle.uss_wire_base.specs.declared.refusal.WireRefusal.{WireRefusal}
use Rattle.uss_wire_base.specs.declared.refusal.WireRefusal.TheVariants.{BadJson, Missing, WrongKind, NotThisProfile, BadTime, TooMany, TooFewVertices, TooManyVertices, OutOfRange, LowAboveHigh, StartAfterEnd, AltitudeRange, TimeRange, TooManyVolumes, TooManyVerticesTogether, OffNominalNotAllowed, NoVolume, PriorityRange, BadName, BadBase, BadOvn, Memory}

abbrev pub number_of : WireRefusal → Option ℕ
number_of BadJson = Some 401
number_of (Missing x) = Some 402
number_of (WrongKind x) = Some 403
number_of (NotThisProfile x) = Some 404
number_of (BadTime x) = Some 405
number_of (TooMany x) = Some 406
number_of TooFewVertices = Some 101
number_of TooManyVertices = Some 102
number_of (OutOfRange x) = Some 103
number_of LowAboveHigh = Some 111
number_of StartAfterEnd = Some 112
number_of AltitudeRange = Some 113
number_of TimeRange = Some 114
number_of TooManyVolumes = Some 121
number_of TooManyVerticesTogether = Some 122
number_of OffNominalNotAllowed = Some 123
number_of NoVolume = Some 124
number_of PriorityRange = Some 125
number_of BadName = Some 128
number_of BadBase = Some 129
number_of BadOvn = Some 130
number_of Memory = None

-- the member, and none where it is the whole message, which has no name
abbrev pub named : Member → Option Member
named Whole = None
named member = Some member

abbrev pub member_of : WireRefusal → Option Member
member_of BadJson = None
member_of (Missing x) = named x
member_of (WrongKind x) = named x
member_of (NotThisProfile x) = named x
member_of (BadTime x) = named x
member_of (TooMany x) = named x
member_of TooFewVertices = None
member_of TooManyVertices = None
member_of (OutOfRange x) = None
member_of LowAboveHigh = None
member_of StartAfterEnd = None
member_of AltitudeRange = None
member_of TimeRange = None
member_of TooManyVolumes = None
member_of TooManyVerticesTogether = None
member_of OffNominalNotAllowed = None
member_of NoVolume = None
member_of PriorityRange = None
member_of BadName = None
member_of BadBase = None
member_of BadOvn = None
member_of Memory = None
