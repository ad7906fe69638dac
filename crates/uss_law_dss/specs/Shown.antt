-- Which references a reply shows.
use Rattle.std.specs.Prelude.{List, [], ◌∷◌}
use Rattle.uss_intent.specs.declared.records.Reference.{Reference}
use Rattle.uss_intent.specs.declared.calls.DssReply.{DssReply}
use Rattle.uss_intent.specs.declared.calls.DssReply.TheVariants.{Found, Got, Landed, Removed, Refused}
use Rattle.uss_intent.specs.declared.calls.DssRefusal.{DssRefusal}
use Rattle.uss_intent.specs.declared.calls.DssRefusal.TheVariants.{MissingKey}

-- a refusal shows references where it lists what the key lacks
abbrev pub listed_in : DssRefusal → List Reference
listed_in (MissingKey references) = references
listed_in _ = []

abbrev pub shown_in : DssReply → List Reference
shown_in (Found references) = references
shown_in (Got reference) = reference ∷ []
shown_in (Landed reference notified) = reference ∷ []
shown_in (Removed reference notified) = reference ∷ []
shown_in (Refused refusal) = listed_in refusal
shown_in _ = []
