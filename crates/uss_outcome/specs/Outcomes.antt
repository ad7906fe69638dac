-- How what comes of a request is printed: words with one space between them. This project's own.
use Rattle.std.specs.Prelude.{ℕ, List, [], ◌∷◌, ◌++◌, length, map, codes, decimal}
use Rattle.std.specs.Fmt.{signed_decimal}
use Rattle.uss_intent.specs.Identifiers.{identifier_text}
use Rattle.uss_intent.specs.States.{state_text}
use Rattle.uss_event.specs.declared.rules.Verdict.{Verdict}
use Rattle.uss_event.specs.declared.asks.Conform.{Conform}
use Rattle.uss_event.specs.declared.asks.AskField.{AskField}
use Rattle.uss_event.specs.declared.asks.AskField.TheVariants as Field
use Rattle.uss_event.specs.declared.asks.AskRefusal.{AskRefusal}
use Rattle.uss_event.specs.declared.asks.AskRefusal.TheVariants as Refusal
use Rattle.uss_event.specs.declared.events.Answer.{Answer}
use Rattle.uss_outcome.specs.declared.outcome.Outcome.{Outcome}

-- the words, with one space between two
abbrev pub sentence : List (List ℕ) → List ℕ
sentence [] = []
sentence (word ∷ []) = word
sentence (word ∷ next ∷ words) = word ++ (codes " " ++ sentence (next ∷ words))

-- the word of an item, after a space
abbrev pub behind : {A : Type 0} → (A → List ℕ) → A → List ℕ
behind word item = codes " " ++ word item

abbrev pub verdict_word : Verdict → List ℕ
verdict_word Verdict.Clear = codes "Clear"
verdict_word Verdict.EqualForbidden = codes "EqualForbidden"
verdict_word Verdict.HigherStands = codes "HigherStands"

abbrev pub conform_word : Conform → List ℕ
conform_word Conform.Conforming = codes "Conforming"
conform_word Conform.Nonconforming = codes "Nonconforming"
conform_word Conform.Contingent = codes "Contingent"

abbrev pub field_word : AskField → List ℕ
field_word Field.Kind = codes "Kind"
field_word Field.To = codes "To"
field_word Field.Priority = codes "Priority"
field_word Field.Rounds = codes "Rounds"
field_word Field.Proposals = codes "Proposals"

-- how many items there are, and each item
abbrev pub counted : {A : Type 0} → (A → List ℕ) → List A → List (List ℕ)
counted word items = decimal (length items) ∷ map word items

-- what is recorded of a flight: `tag G alternative I ovn O version V`
abbrev pub recorded_words : (tag alternative : ℕ) → (ovn : List ℕ) → (version : ℕ) → List (List ℕ)
recorded_words tag alternative ovn version =
    codes "tag" ∷ decimal tag ∷ codes "alternative" ∷ decimal alternative ∷ codes "ovn" ∷ ovn ∷ codes "version" ∷ decimal version ∷ []

abbrev pub answer_words : Answer → List (List ℕ)
answer_words (Answer.Planned flight tag alternative ovn version) = codes "planned" ∷ recorded_words tag alternative ovn version
answer_words (Answer.Changed flight tag alternative ovn version) = codes "changed" ∷ recorded_words tag alternative ovn version
answer_words (Answer.Ended flight) = codes "ended" ∷ []
answer_words (Answer.Conflict flight manager rule) = codes "conflict" ∷ identifier_text flight ∷ manager ∷ verdict_word rule ∷ []
answer_words (Answer.Stale missing) = codes "stale" ∷ counted identifier_text missing
answer_words Answer.Cancelled = codes "cancelled" ∷ []
answer_words (Answer.Steady verdict) = codes "steady" ∷ conform_word verdict ∷ []
answer_words (Answer.Crowded count) = codes "crowded" ∷ decimal count ∷ []
answer_words (Answer.DssRefused number) = codes "dss-refused" ∷ decimal number ∷ []
answer_words (Answer.PeerRefused peer status) = codes "peer-refused" ∷ peer ∷ decimal status ∷ []
answer_words (Answer.Unsettled tag) = codes "unsettled" ∷ decimal tag ∷ []

-- the number of a refusal, and its values
abbrev pub refusal_words : AskRefusal → List (List ℕ)
refusal_words (Refusal.BadPlan reason) = codes "301" ∷ decimal reason ∷ []
refusal_words (Refusal.WrongTransition from to) = codes "302" ∷ state_text from ∷ state_text to ∷ []
refusal_words (Refusal.TooFar limit) = codes "303" ∷ signed_decimal limit ∷ []
refusal_words Refusal.Past = codes "304" ∷ []
refusal_words (Refusal.Busy number) = codes "305" ∷ decimal number ∷ []
refusal_words (Refusal.OldNumber last) = codes "306" ∷ decimal last ∷ []
refusal_words (Refusal.DifferentRepeat field) = codes "307" ∷ field_word field ∷ []
refusal_words Refusal.NoSuchFlight = codes "308" ∷ []
refusal_words Refusal.Closed = codes "309" ∷ []
refusal_words (Refusal.BookFull used need) = codes "310" ∷ decimal used ∷ decimal need ∷ []
refusal_words (Refusal.NotAsked last) = codes "312" ∷ decimal last ∷ []
refusal_words (Refusal.OldPosition last) = codes "313" ∷ signed_decimal last ∷ []

-- the words of an outcome; out of memory has none
abbrev pub outcome_words : Outcome → List (List ℕ)
outcome_words (Outcome.Answer answer) = answer_words answer
outcome_words (Outcome.Refused refusal) = codes "refused" ∷ refusal_words refusal
outcome_words (Outcome.DssFault count tags) = codes "dss-fault" ∷ decimal count ∷ codes "tags" ∷ counted decimal tags
outcome_words (Outcome.PeerFault peer count) = codes "peer-fault" ∷ peer ∷ decimal count ∷ []
outcome_words Outcome.JournalFault = codes "journal-fault" ∷ []
outcome_words Outcome.Memory = []

abbrev pub outcome_text : Outcome → List ℕ
outcome_text outcome = sentence (outcome_words outcome)
