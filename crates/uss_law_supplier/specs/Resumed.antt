-- What a resumed job does, by its table. This project's own.
use Rattle.std.specs.Prelude.{ℕ, ◌≡◌, false, List, [], ◌∷◌, Option, Some, None}
use Rattle.uss_event.specs.declared.entries.Entry.TheVariants as Enters
use Rattle.uss_event.specs.declared.calls.Outgoing.{Outgoing}
use Rattle.uss_event.specs.declared.entries.Opening.{Opening}
use Rattle.uss_law_book.specs.Contents.{opening_of, is_closed}
use Rattle.uss_law_supplier.specs.declared.duties.Awaited.{Awaited}
use Rattle.uss_law_supplier.specs.declared.duties.Awaited.TheVariants as Waits
use Rattle.uss_law_supplier.specs.declared.duties.Duty.{Duty}
use Rattle.uss_law_supplier.specs.declared.duties.Duty.TheVariants as Duties
use Rattle.uss_law_supplier.specs.Turns.{Standing, Turn}
use Rattle.uss_law_supplier.specs.Table.{resume}
use Rattle.uss_law_supplier.specs.Calls.{kind_of}
use Rattle.uss_law_supplier.specs.Jobs.{view_of, resuming}
use Rattle.uss_law_supplier.specs.Laws.{IsSound}

-- it enters nothing, and makes one call of this kind
pub record MakesCall (kind : Awaited) (t : Turn) : Type 0 where
  pub entry : t.entry ≡ None
  pub call : Outgoing
  pub sends : t.sends ≡ call ∷ []
  pub is_of_kind : kind_of call ≡ Some kind

-- it enters an attempt of the job's first alternative, with an empty key, and makes one Put
pub record MakesAttempt (job : ℕ) (t : Turn) : Type 0 where
  pub tag : ℕ
  pub previous : Option (List ℕ)
  pub entry : t.entry ≡ Some (Enters.Pending (record { job = job; tag = tag; alternative = 0; previous = previous; key = [] }))
  pub call : Outgoing
  pub sends : t.sends ≡ call ∷ []
  pub is_of_kind : kind_of call ≡ Some Waits.Put

abbrev pub DoesDuty : ℕ → Duty → Turn → Type 0
DoesDuty job (Duties.Call kind) t = MakesCall kind t
DoesDuty job Duties.Attempt t = MakesAttempt job t
DoesDuty job _ t = ⊥

-- an open job of a sound supplier does what the table says of its view
abbrev pub JobsResumeByTheTable : Type 0
JobsResumeByTheTable =
    (s : Standing) (o : Opening) → IsSound s.owner s.book s.values → opening_of o.job s.book ≡ Some o → is_closed o.job s.book ≡ false
    → DoesDuty o.job (resume (view_of s o)) (resuming s o)
